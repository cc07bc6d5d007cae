-- The requests that have a variant of their own, and the sizes of payloads.
use Rattle.std.specs.Prelude.{⊤, true, ℕ, ◌-◌, ◌/◌, ◌%◌, Bool, ◌&&◌, ◌||◌, ◌==◌, nat_le, if◌then◌else◌, Option, Some, None}
use Rattle.vub_wire.specs.declared.numbers.TheConstants.{GET_CONFIG, GET_FEATURES, GET_INFLIGHT_FD, GET_PROTOCOL_FEATURES, GET_QUEUE_NUM, GET_VRING_BASE, SET_CONFIG, SET_FEATURES, SET_INFLIGHT_FD, SET_MEM_TABLE, SET_OWNER, SET_PROTOCOL_FEATURES, SET_VRING_ADDR, SET_VRING_BASE, SET_VRING_CALL, SET_VRING_ENABLE, SET_VRING_ERR, SET_VRING_KICK, SET_VRING_NUM}
use Rattle.vub_wire.specs.declared.numbers.TheConstants.{NUMBER_SIZE, VRING_ADDR_SIZE, TABLE_HEADER_SIZE, REGION_SIZE, MAX_REGIONS, CONFIG_HEADER_SIZE, MAX_CONFIG_SIZE, INFLIGHT_SIZE, LONG_INFLIGHT_SIZE}
use Rattle.vub_wire.specs.declared.requests.Request.{Request}
use Rattle.vub_wire.specs.declared.requests.Request.TheVariants as requests
use Rattle.vub_wire.specs.declared.replies.Kind.{Kind}
use Rattle.vub_wire.specs.declared.replies.Kind.TheVariants as kinds

-- the request of this number
unfoldable pub request_at : ℕ → Option Request
request_at n =
    if n == GET_FEATURES then Some requests.GetFeatures else
    if n == SET_FEATURES then Some requests.SetFeatures else
    if n == SET_OWNER then Some requests.SetOwner else
    if n == SET_MEM_TABLE then Some requests.SetMemTable else
    if n == SET_VRING_NUM then Some requests.SetNum else
    if n == SET_VRING_ADDR then Some requests.SetAddr else
    if n == SET_VRING_BASE then Some requests.SetBase else
    if n == GET_VRING_BASE then Some requests.GetBase else
    if n == SET_VRING_KICK then Some requests.SetKick else
    if n == SET_VRING_CALL then Some requests.SetCall else
    if n == SET_VRING_ERR then Some requests.SetErr else
    if n == GET_PROTOCOL_FEATURES then Some requests.GetProtocol else
    if n == SET_PROTOCOL_FEATURES then Some requests.SetProtocol else
    if n == GET_QUEUE_NUM then Some requests.GetQueueNum else
    if n == SET_VRING_ENABLE then Some requests.SetEnable else
    if n == GET_CONFIG then Some requests.GetConfig else
    if n == SET_CONFIG then Some requests.SetConfig else
    if n == GET_INFLIGHT_FD then Some requests.GetInflight else
    if n == SET_INFLIGHT_FD then Some requests.SetInflight else None

-- a payload for config space: its header, and up to so many bytes
abbrev pub is_config_size : ℕ → Bool
is_config_size size = nat_le CONFIG_HEADER_SIZE size && nat_le (size - CONFIG_HEADER_SIZE) MAX_CONFIG_SIZE

-- an in-flight payload has a short form and a long one
abbrev pub is_inflight_size : ℕ → Bool
is_inflight_size size = (size == INFLIGHT_SIZE) || (size == LONG_INFLIGHT_SIZE)

-- whether the request has a payload of so many bytes
abbrev pub has_size : Request → ℕ → Bool
has_size requests.GetFeatures size = size == 0
has_size requests.SetOwner size = size == 0
has_size requests.GetProtocol size = size == 0
has_size requests.GetQueueNum size = size == 0
has_size requests.SetMemTable size = nat_le TABLE_HEADER_SIZE size && ((size - TABLE_HEADER_SIZE) % REGION_SIZE == 0) && nat_le ((size - TABLE_HEADER_SIZE) / REGION_SIZE) MAX_REGIONS
has_size requests.SetAddr size = size == VRING_ADDR_SIZE
has_size requests.GetConfig size = is_config_size size
has_size requests.SetConfig size = is_config_size size
has_size requests.GetInflight size = is_inflight_size size
has_size requests.SetInflight size = is_inflight_size size
has_size r size = size == NUMBER_SIZE

-- the sizes that the payload of a request may have; one without a variant of its own may have any
abbrev pub allows : Option Request → ℕ → Bool
allows None size = true
allows (Some r) size = has_size r size

-- ---- replies

-- what a reply to this request carries
abbrev pub kind_at : ℕ → Kind
kind_at request = if request == GET_VRING_BASE then kinds.State else if request == GET_CONFIG then kinds.Config else if request == GET_INFLIGHT_FD then kinds.Inflight else kinds.Number

-- the sizes of its payload; a reply to a request for config space is empty where it was refused
abbrev pub has_reply_size : Kind → ℕ → Bool
has_reply_size kinds.Number size = size == NUMBER_SIZE
has_reply_size kinds.State size = size == NUMBER_SIZE
has_reply_size kinds.Config size = (size == 0) || is_config_size size
has_reply_size kinds.Inflight size = is_inflight_size size

abbrev pub allows_reply : ℕ → ℕ → Bool
allows_reply request size = has_reply_size (kind_at request) size

-- ---- pairs

-- the payload is two numbers of 4 bytes
abbrev pub HasPair : Request → Type 0
HasPair requests.SetNum = ⊤
HasPair requests.SetBase = ⊤
HasPair requests.GetBase = ⊤
HasPair requests.SetEnable = ⊤
HasPair r = ⊥
