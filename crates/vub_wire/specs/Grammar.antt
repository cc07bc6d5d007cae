-- The bytes of messages ("Message Specification"). Some bytes of a payload are free: they mean nothing
-- and are written as 0.
use Rattle.std.specs.Prelude.{◌≡◌, ◌<◌, ◌≤◌, ⊤, ℕ, ◌+◌, ◌*◌, ◌^◌, Bool, true, false, List, [], ◌++◌, length, None}
use Rattle.std.specs.List.{flat_map, AllByRecursion}
use Rattle.byteorder.specs.Endian.{little_bytes}
use Rattle.vub_memtable.specs.declared.region.Region.{Region}
use Rattle.vub_wire.specs.declared.numbers.TheConstants.{GET_CONFIG, GET_FEATURES, GET_INFLIGHT_FD, GET_PROTOCOL_FEATURES, GET_QUEUE_NUM, GET_VRING_BASE, SET_CONFIG, SET_FEATURES, SET_INFLIGHT_FD, SET_MEM_TABLE, SET_OWNER, SET_PROTOCOL_FEATURES, SET_VRING_ADDR, SET_VRING_BASE, SET_VRING_CALL, SET_VRING_ENABLE, SET_VRING_ERR, SET_VRING_KICK, SET_VRING_NUM}
use Rattle.vub_wire.specs.declared.numbers.TheConstants.{VERSION, MAX_PAYLOAD_SIZE, REGION_SIZE, MAX_REGIONS, MAX_CONFIG_SIZE}
use Rattle.vub_wire.specs.declared.messages.Header.{Header}
use Rattle.vub_wire.specs.declared.messages.Config.{Config}
use Rattle.vub_wire.specs.declared.messages.Inflight.{Inflight}
use Rattle.vub_wire.specs.declared.messages.Message.{Message}
use Rattle.vub_wire.specs.declared.messages.Message.TheVariants as messages
use Rattle.vub_wire.specs.Flags.{version, marks_reply}
use Rattle.vub_wire.specs.Requests.{request_at}

-- ---- numbers

abbrev pub Fits32 : ℕ → Type 0
Fits32 n = n < 2 ^ 32

abbrev pub Fits64 : ℕ → Type 0
Fits64 n = n < 2 ^ 64

-- ---- parts of payloads

abbrev pub pair_bytes : ℕ → ℕ → List ℕ
pair_bytes index num = little_bytes 4 index ++ little_bytes 4 num

unfoldable pub region_bytes : Region → List ℕ
region_bytes r = little_bytes 8 r.guest ++ (little_bytes 8 r.size ++ (little_bytes 8 r.user ++ little_bytes 8 r.offset))

abbrev pub RegionFits : Region → Type 0
RegionFits r = Fits64 r.guest × Fits64 r.size × Fits64 r.user × Fits64 r.offset

-- the count, 4 bytes of padding, the regions, and what stands behind those that are counted
unfoldable pub table_bytes : List Region → List ℕ → List ℕ → List ℕ
table_bytes regions padding tail = little_bytes 4 (length regions) ++ (padding ++ (flat_map region_bytes regions ++ tail))

unfoldable pub address_bytes : ℕ → ℕ → ℕ → ℕ → ℕ → ℕ → List ℕ
address_bytes index flags desc used avail log =
    little_bytes 4 index ++ (little_bytes 4 flags ++ (little_bytes 8 desc ++ (little_bytes 8 used ++ (little_bytes 8 avail ++ little_bytes 8 log))))

unfoldable pub config_bytes : Config → List ℕ
config_bytes c = little_bytes 4 c.offset ++ (little_bytes 4 c.size ++ (little_bytes 4 c.flags ++ c.bytes.items))

abbrev pub ConfigFits : Config → Type 0
ConfigFits c = Fits32 c.offset × Fits32 c.size × Fits32 c.flags × (length c.bytes.items ≤ MAX_CONFIG_SIZE)

unfoldable pub inflight_bytes : Inflight → List ℕ → List ℕ
inflight_bytes x tail = little_bytes 8 x.size ++ (little_bytes 8 x.offset ++ (little_bytes 2 x.queues ++ (little_bytes 2 x.queue_size ++ tail)))

abbrev pub InflightFits : Inflight → Type 0
InflightFits x = Fits64 x.size × Fits64 x.offset × (x.queues < 2 ^ 16) × (x.queue_size < 2 ^ 16)

-- how many free bytes end the payload of an in-flight region
abbrev pub tail_size : Bool → ℕ
tail_size true = 4
tail_size false = 0

-- ---- payloads

-- the payload of a message with these free bytes: padding, and a tail
abbrev pub payload_bytes : Message → List ℕ → List ℕ → List ℕ
payload_bytes messages.GetFeatures padding tail = []
payload_bytes (messages.SetFeatures n) padding tail = little_bytes 8 n
payload_bytes messages.SetOwner padding tail = []
payload_bytes (messages.SetMemTable regions) padding tail = table_bytes regions.items padding tail
payload_bytes (messages.SetNum index num) padding tail = pair_bytes index num
payload_bytes (messages.SetAddr index flags desc used avail log) padding tail = address_bytes index flags desc used avail log
payload_bytes (messages.SetBase index num) padding tail = pair_bytes index num
payload_bytes (messages.GetBase index num) padding tail = pair_bytes index num
payload_bytes (messages.SetKick n) padding tail = little_bytes 8 n
payload_bytes (messages.SetCall n) padding tail = little_bytes 8 n
payload_bytes (messages.SetErr n) padding tail = little_bytes 8 n
payload_bytes messages.GetProtocol padding tail = []
payload_bytes (messages.SetProtocol n) padding tail = little_bytes 8 n
payload_bytes messages.GetQueueNum padding tail = []
payload_bytes (messages.SetEnable index num) padding tail = pair_bytes index num
payload_bytes (messages.GetConfig c) padding tail = config_bytes c
payload_bytes (messages.SetConfig c) padding tail = config_bytes c
payload_bytes (messages.GetInflight x) padding tail = inflight_bytes x tail
payload_bytes (messages.SetInflight x) padding tail = inflight_bytes x tail
payload_bytes (messages.Other n) padding tail = tail

-- which free bytes a message may have: the table's padding and further regions, the tail of a long
-- in-flight payload, the payload of a request that is skipped
abbrev pub AreFree : Message → List ℕ → List ℕ → Type 0
AreFree (messages.SetMemTable regions) padding tail =
    (length padding ≡ 4) × ((more : ℕ) × (length tail ≡ REGION_SIZE * more) × (length regions.items + more ≤ MAX_REGIONS))
AreFree (messages.GetInflight x) padding tail = (padding ≡ []) × (length tail ≡ tail_size x.long)
AreFree (messages.SetInflight x) padding tail = (padding ≡ []) × (length tail ≡ tail_size x.long)
AreFree (messages.Other n) padding tail = padding ≡ []
AreFree m padding tail = (padding ≡ []) × (tail ≡ [])

-- the number of a message's request
abbrev pub number_of : Message → ℕ
number_of messages.GetFeatures = GET_FEATURES
number_of (messages.SetFeatures n) = SET_FEATURES
number_of messages.SetOwner = SET_OWNER
number_of (messages.SetMemTable regions) = SET_MEM_TABLE
number_of (messages.SetNum index num) = SET_VRING_NUM
number_of (messages.SetAddr index flags desc used avail log) = SET_VRING_ADDR
number_of (messages.SetBase index num) = SET_VRING_BASE
number_of (messages.GetBase index num) = GET_VRING_BASE
number_of (messages.SetKick n) = SET_VRING_KICK
number_of (messages.SetCall n) = SET_VRING_CALL
number_of (messages.SetErr n) = SET_VRING_ERR
number_of messages.GetProtocol = GET_PROTOCOL_FEATURES
number_of (messages.SetProtocol n) = SET_PROTOCOL_FEATURES
number_of messages.GetQueueNum = GET_QUEUE_NUM
number_of (messages.SetEnable index num) = SET_VRING_ENABLE
number_of (messages.GetConfig c) = GET_CONFIG
number_of (messages.SetConfig c) = SET_CONFIG
number_of (messages.GetInflight x) = GET_INFLIGHT_FD
number_of (messages.SetInflight x) = SET_INFLIGHT_FD
number_of (messages.Other n) = n

-- each number of a message fits its field, and another request has no number with a variant of its own
abbrev pub Fits : Message → Type 0
Fits messages.GetFeatures = ⊤
Fits (messages.SetFeatures n) = Fits64 n
Fits messages.SetOwner = ⊤
Fits (messages.SetMemTable regions) = AllByRecursion RegionFits regions.items × (length regions.items ≤ MAX_REGIONS)
Fits (messages.SetNum index num) = Fits32 index × Fits32 num
Fits (messages.SetAddr index flags desc used avail log) = Fits32 index × Fits32 flags × Fits64 desc × Fits64 used × Fits64 avail × Fits64 log
Fits (messages.SetBase index num) = Fits32 index × Fits32 num
Fits (messages.GetBase index num) = Fits32 index × Fits32 num
Fits (messages.SetKick n) = Fits64 n
Fits (messages.SetCall n) = Fits64 n
Fits (messages.SetErr n) = Fits64 n
Fits messages.GetProtocol = ⊤
Fits (messages.SetProtocol n) = Fits64 n
Fits messages.GetQueueNum = ⊤
Fits (messages.SetEnable index num) = Fits32 index × Fits32 num
Fits (messages.GetConfig c) = ConfigFits c
Fits (messages.SetConfig c) = ConfigFits c
Fits (messages.GetInflight x) = InflightFits x
Fits (messages.SetInflight x) = InflightFits x
Fits (messages.Other n) = Fits32 n × (request_at n ≡ None)

-- a payload of a message
pub record IsPayload (m : Message) (payload : List ℕ) : Type 0 where
  pub padding : List ℕ
  pub tail : List ℕ
  pub fits : Fits m
  pub free : AreFree m padding tail
  pub is : payload ≡ payload_bytes m padding tail

-- ---- messages

abbrev pub header_bytes : Header → List ℕ
header_bytes h = little_bytes 4 h.request ++ (little_bytes 4 h.flags ++ little_bytes 4 h.size)

-- the bytes are a whole message: its header, and its payload
pub record IsMessage (bytes : List ℕ) (h : Header) (m : Message) : Type 0 where
  pub payload : List ℕ
  pub is : bytes ≡ header_bytes h ++ payload
  pub request : h.request ≡ number_of m
  pub size : h.size ≡ length payload
  pub small : h.size ≤ MAX_PAYLOAD_SIZE
  pub flags : Fits32 h.flags
  pub version_is : version h.flags ≡ VERSION
  pub no_reply : marks_reply h.flags ≡ false
  pub carries : IsPayload m payload
