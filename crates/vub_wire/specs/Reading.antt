-- What the readers compute, step by step. No public clause speaks of it.
use Rattle.std.specs.Prelude.{ℕ, zero, suc, ◌+◌, ◌*◌, Bool, true, false, ◌==◌, nat_lt, not, if◌then◌else◌, List, [], ◌∷◌, ◌++◌, length, take, drop, Option, Some, None, Result, Ok, Err}
use Rattle.std.proofs.Math.Bool.{beq}
use Rattle.vub_base.specs.Fields.{field}
use Rattle.vub_memtable.specs.declared.region.Region.{Region}
use Rattle.vub_wire.specs.declared.numbers.TheConstants.{VERSION, HEADER_SIZE, MAX_PAYLOAD_SIZE, TABLE_HEADER_SIZE, REGION_SIZE, CONFIG_HEADER_SIZE, LONG_INFLIGHT_SIZE}
use Rattle.vub_wire.specs.declared.messages.Header.{Header}
use Rattle.vub_wire.specs.declared.messages.Config.{Config}
use Rattle.vub_wire.specs.declared.messages.Inflight.{Inflight}
use Rattle.vub_wire.specs.declared.messages.Message.{Message}
use Rattle.vub_wire.specs.declared.messages.Message.TheVariants as messages
use Rattle.vub_wire.specs.declared.messages.Reply.{Reply}
use Rattle.vub_wire.specs.declared.messages.ReplyBody.{ReplyBody}
use Rattle.vub_wire.specs.declared.messages.ReplyBody.TheVariants as bodies
use Rattle.vub_wire.specs.declared.replies.Kind.{Kind}
use Rattle.vub_wire.specs.declared.replies.Kind.TheVariants as kinds
use Rattle.vub_wire.specs.declared.requests.Request.{Request}
use Rattle.vub_wire.specs.declared.requests.Request.TheVariants as requests
use Rattle.vub_wire.specs.declared.fault.WireFault.{WireFault}
use Rattle.vub_wire.specs.declared.fault.WireFault.TheVariants.{NeedMore, BadVersion, ReplyBit, TooLarge, BadSize}
use Rattle.vub_wire.specs.Flags.{version, marks_reply}
use Rattle.vub_wire.specs.Requests.{request_at, allows, kind_at, allows_reply}
use Rattle.vub_wire.specs.Faults.{header_at, carries_all}

-- ---- parts of payloads

-- the region from a place on
unfoldable pub region_at : ℕ → List ℕ → Region
region_at at p = record { guest = field 8 at p; size = field 8 (at + 8) p; user = field 8 (at + 16) p; offset = field 8 (at + 24) p }

-- the first so many regions of a table
abbrev pub regions_at : ℕ → List ℕ → List Region
regions_at zero p = []
regions_at (suc k) p = regions_at k p ++ region_at (TABLE_HEADER_SIZE + REGION_SIZE * k) p ∷ []

unfoldable pub config_at : List ℕ → Config
config_at p = record { offset = field 4 0 p; size = field 4 4 p; flags = field 4 8 p; bytes = record { items = drop CONFIG_HEADER_SIZE p } }

unfoldable pub inflight_at : List ℕ → Inflight
inflight_at p = record { size = field 8 0 p; offset = field 8 8 p; queues = field 2 16 p; queue_size = field 2 18 p; long = length p == LONG_INFLIGHT_SIZE }

-- ---- payloads

-- the message of a request with a payload of a size that it has
abbrev pub message_of : Request → List ℕ → Message
message_of requests.GetFeatures p = messages.GetFeatures
message_of requests.SetFeatures p = messages.SetFeatures (field 8 0 p)
message_of requests.SetOwner p = messages.SetOwner
message_of requests.SetMemTable p = messages.SetMemTable (record { items = regions_at (field 4 0 p) p })
message_of requests.SetNum p = messages.SetNum (field 4 0 p) (field 4 4 p)
message_of requests.SetAddr p = messages.SetAddr (field 4 0 p) (field 4 4 p) (field 8 8 p) (field 8 16 p) (field 8 24 p) (field 8 32 p)
message_of requests.SetBase p = messages.SetBase (field 4 0 p) (field 4 4 p)
message_of requests.GetBase p = messages.GetBase (field 4 0 p) (field 4 4 p)
message_of requests.SetKick p = messages.SetKick (field 8 0 p)
message_of requests.SetCall p = messages.SetCall (field 8 0 p)
message_of requests.SetErr p = messages.SetErr (field 8 0 p)
message_of requests.GetProtocol p = messages.GetProtocol
message_of requests.SetProtocol p = messages.SetProtocol (field 8 0 p)
message_of requests.GetQueueNum p = messages.GetQueueNum
message_of requests.SetEnable p = messages.SetEnable (field 4 0 p) (field 4 4 p)
message_of requests.GetConfig p = messages.GetConfig (config_at p)
message_of requests.SetConfig p = messages.SetConfig (config_at p)
message_of requests.GetInflight p = messages.GetInflight (inflight_at p)
message_of requests.SetInflight p = messages.SetInflight (inflight_at p)

-- ---- messages

-- the message with this number, of a payload of a size that it has
abbrev pub message_in : ℕ → Option Request → List ℕ → Message
message_in n None p = messages.Other n
message_in n (Some r) p = message_of r p

-- a whole payload's message
unfoldable pub message_carried : Header → Option Request → List ℕ → Result Message WireFault
message_carried h r p = if carries_all r p then Ok (message_in h.request r p) else Err (BadSize h.request h.size)

-- the message of a header and of the bytes behind it
unfoldable pub message_behind : Header → Option Request → List ℕ → Result Message WireFault
message_behind h r bytes =
    if not (allows r h.size) then Err (BadSize h.request h.size) else
    if nat_lt (length bytes) h.size then Err NeedMore else
    message_carried h r (take h.size bytes)

-- the header at the front, of a message or, where `reply` is true, of a reply
unfoldable pub checked_header : Bool → List ℕ → Result Header WireFault
checked_header reply bytes =
    if nat_lt (length bytes) HEADER_SIZE then Err NeedMore else
    if not (version (header_at bytes).flags == VERSION) then Err BadVersion else
    if not (beq (marks_reply (header_at bytes).flags) reply) then Err ReplyBit else
    if nat_lt MAX_PAYLOAD_SIZE (header_at bytes).size then Err TooLarge else Ok (header_at bytes)

-- a message with its header and its length
abbrev pub Front : Type 0
Front = Header × Message × ℕ

abbrev pub with_header : Header → Result Message WireFault → Result Front WireFault
with_header h (Ok m) = Ok (h, m, HEADER_SIZE + h.size)
with_header h (Err e) = Err e

abbrev pub behind_header : List ℕ → Result Header WireFault → Result Front WireFault
behind_header bytes (Ok h) = with_header h (message_behind h (request_at h.request) (drop HEADER_SIZE bytes))
behind_header bytes (Err e) = Err e

-- the message at the front
unfoldable pub message_at : List ℕ → Result Front WireFault
message_at bytes = behind_header bytes (checked_header false bytes)

-- ---- replies

abbrev pub config_or_empty : List ℕ → ReplyBody
config_or_empty p = if length p == 0 then bodies.Empty else bodies.Config (config_at p)

-- the body of a whole payload
abbrev pub body_at : Kind → List ℕ → ReplyBody
body_at kinds.Number p = bodies.Number (field 8 0 p)
body_at kinds.State p = bodies.State (field 4 0 p) (field 4 4 p)
body_at kinds.Config p = config_or_empty p
body_at kinds.Inflight p = bodies.Inflight (inflight_at p)

unfoldable pub reply_behind : Header → List ℕ → Result (Reply × ℕ) WireFault
reply_behind h bytes =
    if not (allows_reply h.request h.size) then Err (BadSize h.request h.size) else
    if nat_lt (length bytes) h.size then Err NeedMore else
    Ok (record { request = h.request; body = body_at (kind_at h.request) (take h.size bytes) }, HEADER_SIZE + h.size)

abbrev pub reply_from : List ℕ → Result Header WireFault → Result (Reply × ℕ) WireFault
reply_from bytes (Ok h) = reply_behind h (drop HEADER_SIZE bytes)
reply_from bytes (Err e) = Err e

-- the reply at the front
unfoldable pub reply_at : List ℕ → Result (Reply × ℕ) WireFault
reply_at bytes = reply_from bytes (checked_header true bytes)
