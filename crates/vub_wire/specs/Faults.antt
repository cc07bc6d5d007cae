-- Why no message, or no reply, stands at the front of the bytes: the first fault that applies.
use Rattle.std.specs.Prelude.{ℕ, ◌+◌, ◌*◌, Bool, true, ◌==◌, nat_lt, not, if◌then◌else◌, List, length, take, drop, Option, Some, None}
use Rattle.vub_base.specs.Fields.{field}
use Rattle.vub_wire.specs.declared.numbers.TheConstants.{VERSION, HEADER_SIZE, MAX_PAYLOAD_SIZE, TABLE_HEADER_SIZE, REGION_SIZE}
use Rattle.vub_wire.specs.declared.messages.Header.{Header}
use Rattle.vub_wire.specs.declared.requests.Request.{Request}
use Rattle.vub_wire.specs.declared.requests.Request.TheVariants as requests
use Rattle.vub_wire.specs.declared.fault.WireFault.{WireFault}
use Rattle.vub_wire.specs.declared.fault.WireFault.TheVariants.{NeedMore, BadVersion, ReplyBit, TooLarge, BadSize}
use Rattle.vub_wire.specs.Flags.{version, marks_reply}
use Rattle.vub_wire.specs.Requests.{request_at, allows, allows_reply}

-- the header that the first bytes spell
unfoldable pub header_at : List ℕ → Header
header_at bytes = record { request = field 4 0 bytes; flags = field 4 4 bytes; size = field 4 8 bytes }

-- a payload carries what it counts: a memory table so many regions
abbrev pub carries_all : Option Request → List ℕ → Bool
carries_all (Some requests.SetMemTable) payload = not (nat_lt (length payload) (TABLE_HEADER_SIZE + REGION_SIZE * field 4 0 payload))
carries_all r payload = true

-- of a message with this header and these bytes behind it
unfoldable pub fault_behind : Header → List ℕ → Option WireFault
fault_behind h bytes =
    if not (version h.flags == VERSION) then Some BadVersion else
    if marks_reply h.flags then Some ReplyBit else
    if nat_lt MAX_PAYLOAD_SIZE h.size then Some TooLarge else
    if not (allows (request_at h.request) h.size) then Some (BadSize h.request h.size) else
    if nat_lt (length bytes) h.size then Some NeedMore else
    if not (carries_all (request_at h.request) (take h.size bytes)) then Some (BadSize h.request h.size) else None

-- of a message: none where one stands at the front
unfoldable pub message_fault : List ℕ → Option WireFault
message_fault bytes =
    if nat_lt (length bytes) HEADER_SIZE then Some NeedMore else
    fault_behind (header_at bytes) (drop HEADER_SIZE bytes)

-- of a reply with this header and these bytes behind it
unfoldable pub reply_fault_behind : Header → List ℕ → Option WireFault
reply_fault_behind h bytes =
    if not (version h.flags == VERSION) then Some BadVersion else
    if not (marks_reply h.flags) then Some ReplyBit else
    if nat_lt MAX_PAYLOAD_SIZE h.size then Some TooLarge else
    if not (allows_reply h.request h.size) then Some (BadSize h.request h.size) else
    if nat_lt (length bytes) h.size then Some NeedMore else None

-- of a reply: none where one stands at the front
unfoldable pub reply_fault : List ℕ → Option WireFault
reply_fault bytes =
    if nat_lt (length bytes) HEADER_SIZE then Some NeedMore else
    reply_fault_behind (header_at bytes) (drop HEADER_SIZE bytes)
