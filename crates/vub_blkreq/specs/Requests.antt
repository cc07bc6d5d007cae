-- What the bytes of a request mean: a table of tests, of which the first that applies decides (VIRTIO 1.2, 5.2.6).
use Rattle.std.specs.Prelude.{ℕ, ◌+◌, ◌-◌, ◌*◌, ◌/◌, ◌%◌, Bool, true, false, not, nat_lt, nat_le, ◌==◌, ◌||◌, ◌&&◌, if◌then◌else◌, List, [], ◌∷◌, map, Option, Some, None, Result, Ok, Err}
use Rattle.std.specs.List.{list_any, range_with_len}
use Rattle.arrayvec.specs.ArrayVec.{ArrayVec}
use Rattle.vub_base.specs.Fields.{field}
use Rattle.vub_base.specs.declared.request.Part.{Part}
use Rattle.vub_base.specs.declared.standard.TheConstants.{SECTOR_SIZE, VIRTIO_BLK_ID_BYTES, VIRTIO_BLK_T_IN, VIRTIO_BLK_T_OUT, VIRTIO_BLK_T_FLUSH, VIRTIO_BLK_T_GET_ID, VIRTIO_BLK_T_DISCARD, VIRTIO_BLK_T_WRITE_ZEROES, VIRTIO_BLK_WRITE_ZEROES_FLAG_UNMAP, VIRTIO_BLK_S_IOERR, VIRTIO_BLK_S_UNSUPP}
use Rattle.vub_blkreq.specs.declared.config.TheConstants.{MAX_PARTS, MAX_PART_SECTORS}
use Rattle.vub_blkreq.specs.declared.request.TheConstants.{HEADER_SIZE, PART_SIZE, STATUS_SIZE, NO_FLAGS}
use Rattle.vub_blkreq.specs.declared.request.DeviceMode.{DeviceMode}
use Rattle.vub_blkreq.specs.declared.request.Request.{Request}
use Rattle.vub_blkreq.specs.declared.request.Request.TheVariants.{Read, Write, Flush, Id, Discard, Zero, Fixed}
use Rattle.vub_blkreq.specs.declared.request_type.RequestType.{RequestType}
use Rattle.vub_blkreq.specs.declared.request_type.RequestType.TheVariants as types

-- ---- the statuses

-- the request failed
abbrev pub io_error : Request
io_error = Fixed VIRTIO_BLK_S_IOERR

-- the device doesn't support it
abbrev pub unsupported : Request
unsupported = Fixed VIRTIO_BLK_S_UNSUPP

-- ---- what a device is given

-- the first 80 of the bytes that it may read, and how many it may read and write; the last that it may write is the status
pub record Given : Type 0 where
  pub front : List ℕ
  pub readable : ℕ
  pub writable : ℕ

-- the header: type, four reserved bytes, sector; behind it the data
abbrev pub type_of_number : ℕ → Option RequestType
type_of_number n =
    if n == VIRTIO_BLK_T_IN then Some types.In
    else if n == VIRTIO_BLK_T_OUT then Some types.Out
    else if n == VIRTIO_BLK_T_FLUSH then Some types.Flush
    else if n == VIRTIO_BLK_T_GET_ID then Some types.GetId
    else if n == VIRTIO_BLK_T_DISCARD then Some types.Discard
    else if n == VIRTIO_BLK_T_WRITE_ZEROES then Some types.WriteZeroes
    else None

abbrev pub type_of : Given → Option RequestType
type_of g = type_of_number (field 4 0 g.front)

abbrev pub sector_of : Given → ℕ
sector_of g = field 8 8 g.front

-- the bytes of data behind the header
abbrev pub readable_data : Given → ℕ
readable_data g = g.readable - HEADER_SIZE

-- the bytes of data before the status
abbrev pub writable_data : Given → ℕ
writable_data g = g.writable - STATUS_SIZE

-- a part: sector, count, flags
abbrev pub part_at : List ℕ → ℕ → Part
part_at bytes at = record { sector = field 8 at bytes; count = field 4 (at + 8) bytes; flags = field 4 (at + 12) bytes }

-- so many parts behind the header
abbrev pub parts_of : List ℕ → ℕ → List Part
parts_of bytes count = map (λ i. part_at bytes (HEADER_SIZE + PART_SIZE * i)) (range_with_len 0 count)

abbrev pub parts_given : Given → List Part
parts_given g = parts_of g.front (readable_data g / PART_SIZE)

-- ---- the tests

-- the request belongs to a feature that wasn't negotiated
abbrev pub lacks_feature : DeviceMode → RequestType → Bool
lacks_feature m types.Flush = not m.flush
lacks_feature m types.Discard = not m.discard
lacks_feature m types.WriteZeroes = not m.write_zeroes
lacks_feature m t = false

-- the request changes what the disk holds
abbrev pub writes_sectors : RequestType → Bool
writes_sectors types.Out = true
writes_sectors types.Discard = true
writes_sectors types.WriteZeroes = true
writes_sectors t = false

-- so many bytes are no whole number of sectors
abbrev pub is_torn : ℕ → Bool
is_torn size = not (size % SECTOR_SIZE == 0)

-- the sectors that are read or written are no whole number
abbrev pub has_torn_sector : Given → RequestType → Bool
has_torn_sector g types.In = is_torn (writable_data g)
has_torn_sector g types.Out = is_torn (readable_data g)
has_torn_sector g t = false

-- the sectors that are read or written end past the capacity
abbrev pub ends_past : DeviceMode → Given → RequestType → Bool
ends_past m g types.In = nat_lt m.capacity (sector_of g + writable_data g / SECTOR_SIZE)
ends_past m g types.Out = nat_lt m.capacity (sector_of g + readable_data g / SECTOR_SIZE)
ends_past m g t = false

-- what is to be written before the status isn't the device's name
abbrev pub has_other_id_size : Given → RequestType → Bool
has_other_id_size g types.GetId = not (writable_data g == VIRTIO_BLK_ID_BYTES)
has_other_id_size g t = false

-- so many bytes are whole parts, one to four
abbrev pub is_parts_size : ℕ → Bool
is_parts_size size = (size % PART_SIZE == 0) && nat_lt 0 size && nat_le size (MAX_PARTS * PART_SIZE)

abbrev pub has_other_parts_size : Given → RequestType → Bool
has_other_parts_size g types.Discard = not (is_parts_size (readable_data g))
has_other_parts_size g types.WriteZeroes = not (is_parts_size (readable_data g))
has_other_parts_size g t = false

-- of the flags of a part the first alone is known, to unmap: a zeroing may ask for it, a discard may not
abbrev pub has_flags_above : ℕ → Part → Bool
has_flags_above known p = nat_lt known p.flags

abbrev pub has_unknown_flags : Given → RequestType → Bool
has_unknown_flags g types.Discard = list_any (has_flags_above NO_FLAGS) (parts_given g)
has_unknown_flags g types.WriteZeroes = list_any (has_flags_above VIRTIO_BLK_WRITE_ZEROES_FLAG_UNMAP) (parts_given g)
has_unknown_flags g t = false

-- a part of too many sectors, or one that ends past the capacity
abbrev pub is_outside : ℕ → Part → Bool
is_outside capacity p = nat_lt MAX_PART_SECTORS p.count || nat_lt capacity (p.sector + p.count)

abbrev pub has_outside_part : DeviceMode → Given → RequestType → Bool
has_outside_part m g types.Discard = list_any (is_outside m.capacity) (parts_given g)
has_outside_part m g types.WriteZeroes = list_any (is_outside m.capacity) (parts_given g)
has_outside_part m g t = false

-- ---- the table

-- a test, and what the request means where it is the first that applies
pub record Row : Type 0 where
  pub applies : Bool
  pub request : Request

abbrev pub row : Bool → Request → Row
row applies request = record { applies = applies; request = request }

abbrev pub first_row : List Row → Request → Request
first_row [] otherwise = otherwise
first_row (r ∷ rows) otherwise = if r.applies then r.request else first_row rows otherwise

abbrev pub refusals : DeviceMode → Given → RequestType → List Row
refusals m g t =
    row (lacks_feature m t) unsupported
    ∷ row (m.read_only && writes_sectors t) io_error
    ∷ row (has_torn_sector g t) io_error
    ∷ row (ends_past m g t) io_error
    ∷ row (has_other_id_size g t) io_error
    ∷ row (has_other_parts_size g t) io_error
    ∷ row (has_unknown_flags g t) unsupported
    ∷ row (has_outside_part m g t) io_error
    ∷ []

abbrev pub carried_out : Given → RequestType → Request
carried_out g types.In = Read (sector_of g) (writable_data g / SECTOR_SIZE)
carried_out g types.Out = Write (sector_of g) (readable_data g / SECTOR_SIZE)
carried_out g types.Flush = Flush
carried_out g types.GetId = Id
carried_out g types.Discard = Discard (record { items = parts_given g })
carried_out g types.WriteZeroes = Zero (record { items = parts_given g })

abbrev pub meaning_of_type : DeviceMode → Given → Option RequestType → Request
meaning_of_type m g None = unsupported
meaning_of_type m g (Some t) = first_row (refusals m g t) (carried_out g t)

abbrev pub meaning : DeviceMode → Given → Request
meaning m g = if nat_lt g.readable HEADER_SIZE then io_error else meaning_of_type m g (type_of g)

-- ---- what private functions answer

-- the request, or else nothing but the status
abbrev pub or_fixed : Result Request ℕ → Request
or_fixed (Ok request) = request
or_fixed (Err status) = Fixed status

-- the parts, where no row refuses the request for them, or else its status
abbrev pub parts_or_status : ℕ → ℕ → List ℕ → ℕ → Result (ArrayVec Part) ℕ
parts_or_status capacity known bytes size =
    if not (is_parts_size size) then Err VIRTIO_BLK_S_IOERR
    else if list_any (has_flags_above known) (parts_of bytes (size / PART_SIZE)) then Err VIRTIO_BLK_S_UNSUPP
    else if list_any (is_outside capacity) (parts_of bytes (size / PART_SIZE)) then Err VIRTIO_BLK_S_IOERR
    else Ok (record { items = parts_of bytes (size / PART_SIZE) })
