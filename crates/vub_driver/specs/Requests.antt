-- A request as bytes and as a chain of descriptors (VIRTIO 1.2, 5.2.6 and 2.7.5).
use Rattle.std.specs.Prelude.{ℕ, ◌+◌, ◌*◌, Bool, true, false, if◌then◌else◌, List, [], ◌∷◌, ◌++◌, length, replicate, flat_map}
use Rattle.byteorder.specs.Endian.{little_bytes}
use Rattle.vub_base.specs.declared.request.Part.{Part}
use Rattle.vub_base.specs.declared.request.Ask.{Ask}
use Rattle.vub_base.specs.declared.request.Ask.TheVariants.{Read, Write, Flush, Id, Discard, Zero}
use Rattle.vub_driver.specs.Layout.{status_place, parts_place, sectors_place}

abbrev pub request_type : Ask → ℕ
request_type (Read s n) = 0
request_type (Write s fills) = 1
request_type Flush = 4
request_type Id = 8
request_type (Discard parts) = 11
request_type (Zero parts) = 13

abbrev pub first_sector : Ask → ℕ
first_sector (Read s n) = s
first_sector (Write s fills) = s
first_sector ask = 0

-- type, four reserved bytes, sector
abbrev pub header_bytes : Ask → List ℕ
header_bytes ask = little_bytes 4 (request_type ask) ++ little_bytes 4 0 ++ little_bytes 8 (first_sector ask)

abbrev pub part_bytes : Part → List ℕ
part_bytes p = little_bytes 8 p.sector ++ little_bytes 4 p.count ++ little_bytes 4 p.flags

-- what the driver hands to the device besides the header: each written sector filled with its byte, or the parts
abbrev pub written_bytes : Ask → List ℕ
written_bytes (Write s fills) = flat_map (λ b. replicate 512 b) fills.items
written_bytes (Discard parts) = flat_map part_bytes parts.items
written_bytes (Zero parts) = flat_map part_bytes parts.items
written_bytes ask = []

-- how many bytes the device hands back besides the status
abbrev pub read_bytes : Ask → ℕ
read_bytes (Read s n) = 512 * n
read_bytes Id = 20
read_bytes ask = 0

abbrev pub has_data : Ask → Bool
has_data Flush = false
has_data ask = true

-- where the data of a request stands, in its buffer
abbrev pub data_place : ℕ → Ask → ℕ
data_place buffer (Discard parts) = parts_place buffer
data_place buffer (Zero parts) = parts_place buffer
data_place buffer ask = sectors_place buffer

-- ---- the chain

-- a part of a buffer; the device may write it, or else read it
pub record Piece : Type 0 where
  pub place : ℕ
  pub len : ℕ
  pub writable : Bool

abbrev pub readable_piece : ℕ → ℕ → Piece
readable_piece place len = record { place = place; len = len; writable = false }

abbrev pub writable_piece : ℕ → ℕ → Piece
writable_piece place len = record { place = place; len = len; writable = true }

-- the data between header and status, if there is any
abbrev pub data_pieces : ℕ → Ask → List Piece
data_pieces buffer Flush = []
data_pieces buffer (Read s n) = writable_piece (sectors_place buffer) (512 * n) ∷ []
data_pieces buffer Id = writable_piece (sectors_place buffer) 20 ∷ []
data_pieces buffer ask = readable_piece (data_place buffer ask) (length (written_bytes ask)) ∷ []

-- header, data, status: a descriptor for each
abbrev pub pieces : ℕ → Ask → List Piece
pieces buffer ask = readable_piece buffer 16 ∷ (data_pieces buffer ask ++ writable_piece (status_place buffer) 1 ∷ [])

abbrev pub descriptors_needed : Ask → ℕ
descriptors_needed ask = length (pieces 0 ask)

-- the flags of a descriptor: 1 where another follows, and 2 where the device may write
abbrev pub write_flag : Bool → ℕ
write_flag writable = if writable then 2 else 0

-- a descriptor as it stands in the table: address, length, flags, next
abbrev pub descriptor_bytes : Piece → ℕ → ℕ → List ℕ
descriptor_bytes p next_flag next = little_bytes 8 p.place ++ little_bytes 4 p.len ++ little_bytes 2 (write_flag p.writable + next_flag) ++ little_bytes 2 next
