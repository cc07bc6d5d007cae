-- What the driver lays out, and what the device makes of it (VIRTIO 1.2, 5.2.6).
use Rattle.std.specs.Prelude.{◌<◌, ◌≤◌, ℕ, ◌+◌, ◌-◌, ◌/◌, ◌^◌, true, not, nat_lt, if◌then◌else◌, List, [], ◌∷◌, ◌++◌, length, take, filter, sum_by, Option, Some, None}
use Rattle.std.specs.List.{AllByRecursion}
use Rattle.vub_base.specs.declared.header.CacheMode.{CacheMode}
use Rattle.vub_base.specs.declared.request.Part.{Part}
use Rattle.vub_base.specs.declared.request.Ask.{Ask}
use Rattle.vub_base.specs.declared.request.Ask.TheVariants as asks
use Rattle.vub_base.specs.declared.standard.TheConstants.{SECTOR_SIZE}
use Rattle.vub_driver.specs.Requests.{Piece, header_bytes, written_bytes, read_bytes}
use Rattle.vub_device.specs.declared.entry.Asked.{Asked}
use Rattle.vub_device.specs.declared.entry.Asked.TheVariants as asked
use Rattle.vub_device.specs.declared.entry.SectorValue.{SectorValue}
use Rattle.vub_device.specs.Requests.{is_read_only, is_through, refusal}
use Rattle.vub_blkreq.specs.declared.config.TheConstants.{MAX_PARTS}
use Rattle.vub_blkreq.specs.declared.request.TheConstants.{FRONT_SIZE, STATUS_SIZE}
use Rattle.vub_blkreq.specs.declared.request.DeviceMode.{DeviceMode}
use Rattle.vub_blkreq.specs.declared.request.Request.{Request}
use Rattle.vub_blkreq.specs.declared.request.Request.TheVariants.{Read, Write, Flush, Id, Discard, Zero, Fixed}
use Rattle.vub_blkreq.specs.Requests.{Given}

-- ---- what the driver lays out

-- the numbers of a part fit their bytes
abbrev pub IsPart : Part → Type 0
IsPart p = (p.sector < 2 ^ 64) × (p.count < 2 ^ 32) × (p.flags < 2 ^ 32)

-- one to four parts
abbrev pub AreParts : List Part → Type 0
AreParts parts = (1 ≤ length parts) × (length parts ≤ MAX_PARTS) × AllByRecursion IsPart parts

-- the numbers of a request fit their bytes, and a discard or a zeroing has parts
abbrev pub IsLaidOut : Ask → Type 0
IsLaidOut (asks.Read s n) = s < 2 ^ 64
IsLaidOut (asks.Write s fills) = s < 2 ^ 64
IsLaidOut (asks.Discard parts) = AreParts parts.items
IsLaidOut (asks.Zero parts) = AreParts parts.items
IsLaidOut ask = Unit {0}

-- what the device may read, and what of it and how much it is given
abbrev pub readable_bytes : Ask → List ℕ
readable_bytes ask = header_bytes ask ++ written_bytes ask

abbrev pub given : Ask → Given
given ask = record { front = take FRONT_SIZE (readable_bytes ask); readable = length (readable_bytes ask); writable = read_bytes ask + STATUS_SIZE }

-- how many bytes of its buffer the device may write, or may read
abbrev pub writable_in : List Piece → ℕ
writable_in chain = sum_by (λ p. p.len) (filter (λ p. p.writable) chain)

abbrev pub readable_in : List Piece → ℕ
readable_in chain = sum_by (λ p. p.len) (filter (λ p. not p.writable) chain)

-- ---- what the device makes of it

-- flushes are negotiated but for a device that writes through, discards and zeroing always
abbrev pub mode_of : ℕ → CacheMode → DeviceMode
mode_of capacity mode = record { capacity = capacity; read_only = is_read_only mode; flush = not (is_through mode); discard = true; write_zeroes = true }

-- a request that isn't refused
abbrev pub carried_out : Asked → Request
carried_out (asked.Read s n) = Read s n
carried_out (asked.Write s bytes) = Write s (length bytes / SECTOR_SIZE)
carried_out asked.Flush = Flush
carried_out asked.Id = Id
carried_out (asked.Discard parts) = Discard parts
carried_out (asked.Zero parts) = Zero parts

abbrev pub unless_refused : Option ℕ → Request → Request
unless_refused None request = request
unless_refused (Some status) request = Fixed status

-- the request, or its refusal
abbrev pub request_to : ℕ → CacheMode → Asked → Request
request_to capacity mode request = unless_refused (refusal capacity mode request) (carried_out request)

-- ---- its sectors

-- the sector that a request reads in place i
abbrev pub read_at : Request → ℕ → Option ℕ
read_at (Read s n) i = if nat_lt i n then Some (s + i) else None
read_at r i = None

-- the sector of the parts in order that stands in place i
abbrev pub part_sector_at : List Part → ℕ → Option ℕ
part_sector_at [] i = None
part_sector_at (p ∷ parts) i = if nat_lt i p.count then Some (p.sector + i) else part_sector_at parts (i - p.count)

-- the sector that a request writes in place i
abbrev pub written_at : Request → ℕ → Option ℕ
written_at (Write s n) i = if nat_lt i n then Some (s + i) else None
written_at (Discard parts) i = part_sector_at parts.items i
written_at (Zero parts) i = part_sector_at parts.items i
written_at r i = None

abbrev pub sector_of : SectorValue → ℕ
sector_of x = x.sector
