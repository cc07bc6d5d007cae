-- What a request means: the sectors that it reads and writes, and its fixed refusal (VIRTIO 1.2, 5.2.6).
use Rattle.std.specs.Prelude.{ℕ, ◌+◌, ◌-◌, ◌*◌, ◌/◌, Bool, true, false, nat_lt, ◌||◌, if◌then◌else◌, List, [], ◌∷◌, ◌++◌, length, slice_range, flat_map, replicate, codes, Option, Some, None}
use Rattle.std.specs.List.{list_any}
use Rattle.vub_base.specs.declared.header.CacheMode.{CacheMode}
use Rattle.vub_base.specs.declared.header.CacheMode.TheVariants.{Through, ReadOnly}
use Rattle.vub_base.specs.declared.request.Part.{Part}
use Rattle.vub_base.specs.declared.request.Ask.{Ask}
use Rattle.vub_base.specs.declared.request.Ask.TheVariants as asks
use Rattle.vub_device.specs.declared.entry.Asked.{Asked}
use Rattle.vub_device.specs.declared.entry.Asked.TheVariants.{Read, Write, Flush, Id, Discard, Zero}
use Rattle.vub_device.specs.declared.entry.SectorValue.{SectorValue}

-- a sector of zeros
unfoldable pub zeros : List ℕ
zeros = replicate 512 0

-- what an id request reads
unfoldable pub device_name : List ℕ
device_name = codes "vublk" ++ replicate 15 0

-- the request as the history has it: each written sector filled with its byte
abbrev pub request_of : Ask → Asked
request_of (asks.Read s n) = Read s n
request_of (asks.Write s fills) = Write s (flat_map (λ b. replicate 512 b) fills.items)
request_of asks.Flush = Flush
request_of asks.Id = Id
request_of (asks.Discard parts) = Discard parts
request_of (asks.Zero parts) = Zero parts

-- the sector that a request reads in place i
abbrev pub look_at : Asked → ℕ → Option ℕ
look_at (Read s n) i = if nat_lt i n then Some (s + i) else None
look_at r i = None

-- the sector that zeroing the parts in order writes in place i
abbrev pub zeroed_at : List Part → ℕ → Option SectorValue
zeroed_at [] i = None
zeroed_at (p ∷ parts) i = if nat_lt i p.count then Some (record { sector = p.sector + i; value = zeros }) else zeroed_at parts (i - p.count)

-- the sector with its value that a request writes in place i
abbrev pub effect_at : Asked → ℕ → Option SectorValue
effect_at (Write s bytes) i = if nat_lt i (length bytes / 512) then Some (record { sector = s + i; value = slice_range bytes (512 * i) (512 * i + 512) }) else None
effect_at (Discard parts) i = zeroed_at parts.items i
effect_at (Zero parts) i = zeroed_at parts.items i
effect_at r i = None

abbrev pub is_read_only : CacheMode → Bool
is_read_only ReadOnly = true
is_read_only mode = false

abbrev pub is_through : CacheMode → Bool
is_through Through = true
is_through mode = false

-- the part has flags above these
abbrev pub has_flags_above : ℕ → Part → Bool
has_flags_above flags p = nat_lt flags p.flags

-- more sectors than a part may have, or past the end
abbrev pub is_outside : ℕ → Part → Bool
is_outside capacity p = nat_lt 65536 p.count || nat_lt capacity (p.sector + p.count)

-- the status of a refused discard or zeroing, by its parts and the greatest flags that it supports
abbrev pub parts_refusal : ℕ → CacheMode → ℕ → List Part → Option ℕ
parts_refusal capacity mode flags parts =
    if is_read_only mode then Some 1
    else if list_any (has_flags_above flags) parts then Some 2
    else if list_any (is_outside capacity) parts then Some 1
    else None

-- the status of a request that is refused whatever the disk holds. Of the flags of a part the first alone is known,
-- to unmap, which a zeroing may ask for and a discard may not
abbrev pub refusal : ℕ → CacheMode → Asked → Option ℕ
refusal capacity mode (Read s n) = if nat_lt capacity (s + n) then Some 1 else None
refusal capacity mode (Write s bytes) = if is_read_only mode || nat_lt capacity (s + length bytes / 512) then Some 1 else None
refusal capacity mode Flush = if is_through mode then Some 2 else None
refusal capacity mode Id = None
refusal capacity mode (Discard parts) = parts_refusal capacity mode 0 parts.items
refusal capacity mode (Zero parts) = parts_refusal capacity mode 1 parts.items
