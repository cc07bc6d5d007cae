-- What is wrong with a region of either format, and what it is read as (vhost-user, "Inflight I/O tracking").
use Rattle.std.specs.Prelude.{ℕ, ◌==◌, if◌then◌else◌, List, [], Option, Some, None}
use Rattle.std.specs.Option.{option_map, option_or}
use Rattle.vub_base.specs.declared.pending.Pending.{Pending}
use Rattle.vub_base.specs.declared.reading.Reading.{Reading}
use Rattle.vub_base.specs.declared.reading.Reading.TheVariants.{Entries, Damaged}
use Rattle.vub_base.specs.declared.reading.RegionFault.{RegionFault}
use Rattle.vub_base.specs.declared.reading.RegionFault.TheVariants.{BadVersion, BadCount, LastCounter, SameCounter}
use Rattle.vub_inflight.specs.Entries.{with_counter, same_counter}

-- ---- what is wrong with it

-- the version of a region that was made is 1
abbrev pub bad_version : ℕ → Option RegionFault
bad_version version = if version == 1 then None else Some (BadVersion version)

-- it was made for n descriptors
abbrev pub bad_count : ℕ → ℕ → Option RegionFault
bad_count n desc_num = if desc_num == n then None else Some (BadCount desc_num)

-- the counter 2^64 - 1 leaves none for the next request
abbrev pub last_counter : List Pending → Option RegionFault
last_counter entries = option_map (λ (i : ℕ). LastCounter i) (with_counter 18446744073709551615 entries)

abbrev pub shared_counter : List Pending → Option RegionFault
shared_counter entries = option_map (λ (pair : ℕ × ℕ). SameCounter pair.0 pair.1) (same_counter entries)

abbrev pub bad_counter : List Pending → Option RegionFault
bad_counter entries = option_or (last_counter entries) (shared_counter entries)

-- ---- the reading of a region that was made

abbrev pub unless_damaged : Option RegionFault → Reading
unless_damaged None = Entries
unless_damaged (Some fault) = Damaged fault

-- the list that goes with it: the open entries, and none where it isn't made or damaged
abbrev pub read_list : Reading → List Pending → List Pending
read_list Entries entries = entries
read_list reading entries = []
