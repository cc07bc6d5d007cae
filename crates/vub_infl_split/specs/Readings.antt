-- What the region of a split queue of n descriptors says, where used.idx is `used` (vhost-user, "Inflight I/O tracking").
use Rattle.std.specs.Prelude.{ℕ, ◌==◌, Bool, nat_le, if◌then◌else◌, List, [], Option, Some, None}
use Rattle.std.proofs.Common.{min}
use Rattle.std.specs.Option.{option_map, option_or}
use Rattle.vub_base.specs.declared.pending.Pending.{Pending}
use Rattle.vub_base.specs.declared.reading.Reading.{Reading}
use Rattle.vub_base.specs.declared.reading.Reading.TheVariants.{Uninitialised}
use Rattle.vub_base.specs.declared.reading.RegionFault.{RegionFault}
use Rattle.vub_base.specs.declared.reading.RegionFault.TheVariants.{BadUsed, BadLink}
use Rattle.vub_ring.specs.Ring.{ahead}
use Rattle.vub_inflight.specs.Entries.{in_flight_but, by_index, by_counter}
use Rattle.vub_inflight.specs.Links.{links, links_within, first_bad}
use Rattle.vub_inflight.specs.Readings.{bad_version, bad_count, bad_counter, unless_damaged, read_list}
use Rattle.vub_infl_split.specs.Region.{RegionWords}

-- ---- the open entries

-- the entries of the batch that is in the used ring and not noted: as many as used.idx is ahead of used_idx
abbrev pub counted : ℕ → RegionWords → List ℕ
counted used w = links w.next (ahead used w.used_idx) w.last_batch_head

-- an entry is in flight, and not in that batch
abbrev pub is_open : ℕ → RegionWords → ℕ → Bool
is_open used w i = in_flight_but (counted used w) w.inflight i

-- an entry of a split queue counts as one descriptor
abbrev pub one_each : ℕ → ℕ
one_each i = 1

-- the open entries, by rising index and by rising counter
abbrev pub open_by_index : ℕ → ℕ → RegionWords → List Pending
open_by_index n used w = by_index w.counter one_each (is_open used w) n

abbrev pub open_entries : ℕ → ℕ → RegionWords → List Pending
open_entries n used w = by_counter w.counter one_each (is_open used w) n

-- ---- the same of a region that may be damaged

-- the entries of the batch as far as they can be followed: up to a link that is no entry, and no more than there are
abbrev pub counted_within : ℕ → ℕ → RegionWords → List ℕ
counted_within n used w = links_within n w.next (min (ahead used w.used_idx) n) w.last_batch_head

abbrev pub unchecked_entries : ℕ → ℕ → RegionWords → List Pending
unchecked_entries n used w = by_counter w.counter one_each (in_flight_but (counted_within n used w) w.inflight) n

-- ---- what is wrong with it

abbrev pub bad_used : ℕ → ℕ → RegionWords → Option RegionFault
bad_used n used w = if nat_le (ahead used w.used_idx) n then None else Some (BadUsed (ahead used w.used_idx))

abbrev pub bad_link : ℕ → ℕ → RegionWords → Option RegionFault
bad_link n used w = option_map (λ (i : ℕ). BadLink i) (first_bad n [] (counted used w))

-- the first cause, in this order, of a region that was made
abbrev pub made_fault : ℕ → ℕ → RegionWords → Option RegionFault
made_fault n used w =
    option_or (bad_version w.version)
    (option_or (bad_count n w.desc_num)
    (option_or (bad_used n used w)
    (option_or (bad_link n used w)
    (bad_counter (open_by_index n used w)))))

-- ---- the reading

abbrev pub split_reading : ℕ → ℕ → RegionWords → Reading
split_reading n used w = if w.version == 0 then Uninitialised else unless_damaged (made_fault n used w)

-- the list that goes with it: the open entries by rising counter, and none where it isn't made or damaged
abbrev pub split_entries : ℕ → ℕ → RegionWords → List Pending
split_entries n used w = read_list (split_reading n used w) (open_entries n used w)
