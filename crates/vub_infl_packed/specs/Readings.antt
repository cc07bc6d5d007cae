-- What the region of a packed queue of n descriptors says, where the slot at the old used position has these flags
-- (vhost-user, "Inflight I/O tracking").
use Rattle.std.specs.Prelude.{ℕ, ◌+◌, ◌-◌, ◌*◌, Bool, not, ◌==◌, ◌&&◌, nat_lt, nat_le, if◌then◌else◌, List, [], ◌∷◌, ◌++◌, length, Option, Some, None}
use Rattle.std.specs.Option.{option_map, option_or}
use Rattle.vub_base.specs.Positions.{same_bool, is_available, number_at}
use Rattle.vub_base.specs.declared.pending.Pending.{Pending}
use Rattle.vub_base.specs.declared.position.Position.{Position}
use Rattle.vub_base.specs.declared.reading.Reading.{Reading}
use Rattle.vub_base.specs.declared.reading.Reading.TheVariants.{Uninitialised}
use Rattle.vub_base.specs.declared.reading.RegionFault.{RegionFault}
use Rattle.vub_base.specs.declared.reading.RegionFault.TheVariants.{BadUsed, BadFree, BadLink, BadSum}
use Rattle.vub_inflight.specs.Entries.{in_flight_but, by_index, by_counter}
use Rattle.vub_inflight.specs.Links.{links, links_within, link_at, first_bad}
use Rattle.vub_inflight.specs.Readings.{bad_version, bad_count, bad_counter, unless_damaged, read_list}
use Rattle.vub_infl_packed.specs.Region.{RegionWords, used, old_used}

-- ---- the fields that count

abbrev pub same_position : Position → Position → Bool
same_position a b = (a.index == b.index) && same_bool a.wrap b.wrap

-- a batch is published and not yet noted: both positions differ, in index or in wrap counter, and the slot at the old one
-- isn't available there
abbrev pub is_committed : ℕ → RegionWords → Bool
is_committed flags w = not (same_position (used w) (old_used w)) && not (is_available flags (old_used w).wrap)

-- the new fields count once the batch is published, and the old ones until then
abbrev pub chosen_head : ℕ → RegionWords → ℕ
chosen_head flags w = if is_committed flags w then w.free_head else w.old_free_head

abbrev pub chosen_used : ℕ → RegionWords → Position
chosen_used flags w = if is_committed flags w then used w else old_used w

-- ---- the open heads

-- the free list from a head on: it ends before a link that is no entry, and has no more entries than there are
abbrev pub free_from : ℕ → RegionWords → ℕ → List ℕ
free_from n w head = links_within n w.next n head

-- those in flight outside the free list, by rising index and by rising counter
abbrev pub open_by_index : ℕ → List ℕ → RegionWords → List Pending
open_by_index n free w = by_index w.counter w.num (in_flight_but free w.inflight) n

abbrev pub open_but : ℕ → List ℕ → RegionWords → List Pending
open_but n free w = by_counter w.counter w.num (in_flight_but free w.inflight) n

-- the free list that counts, and the open heads
abbrev pub free_list : ℕ → ℕ → RegionWords → List ℕ
free_list n flags w = free_from n w (chosen_head flags w)

abbrev pub open_entries : ℕ → ℕ → RegionWords → List Pending
open_entries n flags w = open_but n (free_list n flags w) w

-- ---- what is wrong with the positions

-- how many slots one position is past another, less than two laps
abbrev pub distance : ℕ → Position → Position → ℕ
distance n old new =
    if nat_le (number_at n old) (number_at n new) then number_at n new - number_at n old
    else number_at n new + 2 * n - number_at n old

-- the first of these: an index that is none of a slot, a wrap counter that is neither 0 nor 1, or the index of a used
-- position that isn't 0 to n slots past the old one
abbrev pub bad_used : ℕ → RegionWords → Option ℕ
bad_used n w =
    if not (nat_lt w.used_idx n) then Some w.used_idx
    else if not (nat_lt w.old_used_idx n) then Some w.old_used_idx
    else if nat_lt 1 w.used_wrap_counter then Some w.used_wrap_counter
    else if nat_lt 1 w.old_used_wrap_counter then Some w.old_used_wrap_counter
    else if nat_le (distance n (old_used w) (used w)) n then None
    else Some w.used_idx

-- ---- what is wrong with the free list

-- the links before the one that is n, at which the free list ends
abbrev pub before_end : ℕ → List ℕ → List ℕ
before_end n [] = []
before_end n (x ∷ xs) = if x == n then [] else x ∷ before_end n xs

-- the first link that is above n or was met before
abbrev pub bad_free : ℕ → RegionWords → ℕ → Option ℕ
bad_free n w head = first_bad n [] (before_end n (links w.next (n + 1) head))

-- ---- what is wrong with the chains of open heads

-- the entries of a head's chain: as many as its num, from it on
abbrev pub chain : RegionWords → Pending → List ℕ
chain w e = links w.next e.num e.head

-- the last of them
abbrev pub chain_end : RegionWords → Pending → ℕ
chain_end w e = link_at w.next (e.num - 1) e.head

-- a head whose chain has no entry; else the first link of the chain that isn't below n or is among these; else a `last` at
-- which the chain doesn't end
abbrev pub bad_chain : ℕ → RegionWords → List ℕ → Pending → Option ℕ
bad_chain n w met e =
    if e.num == 0 then Some e.head
    else option_or (first_bad n met (chain w e)) (if chain_end w e == w.last e.head then None else Some (w.last e.head))

-- the same of one chain after another, where each adds to those that were met
abbrev pub bad_chains : ℕ → RegionWords → List ℕ → List Pending → Option ℕ
bad_chains n w met [] = None
bad_chains n w met (e ∷ es) = option_or (bad_chain n w met e) (bad_chains n w (met ++ chain w e) es)

-- how many entries the chains have together
abbrev pub chain_entries : List Pending → ℕ
chain_entries [] = 0
chain_entries (e ∷ es) = e.num + chain_entries es

-- they are all entries that aren't free
abbrev pub bad_sum : ℕ → List ℕ → List Pending → Option RegionFault
bad_sum n free heads = if chain_entries heads == n - length free then None else Some (BadSum (chain_entries heads))

-- ---- the first cause, in this order, of a region that was made

abbrev pub header_fault : ℕ → RegionWords → Option RegionFault
header_fault n w =
    option_or (bad_version w.version)
    (option_or (bad_count n w.desc_num)
    (option_map (λ (x : ℕ). BadUsed x) (bad_used n w)))

abbrev pub open_fault : ℕ → List ℕ → List Pending → RegionWords → Option RegionFault
open_fault n free heads w =
    option_or (option_map (λ (i : ℕ). BadLink i) (bad_chains n w free heads))
    (option_or (bad_sum n free heads)
    (bad_counter heads))

abbrev pub entries_fault : ℕ → RegionWords → ℕ → Option RegionFault
entries_fault n w head =
    option_or (option_map (λ (i : ℕ). BadFree i) (bad_free n w head))
    (open_fault n (free_from n w head) (open_by_index n (free_from n w head) w) w)

abbrev pub made_fault : ℕ → ℕ → RegionWords → Option RegionFault
made_fault n flags w = option_or (header_fault n w) (entries_fault n w (chosen_head flags w))

-- ---- the reading

abbrev pub packed_reading : ℕ → ℕ → RegionWords → Reading
packed_reading n flags w = if w.version == 0 then Uninitialised else unless_damaged (made_fault n flags w)

-- the list that goes with it: the open heads by rising counter, and none where it isn't made or damaged
abbrev pub packed_entries : ℕ → ℕ → RegionWords → List Pending
packed_entries n flags w = read_list (packed_reading n flags w) (open_entries n flags w)
