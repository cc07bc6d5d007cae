-- The checks of a region, one after another, and what is read after them.
use Rattle.std.proofs.Common.{◌≡◌, ◌≢◌, ◌<◌, ◌-◌, ◌∙◌, ℕ, Bool, false, cond, List, length, refl, ap, sym, arith}
use Rattle.std.specs.Prelude.{◌==◌, Option, Some, None}
use Rattle.std.specs.Option.{option_map, option_or, MatchOption}
use Rattle.std.proofs.lemmas.Bool.Decides.{nat_tests}
use Rattle.vub_base.specs.declared.pending.Pending.{Pending}
use Rattle.vub_base.specs.declared.reading.Reading.{Reading}
use Rattle.vub_base.specs.declared.reading.Reading.TheVariants.{Uninitialised, Entries, Damaged}
use Rattle.vub_base.specs.declared.reading.RegionFault.{RegionFault}
use Rattle.vub_base.specs.declared.reading.RegionFault.TheVariants.{BadFree, BadLink, BadSum}
use Rattle.vub_inflight.specs.Entries.{in_flight_but, CountersRise}
use Rattle.vub_inflight.specs.Readings.{bad_counter, unless_damaged}
use Rattle.vub_inflight.proofs.CauseLemmas.{or_none, entries_none, fine_counters}
use Rattle.vub_infl_packed.specs.Readings.{chosen_head, free_from, free_list, open_by_index, open_entries, bad_free, bad_chains, chain_entries, bad_sum, header_fault, open_fault, entries_fault, made_fault, packed_reading}
use Rattle.vub_infl_packed.specs.Region.{RegionWords}

-- the chains of the heads outside the free list are left to check
pub heads_left : (n : ℕ) (w : RegionWords) (head : ℕ) → bad_free n w head ≡ None → entries_fault n w head ≡ open_fault n (free_from n w head) (open_by_index n (free_from n w head) w) w
heads_left n w head none = ap (λ (o : Option ℕ). option_or (option_map (λ (i : ℕ). BadFree i) o) (open_fault n (free_from n w head) (open_by_index n (free_from n w head) w) w)) none

chains_of : (n : ℕ) (w : RegionWords) (free : List ℕ) (heads : List Pending) (o : Option ℕ) → bad_chains n w free heads ≡ o → open_fault n free heads w ≡ option_or (option_map (λ (i : ℕ). BadLink i) o) (option_or (bad_sum n free heads) (bad_counter heads))
chains_of n w free heads o is = ap (λ (x : Option ℕ). option_or (option_map (λ (i : ℕ). BadLink i) x) (option_or (bad_sum n free heads) (bad_counter heads))) is

pub link_found : (n : ℕ) (w : RegionWords) (free : List ℕ) (heads : List Pending) (link : ℕ) → bad_chains n w free heads ≡ Some link → open_fault n free heads w ≡ Some (BadLink link)
link_found n w free heads link is = chains_of n w free heads (Some link) is

pub sum_found : (n : ℕ) (w : RegionWords) (free : List ℕ) (heads : List Pending) (sum : ℕ) → bad_chains n w free heads ≡ None → sum ≡ chain_entries heads → sum ≢ n - length free → open_fault n free heads w ≡ Some (BadSum sum)
sum_found n w free heads sum none is differs =
    let bad : bad_sum n free heads ≡ Some (BadSum (chain_entries heads)) = grind (arith, nat_tests) in
    chains_of n w free heads None none ∙ ap (λ (o : Option RegionFault). option_or o (bad_counter heads)) bad ∙ ap (λ (k : ℕ). Some (BadSum k)) (sym is)

-- only the counters are left to check
pub counters_left : (n : ℕ) (w : RegionWords) (free : List ℕ) (heads : List Pending) → bad_chains n w free heads ≡ None → chain_entries heads ≡ n - length free → open_fault n free heads w ≡ bad_counter heads
counters_left n w free heads none sum =
    let fine : bad_sum n free heads ≡ None = grind (arith, nat_tests) in
    chains_of n w free heads None none ∙ ap (λ (o : Option RegionFault). option_or o (bad_counter heads)) fine

-- ---- the reading

-- where a word before the entries is bad
pub header_read : (n flags : ℕ) (w : RegionWords) (cause : RegionFault) → w.version ≢ 0 → header_fault n w ≡ Some cause → packed_reading n flags w ≡ Damaged cause
header_read n flags w cause made is =
    let some : (w.version == 0) ≡ false = grind (arith, nat_tests) in
    ap (λ (b : Bool). cond b Uninitialised (unless_damaged (made_fault n flags w))) some ∙ ap (λ (o : Option RegionFault). unless_damaged (option_or o (entries_fault n w (chosen_head flags w)))) is

-- where none is, the entries are read
pub entries_read : (n flags : ℕ) (w : RegionWords) → w.version ≢ 0 → header_fault n w ≡ None → packed_reading n flags w ≡ unless_damaged (entries_fault n w (chosen_head flags w))
entries_read n flags w made is =
    let some : (w.version == 0) ≡ false = grind (arith, nat_tests) in
    ap (λ (b : Bool). cond b Uninitialised (unless_damaged (made_fault n flags w))) some ∙ ap (λ (o : Option RegionFault). unless_damaged (option_or o (entries_fault n w (chosen_head flags w)))) is

-- Entries is what is read where no cause was found
pub unless_entries : (o : Option RegionFault) → unless_damaged o ≡ Entries → o ≡ None
unless_entries None is = refl
unless_entries (Some fault) is = absurd (let fails : Damaged fault ≡ Entries = is in cc)

-- then no check finds one
pub read_none : (n flags : ℕ) (w : RegionWords) → packed_reading n flags w ≡ Entries → made_fault n flags w ≡ None
read_none n flags w is = entries_none (w.version == 0) (made_fault n flags w) is

-- and the counters rise
pub read_rises : (n flags : ℕ) (w : RegionWords) → ((i : ℕ) → w.counter i < 18446744073709551616) → packed_reading n flags w ≡ Entries → CountersRise (open_entries n flags w)
read_rises n flags w fits is =
    let free : List ℕ = free_list n flags w in
    let none = (or_none (header_fault n w) _ (read_none n flags w is)).1 in
    let chains = (or_none (option_map (λ (i : ℕ). BadFree i) (bad_free n w (chosen_head flags w))) _ none).1 in
    let sum = (or_none (option_map (λ (i : ℕ). BadLink i) (bad_chains n w free (open_by_index n free w))) _ chains).1 in
    let counters = (or_none (bad_sum n free (open_by_index n free w)) _ sum).1 in
    (fine_counters w.counter w.num (in_flight_but free w.inflight) n fits counters).0

pub map_is : (o : Option RegionFault) (r : Reading) → MatchOption o (r ≡ Entries) (λ fault. r ≡ Damaged fault) → r ≡ unless_damaged o
map_is None r is = is
map_is (Some fault) r is = is
