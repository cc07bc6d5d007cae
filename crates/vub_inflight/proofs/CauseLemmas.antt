-- Where no check of a region finds a cause.
use Rattle.std.proofs.Common.{◌≡◌, ◌≢◌, ◌<◌, ℕ, Bool, cond, true, false, List, [], ◌∷◌, refl, sym, ◌∙◌, arith}
use Rattle.std.specs.Prelude.{Option, Some, None}
use Rattle.std.specs.List.{AllByRecursion}
use Rattle.std.specs.Option.{option_map, option_or}
use Rattle.vub_base.specs.declared.pending.Pending.{Pending}
use Rattle.vub_base.specs.declared.reading.Reading.TheVariants.{Uninitialised, Entries, Damaged}
use Rattle.vub_base.specs.declared.reading.RegionFault.{RegionFault}
use Rattle.vub_inflight.specs.Entries.{by_index, by_counter, with_counter, same_counter, CountersBelow, CountersRise}
use Rattle.vub_inflight.specs.Neighbours.{twins}
use Rattle.vub_inflight.specs.Readings.{last_counter, bad_counter, unless_damaged}
use Rattle.vub_inflight.proofs.Each.{all_sorted, sorted_all}
use Rattle.vub_inflight.proofs.EntryLemmas.{all_by_index, ordered_sorted}
use Rattle.vub_inflight.proofs.CounterLemmas.{none_with, none_has}
use Rattle.vub_inflight.proofs.Twins.{same_counter_twins, no_twins, rise_without_twins}

pub or_none : {A : Type 0} (a b : Option A) → option_or a b ≡ None → (a ≡ None) × (b ≡ None)
or_none None b e = (refl, e)
or_none {A} (Some x) b e = absurd (let fails : ◌≡◌ {A = Option A} (Some x) None = e in cc)

pub map_none : {A B : Type 0} (f : A → B) (o : Option A) → option_map f o ≡ None → o ≡ None
map_none f None e = refl
map_none {A} {B} f (Some x) e = absurd (let fails : ◌≡◌ {A = Option B} (Some (f x)) None = e in cc)

pub none_unless : {A : Type 0} (b : Bool) (x : A) → cond b None (Some x) ≡ None → b ≡ true
none_unless true x e = refl
none_unless {A} false x e = absurd (let fails : ◌≡◌ {A = Option A} (Some x) None = e in cc)

-- the answer Entries says that no cause was found
pub entries_none : (b : Bool) (o : Option RegionFault) → cond b Uninitialised (unless_damaged o) ≡ Entries → o ≡ None
entries_none true o e = absurd (let fails : Uninitialised ≡ Entries = e in cc)
entries_none false None e = refl
entries_none false (Some fault) e = absurd (let fails : Damaged fault ≡ Entries = e in cc)

-- ---- counters

-- nothing is wrong with counters that rise to less than the last
pub counters_fine : (c u : ℕ → ℕ) (p : ℕ → Bool) (n : ℕ) → CountersRise (by_counter c u p n) → CountersBelow 18446744073709551615 (by_counter c u p n) → bad_counter (by_index c u p n) ≡ None
counters_fine c u p n rising below =
    let low : CountersBelow 18446744073709551615 (by_index c u p n) = sorted_all (λ e. e.counter < 18446744073709551615) (by_index c u p n) below in
    let last : with_counter 18446744073709551615 (by_index c u p n) ≡ None = none_with 18446744073709551615 (by_index c u p n) low in
    let same : same_counter (by_index c u p n) ≡ None = same_counter_twins c u p n ∙ no_twins (by_counter c u p n) rising in
    grind arith

-- and where nothing is, they do
pub fine_counters : (c u : ℕ → ℕ) (p : ℕ → Bool) (n : ℕ) → ((i : ℕ) → c i < 18446744073709551616) → bad_counter (by_index c u p n) ≡ None → CountersRise (by_counter c u p n) × CountersBelow 18446744073709551615 (by_counter c u p n)
fine_counters c u p n fits none =
    let both = or_none (last_counter (by_index c u p n)) _ none in
    let no_last = none_has 18446744073709551615 (by_index c u p n) (map_none _ (with_counter 18446744073709551615 (by_index c u p n)) both.0) in
    let no_twins_left : twins (by_counter c u p n) ≡ None = sym (same_counter_twins c u p n) ∙ map_none _ (same_counter (by_index c u p n)) both.1 in
    let small : AllByRecursion (λ (e : Pending). e.counter < 18446744073709551616) (by_index c u p n) = all_by_index (λ e. e.counter < 18446744073709551616) c u p n (λ i l is. fits i) in
    (rise_without_twins (by_counter c u p n) (ordered_sorted (by_index c u p n)) no_twins_left, all_sorted (λ e. e.counter < 18446744073709551615) (by_index c u p n) (all_both (by_index c u p n) small no_last))
  where
    all_both : (xs : List Pending) → AllByRecursion (λ (e : Pending). e.counter < 18446744073709551616) xs → AllByRecursion (λ (e : Pending). e.counter ≢ 18446744073709551615) xs → CountersBelow 18446744073709551615 xs
    all_both [] a b = tt
    all_both (x ∷ xs) a b = (omega (arith, a.0, b.0), all_both xs a.1 b.1)
