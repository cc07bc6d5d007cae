-- A region is made, store by store.
use Rattle.std.proofs.Common.{◌≡◌, ◌≤◌, ◌<◌, ℕ, zero, suc, ◌+◌, Bool, true, false, cond, List, [], length, refl, ap, sym, subst, inl, inr, arith}
use Rattle.std.specs.List.{AllByRecursion}
use Rattle.std.proofs.lemmas.Bool.Decides.{nat_tests}
use Rattle.std.proofs.lemmas.Bool.{cases_eq}
use Rattle.vub_base.specs.declared.pending.Pending.{Pending}
use Rattle.vub_base.specs.declared.position.Position.{Position}
use Rattle.vub_device.specs.Past.{is_among}
use Rattle.vub_slots.specs.Slots.{SlotWords, buffer_slots}
use Rattle.vub_slots.specs.Stands.{DriverSlots, IsSlots}
use Rattle.vub_slots.specs.Stands.Stand.{Hidden}
use Rattle.vub_inflight.specs.Entries.{in_flight_but, by_index, heads_of, with_at, CountersBelow, CountersRise}
use Rattle.vub_infl_packed.specs.Readings.{is_committed, chosen_head, free_list, open_entries}
use Rattle.vub_infl_packed.specs.Region.{RegionWords, used, old_used}
use Rattle.vub_infl_packed.specs.Stores.{with_positions}
use Rattle.vub_packed_facts.specs.Chains.{IsPath, count}
use Rattle.vub_packed_facts.specs.Found.{IsFound}
use Rattle.vub_packed_facts.specs.Left.{flags_at_old, used_number, SlotFacts}
use Rattle.vub_packed_facts.specs.News.{IsUnmade, InNew, counting}
use Rattle.vub_packed_facts.specs.News.Making.{Features, Frees, Links, Makes}
use Rattle.vub_packed_facts.specs.Starts.{IsRecovered}
use Rattle.vub_packed_facts.proofs.StandLemmas.{hidden_is, position_again}

set_here : (f : ℕ → ℕ) (i x : ℕ) → with_at f i x i ≡ x
set_here f i x = grind (arith, nat_tests)

pub new_begins : (n : ℕ) (dr : DriverSlots) (w : RegionWords) (s : SlotWords) (base : Position) → IsUnmade n dr w s base → InNew n dr w s base Features
new_begins n dr w s base f = record { unmade = f; stage_is = tt }

-- PI1 changes no word
pub features_keeps : (n : ℕ) (dr : DriverSlots) (w : RegionWords) (s : SlotWords) (base : Position) → InNew n dr w s base Features → InNew n dr w s base (Frees 0)
features_keeps n dr w s base f = record { unmade = f.unmade; stage_is = (omega arith, λ j l. absurd (omega (arith, l))) }

-- PI2
pub frees_keeps : (n : ℕ) (dr : DriverSlots) (w : RegionWords) (s : SlotWords) (base : Position) (i : ℕ) → i < n → InNew n dr w s base (Frees i) → InNew n dr (record w { inflight = with_at w.inflight i 0 }) s base (Links i)
frees_keeps n dr w s base i low f = record {
  unmade = record { version = f.unmade.version; slots = f.unmade.slots };
  stage_is = (low, (λ j l. let old = f.stage_is.1 j l in let one : w.inflight j ≡ 0 = old.0 in (grind (arith, nat_tests), old.1)), set_here w.inflight i 0);
}

-- PI3
pub links_keeps : (n : ℕ) (dr : DriverSlots) (w : RegionWords) (s : SlotWords) (base : Position) (i : ℕ) → InNew n dr w s base (Links i) → InNew n dr (record w { next = with_at w.next i (i + 1) }) s base (Frees (i + 1))
links_keeps n dr w s base i f = record {
  unmade = record { version = f.unmade.version; slots = f.unmade.slots };
  stage_is = (
    omega (arith, f.stage_is.0),
    (λ j l. elim (cases_eq j i) [
      | inl same ↦ (subst (λ k. w.inflight k ≡ 0) (sym same) f.stage_is.2, subst (λ k. with_at w.next i (i + 1) k ≡ k + 1) (sym same) (set_here w.next i (i + 1)))
      | inr apart ↦ (let old = f.stage_is.1 j (omega (arith, l, apart)) in let one : w.next j ≡ j + 1 = old.1 in (old.0, grind (arith, nat_tests)))
    ]),
  );
}

-- PI4
pub placed_keeps : (n : ℕ) (dr : DriverSlots) (w : RegionWords) (s : SlotWords) (base : Position) → InNew n dr w s base (Frees n) → InNew n dr (with_positions base base w) s base Makes
placed_keeps n dr w s base f = record {
  unmade = record { version = f.unmade.version; slots = f.unmade.slots };
  stage_is = (f.stage_is.1, position_again base, position_again base);
}

counting_path : (next : ℕ → ℕ) (i k : ℕ) → ((j : ℕ) → i ≤ j → j < i + k → next j ≡ j + 1) → IsPath next i (counting i k) (i + k)
counting_path next i zero h = omega arith
counting_path next i (suc k) h =
    let rest : IsPath next (i + 1) (counting (i + 1) k) (i + 1 + k) = counting_path next (i + 1) k (λ j l m. h j (omega (arith, l)) (omega (arith, m))) in
    let at : next i ≡ i + 1 = h i (omega arith) (omega arith) in
    (refl, subst (λ x. IsPath next x (counting (i + 1) k) (i + suc k)) (sym at) (subst (λ t. IsPath next (i + 1) (counting (i + 1) k) t) (let e : i + 1 + k ≡ i + suc k = omega arith in e) rest))

counting_below : (n i k : ℕ) → i + k ≤ n → AllByRecursion (λ (j : ℕ). j < n) (counting i k)
counting_below n i zero l = tt
counting_below n i (suc k) l = (omega (arith, l), counting_below n (i + 1) k (omega (arith, l)))

counting_length : (i k : ℕ) → length (counting i k) ≡ k
counting_length i zero = refl
counting_length i (suc k) = omega (arith, counting_length (i + 1) k)

counting_past : (j i k : ℕ) → j < i → count j (counting i k) ≡ 0
counting_past j i zero l = refl
counting_past j i (suc k) l = (let rest : count j (counting (i + 1) k) ≡ 0 = counting_past j (i + 1) k (omega (arith, l)) in grind (arith, nat_tests))

counting_once : (j i k : ℕ) → count j (counting i k) ≤ 1
counting_once j i zero = omega arith
counting_once j i (suc k) = elim (cases_eq i j) [
  | inl same ↦ (let rest : count j (counting (i + 1) k) ≡ 0 = counting_past j (i + 1) k (omega (arith, same)) in grind (arith, nat_tests))
  | inr apart ↦ (let rest : count j (counting (i + 1) k) ≤ 1 = counting_once j (i + 1) k in grind (arith, nat_tests))
]

counting_has : (j i k : ℕ) → is_among (counting i k) j ≡ true → j < i + k
counting_has j i zero h = absurd (let no : false ≡ true = h in cc)
counting_has j i (suc k) h = elim (cases_eq i j) [
  | inl same ↦ omega (arith, same)
  | inr apart ↦ (let more : is_among (counting (i + 1) k) j ≡ true = grind (arith, nat_tests) in omega (arith, counting_has j (i + 1) k more))
]

by_index_none : (c u : ℕ → ℕ) (p : ℕ → Bool) (n : ℕ) → ((i : ℕ) → i < n → p i ≡ false) → by_index c u p n ≡ []
by_index_none c u p zero h = refl
by_index_none c u p (suc n) h = (let here : p n ≡ false = h n (omega arith) in let rest : by_index c u p n ≡ [] = by_index_none c u p n (λ i l. h i (omega (arith, l))) in grind arith)

none_open : (n fl : ℕ) (w : RegionWords) → ((i : ℕ) → i < n → w.inflight i ≡ 0) → open_entries n fl w ≡ []
none_open n fl w clear =
    let none : by_index w.counter w.num (in_flight_but (free_list n fl w) w.inflight) n ≡ [] = by_index_none w.counter w.num (in_flight_but (free_list n fl w) w.inflight) n (λ i l. let zero_here : w.inflight i ≡ 0 = clear i l in grind (arith, nat_tests)) in
    grind arith

-- PI5 makes the region: nothing is open, and no store is left
pub made_keeps : (n : ℕ) (dr : DriverSlots) (w : RegionWords) (s : SlotWords) (base : Position) → InNew n dr w s base Makes
    → IsRecovered n dr (record w { version = 1; desc_num = n; free_head = 0; old_free_head = 0 }) s (counting 0 n) []
made_keeps n dr w s base f =
    let v : RegionWords = record w { version = 1; desc_num = n; free_head = 0; old_free_head = 0 } in
    let u : ℕ = used_number dr in
    let still : IsSlots n dr dr.collected u u (u + buffer_slots dr.waiting) s (used w) (old_used w) (Hidden 0) =
    subst (λ p. IsSlots n dr dr.collected u u (u + buffer_slots dr.waiting) s p (old_used w) (Hidden 0)) (sym f.stage_is.1) (subst (λ p. IsSlots n dr dr.collected u u (u + buffer_slots dr.waiting) s base p (Hidden 0)) (sym f.stage_is.2) f.unmade.slots) in
    let slots : SlotFacts n dr v s [] (Hidden 0) =
    subst (λ k. IsSlots n dr dr.collected u k (k + buffer_slots dr.waiting) s (used w) (old_used w) (Hidden 0)) (let e : u ≡ u + 0 = omega arith in e) still in
    let hidden : is_committed (flags_at_old v s) v ≡ false = hidden_is n u 0 u (u + buffer_slots dr.waiting) v s.flags (omega arith) still.stands in
    let head : chosen_head (flags_at_old v s) v ≡ 0 = ap (λ b. cond b 0 0) hidden in
    let path : IsPath w.next 0 (counting 0 n) n = subst (λ t. IsPath w.next 0 (counting 0 n) t) (let e : 0 + n ≡ n = omega arith in e) (counting_path w.next 0 n (λ j l m. (f.stage_is.0 j (omega (arith, m))).1)) in
    let none : open_entries n (flags_at_old v s) v ≡ [] = none_open n (flags_at_old v s) v (λ i l. (f.stage_is.0 i l).0) in
    let found : IsFound n (flags_at_old v s) v (counting 0 n) [] = record {
      version = refl;
      count = refl;
      chosen = record { path = subst (λ h. IsPath w.next h (counting 0 n) n) (sym head) path; below = counting_below n 0 n (omega arith); few = omega (arith, counting_length 0 n) };
      apart = record { once = λ i. omega (arith, counting_once i 0 n); sum = omega (arith, counting_length 0 n) };
      within = λ i some. absurd (omega (arith, some));
      ends = tt;
      reads = ap heads_of none;
      rising = subst (λ (xs : List Pending). CountersRise xs) (sym none) tt;
      low = subst (λ (xs : List Pending). CountersBelow 18446744073709551615 xs) (sym none) tt;
    } in
    record { left = record { found = found; slots = slots }; agree = refl; quiet = λ i h. (f.stage_is.0 i (omega (arith, counting_has i 0 n h))).0 }
