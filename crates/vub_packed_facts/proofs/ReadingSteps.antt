-- What changes of a region leave of its open entries.
use Rattle.std.proofs.Common.{◌≡◌, ◌≢◌, ◌<◌, ℕ, zero, suc, Bool, true, false, List, [], ◌∷◌, ◌++◌, refl, ap, ◌∙◌, arith}
use Rattle.std.specs.Prelude.{◌||◌}
use Rattle.std.proofs.lemmas.Bool.Decides.{nat_tests}
use Rattle.vub_device.specs.Past.{is_among}
use Rattle.vub_device.proofs.Numbers.{is_among_append}
use Rattle.vub_base.specs.Pending.{sorted}
use Rattle.vub_inflight.specs.Entries.{in_flight_but, entry_at, by_index, by_counter, without_heads}
use Rattle.vub_inflight.proofs.EntryLemmas.{by_counter_agree, by_counter_add, by_counter_without}
use Rattle.vub_infl_packed.specs.Readings.{chosen_head, free_list, open_but, open_entries}
use Rattle.vub_infl_packed.specs.Region.{RegionWords}
use Rattle.vub_packed_facts.specs.Found.{IsChosen}
use Rattle.vub_packed_facts.proofs.PathLemmas.{path_within}

-- numbers that agree where an entry is open
by_index_num : (c u v : ℕ → ℕ) (p : ℕ → Bool) (n : ℕ) → ((i : ℕ) → i < n → p i ≡ true → u i ≡ v i) → by_index c u p n ≡ by_index c v p n
by_index_num c u v p zero nums = refl
by_index_num c u v p (suc n) nums =
    let rest : by_index c u p n ≡ by_index c v p n = by_index_num c u v p n (λ i h. nums i (omega (arith, h))) in
    let num : p n ≡ true → u n ≡ v n = nums n (omega arith) in
    grind arith

by_counter_num : (c u v : ℕ → ℕ) (p : ℕ → Bool) (n : ℕ) → ((i : ℕ) → i < n → p i ≡ true → u i ≡ v i) → by_counter c u p n ≡ by_counter c v p n
by_counter_num c u v p n nums = ap sorted (by_index_num c u v p n nums)

-- the free list that counts is the one that is chosen
pub list_is : (n flags : ℕ) (w : RegionWords) (free : List ℕ) → IsChosen n flags w free → free_list n flags w ≡ free
list_is n flags w free c = path_within w.next n n (chosen_head flags w) free c.path c.below c.few

pub open_is : (n flags : ℕ) (w : RegionWords) (free : List ℕ) → IsChosen n flags w free → open_entries n flags w ≡ open_but n free w
open_is n flags w free c = ap (λ (xs : List ℕ). open_but n xs w) (list_is n flags w free c)

-- the same is in flight outside the same list, with the same counters and nums: the same entries are open
pub open_same : (n : ℕ) (v w : RegionWords) (free : List ℕ) → ((i : ℕ) → i < n → is_among free i ≡ false → v.inflight i ≡ w.inflight i)
    → ((i : ℕ) → i < n → in_flight_but free v.inflight i ≡ true → v.counter i ≡ w.counter i) → ((i : ℕ) → i < n → in_flight_but free v.inflight i ≡ true → v.num i ≡ w.num i) → open_but n free v ≡ open_but n free w
open_same n v w free flight counters nums =
    by_counter_num v.counter v.num w.num (in_flight_but free v.inflight) n nums
    ∙ by_counter_agree v.counter w.counter w.num (in_flight_but free v.inflight) (in_flight_but free w.inflight) n
    (λ i l. let e : is_among free i ≡ false → v.inflight i ≡ w.inflight i = flight i l in grind (arith, nat_tests))
    counters

-- a fetch is accepted: the list loses the new chain, whose head alone is in flight
pub open_accepted : (n : ℕ) (w : RegionWords) (h : ℕ) (chain free : List ℕ) → h < n → is_among free h ≡ false
    → w.inflight h ≡ 1 → ((i : ℕ) → is_among chain i ≡ true → i ≢ h → w.inflight i ≡ 0)
    → ((i : ℕ) → i < n → in_flight_but ((h ∷ chain) ++ free) w.inflight i ≡ true → w.counter i < w.counter h)
    → open_but n free w ≡ open_but n ((h ∷ chain) ++ free) w ++ entry_at w.counter w.num h ∷ []
open_accepted n w h chain free within out one rest above = by_counter_add w.counter w.num (in_flight_but ((h ∷ chain) ++ free) w.inflight) (in_flight_but free w.inflight) h n within
    (grind (arith, nat_tests))
    (grind (arith, nat_tests))
    (λ i l apart.
    let g : is_among chain i ≡ true → w.inflight i ≡ 0 = λ t. rest i t apart in
    let j : is_among ((h ∷ chain) ++ free) i ≡ (is_among (h ∷ chain) i || is_among free i) = is_among_append (h ∷ chain) free i in
    grind (arith, nat_tests))
    above

-- a batch is shown: the list gains its chains
pub open_shown : (n : ℕ) (w : RegionWords) (these free : List ℕ) → open_but n (these ++ free) w ≡ without_heads these (open_but n free w)
open_shown n w these free = by_counter_without w.counter w.num (in_flight_but free w.inflight) (in_flight_but (these ++ free) w.inflight) these n
    (λ i l.
    let j : is_among (these ++ free) i ≡ (is_among these i || is_among free i) = is_among_append these free i in
    grind (arith, nat_tests))
