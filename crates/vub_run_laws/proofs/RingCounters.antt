-- The counters of a queue's open requests in its in-flight region, where the queue isn't started.
use Rattle.std.proofs.Common.{◌≡◌, ◌≤◌, ◌<◌, ℕ, zero, suc, ◌+◌, Bool, true, false, List, [], ◌∷◌, refl, ap, sym, ◌∙◌, subst, inl, inr, arith}
use Rattle.std.specs.Prelude.{slice_index, if◌then◌else◌}
use Rattle.std.specs.List.{AllByRecursion}
use Rattle.std.proofs.lemmas.Bool.Decides.{nat_tests}
use Rattle.std.proofs.lemmas.Bool.{cases_eq, cases_lt, cases_Bool}
use Rattle.vub_base.specs.declared.header.Header1.{Header1}
use Rattle.vub_base.specs.declared.pending.Pending.{Pending}
use Rattle.vub_shared.specs.Stores.{one_store}
use Rattle.vub_infl_split.proofs.WordLemmas.{words_elsewhere}
use Rattle.vub_inflight.specs.Entries.{by_index, entry_at, heads_of, CountersBelow, next_counter}
use Rattle.vub_inflight.proofs.Each.{all_sorted, all_append}
use Rattle.vub_infl_split.specs.Region.{RegionWords}
use Rattle.vub_infl_split.specs.Readings.{one_each, is_open, open_entries}
use Rattle.vub_region_facts.specs.Phases.{InLife}
use Rattle.vub_steps.specs.declared.steps.Phase.{Phase}
use Rattle.vub_steps.specs.declared.steps.Phase.TheVariants as phases
use Rattle.vub_device.specs.declared.entry.Entry.TheVariants as entries
use Rattle.vub_device.specs.Past.{started, accepted, published, is_among, open_numbers}
use Rattle.vub_run.specs.Memory.{Scene}
use Rattle.vub_run.specs.Moments.{Lane, region_of, used_in, region_in, open_heads}
use Rattle.vub_run.specs.Turns.{next_counter_in}
use Rattle.vub_facts.proofs.HeadLemmas.{number_of, among_map}
use Rattle.vub_run_laws.proofs.RunNumbers.{missing-among, among-missing}
use Rattle.vub_run_laws.proofs.RunGood.{BetweenTurns, IsLow, stored_at}
use Rattle.vub_run_laws.proofs.RingGood.{CountsLow}
use Rattle.vub_run_laws.proofs.RunHolds.{Holds}

-- ---- entries and their counters

-- an entry has the counter of its head
abbrev IsCounted : (ℕ → ℕ) → Pending → Type 0
IsCounted counter e = e.counter ≡ counter e.head

index_counted : (counter num : ℕ → ℕ) (opens : ℕ → Bool) (n : ℕ) → AllByRecursion (IsCounted counter) (by_index counter num opens n)
index_counted counter num opens zero = tt
index_counted counter num opens (suc n) = all_append (IsCounted counter) (by_index counter num opens n) (if opens n then entry_at counter num n ∷ [] else []) (index_counted counter num opens n) (go (opens n))
  where
    go : (b : Bool) → AllByRecursion (IsCounted counter) (if b then entry_at counter num n ∷ [] else [])
    go true = (refl, tt)
    go false = tt

counted_all : (n used : ℕ) (w : RegionWords) → AllByRecursion (IsCounted w.counter) (open_entries n used w)
counted_all n used w = all_sorted (IsCounted w.counter) (by_index w.counter one_each (is_open used w) n) (index_counted w.counter one_each (is_open used w) n)

-- each is below, where the counters of the heads are
all_below : (k : ℕ) (counter : ℕ → ℕ) (es : List Pending) → AllByRecursion (IsCounted counter) es → ((d : ℕ) → is_among (heads_of es) d ≡ true → counter d < k) → CountersBelow k es
all_below k counter [] all low = tt
all_below k counter (e ∷ es) all low = (omega (arith, all.0, low e.head (grind (arith, nat_tests))), all_below k counter es all.1 (λ d held. low d (grind (arith, nat_tests))))

-- and the other way round
one_below : (k : ℕ) (counter : ℕ → ℕ) (es : List Pending) (d : ℕ) → AllByRecursion (IsCounted counter) es → CountersBelow k es → is_among (heads_of es) d ≡ true → counter d < k
one_below k counter [] d all low held = absurd (let fails : false ≡ true = held in cc)
one_below k counter (e ∷ es) d all low held = elim (cases_eq e.head d) [
  | inl same ↦ subst (λ (x : ℕ). counter x < k) same (omega (arith, all.0, low.0))
  | inr apart ↦ one_below k counter es d all.1 low.1 (grind (arith, nat_tests))
]

more_below : (j k : ℕ) (es : List Pending) → j ≤ k → CountersBelow j es → CountersBelow k es
more_below j k [] le low = tt
more_below j k (e ∷ es) le low = (omega (arith, le, low.0), more_below j k es le low.1)

next_below : (k : ℕ) (es : List Pending) → CountersBelow k es → next_counter es ≤ k
next_below k [] low = omega arith
next_below k (e ∷ es) low = elim (cases_lt (next_counter es) (e.counter + 1)) [
  | inl less ↦ let is : next_counter (e ∷ es) ≡ e.counter + 1 = grind (arith, nat_tests) in omega (arith, is, low.0)
  | inr more ↦ let is : next_counter (e ∷ es) ≡ next_counter es = grind (arith, nat_tests) in omega (arith, is, next_below k es low.1)
]

-- ---- a store into guest memory

pub stored_counter : (q : ℕ) (h : Header1) (s : Scene) (p : ℕ) (bs : List ℕ) (d : ℕ) → (region_in h q (stored_at p bs s)).counter d ≡ (region_in h q s).counter d
stored_counter q h s p bs d = ap (λ (w : RegionWords). w.counter d) (words_elsewhere (region_of q h.size) s.memory (one_store 0 p bs) (inl (λ e. omega (arith, e))))

-- ---- the counter after a start

-- it is no greater than the number of accepted requests
pub next_low : (q : ℕ) (h : Header1) (s : Scene) → heads_of (open_entries h.size (used_in h q s) (region_in h q s)) ≡ open_heads q s.past (s.heads q) → CountsLow q h s → next_counter_in h q s ≤ accepted s.past q
next_low q h s reads low =
    let w : RegionWords = region_in h q s in
    let es : List Pending = open_entries h.size (used_in h q s) w in
    next_below (accepted s.past q) es (all_below (accepted s.past q) w.counter es (counted_all h.size (used_in h q s) w) (λ d held.
    let there = number_of (slice_index (s.heads q)) (open_numbers s.past q) d (ap (λ (hs : List ℕ). is_among hs d) (sym reads) ∙ held) in
    let opened = missing-among (published s.past q) (accepted s.past q) there.0 there.1 in
    subst (λ (x : ℕ). w.counter x < accepted s.past q) there.2 (low there.0 (record { taken = opened.0; unpublished = opened.1 }))))

-- ---- a life ends

-- in a life the counters of open requests are below that of the next one
life_low : (n used head counter taken : ℕ) (heads batch : List ℕ) (phase : Phase) (w : RegionWords) → BetweenTurns phase → IsLow taken counter phase → InLife n used head counter heads batch phase w → CountersBelow taken (open_entries n used w)
life_low n used head counter taken heads batch phases.Rest w between low x = more_below counter taken (open_entries n used w) low x.below
life_low n used head counter taken heads batch (phases.Start done) w between low x = more_below counter taken (open_entries n used w) low x.below
life_low n used head counter taken heads batch (phases.Publish done) w between low x = more_below counter taken (open_entries n used w) low x.below
life_low n used head counter taken heads batch (phases.Fetch done) w between low x =
    let given = x.under_way.given (omega (arith, between)) in
    more_below (w.counter head) taken (open_entries n used w) (omega (arith, between, low, given.given)) given.above

-- so a life leaves them below the number of accepted requests
pub killed_counts : (q : ℕ) (h : Header1) (s : Scene) (l : Lane) → Holds q h s l → (started s.past q ≡ false → CountsLow q h s) → CountsLow q h (record s { past = entries.Kill ∷ s.past })
killed_counts q h s l x before = elim (cases_Bool (started s.past q)) [
  | inr stopped ↦ λ k is_open. before stopped k (record { taken = is_open.taken; unpublished = is_open.unpublished })
  | inl run ↦ λ k is_open.
      let w : RegionWords = region_in h q s in
      let es : List Pending = open_entries h.size (used_in h q s) w in
      let life = x.queue.words.in_life run in
      let there : is_among (open_heads q s.past (s.heads q)) (slice_index (s.heads q) k) ≡ true = among_map (slice_index (s.heads q)) (open_numbers s.past q) k (among-missing (published s.past q) (accepted s.past q) k is_open.taken is_open.unpublished) in
      one_below (accepted s.past q) w.counter es (slice_index (s.heads q) k) (counted_all h.size (used_in h q s) w) (life_low _ _ _ _ (accepted s.past q) _ _ l.phase w x.worked.between x.carries.low life) (ap (λ (hs : List ℕ). is_among hs (slice_index (s.heads q) k)) life.sound.reads ∙ there)
]
