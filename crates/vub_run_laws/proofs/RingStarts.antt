-- A start of a queue, step by step, on a split ring and its in-flight region.
use Rattle.std.proofs.Common.{◌≡◌, ◌≢◌, ◌≤◌, ◌<◌, ℕ, ◌+◌, Bool, true, false, List, [], ◌∷◌, ◌++◌, length, refl, ap, sym, ◌∙◌, subst, inl, inr, arith}
use Rattle.std.specs.Prelude.{Some, slice_get}
use Rattle.std.proofs.lemmas.Bool.{cases_lt, cases_eq}
use Rattle.std.proofs.lemmas.Bool.Decides.{nat_tests}
use Rattle.vub_base.specs.declared.header.Header1.{Header1}
use Rattle.vub_base.specs.declared.store.Area.TheVariants.{I}
use Rattle.vub_shared.specs.Bytes.{Bytes, put, word}
use Rattle.vub_shared.proofs.BytesLemmas.{word-put_other}
use Rattle.vub_steps.specs.declared.steps.Phase.{Phase}
use Rattle.vub_steps.specs.declared.steps.Phase.TheVariants as phases
use Rattle.vub_steps.specs.declared.steps.Plan.{Plan}
use Rattle.vub_steps.specs.declared.steps.Plan.TheVariants as plans
use Rattle.vub_steps.specs.declared.steps.Step.{Step}
use Rattle.vub_steps.specs.declared.steps.Step.TheVariants as steps
use Rattle.vub_steps.specs.Plans.{settles, plan_of}
use Rattle.vub_steps.specs.Steps.{plan_steps, bell_steps, start_steps, after_of}
use Rattle.vub_steps.proofs.StartLemmas.{length_new, length_settles, behind, first_behind}
use Rattle.vub_ring.specs.Ring.{ahead, avail_idx_place, avail_entry_place, used_idx_place, used_id_place, used_len_place}
use Rattle.vub_infl_split.specs.declared.region.SplitStore.{SplitStore}
use Rattle.vub_infl_split.specs.declared.region.SplitStore.TheVariants.{SI1, SI2, SI3, SR1, SR2}
use Rattle.vub_infl_split.specs.Region.{RegionWords}
use Rattle.vub_infl_split.specs.Stores.{store_of, tag_of}
use Rattle.vub_region_facts.specs.Starts.{Left}
use Rattle.vub_driver.specs.Drivers.{Driver}
use Rattle.vub_device.specs.declared.entry.Entry.{Entry}
use Rattle.vub_device.specs.declared.entry.Entry.TheVariants as entries
use Rattle.vub_device.specs.Past.{started, open_numbers}
use Rattle.vub_report.specs.declared.items.Item.TheVariants as items
use Rattle.vub_run.specs.Memory.{Scene}
use Rattle.vub_run.specs.Moments.{Lane, used_in, region_in, open_heads}
use Rattle.vub_run.specs.Turns.{step_items, sight_of, counted, next_counter_in}
use Rattle.vub_facts.specs.Facts.{Side, Words, words_at, Facts, IsDue, after_row, words_after}
use Rattle.vub_facts.specs.Facts.{with_phase as side_with}
use Rattle.vub_facts.proofs.FactStarts.{start_begins}
use Rattle.vub_facts.proofs.Places.{IsStarting, IsRunning, bells, place_of, start_long, start_goes}
use Rattle.vub_run_laws.proofs.RingEntries.{ringed_entries, driven_same}
use Rattle.vub_run_laws.proofs.RunOwn.{started_own}
use Rattle.vub_run_laws.proofs.RunGood.{IsSize}
use Rattle.vub_run_laws.proofs.RingGood.{the_ring, the_region, side_of, WordsAt, Ringed, QueueFacts}
use Rattle.vub_run_laws.proofs.RunHolds.{starting, steps_in, noted_at, StartStores, StartRings, StartEnds, NextStart, Stores, Rings, Ends}
use Rattle.vub_run_laws.proofs.RingFacts.{words_in, none_fit, StepWords, step_words, step_counters}
use Rattle.vub_run_laws.proofs.RingCounters.{next_low}
use Rattle.vub_steps.specs.Rows.{row_of}

-- ---- it begins

few_stores : (n : ℕ) (plan plan' : Plan) → plan ≡ plan' → length (plan_steps n plan) ≤ n + 2 → length (plan_steps n plan') ≤ n + 2
few_stores n plan plan' e few = subst (λ (p : Plan). length (plan_steps n p) ≤ n + 2) e few

-- a store for each entry, and at most two beside
plan_few : (n used : ℕ) (heads : List ℕ) (base : ℕ) (w : RegionWords) → Left n used heads base w → length (plan_steps n (plan_of used w)) ≤ n + 2
plan_few n used heads base w (inl u) =
    let version : w.version ≡ 0 = u.version in
    let plan : plans.New ≡ plan_of used w = grind (arith, nat_tests) in
    few_stores n plans.New (plan_of used w) plan (omega (arith, length_new n))
plan_few n used heads base w (inr s) =
    let version : w.version ≡ 1 = s.version in
    let made : settles (ahead used w.used_idx) ≡ plan_of used w = grind (arith, nat_tests) in
    elim (cases_eq (ahead used w.used_idx) 0) [
      | inl none ↦
          let plan : plans.Settled ≡ plan_of used w = grind (arith, nat_tests) in
          few_stores n plans.Settled (plan_of used w) plan (omega arith)
      | inr some ↦
          let count : ℕ = ahead used w.used_idx in
          let plan : plans.Settles count ≡ plan_of used w = grind (arith, nat_tests) in
          few_stores n (plans.Settles count) (plan_of used w) plan (omega (arith, length_settles n count, s.few))
    ]

-- a queue at rest begins its start, by what it finds
pub start_facts : (q : ℕ) (h : Header1) (s : Scene) (v : Driver) (bell : Bool) (plan : Plan) (counter : ℕ) → started s.past q ≡ false → QueueFacts q h s v bell plan counter [] phases.Rest → QueueFacts q h s v bell (plan_of (used_in h q s) (region_in h q s)) counter [] (phases.Start 0)
start_facts q h s v bell plan counter stopped x =
    let heads : List ℕ = open_heads q s.past (s.heads q) in
    let found : Plan = plan_of (used_in h q s) (region_in h q s) in record {
      ringed = x.ringed;
      driven = x.driven;
      words = start_begins h.size heads h.base (side_of q h s bell plan counter [] phases.Rest) (words_at (the_ring q h.size) (the_region q h.size) s.memory) stopped refl x.words;
      start = record {
        stopped = stopped;
        left = omega (arith, start_long h.size found bell);
        few = plan_few h.size (used_in h q s) heads h.base (region_in h q s) (x.words.not_started stopped);
      };
    }

-- ---- a store into the region

-- it leaves guest memory
word_stays : (w : ℕ) (m : Bytes) (p : ℕ) (bs : List ℕ) (a : ℕ) → word w (put m 1 p bs) 0 a ≡ word w m 0 a
word_stays w m p bs a = word-put_other w m 1 p bs 0 a (inl (λ e. omega (arith, e)))

-- and so the ring
pub ringed_noted : (q n base : ℕ) (past : List Entry) (heads : List ℕ) (m : Bytes) (p : ℕ) (bs : List ℕ) → Ringed q n base past heads m → Ringed q n base past heads (put m 1 p bs)
ringed_noted q n base past heads m p bs r = record {
  avail_idx_is = word_stays 2 m p bs (avail_idx_place (the_ring q n)) ∙ r.avail_idx_is;
  used_idx_is = word_stays 2 m p bs (used_idx_place (the_ring q n)) ∙ r.used_idx_is;
  avail_at = λ i from upto. word_stays 2 m p bs (avail_entry_place (the_ring q n) (base + i)) ∙ r.avail_at i from upto;
  used_at = λ i from upto.
      ap (λ (y : ℕ). (y, word 4 (put m 1 p bs) 0 (used_len_place (the_ring q n) (base + i)))) (word_stays 4 m p bs (used_id_place (the_ring q n) (base + i)))
      ∙ ap (λ (y : ℕ). (word 4 m 0 (used_id_place (the_ring q n) (base + i)), y)) (word_stays 4 m p bs (used_len_place (the_ring q n) (base + i))) ∙ r.used_at i from upto;
}

-- ---- its steps

-- the last step makes the entry
last_start : (n : ℕ) (plan : Plan) (bell : Bool) (done : ℕ) (step : Step) → slice_get (start_steps n plan bell) done ≡ Some step → length (start_steps n plan bell) ≡ done + 1 → step ≡ steps.Start
last_start n plan bell done step is last =
    let stores : ℕ = length (plan_steps n plan) in
    let at : done ≡ stores + bells bell = omega (arith, last, start_long n plan bell) in
    let there : slice_get (start_steps n plan bell) (stores + bells bell) ≡ Some steps.Start = behind (plan_steps n plan) (bell_steps bell ++ (steps.Start ∷ [])) stores (bells bell) refl ∙ first_behind (bell_steps bell) [] steps.Start (bells bell) refl in
    let both : Some step ≡ Some steps.Start = sym is ∙ ap (slice_get (start_steps n plan bell)) at ∙ there in
    cc

-- so a step is left after each other one
more_left : (n : ℕ) (plan : Plan) (bell : Bool) (done : ℕ) (step : Step) → slice_get (start_steps n plan bell) done ≡ Some step → done < length (start_steps n plan bell) → step ≢ steps.Start → done + 1 < length (start_steps n plan bell)
more_left n plan bell done step is left apart = elim (cases_lt (done + 1) (length (start_steps n plan bell))) [
  | inl more ↦ more
  | inr none ↦ absurd (apart (last_start n plan bell done step is (omega (arith, left, none))))
]

goes : (n : ℕ) (plan : Plan) (bell : Bool) (done : ℕ) → done + 1 < length (start_steps n plan bell) → after_of (start_steps n plan bell) (phases.Start done) ≡ phases.Start (done + 1)
goes n plan bell done more = grind (arith, nat_tests)

-- a store that leaves the counters of the region
abbrev KeepsCounters : ℕ → Header1 → Scene → SplitStore → Type 0
KeepsCounters q h s y = (d : ℕ) → (region_in h q (noted_at (store_of (the_region q h.size) y).place (store_of (the_region q h.size) y).bytes s)).counter d ≡ (region_in h q s).counter d

-- a store of a start that keeps the facts of the words
store_makes : (q : ℕ) (h : Header1) (s : Scene) (l : Lane) (done : ℕ) (step : Step) (y : SplitStore) → ((next : ℕ) (z : Lane) → counted next step z ≡ z) → QueueFacts q h s l.driver l.bell l.plan l.counter [] (phases.Start done)
    → step_items h q (starting done l) step s ≡ items.Store (tag_of y) I (store_of (the_region q h.size) y).place (store_of (the_region q h.size) y).bytes ∷ [] → done + 1 < length (steps_in h l)
    → WordsAt q h (noted_at (store_of (the_region q h.size) y).place (store_of (the_region q h.size) y).bytes s) l.bell l.plan l.counter [] (phases.Start (done + 1)) → KeepsCounters q h s y → StartStores q h s l done step
store_makes q h s l done step y counts x stores more words kept =
    let st = store_of (the_region q h.size) y in record {
      more = more;
      tag = tag_of y;
      place = st.place;
      bytes = st.bytes;
      stores = stores;
      counts = counts;
      queue = record {
        ringed = ringed_noted q h.size h.base s.past (s.heads q) s.memory st.place st.bytes x.ringed;
        driven = x.driven;
        words = words;
        start = record { stopped = x.start.stopped; left = more; few = x.start.few };
      };
      kept = kept;
    }

bell_rings : (q : ℕ) (h : Header1) (s : Scene) (l : Lane) (done : ℕ) → QueueFacts q h s l.driver l.bell l.plan l.counter [] (phases.Start done) → done + 1 < length (steps_in h l)
    → WordsAt q h s l.bell l.plan l.counter [] (phases.Start (done + 1)) → StartRings q h s l done steps.Bell
bell_rings q h s l done x more words = record {
  more = more;
  rings = refl;
  counts = λ next z. refl;
  queue = record {
    ringed = x.ringed;
    driven = x.driven;
    words = words;
    start = record { stopped = x.start.stopped; left = more; few = x.start.few };
  };
}

start_ends : (q : ℕ) (h : Header1) (s : Scene) (l : Lane) (done : ℕ) → QueueFacts q h s l.driver l.bell l.plan l.counter [] (phases.Start done) → length (steps_in h l) ≤ done + 1
    → Facts h.size (open_heads q s.past (s.heads q)) h.base (record { started = true; bell = l.bell; phase = phases.Rest; plan = l.plan; counter = next_counter_in h q s; batch = [] }) (words_in q h s) → StartEnds q h s l done steps.Start
start_ends q h s l done x none words =
    let list : List ℕ = open_numbers s.past q in
    let past' : List Entry = entries.Start q list ∷ s.past in
    let on : started past' q ≡ true = started_own s.past q list in
    let heads : List ℕ = open_heads q s.past (s.heads q) in record {
      none = none;
      starts = refl;
      counts = λ next z. refl;
      queue = record {
        ringed = ringed_entries q h.size h.base s.past past' (s.heads q) s.memory (record { accepts = omega arith; shows = refl; collects = omega arith; asks = λ j. refl }) x.ringed;
        driven = driven_same q h.size h.capacity h.base s.past past' (s.heads q) l.driver (λ j o. record { below = o.below; kept = o.kept }) x.driven;
        words = subst (λ (b : Bool). Facts h.size heads h.base (record { started = b; bell = l.bell; phase = phases.Rest; plan = l.plan; counter = next_counter_in h q s; batch = [] }) (words_in q h s)) (sym on) words;
        start = tt;
      };
      low = next_low q h s (words.in_life refl).sound.reads;
    }

-- a step of a start that is under way, as the facts of its words have it
pub next_start : (q : ℕ) (h : Header1) (s : Scene) (l : Lane) (done : ℕ) → IsSize h.size → QueueFacts q h s l.driver l.bell l.plan l.counter [] (phases.Start done) → NextStart q h s l done (slice_get (steps_in h l) done)
next_start q h s l done size x =
    let next = start_goes h.size side done refl x.start.left in
    go next.0 next.1
  where
    side : Side
    side = side_of q h s l.bell l.plan l.counter [] (phases.Start done)

    due : (step : Step) → slice_get (steps_in h l) done ≡ Some step → IsDue h.size step side
    due step is = record { in_phase = x.start.stopped; next = is }

    kept : (step : Step) → slice_get (steps_in h l) done ≡ Some step → StepWords q h s (starting done l) step
    kept step is = step_words q h s (starting done l) step size none_fit (due step is) x.words

    counters : (step : Step) → slice_get (steps_in h l) done ≡ Some step → (d : ℕ)
        → (words_in q h (record s { memory = after_row (row_of (the_ring q h.size) (the_region q h.size) (sight_of h q s (starting done l)) step) s.memory })).region.counter d ≡ (words_after (the_ring q h.size) (sight_of h q s (starting done l)) step (words_in q h s)).region.counter d
    counters step is d = step_counters q h s (starting done l) step d size none_fit (due step is) x.words

    more : (step : Step) → slice_get (steps_in h l) done ≡ Some step → step ≢ steps.Start → done + 1 < length (steps_in h l)
    more step is apart = more_left h.size l.plan l.bell done step is x.start.left apart

    moved : (p : Phase) → after_of (steps_in h l) (phases.Start done) ≡ p → (y : Side) (w : Words) → Facts h.size (open_heads q s.past (s.heads q)) h.base (side_with (after_of (steps_in h l) (phases.Start done)) y) w → Facts h.size (open_heads q s.past (s.heads q)) h.base (side_with p y) w
    moved p is y w f = subst (λ (ph : Phase). Facts h.size (open_heads q s.past (s.heads q)) h.base (side_with ph y) w) is f

    off : {A : Type 0} {p : Phase} → IsRunning p side → A
    off at = absurd (let fails : true ≡ false = sym at.started ∙ x.start.stopped in cc)

    stores : (step : Step) (y : SplitStore) → ((next : ℕ) (z : Lane) → counted next step z ≡ z) → slice_get (steps_in h l) done ≡ Some step → step ≢ steps.Start
        → step_items h q (starting done l) step s ≡ items.Store (tag_of y) I (store_of (the_region q h.size) y).place (store_of (the_region q h.size) y).bytes ∷ []
        → Facts h.size (open_heads q s.past (s.heads q)) h.base (side_with (after_of (steps_in h l) (phases.Start done)) side) (words_in q h (noted_at (store_of (the_region q h.size) y).place (store_of (the_region q h.size) y).bytes s)) → KeepsCounters q h s y → NextStart q h s l done (slice_get (steps_in h l) done)
    stores step y counts is apart made words same =
        let left : done + 1 < length (steps_in h l) = more step is apart in
        Stores step is (store_makes q h s l done step y counts x made left (moved (phases.Start (done + 1)) (goes h.size l.plan l.bell done left) side (words_in q h (noted_at (store_of (the_region q h.size) y).place (store_of (the_region q h.size) y).bytes s)) words) same)

    go : (step : Step) → slice_get (steps_in h l) done ≡ Some step → NextStart q h s l done (slice_get (steps_in h l) done)
    go steps.Features is = stores steps.Features SI1 (λ next z. refl) is (λ e. cc) refl (kept steps.Features is) (counters steps.Features is)
    go (steps.Free i) is = stores (steps.Free i) (SI2 i) (λ next z. refl) is (λ e. cc) refl (kept (steps.Free i) is) (counters (steps.Free i) is)
    go steps.Open is = stores steps.Open (SI3 (used_in h q s)) (λ next z. refl) is (λ e. cc) refl (kept steps.Open is) (counters steps.Open is)
    go (steps.Settle i) is = stores (steps.Settle i) (SR1 (sight_of h q s (starting done l)).link) (λ next z. refl) is (λ e. cc) refl (kept (steps.Settle i) is) (counters (steps.Settle i) is)
    go steps.SettleEnd is = stores steps.SettleEnd (SR2 (used_in h q s)) (λ next z. refl) is (λ e. cc) refl (kept steps.SettleEnd is) (counters steps.SettleEnd is)
    go steps.Bell is =
        let left : done + 1 < length (steps_in h l) = more steps.Bell is (λ e. cc) in
        Rings steps.Bell is (bell_rings q h s l done x left (moved (phases.Start (done + 1)) (goes h.size l.plan l.bell done left) side (words_in q h s) (kept steps.Bell is)))
    go steps.Start is =
        let at : IsStarting (length (plan_steps h.size l.plan) + bells l.bell) side = place_of h.size steps.Start side (due steps.Start is) in
        let same : done ≡ length (plan_steps h.size l.plan) + bells l.bell = (let place : phases.Start done ≡ phases.Start (length (plan_steps h.size l.plan) + bells l.bell) = at.place in cc) in
        let none : length (steps_in h l) ≤ done + 1 = omega (arith, same, start_long h.size l.plan l.bell) in
        let rests : after_of (steps_in h l) (phases.Start done) ≡ phases.Rest = grind (arith, nat_tests) in
        Ends steps.Start is (start_ends q h s l done x none (moved phases.Rest rests (record side { started = true; counter = next_counter_in h q s }) (words_in q h s) (kept steps.Start is)))
    go steps.Count is = off (place_of h.size steps.Count side (due steps.Count is))
    go steps.Accept is = off (place_of h.size steps.Accept side (due steps.Accept is))
    go (steps.Id e) is = off (place_of h.size (steps.Id e) side (due (steps.Id e) is)).0
    go (steps.Len e) is = off (place_of h.size (steps.Len e) side (due (steps.Len e) is)).0
    go (steps.Link e) is = off (place_of h.size (steps.Link e) side (due (steps.Link e) is)).0
    go (steps.Head e) is = off (place_of h.size (steps.Head e) side (due (steps.Head e) is)).0
    go steps.Index is = off (place_of h.size steps.Index side (due steps.Index is))
    go (steps.Clear e) is = off (place_of h.size (steps.Clear e) side (due (steps.Clear e) is)).0
    go steps.Note is = off (place_of h.size steps.Note side (due steps.Note is))
