-- The facts of a queue through the begin of each phase, and through each step.
use Rattle.std.proofs.Common.{◌≡◌, ◌≢◌, ◌≤◌, ◌<◌, ◌⊎◌, ℕ, ◌+◌, ◌*◌, ◌%◌, Bool, true, false, List, [], ◌∷◌, ◌++◌, length, get_or, refl, ap, sym, ◌∙◌, subst, inl, inr, arith}
use Rattle.std.specs.Prelude.{slice_index, Option, Some, None, option_map}
use Rattle.std.proofs.lemmas.Bool.{cases_eq, cases_Bool}
use Rattle.std.proofs.lemmas.Bool.Decides.{nat_tests}
use Rattle.std.proofs.lemmas.List.{length-map, get_or-map}
use Rattle.std.proofs.lemmas.Option.{slice_get-get_or}
use Rattle.vub_base.specs.declared.reading.RegionFault.{RegionFault}
use Rattle.vub_base.specs.declared.reading.Reading.{Reading}
use Rattle.vub_base.specs.declared.reading.Reading.TheVariants.{Damaged, Entries, Uninitialised}
use Rattle.vub_device.specs.Past.{is_among}
use Rattle.vub_ring.specs.Ring.{Ring, ahead, entry_of}
use Rattle.vub_split.specs.Words.{with_entry, IsRingSize}
use Rattle.vub_split.proofs.Rings.{entries_apart}
use Rattle.vub_inflight.specs.Entries.{heads_of}
use Rattle.vub_infl_split.specs.declared.region.SplitRegion.{SplitRegion}
use Rattle.vub_infl_split.specs.declared.region.SplitStore.{SplitStore}
use Rattle.vub_infl_split.specs.declared.region.SplitStore.TheVariants.{SP3, SP4, SP6, SP7}
use Rattle.vub_infl_split.specs.Region.{RegionWords}
use Rattle.vub_infl_split.specs.Readings.{made_fault, split_entries, split_reading}
use Rattle.vub_infl_split.specs.Stores as region_stores
use Rattle.vub_region_facts.specs.Starts.{Left, InStart}
use Rattle.vub_region_facts.specs.Phases.{index_step, note_step, IsBatch, InLife, NotStarted}
use Rattle.vub_region_facts.proofs.LifeLemmas as life
use Rattle.vub_region_facts.proofs.SoundLemmas.{left_reads}
use Rattle.vub_region_facts.proofs.StartLemmas.{left_undamaged}
use Rattle.vub_steps.specs.declared.steps.Phase.{Phase}
use Rattle.vub_steps.specs.declared.steps.Phase.TheVariants as phases
use Rattle.vub_steps.specs.declared.steps.Plan.{Plan}
use Rattle.vub_steps.specs.declared.steps.Plan.TheVariants as plans
use Rattle.vub_steps.specs.declared.steps.Step.{Step}
use Rattle.vub_steps.specs.declared.steps.Step.TheVariants as steps
use Rattle.vub_steps.specs.Steps.{steps_of, done_of, plan_steps, after_step}
use Rattle.vub_steps.specs.Rows.{Sight, region_store}
use Rattle.vub_steps.proofs.StartLemmas.{length_new, length_settles}
use Rattle.vub_steps.proofs.StepLemmas.{length_publish}
use Rattle.vub_facts.specs.Facts.{Side, Lies, Words, heads_in, without, head_next, InFetching, InBatch, IsBuilt, BatchFacts, Facts, course_in, IsInPhase, IsDue, counted, with_phase, sight, side_after, next_counter_in, heads_after, with_stored, words_after}
use Rattle.vub_facts.proofs.Places.{IsStarting, IsRunning, bells, Place, place_of, left_due, start_goes_on, start_ends, count_after, accept_after, publish_goes_on, publish_ends}
use Rattle.vub_facts.proofs.FactStarts.{runs_on, features_kept, free_kept, open_kept, settle_kept, settle_end_kept, bell_kept}

-- ---- what the facts say in a phase

pub batch_in : (n : ℕ) (heads : List ℕ) (base : ℕ) (p : Phase) (x : Side) (w : Words) → x.phase ≡ p → Facts n heads base x w → BatchFacts n heads x w p
batch_in n heads base p x w at f = subst (λ (q : Phase). BatchFacts n heads x w q) at f.batch

pub life_in : (n : ℕ) (heads : List ℕ) (base : ℕ) (p : Phase) (x : Side) (w : Words) → IsRunning p x → Facts n heads base x w → InLife n w.ring.used (head_next heads w) x.counter heads (heads_in x.batch) p w.region
life_in n heads base p x w at f = subst (λ (q : Phase). InLife n w.ring.used (head_next heads w) x.counter heads (heads_in x.batch) q w.region) at.place (f.in_life at.started)

start_in : (n : ℕ) (heads : List ℕ) (base done : ℕ) (x : Side) (w : Words) → IsStarting done x → Facts n heads base x w → InStart n w.ring.used heads base x.plan done w.region
start_in n heads base done x w at f = subst (λ (q : Phase). NotStarted n w.ring.used heads base x.plan q w.region) at.place (f.not_started at.not_started)

-- of a start with this plan
pub plan_in : (n : ℕ) (heads : List ℕ) (base done : ℕ) (plan : Plan) (x : Side) (w : Words) → IsStarting done x → x.plan ≡ plan → Facts n heads base x w → InStart n w.ring.used heads base plan done w.region
plan_in n heads base done plan x w at is f = subst (λ (p : Plan). InStart n w.ring.used heads base p done w.region) is (start_in n heads base done x w at f)

-- the heads of a batch are entries of the region
pub batch_entries : (n : ℕ) (heads : List ℕ) (bell : Bool) (batch : List (ℕ × ℕ)) (done : ℕ) → InBatch n heads bell batch done → IsBatch n (heads_in batch)
batch_entries n heads bell batch done b = record { few = subst (λ (k : ℕ). k ≤ n) (sym (length-map batch (λ (x : ℕ × ℕ). x.0))) b.few; distinct = b.distinct; below = b.below }

-- ---- what a next life finds

pub facts_left : (n : ℕ) (heads : List ℕ) (base : ℕ) (x : Side) (w : Words) → Facts n heads base x w → Left n w.ring.used heads base w.region
facts_left n heads base x w f = elim (cases_Bool x.started) [
  | inl on ↦ life.life_left n w.ring.used (head_next heads w) x.counter base heads (heads_in x.batch) x.phase w.region (f.in_life on)
  | inr off ↦ life.not_started_left n w.ring.used heads base x.plan x.phase w.region (f.not_started off)
]

-- it reads the open heads
pub facts_read : (n : ℕ) (heads : List ℕ) (base : ℕ) (x : Side) (w : Words) → Facts n heads base x w → heads_of (split_entries n w.ring.used w.region) ≡ heads
facts_read n heads base x w f = left_reads n w.ring.used heads base w.region (facts_left n heads base x w f)

undamaged : (n used : ℕ) (heads : List ℕ) (base : ℕ) (w : RegionWords) (fault : RegionFault) → Left n used heads base w → split_reading n used w ≢ Damaged fault
undamaged n used heads base w fault left damaged = elim (cases_eq w.version 0) [
  | inl new ↦ (let is : split_reading n used w ≡ Uninitialised = grind (arith, nat_tests) in let fails : ◌≡◌ {A = Reading} Uninitialised (Damaged fault) = sym is ∙ damaged in cc)
  | inr made ↦ (
      let none : made_fault n used w ≡ None = left_undamaged n used heads base w left made in
      let is : split_reading n used w ≡ Entries = grind (arith, nat_tests) in
      let fails : ◌≡◌ {A = Reading} Entries (Damaged fault) = sym is ∙ damaged in cc)
]

-- and no damage
pub facts_undamaged : (n : ℕ) (heads : List ℕ) (base : ℕ) (x : Side) (w : Words) → Facts n heads base x w → (fault : RegionFault) → split_reading n w.ring.used w.region ≢ Damaged fault
facts_undamaged n heads base x w f fault = undamaged n w.ring.used heads base w.region fault (facts_left n heads base x w f)

-- ---- begins

-- a fetch begins where something waits, its head is a free one of n, and a counter is left
pub fetch_begins : (n : ℕ) (heads : List ℕ) (base : ℕ) (x : Side) (w : Words) → x.started ≡ true → x.phase ≡ phases.Rest → x.batch ≡ [] → 0 < ahead w.ring.avail (w.ring.used + length heads) → head_next heads w < n
    → is_among heads (head_next heads w) ≡ false → x.counter < 18446744073709551615 → Facts n heads base x w → Facts n heads base (record x { phase = phases.Fetch 0 }) w
fetch_begins n heads base x w on rest none some below free low f = record {
  used_fits = f.used_fits;
  not_started = λ off. runs_on on off;
  in_life = λ y. life.fetch_begins n w.ring.used (head_next heads w) (head_next heads w) x.counter heads (heads_in x.batch) w.region (life_in n heads base phases.Rest x w (record { started = on; place = rest }) f);
  batch = record { none = none; waits = some; left = omega arith; below = below; free = free; low = λ first. low };
}

-- of a batch nothing is built yet
pub none_built : (w : Words) (batch : List (ℕ × ℕ)) → IsBuilt w batch 0
none_built w batch = record { ids = λ e l some le. absurd (omega (arith, some)); lens = λ e l some le. absurd (omega (arith, some)) }

pub publication_begins : (n : ℕ) (heads : List ℕ) (base : ℕ) (x : Side) (batch : List (ℕ × ℕ)) (w : Words) → x.started ≡ true → x.phase ≡ phases.Rest → InBatch n heads x.bell batch 0 → Facts n heads base x w
    → Facts n heads base (record x { phase = phases.Publish 0; batch = batch }) w
publication_begins n heads base x batch w on rest b f = record {
  used_fits = f.used_fits;
  not_started = λ off. runs_on on off;
  in_life = λ y. life.publication_begins n w.ring.used (head_next heads w) x.counter heads (heads_in batch) (heads_in x.batch) w.region (life_in n heads base phases.Rest x w (record { started = on; place = rest }) f);
  batch = (b, none_built w batch);
}

-- ---- what is under way has a next step

pub fetch_due : (n : ℕ) (heads : List ℕ) (base done : ℕ) (x : Side) (w : Words) → IsRunning (phases.Fetch done) x → Facts n heads base x w → (step : Step) × IsDue n step x
fetch_due n heads base done x w at f =
    let b : InFetching n heads x.counter x.batch done w = batch_in n heads base (phases.Fetch done) x w at.place f in
    left_due n x (subst (λ (p : Phase). IsInPhase x.started p) (sym at.place) at.started) (subst (λ (p : Phase). done_of p < length (steps_of (course_in n x) p)) (sym at.place) b.left)

pub publication_due : (n : ℕ) (heads : List ℕ) (base done : ℕ) (x : Side) (w : Words) → IsRunning (phases.Publish done) x → Facts n heads base x w → (step : Step) × IsDue n step x
publication_due n heads base done x w at f =
    let b : InBatch n heads x.bell x.batch done × IsBuilt w x.batch done = batch_in n heads base (phases.Publish done) x w at.place f in
    left_due n x (subst (λ (p : Phase). IsInPhase x.started p) (sym at.place) at.started) (subst (λ (p : Phase). done_of p < length (steps_of (course_in n x) p)) (sym at.place) b.0.left)

-- ---- a store of the driver

-- what a fetch that is under way sees: something waits, and the entry at the avail position is as it was
abbrev pub SeesSame : List ℕ → ℕ → (ℕ → ℕ) → Words → Phase → Type 0
SeesSame heads avail entries w p = (done : ℕ) → p ≡ phases.Fetch done → (0 < ahead avail (w.ring.used + length heads)) × (entries (w.ring.used + length heads) ≡ head_next heads w)

-- the words of the avail ring matter to a fetch alone
pub avail_changes : (n : ℕ) (heads : List ℕ) (base avail : ℕ) (entries : ℕ → ℕ) (x : Side) (w : Words) → SeesSame heads avail entries w x.phase
    → Facts n heads base x w → Facts n heads base x (record w { ring = record w.ring { avail = avail; heads = entries } })
avail_changes n heads base avail entries x w sees f = record {
  used_fits = f.used_fits;
  not_started = f.not_started;
  in_life = λ on. lives x.phase sees (f.in_life on);
  batch = go x.phase sees f.batch;
}
  where
    lives : (p : Phase) → SeesSame heads avail entries w p → InLife n w.ring.used (head_next heads w) x.counter heads (heads_in x.batch) p w.region → InLife n w.ring.used (entries (w.ring.used + length heads)) x.counter heads (heads_in x.batch) p w.region
    lives phases.Rest s l = record { sound = l.sound; below = l.below; under_way = l.under_way }
    lives (phases.Start done) s l = record { sound = l.sound; below = l.below; under_way = l.under_way }
    lives (phases.Fetch done) s l = subst (λ (h : ℕ). InLife n w.ring.used h x.counter heads (heads_in x.batch) (phases.Fetch done) w.region) (sym (s done refl).1) l
    lives (phases.Publish done) s l = record { sound = l.sound; below = l.below; under_way = l.under_way }

    go : (p : Phase) → SeesSame heads avail entries w p → BatchFacts n heads x w p → BatchFacts n heads x (record w { ring = record w.ring { avail = avail; heads = entries } }) p
    go phases.Rest s b = b
    go (phases.Start done) s b = b
    go (phases.Fetch done) s b = record {
      none = b.none;
      waits = (s done refl).0;
      left = b.left;
      below = subst (λ (h : ℕ). h < n) (sym (s done refl).1) b.below;
      free = subst (λ (h : ℕ). is_among heads h ≡ false) (sym (s done refl).1) b.free;
      low = b.low;
    }
    go (phases.Publish done) s b = (b.0, record { ids = b.1.ids; lens = b.1.lens })

-- ---- id and length of an element

-- the entries of one batch are apart
places_apart : (r : Ring) (used j e : ℕ) → IsRingSize r.size → j < e → e < r.size → entry_of r (used + j) ≢ entry_of r (used + e)
places_apart r used j e size before inside = entries_apart r.size (used + j) (used + e) size.some size.laps (omega arith) (omega arith)

hit : (r : Ring) (k : ℕ) (x : ℕ × ℕ) (f : ℕ → ℕ × ℕ) → with_entry r k x f k ≡ x
hit r k x f = grind (arith, nat_tests)

miss : (r : Ring) (i k : ℕ) (x : ℕ × ℕ) (f : ℕ → ℕ × ℕ) → entry_of r i ≢ entry_of r k → with_entry r k x f i ≡ f i
miss r i k x f apart = grind (arith, nat_tests)

-- an element that stands already
old_element : (r : Ring) (used j e : ℕ) (x : ℕ × ℕ) (f : ℕ → ℕ × ℕ) → IsRingSize r.size → j < e → e < r.size → with_entry r (used + e) x f (used + j) ≡ f (used + j)
old_element r used j e x f size before inside = miss r (used + j) (used + e) x f (places_apart r used j e size before inside)

abbrev pub id_of : List (ℕ × ℕ) → ℕ → ℕ
id_of batch e = (get_or batch e (0, 0)).0

abbrev pub len_of : List (ℕ × ℕ) → ℕ → ℕ
len_of batch e = (get_or batch e (0, 0)).1

id_built : (r : Ring) (z : Sight) (e : ℕ) (w : Words) → IsRingSize r.size → e < length z.batch → length z.batch ≤ r.size → IsBuilt w z.batch (4 * e) → IsBuilt (words_after r z (steps.Id e) w) z.batch (4 * e + 1)
id_built r z e w size more few b =
    let batch : List (ℕ × ℕ) = z.batch in
    let used : ℕ = w.ring.used in
    let x : ℕ × ℕ = (id_of batch e, (w.ring.elements (used + e)).1) in
    let here : with_entry r (used + e) x w.ring.elements (used + e) ≡ x = hit r (used + e) x w.ring.elements in
    let old : (j : ℕ) → j < e → with_entry r (used + e) x w.ring.elements (used + j) ≡ w.ring.elements (used + j) = λ j before. old_element r used j e x w.ring.elements size before (omega (arith, more, few)) in
    record {
      ids = λ j low some le. elim (cases_eq j e) [
        | inl same ↦ subst (λ (k : ℕ). (with_entry r (used + e) x w.ring.elements (used + k)).0 ≡ id_of batch k) (sym same) (ap (λ (y : ℕ × ℕ). y.0) here)
        | inr other ↦ ap (λ (y : ℕ × ℕ). y.0) (old j (omega (arith, some, other))) ∙ b.ids j low (omega (arith, some, other)) (omega (arith, more))
      ];
      lens = λ j low some le. ap (λ (y : ℕ × ℕ). y.1) (old j (omega (arith, some))) ∙ b.lens j low (omega (arith, some)) (omega (arith, more));
    }

len_built : (r : Ring) (z : Sight) (e : ℕ) (w : Words) → IsRingSize r.size → e < length z.batch → length z.batch ≤ r.size → IsBuilt w z.batch (4 * e + 1) → IsBuilt (words_after r z (steps.Len e) w) z.batch (4 * e + 1 + 1)
len_built r z e w size more few b =
    let batch : List (ℕ × ℕ) = z.batch in
    let used : ℕ = w.ring.used in
    let x : ℕ × ℕ = ((w.ring.elements (used + e)).0, len_of batch e) in
    let here : with_entry r (used + e) x w.ring.elements (used + e) ≡ x = hit r (used + e) x w.ring.elements in
    let old : (j : ℕ) → j < e → with_entry r (used + e) x w.ring.elements (used + j) ≡ w.ring.elements (used + j) = λ j before. old_element r used j e x w.ring.elements size before (omega (arith, more, few)) in
    record {
      ids = λ j low some le. elim (cases_eq j e) [
        | inl same ↦ subst (λ (k : ℕ). (with_entry r (used + e) x w.ring.elements (used + k)).0 ≡ id_of batch k) (sym same) (ap (λ (y : ℕ × ℕ). y.0) here ∙ b.ids e more (omega arith) (omega (arith, more)))
        | inr other ↦ ap (λ (y : ℕ × ℕ). y.0) (old j (omega (arith, some, other))) ∙ b.ids j low (omega (arith, some, other)) (omega (arith, more))
      ];
      lens = λ j low some le. elim (cases_eq j e) [
        | inl same ↦ subst (λ (k : ℕ). (with_entry r (used + e) x w.ring.elements (used + k)).1 ≡ len_of batch k) (sym same) (ap (λ (y : ℕ × ℕ). y.1) here)
        | inr other ↦ ap (λ (y : ℕ × ℕ). y.1) (old j (omega (arith, some, other))) ∙ b.lens j low (omega (arith, some, other)) (omega (arith, more))
      ];
    }

-- a store into the region leaves them, where it comes before the next id
built_on : (batch : List (ℕ × ℕ)) (e done : ℕ) (g : RegionWords) (w : Words) → (done ≡ 4 * e + 2) ⊎ (done ≡ 4 * e + 3) → e < length batch → IsBuilt w batch done → IsBuilt (record w { region = g }) batch (done + 1)
built_on batch e done g w (inl at) more b = record { ids = λ j low some le. b.ids j low (omega (arith, some, at)) (omega (arith, at, more)); lens = λ j low some le. b.lens j low (omega (arith, some, at)) (omega (arith, at, more)) }
built_on batch e done g w (inr at) more b = record { ids = λ j low some le. b.ids j low (omega (arith, some, at)) (omega (arith, at, more)); lens = λ j low some le. b.lens j low (omega (arith, some, at)) (omega (arith, at, more)) }

-- once it is shown nothing is asked of them
shown_built : (batch : List (ℕ × ℕ)) (done : ℕ) (w : Words) → 4 * length batch < done → IsBuilt w batch done
shown_built batch done w shown = record { ids = λ j low some le. absurd (omega (arith, shown, le)); lens = λ j low some le. absurd (omega (arith, shown, le)) }

-- the batch at a later step that doesn't show it
batch_on : (n : ℕ) (heads : List ℕ) (bell : Bool) (batch : List (ℕ × ℕ)) (done next : ℕ) → done ≤ next → next ≤ 4 * length batch → InBatch n heads bell batch done → InBatch n heads bell batch next
batch_on n heads bell batch done next later unshown b = record {
  some = b.some;
  few = b.few;
  distinct = b.distinct;
  below = b.below;
  left = omega (arith, unshown, length_publish (length batch) bell);
  opens = λ le. b.opens (omega (arith, later, unshown));
}

-- and at one behind used.idx, whichever heads are open
batch_past : (n : ℕ) (heads others : List ℕ) (bell : Bool) (batch : List (ℕ × ℕ)) (done next : ℕ) → 4 * length batch < next → next < 5 * length batch + 2 + bells bell → InBatch n heads bell batch done → InBatch n others bell batch next
batch_past n heads others bell batch done next shown more b = record {
  some = b.some;
  few = b.few;
  distinct = b.distinct;
  below = b.below;
  left = omega (arith, more, length_publish (length batch) bell);
  opens = λ le. absurd (omega (arith, shown, le));
}

-- ---- what a step stores of an element

pub entry_is : (batch : List (ℕ × ℕ)) (e : ℕ) → e < length batch → slice_index (heads_in batch) e ≡ id_of batch e
entry_is batch e more = get_or-map (λ (x : ℕ × ℕ). x.0) batch e (0, 0) 0 more

pub link_store : (z : Sight) (e : ℕ) → e < length z.batch → region_store z (steps.Link e) ≡ Some (SP3 (id_of z.batch e) z.last_batch_head)
link_store z e more = ap (option_map (λ (x : ℕ × ℕ). SP3 x.0 z.last_batch_head)) (slice_get-get_or z.batch e (0, 0) more)

pub head_store : (z : Sight) (e : ℕ) → e < length z.batch → region_store z (steps.Head e) ≡ Some (SP4 (id_of z.batch e))
head_store z e more = ap (option_map (λ (x : ℕ × ℕ). SP4 x.0)) (slice_get-get_or z.batch e (0, 0) more)

pub clear_store : (z : Sight) (e : ℕ) → e < length z.batch → region_store z (steps.Clear e) ≡ Some (SP6 (id_of z.batch e))
clear_store z e more = ap (option_map (λ (x : ℕ × ℕ). SP6 x.0)) (slice_get-get_or z.batch e (0, 0) more)

-- ---- a step of a start

abbrev Keeps : Ring → List ℕ → ℕ → Step → Side → Words → Type 0
Keeps r heads base step x w = Facts r.size heads base x w → Facts r.size (heads_after step (head_next heads w) x.batch heads) base (side_after r.size (next_counter_in r.size w) step x) (words_after r (sight heads x w) step w)

-- the phase after a step of a start that isn't the last
start_on : (n : ℕ) (heads : List ℕ) (base done : ℕ) (x : Side) (w v : Words) → IsStarting done x → v.ring ≡ w.ring → done < length (plan_steps n x.plan) + bells x.bell → Facts n heads base x w
    → InStart n w.ring.used heads base x.plan (done + 1) v.region → Facts n heads base (with_phase (after_step (course_in n x) x.phase) x) v
start_on n heads base done x w v at same more f kept =
    let used : v.ring.used ≡ w.ring.used = ap (λ r. r.used) same in
    subst (λ (p : Phase). Facts n heads base (with_phase p x) v) (sym (start_goes_on n x done at.place more)) (record {
      used_fits = omega (arith, used, f.used_fits);
      not_started = λ off. subst (λ (u : ℕ). InStart n u heads base x.plan (done + 1) v.region) (sym used) kept;
      in_life = λ on. runs_on on at.not_started;
      batch = batch_in n heads base (phases.Start done) x w at.place f;
    })

-- of a plan
plan_on : (n : ℕ) (heads : List ℕ) (base done : ℕ) (plan : Plan) (x : Side) (w v : Words) → IsStarting done x → x.plan ≡ plan → v.ring ≡ w.ring → done < length (plan_steps n plan) → Facts n heads base x w
    → InStart n w.ring.used heads base plan (done + 1) v.region → Facts n heads base (with_phase (after_step (course_in n x) x.phase) x) v
plan_on n heads base done plan x w v at is same more f kept =
    start_on n heads base done x w v at same (omega (arith, more, ap (λ (p : Plan). length (plan_steps n p)) is)) f (subst (λ (p : Plan). InStart n w.ring.used heads base p (done + 1) v.region) (sym is) kept)

features_keeps : (r : Ring) (heads : List ℕ) (base : ℕ) (x : Side) (w : Words) → Place r.size steps.Features x → Keeps r heads base steps.Features x w
features_keeps r heads base x w at f =
    plan_on r.size heads base 0 plans.New x w (words_after r (sight heads x w) steps.Features w) at.0 at.1 refl (omega (arith, length_new r.size)) f
    (features_kept r.size w.ring.used heads base w.region (plan_in r.size heads base 0 plans.New x w at.0 at.1 f))

free_keeps : (r : Ring) (heads : List ℕ) (base i : ℕ) (x : Side) (w : Words) → Place r.size (steps.Free i) x → Keeps r heads base (steps.Free i) x w
free_keeps r heads base i x w at f =
    plan_on r.size heads base (i + 1) plans.New x w (words_after r (sight heads x w) (steps.Free i) w) at.0 at.1.0 refl (omega (arith, length_new r.size, at.1.1)) f
    (free_kept r.size w.ring.used heads base i w.region at.1.1 (plan_in r.size heads base (i + 1) plans.New x w at.0 at.1.0 f))

open_keeps : (r : Ring) (heads : List ℕ) (base : ℕ) (x : Side) (w : Words) → Place r.size steps.Open x → Keeps r heads base steps.Open x w
open_keeps r heads base x w at f =
    plan_on r.size heads base (r.size + 1) plans.New x w (words_after r (sight heads x w) steps.Open w) at.0 at.1 refl (omega (arith, length_new r.size)) f
    (open_kept r.size w.ring.used heads base w.region f.used_fits (plan_in r.size heads base (r.size + 1) plans.New x w at.0 at.1 f))

settle_keeps : (r : Ring) (heads : List ℕ) (base i : ℕ) (x : Side) (w : Words) → Place r.size (steps.Settle i) x → Keeps r heads base (steps.Settle i) x w
settle_keeps r heads base i x w at f =
    let count : ℕ = at.1.0 in
    let z : Phase → Sight = λ p. sight heads (record x { phase = p }) w in
    subst (λ (p : Phase). Facts r.size heads base (with_phase (after_step (course_in r.size x) x.phase) x) (words_after r (z p) (steps.Settle i) w)) (sym at.0.place)
    (plan_on r.size heads base i (plans.Settles count) x w (words_after r (z (phases.Start i)) (steps.Settle i) w) at.0 at.1.1.0 refl (omega (arith, length_settles r.size count, at.1.1.1)) f
    (settle_kept r.size w.ring.used heads base count i w.region at.1.1.1 (plan_in r.size heads base i (plans.Settles count) x w at.0 at.1.1.0 f)))

settle_end_keeps : (r : Ring) (heads : List ℕ) (base : ℕ) (x : Side) (w : Words) → Place r.size steps.SettleEnd x → Keeps r heads base steps.SettleEnd x w
settle_end_keeps r heads base x w at f =
    let count : ℕ = at.0 in
    plan_on r.size heads base count (plans.Settles count) x w (words_after r (sight heads x w) steps.SettleEnd w) at.1.0 at.1.1 refl (omega (arith, length_settles r.size count)) f
    (settle_end_kept r.size w.ring.used heads base count w.region f.used_fits (plan_in r.size heads base count (plans.Settles count) x w at.1.0 at.1.1 f))

start_keeps : (r : Ring) (heads : List ℕ) (base : ℕ) (x : Side) (w : Words) → Place r.size steps.Start x → Keeps r heads base steps.Start x w
start_keeps r heads base x w at f =
    let done : ℕ = length (plan_steps r.size x.plan) + bells x.bell in
    let p : InStart r.size w.ring.used heads base x.plan done w.region = start_in r.size heads base done x w at f in
    subst (λ (q : Phase). Facts r.size heads base (with_phase q (counted (next_counter_in r.size w) steps.Start x)) w) (sym (start_ends r.size x at.place)) (record {
      used_fits = f.used_fits;
      not_started = λ off. runs_on refl off;
      in_life = λ on. life.life_begins r.size w.ring.used (head_next heads w) heads [] w.region (p.settled (omega arith));
      batch = refl;
    })

-- ---- a step of a fetch

count_keeps : (r : Ring) (heads : List ℕ) (base : ℕ) (x : Side) (w : Words) → Place r.size steps.Count x → Keeps r heads base steps.Count x w
count_keeps r heads base x w at f =
    let b : InFetching r.size heads x.counter x.batch 0 w = batch_in r.size heads base (phases.Fetch 0) x w at.place f in
    subst (λ (q : Phase). Facts r.size heads base (with_phase q (counted (next_counter_in r.size w) steps.Count x)) (words_after r (sight heads x w) steps.Count w)) (sym (count_after r.size x at.place)) (record {
      used_fits = f.used_fits;
      not_started = λ off. runs_on at.started off;
      in_life = λ on. life.fetch_gives_counter r.size w.ring.used (head_next heads w) x.counter heads (heads_in x.batch) w.region f.used_fits b.below b.free (b.low refl) (life_in r.size heads base (phases.Fetch 0) x w at f);
      batch = record { none = b.none; waits = b.waits; left = omega arith; below = b.below; free = b.free; low = λ first. absurd (omega (arith, first)) };
    })

accept_keeps : (r : Ring) (heads : List ℕ) (base : ℕ) (x : Side) (w : Words) → Place r.size steps.Accept x → Keeps r heads base steps.Accept x w
accept_keeps r heads base x w at f =
    let b : InFetching r.size heads x.counter x.batch 1 w = batch_in r.size heads base (phases.Fetch 1) x w at.place f in
    let now : List ℕ = heads ++ head_next heads w ∷ [] in
    let v : Words = words_after r (sight heads x w) steps.Accept w in
    let l : InLife r.size w.ring.used (head_next now v) x.counter now (heads_in x.batch) phases.Rest v.region =
    life.fetch_accepts r.size w.ring.used (head_next heads w) (head_next now v) x.counter heads (heads_in x.batch) w.region f.used_fits (life_in r.size heads base (phases.Fetch 1) x w at f) in
    subst (λ (q : Phase). Facts r.size now base (with_phase q (counted (next_counter_in r.size w) steps.Accept x)) v) (sym (accept_after r.size x at.place)) (record {
      used_fits = f.used_fits;
      not_started = λ off. runs_on at.started off;
      in_life = λ on. subst (λ (batch : List (ℕ × ℕ)). InLife r.size w.ring.used (head_next now v) x.counter now (heads_in batch) phases.Rest v.region) b.none l;
      batch = refl;
    })

-- ---- a step of a publication

-- one that isn't the last
publish_on : (n : ℕ) (heads : List ℕ) (base done : ℕ) (x : Side) (v : Words) → IsRunning (phases.Publish done) x → done + 1 < 5 * length x.batch + 2 + bells x.bell → v.ring.used < 65536
    → InLife n v.ring.used (head_next heads v) x.counter heads (heads_in x.batch) (phases.Publish (done + 1)) v.region → InBatch n heads x.bell x.batch (done + 1) → IsBuilt v x.batch (done + 1)
    → Facts n heads base (with_phase (after_step (course_in n x) x.phase) x) v
publish_on n heads base done x v at more fits l b built =
    subst (λ (q : Phase). Facts n heads base (with_phase q x) v) (sym (publish_goes_on n x done at.place more)) (record { used_fits = fits; not_started = λ off. runs_on at.started off; in_life = λ on. l; batch = (b, built) })

-- the last one
publish_over : (n : ℕ) (heads : List ℕ) (base done : ℕ) (x : Side) (v : Words) → IsRunning (phases.Publish done) x → done + 1 ≡ 5 * length x.batch + 2 + bells x.bell → v.ring.used < 65536
    → InLife n v.ring.used (head_next heads v) x.counter heads (heads_in x.batch) (phases.Publish (done + 1)) v.region → Facts n heads base (with_phase (after_step (course_in n x) x.phase) x) v
publish_over n heads base done x v at last fits l =
    let long : length (heads_in x.batch) ≡ length x.batch = length-map x.batch (λ (y : ℕ × ℕ). y.0) in
    subst (λ (q : Phase). Facts n heads base (with_phase q x) v) (sym (publish_ends n x done at.place last)) (record {
      used_fits = fits;
      not_started = λ off. runs_on at.started off;
      in_life = λ on. life.publication_ends n v.ring.used (head_next heads v) x.counter heads (heads_in x.batch) [] (done + 1) v.region (omega (arith, long, last)) l;
      batch = refl;
    })

id_keeps : (r : Ring) (heads : List ℕ) (base e : ℕ) (x : Side) (w : Words) → IsRingSize r.size → Place r.size (steps.Id e) x → Keeps r heads base (steps.Id e) x w
id_keeps r heads base e x w size at f =
    let b : InBatch r.size heads x.bell x.batch (4 * e) × IsBuilt w x.batch (4 * e) = batch_in r.size heads base (phases.Publish (4 * e)) x w at.0.place f in
    let long : length (heads_in x.batch) ≡ length x.batch = length-map x.batch (λ (y : ℕ × ℕ). y.0) in
    publish_on r.size heads base (4 * e) x (words_after r (sight heads x w) (steps.Id e) w) at.0 (omega (arith, at.1)) f.used_fits
    (life.publication_stores_element r.size w.ring.used (head_next heads w) x.counter heads (heads_in x.batch) e (4 * e) w.region (omega (arith, long, at.1)) (inl refl) (life_in r.size heads base (phases.Publish (4 * e)) x w at.0 f))
    (batch_on r.size heads x.bell x.batch (4 * e) (4 * e + 1) (omega arith) (omega (arith, at.1)) b.0)
    (id_built r (sight heads x w) e w size at.1 b.0.few b.1)

len_keeps : (r : Ring) (heads : List ℕ) (base e : ℕ) (x : Side) (w : Words) → IsRingSize r.size → Place r.size (steps.Len e) x → Keeps r heads base (steps.Len e) x w
len_keeps r heads base e x w size at f =
    let b : InBatch r.size heads x.bell x.batch (4 * e + 1) × IsBuilt w x.batch (4 * e + 1) = batch_in r.size heads base (phases.Publish (4 * e + 1)) x w at.0.place f in
    let long : length (heads_in x.batch) ≡ length x.batch = length-map x.batch (λ (y : ℕ × ℕ). y.0) in
    publish_on r.size heads base (4 * e + 1) x (words_after r (sight heads x w) (steps.Len e) w) at.0 (omega (arith, at.1)) f.used_fits
    (life.publication_stores_element r.size w.ring.used (head_next heads w) x.counter heads (heads_in x.batch) e (4 * e + 1) w.region (omega (arith, long, at.1)) (inr refl) (life_in r.size heads base (phases.Publish (4 * e + 1)) x w at.0 f))
    (batch_on r.size heads x.bell x.batch (4 * e + 1) (4 * e + 1 + 1) (omega arith) (omega (arith, at.1)) b.0)
    (len_built r (sight heads x w) e w size at.1 b.0.few b.1)

-- words after a store into the region
abbrev stored : ℕ → SplitStore → Words → Words
stored n st w = record w { region = region_stores.words_after n st w.region }

link_keeps : (r : Ring) (heads : List ℕ) (base e : ℕ) (x : Side) (w : Words) → Place r.size (steps.Link e) x → Keeps r heads base (steps.Link e) x w
link_keeps r heads base e x w at f =
    let done : ℕ = 4 * e + 2 in
    let b : InBatch r.size heads x.bell x.batch done × IsBuilt w x.batch done = batch_in r.size heads base (phases.Publish done) x w at.0.place f in
    let long : length (heads_in x.batch) ≡ length x.batch = length-map x.batch (λ (y : ℕ × ℕ). y.0) in
    let st : ℕ → SplitStore = λ entry. SP3 entry w.region.last_batch_head in
    let lives : ℕ → ℕ → Type 0 = λ entry next. InLife r.size w.ring.used (head_next heads w) x.counter heads (heads_in x.batch) (phases.Publish next) (region_stores.words_after r.size (st entry) w.region) in
    let l : lives (slice_index (heads_in x.batch) e) (4 * e + 3) =
    life.publication_stores_link r.size w.ring.used (head_next heads w) x.counter heads (heads_in x.batch) e w.region f.used_fits (omega (arith, long, at.1)) (batch_entries r.size heads x.bell x.batch done b.0) (life_in r.size heads base (phases.Publish done) x w at.0 f) in
    let on : 4 * e + 3 ≡ 4 * e + 2 + 1 = omega arith in
    subst (λ (o : Option SplitStore). Facts r.size heads base (with_phase (after_step (course_in r.size x) x.phase) x) (with_stored r.size o w)) (sym (link_store (sight heads x w) e at.1))
    (publish_on r.size heads base done x (stored r.size (st (id_of x.batch e)) w) at.0 (omega (arith, at.1)) f.used_fits
    (subst (λ (k : ℕ). lives (id_of x.batch e) k) on (subst (λ (h : ℕ). lives h (4 * e + 3)) (entry_is x.batch e at.1) l))
    (batch_on r.size heads x.bell x.batch done (done + 1) (omega arith) (omega (arith, at.1)) b.0)
    (built_on x.batch e done (region_stores.words_after r.size (st (id_of x.batch e)) w.region) w (inl refl) at.1 b.1))

head_keeps : (r : Ring) (heads : List ℕ) (base e : ℕ) (x : Side) (w : Words) → IsRingSize r.size → Place r.size (steps.Head e) x → Keeps r heads base (steps.Head e) x w
head_keeps r heads base e x w size at f =
    let done : ℕ = 4 * e + 3 in
    let b : InBatch r.size heads x.bell x.batch done × IsBuilt w x.batch done = batch_in r.size heads base (phases.Publish done) x w at.0.place f in
    let long : length (heads_in x.batch) ≡ length x.batch = length-map x.batch (λ (y : ℕ × ℕ). y.0) in
    let lives : ℕ → ℕ → Type 0 = λ entry next. InLife r.size w.ring.used (head_next heads w) x.counter heads (heads_in x.batch) (phases.Publish next) (region_stores.words_after r.size (SP4 entry) w.region) in
    let l : lives (slice_index (heads_in x.batch) e) (4 * e + 4) =
    life.publication_sets_last_batch_head r.size w.ring.used (head_next heads w) x.counter heads (heads_in x.batch) e w.region (omega (arith, size.few)) f.used_fits (omega (arith, long, at.1)) (batch_entries r.size heads x.bell x.batch done b.0)
    (life_in r.size heads base (phases.Publish done) x w at.0 f) in
    let on : 4 * e + 4 ≡ 4 * e + 3 + 1 = omega arith in
    subst (λ (o : Option SplitStore). Facts r.size heads base (with_phase (after_step (course_in r.size x) x.phase) x) (with_stored r.size o w)) (sym (head_store (sight heads x w) e at.1))
    (publish_on r.size heads base done x (stored r.size (SP4 (id_of x.batch e)) w) at.0 (omega (arith, at.1)) f.used_fits
    (subst (λ (k : ℕ). lives (id_of x.batch e) k) on (subst (λ (h : ℕ). lives h (4 * e + 4)) (entry_is x.batch e at.1) l))
    (batch_on r.size heads x.bell x.batch done (done + 1) (omega arith) (omega (arith, at.1)) b.0)
    (built_on x.batch e done (region_stores.words_after r.size (SP4 (id_of x.batch e)) w.region) w (inr refl) at.1 b.1))

index_keeps : (r : Ring) (heads : List ℕ) (base : ℕ) (x : Side) (w : Words) → IsRingSize r.size → Place r.size steps.Index x → Keeps r heads base steps.Index x w
index_keeps r heads base x w size at f =
    let batch : List ℕ = heads_in x.batch in
    let done : ℕ = 4 * length x.batch in
    let b : InBatch r.size heads x.bell x.batch done × IsBuilt w x.batch done = batch_in r.size heads base (phases.Publish done) x w at.place f in
    let long : length batch ≡ length x.batch = length-map x.batch (λ (y : ℕ × ℕ). y.0) in
    let v : Words = words_after r (sight heads x w) steps.Index w in
    let now : List ℕ = without batch heads in
    let before : InLife r.size w.ring.used (head_next heads w) x.counter heads batch (phases.Publish (index_step batch)) w.region =
    subst (λ (k : ℕ). InLife r.size w.ring.used (head_next heads w) x.counter heads batch (phases.Publish (4 * k)) w.region) (sym long) (life_in r.size heads base (phases.Publish done) x w at f) in
    let l : InLife r.size ((w.ring.used + length batch) % 65536) (head_next now v) x.counter now batch (phases.Publish (4 * length batch + 1)) w.region =
    life.publication_shows_batch r.size w.ring.used (head_next heads w) (head_next now v) x.counter heads batch w.region (omega (arith, size.few)) f.used_fits (batch_entries r.size heads x.bell x.batch done b.0) before in
    publish_on r.size now base done x v at (omega (arith, b.0.some)) (omega arith)
    (subst (λ (k : ℕ). InLife r.size ((w.ring.used + k) % 65536) (head_next now v) x.counter now batch (phases.Publish (4 * k + 1)) w.region) long l)
    (batch_past r.size heads now x.bell x.batch done (done + 1) (omega arith) (omega (arith, b.0.some)) b.0)
    (shown_built x.batch (done + 1) v (omega arith))

clear_keeps : (r : Ring) (heads : List ℕ) (base e : ℕ) (x : Side) (w : Words) → Place r.size (steps.Clear e) x → Keeps r heads base (steps.Clear e) x w
clear_keeps r heads base e x w at f =
    let batch : List ℕ = heads_in x.batch in
    let done : ℕ = 4 * length x.batch + 1 + e in
    let b : InBatch r.size heads x.bell x.batch done × IsBuilt w x.batch done = batch_in r.size heads base (phases.Publish done) x w at.0.place f in
    let long : length batch ≡ length x.batch = length-map x.batch (λ (y : ℕ × ℕ). y.0) in
    let before : InLife r.size w.ring.used (head_next heads w) x.counter heads batch (phases.Publish (index_step batch + 1 + e)) w.region =
    subst (λ (k : ℕ). InLife r.size w.ring.used (head_next heads w) x.counter heads batch (phases.Publish (4 * k + 1 + e)) w.region) (sym long) (life_in r.size heads base (phases.Publish done) x w at.0 f) in
    let lives : ℕ → ℕ → Type 0 = λ entry next. InLife r.size w.ring.used (head_next heads w) x.counter heads batch (phases.Publish next) (region_stores.words_after r.size (SP6 entry) w.region) in
    let l : lives (slice_index batch e) (index_step batch + 1 + (e + 1)) = life.publication_clears_entry r.size w.ring.used (head_next heads w) x.counter heads batch e w.region (omega (arith, long, at.1)) before in
    let on : index_step batch + 1 + (e + 1) ≡ done + 1 = omega (arith, long) in
    let v : Words = stored r.size (SP6 (id_of x.batch e)) w in
    subst (λ (o : Option SplitStore). Facts r.size heads base (with_phase (after_step (course_in r.size x) x.phase) x) (with_stored r.size o w)) (sym (clear_store (sight heads x w) e at.1))
    (publish_on r.size heads base done x v at.0 (omega (arith, at.1)) f.used_fits
    (subst (λ (k : ℕ). lives (id_of x.batch e) k) on (subst (λ (h : ℕ). lives h (index_step batch + 1 + (e + 1))) (entry_is x.batch e at.1) l))
    (batch_past r.size heads heads x.bell x.batch done (done + 1) (omega arith) (omega (arith, at.1)) b.0)
    (shown_built x.batch (done + 1) v (omega arith)))

note_keeps : (r : Ring) (heads : List ℕ) (base : ℕ) (x : Side) (w : Words) → Place r.size steps.Note x → Keeps r heads base steps.Note x w
note_keeps r heads base x w at f =
    let batch : List ℕ = heads_in x.batch in
    let done : ℕ = 4 * length x.batch + 1 + length x.batch in
    let b : InBatch r.size heads x.bell x.batch done × IsBuilt w x.batch done = batch_in r.size heads base (phases.Publish done) x w at.place f in
    let long : length batch ≡ length x.batch = length-map x.batch (λ (y : ℕ × ℕ). y.0) in
    let before : InLife r.size w.ring.used (head_next heads w) x.counter heads batch (phases.Publish (note_step batch)) w.region =
    subst (λ (k : ℕ). InLife r.size w.ring.used (head_next heads w) x.counter heads batch (phases.Publish (4 * k + 1 + k)) w.region) (sym long) (life_in r.size heads base (phases.Publish done) x w at f) in
    let v : Words = stored r.size (SP7 w.ring.used) w in
    let l : InLife r.size w.ring.used (head_next heads w) x.counter heads batch (phases.Publish (4 * length batch + 1 + length batch + 1)) v.region =
    life.publication_notes_batch r.size w.ring.used (head_next heads w) x.counter heads batch w.region f.used_fits before in
    let l2 : InLife r.size w.ring.used (head_next heads w) x.counter heads batch (phases.Publish (done + 1)) v.region =
    subst (λ (k : ℕ). InLife r.size w.ring.used (head_next heads w) x.counter heads batch (phases.Publish (4 * k + 1 + k + 1)) v.region) long l in
    elim (cases_Bool x.bell) [
      | inl rings ↦
          let one : bells x.bell ≡ 1 = ap bells rings in
          publish_on r.size heads base done x v at (omega (arith, one)) f.used_fits l2 (batch_past r.size heads heads x.bell x.batch done (done + 1) (omega arith) (omega (arith, one)) b.0) (shown_built x.batch (done + 1) v (omega arith))
      | inr silent ↦
          let none : bells x.bell ≡ 0 = ap bells silent in
          publish_over r.size heads base done x v at (omega (arith, none)) f.used_fits l2
    ]

-- ---- the bell

bell_keeps : (r : Ring) (heads : List ℕ) (base : ℕ) (x : Side) (w : Words) → Place r.size steps.Bell x → Keeps r heads base steps.Bell x w
bell_keeps r heads base x w (rings, inl at) f =
    let one : bells x.bell ≡ 1 = ap bells rings in
    let done : ℕ = length (plan_steps r.size x.plan) in
    start_on r.size heads base done x w w at refl (omega (arith, one)) f (bell_kept r.size w.ring.used heads base x.plan w.region (start_in r.size heads base done x w at f))
bell_keeps r heads base x w (rings, inr at) f =
    let one : bells x.bell ≡ 1 = ap bells rings in
    let batch : List ℕ = heads_in x.batch in
    let long : length batch ≡ length x.batch = length-map x.batch (λ (y : ℕ × ℕ). y.0) in
    let done : ℕ = 4 * length x.batch + 1 + (length x.batch + 1) in
    publish_over r.size heads base done x w at (omega (arith, one)) f.used_fits
    (life.publication_past_note r.size w.ring.used (head_next heads w) x.counter heads batch done w.region (omega (arith, long)) (life_in r.size heads base (phases.Publish done) x w at f))

-- ---- each step of a split queue

placed_keeps : (r : Ring) (heads : List ℕ) (base : ℕ) (step : Step) (x : Side) (w : Words) → IsRingSize r.size → Place r.size step x → Keeps r heads base step x w
placed_keeps r heads base steps.Features x w size at = features_keeps r heads base x w at
placed_keeps r heads base (steps.Free i) x w size at = free_keeps r heads base i x w at
placed_keeps r heads base steps.Open x w size at = open_keeps r heads base x w at
placed_keeps r heads base (steps.Settle i) x w size at = settle_keeps r heads base i x w at
placed_keeps r heads base steps.SettleEnd x w size at = settle_end_keeps r heads base x w at
placed_keeps r heads base steps.Bell x w size at = bell_keeps r heads base x w at
placed_keeps r heads base steps.Start x w size at = start_keeps r heads base x w at
placed_keeps r heads base steps.Count x w size at = count_keeps r heads base x w at
placed_keeps r heads base steps.Accept x w size at = accept_keeps r heads base x w at
placed_keeps r heads base (steps.Id e) x w size at = id_keeps r heads base e x w size at
placed_keeps r heads base (steps.Len e) x w size at = len_keeps r heads base e x w size at
placed_keeps r heads base (steps.Link e) x w size at = link_keeps r heads base e x w at
placed_keeps r heads base (steps.Head e) x w size at = head_keeps r heads base e x w size at
placed_keeps r heads base steps.Index x w size at = index_keeps r heads base x w size at
placed_keeps r heads base (steps.Clear e) x w size at = clear_keeps r heads base e x w at
placed_keeps r heads base steps.Note x w size at = note_keeps r heads base x w at

pub step_keeps : (r : Ring) (g : SplitRegion) (heads : List ℕ) (base : ℕ) (step : Step) (x : Side) (w : Words) → Lies r g → IsDue r.size step x → Keeps r heads base step x w
step_keeps r g heads base step x w lies due = placed_keeps r heads base step x w lies.size (place_of r.size step x due)
