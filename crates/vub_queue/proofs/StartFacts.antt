-- A turn of a start carries the facts of a queue on.
use Rattle.std.proofs.Common.{◌≡◌, ◌≤◌, ◌<◌, ℕ, zero, suc, ◌+◌, Bool, true, false, List, [], ◌∷◌, ◌++◌, length, set, get_or, refl, ap, sym, ◌∙◌, subst, inl, inr, arith, cond, map}
use Rattle.std.specs.Prelude.{Option, Some, None, slice_get, nat_lt, ◌&&◌, ◌||◌, Result}
use Rattle.std.specs.Option.{option_or}
use Rattle.std.proofs.lemmas.Bool.{cases_Bool, cases_lt, cases_eq}
use Rattle.std.proofs.lemmas.Bool.Decides.{nat_tests}
use Rattle.std.proofs.lemmas.List.{length-map, length-set, get_or-set_same, get_or-set_other}
use Rattle.vub_base.specs.declared.pending.Pending.{Pending}
use Rattle.vub_shared.specs.Bytes.{Bytes, Apart}
use Rattle.vub_shared.specs.Stores.{Stores, after_store}
use Rattle.vub_device.specs.Past.{is_among}
use Rattle.vub_device.specs.Places.{are_distinct}
use Rattle.vub_ring.specs.Ring.{Ring}
use Rattle.vub_split.specs.Split.{used_idx_word}
use Rattle.vub_split.specs.Words.{used_bytes}
use Rattle.vub_split.specs.declared.split.SplitRing.{SplitRing}
use Rattle.vub_inflight.specs.Entries.{heads_of, next_counter}
use Rattle.vub_inflight.specs.Links.{link_at}
use Rattle.vub_inflight.proofs.EntryLemmas.{among_by_counter, distinct_by_counter}
use Rattle.vub_infl_split.specs.declared.region.SplitRegion.{SplitRegion}
use Rattle.vub_infl_split.specs.declared.region.SplitStore.{SplitStore}
use Rattle.vub_infl_split.specs.Region.{RegionWords, words_of, region_size}
use Rattle.vub_infl_split.specs.Stores.{store_of, tag_of, NamesEntry, ValueFits}
use Rattle.vub_infl_split.specs.Stores.{words_after as words_after_region}
use Rattle.vub_infl_split.specs.Sound.{Sound}
use Rattle.vub_infl_split.specs.Readings.{one_each, is_open, open_entries, unchecked_entries}
use Rattle.vub_infl_split.proofs.ReadingLemmas.{sound_unchecked}
use Rattle.vub_region_facts.specs.Starts.{Left, InStart}
use Rattle.vub_steps.specs.declared.steps.Phase.{Phase}
use Rattle.vub_steps.specs.declared.steps.Phase.TheVariants as phases
use Rattle.vub_steps.specs.declared.steps.Plan.{Plan}
use Rattle.vub_steps.specs.declared.steps.Plan.TheVariants as plans
use Rattle.vub_steps.specs.declared.steps.Step.{Step}
use Rattle.vub_steps.specs.declared.steps.Step.TheVariants as steps
use Rattle.vub_steps.specs.Plans.{plan_of}
use Rattle.vub_steps.specs.Rows.{Sight, region_step, region_step_at, running_step, region_store}
use Rattle.vub_steps.specs.Steps.{plan_steps, bell_steps, after_step}
use Rattle.vub_rec_split.specs.declared.plan.Recovered.{Recovered}
use Rattle.vub_rec_split.specs.declared.plan.Recovered.TheVariants as recovered
use Rattle.vub_rec_split.specs.Starts.{RecoveryState, answer_in, due_in, state_after, plan_in, plan_or, unchecked_in, SameQueue}
use Rattle.vub_rec_split.specs.Stands.{IsApart, StandsAt}
use Rattle.vub_rec_split.specs.Places.{IsFresh, IsAt}
use Rattle.vub_rec_split.proofs.PlaceLemmas.{planned, PlannedAlike, planned_alike, fresh_at, fresh_stands, at_stands, at_store, HasStore, at_stores, at_end, EndsStores, at_planned, state_queue}
use Rattle.vub_rec_split.proofs.PlaceLemmas as places
use Rattle.vub_task.specs.TaskState.{head_in, fresh_task}
use Rattle.vub_facts.specs.Facts.{Side, Words, words_at, heads_in, Lies, Facts, IsDue, course_in, head_next, heads_after, counted, side_after, with_phase, next_counter_in, sight, with_stored, words_after}
use Rattle.vub_facts.specs.Held.{Splits}
use Rattle.vub_facts.proofs.HeadLemmas.{without_none}
use Rattle.vub_facts.proofs.Places.{bells, start_goes_on, start_ends}
use Rattle.vub_facts.proofs.FactStarts.{runs_on, start_begins}
use Rattle.vub_facts.proofs.FactSteps.{step_keeps}
use Rattle.vub_facts.proofs.FactWords.{region_words}
use Rattle.vub_queue.specs.declared.queue.Stepped.{Stepped}
use Rattle.vub_queue.specs.QueueParts.{is_taken, with_heads}
use Rattle.vub_queue.specs.QueueState.{QueueState, rings_next, start_said, start_after, start_due, resumed, ended, Starts, StartsIf, StoresStart, StoresStep, is_fault}
use Rattle.vub_queue.specs.QueueFacts.{hidden_part, KeepsHeads, StartingAt, ring_of, words_in, side_of, IsLaid, KeepsNothing, IsBeginning, FactsAt, heads_said}
use Rattle.vub_queue.proofs.ResumeLemmas.{length_with}
use Rattle.vub_queue.proofs.TurnFacts.{fine, same_bytes}

-- ---- a queue in a start

-- so many steps of its start were made, with this plan
pub record InBegin (heads : List ℕ) (base : ℕ) (plan : Plan) (done : ℕ) (s : QueueState) (m : Bytes) : Type 0 where
  pub laid : IsLaid base s
  pub off : s.started ≡ false
  pub nothing : KeepsNothing s
  pub at : IsAt plan done (words_of s.recovery.region m) (planned s.recovery m)
  pub stands : StandsAt heads (planned s.recovery m) m
  pub alike : PlannedAlike s.recovery m
  pub rung : s.rung ≡ nat_lt (length (plan_steps s.ring.size plan)) done
  pub facts : Facts s.ring.size heads base (side_of plan (phases.Start done) s) (words_in s m)

-- its recovery goes over the same ring and region
abbrev Over : (ℕ → ℕ → ℕ → Type 0) → RecoveryState → Bytes → Type 0
Over P r m = P r.region.size (used_idx_word r.ring m) r.base

over : (P : ℕ → ℕ → ℕ → Type 0) (base : ℕ) (s : QueueState) (m : Bytes) → IsLaid base s → P s.ring.size (used_idx_word s.ring m) base → Over P s.recovery m
over P base s m l p =
    let r : RecoveryState = s.recovery in
    subst (λ (n : ℕ). P n (used_idx_word r.ring m) r.base) (sym l.lies.same_size)
    (subst (λ (g : SplitRing). P s.ring.size (used_idx_word g m) r.base) (sym l.same_ring) (subst (P s.ring.size (used_idx_word s.ring m)) (sym l.base_is) p))

is_apart : (base : ℕ) (s : QueueState) → IsLaid base s → IsApart s.recovery
is_apart base s l = subst (λ (r : SplitRing). IsApart (record s.recovery { ring = r })) (sym l.same_ring) (go l.lies.off_used)
  where
    go : Apart s.recovery.region.space.number s.recovery.region.place (region_size s.recovery.region.size) (ring_of s).used_space (ring_of s).used (used_bytes (ring_of s)) → IsApart (record s.recovery { ring = s.ring })
    go (inl other) = inl other
    go (inr (inl before)) = inr (inl (omega (arith, before)))
    go (inr (inr behind)) = inr (inr (omega (arith, behind)))

start_facts : (heads : List ℕ) (base : ℕ) (plan : Plan) (done : ℕ) (s : QueueState) (m : Bytes) → IsLaid base s → s.started ≡ false → Facts s.ring.size heads base (side_of plan (phases.Start done) s) (words_in s m)
    → InStart s.recovery.region.size (used_idx_word s.recovery.ring m) heads s.recovery.base plan done (words_of s.recovery.region m)
start_facts heads base plan done s m l off f = over (λ (n used b : ℕ). InStart n used heads b plan done (words_of s.recovery.region m)) base s m l (f.not_started off)

no_plan : (r : RecoveryState) (m : Bytes) → r.plan ≡ None → plan_in r m ≡ plan_of (used_idx_word r.ring m) (words_of r.region m)
no_plan r m none = ap (λ (o : Option Plan). plan_or o (plan_of (used_idx_word r.ring m) (words_of r.region m))) none

first_rung : (n : ℕ) (rung : Bool) → rung ≡ false → rung ≡ nat_lt n 0
first_rung n rung none = let low : nat_lt n 0 ≡ false = grind (arith, nat_tests) in none ∙ sym low

-- it begins
begins_now : (heads : List ℕ) (base : ℕ) (plan : Plan) (s : QueueState) (m : Bytes) → IsLaid base s → s.started ≡ false → KeepsNothing s → IsFresh s.recovery → s.rung ≡ false → Facts s.ring.size heads base (side_of plan phases.Rest s) (words_in s m)
    → InBegin heads base (plan_of (used_idx_word s.ring m) (words_of s.recovery.region m)) 0 s m
begins_now heads base plan s m l off nothing fresh silent f =
    let r : RecoveryState = s.recovery in
    let begun : Plan = plan_of (used_idx_word s.ring m) (words_of r.region m) in
    let found : plan_in r m ≡ begun = no_plan r m fresh.no_plan ∙ ap (λ (g : SplitRing). plan_of (used_idx_word g m) (words_of r.region m)) l.same_ring in
    let at : IsAt begun 0 (words_of r.region m) (planned r m) = subst (λ (p : Plan). IsAt p 0 (words_of r.region m) (planned r m)) found (fresh_at r m fresh) in
    let left : Left r.region.size (used_idx_word r.ring m) heads r.base (words_of r.region m) = over (λ (n used b : ℕ). Left n used heads b (words_of r.region m)) base s m l (f.not_started off) in
    let facts : Facts s.ring.size heads base (side_of begun (phases.Start 0) s) (words_in s m) = start_begins s.ring.size heads base (side_of plan phases.Rest s) (words_in s m) off nothing.no_batch f in record {
      laid = l;
      off = off;
      nothing = nothing;
      at = at;
      stands = at_stands heads (planned r m) m begun 0 (is_apart base s l) at (start_facts heads base begun 0 s m l off facts);
      alike = planned_alike heads r m (fresh_stands heads r m (is_apart base s l) fresh left);
      rung = first_rung (length (plan_steps s.ring.size begun)) s.rung silent;
      facts = facts;
    }

-- it goes on
begins_later : (heads : List ℕ) (base : ℕ) (plan : Plan) (done : ℕ) (s : QueueState) (m : Bytes) → IsLaid base s → s.started ≡ false → KeepsNothing s → StartingAt s.ring.size plan done (words_of s.recovery.region m) s
    → Facts s.ring.size heads base (side_of plan (phases.Start done) s) (words_in s m) → InBegin heads base plan done s m
begins_later heads base plan done s m l off nothing start f =
    let r : RecoveryState = s.recovery in
    let same : planned r m ≡ r = at_planned r m plan done start.recovery in
    let stood : StandsAt heads r m = at_stands heads r m plan done (is_apart base s l) start.recovery (start_facts heads base plan done s m l off f) in record {
      laid = l;
      off = off;
      nothing = nothing;
      at = subst (λ (x : RecoveryState). IsAt plan done (words_of r.region m) x) (sym same) start.recovery;
      stands = subst (λ (x : RecoveryState). StandsAt heads x m) (sym same) stood;
      alike = planned_alike heads r m stood;
      rung = start.rung;
      facts = f;
    }

in_begin : (heads : List ℕ) (base : ℕ) (s : QueueState) (m : Bytes) → s.started ≡ false → FactsAt heads base s m → (plan : Plan) × (done : ℕ) × InBegin heads base plan done s m
in_begin heads base s m off x = go x.phase (x.begins off) x.facts
  where
    go : (p : Phase) → IsBeginning x.plan p (words_of s.recovery.region m) s → Facts s.ring.size heads base (side_of x.plan p s) (words_in s m) → (plan : Plan) × (done : ℕ) × InBegin heads base plan done s m
    go phases.Rest b f = (plan_of (used_idx_word s.ring m) (words_of s.recovery.region m), 0, begins_now heads base x.plan s m x.laid off b.nothing b.starts.0 b.starts.1 f)
    go (phases.Start done) b f = (x.plan, done, begins_later heads base x.plan done s m x.laid off b.nothing b.starts f)
    go (phases.Fetch done) b f = runs_on b.in_phase off
    go (phases.Publish done) b f = runs_on b.in_phase off

-- ---- it goes on in its start

-- with this recovery, and with its bell rung or not
starts_on : (heads : List ℕ) (base : ℕ) (plan : Plan) (done : ℕ) (s : QueueState) (r : RecoveryState) (rung : Bool) (now : Bytes) → IsLaid base s → s.started ≡ false → KeepsNothing s → SameQueue s.recovery r → IsAt plan done (words_of s.recovery.region now) r
    → rung ≡ nat_lt (length (plan_steps s.ring.size plan)) done → Facts s.ring.size heads base (side_of plan (phases.Start done) s) (words_in s now) → FactsAt heads base (record s { recovery = r; rung = rung }) now
starts_on heads base plan done s r rung now l off nothing same at is f = record {
  plan = plan;
  phase = phases.Start done;
  laid = record { lies = subst (Lies (ring_of s)) (sym same.region) l.lies; same_ring = same.ring ∙ l.same_ring; base_is = same.base ∙ l.base_is; places = l.places };
  keeps = λ on. runs_on on off;
  begins = λ no. record {
    in_phase = off;
    starts = record { recovery = subst (λ (g : SplitRegion). IsAt plan done (words_of g now) r) (sym same.region) at; rung = is };
    nothing = record { rests = nothing.rests; no_head = nothing.no_head; no_batch = nothing.no_batch; none_completed = nothing.none_completed; none_unfinished = nothing.none_unfinished; none_taken = nothing.none_taken };
  };
  facts = subst (λ (g : SplitRegion). Facts s.ring.size heads base (side_of plan (phases.Start done) s) (words_at (ring_of s) g now)) (sym same.region) f;
}

-- ---- a store

-- a step of a start that stores this leaves all but the words of the region
record IsStartStore (step : Step) : Type 0 where
  pub heads : (next : ℕ) (batch : List (ℕ × ℕ)) (hs : List ℕ) → heads_after step next batch hs ≡ hs
  pub side : (next : ℕ) (x : Side) → counted next step x ≡ x
  pub words : (r : Ring) (z : Sight) (w : Words) → words_after r z step w ≡ with_stored r.size (region_store z step) w

start_store : (used link : ℕ) (x : SplitStore) (step : Step) → region_step used link step ≡ Some x → IsStartStore step
start_store used link x steps.Features is = record { heads = λ a b c. refl; side = λ a b. refl; words = λ a b c. refl }
start_store used link x (steps.Free i) is = record { heads = λ a b c. refl; side = λ a b. refl; words = λ a b c. refl }
start_store used link x steps.Open is = record { heads = λ a b c. refl; side = λ a b. refl; words = λ a b c. refl }
start_store used link x (steps.Settle i) is = record { heads = λ a b c. refl; side = λ a b. refl; words = λ a b c. refl }
start_store used link x steps.SettleEnd is = record { heads = λ a b c. refl; side = λ a b. refl; words = λ a b c. refl }
start_store used link x steps.Bell is = absurd (cc)
start_store used link x steps.Start is = absurd (cc)
start_store used link x steps.Count is = absurd (cc)
start_store used link x steps.Accept is = absurd (cc)
start_store used link x (steps.Id e) is = absurd (cc)
start_store used link x (steps.Len e) is = absurd (cc)
start_store used link x (steps.Link e) is = absurd (cc)
start_store used link x (steps.Head e) is = absurd (cc)
start_store used link x steps.Index is = absurd (cc)
start_store used link x (steps.Clear e) is = absurd (cc)
start_store used link x steps.Note is = absurd (cc)

get_in_first : (xs ys : List Step) (i : ℕ) (step : Step) → slice_get xs i ≡ Some step → slice_get (xs ++ ys) i ≡ Some step
get_in_first [] ys i step is = nowhere i is
  where
    nowhere : (i : ℕ) → slice_get {X = Step} [] i ≡ Some step → slice_get ys i ≡ Some step
    nowhere zero e = absurd (cc)
    nowhere (suc i) e = absurd (cc)
get_in_first (x ∷ xs) ys zero step is = is
get_in_first (x ∷ xs) ys (suc i) step is = get_in_first xs ys i step is

-- the step that stores this comes next
record HasStep (n : ℕ) (plan : Plan) (done used link : ℕ) (x : SplitStore) : Type 0 where
  pub step : Step
  pub there : slice_get (plan_steps n plan) done ≡ Some step
  pub stores : region_step used link step ≡ Some x

has_step : (n : ℕ) (plan : Plan) (done used link : ℕ) (x : SplitStore) → region_step_at used link (slice_get (plan_steps n plan) done) ≡ Some x → HasStep n plan done used link x
has_step n plan done used link x is = go (slice_get (plan_steps n plan) done) refl is
  where
    go : (o : Option Step) → slice_get (plan_steps n plan) done ≡ o → region_step_at used link o ≡ Some x → HasStep n plan done used link x
    go None there e = absurd (cc)
    go (Some step) there e = record { step = step; there = there; stores = e }

stores_facts : (heads : List ℕ) (base : ℕ) (plan : Plan) (done : ℕ) (s : QueueState) (m : Bytes) (x : SplitStore) → InBegin heads base plan done s m → done < length (plan_steps s.ring.size plan) → HasStep s.ring.size plan done (used_idx_word s.ring m) (link_at (words_in s m).region.next done (words_in s m).region.last_batch_head) x
    → Facts s.ring.size heads base (side_of plan (phases.Start (done + 1)) s) (with_stored s.ring.size (Some x) (words_in s m))
stores_facts heads base plan done s m x b more h =
    let n : ℕ = s.ring.size in
    let w : Words = words_in s m in
    let side : Side = side_of plan (phases.Start done) s in
    let z : Sight = sight heads side w in
    let next : ℕ = next_counter_in n w in
    let p : Phase = phases.Start (done + 1) in
    let kind : IsStartStore h.step = start_store (used_idx_word s.ring m) (link_at w.region.next done w.region.last_batch_head) x h.step h.stores in
    let due : IsDue n h.step side = record { in_phase = b.off; next = get_in_first (plan_steps n plan) (bell_steps s.bell ++ (steps.Start ∷ [])) done h.step h.there } in
    let stored : region_store z h.step ≡ Some x = ap (λ (o : Option SplitStore). option_or o (running_step z h.step)) h.stores in
    let words : words_after (ring_of s) z h.step w ≡ with_stored n (Some x) w = kind.words (ring_of s) z w ∙ ap (λ (o : Option SplitStore). with_stored n o w) stored in
    let after : after_step (course_in n side) (phases.Start done) ≡ p = start_goes_on n side done refl (omega (arith, more)) in
    let kept : Facts n (heads_after h.step (head_next heads w) s.batch heads) base (side_after n next h.step side) (words_after (ring_of s) z h.step w) = step_keeps (ring_of s) s.recovery.region heads base h.step side w b.laid.lies due b.facts in
    subst (λ (v : Words). Facts n heads base (with_phase p side) v) words
    (subst (λ (y : Side). Facts n heads base (with_phase p y) (words_after (ring_of s) z h.step w)) (kind.side next side)
    (subst (λ (q : Phase). Facts n heads base (with_phase q (counted next h.step side)) (words_after (ring_of s) z h.step w)) after
    (subst (λ (hs : List ℕ). Facts n hs base (side_after n next h.step side) (words_after (ring_of s) z h.step w)) (kind.heads (head_next heads w) s.batch heads) kept)))

-- the queue stores what is due, and stands in its next place
stores_keep : (heads : List ℕ) (base : ℕ) (plan : Plan) (done : ℕ) (s : QueueState) (m now : Bytes) (x : SplitStore) → InBegin heads base plan done s m → done < length (plan_steps s.ring.size plan) → HasStore (planned s.recovery m) m plan done → due_in s.recovery m ≡ Some x
    → now ≡ after_store (store_of s.recovery.region x) m → FactsAt heads base (record s { recovery = state_after s.recovery m }) now
stores_keep heads base plan done s m now x b more has due is =
    let n : ℕ = s.ring.size in
    let r : RecoveryState = s.recovery in
    let g : SplitRegion = r.region in
    let w : Words = words_in s m in
    let one : Some has.store ≡ Some x = sym has.due ∙ sym b.alike.due ∙ due in
    let same : has.store ≡ x = cc in
    let link : ℕ = link_at w.region.next done w.region.last_batch_head in
    let at_ring : region_step_at (used_idx_word s.ring m) link (slice_get (plan_steps n plan) done) ≡ Some x =
    ap (λ (k : ℕ). region_step_at (used_idx_word s.ring m) link (slice_get (plan_steps k plan) done)) (sym b.laid.lies.same_size)
    ∙ ap (λ (q : SplitRing). region_step_at (used_idx_word q m) link (slice_get (plan_steps g.size plan) done)) (sym b.laid.same_ring)
    ∙ has.next ∙ ap (λ (y : SplitStore). Some y) same in
    let within : NamesEntry n x = subst (λ (y : SplitStore). NamesEntry n y) same (subst (λ (k : ℕ). NamesEntry k has.store) b.laid.lies.same_size has.within) in
    let fits : ValueFits x = subst ValueFits same has.fits in
    let words : words_in s now ≡ with_stored n (Some x) w = ap (words_in s) is ∙ region_words (ring_of s) g x m b.laid.lies within fits in
    let facts : Facts n heads base (side_of plan (phases.Start (done + 1)) s) (words_in s now) =
    subst (λ (v : Words). Facts n heads base (side_of plan (phases.Start (done + 1)) s) v) (sym words) (stores_facts heads base plan done s m x b more (has_step n plan done (used_idx_word s.ring m) link x at_ring)) in
    let place : done < length (plan_steps g.size plan) = subst (λ (k : ℕ). done < length (plan_steps k plan)) (sym b.laid.lies.same_size) more in
    let stored : places.Stores plan done (planned r m) m x =
    at_stores heads (planned r m) m plan done x b.stands b.at (start_facts heads base plan done s m b.laid b.off b.facts) place (sym b.alike.due ∙ due) in
    let region : words_of g now ≡ words_after_region g.size x (words_of g m) = ap (λ (v : Words). v.region) words ∙ ap (λ (k : ℕ). words_after_region k x (words_of g m)) (sym b.laid.lies.same_size) in
    let at : IsAt plan (done + 1) (words_of g now) (state_after r m) =
    subst (λ (v : RegionWords). IsAt plan (done + 1) v (state_after r m)) (sym region) (subst (λ (y : RecoveryState). IsAt plan (done + 1) (words_after_region g.size x (words_of g m)) y) (sym b.alike.state) stored.goes) in
    let rung : s.rung ≡ nat_lt (length (plan_steps n plan)) (done + 1) =
    (let before : nat_lt (length (plan_steps n plan)) done ≡ false = grind (arith, nat_tests) in let later : nat_lt (length (plan_steps n plan)) (done + 1) ≡ false = grind (arith, nat_tests) in b.rung ∙ before ∙ sym later) in
    starts_on heads base plan (done + 1) s (state_after r m) s.rung now b.laid b.off b.nothing (state_queue r m) at rung facts

-- ---- no store is left

record NoneLeft (s : QueueState) (m : Bytes) : Type 0 where
  pub due : due_in s.recovery m ≡ None
  pub answer : answer_in s.recovery m ≡ recovered.Done
  pub ends : (state_after s.recovery m).plan ≡ Some plans.Settled

none_left : (heads : List ℕ) (base : ℕ) (plan : Plan) (done : ℕ) (s : QueueState) (m : Bytes) → InBegin heads base plan done s m → length (plan_steps s.ring.size plan) ≤ done → NoneLeft s m
none_left heads base plan done s m b all =
    let r : RecoveryState = s.recovery in
    let settled : (planned r m).plan ≡ Some plans.Settled = b.at.settled (subst (λ (n : ℕ). length (plan_steps n plan) ≤ done) (sym b.laid.lies.same_size) all) in
    let ends : EndsStores (planned r m) m = at_end (planned r m) m settled in record {
      due = b.alike.due ∙ ends.due;
      answer = b.alike.answer ∙ ends.answers;
      ends = ap (λ (y : RecoveryState). y.plan) (b.alike.state ∙ ends.stays) ∙ settled;
    }

-- a recovery with no store left is in any place behind them
settled_at : (n : ℕ) (plan : Plan) (place : ℕ) (w : RegionWords) (r : RecoveryState) → r.region.size ≡ n → r.plan ≡ Some plans.Settled → length (plan_steps n plan) ≤ place → IsAt plan place w r
settled_at n plan place w r size settled all = record { stores = λ more. absurd (let less : place < length (plan_steps n plan) = subst (λ (k : ℕ). place < length (plan_steps k plan)) size more in omega (arith, less, all)); settled = λ behind. settled }

-- and so are the facts
settled_facts : (heads : List ℕ) (base : ℕ) (plan : Plan) (done place : ℕ) (s : QueueState) (m : Bytes) → InBegin heads base plan done s m → length (plan_steps s.ring.size plan) ≤ done → length (plan_steps s.ring.size plan) ≤ place
    → Facts s.ring.size heads base (side_of plan (phases.Start place) s) (words_in s m)
settled_facts heads base plan done place s m b all behind = record {
  used_fits = b.facts.used_fits;
  not_started = λ off. record { stores = λ more. absurd (omega (arith, more, behind)); settled = λ ends. (b.facts.not_started off).settled all };
  in_life = λ on. runs_on on b.off;
  batch = b.facts.batch;
}

-- the bell
bell_keeps : (heads : List ℕ) (base : ℕ) (plan : Plan) (done : ℕ) (s : QueueState) (m : Bytes) → InBegin heads base plan done s m → length (plan_steps s.ring.size plan) ≤ done → FactsAt heads base (record s { recovery = state_after s.recovery m; rung = true }) m
bell_keeps heads base plan done s m b all =
    let n : ℕ = s.ring.size in
    let r : RecoveryState = s.recovery in
    let place : ℕ = length (plan_steps n plan) + 1 in
    let left : NoneLeft s m = none_left heads base plan done s m b all in
    let same : SameQueue r (state_after r m) = state_queue r m in
    let size : (state_after r m).region.size ≡ n = ap (λ (g : SplitRegion). g.size) same.region ∙ b.laid.lies.same_size in
    let rung : true ≡ nat_lt (length (plan_steps n plan)) place = (let now : nat_lt (length (plan_steps n plan)) place ≡ true = grind (arith, nat_tests) in sym now) in
    starts_on heads base plan place s (state_after r m) true m b.laid b.off b.nothing same (settled_at n plan place (words_of r.region m) (state_after r m) size left.ends (omega arith)) rung (settled_facts heads base plan done place s m b all (omega arith))

-- ---- the queue goes on

taken_with : (hs : List ℕ) (taken : List Bool) (d : ℕ) → d < length taken → is_taken (with_heads hs taken) d ≡ (is_among hs d || is_taken taken d)
taken_with [] taken d low = refl
taken_with (h ∷ hs) taken d low =
    let rest : is_taken (with_heads hs (set taken h true)) d ≡ (is_among hs d || is_taken (set taken h true) d) = taken_with hs (set taken h true) d (omega (arith, low, length-set taken h true)) in
    elim (cases_eq h d) [
      | inl same ↦
          let there : get_or (set taken h true) h true ≡ true = get_or-set_same taken h true true (omega (arith, low, same)) in
          let here : get_or (set taken h true) d true ≡ true = ap (λ (i : ℕ). get_or (set taken h true) i true) (sym same) ∙ there in
          grind (arith, nat_tests)
      | inr apart ↦
          let other : get_or (set taken h true) d true ≡ get_or taken d true = get_or-set_other taken h d true true (λ e. apart (sym e)) in
          grind (arith, nat_tests)
    ]

heads_fresh : (hs : List ℕ) → map head_in (map fresh_task hs) ≡ hs
heads_fresh [] = refl
heads_fresh (h ∷ hs) = ap (λ (xs : List ℕ). h ∷ xs) (heads_fresh hs)

-- what it keeps agrees with the heads of what is open
held_resumed : (n : ℕ) (heads : List ℕ) (used : ℕ) (list : List Pending) (s : QueueState) → KeepsNothing s → n ≡ s.ring.size → length s.taken ≡ n → heads_of list ≡ heads → are_distinct heads ≡ true → ((h : ℕ) → is_among heads h ≡ true → h < n) → KeepsHeads n heads used (resumed used list s)
held_resumed n heads used list s nothing size places reads distinct below w at =
    let busy_none : heads_in (hidden_part s.phase s.batch ++ s.completed) ≡ [] =
    ap (λ (p : Phase). heads_in (hidden_part p s.batch ++ s.completed)) nothing.rests ∙ ap heads_in nothing.none_completed in
    let many : length list ≡ length heads = sym (length-map list (λ (e : Pending). e.head)) ∙ ap length reads in record {
      distinct = distinct;
      below = below;
      avail = omega (arith, at, many);
      taken = λ d low.
          let free : is_taken s.taken d ≡ false = nothing.none_taken d (omega (arith, low, size)) in
          let among : is_taken (with_heads (heads_of list) s.taken) d ≡ (is_among (heads_of list) d || is_taken s.taken d) = taken_with (heads_of list) s.taken d (omega (arith, low, places)) in
          let same : is_among (heads_of list) d ≡ is_among heads d = ap (λ (hs : List ℕ). is_among hs d) reads in
          grind (arith, nat_tests);
      splits = subst (λ (hs : List ℕ). Splits heads hs (map head_in (map fresh_task (heads_of list)))) (sym busy_none) (record {
        once = refl;
        opens = λ h held. absurd (let fails : false ≡ true = held in cc);
        left = heads_fresh (heads_of list) ∙ reads ∙ sym (without_none heads);
      });
    }

get_behind : (xs ys : List Step) (i : ℕ) → slice_get (xs ++ ys) (length xs + i) ≡ slice_get ys i
get_behind [] ys i = let none : 0 + i ≡ i = omega arith in ap (slice_get ys) none
get_behind (x ∷ xs) ys i = let more : length (x ∷ xs) + i ≡ suc (length xs + i) = omega arith in ap (slice_get ((x ∷ xs) ++ ys)) more ∙ get_behind xs ys i

last_is : (bell : Bool) → slice_get (bell_steps bell ++ (steps.Start ∷ [])) (bells bell) ≡ Some steps.Start
last_is true = refl
last_is false = refl

-- the facts after its last step
started_facts : (heads : List ℕ) (base : ℕ) (plan : Plan) (done : ℕ) (s : QueueState) (m : Bytes) → InBegin heads base plan done s m → length (plan_steps s.ring.size plan) ≤ done
    → Facts s.ring.size heads base (record (side_of plan phases.Rest s) { started = true; counter = next_counter_in s.ring.size (words_in s m); batch = [] }) (words_in s m)
started_facts heads base plan done s m b all =
    let n : ℕ = s.ring.size in
    let w : Words = words_in s m in
    let place : ℕ = length (plan_steps n plan) + bells s.bell in
    let side : Side = side_of plan (phases.Start place) s in
    let next : ℕ = next_counter_in n w in
    let due : IsDue n steps.Start side = record { in_phase = b.off; next = get_behind (plan_steps n plan) (bell_steps s.bell ++ (steps.Start ∷ [])) (bells s.bell) ∙ last_is s.bell } in
    let kept : Facts n heads base (side_after n next steps.Start side) w = step_keeps (ring_of s) s.recovery.region heads base steps.Start side w b.laid.lies due (settled_facts heads base plan done place s m b all (omega arith)) in
    subst (λ (q : Phase). Facts n heads base (with_phase q (counted next steps.Start side)) w) (start_ends n side refl) kept

-- what its recovery read are the open entries
reads_open : (heads : List ℕ) (base : ℕ) (plan : Plan) (done : ℕ) (s : QueueState) (m : Bytes) → InBegin heads base plan done s m → Sound s.ring.size (used_idx_word s.ring m) heads (words_of s.recovery.region m)
    → unchecked_in s.recovery m ≡ open_entries s.ring.size (used_idx_word s.ring m) (words_of s.recovery.region m)
reads_open heads base plan done s m b sound =
    let r : RecoveryState = s.recovery in
    ap (λ (q : SplitRing). unchecked_entries r.region.size (used_idx_word q m) (words_of r.region m)) b.laid.same_ring
    ∙ ap (λ (k : ℕ). unchecked_entries k (used_idx_word s.ring m) (words_of r.region m)) b.laid.lies.same_size
    ∙ sound_unchecked s.ring.size (used_idx_word s.ring m) heads (words_of r.region m) sound

-- the heads of what is open are distinct ones of n
open_distinct : (n used : ℕ) (heads : List ℕ) (w : RegionWords) → Sound n used heads w → are_distinct heads ≡ true
open_distinct n used heads w sound = ap are_distinct (sym sound.reads) ∙ distinct_by_counter w.counter one_each (is_open used w) n

open_below : (n used : ℕ) (heads : List ℕ) (w : RegionWords) (h : ℕ) → Sound n used heads w → is_among heads h ≡ true → h < n
open_below n used heads w h sound held =
    let among : is_among (heads_of (open_entries n used w)) h ≡ (nat_lt h n && is_open used w h) = among_by_counter w.counter one_each (is_open used w) n h in
    let here : is_among (heads_of (open_entries n used w)) h ≡ true = ap (λ (hs : List ℕ). is_among hs h) sound.reads ∙ held in
    grind (arith, nat_tests)

started_keeps : (heads : List ℕ) (base : ℕ) (plan : Plan) (done : ℕ) (s : QueueState) (m : Bytes) → InBegin heads base plan done s m → length (plan_steps s.ring.size plan) ≤ done
    → FactsAt heads base (resumed (used_idx_word s.ring m) (unchecked_in s.recovery m) (record s { recovery = state_after s.recovery m })) m
started_keeps heads base plan done s m b all =
    let n : ℕ = s.ring.size in
    let used : ℕ = used_idx_word s.ring m in
    let r : RecoveryState = s.recovery in
    let l = b.laid in
    let nothing = b.nothing in
    let list : List Pending = unchecked_in r m in
    let sound : Sound n used heads (words_of r.region m) = ((b.facts.not_started b.off).settled all).sound in
    let is_read : list ≡ open_entries n used (words_of r.region m) = reads_open heads base plan done s m b sound in
    let reads : heads_of list ≡ heads = ap heads_of is_read ∙ sound.reads in
    let same : SameQueue r (state_after r m) = state_queue r m in
    let facts : Facts n heads base (record (side_of plan phases.Rest s) { started = true; counter = next_counter list; batch = s.batch }) (words_in s m) =
    subst (λ (bs : List (ℕ × ℕ)). Facts n heads base (record (side_of plan phases.Rest s) { started = true; counter = next_counter list; batch = bs }) (words_in s m)) (sym nothing.no_batch)
    (subst (λ (c : ℕ). Facts n heads base (record (side_of plan phases.Rest s) { started = true; counter = c; batch = [] }) (words_in s m)) (sym (ap next_counter is_read)) (started_facts heads base plan done s m b all)) in record {
      plan = plan;
      phase = phases.Rest;
      laid = record { lies = subst (Lies (ring_of s)) (sym same.region) l.lies; same_ring = same.ring ∙ l.same_ring; base_is = same.base ∙ l.base_is; places = length_with (heads_of list) s.taken ∙ l.places };
      keeps = λ on. record {
        in_phase = tt;
        kept = nothing.rests;
        fetching = nothing.no_head;
        held = held_resumed n heads used list (record s { recovery = state_after r m }) (record { rests = nothing.rests; no_head = nothing.no_head; no_batch = nothing.no_batch; none_completed = nothing.none_completed; none_unfinished = nothing.none_unfinished; none_taken = nothing.none_taken })
            refl l.places reads (open_distinct n used heads (words_of r.region m) sound) (λ h held. open_below n used heads (words_of r.region m) h sound held);
      };
      begins = λ off. runs_on refl off;
      facts = subst (λ (g : SplitRegion). Facts n heads base (record (side_of plan phases.Rest s) { started = true; counter = next_counter list; batch = s.batch }) (words_at (ring_of s) g m)) (sym same.region) facts;
    }

-- ---- a turn of it

-- nothing is stored where none is due
same_after : (m now : Bytes) (x : Stepped) (g : SplitRegion) (due : Option SplitStore) → due ≡ None → StoresStep (Some m) (Some now) x g due → now ≡ m
same_after m now x g None none stores = same_bytes now m stores
same_after m now x g (Some y) none stores = absurd (cc)

-- and else what is due, unless shared memory failed
after_due : (m now : Bytes) (x : Stepped) (g : SplitRegion) (due : Option SplitStore) (y : SplitStore) → is_fault x ≡ false → due ≡ Some y → StoresStep (Some m) (Some now) x g due → now ≡ after_store (store_of g y) m
after_due m now x g None y ok is stores = absurd (cc)
after_due m now x g (Some z) y ok is stores =
    let same : z ≡ y = cc in
    same_bytes now (after_store (store_of g z) m) (subst (λ (o : Result (Unit {0}) (Unit {0})). Stores (Some m) (Some now) o (store_of g z)) (fine x ok) stores) ∙ ap (λ (v : SplitStore). after_store (store_of g v) m) same

begin_turn : (heads : List ℕ) (base : ℕ) (plan : Plan) (done : ℕ) (x : Stepped) (s t : QueueState) (m now : Bytes) → is_fault x ≡ false → StartsIf false (Some m) x s t → StoresStep (Some m) (Some now) x s.recovery.region (due_in s.recovery m) → InBegin heads base plan done s m
    → FactsAt (heads_said x s heads) base t now
begin_turn heads base plan done x s t m now ok does stores b = elim (cases_lt done (length (plan_steps n plan))) [
  | inl more ↦
      let place : done < length (plan_steps r.region.size plan) = subst (λ (k : ℕ). done < length (plan_steps k plan)) (sym b.laid.lies.same_size) more in
      let begun = start_facts heads base plan done s m b.laid b.off b.facts in
      let small : used_idx_word r.ring m < 65536 = subst (λ (q : SplitRing). used_idx_word q m < 65536) (sym b.laid.same_ring) b.facts.used_fits in
      let has : HasStore (planned r m) m plan done = at_store heads (planned r m) m plan done small b.at begun place in
      let due : due_in r m ≡ Some has.store = b.alike.due ∙ has.due in
      let stored : places.Stores plan done (planned r m) m has.store = at_stores heads (planned r m) m plan done has.store b.stands b.at begun place has.due in
      let answer : answer_in r m ≡ recovered.Stored (tag_of has.store) = b.alike.answer ∙ stored.answers in
      let is : now ≡ after_store (store_of r.region has.store) m = after_due m now x r.region (due_in r m) has.store ok due stores in
      left answer refl (stores_keep heads base plan done s m now has.store b more has due is)
  | inr behind ↦
      let all : length (plan_steps n plan) ≤ done = omega (arith, behind) in
      let none : NoneLeft s m = none_left heads base plan done s m b all in
      let same : now ≡ m = same_after m now x r.region (due_in r m) none.due stores in
      elim (cases_Bool (rings_next s)) [
        | inl rings ↦ after_end true rings none.answer refl (subst (λ (v : Bytes). FactsAt heads base (record s { recovery = state_after r m; rung = true }) v) (sym same) (bell_keeps heads base plan done s m b all))
        | inr silent ↦ after_end false silent none.answer refl (subst (λ (v : Bytes). FactsAt heads base (resumed (used_idx_word s.ring m) (unchecked_in r m) (record s { recovery = state_after r m })) v) (sym same) (started_keeps heads base plan done s m b all))
      ]
]
  where
    n : ℕ
    n = s.ring.size

    r : RecoveryState
    r = s.recovery

    here : (x ≡ start_said (rings_next s) (answer_in s.recovery m)) × (t ≡ start_after (answer_in s.recovery m) (state_after s.recovery m) (used_idx_word s.ring m) (unchecked_in s.recovery m) s)
    here = does m refl

    left : {answer : Recovered} → answer_in s.recovery m ≡ answer → heads_said (start_said (rings_next s) answer) s heads ≡ heads → FactsAt heads base (start_after answer (state_after s.recovery m) (used_idx_word s.ring m) (unchecked_in s.recovery m) s) now → FactsAt (heads_said x s heads) base t now
    left is same f =
        subst (λ (hs : List ℕ). FactsAt hs base t now) (sym (ap (λ (y : Stepped). heads_said y s heads) (here.0 ∙ ap (start_said (rings_next s)) is) ∙ same))
        (subst (λ (u : QueueState). FactsAt heads base u now) (sym (here.1 ∙ ap (λ (a : Recovered). start_after a (state_after s.recovery m) (used_idx_word s.ring m) (unchecked_in s.recovery m) s) is)) f)

    after_end : (b : Bool) → rings_next s ≡ b → answer_in s.recovery m ≡ recovered.Done → heads_said (start_said b recovered.Done) s heads ≡ heads → FactsAt heads base (ended b (used_idx_word s.ring m) (unchecked_in s.recovery m) (record s { recovery = state_after s.recovery m })) now → FactsAt (heads_said x s heads) base t now
    after_end b is answer same f = left answer (ap (λ (c : Bool). heads_said (start_said c recovered.Done) s heads) is ∙ same)
        (subst (λ (c : Bool). FactsAt heads base (ended c (used_idx_word s.ring m) (unchecked_in s.recovery m) (record s { recovery = state_after s.recovery m })) now) (sym is) f)

pub start_keeps : (heads : List ℕ) (base : ℕ) (x : Stepped) (s t : QueueState) (m now : Bytes) → is_fault x ≡ false → Starts (Some m) x s t → StoresStart (Some m) (Some now) x s → FactsAt heads base s m → FactsAt (heads_said x s heads) base t now
start_keeps heads base x s t m now ok does stores f = elim (cases_Bool s.started) [
  | inl on ↦
      let is : StartsIf true (Some m) x s t = subst (λ (b : Bool). StartsIf b (Some m) x s t) on does in
      let none : start_due s m ≡ None = ap (λ (b : Bool). cond b None (due_in s.recovery m)) on in
      let same : now ≡ m = same_after m now x s.recovery.region (start_due s m) none (stores m refl) in
      subst (λ (v : Bytes). FactsAt (heads_said x s heads) base t v) (sym same) (subst (λ (u : QueueState). FactsAt (heads_said x s heads) base u m) (sym is.1) (subst (λ (y : Stepped). FactsAt (heads_said y s heads) base s m) (sym is.0) f))
  | inr off ↦
      let due : start_due s m ≡ due_in s.recovery m = ap (λ (b : Bool). cond b None (due_in s.recovery m)) off in
      let b = in_begin heads base s m off f in
      begin_turn heads base b.0 b.1 x s t m now ok (subst (λ (c : Bool). StartsIf c (Some m) x s t) off does) (subst (StoresStep (Some m) (Some now) x s.recovery.region) due (stores m refl)) b.2
]
