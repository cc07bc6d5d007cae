-- What a turn of a start says, makes and leaves in a run.
use Rattle.std.proofs.Common.{◌≡◌, ◌≤◌, ◌<◌, ℕ, ◌+◌, Bool, true, false, List, [], ◌∷◌, length, cond, refl, ap, sym, ◌∙◌, subst, inl, inr, arith}
use Rattle.std.specs.Prelude.{Option, Some, None, option_map, slice_get, slice_index, map, nat_lt}
use Rattle.std.proofs.lemmas.Bool.{cases_Bool, cases_lt}
use Rattle.std.proofs.lemmas.Bool.Decides.{nat_tests}
use Rattle.vub_base.specs.declared.header.Header1.{Header1}
use Rattle.vub_base.specs.declared.store.Area.TheVariants.{I}
use Rattle.vub_shared.specs.Bytes.{Bytes, word}
use Rattle.vub_shared.specs.Stores.{Store, after_store}
use Rattle.vub_device.specs.declared.entry.Entry.{Entry}
use Rattle.vub_device.specs.declared.entry.Entry.TheVariants as entries
use Rattle.vub_device.specs.Past.{accepted, published, open_numbers, started}
use Rattle.vub_report.specs.declared.items.Item.TheVariants as items
use Rattle.vub_inflight.specs.Links.{link_at}
use Rattle.vub_infl_split.specs.declared.region.SplitRegion.{SplitRegion}
use Rattle.vub_infl_split.specs.declared.region.SplitStore.{SplitStore}
use Rattle.vub_infl_split.specs.declared.region.SplitStore.TheVariants.{SI1, SI2, SI3, SR1, SR2, SF1, SF2, SP3, SP4, SP6, SP7}
use Rattle.vub_infl_split.specs.Region.{RegionWords, words_of}
use Rattle.vub_infl_split.specs.Stores.{store_of, tag_of, words_after}
use Rattle.vub_infl_split.proofs.WordLemmas.{words_stored}
use Rattle.vub_infl_split.proofs.ReadingLemmas.{sound_unchecked}
use Rattle.vub_infl_split.specs.Readings.{one_each, is_open, open_entries, unchecked_entries}
use Rattle.vub_inflight.specs.Entries.{next_counter, heads_of}
use Rattle.vub_region_facts.specs.Starts.{Left, InStart}
use Rattle.vub_region_facts.specs.Phases.{NotStarted}
use Rattle.vub_region_facts.proofs.StartLemmas.{start_begins}
use Rattle.vub_steps.specs.declared.steps.Phase.{Phase}
use Rattle.vub_steps.specs.declared.steps.Phase.TheVariants as phases
use Rattle.vub_steps.specs.declared.steps.Plan.{Plan}
use Rattle.vub_steps.specs.declared.steps.Plan.TheVariants as plans
use Rattle.vub_steps.specs.declared.readiness.Turn.TheVariants as turns
use Rattle.vub_steps.specs.Plans.{plan_of}
use Rattle.vub_steps.specs.Readiness.{is_ready}
use Rattle.vub_steps.specs.Rows.{Row, region_row, region_step_at}
use Rattle.vub_steps.specs.Steps.{plan_steps}
use Rattle.vub_split.specs.declared.split.SplitRing.{SplitRing}
use Rattle.vub_split.specs.Split.{used_idx_word}
use Rattle.vub_rec_split.specs.declared.plan.Recovered.{Recovered}
use Rattle.vub_rec_split.specs.declared.plan.Recovered.TheVariants as recovered
use Rattle.vub_rec_split.specs.Starts.{RecoveryState, answer_in, due_in, state_after, plan_in, unchecked_in, SameQueue}
use Rattle.vub_rec_split.specs.Stands.{IsApart, StandsAt}
use Rattle.vub_rec_split.specs.Places.{IsFresh, IsAt}
use Rattle.vub_rec_split.proofs.PlaceLemmas.{planned, PlannedAlike, planned_alike, fresh_at, fresh_stands, at_stands, at_store, HasStore, at_stores, Stores, at_end, EndsStores, at_planned, state_queue}
use Rattle.vub_facts.proofs.Places.{bells, start_long}
use Rattle.vub_queue.specs.declared.queue.Stepped.{Stepped}
use Rattle.vub_queue.specs.declared.queue.Stepped.TheVariants as says
use Rattle.vub_setup.specs.Setups.{SplitSetup}
use Rattle.vub_queue.specs.QueueState as states
use Rattle.vub_queue.specs.QueueState.{QueueState, StartsIf, StoresStep, TrailsStep, StoresStart, TrailsStart, TrailsRow, StoresBy, TrailsBy, Turns, is_fault, resumed, start_said, start_after, start_due, rings_next}
use Rattle.vub_run.specs.Memory.{Scene, after_items}
use Rattle.vub_run.specs.Moments.{Lane, Moment, region_of, used_in, region_in, open_heads, standing}
use Rattle.vub_run.specs.Run.{one_turn}
use Rattle.vub_run.specs.Turns.{Turned, turned, under_way, phase_goes_on, next_counter_in}
use Rattle.vub_run_laws.proofs.RunGood.{StartIs}
use Rattle.vub_run_laws.proofs.RunHolds.{starting}
use Rattle.vub_run_laws.proofs.RunPhases.{rest_is, start_is}
use Rattle.vub_run_laws.proofs.RunTurns as between
use Rattle.vub_run_laws.proofs.RunTurns.{IsPlain, Good, PhaseCases, phase_cases}
use Rattle.vub_run_laws.proofs.RunQueue.{phase_at, queue_start, head_below, shown_index}
use Rattle.vub_run_laws.proofs.RunOwn.{started_own}
use Rattle.vub_queue.specs.QueueFacts.{StartingAt, StartsAt, kept_phase, kept_head, hidden_part}
use Rattle.vub_queue_in_run.specs.QueueAt.{QueueAt, PhaseAt, LiesAs, QueueStands, spot_of, used_after}
use Rattle.vub_queue_in_run.proofs.StartTurns.{stores_turn, bell_turn, last_turn, store_in_place, stores_next, rings_next as run_rings, ends_next}
use Rattle.vub_queue_in_run.proofs.QueueAtMoves.{Finds, at_started, at_starting}
use Rattle.vub_facts.proofs.HeadLemmas.{number_of}
use Rattle.vub_device.specs.Places.{are_distinct}
use Rattle.vub_inflight.proofs.EntryLemmas.{distinct_by_counter}
use Rattle.vub_run_laws.proofs.RunFrames.{open_out}
use Rattle.vub_run_laws.proofs.RunNumbers.{missing-among}
use Rattle.vub_queue_in_run.proofs.QueueAtTurns.{does_of, stands_next}
use Rattle.vub_queue_in_run.proofs.TurnSays.{TurnSays, Notes, Rings, Starts, region_fits}

-- ---- the recovery of the queue

-- it goes over the region and the ring of queue q
pub record IsOver (q : ℕ) (h : Header1) (m : Moment) (r : RecoveryState) : Type 0 where
  pub region : r.region ≡ region_of q h.size
  pub used : used_idx_word r.ring m.scene.memory ≡ used_in h q m.scene
  pub base : r.base ≡ h.base
  pub apart : IsApart r

is_over : (q : ℕ) (h : Header1) (setup : SplitSetup) (m : Moment) (state : QueueState) → LiesAs q setup h.size → QueueStands q h setup m state → IsOver q h m state.recovery
is_over q h setup m state main z =
    let region : state.recovery.region ≡ region_of q h.size = z.phase.region ∙ main.region in
    let space : state.recovery.ring.used.0.number ≡ 0 = ap (λ (r : SplitRing). r.used.0.number) z.phase.ring ∙ main.used_space in
    let there : state.recovery.region.space.number ≡ 1 = ap (λ (g : SplitRegion). g.space.number) region in record {
      region = region;
      used = ap (λ (r : SplitRing). used_idx_word r m.scene.memory) z.phase.ring ∙ ap (λ (s : ℕ). word 2 m.scene.memory s (setup.ring.used.1 + 2)) main.used_space ∙ ap (λ (p : ℕ). word 2 m.scene.memory 0 (p + 2)) main.used;
      base = z.phase.base;
      apart = inl (λ same. absurd (omega (arith, space, there, same)));
    }

-- what holds of the region of queue q, of the region that it goes over
over_facts : (q : ℕ) (h : Header1) (m : Moment) (r : RecoveryState) (heads : List ℕ) (plan : Plan) (done : ℕ) → IsOver q h m r → InStart h.size (used_in h q m.scene) heads h.base plan done (region_in h q m.scene)
    → InStart r.region.size (used_idx_word r.ring m.scene.memory) heads r.base plan done (words_of r.region m.scene.memory)
over_facts q h m r heads plan done o f =
    subst (λ (b : ℕ). InStart r.region.size (used_idx_word r.ring m.scene.memory) heads b plan done (words_of r.region m.scene.memory)) (sym o.base)
    (subst (λ (u : ℕ). InStart r.region.size u heads h.base plan done (words_of r.region m.scene.memory)) (sym o.used)
    (subst (λ (g : SplitRegion). InStart g.size (used_in h q m.scene) heads h.base plan done (words_of g m.scene.memory)) (sym o.region) f))

over_left : (q : ℕ) (h : Header1) (m : Moment) (r : RecoveryState) (heads : List ℕ) → IsOver q h m r → Left h.size (used_in h q m.scene) heads h.base (region_in h q m.scene)
    → Left r.region.size (used_idx_word r.ring m.scene.memory) heads r.base (words_of r.region m.scene.memory)
over_left q h m r heads o f =
    subst (λ (b : ℕ). Left r.region.size (used_idx_word r.ring m.scene.memory) heads b (words_of r.region m.scene.memory)) (sym o.base)
    (subst (λ (u : ℕ). Left r.region.size u heads h.base (words_of r.region m.scene.memory)) (sym o.used)
    (subst (λ (g : SplitRegion). Left g.size (used_in h q m.scene) heads h.base (words_of g m.scene.memory)) (sym o.region) f))

over_plan : (q : ℕ) (h : Header1) (m : Moment) (r : RecoveryState) → IsOver q h m r → plan_of (used_idx_word r.ring m.scene.memory) (words_of r.region m.scene.memory) ≡ plan_of (used_in h q m.scene) (region_in h q m.scene)
over_plan q h m r o = ap (λ (u : ℕ). plan_of u (words_of r.region m.scene.memory)) o.used ∙ ap (λ (g : SplitRegion). plan_of (used_in h q m.scene) (words_of g m.scene.memory)) o.region

over_store : (q : ℕ) (h : Header1) (m : Moment) (r : RecoveryState) (l : Lane) (done : ℕ) → IsOver q h m r
    → region_step_at (used_idx_word r.ring m.scene.memory) (link_at (words_of r.region m.scene.memory).next done (words_of r.region m.scene.memory).last_batch_head) (slice_get (plan_steps r.region.size l.plan) done) ≡ store_in_place q h m.scene l done
over_store q h m r l done o =
    ap (λ (u : ℕ). region_step_at u (link_at (words_of r.region m.scene.memory).next done (words_of r.region m.scene.memory).last_batch_head) (slice_get (plan_steps r.region.size l.plan) done)) o.used
    ∙ ap (λ (g : SplitRegion). region_step_at (used_in h q m.scene) (link_at (words_of g m.scene.memory).next done (words_of g m.scene.memory).last_batch_head) (slice_get (plan_steps g.size l.plan) done)) o.region

-- ---- the start that a turn goes on with

-- the lane with this plan, of which so many steps were made, and the queue's recovery
pub record IsStarting (q : ℕ) (h : Header1) (m : Moment) (state : QueueState) (plan : Plan) (done : ℕ) : Type 0 where
  pub lane : under_way h q m.scene turns.Start (m.lanes q) ≡ starting done (record (m.lanes q) { plan = plan })
  pub facts : InStart h.size (used_in h q m.scene) (open_heads q m.scene.past (m.scene.heads q)) h.base plan done (region_in h q m.scene)
  pub left : done < length (plan_steps h.size plan) + bells (m.lanes q).bell + 1
  pub at : IsAt plan done (words_of state.recovery.region m.scene.memory) (planned state.recovery m.scene.memory)
  pub stands : StandsAt (open_heads q m.scene.past (m.scene.heads q)) (planned state.recovery m.scene.memory) m.scene.memory
  pub alike : PlannedAlike state.recovery m.scene.memory
  pub rung : state.rung ≡ nat_lt (length (plan_steps h.size plan)) done

first_rung : (n : ℕ) (rung : Bool) → rung ≡ false → rung ≡ nat_lt n 0
first_rung n rung none = let low : nat_lt n 0 ≡ false = grind (arith, nat_tests) in none ∙ sym low

-- it begins
start_fresh : (q : ℕ) (h : Header1) (setup : SplitSetup) (m : Moment) (state : QueueState) → Good q h m → LiesAs q setup h.size → QueueStands q h setup m state → started m.scene.past q ≡ false → (m.lanes q).phase ≡ phases.Rest → (m.lanes q).batch ≡ []
    → IsStarting q h m state (plan_of (used_in h q m.scene) (region_in h q m.scene)) 0
start_fresh q h setup m state good main z stopped rest none =
    let l : Lane = m.lanes q in
    let r : RecoveryState = state.recovery in
    let mem : Bytes = m.scene.memory in
    let heads : List ℕ = open_heads q m.scene.past (m.scene.heads q) in
    let plan : Plan = plan_of (used_in h q m.scene) (region_in h q m.scene) in
    let words = good.holds.queue.words in
    let left : Left h.size (used_in h q m.scene) heads h.base (region_in h q m.scene) = subst (λ (p : Phase). NotStarted h.size (used_in h q m.scene) heads h.base l.plan p (region_in h q m.scene)) rest (words.not_started stopped) in
    let facts : InStart h.size (used_in h q m.scene) heads h.base plan 0 (region_in h q m.scene) = start_begins h.size (used_in h q m.scene) heads h.base (region_in h q m.scene) words.used_fits left in
    let over : IsOver q h m r = is_over q h setup m state main z in
    let begun : StartsAt h.size l.plan phases.Rest (region_in h q m.scene) state = subst (λ (p : Phase). StartsAt h.size l.plan p (region_in h q m.scene) state) rest (z.phase.begun stopped) in
    let fresh : IsFresh r = begun.0 in
    let found : plan_in r mem ≡ plan = no_plan r fresh.no_plan ∙ over_plan q h m r over in
    let at : IsAt plan 0 (words_of r.region mem) (planned r mem) = subst (λ (p : Plan). IsAt p 0 (words_of r.region mem) (planned r mem)) found (fresh_at r mem fresh) in
    let stood : StandsAt heads r mem = fresh_stands heads r mem over.apart fresh (over_left q h m r heads over left) in record {
      lane = sym (ap (λ (x : Lane). under_way h q m.scene turns.Start x) (rest_is l rest none));
      facts = facts;
      left = omega arith;
      at = at;
      stands = at_stands heads (planned r mem) mem plan 0 over.apart at (over_facts q h m r heads plan 0 over facts);
      alike = planned_alike heads r mem stood;
      rung = first_rung (length (plan_steps h.size plan)) state.rung begun.1;
    }
  where
    no_plan : (r : RecoveryState) → r.plan ≡ None → plan_in r m.scene.memory ≡ plan_of (used_idx_word r.ring m.scene.memory) (words_of r.region m.scene.memory)
    no_plan r none = go r.plan none
      where
        go : (o : Option Plan) → o ≡ None → plan_in (record r { plan = o }) m.scene.memory ≡ plan_of (used_idx_word r.ring m.scene.memory) (words_of r.region m.scene.memory)
        go None e = refl
        go (Some p) e = absurd (cc)

-- it goes on
start_later : (q : ℕ) (h : Header1) (setup : SplitSetup) (m : Moment) (state : QueueState) (done : ℕ) → Good q h m → LiesAs q setup h.size → QueueStands q h setup m state → started m.scene.past q ≡ false → (m.lanes q).phase ≡ phases.Start done → (m.lanes q).batch ≡ []
    → IsStarting q h m state (m.lanes q).plan done
start_later q h setup m state done good main z stopped phase none =
    let l : Lane = m.lanes q in
    let r : RecoveryState = state.recovery in
    let mem : Bytes = m.scene.memory in
    let heads : List ℕ = open_heads q m.scene.past (m.scene.heads q) in
    let facts : InStart h.size (used_in h q m.scene) heads h.base l.plan done (region_in h q m.scene) =
    subst (λ (p : Phase). NotStarted h.size (used_in h q m.scene) heads h.base l.plan p (region_in h q m.scene)) phase (good.holds.queue.words.not_started stopped) in
    let over : IsOver q h m r = is_over q h setup m state main z in
    let begun : StartingAt h.size l.plan done (region_in h q m.scene) state = subst (λ (p : Phase). StartsAt h.size l.plan p (region_in h q m.scene) state) phase (z.phase.begun stopped) in
    let here : IsAt l.plan done (words_of r.region mem) r = subst (λ (g : SplitRegion). IsAt l.plan done (words_of g mem) r) (sym over.region) begun.recovery in
    let same : planned r mem ≡ r = at_planned r mem l.plan done here in
    let stood : StandsAt heads r mem = at_stands heads r mem l.plan done over.apart here (over_facts q h m r heads l.plan done over facts) in
    let start : StartIs (started m.scene.past q) h.size l.bell l.plan (phases.Start done) = subst (λ (p : Phase). StartIs (started m.scene.past q) h.size l.bell l.plan p) phase (queue_start q h m.scene l good.holds) in record {
      lane = sym (ap (λ (x : Lane). under_way h q m.scene turns.Start x) (start_is done l phase none));
      facts = facts;
      left = omega (arith, start.left, start_long h.size l.plan l.bell);
      at = subst (λ (x : RecoveryState). IsAt l.plan done (words_of r.region mem) x) (sym same) here;
      stands = subst (λ (x : RecoveryState). StandsAt heads x mem) (sym same) stood;
      alike = planned_alike heads r mem stood;
      rung = begun.rung;
    }

pub start_under_way : (q : ℕ) (h : Header1) (setup : SplitSetup) (m : Moment) (state : QueueState) → Good q h m → LiesAs q setup h.size → QueueStands q h setup m state → started m.scene.past q ≡ false → (plan : Plan) × (done : ℕ) × IsStarting q h m state plan done
start_under_way q h setup m state good main z stopped = go (phase_cases h.size l.bell l.plan l.batch l.phase (phase_at q h m.scene l good.holds))
  where
    l : Lane
    l = m.lanes q

    none : l.batch ≡ []
    none = good.holds.carries.quiet stopped

    go : PhaseCases l.batch l.phase → (plan : Plan) × (done : ℕ) × IsStarting q h m state plan done
    go (between.Rests rest batch) = (plan_of (used_in h q m.scene) (region_in h q m.scene), 0, start_fresh q h setup m state good main z stopped rest none)
    go (between.Starts done phase batch) = (l.plan, done, start_later q h setup m state done good main z stopped phase none)
    go (between.Fetches phase batch) = absurd (
        let run : started m.scene.past q ≡ true = subst (λ (p : Phase). StartIs (started m.scene.past q) h.size l.bell l.plan p) phase (queue_start q h m.scene l good.holds) in
        let fails : true ≡ false = sym run ∙ stopped in
        cc)
    go (between.Publishes done phase some) = absurd (omega (arith, some, ap (λ (ks : List ℕ). length ks) none))

-- ---- what a turn of it says, makes and leaves

-- the row of the store that is due
abbrev pub start_row : QueueState → Bytes → Option Row
start_row s m = option_map (region_row s.recovery.region) (start_due s m)

-- so its step stores as the row does
step_stores : (before after : Option Bytes) (x : Stepped) (g : SplitRegion) (step : Option SplitStore) → StoresStep before after x g step → states.StoresRow before after x (option_map (region_row g) step)
step_stores before after x g None made = made
step_stores before after x g (Some y) made = made

step_trails : (before after : Option (List Store)) (x : Stepped) (g : SplitRegion) (step : Option SplitStore) → TrailsStep before after x g step → TrailsRow before after x (option_map (region_row g) step)
step_trails before after x g None made = made
step_trails before after x g (Some y) made = made

pub start_stores_row : (before after : Option Bytes) (x : Stepped) (s : QueueState) → StoresStart before after x s → StoresBy before after x (start_row s)
start_stores_row before after x s made = λ m told. step_stores before after x s.recovery.region (start_due s m) (made m told)

pub start_trails_row : (told : Option Bytes) (before after : Option (List Store)) (x : Stepped) (s : QueueState) → TrailsStart told before after x s → TrailsBy told before after x (start_row s)
start_trails_row told before after x s made = (made.0, λ m is. step_trails before after x s.recovery.region (start_due s m) (made.1 m is))

-- it says what the turn makes in the run, whatever waits to be fetched, and the queue stands where the lane does
pub record StartStands (q : ℕ) (h : Header1) (setup : SplitSetup) (m : Moment) (x : Stepped) (row : Option Row) (state' : QueueState) : Type 0 where
  pub says : (head : ℕ) → TurnSays q h m turns.Start x row head []
  pub stands : QueueStands q h setup (one_turn h q turns.Start m).next state'

-- ---- the step that is next

-- what the turn says, by what its recovery answers
record Answers (m : Moment) (x : Stepped) (state u : QueueState) : Type 0 where
  pub said : x ≡ start_said (rings_next state) (answer_in state.recovery m.scene.memory)
  pub leaves : u ≡ start_after (answer_in state.recovery m.scene.memory) (state_after state.recovery m.scene.memory) (used_idx_word state.ring m.scene.memory) (unchecked_in state.recovery m.scene.memory) state

start_answers : (q : ℕ) (h : Header1) (setup : SplitSetup) (m : Moment) (x : Stepped) (state u : QueueState) → QueueStands q h setup m state → started m.scene.past q ≡ false → states.Starts (Some m.scene.memory) x state u → Answers m x state u
start_answers q h setup m x state u z stopped does =
    let not_yet : StartsIf false (Some m.scene.memory) x state u = subst (λ (b : Bool). StartsIf b (Some m.scene.memory) x state u) (z.at.started ∙ stopped) does in
    let here = not_yet m.scene.memory refl in record { said = here.0; leaves = here.1 }

rest_kept : (l : Lane) (done : ℕ) (plan : Plan) (m : Moment) (h : Header1) (q : ℕ) → under_way h q m.scene turns.Start l ≡ starting done (record l { plan = plan }) → kept_phase l.phase ≡ phases.Rest
rest_kept l done plan m h q is = go l.phase (ap (λ (x : Lane). x.phase) is)
  where
    go : (p : Phase) → (under_way h q m.scene turns.Start (record l { phase = p })).phase ≡ phases.Start done → kept_phase p ≡ phases.Rest
    go phases.Rest e = refl
    go (phases.Start d) e = refl
    go (phases.Fetch d) e = absurd (cc)
    go (phases.Publish d) e = absurd (cc)

-- in such a phase no batch is hidden, and no head of a fetch is kept
rests_hidden : (p : Phase) (batch : List ℕ) → kept_phase p ≡ phases.Rest → hidden_part p batch ≡ []
rests_hidden phases.Rest batch e = refl
rests_hidden (phases.Start d) batch e = refl
rests_hidden (phases.Fetch d) batch e = refl
rests_hidden (phases.Publish d) batch e = absurd (cc)

rests_headless : (p : Phase) (head : ℕ) → kept_phase p ≡ phases.Rest → kept_head p head ≡ None
rests_headless phases.Rest head e = refl
rests_headless (phases.Start d) head e = refl
rests_headless (phases.Fetch d) head e = absurd (cc)
rests_headless (phases.Publish d) head e = refl

-- so the queue keeps no head and no batch
record KeepsNone (state : QueueState) : Type 0 where
  pub fetching : state.fetching ≡ None
  pub batch : state.batch ≡ []

keeps_none : (q : ℕ) (h : Header1) (setup : SplitSetup) (m : Moment) (state : QueueState) → QueueStands q h setup m state → kept_phase (m.lanes q).phase ≡ phases.Rest → (m.lanes q).batch ≡ [] → KeepsNone state
keeps_none q h setup m state z kept none = record {
  fetching = z.phase.fetching ∙ rests_headless (m.lanes q).phase (slice_index (m.scene.heads q) (accepted m.scene.past q)) kept;
  batch = z.phase.batch ∙ ap (λ (ks : List ℕ). map (spot_of q h m.scene.past (m.scene.heads q)) ks) none;
}

-- a queue in a start, with this recovery
starts_on : (q : ℕ) (h : Header1) (setup : SplitSetup) (m : Moment) (state : QueueState) (plan : Plan) (done : ℕ) (w : RegionWords) (r : RecoveryState) (rung : Bool) → QueueStands q h setup m state → KeepsNone state → SameQueue state.recovery r → IsAt plan (done + 1) w r
    → rung ≡ nat_lt (length (plan_steps h.size plan)) (done + 1) → PhaseAt q h setup m.scene.past (m.scene.heads q) (m.lanes q).bell plan (m.lanes q).counter [] (phases.Start (done + 1)) w (record state { recovery = r; rung = rung })
starts_on q h setup m state plan done w r rung z keeps same at is = record {
  index = z.phase.index;
  bell = z.phase.bell;
  ring = same.ring ∙ z.phase.ring;
  region = same.region ∙ z.phase.region;
  base = same.base ∙ z.phase.base;
  begun = λ stopped. record { recovery = at; rung = is };
  counter = z.phase.counter;
  fetching = keeps.fetching;
  batch = keeps.batch;
}

-- the item of a store tells it
told_store : (q : ℕ) (h : Header1) (s : Scene) (y : SplitStore) → (after_items h (items.Store (tag_of y) I (store_of (region_of q h.size) y).place (store_of (region_of q h.size) y).bytes ∷ []) s).memory ≡ after_store (store_of (region_of q h.size) y) s.memory
told_store q h s SI1 = refl
told_store q h s (SI2 i) = refl
told_store q h s (SI3 used) = refl
told_store q h s (SR1 i) = refl
told_store q h s (SR2 used) = refl
told_store q h s (SF1 i counter) = refl
told_store q h s (SF2 i) = refl
told_store q h s (SP3 i next) = refl
told_store q h s (SP4 head) = refl
told_store q h s (SP6 i) = refl
told_store q h s (SP7 used) = refl

-- a store
start_stores : (q : ℕ) (h : Header1) (setup : SplitSetup) (m : Moment) (x : Stepped) (state u state' : QueueState) (plan : Plan) (done : ℕ) → IsPlain h → Good q h m → LiesAs q setup h.size → QueueStands q h setup m state → started m.scene.past q ≡ false → IsStarting q h m state plan done
    → Answers m x state u → state' ≡ states.halted x u → done < length (plan_steps h.size plan) → StartStands q h setup m x (start_row state m.scene.memory) state'
start_stores q h setup m x state u state' plan done plain good main z stopped under answers halts more =
    record {
      says = λ head. Notes (region_row (region_of q h.size) y) (record {
        is_row = ap (option_map (region_row r.region)) due ∙ ap (λ (g : SplitRegion). Some (region_row g y)) over.region;
        fits = region_fits q h.size y;
        said = said;
        made = ap (λ (t : Turned). t.items) turn;
      });
      stands = stands_next q h setup m turns.Start (stores_turn q h l' done y) state' turn
          (subst (λ (t : QueueState). QueueAt q h setup m.scene.past (m.scene.heads q) (phases.Start (done + 1)) [] l.completed l.made t) (sym after) (at_starting q h setup m.scene.past (m.scene.heads q) l.phase (hidden_part l.phase l.batch) l.completed l.made state (state_after r mem) state.rung (done + 1) kept (rests_hidden l.phase l.batch kept) z.at))
          (subst (λ (t : QueueState). PhaseAt q h setup m.scene.past (m.scene.heads q) l.bell plan l.counter [] (phases.Start (done + 1)) w' t) (sym after) (starts_on q h setup m state plan done w' (state_after r mem) state.rung z keeps (state_queue r mem) at_next rung));
    }
  where
    l : Lane
    l = m.lanes q

    l' : Lane
    l' = record l { plan = plan }

    r : RecoveryState
    r = state.recovery

    mem : Bytes
    mem = m.scene.memory

    heads : List ℕ
    heads = open_heads q m.scene.past (m.scene.heads q)

    over : IsOver q h m r
    over = is_over q h setup m state main z

    size : r.region.size ≡ h.size
    size = ap (λ (g : SplitRegion). g.size) over.region

    there : InStart r.region.size (used_idx_word r.ring mem) heads r.base plan done (words_of r.region mem)
    there = over_facts q h m r heads plan done over under.facts

    more' : done < length (plan_steps r.region.size plan)
    more' = subst (λ (n : ℕ). done < length (plan_steps n plan)) (sym size) more

    has : HasStore (planned r mem) mem plan done
    has = at_store heads (planned r mem) mem plan done (omega (arith, over.used, good.holds.queue.words.used_fits)) under.at there more'

    y : SplitStore
    y = has.store

    made : Stores plan done (planned r mem) mem y
    made = at_stores heads (planned r mem) mem plan done y under.stands under.at there more' has.due

    due : start_due state mem ≡ Some y
    due = ap (λ (b : Bool). cond b None (due_in r mem)) (z.at.started ∙ stopped) ∙ under.alike.due ∙ has.due

    answer : answer_in r mem ≡ recovered.Stored (tag_of y)
    answer = under.alike.answer ∙ made.answers

    said : x ≡ says.Stored (tag_of y)
    said = answers.said ∙ ap (start_said (rings_next state)) answer

    after : state' ≡ record state { recovery = state_after r mem }
    after = halts ∙ ap (λ (z : Stepped). states.halted z u) said ∙ answers.leaves ∙ ap (λ (a : Recovered). start_after a (state_after r mem) (used_idx_word state.ring mem) (unchecked_in r mem) state) answer

    turn : turned h q turns.Start m ≡ stores_turn q h l' done y
    turn = ap (phase_goes_on h q m.scene) under.lane ∙ stores_next q h m.scene l' done y more (sym (over_store q h m r l' done over) ∙ has.next)

    kept : kept_phase l.phase ≡ phases.Rest
    kept = rest_kept l done plan m h q under.lane

    keeps : KeepsNone state
    keeps = keeps_none q h setup m state z kept (good.holds.carries.quiet stopped)

    w' : RegionWords
    w' = region_in h q (after_items h (stores_turn q h l' done y).items m.scene)

    stored : words_after (planned r mem).region.size y (words_of r.region mem) ≡ w'
    stored = sym (words_stored r.region y mem (omega (arith, size, plain.good.size.small)) has.within has.fits) ∙ ap (λ (g : SplitRegion). words_of g (after_store (store_of g y) mem)) over.region ∙ ap (words_of (region_of q h.size)) (sym (told_store q h m.scene y))

    at_next : IsAt plan (done + 1) w' (state_after r mem)
    at_next = subst (λ (w : RegionWords). IsAt plan (done + 1) w (state_after r mem)) stored (subst (λ (s : RecoveryState). IsAt plan (done + 1) (words_after (planned r mem).region.size y (words_of r.region mem)) s) (sym under.alike.state) made.goes)

    rung : state.rung ≡ nat_lt (length (plan_steps h.size plan)) (done + 1)
    rung = let before : nat_lt (length (plan_steps h.size plan)) done ≡ false = grind (arith, nat_tests) in
        let now : nat_lt (length (plan_steps h.size plan)) (done + 1) ≡ false = grind (arith, nat_tests) in
        under.rung ∙ before ∙ sym now

-- no store is left
record NoneLeft (m : Moment) (state : QueueState) : Type 0 where
  pub due : due_in state.recovery m.scene.memory ≡ None
  pub answer : answer_in state.recovery m.scene.memory ≡ recovered.Done
  pub ends : (state_after state.recovery m.scene.memory).plan ≡ Some plans.Settled

none_left : (q : ℕ) (h : Header1) (setup : SplitSetup) (m : Moment) (state : QueueState) (plan : Plan) (done : ℕ) → LiesAs q setup h.size → QueueStands q h setup m state → IsStarting q h m state plan done → length (plan_steps h.size plan) ≤ done → NoneLeft m state
none_left q h setup m state plan done main z under all =
    let r : RecoveryState = state.recovery in
    let mem : Bytes = m.scene.memory in
    let size : r.region.size ≡ h.size = ap (λ (g : SplitRegion). g.size) (is_over q h setup m state main z).region in
    let settled : (planned r mem).plan ≡ Some plans.Settled = under.at.settled (subst (λ (n : ℕ). length (plan_steps n plan) ≤ done) (sym size) all) in
    let ends : EndsStores (planned r mem) mem = at_end (planned r mem) mem settled in record {
      due = under.alike.due ∙ ends.due;
      answer = under.alike.answer ∙ ends.answers;
      ends = ap (λ (s : RecoveryState). s.plan) (under.alike.state ∙ ends.stays) ∙ settled;
    }

no_row : (m : Moment) (state : QueueState) → state.started ≡ false → NoneLeft m state → start_row state m.scene.memory ≡ None
no_row m state stopped left = ap (λ (b : Bool). option_map (region_row state.recovery.region) (cond b None (due_in state.recovery m.scene.memory))) stopped ∙ ap (option_map (region_row state.recovery.region)) left.due

-- a recovery with no store left is in any place behind them
settled_at : (n : ℕ) (plan : Plan) (place : ℕ) (w : RegionWords) (r : RecoveryState) → r.region.size ≡ n → r.plan ≡ Some plans.Settled → length (plan_steps n plan) ≤ place → IsAt plan place w r
settled_at n plan place w r size settled all = record { stores = λ more. absurd (let less : place < length (plan_steps n plan) = subst (λ (k : ℕ). place < length (plan_steps k plan)) size more in omega (arith, less, all)); settled = λ behind. settled }

-- the bell
start_rings : (q : ℕ) (h : Header1) (setup : SplitSetup) (m : Moment) (x : Stepped) (state u state' : QueueState) (plan : Plan) (done : ℕ) → Good q h m → LiesAs q setup h.size → QueueStands q h setup m state → started m.scene.past q ≡ false → IsStarting q h m state plan done
    → Answers m x state u → state' ≡ states.halted x u → done ≡ length (plan_steps h.size plan) → (m.lanes q).bell ≡ true → StartStands q h setup m x (start_row state m.scene.memory) state'
start_rings q h setup m x state u state' plan done good main z stopped under answers halts all bell =
    let l : Lane = m.lanes q in
    let l' : Lane = record l { plan = plan } in
    let r : RecoveryState = state.recovery in
    let mem : Bytes = m.scene.memory in
    let left : NoneLeft m state = none_left q h setup m state plan done main z under (omega (arith, all)) in
    let quiet : state.rung ≡ false = let none : nat_lt (length (plan_steps h.size plan)) done ≡ false = grind (arith, nat_tests) in under.rung ∙ none in
    let has : state.bell ≡ true = z.phase.bell ∙ bell in
    let rings : rings_next state ≡ true = grind (arith, nat_tests) in
    let said : x ≡ says.Belled = answers.said ∙ ap (start_said (rings_next state)) left.answer ∙ ap (λ (b : Bool). start_said b recovered.Done) rings in
    let after : state' ≡ record state { recovery = state_after r mem; rung = true } =
    halts ∙ ap (λ (y : Stepped). states.halted y u) said ∙ answers.leaves ∙ ap (λ (a : Recovered). start_after a (state_after r mem) (used_idx_word state.ring mem) (unchecked_in r mem) state) left.answer ∙ ap (λ (b : Bool). states.ended b (used_idx_word state.ring mem) (unchecked_in r mem) (record state { recovery = state_after r mem })) rings in
    let turn : turned h q turns.Start m ≡ bell_turn q l' done = ap (phase_goes_on h q m.scene) under.lane ∙ run_rings q h m.scene l' done bell all in
    let kept : kept_phase l.phase ≡ phases.Rest = rest_kept l done plan m h q under.lane in
    let keeps : KeepsNone state = keeps_none q h setup m state z kept (good.holds.carries.quiet stopped) in
    let size : (state_after r mem).region.size ≡ h.size = ap (λ (g : SplitRegion). g.size) ((state_queue r mem).region ∙ (is_over q h setup m state main z).region) in
    let at_next : IsAt plan (done + 1) (region_in h q m.scene) (state_after r mem) = settled_at h.size plan (done + 1) (region_in h q m.scene) (state_after r mem) size left.ends (omega (arith, all)) in
    let rung : true ≡ nat_lt (length (plan_steps h.size plan)) (done + 1) = let now : nat_lt (length (plan_steps h.size plan)) (done + 1) ≡ true = grind (arith, nat_tests) in sym now in
    record {
      says = λ head. Rings (record { is_row = no_row m state (z.at.started ∙ stopped) left; said = said; made = ap (λ (t : Turned). t.items) turn });
      stands = stands_next q h setup m turns.Start (bell_turn q l' done) state' turn
          (subst (λ (t : QueueState). QueueAt q h setup m.scene.past (m.scene.heads q) (phases.Start (done + 1)) [] l.completed l.made t) (sym after) (at_starting q h setup m.scene.past (m.scene.heads q) l.phase (hidden_part l.phase l.batch) l.completed l.made state (state_after r mem) true (done + 1) kept (rests_hidden l.phase l.batch kept) z.at))
          (subst (λ (t : QueueState). PhaseAt q h setup m.scene.past (m.scene.heads q) l.bell plan l.counter [] (phases.Start (done + 1)) (region_in h q m.scene) t) (sym after)
          (starts_on q h setup m state plan done (region_in h q m.scene) (state_after r mem) true z keeps (state_queue r mem) at_next rung));
    }

-- what its recovery read at the end are the open entries of the region
ends_reading : (q : ℕ) (h : Header1) (setup : SplitSetup) (m : Moment) (state : QueueState) (plan : Plan) (done : ℕ) → LiesAs q setup h.size → QueueStands q h setup m state → IsStarting q h m state plan done → length (plan_steps h.size plan) ≤ done
    → unchecked_in state.recovery m.scene.memory ≡ open_entries h.size (used_in h q m.scene) (region_in h q m.scene)
ends_reading q h setup m state plan done main z under all =
    let r : RecoveryState = state.recovery in
    let over : IsOver q h m r = is_over q h setup m state main z in
    ap (λ (u : ℕ). unchecked_entries r.region.size u (words_of r.region m.scene.memory)) over.used
    ∙ ap (λ (g : SplitRegion). unchecked_entries g.size (used_in h q m.scene) (words_of g m.scene.memory)) over.region
    ∙ sound_unchecked h.size (used_in h q m.scene) (open_heads q m.scene.past (m.scene.heads q)) (region_in h q m.scene) (under.facts.settled all).sound

-- so they are the open requests, in order
start_finds : (q : ℕ) (h : Header1) (setup : SplitSetup) (m : Moment) (state : QueueState) (plan : Plan) (done : ℕ) → Good q h m → LiesAs q setup h.size → QueueStands q h setup m state → IsStarting q h m state plan done → length (plan_steps h.size plan) ≤ done
    → Finds setup.ring.size (open_heads q m.scene.past (m.scene.heads q)) (unchecked_in state.recovery m.scene.memory)
start_finds q h setup m state plan done good main z under all =
    let w : RegionWords = region_in h q m.scene in
    let heads : List ℕ = open_heads q m.scene.past (m.scene.heads q) in
    let reads : heads_of (open_entries h.size (used_in h q m.scene) w) ≡ heads = (under.facts.settled all).sound.reads in record {
      reads = ap heads_of (ends_reading q h setup m state plan done main z under all) ∙ reads;
      distinct = subst (λ (hs : List ℕ). are_distinct hs ≡ true) reads (distinct_by_counter w.counter one_each (is_open (used_in h q m.scene) w) h.size);
      below = λ d held.
          let there = number_of (slice_index (m.scene.heads q)) (open_numbers m.scene.past q) d held in
          let opened = missing-among (published m.scene.past q) (accepted m.scene.past q) there.0 there.1 in
          let out = open_out q h.size h.capacity m.scene.past (m.scene.heads q) there.0 good.holds.known (record { taken = opened.0; unpublished = opened.1 }) in
          omega (arith, main.size, there.2, head_below q h m.scene (m.lanes q).driver (m.lanes q).bell (m.lanes q).plan (m.lanes q).counter (m.lanes q).batch (m.lanes q).phase there.0 good.holds.queue out);
    }

used_now : (q : ℕ) (h : Header1) (setup : SplitSetup) (m : Moment) (state : QueueState) → Good q h m → LiesAs q setup h.size → QueueStands q h setup m state → used_idx_word state.ring m.scene.memory ≡ used_after h q m.scene.past
used_now q h setup m state good main z =
    ap (λ (r : SplitRing). used_idx_word r m.scene.memory) z.at.ring ∙ ap (λ (s : ℕ). word 2 m.scene.memory s (setup.ring.used.1 + 2)) main.used_space ∙ ap (λ (p : ℕ). word 2 m.scene.memory 0 (p + 2)) main.used
    ∙ shown_index q h m.scene (m.lanes q).driver (m.lanes q).bell (m.lanes q).plan (m.lanes q).counter (m.lanes q).batch (m.lanes q).phase good.holds.queue

-- the start
start_ends : (q : ℕ) (h : Header1) (setup : SplitSetup) (m : Moment) (x : Stepped) (state u state' : QueueState) (plan : Plan) (done : ℕ) → Good q h m → LiesAs q setup h.size → QueueStands q h setup m state → started m.scene.past q ≡ false → IsStarting q h m state plan done
    → Answers m x state u → state' ≡ states.halted x u → done ≡ length (plan_steps h.size plan) + bells (m.lanes q).bell → rings_next state ≡ false → StartStands q h setup m x (start_row state m.scene.memory) state'
start_ends q h setup m x state u state' plan done good main z stopped under answers halts all silent =
    let l : Lane = m.lanes q in
    let l' : Lane = record l { plan = plan } in
    let r : RecoveryState = state.recovery in
    let mem : Bytes = m.scene.memory in
    let past : List Entry = m.scene.past in
    let left : NoneLeft m state = none_left q h setup m state plan done main z under (omega (arith, all)) in
    let said : x ≡ says.Started = answers.said ∙ ap (start_said (rings_next state)) left.answer ∙ ap (λ (b : Bool). start_said b recovered.Done) silent in
    let after : state' ≡ resumed (used_idx_word state.ring mem) (unchecked_in r mem) (record state { recovery = state_after r mem }) =
    halts ∙ ap (λ (y : Stepped). states.halted y u) said ∙ answers.leaves ∙ ap (λ (a : Recovered). start_after a (state_after r mem) (used_idx_word state.ring mem) (unchecked_in r mem) state) left.answer ∙ ap (λ (b : Bool). states.ended b (used_idx_word state.ring mem) (unchecked_in r mem) (record state { recovery = state_after r mem })) silent in
    let turn : turned h q turns.Start m ≡ last_turn q h m.scene l' = ap (phase_goes_on h q m.scene) under.lane ∙ ends_next q h m.scene l' done all in
    let kept : kept_phase l.phase ≡ phases.Rest = rest_kept l done plan m h q under.lane in
    let keeps : KeepsNone state = keeps_none q h setup m state z kept (good.holds.carries.quiet stopped) in
    let quiet = good.holds.worked.quiet stopped in
    let found : Finds setup.ring.size (open_heads q past (m.scene.heads q)) (unchecked_in r mem) = start_finds q h setup m state plan done good main z under (omega (arith, all)) in
    let used_is : used_idx_word state.ring mem ≡ used_after h q past = used_now q h setup m state good main z in
    let past' : List Entry = entries.Start q (open_numbers past q) ∷ past in
    let run : started past' q ≡ true = started_own past q (open_numbers past q) in
    let same : SameQueue r (state_after r mem) = state_queue r mem in
    record {
      says = λ head. Starts (record {
        is_row = no_row m state (z.at.started ∙ stopped) left;
        said = said;
        made = ap (λ (t : Turned). t.items) turn;
      });
      stands = stands_next q h setup m turns.Start (last_turn q h m.scene l') state' turn
          (subst (λ (t : QueueState). QueueAt q h setup past' (m.scene.heads q) phases.Rest [] l.completed l.made t) (sym after)
          (at_started q h setup past (m.scene.heads q) l.phase (hidden_part l.phase l.batch) l.completed l.made state (state_after r mem) (unchecked_in r mem) (used_idx_word state.ring mem) stopped kept (rests_hidden l.phase l.batch kept) quiet.1.0 quiet.1.1 found used_is z.at))
          (subst (λ (t : QueueState). PhaseAt q h setup past' (m.scene.heads q) l.bell plan (next_counter_in h q m.scene) [] phases.Rest (region_in h q m.scene) t) (sym after) (record {
            index = z.phase.index;
            bell = z.phase.bell;
            ring = same.ring ∙ z.phase.ring;
            region = same.region ∙ z.phase.region;
            base = same.base ∙ z.phase.base;
            begun = λ still. absurd (let fails : true ≡ false = sym run ∙ still in cc);
            counter = λ runs. ap next_counter (ends_reading q h setup m state plan done main z under (omega (arith, all)));
            fetching = keeps.fetching;
            batch = keeps.batch;
          }));
    }

-- the step that is next, whichever it is
pub start_stands : (q : ℕ) (h : Header1) (setup : SplitSetup) (m : Moment) (x : Stepped) (state state' : QueueState) → IsPlain h → Good q h m → LiesAs q setup h.size → QueueStands q h setup m state
    → is_ready (standing h q m) turns.Start ≡ true → is_fault x ≡ false → Turns turns.Start (Some m.scene.memory) x state state' → StartStands q h setup m x (start_row state m.scene.memory) state'
start_stands q h setup m x state state' plain good main z ready fine made =
    let stopped : started m.scene.past q ≡ false = grind (arith, nat_tests) in
    let under = start_under_way q h setup m state good main z stopped in
    go stopped under.0 under.1 under.2 (start_answers q h setup m x state made.0 z stopped (does_of turns.Start (Some m.scene.memory) x state state' made fine))
  where
    go : started m.scene.past q ≡ false → (plan : Plan) (done : ℕ) → IsStarting q h m state plan done → Answers m x state made.0 → StartStands q h setup m x (start_row state m.scene.memory) state'
    go stopped plan done under answers = elim (cases_lt done (length (plan_steps h.size plan))) [
      | inl more ↦ start_stores q h setup m x state made.0 state' plan done plain good main z stopped under answers made.1 more
      | inr behind ↦ elim (cases_Bool (m.lanes q).bell) [
        | inl bell ↦
            let one : bells (m.lanes q).bell ≡ 1 = ap bells bell in
            elim (cases_lt (length (plan_steps h.size plan)) done) [
              | inl rung ↦
                  let was : state.rung ≡ true = let now : nat_lt (length (plan_steps h.size plan)) done ≡ true = grind (arith, nat_tests) in under.rung ∙ now in
                  start_ends q h setup m x state made.0 state' plan done good main z stopped under answers made.1 (omega (arith, one, rung, under.left)) (grind (arith, nat_tests))
              | inr first ↦ start_rings q h setup m x state made.0 state' plan done good main z stopped under answers made.1 (omega (arith, behind, first)) bell
            ]
        | inr silent ↦
            let none : bells (m.lanes q).bell ≡ 0 = ap bells silent in
            let has : state.bell ≡ false = z.phase.bell ∙ silent in
            start_ends q h setup m x state made.0 state' plan done good main z stopped under answers made.1 (omega (arith, none, behind, under.left)) (grind (arith, nat_tests))
      ]
    ]
