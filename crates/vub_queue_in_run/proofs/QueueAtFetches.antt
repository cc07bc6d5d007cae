-- What a turn of a fetch says, makes and leaves in a run.
use Rattle.std.proofs.Common.{◌≡◌, ◌<◌, ℕ, Bool, true, false, List, [], length, map, cond, refl, ap, sym, ◌∙◌, subst, arith}
use Rattle.std.specs.Prelude.{Option, Some, None, slice_index}
use Rattle.std.proofs.lemmas.Bool.Decides.{nat_tests}
use Rattle.vub_base.specs.declared.header.Header1.{Header1}
use Rattle.vub_steps.specs.declared.steps.Phase.{Phase}
use Rattle.vub_steps.specs.declared.steps.Phase.TheVariants as phases
use Rattle.vub_steps.specs.declared.steps.Step.{Step}
use Rattle.vub_steps.specs.declared.readiness.Turn.TheVariants as turns
use Rattle.vub_steps.specs.Readiness.{last_counter, is_ready, is_fetch, is_publication}
use Rattle.vub_steps.specs.Rows.{Row}
use Rattle.vub_split.specs.Split.{head_word}
use Rattle.vub_device.specs.declared.entry.Entry.{Entry}
use Rattle.vub_device.specs.Past.{accepted, is_among, started}
use Rattle.vub_facts.specs.Facts.{InFetching, head_next, IsDue}
use Rattle.vub_facts.proofs.FactSteps.{fetch_due}
use Rattle.vub_queue.specs.declared.queue.Stepped.{Stepped}
use Rattle.vub_queue.specs.declared.queue.Stepped.TheVariants as says
use Rattle.vub_setup.specs.Setups.{SplitSetup}
use Rattle.vub_queue.specs.QueueParts.{is_taken}
use Rattle.vub_queue.specs.QueueState as states
use Rattle.vub_queue.specs.QueueState.{QueueState, row_at, step_in, kept_or, fetch_row, fetch_under_way, Fetched, Fetches, MovesBy, Turns, is_fault}
use Rattle.vub_run.specs.Moments.{Lane, Moment, open_heads, next_head, region_in, standing}
use Rattle.vub_run.specs.Turns.{under_way, phase_turn, phase_goes_on}
use Rattle.vub_run_laws.proofs.RunGood.{Known, Worked}
use Rattle.vub_run_laws.proofs.RunHolds.{Holds, fetching}
use Rattle.vub_run_laws.proofs.RunPhases.{resting, rest_is}
use Rattle.vub_run_laws.proofs.RunTurns.{IsPlain, Good, running_cases, RunningCases, AtRest, InFetch, InPublication}
use Rattle.vub_run_laws.proofs.RunQueue.{queue_ahead, queue_fetch_begins, fetch_more}
use Rattle.vub_run_laws.proofs.RingGood.{side_of, QueueFacts}
use Rattle.vub_run_laws.proofs.RingFacts.{words_in}
use Rattle.vub_run_laws.proofs.RingPositions.{at_position, at_heads, head_there}
use Rattle.vub_queue.specs.QueueFacts.{hidden_part, hidden_in, kept_head, kept_phase}
use Rattle.vub_queue_in_run.specs.QueueAt.{spot_of, used_after, QueueAt, PhaseAt, LiesAs, QueueStands}
use Rattle.vub_queue.proofs.QueueHeld.{words_with}
use Rattle.vub_queue_in_run.proofs.QueueAtMoves.{at_goes}
use Rattle.vub_queue_in_run.proofs.QueueAtTurns.{ready_same, does_of, head_is, keeps_rules, worked_at}
use Rattle.vub_queue_in_run.proofs.QueueAtSteps.{IsUnderWay, StepStands, step_stands, lane_next, queue_next}

-- ---- a fetch that goes on

-- a lane and its queue are so many steps in a fetch
record Fetching (q : ℕ) (h : Header1) (setup : SplitSetup) (m : Moment) (done : ℕ) (l : Lane) (u : QueueState) : Type 0 where
  pub main : LiesAs q setup h.size
  pub run : started m.scene.past q ≡ true
  pub known : Known q h.size h.capacity m.scene.past (m.scene.heads q)
  pub worked : done ≡ 1 → Worked q m.scene.past (phases.Fetch done) [] l.completed l.made
  pub more : accepted m.scene.past q < length (m.scene.heads q)
  pub facts : QueueFacts q h m.scene l.driver l.bell l.plan l.counter [] (phases.Fetch done)
  pub at : QueueAt q h setup m.scene.past (m.scene.heads q) (phases.Fetch done) [] l.completed l.made u
  pub phase : PhaseAt q h setup m.scene.past (m.scene.heads q) l.bell l.plan l.counter [] (phases.Fetch done) (region_in h q m.scene) u
  pub seen : kept_or u.fetching (head_word u.ring m.scene.memory u.next_avail) ≡ slice_index (m.scene.heads q) (accepted m.scene.past q)

-- its head is that of the next request, and free
in_fetching : (q : ℕ) (h : Header1) (setup : SplitSetup) (m : Moment) (done : ℕ) (l : Lane) (u : QueueState) → Fetching q h setup m done l u → InFetching h.size (open_heads q m.scene.past (m.scene.heads q)) l.counter [] done (words_in q h m.scene)
in_fetching q h setup m done l u f = f.facts.words.batch

next_is : (q : ℕ) (h : Header1) (setup : SplitSetup) (m : Moment) (done : ℕ) (l : Lane) (u : QueueState) → Fetching q h setup m done l u → next_head h q m.scene ≡ slice_index (m.scene.heads q) (accepted m.scene.past q)
next_is q h setup m done l u f =
    head_there q h.size h.base m.scene.past (m.scene.heads q) m.scene.memory _ f.facts.ringed f.more (at_position q h.size h.capacity h.base m.scene.past (m.scene.heads q) m.scene.memory f.known f.facts.ringed)

fact_head : (q : ℕ) (h : Header1) (setup : SplitSetup) (m : Moment) (done : ℕ) (l : Lane) (u : QueueState) → Fetching q h setup m done l u → head_next (open_heads q m.scene.past (m.scene.heads q)) (words_in q h m.scene) ≡ slice_index (m.scene.heads q) (accepted m.scene.past q)
fact_head q h setup m done l u f =
    head_there q h.size h.base m.scene.past (m.scene.heads q) m.scene.memory _ f.facts.ringed f.more (at_heads q h.size h.capacity h.base m.scene.past (m.scene.heads q) m.scene.memory f.known f.facts.ringed)

head_low : (q : ℕ) (h : Header1) (setup : SplitSetup) (m : Moment) (done : ℕ) (l : Lane) (u : QueueState) → Fetching q h setup m done l u → slice_index (m.scene.heads q) (accepted m.scene.past q) < setup.ring.size
head_low q h setup m done l u f = omega (arith, (in_fetching q h setup m done l u f).below, fact_head q h setup m done l u f, f.main.size)

head_free : (q : ℕ) (h : Header1) (setup : SplitSetup) (m : Moment) (done : ℕ) (l : Lane) (u : QueueState) → Fetching q h setup m done l u → is_taken u.taken (slice_index (m.scene.heads q) (accepted m.scene.past q)) ≡ false
head_free q h setup m done l u f =
    (f.at.keeps f.run (words_with (used_after h q m.scene.past)) refl).taken (slice_index (m.scene.heads q) (accepted m.scene.past q)) (head_low q h setup m done l u f)
    ∙ ap (is_among (open_heads q m.scene.past (m.scene.heads q))) (sym (fact_head q h setup m done l u f)) ∙ (in_fetching q h setup m done l u f).free

-- what a step that is due does of the queue
abbrev Does : Moment → Stepped → QueueState → QueueState → Type 0
Does m x u t = MovesBy (step_in u) m.scene.memory x u t

goes : (q : ℕ) (h : Header1) (setup : SplitSetup) (m : Moment) (x : Stepped) (row : Option Row) (done : ℕ) (l : Lane) (u t : QueueState) → Fetching q h setup m done l u → under_way h q m.scene turns.Fetch (m.lanes q) ≡ fetching done l → Does m x u t → row ≡ row_at u m.scene.memory (step_in u)
    → StepStands q h setup m turns.Fetch x row [] t
goes q h setup m x row done l u t f lane does is_row = go due.0 due.1
  where
    due : (step : Step) × IsDue h.size step (side_of q h m.scene l.bell l.plan l.counter [] (phases.Fetch done))
    due = fetch_due h.size (open_heads q m.scene.past (m.scene.heads q)) h.base done (side_of q h m.scene l.bell l.plan l.counter [] (phases.Fetch done)) (words_in q h m.scene) (record { started = f.run; place = refl }) f.facts.words

    way : (step : Step) → IsDue h.size step (side_of q h m.scene l.bell l.plan l.counter [] (phases.Fetch done)) → IsUnderWay q h setup m.scene (fetching done l) step u
    way step is_due = record {
      main = f.main;
      run = f.run;
      due = is_due;
      known = f.known;
      worked = λ e. f.worked (let same : phases.Fetch done ≡ phases.Fetch 1 = e in cc);
      opens = λ k among. absurd (let fails : false ≡ true = among in cc);
      head = λ e. next_is q h setup m done l u f;
      seen = λ e. f.seen;
      below = λ e. head_low q h setup m done l u f;
      free = λ e. head_free q h setup m done l u f;
      at = f.at;
      phase = f.phase;
    }

    go : (step : Step) → IsDue h.size step (side_of q h m.scene l.bell l.plan l.counter [] (phases.Fetch done)) → StepStands q h setup m turns.Fetch x row [] t
    go step is_due =
        let w = way step is_due in
        let next : step_in u ≡ Some step = queue_next q h setup m.scene (fetching done l) step u w in
        let moves : MovesBy (Some step) m.scene.memory x u t = subst (λ (o : Option Step). MovesBy o m.scene.memory x u t) next does in
        step_stands q h setup m turns.Fetch (fetching done l) step u t x row (record {
          way = w;
          is = ap (phase_goes_on h q m.scene) lane ∙ ap (phase_turn h q m.scene (fetching done l)) (lane_next q h setup m.scene (fetching done l) step u w);
          said = moves.0;
          leaves = moves.1;
          is_row = is_row ∙ ap (row_at u m.scene.memory) next;
        })

-- ---- its two turns

-- a queue at rest begins it
begins : (q : ℕ) (h : Header1) (setup : SplitSetup) (m : Moment) (state : QueueState) → IsPlain h → Good q h m → LiesAs q setup h.size → QueueStands q h setup m state → is_ready (standing h q m) turns.Fetch ≡ true → (m.lanes q).phase ≡ phases.Rest → (m.lanes q).batch ≡ []
    → Fetching q h setup m 0 (m.lanes q) (record state { phase = phases.Fetch 0 })
begins q h setup m state plain good main z ready rest none =
    let l : Lane = m.lanes q in
    let past : List Entry = m.scene.past in
    let run : started past q ≡ true = grind (arith, nat_tests) in
    let no_fetch : is_fetch l.phase ≡ false = ap is_fetch rest in
    let some : 0 < (standing h q m).waiting = grind (arith, nat_tests) in
    let counts : l.counter < last_counter = grind (arith, nat_tests) in
    let more : accepted past q < length (m.scene.heads q) = omega (arith, some, queue_ahead q h m.scene l plain.good good.holds) in
    let at_rest : resting l ≡ l = rest_is l rest none in
    let held : Holds q h m.scene (resting l) = subst (λ (y : Lane). Holds q h m.scene y) (sym at_rest) good.holds in
    let idle : state.fetching ≡ None = z.phase.fetching ∙ ap (λ (p : Phase). kept_head p (slice_index (m.scene.heads q) (accepted past q))) rest in
    let hides : hidden_in state ≡ [] = ap (λ (p : Phase). hidden_part p state.batch) (z.at.phase ∙ ap kept_phase rest) in
    let at : QueueAt q h setup past (m.scene.heads q) l.phase [] l.completed l.made state = subst (λ (ks : List ℕ). QueueAt q h setup past (m.scene.heads q) l.phase ks l.completed l.made state) (ap (λ (p : Phase). hidden_part p l.batch) rest) z.at in
    record {
      main = main;
      run = run;
      known = good.holds.known;
      worked = λ e. absurd (omega (arith, e));
      more = more;
      facts = queue_fetch_begins q h m.scene l.driver l.bell l.plan l.counter plain.good.size run good.holds.known more counts held.queue;
      at = at_goes q h setup past (m.scene.heads q) l.phase [] l.completed l.made state (phases.Fetch 0) (phases.Fetch 0) state.counter state.fetching state.batch refl (sym hides) at;
      phase = record {
        index = z.phase.index;
        bell = z.phase.bell;
        ring = z.phase.ring;
        region = z.phase.region;
        base = z.phase.base;
        begun = λ stopped. absurd (let fails : true ≡ false = sym run ∙ stopped in cc);
        counter = z.phase.counter;
        fetching = idle;
        batch = z.phase.batch ∙ ap (map (spot_of q h past (m.scene.heads q))) none;
      };
      seen = ap (λ (o : Option ℕ). kept_or o (head_word state.ring m.scene.memory state.next_avail)) idle ∙ head_is q h setup m state run main z good.holds more;
    }

-- one whose counter is stored ends it
goes_on : (q : ℕ) (h : Header1) (setup : SplitSetup) (m : Moment) (state : QueueState) → IsPlain h → Good q h m → LiesAs q setup h.size → QueueStands q h setup m state → is_ready (standing h q m) turns.Fetch ≡ true → (m.lanes q).phase ≡ phases.Fetch 1 → (m.lanes q).batch ≡ []
    → Fetching q h setup m 1 (m.lanes q) state
goes_on q h setup m state plain good main z ready phase none =
    let l : Lane = m.lanes q in
    let past : List Entry = m.scene.past in
    let heads : List ℕ = m.scene.heads q in
    let held : QueueFacts q h m.scene l.driver l.bell l.plan l.counter [] (phases.Fetch 1) =
    subst (λ (ks : List ℕ). QueueFacts q h m.scene l.driver l.bell l.plan l.counter ks (phases.Fetch 1)) none (subst (λ (p : Phase). QueueFacts q h m.scene l.driver l.bell l.plan l.counter l.batch p) phase good.holds.queue) in
    let kept : state.fetching ≡ Some (slice_index heads (accepted past q)) = z.phase.fetching ∙ ap (λ (p : Phase). kept_head p (slice_index heads (accepted past q))) phase in
    record {
      main = main;
      run = grind (arith, nat_tests);
      known = good.holds.known;
      worked = λ e. subst (λ (p : Phase). Worked q past p (hidden_part p l.batch) l.completed l.made) phase (worked_at q h m good.holds);
      more = fetch_more q h m.scene l plain.good.size phase good.holds;
      facts = held;
      at = subst (λ (p : Phase). QueueAt q h setup past heads p (hidden_part p l.batch) l.completed l.made state) phase z.at;
      phase = subst (λ (ks : List ℕ). PhaseAt q h setup past heads l.bell l.plan l.counter ks (phases.Fetch 1) (region_in h q m.scene) state) none
          (subst (λ (p : Phase). PhaseAt q h setup past heads l.bell l.plan l.counter l.batch p (region_in h q m.scene) state) phase z.phase);
      seen = ap (λ (o : Option ℕ). kept_or o (head_word state.ring m.scene.memory state.next_avail)) kept;
    }

-- ---- a turn

fetched_stands : (q : ℕ) (h : Header1) (setup : SplitSetup) (m : Moment) (x : Stepped) (state t : QueueState) → IsPlain h → Good q h m → LiesAs q setup h.size → QueueStands q h setup m state → is_ready (standing h q m) turns.Fetch ≡ true → Does m x (fetch_under_way state) t
    → StepStands q h setup m turns.Fetch x (row_at (fetch_under_way state) m.scene.memory (step_in (fetch_under_way state))) [] t
fetched_stands q h setup m x state t plain good main z ready does = go (running_cases q h m.scene (m.lanes q) (grind (arith, nat_tests)) good.holds)
  where
    l : Lane
    l = m.lanes q

    v : QueueState
    v = fetch_under_way state

    on : (done : ℕ) (u : QueueState) → Fetching q h setup m done l u → v ≡ u → under_way h q m.scene turns.Fetch l ≡ fetching done l → StepStands q h setup m turns.Fetch x (row_at v m.scene.memory (step_in v)) [] t
    on done u f same lane = goes q h setup m x (row_at v m.scene.memory (step_in v)) done l u t f lane (subst (λ (y : QueueState). Does m x y t) same does) (ap (λ (y : QueueState). row_at y m.scene.memory (step_in y)) same)

    go : RunningCases l.batch l.phase → StepStands q h setup m turns.Fetch x (row_at v m.scene.memory (step_in v)) [] t
    go (AtRest phase none) =
        on 0 (record state { phase = phases.Fetch 0 }) (begins q h setup m state plain good main z ready phase none) (ap (λ (b : Bool). cond {A = QueueState} b state (record state { phase = phases.Fetch 0 })) (ap is_fetch (z.at.phase ∙ ap kept_phase phase)))
        (sym (ap (under_way h q m.scene turns.Fetch) (rest_is l phase none)))
    go (InFetch phase none) =
        let same : fetching 1 l ≡ l = ap (λ (p : Phase). record l { phase = p; batch = [] }) (sym phase) ∙ ap (λ (b : List ℕ). record l { batch = b }) (sym none) in
        on 1 state (goes_on q h setup m state plain good main z ready phase none) (ap (λ (b : Bool). cond {A = QueueState} b state (record state { phase = phases.Fetch 0 })) (ap is_fetch (z.at.phase ∙ ap kept_phase phase)))
        (sym (ap (under_way h q m.scene turns.Fetch) same))
    go (InPublication done phase some) =
        let publishes : is_publication l.phase ≡ true = ap is_publication phase in
        absurd (grind (arith, nat_tests))

-- a fetch that is ready and doesn't fail makes its next step
pub fetch_stands : (q : ℕ) (h : Header1) (setup : SplitSetup) (m : Moment) (x : Stepped) (state state' : QueueState) → IsPlain h → Good q h m → LiesAs q setup h.size → QueueStands q h setup m state → is_ready (standing h q m) turns.Fetch ≡ true → is_fault x ≡ false
    → Turns turns.Fetch (Some m.scene.memory) x state state' → StepStands q h setup m turns.Fetch x (fetch_row x state m.scene.memory) [] state'
fetch_stands q h setup m x state state' plain good main z ready fine made = go x fine made.1 (does_of turns.Fetch (Some m.scene.memory) x state state' made fine)
  where
    t : QueueState
    t = made.0

    on : (y : Stepped) → Fetched (Some m.scene.memory) y state t → state' ≡ t → StepStands q h setup m turns.Fetch y (row_at (fetch_under_way state) m.scene.memory (step_in (fetch_under_way state))) [] state'
    on y does same =
        subst (λ (s : QueueState). StepStands q h setup m turns.Fetch y (row_at (fetch_under_way state) m.scene.memory (step_in (fetch_under_way state))) [] s) (sym same) (fetched_stands q h setup m y state t plain good main z ready (does.moves m.scene.memory refl))

    go : (y : Stepped) → is_fault y ≡ false → state' ≡ states.halted y t → Fetches (Some m.scene.memory) y state t → StepStands q h setup m turns.Fetch y (fetch_row y state m.scene.memory) [] state'
    go says.Idle f halts does = absurd (
        let unready : is_ready (states.standing_at state (states.waiting state m.scene.memory)) turns.Fetch ≡ false = does.1 m.scene.memory refl in
        let fails : true ≡ false = sym ready ∙ sym (ready_same q h setup m state turns.Fetch main good.holds z) ∙ unready in
        cc)
    go (says.Stored tag) f halts does = on (says.Stored tag) does halts
    go (says.Accepted head) f halts does = on (says.Accepted head) does halts
    go (says.Broken fault) f halts does = absurd (
        let run : started m.scene.past q ≡ true = grind (arith, nat_tests) in
        keeps_rules q h setup m state fault run plain good main z (does.breaks m.scene.memory refl))
    go says.SharedFault f halts does = absurd (let fails : true ≡ false = f in cc)
    go (says.Looked head sector) f halts does = absurd does
    go (says.Acted head sector) f halts does = absurd does
    go (says.Synced head) f halts does = absurd does
    go (says.Faulted head) f halts does = absurd does
    go (says.Completed head) f halts does = absurd does
    go says.Published f halts does = absurd does
    go says.Started f halts does = absurd does
    go says.Belled f halts does = absurd does
    go says.BellFault f halts does = absurd (let fails : true ≡ false = f in cc)
    go (says.Damaged fault) f halts does = absurd does
