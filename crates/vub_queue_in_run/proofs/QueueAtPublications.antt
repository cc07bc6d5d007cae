-- What a turn of a publication says, makes and leaves in a run.
use Rattle.std.proofs.Common.{◌≡◌, ◌<◌, ℕ, Bool, true, false, List, [], ◌++◌, length, take, drop, cond, refl, ap, sym, ◌∙◌, subst, arith, ◌*◌}
use Rattle.std.specs.Prelude.{Option, Some, None, slice_index, ◌||◌}
use Rattle.std.proofs.lemmas.Bool.{or_right}
use Rattle.std.proofs.lemmas.Bool.Decides.{nat_tests}
use Rattle.std.proofs.lemmas.List.{take-map, length-map, length-take}
use Rattle.vub_base.specs.declared.header.Header1.{Header1}
use Rattle.vub_steps.specs.declared.steps.Phase.{Phase}
use Rattle.vub_steps.specs.declared.steps.Phase.TheVariants as phases
use Rattle.vub_steps.specs.declared.steps.Step.{Step}
use Rattle.vub_steps.specs.declared.steps.Step.TheVariants as steps
use Rattle.vub_steps.specs.declared.readiness.Turn.{Turn}
use Rattle.vub_steps.specs.declared.readiness.Turn.TheVariants as turns
use Rattle.vub_steps.specs.Readiness.{is_ready, is_fetch, is_publication}
use Rattle.vub_steps.specs.Rows.{Row}
use Rattle.vub_device.specs.declared.entry.Entry.{Entry}
use Rattle.vub_device.specs.Past.{accepted, is_among, IsOpen, started}
use Rattle.vub_device.proofs.Numbers.{is_among_append}
use Rattle.vub_facts.specs.Facts.{Side, IsDue}
use Rattle.vub_facts.proofs.Places.{Place, place_of}
use Rattle.vub_facts.proofs.FactSteps.{publication_due}
use Rattle.vub_queue.specs.declared.queue.Stepped.{Stepped}
use Rattle.vub_queue.specs.declared.queue.Stepped.TheVariants as says
use Rattle.vub_setup.specs.Setups.{SplitSetup}
use Rattle.vub_queue.specs.QueueState as states
use Rattle.vub_queue.specs.QueueState.{QueueState, seen_by, row_at, next_row, row_said, step_said, step_in, publishes, publish_row, Publishes, Moves, MovesBy, Turns, is_fault}
use Rattle.vub_run.specs.Moments.{Lane, Moment, region_in, standing}
use Rattle.vub_run.specs.Turns.{under_way, phase_turn, phase_goes_on, element_of}
use Rattle.vub_run_laws.proofs.RunGood.{Known, hidden}
use Rattle.vub_run_laws.proofs.RunHolds.{Holds, publishing}
use Rattle.vub_run_laws.proofs.RunPhases.{resting, rest_is, taking, taking_holds}
use Rattle.vub_run_laws.proofs.RunTurns.{IsPlain, Good, running_cases, RunningCases, AtRest, InFetch, InPublication}
use Rattle.vub_run_laws.proofs.RingGood.{side_of, QueueFacts}
use Rattle.vub_run_laws.proofs.RingFacts.{words_in}
use Rattle.vub_queue.specs.QueueFacts.{hidden_part, kept_head, kept_phase}
use Rattle.vub_queue_in_run.specs.QueueAt.{spot_of, QueueAt, PhaseAt, LiesAs, QueueStands}
use Rattle.vub_queue_in_run.proofs.TurnSays.{TurnSays, Notes, Accepts, Publishes as Shows, Rings, Starts}
use Rattle.vub_queue_in_run.proofs.QueueAtMoves.{at_begin}
use Rattle.vub_queue_in_run.proofs.QueueAtTurns.{ready_same, does_of, worked_at, hidden_is}
use Rattle.vub_queue_in_run.proofs.QueueAtSteps.{IsUnderWay, StepStands, step_stands, lane_next, queue_next, hides}

-- ---- a publication that goes on

-- a lane and its queue are so many steps in a publication
record Publishing (q : ℕ) (h : Header1) (setup : SplitSetup) (m : Moment) (done : ℕ) (l : Lane) (u : QueueState) : Type 0 where
  pub main : LiesAs q setup h.size
  pub run : started m.scene.past q ≡ true
  pub known : Known q h.size h.capacity m.scene.past (m.scene.heads q)
  pub opens : (k : ℕ) → is_among (hidden_part (phases.Publish done) l.batch) k ≡ true → IsOpen m.scene.past q k
  pub facts : QueueFacts q h m.scene l.driver l.bell l.plan l.counter l.batch (phases.Publish done)
  pub at : QueueAt q h setup m.scene.past (m.scene.heads q) (phases.Publish done) (hidden_part (phases.Publish done) l.batch) l.completed l.made u
  pub phase : PhaseAt q h setup m.scene.past (m.scene.heads q) l.bell l.plan l.counter l.batch (phases.Publish done) (region_in h q m.scene) u

row_never : {A : Type 0} (row : Option Row) → row_said row ≡ says.Published → A
row_never None e = absurd (cc)
row_never (Some y) e = absurd (cc)

-- only the store of used.idx says that a batch is published
index_said : (head : ℕ) (row : Option Row) (step : Step) → step_said head row step ≡ says.Published → step ≡ steps.Index
index_said head row steps.Index e = refl
index_said head row steps.Accept e = absurd (cc)
index_said head row steps.Bell e = absurd (cc)
index_said head row steps.Features e = row_never row e
index_said head row (steps.Free i) e = row_never row e
index_said head row steps.Open e = row_never row e
index_said head row (steps.Settle i) e = row_never row e
index_said head row steps.SettleEnd e = row_never row e
index_said head row steps.Start e = row_never row e
index_said head row steps.Count e = row_never row e
index_said head row (steps.Id e') e = row_never row e
index_said head row (steps.Len e') e = row_never row e
index_said head row (steps.Link e') e = row_never row e
index_said head row (steps.Head e') e = row_never row e
index_said head row (steps.Clear e') e = row_never row e
index_said head row steps.Note e = row_never row e

-- what a step that is due does of the queue
abbrev Does : Moment → Stepped → QueueState → QueueState → Type 0
Does m x u t = MovesBy (step_in u) m.scene.memory x u t

-- the next step is the store of used.idx
record AtIndex (done : ℕ) (l : Lane) (u : QueueState) : Type 0 where
  pub next : step_in u ≡ Some steps.Index
  pub place : done ≡ 4 * length l.batch

-- what a step leaves, and where it was the store of used.idx
record Goes (q : ℕ) (h : Header1) (setup : SplitSetup) (m : Moment) (turn : Turn) (x : Stepped) (row : Option Row) (done : ℕ) (l : Lane) (u t : QueueState) : Type 0 where
  pub step : StepStands q h setup m turn x row l.batch t
  pub shows : x ≡ says.Published → AtIndex done l u

goes : (q : ℕ) (h : Header1) (setup : SplitSetup) (m : Moment) (most : ℕ) (x : Stepped) (row : Option Row) (done : ℕ) (l : Lane) (u t : QueueState) → Publishing q h setup m done l u → under_way h q m.scene (turns.Publish most) (m.lanes q) ≡ publishing done l → Does m x u t → row ≡ row_at u m.scene.memory (step_in u)
    → Goes q h setup m (turns.Publish most) x row done l u t
goes q h setup m most x row done l u t f lane does is_row = go due.0 due.1
  where
    due : (step : Step) × IsDue h.size step (side_of q h m.scene l.bell l.plan l.counter l.batch (phases.Publish done))
    due = publication_due h.size _ h.base done (side_of q h m.scene l.bell l.plan l.counter l.batch (phases.Publish done)) (words_in q h m.scene) (record { started = f.run; place = refl }) f.facts.words

    way : (step : Step) → IsDue h.size step (side_of q h m.scene l.bell l.plan l.counter l.batch (phases.Publish done)) → IsUnderWay q h setup m.scene (publishing done l) step u
    way step is_due = record {
      main = f.main;
      run = f.run;
      due = is_due;
      known = f.known;
      worked = λ e. absurd (cc);
      opens = f.opens;
      head = λ e. absurd (let fails : false ≡ true = e in cc);
      seen = λ e. absurd (let fails : false ≡ true = e in cc);
      below = λ e. absurd (let fails : false ≡ true = e in cc);
      free = λ e. absurd (let fails : false ≡ true = e in cc);
      at = f.at;
      phase = f.phase;
    }

    at_index : (step : Step) → IsDue h.size step (side_of q h m.scene l.bell l.plan l.counter l.batch (phases.Publish done)) → step_in u ≡ Some step → step ≡ steps.Index → AtIndex done l u
    at_index step is_due next same =
        let side : Side = side_of q h m.scene l.bell l.plan l.counter l.batch (phases.Publish done) in
        let place : Place h.size steps.Index side = subst (λ (y : Step). Place h.size y side) same (place_of h.size step side is_due) in
        let at : phases.Publish done ≡ phases.Publish (4 * length side.batch) = place.place in
        let many : done ≡ 4 * length side.batch = cc in
        record { next = next ∙ ap (λ (y : Step). Some y) same; place = omega (arith, many, length-map l.batch (element_of h q m.scene)) }

    go : (step : Step) → IsDue h.size step (side_of q h m.scene l.bell l.plan l.counter l.batch (phases.Publish done)) → Goes q h setup m (turns.Publish most) x row done l u t
    go step is_due =
        let w = way step is_due in
        let next : step_in u ≡ Some step = queue_next q h setup m.scene (publishing done l) step u w in
        let moves : MovesBy (Some step) m.scene.memory x u t = subst (λ (o : Option Step). MovesBy o m.scene.memory x u t) next does in
        record {
          step = step_stands q h setup m (turns.Publish most) (publishing done l) step u t x row (record {
            way = w;
            is = ap (phase_goes_on h q m.scene) lane ∙ ap (phase_turn h q m.scene (publishing done l)) (lane_next q h setup m.scene (publishing done l) step u w);
            said = moves.0;
            leaves = moves.1;
            is_row = is_row ∙ ap (row_at u m.scene.memory) next;
          });
          shows = λ says_so. at_index step is_due next (index_said (seen_by u m.scene.memory).head (row_at u m.scene.memory (Some step)) step (sym moves.0 ∙ says_so));
        }

-- ---- its turns

-- a queue at rest takes a batch
begins : (q : ℕ) (h : Header1) (setup : SplitSetup) (m : Moment) (most : ℕ) (state : QueueState) → IsPlain h → Good q h m → LiesAs q setup h.size → QueueStands q h setup m state → is_ready (standing h q m) (turns.Publish most) ≡ true → (m.lanes q).phase ≡ phases.Rest → (m.lanes q).batch ≡ []
    → Publishing q h setup m 0 (taking most (m.lanes q)) (states.begun most state)
begins q h setup m most state plain good main z ready rest none =
    let l : Lane = m.lanes q in
    let past : List Entry = m.scene.past in
    let heads : List ℕ = m.scene.heads q in
    let run : started past q ≡ true = grind (arith, nat_tests) in
    let quiet : is_publication l.phase ≡ false = ap is_publication rest in
    let some : 0 < most = grind (arith, nat_tests) in
    let any : 0 < length l.completed = grind (arith, nat_tests) in
    let at_rest : Holds q h m.scene (resting l) = subst (λ (y : Lane). Holds q h m.scene y) (sym (rest_is l rest none)) good.holds in
    let held : Holds q h m.scene (taking most l) = taking_holds q h m.scene l most some any run at_rest in
    let all : hidden_part (phases.Publish 0) (take most l.completed) ≡ take most l.completed = hides (take most l.completed) 0 (omega arith) in
    let at : QueueAt q h setup past heads phases.Rest [] l.completed l.made state = subst (λ (p : Phase). QueueAt q h setup past heads p (hidden_part p l.batch) l.completed l.made state) rest z.at in
    record {
      main = main;
      run = run;
      known = good.holds.known;
      opens = λ k among.
          let batch : List ℕ = take most l.completed in
          let there : is_among (hidden batch (phases.Publish 0)) k ≡ true = ap (λ (ks : List ℕ). is_among ks k) (hidden_is batch (phases.Publish 0)) ∙ among in
          let joined : is_among (drop most l.completed ++ hidden batch (phases.Publish 0)) k ≡ (is_among (drop most l.completed) k || is_among (hidden batch (phases.Publish 0)) k) = is_among_append (drop most l.completed) (hidden batch (phases.Publish 0)) k in
          held.worked.opens k (joined ∙ or_right (is_among (drop most l.completed) k) (is_among (hidden batch (phases.Publish 0)) k) there);
      facts = held.queue;
      at = subst (λ (ks : List ℕ). QueueAt q h setup past heads (phases.Publish 0) ks (drop most l.completed) l.made (states.begun most state)) (sym all) (at_begin q h setup past heads l.completed l.made state most at);
      phase = record {
        index = z.phase.index;
        bell = z.phase.bell;
        ring = z.phase.ring;
        region = z.phase.region;
        base = z.phase.base;
        begun = λ stopped. absurd (let fails : true ≡ false = sym run ∙ stopped in cc);
        counter = z.phase.counter;
        fetching = z.phase.fetching ∙ ap (λ (p : Phase). kept_head p (slice_index heads (accepted past q))) rest;
        batch = ap (take most) z.at.completed ∙ take-map (spot_of q h past heads) most l.completed;
      };
    }

-- one that is under way goes on
goes_on : (q : ℕ) (h : Header1) (setup : SplitSetup) (m : Moment) (done : ℕ) (state : QueueState) → Good q h m → LiesAs q setup h.size → QueueStands q h setup m state → started m.scene.past q ≡ true → (m.lanes q).phase ≡ phases.Publish done → Publishing q h setup m done (m.lanes q) state
goes_on q h setup m done state good main z run phase =
    let l : Lane = m.lanes q in
    let past : List Entry = m.scene.past in
    let heads : List ℕ = m.scene.heads q in
    record {
      main = main;
      run = run;
      known = good.holds.known;
      opens = λ k among.
          let there : is_among (hidden_part l.phase l.batch) k ≡ true = ap (λ (p : Phase). is_among (hidden_part p l.batch) k) phase ∙ among in
          let joined : is_among (l.completed ++ hidden_part l.phase l.batch) k ≡ (is_among l.completed k || is_among (hidden_part l.phase l.batch) k) = is_among_append l.completed (hidden_part l.phase l.batch) k in
          (worked_at q h m good.holds).opens k (joined ∙ or_right (is_among l.completed k) (is_among (hidden_part l.phase l.batch) k) there);
      facts = subst (λ (p : Phase). QueueFacts q h m.scene l.driver l.bell l.plan l.counter l.batch p) phase good.holds.queue;
      at = subst (λ (p : Phase). QueueAt q h setup past heads p (hidden_part p l.batch) l.completed l.made state) phase z.at;
      phase = subst (λ (p : Phase). PhaseAt q h setup past heads l.bell l.plan l.counter l.batch p (region_in h q m.scene) state) phase z.phase;
    }

-- ---- a turn

-- the next step of a queue and its lane shows their batch, which is the one under way
pub record ShowsBatch (q : ℕ) (h : Header1) (m : Moment) (most : ℕ) (state : QueueState) : Type 0 where
  pub next : step_in state ≡ Some steps.Index
  pub place : (m.lanes q).phase ≡ phases.Publish (4 * length (m.lanes q).batch)
  pub batch : (under_way h q m.scene (turns.Publish most) (m.lanes q)).batch ≡ (m.lanes q).batch

-- what a publication leaves, and where it showed the batch
pub record PublishStands (q : ℕ) (h : Header1) (setup : SplitSetup) (m : Moment) (most : ℕ) (x : Stepped) (row : Option Row) (state state' : QueueState) : Type 0 where
  pub step : StepStands q h setup m (turns.Publish most) x row (under_way h q m.scene (turns.Publish most) (m.lanes q)).batch state'
  pub shows : x ≡ says.Published → ShowsBatch q h m most state

shows_stands : (q : ℕ) (h : Header1) (setup : SplitSetup) (m : Moment) (most : ℕ) (x : Stepped) (state t : QueueState) → IsPlain h → Good q h m → LiesAs q setup h.size → QueueStands q h setup m state → is_ready (standing h q m) (turns.Publish most) ≡ true → Does m x (states.under_way most state) t
    → PublishStands q h setup m most x (next_row (states.under_way most state) m.scene.memory) state t
shows_stands q h setup m most x state t plain good main z ready does = go (running_cases q h m.scene (m.lanes q) run good.holds)
  where
    l : Lane
    l = m.lanes q

    v : QueueState
    v = states.under_way most state

    turn : Turn
    turn = turns.Publish most

    run : started m.scene.past q ≡ true
    run = grind (arith, nat_tests)

    on : (done : ℕ) (l' : Lane) (u : QueueState) → Publishing q h setup m done l' u → v ≡ u → under_way h q m.scene turn l ≡ publishing done l' → Goes q h setup m turn x (next_row v m.scene.memory) done l' u t
    on done l' u f same lane = goes q h setup m most x (next_row v m.scene.memory) done l' u t f lane (subst (λ (y : QueueState). Does m x y t) same does) (ap (λ (y : QueueState). next_row y m.scene.memory) same)

    with_batch : (done : ℕ) (l' : Lane) → under_way h q m.scene turn l ≡ publishing done l' → StepStands q h setup m turn x (next_row v m.scene.memory) l'.batch t → StepStands q h setup m turn x (next_row v m.scene.memory) (under_way h q m.scene turn l).batch t
    with_batch done l' lane y = subst (λ (k : Lane). StepStands q h setup m turn x (next_row v m.scene.memory) k.batch t) (sym lane) y

    go : RunningCases l.batch l.phase → PublishStands q h setup m most x (next_row v m.scene.memory) state t
    go (AtRest phase none) =
        let quiet : is_publication l.phase ≡ false = ap is_publication phase in
        let some : 0 < most = grind (arith, nat_tests) in
        let any : 0 < length l.completed = grind (arith, nat_tests) in
        let lane : under_way h q m.scene turn l ≡ publishing 0 (taking most l) = sym (ap (under_way h q m.scene turn) (rest_is l phase none)) in
        let y = on 0 (taking most l) (states.begun most state) (begins q h setup m most state plain good main z ready phase none) (ap (λ (b : Bool). cond {A = QueueState} b state (states.begun most state)) (ap is_publication (z.at.phase ∙ ap kept_phase phase))) lane in
        record {
          step = with_batch 0 (taking most l) lane y.step;
          shows = λ says_so. absurd (omega (arith, (y.shows says_so).place, length-take most l.completed, some, any));
        }
    go (InFetch phase none) =
        let fetches : is_fetch l.phase ≡ true = ap is_fetch phase in
        absurd (grind (arith, nat_tests))
    go (InPublication done phase some) =
        let same : publishing done l ≡ l = ap (λ (p : Phase). record l { phase = p }) (sym phase) in
        let lane : under_way h q m.scene turn l ≡ publishing done l = sym (ap (under_way h q m.scene turn) same) in
        let y = on done l state (goes_on q h setup m done state good main z run phase) (ap (λ (b : Bool). cond {A = QueueState} b state (states.begun most state)) (ap is_publication (z.at.phase ∙ ap kept_phase phase))) lane in
        record {
          step = with_batch done l lane y.step;
          shows = λ says_so. record { next = (y.shows says_so).next; place = phase ∙ ap (λ (n : ℕ). phases.Publish n) (y.shows says_so).place; batch = ap (λ (k : Lane). k.batch) lane };
        }

-- a turn that says what its row has doesn't stop the queue
pub says_on : (q : ℕ) (h : Header1) (m : Moment) (turn : Turn) (x : Stepped) (row : Option Row) (head : ℕ) (batch : List ℕ) (t : QueueState) → TurnSays q h m turn x row head batch → states.halted x t ≡ t
says_on q h m turn x row head batch t (Notes y s) = ap (λ (z : Stepped). states.halted z t) s.said
says_on q h m turn x row head batch t (Accepts y tag s) = ap (λ (z : Stepped). states.halted z t) s.said
says_on q h m turn x row head batch t (Shows y shown s) = ap (λ (z : Stepped). states.halted z t) s.said
says_on q h m turn x row head batch t (Rings s) = ap (λ (z : Stepped). states.halted z t) s.said
says_on q h m turn x row head batch t (Starts s) = ap (λ (z : Stepped). states.halted z t) s.said

-- a publication that is ready and doesn't fail makes its next step
pub publish_stands : (q : ℕ) (h : Header1) (setup : SplitSetup) (m : Moment) (most : ℕ) (x : Stepped) (state state' : QueueState) → IsPlain h → Good q h m → LiesAs q setup h.size → QueueStands q h setup m state → is_ready (standing h q m) (turns.Publish most) ≡ true → is_fault x ≡ false
    → Turns (turns.Publish most) (Some m.scene.memory) x state state' → PublishStands q h setup m most x (publish_row most state m.scene.memory) state state'
publish_stands q h setup m most x state state' plain good main z ready fine made =
    let t : QueueState = made.0 in
    let u : QueueState = states.under_way most state in
    let batch : List ℕ = (under_way h q m.scene (turns.Publish most) (m.lanes q)).batch in
    let shows : publishes most state ≡ true = ready_same q h setup m state (turns.Publish most) main good.holds z ∙ ready in
    let does : Moves (Some m.scene.memory) x u t = subst (λ (b : Bool). Publishes b (Some m.scene.memory) x state u t) shows (does_of (turns.Publish most) (Some m.scene.memory) x state state' made fine) in
    let y : PublishStands q h setup m most x (next_row u m.scene.memory) state t = shows_stands q h setup m most x state t plain good main z ready (does m.scene.memory refl) in
    let same : state' ≡ t = made.1 ∙ says_on q h m (turns.Publish most) x (next_row u m.scene.memory) (slice_index (m.scene.heads q) (accepted m.scene.past q)) batch t y.step.says in
    let row : next_row u m.scene.memory ≡ publish_row most state m.scene.memory = sym (ap (λ (b : Bool). states.row_if b u m.scene.memory) shows) in
    subst (λ (s : QueueState). PublishStands q h setup m most x (publish_row most state m.scene.memory) state s) (sym same) (subst (λ (r : Option Row). PublishStands q h setup m most x r state t) row y)
