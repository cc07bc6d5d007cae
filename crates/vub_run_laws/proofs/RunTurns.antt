-- A turn that is due keeps what holds.
use Rattle.std.proofs.Common.{◌≡◌, ◌≤◌, ◌<◌, ℕ, Bool, true, false, not, List, [], ◌++◌, ◌∙◌, length, refl, ap, sym, subst, arith}
use Rattle.std.specs.Prelude.{Option, Some, None, slice_get, slice_index}
use Rattle.std.proofs.lemmas.Bool.Decides.{nat_tests}
use Rattle.std.proofs.lemmas.Option.{slice_get-get_or}
use Rattle.vub_base.specs.declared.header.CacheMode.TheVariants.{Back}
use Rattle.vub_base.specs.declared.header.Header1.{Header1}
use Rattle.vub_steps.specs.declared.steps.Phase.{Phase}
use Rattle.vub_steps.specs.declared.steps.Phase.TheVariants as phases
use Rattle.vub_steps.specs.declared.steps.Plan.{Plan}
use Rattle.vub_steps.specs.declared.readiness.Turn.{Turn}
use Rattle.vub_steps.specs.declared.readiness.Turn.TheVariants as turns
use Rattle.vub_steps.specs.Readiness.{is_ready, is_fetch, is_publication, last_counter}
use Rattle.vub_device.specs.Past.{accepted, published, is_among, open_numbers, started}
use Rattle.vub_run.specs.Memory.{Scene}
use Rattle.vub_run.specs.Moments.{Lane, Moment, standing, unfinished}
use Rattle.vub_run.specs.Turns.{turned, work_turn, phase_goes_on, under_way}
use Rattle.vub_run_laws.proofs.RunNumbers.{among_filter, missing-among}
use Rattle.vub_facts.proofs.HeadLemmas.{among_get}
use Rattle.vub_run_laws.proofs.RunGood.{PhaseIs, StartIs, IsGood}
use Rattle.vub_run_laws.proofs.RunHolds.{Holds, starting, fetching}
use Rattle.vub_run_laws.proofs.RunCarries.{left_hidden}
use Rattle.vub_run_laws.proofs.RunWork.{Fine, request_fine}
use Rattle.vub_run_laws.proofs.RunPhases.{resting, rest_is, start_is, start_goes_on, start_fine, fetch_fine, accept_fine, taking, taking_holds, taking_effort}
use Rattle.vub_run_laws.proofs.RunQueue.{queue_ahead, queue_start, fetch_runs, phase_at}
use Rattle.vub_run_laws.proofs.RunHolds.{publishing}
use Rattle.vub_run_laws.proofs.RunShown.{publication_fine}
use Rattle.vub_run_laws.proofs.RingGood.{CountsLow}

-- a header of this grammar
pub record IsPlain (h : Header1) : Type 0 where
  pub good : IsGood h
  pub back : h.mode ≡ Back

-- what holds at a moment
pub record Good (q : ℕ) (h : Header1) (m : Moment) : Type 0 where
  pub holds : Holds q h m.scene (m.lanes q)
  pub asleep : m.lives ≡ false → ((m.lanes q).attached ≡ false) × (started m.scene.past q ≡ false)
  -- until it is started, the counters of its open requests are below the number of accepted ones
  pub counts : started m.scene.past q ≡ false → CountsLow q h m.scene

below_all : {a b c : ℕ} → a ≤ b → b ≤ c → a ≤ c
below_all p q = omega arith

-- where a queue is between two turns
pub data PhaseCases : List ℕ → Phase → Type 0 where
  Rests : {batch : List ℕ} {p : Phase} → p ≡ phases.Rest → batch ≡ [] → PhaseCases batch p
  Starts : {batch : List ℕ} {p : Phase} → (done : ℕ) → p ≡ phases.Start done → batch ≡ [] → PhaseCases batch p
  Fetches : {batch : List ℕ} {p : Phase} → p ≡ phases.Fetch 1 → batch ≡ [] → PhaseCases batch p
  Publishes : {batch : List ℕ} {p : Phase} → (done : ℕ) → p ≡ phases.Publish done → 0 < length batch → PhaseCases batch p

pub phase_cases : (n : ℕ) (bell : Bool) (plan : Plan) (batch : List ℕ) (p : Phase) → PhaseIs n bell plan batch p → PhaseCases batch p
phase_cases n bell plan batch phases.Rest is = Rests refl is
phase_cases n bell plan batch (phases.Publish done) is = Publishes done refl is.0
phase_cases n bell plan batch (phases.Start done) is = Starts done refl is.0
phase_cases n bell plan batch (phases.Fetch done) is = Fetches (ap phases.Fetch is.1) is.0

-- one that is started isn't in a start
pub data RunningCases : List ℕ → Phase → Type 0 where
  AtRest : {batch : List ℕ} {p : Phase} → p ≡ phases.Rest → batch ≡ [] → RunningCases batch p
  InFetch : {batch : List ℕ} {p : Phase} → p ≡ phases.Fetch 1 → batch ≡ [] → RunningCases batch p
  InPublication : {batch : List ℕ} {p : Phase} → (done : ℕ) → p ≡ phases.Publish done → 0 < length batch → RunningCases batch p

pub running_cases : (q : ℕ) (h : Header1) (s : Scene) (l : Lane) → started s.past q ≡ true → Holds q h s l → RunningCases l.batch l.phase
running_cases q h s l run x = go (phase_cases h.size l.bell l.plan l.batch l.phase (phase_at q h s l x))
  where
    go : PhaseCases l.batch l.phase → RunningCases l.batch l.phase
    go (Rests phase batch) = AtRest phase batch
    go (Fetches phase batch) = InFetch phase batch
    go (Publishes done phase some) = InPublication done phase some
    go (Starts done phase batch) =
        let start : StartIs (started s.past q) h.size l.bell l.plan (phases.Start done) = subst (λ (p : Phase). StartIs (started s.past q) h.size l.bell l.plan p) phase (queue_start q h s l x) in
        absurd (let fails : true ≡ false = sym run ∙ start.stopped in cc)

start_due : (q : ℕ) (h : Header1) (m : Moment) → IsPlain h → Good q h m → is_ready (standing h q m) turns.Start ≡ true → Fine q h m.scene (m.lanes q) (turned h q turns.Start m)
start_due q h m plain good ready =
    let stopped : started m.scene.past q ≡ false = grind (arith, nat_tests) in
    go stopped (phase_cases h.size l.bell l.plan l.batch l.phase (phase_at q h m.scene (m.lanes q) good.holds))
  where
    l : Lane
    l = m.lanes q

    go : started m.scene.past q ≡ false → PhaseCases l.batch l.phase → Fine q h m.scene (m.lanes q) (turned h q turns.Start m)
    go stopped (Rests phase batch) =
        let same : resting l ≡ l = rest_is l phase batch in
        let at_rest : Holds q h m.scene (resting l) = subst (λ (x : Lane). Holds q h m.scene x) (sym same) good.holds in
        subst (λ (x : Lane). Fine q h m.scene x (phase_goes_on h q m.scene (under_way h q m.scene turns.Start x))) same (start_fine q h m.scene l plain.good stopped (good.counts stopped) at_rest)
    go stopped (Publishes done phase some) = absurd (let none : l.batch ≡ [] = good.holds.carries.quiet stopped in omega (arith, some, ap (λ (ks : List ℕ). length ks) none))
    go stopped (Fetches phase batch) = absurd (let run : started m.scene.past q ≡ true = fetch_runs q h m.scene l phase good.holds in let fails : true ≡ false = sym run ∙ stopped in cc)
    go stopped (Starts done phase batch) =
        let same : starting done l ≡ l = start_is done l phase batch in
        let under : Holds q h m.scene (starting done l) = subst (λ (x : Lane). Holds q h m.scene x) (sym same) good.holds in
        let start : StartIs (started m.scene.past q) h.size l.bell l.plan (phases.Start done) = queue_start q h m.scene (starting done l) under in
        subst (λ (x : Lane). Fine q h m.scene x (phase_goes_on h q m.scene (under_way h q m.scene turns.Start x))) same (start_goes_on q h m.scene l done plain.good stopped (good.counts stopped) start.left under)

fetch_due : (q : ℕ) (h : Header1) (m : Moment) → IsPlain h → Good q h m → is_ready (standing h q m) turns.Fetch ≡ true → Fine q h m.scene (m.lanes q) (turned h q turns.Fetch m)
fetch_due q h m plain good ready =
    let run : started m.scene.past q ≡ true = grind (arith, nat_tests) in
    go run (running_cases q h m.scene l run good.holds)
  where
    l : Lane
    l = m.lanes q

    go : started m.scene.past q ≡ true → RunningCases l.batch l.phase → Fine q h m.scene (m.lanes q) (turned h q turns.Fetch m)
    go run (AtRest phase batch) =
        let same : resting l ≡ l = rest_is l phase batch in
        let at_rest : Holds q h m.scene (resting l) = subst (λ (x : Lane). Holds q h m.scene x) (sym same) good.holds in
        let no_fetch : is_fetch l.phase ≡ false = ap is_fetch phase in
        let some : 0 < (standing h q m).waiting = grind (arith, nat_tests) in
        let low : l.counter < last_counter = grind (arith, nat_tests) in
        let more : accepted m.scene.past q < length (m.scene.heads q) = omega (arith, some, queue_ahead q h m.scene l plain.good good.holds) in
        subst (λ (x : Lane). Fine q h m.scene x (phase_goes_on h q m.scene (under_way h q m.scene turns.Fetch x))) same (fetch_fine q h m.scene l plain.good run more low at_rest)
    go run (InFetch phase batch) =
        let same : fetching 1 l ≡ l = ap (λ (p : Phase). record l { phase = p; batch = [] }) (sym phase) ∙ ap (λ (b : List ℕ). record l { batch = b }) (sym batch) in
        let under : Holds q h m.scene (fetching 1 l) = subst (λ (x : Lane). Holds q h m.scene x) (sym same) good.holds in
        subst (λ (x : Lane). Fine q h m.scene x (phase_goes_on h q m.scene (under_way h q m.scene turns.Fetch x))) same (accept_fine q h m.scene l plain.good run under)
    go run (InPublication done phase some) =
        let publishes : is_publication l.phase ≡ true = ap is_publication phase in
        absurd (grind (arith, nat_tests))

publish_due : (q : ℕ) (h : Header1) (m : Moment) (most : ℕ) → IsPlain h → Good q h m → is_ready (standing h q m) (turns.Publish most) ≡ true → Fine q h m.scene (m.lanes q) (turned h q (turns.Publish most) m)
publish_due q h m most plain good ready =
    let run : started m.scene.past q ≡ true = grind (arith, nat_tests) in
    go run (running_cases q h m.scene l run good.holds)
  where
    l : Lane
    l = m.lanes q

    go : started m.scene.past q ≡ true → RunningCases l.batch l.phase → Fine q h m.scene (m.lanes q) (turned h q (turns.Publish most) m)
    go run (AtRest phase batch) =
        let same : resting l ≡ l = rest_is l phase batch in
        let at_rest : Holds q h m.scene (resting l) = subst (λ (x : Lane). Holds q h m.scene x) (sym same) good.holds in
        let quiet : is_publication l.phase ≡ false = ap is_publication phase in
        let some : 0 < most = grind (arith, nat_tests) in
        let any : 0 < length l.completed = grind (arith, nat_tests) in
        let from_there : Fine q h m.scene (taking most l) (phase_goes_on h q m.scene (under_way h q m.scene (turns.Publish most) (resting l))) =
        publication_fine q h m.scene (taking most l) 0 (record { good = plain.good; back = plain.back; started = run; holds = taking_holds q h m.scene l most some any run at_rest }) in
        let begins : Fine q h m.scene (resting l) (phase_goes_on h q m.scene (under_way h q m.scene (turns.Publish most) (resting l))) = record {
          each = from_there.each;
          holds = from_there.holds;
          legal = from_there.legal;
          idle = from_there.idle;
          collects = from_there.collects;
          falls = below_all from_there.falls (taking_effort q h.size m.scene.past (length (m.scene.heads q)) most l some any);
        } in
        subst (λ (x : Lane). Fine q h m.scene x (phase_goes_on h q m.scene (under_way h q m.scene (turns.Publish most) x))) same begins
    go run (InFetch phase batch) =
        let fetches : is_fetch l.phase ≡ true = ap is_fetch phase in
        absurd (grind (arith, nat_tests))
    go run (InPublication done phase some) =
        let same : publishing done l ≡ l = ap (λ (p : Phase). record l { phase = p }) (sym phase) in
        let under : Holds q h m.scene (publishing done l) = subst (λ (x : Lane). Holds q h m.scene x) (sym same) good.holds in
        let goes_on : Fine q h m.scene (publishing done l) (phase_goes_on h q m.scene (under_way h q m.scene (turns.Publish most) (publishing done l))) =
        publication_fine q h m.scene l done (record { good = plain.good; back = plain.back; started = run; holds = under }) in
        subst (λ (x : Lane). Fine q h m.scene x (phase_goes_on h q m.scene (under_way h q m.scene (turns.Publish most) x))) same goes_on

work_due : (q : ℕ) (h : Header1) (m : Moment) (place : ℕ) → IsPlain h → Good q h m → is_ready (standing h q m) (turns.Work place) ≡ true → Fine q h m.scene (m.lanes q) (turned h q (turns.Work place) m)
work_due q h m place plain good ready = go (slice_get (unfinished q m) place) refl
  where
    go : (o : Option ℕ) → slice_get (unfinished q m) place ≡ o → Fine q h m.scene (m.lanes q) (work_turn h q m.scene (m.lanes q) o)
    go None is = absurd (
        let inside : place < length (unfinished q m) = grind (arith, nat_tests) in
        let there : slice_get (unfinished q m) place ≡ Some (slice_index (unfinished q m) place) = slice_get-get_or (unfinished q m) place 0 inside in
        let fails : None ≡ Some (slice_index (unfinished q m) place) = sym is ∙ there in
        cc)
    go (Some k) is =
        let l : Lane = m.lanes q in
        let kept = among_filter (λ j. not (is_among (l.completed ++ l.batch) j)) (open_numbers m.scene.past q) k (among_get (unfinished q m) place k is) in
        let opened = missing-among (published m.scene.past q) (accepted m.scene.past q) k kept.0 in
        let left : is_among (l.completed ++ l.batch) k ≡ false = let t : not (is_among (l.completed ++ l.batch) k) ≡ true = kept.1 in grind (arith, nat_tests) in
        request_fine q h m.scene l k (record {
          good = plain.good;
          back = plain.back;
          holds = good.holds;
          started = grind (arith, nat_tests);
          is_open = record { taken = opened.0; unpublished = opened.1 };
          left = left_hidden l.completed l.batch l.phase k left;
        })

-- any turn that is ready
pub turn_fine : (q : ℕ) (h : Header1) (t : Turn) (m : Moment) → IsPlain h → Good q h m → is_ready (standing h q m) t ≡ true → Fine q h m.scene (m.lanes q) (turned h q t m)
turn_fine q h turns.Start m plain good ready = start_due q h m plain good ready
turn_fine q h turns.Fetch m plain good ready = fetch_due q h m plain good ready
turn_fine q h (turns.Publish most) m plain good ready = publish_due q h m most plain good ready
turn_fine q h (turns.Work place) m plain good ready = work_due q h m place plain good ready
