-- How much turns publish, and how much room their items need.
use Rattle.std.proofs.Common.{◌≡◌, ◌≤◌, ℕ, zero, suc, ◌+◌, ◌-◌, ◌*◌, Bool, true, false, cond, List, [], ◌++◌, length, map, refl, ap, sym, ◌∙◌, subst, inl, inr, arith, length-append}
use Rattle.std.specs.Prelude.{◌&&◌, ◌==◌, if◌then◌else◌, Option, Some, None, take, slice_get, nat_lt, ⊤}
use Rattle.std.proofs.lemmas.Bool.{cases_lt}
use Rattle.vub_base.specs.declared.header.Header1.{Header1}
use Rattle.vub_steps.specs.declared.steps.Phase.{Phase}
use Rattle.vub_steps.specs.declared.steps.Phase.TheVariants as phases
use Rattle.vub_steps.specs.declared.steps.Plan.{Plan}
use Rattle.vub_steps.specs.declared.steps.Step.{Step}
use Rattle.vub_steps.specs.declared.steps.Step.TheVariants as steps
use Rattle.vub_steps.specs.declared.readiness.Standing.{Standing}
use Rattle.vub_steps.specs.declared.readiness.Turn.{Turn}
use Rattle.vub_steps.specs.declared.readiness.Turn.TheVariants as turns
use Rattle.vub_steps.specs.Readiness.{is_publication, any_turn, draining_turn}
use Rattle.vub_steps.specs.Rows.{Row, row_of}
use Rattle.vub_steps.specs.Steps.{publish_steps, shown_step, running_steps, next_of, next_step}
use Rattle.vub_device.specs.declared.entry.Asked.{Asked}
use Rattle.vub_device.specs.declared.entry.SectorValue.{SectorValue}
use Rattle.vub_device.specs.Past.{asked, accepted, published, started, numbers}
use Rattle.vub_device.specs.Requests.{look_at, effect_at}
use Rattle.vub_world.specs.declared.device.Sequence.{Sequence}
use Rattle.vub_world.specs.declared.device.Sequence.TheVariants as sequences
use Rattle.vub_world.specs.Sequences.{next_turn}
use Rattle.vub_driver.specs.Layout.{ring_of}
use Rattle.vub_queue.specs.QueueFacts.{kept_phase}
use Rattle.vub_world.specs.MachineDevice.{is_index}
use Rattle.vub_world.specs.MachineSteps.{turns_besides}
use Rattle.vub_run.specs.Memory.{Scene, after_items}
use Rattle.vub_run.specs.Moments.{Lane, Moment, region_of, standing, unfinished}
use Rattle.vub_run.specs.Run.{one_turn}
use Rattle.vub_steps.specs.Tasks.{RequestStep, Look, Put, Act, Sync, Status, task_steps}
use Rattle.vub_run.specs.TaskItems.{look_items, act_items}
use Rattle.vub_run.specs.Turns.{course_of, sight_of, turned, work_turn, request_turn, task_turn, phase_turn, phase_goes_on, under_way, begun, is_rest, row_items, step_stores, answer_at}
use Rattle.vub_run_laws.proofs.RunQueue.{phase_at, queue_start, queue_batch}
use Rattle.vub_steps.proofs.StepLemmas.{shows_at}
use Rattle.vub_run_laws.proofs.RunCarries.{all_hidden}
use Rattle.vub_run_laws.proofs.RunGood.{Known, StartIs, hidden}
use Rattle.vub_run_laws.proofs.RunEfforts.{steps_left, phase_left, start_short}
use Rattle.vub_run_laws.proofs.RunEnds.{effort_at, all_left, sum_left, phase_few}
use Rattle.vub_device.specs.declared.entry.Answered.{Answered}
use Rattle.vub_run_laws.proofs.RunOwn.{published_own}
use Rattle.vub_run_laws.proofs.RunTracks.{numbers_answers}
use Rattle.vub_run_laws.proofs.RunTurns.{Good, PhaseCases, Rests, Starts, Fetches, Publishes, phase_cases}

-- ---- how many answers a turn shows

abbrev count_in : ℕ → Scene → ℕ
count_in q s = length (published s.past q)

look_shows : (q : ℕ) (h : Header1) (k : ℕ) (s : Scene) (o : Option ℕ) → count_in q (after_items h (look_items q k s.past o) s) ≡ count_in q s
look_shows q h k s None = refl
look_shows q h k s (Some sector) = refl

act_shows : (q : ℕ) (h : Header1) (k : ℕ) (s : Scene) (o : Option SectorValue) → count_in q (after_items h (act_items q k o) s) ≡ count_in q s
act_shows q h k s None = refl
act_shows q h k s (Some x) = refl

task_shows : (q : ℕ) (h : Header1) (s : Scene) (l : Lane) (k : ℕ) (r : Asked) (o : Option RequestStep) → count_in q (after_items h (task_turn h q s l k r o).items s) ≡ count_in q s
task_shows q h s l k r None = refl
task_shows q h s l k r (Some (Look place)) = look_shows q h k s (look_at r place)
task_shows q h s l k r (Some (Put place)) = refl
task_shows q h s l k r (Some (Act place)) = act_shows q h k s (effect_at r place)
task_shows q h s l k r (Some Sync) = refl
task_shows q h s l k r (Some Status) = refl

request_shows : (q : ℕ) (h : Header1) (s : Scene) (l : Lane) (k : ℕ) (o : Option Asked) → count_in q (after_items h (request_turn h q s l k o).items s) ≡ count_in q s
request_shows q h s l k None = refl
request_shows q h s l k (Some r) = task_shows q h s l k r (slice_get (task_steps h r) (l.made k))

work_shows : (q : ℕ) (h : Header1) (s : Scene) (l : Lane) (o : Option ℕ) → count_in q (after_items h (work_turn h q s l o).items s) ≡ count_in q s
work_shows q h s l None = refl
work_shows q h s l (Some k) = request_shows q h s l k (asked s.past q k)

-- how many answers the next step of a queue in this phase shows, whose batch has so many requests
abbrev pub shown_by : ℕ → Bool → Phase → ℕ
shown_by batch bell p = if is_index (next_of (running_steps batch bell p) p) then batch else 0

-- that of a lane; none in a start
abbrev pub lane_shows : Lane → ℕ
lane_shows l = shown_by (length l.batch) l.bell (kept_phase l.phase)

abbrev step_shown : ℕ → Option Step → ℕ
step_shown batch o = if is_index o then batch else 0

row_shows : (q : ℕ) (h : Header1) (s : Scene) (o : Option Row) → count_in q (after_items h ((row_items o ++ []) ++ []) s) ≡ count_in q s
row_shows q h s None = refl
row_shows q h s (Some x) = refl

step_shows : (q : ℕ) (h : Header1) (s : Scene) (l : Lane) (step : Step) → count_in q (after_items h (phase_turn h q s l (Some step)).items s) ≡ count_in q s + step_shown (length l.batch) (Some step)
step_shows q h s l steps.Features = omega arith
step_shows q h s l (steps.Free i) = omega arith
step_shows q h s l steps.Open = omega arith
step_shows q h s l (steps.Settle place) = omega arith
step_shows q h s l steps.SettleEnd = omega arith
step_shows q h s l steps.Bell = omega arith
step_shows q h s l steps.Start = omega arith
step_shows q h s l steps.Accept = omega arith
step_shows q h s l steps.Count = row_shows q h s (row_of (ring_of q h.size) (region_of q h.size) (sight_of h q s l) steps.Count) ∙ omega arith
step_shows q h s l steps.Note = row_shows q h s (row_of (ring_of q h.size) (region_of q h.size) (sight_of h q s l) steps.Note) ∙ omega arith
step_shows q h s l (steps.Id e) = row_shows q h s (row_of (ring_of q h.size) (region_of q h.size) (sight_of h q s l) (steps.Id e)) ∙ omega arith
step_shows q h s l (steps.Len e) = row_shows q h s (row_of (ring_of q h.size) (region_of q h.size) (sight_of h q s l) (steps.Len e)) ∙ omega arith
step_shows q h s l (steps.Link e) = row_shows q h s (row_of (ring_of q h.size) (region_of q h.size) (sight_of h q s l) (steps.Link e)) ∙ omega arith
step_shows q h s l (steps.Head e) = row_shows q h s (row_of (ring_of q h.size) (region_of q h.size) (sight_of h q s l) (steps.Head e)) ∙ omega arith
step_shows q h s l (steps.Clear e) = row_shows q h s (row_of (ring_of q h.size) (region_of q h.size) (sight_of h q s l) (steps.Clear e)) ∙ omega arith
step_shows q h s l steps.Index =
    let s' : Scene = after_items h (step_stores h q l steps.Index s) s in
    let list : List Answered = map (answer_at q s') l.batch in
    ap (λ (ks : List ℕ). length ks) (published_own s.past q list) ∙ length-append (published s.past q) (numbers list) ∙ ap (λ (ks : List ℕ). length (published s.past q) + length ks) (numbers_answers q s' l.batch)

phase_shows : (q : ℕ) (h : Header1) (s : Scene) (l : Lane) (o : Option Step) → count_in q (after_items h (phase_turn h q s l o).items s) ≡ count_in q s + step_shown (length l.batch) o
phase_shows q h s l None = omega arith
phase_shows q h s l (Some step) = step_shows q h s l step

-- nothing is shown of no batch
none_shown : (o : Option Step) (n : ℕ) → n ≡ 0 → step_shown n o ≡ 0
none_shown o n none = go (is_index o)
  where
    go : (b : Bool) → (if b then n else 0) ≡ 0
    go true = none
    go false = refl

-- a turn that isn't work on a request
abbrev IsOfQueue : Turn → Type 0
IsOfQueue (turns.Work place) = ⊥
IsOfQueue t = ⊤

begun_shows : (most : ℕ) (l : Lane) → l.batch ≡ [] → step_shown (length (take most l.completed)) (slice_get (publish_steps (length (take most l.completed)) l.bell) 0) ≡ 0
begun_shows most l none = go (length (take most l.completed))
  where
    go : (n : ℕ) → step_shown n (slice_get (publish_steps n l.bell) 0) ≡ 0
    go zero = refl
    go (suc n) = refl

rests : (q : ℕ) (h : Header1) (s : Scene) (l : Lane) (t : Turn) → IsOfQueue t → is_rest l.phase ≡ true → l.batch ≡ [] → count_in q (after_items h (phase_goes_on h q s (under_way h q s t l)).items s) ≡ count_in q s
rests q h s l t of_queue rest none = subst (λ (b : Bool). count_in q (after_items h (phase_goes_on h q s (if b then begun h q s t l else l)).items s) ≡ count_in q s) (sym rest) (go t of_queue)
  where
    go : (t : Turn) → IsOfQueue t → count_in q (after_items h (phase_goes_on h q s (begun h q s t l)).items s) ≡ count_in q s
    go turns.Start is =
        let l' : Lane = begun h q s turns.Start l in
        let o : Option Step = next_step (course_of h l') l'.phase in
        phase_shows q h s l' o ∙ (let none' = none_shown o (length l.batch) (ap (λ (ks : List ℕ). length ks) none) in omega (arith, none'))
    go turns.Fetch is = refl
    go (turns.Publish most) is =
        phase_shows q h s (begun h q s (turns.Publish most) l) (slice_get (publish_steps (length (take most l.completed)) l.bell) 0) ∙ (let none' = begun_shows most l none in omega (arith, none'))
    go (turns.Work place) is = absurd is

goes_on : (q : ℕ) (h : Header1) (s : Scene) (l : Lane) (t : Turn) → is_rest l.phase ≡ false → count_in q (after_items h (phase_goes_on h q s (under_way h q s t l)).items s) ≡ count_in q s + step_shown (length l.batch) (next_step (course_of h l) l.phase)
goes_on q h s l t busy =
    subst (λ (b : Bool). count_in q (after_items h (phase_goes_on h q s (if b then begun h q s t l else l)).items s) ≡ count_in q s + step_shown (length l.batch) (next_step (course_of h l) l.phase)) (sym busy)
    (phase_shows q h s l (next_step (course_of h l) l.phase))

-- while a batch is published no work on a request comes first
any_publishes : (size waiting unfinished completed : ℕ) (started counts : Bool) (phase : Phase) → is_publication phase ≡ true
    → IsOfQueue (any_turn size (record { started = started; phase = phase; waiting = waiting; counts = counts; unfinished = unfinished; completed = completed }))
any_publishes size waiting unfinished completed false counts phase publishes = tt
any_publishes size waiting unfinished completed true counts (phases.Publish done) publishes = tt
any_publishes size waiting unfinished completed true counts phases.Rest publishes = absurd (cc publishes)
any_publishes size waiting unfinished completed true counts (phases.Start done) publishes = absurd (cc publishes)
any_publishes size waiting unfinished completed true counts (phases.Fetch done) publishes = absurd (cc publishes)

drain_publishes : (size waiting unfinished completed : ℕ) (started counts : Bool) (phase : Phase) (b : Bool) → is_publication phase ≡ true
    → IsOfQueue (if b then any_turn size (record { started = started; phase = phase; waiting = waiting; counts = counts; unfinished = unfinished; completed = completed }) else draining_turn size (record { started = started; phase = phase; waiting = waiting; counts = counts; unfinished = unfinished; completed = completed }))
drain_publishes size waiting unfinished completed started counts phase true publishes = any_publishes size waiting unfinished completed started counts phase publishes
drain_publishes size waiting unfinished completed false counts (phases.Publish done) false publishes = tt
drain_publishes size waiting unfinished completed true counts (phases.Publish done) false publishes = tt
drain_publishes size waiting unfinished completed started counts phases.Rest false publishes = absurd (cc publishes)
drain_publishes size waiting unfinished completed started counts (phases.Start done) false publishes = absurd (cc publishes)
drain_publishes size waiting unfinished completed started counts (phases.Fetch done) false publishes = absurd (cc publishes)

publishing_turn : (q : ℕ) (h : Header1) (m : Moment) (sequence : Sequence) (taken : ℕ) → ((t : Turn) → sequence ≡ sequences.Once t → ⊥) → is_publication (m.lanes q).phase ≡ true → IsOfQueue (next_turn q h sequence taken m)
publishing_turn q h m (sequences.Once t) taken more publishes = absurd (more t refl)
publishing_turn q h m (sequences.UpTo count) taken more publishes =
    let s : Standing = standing h q m in
    any_publishes h.size s.waiting s.unfinished s.completed s.started s.counts (m.lanes q).phase publishes
publishing_turn q h m sequences.Drain taken more publishes =
    let s : Standing = standing h q m in
    drain_publishes h.size s.waiting s.unfinished s.completed s.started s.counts (m.lanes q).phase (nat_lt taken h.size) publishes

-- where it isn't the only one the turn that comes next publishes as many as its step shows
pub chosen_shows : (q : ℕ) (h : Header1) (m : Moment) (sequence : Sequence) (taken : ℕ) → ((t : Turn) → sequence ≡ sequences.Once t → ⊥) → Good q h m → (t : Turn) → t ≡ next_turn q h sequence taken m
    → length (published (one_turn h q t m).next.scene.past q) ≡ length (published m.scene.past q) + lane_shows (m.lanes q)
chosen_shows q h m sequence taken more good t is = go (phase_cases h.size l.bell l.plan l.batch l.phase (phase_at q h m.scene (m.lanes q) good.holds))
  where
    s : Scene
    s = m.scene

    l : Lane
    l = m.lanes q

    resting : (t : Turn) → is_rest l.phase ≡ true → l.batch ≡ [] → count_in q (after_items h (turned h q t m).items s) ≡ count_in q s
    resting turns.Start rest none = rests q h s l turns.Start tt rest none
    resting turns.Fetch rest none = rests q h s l turns.Fetch tt rest none
    resting (turns.Publish most) rest none = rests q h s l (turns.Publish most) tt rest none
    resting (turns.Work place) rest none = work_shows q h s l (slice_get (unfinished q m) place)

    goes_on_with : (t : Turn) → IsOfQueue t → is_rest l.phase ≡ false → count_in q (after_items h (turned h q t m).items s) ≡ count_in q s + step_shown (length l.batch) (next_step (course_of h l) l.phase)
    goes_on_with turns.Start of_queue busy = goes_on q h s l turns.Start busy
    goes_on_with turns.Fetch of_queue busy = goes_on q h s l turns.Fetch busy
    goes_on_with (turns.Publish most) of_queue busy = goes_on q h s l (turns.Publish most) busy
    goes_on_with (turns.Work place) of_queue busy = absurd of_queue

    with_none : (t : Turn) → IsOfQueue t → is_rest l.phase ≡ false → l.batch ≡ [] → count_in q (after_items h (turned h q t m).items s) ≡ count_in q s
    with_none t of_queue busy none =
        let nothing : step_shown (length l.batch) (next_step (course_of h l) l.phase) ≡ 0 = none_shown (next_step (course_of h l) l.phase) (length l.batch) (ap (λ (ks : List ℕ). length ks) none) in
        let more = goes_on_with t of_queue busy in
        omega (arith, nothing, more)

    without_batch : (t : Turn) → is_rest l.phase ≡ false → l.batch ≡ [] → count_in q (after_items h (turned h q t m).items s) ≡ count_in q s
    without_batch turns.Start busy none = with_none turns.Start tt busy none
    without_batch turns.Fetch busy none = with_none turns.Fetch tt busy none
    without_batch (turns.Publish most) busy none = with_none (turns.Publish most) tt busy none
    without_batch (turns.Work place) busy none = work_shows q h s l (slice_get (unfinished q m) place)

    go : PhaseCases l.batch l.phase → count_in q (after_items h (turned h q t m).items s) ≡ count_in q s + lane_shows l
    go (Rests rest none) =
        let nothing : lane_shows l ≡ 0 = ap (λ (p : Phase). shown_by (length l.batch) l.bell (kept_phase p)) rest in
        let same : count_in q (after_items h (turned h q t m).items s) ≡ count_in q s = resting t (ap is_rest rest) none in
        omega (arith, nothing, same)
    go (Starts done at none) =
        let nothing : lane_shows l ≡ 0 = ap (λ (p : Phase). shown_by (length l.batch) l.bell (kept_phase p)) at in
        let same : count_in q (after_items h (turned h q t m).items s) ≡ count_in q s = without_batch t (ap is_rest at) none in
        omega (arith, nothing, same)
    go (Fetches at none) =
        let nothing : lane_shows l ≡ 0 = ap (λ (p : Phase). shown_by (length l.batch) l.bell (kept_phase p)) at in
        let same : count_in q (after_items h (turned h q t m).items s) ≡ count_in q s = without_batch t (ap is_rest at) none in
        omega (arith, nothing, same)
    go (Publishes done at some) =
        let here : step_shown (length l.batch) (next_step (course_of h l) l.phase) ≡ lane_shows l =
        ap (λ (p : Phase). step_shown (length l.batch) (next_step (course_of h l) p)) at ∙ sym (ap (λ (p : Phase). shown_by (length l.batch) l.bell (kept_phase p)) at) in
        let more = goes_on_with t (subst IsOfQueue (sym is) (publishing_turn q h m sequence taken more (ap is_publication at))) (ap is_rest at) in
        omega (arith, here, more)

-- ---- a batch that comes to be shown is hidden until then

-- behind used.idx no step shows a batch
none_behind : (batch : ℕ) (bell : Bool) (place : ℕ) → is_index (shown_step batch bell (suc place)) ≡ false
none_behind batch bell place = go (nat_lt place batch) (place == batch) (bell && (place == batch + 1))
  where
    go : (clears notes rings : Bool) → is_index (if clears then Some (steps.Clear place) else if notes then Some steps.Note else if rings then Some steps.Bell else None) ≡ false
    go true notes rings = refl
    go false true rings = refl
    go false false true = refl
    go false false false = refl

index_place : (batch : ℕ) (bell : Bool) (done : ℕ) → is_index (slice_get (publish_steps batch bell) done) ≡ true → done ≤ 4 * batch
index_place batch bell done shows = elim (cases_lt (4 * batch) done) [
  | inl past ↦
      let place : ℕ = done - 4 * batch - 1 in
      let at : done ≡ 4 * batch + suc place = omega (arith, past) in
      let there : slice_get (publish_steps batch bell) done ≡ shown_step batch bell (suc place) = ap (slice_get (publish_steps batch bell)) at ∙ shows_at batch bell (suc place) in
      absurd (let fails : true ≡ false = sym shows ∙ ap is_index there ∙ none_behind batch bell place in cc)
  | inr before ↦ omega (arith, before)
]

pub shows_hidden : (batch : List ℕ) (bell : Bool) (p : Phase) → is_index (next_of (running_steps (length batch) bell (kept_phase p)) (kept_phase p)) ≡ true → hidden batch p ≡ batch
shows_hidden batch bell phases.Rest shows = absurd (cc shows)
shows_hidden batch bell (phases.Start done) shows = absurd (cc shows)
shows_hidden batch bell (phases.Fetch zero) shows = absurd (cc shows)
shows_hidden batch bell (phases.Fetch (suc zero)) shows = absurd (cc shows)
shows_hidden batch bell (phases.Fetch (suc (suc done))) shows = absurd (cc shows)
shows_hidden batch bell (phases.Publish done) shows = all_hidden batch done (index_place (length batch) bell done shows)

-- ---- how much is left to do, by how many requests are offered and not published

-- the requests that are offered and not published
abbrev pub undone : ℕ → Moment → ℕ
undone q m = length (m.scene.heads q) - length (published m.scene.past q)

-- the steps that are left of a phase, with those of a start, where it isn't started
left_few : (b : Bool) (n : ℕ) (bell : Bool) (plan : Plan) (batch : List ℕ) (phase : Phase) → length batch ≤ n → StartIs b n bell plan phase → cond {A = ℕ} b 0 (steps_left n bell plan phase) + phase_left batch phase ≤ 5 * length (hidden batch phase) + n + 6
left_few true n bell plan batch phase few is = omega (arith, phase_few n batch phase few)
left_few false n bell plan batch phases.Rest few is = omega arith
left_few false n bell plan batch (phases.Start done) few is = omega (arith, start_short n bell plan is.few)
left_few false n bell plan batch (phases.Fetch done) few is = absurd (cc is)
left_few false n bell plan batch (phases.Publish done) few is = absurd (cc is)

pub effort_bound : (q : ℕ) (h : Header1) (m : Moment) → Good q h m → effort_at q h m + 1 ≤ 27 * undone q m + turns_besides h.size
effort_bound q h m good =
    let s : Scene = m.scene in
    let l : Lane = m.lanes q in
    let known : Known q h.size h.capacity s.past (s.heads q) = good.holds.known in
    let offered : accepted s.past q ≤ length (s.heads q) = known.offered in
    let all = all_left q h.size h.capacity s.past (s.heads q) l.phase (hidden l.batch l.phase) l.completed l.made known good.holds.worked in
    let sum = sum_left (published s.past q) (l.completed ++ hidden l.batch l.phase) l.made (accepted s.past q) in
    let left = left_few (started s.past q) h.size l.bell l.plan l.batch l.phase (queue_batch q h s l good.holds) (queue_start q h s l good.holds) in
    omega (arith, all, sum, left, offered)

-- what the next step shows is not published yet
pub shown_undone : (q : ℕ) (h : Header1) (m : Moment) → Good q h m → lane_shows (m.lanes q) ≤ undone q m
shown_undone q h m good = go (is_index (next_of (running_steps (length l.batch) l.bell (kept_phase l.phase)) (kept_phase l.phase))) refl
  where
    l : Lane
    l = m.lanes q

    go : (b : Bool) → is_index (next_of (running_steps (length l.batch) l.bell (kept_phase l.phase)) (kept_phase l.phase)) ≡ b → (if b then length l.batch else 0) ≤ undone q m
    go false none = omega arith
    go true shows =
        let known = good.holds.known in
        let offered : accepted m.scene.past q ≤ length (m.scene.heads q) = known.offered in
        let all = all_left q h.size h.capacity m.scene.past (m.scene.heads q) l.phase (hidden l.batch l.phase) l.completed l.made known good.holds.worked in
        omega (arith, all, offered, ap (λ (ks : List ℕ). length ks) (shows_hidden l.batch l.bell l.phase shows))
