-- After a drain of an attached queue nothing is open, and every offer is accepted.
use Rattle.std.proofs.Common.{◌≡◌, ◌≤◌, ◌<◌, ℕ, zero, suc, ◌-◌, Bool, true, false, not, cond, List, [], ◌++◌, length, refl, ap, sym, ◌∙◌, subst, inl, inr, arith}
use Rattle.std.specs.Prelude.{Option, Some, None, slice_get, nat_lt, if◌then◌else◌}
use Rattle.std.proofs.lemmas.Bool.Decides.{nat_tests}
use Rattle.std.proofs.lemmas.Bool.{cases_Bool, cases_lt}
use Rattle.std.proofs.lemmas.List.{nil_from_length}
use Rattle.vub_base.specs.declared.header.Header1.{Header1}
use Rattle.vub_steps.specs.declared.steps.Step.{Step}
use Rattle.vub_steps.specs.declared.steps.Phase.{Phase}
use Rattle.vub_steps.specs.declared.steps.Phase.TheVariants as phases
use Rattle.vub_steps.specs.declared.readiness.Standing.{Standing}
use Rattle.vub_steps.specs.declared.readiness.Turn.{Turn}
use Rattle.vub_steps.specs.declared.readiness.Turn.TheVariants as turns
use Rattle.vub_steps.specs.Readiness.{is_ready, is_fetch, is_publication, any_turn, draining_turn, drain_turn, last_counter}
use Rattle.vub_steps.proofs.ReadinessLemmas.{NoneReady, NoneLeft, any_unready, draining_unready}
use Rattle.vub_steps.specs.Steps.{next_step}
use Rattle.vub_device.specs.declared.entry.Asked.{Asked}
use Rattle.vub_device.specs.Past.{offers, asked, accepted, collected, is_among, open_numbers, started}
use Rattle.vub_report.specs.declared.items.Item.{Item}
use Rattle.vub_run.specs.Memory.{Scene}
use Rattle.vub_run.specs.Moments.{Lane, Moment, standing, unfinished}
use Rattle.vub_run.specs.Run.{Played, played, one_turn, is_due, then_played, turns as many_turns, drain_choice, IsDrained, Drains}
use Rattle.vub_steps.specs.Tasks.{RequestStep, Look, Put, Act, Sync, Status, task_steps}
use Rattle.vub_run.specs.Turns.{course_of, is_rest, turned, phase_turn, phase_goes_on, under_way, begun, work_turn, request_turn, task_turn, next_counter_in}
use Rattle.vub_run_laws.proofs.RunCarries.{counted_is}
use Rattle.vub_run_laws.proofs.RunNumbers.{filter_none}
use Rattle.vub_run_laws.proofs.RunOwn.{at_own}
use Rattle.vub_run_laws.proofs.RunGood.{Known, IsLow}
use Rattle.vub_run_laws.proofs.RunWork.{IsIdle, Fine}
use Rattle.vub_run_laws.proofs.RunQueue.{queue_ahead, fetch_more}
use Rattle.vub_run_laws.proofs.RunTurns.{IsPlain, Good, RunningCases, AtRest, InFetch, InPublication, running_cases, turn_fine}
use Rattle.vub_run_laws.proofs.RunEvents.{Right, turn_right, drain_right}

-- ---- what turns leave

phase_stays : (q : ℕ) (h : Header1) (s : Scene) (l : Lane) (o : Option Step) → (phase_turn h q s l o).lane.attached ≡ l.attached
phase_stays q h s l None = refl
phase_stays q h s l (Some step) = ap (λ (x : Lane). x.attached) (counted_is (next_counter_in h q s) step l)

begun_stays : (h : Header1) (q : ℕ) (s : Scene) (t : Turn) (l : Lane) → (begun h q s t l).attached ≡ l.attached
begun_stays h q s turns.Start l = refl
begun_stays h q s turns.Fetch l = refl
begun_stays h q s (turns.Publish most) l = refl
begun_stays h q s (turns.Work place) l = refl

under_way_stays : (h : Header1) (q : ℕ) (s : Scene) (t : Turn) (l : Lane) (b : Bool) → (cond {A = Lane} b (begun h q s t l) l).attached ≡ l.attached
under_way_stays h q s t l true = begun_stays h q s t l
under_way_stays h q s t l false = refl

task_stays : (q : ℕ) (h : Header1) (s : Scene) (l : Lane) (k : ℕ) (r : Asked) (o : Option RequestStep) → (task_turn h q s l k r o).lane.attached ≡ l.attached
task_stays q h s l k r None = refl
task_stays q h s l k r (Some (Look place)) = refl
task_stays q h s l k r (Some (Put place)) = refl
task_stays q h s l k r (Some (Act place)) = refl
task_stays q h s l k r (Some Sync) = refl
task_stays q h s l k r (Some Status) = refl

request_stays : (q : ℕ) (h : Header1) (s : Scene) (l : Lane) (k : ℕ) (o : Option Asked) → (request_turn h q s l k o).lane.attached ≡ l.attached
request_stays q h s l k None = refl
request_stays q h s l k (Some r) = task_stays q h s l k r (slice_get (task_steps h r) (l.made k))

work_stays : (q : ℕ) (h : Header1) (s : Scene) (l : Lane) (o : Option ℕ) → (work_turn h q s l o).lane.attached ≡ l.attached
work_stays q h s l None = refl
work_stays q h s l (Some k) = request_stays q h s l k (asked s.past q k)

phase_goes_stays : (q : ℕ) (h : Header1) (s : Scene) (l : Lane) → (phase_goes_on h q s l).lane.attached ≡ l.attached
phase_goes_stays q h s l = phase_stays q h s l (next_step (course_of h l) l.phase)

under_stays : (q : ℕ) (h : Header1) (t : Turn) (m : Moment) → (phase_goes_on h q m.scene (under_way h q m.scene t (m.lanes q))).lane.attached ≡ (m.lanes q).attached
under_stays q h t m = phase_goes_stays q h m.scene (under_way h q m.scene t (m.lanes q)) ∙ under_way_stays h q m.scene t (m.lanes q) (is_rest (m.lanes q).phase)

pub turned_stays : (q : ℕ) (h : Header1) (t : Turn) (m : Moment) → (turned h q t m).lane.attached ≡ (m.lanes q).attached
turned_stays q h turns.Start m = under_stays q h turns.Start m
turned_stays q h turns.Fetch m = under_stays q h turns.Fetch m
turned_stays q h (turns.Publish most) m = under_stays q h (turns.Publish most) m
turned_stays q h (turns.Work place) m = work_stays q h m.scene (m.lanes q) (slice_get (unfinished q m) place)

-- a queue that is attached stays so, nothing is collected, and one that isn't started has accepted nothing
pub record Stays (q : ℕ) (m n : Moment) : Type 0 where
  pub joined : (n.lanes q).attached ≡ (m.lanes q).attached
  pub collects : collected n.scene.past q ≡ collected m.scene.past q
  pub idle : started n.scene.past q ≡ false → (started m.scene.past q ≡ false) × (accepted n.scene.past q ≡ accepted m.scene.past q)

pub turns_stay : (q count : ℕ) (choose : Moment → Turn) (h : Header1) (m : Moment) → IsPlain h → Good q h m → Stays q m (many_turns count choose h q m).next
turns_stay q zero choose h m plain good = record { joined = refl; collects = refl; idle = λ stopped. (stopped, refl) }
turns_stay q (suc count) choose h m plain good = go (is_due h q (choose m) m) refl (λ good'. turns_stay q count choose h (one_turn h q (choose m) m).next plain good')
  where
    go : (b : Bool) → is_due h q (choose m) m ≡ b → (Good q h (one_turn h q (choose m) m).next → Stays q (one_turn h q (choose m) m).next (many_turns count choose h q (one_turn h q (choose m) m).next).next)
        → Stays q m (cond {A = Played} b (then_played (one_turn h q (choose m) m) (many_turns count choose h q (one_turn h q (choose m) m).next)) (played [] m)).next
    go true due rest =
        let ready : is_ready (standing h q m) (choose m) ≡ true = grind (arith, nat_tests) in
        let fine : Fine q h m.scene (m.lanes q) (turned h q (choose m) m) = turn_fine q h (choose m) m plain good ready in
        let later = rest (turn_right q h (choose m) m plain good due).good in
        record {
          joined = later.joined ∙ ap (λ (l : Lane). l.attached) (at_own m.lanes q (turned h q (choose m) m).lane) ∙ turned_stays q h (choose m) m;
          collects = later.collects ∙ fine.collects;
          idle = λ stopped.
              let after = later.idle stopped in
              let first : IsIdle q h m.scene (one_turn h q (choose m) m).next.scene = fine.idle after.0 in
              (first.stopped, after.1 ∙ first.accepts);
        }
    go false due rest = record { joined = refl; collects = refl; idle = λ stopped. (stopped, refl) }

-- ---- where no turn is due

-- nothing is left to work on or to publish
none_left : (q : ℕ) (h : Header1) (n : Moment) → IsPlain h → Good q h n → started n.scene.past q ≡ true → (n.lanes q).phase ≡ phases.Rest → (n.lanes q).batch ≡ []
    → is_ready (standing h q n) (turns.Work 0) ≡ false → is_ready (standing h q n) (turns.Publish h.size) ≡ false → open_numbers n.scene.past q ≡ []
none_left q h n plain good run rest batch works unready =
    let l : Lane = n.lanes q in
    let st : Standing = standing h q n in
    let fetches : is_fetch l.phase ≡ false = ap is_fetch rest in
    let some : 0 < h.size = plain.good.size.some in
    let idle : length (unfinished q n) ≡ 0 = elim (cases_lt 0 (length (unfinished q n))) [
      | inl more ↦ absurd (grind (arith, nat_tests))
      | inr none ↦ omega arith
    ] in
    let no_more : length l.completed ≡ 0 = elim (cases_lt 0 (length l.completed)) [
      | inl more ↦ absurd (grind (arith, nat_tests))
      | inr none ↦ omega arith
    ] in
    let completed : l.completed ≡ [] = nil_from_length l.completed no_more in
    let all_open : (k : ℕ) → is_among (open_numbers n.scene.past q) k ≡ true → not (is_among (l.completed ++ l.batch) k) ≡ true = λ k held.
    ap (λ (xs : List ℕ). not (is_among (xs ++ l.batch) k)) completed ∙ ap (λ (xs : List ℕ). not (is_among xs k)) batch in
    nil_from_length (open_numbers n.scene.past q) (filter_none (λ k. not (is_among (l.completed ++ l.batch) k)) (open_numbers n.scene.past q) all_open idle)

-- a queue in no fetch on which no publication is ready is at rest, if it is started
at_rest : (q : ℕ) (h : Header1) (n : Moment) → Good q h n → started n.scene.past q ≡ true → ((n.lanes q).phase ≡ phases.Fetch 1 → ⊥) → is_ready (standing h q n) (turns.Publish h.size) ≡ false → ((n.lanes q).phase ≡ phases.Rest) × ((n.lanes q).batch ≡ [])
at_rest q h n good run other unready = go (running_cases q h n.scene l run good.holds)
  where
    l : Lane
    l = n.lanes q

    go : RunningCases l.batch l.phase → (l.phase ≡ phases.Rest) × (l.batch ≡ [])
    go (AtRest phase batch) = (phase, batch)
    go (InFetch phase batch) = absurd (other phase)
    go (InPublication done phase some) =
        let publishes : is_publication l.phase ≡ true = ap is_publication phase in
        let fetches : is_fetch l.phase ≡ false = ap is_fetch phase in
        absurd (grind (arith, nat_tests))

-- a counter is left at rest, where fewer requests were offered
counter_left : (q : ℕ) (h : Header1) (n : Moment) → Good q h n → (n.lanes q).phase ≡ phases.Rest → length (n.scene.heads q) < last_counter → (standing h q n).counts ≡ true
counter_left q h n good rest few =
    let low : (n.lanes q).counter ≤ accepted n.scene.past q = subst (λ (p : Phase). IsLow (accepted n.scene.past q) (n.lanes q).counter p) rest good.holds.carries.low in
    let left : (n.lanes q).counter < last_counter = omega (arith, low, good.holds.known.offered, few) in
    grind (arith, nat_tests)

-- a drain that began with so many accepted has nothing to do
ends_drained : (q : ℕ) (h : Header1) (before : ℕ) (n : Moment) → IsPlain h → Good q h n → length (n.scene.heads q) < last_counter → (n.lanes q).attached ≡ true → collected n.scene.past q ≤ before → (started n.scene.past q ≡ false → accepted n.scene.past q ≡ before) → is_due h q (drain_choice h q before n) n ≡ false
    → (open_numbers n.scene.past q ≡ []) × (accepted n.scene.past q ≡ offers n.scene.past q)
ends_drained q h before n plain good counts attached low idle ends =
    let l : Lane = n.lanes q in
    let st : Standing = standing h q n in
    let a : ℕ = accepted n.scene.past q - before in
    let some : 0 < h.size = plain.good.size.some in
    let known : Known q h.size h.capacity n.scene.past (n.scene.heads q) = good.holds.known in
    let unready : is_ready st (drain_turn h.size a st) ≡ false = grind (arith, nat_tests) in
    elim (cases_lt a h.size) [
      | inl few ↦
          let fetches : nat_lt a h.size ≡ true = grind (arith, nat_tests) in
          let none : NoneReady h.size st = any_unready h.size st (subst (λ (b : Bool). is_ready st (if b then any_turn h.size st else draining_turn h.size st) ≡ false) fetches unready) in
          let run : started n.scene.past q ≡ true = grind (arith, nat_tests, none.start) in
          let other : l.phase ≡ phases.Fetch 1 → ⊥ = λ phase.
          let fetching : is_fetch l.phase ≡ true = ap is_fetch phase in
          let publishes : is_publication l.phase ≡ false = ap is_publication phase in
          grind (arith, nat_tests, none.fetch) in
          let rest = at_rest q h n good run other none.publish in
          let publishes : is_publication l.phase ≡ false = ap is_publication rest.0 in
          let left : st.counts ≡ true = counter_left q h n good rest.0 counts in
          let nothing_waits : st.waiting ≡ 0 = elim (cases_lt 0 st.waiting) [
            | inl more ↦ absurd (grind (arith, nat_tests, none.fetch))
            | inr zero_waits ↦ omega arith
          ] in
          (none_left q h n plain good run rest.0 rest.1 none.work none.publish, omega (arith, nothing_waits, queue_ahead q h n.scene l plain.good good.holds, known.offers_are))
      | inr many ↦
          let fetches : nat_lt a h.size ≡ false = grind (arith, nat_tests) in
          let none : NoneLeft h.size st = draining_unready h.size st (subst (λ (b : Bool). is_ready st (if b then any_turn h.size st else draining_turn h.size st) ≡ false) fetches unready) in
          elim (cases_Bool (started n.scene.past q)) [
            | inr stopped ↦ absurd (omega (arith, idle stopped, some, many))
            | inl run ↦
                let other : l.phase ≡ phases.Fetch 1 → ⊥ = λ phase. omega (arith, fetch_more q h n.scene l plain.good.size phase good.holds, known.room) in
                let rest = at_rest q h n good run other none.publish in
                (none_left q h n plain good run rest.0 rest.1 none.work none.publish, omega (arith, known.offers_are, known.offered, known.room))
          ]
    ]

-- after a drain of an attached queue nothing is open, and every offer is accepted
pub drained : (q : ℕ) (h : Header1) (m : Moment) (is : List Item) (next : Moment) → IsPlain h → Good q h m → length (next.scene.heads q) < last_counter → (m.lanes q).attached ≡ true → Drains h q m (drain_choice h q (accepted m.scene.past q)) is next
    → (open_numbers next.scene.past q ≡ []) × (accepted next.scene.past q ≡ offers next.scene.past q)
drained q h m is next plain good counts attached (inl none) =
    let same : next ≡ m = ap (λ (p : Played). p.next) none.1 in
    let known : Known q h.size h.capacity m.scene.past (m.scene.heads q) = good.holds.known in
    let low : collected m.scene.past q ≤ accepted m.scene.past q = omega (arith, known.shown, known.fewer) in
    subst (λ (n : Moment). (open_numbers n.scene.past q ≡ []) × (accepted n.scene.past q ≡ offers n.scene.past q)) (sym same) (ends_drained q h (accepted m.scene.past q) m plain good (subst (λ (n : Moment). length (n.scene.heads q) < last_counter) same counts) attached low (λ stopped. refl) none.0)
drained q h m is next plain good counts attached (inr some) =
    let d : IsDrained h q m (drain_choice h q (accepted m.scene.past q)) is next = some.1 in
    let known : Known q h.size h.capacity m.scene.past (m.scene.heads q) = good.holds.known in
    let right : Right q h m is next = drain_right q h m (drain_choice h q (accepted m.scene.past q)) is next plain good (inr some) in
    let stays : Stays q m next = subst (λ (n : Moment). Stays q m n) (sym (ap (λ (p : Played). p.next) d.made)) (turns_stay q d.count (drain_choice h q (accepted m.scene.past q)) h m plain good) in
    ends_drained q h (accepted m.scene.past q) next plain right.good counts (stays.joined ∙ attached) (omega (arith, stays.collects, known.shown, known.fewer)) (λ stopped. (stays.idle stopped).1) d.ends
