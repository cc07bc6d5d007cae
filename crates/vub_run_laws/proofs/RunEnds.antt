-- A drain ends: each turn leaves less to do, and there is never much.
use Rattle.std.proofs.Common.{◌≡◌, ◌≤◌, ℕ, zero, suc, ◌+◌, ◌*◌, Bool, true, false, cond, List, [], ◌∷◌, ◌++◌, length, refl, ap, sym, ◌∙◌, subst, inl, inr, arith, length-append}
use Rattle.std.specs.Prelude.{◌||◌}
use Rattle.std.proofs.lemmas.Bool.Decides.{nat_tests}
use Rattle.std.proofs.lemmas.Bool.{cases_Bool, cases_lt}
use Rattle.std.proofs.lemmas.List.{append-nil, append_assoc}
use Rattle.vub_base.specs.declared.header.Header1.{Header1}
use Rattle.vub_steps.specs.declared.readiness.Turn.{Turn}
use Rattle.vub_steps.specs.declared.steps.Phase.{Phase}
use Rattle.vub_steps.specs.declared.steps.Phase.TheVariants as phases
use Rattle.vub_steps.specs.declared.steps.Plan.{Plan}
use Rattle.vub_steps.specs.Readiness.{is_ready}
use Rattle.vub_device.specs.declared.entry.Entry.{Entry}
use Rattle.vub_device.specs.Past.{accepted, published, collected, is_among, missing_below, started}
use Rattle.vub_device.specs.Places.{are_distinct}
use Rattle.vub_device.proofs.Numbers.{is_among_append}
use Rattle.vub_report.specs.declared.items.Item.{Item}
use Rattle.vub_run.specs.Memory.{Scene}
use Rattle.vub_run.specs.Moments.{Lane, Moment, standing}
use Rattle.vub_run.specs.Turns.{turned}
use Rattle.vub_run.specs.Run.{Played, played, one_turn, is_due, then_played, turns}
use Rattle.vub_run_laws.proofs.RunNumbers.{distinct_join}
pub use Rattle.vub_run_laws.proofs.RunNumbers.{missing_distinct}
use Rattle.vub_run_laws.proofs.RunHeads.{missing_exact}
use Rattle.vub_run_laws.proofs.RunCarries.{all_hidden}
use Rattle.vub_run_laws.proofs.RunOwn.{at_own}
use Rattle.vub_run_laws.proofs.RunGood.{Known, StartIs, hidden, Worked}
use Rattle.vub_run_laws.proofs.RunEfforts.{weight, sum_below, phase_left, steps_left, effort, start_short, weight_small}
use Rattle.vub_run_laws.proofs.RunQueue.{queue_start, queue_batch}
use Rattle.vub_run_laws.proofs.RunTurns.{IsPlain, Good, turn_fine}

-- what is left to do at a moment
abbrev pub effort_at : ℕ → Header1 → Moment → ℕ
effort_at q h m = effort q h.size m.scene.past (length (m.scene.heads q)) (m.lanes q)

-- a due turn leaves less
pub turn_falls : (q : ℕ) (h : Header1) (t : Turn) (m : Moment) → IsPlain h → Good q h m → is_due h q t m ≡ true → effort_at q h (one_turn h q t m).next + 1 ≤ effort_at q h m
turn_falls q h t m plain good due =
    let ready : is_ready (standing h q m) t ≡ true = grind (arith, nat_tests) in
    let left : Lane → ℕ = λ l. effort q h.size (one_turn h q t m).next.scene.past (length ((one_turn h q t m).next.scene.heads q)) l in
    subst (λ (l : Lane). left l + 1 ≤ effort_at q h m) (sym (at_own m.lanes q (turned h q t m).lane)) (turn_fine q h t m plain good ready).falls

-- ---- how much there is

-- what is neither published nor done weighs no more than its steps
pub sum_left : (gone done : List ℕ) (made : ℕ → ℕ) (a : ℕ) → sum_below (weight gone done made) a ≤ 25 * length (missing_below (gone ++ done) a)
sum_left gone done made zero = omega arith
sum_left gone done made (suc a) =
    let rest : sum_below (weight gone done made) a ≤ 25 * length (missing_below (gone ++ done) a) = sum_left gone done made a in
    let joined : is_among (gone ++ done) a ≡ (is_among gone a || is_among done a) = is_among_append gone done a in
    elim (cases_Bool (is_among (gone ++ done) a)) [
      | inl there ↦
          let none : weight gone done made a ≡ 0 = grind (arith, nat_tests) in
          let same : missing_below (gone ++ done) (suc a) ≡ missing_below (gone ++ done) a = grind (arith, nat_tests) in
          omega (arith, rest, none, ap (λ (xs : List ℕ). length xs) same)
      | inr out ↦
          let more : missing_below (gone ++ done) (suc a) ≡ missing_below (gone ++ done) a ++ a ∷ [] = grind (arith, nat_tests) in
          omega (arith, rest, weight_small gone done made a, ap (λ (xs : List ℕ). length xs) more, length-append (missing_below (gone ++ done) a) (a ∷ []))
    ]

-- what was published, what is completed or in the batch, and what is left are all that was accepted
pub all_left : (q n cap : ℕ) (past : List Entry) (heads : List ℕ) (phase : Phase) (batch completed : List ℕ) (made : ℕ → ℕ) → Known q n cap past heads → Worked q past phase batch completed made
    → length (published past q) + (length completed + length batch) + length (missing_below (published past q ++ (completed ++ batch)) (accepted past q)) ≡ accepted past q
all_left q n cap past heads phase batch completed made known w =
    let ps : List ℕ = published past q in
    let ds : List ℕ = completed ++ batch in
    let d : are_distinct (ps ++ ds) ≡ true = distinct_join ps ds known.distinct w.distinct (λ k held. (w.opens k held).unpublished) in
    let all = missing_exact (ps ++ ds) (accepted past q) d (λ k held. elim (cases_Bool (is_among ds k)) [
      | inl there ↦ (w.opens k there).taken
      | inr out ↦ known.below k (let joined : is_among (ps ++ ds) k ≡ (is_among ps k || is_among ds k) = is_among_append ps ds k in grind (arith, nat_tests))
    ]) in
    omega (arith, all, length-append ps ds, length-append completed batch)

-- the steps that are left of a phase: five for each request of a hidden batch, and one for each of one that is shown, of n at most
pub phase_few : (n : ℕ) (batch : List ℕ) (phase : Phase) → length batch ≤ n → phase_left batch phase ≤ 5 * length (hidden batch phase) + n + 5
phase_few n batch phases.Rest few = omega arith
phase_few n batch (phases.Start done) few = omega arith
phase_few n batch (phases.Fetch done) few = omega arith
phase_few n batch (phases.Publish done) few = elim (cases_lt (4 * length batch) done) [
  | inl past ↦ omega (arith, past, few)
  | inr before ↦ omega (arith, before, few, ap (λ (ks : List ℕ). length ks) (all_hidden batch done (omega (arith, before))))
]

-- and so is a start
pub start_few : (b : Bool) (n : ℕ) (bell : Bool) (plan : Plan) (phase : Phase) → StartIs b n bell plan phase → cond {A = ℕ} b 0 (steps_left n bell plan phase) ≤ n + 4
start_few true n bell plan phase is = omega arith
start_few false n bell plan phases.Rest is = omega arith
start_few false n bell plan (phases.Start done) is = omega (arith, start_short n bell plan is.few)
start_few false n bell plan (phases.Fetch done) is = omega arith
start_few false n bell plan (phases.Publish done) is = omega arith

-- there is never much to do
pub effort_small : (q : ℕ) (h : Header1) (m : Moment) → IsPlain h → Good q h m → effort_at q h m ≤ 2000
effort_small q h m plain good =
    let s : Scene = m.scene in
    let l : Lane = m.lanes q in
    let known : Known q h.size h.capacity s.past (s.heads q) = good.holds.known in
    let small : h.size ≤ 64 = plain.good.size.small in
    let room : length (s.heads q) ≤ h.size + collected s.past q = known.room in
    let shown : collected s.past q ≤ length (published s.past q) = known.shown in
    let offered : accepted s.past q ≤ length (s.heads q) = known.offered in
    let all = all_left q h.size h.capacity s.past (s.heads q) l.phase (hidden l.batch l.phase) l.completed l.made known good.holds.worked in
    let sum = sum_left (published s.past q) (l.completed ++ hidden l.batch l.phase) l.made (accepted s.past q) in
    let left = phase_few h.size l.batch l.phase (queue_batch q h s l good.holds) in
    let begins = start_few (started s.past q) h.size l.bell l.plan l.phase (queue_start q h s l good.holds) in
    omega (arith, small, room, shown, offered, all, sum, left, begins)

-- ---- one more turn at the end

then_nothing : (p : Played) → then_played p (played [] p.next) ≡ p
then_nothing p = ap (λ (is : List Item). played is p.next) (append-nil p.items)

then_then : (p q r : Played) → then_played p (then_played q r) ≡ then_played (then_played p q) r
then_then p q r = ap (λ (is : List Item). played is r.next) (sym (append_assoc p.items q.items r.items))

-- where the next turn is due, as many turns and one more are these and that one
pub turns_more : (q count : ℕ) (choose : Moment → Turn) (h : Header1) (m : Moment) → is_due h q (choose (turns count choose h q m).next) (turns count choose h q m).next ≡ true
    → turns (suc count) choose h q m ≡ then_played (turns count choose h q m) (one_turn h q (choose (turns count choose h q m).next) (turns count choose h q m).next)
turns_more q zero choose h m due =
    ap (λ (b : Bool). cond {A = Played} b (then_played (one_turn h q (choose m) m) (played [] (one_turn h q (choose m) m).next)) (played [] m)) due ∙ then_nothing (one_turn h q (choose m) m)
turns_more q (suc count) choose h m due = go (is_due h q (choose m) m) refl due (turns_more q count choose h (one_turn h q (choose m) m).next)
  where
    go : (b : Bool) → is_due h q (choose m) m ≡ b
        → is_due h q (choose (cond {A = Played} b (then_played (one_turn h q (choose m) m) (turns count choose h q (one_turn h q (choose m) m).next)) (played [] m)).next) (cond {A = Played} b (then_played (one_turn h q (choose m) m) (turns count choose h q (one_turn h q (choose m) m).next)) (played [] m)).next ≡ true
        → (is_due h q (choose (turns count choose h q (one_turn h q (choose m) m).next).next) (turns count choose h q (one_turn h q (choose m) m).next).next ≡ true
        → turns (suc count) choose h q (one_turn h q (choose m) m).next ≡ then_played (turns count choose h q (one_turn h q (choose m) m).next) (one_turn h q (choose (turns count choose h q (one_turn h q (choose m) m).next).next) (turns count choose h q (one_turn h q (choose m) m).next).next))
        → cond {A = Played} b (then_played (one_turn h q (choose m) m) (turns (suc count) choose h q (one_turn h q (choose m) m).next)) (played [] m)
        ≡ then_played (cond {A = Played} b (then_played (one_turn h q (choose m) m) (turns count choose h q (one_turn h q (choose m) m).next)) (played [] m))
        (one_turn h q (choose (cond {A = Played} b (then_played (one_turn h q (choose m) m) (turns count choose h q (one_turn h q (choose m) m).next)) (played [] m)).next)
        (cond {A = Played} b (then_played (one_turn h q (choose m) m) (turns count choose h q (one_turn h q (choose m) m).next)) (played [] m)).next)
    go true is later rest =
        let P : Played = turns count choose h q (one_turn h q (choose m) m).next in
        ap (then_played (one_turn h q (choose m) m)) (rest later) ∙ then_then (one_turn h q (choose m) m) P (one_turn h q (choose P.next) P.next)
    go false is later rest = absurd (let fails : true ≡ false = sym later ∙ is in cc)
