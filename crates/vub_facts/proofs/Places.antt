-- Where a queue stands when a step of it comes next, and the phase after it.
use Rattle.std.proofs.Common.{◌≡◌, ◌<◌, ◌⊎◌, ℕ, zero, suc, ◌+◌, ◌-◌, ◌*◌, ◌/◌, ◌%◌, Bool, true, false, List, [], ◌∷◌, ◌++◌, length, refl, ap, sym, ◌∙◌, subst, inl, inr, arith, length-append}
use Rattle.std.specs.Prelude.{◌==◌, ◌&&◌, not, if◌then◌else◌, slice_get, Option, Some, None}
use Rattle.std.proofs.lemmas.Bool.{cases_Bool, cases_eq, cases_lt}
use Rattle.std.proofs.lemmas.Bool.Decides.{nat_tests}
use Rattle.vub_steps.specs.declared.steps.Phase.{Phase}
use Rattle.vub_steps.specs.declared.steps.Phase.TheVariants as phases
use Rattle.vub_steps.specs.declared.steps.Plan.{Plan}
use Rattle.vub_steps.specs.declared.steps.Plan.TheVariants as plans
use Rattle.vub_steps.specs.declared.steps.Step.{Step}
use Rattle.vub_steps.specs.declared.steps.Step.TheVariants as steps
use Rattle.vub_steps.specs.Steps.{free_steps, settle_steps, plan_steps, bell_steps, start_steps, fetch_steps, publish_steps, element_step, shown_step, steps_of, done_of, at_step, next_of, after_of, next_step, after_step}
use Rattle.vub_steps.proofs.StartLemmas.{before, behind, first_behind, free_at, length_free, settle_at, length_settle, length_new, length_settles}
use Rattle.vub_steps.proofs.StepLemmas.{in_element, past_elements, length_publish}
use Rattle.vub_facts.specs.Facts.{Side, course_in, IsInPhase, IsDue}

-- ---- where it stands

-- in a start, of which so many steps were made
pub record IsStarting (done : ℕ) (x : Side) : Type 0 where
  pub not_started : x.started ≡ false
  pub place : x.phase ≡ phases.Start done

-- in a phase after its start
pub record IsRunning (phase : Phase) (x : Side) : Type 0 where
  pub started : x.started ≡ true
  pub place : x.phase ≡ phase

-- how many steps the bell takes
abbrev pub bells : Bool → ℕ
bells bell = length (bell_steps bell)

-- behind used.idx, so many steps after it, where the batch has so many elements
abbrev pub shown_place : ℕ → ℕ → Phase
shown_place batch after = phases.Publish (4 * batch + 1 + after)

-- where the step comes next, on a queue of n descriptors
abbrev pub Place : ℕ → Step → Side → Type 0
Place n steps.Features x = IsStarting 0 x × (x.plan ≡ plans.New)
Place n (steps.Free i) x = IsStarting (i + 1) x × ((x.plan ≡ plans.New) × (i < n))
Place n steps.Open x = IsStarting (n + 1) x × (x.plan ≡ plans.New)
Place n (steps.Settle i) x = IsStarting i x × ((count : ℕ) × ((x.plan ≡ plans.Settles count) × (i < count)))
Place n steps.SettleEnd x = (count : ℕ) × (IsStarting count x × (x.plan ≡ plans.Settles count))
Place n steps.Bell x = (x.bell ≡ true) × (IsStarting (length (plan_steps n x.plan)) x ⊎ IsRunning (shown_place (length x.batch) (length x.batch + 1)) x)
Place n steps.Start x = IsStarting (length (plan_steps n x.plan) + bells x.bell) x
Place n steps.Count x = IsRunning (phases.Fetch 0) x
Place n steps.Accept x = IsRunning (phases.Fetch 1) x
Place n (steps.Id e) x = IsRunning (phases.Publish (4 * e)) x × (e < length x.batch)
Place n (steps.Len e) x = IsRunning (phases.Publish (4 * e + 1)) x × (e < length x.batch)
Place n (steps.Link e) x = IsRunning (phases.Publish (4 * e + 2)) x × (e < length x.batch)
Place n (steps.Head e) x = IsRunning (phases.Publish (4 * e + 3)) x × (e < length x.batch)
Place n steps.Index x = IsRunning (phases.Publish (4 * length x.batch)) x
Place n (steps.Clear e) x = IsRunning (shown_place (length x.batch) e) x × (e < length x.batch)
Place n steps.Note x = IsRunning (shown_place (length x.batch) (length x.batch)) x

the_step : (a b : Step) → ◌≡◌ {A = Option Step} (Some a) (Some b) → a ≡ b
the_step a b e = cc

-- ---- in a start

-- how many its steps are
pub start_long : (n : ℕ) (plan : Plan) (bell : Bool) → length (start_steps n plan bell) ≡ length (plan_steps n plan) + bells bell + 1
start_long n plan bell =
    let all : length (start_steps n plan bell) ≡ length (plan_steps n plan) + length (bell_steps bell ++ (steps.Start ∷ [])) = length-append (plan_steps n plan) (bell_steps bell ++ (steps.Start ∷ [])) in
    let ends : length (bell_steps bell ++ (steps.Start ∷ [])) ≡ bells bell + 1 = length-append (bell_steps bell) (steps.Start ∷ []) in
    omega (arith, all, ends)

-- a start with this plan, of which so many steps were made
abbrev pub starting : Side → Plan → Bool → ℕ → Side
starting x plan bell done = record x { started = false; bell = bell; phase = phases.Start done; plan = plan }

pub starting_is : (x : Side) (done : ℕ) → x.started ≡ false → x.phase ≡ phases.Start done → starting x x.plan x.bell done ≡ x
starting_is x done off is = ap (λ (b : Bool). record x { started = b; phase = phases.Start done }) (sym off) ∙ ap (λ (p : Phase). record x { phase = p }) (sym is)

is_starting : (x : Side) (plan : Plan) (bell : Bool) (done : ℕ) → IsStarting done (starting x plan bell done)
is_starting x plan bell done = record { not_started = refl; place = refl }

new_place : (n : ℕ) (x : Side) (bell : Bool) (done : ℕ) (step : Step) → done < n + 2 → slice_get (plan_steps n plans.New) done ≡ Some step → Place n step (starting x plans.New bell done)
new_place n x bell zero step more is = subst (λ (s : Step). Place n s (starting x plans.New bell 0)) (the_step steps.Features step is) (is_starting x plans.New bell 0, refl)
new_place n x bell (suc i) step more is = elim (cases_lt i n) [
  | inl low ↦
      let here : Some step ≡ Some (steps.Free (0 + i)) = sym is ∙ free_at 0 n i (steps.Open ∷ []) low in
      let one : steps.Free (0 + i) ≡ step = sym (the_step step (steps.Free (0 + i)) here) in
      let same : 0 + i ≡ i = omega arith in
      let next : suc i ≡ i + 1 = omega arith in
      subst (λ (s : Step). Place n s (starting x plans.New bell (suc i))) (ap steps.Free (sym same) ∙ one) (subst (λ (d : ℕ). IsStarting d (starting x plans.New bell (suc i))) next (is_starting x plans.New bell (suc i)), (refl, low))
  | inr past ↦
      let last : i ≡ n = omega (arith, past, more) in
      let here : slice_get (free_steps 0 n ++ (steps.Open ∷ [])) i ≡ Some steps.Open = ap (slice_get (free_steps 0 n ++ (steps.Open ∷ []))) last ∙ first_behind (free_steps 0 n) [] steps.Open n (length_free 0 n) in
      let one : steps.Open ≡ step = the_step steps.Open step (sym here ∙ is) in
      let next : n + 1 ≡ suc i = omega (arith, last) in
      subst (λ (s : Step). Place n s (starting x plans.New bell (suc i))) one (subst (λ (d : ℕ). IsStarting d (starting x plans.New bell (suc i))) (sym next) (is_starting x plans.New bell (suc i)), refl)
]

settle_place : (n : ℕ) (x : Side) (bell : Bool) (count done : ℕ) (step : Step) → done < count + 1 → slice_get (plan_steps n (plans.Settles count)) done ≡ Some step → Place n step (starting x (plans.Settles count) bell done)
settle_place n x bell count done step more is = elim (cases_lt done count) [
  | inl low ↦
      let here : Some step ≡ Some (steps.Settle (0 + done)) = sym is ∙ settle_at 0 count done (steps.SettleEnd ∷ []) low in
      let one : steps.Settle (0 + done) ≡ step = sym (the_step step (steps.Settle (0 + done)) here) in
      let same : 0 + done ≡ done = omega arith in
      subst (λ (s : Step). Place n s (starting x (plans.Settles count) bell done)) (ap steps.Settle (sym same) ∙ one) (is_starting x (plans.Settles count) bell done, (count, (refl, low)))
  | inr past ↦
      let last : done ≡ count = omega (arith, past, more) in
      let here : slice_get (settle_steps 0 count ++ (steps.SettleEnd ∷ [])) done ≡ Some steps.SettleEnd = ap (slice_get (settle_steps 0 count ++ (steps.SettleEnd ∷ []))) last ∙ first_behind (settle_steps 0 count) [] steps.SettleEnd count (length_settle 0 count) in
      let one : steps.SettleEnd ≡ step = the_step steps.SettleEnd step (sym here ∙ is) in
      subst (λ (s : Step). Place n s (starting x (plans.Settles count) bell done)) one (count, (subst (λ (d : ℕ). IsStarting d (starting x (plans.Settles count) bell done)) last (is_starting x (plans.Settles count) bell done), refl))
]

-- a store
plan_place : (n : ℕ) (x : Side) (plan : Plan) (bell : Bool) (done : ℕ) (step : Step) → done < length (plan_steps n plan) → slice_get (plan_steps n plan) done ≡ Some step → Place n step (starting x plan bell done)
plan_place n x plans.New bell done step more is = new_place n x bell done step (omega (arith, more, length_new n)) is
plan_place n x (plans.Settles count) bell done step more is = settle_place n x bell count done step (omega (arith, more, length_settles n count)) is
plan_place n x plans.Settled bell done step more is = absurd (omega (arith, more))

-- the bell and the start, where k steps were made after the stores
end_place : (n : ℕ) (x : Side) (plan : Plan) (bell : Bool) (k : ℕ) (step : Step) → slice_get (bell_steps bell ++ (steps.Start ∷ [])) k ≡ Some step → Place n step (starting x plan bell (length (plan_steps n plan) + k))
end_place n x plan true zero step is =
    let y : Side = starting x plan true (length (plan_steps n plan) + 0) in
    let same : length (plan_steps n plan) + 0 ≡ length (plan_steps n plan) = omega arith in
    subst (λ (s : Step). Place n s y) (the_step steps.Bell step is) (refl, inl (subst (λ (d : ℕ). IsStarting d y) same (is_starting x plan true (length (plan_steps n plan) + 0))))
end_place n x plan true (suc zero) step is =
    let y : Side = starting x plan true (length (plan_steps n plan) + 1) in
    subst (λ (s : Step). Place n s y) (the_step steps.Start step is) (is_starting x plan true (length (plan_steps n plan) + 1))
end_place n x plan true (suc (suc k)) step is = absurd (let fails : ◌≡◌ {A = Option Step} None (Some step) = is in cc)
end_place n x plan false zero step is =
    let y : Side = starting x plan false (length (plan_steps n plan) + 0) in
    subst (λ (s : Step). Place n s y) (the_step steps.Start step is) (is_starting x plan false (length (plan_steps n plan) + 0))
end_place n x plan false (suc k) step is = absurd (let fails : ◌≡◌ {A = Option Step} None (Some step) = is in cc)

start_place : (n : ℕ) (x : Side) (plan : Plan) (bell : Bool) (done : ℕ) (step : Step) → slice_get (start_steps n plan bell) done ≡ Some step → Place n step (starting x plan bell done)
start_place n x plan bell done step is = elim (cases_lt done (length (plan_steps n plan))) [
  | inl more ↦ plan_place n x plan bell done step more (sym (before (plan_steps n plan) (bell_steps bell ++ (steps.Start ∷ [])) done more) ∙ is)
  | inr past ↦
      let k : ℕ = done - length (plan_steps n plan) in
      let at : length (plan_steps n plan) + k ≡ done = omega (arith, past) in
      let there : slice_get (start_steps n plan bell) (length (plan_steps n plan) + k) ≡ Some step = ap (slice_get (start_steps n plan bell)) at ∙ is in
      let end : slice_get (bell_steps bell ++ (steps.Start ∷ [])) k ≡ Some step = sym (behind (plan_steps n plan) (bell_steps bell ++ (steps.Start ∷ [])) (length (plan_steps n plan)) k refl) ∙ there in
      subst (λ (d : ℕ). Place n step (starting x plan bell d)) at (end_place n x plan bell k step end)
]

-- ---- in a fetch

fetch_place : (n : ℕ) (x : Side) (done : ℕ) (step : Step) → IsRunning (phases.Fetch done) x → slice_get fetch_steps done ≡ Some step → Place n step x
fetch_place n x zero step at is = subst (λ (s : Step). Place n s x) (the_step steps.Count step is) at
fetch_place n x (suc zero) step at is = subst (λ (s : Step). Place n s x) (the_step steps.Accept step is) at
fetch_place n x (suc (suc done)) step at is = absurd (let fails : ◌≡◌ {A = Option Step} None (Some step) = is in cc)

-- ---- in a publication

-- it stands in the same place
moved : (x : Side) (done place : ℕ) → done ≡ place → IsRunning (phases.Publish done) x → IsRunning (phases.Publish place) x
moved x done place same at = subst (λ (d : ℕ). IsRunning (phases.Publish d) x) same at

element_place : (n : ℕ) (x : Side) (e k : ℕ) → k < 4 → e < length x.batch → IsRunning (phases.Publish (4 * e + k)) x → Place n (element_step k e) x
element_place n x e zero four more at = (moved x (4 * e + 0) (4 * e) (omega arith) at, more)
element_place n x e (suc zero) four more at = (at, more)
element_place n x e (suc (suc zero)) four more at = (at, more)
element_place n x e (suc (suc (suc zero))) four more at = (at, more)
element_place n x e (suc (suc (suc (suc k)))) four more at = absurd (omega (arith, four))

-- behind the elements
show_place : (n : ℕ) (x : Side) (k : ℕ) (step : Step) → IsRunning (phases.Publish (4 * length x.batch + k)) x → shown_step (length x.batch) x.bell k ≡ Some step → Place n step x
show_place n x zero step at is = subst (λ (s : Step). Place n s x) (the_step steps.Index step is) (moved x (4 * length x.batch + 0) (4 * length x.batch) (omega arith) at)
show_place n x (suc p) step at is = elim (cases_lt p (length x.batch)) [
  | inl low ↦
      let here : shown_step (length x.batch) x.bell (suc p) ≡ Some (steps.Clear p) = grind (arith, nat_tests) in
      subst (λ (s : Step). Place n s x) (the_step (steps.Clear p) step (sym here ∙ is)) (moved x (4 * length x.batch + suc p) (4 * length x.batch + 1 + p) (omega arith) at, low)
  | inr past ↦ elim (cases_eq p (length x.batch)) [
    | inl same ↦
        let here : shown_step (length x.batch) x.bell (suc p) ≡ Some steps.Note = grind (arith, nat_tests) in
        subst (λ (s : Step). Place n s x) (the_step steps.Note step (sym here ∙ is)) (moved x (4 * length x.batch + suc p) (4 * length x.batch + 1 + length x.batch) (omega (arith, same)) at)
    | inr apart ↦ elim (cases_Bool (x.bell && (p == length x.batch + 1))) [
      | inl both ↦
          let here : shown_step (length x.batch) x.bell (suc p) ≡ Some steps.Bell = grind (arith, nat_tests) in
          let rings : x.bell ≡ true = grind (arith, nat_tests) in
          let last : p ≡ length x.batch + 1 = grind (arith, nat_tests) in
          subst (λ (s : Step). Place n s x) (the_step steps.Bell step (sym here ∙ is)) (rings, inr (moved x (4 * length x.batch + suc p) (4 * length x.batch + 1 + (length x.batch + 1)) (omega (arith, last)) at))
      | inr none ↦
          let here : shown_step (length x.batch) x.bell (suc p) ≡ None = grind (arith, nat_tests) in
          absurd (let fails : ◌≡◌ {A = Option Step} None (Some step) = sym here ∙ is in cc)
    ]
  ]
]

publish_place : (n : ℕ) (x : Side) (done : ℕ) (step : Step) → IsRunning (phases.Publish done) x → slice_get (publish_steps (length x.batch) x.bell) done ≡ Some step → Place n step x
publish_place n x done step at is = elim (cases_lt done (4 * length x.batch)) [
  | inl low ↦
      let here : Some (element_step (done % 4) (done / 4)) ≡ Some step = sym (in_element (length x.batch) x.bell done low) ∙ is in
      subst (λ (s : Step). Place n s x) (the_step (element_step (done % 4) (done / 4)) step here) (element_place n x (done / 4) (done % 4) (omega arith) (omega (arith, low)) (moved x done (4 * (done / 4) + done % 4) (omega arith) at))
  | inr past ↦
      let k : ℕ = done - 4 * length x.batch in
      let here : shown_step (length x.batch) x.bell k ≡ Some step = sym (past_elements (length x.batch) x.bell done (omega (arith, past))) ∙ is in
      show_place n x k step (moved x done (4 * length x.batch + k) (omega (arith, past)) at) here
]

-- ---- in any phase

in_phase_place : (n : ℕ) (x : Side) (step : Step) (p : Phase) → x.phase ≡ p → IsInPhase x.started p → next_step (course_in n x) p ≡ Some step → Place n step x
in_phase_place n x step phases.Rest at phase next = absurd (let fails : ◌≡◌ {A = Option Step} None (Some step) = next in cc)
in_phase_place n x step (phases.Start done) at off next = subst (λ (y : Side). Place n step y) (starting_is x done off at) (start_place n x x.plan x.bell done step next)
in_phase_place n x step (phases.Fetch done) at on next = fetch_place n x done step (record { started = on; place = at }) next
in_phase_place n x step (phases.Publish done) at on next = publish_place n x done step (record { started = on; place = at }) next

-- the step that comes next says where the queue stands
pub place_of : (n : ℕ) (step : Step) (x : Side) → IsDue n step x → Place n step x
place_of n step x due = in_phase_place n x step x.phase refl due.in_phase due.next

-- ---- the phase after it

-- of a start
pub start_goes_on : (n : ℕ) (x : Side) (done : ℕ) → x.phase ≡ phases.Start done → done < length (plan_steps n x.plan) + bells x.bell → after_step (course_in n x) x.phase ≡ phases.Start (done + 1)
start_goes_on n x done at more =
    let long : length (start_steps n x.plan x.bell) ≡ length (plan_steps n x.plan) + bells x.bell + 1 = start_long n x.plan x.bell in
    let left : done + 1 < length (start_steps n x.plan x.bell) = omega (arith, long, more) in
    let here : after_of (start_steps n x.plan x.bell) (phases.Start done) ≡ phases.Start (done + 1) = grind (arith, nat_tests) in
    ap (after_step (course_in n x)) at ∙ here

pub start_ends : (n : ℕ) (x : Side) → x.phase ≡ phases.Start (length (plan_steps n x.plan) + bells x.bell) → after_step (course_in n x) x.phase ≡ phases.Rest
start_ends n x at =
    let done : ℕ = length (plan_steps n x.plan) + bells x.bell in
    let last : length (start_steps n x.plan x.bell) ≡ done + 1 = start_long n x.plan x.bell in
    let here : after_of (start_steps n x.plan x.bell) (phases.Start done) ≡ phases.Rest = grind (arith, nat_tests) in
    ap (after_step (course_in n x)) at ∙ here

-- of a fetch
pub count_after : (n : ℕ) (x : Side) → x.phase ≡ phases.Fetch 0 → after_step (course_in n x) x.phase ≡ phases.Fetch 1
count_after n x at = ap (after_step (course_in n x)) at

pub accept_after : (n : ℕ) (x : Side) → x.phase ≡ phases.Fetch 1 → after_step (course_in n x) x.phase ≡ phases.Rest
accept_after n x at = ap (after_step (course_in n x)) at

-- of a publication
pub publish_goes_on : (n : ℕ) (x : Side) (done : ℕ) → x.phase ≡ phases.Publish done → done + 1 < 5 * length x.batch + 2 + bells x.bell → after_step (course_in n x) x.phase ≡ phases.Publish (done + 1)
publish_goes_on n x done at more =
    let long : length (publish_steps (length x.batch) x.bell) ≡ 5 * length x.batch + 2 + length (bell_steps x.bell) = length_publish (length x.batch) x.bell in
    let left : done + 1 < length (publish_steps (length x.batch) x.bell) = omega (arith, long, more) in
    let here : after_of (publish_steps (length x.batch) x.bell) (phases.Publish done) ≡ phases.Publish (done + 1) = grind (arith, nat_tests) in
    ap (after_step (course_in n x)) at ∙ here

pub publish_ends : (n : ℕ) (x : Side) (done : ℕ) → x.phase ≡ phases.Publish done → done + 1 ≡ 5 * length x.batch + 2 + bells x.bell → after_step (course_in n x) x.phase ≡ phases.Rest
publish_ends n x done at last =
    let long : length (publish_steps (length x.batch) x.bell) ≡ 5 * length x.batch + 2 + length (bell_steps x.bell) = length_publish (length x.batch) x.bell in
    let none : length (publish_steps (length x.batch) x.bell) ≡ done + 1 = omega (arith, long, last) in
    let here : after_of (publish_steps (length x.batch) x.bell) (phases.Publish done) ≡ phases.Rest = grind (arith, nat_tests) in
    ap (after_step (course_in n x)) at ∙ here

-- whether it is the last one of its phase
abbrev pub is_last : Step → Side → Bool
is_last steps.Start x = true
is_last steps.Accept x = true
is_last steps.Note x = not x.bell
is_last steps.Bell x = x.started
is_last step x = false

-- at rest exactly after the last one
abbrev pub GoesOn : ℕ → Step → Side → Type 0
GoesOn n step x = after_step (course_in n x) x.phase ≡ (if is_last step x then phases.Rest else at_step x.phase (done_of x.phase + 1))

start_next : (n : ℕ) (x : Side) (done : ℕ) → x.phase ≡ phases.Start done → done < length (plan_steps n x.plan) + bells x.bell → after_step (course_in n x) x.phase ≡ at_step x.phase (done_of x.phase + 1)
start_next n x done at more = start_goes_on n x done at more ∙ sym (ap (λ (p : Phase). at_step p (done_of p + 1)) at)

plan_next : (n : ℕ) (x : Side) (done : ℕ) (plan : Plan) → x.phase ≡ phases.Start done → x.plan ≡ plan → done < length (plan_steps n plan) → after_step (course_in n x) x.phase ≡ at_step x.phase (done_of x.phase + 1)
plan_next n x done plan at is more = start_next n x done at (omega (arith, more, ap (λ (p : Plan). length (plan_steps n p)) is))

publish_next : (n : ℕ) (x : Side) (done : ℕ) → x.phase ≡ phases.Publish done → done + 1 < 5 * length x.batch + 2 + bells x.bell → after_step (course_in n x) x.phase ≡ at_step x.phase (done_of x.phase + 1)
publish_next n x done at more = publish_goes_on n x done at more ∙ sym (ap (λ (p : Phase). at_step p (done_of p + 1)) at)

-- the phase where it is the last one, and where it isn't
last_is : (b : Bool) (p q : Phase) → b ≡ true → p ≡ phases.Rest → p ≡ (if b then phases.Rest else q)
last_is b p q last rests = rests ∙ ap (λ (c : Bool). if c then phases.Rest else q) (sym last)

other_is : (b : Bool) (p q : Phase) → b ≡ false → p ≡ q → p ≡ (if b then phases.Rest else q)
other_is b p q other goes = goes ∙ ap (λ (c : Bool). if c then phases.Rest else q) (sym other)

pub after_place : (n : ℕ) (step : Step) (x : Side) → Place n step x → GoesOn n step x
after_place n steps.Features x at = plan_next n x 0 plans.New at.0.place at.1 (omega (arith, length_new n))
after_place n (steps.Free i) x at = plan_next n x (i + 1) plans.New at.0.place at.1.0 (omega (arith, length_new n, at.1.1))
after_place n steps.Open x at = plan_next n x (n + 1) plans.New at.0.place at.1 (omega (arith, length_new n))
after_place n (steps.Settle i) x at = plan_next n x i (plans.Settles at.1.0) at.0.place at.1.1.0 (omega (arith, length_settles n at.1.0, at.1.1.1))
after_place n steps.SettleEnd x at = plan_next n x at.0 (plans.Settles at.0) at.1.0.place at.1.1 (omega (arith, length_settles n at.0))
after_place n steps.Bell x (rings, inl at) =
    let one : bells x.bell ≡ 1 = ap bells rings in
    other_is x.started (after_step (course_in n x) x.phase) (at_step x.phase (done_of x.phase + 1)) at.not_started (start_next n x (length (plan_steps n x.plan)) at.place (omega (arith, one)))
after_place n steps.Bell x (rings, inr at) =
    let one : bells x.bell ≡ 1 = ap bells rings in
    let done : ℕ = 4 * length x.batch + 1 + (length x.batch + 1) in
    last_is x.started (after_step (course_in n x) x.phase) (at_step x.phase (done_of x.phase + 1)) at.started (publish_ends n x done at.place (omega (arith, one)))
after_place n steps.Start x at = start_ends n x at.place
after_place n steps.Count x at = count_after n x at.place ∙ sym (ap (λ (p : Phase). at_step p (done_of p + 1)) at.place)
after_place n steps.Accept x at = accept_after n x at.place
after_place n (steps.Id e) x at = publish_next n x (4 * e) at.0.place (omega (arith, at.1))
after_place n (steps.Len e) x at = publish_next n x (4 * e + 1) at.0.place (omega (arith, at.1))
after_place n (steps.Link e) x at = publish_next n x (4 * e + 2) at.0.place (omega (arith, at.1))
after_place n (steps.Head e) x at = publish_next n x (4 * e + 3) at.0.place (omega (arith, at.1))
after_place n steps.Index x at = publish_next n x (4 * length x.batch) at.place (omega arith)
after_place n (steps.Clear e) x at = publish_next n x (4 * length x.batch + 1 + e) at.0.place (omega (arith, at.1))
after_place n steps.Note x at = note_next n x (4 * length x.batch + 1 + length x.batch) x.bell refl at.place (omega arith)
  where
    note_next : (n : ℕ) (x : Side) (done : ℕ) (bell : Bool) → x.bell ≡ bell → x.phase ≡ phases.Publish done → done + 1 ≡ 5 * length x.batch + 2 → GoesOn n steps.Note x
    note_next n x done true rings here last =
        let one : bells x.bell ≡ 1 = ap bells rings in
        other_is (not x.bell) (after_step (course_in n x) x.phase) (at_step x.phase (done_of x.phase + 1)) (ap not rings) (publish_next n x done here (omega (arith, one, last)))
    note_next n x done false silent here last =
        let none : bells x.bell ≡ 0 = ap bells silent in
        last_is (not x.bell) (after_step (course_in n x) x.phase) (at_step x.phase (done_of x.phase + 1)) (ap not silent) (publish_ends n x done here (omega (arith, none, last)))

-- ---- a step is left

get_within : (xs : List Step) (i : ℕ) → i < length xs → (step : Step) × (slice_get xs i ≡ Some step)
get_within [] i low = absurd (omega (arith, low))
get_within (x ∷ xs) zero low = (x, refl)
get_within (x ∷ xs) (suc i) low = get_within xs i (omega (arith, low))

-- a phase that isn't through has a next step
pub step_left : (n : ℕ) (x : Side) → done_of x.phase < length (steps_of (course_in n x) x.phase) → (step : Step) × (next_step (course_in n x) x.phase ≡ Some step)
step_left n x more = get_within (steps_of (course_in n x) x.phase) (done_of x.phase) more

pub start_goes : (n : ℕ) (x : Side) (done : ℕ) → x.phase ≡ phases.Start done → done < length (start_steps n x.plan x.bell) → (step : Step) × (next_of (start_steps n x.plan x.bell) x.phase ≡ Some step)
start_goes n x done is more = subst (λ (p : Phase). (step : Step) × (next_of (start_steps n x.plan x.bell) p ≡ Some step)) (sym is) (get_within (start_steps n x.plan x.bell) done more)

-- and so it is due
pub left_due : (n : ℕ) (x : Side) → IsInPhase x.started x.phase → done_of x.phase < length (steps_of (course_in n x) x.phase) → (step : Step) × IsDue n step x
left_due n x phase more = let next : (step : Step) × (next_step (course_in n x) x.phase ≡ Some step) = step_left n x more in (next.0, record { in_phase = phase; next = next.1 })
