-- How much is left to do for a queue: a number that falls with each turn.
use Rattle.std.proofs.Common.{◌≡◌, ◌≢◌, ◌≤◌, ◌<◌, ℕ, zero, suc, ◌+◌, ◌-◌, ◌*◌, Bool, true, false, List, [], ◌∷◌, ◌++◌, length, ap, sym, ◌∙◌, inl, inr, arith}
use Rattle.std.specs.Prelude.{if◌then◌else◌, ◌||◌}
use Rattle.std.proofs.lemmas.Bool.Decides.{nat_tests}
use Rattle.std.proofs.lemmas.Bool.{cases_eq, cases_Bool}
use Rattle.std.proofs.lemmas.List.{append-nil}
use Rattle.vub_steps.specs.declared.steps.Phase.{Phase}
use Rattle.vub_steps.specs.declared.steps.Phase.TheVariants as phases
use Rattle.vub_steps.specs.declared.steps.Plan.{Plan}
use Rattle.vub_steps.specs.Steps.{plan_steps, start_steps}
use Rattle.vub_facts.proofs.Places.{bells, start_long}
use Rattle.vub_device.specs.declared.entry.Entry.{Entry}
use Rattle.vub_device.specs.Past.{accepted, published, is_among, started}
use Rattle.vub_device.proofs.Numbers.{is_among_append}
use Rattle.vub_run.specs.Memory.{with_at}
use Rattle.vub_run.specs.Moments.{Lane}
use Rattle.vub_run_laws.proofs.RunGood.{hidden}

-- of a number: nothing once it was published or completed, and else the steps that are left and its publication
abbrev pub weight : List ℕ → List ℕ → (ℕ → ℕ) → ℕ → ℕ
weight gone done made k = if is_among gone k then 0 else (if is_among done k then 0 else 25 - made k)

abbrev pub sum_below : (ℕ → ℕ) → ℕ → ℕ
sum_below f zero = 0
sum_below f (suc a) = sum_below f a + f a

-- the steps that are left of a publication, and of a fetch or of one that can begin
abbrev pub phase_left : List ℕ → Phase → ℕ
phase_left batch (phases.Publish done) = 2 + (5 * length batch + 3 - done)
phase_left batch (phases.Fetch done) = 2 - done
phase_left batch phase = 2

-- the steps that are left of a start of a queue of n descriptors, or that one can have which isn't begun
abbrev pub steps_left : ℕ → Bool → Plan → Phase → ℕ
steps_left n bell plan (phases.Start done) = length (start_steps n plan bell) - done
steps_left n bell plan phase = n + 4

abbrev pub effort : ℕ → ℕ → List Entry → ℕ → Lane → ℕ
effort q n past offered l =
    (if started past q then 0 else steps_left n l.bell l.plan l.phase) + 27 * (offered - accepted past q) + sum_below (weight (published past q) (l.completed ++ hidden l.batch l.phase) l.made) (accepted past q) + 8 * length l.completed + phase_left l.batch l.phase

pub few_bells : (bell : Bool) → bells bell ≤ 1
few_bells true = omega arith
few_bells false = omega arith

-- a start has a step for each descriptor and four more at most
pub start_short : (n : ℕ) (bell : Bool) (plan : Plan) → length (plan_steps n plan) ≤ n + 2 → length (start_steps n plan bell) ≤ n + 4
start_short n bell plan few = omega (arith, start_long n plan bell, few_bells bell, few)

pub sum_more : (f : ℕ → ℕ) (a : ℕ) → sum_below f (a + 1) ≡ sum_below f a + f a
sum_more f a = let next : a + 1 ≡ suc a = omega arith in ap (sum_below f) next

pub sum_le : (f g : ℕ → ℕ) (a : ℕ) → ((k : ℕ) → k < a → g k ≤ f k) → sum_below g a ≤ sum_below f a
sum_le f g zero each = omega arith
sum_le f g (suc a) each =
    let rest : sum_below g a ≤ sum_below f a = sum_le f g a (λ k l. each k (omega arith)) in
    let here : g a ≤ f a = each a (omega arith) in
    omega arith

pub sum_less : (f g : ℕ → ℕ) (a k d : ℕ) → k < a → ((j : ℕ) → j < a → j ≢ k → g j ≤ f j) → g k + d ≤ f k → sum_below g a + d ≤ sum_below f a
sum_less f g zero k d low each less = absurd (omega arith)
sum_less f g (suc a) k d low each less = elim (cases_eq k a) [
  | inl same ↦
      let rest : sum_below g a ≤ sum_below f a = sum_le f g a (λ j l. each j (omega arith) (λ e. omega arith)) in
      let here : g a + d ≤ f a = let at_g : g k ≡ g a = ap g same in let at_f : f k ≡ f a = ap f same in omega arith in
      omega arith
  | inr apart ↦
      let rest : sum_below g a + d ≤ sum_below f a = sum_less f g a k d (omega arith) (λ j l. each j (omega arith)) less in
      let here : g a ≤ f a = each a (omega arith) (λ e. apart (sym e)) in
      omega arith
]

weight_of_left : (gone done : List ℕ) (made : ℕ → ℕ) (k : ℕ) → is_among gone k ≡ false → is_among done k ≡ false → weight gone done made k ≡ 25 - made k
weight_of_left gone done made k out left = grind (arith, nat_tests)

-- a step of work
pub step_falls : (gone done : List ℕ) (made : ℕ → ℕ) (a k : ℕ) → k < a → is_among gone k ≡ false → is_among done k ≡ false → made k ≤ 16 → sum_below (weight gone done (with_at made k (made k + 1))) a + 1 ≤ sum_below (weight gone done made) a
step_falls gone done made a k low out left small =
    let now : with_at made k (made k + 1) k ≡ made k + 1 = grind (arith, nat_tests) in
    let after : weight gone done (with_at made k (made k + 1)) k ≡ 25 - (made k + 1) = weight_of_left gone done (with_at made k (made k + 1)) k out left ∙ ap (λ (c : ℕ). 25 - c) now in
    let before : weight gone done made k ≡ 25 - made k = weight_of_left gone done made k out left in
    sum_less (weight gone done made) (weight gone done (with_at made k (made k + 1))) a k 1 low (λ j l apart.
    let same : with_at made k (made k + 1) j ≡ made j = grind (arith, nat_tests) in
    let all : weight gone done (with_at made k (made k + 1)) j ≡ weight gone done made j = ap (λ (c : ℕ). if is_among gone j then 0 else (if is_among done j then 0 else 25 - c)) same in
    omega arith) (omega arith)

-- the last step of a request
pub status_falls : (gone xs ys : List ℕ) (made : ℕ → ℕ) (a k : ℕ) → k < a → is_among gone k ≡ false → is_among (xs ++ ys) k ≡ false → made k ≤ 16
    → sum_below (weight gone ((xs ++ k ∷ []) ++ ys) (with_at made k (made k + 1))) a + 9 ≤ sum_below (weight gone (xs ++ ys) made) a
status_falls gone xs ys made a k low out left small =
    let member : (j : ℕ) → is_among ((xs ++ k ∷ []) ++ ys) j ≡ ((is_among xs j || is_among (k ∷ []) j) || is_among ys j) = λ j. is_among_append (xs ++ k ∷ []) ys j ∙ ap (λ b. b || is_among ys j) (is_among_append xs (k ∷ []) j) in
    let old : (j : ℕ) → is_among (xs ++ ys) j ≡ (is_among xs j || is_among ys j) = λ j. is_among_append xs ys j in
    let after : weight gone ((xs ++ k ∷ []) ++ ys) (with_at made k (made k + 1)) k ≡ 0 = let here = member k in grind (arith, nat_tests) in
    let before : weight gone (xs ++ ys) made k ≡ 25 - made k = weight_of_left gone (xs ++ ys) made k out left in
    sum_less (weight gone (xs ++ ys) made) (weight gone ((xs ++ k ∷ []) ++ ys) (with_at made k (made k + 1))) a k 9 low (λ j l apart.
    let same : with_at made k (made k + 1) j ≡ made j = grind (arith, nat_tests) in
    let turned : k ≢ j = λ e. apart (sym e) in
    let new_j = member j in
    let old_j = old j in
    let members : is_among ((xs ++ k ∷ []) ++ ys) j ≡ is_among (xs ++ ys) j = grind (arith, nat_tests) in
    let all : weight gone ((xs ++ k ∷ []) ++ ys) (with_at made k (made k + 1)) j ≡ weight gone (xs ++ ys) made j =
    ap (λ b. if is_among gone j then 0 else (if b then 0 else 25 - with_at made k (made k + 1) j)) members ∙ ap (λ (c : ℕ). if is_among gone j then 0 else (if is_among (xs ++ ys) j then 0 else 25 - c)) same in
    omega arith) (omega arith)

pub weight_small : (gone done : List ℕ) (made : ℕ → ℕ) (k : ℕ) → weight gone done made k ≤ 25
weight_small gone done made k = elim (cases_Bool (is_among gone k)) [
  | inl there ↦ grind (arith, nat_tests)
  | inr out ↦ elim (cases_Bool (is_among done k)) [
    | inl held ↦ grind (arith, nat_tests)
    | inr left ↦ omega (arith, weight_of_left gone done made k out left)
  ]
]

-- the end of a publication
pub shown_falls : (gone gone' xs ys : List ℕ) (made : ℕ → ℕ) (a : ℕ) → gone' ≡ gone ++ ys → sum_below (weight gone' (xs ++ []) made) a ≤ sum_below (weight gone (xs ++ ys) made) a
shown_falls gone gone' xs ys made a same = sum_le (weight gone (xs ++ ys) made) (weight gone' (xs ++ []) made) a (λ k l.
    let goes : is_among gone' k ≡ (is_among gone k || is_among ys k) = ap (λ ks. is_among ks k) same ∙ is_among_append gone ys k in
    let bare : is_among (xs ++ []) k ≡ is_among xs k = ap (λ ks. is_among ks k) (append-nil xs) in
    let both : is_among (xs ++ ys) k ≡ (is_among xs k || is_among ys k) = is_among_append xs ys k in
    elim (cases_Bool (is_among gone k)) [
      | inl there ↦ grind (arith, nat_tests)
      | inr out ↦ elim (cases_Bool (is_among ys k)) [
        | inl shown ↦ grind (arith, nat_tests)
        | inr hidden ↦
            let all_gone : is_among gone' k ≡ is_among gone k = grind (arith, nat_tests) in
            let all_done : is_among (xs ++ []) k ≡ is_among (xs ++ ys) k = grind (arith, nat_tests) in
            let w : weight gone' (xs ++ []) made k ≡ weight gone (xs ++ ys) made k = ap (λ b. if b then 0 else (if is_among (xs ++ []) k then 0 else 25 - made k)) all_gone ∙ ap (λ b. if is_among gone k then 0 else (if b then 0 else 25 - made k)) all_done in
            omega arith
      ]
    ])

-- where the same numbers are completed the sum is the same
pub sum_moved : (gone done done' : List ℕ) (made : ℕ → ℕ) (a : ℕ) → ((k : ℕ) → is_among done' k ≡ is_among done k) → sum_below (weight gone done' made) a ≤ sum_below (weight gone done made) a
sum_moved gone done done' made a same = sum_le (weight gone done made) (weight gone done' made) a (λ k l.
    let w : weight gone done' made k ≡ weight gone done made k = ap (λ b. if is_among gone k then 0 else (if b then 0 else 25 - made k)) (same k) in
    omega arith)
