-- Where each step of a start stands in its list.
use Rattle.std.proofs.Common.{◌≡◌, ◌<◌, ℕ, zero, suc, ◌+◌, List, [], ◌∷◌, ◌++◌, length, refl, ap, sym, ◌∙◌, arith, length-append}
use Rattle.std.specs.Prelude.{slice_get, Some}
use Rattle.vub_steps.specs.declared.steps.Plan.TheVariants as plans
use Rattle.vub_steps.specs.declared.steps.Step.{Step}
use Rattle.vub_steps.specs.declared.steps.Step.TheVariants as steps
use Rattle.vub_steps.specs.Steps.{free_steps, settle_steps, plan_steps}

-- ---- places in a list

-- one of the first ones
pub before : (xs ys : List Step) (i : ℕ) → i < length xs → slice_get (xs ++ ys) i ≡ slice_get xs i
before [] ys i low = absurd (omega (arith, low))
before (x ∷ xs) ys zero low = refl
before (x ∷ xs) ys (suc i) low = before xs ys i (omega (arith, low))

-- what stands behind the first n
pub behind : (xs ys : List Step) (n i : ℕ) → length xs ≡ n → slice_get (xs ++ ys) (n + i) ≡ slice_get ys i
behind [] ys n i long = let none : n + i ≡ i = omega (arith, long) in ap (slice_get ys) none
behind (x ∷ xs) ys zero i long = absurd (omega (arith, long))
behind (x ∷ xs) ys (suc n) i long =
    let rest : slice_get (xs ++ ys) (n + i) ≡ slice_get ys i = behind xs ys n i (omega (arith, long)) in
    let next : suc n + i ≡ suc (n + i) = omega arith in
    ap (slice_get (x ∷ xs ++ ys)) next ∙ rest

pub first_behind : (xs ys : List Step) (y : Step) (n : ℕ) → length xs ≡ n → slice_get (xs ++ (y ∷ ys)) n ≡ Some y
first_behind xs ys y n long = let same : n + 0 ≡ n = omega arith in ap (slice_get (xs ++ (y ∷ ys))) (sym same) ∙ behind xs (y ∷ ys) n 0 long

-- ---- the stores of a start

pub free_at : (entry count i : ℕ) (tail : List Step) → i < count → slice_get (free_steps entry count ++ tail) i ≡ Some (steps.Free (entry + i))
free_at entry zero i tail below = absurd (omega (arith, below))
free_at entry (suc count) zero tail below = let same : entry + 0 ≡ entry = omega arith in ap (λ (j : ℕ). Some (steps.Free j)) (sym same)
free_at entry (suc count) (suc i) tail below =
    let rest : slice_get (free_steps (entry + 1) count ++ tail) i ≡ Some (steps.Free (entry + 1 + i)) = free_at (entry + 1) count i tail (omega (arith, below)) in
    let on : entry + 1 + i ≡ entry + suc i = omega arith in
    rest ∙ ap (λ (j : ℕ). Some (steps.Free j)) on

pub length_free : (entry count : ℕ) → length (free_steps entry count) ≡ count
length_free entry zero = refl
length_free entry (suc count) = let rest : length (free_steps (entry + 1) count) ≡ count = length_free (entry + 1) count in omega (arith, rest)

pub settle_at : (place count i : ℕ) (tail : List Step) → i < count → slice_get (settle_steps place count ++ tail) i ≡ Some (steps.Settle (place + i))
settle_at place zero i tail below = absurd (omega (arith, below))
settle_at place (suc count) zero tail below = let same : place + 0 ≡ place = omega arith in ap (λ (j : ℕ). Some (steps.Settle j)) (sym same)
settle_at place (suc count) (suc i) tail below =
    let rest : slice_get (settle_steps (place + 1) count ++ tail) i ≡ Some (steps.Settle (place + 1 + i)) = settle_at (place + 1) count i tail (omega (arith, below)) in
    let on : place + 1 + i ≡ place + suc i = omega arith in
    rest ∙ ap (λ (j : ℕ). Some (steps.Settle j)) on

pub length_settle : (place count : ℕ) → length (settle_steps place count) ≡ count
length_settle place zero = refl
length_settle place (suc count) = let rest : length (settle_steps (place + 1) count) ≡ count = length_settle (place + 1) count in omega (arith, rest)

-- how many they are
pub length_new : (n : ℕ) → length (plan_steps n plans.New) ≡ n + 2
length_new n = let ends : length (free_steps 0 n ++ (steps.Open ∷ [])) ≡ length (free_steps 0 n) + 1 = length-append (free_steps 0 n) (steps.Open ∷ []) in omega (arith, ends, length_free 0 n)

pub length_settles : (n count : ℕ) → length (plan_steps n (plans.Settles count)) ≡ count + 1
length_settles n count = let ends : length (settle_steps 0 count ++ (steps.SettleEnd ∷ [])) ≡ length (settle_steps 0 count) + 1 = length-append (settle_steps 0 count) (steps.SettleEnd ∷ []) in omega (arith, ends, length_settle 0 count)
