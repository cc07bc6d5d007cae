-- Lists of numbers and of tasks from which one is taken, or in which one is changed.
use Rattle.std.proofs.Common.{◌≡◌, ◌≢◌, ◌≤◌, ◌<◌, ℕ, zero, suc, Bool, true, false, not, List, [], ◌∷◌, ◌++◌, length, set, refl, ap, sym, ◌∙◌, inl, inr, arith}
use Rattle.std.specs.Prelude.{◌||◌, ◌==◌, slice_get, Some, filter, remove}
use Rattle.std.proofs.lemmas.Bool.Decides.{nat_tests}
use Rattle.std.proofs.lemmas.Bool.{cases_eq, cases_Bool}
use Rattle.vub_device.specs.Past.{is_among}
use Rattle.vub_device.specs.Places.{are_distinct}
use Rattle.vub_device.proofs.Numbers.{is_among_append}
use Rattle.vub_facts.specs.Facts.{without}
use Rattle.vub_facts.proofs.HeadLemmas.{among_get, distinct_without, without_both, remove_is_without}
use Rattle.std.proofs.lemmas.List.Elements.{filter_agree}

-- ---- elements by index

pub slice_get-set_same : {X : Type 0} (xs : List X) (i : ℕ) (x : X) → i < length xs → slice_get (set xs i x) i ≡ Some x
slice_get-set_same [] i x l = absurd (omega arith)
slice_get-set_same (y ∷ xs) zero x l = refl
slice_get-set_same (y ∷ xs) (suc i) x l = slice_get-set_same xs i x (omega arith)

pub slice_get-set_other : {X : Type 0} (xs : List X) (i j : ℕ) (x : X) → j ≢ i → slice_get (set xs i x) j ≡ slice_get xs j
slice_get-set_other [] i j x apart = refl
slice_get-set_other (y ∷ xs) zero zero x apart = absurd (apart refl)
slice_get-set_other (y ∷ xs) zero (suc j) x apart = refl
slice_get-set_other (y ∷ xs) (suc i) zero x apart = refl
slice_get-set_other (y ∷ xs) (suc i) (suc j) x apart = slice_get-set_other xs i j x (λ same. apart (ap suc same))

pub slice_get-remove_below : {X : Type 0} (xs : List X) (i j : ℕ) → j < i → slice_get (remove xs i) j ≡ slice_get xs j
slice_get-remove_below [] zero j l = absurd (omega arith)
slice_get-remove_below [] (suc i) j l = refl
slice_get-remove_below (x ∷ xs) zero j l = absurd (omega arith)
slice_get-remove_below (x ∷ xs) (suc i) zero l = refl
slice_get-remove_below (x ∷ xs) (suc i) (suc j) l = slice_get-remove_below xs i j (omega arith)

pub slice_get-remove_above : {X : Type 0} (xs : List X) (i j : ℕ) → i ≤ j → i < length xs → slice_get (remove xs i) j ≡ slice_get xs (suc j)
slice_get-remove_above [] i j l within = absurd (omega arith)
slice_get-remove_above (x ∷ xs) zero j l within = refl
slice_get-remove_above (x ∷ xs) (suc i) zero l within = absurd (omega arith)
slice_get-remove_above (x ∷ xs) (suc i) (suc j) l within = slice_get-remove_above xs i j (omega arith) (omega arith)

-- ---- distinct numbers

-- a number stands in one place
pub one_place : (xs : List ℕ) (i j k : ℕ) → are_distinct xs ≡ true → slice_get xs i ≡ Some k → slice_get xs j ≡ Some k → i ≡ j
one_place [] i j k d at_i at_j = absurd (cc)
one_place (x ∷ xs) zero zero k d at_i at_j = refl
one_place (x ∷ xs) zero (suc j) k d at_i at_j =
    let same : x ≡ k = cc in
    let held : is_among xs x ≡ true = ap (is_among xs) same ∙ among_get xs j k at_j in
    let new : is_among xs x ≡ false = grind (arith, nat_tests) in
    cc
one_place (x ∷ xs) (suc i) zero k d at_i at_j =
    let same : x ≡ k = cc in
    let held : is_among xs x ≡ true = ap (is_among xs) same ∙ among_get xs i k at_i in
    let new : is_among xs x ≡ false = grind (arith, nat_tests) in
    cc
one_place (x ∷ xs) (suc i) (suc j) k d at_i at_j = ap suc (one_place xs i j k (grind (arith, nat_tests)) at_i at_j)

-- ---- one number less

one_or_none : (b : Bool) (k j : ℕ) → (b || is_among (k ∷ []) j) ≡ (b || (k == j))
one_or_none b k j = grind (arith, nat_tests)

among_both : (xs ys : List ℕ) (k j : ℕ) → is_among ((xs ++ k ∷ []) ++ ys) j ≡ (is_among (xs ++ ys) j || (k == j))
among_both xs ys k j =
    let left : is_among ((xs ++ k ∷ []) ++ ys) j ≡ (is_among (xs ++ k ∷ []) j || is_among ys j) = is_among_append (xs ++ k ∷ []) ys j in
    let inner : is_among (xs ++ k ∷ []) j ≡ (is_among xs j || is_among (k ∷ []) j) = is_among_append xs (k ∷ []) j in
    let right : is_among (xs ++ ys) j ≡ (is_among xs j || is_among ys j) = is_among_append xs ys j in
    grind (arith, nat_tests)

-- one more is left out
pub one_less : (xs ys zs : List ℕ) (i k : ℕ) → are_distinct zs ≡ true → slice_get (without (xs ++ ys) zs) i ≡ Some k → without ((xs ++ k ∷ []) ++ ys) zs ≡ remove (without (xs ++ ys) zs) i
one_less xs ys zs i k d at =
    filter_agree (λ j. not (is_among ((xs ++ k ∷ []) ++ ys) j)) (λ j. not (is_among ((xs ++ ys) ++ k ∷ []) j)) (λ j. ap not (among_both xs ys k j ∙ sym (is_among_append (xs ++ ys) (k ∷ []) j ∙ one_or_none (is_among (xs ++ ys) j) k j))) zs
    ∙ sym (without_both (xs ++ ys) (k ∷ []) zs)
    ∙ sym (remove_is_without (without (xs ++ ys) zs) i k (distinct_without (xs ++ ys) zs d) at)

-- a member that passes is kept
pub among_kept : (test : ℕ → Bool) (xs : List ℕ) (k : ℕ) → is_among xs k ≡ true → test k ≡ true → is_among (filter test xs) k ≡ true
among_kept test [] k held holds = held
among_kept test (x ∷ xs) k held holds = elim (cases_eq x k) [
  | inl same ↦ let here : test x ≡ true = ap test same ∙ holds in grind (arith, nat_tests)
  | inr apart ↦
      let rest : is_among (filter test xs) k ≡ true = among_kept test xs k (grind (arith, nat_tests)) holds in
      elim (cases_Bool (test x)) [
        | inl here ↦ grind (arith, nat_tests)
        | inr out ↦ grind (arith, nat_tests)
      ]
]
