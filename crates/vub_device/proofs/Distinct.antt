-- Lists of distinct numbers.
use Rattle.std.proofs.Common.{◌≡◌, ◌≢◌, ℕ, zero, suc, ◌<◌, ◌==◌, true, false, List, [], ◌∷◌, length, get_or, refl, sym, arith}
use Rattle.std.proofs.lemmas.Bool.Decides.{nat_tests}
use Rattle.std.proofs.lemmas.Grind.{common_steps}
use Rattle.std.proofs.lemmas.List.Folds.{list_any_at, list_any_none}
use Rattle.vub_device.specs.Past.{IsDistinct, is_among}
use Rattle.vub_device.specs.Places.{are_distinct}

pub among_at : (xs : List ℕ) (i d x : ℕ) → i < length xs → get_or xs i d ≡ x → is_among xs x ≡ true
among_at xs i d x lt is = list_any_at (λ y. y == x) xs i d lt (grind (arith, nat_tests))

-- one more number in front
pub distinct_more : (x : ℕ) (xs : List ℕ) → is_among xs x ≡ false → IsDistinct xs → IsDistinct (x ∷ xs)
distinct_more x xs new p zero zero d lt below same = omega arith
distinct_more x xs new p zero (suc j) d lt below same =
    let found : is_among xs x ≡ true = among_at xs j d x (omega arith) (sym same) in cc
distinct_more x xs new p (suc i) zero d lt below same = omega arith
distinct_more x xs new p (suc i) (suc j) d lt below same = p i j d (omega arith) (omega arith) same

pub rest_distinct : (x : ℕ) (xs : List ℕ) → IsDistinct (x ∷ xs) → IsDistinct xs
rest_distinct x xs p i j d lt below same = p (suc i) (suc j) d (omega arith) (omega arith) same

pub first_missing : (x : ℕ) (xs : List ℕ) → IsDistinct (x ∷ xs) → is_among xs x ≡ false
first_missing x xs p = list_any_none (λ y. y == x) xs (λ i d lt. let differs : x ≢ get_or xs i d = p zero (suc i) d (omega arith) (omega arith) in grind (arith, nat_tests))

-- the test of the definition's words
pub distinct_from_test : (xs : List ℕ) → are_distinct xs ≡ true → IsDistinct xs
distinct_from_test [] is = λ i j d lt below same. absurd (omega arith)
distinct_from_test (x ∷ xs) is =
    let new : is_among xs x ≡ false = grind (arith, common_steps) in
    let rest : are_distinct xs ≡ true = grind (arith, common_steps) in
    distinct_more x xs new (distinct_from_test xs rest)

pub test_from_distinct : (xs : List ℕ) → IsDistinct xs → are_distinct xs ≡ true
test_from_distinct [] p = refl
test_from_distinct (x ∷ xs) p =
    let new : is_among xs x ≡ false = first_missing x xs p in
    let rest : are_distinct xs ≡ true = test_from_distinct xs (rest_distinct x xs p) in
    grind (arith, common_steps)
