-- The heads of a batch, and its first ones.
use Rattle.std.proofs.Common.{◌≡◌, ◌<◌, ℕ, zero, suc, ◌+◌, ◌-◌, true, false, List, [], ◌∷◌, ◌++◌, length, take, get_or, reverse, refl, ap, sym, ◌∙◌, inl, inr, arith}
use Rattle.std.specs.Prelude.{◌||◌, ◌==◌}
use Rattle.std.specs.List.{AllByRecursion}
use Rattle.std.proofs.lemmas.Bool.Decides.{nat_tests}
use Rattle.std.proofs.lemmas.Bool.{cases_eq}
use Rattle.std.proofs.lemmas.List.{take_more, reverse-append, get_or-reverse, length-reverse}
use Rattle.vub_device.specs.Past.{is_among, IsDistinct}
use Rattle.vub_device.specs.Places.{are_distinct}
use Rattle.vub_device.proofs.Numbers.{is_among_append}
use Rattle.vub_device.proofs.Distinct.{among_at, distinct_from_test, test_from_distinct}

-- ---- each

pub among_get_or : (xs : List ℕ) (k : ℕ) → k < length xs → is_among xs (get_or xs k 0) ≡ true
among_get_or xs k low = among_at xs k 0 (get_or xs k 0) low refl

pub below_among : (n : ℕ) (xs : List ℕ) (x : ℕ) → AllByRecursion (λ (y : ℕ). y < n) xs → is_among xs x ≡ true → x < n
below_among n [] x below held = absurd (let fails : false ≡ true = held in cc)
below_among n (y ∷ xs) x below held = elim (cases_eq y x) [
  | inl same ↦ let low : y < n = below.0 in omega (arith, low, same)
  | inr apart ↦ below_among n xs x below.1 (grind (arith, nat_tests))
]

pub all_below : (n : ℕ) (xs : List ℕ) → ((x : ℕ) → is_among xs x ≡ true → x < n) → AllByRecursion (λ (x : ℕ). x < n) xs
all_below n [] below = tt
all_below n (x ∷ xs) below = (below x (grind (arith, nat_tests)), all_below n xs (λ y held. below y (grind (arith, nat_tests))))

-- ---- turned round

pub among_reverse : (xs : List ℕ) (i : ℕ) → is_among (reverse xs) i ≡ is_among xs i
among_reverse [] i = refl
among_reverse (x ∷ xs) i =
    let rest : is_among (reverse xs) i ≡ is_among xs i = among_reverse xs i in
    let joined : is_among (reverse xs ++ x ∷ []) i ≡ (is_among (reverse xs) i || is_among (x ∷ []) i) = is_among_append (reverse xs) (x ∷ []) i in
    let whole : is_among (reverse (x ∷ xs)) i ≡ is_among (reverse xs ++ x ∷ []) i = ap (λ (ys : List ℕ). is_among ys i) (reverse-append (x ∷ []) xs) in
    grind (arith, nat_tests)

distinct_turned : (xs : List ℕ) → IsDistinct xs → IsDistinct (reverse xs)
distinct_turned xs distinct i j d before low same =
    let long : length (reverse xs) ≡ length xs = length-reverse xs in
    let at_i : get_or (reverse xs) i d ≡ get_or xs (length xs - 1 - i) d = get_or-reverse xs i d (omega (arith, long, before, low)) in
    let at_j : get_or (reverse xs) j d ≡ get_or xs (length xs - 1 - j) d = get_or-reverse xs j d (omega (arith, long, low)) in
    distinct (length xs - 1 - j) (length xs - 1 - i) d (omega (arith, long, before, low)) (omega (arith, long, before, low)) (sym at_j ∙ sym same ∙ at_i)

pub distinct_reverse : (xs : List ℕ) → are_distinct xs ≡ true → are_distinct (reverse xs) ≡ true
distinct_reverse xs distinct = test_from_distinct (reverse xs) (distinct_turned xs (distinct_from_test xs distinct))

-- ---- the first so many

-- one more
pub among_take_more : (xs : List ℕ) (k i : ℕ) → k < length xs → is_among (take (k + 1) xs) i ≡ (is_among (take k xs) i || (get_or xs k 0 == i))
among_take_more xs k i low =
    let whole : is_among (take (k + 1) xs) i ≡ is_among (take k xs ++ get_or xs k 0 ∷ []) i = ap (λ (ys : List ℕ). is_among ys i) (take_more xs k 0 low) in
    let joined : is_among (take k xs ++ get_or xs k 0 ∷ []) i ≡ (is_among (take k xs) i || is_among (get_or xs k 0 ∷ []) i) = is_among_append (take k xs) (get_or xs k 0 ∷ []) i in
    grind (arith, nat_tests)

-- turned round, it comes first
pub reverse_take_more : (xs : List ℕ) (k : ℕ) → k < length xs → reverse (take (k + 1) xs) ≡ get_or xs k 0 ∷ reverse (take k xs)
reverse_take_more xs k low = ap reverse (take_more xs k 0 low) ∙ reverse-append (take k xs) (get_or xs k 0 ∷ [])

-- of distinct ones none is among those before it
pub apart_from_first : (xs : List ℕ) (k : ℕ) → are_distinct xs ≡ true → k < length xs → is_among (take k xs) (get_or xs k 0) ≡ false
apart_from_first [] k distinct low = absurd (omega (arith, low))
apart_from_first (x ∷ xs) zero distinct low = refl
apart_from_first (x ∷ xs) (suc k) distinct low =
    let rest : is_among (take k xs) (get_or xs k 0) ≡ false = apart_from_first xs k (grind (arith, nat_tests)) (omega (arith, low)) in
    let later : is_among xs (get_or xs k 0) ≡ true = among_get_or xs k (omega (arith, low)) in
    elim (cases_eq x (get_or xs k 0)) [
      | inl same ↦ absurd (let there : is_among xs x ≡ true = ap (is_among xs) same ∙ later in let out : is_among xs x ≡ false = grind (arith, nat_tests) in cc)
      | inr apart ↦ grind (arith, nat_tests)
    ]
