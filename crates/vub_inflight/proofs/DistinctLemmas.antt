-- Distinct numbers below n.
use Rattle.std.proofs.Common.{◌≡◌, ◌≤◌, ◌<◌, ℕ, true, false, List, [], ◌∷◌, ◌++◌, length, refl, sym, ◌∙◌, inl, inr, arith}
use Rattle.std.specs.Prelude.{◌||◌, ◌==◌}
use Rattle.std.specs.List.{list_any, AllByRecursion, IsDistinct as IsDistinctBy}
use Rattle.std.proofs.lemmas.Bool.{cases_Bool}
use Rattle.std.proofs.lemmas.Bool.Decides.{nat_tests}
use Rattle.std.proofs.lemmas.List.{length-append}
use Rattle.std.proofs.lemmas.Map.Steps.{length-le_from_distinct_below}
use Rattle.vub_device.specs.Past.{is_among}
use Rattle.vub_device.specs.Places.{are_distinct}
use Rattle.vub_device.proofs.Numbers.{is_among_append}

pub distinct_push : (xs : List ℕ) (x : ℕ) → are_distinct xs ≡ true → is_among xs x ≡ false → are_distinct (xs ++ x ∷ []) ≡ true
distinct_push [] x d out = grind (arith, nat_tests)
distinct_push (y ∷ xs) x d out =
    let joined : is_among (xs ++ x ∷ []) y ≡ (is_among xs y || is_among (x ∷ []) y) = is_among_append xs (x ∷ []) y in
    let rest : are_distinct xs ≡ true → is_among xs x ≡ false → are_distinct (xs ++ x ∷ []) ≡ true = distinct_push xs x in
    grind (arith, nat_tests)

all_apart : (x : ℕ) (xs : List ℕ) → is_among xs x ≡ false → AllByRecursion (λ y. (x == y) ≡ false) xs
all_apart x [] out = tt
all_apart x (y ∷ xs) out = (grind (arith, nat_tests), all_apart x xs (grind (arith, nat_tests)))

distinct_by : (xs : List ℕ) → are_distinct xs ≡ true → IsDistinctBy ◌==◌ xs
unfolding IsDistinctBy
distinct_by [] d = tt
distinct_by (x ∷ xs) d = (all_apart x xs (grind (arith, nat_tests)), distinct_by xs (grind (arith, nat_tests)))

flipped : (q : ℕ) (xs : List ℕ) → list_any (λ y. q == y) xs ≡ is_among xs q
flipped q [] = refl
flipped q (x ∷ xs) = let rest : list_any (λ y. q == y) xs ≡ is_among xs q = flipped q xs in grind (arith, nat_tests)

-- distinct numbers below n are at most n
pub few_below : (xs : List ℕ) (n : ℕ) → are_distinct xs ≡ true → ((k : ℕ) → is_among xs k ≡ true → k < n) → length xs ≤ n
few_below xs n d below = length-le_from_distinct_below xs n (distinct_by xs d) (λ q h. below q (sym (flipped q xs) ∙ h))

-- each is one of those below n where they are as many
pub all_below : (xs : List ℕ) (n x : ℕ) → are_distinct xs ≡ true → AllByRecursion (λ (k : ℕ). k < n) xs → length xs ≡ n → x < n → is_among xs x ≡ true
all_below xs n x d below many low = elim (cases_Bool (is_among xs x)) [
  | inl there ↦ there
  | inr out ↦
      let joined : (k : ℕ) → is_among (xs ++ x ∷ []) k ≡ (is_among xs k || is_among (x ∷ []) k) = is_among_append xs (x ∷ []) in
      let few : length (xs ++ x ∷ []) ≤ n = few_below (xs ++ x ∷ []) n (distinct_push xs x d out) (λ k held. elim (cases_Bool (is_among xs k)) [
        | inl old ↦ among_below xs k below old
        | inr new ↦ let here : (x == k) ≡ true = let at_k = joined k in grind (arith, nat_tests) in grind (arith, nat_tests)
      ]) in
      absurd (omega (arith, few, many, length-append xs (x ∷ [])))
]
  where
    among_below : (ys : List ℕ) (k : ℕ) → AllByRecursion (λ (j : ℕ). j < n) ys → is_among ys k ≡ true → k < n
    among_below [] k b held = absurd (let fails : false ≡ true = held in cc)
    among_below (y ∷ ys) k b held =
        let first : y < n = b.0 in
        let rest : is_among ys k ≡ true → k < n = among_below ys k b.1 in
        grind (arith, nat_tests)
