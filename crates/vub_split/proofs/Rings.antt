-- Words of a ring in memory, and what is seen of them.
use Rattle.std.proofs.Common.{◌≡◌, ◌≢◌, ◌≤◌, ◌<◌, ℕ, zero, suc, ◌+◌, ◌*◌, ◌%◌, ◌/◌, List, [], ◌∷◌, length, get_or, refl, ap, sym, ◌∙◌, inl, inr, arith}
use Rattle.std.specs.Prelude.{slice_index}
use Rattle.std.specs.Int.{◌∣◌}
use Rattle.std.proofs.lemmas.Bool.{cases_lt}
use Rattle.std.proofs.Math.Nat.{mod-mod_of_dvd, div-add-mod, mul-le-mul_left}
use Rattle.vub_shared.specs.Bytes.{Bytes}
use Rattle.vub_ring.specs.Ring.{Ring, head_at, element_at, heads_from, elements_from}

places_apart : (n a b : ℕ) → 0 < n → a < b → b < a + n → a % n ≢ b % n
places_apart n a b some less near same =
    let at_a : n * (a / n) + a % n ≡ a = div-add-mod a n in
    let at_b : n * (b / n) + b % n ≡ b = div-add-mod b n in
    elim (cases_lt (a / n) (b / n)) [
      | inl up ↦
          let step : n * (a / n + 1) ≤ n * (b / n) = mul-le-mul_left n (let l : a / n + 1 ≤ b / n = omega arith in l) in
          omega (arith, step, at_a, at_b, same)
      | inr down ↦
          let step : n * (b / n) ≤ n * (a / n) = mul-le-mul_left n down in
          omega (arith, step, at_a, at_b, same)
    ]

-- two indexes less than a lap apart have two entries
pub entries_apart : (n a b : ℕ) → 0 < n → n ∣ 65536 → a < b → b < a + n → a % 65536 % n ≢ b % 65536 % n
entries_apart n a b some laps less near same =
    let at_a : a % 65536 % n ≡ a % n = mod-mod_of_dvd n a laps in
    let at_b : b % 65536 % n ≡ b % n = mod-mod_of_dvd n b laps in
    places_apart n a b some less near (sym at_a ∙ same ∙ at_b)

-- a list is what stands in the entries, one by one
pub heads_are : (r : Ring) (m : Bytes) (k d : ℕ) (xs : List ℕ) → length xs ≡ k → ((i : ℕ) → i < k → head_at r m (d + i) ≡ slice_index xs i) → heads_from r m k d ≡ xs
heads_are r m zero d [] long each = refl
heads_are r m zero d (x ∷ xs) long each = absurd (omega arith)
heads_are r m (suc k) d [] long each = absurd (omega arith)
heads_are r m (suc k) d (x ∷ xs) long each =
    let place : d + 0 ≡ d = omega arith in
    let first : head_at r m d ≡ x = ap (head_at r m) (sym place) ∙ each 0 (omega arith) in
    let rest : heads_from r m k (d + 1) ≡ xs = heads_are r m k (d + 1) xs (omega arith) (λ i l.
    let next : d + 1 + i ≡ d + suc i = omega arith in
    ap (head_at r m) next ∙ each (suc i) (omega arith)) in
    cc

pub elements_are : (r : Ring) (m : Bytes) (k d : ℕ) (xs : List (ℕ × ℕ)) → length xs ≡ k → ((i : ℕ) → i < k → element_at r m (d + i) ≡ get_or xs i (0, 0)) → elements_from r m k d ≡ xs
elements_are r m zero d [] long each = refl
elements_are r m zero d (x ∷ xs) long each = absurd (omega arith)
elements_are r m (suc k) d [] long each = absurd (omega arith)
elements_are r m (suc k) d (x ∷ xs) long each =
    let place : d + 0 ≡ d = omega arith in
    let first : element_at r m d ≡ x = ap (element_at r m) (sym place) ∙ each 0 (omega arith) in
    let rest : elements_from r m k (d + 1) ≡ xs = elements_are r m k (d + 1) xs (omega arith) (λ i l.
    let next : d + 1 + i ≡ d + suc i = omega arith in
    ap (element_at r m) next ∙ each (suc i) (omega arith)) in
    cc
