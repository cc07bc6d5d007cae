-- Running numbers, slots and wrap counters.
use Rattle.std.proofs.Common.{◌≡◌, ◌≢◌, ◌≤◌, ◌<◌, ℕ, ◌+◌, ◌*◌, ◌%◌, ◌/◌, Bool, true, false, cond, not, refl, ap, sym, ◌∙◌, inl, inr, arith}
use Rattle.std.specs.Prelude.{◌==◌}
use Rattle.std.proofs.lemmas.Bool.Decides.{nat_tests}
use Rattle.std.proofs.lemmas.Bool.{cases_lt, cases_eq}
use Rattle.std.proofs.Math.Nat.{add-mod_right, add-div_right, div-add-mod, mod-lt, mod-eq_of_lt, div-eq_of_lt, mul-le-mul_left}
use Rattle.vub_base.specs.declared.position.Position.{Position}
use Rattle.vub_base.specs.Positions.{avail_bit, same_bool, is_available, is_used, wrap_at, position_of, number_at}
use Rattle.vub_slots.specs.Slots.{IsAvailable, IsUsed, IsOfLap, IsNotOfLap}

-- ---- slots

places_apart : (n a b : ℕ) → 0 < n → a < b → b < a + n → a % n ≢ b % n
places_apart n a b some less near same =
    let at_a : n * (a / n) + a % n ≡ a = div-add-mod a n in
    let at_b : n * (b / n) + b % n ≡ b = div-add-mod b n in
    elim (cases_lt (a / n) (b / n)) [
      | inl up ↦
          let step : n * (a / n + 1) ≤ n * (b / n) = mul-le-mul_left n (let l : a / n + 1 ≤ b / n = omega arith in l) in
          omega (arith, step, at_a, at_b, same)
      | inr down ↦
          let step : n * (b / n) ≤ n * (a / n) = mul-le-mul_left n down in
          omega (arith, step, at_a, at_b, same)
    ]

-- a lap on is the same slot
pub slot_lap : (n p : ℕ) → (p + n) % n ≡ p % n
slot_lap n p = add-mod_right p n

-- and the other wrap
pub wrap_lap : (n p : ℕ) → 0 < n → wrap_at n (p + n) ≡ not (wrap_at n p)
wrap_lap n p some =
    let on : (p + n) / n ≡ p / n + 1 = add-div_right p some in
    let two : (p / n) % 2 < 2 = omega arith in
    rw on (let odd : ((p / n + 1) % 2 + (p / n) % 2) ≡ 1 = omega arith in grind (arith, nat_tests))

pub slot_lt : (n p : ℕ) → 0 < n → p % n < n
slot_lt n p some = mod-lt p some

-- slots of two numbers less than a lap apart
pub slots_apart : (n p q : ℕ) → 0 < n → p ≢ q → p < q + n → q < p + n → p % n ≢ q % n
slots_apart n p q some apart near far = elim (cases_lt p q) [
  | inl up ↦ places_apart n p q some up far
  | inr down ↦ (let other : q % n ≢ p % n = places_apart n q p some (omega arith) near in λ e. other (sym e))
]

-- ---- positions

-- the least number at a position has that position
pub position_of-number_at : (n : ℕ) (at : Position) → at.index < n → position_of n (number_at n at) ≡ at
position_of-number_at n at below =
    let make : ℕ → Bool → Position = λ i w. record { index = i; wrap = w } in
    let none : at.index / n ≡ 0 = div-eq_of_lt below in
    let i : at.index % n ≡ at.index = mod-eq_of_lt below in
    let go : (b : Bool) → position_of n (cond b at.index (n + at.index)) ≡ make at.index b = elim [
      | true ↦
          let w : wrap_at n at.index ≡ true = ap (λ (x : ℕ). x % 2 == 0) none in
          ap (λ j. make j (wrap_at n at.index)) i ∙ ap (make at.index) w
      | false ↦
          let turn : n + at.index ≡ at.index + n = omega arith in
          let j : (n + at.index) % n ≡ at.index = ap (λ (x : ℕ). x % n) turn ∙ add-mod_right at.index n ∙ i in
          let one : (n + at.index) / n ≡ 1 = ap (λ (x : ℕ). x / n) turn ∙ add-div_right at.index (let some : 0 < n = omega arith in some) ∙ ap (λ (x : ℕ). x + 1) none in
          let w : wrap_at n (n + at.index) ≡ false = ap (λ (x : ℕ). x % 2 == 0) one in
          ap (λ k. make k (wrap_at n (n + at.index))) j ∙ ap (make at.index) w
    ] in
    go at.wrap

-- numbers up to a lap apart have different positions
pub positions_apart : (n p by : ℕ) → 0 < n → 0 < by → by ≤ n → position_of n (p + by) ≢ position_of n p
positions_apart n p by some on few same =
    let index : (p + by) % n ≡ p % n = ap (λ (x : Position). x.index) same in
    let wrap : wrap_at n (p + by) ≡ wrap_at n p = ap (λ (x : Position). x.wrap) same in
    elim (cases_eq by n) [
      | inl lap ↦
          let other : wrap_at n (p + by) ≡ not (wrap_at n p) = ap (λ (x : ℕ). wrap_at n (p + x)) lap ∙ wrap_lap n p some in
          never (wrap_at n p) (sym other ∙ wrap)
      | inr short ↦ slots_apart n (p + by) p some (omega arith) (omega arith) (omega (arith, short, few)) index
    ]
  where
    never : (b : Bool) → not b ≡ b → ⊥
    never true e = cc
    never false e = cc

-- two laps on is the same position
pub two_laps : (n p : ℕ) → 0 < n → position_of n (p + (n + n)) ≡ position_of n p
two_laps n p some =
    let make : ℕ → Bool → Position = λ i w. record { index = i; wrap = w } in
    let turn : p + (n + n) ≡ p + n + n = omega arith in
    let i : (p + n + n) % n ≡ p % n = slot_lap n (p + n) ∙ slot_lap n p in
    let w : wrap_at n (p + n + n) ≡ wrap_at n p = wrap_lap n (p + n) some ∙ ap not (wrap_lap n p some) ∙ twice (wrap_at n p) in
    ap (λ (q : ℕ). position_of n q) turn ∙ ap (λ j. make j (wrap_at n (p + n + n))) i ∙ ap (make (p % n)) w
  where
    twice : (b : Bool) → not (not b) ≡ b
    twice true = refl
    twice false = refl

-- ---- the flags of a slot in this lap, the lap before and the next one

pub other_lap : (n : ℕ) (flags : ℕ → ℕ) (p : ℕ) → 0 < n → IsOfLap n flags p → IsNotOfLap n flags (p + n)
other_lap n flags p some h =
    let s : (p + n) % n ≡ p % n = slot_lap n p in
    let w : wrap_at n (p + n) ≡ not (wrap_at n p) = wrap_lap n p some in
    let f : avail_bit (flags ((p + n) % n)) ≡ avail_bit (flags (p % n)) = ap (λ (i : ℕ). avail_bit (flags i)) s in
    let go : (b c d e : Bool) → c ≡ b → e ≡ not d → same_bool b d ≡ true → same_bool c e ≡ false = elim [
      | true ↦ λ c. elim [ true ↦ λ e u v x. rw (u, v) refl | false ↦ λ e u v x. absurd (let no : false ≡ true = x in cc) ]
      | false ↦ λ c. elim [ true ↦ λ e u v x. absurd (let no : false ≡ true = x in cc) | false ↦ λ e u v x. rw (u, v) refl ]
    ] in
    go (avail_bit (flags (p % n))) (avail_bit (flags ((p + n) % n))) (wrap_at n p) (wrap_at n (p + n)) f w h

pub available_of_lap : (n : ℕ) (flags : ℕ → ℕ) (p : ℕ) → IsAvailable n flags p → IsOfLap n flags p
available_of_lap n flags p h = grind (arith, nat_tests)

pub used_of_lap : (n : ℕ) (flags : ℕ → ℕ) (p : ℕ) → IsUsed n flags p → IsOfLap n flags p
used_of_lap n flags p h = grind (arith, nat_tests)

pub available_not_used : (n : ℕ) (flags : ℕ → ℕ) (p : ℕ) → IsAvailable n flags p → is_used (flags (p % n)) (wrap_at n p) ≡ false
available_not_used n flags p h = grind (arith, nat_tests)

pub used_not_available : (n : ℕ) (flags : ℕ → ℕ) (p : ℕ) → IsUsed n flags p → is_available (flags (p % n)) (wrap_at n p) ≡ false
used_not_available n flags p h = grind (arith, nat_tests)

pub old_not_used : (n : ℕ) (flags : ℕ → ℕ) (p : ℕ) → IsNotOfLap n flags p → is_used (flags (p % n)) (wrap_at n p) ≡ false
old_not_used n flags p h = grind (arith, nat_tests)

pub old_not_available : (n : ℕ) (flags : ℕ → ℕ) (p : ℕ) → IsNotOfLap n flags p → is_available (flags (p % n)) (wrap_at n p) ≡ false
old_not_available n flags p h = grind (arith, nat_tests)

-- what is is_available for the next lap isn't for this one
pub next_not_available : (n : ℕ) (flags : ℕ → ℕ) (p : ℕ) → 0 < n → IsOfLap n flags (p + n) → is_available (flags (p % n)) (wrap_at n p) ≡ false
next_not_available n flags p some h =
    let s : (p + n) % n ≡ p % n = slot_lap n p in
    let w : wrap_at n (p + n) ≡ not (wrap_at n p) = wrap_lap n p some in
    let f : avail_bit (flags ((p + n) % n)) ≡ avail_bit (flags (p % n)) = ap (λ (i : ℕ). avail_bit (flags i)) s in
    let go : (b c d e : Bool) → c ≡ b → e ≡ not d → same_bool c e ≡ true → same_bool b d ≡ false = elim [
      | true ↦ λ c. elim [ true ↦ λ e u v x. absurd (let y : same_bool true false ≡ true = rw (u, v) at x in let no : false ≡ true = y in cc) | false ↦ λ e u v x. refl ]
      | false ↦ λ c. elim [ true ↦ λ e u v x. refl | false ↦ λ e u v x. absurd (let y : same_bool false true ≡ true = rw (u, v) at x in let no : false ≡ true = y in cc) ]
    ] in
    let old : same_bool (avail_bit (flags (p % n))) (wrap_at n p) ≡ false = go (avail_bit (flags (p % n))) (avail_bit (flags ((p + n) % n))) (wrap_at n p) (wrap_at n (p + n)) f w h in
    grind (arith, nat_tests)
