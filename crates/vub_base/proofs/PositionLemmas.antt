-- Tests of one bit of a slot's flags, and a position that moves on.
use Rattle.std.proofs.Common.{◌≡◌, ◌≤◌, ◌<◌, ℕ, ◌+◌, ◌*◌, ◌-◌, ◌%◌, ◌/◌, Bool, true, false, cond, not, refl, ap, sym, ◌∙◌, arith}
use Rattle.std.specs.Prelude.{◌==◌, nat_lt, bit_and}
use Rattle.std.specs.Int.{bit_at}
use Rattle.std.proofs.lemmas.Bool.Decides.{nat_tests}
use Rattle.std.proofs.lemmas.Nat.Bits.{and_pow, bit_at-lt}
use Rattle.std.proofs.Math.Nat.{add-mod_right, add-div_right, div-add-mod, mod-lt, mod-eq_of_lt, mul-add-mod_self_left, mul-add-div, div-eq_of_lt}
use Rattle.vub_base.specs.declared.position.Position.{Position}
use Rattle.vub_base.specs.Positions.{avail_bit, used_bit, wrap_at, position_of, advanced}

-- ---- flags

pub avail_is : (flags : ℕ) → not (bit_and flags 128 == 0) ≡ avail_bit flags
avail_is flags = let e : bit_and flags 128 ≡ bit_at flags 7 * 128 = and_pow flags 7 in let l : bit_at flags 7 < 2 = bit_at-lt flags 7 in grind (arith, nat_tests)

pub used_is : (flags : ℕ) → not (bit_and flags 32768 == 0) ≡ used_bit flags
used_is flags = let e : bit_and flags 32768 ≡ bit_at flags 15 * 32768 = and_pow flags 15 in let l : bit_at flags 15 < 2 = bit_at-lt flags 15 in grind (arith, nat_tests)

-- ---- positions

-- the position of a number moved on is that of the number moved on
pub advanced_at : (n p by : ℕ) → 0 < n → by ≤ n → advanced n (position_of n p) by ≡ position_of n (p + by)
advanced_at n p by some few =
    let parts : n * (p / n) + p % n ≡ p = div-add-mod p n in
    let below : p % n < n = mod-lt p some in
    let sum : p + by ≡ n * (p / n) + (p % n + by) = omega arith in
    let rest : (p + by) % n ≡ (p % n + by) % n = ap (λ (x : ℕ). x % n) sum ∙ mul-add-mod_self_left n (p / n) (p % n + by) in
    let laps : (p + by) / n ≡ p / n + (p % n + by) / n = ap (λ (x : ℕ). x / n) sum ∙ mul-add-div some (p / n) (p % n + by) in
    let make : ℕ → Bool → Position = λ i w. record { index = i; wrap = w } in
    let go : (t : Bool) → nat_lt (p % n + by) n ≡ t → cond t (make (p % n + by) (wrap_at n p)) (make (p % n + by - n) (not (wrap_at n p))) ≡ make ((p + by) % n) (wrap_at n (p + by)) = elim [
      | true ↦ λ e.
          let less : p % n + by < n = grind (arith, nat_tests) in
          let i : (p + by) % n ≡ p % n + by = rest ∙ mod-eq_of_lt less in
          let none : (p % n + by) / n ≡ 0 = div-eq_of_lt less in
          let k : (p + by) / n ≡ p / n = omega arith in
          let w : wrap_at n (p + by) ≡ wrap_at n p = ap (λ (x : ℕ). x % 2 == 0) k in
          sym (ap (λ j. make j (wrap_at n (p + by))) i ∙ ap (make (p % n + by)) w)
      | false ↦ λ e.
          let past : n ≤ p % n + by = grind (arith, nat_tests) in
          let less : p % n + by - n < n = omega arith in
          let split : p % n + by ≡ (p % n + by - n) + n = omega arith in
          let i : (p + by) % n ≡ p % n + by - n = rest ∙ ap (λ (x : ℕ). x % n) split ∙ add-mod_right (p % n + by - n) n ∙ mod-eq_of_lt less in
          let one : (p % n + by) / n ≡ (p % n + by - n) / n + 1 = ap (λ (x : ℕ). x / n) split ∙ add-div_right (p % n + by - n) some in
          let none : (p % n + by - n) / n ≡ 0 = div-eq_of_lt less in
          let k : (p + by) / n ≡ p / n + 1 = omega arith in
          let two : (p / n) % 2 < 2 = omega arith in
          let w : wrap_at n (p + by) ≡ not (wrap_at n p) = rw k (let odd : ((p / n + 1) % 2 + (p / n) % 2) ≡ 1 = omega arith in grind (arith, nat_tests)) in
          sym (ap (λ j. make j (wrap_at n (p + by))) i ∙ ap (make (p % n + by - n)) w)
    ] in
    go (nat_lt (p % n + by) n) refl

-- by whether it stays in its lap
pub moved_within : (n by p : ℕ) (at : Position) → at.index + by < n → by ≤ n → at ≡ position_of n p → record { index = at.index + by; wrap = at.wrap } ≡ position_of n (p + by)
moved_within n by p at less few is =
    let here : advanced n at by ≡ record { index = at.index + by; wrap = at.wrap } = (let e : nat_lt (at.index + by) n ≡ true = grind (arith, nat_tests) in rw e refl) in
    sym here ∙ ap (λ (x : Position). advanced n x by) is ∙ advanced_at n p by (omega arith) few

pub moved_past : (n by p : ℕ) (at : Position) → n ≤ at.index + by → 0 < n → by ≤ n → at ≡ position_of n p → record { index = at.index + by - n; wrap = not at.wrap } ≡ position_of n (p + by)
moved_past n by p at more some few is =
    let here : advanced n at by ≡ record { index = at.index + by - n; wrap = not at.wrap } = (let e : nat_lt (at.index + by) n ≡ false = grind (arith, nat_tests) in rw e refl) in
    sym here ∙ ap (λ (x : Position). advanced n x by) is ∙ advanced_at n p by some few
