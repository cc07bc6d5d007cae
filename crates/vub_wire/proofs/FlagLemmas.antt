-- A bit of a number, tested by a mask and by a quotient.
use Rattle.std.proofs.Common.{◌≡◌, ℕ, zero, suc, ◌*◌, ◌/◌, ◌%◌, ◌<◌, arith}
use Rattle.std.specs.Prelude.{◌==◌}
use Rattle.std.specs.Int.RustNames.{bit_and}
use Rattle.std.proofs.lemmas.Bool.Decides.{nat_tests}
use Rattle.std.proofs.lemmas.Nat.Bits.{and_high}

scaled : (x k : ℕ) → 0 < k → x < 2 → (x * k == k) ≡ (x == 1)
scaled zero k some few = grind (arith, nat_tests)
scaled (suc zero) k some few = grind (arith, nat_tests)
scaled (suc (suc x)) k some few = absurd (omega arith)

pub reply_bit : (n : ℕ) → (bit_and n 4 == 4) ≡ (n / 4 % 2 == 1)
reply_bit n = let high : bit_and n 4 ≡ (n / 4 % 2) * 4 = and_high n 1 2 in rw high (scaled (n / 4 % 2) 4 (omega arith) (omega arith))

pub need_reply_bit : (n : ℕ) → (bit_and n 8 == 8) ≡ (n / 8 % 2 == 1)
need_reply_bit n = let high : bit_and n 8 ≡ (n / 8 % 2) * 8 = and_high n 1 3 in rw high (scaled (n / 8 % 2) 8 (omega arith) (omega arith))
