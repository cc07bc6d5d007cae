-- The least number that passes.
use Rattle.std.proofs.Common.{◌≡◌, ℕ, zero, suc, ◌+◌, ◌-◌, ◌<◌, Bool, true, false, Some, None, refl, arith, add-zero, add-suc}
use Rattle.vub_session.specs.Ready.{least}

pub least_next : (p : ℕ → Bool) (n : ℕ) → least p n ≡ None → p n ≡ false → least p (suc n) ≡ None
least_next p n none fails = rw (none, fails) refl

least_here : (p : ℕ → Bool) (n : ℕ) → least p n ≡ None → p n ≡ true → least p (suc n) ≡ Some n
least_here p n none passes = rw (none, passes) refl

kept : (p : ℕ → Bool) (n k : ℕ) → least p n ≡ Some k → (m : ℕ) → least p (n + m) ≡ Some k
kept p n k found zero = simp add-zero found
kept p n k found (suc m) = rw add-suc (rw (kept p n k found m) refl)

-- a number that passes, where none below it does, is the least one below any number above it
pub least_found : (p : ℕ → Bool) (n m : ℕ) → least p n ≡ None → p n ≡ true → n < m → least p m ≡ Some n
least_found p n m none passes below = let e : suc n + (m - suc n) ≡ m = omega arith in rw (← e) (kept p (suc n) n (least_here p n none passes) (m - suc n))
