-- The counter after the greatest one of a list.
use Rattle.std.proofs.Common.{◌≡◌, ◌<◌, ◌≤◌, ℕ, zero, suc, ◌+◌, max, Bool, true, false, List, [], ◌∷◌, length, drop, refl, ap, sym, ◌∙◌, arith}
use Rattle.std.specs.Prelude.{nat_lt, if◌then◌else◌, slice_index_or}
use Rattle.std.proofs.lemmas.Bool.Decides.{nat_tests}
use Rattle.vub_base.specs.declared.pending.Pending.{Pending}
use Rattle.vub_inflight.specs.Entries.{next_counter}

pub next_is_max : (x : Pending) (xs : List Pending) → next_counter (x ∷ xs) ≡ max (x.counter + 1) (next_counter xs)
next_is_max x xs = go (nat_lt (next_counter xs) (x.counter + 1)) refl
  where
    go : (b : Bool) → nat_lt (next_counter xs) (x.counter + 1) ≡ b → (if b then x.counter + 1 else next_counter xs) ≡ max (x.counter + 1) (next_counter xs)
    go true low = let below : next_counter xs < x.counter + 1 = grind (arith, nat_tests, low) in omega (arith, below)
    go false low = let past : x.counter + 1 ≤ next_counter xs = grind (arith, nat_tests, low) in omega (arith, past)

-- one place on
pub next_drop : (xs : List Pending) (i : ℕ) (d : Pending) → i < length xs → next_counter (drop i xs) ≡ max ((slice_index_or xs i d).counter + 1) (next_counter (drop (i + 1) xs))
next_drop [] i d below = absurd (omega (arith, below))
next_drop (x ∷ xs) zero d below = next_is_max x xs
next_drop (x ∷ xs) (suc i) d below =
    let on : suc i + 1 ≡ suc (i + 1) = omega arith in
    next_drop xs i d (omega (arith, below)) ∙ ap (λ (k : ℕ). max ((slice_index_or xs i d).counter + 1) (next_counter (drop k (x ∷ xs)))) (sym on)
