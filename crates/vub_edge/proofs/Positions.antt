-- The first element that passes, in a list with one more.
use Rattle.std.proofs.Common.{◌≡◌, ◌<◌, Bool, true, List, [], ◌∷◌, ◌++◌, length, IsSome, arith}
use Rattle.std.proofs.lemmas.Grind.{common_steps}
use Rattle.std.proofs.lemmas.Bool.Decides.{nat_tests}
use Rattle.std.specs.List.{position, position_or_len}

within : {X : Type 0} (p : X → Bool) (xs : List X) (x : X) → p x ≡ true → position_or_len p (xs ++ x ∷ []) < length (xs ++ x ∷ [])
within p [] x passes = grind (arith, common_steps)
within p (y ∷ ys) x passes =
    let rest = within p ys x passes in
    grind (arith, common_steps)

pub position-push : {X : Type 0} (p : X → Bool) (xs : List X) (x : X) → p x ≡ true → IsSome (position p (xs ++ x ∷ []))
position-push p xs x passes =
    let there = within p xs x passes in
    grind (arith, nat_tests, common_steps)
