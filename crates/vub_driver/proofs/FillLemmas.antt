-- Lists made of as many for each.
use Rattle.std.proofs.Common.{◌≡◌, ℕ, ◌*◌, List, [], ◌∷◌, length, arith, length-append}
use Rattle.std.proofs.lemmas.List.{length-replicate}
use Rattle.std.specs.List.{flat_map}
use Rattle.std.specs.Prelude.{replicate}

-- as many for each
pub length-each : {X : Type 0} (f : X → List ℕ) (n : ℕ) → ((x : X) → length (f x) ≡ n) → (xs : List X) → length (flat_map f xs) ≡ n * length xs
length-each f n each [] = grind arith
length-each f n each (x ∷ xs) =
    let rest : length (flat_map f xs) ≡ n * length xs = length-each f n each xs in
    let first : length (f x) ≡ n = each x in
    omega (arith, length-append (f x) (flat_map f xs), first, rest)

pub length-fills : (fills : List ℕ) → length (flat_map (λ b. replicate 512 b) fills) ≡ 512 * length fills
length-fills fills = length-each (λ b. replicate 512 b) 512 (λ b. length-replicate 512 b) fills
