-- The laws of shared memory, at spaces that are open files.
use Rattle.std.specs.Prelude.{◌≡◌, ◌<◌, ◌≤◌, ◌^◌, ℕ, zero, suc, false, nat_lt, List, [], ◌∷◌, length, refl}
use Rattle.std.proofs.Common.{lit<, arith}
use Rattle.std.proofs.lemmas.Bool.Decides.{nat_tests}
use Rattle.vub_edge.specs.FileSpaces.{size_at}
use Rattle.vub_edge.specs.declared.file_space.FileSpace.{FileSpace}

-- a size fits its type
pub size_fits : {F : Type 0} (spaces : List (FileSpace F)) (s : ℕ) → size_at spaces s < 2 ^ 64
size_fits [] s = lit< tt
size_fits (x ∷ xs) zero = x.fits
size_fits (x ∷ xs) (suc s) = size_fits xs s

-- a space past the last has no bytes
pub past_empty : {F : Type 0} (spaces : List (FileSpace F)) (s : ℕ) → length spaces ≤ s → size_at spaces s ≡ 0
past_empty [] s past = refl
past_empty (x ∷ xs) zero past = absurd (omega arith)
past_empty (x ∷ xs) (suc s) past = past_empty xs s (omega arith)

pub unhanded_empty : {F : Type 0} (spaces : List (FileSpace F)) (s : ℕ) → nat_lt s (length spaces) ≡ false → size_at spaces s ≡ 0
unhanded_empty spaces s past = past_empty spaces s (grind (arith, nat_tests))
