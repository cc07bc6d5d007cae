-- The laws of shared memory, at spaces that are held in memory.
use Rattle.std.specs.Prelude.{◌≡◌, ◌<◌, ◌≤◌, ◌^◌, ℕ, zero, suc, false, nat_lt, List, [], ◌∷◌, Some, slice_index, length, refl}
use Rattle.std.proofs.Common.{subst, lit<, arith}
use Rattle.std.proofs.lemmas.Nat.{mod_below}
use Rattle.std.proofs.lemmas.Bool.Decides.{nat_tests}
use Rattle.vub_shared.specs.Bytes.{Bytes}
use Rattle.vub_shared.specs.Held.{space_bytes, image, space_size}
use Rattle.vub_shared.specs.declared.held.Held.{Held}

-- what is told are bytes
pub image_fits : (spaces : List Held) (m : Bytes) → Some (image spaces) ≡ Some m → (s p : ℕ) → m s p < 256
image_fits spaces m e s p =
    let same : image spaces ≡ m = cc in
    subst (λ (f : Bytes). f s p < 256) same (mod_below (slice_index (space_bytes spaces s) p) 256 (lit< tt))

-- a size fits its type
pub size_fits : (spaces : List Held) (s : ℕ) → space_size spaces s < 2 ^ 64
size_fits [] s = lit< tt
size_fits (h ∷ hs) zero = omega (arith, h.bytes.ok.0, h.bytes.ok.1, h.bytes.small)
size_fits (h ∷ hs) (suc s) = size_fits hs s

-- a space past the last has no bytes
pub past_empty : (spaces : List Held) (s : ℕ) → length spaces ≤ s → space_size spaces s ≡ 0
past_empty [] s past = refl
past_empty (h ∷ hs) zero past = absurd (omega arith)
past_empty (h ∷ hs) (suc s) past = past_empty hs s (omega arith)

pub unhanded_empty : (spaces : List Held) (s : ℕ) → nat_lt s (length spaces) ≡ false → space_size spaces s ≡ 0
unhanded_empty spaces s past = past_empty spaces s (grind (arith, nat_tests))
