-- The memory that a region's bytes are laid into.
use Rattle.std.proofs.Common.{◌≡◌, ℕ, List, ap, ◌∙◌, Some}
use mathlib.Core.Path.{fun_ext}
use Rattle.std.proofs.lemmas.Bool.Decides.{nat_tests}
use Rattle.std.proofs.Common.{arith}
use Rattle.vub_shared.specs.Bytes.{Bytes, put, cleared}
use Rattle.vub_inspect.specs.RegionBytes.{memory_of}

-- a memory of zeros is one still when a space is made
pub zeros : (m : Bytes) → ((s p : ℕ) → m s p ≡ 0) → cleared 0 m ≡ (λ s p. 0)
zeros m zero = fun_ext (λ s. fun_ext (λ p. let none = zero s p in grind (arith, nat_tests)))

-- the bytes are laid into zeros
pub laid : (before now : Bytes) (space : ℕ) (bytes : List ℕ) → before ≡ (λ s p. 0) → space ≡ 0 → Some now ≡ Some (put before space 0 bytes) → now ≡ memory_of bytes
laid before now space bytes zero first stored =
    let same : now ≡ put before space 0 bytes = cc in
    same ∙ ap (λ (m : Bytes). put m space 0 bytes) zero ∙ ap (λ (s : ℕ). put (λ t p. 0) s 0 bytes) first
