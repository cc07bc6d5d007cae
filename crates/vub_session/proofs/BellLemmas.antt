-- The bell after a fault of a look-up.
use Rattle.std.proofs.Common.{◌⊎◌, Result, Ok, Err, IsOk, inl, inr}
use Rattle.std.specs.Prelude.{IfErr}

-- what holds wherever a call failed, where it either holds anyway or the call didn't fail
pub holds_at_err : {T E : Type 0} (r : Result T E) (P : Type 0) (Q : E → Type 0) → P ⊎ IsOk r → IfErr r (λ e. Q e → P)
holds_at_err (Ok x) P Q h = tt
holds_at_err (Err e) P Q (inl p) = λ q. p
holds_at_err (Err e) P Q (inr ok) = absurd (cc)
