-- A disk without sectors.
use Rattle.std.specs.Prelude.{◌≡◌, ◌<◌, ℕ, List, length}
use Rattle.std.proofs.Common.{arith}

pub no_sector : (s : ℕ) → s < 0 → (bytes : List ℕ) → length bytes ≡ 512
no_sector s below bytes = absurd (omega arith)
