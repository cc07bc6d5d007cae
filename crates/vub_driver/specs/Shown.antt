-- What the driver finds in the used ring.
use Rattle.std.specs.Prelude.{◌≡◌, ◌≢◌, ℕ, ◌%◌, Option, Some, None}
use Rattle.vub_shared.specs.Bytes.{Bytes}
use Rattle.vub_ring.specs.Ring.{Ring, used_idx, element_at}

-- the head that the used ring in memory m shows at position p; none where used.idx is there
abbrev pub ShowsNext : Option ℕ → Ring → Bytes → ℕ → Type 0
ShowsNext None r m p = used_idx r m ≡ p
ShowsNext (Some head) r m p = (used_idx r m ≢ p) × (head ≡ (element_at r m p).0 % 65536)
