-- What the statuses of the program say.
use Rattle.std.specs.Prelude.{◌≡◌, ℕ, List, Option, ◌⊎◌}
use Rattle.vublk.specs.Flows.{Wrote, WrotePart}
use Rattle.vublk.specs.Words.{usage_text}

-- this status, if no memory was wanting and neither the source nor the sink failed
abbrev pub IsUnlessFault : ℕ → ℕ → Type 0
IsUnlessFault wanted status = (status ≡ wanted) ⊎ (status ≡ 3) ⊎ (status ≡ 4) ⊎ (status ≡ 5)

-- the usage line was written, or a front of it
abbrev pub Refuses : ℕ → Option (List ℕ) → Option (List ℕ) → Type 0
Refuses status old new = ((status ≡ 2) × Wrote old new usage_text) ⊎ ((status ≡ 5) × WrotePart old new usage_text)
