-- What a write adds to what a sink holds, where the sink tells it.
use Rattle.std.specs.Prelude.{◌≡◌, ℕ, List, ◌++◌, take, Option, Some, None, Result, Ok, Err}

-- a write that succeeds appends the piece; one that failed appends a front of it
abbrev pub Writes : {T E : Type 0} → Option (List ℕ) → Option (List ℕ) → Result T E → List ℕ → Type 0
Writes None after result piece = after ≡ None
Writes (Some held) after (Ok x) piece = after ≡ Some (held ++ piece)
Writes (Some held) after (Err e) piece = (k : ℕ) × (after ≡ Some (held ++ take k piece))
