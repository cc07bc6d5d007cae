-- What a read takes of what a source has left, where the source tells it.
use Rattle.std.specs.Prelude.{◌≡◌, ℕ, ◌<◌, ◌≤◌, List, [], length, take, drop, Option, Some, None, Result, Ok, Err}

-- A read gave n bytes: the first n of what was left. It gave none to a piece with room only where
-- nothing was left.
pub record Gave (left piece : List ℕ) (n : ℕ) : Type 0 where
  pub within : n ≤ length left
  pub given : take n piece ≡ take n left
  pub ends : n ≡ 0 → 0 < length piece → left ≡ []

-- a read that succeeds takes the bytes off what is left; one that failed leaves it
abbrev pub Reads : {E : Type 0} → Option (List ℕ) → Option (List ℕ) → Result ℕ E → List ℕ → Type 0
Reads None after result piece = after ≡ None
Reads (Some left) after (Ok n) piece = Gave left piece n × (after ≡ Some (drop n left))
Reads (Some left) after (Err e) piece = after ≡ Some left
