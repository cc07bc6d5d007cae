-- The descriptors of a request.
use Rattle.std.specs.Prelude.{◌≡◌, ◌<◌, ℕ, unwrap_or, List, [], ◌∷◌, length, get_or, Option, Some, None}

-- the descriptors of a request: of its header, of its body of data if it has any, and of its status
pub record Links : Type 0 where
  pub head : ℕ
  pub body : Option ℕ
  pub status : ℕ

-- the descriptor after the first
abbrev pub second : Links → ℕ
second l = unwrap_or l.body l.status

-- all of them, in order
abbrev pub after_head : Option ℕ → ℕ → List ℕ
after_head None status = status ∷ []
after_head (Some d) status = d ∷ status ∷ []

abbrev pub descriptors : Links → List ℕ
descriptors l = l.head ∷ after_head l.body l.status

-- the descriptor d of the table belongs to that head
abbrev pub Owns : List (Option ℕ) → ℕ → ℕ → Type 0
Owns owners head d = (d < length owners) × (get_or owners d None ≡ Some head)

-- all of them belong to their head
abbrev pub IsOwned : List (Option ℕ) → Links → Type 0
IsOwned owners l = Owns owners l.head l.head × (Owns owners l.head (second l) × Owns owners l.head l.status)

-- the flag of a descriptor by which another one follows
abbrev pub next_flag : Option ℕ → ℕ
next_flag None = 0
next_flag (Some d) = 1
