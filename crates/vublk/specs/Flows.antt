-- What a command takes from its source and adds to its sink, where they tell it.
use Rattle.std.specs.Prelude.{◌≡◌, ℕ, ◌<◌, ◌≤◌, List, [], ◌++◌, length, take, Option, Some, None, IfSome}

-- the most bytes that an input may have
abbrev pub input_limit : ℕ
input_limit = 16777216

-- what was left is the bytes and then what is left now
abbrev pub Took : Option (List ℕ) → Option (List ℕ) → List ℕ → Type 0
Took None after bytes = after ≡ None
Took (Some left) after bytes = (rest : List ℕ) × (after ≡ Some rest) × (left ≡ bytes ++ rest)

-- the bytes are all that was left, and nothing is left now
abbrev pub TookAll : Option (List ℕ) → Option (List ℕ) → List ℕ → Type 0
TookAll None after bytes = after ≡ None
TookAll (Some left) after bytes = (left ≡ bytes) × (after ≡ Some [])

-- at most n bytes were taken
abbrev pub TakesAtMost : ℕ → Option (List ℕ) → Option (List ℕ) → Type 0
TakesAtMost n left after = (bytes : List ℕ) × (length bytes ≤ n) × Took left after bytes

-- more was left than an input may have
abbrev pub IsPastLimit : Option (List ℕ) → Type 0
IsPastLimit left = IfSome left (λ bytes. input_limit < length bytes)

-- the sink grew by the text
abbrev pub Wrote : Option (List ℕ) → Option (List ℕ) → List ℕ → Type 0
Wrote None new text = new ≡ None
Wrote (Some held) new text = new ≡ Some (held ++ text)

-- the sink grew by a front of the text
abbrev pub WrotePart : Option (List ℕ) → Option (List ℕ) → List ℕ → Type 0
WrotePart old new text = (k : ℕ) × Wrote old new (take k text)

-- the sink grew by a front of the text, and these bytes, the rest of it, wait
abbrev pub WroteBut : Option (List ℕ) → Option (List ℕ) → List ℕ → List ℕ → Type 0
WroteBut old new waiting text = (sent : List ℕ) × Wrote old new sent × (sent ++ waiting ≡ text)
