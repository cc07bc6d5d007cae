-- What the sectors of a disk hold, each a list of 512 bytes.
use Rattle.std.specs.Prelude.{◌≡◌, ◌⊎◌, ℕ, ◌==◌, if◌then◌else◌, List, Option, Result, Ok, Err}
use Rattle.std.specs.Option.{option_map}

-- the value of each sector
abbrev pub Values : Type 0
Values = ℕ → List ℕ

-- the same, but that sector has that value
abbrev pub with_value : ℕ → List ℕ → Values → Values
with_value sector value values s = if s == sector then value else values s

-- a write that succeeds makes its value that of its sector; one that failed has done so or not
abbrev pub Writes : {T E : Type 0} → Option Values → Option Values → Result T E → ℕ → List ℕ → Type 0
Writes before after (Ok x) sector value = after ≡ option_map (with_value sector value) before
Writes before after (Err e) sector value = (after ≡ before) ⊎ (after ≡ option_map (with_value sector value) before)
