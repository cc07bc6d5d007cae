-- What an object of the outside tells of its content, if it tells it.
use Rattle.std.specs.Prelude.{◌≡◌, Option, Some}

-- a fact about what is told, where it is told
abbrev pub WhereTold : {T : Type 0} → Option T → (T → Type 0) → Type 0
WhereTold {T} told P = (t : T) → told ≡ Some t → P t
