-- Places in a list, as the checker looks for them.
use Rattle.std.specs.Prelude.{ℕ, zero, suc, Bool, true, not, ◌&&◌, List, [], ◌∷◌, Result, Ok, Err, bytes_eq}
use Rattle.std.specs.List.{list_any}
use Rattle.vub_device.specs.Past.{is_among}

-- the number in this place, or else how far the place lies past the last
abbrev pub place_of : List ℕ → ℕ → Result ℕ ℕ
place_of [] i = Err i
place_of (x ∷ xs) zero = Ok x
place_of (x ∷ xs) (suc i) = place_of xs i

-- what was found, or else the number in the place that was left
unfoldable pub or_later : Result ℕ ℕ → List ℕ → Result ℕ ℕ
or_later (Ok x) ys = Ok x
or_later (Err i) ys = place_of ys i

-- whether no number stands twice
abbrev pub are_distinct : List ℕ → Bool
are_distinct [] = true
are_distinct (x ∷ xs) = not (is_among xs x) && are_distinct xs

-- whether one of these values is held
abbrev pub is_held : List (List ℕ) → List ℕ → Bool
is_held values held = list_any (λ v. bytes_eq held v) values
