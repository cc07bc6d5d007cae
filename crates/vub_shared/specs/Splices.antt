-- bytes written over a part of others
use Rattle.std.specs.Prelude.{ℕ, ◌+◌, List, ◌++◌, length, take, drop}

abbrev pub splice : List ℕ → ℕ → List ℕ → List ℕ
splice xs p bs = take p xs ++ bs ++ drop (p + length bs) xs
