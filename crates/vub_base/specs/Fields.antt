-- Numbers in bytes, the lowest byte first.
use Rattle.std.specs.Prelude.{ℕ, ◌+◌, List, ◌++◌, take, drop}
use Rattle.byteorder.specs.Endian.{little_number, little_bytes}

-- the number in the w bytes from place at on
abbrev pub field : ℕ → ℕ → List ℕ → ℕ
field w at bytes = little_number w (drop at bytes)

-- the bytes with this number in the w bytes from place at on
abbrev pub with_field : ℕ → ℕ → ℕ → List ℕ → List ℕ
with_field w at value bytes = take at bytes ++ (little_bytes w value ++ drop (at + w) bytes)
