-- Words of a region in shared memory.
use Rattle.std.specs.Prelude.{ℕ, nat_lt, if◌then◌else◌}
use Rattle.byteorder.specs.Endian.{little_bytes}
use Rattle.vub_shared.specs.Stores.{Store, one_store}

-- f below n, and 0 from n on
abbrev pub bounded : ℕ → (ℕ → ℕ) → ℕ → ℕ
bounded n f i = if nat_lt i n then f i else 0

-- a number of so many bytes at a place of a space
abbrev pub put_word : ℕ → ℕ → ℕ → ℕ → Store
put_word space place width value = one_store space place (little_bytes width value)
