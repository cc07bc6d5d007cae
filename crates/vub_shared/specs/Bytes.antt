-- The bytes of shared memory: of each space, the byte at each place.
use Rattle.std.specs.Prelude.{◌≢◌, ◌≤◌, ◌⊎◌, ℕ, zero, suc, ◌+◌, ◌*◌, ◌-◌, ◌==◌, ◌&&◌, nat_lt, nat_le, if◌then◌else◌, List, [], ◌∷◌, length, slice_index}

abbrev pub Bytes : Type 0
Bytes = ℕ → ℕ → ℕ

-- m with these bytes from place p of space s on
unfoldable pub put : Bytes → ℕ → ℕ → List ℕ → Bytes
put m s p bs t q = if ((t == s) && (nat_le p q)) && nat_lt q (p + length bs) then slice_index bs (q - p) else m t q

-- the number in the w bytes from place p of space s on, the lowest first
unfoldable pub word : ℕ → Bytes → ℕ → ℕ → ℕ
word zero m s p = 0
word (suc w) m s p = m s p + 256 * word w m s (p + 1)

-- the w bytes from place p of space s on
abbrev pub bytes_from : ℕ → Bytes → ℕ → ℕ → List ℕ
bytes_from zero m s p = []
bytes_from (suc w) m s p = m s p ∷ bytes_from w m s (p + 1)

-- the v bytes from place q of space t share no byte with the w bytes from place p of space s
abbrev pub Apart : ℕ → ℕ → ℕ → ℕ → ℕ → ℕ → Type 0
Apart s p w t q v = (t ≢ s) ⊎ ((q + v ≤ p) ⊎ (p + w ≤ q))

-- m with all bytes of that space zero
abbrev pub cleared : ℕ → Bytes → Bytes
cleared space m s p = if s == space then 0 else m s p
