-- Sectors that are held in memory.
use Rattle.std.specs.Prelude.{◌≡◌, ◌<◌, ℕ, List, length, slice_index_or, replicate}

-- each sector has 512 bytes
abbrev pub AreWhole : List (List ℕ) → Type 0
AreWhole sectors = (s : ℕ) (d : List ℕ) → s < length sectors → length (slice_index_or sectors s d) ≡ 512

-- each sector has zero bytes
abbrev pub AreZero : List (List ℕ) → Type 0
AreZero sectors = (s : ℕ) (d : List ℕ) → s < length sectors → slice_index_or sectors s d ≡ replicate 512 0
