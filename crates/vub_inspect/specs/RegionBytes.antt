-- The region of a split queue, by its bytes.
use Rattle.std.specs.Prelude.{ℕ, List}
use Rattle.vub_shared.specs.Bytes.{Bytes, put}
use Rattle.vub_infl_split.specs.Region.{RegionWords, words_of}
use Rattle.vub_infl_split.specs.declared.region.SplitRegion.{SplitRegion}

-- the memory that has these bytes from the start of its first space on
abbrev pub memory_of : List ℕ → Bytes
memory_of bytes = put (λ s p. 0) 0 0 bytes

-- the region of n entries at that start
abbrev pub region_at_start : ℕ → SplitRegion
region_at_start n = record { space = record { number = 0 }; place = 0; size = n }

-- the words of the region that these bytes are
abbrev pub words_in : ℕ → List ℕ → RegionWords
words_in n bytes = words_of (region_at_start n) (memory_of bytes)
