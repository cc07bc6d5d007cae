-- Spaces that are held in memory, each with its name.
use Rattle.std.specs.Prelude.{ℕ, ◌+◌, ◌%◌, if◌then◌else◌, List, [], ◌∷◌, Option, Some, None, slice_get, slice_index, length, string_bytes}
use Rattle.std.specs.Str.{bytes_eq}
use Rattle.vub_shared.specs.Bytes.{Bytes}
use Rattle.vub_shared.specs.Spaces.{Names}
use Rattle.vub_shared.specs.declared.held.Held.{Held}

-- the bytes of a space, none for one that isn't there
abbrev pub bytes_at : Option Held → List ℕ
bytes_at None = []
bytes_at (Some h) = h.bytes.items

abbrev pub space_bytes : List Held → ℕ → List ℕ
space_bytes spaces s = bytes_at (slice_get spaces s)

-- the byte at each place of each space, 0 past its end
abbrev pub image : List Held → Bytes
image spaces s p = slice_index (space_bytes spaces s) p % 256

abbrev pub space_size : List Held → ℕ → ℕ
space_size spaces s = length (space_bytes spaces s)

-- the later meaning where there is one
abbrev pub later : Option ℕ → Option ℕ → Option ℕ
later None earlier = earlier
later (Some s) earlier = Some s

-- what a name means in spaces that are numbered from k on: the last one of that name
abbrev pub meaning_from : ℕ → List Held → Names
meaning_from k [] name = None
meaning_from k (h ∷ hs) name = later (meaning_from (k + 1) hs name) (if bytes_eq (string_bytes h.name) name then Some k else None)

abbrev pub meaning : List Held → Names
meaning = meaning_from 0
