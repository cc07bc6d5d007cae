-- Spaces that are open files.
use Rattle.std.specs.Prelude.{◌≡◌, ◌==◌, if◌then◌else◌, ℕ, List, Option, Some, None, slice_get, length, string_bytes}
use Rattle.std.specs.Option.{option_map}
use Rattle.vub_shared.specs.Splices.{splice}
use Rattle.vub_edge.specs.declared.file_space.FileSpace.{FileSpace}

-- the size of a space, 0 for one that isn't there
abbrev pub size_of : {F : Type 0} → Option (FileSpace F) → ℕ
size_of None = 0
size_of (Some x) = x.size

abbrev pub size_at : {F : Type 0} → List (FileSpace F) → ℕ → ℕ
size_at spaces s = size_of (slice_get spaces s)

-- the name that a space was handed out for
abbrev pub name_at : {F : Type 0} → List (FileSpace F) → ℕ → Option (List ℕ)
name_at spaces s = option_map (λ x. string_bytes x.name) (slice_get spaces s)

-- the bytes that the file of a space holds, where they are told
abbrev pub held_by : {F : Type 0} → (F → Option (List ℕ)) → Option (FileSpace F) → Option (List ℕ)
held_by held None = None
held_by held (Some x) = held x.file

abbrev pub held_at : {F : Type 0} → (F → Option (List ℕ)) → List (FileSpace F) → ℕ → Option (List ℕ)
held_at held spaces s = held_by held (slice_get spaces s)

-- the file of this space has these bytes from that place on, and every other file is as it was
abbrev pub Puts : {F : Type 0} → (F → Option (List ℕ)) → List (FileSpace F) → List (FileSpace F) → ℕ → ℕ → List ℕ → Type 0
Puts held before now s place bytes = (t : ℕ) → held_at held now t ≡ (if t == s then option_map (λ old. splice old place bytes) (held_at held before t) else held_at held before t)

-- no space more, and each has its size
pub record SameSizes {F : Type 0} (before now : List (FileSpace F)) : Type 0 where
  pub count : length now ≡ length before
  pub sizes : (s : ℕ) → size_at now s ≡ size_at before s
