-- The stores that a list with room for so many stores and bytes keeps.
use Rattle.std.specs.Prelude.{◌≡◌, ◌<◌, ◌≤◌, ℕ, ◌+◌, List, [], ◌∷◌, ◌++◌, length, slice_range, All}
use Rattle.vub_shared.specs.Stores.{Store, one_store}
use Rattle.vub_shared.specs.declared.kept.Kept.{Kept}

-- the stores kept, and for how many stores and bytes room is reserved
pub record TrailState : Type 0 where
  pub stores : List Store
  pub stores_room : ℕ
  pub bytes_room : ℕ

-- the bytes of these stores, all together
abbrev pub total_of : List Store → ℕ
total_of [] = 0
total_of (st ∷ sts) = length st.bytes + total_of sts

-- a store of so many bytes more has room
abbrev pub HasRoom : TrailState → ℕ → Type 0
HasRoom t n = (length t.stores < t.stores_room) × (total_of t.stores + n ≤ t.bytes_room)

-- the same with one store more
abbrev pub with_store : Store → TrailState → TrailState
with_store st t = record t { stores = t.stores ++ st ∷ [] }

-- the stores of a list, each with its range of the bytes
abbrev pub kept_stores : List ℕ → List Kept → List Store
kept_stores bytes [] = []
kept_stores bytes (k ∷ ks) = one_store k.space.number k.place (slice_range bytes k.start k.end) ∷ kept_stores bytes ks

abbrev pub IsWithin : ℕ → Kept → Type 0
IsWithin n k = (k.start ≤ k.end) × (k.end ≤ n)

-- each range lies in the bytes, and together they are as many
pub record IsKept (bytes : List ℕ) (kept : List Kept) : Type 0 where
  pub within : All (IsWithin (length bytes)) kept
  pub total : total_of (kept_stores bytes kept) ≡ length bytes
  pub count : length (kept_stores bytes kept) ≡ length kept
