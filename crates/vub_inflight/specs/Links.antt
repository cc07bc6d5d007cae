-- Entries that are linked by `next` (vhost-user, "Inflight I/O tracking").
use Rattle.std.specs.Prelude.{◌≡◌, ◌<◌, ℕ, zero, suc, Bool, false, not, ◌||◌, nat_lt, if◌then◌else◌, List, [], ◌∷◌, ◌++◌, length, Option, Some, None}
use Rattle.std.proofs.Common.{get_or}
use Rattle.vub_device.specs.Past.{is_among}

-- the first so many entries from one on along next
abbrev pub links : (ℕ → ℕ) → ℕ → ℕ → List ℕ
links next zero entry = []
links next (suc count) entry = entry ∷ links next count (next entry)

-- of these the ones before the first that isn't below n
abbrev pub links_within : ℕ → (ℕ → ℕ) → ℕ → ℕ → List ℕ
links_within n next zero entry = []
links_within n next (suc count) entry = if nat_lt entry n then entry ∷ links_within n next count (next entry) else []

-- the entry after so many links
abbrev pub link_at : (ℕ → ℕ) → ℕ → ℕ → ℕ
link_at next zero entry = entry
link_at next (suc count) entry = link_at next count (next entry)

-- the first that isn't below n or was met before
abbrev pub first_bad : ℕ → List ℕ → List ℕ → Option ℕ
first_bad n met [] = None
first_bad n met (x ∷ xs) = if not (nat_lt x n) || is_among met x then Some x else first_bad n (met ++ x ∷ []) xs

-- exactly these entries are marked
abbrev pub AreMarked : List Bool → List ℕ → Type 0
AreMarked marks entries = (i : ℕ) → i < length marks → get_or marks i false ≡ is_among entries i
