-- Neighbours in the order of counters that have one counter: how the first two entries of one counter are found.
use Rattle.std.specs.Prelude.{ℕ, ◌==◌, nat_lt, if◌then◌else◌, List, [], ◌∷◌, Option, Some, None}
use Rattle.vub_base.specs.declared.pending.Pending.{Pending}

-- the pair whose first head is lower
abbrev pub earlier : Option (ℕ × ℕ) → Option (ℕ × ℕ) → Option (ℕ × ℕ)
earlier None b = b
earlier (Some a) None = Some a
earlier (Some a) (Some b) = if nat_lt b.0 a.0 then Some b else Some a

abbrev pub twin : Pending → Pending → Option (ℕ × ℕ)
twin x y = if x.counter == y.counter then Some (x.head, y.head) else None

-- of all neighbours with one counter those whose first head is lowest
abbrev pub twins : List Pending → Option (ℕ × ℕ)
twins [] = None
twins (x ∷ []) = None
twins (x ∷ y ∷ xs) = earlier (twin x y) (twins (y ∷ xs))
