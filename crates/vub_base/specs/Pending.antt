-- Open requests in order of their acceptance.
use Rattle.std.specs.Prelude.{ℕ, Bool, nat_lt, if◌then◌else◌, ◌==◌, ◌&&◌, ◌||◌, List, [], ◌∷◌}
use Rattle.vub_base.specs.declared.pending.Pending.{Pending}

-- a list: its items, and how many it can have
pub record PendingState : Type 0 where
  pub items : List Pending
  pub room : ℕ

-- the counter decides, then the head, then num
abbrev pub precedes : Pending → Pending → Bool
precedes p q = nat_lt p.counter q.counter || ((p.counter == q.counter) && (nat_lt p.head q.head || ((p.head == q.head) && nat_lt p.num q.num)))

-- e stands before the first that it precedes
abbrev pub insert_pending : Pending → List Pending → List Pending
insert_pending e [] = e ∷ []
insert_pending e (x ∷ xs) = if precedes e x then e ∷ x ∷ xs else x ∷ insert_pending e xs

-- the items in rising order
abbrev pub sorted : List Pending → List Pending
sorted [] = []
sorted (x ∷ xs) = insert_pending x (sorted xs)
