-- What a bell tells: the queues rung, in order, and which queues are attached.
use Rattle.std.specs.Prelude.{◌≡◌, ◌≢◌, ℕ, Bool, true, if◌then◌else◌, List, [], ◌∷◌, ◌++◌, Option, Some, None, Result, Ok, Err}

pub record BellState : Type 0 where
  pub rung : List ℕ
  pub attached : ℕ → Bool

-- the same but that queue is attached
pub record Attached (old new : BellState) (queue : ℕ) : Type 0 where
  pub rung : new.rung ≡ old.rung
  pub joins : new.attached queue ≡ true
  pub others : (q : ℕ) → q ≢ queue → new.attached q ≡ old.attached q

-- the same, but that queue may have been attached
pub record MayAttach (old new : BellState) (queue : ℕ) : Type 0 where
  pub rung : new.rung ≡ old.rung
  pub stays : old.attached queue ≡ true → new.attached queue ≡ true
  pub others : (q : ℕ) → q ≢ queue → new.attached q ≡ old.attached q

-- an attach that succeeds adds its queue to the attached ones; one that failed adds it or not
abbrev pub Attaches : {T E : Type 0} → Option BellState → Option BellState → Result T E → ℕ → Type 0
Attaches None after result queue = after ≡ None
Attaches (Some old) after (Ok x) queue = (new : BellState) × (after ≡ Some new) × Attached old new queue
Attaches (Some old) after (Err e) queue = (new : BellState) × (after ≡ Some new) × MayAttach old new queue

-- the bell with that queue rung, which is heard only where it is attached
abbrev pub rung_once : ℕ → BellState → BellState
rung_once queue b = record b { rung = if b.attached queue then b.rung ++ queue ∷ [] else b.rung }

-- a ring that succeeds on an attached queue adds it to the list; any other leaves all
abbrev pub Rings : {T E : Type 0} → Option BellState → Option BellState → Result T E → ℕ → Type 0
Rings None after result queue = after ≡ None
Rings (Some old) after (Ok x) queue = after ≡ Some (rung_once queue old)
Rings (Some old) after (Err e) queue = (after ≡ Some old) × (old.attached queue ≡ true)
