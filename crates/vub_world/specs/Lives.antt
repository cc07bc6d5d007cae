-- A life of the device, and what one queue has of it.
use Rattle.std.specs.Prelude.{◌≡◌, ℕ, length, Option, Some, None, ⊤}
use Rattle.vub_backend.specs.declared.backend.Backend.{Backend}
use Rattle.vub_backend.specs.Backends.{queues_of, attached_in, EachLies}
use Rattle.vub_setup.specs.Setups.{SplitSetup}
use Rattle.vub_queue.specs.QueueState.{QueueState}

-- queue q of a backend, where it is attached
abbrev pub queue_in : ℕ → Backend → Option QueueState
queue_in q b = attached_in (queues_of b) q

-- the same, where there is a life
abbrev pub life_of : ℕ → Option Backend → Option (Option QueueState)
life_of q None = None
life_of q (Some b) = Some (queue_in q b)

-- the queue of a life is on the rings of a set-up, where it is attached
abbrev pub IsAttachedOn : SplitSetup → Option QueueState → Type 0
IsAttachedOn setup None = ⊤
IsAttachedOn setup (Some queue) = queue.ring ≡ setup.ring

abbrev pub IsOnInLife : SplitSetup → Option (Option QueueState) → Type 0
IsOnInLife setup None = ⊤
IsOnInLife setup (Some queue) = IsAttachedOn setup queue

-- a backend has so many queues, and each that is attached lies in memory and on the disk
pub record IsBackend (count : ℕ) (sizes : ℕ → ℕ) (capacity : ℕ) (b : Backend) : Type 0 where
  pub many : length (queues_of b) ≡ count
  pub lies : EachLies sizes capacity (queues_of b)

-- so does the backend of a life
abbrev pub IsBackendInLife : ℕ → (ℕ → ℕ) → ℕ → Option Backend → Type 0
IsBackendInLife count sizes capacity None = ⊤
IsBackendInLife count sizes capacity (Some b) = IsBackend count sizes capacity b
