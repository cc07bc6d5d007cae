-- The queues of a life of the device.
use Rattle.std.specs.Prelude.{◌≡◌, ◌≢◌, ◌+◌, ◌-◌, ◌^◌, ◌⊎◌, ℕ, zero, suc, min, Bool, false, List, map, set, slice_get, Option, Some, None, option_map, is_some}
use Rattle.vub_steps.specs.declared.readiness.Choice.{Choice}
use Rattle.vub_steps.specs.declared.readiness.Choice.TheVariants.{Drain}
use Rattle.vub_queue.specs.declared.queue.Queue.{Queue}
use Rattle.vub_queue.specs.declared.queue.Stepped.{Stepped}
use Rattle.vub_queue.specs.declared.queue.Stepped.TheVariants.{Idle, Accepted}
use Rattle.vub_setup.specs.declared.setup.QueueSetup.{QueueSetup}
use Rattle.vub_queue.specs.QueueState.{QueueState, state_of, IsNewOf, QueueLies, is_idle}
use Rattle.vub_backend.specs.declared.backend.Backend.{Backend}
use Rattle.vub_queue.specs.Turned.{Outside, Turned}

-- the states of these, of each that is attached
abbrev pub states_of : List (Option Queue) → List (Option QueueState)
states_of queues = map (option_map state_of) queues

-- by their numbers, of each queue that is attached
abbrev pub queues_of : Backend → List (Option QueueState)
queues_of b = states_of b.queues.items

-- each attached queue lies in memory and on the disk
abbrev pub EachLies : (ℕ → ℕ) → ℕ → List (Option QueueState) → Type 0
EachLies sizes capacity queues = (q : ℕ) (s : QueueState) → slice_get queues q ≡ Some (Some s) → QueueLies sizes capacity s

-- a step of a queue that is attached is a turn of it; of one that isn't it is idle, and leaves all as it was
abbrev pub StepsIn : Option QueueState → Choice → Outside → Outside → Stepped → Option QueueState → Type 0
StepsIn (Some s) choice before after x now = (t : QueueState) × (now ≡ Some t) × Turned choice before after x s t
StepsIn None choice before after x now = (x ≡ Idle) × (now ≡ None) × (after ≡ before)

-- the same of queue q; every other queue is as it was
abbrev pub StepsAt : ℕ → Option (Option QueueState) → Choice → Outside → Outside → Stepped → List (Option QueueState) → List (Option QueueState) → Type 0
StepsAt q (Some queue) choice before after x queues now = (after_it : Option QueueState) × (now ≡ set queues q after_it) × StepsIn queue choice before after x after_it
StepsAt q None choice before after x queues now = (x ≡ Idle) × (now ≡ queues) × (after ≡ before)

abbrev pub Steps : ℕ → Choice → Outside → Outside → Stepped → List (Option QueueState) → List (Option QueueState) → Type 0
Steps q choice before after x queues now = StepsAt q (slice_get queues q) choice before after x queues now

-- the queue of this number, if it is attached
abbrev pub found : Option (Option QueueState) → Option QueueState
found (Some queue) = queue
found None = None

abbrev pub attached_in : List (Option QueueState) → ℕ → Option QueueState
attached_in queues q = found (slice_get queues q)

abbrev pub is_attached : List (Option QueueState) → ℕ → Bool
is_attached queues q = is_some (attached_in queues q)

-- a queue that is set up so is attached in its place, and isn't started
abbrev pub Attaches : QueueSetup → List (Option QueueState) → List (Option QueueState) → Type 0
Attaches setup queues now = (s : QueueState) × IsNewOf setup s × (now ≡ set queues setup.index (Some s))

-- the state of every other queue is as it was
abbrev pub KeepsOthers : ℕ → List (Option QueueState) → List (Option QueueState) → Type 0
KeepsOthers q queues now = (p : ℕ) → p ≢ q → attached_in now p ≡ attached_in queues p

-- ---- drains

-- how many requests a drain has accepted after one more step: a u16, which stays at its largest number
abbrev pub accepted_after : Stepped → ℕ → ℕ
accepted_after (Accepted head) accepted = min (accepted + 1) 65535
accepted_after x accepted = accepted

-- so many steps of a drain, none of them idle, lead to this, and it has accepted so many requests
abbrev pub Drained : ℕ → ℕ → Outside → Outside → List (Option QueueState) → List (Option QueueState) → ℕ → Type 0
Drained q zero before after queues now accepted = (now ≡ queues) × (after ≡ before) × (accepted ≡ 0)
Drained q (suc n) before after queues now accepted = (mid : Outside) × (between : List (Option QueueState)) × (a : ℕ) × (x : Stepped)
    × Drained q n before mid queues between a × Steps q (Drain a) mid after x between now × (is_idle x ≡ false) × (accepted ≡ accepted_after x a)

-- a drain stops here where its next step is idle, or after 2^64 - 1 steps
abbrev pub DrainEnds : ℕ → Outside → Outside → ℕ → ℕ → List (Option QueueState) → List (Option QueueState) → Type 0
DrainEnds q before after count accepted queues now = Steps q (Drain accepted) before after Idle queues now ⊎ ((count ≡ 2 ^ 64 - 1) × (now ≡ queues) × (after ≡ before))

-- a drain of queue q: so many steps that aren't idle, and then its end
abbrev pub Drains : ℕ → Outside → Outside → ℕ → List (Option QueueState) → List (Option QueueState) → Type 0
Drains q before after count queues now = (mid : Outside) × (between : List (Option QueueState)) × (accepted : ℕ)
    × Drained q count before mid queues between accepted × DrainEnds q mid after count accepted between now
