-- What a turn of a queue leaves of the queue, and of memory, disk and bell.
use Rattle.std.specs.Prelude.{◌≡◌, ℕ, Bool, true, false, Option, Some, is_some, List, slice_get}
use Rattle.vub_base.specs.Told.{WhereTold}
use Rattle.vub_base.specs.Causes.{HasCause}
use Rattle.vub_base.specs.Bells.{BellState}
use Rattle.vub_base.specs.declared.bell.Bell.{Ghosts as BellGhosts}
use Rattle.vub_shared.specs.declared.shared.Shared.{Ghosts as SharedGhosts}
use Rattle.vub_disk.specs.declared.disk.Disk.{Ghosts as DiskGhosts}
use Rattle.vub_shared.specs.Bytes.{Bytes}
use Rattle.vub_shared.specs.Stores.{Store}
use Rattle.vub_shared.specs.Spaces.{Names}
use Rattle.vub_shared.specs.Frames.{KeepsSpaces}
use Rattle.vub_disk.specs.Values.{Values}
use Rattle.vub_steps.specs.declared.readiness.Choice.{Choice}
use Rattle.vub_steps.specs.declared.readiness.Choice.TheVariants.{Only}
use Rattle.vub_steps.specs.declared.readiness.Turn.{Turn}
use Rattle.vub_steps.specs.declared.readiness.Turn.TheVariants.{Work}
use Rattle.vub_steps.specs.Readiness.{is_ready, chosen}
use Rattle.vub_task.specs.declared.task.Task.{Task}
use Rattle.vub_task.specs.TaskState.{Making}
use Rattle.vub_queue.specs.declared.queue.Stepped.{Stepped}
use Rattle.vub_queue.specs.declared.queue.Stepped.TheVariants.{Idle}
use Rattle.vub_queue.specs.QueueState.{QueueState, QueueLies, Owes, standing_at, waiting, Turns, DoesStore, DoesTrail, DoesDisk, IsDue, IfStepped, WorksOut, WorksTask, Rests, Unless, is_fault, halted, stopped_by, outcome, disk_outcome, bell_outcome, RingsAt, has_rung, may_ring, StableAfter}
use Rattle.vub_queue.specs.QueueFacts.{KeepsFacts}

-- what memory, disk and bell tell, and what they count
pub record Outside : Type 0 where
  pub bytes : Option Bytes
  pub trail : Option (List Store)
  pub names : Option Names
  pub handed : ℕ → Bool
  pub sizes : ℕ → ℕ
  pub memory_faults : ℕ
  pub values : Option Values
  pub stable : Option Values
  pub capacity : ℕ
  pub disk_faults : ℕ
  pub bells : Option BellState
  pub bell_faults : ℕ

abbrev pub outside : {M D B : Type 0} → SharedGhosts M → DiskGhosts D → BellGhosts B → M → D → B → Outside
outside S K R mem disk bell = record {
  bytes = S.told mem;
  trail = S.trail mem;
  names = S.names mem;
  handed = S.handed mem;
  sizes = S.sizes mem;
  memory_faults = S.faults mem;
  values = K.values disk;
  stable = K.stable disk;
  capacity = K.capacity disk;
  disk_faults = K.faults disk;
  bells = R.told bell;
  bell_faults = R.faults bell;
}

-- the turn that a choice comes to where memory is m
abbrev pub turn_at : Choice → QueueState → Bytes → Turn
turn_at choice s m = chosen s.ring.size choice (standing_at s (waiting s m))

-- all is as it was
pub record Stays (before after : Outside) : Type 0 where
  pub bytes : after.bytes ≡ before.bytes
  pub trail : after.trail ≡ before.trail
  pub values : after.values ≡ before.values
  pub bells : after.bells ≡ before.bells

-- a turn of a queue in this state says this and leaves it in that one
pub record Turned (choice : Choice) (before after : Outside) (x : Stepped) (s t : QueueState) : Type 0 where
  pub lies : QueueLies after.sizes after.capacity t
  pub failed : Owes x t
  pub ring : t.ring ≡ s.ring
  pub stopped : is_some s.stopped ≡ true → (x ≡ Idle) × (t ≡ s) × Stays before after
  -- whatever the memory tells
  pub stops : t.stopped ≡ stopped_by x s.stopped
  pub does : is_some s.stopped ≡ false → WhereTold before.bytes (λ m. Turns (turn_at choice s m) before.bytes x s t)
  pub keeps : WhereTold before.bytes (λ m. KeepsFacts before.sizes (turn_at choice s m) before.bytes after.bytes x s t)
  pub stores : is_some s.stopped ≡ false → WhereTold before.bytes (λ m. DoesStore (turn_at choice s m) before.bytes after.bytes x s)
  pub trails : is_some s.stopped ≡ false → WhereTold before.bytes (λ m. DoesTrail (turn_at choice s m) before.bytes before.trail after.trail x s)
  pub values : is_some s.stopped ≡ false → WhereTold before.bytes (λ m. DoesDisk (turn_at choice s m) before.values after.values)
  pub made : (place : ℕ) (task : Task) (n : Making) → is_some s.stopped ≡ false
      → WhereTold before.bytes (λ m. turn_at choice s m ≡ Work place → IsDue before.capacity before.sizes s m place task n → IfStepped x (WorksOut place task n m after.bytes before.trail after.trail before.values after.values x s t))
  pub task : (place : ℕ) (task : Task) → is_some s.stopped ≡ false
      → WhereTold before.bytes (λ m. turn_at choice s m ≡ Work place → s.started ≡ true → slice_get s.unfinished place ≡ Some task → Unless (is_fault x) ((u : QueueState) × (t ≡ halted x u) × WorksTask before.sizes before.capacity place task before.bytes after.bytes before.trail after.trail before.values after.values x s u))
  pub rests : (waiting place : ℕ) → is_some s.stopped ≡ false → choice ≡ Only (Work place) → is_ready (standing_at s waiting) (Work place) ≡ false → Rests before.bytes after.bytes before.trail after.trail before.values after.values x s t
  pub cause : HasCause before.memory_faults after.memory_faults (outcome x)
  pub disk_cause : HasCause before.disk_faults after.disk_faults (disk_outcome x)
  pub rings : RingsAt s.index x before.bells after.bells
  pub may_ring : WhereTold before.bytes (λ m. has_rung x ≡ true → may_ring (turn_at choice s m) ≡ true)
  pub bell_cause : HasCause before.bell_faults after.bell_faults (bell_outcome x)
  pub stable : StableAfter x before.stable after.values after.stable
  pub keeps_spaces : KeepsSpaces (λ (o : Outside). o.names) (λ (o : Outside). o.handed) (λ (o : Outside). o.sizes) before after
  pub capacity : after.capacity ≡ before.capacity
