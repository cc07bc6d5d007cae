-- The state of the device's side of one queue, and what its own steps make of it.
use Rattle.std.specs.Prelude.{◌≡◌, ◌⊎◌, ◌<◌, ◌≤◌, ℕ, ◌+◌, ◌%◌, Bool, true, false, not, ◌&&◌, if◌then◌else◌, List, [], ◌∷◌, ◌++◌, length, map, take, drop, set, replicate, remove, slice_get, get_or, nat_lt, is_some, Option, Some, None, option_map, Result, Ok, Err, ⊤}
use Rattle.vub_base.specs.declared.ring_fault.RingFault.{RingFault}
use Rattle.vub_base.specs.declared.ring_fault.RingFault.TheVariants as faults
use Rattle.vub_base.specs.declared.pending.Pending.{Pending}
use Rattle.vub_base.specs.Told.{WhereTold}
use Rattle.vub_base.specs.Bells.{BellState, Rings}
use Rattle.vub_shared.specs.Bytes.{Bytes}
use Rattle.vub_shared.specs.Stores.{Store, Stores, Trails}
use Rattle.vub_shared.specs.Spaces.{Names}
use Rattle.vub_shared.specs.Frames.{KeepsSpaces}
use Rattle.vub_disk.specs.Values.{Values}
use Rattle.vub_steps.specs.declared.steps.Phase.{Phase}
use Rattle.vub_steps.specs.declared.steps.Phase.TheVariants as phases
use Rattle.vub_steps.specs.declared.steps.Step.{Step}
use Rattle.vub_steps.specs.declared.steps.Step.TheVariants as steps
use Rattle.vub_steps.specs.declared.readiness.Standing.{Standing}
use Rattle.vub_steps.specs.declared.readiness.Turn.{Turn}
use Rattle.vub_steps.specs.declared.readiness.Turn.TheVariants.{Start, Fetch, Work, Publish}
use Rattle.vub_ring.specs.Ring.{ahead}
use Rattle.vub_steps.specs.Rows.{Row, Sight, row_of, region_row}
use Rattle.vub_steps.specs.Steps.{running_steps, next_of, after_of}
use Rattle.vub_steps.specs.Readiness.{is_ready, any_turn, is_fetch, is_publication, last_counter}
use Rattle.vub_split.specs.declared.split.SplitRing.{SplitRing}
use Rattle.vub_infl_split.specs.declared.region.SplitRegion.{SplitRegion}
use Rattle.vub_infl_split.specs.declared.region.SplitStore.{SplitStore}
use Rattle.vub_infl_split.specs.Region.{words_of}
use Rattle.vub_infl_split.specs.Stores.{store_of}
use Rattle.vub_inflight.specs.Entries.{heads_of, next_counter}
use Rattle.vub_setup.specs.declared.setup.QueueSetup.{QueueSetup}
use Rattle.vub_setup.specs.Setups.{SplitSetup, split_of}
use Rattle.vub_rec_split.specs.declared.plan.Recovered.{Recovered}
use Rattle.vub_rec_split.specs.declared.plan.Recovered.TheVariants as recovered
use Rattle.vub_rec_split.specs.Starts.{RecoveryState, StartLies, sight_in, answer_in, due_in, state_after, unchecked_in}
use Rattle.vub_split.specs.Split.{RingLies, avail_idx_word, used_idx_word, head_word, ring_of_split}
use Rattle.vub_task.specs.declared.task.Task.{Task}
use Rattle.vub_task.specs.declared.task.Work.TheVariants as work
use Rattle.vub_task.specs.declared.task.TaskStep as made
use Rattle.vub_task.specs.declared.task.TaskStep.TheVariants as answers
use Rattle.vub_steps.specs.Tasks as Tasks
use Rattle.vub_steps.specs.Tasks.{Status, status_of, used_len}
use Rattle.vub_task.specs.TaskState.{Making, IsNext, IsReady, HasMade, LooksAt, GainsOne, fresh_task, answer_in as task_answer, memory_after, values_after, store_in, with_maybe, head_in, is_begun, IfFaulted, TaskLies, OwesFailure, Begins, Worked}
use Rattle.vub_queue.specs.QueueParts.{element, is_taken, with_heads, without_heads}
use Rattle.vub_queue.specs.declared.queue.NoHead.{NoHead}
use Rattle.vub_queue.specs.declared.queue.NoHead.TheVariants as misses
use Rattle.vub_queue.specs.declared.queue.Stop.{Stop}
use Rattle.vub_queue.specs.declared.queue.Stop.TheVariants as stops
use Rattle.vub_queue.specs.declared.queue.Stepped.{Stepped}
use Rattle.vub_queue.specs.declared.queue.Stepped.TheVariants as says
use Rattle.vub_queue.specs.declared.queue.Queue.{Queue}

pub record QueueState : Type 0 where
  pub index : ℕ
  pub ring : SplitRing
  -- whether the driver is told of what was published, and whether the bell of its start was rung
  pub bell : Bool
  pub rung : Bool
  -- its start over its in-flight region
  pub recovery : RecoveryState
  pub started : Bool
  pub stopped : Option Stop
  -- the index of the avail entry that is fetched next
  pub next_avail : ℕ
  -- the counter of the request that is accepted next
  pub counter : ℕ
  -- the head of a fetch between its two steps
  pub fetching : Option ℕ
  -- the requests that aren't completed, in the order in which they were accepted
  pub unfinished : List Task
  -- head and used length of those that are completed and in no batch, in the order in which they were completed
  pub completed : List (ℕ × ℕ)
  -- and of those that are being published
  pub batch : List (ℕ × ℕ)
  pub phase : Phase
  -- whether each head is accepted and not shown in the used ring
  pub taken : List Bool
  -- the sector on its way for each head
  pub sectors : List (List ℕ)

abbrev pub state_of : Queue → QueueState
state_of q = record {
  index = q.index;
  ring = q.ring;
  bell = q.bell;
  rung = q.rung;
  recovery = q.recovery;
  started = q.started;
  stopped = q.stopped;
  next_avail = q.next_avail;
  counter = q.counter;
  fetching = q.fetching;
  unfinished = q.unfinished.items;
  completed = map element (drop q.batch q.completed.items);
  batch = map element (take q.batch q.completed.items);
  phase = q.phase;
  taken = q.taken.items;
  sectors = q.sectors.items;
}

-- a start that hasn't begun
abbrev pub new_recovery : SplitSetup → RecoveryState
new_recovery setup = record { ring = setup.ring; region = setup.region; base = setup.base; plan = None; done = 0; cleared = None }

-- a queue that isn't started, as it is set up; nothing is said of its sectors
abbrev pub new_state : SplitSetup → List (List ℕ) → QueueState
new_state setup sectors = record {
  index = setup.index;
  ring = setup.ring;
  bell = setup.bell;
  rung = false;
  recovery = new_recovery setup;
  started = false;
  stopped = None;
  next_avail = 0;
  counter = 0;
  fetching = None;
  unfinished = [];
  completed = [];
  batch = [];
  phase = phases.Rest;
  taken = replicate setup.ring.size false;
  sectors = sectors;
}

pub record IsNew (setup : SplitSetup) (s : QueueState) : Type 0 where
  pub sectors : List (List ℕ)
  pub is : s ≡ new_state setup sectors
  pub buffers : length sectors ≡ setup.ring.size

-- a queue that is set up so isn't started
abbrev pub IsNewOf : QueueSetup → QueueState → Type 0
IsNewOf setup s = (split : SplitSetup) → split_of setup ≡ Some split → IsNew split s

-- ---- where a queue lies

-- a task lies in memory and on the disk, and its head in the table
abbrev pub TaskFits : (ℕ → ℕ) → ℕ → SplitRing → Task → Type 0
TaskFits sizes capacity r task = TaskLies sizes capacity task × (head_in task < r.size)

abbrev pub TasksFit : (ℕ → ℕ) → ℕ → SplitRing → List Task → Type 0
TasksFit sizes capacity r [] = ⊤
TasksFit sizes capacity r (task ∷ tasks) = TaskFits sizes capacity r task × TasksFit sizes capacity r tasks

-- its ring and its in-flight region lie in their spaces, and so do the tasks of the requests that aren't completed
pub record QueueLies (sizes : ℕ → ℕ) (capacity : ℕ) (s : QueueState) : Type 0 where
  pub ring : RingLies sizes s.ring
  pub start : StartLies sizes s.recovery
  pub same_ring : s.recovery.ring ≡ s.ring
  pub tasks : TasksFit sizes capacity s.ring s.unfinished

-- what lies before lies after
abbrev pub KeepsLying : QueueState → QueueState → Type 0
KeepsLying s t = (sizes : ℕ → ℕ) (capacity : ℕ) → QueueLies sizes capacity s → QueueLies sizes capacity t

-- ---- steps

-- how many requests wait in the avail ring
abbrev pub waiting : QueueState → Bytes → ℕ
waiting s m = ahead (avail_idx_word s.ring m) s.next_avail

-- what its readiness depends on, where so many requests wait
abbrev pub standing_at : QueueState → ℕ → Standing
standing_at s waiting = record { started = s.started; phase = s.phase; waiting = waiting; counts = nat_lt s.counter last_counter; unfinished = length s.unfinished; completed = length s.completed }

-- whether a turn of any kind would make a step, where so many requests wait
abbrev pub is_ready_at : QueueState → ℕ → Bool
is_ready_at s waiting = not (is_some s.stopped) && is_ready (standing_at s waiting) (any_turn s.ring.size (standing_at s waiting))

-- whether the shared memory failed in a turn
abbrev pub outcome : Stepped → Result (Unit {0}) (Unit {0})
outcome says.SharedFault = Err tt
outcome x = Ok tt

-- ---- the start

-- whether a bell is left to ring
abbrev pub rings_next : QueueState → Bool
rings_next s = s.bell && not s.rung

-- what a start says, where its recovery answers so: once no store is left, it rings or is made
abbrev pub start_said : Bool → Recovered → Stepped
start_said rings (recovered.Stored tag) = says.Stored tag
start_said rings recovered.Done = if rings then says.Belled else says.Started
start_said rings (recovered.Damaged fault) = says.Damaged fault
start_said rings recovered.Failed = says.SharedFault

-- a queue that goes on with these open requests, where used.idx is this: their tasks begin anew, in this order, and their heads
-- are taken; each had one entry of the avail ring, and counters go on above theirs
abbrev pub resumed : ℕ → List Pending → QueueState → QueueState
resumed used list s = record s {
  started = true;
  next_avail = (used + length list) % 65536;
  counter = next_counter list;
  unfinished = map fresh_task (heads_of list);
  taken = with_heads (heads_of list) s.taken;
}

-- the bell was rung, or the queue goes on with these open requests
abbrev pub ended : Bool → ℕ → List Pending → QueueState → QueueState
ended rings used list s = if rings then record s { rung = true } else resumed used list s

abbrev pub start_state : Recovered → ℕ → List Pending → QueueState → QueueState
start_state recovered.Done used list s = ended (rings_next s) used list s
start_state answer used list s = s

-- the end of a start rings, or starts the queue; a fault of the bell or of the memory leaves all
abbrev pub Ends : Option Bytes → List Pending → Stepped → QueueState → QueueState → Type 0
Ends told list says.BellFault s t = t ≡ s
Ends told list says.SharedFault s t = t ≡ s
Ends told list x s t = (x ≡ start_said (rings_next s) recovered.Done) × WhereTold told (λ m. t ≡ ended (rings_next s) (used_idx_word s.ring m) list s)

-- whether a start says this
abbrev pub is_starting : Stepped → Bool
is_starting says.Idle = true
is_starting (says.Stored tag) = true
is_starting says.Belled = true
is_starting says.Started = true
is_starting says.SharedFault = true
is_starting says.BellFault = true
is_starting (says.Damaged fault) = true
is_starting x = false

-- the queue after the next step of its start, where its recovery answers so and is then this one, used.idx is this, and these
-- requests are open
abbrev pub start_after : Recovered → RecoveryState → ℕ → List Pending → QueueState → QueueState
start_after answer recovery used list s = start_state answer used list (record s { recovery = recovery })

abbrev pub StartsIf : Bool → Option Bytes → Stepped → QueueState → QueueState → Type 0
StartsIf true told x s t = (x ≡ says.Idle) × (t ≡ s)
StartsIf false told x s t = WhereTold told (λ m. (x ≡ start_said (rings_next s) (answer_in s.recovery m)) × (t ≡ start_after (answer_in s.recovery m) (state_after s.recovery m) (used_idx_word s.ring m) (unchecked_in s.recovery m) s))

-- what a step of a start says, and the queue before and after it: it makes the next store of its recovery; once none is left it
-- rings the bell of a queue that has one, and then the queue goes on with what is open
abbrev pub Starts : Option Bytes → Stepped → QueueState → QueueState → Type 0
Starts told x s t = StartsIf s.started told x s t

-- the store that is due in a start, if one is left
abbrev pub start_due : QueueState → Bytes → Option SplitStore
start_due s m = if s.started then None else due_in s.recovery m

-- the told bytes, and the told list of stores, before and after it
abbrev pub StoresStep : Option Bytes → Option Bytes → Stepped → SplitRegion → Option SplitStore → Type 0
StoresStep before after x region None = after ≡ before
StoresStep before after x region (Some step) = Stores before after (outcome x) (store_of region step)

abbrev pub TrailsStep : Option (List Store) → Option (List Store) → Stepped → SplitRegion → Option SplitStore → Type 0
TrailsStep before after x region None = after ≡ before
TrailsStep before after x region (Some step) = Trails before after (outcome x) (store_of region step)

abbrev pub StoresStart : Option Bytes → Option Bytes → Stepped → QueueState → Type 0
StoresStart before after x s = WhereTold before (λ m. StoresStep before after x s.recovery.region (start_due s m))

-- whatever is told of the bytes, the list grows by one at most
abbrev pub TrailsStart : Option Bytes → Option (List Store) → Option (List Store) → Stepped → QueueState → Type 0
TrailsStart told before after x s = GainsOne before after × WhereTold told (λ m. TrailsStep before after x s.recovery.region (start_due s m))

-- ---- the bell

-- what a bell tells before and after a turn of the queue of this index: only a turn that says so has rung
abbrev pub RingsAt : ℕ → Stepped → Option BellState → Option BellState → Type 0
RingsAt index says.Belled before after = Rings {T = Unit {0}} {E = Unit {0}} before after (Ok tt) index
RingsAt index says.BellFault before after = Rings {T = Unit {0}} {E = Unit {0}} before after (Err tt) index
RingsAt index x before after = after ≡ before

-- whether a turn rang, or failed to
abbrev pub has_rung : Stepped → Bool
has_rung says.Belled = true
has_rung says.BellFault = true
has_rung x = false

-- whether it may
abbrev pub may_ring : Turn → Bool
may_ring Start = true
may_ring (Publish most) = true
may_ring turn = false

-- whether the bell failed in a turn
abbrev pub bell_outcome : Stepped → Result (Unit {0}) (Unit {0})
bell_outcome says.BellFault = Err tt
bell_outcome x = Ok tt

-- ---- the steps of a fetch and of a publication

-- those of the phase that is under way
abbrev pub steps_in : QueueState → List Step
steps_in s = running_steps (length s.batch) s.bell s.phase

-- the next one
abbrev pub step_in : QueueState → Option Step
step_in s = next_of (steps_in s) s.phase

-- the head that a fetch keeps, and before its first step the one that stands at the avail index
abbrev pub kept_or : Option ℕ → ℕ → ℕ
kept_or None head = head
kept_or (Some kept) head = kept

-- what its next step sees
abbrev pub seen_by : QueueState → Bytes → Sight
seen_by s m = record {
  used = used_idx_word s.ring m;
  last_batch_head = (words_of s.recovery.region m).last_batch_head;
  link = (sight_in s.recovery m).link;
  head = kept_or s.fetching (head_word s.ring m s.next_avail);
  counter = s.counter;
  batch = s.batch;
}

-- the row of a step
abbrev pub row_at : QueueState → Bytes → Option Step → Option Row
row_at s m None = None
row_at s m (Some step) = row_of (ring_of_split s.ring) s.recovery.region (seen_by s m) step

abbrev pub next_row : QueueState → Bytes → Option Row
next_row s m = row_at s m (step_in s)

abbrev pub row_said : Option Row → Stepped
row_said None = says.Idle
row_said (Some x) = says.Stored x.tag

-- what a step with this row says, where this head is fetched and nothing fails
abbrev pub step_said : ℕ → Option Row → Step → Stepped
step_said head row steps.Accept = says.Accepted head
step_said head row steps.Index = says.Published
step_said head row steps.Bell = says.Belled
step_said head row step = row_said row

-- the request of a head is accepted
abbrev pub accepted : ℕ → QueueState → QueueState
accepted head s = record s { unfinished = s.unfinished ++ fresh_task head ∷ []; next_avail = (s.next_avail + 1) % 65536; fetching = None; taken = set s.taken head true }

-- what a step changes beside the phase: once the batch is shown its heads are free
abbrev pub changed : ℕ → Step → QueueState → QueueState
changed head steps.Count s = record s { counter = s.counter + 1; fetching = Some head }
changed head steps.Accept s = accepted head s
changed head steps.Index s = record s { taken = without_heads s.batch s.taken }
changed head step s = s

-- at rest there is no batch
abbrev pub with_phase : Phase → QueueState → QueueState
with_phase phases.Rest s = record s { phase = phases.Rest; batch = [] }
with_phase p s = record s { phase = p }

-- the queue after that step
abbrev pub moved : ℕ → Step → QueueState → QueueState
moved head step s = with_phase (after_of (steps_in s) s.phase) (changed head step s)

-- what this step says where memory is m, and the queue before and after it
abbrev pub MovesBy : Option Step → Bytes → Stepped → QueueState → QueueState → Type 0
MovesBy None m x s t = ⊥
MovesBy (Some step) m x s t = (x ≡ step_said (seen_by s m).head (row_at s m (Some step)) step) × (t ≡ moved (seen_by s m).head step s)

-- the same of the next step, over any told memory
abbrev pub Moves : Option Bytes → Stepped → QueueState → QueueState → Type 0
Moves told x s t = WhereTold told (λ m. MovesBy (step_in s) m x s t)

-- the told bytes, and the told list of stores, before and after a step with this row
abbrev pub StoresRow : Option Bytes → Option Bytes → Stepped → Option Row → Type 0
StoresRow before after x None = after ≡ before
StoresRow before after x (Some y) = Stores before after (outcome x) y.store

abbrev pub TrailsRow : Option (List Store) → Option (List Store) → Stepped → Option Row → Type 0
TrailsRow before after x None = after ≡ before
TrailsRow before after x (Some y) = Trails before after (outcome x) y.store

-- the same of a turn whose row depends on the memory; whatever is told of the bytes, the list grows by one at most
abbrev pub StoresBy : Option Bytes → Option Bytes → Stepped → (Bytes → Option Row) → Type 0
StoresBy before after x row = WhereTold before (λ m. StoresRow before after x (row m))

abbrev pub TrailsBy : Option Bytes → Option (List Store) → Option (List Store) → Stepped → (Bytes → Option Row) → Type 0
TrailsBy told before after x row = GainsOne before after × WhereTold told (λ m. TrailsRow before after x (row m))

-- a turn with this row: the told bytes and the told list of stores after it, and no name and no space more
pub record MakesRow {M : Type 0} (told : M → Option Bytes) (trail : M → Option (List Store)) (names : M → Option Names) (handed : M → ℕ → Bool) (sizes : M → ℕ → ℕ) (before now : M) (x : Stepped) (row : Bytes → Option Row) : Type 0 where
  pub stored : StoresBy (told before) (told now) x row
  pub trailed : TrailsBy (told before) (trail before) (trail now) x row
  pub spaces : KeepsSpaces names handed sizes before now

-- ---- a fetch

-- some requests wait, and no more than the ring has places
pub record SomeWait (s : QueueState) (m : Bytes) : Type 0 where
  pub some : 1 ≤ waiting s m
  pub few : waiting s m ≤ s.ring.size

-- the avail ring breaks this rule
abbrev pub BreaksBy : QueueState → Bytes → RingFault → Type 0
BreaksBy s m (faults.Jump ahead) = (ahead ≡ waiting s m) × (s.ring.size < ahead)
BreaksBy s m (faults.BadHead head) = SomeWait s m × (head ≡ head_word s.ring m s.next_avail) × (s.ring.size ≤ head)
BreaksBy s m (faults.Twice head) = SomeWait s m × (head ≡ head_word s.ring m s.next_avail) × (head < s.ring.size) × (is_taken s.taken head ≡ true)
BreaksBy s m fault = ⊥

-- something waits, and the avail ring breaks a rule
abbrev pub Breaks : QueueState → Bytes → RingFault → Type 0
Breaks s m fault = (1 ≤ waiting s m) × BreaksBy s m fault

-- what stands at the avail index: no head, a head that is free, or a break of a rule
abbrev pub Finds : QueueState → Bytes → Result (Option ℕ) NoHead → Type 0
Finds s m (Ok None) = waiting s m ≡ 0
Finds s m (Ok (Some head)) = SomeWait s m × (head ≡ head_word s.ring m s.next_avail) × (head < s.ring.size) × (is_taken s.taken head ≡ false)
Finds s m (Err (misses.Broken fault)) = Breaks s m fault
Finds s m (Err misses.Shared) = ⊤

-- a head that is found lies in the table and is free
abbrev pub IsFree : QueueState → Result (Option ℕ) NoHead → Type 0
IsFree s (Ok (Some head)) = (head < s.ring.size) × (is_taken s.taken head ≡ false)
IsFree s x = ⊤

abbrev pub found_outcome : Result (Option ℕ) NoHead → Result (Unit {0}) (Unit {0})
found_outcome (Err misses.Shared) = Err tt
found_outcome x = Ok tt

-- the fetch that a turn goes on with
abbrev pub fetch_under_way : QueueState → QueueState
fetch_under_way s = if is_fetch s.phase then s else record s { phase = phases.Fetch 0 }

-- whether a fetch is ready
abbrev pub fetches : QueueState → Bytes → Bool
fetches s m = is_ready (standing_at s (waiting s m)) Fetch

-- the row of a fetch's step that says so: none where none is ready, nor where the ring breaks a rule
abbrev pub fetch_row : Stepped → QueueState → Bytes → Option Row
fetch_row says.Idle s m = None
fetch_row (says.Broken fault) s m = None
fetch_row x s m = next_row (fetch_under_way s) m

-- a step of a fetch: the first one takes a head that waits and is free
pub record Fetched (told : Option Bytes) (x : Stepped) (s t : QueueState) : Type 0 where
  pub ready : WhereTold told (λ m. fetches s m ≡ true)
  pub finds : s.fetching ≡ None → WhereTold told (λ m. Finds s m (Ok (Some (head_word s.ring m s.next_avail))))
  pub moves : Moves told x (fetch_under_way s) t

-- the first step finds a break of a rule
pub record FetchBreaks (told : Option Bytes) (fault : RingFault) (s t : QueueState) : Type 0 where
  pub ready : WhereTold told (λ m. fetches s m ≡ true)
  pub begins : s.fetching ≡ None
  pub breaks : WhereTold told (λ m. Breaks s m fault)
  pub same : t ≡ s

-- what a fetch says, and the queue before and after it
abbrev pub Fetches : Option Bytes → Stepped → QueueState → QueueState → Type 0
Fetches told says.Idle s t = (t ≡ s) × WhereTold told (λ m. fetches s m ≡ false)
Fetches told (says.Stored tag) s t = Fetched told (says.Stored tag) s t
Fetches told (says.Accepted head) s t = Fetched told (says.Accepted head) s t
Fetches told (says.Broken fault) s t = FetchBreaks told fault s t
Fetches told says.SharedFault s t = ⊤
Fetches told x s t = ⊥

-- ---- a publication

-- a batch of the first completed requests, at most so many
abbrev pub begun : ℕ → QueueState → QueueState
begun most s = record s { batch = take most s.completed; completed = drop most s.completed; phase = phases.Publish 0 }

-- the publication that a turn goes on with
abbrev pub under_way : ℕ → QueueState → QueueState
under_way most s = if is_publication s.phase then s else begun most s

-- whether a publication of at most so many makes a step
abbrev pub publishes : ℕ → QueueState → Bool
publishes most s = is_ready (standing_at s 0) (Publish most)

abbrev pub row_if : Bool → QueueState → Bytes → Option Row
row_if ready s m = if ready then next_row s m else None

-- the row of a publication's step; none where none is ready
abbrev pub publish_row : ℕ → QueueState → Bytes → Option Row
publish_row most s m = row_if (publishes most s) (under_way most s) m

-- a publication: nothing where none is ready
abbrev pub Publishes : Bool → Option Bytes → Stepped → QueueState → QueueState → QueueState → Type 0
Publishes false told x s u t = (x ≡ says.Idle) × (t ≡ s)
Publishes true told x s u t = Moves told x u t

-- whether a fetch, or a publication, says this
abbrev pub is_fetching : Stepped → Bool
is_fetching says.Idle = true
is_fetching (says.Stored tag) = true
is_fetching (says.Accepted head) = true
is_fetching says.SharedFault = true
is_fetching (says.Broken fault) = true
is_fetching x = false

abbrev pub is_publishing : Stepped → Bool
is_publishing says.Idle = true
is_publishing (says.Stored tag) = true
is_publishing says.Published = true
is_publishing says.Belled = true
is_publishing says.SharedFault = true
is_publishing says.BellFault = true
is_publishing x = false

-- whether a step changes nothing but the phase, and says the tag of its row
abbrev pub is_plain : Option Step → Bool
is_plain (Some (steps.Id e)) = true
is_plain (Some (steps.Len e)) = true
is_plain (Some (steps.Link e)) = true
is_plain (Some (steps.Head e)) = true
is_plain (Some (steps.Clear e)) = true
is_plain (Some steps.Note) = true
is_plain step = false

-- the next step is such a one, and makes this store into the in-flight region
pub record IsDueAt (x : SplitStore) (m : Bytes) (s : QueueState) : Type 0 where
  pub plain : is_plain (step_in s) ≡ true
  pub row : next_row s m ≡ Some (region_row s.recovery.region x)

-- ---- work

-- the queue after a step of the request in this place, whose task and sector are these now
abbrev pub worked : ℕ → Task → List ℕ → QueueState → QueueState
worked place task sector s = record s { unfinished = set s.unfinished place task; sectors = set s.sectors (head_in task) sector }

-- the queue after the request in this place was completed with this used length
abbrev pub done_at : ℕ → ℕ → ℕ → List ℕ → QueueState → QueueState
done_at place head len sector s = record s { unfinished = remove s.unfinished place; completed = s.completed ++ (head, len) ∷ []; sectors = set s.sectors head sector }

-- the request in this place has this head
abbrev pub HasHead : ℕ → ℕ → QueueState → Type 0
HasHead place head s = (task : Task) × (slice_get s.unfinished place ≡ Some task) × (head_in task ≡ head)

-- a step of the request in this place changes nothing here but its task, which keeps its head, and its sector, and the one
-- that stores its status moves it to the completed ones
abbrev pub Works : ℕ → Stepped → QueueState → QueueState → Type 0
Works place (says.Accepted head) s t = ⊥
Works place says.Published s t = ⊥
Works place says.Belled s t = ⊥
Works place says.Started s t = ⊥
Works place says.BellFault s t = ⊥
Works place (says.Damaged fault) s t = ⊥
Works place (says.Completed head) s t = (len : ℕ) × (sector : List ℕ) × HasHead place head s × (t ≡ done_at place head len sector s)
Works place x s t = (t ≡ s) ⊎ ((task : Task) × (sector : List ℕ) × HasHead place (head_in task) s × (t ≡ worked place task sector s))

-- what a step of the request in this place leaves before its end is noted: its task and its sector are new, and
-- nothing changes where none is made
abbrev pub StepsAt : ℕ → Option (ℕ × made.TaskStep) → QueueState → QueueState → Type 0
StepsAt place None s t = t ≡ s
StepsAt place (Some x) s t = (task : Task) × (sector : List ℕ) × (head_in task ≡ x.0) × (t ≡ worked place task sector s)

-- the status of the request of a head in this place moves it to the completed ones
abbrev pub concluded : ℕ → ℕ → made.TaskStep → QueueState → QueueState
concluded place head (answers.Done status len) s = record s { unfinished = remove s.unfinished place; completed = s.completed ++ (head, len) ∷ [] }
concluded place head step s = s

-- the task in this place of a queue makes this step next, where memory is m and the disk has so many sectors
pub record IsDue (capacity : ℕ) (sizes : ℕ → ℕ) (s : QueueState) (m : Bytes) (place : ℕ) (task : Task) (n : Making) : Type 0 where
  pub started : s.started ≡ true
  pub at : slice_get s.unfinished place ≡ Some task
  pub fits : head_in task < s.ring.size
  pub next : IsNext capacity sizes s.ring m n
  pub ready : IsReady s.ring n task

-- what a turn says of a step of the request of a head
abbrev pub said : ℕ → made.TaskStep → Stepped
said head (answers.Stored tag) = says.Stored tag
said head (answers.Looked sector) = says.Looked head sector
said head (answers.Acted sector) = says.Acted head sector
said head answers.Synced = says.Synced head
said head answers.Faulted = says.Faulted head
said head (answers.Done status len) = says.Completed head
said head (answers.Broken fault) = says.Broken fault
said head answers.Failed = says.SharedFault

-- the sector on its way for a head
abbrev pub sector_at : QueueState → ℕ → List ℕ
sector_at s head = get_or s.sectors head []

-- the status completes the request, and another step goes on
abbrev pub Advances : ℕ → Task → Making → List ℕ → Tasks.RequestStep → QueueState → QueueState → Type 0
Advances place task n sector Status s t = t ≡ done_at place (head_in task) (used_len (status_of n.header n.request) n.request) sector s
Advances place task n sector step s t = (next : Task) × (head_in next ≡ (head_in task)) × HasMade s.ring n next × (t ≡ worked place next sector s)

-- what the step leaves of the queue, where the disk's values are v: a look leaves the sector's value
pub record HasWorked (v : Option Values) (place : ℕ) (task : Task) (n : Making) (s t : QueueState) : Type 0 where
  pub sector : List ℕ
  pub looks : WhereTold v (λ u. LooksAt n u sector)
  pub state : Advances place task n sector n.step s t

-- a fact about what a turn made, where neither memory nor disk failed in it
abbrev pub IfStepped : Stepped → Type 0 → Type 0
IfStepped says.SharedFault P = ⊤
IfStepped (says.Faulted head) P = ⊤
IfStepped x P = P

-- the store of the step that is due, if it makes one
abbrev pub due_store : QueueState → Task → Making → Option Store
due_store s task n = store_in s.ring n (sector_at s (head_in task))

-- what the step that is due makes before its end is noted, where neither memory nor disk fails
pub record StepsOut (place : ℕ) (task : Task) (n : Making) (m : Bytes) (told : Option Bytes) (trail trail_after : Option (List Store)) (v v_after : Option Values) (x : Option (ℕ × made.TaskStep)) (s t : QueueState) : Type 0 where
  pub says : x ≡ Some (head_in task, task_answer n)
  pub next : Task
  pub sector : List ℕ
  pub head : head_in next ≡ head_in task
  pub goes_on : HasMade s.ring n next
  pub looks : WhereTold v (λ u. LooksAt n u sector)
  pub state : t ≡ worked place next sector s
  pub stores : told ≡ Some (memory_after s.ring n (sector_at s (head_in task)) m)
  pub trails : trail_after ≡ option_map (with_maybe (due_store s task n)) trail
  pub values : v_after ≡ option_map (values_after n.request n.step) v

-- what the step that is due makes, where neither memory nor disk fails: of the told bytes, which were m, of the told list
-- of stores and of the disk's told values, before and after it, and of the queue
pub record WorksOut (place : ℕ) (task : Task) (n : Making) (m : Bytes) (told : Option Bytes) (trail trail_after : Option (List Store)) (v v_after : Option Values) (x : Stepped) (s t : QueueState) : Type 0 where
  pub says : x ≡ said (head_in task) (task_answer n)
  pub leaves : HasWorked v place task n s t
  pub stores : told ≡ Some (memory_after s.ring n (sector_at s (head_in task)) m)
  pub trails : trail_after ≡ option_map (with_maybe (due_store s task n)) trail
  pub values : v_after ≡ option_map (values_after n.request n.step) v

-- a step of the request of this head, in this place, whatever the memory means: the first of its task, or the next of its work
pub record StepsTask (sizes : ℕ → ℕ) (capacity place : ℕ) (task : Task) (head : ℕ) (step : made.TaskStep) (told told_after : Option Bytes) (trail trail_after : Option (List Store)) (v v_after : Option Values) (s t : QueueState) : Type 0 where
  pub next : Task
  pub sector : List ℕ
  pub heads : (head ≡ head_in task) × (head_in next ≡ head_in task)
  pub begins : task.work ≡ work.Begin → WhereTold told (λ m. Begins sizes s.ring m (head_in task) capacity (sector_at s (head_in task)) sector step next.work told_after trail trail_after v v_after)
  pub goes_on : is_begun task.work ≡ true → Worked task.work (sector_at s (head_in task)) sector step next.work told told_after trail trail_after v v_after
  pub failed : IfFaulted step (OwesFailure next)
  pub state : t ≡ worked place next sector s

-- a turn that works on it: such a step, and its end is noted
pub record WorksTask (sizes : ℕ → ℕ) (capacity place : ℕ) (task : Task) (told told_after : Option Bytes) (trail trail_after : Option (List Store)) (v v_after : Option Values) (x : Stepped) (s t : QueueState) : Type 0 where
  pub head : ℕ
  pub step : made.TaskStep
  pub stepped : QueueState
  pub steps : StepsTask sizes capacity place task head step told told_after trail trail_after v v_after s stepped
  pub says : x ≡ said head step
  pub state : t ≡ concluded place head step stepped

-- nothing was ready: all is as it was
pub record Rests (told told_after : Option Bytes) (trail trail_after : Option (List Store)) (v v_after : Option Values) (x : Stepped) (s t : QueueState) : Type 0 where
  pub idle : x ≡ says.Idle
  pub state : t ≡ s
  pub stores : told_after ≡ told
  pub trails : trail_after ≡ trail
  pub values : v_after ≡ v

-- the task of the request of this head, in this place, owes the answer of a disk call that failed
abbrev pub OwesAt : ℕ → ℕ → QueueState → Type 0
OwesAt place head t = (task : Task) × (slice_get t.unfinished place ≡ Some task) × (head_in task ≡ head) × OwesFailure task

-- after a turn in which the disk failed its request is left, and owes that answer
abbrev pub Owes : Stepped → QueueState → Type 0
Owes (says.Faulted head) t = (place : ℕ) × OwesAt place head t
Owes x t = ⊤

-- ---- turns

abbrev pub is_idle : Stepped → Bool
is_idle says.Idle = true
is_idle x = false

abbrev pub is_fault : Stepped → Bool
is_fault says.SharedFault = true
is_fault says.BellFault = true
is_fault x = false

-- where a test fails
abbrev pub Unless : Bool → Type 0 → Type 0
Unless true P = ⊤
Unless false P = P

-- what a turn of the step table does of the queue
abbrev pub DoesOf : Turn → Option Bytes → Stepped → QueueState → QueueState → Type 0
DoesOf Start told x s t = Starts told x s t
DoesOf Fetch told x s t = Fetches told x s t
DoesOf (Work place) told x s t = Works place x s t
DoesOf (Publish most) told x s t = Publishes (publishes most s) told x s (under_way most s) t

-- the same, unless the shared memory or the bell failed, which stops the queue
abbrev pub Does : Turn → Option Bytes → Stepped → QueueState → QueueState → Type 0
Does turn told x s t = Unless (is_fault x) (DoesOf turn told x s t)

-- the told bytes before and after it
abbrev pub DoesStore : Turn → Option Bytes → Option Bytes → Stepped → QueueState → Type 0
DoesStore Start before after x s = StoresStart before after x s
DoesStore (Work place) before after x s = ⊤
DoesStore Fetch before after x s = StoresBy before after x (fetch_row x s)
DoesStore (Publish most) before after x s = StoresBy before after x (publish_row most s)

-- the told list of stores before and after it, where these bytes were told
abbrev pub DoesTrail : Turn → Option Bytes → Option (List Store) → Option (List Store) → Stepped → QueueState → Type 0
DoesTrail Start told before after x s = TrailsStart told before after x s
DoesTrail (Work place) told before after x s = GainsOne before after
DoesTrail Fetch told before after x s = TrailsBy told before after x (fetch_row x s)
DoesTrail (Publish most) told before after x s = TrailsBy told before after x (publish_row most s)

-- the told values of the disk before and after it: only work on a request changes them
abbrev pub DoesDisk : Turn → Option Values → Option Values → Type 0
DoesDisk (Work place) before after = ⊤
DoesDisk turn before after = after ≡ before

-- the told stable values: a flush that was made has made the values stable, and any other turn leaves them as they were
abbrev pub StableAfter : Stepped → Option Values → Option Values → Option Values → Type 0
StableAfter (says.Synced head) stable values stable_after = stable_after ≡ values
StableAfter x stable values stable_after = stable_after ≡ stable

-- whether the disk failed in a turn
abbrev pub disk_outcome : Stepped → Result (Unit {0}) (Unit {0})
disk_outcome (says.Faulted head) = Err tt
disk_outcome x = Ok tt

-- a fault of the ring, of the in-flight region, of the shared memory or of the bell stops the queue, and no other answer does
abbrev pub stopped_by : Stepped → Option Stop → Option Stop
stopped_by (says.Broken fault) stopped = Some (stops.Broken fault)
stopped_by (says.Damaged fault) stopped = Some (stops.Damaged fault)
stopped_by says.SharedFault stopped = Some stops.Shared
stopped_by says.BellFault stopped = Some stops.Bell
stopped_by x stopped = stopped

abbrev pub halted : Stepped → QueueState → QueueState
halted x s = record s { stopped = stopped_by x s.stopped }

-- what a turn does of a queue that isn't stopped
abbrev pub Turns : Turn → Option Bytes → Stepped → QueueState → QueueState → Type 0
Turns turn told x s t = (u : QueueState) × (t ≡ halted x u) × Does turn told x s u
