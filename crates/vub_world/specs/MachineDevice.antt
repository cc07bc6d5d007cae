-- What a turn of the device's side leaves, and which items it notes.
use Rattle.std.specs.Prelude.{◌≡◌, ◌<◌, ◌≤◌, ℕ, ◌+◌, ◌*◌, Bool, true, false, not, ◌==◌, if◌then◌else◌, List, [], ◌∷◌, ◌++◌, length, map, slice_get, Option, Some, None, is_some, ⊤}
use Rattle.vub_base.specs.declared.header.Header1.{Header1}
use Rattle.vub_base.specs.declared.store.Tag.{Tag}
use Rattle.vub_base.specs.declared.store.Tag.TheVariants.{SF2, SP5, T5}
use Rattle.vub_shared.specs.Bytes.{Bytes, bytes_from}
use Rattle.vub_shared.specs.Stores.{Store}
use Rattle.vub_shared.specs.Watched.{bytes_in, stores_in}
use Rattle.vub_shared.specs.declared.watched_shared.WatchedShared.{WatchedShared}
use Rattle.vub_disk.specs.Values.{Values}
use Rattle.vub_steps.specs.declared.readiness.Turn.{Turn}
use Rattle.vub_steps.specs.Readiness.{is_ready}
use Rattle.vub_steps.specs.Steps.{next_of}
use Rattle.vub_steps.specs.declared.steps.Step.{Step}
use Rattle.vub_steps.specs.declared.steps.Step.TheVariants.{Index}
use Rattle.vub_driver.specs.Layout.{guest_space, area_place, buffer_place, status_place, sectors_place}
use Rattle.vub_device.specs.declared.entry.Answered.{Answered}
use Rattle.vub_device.specs.declared.entry.Entry.TheVariants as entries
use Rattle.vub_memdisk.specs.MemDisks.{values_of}
use Rattle.vub_memdisk.specs.declared.mem_disk.MemDisk.{MemDisk}
use Rattle.vub_device.specs.Past.{accepted, open_numbers}
use Rattle.vub_report.specs.declared.items.Item.{Item}
use Rattle.vub_report.specs.declared.items.Item.TheVariants as items
use Rattle.vub_world.specs.declared.outstanding.OutstandingRequests.{OutstandingRequests}
use Rattle.vub_world.specs.declared.outstanding.OutstandingRequest.{OutstandingRequest}
use Rattle.vub_backend.specs.declared.backend.Backend.{Backend}
use Rattle.vub_setup.specs.Setups.{SplitSetup}
use Rattle.vub_queue.specs.declared.queue.Stepped.{Stepped}
use Rattle.vub_queue.specs.declared.queue.Stepped.TheVariants as says
use Rattle.vub_world.specs.OutstandingRequests.{size_in, slot_in}
use Rattle.vub_run.specs.Moments.{Moment, standing}
use Rattle.vub_steps.specs.declared.readiness.Choice.{Choice}
use Rattle.vub_steps.specs.Readiness.{chosen}
use Rattle.vub_queue.specs.QueueState.{steps_in, QueueState, is_idle}
use Rattle.vub_queue_in_run.specs.QueueAt.{QueueStands, DiskAt}
use Rattle.vub_run.specs.Run.{one_turn}
use Rattle.vub_task.specs.TaskState.{head_in}
use Rattle.vub_world.specs.MachineDriverSide.{store_item, OneSmall}
use Rattle.vub_world.specs.Lives.{queue_in}

-- ---- the device's turns

-- the answer to the request under a head, which stands in its buffer
abbrev pub answer_for : ℕ → OutstandingRequest → Bytes → ℕ → Answered
answer_for q o m head = record {
  number = o.number;
  status = m guest_space (status_place (buffer_place (area_place q) head));
  bytes = bytes_from (if m guest_space (status_place (buffer_place (area_place q) head)) == 0 then 512 * o.reads else 0) m guest_space (sectors_place (buffer_place (area_place q) head));
}

-- the answers to the requests of a batch, by head and length
abbrev pub answers_for : ℕ → OutstandingRequests → Bytes → List (ℕ × ℕ) → List Answered
answers_for q outstanding m batch = map (λ (x : ℕ × ℕ). answer_for q (slot_in outstanding x.0) m x.0) batch

abbrev pub number_at : OutstandingRequests → ℕ → ℕ
number_at outstanding head = (slot_in outstanding head).number

-- the heads of the requests that a queue works on, in order
abbrev pub heads_of : QueueState → List ℕ
heads_of state = map head_in state.unfinished

-- and their numbers
abbrev pub numbers_of : OutstandingRequests → QueueState → List ℕ
numbers_of outstanding state = map (number_at outstanding) (heads_of state)

abbrev pub stored_items : Tag → List Store → List Item
stored_items tag (st ∷ []) = store_item tag st ∷ []
stored_items tag sts = []

-- the items of a turn, where the outstanding requests, the values of the disk, the stores of the turn, the answers of the batch that
-- it shows and the numbers of the requests that the queue works on after it are these; none of one that wasn't made
abbrev pub noted : ℕ → OutstandingRequests → Values → List Store → List Answered → List ℕ → Stepped → List Item
noted q outstanding v stores answers opens (says.Stored tag) = stored_items tag stores
noted q outstanding v stores answers opens (says.Completed head) = stored_items T5 stores
noted q outstanding v stores answers opens says.Published = stored_items SP5 stores ++ items.Made (entries.Publish q answers) ∷ []
noted q outstanding v stores answers opens says.Belled = items.Bell q ∷ []
noted q outstanding v stores answers opens says.Started = items.Made (entries.Start q opens) ∷ []
noted q outstanding v stores answers opens (says.Accepted head) = stored_items SF2 stores ++ items.Made (entries.Accept q (number_at outstanding head)) ∷ []
noted q outstanding v stores answers opens (says.Looked head sector) = items.Made (entries.Look q (number_at outstanding head) sector (v sector)) ∷ []
noted q outstanding v stores answers opens (says.Acted head sector) = items.Made (entries.Act q (number_at outstanding head) sector (v sector)) ∷ []
noted q outstanding v stores answers opens (says.Synced head) = items.Made (entries.Sync q (number_at outstanding head)) ∷ []
noted q outstanding v stores answers opens x = []

-- ---- the device

-- queue, memory and disk, and the stores of the last step
pub record Device : Type 0 where
  pub queue : QueueState
  pub memory : Bytes
  pub values : Values
  pub stores : List Store

abbrev pub device : QueueState → WatchedShared → MemDisk → Device
device queue w d = record { queue = queue; memory = bytes_in w; values = values_of d; stores = stores_in w }

pub record DeviceAt (q : ℕ) (h : Header1) (setup : SplitSetup) (m : Moment) (d : Device) : Type 0 where
  pub stands : QueueStands q h setup m d.queue
  pub memory_is : d.memory ≡ m.scene.memory
  pub disk : DiskAt h.capacity m.scene.past d.values

-- whether the next step of a queue shows its batch
abbrev pub is_index : Option Step → Bool
is_index (Some Index) = true
is_index step = false

abbrev pub is_showing : QueueState → Bool
is_showing state = is_index (next_of (steps_in state) state.phase)

-- the answers to the batch that the next step shows, if it shows one
abbrev pub shown_of : ℕ → OutstandingRequests → Bytes → QueueState → List Answered
shown_of q outstanding m state = if is_showing state then answers_for q outstanding m state.batch else []

-- a turn was made: it failed nowhere, and broke no rule
abbrev pub IsMade : Stepped → Type 0
IsMade says.Idle = ⊥
IsMade (says.Faulted head) = ⊥
IsMade says.SharedFault = ⊥
IsMade says.BellFault = ⊥
IsMade (says.Broken fault) = ⊥
IsMade (says.Damaged fault) = ⊥
IsMade x = ⊤

-- a turn that says so stores once, a sector at most
abbrev pub StoreFits : Stepped → List Store → Type 0
StoreFits (says.Stored tag) stores = OneSmall stores
StoreFits (says.Completed head) stores = OneSmall stores
StoreFits (says.Accepted head) stores = OneSmall stores
StoreFits says.Published stores = OneSmall stores
StoreFits x stores = ⊤

-- a sector that it names is on the disk
abbrev pub SectorFits : ℕ → Stepped → Type 0
SectorFits capacity (says.Looked head sector) = sector < capacity
SectorFits capacity (says.Acted head sector) = sector < capacity
SectorFits capacity x = ⊤

-- a head that it names has a place in the table of outstanding requests
abbrev pub HeadFits : ℕ → Stepped → Type 0
HeadFits size (says.Accepted head) = head < size
HeadFits size (says.Looked head sector) = head < size
HeadFits size (says.Acted head sector) = head < size
HeadFits size (says.Synced head) = head < size
HeadFits size x = ⊤

-- the turn that a choice comes to at a moment
abbrev pub turn_here : ℕ → Header1 → Choice → Moment → Turn
turn_here q h choice m = chosen h.size choice (standing h q m)

-- the heads of the requests that a queue works on, where it is attached
abbrev pub queue_heads : Option QueueState → List ℕ
queue_heads None = []
queue_heads (Some queue) = heads_of queue

-- where a turn started the queue, each head of a request that it works on has a place in the table of outstanding
-- requests, and a list with room for so many numbers has room for theirs
abbrev pub StartFits : ℕ → Option QueueState → ℕ → Stepped → Type 0
StartFits size queue room says.Started = ((i head : ℕ) → slice_get (queue_heads queue) i ≡ Some head → head < size) × (length (queue_heads queue) ≤ room)
StartFits size queue room x = ⊤

-- a start spends the list of numbers, and no other turn does
abbrev pub KeepsNumbers : ℕ → ℕ → Stepped → Type 0
KeepsNumbers room now says.Started = ⊤
KeepsNumbers room now x = now ≡ room

-- whether a turn accepted a request
abbrev pub accepts : Stepped → ℕ
accepts (says.Accepted head) = 1
accepts x = 0

-- a turn that is due was made
pub record TurnMade (q : ℕ) (h : Header1) (setup : SplitSetup) (m : Moment) (t : Turn) (outstanding : OutstandingRequests) (d now : Device) (x : Stepped) : Type 0 where
  pub goes : is_idle x ≡ false
  pub made : IsMade x
  pub at : DeviceAt q h setup (one_turn h q t m).next now
  pub items_are : (one_turn h q t m).items ≡ noted q outstanding now.values now.stores (shown_of q outstanding d.memory d.queue) (numbers_of outstanding now.queue) x
  pub store : StoreFits x now.stores
  pub sector : SectorFits h.capacity x
  pub head : HeadFits h.size x
  pub taken : accepts x + accepted m.scene.past q ≡ accepted (one_turn h q t m).next.scene.past q
  pub starts : x ≡ says.Started → (d.queue.started ≡ false) × (numbers_of outstanding now.queue ≡ open_numbers m.scene.past q)

-- the turn is made where it is due, and else nothing is
abbrev pub DeviceTurns : ℕ → Header1 → SplitSetup → Moment → Turn → OutstandingRequests → Device → Device → Stepped → Type 0
DeviceTurns q h setup m t outstanding d now x =
    (is_ready (standing h q m) t ≡ true → TurnMade q h setup m t outstanding d now x)
    × (is_ready (standing h q m) t ≡ false → (x ≡ says.Idle) × DeviceAt q h setup m now)

-- ---- the batch under way

-- how many answers the next step of a queue shows
abbrev pub shows_in : QueueState → ℕ
shows_in state = if is_showing state then length state.batch else 0

-- a batch that it shows isn't empty
abbrev pub ShowsSome : QueueState → Type 0
ShowsSome state = is_showing state ≡ true → 1 ≤ length state.batch

-- each head of a batch has a buffer and a place in the table, and its request reads eight sectors at most
abbrev pub BatchFits : OutstandingRequests → List (ℕ × ℕ) → Type 0
BatchFits outstanding batch = (i : ℕ) (x : ℕ × ℕ) → slice_get batch i ≡ Some x → (x.0 < 64) × (x.0 < size_in outstanding) × ((slot_in outstanding x.0).reads ≤ 8)

-- so does each head of a batch that it shows
abbrev pub ShownFits : OutstandingRequests → QueueState → Type 0
ShownFits outstanding state = is_showing state ≡ true → BatchFits outstanding state.batch

-- ---- a life

abbrev pub queue_batch : Option QueueState → List (ℕ × ℕ)
queue_batch None = []
queue_batch (Some queue) = queue.batch

-- the batch of its queue
abbrev pub batch_in : Option (Option QueueState) → List (ℕ × ℕ)
batch_in None = []
batch_in (Some queue) = queue_batch queue

abbrev pub queue_shown : ℕ → OutstandingRequests → Bytes → Option QueueState → List Answered
queue_shown q outstanding m None = []
queue_shown q outstanding m (Some queue) = shown_of q outstanding m queue

-- the answers to the batch that the next step of its queue shows
abbrev pub answers_shown : ℕ → OutstandingRequests → Bytes → Option (Option QueueState) → List Answered
answers_shown q outstanding m None = []
answers_shown q outstanding m (Some queue) = queue_shown q outstanding m queue

abbrev pub queue_numbers : OutstandingRequests → Option QueueState → List ℕ
queue_numbers outstanding None = []
queue_numbers outstanding (Some queue) = numbers_of outstanding queue

-- the numbers of the requests that its queue works on
abbrev pub numbers_in : OutstandingRequests → Option (Option QueueState) → List ℕ
numbers_in outstanding None = []
numbers_in outstanding (Some queue) = queue_numbers outstanding queue

abbrev pub queue_started : Option QueueState → Bool
queue_started None = false
queue_started (Some queue) = queue.started

-- whether its queue is started
abbrev pub started_in : Option (Option QueueState) → Bool
started_in None = false
started_in (Some queue) = queue_started queue

abbrev pub queue_shows : Option QueueState → ℕ
queue_shows None = 0
queue_shows (Some queue) = shows_in queue

-- how many they are
abbrev pub shown_in : Option (Option QueueState) → ℕ
shown_in None = 0
shown_in (Some queue) = queue_shows queue

-- whether there is a life whose queues aren't attached yet; all are attached at once
abbrev pub is_joining : Option Backend → Bool
is_joining None = false
is_joining (Some b) = not (is_some (queue_in 0 b))
