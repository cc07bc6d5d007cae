-- The machine stands at a moment of a run.
use Rattle.std.specs.Prelude.{◌≡◌, ◌<◌, ℕ, ◌+◌, ◌%◌, true, false, List, [], ◌∷◌, ◌++◌, length, take, slice_index, slice_get, Bool, Option, Some, None, is_some, ⊤}
use Rattle.vub_base.specs.declared.header.Header1.{Header1}
use Rattle.vub_base.specs.declared.request.Ask.{Ask}
use Rattle.vub_shared.specs.Watched.{bytes_in}
use Rattle.vub_steps.specs.declared.readiness.Turn.{Turn}
use Rattle.vub_steps.specs.Readiness.{last_counter}
use Rattle.vub_steps.specs.declared.steps.Phase.TheVariants.{Rest}
use Rattle.vub_driver.specs.Drivers.{Waiting}
use Rattle.vub_device.specs.declared.entry.Asked.{Asked}
use Rattle.vub_device.specs.declared.entry.Asked.TheVariants as requests
use Rattle.vub_device.specs.declared.entry.Entry.{Entry}
use Rattle.vub_device.specs.Past.{asked, published, collected, is_among, started}
use Rattle.vub_memdisk.specs.MemDisks.{values_of}
use Rattle.vub_schedule.specs.declared.types.Event.{Event}
use Rattle.vub_schedule.specs.declared.types.Event.TheVariants as events
use Rattle.vub_report.specs.declared.items.Item.{Item}
use Rattle.vub_report.specs.declared.items.Record.{Record}
use Rattle.vub_setup.specs.Setups.{SplitSetup}
use Rattle.vub_world.specs.declared.outstanding.OutstandingRequests.{OutstandingRequests}
use Rattle.vub_backend.specs.declared.backend.Backend.{Backend}
use Rattle.vub_world.specs.declared.machine.Machine.{Machine}
use Rattle.vub_world.specs.declared.driver_side.DriverSide.{DriverSide}
use Rattle.vub_world.specs.DriverSides.{Desk, Parts, desk_of, parts_of, setup_of}
use Rattle.vub_world.specs.Lives.{queue_in}
use Rattle.vub_world.specs.WorldBackend.{BackendStands}
use Rattle.vub_world.specs.OutstandingRequests.{offered_in, collected_in, size_in, slot_in}
use Rattle.vub_guest.specs.GuestState.{driver_in, last_used_in}
use Rattle.vub_queue.specs.QueueState.{QueueState}
use Rattle.vub_queue_in_run.specs.QueueAt.{QueueStands, DiskAt}
use Rattle.vub_run.specs.Moments.{Moment}
use Rattle.vub_run.specs.Run.{Stands, Plays, turns}
use Rattle.vub_run.specs.LegalRuns.{IsLegalRun, IsServed, EveryDrainServes}

-- the request that waits to be offered is the one that is kept
abbrev pub AskAt : Option Waiting → Option Ask → Type 0
AskAt None asked = asked ≡ None
AskAt (Some w) asked = asked ≡ Some w.ask

-- memory and driver, at a moment
pub record DriverSideAt (q : ℕ) (d : Desk) (m : Moment) : Type 0 where
  pub memory : bytes_in d.memory ≡ m.scene.memory
  pub driver : driver_in d.side.guest ≡ (m.lanes q).driver
  pub asks : AskAt (m.lanes q).driver.waiting d.side.asked

-- a queue that isn't attached wasn't started, and none of its phases is under way
abbrev pub AttachedAt : ℕ → Header1 → SplitSetup → Moment → Option QueueState → Type 0
AttachedAt q h setup m None = (m.joined ≡ false) × ((m.lanes q).attached ≡ false) × (started m.scene.past q ≡ false) × ((m.lanes q).phase ≡ Rest)
AttachedAt q h setup m (Some queue) = (m.joined ≡ true) × ((m.lanes q).attached ≡ true) × QueueStands q h setup m queue

abbrev pub LifeAt : ℕ → Header1 → SplitSetup → Moment → Option (Option QueueState) → Type 0
LifeAt q h setup m None = m.lives ≡ false
LifeAt q h setup m (Some queue) = (m.lives ≡ true) × AttachedAt q h setup m queue

abbrev pub reads_of : Option Asked → ℕ
reads_of (Some (requests.Read s n)) = n
reads_of r = 0

-- the numbers of a queue's requests: under the head of each that is offered and not collected stand its number and how
-- many sectors it reads
pub record OutstandingAt (q size : ℕ) (past : List Entry) (heads : List ℕ) (outstanding : OutstandingRequests) : Type 0 where
  pub offers_are : offered_in outstanding ≡ length heads
  pub collects_are : collected_in outstanding ≡ collected past q
  pub places : size_in outstanding ≡ size
  pub slots : (k : ℕ) → k < length heads → is_among (take (collected past q) (published past q)) k ≡ false → slot_in outstanding (slice_index heads k) ≡ record { number = k; reads = reads_of (asked past q k) }

-- the parts of queue q, with memory and disk, at a moment
pub record PartsAt (q : ℕ) (p : Parts) (m : Moment) : Type 0 where
  pub side : DriverSideAt q (desk_of p) m
  pub position : last_used_in p.side.guest ≡ (p.side.header.base + collected m.scene.past q) % 65536
  pub life : LifeAt q p.side.header (setup_of p.side) m p.life
  pub disk : DiskAt p.side.header.capacity m.scene.past (values_of p.disk)
  pub outstanding : OutstandingAt q p.side.header.size m.scene.past (m.scene.heads q) p.side.outstanding

-- the machine stands at a moment: each of the header's queues has its parts, and these do
pub record MachineAt (w : Machine) (m : Moment) : Type 0 where
  pub many : length w.sides.items ≡ w.header.queues
  pub queues : (q : ℕ) (side : DriverSide) → slice_get w.sides.items q ≡ Some side → PartsAt q (parts_of q side w) m

-- the machine stands for these events and their records: it and the backend of its life stand at a moment to which they lead
abbrev pub StandsFor : Machine → List Event → List Record → Type 0
StandsFor w es rs = (m : Moment) × Stands w.header es rs m × MachineAt w m × BackendStands w m

-- it stands for some events
abbrev pub IsStanding : Machine → Type 0
IsStanding w = (es : List Event) × (rs : List Record) × StandsFor w es rs

-- the parts of a queue, which is one of the header's, stand for some events
abbrev pub PartsStandFor : ℕ → Parts → List Event → List Record → Type 0
PartsStandFor q p es rs = (m : Moment) × Stands p.side.header es rs m × PartsAt q p m × (q < p.side.header.queues)

abbrev pub PartsStand : ℕ → Parts → Type 0
PartsStand q p = (es : List Event) × (rs : List Record) × PartsStandFor q p es rs

-- whether there is a life in which queue q is attached
abbrev pub is_attached : ℕ → Option Backend → Bool
is_attached q None = false
is_attached q (Some b) = is_some (queue_in q b)

-- A drain of an attached queue serves all. A counter is left for each request, since there are fewer records than counters.
abbrev pub ServesAll : Machine → Event → List Record → Type 0
ServesAll w (events.Drain q) rs = is_attached q w.life ≡ true → length rs < last_counter → IsServed q rs
ServesAll w e rs = ⊤

-- what an event with its record leads to, after these events and records
pub record GoesOn (w now : Machine) (e : Event) (es : List Event) (rs : List Record) : Type 0 where
  pub stands : StandsFor now es rs
  pub runs : IsLegalRun w.header es rs
  -- while the events are fewer than the counters
  pub drained : length es < last_counter → EveryDrainServes rs
  pub serves : ServesAll w e rs

-- for all events and records that a world stood for, it stands for these and one event more with its record
abbrev pub StandsOn : Machine → Machine → Event → Record → Type 0
StandsOn w now e r = (es : List Event) (rs : List Record) → StandsFor w es rs → GoesOn w now e (es ++ e ∷ []) (rs ++ r ∷ [])

-- wherever the machine stood, the event plays with these items, and leads to where it stands now
abbrev pub Performs : Machine → Machine → Event → List Item → Type 0
Performs w now e is = (es : List Event) (rs : List Record) (m : Moment) → Stands w.header es rs m → MachineAt w m → (next : Moment) × Plays w.header m e is next × MachineAt now next

-- a moment of a run, also amid turns of the device
pub record IsReached (q : ℕ) (h : Header1) (m : Moment) : Type 0 where
  pub events : List Event
  pub records : List Record
  pub from : Moment
  pub stands : Stands h events records from
  pub exists : q < h.queues
  pub count : ℕ
  pub choose : Moment → Turn
  pub is : m ≡ (turns count choose h q from).next
