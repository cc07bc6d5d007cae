-- The parts of a world that belong to one queue.
use Rattle.std.specs.Prelude.{◌≡◌, ◌<◌, ◌≤◌, ℕ, ◌+◌, true, List, [], ◌∷◌, length, slice_get, Option, Some, None}
use Rattle.vub_base.specs.declared.header.Header1.{Header1}
use Rattle.vub_driver.specs.Drivers.{new_driver}
use Rattle.vub_driver.specs.Layout.{ring_of, area_place}
use Rattle.vub_guest.specs.GuestState.{driver_in, last_used_in}
use Rattle.vub_guest.specs.GuestState.{ring_in as guest_ring}
use Rattle.vub_infl_split.specs.Region.{RegionLies}
use Rattle.vub_memdisk.specs.MemDisks.{capacity_of}
use Rattle.vub_memdisk.specs.declared.mem_disk.MemDisk.{MemDisk}
use Rattle.vub_queue_in_run.specs.QueueAt.{LiesAs}
use Rattle.vub_schedule.specs.Spelling.{IsHeader}
use Rattle.vub_shared.specs.Watched.{IsUnfailed, sizes_in}
use Rattle.vub_shared.specs.declared.watched_shared.WatchedShared.{WatchedShared}
use Rattle.vub_world.specs.declared.driver_side.DriverSide.{DriverSide}
use Rattle.vub_world.specs.declared.machine.Machine.{Machine}
use Rattle.vub_world.specs.Lives.{IsOnInLife, life_of, queue_in}
use Rattle.vub_world.specs.OutstandingRequests.{offered_in, collected_in, size_in}
use Rattle.vub_setup.specs.Setups.{SplitSetup}
use Rattle.vub_queue.specs.QueueState.{QueueState, IsNew}
use Rattle.vub_backend.specs.declared.backend.Backend.{Backend}
use Rattle.vub_backend.specs.Backends.{attached_in}

-- ---- what a queue has, and what it shares with the others

-- what the driver of a queue works on
pub record Desk : Type 0 where
  pub memory : WatchedShared
  pub side : DriverSide

abbrev pub desk : WatchedShared → DriverSide → Desk
desk memory side = record { memory = memory; side = side }

-- what a queue has in all: memory and disk are those of every queue, and of a life it has one queue
pub record Parts : Type 0 where
  pub memory : WatchedShared
  pub side : DriverSide
  pub life : Option (Option QueueState)
  pub disk : MemDisk

-- the parts of a queue in a life
abbrev pub parts : WatchedShared → DriverSide → Option QueueState → MemDisk → Parts
parts memory side queue disk = record { memory = memory; side = side; life = Some queue; disk = disk }

-- the queue of a side in a backend, where it is attached
abbrev pub queue_of : DriverSide → Backend → Option QueueState
queue_of side b = queue_in side.index b

-- its parts there
abbrev pub parts_in : WatchedShared → DriverSide → Backend → MemDisk → Parts
parts_in memory side b disk = parts memory side (queue_of side b) disk

-- what its driver works on
abbrev pub desk_of : Parts → Desk
desk_of p = desk p.memory p.side

-- the parts of queue q in a machine
abbrev pub parts_of : ℕ → DriverSide → Machine → Parts
parts_of q side w = record { memory = w.memory; side = side; life = life_of q w.life; disk = w.disk }

-- how the device's queue is set up
abbrev pub setup_of : DriverSide → SplitSetup
setup_of side = record { index = side.index; ring = side.ring; region = side.region; base = side.header.base; bell = true }

-- ---- how many requests were offered

abbrev pub offered_by : List DriverSide → ℕ
offered_by [] = 0
offered_by (side ∷ sides) = offered_in side.outstanding + offered_by sides

-- by all drivers of a machine
abbrev pub offers_in : Machine → ℕ
offers_in w = offered_by w.sides.items

-- ---- between two steps

-- the queue is one of the header's, driver and set-up are those of its area and of its part of the in-flight region,
-- memory has both, and no call of memory has failed
pub record DriverSideSound (memory : WatchedShared) (side : DriverSide) : Type 0 where
  pub header : IsHeader side.header
  pub exists : side.index < side.header.queues
  pub guest : guest_ring side.guest ≡ ring_of side.index side.header.size
  pub setup : LiesAs side.index (setup_of side) side.header.size
  pub space : side.space.number ≡ 0
  pub room : area_place side.index + 1048576 ≤ sizes_in memory 0
  pub region : RegionLies (sizes_in memory) side.region
  pub unfailed : IsUnfailed memory

-- the side is the one of queue q, an attached queue is on its rings, and the disk has the header's capacity
pub record PartsSound (q : ℕ) (p : Parts) : Type 0 where
  pub index : p.side.index ≡ q
  pub side : DriverSideSound p.memory p.side
  pub queue : IsOnInLife (setup_of p.side) p.life
  pub disk : capacity_of p.disk ≡ p.side.header.capacity

-- ---- new parts

-- the side of queue q before its driver's first step
pub record IsNewDriverSide (h : Header1) (q : ℕ) (side : DriverSide) : Type 0 where
  pub header : side.header ≡ h
  pub index : side.index ≡ q
  pub guest : guest_ring side.guest ≡ ring_of q h.size
  pub setup : LiesAs q (setup_of side) h.size
  pub space : side.space.number ≡ 0
  pub driver : driver_in side.guest ≡ new_driver h.base
  pub position : last_used_in side.guest ≡ h.base
  pub asked : side.asked ≡ None
  pub offered : offered_in side.outstanding ≡ 0
  pub collected : collected_in side.outstanding ≡ 0
  pub places : size_in side.outstanding ≡ h.size

-- these are the new sides of the first so many queues
pub record AreNewDriverSides (h : Header1) (count : ℕ) (sides : List DriverSide) : Type 0 where
  pub many : length sides ≡ count
  pub each : (q : ℕ) (side : DriverSide) → slice_get sides q ≡ Some side → IsNewDriverSide h q side

-- the first so many queues are attached by the set-ups of their sides, and none is started
abbrev pub AreNewQueues : ℕ → List DriverSide → List (Option QueueState) → Type 0
AreNewQueues count sides queues = (q : ℕ) (side : DriverSide) → q < count → slice_get sides q ≡ Some side → (s : QueueState) × (attached_in queues q ≡ Some s) × IsNew (setup_of side) s
