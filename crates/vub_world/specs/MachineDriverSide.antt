-- What a step of the driver leaves in the machine, and which items it notes.
use Rattle.std.specs.Prelude.{◌≡◌, ◌<◌, ◌≤◌, ℕ, ◌+◌, ◌==◌, if◌then◌else◌, Bool, false, nat_lt, List, [], ◌∷◌, ◌++◌, length, Option, Some, None, ⊤}
use Rattle.std.specs.List.{AllByRecursion}
use Rattle.vub_base.specs.declared.store.Tag.{Tag}
use Rattle.vub_base.specs.declared.store.Area.{Area}
use Rattle.vub_base.specs.declared.store.Area.TheVariants.{M, I}
use Rattle.vub_shared.specs.Stores.{Store}
use Rattle.vub_shared.specs.Bytes.{Bytes}
use Rattle.vub_driver.specs.Drivers.{Waiting}
use Rattle.vub_report.specs.declared.items.Item.{Item}
use Rattle.vub_report.specs.declared.items.Item.TheVariants as items
use Rattle.vub_guest.specs.declared.guest.Collected.TheVariants as takes
use Rattle.vub_world.specs.declared.driver_side.DriverSide.{DriverSide}
use Rattle.vub_world.specs.declared.outstanding.OutstandingRequests.{OutstandingRequests}
use Rattle.vub_world.specs.DriverSides.{Desk}
use Rattle.vub_world.specs.OutstandingRequests.{offered_in, collected_in, size_in, slot_in, Offers}
use Rattle.vub_guest.specs.GuestState.{ring_in, driver_in, last_used_in, Shows, Collects}
use Rattle.vub_run.specs.Memory.{space_of}
use Rattle.vub_run.specs.Moments.{Moment}
use Rattle.vub_run.specs.Run.{guest_stores}
use Rattle.vub_world.specs.MachineAt.{AskAt, DriverSideAt}

-- the area that a space is
abbrev pub area_of : ℕ → Area
area_of space = if space == 0 then M else I

-- a store into this area of eight sectors at most
pub record IsSmall (area : Area) (st : Store) : Type 0 where
  pub space : st.space ≡ space_of area
  pub few : length st.bytes ≤ 4096

-- the driver's are into guest memory
abbrev pub AreSmall : Option Waiting → Type 0
AreSmall None = ⊤
AreSmall (Some w) = AllByRecursion (IsSmall M) w.left

-- the head of the request that waits has a place in the table of outstanding requests
abbrev pub HeadHasPlace : OutstandingRequests → Option Waiting → Type 0
HeadHasPlace outstanding None = ⊤
HeadHasPlace outstanding (Some x) = x.head < size_in outstanding

-- the request that waits is kept, and all that is noted of it has room
pub record DriverSideFits (side : DriverSide) : Type 0 where
  pub stores : AreSmall (driver_in side.guest).waiting
  pub kept : AskAt (driver_in side.guest).waiting side.asked
  pub place : HeadHasPlace side.outstanding (driver_in side.guest).waiting

abbrev pub store_item : Tag → Store → Item
store_item tag st = items.Store tag (area_of st.space) st.place st.bytes

-- the one store that is kept is small
abbrev pub OneSmall : List Store → Type 0
OneSmall (st ∷ []) = IsSmall (area_of st.space) st
OneSmall sts = ⊥

-- the outstanding requests after so many stores of a request: it is one of them with its last store, under its head
pub record OutstandingGoes (count : ℕ) (x : Waiting) (w now : Desk) : Type 0 where
  pub before : count < length x.left → now.side.outstanding ≡ w.side.outstanding
  pub offers : length x.left ≤ count → Offers w.side.outstanding now.side.outstanding x.head x.ask

-- from a moment on so many stores of the driver lead to where the machine stands, and have these items; more tells
-- whether some are left
pub record GuestGoes (q count : ℕ) (x : Waiting) (w now : Desk) (m : Moment) (before after : List Item) : Type 0 where
  pub side : DriverSideAt q now (guest_stores w.side.header q count (Some x) m).next
  pub items : after ≡ before ++ (guest_stores w.side.header q count (Some x) m).items
  pub outstanding : OutstandingGoes count x w now

-- one store; none where no request waits
abbrev pub GuestSteps : ℕ → Option Waiting → Desk → Desk → Moment → List Item → List Item → Bool → Type 0
GuestSteps q None w now m before after more = (more ≡ false) × DriverSideAt q now m × (after ≡ before) × (now.side.outstanding ≡ w.side.outstanding)
GuestSteps q (Some x) w now m before after more = (more ≡ nat_lt 1 (length x.left)) × GuestGoes q 1 x w now m before after

-- ---- what the driver takes

-- a request that is shown has a place in the table, and one is left to be collected
pub record HasPlace (side : DriverSide) (head : ℕ) : Type 0 where
  pub below : head < size_in side.outstanding
  pub left : collected_in side.outstanding < offered_in side.outstanding

-- the request whose element the driver sees has
abbrev pub HasPlaces : Bytes → DriverSide → Type 0
HasPlaces m side = (head : ℕ) → Shows (takes.Head head) (ring_in side.guest) m (last_used_in side.guest) → HasPlace side head

-- what the table of outstanding requests notes of a collection
pub record TakesOne (before now : OutstandingRequests) : Type 0 where
  pub collects : collected_in now ≡ collected_in before + 1
  pub offers : offered_in now ≡ offered_in before
  pub places : size_in now ≡ size_in before
  pub slots : (d : ℕ) → slot_in now d ≡ slot_in before d

-- a request was taken, from under the head that memory shows
pub record TakesHead (m : Bytes) (side now : DriverSide) (number : ℕ) : Type 0 where
  pub head : ℕ
  pub shown : Shows (takes.Head head) (ring_in side.guest) m (last_used_in side.guest)
  pub driver : Collects (takes.Head head) (driver_in side.guest) (driver_in now.guest) (last_used_in side.guest) (last_used_in now.guest)
  pub takes : TakesOne side.outstanding now.outstanding
  pub is : number ≡ (slot_in side.outstanding head).number

-- none is shown, and nothing changes
pub record TakesNone (m : Bytes) (side now : DriverSide) : Type 0 where
  pub shown : Shows takes.Nothing (ring_in side.guest) m (last_used_in side.guest)
  pub driver : Collects takes.Nothing (driver_in side.guest) (driver_in now.guest) (last_used_in side.guest) (last_used_in now.guest)
  pub outstanding : now.outstanding ≡ side.outstanding

-- the number of the request that was taken, if one is shown
abbrev pub TakesFirst : Bytes → DriverSide → DriverSide → Option ℕ → Type 0
TakesFirst m side now None = TakesNone m side now
TakesFirst m side now (Some number) = TakesHead m side now number
