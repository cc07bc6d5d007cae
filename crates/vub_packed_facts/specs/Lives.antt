-- What holds between two stores of a life of a packed queue of n descriptors (vhost-user, "Inflight I/O tracking"; VIRTIO 1.2,
-- 2.8).
use Rattle.std.specs.Prelude.{◌≡◌, ◌≢◌, ◌≤◌, ◌<◌, ℕ, ◌+◌, ◌-◌, true, false, List, [], ◌∷◌, ◌++◌, length, take, drop, reverse, slice_index}
use Rattle.vub_device.specs.Past.{is_among}
use Rattle.vub_slots.specs.Slots.{SlotWords, Buffer}
use Rattle.vub_slots.specs.Stands.{DriverSlots, Stand}
use Rattle.vub_slots.specs.Stands.Stand.{Hidden, Shown}
use Rattle.vub_inflight.specs.Entries.{CountersBelow}
use Rattle.vub_infl_packed.specs.Readings.{open_entries}
use Rattle.vub_infl_packed.specs.Region.{RegionWords}
use Rattle.vub_packed_facts.specs.Chains.{IsPath, chains, total}
use Rattle.vub_packed_facts.specs.Found.{AreQuiet}
use Rattle.vub_packed_facts.specs.Left.{flags_at_old, IsLeft}

-- ---- at rest

-- the free heads agree, and no free entry is in flight
pub record IsIdle (w : RegionWords) (free : List ℕ) : Type 0 where
  pub agree : w.free_head ≡ w.old_free_head
  pub quiet : AreQuiet w free

-- ---- a fetch

-- which store is next
pub data FetchStep : Type 0 where
  -- that of this row, for a head
  AtPF1 : (head : ℕ) → FetchStep
  AtPF2 : (head : ℕ) → FetchStep
  AtPF3 : (head : ℕ) → FetchStep
  -- so many entries are taken: PF4 where one is left, PF5 where more are, PF9 where none is
  Takes : (head taken : ℕ) → FetchStep
  -- that of this row, for the next entry
  AtPF5 : (head taken : ℕ) → FetchStep
  AtPF6 : (head taken : ℕ) → FetchStep
  AtPF7 : (head taken : ℕ) → FetchStep
  AtPF8 : (head taken : ℕ) → FetchStep

-- the buffer that waits first is fetched into the first entries of the free list, of which there are enough
pub record IsBegun (driver : DriverSlots) (buffer : Buffer) (free : List ℕ) (head : ℕ) : Type 0 where
  pub first : free ≡ head ∷ drop 1 free
  pub room : buffer.slots ≤ length free
  pub some : 0 < buffer.slots
  pub waits : driver.waiting ≡ buffer ∷ drop 1 driver.waiting

-- so many are taken and so many counted; the head alone is in flight. Once all are taken, `last` and the last one's id stand
pub record IsTaking (n : ℕ) (driver : DriverSlots) (buffer : Buffer) (counter : ℕ) (w : RegionWords) (free : List ℕ) (head taken counted : ℕ) : Type 0 where
  pub begun : IsBegun driver buffer free head
  pub upto : taken ≤ buffer.slots
  pub rest : IsPath w.next w.free_head (drop taken free) n
  pub quiet : (i : ℕ) → is_among free i ≡ true → i ≢ head → w.inflight i ≡ 0
  pub num : w.num head ≡ counted
  pub given : w.counter head + 1 ≡ counter
  pub flight : w.inflight head ≡ 1
  pub last : taken ≡ buffer.slots → w.last head ≡ slice_index free (buffer.slots - 1)
  pub id : taken ≡ buffer.slots → w.id (slice_index free (buffer.slots - 1)) ≡ buffer.id

-- the next entry is counted; where it is the last one, `last` names it
pub record IsTakingNext (n : ℕ) (driver : DriverSlots) (buffer : Buffer) (counter : ℕ) (w : RegionWords) (free : List ℕ) (head taken counted : ℕ) : Type 0 where
  pub taking : IsTaking n driver buffer counter w free head taken counted
  pub more : taken < buffer.slots
  pub named : taken + 1 ≡ buffer.slots → w.last head ≡ w.free_head

abbrev pub InFetchStep : ℕ → DriverSlots → Buffer → ℕ → RegionWords → List ℕ → FetchStep → Type 0
InFetchStep n driver buffer counter w free (AtPF1 head) = IsIdle w free × IsBegun driver buffer free head
InFetchStep n driver buffer counter w free (AtPF2 head) = IsIdle w free × IsBegun driver buffer free head × (w.num head ≡ 0)
InFetchStep n driver buffer counter w free (AtPF3 head) = IsIdle w free × IsBegun driver buffer free head × (w.num head ≡ 0) × (w.counter head + 1 ≡ counter)
InFetchStep n driver buffer counter w free (Takes head taken) = IsTaking n driver buffer counter w free head taken taken
InFetchStep n driver buffer counter w free (AtPF5 head taken) = IsTakingNext n driver buffer counter w free head taken taken
InFetchStep n driver buffer counter w free (AtPF6 head taken) = IsTakingNext n driver buffer counter w free head taken (taken + 1)
InFetchStep n driver buffer counter w free (AtPF7 head taken) = IsTakingNext n driver buffer counter w free head taken (taken + 1)
InFetchStep n driver buffer counter w free (AtPF8 head taken) = IsTakingNext n driver buffer counter w free head taken (taken + 1) × (w.id w.free_head ≡ buffer.id)

-- the counters of the open heads are below the queue's, or below that of the fetch under way
abbrev pub bound : ℕ → FetchStep → ℕ
bound counter (AtPF1 head) = counter
bound counter (AtPF2 head) = counter
bound counter step = counter - 1

-- between two stores of a fetch
pub record InFetch (n : ℕ) (driver : DriverSlots) (buffer : Buffer) (counter : ℕ) (w : RegionWords) (s : SlotWords) (free heads : List ℕ) (step : FetchStep) : Type 0 where
  pub left : IsLeft n driver w s free heads (Hidden 0)
  pub below : CountersBelow (bound counter step) (open_entries n (flags_at_old w s) w)
  pub step_is : InFetchStep n driver buffer counter w free step

-- a queue that is started, with no fetch and no batch under way
pub record IsAtRest (n : ℕ) (driver : DriverSlots) (counter : ℕ) (w : RegionWords) (s : SlotWords) (free heads : List ℕ) : Type 0 where
  pub left : IsLeft n driver w s free heads (Hidden 0)
  pub below : CountersBelow counter (open_entries n (flags_at_old w s) w)
  pub idle : IsIdle w free
