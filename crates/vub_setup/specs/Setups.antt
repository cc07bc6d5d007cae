-- Where the rings of a queue and its part of the in-flight region lie (VIRTIO 1.2, 2.7 and 2.8; vhost-user, "Inflight I/O tracking").
use Rattle.std.specs.Prelude.{◌≡◌, ℕ, Bool, if◌then◌else◌, Option, Some, None, ⊤}
use Rattle.vub_infl_packed.specs.Region as packed_region
use Rattle.vub_infl_split.specs.Region as split_region
use Rattle.vub_infl_split.specs.declared.region.SplitRegion.{SplitRegion}
use Rattle.vub_packed.specs.Packed as packed
use Rattle.vub_setup.specs.declared.setup.QueueSetup.{QueueSetup}
use Rattle.vub_setup.specs.declared.setup.Rings.{Rings}
use Rattle.vub_setup.specs.declared.setup.Rings.TheVariants.{Split, Packed}
use Rattle.vub_split.specs.Split as split
use Rattle.vub_split.specs.declared.split.SplitRing.{SplitRing}

-- the bytes of the region of a queue with so many descriptors
abbrev pub region_size : Bool → ℕ → ℕ
region_size is_packed n = if is_packed then packed_region.region_size n else split_region.region_size n

-- ring and region lie in their spaces at their alignments, and have the same size
abbrev pub RingsLie : (ℕ → ℕ) → Rings → Type 0
RingsLie sizes (Split ring region) = split.RingLies sizes ring × split_region.RegionLies sizes region × (region.size ≡ ring.size)
RingsLie sizes (Packed ring region) = packed.RingLies sizes ring × packed_region.RegionLies sizes region × (region.size ≡ ring.size)

-- the conditions of a queue on its setup
abbrev pub SetupLies : (ℕ → ℕ) → QueueSetup → Type 0
SetupLies sizes s = RingsLie sizes s.rings

-- ---- split queues

-- these are the rings of a split queue
abbrev pub IsSplit : Rings → Type 0
IsSplit (Split ring region) = ⊤
IsSplit (Packed ring region) = ⊥

-- how many places the rings have
abbrev pub places_of : Rings → ℕ
places_of (Split ring region) = ring.size
places_of (Packed ring region) = ring.size

-- how a split queue is set up: its number, where its rings and its part of the in-flight region lie, the index at which
-- the rings begin, and whether the driver is told of what was published
pub record SplitSetup : Type 0 where
  pub index : ℕ
  pub ring : SplitRing
  pub region : SplitRegion
  pub base : ℕ
  pub bell : Bool

-- what a set-up says of a split queue
abbrev pub split_in : QueueSetup → Rings → Option SplitSetup
split_in setup (Split ring region) = Some (record { index = setup.index; ring = ring; region = region; base = setup.base; bell = setup.bell })
split_in setup (Packed ring region) = None

abbrev pub split_of : QueueSetup → Option SplitSetup
split_of setup = split_in setup setup.rings
