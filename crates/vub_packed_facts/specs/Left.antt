-- What any life of a packed queue leaves to the next one, by the words of its region and of its slots: the region with its
-- open heads, and the slots by running numbers (vhost-user, "Inflight I/O tracking"; VIRTIO 1.2, 2.8).
use Rattle.std.specs.Prelude.{ℕ, ◌+◌, List}
use Rattle.vub_slots.specs.Slots.{SlotWords, slots_of, buffer_slots}
use Rattle.vub_slots.specs.Stands.{DriverSlots, Stand, IsSlots}
use Rattle.vub_infl_packed.specs.Region.{RegionWords, used, old_used}
use Rattle.vub_packed_facts.specs.Chains.{total}
use Rattle.vub_packed_facts.specs.Found.{IsFound}

-- the flags of the slot at the old used position
abbrev pub flags_at_old : RegionWords → SlotWords → ℕ
flags_at_old w s = s.flags (old_used w).index

-- the number of the first slot that isn't shown, of the first that waits after those of the open heads, and of the first that
-- isn't offered
abbrev pub used_number : DriverSlots → ℕ
used_number driver = driver.collected + slots_of driver.shown

abbrev pub avail_number : DriverSlots → RegionWords → List ℕ → ℕ
avail_number driver w heads = used_number driver + total w.num heads

abbrev pub offered_number : DriverSlots → RegionWords → List ℕ → ℕ
offered_number driver w heads = avail_number driver w heads + buffer_slots driver.waiting

-- the slots stand as the region's positions and chains say
abbrev pub SlotFacts : ℕ → DriverSlots → RegionWords → SlotWords → List ℕ → Stand → Type 0
SlotFacts n driver w s heads stand = IsSlots n driver driver.collected (used_number driver) (avail_number driver w heads) (offered_number driver w heads) s (used w) (old_used w) stand

-- what any life finds, whatever store the life before ended with
pub record IsLeft (n : ℕ) (driver : DriverSlots) (w : RegionWords) (s : SlotWords) (free heads : List ℕ) (stand : Stand) : Type 0 where
  pub found : IsFound n (flags_at_old w s) w free heads
  pub slots : SlotFacts n driver w s heads stand
