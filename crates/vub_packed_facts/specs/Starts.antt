-- What holds between two stores of a start of a packed queue of n descriptors over a region that was made (vhost-user,
-- "Inflight I/O tracking").
use Rattle.std.specs.Prelude.{◌≡◌, ◌≤◌, ◌<◌, ℕ, ◌+◌, true, if◌then◌else◌, List, length, take, drop, ⊤}
use Rattle.vub_device.specs.Past.{is_among}
use Rattle.vub_slots.specs.Slots.{SlotWords, IsAvailable}
use Rattle.vub_slots.specs.Stands.{DriverSlots, Stand}
use Rattle.vub_slots.specs.Stands.Stand.{Hidden, Shown}
use Rattle.vub_infl_packed.specs.Readings.{is_committed, same_position, distance}
use Rattle.vub_infl_packed.specs.Region.{RegionWords, used, old_used}
use Rattle.vub_packed_facts.specs.Chains.{IsPath}
use Rattle.vub_packed_facts.specs.Left.{used_number, flags_at_old, IsLeft}

-- which store of a recovery is next
pub data Stage : Type 0 where
  -- a batch of so many slots is committed: PR1, and then PR2
  Commits : (slots : ℕ) → Stage
  Notes : (slots : ℕ) → Stage
  -- one is rolled back: PR3 for each slot, of which so many are done, and then PR4
  RollsBack : (slots done : ℕ) → Stage
  -- the positions agree: PR5
  Agrees : Stage
  -- PR6 of an entry, after so many
  Clears : (entry done : ℕ) → Stage

-- how a start begins
abbrev pub first_stage : ℕ → RegionWords → SlotWords → Stage
first_stage n w s =
    if is_committed (flags_at_old w s) w then Commits (distance n (old_used w) (used w))
    else if same_position (used w) (old_used w) then Agrees
    else RollsBack (distance n (old_used w) (used w)) 0

abbrev pub stand_of : Stage → Stand
stand_of (Commits slots) = Shown slots
stand_of (Notes slots) = Shown slots
stand_of (RollsBack slots done) = Hidden slots
stand_of Agrees = Hidden 0
stand_of (Clears entry done) = Hidden 0

-- the free heads agree, this entry comes next, and those before it aren't in flight
pub record IsClearing (n : ℕ) (w : RegionWords) (free : List ℕ) (entry done : ℕ) : Type 0 where
  pub agree : w.free_head ≡ w.old_free_head
  pub upto : done ≤ length free
  pub rest : IsPath w.next entry (drop done free) n
  pub clear : (i : ℕ) → is_among (take done free) i ≡ true → w.inflight i ≡ 0

abbrev pub InStage : ℕ → DriverSlots → RegionWords → SlotWords → List ℕ → Stage → Type 0
InStage n driver w s free (Commits slots) = ⊤
InStage n driver w s free (Notes slots) = w.old_free_head ≡ w.free_head
InStage n driver w s free (RollsBack slots done) = (done ≤ slots) × ((p : ℕ) → used_number driver ≤ p → p < used_number driver + done → IsAvailable n s.flags p)
InStage n driver w s free Agrees = ⊤
InStage n driver w s free (Clears entry done) = IsClearing n w free entry done

-- a recovery before the store of this stage; what it was left stays, so one that is cut off anywhere begins again
pub record InRecovery (n : ℕ) (driver : DriverSlots) (w : RegionWords) (s : SlotWords) (free heads : List ℕ) (stage : Stage) : Type 0 where
  pub left : IsLeft n driver w s free heads (stand_of stage)
  pub stage_is : InStage n driver w s free stage

-- no store is left: the positions and the free heads agree, and no free entry is in flight
pub record IsRecovered (n : ℕ) (driver : DriverSlots) (w : RegionWords) (s : SlotWords) (free heads : List ℕ) : Type 0 where
  pub left : IsLeft n driver w s free heads (Hidden 0)
  pub agree : w.free_head ≡ w.old_free_head
  pub quiet : (i : ℕ) → is_among free i ≡ true → w.inflight i ≡ 0
