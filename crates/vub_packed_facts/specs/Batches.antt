-- What holds between two stores of the publication of a batch by a packed queue of n descriptors (vhost-user, "Inflight I/O
-- tracking"; VIRTIO 1.2, 2.8).
use Rattle.std.specs.Prelude.{◌≡◌, ◌≤◌, ◌<◌, ℕ, ◌+◌, ◌-◌, true, false, List, [], ◌∷◌, ◌++◌, length, take, drop, reverse, slice_index}
use Rattle.vub_base.specs.declared.position.Position.{Position}
use Rattle.vub_base.specs.Positions.{advanced}
use Rattle.vub_device.specs.Past.{is_among}
use Rattle.vub_slots.specs.Slots.{SlotWords, Element, Shows}
use Rattle.vub_slots.specs.Stands.{DriverSlots, Stand}
use Rattle.vub_slots.specs.Stands.Stand.{Hidden, Shown}
use Rattle.vub_inflight.specs.Entries.{CountersBelow}
use Rattle.vub_infl_packed.specs.Readings.{open_entries}
use Rattle.vub_infl_packed.specs.Region.{RegionWords, old_used}
use Rattle.vub_packed_facts.specs.Chains.{IsPath, chains, total}
use Rattle.vub_packed_facts.specs.Found.{IsBatch, AreQuiet}
use Rattle.vub_packed_facts.specs.Left.{flags_at_old, used_number, IsLeft}

-- which store is next
pub data BatchStep : Type 0 where
  -- so many elements are linked: PP1 of the next one, or PP3 after the last; and PP2 of that one
  Linked : (done : ℕ) → BatchStep
  AtPP2 : (done : ℕ) → BatchStep
  -- that of this row, where so many elements stand in their slots, the last first
  AtPP4 : (shown : ℕ) → BatchStep
  AtPP5 : (shown : ℕ) → BatchStep
  AtPP6 : (shown : ℕ) → BatchStep
  -- so many heads are cleared: PP7 of the next one, or PP8 after the last; and PP9
  Cleared : (done : ℕ) → BatchStep
  AtPP9 : BatchStep

-- the elements of these heads: each with its id, its used length, and the slots of its chain
abbrev pub elements_of : RegionWords → (ℕ → ℕ) → List ℕ → List Element
elements_of w lens [] = []
elements_of w lens (h ∷ hs) = record { id = w.id (w.last h); len = lens h; slots = w.num h } ∷ elements_of w lens hs

-- the element that is shown next, its head, and its slot: behind those of the elements before it
abbrev pub element_at : List ℕ → ℕ → ℕ
element_at batch shown = length batch - 1 - shown

abbrev pub head_at : List ℕ → ℕ → ℕ
head_at batch shown = slice_index batch (element_at batch shown)

abbrev pub place_at : ℕ → RegionWords → List ℕ → ℕ → Position
place_at n w batch shown = advanced n (old_used w) (total w.num (take (element_at batch shown) batch))

-- the free list from the new head on: the chains that are linked, the last one first, and the old list
pub record IsLinking (n : ℕ) (w : RegionWords) (free heads batch : List ℕ) (done : ℕ) : Type 0 where
  pub batch_is : IsBatch batch heads
  pub upto : done ≤ length batch
  pub linked : IsPath w.next w.free_head (chains w.next w.num (reverse (take done batch)) ++ free) n
  pub quiet : AreQuiet w free

-- all chains are linked, and the elements that were written stand one after another
pub record IsShowing (n : ℕ) (driver : DriverSlots) (w : RegionWords) (s : SlotWords) (free heads batch : List ℕ) (lens : ℕ → ℕ) (shown : ℕ) : Type 0 where
  pub batch_is : IsBatch batch heads
  pub more : shown < length batch
  pub linked : IsPath w.next w.free_head (chains w.next w.num (reverse batch) ++ free) n
  pub quiet : AreQuiet w free
  pub carried : Shows n s (used_number driver + total w.num (take (length batch - shown) batch)) (elements_of w lens (drop (length batch - shown) batch))

-- the heads of the batch are free, and no other free entry is in flight, nor are those that were cleared
pub record IsShownBatch (w : RegionWords) (free batch : List ℕ) (done : ℕ) : Type 0 where
  pub upto : done ≤ length batch
  pub held : (i : ℕ) → is_among batch i ≡ true → is_among free i ≡ true
  pub quiet : (i : ℕ) → is_among free i ≡ true → is_among batch i ≡ false → w.inflight i ≡ 0
  pub clear : (i : ℕ) → is_among (take done batch) i ≡ true → w.inflight i ≡ 0

abbrev pub InBatchStep : ℕ → DriverSlots → RegionWords → SlotWords → List ℕ → List ℕ → List ℕ → (ℕ → ℕ) → BatchStep → Type 0
InBatchStep n driver w s free heads batch lens (Linked done) = IsLinking n w free heads batch done
InBatchStep n driver w s free heads batch lens (AtPP2 done) = IsLinking n w free heads batch done × (done < length batch) × (w.next (w.last (slice_index batch done)) ≡ w.free_head)
InBatchStep n driver w s free heads batch lens (AtPP4 shown) = IsShowing n driver w s free heads batch lens shown
InBatchStep n driver w s free heads batch lens (AtPP5 shown) = IsShowing n driver w s free heads batch lens shown × (s.len (place_at n w batch shown).index ≡ lens (head_at batch shown))
InBatchStep n driver w s free heads batch lens (AtPP6 shown) =
    IsShowing n driver w s free heads batch lens shown × (s.len (place_at n w batch shown).index ≡ lens (head_at batch shown)) × (s.id (place_at n w batch shown).index ≡ w.id (w.last (head_at batch shown)))
InBatchStep n driver w s free heads batch lens (Cleared done) = IsShownBatch w free batch done
InBatchStep n driver w s free heads batch lens AtPP9 = IsShownBatch w free batch (length batch) × (w.old_free_head ≡ w.free_head)

-- the slots of a batch are hidden behind its first one until that is shown; once it is noted, none are
abbrev pub stand_of_batch : ℕ → BatchStep → Stand
stand_of_batch slots (Linked done) = Hidden 0
stand_of_batch slots (AtPP2 done) = Hidden 0
stand_of_batch slots (AtPP4 shown) = Hidden slots
stand_of_batch slots (AtPP5 shown) = Hidden slots
stand_of_batch slots (AtPP6 shown) = Hidden slots
stand_of_batch slots (Cleared done) = Shown slots
stand_of_batch slots AtPP9 = Shown slots

-- between two stores of a publication, where the elements have these used lengths
pub record InBatch (n : ℕ) (driver : DriverSlots) (counter : ℕ) (w : RegionWords) (s : SlotWords) (free heads batch : List ℕ) (lens : ℕ → ℕ) (step : BatchStep) : Type 0 where
  pub left : IsLeft n driver w s free heads (stand_of_batch (total w.num batch) step)
  pub below : CountersBelow counter (open_entries n (flags_at_old w s) w)
  pub step_is : InBatchStep n driver w s free heads batch lens step
