-- What holds of the in-flight region of a split queue of n descriptors in each phase of a life, before the step in place `done`
-- (vhost-user, "Inflight I/O tracking").
use Rattle.std.specs.Prelude.{◌≡◌, ◌<◌, ◌≤◌, ℕ, ◌+◌, ◌-◌, ◌*◌, ◌/◌, ◌%◌, true, List, length, take, reverse, slice_index}
use Rattle.vub_device.specs.Past.{is_among}
use Rattle.vub_device.specs.Places.{are_distinct}
use Rattle.vub_steps.specs.declared.steps.Phase.{Phase}
use Rattle.vub_steps.specs.declared.steps.Phase.TheVariants as phases
use Rattle.vub_steps.specs.declared.steps.Plan.{Plan}
use Rattle.vub_inflight.specs.Entries.{CountersBelow}
use Rattle.vub_inflight.specs.Links.{links}
use Rattle.vub_infl_split.specs.Region.{RegionWords}
use Rattle.vub_infl_split.specs.Readings.{counted, open_entries}
use Rattle.vub_infl_split.specs.Sound.{Sound}
use Rattle.vub_region_facts.specs.Starts.{Left, IsNoted, InStart}

-- ---- a fetch: the counter, and the entry

-- the entry of this head has the counter that was given last, above all open ones, and isn't in flight
pub record HasCounter (n used head counter : ℕ) (w : RegionWords) : Type 0 where
  pub within : head < n
  pub free : w.inflight head ≡ 0
  pub given : w.counter head + 1 ≡ counter
  pub above : CountersBelow (w.counter head) (open_entries n used w)
  -- it leaves one for the next request
  pub low : w.counter head < 18446744073709551615

pub record InFetch (n used head counter done : ℕ) (w : RegionWords) : Type 0 where
  pub noted : IsNoted used w
  pub given : 0 < done → HasCounter n used head counter w

-- ---- a publication of a batch with these heads

-- distinct entries of the region
pub record IsBatch (n : ℕ) (batch : List ℕ) : Type 0 where
  pub few : length batch ≤ n
  pub distinct : are_distinct batch ≡ true
  pub below : (h : ℕ) → is_among batch h ≡ true → h < n

-- four steps for each element: its id, its length, its link, and last_batch_head. Then come used.idx, a clear for each, and the note
abbrev pub index_step : List ℕ → ℕ
index_step batch = 4 * length batch

abbrev pub note_step : List ℕ → ℕ
note_step batch = 4 * length batch + 1 + length batch

-- the first so many are linked, the last one first
pub record IsLinked (used : ℕ) (batch : List ℕ) (elements : ℕ) (w : RegionWords) : Type 0 where
  pub noted : IsNoted used w
  pub linked : links w.next elements w.last_batch_head ≡ reverse (take elements batch)

-- the used ring shows the batch, and the first so many are cleared
pub record IsShown (used : ℕ) (batch : List ℕ) (elements : ℕ) (w : RegionWords) : Type 0 where
  pub linked : counted used w ≡ reverse batch
  pub clear : (i : ℕ) → is_among (take elements batch) i ≡ true → w.inflight i ≡ 0

pub record InPublication (used : ℕ) (batch : List ℕ) (done : ℕ) (w : RegionWords) : Type 0 where
  pub linked : done ≤ index_step batch → IsLinked used batch (done / 4) w
  -- the next element has its link, and isn't last_batch_head yet
  pub linking : done < index_step batch → done % 4 ≡ 3 → w.next (slice_index batch (done / 4)) ≡ w.last_batch_head
  pub shown : index_step batch < done → done ≤ note_step batch → IsShown used batch (done - (index_step batch + 1)) w
  pub noted : note_step batch < done → IsNoted used w

-- ---- in each phase

-- the fetch is that of this head
abbrev pub InPhase : ℕ → ℕ → ℕ → ℕ → List ℕ → Phase → RegionWords → Type 0
InPhase n used head counter batch (phases.Fetch done) w = InFetch n used head counter done w
InPhase n used head counter batch (phases.Publish done) w = InPublication used batch done w
InPhase n used head counter batch phase w = IsNoted used w

-- a queue that is started: all counters are below the next one
pub record InLife (n used head counter : ℕ) (heads batch : List ℕ) (phase : Phase) (w : RegionWords) : Type 0 where
  pub sound : Sound n used heads w
  pub below : CountersBelow counter (open_entries n used w)
  pub under_way : InPhase n used head counter batch phase w

-- one that isn't, whose start has this plan
abbrev pub NotStarted : ℕ → ℕ → List ℕ → ℕ → Plan → Phase → RegionWords → Type 0
NotStarted n used heads base plan (phases.Start done) w = InStart n used heads base plan done w
NotStarted n used heads base plan phase w = Left n used heads base w
