-- Where a run stands: memory and history, the drivers, and what the device has under way.
use Rattle.std.specs.Prelude.{ℕ, ◌+◌, ◌*◌, Bool, true, false, not, nat_lt, List, [], ◌++◌, length, map, filter, slice_index}
use Rattle.vub_base.specs.declared.header.Header1.{Header1}
use Rattle.vub_steps.specs.declared.steps.Phase.{Phase}
use Rattle.vub_steps.specs.declared.steps.Phase.TheVariants.{Rest}
use Rattle.vub_steps.specs.declared.steps.Plan.{Plan}
use Rattle.vub_steps.specs.declared.steps.Plan.TheVariants.{New}
use Rattle.vub_steps.specs.declared.readiness.Standing.{Standing}
use Rattle.vub_ring.specs.Ring.{ahead, avail_idx, used_idx, head_at}
use Rattle.vub_infl_split.specs.declared.region.SplitRegion.{SplitRegion}
use Rattle.vub_infl_split.specs.Region.{RegionWords, region_size, words_of}
use Rattle.vub_driver.specs.Layout.{inflight_space, ring_of, area_place, buffer_place}
use Rattle.vub_driver.specs.Drivers.{Driver, new_driver}
use Rattle.vub_device.specs.declared.entry.Entry.{Entry}
use Rattle.vub_device.specs.Past.{open_numbers, is_among, started}
use Rattle.vub_run.specs.Memory.{Scene, opening_scene}
use Rattle.vub_steps.specs.Readiness.{last_counter}

-- one queue: its driver, and the device's side of it in this life
pub record Lane : Type 0 where
  pub driver : Driver
  pub attached : Bool
  -- it has a bell
  pub bell : Bool
  pub phase : Phase
  -- what its start found
  pub plan : Plan
  -- the counter of the request that is accepted next
  pub counter : ℕ
  -- the requests that are being published, in order
  pub batch : List ℕ
  -- those whose status stands and that are in no batch, in the order in which they were completed
  pub completed : List ℕ
  -- how many steps of each request were made
  pub made : ℕ → ℕ

pub record Moment : Type 0 where
  pub scene : Scene
  -- there is a life of the device
  pub lives : Bool
  -- and all of its setup was handed on
  pub joined : Bool
  pub lanes : ℕ → Lane

-- the lane of a queue at the begin of a life: the device knows nothing of it
abbrev pub fresh : Lane → Lane
fresh l = record { driver = l.driver; attached = false; bell = false; phase = Rest; plan = New; counter = 0; batch = []; completed = []; made = λ k. 0 }

abbrev pub opening_lane : Header1 → Lane
opening_lane h = record { driver = new_driver h.base; attached = false; bell = false; phase = Rest; plan = New; counter = 0; batch = []; completed = []; made = λ k. 0 }

-- the queue is attached, with its bell
abbrev pub attached : Lane → Lane
attached l = record l { attached = true; bell = true }

abbrev pub opening : Header1 → Moment
opening h = record { scene = opening_scene h; lives = false; joined = false; lanes = λ q. opening_lane h }

-- ---- the words of a queue

-- its part of the in-flight region, where each queue has so many places
abbrev pub region_of : ℕ → ℕ → SplitRegion
region_of q size = record { space = record { number = inflight_space }; place = q * region_size size; size = size }

-- used.idx
abbrev pub used_in : Header1 → ℕ → Scene → ℕ
used_in h q s = used_idx (ring_of q h.size) s.memory

abbrev pub region_in : Header1 → ℕ → Scene → RegionWords
region_in h q s = words_of (region_of q h.size) s.memory

-- ---- what a queue's readiness depends on

-- the index of the avail entry that is fetched next: used.idx advanced by the number of open requests
abbrev pub avail_position : Header1 → ℕ → Scene → ℕ
avail_position h q s = used_in h q s + length (open_numbers s.past q)

-- the head in that entry
abbrev pub next_head : Header1 → ℕ → Scene → ℕ
next_head h q s = head_at (ring_of q h.size) s.memory (avail_position h q s)

-- the accepted requests that aren't completed in this life, rising
abbrev pub unfinished : ℕ → Moment → List ℕ
unfinished q m = filter (λ k. not (is_among ((m.lanes q).completed ++ (m.lanes q).batch) k)) (open_numbers m.scene.past q)

abbrev pub standing : Header1 → ℕ → Moment → Standing
standing h q m = record {
  started = started m.scene.past q;
  phase = (m.lanes q).phase;
  waiting = ahead (avail_idx (ring_of q h.size) m.scene.memory) (avail_position h q m.scene);
  counts = nat_lt (m.lanes q).counter last_counter;
  unfinished = length (unfinished q m);
  completed = length (m.lanes q).completed;
}

-- the buffer of a request, by the head under which it was offered
abbrev pub buffer_of : ℕ → ℕ → Scene → ℕ
buffer_of q k s = buffer_place (area_place q) (slice_index (s.heads q) k)

-- the heads of a queue's open requests, in order, where its requests were offered under these heads
abbrev pub open_heads : ℕ → List Entry → List ℕ → List ℕ
open_heads q past heads = map (slice_index heads) (open_numbers past q)
