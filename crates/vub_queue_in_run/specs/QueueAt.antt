-- The device's side of a queue stands at a moment of a run.
use Rattle.std.specs.Prelude.{◌≡◌, ◌<◌, ℕ, ◌+◌, ◌*◌, ◌%◌, Bool, true, false, not, List, ◌++◌, length, map, filter, slice_get, slice_index, slice_range, get_or, [], Some, None}
use Rattle.vub_base.specs.declared.header.Header1.{Header1}
use Rattle.vub_steps.specs.declared.steps.Phase.{Phase}
use Rattle.vub_steps.specs.declared.steps.Plan.{Plan}
use Rattle.vub_infl_split.specs.Region.{RegionWords}
use Rattle.vub_rec_split.specs.Starts.{StartLies}
use Rattle.vub_driver.specs.Layout.{area_place, buffer_place}
use Rattle.vub_device.specs.declared.entry.Asked.{Asked}
use Rattle.vub_device.specs.declared.entry.Entry.{Entry}
use Rattle.vub_disk.specs.Values.{Values}
use Rattle.vub_device.specs.Crash.{value}
use Rattle.vub_device.specs.Past.{asked, accepted, published, open_numbers, is_among, started, bytes_read}
use Rattle.vub_steps.specs.Tasks.{Put, task_steps}
use Rattle.vub_run.specs.Moments.{Moment, region_of, region_in, open_heads}
use Rattle.vub_run.specs.Turns.{len_of}
use Rattle.vub_queue.specs.QueueParts.{is_taken}
use Rattle.vub_queue.specs.QueueFacts.{hidden_part, hidden_in, KeepsHeads, kept_phase, StartsAt, kept_head}
use Rattle.vub_queue.specs.QueueState.{QueueState, new_recovery}
use Rattle.vub_task.specs.TaskState.{IsTaskAt, head_in}
use Rattle.vub_setup.specs.Setups.{SplitSetup}
use Rattle.vub_task.specs.declared.task.Task.{Task}

-- ---- what it keeps, by the numbers of a run

-- head and used length of the k-th request
abbrev pub spot_of : ℕ → Header1 → List Entry → List ℕ → ℕ → ℕ × ℕ
spot_of q h past heads k = (slice_index heads k, len_of h (asked past q k))

-- the accepted requests that aren't completed, rising
abbrev pub left_of : ℕ → List Entry → List ℕ → List ℕ → List ℕ
left_of q past completed batch = filter (λ k. not (is_among (completed ++ batch) k)) (open_numbers past q)

-- the task of the k-th request, of which so many steps were made
pub record TaskAt (q : ℕ) (h : Header1) (setup : SplitSetup) (past : List Entry) (heads : List ℕ) (k made : ℕ) (task : Task) : Type 0 where
  pub head : head_in task ≡ slice_index heads k
  pub stands : (request : Asked) → asked past q k ≡ Some request → IsTaskAt h setup.ring (buffer_place (area_place q) (slice_index heads k)) request made task

-- used.idx, by what is published
abbrev pub used_after : Header1 → ℕ → List Entry → ℕ
used_after h q past = (h.base + length (published past q)) % 65536

-- a queue of n places holds no request: none is unfinished, and no head is taken
pub record HoldsNothing (n : ℕ) (state : QueueState) : Type 0 where
  pub unfinished : state.unfinished ≡ []
  pub taken : (head : ℕ) → head < n → is_taken state.taken head ≡ false

-- of a batch these are hidden
pub record QueueAt (q : ℕ) (h : Header1) (setup : SplitSetup) (past : List Entry) (heads : List ℕ) (at_phase : Phase) (in_batch ready : List ℕ) (made : ℕ → ℕ) (state : QueueState) : Type 0 where
  pub ring : state.ring ≡ setup.ring
  pub runs : state.stopped ≡ None
  pub phase : state.phase ≡ kept_phase at_phase
  pub batch : hidden_in state ≡ map (spot_of q h past heads) in_batch
  pub completed : state.completed ≡ map (spot_of q h past heads) ready
  -- once it is started it keeps the open heads, and before that nothing
  pub keeps : started past q ≡ true → KeepsHeads setup.ring.size (open_heads q past heads) (used_after h q past) state
  pub nothing : started past q ≡ false → HoldsNothing setup.ring.size state
  pub started : state.started ≡ started past q
  -- the tasks of the requests that are left, in order
  pub tasks : (i k : ℕ) (task : Task) → slice_get (left_of q past ready in_batch) i ≡ Some k → slice_get state.unfinished i ≡ Some task → TaskAt q h setup past heads k (made k) task
  -- between a look and its store, what was read stands at the head
  pub buffers : length state.sectors ≡ setup.ring.size
  pub places : length state.taken ≡ setup.ring.size
  pub sectors : (k place : ℕ) (request : Asked) → is_among (left_of q past ready in_batch) k ≡ true → asked past q k ≡ Some request → slice_get (task_steps h request) (made k) ≡ Some (Put place)
      → get_or state.sectors (slice_index heads k) [] ≡ slice_range (bytes_read past q k) (512 * place) (512 * place + 512)

-- ---- its phase

-- of queue q, in this phase of its lane; the words of its region matter until it is started, and its counter from then on
pub record PhaseAt (q : ℕ) (h : Header1) (setup : SplitSetup) (past : List Entry) (heads : List ℕ) (has_bell : Bool) (plan : Plan) (next : ℕ) (in_batch : List ℕ) (phase : Phase) (w : RegionWords) (state : QueueState) : Type 0 where
  pub index : state.index ≡ q
  pub bell : state.bell ≡ has_bell
  pub ring : state.recovery.ring ≡ setup.ring
  pub region : state.recovery.region ≡ setup.region
  pub base : state.recovery.base ≡ h.base
  pub begun : started past q ≡ false → StartsAt h.size plan phase w state
  pub counter : started past q ≡ true → state.counter ≡ next
  pub fetching : state.fetching ≡ kept_head phase (slice_index heads (accepted past q))
  pub batch : state.batch ≡ map (spot_of q h past heads) in_batch

-- ---- at a moment

-- the queue stands where its lane of the moment does
pub record QueueStands (q : ℕ) (h : Header1) (setup : SplitSetup) (m : Moment) (state : QueueState) : Type 0 where
  pub at : QueueAt q h setup m.scene.past (m.scene.heads q) (m.lanes q).phase (hidden_part (m.lanes q).phase (m.lanes q).batch) (m.lanes q).completed (m.lanes q).made state
  pub phase : PhaseAt q h setup m.scene.past (m.scene.heads q) (m.lanes q).bell (m.lanes q).plan (m.lanes q).counter (m.lanes q).batch (m.lanes q).phase (region_in h q m.scene) state

-- ---- the set-up of a queue

-- its rings have n places and lie in guest memory as those of queue q do, and its region in the in-flight region
pub record LiesAs (q : ℕ) (setup : SplitSetup) (n : ℕ) : Type 0 where
  pub desc_space : setup.ring.desc.0.number ≡ 0
  pub avail_space : setup.ring.avail.0.number ≡ 0
  pub used_space : setup.ring.used.0.number ≡ 0
  pub desc : setup.ring.desc.1 ≡ area_place q
  pub avail : setup.ring.avail.1 ≡ area_place q + 4096
  pub used : setup.ring.used.1 ≡ area_place q + 8192
  pub size : setup.ring.size ≡ n
  pub region : setup.region ≡ region_of q n
  pub index : setup.index ≡ q

-- its rings and its part of the in-flight region lie in shared memory, whose spaces have these sizes
abbrev pub SplitSetupLies : (ℕ → ℕ) → SplitSetup → Type 0
SplitSetupLies sizes setup = StartLies sizes (new_recovery setup)

-- ---- the disk

-- the disk's values are those of the history
abbrev pub DiskAt : ℕ → List Entry → Values → Type 0
DiskAt cap past v = (s : ℕ) → s < cap → v s ≡ value past s
