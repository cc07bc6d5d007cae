-- The turns of the device on one queue: the row of the step table for each, and the lane after it.
use Rattle.std.specs.Prelude.{ℕ, ◌+◌, ◌*◌, Bool, true, false, ◌==◌, if◌then◌else◌, List, [], ◌∷◌, ◌++◌, length, map, take, drop, slice_get, slice_index, Option, Some, None}
use Rattle.vub_base.specs.declared.header.Header1.{Header1}
use Rattle.vub_shared.specs.Bytes.{Bytes, bytes_from}
use Rattle.vub_steps.specs.declared.steps.Phase.{Phase}
use Rattle.vub_steps.specs.declared.steps.Phase.TheVariants as phases
use Rattle.vub_steps.specs.declared.steps.Step.{Step}
use Rattle.vub_steps.specs.declared.steps.Step.TheVariants as steps
use Rattle.vub_steps.specs.declared.readiness.Turn.{Turn}
use Rattle.vub_steps.specs.declared.readiness.Turn.TheVariants as turns
use Rattle.vub_inflight.specs.Entries.{next_counter}
use Rattle.vub_inflight.specs.Links.{link_at}
use Rattle.vub_infl_split.specs.Readings.{open_entries}
use Rattle.vub_steps.specs.Plans.{plan_of}
use Rattle.vub_steps.specs.Rows.{Row, Sight, row_of}
use Rattle.vub_steps.specs.Steps.{Course, done_of, next_step, after_step}
use Rattle.vub_driver.specs.Layout.{guest_space, ring_of, status_place, sectors_place}
use Rattle.vub_device.specs.declared.entry.Answered.{Answered}
use Rattle.vub_device.specs.declared.entry.Asked.{Asked}
use Rattle.vub_device.specs.declared.entry.Asked.TheVariants as asks
use Rattle.vub_device.specs.declared.entry.Entry.TheVariants as entries
use Rattle.vub_device.specs.Past.{asked, accepted, open_numbers}
use Rattle.vub_report.specs.declared.items.Item.{Item}
use Rattle.vub_report.specs.declared.items.Item.TheVariants as items
use Rattle.vub_run.specs.Memory.{Scene, with_at, after_items}
use Rattle.vub_run.specs.Moments.{Lane, Moment, region_of, used_in, region_in, next_head, unfinished, buffer_of}
use Rattle.vub_steps.specs.Tasks.{RequestStep, Status, task_steps, status_of, used_len}
use Rattle.vub_run.specs.TaskItems.{task_items}

-- items, and the lane after them
pub record Turned : Type 0 where
  pub items : List Item
  pub lane : Lane

abbrev pub nothing : Lane → Turned
nothing l = record { items = []; lane = l }

-- ---- answers and used elements of a batch

-- how many bytes an answer of this status has
abbrev pub answer_len : ℕ → Option Asked → ℕ
answer_len status (Some (asks.Read s n)) = if status == 0 then 512 * n else 0
answer_len status (Some asks.Id) = if status == 0 then 20 else 0
answer_len status request = 0

-- an answer with this status, whose bytes stand in the buffer
abbrev pub answer_with : ℕ → ℕ → Option Asked → Bytes → ℕ → Answered
answer_with k status request m buffer = record { number = k; status = status; bytes = bytes_from (answer_len status request) m guest_space (sectors_place buffer) }

-- the answer that stands in the buffer of a request
abbrev pub answer_at : ℕ → Scene → ℕ → Answered
answer_at q s k = answer_with k (s.memory guest_space (status_place (buffer_of q k s))) (asked s.past q k) s.memory (buffer_of q k s)

abbrev pub len_of : Header1 → Option Asked → ℕ
len_of h None = 0
len_of h (Some request) = used_len (status_of h request) request

-- head and length of a request
abbrev pub element_of : Header1 → ℕ → Scene → ℕ → ℕ × ℕ
element_of h q s k = (slice_index (s.heads q) k, len_of h (asked s.past q k))

-- ---- start, fetch and publication

abbrev pub is_rest : Phase → Bool
is_rest phases.Rest = true
is_rest p = false

-- the lane in which a turn begins its phase. A start finds its plan in memory; a batch has the first completed requests
abbrev pub begun : Header1 → ℕ → Scene → Turn → Lane → Lane
begun h q s turns.Start l = record l { phase = phases.Start 0; plan = plan_of (used_in h q s) (region_in h q s) }
begun h q s turns.Fetch l = record l { phase = phases.Fetch 0 }
begun h q s (turns.Publish most) l = record l { phase = phases.Publish 0; batch = take most l.completed; completed = drop most l.completed }
begun h q s (turns.Work place) l = l

-- a phase that is under way goes on
abbrev pub under_way : Header1 → ℕ → Scene → Turn → Lane → Lane
under_way h q s t l = if is_rest l.phase then begun h q s t l else l

-- what determines the steps of a queue's phases
abbrev pub course_of : Header1 → Lane → Course
course_of h l = record { size = h.size; plan = l.plan; bell = l.bell; batch = length l.batch }

-- what a step sees: its place in a start is the place of its link
abbrev pub sight_of : Header1 → ℕ → Scene → Lane → Sight
sight_of h q s l = record {
  used = used_in h q s;
  last_batch_head = (region_in h q s).last_batch_head;
  link = link_at (region_in h q s).next (done_of l.phase) (region_in h q s).last_batch_head;
  head = next_head h q s;
  counter = l.counter;
  batch = map (element_of h q s) l.batch;
}

abbrev pub row_items : Option Row → List Item
row_items None = []
row_items (Some x) = items.Store x.tag x.area x.store.place x.store.bytes ∷ []

-- a bell that is rung
abbrev pub bell_items : ℕ → Step → List Item
bell_items q steps.Bell = items.Bell q ∷ []
bell_items q step = []

-- the entry that a step makes. The answers are those that stand in memory after the step's store
abbrev pub entry_items : ℕ → List ℕ → Step → Scene → List Item
entry_items q batch steps.Start s = items.Made (entries.Start q (open_numbers s.past q)) ∷ []
entry_items q batch steps.Accept s = items.Made (entries.Accept q (accepted s.past q)) ∷ []
entry_items q batch steps.Index s = items.Made (entries.Publish q (map (answer_at q s) batch)) ∷ []
entry_items q batch step s = []

-- its store, or its bell
abbrev pub step_stores : Header1 → ℕ → Lane → Step → Scene → List Item
step_stores h q l step s = row_items (row_of (ring_of q h.size) (region_of q h.size) (sight_of h q s l) step) ++ bell_items q step

-- the items of a step: its store or its bell, and the entry that it makes
abbrev pub step_items : Header1 → ℕ → Lane → Step → Scene → List Item
step_items h q l step s = step_stores h q l step s ++ entry_items q l.batch step (after_items h (step_stores h q l step s) s)

-- the phase goes on, and nothing is left of the batch at its end
abbrev pub with_phase : Phase → Lane → Lane
with_phase p l = record l { phase = p; batch = if is_rest p then [] else l.batch }

-- the counter after a start, where this is one more than the greatest one open; it rises where it is stored
abbrev pub counted : ℕ → Step → Lane → Lane
counted next steps.Start l = record l { counter = next }
counted next steps.Count l = record l { counter = l.counter + 1 }
counted next step l = l

-- one more than the greatest counter that is open, or 0
abbrev pub next_counter_in : Header1 → ℕ → Scene → ℕ
next_counter_in h q s = next_counter (open_entries h.size (used_in h q s) (region_in h q s))

abbrev pub phase_turn : Header1 → ℕ → Scene → Lane → Option Step → Turned
phase_turn h q s l None = nothing l
phase_turn h q s l (Some step) = record { items = step_items h q l step s; lane = with_phase (after_step (course_of h l) l.phase) (counted (next_counter_in h q s) step l) }

-- ---- work

abbrev pub after_task_step : ℕ → RequestStep → Lane → Lane
after_task_step k Status l = record l { completed = l.completed ++ k ∷ []; made = with_at l.made k (l.made k + 1) }
after_task_step k step l = record l { made = with_at l.made k (l.made k + 1) }

abbrev pub task_turn : Header1 → ℕ → Scene → Lane → ℕ → Asked → Option RequestStep → Turned
task_turn h q s l k request None = nothing l
task_turn h q s l k request (Some step) = record { items = task_items h q k (buffer_of q k s) s.past request step; lane = after_task_step k step l }

abbrev pub request_turn : Header1 → ℕ → Scene → Lane → ℕ → Option Asked → Turned
request_turn h q s l k None = nothing l
request_turn h q s l k (Some request) = task_turn h q s l k request (slice_get (task_steps h request) (l.made k))

abbrev pub work_turn : Header1 → ℕ → Scene → Lane → Option ℕ → Turned
work_turn h q s l None = nothing l
work_turn h q s l (Some k) = request_turn h q s l k (asked s.past q k)

-- ---- any of them

abbrev pub phase_goes_on : Header1 → ℕ → Scene → Lane → Turned
phase_goes_on h q s l = phase_turn h q s l (next_step (course_of h l) l.phase)

-- the row of the step table for a turn that is ready
abbrev pub turned : Header1 → ℕ → Turn → Moment → Turned
turned h q (turns.Work place) m = work_turn h q m.scene (m.lanes q) (slice_get (unfinished q m) place)
turned h q t m = phase_goes_on h q m.scene (under_way h q m.scene t (m.lanes q))
