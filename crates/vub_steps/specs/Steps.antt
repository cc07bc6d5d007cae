-- The steps of each phase of a queue, in their order.
use Rattle.std.specs.Prelude.{ℕ, zero, suc, ◌+◌, ◌==◌, ◌&&◌, nat_lt, Bool, if◌then◌else◌, List, [], ◌∷◌, ◌++◌, length, slice_get, Option, Some, None}
use Rattle.vub_steps.specs.declared.steps.Phase.{Phase}
use Rattle.vub_steps.specs.declared.steps.Phase.TheVariants as phases
use Rattle.vub_steps.specs.declared.steps.Plan.{Plan}
use Rattle.vub_steps.specs.declared.steps.Plan.TheVariants as plans
use Rattle.vub_steps.specs.declared.steps.Step.{Step}
use Rattle.vub_steps.specs.declared.steps.Step.TheVariants as steps

-- ---- a start of a queue of n descriptors

-- an entry each from this one on, so many
abbrev pub free_steps : ℕ → ℕ → List Step
free_steps entry zero = []
free_steps entry (suc count) = steps.Free entry ∷ free_steps (entry + 1) count

-- a link each from this place on, so many
abbrev pub settle_steps : ℕ → ℕ → List Step
settle_steps place zero = []
settle_steps place (suc count) = steps.Settle place ∷ settle_steps (place + 1) count

-- what it stores
abbrev pub plan_steps : ℕ → Plan → List Step
plan_steps n plans.New = steps.Features ∷ (free_steps 0 n ++ (steps.Open ∷ []))
plan_steps n (plans.Settles count) = settle_steps 0 count ++ (steps.SettleEnd ∷ [])
plan_steps n plans.Settled = []

-- the bell, where the queue has one
abbrev pub bell_steps : Bool → List Step
bell_steps bell = if bell then steps.Bell ∷ [] else []

abbrev pub start_steps : ℕ → Plan → Bool → List Step
start_steps n plan bell = plan_steps n plan ++ (bell_steps bell ++ (steps.Start ∷ []))

-- ---- a fetch and a publication

abbrev pub fetch_steps : List Step
fetch_steps = steps.Count ∷ steps.Accept ∷ []

-- id, length, link and last_batch_head of each of so many elements from this one on
abbrev pub element_steps : ℕ → ℕ → List Step
element_steps element zero = []
element_steps element (suc count) = steps.Id element ∷ steps.Len element ∷ steps.Link element ∷ steps.Head element ∷ element_steps (element + 1) count

-- the entry of each of so many elements from this one on
abbrev pub clear_steps : ℕ → ℕ → List Step
clear_steps element zero = []
clear_steps element (suc count) = steps.Clear element ∷ clear_steps (element + 1) count

-- behind the elements: the batch is shown, its entries are cleared, and it is noted
abbrev pub show_steps : ℕ → Bool → List Step
show_steps batch bell = steps.Index ∷ (clear_steps 0 batch ++ (steps.Note ∷ bell_steps bell))

-- the publication of a batch of so many requests, of a queue that may have a bell
abbrev pub publish_steps : ℕ → Bool → List Step
publish_steps batch bell = element_steps 0 batch ++ show_steps batch bell

-- of a queue that runs, whose batch has so many requests
abbrev pub running_steps : ℕ → Bool → Phase → List Step
running_steps batch bell (phases.Fetch done) = fetch_steps
running_steps batch bell (phases.Publish done) = publish_steps batch bell
running_steps batch bell phase = []

-- ---- any phase

-- what determines the steps of each phase of a queue: its descriptors, what its start found, whether it has a bell, and the
-- number of requests in its batch
pub record Course : Type 0 where
  pub size : ℕ
  pub plan : Plan
  pub bell : Bool
  pub batch : ℕ

abbrev pub steps_of : Course → Phase → List Step
steps_of course (phases.Start done) = start_steps course.size course.plan course.bell
steps_of course phase = running_steps course.batch course.bell phase

-- how many of its steps were made
abbrev pub done_of : Phase → ℕ
done_of phases.Rest = 0
done_of (phases.Start done) = done
done_of (phases.Fetch done) = done
done_of (phases.Publish done) = done

-- the same phase with so many steps made
abbrev pub at_step : Phase → ℕ → Phase
at_step phases.Rest done = phases.Rest
at_step (phases.Start before) done = phases.Start done
at_step (phases.Fetch before) done = phases.Fetch done
at_step (phases.Publish before) done = phases.Publish done

-- the next one of these steps
abbrev pub next_of : List Step → Phase → Option Step
next_of list phase = slice_get list (done_of phase)

-- the phase after it: at rest after the last one
abbrev pub after_of : List Step → Phase → Phase
after_of list phase = if nat_lt (done_of phase + 1) (length list) then at_step phase (done_of phase + 1) else phases.Rest

abbrev pub next_step : Course → Phase → Option Step
next_step course phase = next_of (steps_of course phase) phase

abbrev pub after_step : Course → Phase → Phase
after_step course phase = after_of (steps_of course phase) phase

-- ---- the steps of a publication by their place, as they are computed

-- of the four of an element
abbrev pub element_step : ℕ → ℕ → Step
element_step zero element = steps.Id element
element_step (suc zero) element = steps.Len element
element_step (suc (suc zero)) element = steps.Link element
element_step (suc (suc (suc place))) element = steps.Head element

-- behind those of the elements
abbrev pub shown_step : ℕ → Bool → ℕ → Option Step
shown_step batch bell zero = Some steps.Index
shown_step batch bell (suc place) =
    if nat_lt place batch then Some (steps.Clear place) else if place == batch then Some steps.Note else if bell && (place == batch + 1) then Some steps.Bell else None
