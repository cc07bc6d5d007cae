-- The definitions, tried on starts, on publications and on the turns of a queue.
use Rattle.std.specs.Prelude.{◌≡◌, ℕ, true, false, [], ◌∷◌, map, Some, None, refl}
use Rattle.vub_base.specs.declared.store.Area.TheVariants.{I}
use Rattle.vub_base.specs.declared.store.Tag.TheVariants.{SP1, SP2, SP3, SP4, SP5, SP6, SP7}
use Rattle.vub_steps.specs.declared.steps.Phase.TheVariants as phases
use Rattle.vub_steps.specs.declared.steps.Step.TheVariants.{Features, Free, Open, Bell, Start, Id, Len, Link, Head, Index, Clear, Note}
use Rattle.vub_steps.specs.declared.steps.Plan.TheVariants.{New}
use Rattle.vub_steps.specs.declared.readiness.Standing.{Standing}
use Rattle.vub_steps.specs.declared.readiness.Turn.TheVariants.{Fetch, Publish}
use Rattle.vub_ring.specs.Ring.{Ring}
use Rattle.vub_shared.specs.Stores.{one_store}
use Rattle.vub_infl_split.specs.declared.region.SplitRegion.{SplitRegion}
use Rattle.vub_steps.specs.Rows.{Sight, row, row_of}
use Rattle.vub_steps.specs.Steps.{start_steps, publish_steps}
use Rattle.vub_steps.specs.Readiness.{any_turn}

abbrev small_ring : Ring
small_ring = record { desc_space = 0; desc = 0; avail_space = 0; avail = 4096; used_space = 0; used = 8192; size = 4 }

-- a queue of two descriptors makes its region, rings its bell and is started
pub first_start : start_steps 2 New true ≡ Features ∷ Free 0 ∷ Free 1 ∷ Open ∷ Bell ∷ Start ∷ []
first_start = refl

abbrev small_region : SplitRegion
small_region = record { space = record { number = 1 }; place = 0; size = 4 }

abbrev small_sight : Sight
small_sight = record { used = 7; last_batch_head = 3; link = 0; head = 0; counter = 0; batch = (2, 1) ∷ [] }

-- a request of head 2 and used length 1 is published at used.idx 7, where the region's last_batch_head is 3
pub one_element : map (row_of small_ring small_region small_sight) (publish_steps 1 true) ≡
    Some (row small_ring SP1 8220 (2 ∷ 0 ∷ 0 ∷ 0 ∷ []))
    ∷ Some (row small_ring SP2 8224 (1 ∷ 0 ∷ 0 ∷ 0 ∷ []))
    ∷ Some (record { tag = SP3; area = I; store = one_store 1 54 (3 ∷ 0 ∷ []) })
    ∷ Some (record { tag = SP4; area = I; store = one_store 1 12 (2 ∷ 0 ∷ []) })
    ∷ Some (row small_ring SP5 8194 (8 ∷ 0 ∷ []))
    ∷ Some (record { tag = SP6; area = I; store = one_store 1 48 (0 ∷ []) })
    ∷ Some (record { tag = SP7; area = I; store = one_store 1 14 (7 ∷ 0 ∷ []) })
    ∷ None
    ∷ []
one_element = refl

pub two_elements : publish_steps 2 false ≡ Id 0 ∷ Len 0 ∷ Link 0 ∷ Head 0 ∷ Id 1 ∷ Len 1 ∷ Link 1 ∷ Head 1 ∷ Index ∷ Clear 0 ∷ Clear 1 ∷ Note ∷ []
two_elements = refl

-- a started queue at rest
abbrev resting : ℕ → ℕ → ℕ → Standing
resting waiting unfinished completed = record { started = true; phase = phases.Rest; waiting = waiting; counts = true; unfinished = unfinished; completed = completed }

-- work goes before publication, and a fetch before both; a batch that is under way goes on first
pub fetch_first : any_turn 4 (resting 1 1 1) ≡ Fetch
fetch_first = refl

pub batch_goes_on : any_turn 4 (record (resting 1 1 1) { phase = phases.Publish 1 }) ≡ Publish 4
batch_goes_on = refl
