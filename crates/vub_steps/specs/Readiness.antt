-- Which turns of a queue are ready, and which of them comes first.
use Rattle.std.specs.Prelude.{ℕ, Bool, true, false, not, ◌&&◌, ◌||◌, nat_lt, if◌then◌else◌, List, [], ◌∷◌, ◌++◌}
use Rattle.vub_steps.specs.declared.steps.Phase.{Phase}
use Rattle.vub_steps.specs.declared.steps.Phase.TheVariants as phases
use Rattle.vub_steps.specs.declared.readiness.Turn.{Turn}
use Rattle.vub_steps.specs.declared.readiness.Turn.TheVariants.{Start, Fetch, Work, Publish}
use Rattle.vub_steps.specs.declared.readiness.Standing.{Standing}
use Rattle.vub_steps.specs.declared.readiness.Choice.{Choice}
use Rattle.vub_steps.specs.declared.readiness.Choice.TheVariants.{Only, Any, Drain}

abbrev pub is_fetch : Phase → Bool
is_fetch (phases.Fetch done) = true
is_fetch p = false

abbrev pub is_publication : Phase → Bool
is_publication (phases.Publish done) = true
is_publication p = false

-- no request gets this counter: none would be left for the next one
abbrev pub last_counter : ℕ
last_counter = 18446744073709551615

-- a queue is started once; a fetch and a publication exclude each other; work goes on beside both
abbrev pub is_ready : Standing → Turn → Bool
is_ready s Start = not s.started
is_ready s Fetch = s.started && not (is_publication s.phase) && (is_fetch s.phase || (s.counts && nat_lt 0 s.waiting))
is_ready s (Work place) = s.started && nat_lt place s.unfinished
is_ready s (Publish most) = s.started && not (is_fetch s.phase) && (is_publication s.phase || (nat_lt 0 most && nat_lt 0 s.completed))

-- ---- which turn comes first

-- the first of these turns that is ready; where none is, the last one
abbrev pub first_ready : Standing → List Turn → Turn → Turn
first_ready s [] last = last
first_ready s (turn ∷ turns) last = if is_ready s turn then turn else first_ready s turns last

-- a publication that is under way goes on
abbrev pub publication_under_way : ℕ → Standing → List Turn
publication_under_way size s = if is_publication s.phase then Publish size ∷ [] else []

-- the phase that is under way goes on
abbrev pub phase_under_way : ℕ → Standing → List Turn
phase_under_way size s = if is_fetch s.phase then Fetch ∷ [] else publication_under_way size s

-- start, the phase under way, fetch, work on the oldest request, and publication of all
abbrev pub any_turn : ℕ → Standing → Turn
any_turn size s = first_ready s (Start ∷ phase_under_way size s ++ Fetch ∷ Work 0 ∷ []) (Publish size)

-- once a drain has accepted as many requests as the queue has places: the publication under way, work on the oldest
-- request, and publication of all, but no fetch
abbrev pub draining_turn : ℕ → Standing → Turn
draining_turn size s = first_ready s (publication_under_way size s ++ Work 0 ∷ []) (Publish size)

-- the next turn of a drain that has accepted so many requests
abbrev pub drain_turn : ℕ → ℕ → Standing → Turn
drain_turn size accepted s = if nat_lt accepted size then any_turn size s else draining_turn size s

-- the turn that a choice comes to
abbrev pub chosen : ℕ → Choice → Standing → Turn
chosen size (Only turn) s = turn
chosen size Any s = any_turn size s
chosen size (Drain accepted) s = drain_turn size accepted s
