use Rattle.std.proofs.Common.{◌≡◌, ◌<◌, ℕ, length}
use Rattle.std.specs.Prelude.{slice_index_or}
use Rattle.vub_session.specs.Ready as ready
use Rattle.vub_session.specs.State.{new_ring}
use Rattle.vub_session.specs.declared.state.TheConstants.{MAX_QUEUES}
use Rattle.vub_session.proofs.state.Terms.attach.Given as goal

abbrev pub invariant-loop-index : goal.invariant-loop-index
invariant-loop-index l = (length l.rings ≡ MAX_QUEUES) × ((k : ℕ) → k < l.index → slice_index_or l.rings k new_ring ≡ ready.attached l.self k)
