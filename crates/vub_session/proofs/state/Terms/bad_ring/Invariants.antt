use Rattle.std.proofs.Common.{◌≡◌, None}
use Rattle.vub_session.specs.Ready as ready
use Rattle.vub_session.proofs.state.Terms.bad_ring.Given as goal

abbrev pub invariant-loop-index : goal.invariant-loop-index
invariant-loop-index l = ready.least (ready.is_bad l.self l.table) l.index ≡ None
