use Rattle.std.specs.Prelude.{◌≡◌, replicate, None}
use Rattle.vub_backend.proofs.backend.no_queues.Given as goal

abbrev pub invariant-loop-place : goal.invariant-loop-place
invariant-loop-place l = l.queues.items ≡ replicate l._place None
