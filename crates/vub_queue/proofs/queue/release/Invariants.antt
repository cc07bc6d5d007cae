use Rattle.std.proofs.Common.{◌≡◌, ℕ, true, drop, map, length, List}
use Rattle.std.specs.Prelude.{Bool}
use Rattle.vub_queue.specs.declared.queue.Completed.{Completed}
use Rattle.vub_queue.specs.QueueParts.{element, without_heads, elements_fit}
use Rattle.vub_queue.proofs.queue.release.Given as goal

-- the heads of what is left lie in the table, which is as long as it was
pub record Left (batch : List Completed) (now before : List Bool) (place : ℕ) : Type 0 where
  pub freed : without_heads (map element (drop place batch)) now ≡ without_heads (map element batch) before
  pub below : elements_fit (length now) (drop place batch) ≡ true

abbrev pub invariant-loop-completed : goal.invariant-loop-completed
invariant-loop-completed l = Left l.batch l.taken l.initial.taken l.completed-index
