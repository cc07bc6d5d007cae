use Rattle.std.proofs.Common.{◌≡◌, ℕ, max, List, drop}
use Rattle.vub_base.specs.declared.pending.Pending.{Pending}
use Rattle.vub_inflight.specs.Entries.{next_counter}
use Rattle.vub_queue.proofs.queue.next_counter.Given as goal

-- what is left may have a greater one
pub record Left (pending : List Pending) (next place : ℕ) : Type 0 where
  pub top : max next (next_counter (drop place pending)) ≡ next_counter pending

abbrev pub invariant-loop-request : goal.invariant-loop-request
invariant-loop-request l = Left l.pending l.next l.request-index
