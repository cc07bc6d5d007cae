use Rattle.std.proofs.Common.{◌≡◌, ◌<◌, ◌≤◌, ◌+◌, ℕ, List, ◌++◌, drop, map, length}
use Rattle.std.specs.Prelude.{Bool, vec_len, vec_capacity}
use Rattle.std.specs.List.{AllByRecursion}
use Rattle.vub_base.specs.declared.pending.Pending.{Pending}
use Rattle.vub_inflight.specs.Entries.{heads_of}
use Rattle.vub_task.specs.declared.task.Task.{Task}
use Rattle.vub_task.specs.TaskState.{fresh_task}
use Rattle.vub_queue.specs.QueueParts.{with_heads}
use Rattle.vub_queue.proofs.queue.begin_anew.Given as goal

-- the tasks of what is left come last, and their heads lie in the table and aren't taken yet
pub record Left (pending : List Pending) (tasks tasks_before : List Task) (now before : List Bool) (place : ℕ) : Type 0 where
  pub begun : tasks ++ map fresh_task (heads_of (drop place pending)) ≡ tasks_before ++ map fresh_task (heads_of pending)
  pub taken : with_heads (heads_of (drop place pending)) now ≡ with_heads (heads_of pending) before
  pub below : AllByRecursion (λ (e : Pending). e.head < length now) (drop place pending)

-- and so many tasks have room for those that are left
pub record Fits (count capacity capacity_before : ℕ) (left : List Pending) : Type 0 where
  pub room : count + length left ≤ capacity
  pub same : capacity ≡ capacity_before

abbrev pub invariant-loop-request : goal.invariant-loop-request
invariant-loop-request l = Left l.pending l.unfinished.items l.initial.unfinished.items l.taken l.initial.taken l.request-index × Fits (vec_len l.unfinished) (vec_capacity l.unfinished) (vec_capacity l.initial.unfinished) (drop l.request-index l.pending)
