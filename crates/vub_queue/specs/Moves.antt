-- What a step of a publication into shared memory leaves.
use Rattle.std.specs.Prelude.{◌≡◌, true, false, Ok}
use Rattle.vub_base.specs.Causes.{HasCause}
use Rattle.vub_shared.specs.declared.shared.Shared.{Ghosts as SharedGhosts}
use Rattle.vub_queue.specs.declared.queue.Stepped.{Stepped}
use Rattle.vub_queue.specs.QueueState.{QueueState, KeepsLying, Moves, MakesRow, Unless, is_fault, next_row, outcome, disk_outcome, has_rung, is_publishing}

-- the next step of the publication under way: what it says, and what it leaves of the queue and of shared memory; it calls
-- neither the disk nor the bell
pub record MakesMove {M : Type 0} (S : SharedGhosts M) (before now : M) (x : Stepped) (s t : QueueState) : Type 0 where
  pub ring : t.ring ≡ s.ring
  pub stopped : t.stopped ≡ s.stopped
  pub lies : KeepsLying s t
  pub moves : Unless (is_fault x) (Moves (S.told before) x s t)
  pub makes_row : MakesRow S.told S.trail S.names S.handed S.sizes before now x (next_row s)
  pub publishing : is_publishing x ≡ true
  pub no_disk : disk_outcome x ≡ Ok tt
  pub silent : has_rung x ≡ false
  pub cause : HasCause (S.faults before) (S.faults now) (outcome x)
