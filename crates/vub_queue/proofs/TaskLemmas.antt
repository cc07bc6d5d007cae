-- What a turn hands on of the step of its task, whatever the memory means.
use mathlib.Core.Path.{fun_ext}
use Rattle.std.proofs.Common.{◌≡◌, ℕ, List, true, false, subst}
use Rattle.std.specs.Prelude.{Option, Bool}
use Rattle.vub_base.specs.Told.{WhereTold}
use Rattle.vub_shared.specs.Bytes.{Bytes}
use Rattle.vub_shared.specs.Stores.{Store}
use Rattle.vub_disk.specs.Values.{Values}
use Rattle.vub_task.specs.declared.task.Task.{Task}
use Rattle.vub_task.specs.declared.task.Work.TheVariants as work
use Rattle.vub_task.specs.declared.task.TaskStep as made
use Rattle.vub_task.specs.TaskState.{Begins, Worked, OwesFailure, IfFaulted, is_begun, head_in}
use Rattle.vub_queue.specs.declared.queue.Stepped.{Stepped}
use Rattle.vub_queue.specs.QueueState.{QueueState, StepsTask, WorksTask, sector_at, worked, Unless, halted}

pub steps_task : (sizes : ℕ → ℕ) (capacity place head : ℕ) (now task next : Task) (step : made.TaskStep) (held after : List ℕ) (told told_after : Option Bytes) (trail trail_after : Option (List Store)) (v v_after : Option Values) (s t : QueueState)
    → now ≡ task → head ≡ head_in now → head_in next ≡ head_in now → held ≡ sector_at s (head_in now) → t ≡ worked place next after s
    → (now.work ≡ work.Begin → WhereTold told (λ m. Begins sizes s.ring m (head_in now) capacity held after step next.work told_after trail trail_after v v_after))
    → (is_begun now.work ≡ true → Worked now.work held after step next.work told told_after trail trail_after v v_after)
    → IfFaulted step (OwesFailure next) → StepsTask sizes capacity place task head step told told_after trail trail_after v v_after s t
steps_task sizes capacity place head now task next step held after told told_after trail trail_after v v_after s t is same still sector state begins goes_on failed =
    subst (λ (x : Task). StepsTask sizes capacity place x head step told told_after trail trail_after v v_after s t) is (record {
      next = next;
      sector = after;
      heads = (same, still);
      begins = λ fresh m now_told. subst (λ (xs : List ℕ). Begins sizes s.ring m (head_in now) capacity xs after step next.work told_after trail trail_after v v_after) sector (begins fresh m now_told);
      goes_on = λ begun. subst (λ (xs : List ℕ). Worked now.work xs after step next.work told told_after trail trail_after v v_after) sector (goes_on begun);
      failed = failed;
      state = state;
    })

-- the same where no size changes, nor what is told
pub task_still : (old new : ℕ → ℕ) (capacity place : ℕ) (task : Task) (told told_now told_after : Option Bytes) (trail trail_now trail_after : Option (List Store)) (v v_after : Option Values) (x : Stepped) (s t : QueueState)
    → ((k : ℕ) → new k ≡ old k) → told_now ≡ told → trail_now ≡ trail → WorksTask new capacity place task told_now told_after trail_now trail_after v v_after x s t → WorksTask old capacity place task told told_after trail trail_after v v_after x s t
task_still old new capacity place task told told_now told_after trail trail_now trail_after v v_after x s t sizes bytes stores h =
    let equal : new ≡ old = fun_ext sizes in
    subst (λ (f : ℕ → ℕ). WorksTask f capacity place task told told_after trail trail_after v v_after x s t) equal
    (subst (λ (y : Option Bytes). WorksTask new capacity place task y told_after trail trail_after v v_after x s t) bytes
    (subst (λ (y : Option (List Store)). WorksTask new capacity place task told_now told_after y trail_after v v_after x s t) stores h))

-- the same of what is left where a step stops its queue
pub task_halted : (b : Bool) (x : Stepped) (u t : QueueState) (P : QueueState → Type 0) → t ≡ halted x u → Unless b (P u) → Unless b ((w : QueueState) × (t ≡ halted x w) × P w)
task_halted true x u t P is h = tt
task_halted false x u t P is h = (u, is, h)
