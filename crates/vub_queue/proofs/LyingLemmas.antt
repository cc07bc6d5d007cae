-- A queue lies where it lay: its tasks one by one.
use mathlib.Core.Path.{fun_ext}
use Rattle.std.proofs.Common.{◌≡◌, ◌<◌, ℕ, zero, suc, List, [], ◌∷◌, ◌++◌, refl, ap, sym, ◌∙◌, subst}
use Rattle.std.specs.Prelude.{Bool, true, false, if◌then◌else◌, map, take, drop, set, slice_get, Some, Ok}
use Rattle.std.specs.List.{AllByRecursion}
use Rattle.vub_base.specs.declared.pending.Pending.{Pending}
use Rattle.vub_inflight.specs.Entries.{heads_of}
use Rattle.vub_split.specs.Split.{RingLies}
use Rattle.vub_split.specs.declared.split.SplitRing.{SplitRing}
use Rattle.vub_steps.specs.declared.steps.Phase.{Phase}
use Rattle.vub_steps.specs.declared.steps.Phase.TheVariants.{Rest, Start, Fetch, Publish}
use Rattle.vub_steps.specs.Readiness.{is_publication}
use Rattle.vub_task.specs.declared.task.Task.{Task}
use Rattle.vub_task.specs.declared.task.TaskStep as made
use Rattle.vub_task.specs.declared.task.TaskStep.TheVariants as answers
use Rattle.vub_task.specs.TaskState.{TaskLies, fresh_task, head_in, IfFaulted, OwesFailure}
use Rattle.vub_rec_split.specs.Starts.{RecoveryState, StartLies, SameQueue}
use Rattle.vub_rec_split.proofs.LoadLemmas.{lies_on}
use Rattle.vub_setup.specs.Setups.{SplitSetup}
use Rattle.vub_queue.specs.declared.queue.Stepped.{Stepped}
use Rattle.vub_queue.specs.declared.queue.Stepped.TheVariants as says
use Rattle.vub_queue.specs.QueueState.{QueueState, new_recovery, TaskFits, TasksFit, QueueLies, KeepsLying, begun, under_way, with_phase, accepted, worked, concluded, halted, said, OwesAt, Owes, disk_outcome}

pub lies_with : (old new : ℕ → ℕ) (before after : ℕ) (s : QueueState) → ((x : ℕ) → new x ≡ old x) → after ≡ before → QueueLies old before s → QueueLies new after s
lies_with old new before after s sizes capacity h =
    let equal : old ≡ new = fun_ext (λ x. sym (sizes x)) in
    subst (λ (k : ℕ). QueueLies new k s) (sym capacity) (subst (λ (f : ℕ → ℕ). QueueLies f before s) equal h)

module _ (sizes : ℕ → ℕ) (capacity : ℕ) (r : SplitRing) where
  fit_append : (xs ys : List Task) → TasksFit sizes capacity r xs → TasksFit sizes capacity r ys → TasksFit sizes capacity r (xs ++ ys)
  fit_append [] ys h k = k
  fit_append (x ∷ xs) ys h k = (h.0, fit_append xs ys h.1 k)

  fit_take : (n : ℕ) (xs : List Task) → TasksFit sizes capacity r xs → TasksFit sizes capacity r (take n xs)
  fit_take zero xs h = tt
  fit_take (suc n) [] h = tt
  fit_take (suc n) (x ∷ xs) h = (h.0, fit_take n xs h.1)

  fit_drop : (n : ℕ) (xs : List Task) → TasksFit sizes capacity r xs → TasksFit sizes capacity r (drop n xs)
  fit_drop zero xs h = h
  fit_drop (suc n) [] h = tt
  fit_drop (suc n) (x ∷ xs) h = fit_drop n xs h.1

  fit_set : (xs : List Task) (place : ℕ) (task : Task) → TaskFits sizes capacity r task → TasksFit sizes capacity r xs → TasksFit sizes capacity r (set xs place task)
  fit_set [] place task fits h = h
  fit_set (x ∷ xs) zero task fits h = (fits, h.1)
  fit_set (x ∷ xs) (suc place) task fits h = (h.0, fit_set xs place task fits h.1)

  -- the task in a place
  pub task_in : (xs : List Task) (place : ℕ) (task : Task) → TasksFit sizes capacity r xs → slice_get xs place ≡ Some task → TaskFits sizes capacity r task
  task_in [] place task h at = absurd (cc at)
  task_in (x ∷ xs) zero task h at = (let same : x ≡ task = cc at in subst (TaskFits sizes capacity r) same h.0)
  task_in (x ∷ xs) (suc place) task h at = task_in xs place task h.1 at

pub task_with : (old new : ℕ → ℕ) (before after : ℕ) (task : Task) → ((x : ℕ) → new x ≡ old x) → after ≡ before → TaskLies new after task → TaskLies old before task
task_with old new before after task sizes capacity h =
    let equal : new ≡ old = fun_ext sizes in
    subst (λ (k : ℕ). TaskLies old k task) capacity (subst (λ (f : ℕ → ℕ). TaskLies f after task) equal h)

-- another state with the same ring, region and tasks
pub lies_started : (s t : QueueState) → SameQueue s.recovery t.recovery → t.ring ≡ s.ring → t.unfinished ≡ s.unfinished → KeepsLying s t
lies_started s t same ring tasks sizes capacity h = record {
  ring = subst (RingLies sizes) (sym ring) h.ring;
  start = lies_on sizes sizes s.recovery t.recovery (λ i. refl) same h.start;
  same_ring = same.ring ∙ h.same_ring ∙ sym ring;
  tasks = subst (λ (r : SplitRing). TasksFit sizes capacity r t.unfinished) (sym ring) (subst (TasksFit sizes capacity s.ring) (sym tasks) h.tasks);
}

-- ring, recovery and tasks are as they were
pub lies_same : (s t : QueueState) → t.ring ≡ s.ring → t.recovery ≡ s.recovery → t.unfinished ≡ s.unfinished → KeepsLying s t
lies_same s t ring recovery tasks =
    lies_started s t (record { ring = ap (λ (r : RecoveryState). r.ring) recovery; region = ap (λ (r : RecoveryState). r.region) recovery; base = ap (λ (r : RecoveryState). r.base) recovery }) ring tasks

-- a queue that was set up
pub lies_new : (sizes : ℕ → ℕ) (capacity : ℕ) (setup : SplitSetup) (s : QueueState) → s.ring ≡ setup.ring → s.recovery ≡ new_recovery setup → s.unfinished ≡ [] → StartLies sizes (new_recovery setup) → QueueLies sizes capacity s
lies_new sizes capacity setup s ring recovery tasks h = record {
  ring = subst (RingLies sizes) (sym ring) h.ring;
  start = subst (StartLies sizes) (sym recovery) h;
  same_ring = ap (λ (k : RecoveryState). k.ring) recovery ∙ sym ring;
  tasks = subst (TasksFit sizes capacity s.ring) (sym tasks) tt;
}

pub lies_accepted : (head : ℕ) (s t : QueueState) → head < s.ring.size → t ≡ accepted head s → KeepsLying s t
lies_accepted head s t below is sizes capacity h =
    subst (QueueLies sizes capacity) (sym is) (record {
      ring = h.ring;
      start = h.start;
      same_ring = h.same_ring;
      tasks = fit_append sizes capacity s.ring s.unfinished (fresh_task head ∷ []) h.tasks ((tt, below), tt);
    })

fresh_fit : (sizes : ℕ → ℕ) (capacity : ℕ) (r : SplitRing) (list : List Pending) → AllByRecursion (λ (e : Pending). e.head < r.size) list → TasksFit sizes capacity r (map fresh_task (heads_of list))
fresh_fit sizes capacity r [] below = tt
fresh_fit sizes capacity r (e ∷ list) below = ((tt, below.0), fresh_fit sizes capacity r list below.1)

-- the tasks of open requests begin anew
pub lies_resumed : (list : List Pending) (s t : QueueState) → AllByRecursion (λ (e : Pending). e.head < s.ring.size) list → t.ring ≡ s.ring → t.recovery ≡ s.recovery → t.unfinished ≡ map fresh_task (heads_of list) → KeepsLying s t
lies_resumed list s t below ring recovery tasks sizes capacity h =
    lies_same (record s { unfinished = map fresh_task (heads_of list) }) t ring recovery tasks sizes capacity
    (record { ring = h.ring; start = h.start; same_ring = h.same_ring; tasks = fresh_fit sizes capacity s.ring list below })

pub lies_worked : (sizes : ℕ → ℕ) (capacity place : ℕ) (task : Task) (sector : List ℕ) (s t : QueueState) → TaskFits sizes capacity s.ring task → t ≡ worked place task sector s → QueueLies sizes capacity s → QueueLies sizes capacity t
lies_worked sizes capacity place task sector s t fits is h =
    subst (QueueLies sizes capacity) (sym is) (record { ring = h.ring; start = h.start; same_ring = h.same_ring; tasks = fit_set sizes capacity s.ring s.unfinished place task fits h.tasks })

concluded_lies : (place head : ℕ) (step : made.TaskStep) (s : QueueState) → KeepsLying s (concluded place head step s)
concluded_lies place head (answers.Stored tag) s sizes capacity h = h
concluded_lies place head (answers.Looked sector) s sizes capacity h = h
concluded_lies place head (answers.Acted sector) s sizes capacity h = h
concluded_lies place head answers.Synced s sizes capacity h = h
concluded_lies place head answers.Faulted s sizes capacity h = h
concluded_lies place head (answers.Broken fault) s sizes capacity h = h
concluded_lies place head answers.Failed s sizes capacity h = h
concluded_lies place head (answers.Done status len) s sizes capacity h = record { ring = h.ring; start = h.start; same_ring = h.same_ring; tasks = fit_append sizes capacity s.ring (take place s.unfinished) (drop (suc place) s.unfinished) (fit_take sizes capacity s.ring place s.unfinished h.tasks) (fit_drop sizes capacity s.ring (suc place) s.unfinished h.tasks) }

pub lies_concluded : (place head : ℕ) (step : made.TaskStep) (s t : QueueState) → t ≡ concluded place head step s → KeepsLying s t
lies_concluded place head step s t is sizes capacity h = subst (QueueLies sizes capacity) (sym is) (concluded_lies place head step s sizes capacity h)

halted_lies : (x : Stepped) (s : QueueState) → KeepsLying s (halted x s)
halted_lies says.Idle s sizes capacity h = h
halted_lies (says.Stored tag) s sizes capacity h = h
halted_lies (says.Accepted head) s sizes capacity h = h
halted_lies (says.Looked head sector) s sizes capacity h = h
halted_lies (says.Acted head sector) s sizes capacity h = h
halted_lies (says.Synced head) s sizes capacity h = h
halted_lies (says.Faulted head) s sizes capacity h = h
halted_lies (says.Completed head) s sizes capacity h = h
halted_lies says.Published s sizes capacity h = h
halted_lies says.Belled s sizes capacity h = h
halted_lies says.Started s sizes capacity h = h
halted_lies says.SharedFault s sizes capacity h = record { ring = h.ring; start = h.start; same_ring = h.same_ring; tasks = h.tasks }
halted_lies (says.Broken fault) s sizes capacity h = record { ring = h.ring; start = h.start; same_ring = h.same_ring; tasks = h.tasks }
halted_lies (says.Damaged fault) s sizes capacity h = record { ring = h.ring; start = h.start; same_ring = h.same_ring; tasks = h.tasks }
halted_lies says.BellFault s sizes capacity h = record { ring = h.ring; start = h.start; same_ring = h.same_ring; tasks = h.tasks }

pub lies_halted : (x : Stepped) (s t : QueueState) → t ≡ halted x s → KeepsLying s t
lies_halted x s t is sizes capacity h = subst (QueueLies sizes capacity) (sym is) (halted_lies x s sizes capacity h)

-- ---- a disk call that failed

set_there : (xs : List Task) (place : ℕ) (old task : Task) → slice_get xs place ≡ Some old → slice_get (set xs place task) place ≡ Some task
set_there [] place old task at = absurd (cc at)
set_there (x ∷ xs) zero old task at = refl
set_there (x ∷ xs) (suc place) old task at = set_there xs place old task at

pub owes_at : (place head : ℕ) (step : made.TaskStep) (next old : Task) (sector : List ℕ) (s t : QueueState) → slice_get s.unfinished place ≡ Some old → head_in next ≡ head → t ≡ worked place next sector s → IfFaulted step (OwesFailure next) → IfFaulted step (OwesAt place head t)
owes_at place head (answers.Stored tag) next old sector s t at same is h = tt
owes_at place head (answers.Looked k) next old sector s t at same is h = tt
owes_at place head (answers.Acted k) next old sector s t at same is h = tt
owes_at place head answers.Synced next old sector s t at same is h = tt
owes_at place head answers.Faulted next old sector s t at same is h =
    (next, ap (λ (u : QueueState). slice_get u.unfinished place) is ∙ set_there s.unfinished place old next at, same, h)
owes_at place head (answers.Broken fault) next old sector s t at same is h = tt
owes_at place head answers.Failed next old sector s t at same is h = tt
owes_at place head (answers.Done status len) next old sector s t at same is h = tt

pub owes_concluded : (place head : ℕ) (step : made.TaskStep) (u t : QueueState) → IfFaulted step (OwesAt place head u) → t ≡ concluded place head step u → Owes (said head step) t
owes_concluded place head (answers.Stored tag) u t h is = tt
owes_concluded place head (answers.Looked sector) u t h is = tt
owes_concluded place head (answers.Acted sector) u t h is = tt
owes_concluded place head answers.Synced u t h is = tt
owes_concluded place head answers.Faulted u t h is = (place, subst (OwesAt place head) (sym is) h)
owes_concluded place head (answers.Broken fault) u t h is = tt
owes_concluded place head answers.Failed u t h is = tt
owes_concluded place head (answers.Done status len) u t h is = tt

pub owes_nothing : (x : Stepped) (t : QueueState) → disk_outcome x ≡ Ok tt → Owes x t
owes_nothing says.Idle t h = tt
owes_nothing (says.Stored tag) t h = tt
owes_nothing (says.Accepted head) t h = tt
owes_nothing (says.Looked head sector) t h = tt
owes_nothing (says.Acted head sector) t h = tt
owes_nothing (says.Synced head) t h = tt
owes_nothing (says.Faulted head) t h = absurd (cc h)
owes_nothing (says.Completed head) t h = tt
owes_nothing says.Published t h = tt
owes_nothing says.Belled t h = tt
owes_nothing says.Started t h = tt
owes_nothing says.BellFault t h = tt
owes_nothing (says.Damaged fault) t h = tt
owes_nothing says.SharedFault t h = tt
owes_nothing (says.Broken fault) t h = tt

pub owes_halted : (x : Stepped) (u t : QueueState) → Owes x u → t ≡ halted x u → Owes x t
owes_halted says.Idle u t h is = tt
owes_halted (says.Stored tag) u t h is = tt
owes_halted (says.Accepted head) u t h is = tt
owes_halted (says.Looked head sector) u t h is = tt
owes_halted (says.Acted head sector) u t h is = tt
owes_halted (says.Synced head) u t h is = tt
owes_halted (says.Faulted head) u t h is = subst (Owes (says.Faulted head)) (sym is) h
owes_halted (says.Completed head) u t h is = tt
owes_halted says.Published u t h is = tt
owes_halted says.Belled u t h is = tt
owes_halted says.Started u t h is = tt
owes_halted says.BellFault u t h is = tt
owes_halted (says.Damaged fault) u t h is = tt
owes_halted says.SharedFault u t h is = tt
owes_halted (says.Broken fault) u t h is = tt

-- ---- a publication

phase_tasks : (p : Phase) (s : QueueState) → KeepsLying s (with_phase p s)
phase_tasks Rest s sizes capacity h = record { ring = h.ring; start = h.start; same_ring = h.same_ring; tasks = h.tasks }
phase_tasks (Start k) s sizes capacity h = record { ring = h.ring; start = h.start; same_ring = h.same_ring; tasks = h.tasks }
phase_tasks (Fetch k) s sizes capacity h = record { ring = h.ring; start = h.start; same_ring = h.same_ring; tasks = h.tasks }
phase_tasks (Publish k) s sizes capacity h = record { ring = h.ring; start = h.start; same_ring = h.same_ring; tasks = h.tasks }

pub advanced_lies : (p : Phase) (s t : QueueState) → t ≡ with_phase p s → KeepsLying s t
advanced_lies p s t is sizes capacity h = subst (QueueLies sizes capacity) (sym is) (phase_tasks p s sizes capacity h)

under_way_by : (t : Bool) (most : ℕ) (s : QueueState) → KeepsLying s (if t then s else begun most s)
under_way_by true most s sizes capacity h = h
under_way_by false most s sizes capacity h = record { ring = h.ring; start = h.start; same_ring = h.same_ring; tasks = h.tasks }

pub under_way_lies : (most : ℕ) (s t : QueueState) → t ≡ under_way most s → KeepsLying s t
under_way_lies most s t is sizes capacity h = subst (QueueLies sizes capacity) (sym is) (under_way_by (is_publication s.phase) most s sizes capacity h)
