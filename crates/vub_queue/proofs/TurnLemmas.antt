-- What a turn leaves, from what its step leaves.
use mathlib.Core.Path.{fun_ext}
use Rattle.std.proofs.Common.{◌≡◌, ℕ, Bool, true, false, refl, ap, sym, ◌∙◌, subst, inl, inr, arith}
use Rattle.std.specs.Prelude.{Option, Some, List, length, nat_lt, slice_get, is_some, Ok, Err, Result}
use Rattle.std.proofs.lemmas.Bool.Decides.{nat_tests}
use Rattle.std.proofs.lemmas.Bool.{cases_Bool}
use Rattle.vub_base.specs.Told.{WhereTold}
use Rattle.vub_base.specs.Causes.{HasCause}
use Rattle.vub_base.specs.declared.bell.Bell.{Ghosts as BellGhosts}
use Rattle.vub_shared.specs.declared.shared.Shared.{Ghosts as SharedGhosts}
use Rattle.vub_disk.specs.declared.disk.Disk.{Ghosts as DiskGhosts}
use Rattle.vub_shared.specs.Bytes.{Bytes}
use Rattle.vub_shared.specs.Stores.{Store}
use Rattle.vub_shared.specs.Spaces.{Names}
use Rattle.vub_shared.specs.Frames.{KeepsSpaces, OnlyLoads}
use Rattle.vub_disk.specs.Values.{Values}
use Rattle.vub_steps.specs.declared.readiness.Choice.{Choice}
use Rattle.vub_steps.specs.declared.readiness.Choice.TheVariants.{Only}
use Rattle.vub_steps.specs.declared.readiness.Turn.{Turn}
use Rattle.vub_steps.specs.declared.readiness.Turn.TheVariants.{Start, Fetch, Work, Publish}
use Rattle.vub_steps.specs.Readiness.{is_ready}
use Rattle.vub_task.specs.declared.task.Task.{Task}
use Rattle.vub_task.specs.TaskState.{Making}
use Rattle.vub_queue.specs.declared.queue.Stepped.{Stepped}
use Rattle.vub_queue.specs.declared.queue.Stepped.TheVariants as says
use Rattle.vub_queue.specs.QueueState.{QueueState, QueueLies, Owes, standing_at, Turns, Does, DoesStore, DoesTrail, DoesDisk, IsDue, IfStepped, WorksOut, WorksTask, Rests, is_fault, halted, stopped_by, outcome, disk_outcome, bell_outcome, RingsAt, has_rung, may_ring, StableAfter, is_starting}
use Rattle.vub_queue.specs.QueueFacts.{KeepsFacts, FactsAt, WorksApart}
use Rattle.vub_queue.specs.Turned.{Outside, outside, turn_at, Turned}
use Rattle.vub_queue.proofs.BeginFacts.{BatchesFit}
use Rattle.vub_queue.proofs.BesideLemmas.{task_beside}
use Rattle.vub_queue.proofs.TurnKeeps.{LeftBeside, turned_keeps}
use Rattle.vub_queue.proofs.MoveLemmas.{fault_stores, fault_trails}
use Rattle.vub_queue.proofs.QueueLemmas.{task_there, unless, runs_on, rests_on, stepped_map}
use Rattle.vub_queue.proofs.LyingLemmas.{task_in, lies_with, lies_halted, owes_halted}

-- the spaces that memory, disk and bell tell of
abbrev pub KeepsSpacesOf : Outside → Outside → Type 0
KeepsSpacesOf before after = KeepsSpaces (λ (o : Outside). o.names) (λ (o : Outside). o.handed) (λ (o : Outside). o.sizes) before after

-- a step of this turn of a queue that isn't stopped, before a fault stops it
pub record Makes (turn : Turn) (before after : Outside) (x : Stepped) (s u : QueueState) : Type 0 where
  pub lies : QueueLies before.sizes before.capacity u
  pub failed : Owes x u
  pub ring : u.ring ≡ s.ring
  pub stopped : u.stopped ≡ s.stopped
  pub does : Does turn before.bytes x s u
  pub stores : DoesStore turn before.bytes after.bytes x s
  pub trails : DoesTrail turn before.bytes before.trail after.trail x s
  pub values : DoesDisk turn before.values after.values
  pub made : (place : ℕ) (task : Task) (n : Making) → WhereTold before.bytes (λ m. turn ≡ Work place → IsDue before.capacity before.sizes s m place task n → IfStepped x (WorksOut place task n m after.bytes before.trail after.trail before.values after.values x s u))
  pub task : (place : ℕ) (task : Task) → turn ≡ Work place → s.started ≡ true → slice_get s.unfinished place ≡ Some task → WorksTask before.sizes before.capacity place task before.bytes after.bytes before.trail after.trail before.values after.values x s u
  pub rests : (waiting place : ℕ) → turn ≡ Work place → is_ready (standing_at s waiting) (Work place) ≡ false → Rests before.bytes after.bytes before.trail after.trail before.values after.values x s u
  pub cause : HasCause before.memory_faults after.memory_faults (outcome x)
  pub disk_cause : HasCause before.disk_faults after.disk_faults (disk_outcome x)
  pub rings : RingsAt s.index x before.bells after.bells
  pub may_ring : has_rung x ≡ true → may_ring turn ≡ true
  pub bell_cause : HasCause before.bell_faults after.bell_faults (bell_outcome x)
  pub stable : StableAfter x before.stable after.values after.stable
  pub keeps_spaces : KeepsSpacesOf before after
  pub capacity : after.capacity ≡ before.capacity

-- where the spans into which the task may store are apart, so was its store
made_beside : (turn : Turn) (before after : Outside) (x : Stepped) (s u : QueueState) → QueueLies before.sizes before.capacity s → Makes turn before after x s u
    → (m now : Bytes) → before.bytes ≡ Some m → after.bytes ≡ Some now → is_fault x ≡ false → WorksApart before.sizes turn s m → LeftBeside turn s m now
made_beside Start before after x s u lies h m now told told_now fine apart = tt
made_beside Fetch before after x s u lies h m now told told_now fine apart = tt
made_beside (Publish most) before after x s u lies h m now told told_now fine apart = tt
made_beside (Work place) before after x s u lies h m now told told_now fine apart = elim (cases_Bool (is_ready (standing_at s 0) (Work place))) [
  | inl ready ↦
      let on : s.started ≡ true = grind (arith, nat_tests) in
      let there : nat_lt place (length s.unfinished) ≡ true = grind (arith, nat_tests) in
      let found = task_there s.unfinished place (grind (arith, nat_tests, there)) in
      let fits = task_in before.sizes before.capacity s.ring s.unfinished place found.0 lies.tasks found.1 in
      task_beside before.sizes before.capacity place found.0 before.bytes after.bytes before.trail after.trail before.values after.values x s u m now told told_now fine fits.0 (h.task place found.0 refl on found.1) (apart found.0 found.1)
  | inr idle ↦ let rests = h.rests 0 place refl idle in record { is = inl (some_is now m (sym told_now ∙ rests.stores ∙ told)) }
]
  where
    some_is : (a b : Bytes) → ◌≡◌ {A = Option Bytes} (Some a) (Some b) → a ≡ b
    some_is a b same = cc same

only_is : (a b : Turn) → Only a ≡ Only b → a ≡ b
only_is a b same = cc same

-- a fault stops it
pub turned_of : (turn : Turn) (before after : Outside) (x : Stepped) (s u : QueueState) → BatchesFit s → is_some s.stopped ≡ false → QueueLies before.sizes before.capacity s → Makes turn before after x s u → Turned (Only turn) before after x s (halted x u)
turned_of turn before after x s u fit runs lies h =
    let t : QueueState = halted x u in record {
      lies = lies_with before.sizes after.sizes before.capacity after.capacity t h.keeps_spaces.same_sizes h.capacity (lies_halted x u t refl before.sizes before.capacity h.lies);
      failed = owes_halted x u t h.failed refl;
      ring = h.ring;
      stopped = λ is. absurd (cc (is, runs));
      stops = ap (stopped_by x) h.stopped;
      does = λ on m told. (u, refl, h.does);
      keeps = λ m told. turned_keeps before.sizes turn before.bytes after.bytes x s t u fit refl h.does h.stores (made_beside turn before after x s u lies h);
      stores = λ on m told. h.stores;
      trails = λ on m told. h.trails;
      values = λ on m told. h.values;
      made = λ place task n on m told is due. stepped_map (WorksOut place task n m after.bytes before.trail after.trail before.values after.values x s u) (WorksOut place task n m after.bytes before.trail after.trail before.values after.values x s t) x
          (runs_on place task n m after.bytes before.trail after.trail before.values after.values x s u t refl) (h.made place task n m told is due);
      task = λ place task on m told is started at. unless (is_fault x) _ (u, refl, h.task place task is started at);
      rests = λ waiting place on only unready. rests_on before.bytes after.bytes before.trail after.trail before.values after.values x s u t refl (h.rests waiting place (only_is turn (Work place) only) unready);
      cause = h.cause;
      disk_cause = h.disk_cause;
      rings = h.rings;
      may_ring = λ m told. h.may_ring;
      bell_cause = h.bell_cause;
      stable = h.stable;
      keeps_spaces = h.keeps_spaces;
      capacity = h.capacity;
    }

-- the turn that a choice comes to, and no other where it names one
pub turned_by : (choice : Choice) (turn : Turn) (before after : Outside) (x : Stepped) (s t : QueueState) → WhereTold before.bytes (λ m. turn ≡ turn_at choice s m) → ((named : Turn) → choice ≡ Only named → turn ≡ named) → Turned (Only turn) before after x s t → Turned choice before after x s t
turned_by choice turn before after x s t is names h = record {
  lies = h.lies;
  failed = h.failed;
  ring = h.ring;
  stopped = h.stopped;
  stops = h.stops;
  does = λ on m told. subst (λ (k : Turn). Turns k before.bytes x s t) (is m told) (h.does on m told);
  keeps = λ m told. subst (λ (k : Turn). KeepsFacts before.sizes k before.bytes after.bytes x s t) (is m told) (h.keeps m told);
  stores = λ on m told. subst (λ (k : Turn). DoesStore k before.bytes after.bytes x s) (is m told) (h.stores on m told);
  trails = λ on m told. subst (λ (k : Turn). DoesTrail k before.bytes before.trail after.trail x s) (is m told) (h.trails on m told);
  values = λ on m told. subst (λ (k : Turn). DoesDisk k before.values after.values) (is m told) (h.values on m told);
  made = λ place task n on m told at due. h.made place task n on m told (is m told ∙ at) due;
  task = λ place task on m told at started there. h.task place task on m told (is m told ∙ at) started there;
  rests = λ waiting place on only unready. h.rests waiting place on (ap Only (names (Work place) only)) unready;
  cause = h.cause;
  disk_cause = h.disk_cause;
  rings = h.rings;
  may_ring = λ m told rung. subst (λ (k : Turn). may_ring k ≡ true) (is m told) (h.may_ring m told rung);
  bell_cause = h.bell_cause;
  stable = h.stable;
  keeps_spaces = h.keeps_spaces;
  capacity = h.capacity;
}

-- no fault
pub no_fault : (n : ℕ) → HasCause {T = Unit {0}} {E = Unit {0}} n n (Ok tt)
no_fault n = record { later = omega arith; failed = tt; quiet = refl }

pub no_fault_in : (n : ℕ) (r : Result (Unit {0}) (Unit {0})) → r ≡ Ok tt → HasCause n n r
no_fault_in n r is = subst (HasCause n n) (sym is) (no_fault n)

stays_disk : (turn : Turn) (v : Option Values) → DoesDisk turn v v
stays_disk Start v = refl
stays_disk Fetch v = refl
stays_disk (Work place) v = tt
stays_disk (Publish most) v = refl

-- the load on which the choice depends failed
pub turned_faulted : {M D B T E : Type 0} (S : SharedGhosts M) (K : DiskGhosts D) (R : BellGhosts B) (mem now : M) (disk : D) (bell : B) (choice : Choice) (s : QueueState) → is_some s.stopped ≡ false → QueueLies (S.sizes mem) (K.capacity disk) s
    → ((named : Turn) → choice ≡ Only named → ⊥) → OnlyLoads S.told S.trail S.names S.handed S.sizes mem now → (e : E) → HasCause {T = T} {E = E} (S.faults mem) (S.faults now) (Err e)
    → Turned choice (outside S K R mem disk bell) (outside S K R now disk bell) says.SharedFault s (halted says.SharedFault s)
turned_faulted S K R mem now disk bell choice s runs lies none loads e cause = record {
  lies = lies_with (S.sizes mem) (S.sizes now) (K.capacity disk) (K.capacity disk) (halted says.SharedFault s) loads.spaces.same_sizes refl (lies_halted says.SharedFault s (halted says.SharedFault s) refl (S.sizes mem) (K.capacity disk) lies);
  failed = tt;
  ring = refl;
  stopped = λ is. absurd (cc (is, runs));
  stops = refl;
  does = λ on m told. (s, refl, tt);
  keeps = λ m told heads base at next at_is next_is beside f. tt;
  stores = λ on m told. fault_stores (turn_at choice s m) (S.told mem) (S.told now) s loads.same_told;
  trails = λ on m told. fault_trails (turn_at choice s m) (S.told mem) (S.trail mem) (S.trail now) s loads.same_trail;
  values = λ on m told. stays_disk (turn_at choice s m) (K.values disk);
  made = λ place task n on m told is due. tt;
  task = λ place task on m told is started at. tt;
  rests = λ waiting place on only unready. absurd (none (Work place) only);
  cause = record { later = cause.later; failed = cause.failed; quiet = tt };
  disk_cause = no_fault (K.faults disk);
  rings = refl;
  may_ring = λ m told rung. absurd (cc rung);
  bell_cause = no_fault (R.faults bell);
  stable = refl;
  keeps_spaces = record { same_names = loads.spaces.same_names; same_handed = loads.spaces.same_handed; same_sizes = loads.spaces.same_sizes };
  capacity = refl;
}

-- a queue that has stopped
pub turned_stopped : (choice : Choice) (o : Outside) (s : QueueState) → is_some s.stopped ≡ true → QueueLies o.sizes o.capacity s → Turned choice o o says.Idle s s
turned_stopped choice o s is lies = record {
  lies = lies;
  failed = tt;
  ring = refl;
  stopped = λ so. (refl, refl, record { bytes = refl; trail = refl; values = refl; bells = refl });
  stops = refl;
  does = λ on m told. absurd (cc (is, on));
  keeps = λ m told heads base at next at_is next_is beside f. subst (λ (v : Bytes). FactsAt heads base s v) (some_is at next (sym at_is ∙ next_is)) f;
  stores = λ on m told. absurd (cc (is, on));
  trails = λ on m told. absurd (cc (is, on));
  values = λ on m told. absurd (cc (is, on));
  made = λ place task n on m told at due. absurd (cc (is, on));
  task = λ place task on m told at started there. absurd (cc (is, on));
  rests = λ waiting place on only unready. absurd (cc (is, on));
  cause = no_fault o.memory_faults;
  disk_cause = no_fault o.disk_faults;
  rings = refl;
  may_ring = λ m told rung. absurd (cc rung);
  bell_cause = no_fault o.bell_faults;
  stable = refl;
  keeps_spaces = record { same_names = refl; same_handed = λ k. refl; same_sizes = λ k. refl };
  capacity = refl;
}
  where
    some_is : (a b : Bytes) → ◌≡◌ {A = Option Bytes} (Some a) (Some b) → a ≡ b
    some_is a b same = cc same

-- loads leave all that is told
pub loads_outside : {M D B : Type 0} (S : SharedGhosts M) (K : DiskGhosts D) (R : BellGhosts B) (mem now : M) (disk : D) (bell : B) → OnlyLoads S.told S.trail S.names S.handed S.sizes mem now → S.faults now ≡ S.faults mem → outside S K R now disk bell ≡ outside S K R mem disk bell
loads_outside S K R mem now disk bell loads faults =
    ap (λ (bytes : Option Bytes). with_memory bytes (S.trail now) (S.names now) (S.handed now) (S.sizes now) (S.faults now)) loads.same_told
    ∙ ap (λ (trail : Option (List Store)). with_memory (S.told mem) trail (S.names now) (S.handed now) (S.sizes now) (S.faults now)) loads.same_trail
    ∙ ap (λ (names : Option Names). with_memory (S.told mem) (S.trail mem) names (S.handed now) (S.sizes now) (S.faults now)) loads.spaces.same_names
    ∙ ap (λ (handed : ℕ → Bool). with_memory (S.told mem) (S.trail mem) (S.names mem) handed (S.sizes now) (S.faults now)) (fun_ext loads.spaces.same_handed)
    ∙ ap (λ (sizes : ℕ → ℕ). with_memory (S.told mem) (S.trail mem) (S.names mem) (S.handed mem) sizes (S.faults now)) (fun_ext loads.spaces.same_sizes)
    ∙ ap (with_memory (S.told mem) (S.trail mem) (S.names mem) (S.handed mem) (S.sizes mem)) faults
  where
    with_memory : Option Bytes → Option (List Store) → Option Names → (ℕ → Bool) → (ℕ → ℕ) → ℕ → Outside
    with_memory bytes trail names handed sizes faults = record (outside S K R mem disk bell) { bytes = bytes; trail = trail; names = names; handed = handed; sizes = sizes; memory_faults = faults }

-- ---- the answers of a start, and a turn that calls no disk

pub starting_no_disk : (x : Stepped) → is_starting x ≡ true → disk_outcome x ≡ Ok tt
starting_no_disk (says.Faulted head) is = absurd (cc is)
starting_no_disk says.Idle is = refl
starting_no_disk (says.Stored tag) is = refl
starting_no_disk (says.Accepted head) is = refl
starting_no_disk (says.Looked head sector) is = refl
starting_no_disk (says.Acted head sector) is = refl
starting_no_disk (says.Synced head) is = refl
starting_no_disk (says.Completed head) is = refl
starting_no_disk says.Published is = refl
starting_no_disk says.Belled is = refl
starting_no_disk says.Started is = refl
starting_no_disk says.SharedFault is = refl
starting_no_disk says.BellFault is = refl
starting_no_disk (says.Broken fault) is = refl
starting_no_disk (says.Damaged fault) is = refl

pub owes_nothing : (x : Stepped) (u : QueueState) → disk_outcome x ≡ Ok tt → Owes x u
owes_nothing (says.Faulted head) u is = absurd (cc is)
owes_nothing says.Idle u is = tt
owes_nothing (says.Stored tag) u is = tt
owes_nothing (says.Accepted head) u is = tt
owes_nothing (says.Looked head sector) u is = tt
owes_nothing (says.Acted head sector) u is = tt
owes_nothing (says.Synced head) u is = tt
owes_nothing (says.Completed head) u is = tt
owes_nothing says.Published u is = tt
owes_nothing says.Belled u is = tt
owes_nothing says.Started u is = tt
owes_nothing says.SharedFault u is = tt
owes_nothing says.BellFault u is = tt
owes_nothing (says.Broken fault) u is = tt
owes_nothing (says.Damaged fault) u is = tt
