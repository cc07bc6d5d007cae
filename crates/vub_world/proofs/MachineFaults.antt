-- No call fails in a turn: before it memory keeps no store and hasn't failed, and its bell wasn't rung; it makes one store at
-- most, and rings once at most.
use Rattle.std.proofs.Common.{◌≡◌, ◌≤◌, ◌<◌, ℕ, false, true, List, [], ◌∷◌, ◌++◌, length, refl, ap, subst, inl, inr, arith}
use Rattle.std.specs.Prelude.{Bool, Some}
use Rattle.std.proofs.lemmas.List.{length_push}
use Rattle.vub_base.specs.Bells.{BellState, rung_once}
use Rattle.vub_base.specs.Causes.{HasCause}
use Rattle.vub_shared.specs.Bytes.{Bytes}
use Rattle.vub_shared.specs.Stores.{Store, after_in_trail}
use Rattle.vub_steps.specs.declared.readiness.Turn.{Turn}
use Rattle.vub_steps.specs.declared.readiness.Turn.TheVariants as turns
use Rattle.vub_queue.specs.declared.queue.Stepped.{Stepped}
use Rattle.vub_queue.specs.declared.queue.Stepped.TheVariants as says
use Rattle.vub_queue.specs.QueueState.{QueueState, DoesTrail, RingsAt, outcome, disk_outcome, bell_outcome, is_fault}
use Rattle.vub_task.specs.TaskState.{GainsOne}
use Rattle.vub_world.specs.Bells.{bell_in, rung_in, faults_in}
use Rattle.vub_world.specs.declared.bell.WatchedBell.{WatchedBell}
use Rattle.vub_world.proofs.Bells.{never_refused}
use Rattle.vub_world.proofs.MachineTurns.{NoDiskFault, some_is}

-- ---- one store at most

no_store : (now : List Store) → Some now ≡ Some [] → length now ≤ 1
no_store now same = omega (arith, ap (λ (l : List Store). length l) (some_is now [] same))

few_gained : (now : List Store) → GainsOne (Some []) (Some now) → length now ≤ 1
few_gained now (inl none) = no_store now none
few_gained now (inr one) = omega (arith, ap (λ (l : List Store). length l) (some_is now (after_in_trail one.0 []) one.1))

few_turn : (t : Turn) (b : Bytes) (now : List Store) (x : Stepped) (state : QueueState) → DoesTrail t (Some b) (Some []) (Some now) x state → length now ≤ 1
few_turn turns.Start b now x state trails = few_gained now trails.0
few_turn turns.Fetch b now x state trails = few_gained now trails.0
few_turn (turns.Work place) b now x state trails = few_gained now trails
few_turn (turns.Publish most) b now x state trails = few_gained now trails.0

-- a turn makes one store at most, before which the list was empty; a stopped queue makes none
pub turn_stores : (before now : List Store) (b : Bytes) (t : Turn) (x : Stepped) (state : QueueState) (stopped : Bool) → before ≡ [] → (stopped ≡ true → Some now ≡ Some before) → (stopped ≡ false → DoesTrail t (Some b) (Some before) (Some now) x state) → length now ≤ 1
turn_stores before now b t x state true empty none trails = no_store now (subst (λ (l : List Store). Some now ≡ Some l) empty (none refl))
turn_stores before now b t x state false empty none trails = few_turn t b now x state (subst (λ (l : List Store). DoesTrail t (Some b) (Some l) (Some now) x state) empty (trails refl))

-- ---- one ring at most

-- the list after a ring
rung_more : (index : ℕ) (before now : WatchedBell) → rung_in before ≡ [] → Some (bell_in now) ≡ Some (rung_once index (bell_in before)) → length (rung_in now) < 2
rung_more index before now none is =
    let rung : rung_in now ≡ rung_in before ++ index ∷ [] = ap (λ (s : BellState). s.rung) (some_is (bell_in now) (rung_once index (bell_in before)) is) in
    omega (arith, ap (λ (l : List ℕ). length l) rung, length_push (rung_in before) index, ap (λ (l : List ℕ). length l) none)

rung_same : (before now : WatchedBell) → rung_in before ≡ [] → Some (bell_in now) ≡ Some (bell_in before) → length (rung_in now) < 2
rung_same before now none is = omega (arith, ap (λ (s : BellState). length s.rung) (some_is (bell_in now) (bell_in before) is), ap (λ (l : List ℕ). length l) none)

turn_rings : (index : ℕ) (before now : WatchedBell) (x : Stepped) → rung_in before ≡ [] → RingsAt index x (Some (bell_in before)) (Some (bell_in now)) → length (rung_in now) < 2
turn_rings index before now says.Belled none rings = rung_more index before now none rings
turn_rings index before now says.BellFault none rings = rung_same before now none rings.0
turn_rings index before now says.Idle none rings = rung_same before now none rings
turn_rings index before now (says.Stored tag) none rings = rung_same before now none rings
turn_rings index before now (says.Accepted head) none rings = rung_same before now none rings
turn_rings index before now (says.Looked head sector) none rings = rung_same before now none rings
turn_rings index before now (says.Acted head sector) none rings = rung_same before now none rings
turn_rings index before now (says.Synced head) none rings = rung_same before now none rings
turn_rings index before now (says.Faulted head) none rings = rung_same before now none rings
turn_rings index before now (says.Completed head) none rings = rung_same before now none rings
turn_rings index before now says.Published none rings = rung_same before now none rings
turn_rings index before now says.Started none rings = rung_same before now none rings
turn_rings index before now says.SharedFault none rings = rung_same before now none rings
turn_rings index before now (says.Broken fault) none rings = rung_same before now none rings
turn_rings index before now (says.Damaged fault) none rings = rung_same before now none rings

-- so no call of it failed
pub bell_unfailed : (index : ℕ) (before now : WatchedBell) (x : Stepped) → rung_in before ≡ [] → RingsAt index x (Some (bell_in before)) (Some (bell_in now)) → faults_in now ≡ 0
bell_unfailed index before now x none rings = never_refused now (turn_rings index before now x none rings)

-- ---- where the counts stay, nothing failed

pub turn_made : (a b e f : ℕ) (x : Stepped) → a ≡ 0 → b ≡ 0 → HasCause a b (outcome x) → e ≡ 0 → f ≡ 0 → HasCause e f (bell_outcome x) → is_fault x ≡ false
turn_made a b e f says.SharedFault ea eb cause ee ef bell = absurd (omega (arith, ea, eb, cause.failed))
turn_made a b e f says.BellFault ea eb cause ee ef bell = absurd (omega (arith, ee, ef, bell.failed))
turn_made a b e f says.Idle ea eb cause ee ef bell = refl
turn_made a b e f (says.Stored tag) ea eb cause ee ef bell = refl
turn_made a b e f (says.Accepted head) ea eb cause ee ef bell = refl
turn_made a b e f (says.Looked head sector) ea eb cause ee ef bell = refl
turn_made a b e f (says.Acted head sector) ea eb cause ee ef bell = refl
turn_made a b e f (says.Synced head) ea eb cause ee ef bell = refl
turn_made a b e f (says.Faulted head) ea eb cause ee ef bell = refl
turn_made a b e f (says.Completed head) ea eb cause ee ef bell = refl
turn_made a b e f says.Published ea eb cause ee ef bell = refl
turn_made a b e f says.Belled ea eb cause ee ef bell = refl
turn_made a b e f says.Started ea eb cause ee ef bell = refl
turn_made a b e f (says.Broken fault) ea eb cause ee ef bell = refl
turn_made a b e f (says.Damaged fault) ea eb cause ee ef bell = refl

-- a disk without faults doesn't fail
pub served_is : (x : Stepped) → HasCause 0 0 (disk_outcome x) → NoDiskFault x
served_is (says.Faulted head) cause = absurd (omega (arith, cause.failed))
served_is says.SharedFault cause = tt
served_is says.Idle cause = tt
served_is (says.Stored tag) cause = tt
served_is (says.Accepted head) cause = tt
served_is (says.Looked head sector) cause = tt
served_is (says.Acted head sector) cause = tt
served_is (says.Synced head) cause = tt
served_is (says.Completed head) cause = tt
served_is says.Published cause = tt
served_is says.Started cause = tt
served_is says.Belled cause = tt
served_is says.BellFault cause = tt
served_is (says.Damaged fault) cause = tt
served_is (says.Broken fault) cause = tt
