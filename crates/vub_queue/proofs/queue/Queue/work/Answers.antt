use Rattle.std.proofs.Common.{ℕ, ◌≡◌, refl, sym, ◌∙◌, ap, subst, arith}
use Rattle.std.specs.Prelude.{Some, slice_get}
use Rattle.vub_queue.specs.declared.queue.Stepped.{Stepped}
use Rattle.vub_task.specs.declared.task.TaskStep as made
use Rattle.vub_task.specs.TaskState.{IfMade}
use Rattle.vub_queue.specs.QueueState.{QueueState, state_of, said, concluded, HasHead, Works, StepsAt, IsDue, IfStepped, StepsOut, WorksOut, WorksTask, Owes, StableAfter}
use Rattle.vub_queue.proofs.QueueLemmas.{task_there, works_if, works_out, stepped_if}
use Rattle.vub_queue.proofs.LyingLemmas.{owes_concluded}
use Rattle.vub_queue.proofs.StableLemmas.{stable_said}
use Rattle.vub_queue.proofs.queue.Queue.work.Goals as goal

pub returns-clause-works : goal.returns-clause-works
returns-clause-works g c =
    let s : QueueState = state_of c.args.self.now in
    let u : QueueState = state_of c.step_at-head.new.self in
    let t : QueueState = state_of c.conclude.new.self in
    let steps : StepsAt c.args.place (Some (c.step_at-head.result.0, c.step_at-head.result.1)) s u = subst (λ (k : ℕ). StepsAt k (Some (c.step_at-head.result.0, c.step_at-head.result.1)) s u) c.from-place.ensures c.step_at-head.ensures.steps in
    let ends : t ≡ concluded c.args.place c.step_at-head.result.0 c.step_at-head.result.1 u = c.conclude.ensures.state ∙ ap (λ (k : ℕ). concluded k c.step_at-head.result.0 c.step_at-head.result.1 u) c.from-place.ensures in
    let place : ℕ = c.from-place.result in
    let found = task_there s.unfinished place (omega (arith, c.if-place-len.false, c.len.ensures)) in
    let has : HasHead place c.step_at-head.result.0 s = (found.0, found.1, sym (c.step_at-head.ensures.task found.0 found.1).heads.0) in
    subst (λ (x : Stepped). Works c.args.place x s t) (sym c.conclude.ensures.says) (works_if c.args.place c.step_at-head.result.0 c.step_at-head.result.1 s u t (subst (λ (k : ℕ). HasHead k c.step_at-head.result.0 s) c.from-place.ensures has) steps ends)

pub returns-clause-made : goal.returns-clause-made
returns-clause-made g c task n m told due =
    let s : QueueState = state_of c.args.self.now in
    let u : QueueState = state_of c.step_at-head.new.self in
    let t : QueueState = state_of c.conclude.new.self in
    let p = c.args.place in
    let head : ℕ = c.step_at-head.result.0 in
    let step : made.TaskStep = c.step_at-head.result.1 in
    let told_now = g.M.Shared.told c.step_at-head.new.mem in
    let trail = g.M.Shared.trail c.args.mem.now in
    let trail_now = g.M.Shared.trail c.step_at-head.new.mem in
    let v = g.D.Disk.values c.args.disk.now in
    let v_now = g.D.Disk.values c.step_at-head.new.disk in
    let at_place : IsDue (g.D.Disk.capacity c.args.disk.now) (g.M.Shared.sizes c.args.mem.now) s m c.from-place.result task n = subst (λ (k : ℕ). IsDue (g.D.Disk.capacity c.args.disk.now) (g.M.Shared.sizes c.args.mem.now) s m k task n) (sym c.from-place.ensures) due in
    let there : IfMade (Some step) (λ x. StepsOut c.from-place.result task n m told_now trail trail_now v v_now (Some (head, step)) s u) = c.step_at-head.ensures.made task n m told at_place in
    let out : IfMade (Some step) (λ x. StepsOut p task n m told_now trail trail_now v v_now (Some (head, step)) s u) = subst (λ (k : ℕ). IfMade (Some step) (λ x. StepsOut k task n m told_now trail trail_now v v_now (Some (head, step)) s u)) c.from-place.ensures there in
    let ends : t ≡ concluded p head step u = c.conclude.ensures.state ∙ ap (λ (k : ℕ). concluded k head step u) c.from-place.ensures in
    let made : IfStepped (said head step) (WorksOut p task n m told_now trail trail_now v v_now c.conclude.result s t) =
    stepped_if (λ x. StepsOut p task n m told_now trail trail_now v v_now (Some (head, step)) s u) (WorksOut p task n m told_now trail trail_now v v_now c.conclude.result s t) head step
    (works_out p task n m told_now trail trail_now v v_now (Some (head, step)) head step c.conclude.result s u t refl c.conclude.ensures.says ends) out in
    subst (λ (x : Stepped). IfStepped x (WorksOut p task n m told_now trail trail_now v v_now c.conclude.result s t)) (sym c.conclude.ensures.says) made

pub returns-clause-lies : goal.returns-clause-lies
returns-clause-lies g c = c.conclude.ensures.lies (g.M.Shared.sizes c.args.mem.now) (g.D.Disk.capacity c.args.disk.now) c.step_at-head.ensures.lies

pub returns-clause-failed : goal.returns-clause-failed
returns-clause-failed g c =
    let t : QueueState = state_of c.conclude.new.self in
    subst (λ (x : Stepped). Owes x t) (sym c.conclude.ensures.says) (owes_concluded c.from-place.result c.step_at-head.result.0 c.step_at-head.result.1 (state_of c.step_at-head.new.self) t c.step_at-head.ensures.failed c.conclude.ensures.state)

pub returns-clause-stable : goal.returns-clause-stable
returns-clause-stable g c =
    let stable = g.D.Disk.stable c.args.disk.now in
    let values = g.D.Disk.values c.step_at-head.new.disk in
    let after = g.D.Disk.stable c.step_at-head.new.disk in
    subst (λ (x : Stepped). StableAfter x stable values after) (sym c.conclude.ensures.says) (stable_said c.step_at-head.result.0 c.step_at-head.result.1 stable values after c.step_at-head.ensures.stable)

pub returns-clause-task : goal.returns-clause-task
returns-clause-task g c task started is =
    let s : QueueState = state_of c.args.self.now in
    let u : QueueState = state_of c.step_at-head.new.self in
    let p : ℕ = c.from-place.result in
    let head : ℕ = c.step_at-head.result.0 in
    let step : made.TaskStep = c.step_at-head.result.1 in
    let at : slice_get s.unfinished p ≡ Some task = subst (λ (k : ℕ). slice_get s.unfinished k ≡ Some task) (sym c.from-place.ensures) is in
    let works : ℕ → Type 0 = λ k. WorksTask (g.M.Shared.sizes c.args.mem.now) (g.D.Disk.capacity c.args.disk.now) k task (g.M.Shared.told c.args.mem.now) (g.M.Shared.told c.step_at-head.new.mem) (g.M.Shared.trail c.args.mem.now) (g.M.Shared.trail c.step_at-head.new.mem) (g.D.Disk.values c.args.disk.now) (g.D.Disk.values c.step_at-head.new.disk) c.conclude.result s (state_of c.conclude.new.self) in
    let made_there : works p = record { head = head; step = step; stepped = u; steps = c.step_at-head.ensures.task task at; says = c.conclude.ensures.says; state = c.conclude.ensures.state } in
    subst works c.from-place.ensures made_there
