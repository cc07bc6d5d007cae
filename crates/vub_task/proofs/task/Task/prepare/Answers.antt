use Rattle.std.proofs.Common.{◌≡◌, ◌∙◌, sym, ap}
use Rattle.std.specs.Prelude.{Some, slice_get}
use Rattle.vub_steps.specs.Tasks.{task_steps}
use Rattle.vub_task.proofs.ArmLemmas.{at_start}
use Rattle.vub_task.proofs.task.Task.prepare.Goals as goal

pub returns-in-Begin-clause-ready : goal.returns-in-Begin-clause-ready
returns-in-Begin-clause-ready g c n m told is ready =
    let none = at_start n.header c.args.ring.now n.buffer n.request n.made n.step c.args.self.now c.in-Begin.is ready.1 is.next in
    let first : slice_get (task_steps n.header n.request) 0 ≡ Some n.step = ap (slice_get (task_steps n.header n.request)) (sym none) ∙ is.next in
    c.begin.ensures.begins n.header n.links n.buffer n.request n.step m told is.means ready.0 is.served first
