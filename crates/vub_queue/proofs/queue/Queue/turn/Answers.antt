use Rattle.std.proofs.Common.{sym, subst}
use Rattle.vub_queue.specs.QueueState.{state_of}
use Rattle.vub_queue.specs.Turned.{Outside, outside, Turned}
use Rattle.vub_queue.proofs.queue.Queue.turn.Goals as goal

pub returns : goal.returns
returns g c =
    let before : Outside = outside g.M.Shared g.D.Disk g.B.Bell c.args.mem.now c.args.disk.now c.args.bell.now in
    let after : Outside = outside g.M.Shared g.D.Disk g.B.Bell c.step_of-stepped.new.mem c.step_of-stepped.new.disk c.step_of-stepped.new.bell in
    subst (Turned c.args.choice before after c.step_of-stepped.result (state_of c.args.self.now)) (sym c.halt.ensures.state) c.step_of-stepped.ensures
