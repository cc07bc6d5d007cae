use Rattle.std.proofs.Common.{subst}
use Rattle.vub_steps.specs.declared.readiness.Choice.TheVariants.{Only}
use Rattle.vub_queue.specs.QueueState.{QueueState, state_of, halted}
use Rattle.vub_queue.specs.Turned.{Outside, outside, Turned}
use Rattle.vub_queue.proofs.TurnLemmas.{turned_by, turned_faulted, loads_outside}
use Rattle.vub_queue.proofs.queue.Queue.step_of.Goals as goal

pub returns-in-Ok : goal.returns-in-Ok
returns-in-Ok g c =
    let s : QueueState = state_of c.args.self.now in
    let t : QueueState = halted c.make.result (state_of c.make.new.self) in
    let before : Outside = outside g.M.Shared g.D.Disk g.B.Bell c.args.mem.now c.args.disk.now c.args.bell.now in
    let after : Outside = outside g.M.Shared g.D.Disk g.B.Bell c.make.new.mem c.make.new.disk c.make.new.bell in
    let same = loads_outside g.M.Shared g.D.Disk g.B.Bell c.args.mem.now c.next_turn.new.mem c.args.disk.now c.args.bell.now c.in-Ok.ensures.only_loads c.in-Ok.ensures.cause.quiet in
    turned_by c.args.choice c.in-Ok.turn before after c.make.result s t c.in-Ok.ensures.chosen (λ named is. cc (c.in-Ok.ensures.only named is))
    (subst (λ (o : Outside). Turned (Only c.in-Ok.turn) o after c.make.result s t) same c.make.ensures)

pub returns-in-Err : goal.returns-in-Err
returns-in-Err g c =
    turned_faulted g.M.Shared g.D.Disk g.B.Bell c.args.mem.now c.next_turn.new.mem c.args.disk.now c.args.bell.now c.args.choice (state_of c.args.self.now) c.requires.runs c.requires.lies
    (λ named is. absurd (cc (c.in-Err.ensures.only named is))) c.in-Err.ensures.only_loads _ c.in-Err.ensures.cause
