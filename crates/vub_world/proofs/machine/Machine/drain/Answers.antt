use Rattle.vub_world.specs.declared.device.Sequence.TheVariants as sequences
use Rattle.vub_schedule.specs.declared.types.Event.TheVariants as events
use Rattle.vub_world.specs.MachineAt.{Performs}
use Rattle.vub_world.specs.MachineSteps.{PlaysTurns}
use Rattle.vub_world.proofs.MachineEvents.{ok_then}
use Rattle.vub_world.proofs.MachineTurnEvents.{drain_performs}
use Rattle.vub_world.proofs.machine.Machine.drain.Goals as goal

pub returns-clause-performs : goal.returns-clause-performs
returns-clause-performs c =
    let w = c.args.self.now in
    let now = c.turns.new.self in
    let q = c.args.queue in
    ok_then (λ is. PlaysTurns q w now sequences.Drain is) (λ is. Performs w now (events.Drain q) is) c.turns.result (λ is plays. drain_performs q w now is plays) c.turns.ensures.plays
