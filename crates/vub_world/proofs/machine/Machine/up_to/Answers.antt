use Rattle.vub_world.specs.declared.device.Sequence.TheVariants as sequences
use Rattle.vub_schedule.specs.declared.types.Event.TheVariants as events
use Rattle.vub_world.specs.MachineAt.{Performs}
use Rattle.vub_world.specs.MachineSteps.{PlaysTurns}
use Rattle.vub_world.proofs.MachineEvents.{ok_then}
use Rattle.vub_world.proofs.MachineTurnEvents.{up_to_performs}
use Rattle.vub_world.proofs.machine.Machine.up_to.Goals as goal

pub returns-clause-performs : goal.returns-clause-performs
returns-clause-performs c =
    let w = c.args.self.now in
    let now = c.turns.new.self in
    let q = c.args.queue in
    let n = c.args.count in
    ok_then (λ is. PlaysTurns q w now (sequences.UpTo n) is) (λ is. Performs w now (events.Turn q n) is) c.turns.result (λ is plays. up_to_performs q w now n is plays) c.turns.ensures.plays
