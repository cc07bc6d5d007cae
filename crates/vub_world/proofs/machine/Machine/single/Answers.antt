use Rattle.vub_world.specs.declared.device.Sequence.TheVariants as sequences
use Rattle.vub_world.specs.MachineSteps.{PlaysSingle, PlaysTurns}
use Rattle.vub_world.proofs.MachineEvents.{ok_then}
use Rattle.vub_world.proofs.MachineTurnEvents.{single_plays}
use Rattle.vub_world.proofs.machine.Machine.single.Goals as goal

pub returns-clause-plays : goal.returns-clause-plays
returns-clause-plays c =
    let w = c.args.self.now in
    let now = c.turns.new.self in
    let q = c.args.queue in
    let t = c.args.turn in
    ok_then (λ is. PlaysTurns q w now (sequences.Once t) is) (λ is. PlaysSingle q w now t is) c.turns.result (λ is plays. single_plays q w now t is plays) c.turns.ensures.plays
