use Rattle.vub_world.proofs.MachineNotes.{cleared_zero, one_space_more}
use Rattle.vub_shared.specs.Watched.{bytes_in}
use Rattle.vub_world.proofs.machine.add_space.Goals as goal

pub returns-in-Ok-clause-count : goal.returns-in-Ok-clause-count
returns-in-Ok-clause-count c = one_space_more c.args.memory.now c.create.new.self c.in-Ok.space.number c.args.size c.in-Ok.ensures.made c.in-Ok.ensures.number

pub returns-in-Ok-clause-zero : goal.returns-in-Ok-clause-zero
returns-in-Ok-clause-zero c = cleared_zero c.in-Ok.space.number (bytes_in c.args.memory.now) _ c.requires.zero c.in-Ok.ensures.zeroed
