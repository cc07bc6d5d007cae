use Rattle.std.proofs.Common.{[]}
use Rattle.vub_world.proofs.world.World.new.Goals as goal

pub invariant_of-result : goal.invariant_of-result
invariant_of-result c = (c.in_ok-machine.ensures.sound, ([], [], c.in_ok-machine.ensures.stands), λ none. c.in_ok-machine.ensures.offers)
