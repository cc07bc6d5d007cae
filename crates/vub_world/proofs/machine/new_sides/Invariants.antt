use Rattle.vub_world.specs.DriverSides.{AreNewDriverSides}
use Rattle.vub_world.proofs.machine.new_sides.Given as goal

abbrev pub invariant-loop-queue : goal.invariant-loop-queue
invariant-loop-queue l = AreNewDriverSides l.header l.queue l.sides.items
