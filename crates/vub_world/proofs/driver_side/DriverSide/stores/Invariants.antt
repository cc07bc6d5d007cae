use Rattle.vub_world.specs.DriverSides.{desk}
use Rattle.vub_world.proofs.MachineGuests.{GuestLoop}
use Rattle.vub_world.proofs.driver_side.DriverSide.stores.Given as goal

abbrev pub invariant-loop-done : goal.invariant-loop-done
invariant-loop-done l = GuestLoop l.initial.self.index l.done (desk l.initial.memory l.initial.self) (desk l.memory l.self) l.initial.room l.room
