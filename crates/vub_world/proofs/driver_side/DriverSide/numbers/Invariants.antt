use Rattle.std.proofs.Common.{◌≡◌, ◌≤◌, ◌-◌, length, take, vec_capacity}
use Rattle.std.specs.Prelude.{map}
use Rattle.vub_world.specs.DriverSides.{queue_of}
use Rattle.vub_world.specs.MachineDevice.{queue_heads, number_at}
use Rattle.vub_world.proofs.driver_side.DriverSide.numbers.Given as goal

abbrev pub invariant-loop-head : goal.invariant-loop-head
invariant-loop-head l = (l.numbers.items ≡ map (number_at l.self.outstanding) (take (length l.numbers.items) (queue_heads (queue_of l.self l.backend)))) × (length (queue_heads (queue_of l.self l.backend)) ≤ vec_capacity l.numbers)

abbrev pub decreases-loop-head : goal.decreases-loop-head
decreases-loop-head l = length (queue_heads (queue_of l.self l.backend)) - length l.numbers.items
