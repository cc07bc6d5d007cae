use Rattle.std.proofs.Common.{take}
use Rattle.vub_device.specs.Legal.{Legal}
use Rattle.vub_device.proofs.legal.is_legal.Given as goal

abbrev pub invariant-loop-index : goal.invariant-loop-index
invariant-loop-index l = Legal l.capacity l.mode (take l.index l.history)
