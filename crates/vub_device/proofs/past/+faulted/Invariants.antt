use Rattle.std.proofs.Common.{length}
use Rattle.vub_device.proofs.past.+faulted.Given as goal

abbrev pub decreases-faulted : goal.decreases-faulted
decreases-faulted l = length l.past.now
