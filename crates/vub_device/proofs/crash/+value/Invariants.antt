use Rattle.std.proofs.Common.{length}
use Rattle.vub_device.proofs.crash.+value.Given as goal

abbrev pub decreases-value : goal.decreases-value
decreases-value l = length l.past.now
