use Rattle.std.proofs.Common.{length}
use Rattle.vub_device.proofs.past.+asked.Given as goal

abbrev pub decreases-asked : goal.decreases-asked
decreases-asked l = length l.past.now
