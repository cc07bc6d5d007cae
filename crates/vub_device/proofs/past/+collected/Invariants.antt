use Rattle.std.proofs.Common.{length}
use Rattle.vub_device.proofs.past.+collected.Given as goal

abbrev pub decreases-collected : goal.decreases-collected
decreases-collected l = length l.past.now
