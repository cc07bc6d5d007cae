use Rattle.std.proofs.Common.{length}
use Rattle.vub_device.proofs.past.+started.Given as goal

abbrev pub decreases-started : goal.decreases-started
decreases-started l = length l.past.now
