use Rattle.std.proofs.Common.{length}
use Rattle.vub_device.proofs.past.+accepted.Given as goal

abbrev pub decreases-accepted : goal.decreases-accepted
decreases-accepted l = length l.past.now
