use Rattle.std.proofs.Common.{length}
use Rattle.vub_device.proofs.past.+looks.Given as goal

abbrev pub decreases-looks : goal.decreases-looks
decreases-looks l = length l.past.now
