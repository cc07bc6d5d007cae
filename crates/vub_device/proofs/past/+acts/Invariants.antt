use Rattle.std.proofs.Common.{length}
use Rattle.vub_device.proofs.past.+acts.Given as goal

abbrev pub decreases-acts : goal.decreases-acts
decreases-acts l = length l.past.now
