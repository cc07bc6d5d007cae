use Rattle.std.proofs.Common.{length}
use Rattle.vub_device.proofs.past.+published_at.Given as goal

abbrev pub decreases-published_at : goal.decreases-published_at
decreases-published_at l = length l.past.now
