use Rattle.std.proofs.Common.{length}
use Rattle.vub_device.proofs.crash.+image_at.Given as goal

abbrev pub decreases-image_at : goal.decreases-image_at
decreases-image_at l = length l.image.now
