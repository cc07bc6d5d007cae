use Rattle.std.proofs.Common.{length}
use Rattle.vub_device.proofs.crash.+is_image_from.Given as goal

abbrev pub decreases-is_image_from : goal.decreases-is_image_from
decreases-is_image_from l = length l.image.now
