use Rattle.std.proofs.Common.{length}
use Rattle.vub_device.proofs.past.+offers.Given as goal

abbrev pub decreases-offers : goal.decreases-offers
decreases-offers l = length l.past.now
