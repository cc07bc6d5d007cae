use Rattle.std.proofs.Common.{length}
use Rattle.vub_device.proofs.past.+synced.Given as goal

abbrev pub decreases-synced : goal.decreases-synced
decreases-synced l = length l.past.now
