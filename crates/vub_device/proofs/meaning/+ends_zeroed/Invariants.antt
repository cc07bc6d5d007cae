use Rattle.std.proofs.Common.{length}
use Rattle.vub_device.proofs.meaning.+ends_zeroed.Given as goal

abbrev pub decreases-ends_zeroed : goal.decreases-ends_zeroed
decreases-ends_zeroed l = length l.parts.now
