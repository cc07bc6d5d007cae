use Rattle.std.proofs.Common.{length}
use Rattle.vub_device.proofs.meaning.+is_zeroed.Given as goal

abbrev pub decreases-is_zeroed : goal.decreases-is_zeroed
decreases-is_zeroed l = length l.parts.now
