use Rattle.std.proofs.Common.{length}
use Rattle.vub_device.proofs.crash.+is_candidate.Given as goal

abbrev pub decreases-is_candidate : goal.decreases-is_candidate
decreases-is_candidate l = length l.past.now
