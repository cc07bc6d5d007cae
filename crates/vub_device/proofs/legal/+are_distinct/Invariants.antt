use Rattle.std.proofs.Common.{length}
use Rattle.vub_device.proofs.legal.+are_distinct.Given as goal

abbrev pub decreases-are_distinct : goal.decreases-are_distinct
decreases-are_distinct l = length l.answers.now
