use Rattle.std.proofs.Common.{length}
use Rattle.vub_device.proofs.past.+answers_number.Given as goal

abbrev pub decreases-answers_number : goal.decreases-answers_number
decreases-answers_number l = length l.answers.now
