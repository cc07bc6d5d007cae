use Rattle.std.proofs.Common.{length}
use Rattle.vub_pieces.proofs.pieces.+gather.Given as goal

abbrev pub decreases-gather : goal.decreases-gather
decreases-gather g l = length l.spans.now
