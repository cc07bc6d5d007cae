use Rattle.std.proofs.Common.{◌≡◌, ◌≤◌, ◌+◌, ◌*◌, length}
use Rattle.std.specs.Prelude.{◌^◌}
use Rattle.vub_pieces.specs.Pieces.{bytes_in}
use Rattle.vub_pieces.proofs.pieces.total_len.Given as goal

abbrev pub invariant-loop-rest : goal.invariant-loop-rest
invariant-loop-rest l =
    (l.total + bytes_in l.rest ≡ bytes_in l.fn.spans)
    × (l.total + length l.rest * 2 ^ 32 ≤ length l.fn.spans * 2 ^ 32)

abbrev pub decreases-loop-rest : goal.decreases-loop-rest
decreases-loop-rest l = length l.rest
