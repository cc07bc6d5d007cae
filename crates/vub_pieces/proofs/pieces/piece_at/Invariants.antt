use Rattle.std.proofs.Common.{◌≡◌, ◌<◌, length}
use Rattle.std.specs.Prelude.{All}
use Rattle.vub_chain.specs.Spans.{LiesIn}
use Rattle.vub_pieces.specs.Pieces.{bytes_in, piece_at}
use Rattle.vub_pieces.proofs.pieces.piece_at.Given as goal

abbrev pub invariant-loop-rest : goal.invariant-loop-rest
invariant-loop-rest g l =
    (piece_at l.rest l.before l.most ≡ piece_at l.fn.spans l.fn.skip l.fn.most)
    × (l.before < bytes_in l.rest)
    × All (LiesIn (g.M.Shared.sizes l.mem)) l.rest

abbrev pub decreases-loop-rest : goal.decreases-loop-rest
decreases-loop-rest g l = length l.rest
