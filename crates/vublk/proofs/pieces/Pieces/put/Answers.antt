use Rattle.vublk.proofs.Streams.{Long-ok, Long-part}
use Rattle.vublk.proofs.pieces.Pieces.put.Goals as goal

pub returns-then-text-gt-PIECE-clause-ok : goal.returns-then-text-gt-PIECE-clause-ok
returns-then-text-gt-PIECE-clause-ok g c = Long-ok _ _ _ c.write.result c.args.self.now c.args.text.now c.flush.new.self c.in_ok-flush.ensures.empty c.in_ok-flush.ensures.ok c.write.ensures.writes

pub returns-then-text-gt-PIECE-clause-part : goal.returns-then-text-gt-PIECE-clause-part
returns-then-text-gt-PIECE-clause-part g c = Long-part _ _ _ c.write.result c.args.self.now c.args.text.now c.in_ok-flush.ensures.ok c.write.ensures.writes
