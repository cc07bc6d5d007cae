use Rattle.vub_wire.proofs.WrittenMessages.{written}
use Rattle.vub_wire.proofs.laws.written_is_read.Goals as goal

pub returns : goal.returns
returns c = written
