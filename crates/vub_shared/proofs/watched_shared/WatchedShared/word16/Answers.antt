use Rattle.std.proofs.Common.{ap, ◌∙◌}
use Rattle.byteorder.specs.Endian.{little_from}
use Rattle.vub_shared.proofs.BytesLemmas.{number_of_loaded}
use Rattle.vub_shared.proofs.watched_shared.WatchedShared.word16.Goals as goal

pub returns : goal.returns
returns c = c.read_u16.ensures ∙ ap (little_from 0 2) c.bytes.ensures ∙ number_of_loaded 2 _ c.args.space.number c.args.place
