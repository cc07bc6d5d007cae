use Rattle.std.proofs.Common.{ap, ◌∙◌}
use Rattle.byteorder.specs.Endian.{little_from}
use Rattle.vub_shared.proofs.BytesLemmas.{number_of_loaded}
use Rattle.vub_shared.proofs.words.load_u32.Goals as goal

pub returns-clause-loaded : goal.returns-clause-loaded
returns-clause-loaded g c m told =
    c.read_u32.ensures ∙ ap (little_from 0 4) (c.in_ok-load.ensures.loaded m told) ∙ number_of_loaded 4 m c.args.space.number c.args.place
