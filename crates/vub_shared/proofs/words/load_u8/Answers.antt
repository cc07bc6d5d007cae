use Rattle.std.proofs.Common.{ap, ◌∙◌, sym, get_or}
use Rattle.vub_shared.proofs.BytesLemmas.{word-one}
use Rattle.vub_shared.proofs.words.load_u8.Goals as goal

pub returns-clause-loaded : goal.returns-clause-loaded
returns-clause-loaded g c m told =
    ap (λ xs. get_or xs 0 0) (c.in_ok-load.ensures.loaded m told) ∙ sym (word-one m c.args.space.number c.args.place)
