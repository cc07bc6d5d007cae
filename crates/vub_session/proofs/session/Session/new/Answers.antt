use Rattle.vub_session.proofs.StateLemmas.{new_sound}
use Rattle.vub_session.proofs.session.Session.new.Goals as goal

pub invariant_of-result : goal.invariant_of-result
invariant_of-result c = rw (c.new_terms.ensures, c.new.ensures) (new_sound c.args.config c.requires.some c.requires.few)
