use Rattle.vub_session.proofs.KeepLemmas.{settled_keeps}
use Rattle.vub_session.proofs.state.State.settle.Goals as goal

pub returns-clause-keeps : goal.returns-clause-keeps
returns-clause-keeps c =
    rw c.attach-self.ensures (settled_keeps c.args.self.now.config.queues c.args.self.now.table c.args.self.now.terms c.in-Some.terms (c.requires.candidate c.in-Some.terms c.in-Some.is) (c.requires.keeps c.in-Some.terms c.in-Some.is))
