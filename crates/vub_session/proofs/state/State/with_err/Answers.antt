use Rattle.std.proofs.Common.{refl}
use Rattle.vub_session.proofs.KeepLemmas.{same_keeps}
use Rattle.vub_session.proofs.state.State.with_err.Goals as goal

pub returns-clause-keeps : goal.returns-clause-keeps
returns-clause-keeps c = same_keeps c.args.self.now.terms _ refl
