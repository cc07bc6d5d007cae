use Rattle.std.proofs.Common.{refl, rules}
use Rattle.vub_session.proofs.SoundLemmas.{protocol_set}
use Rattle.vub_session.proofs.KeepLemmas.{same_keeps}
use Rattle.vub_session.proofs.state.State.with_protocol.Goals as goal

pub returns-clause-candidate : goal.returns-clause-candidate
returns-clause-candidate c = protocol_set c.args.self.now.config.queues c.args.set c.args.self.now.table c.args.self.now.terms c.requires (search rules)

pub returns-clause-keeps : goal.returns-clause-keeps
returns-clause-keeps c = same_keeps c.args.self.now.terms _ refl
