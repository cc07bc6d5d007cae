use Rattle.std.proofs.Common.{refl}
use Rattle.vub_session.proofs.SoundLemmas.{call_set}
use Rattle.vub_session.proofs.KeepLemmas.{held_keeps}
use Rattle.vub_session.proofs.state.State.with_call.Goals as goal

pub returns-clause-candidate : goal.returns-clause-candidate
returns-clause-candidate c = rw c.with_ring.ensures (call_set c.args.self.now.config.queues _ c.args.self.now.table c.args.self.now.terms _ c.in_ok-ring.ring (record { below = c.in_ok-ring.ensures.below; old = c.requires.sound; at = c.in_ok-ring.ensures.at }))

pub returns-clause-keeps : goal.returns-clause-keeps
returns-clause-keeps c = rw c.with_ring.ensures (held_keeps c.args.self.now.terms _ c.in_ok-ring.ring _ c.requires.sound.bounded.count c.in_ok-ring.ensures.below c.in_ok-ring.ensures.at (λ is. record { attached = is; size = refl; addresses = refl; base = refl }))
