use Rattle.vub_session.specs.Table.{same_addresses}
use Rattle.std.proofs.Common.{refl, sym, rules}
use Rattle.vub_session.proofs.SoundLemmas.{same_given, same_if, addresses_set}
use Rattle.vub_session.proofs.KeepLemmas.{held_keeps}
use Rattle.vub_session.proofs.state.State.with_addresses.Goals as goal

pub returns-clause-candidate : goal.returns-clause-candidate
returns-clause-candidate c = rw c.with_ring.ensures (addresses_set c.args.self.now.config.queues c.args.addresses c.args.self.now.table c.args.self.now.terms c.args.index c.in_ok-ring.ring (record { below = c.in_ok-ring.ensures.below; old = c.requires.sound; at = c.in_ok-ring.ensures.at }) (search rules))

pub returns-clause-keeps : goal.returns-clause-keeps
returns-clause-keeps c = rw c.with_ring.ensures (held_keeps c.args.self.now.terms _ c.in_ok-ring.ring _ c.requires.sound.bounded.count c.in_ok-ring.ensures.below c.in_ok-ring.ensures.at (λ is. record { attached = is; size = refl; addresses = sym (same_given c.args.addresses c.in_ok-ring.ring.addresses (same_if c.in_ok-ring.ring.is_attached (same_addresses c.args.addresses c.in_ok-ring.ring.addresses) (search rules) is)); base = refl }))
