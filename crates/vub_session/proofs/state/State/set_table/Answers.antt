use Rattle.std.proofs.Common.{◌≡◌, true, None, rules}
use Rattle.vub_session.proofs.AttachLemmas.{attach_candidate, attach_ready}
use Rattle.vub_session.proofs.KeepLemmas.{attach_keeps}
use Rattle.vub_session.proofs.SoundLemmas.{table_candidate}
use Rattle.vub_session.specs.Ready.{bad_ring}
use Rattle.vub_session.proofs.state.State.set_table.Goals as goal

pub bad_ring-requires-clause-bounded : goal.bad_ring-requires-clause-bounded
bad_ring-requires-clause-bounded c =
    let old = c.requires.sound.terms.bounded in
    (c.args.self.now.config.queues, record { count = old.count; sizes = old.sizes; region = old.region })

pub returns-clause-sound : goal.returns-clause-sound
returns-clause-sound c =
    let t = record c.args.self.now.terms { has_table = true } in
    let queues = c.args.self.now.config.queues in
    let quiet = table_candidate queues c.set.new.self c.args.self.now.terms c.requires.sound.terms.bounded (search rules) in
    let none : bad_ring t c.set.new.self queues ≡ None = search rules in
    rw c.attach-self.ensures record { some = c.requires.sound.some; few = c.requires.sound.few; terms = attach_candidate queues c.set.new.self t quiet none; ready = attach_ready t }

pub returns-clause-keeps : goal.returns-clause-keeps
returns-clause-keeps c =
    rw c.attach-self.ensures (attach_keeps (record c.args.self.now.terms { has_table = true }) c.requires.sound.terms.bounded.count)
