use Rattle.std.proofs.Common.{◌<◌, ap, arith}
use Rattle.vub_session.proofs.StateLemmas.{stopped_sound}
use Rattle.vub_session.specs.declared.state.State.{State}
use Rattle.vub_session.specs.declared.state.TheConstants.{MAX_QUEUES}
use Rattle.vub_session.proofs.session.Session.stopped_queue.Goals as goal

pub invariant_of-self : goal.invariant_of-self
invariant_of-self c =
    let below : c.args.queue < MAX_QUEUES = omega (arith, c.requires.below, c.self.invariant.few, ap (λ (s : State). s.config.queues) c.self.view_is) in
    rw c.stop.ensures (stopped_sound c.self.inside.state c.args.queue c.args.base c.self.invariant below)
