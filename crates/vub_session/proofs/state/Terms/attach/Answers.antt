use Rattle.std.proofs.Common.{ap, rules}
use Rattle.std.proofs.lemmas.List.FromFn.{fill_by_all}
use Rattle.vub_session.specs.Ready.{attach, attached}
use Rattle.vub_session.specs.State.{new_ring}
use Rattle.vub_session.specs.declared.state.TheConstants.{MAX_QUEUES}
use Rattle.vub_session.proofs.state.Terms.attach.Goals as goal

pub returns : goal.returns
unfolding attach
returns c = ap (λ rs. record c.args.self.now { rings = rs }) (fill_by_all (attached c.args.self.now) c.loop-index.rings MAX_QUEUES new_ring c.loop-index.invariant.0 (search rules))
