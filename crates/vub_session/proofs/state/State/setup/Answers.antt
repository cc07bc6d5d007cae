use Rattle.std.proofs.Common.{IsSome, ap, ◌∙◌, arith, rules}
use Rattle.vub_session.proofs.SetupLemmas.{ready_fits, ready_lies, ready_given, size_known}
use Rattle.vub_session.specs.Ready.{rings_of}
use Rattle.vub_session.specs.State.{ring_at}
use Rattle.vub_session.proofs.state.State.setup.Goals as goal

pub ring-requires : goal.ring-requires
ring-requires c = c.requires.few

pub rings_of-requires-clause-size : goal.rings_of-requires-clause-size
rings_of-requires-clause-size c = size_known c.args.self.now c.args.queue c.in_ok-ring.ring c.requires (c.in_ok-ring.ensures.at ∙ ap (λ k. ring_at c.args.self.now.terms k) c.from.ensures)

pub rings_of-requires-clause-region : goal.rings_of-requires-clause-region
rings_of-requires-clause-region c = (c.args.self.now.config.queues, c.requires.terms.bounded.region)

pub unreachable-requires : goal.unreachable-requires
unreachable-requires c =
    let lies : IsSome (rings_of c.args.self.now.terms c.args.self.now.table c.args.queue c.in_ok-ring.ring) = ready_lies c.args.self.now c.args.queue c.in_ok-ring.ring c.requires (c.in_ok-ring.ensures.at ∙ ap (λ k. ring_at c.args.self.now.terms k) c.from.ensures) (search rules) in
    grind arith

pub unreachable-requires-in_default-base : goal.unreachable-requires-in_default-base
unreachable-requires-in_default-base c =
    let given = ready_given c.args.self.now.terms c.args.queue c.in_ok-ring.ring (search rules) in
    grind arith

pub returns-clause-lies : goal.returns-clause-lies
returns-clause-lies c = λ sizes sized. c.in-Some.ensures.lie sizes sized.table sized.region (ready_fits c.args.self.now.terms c.args.queue c.in_ok-ring.ring (search rules))
