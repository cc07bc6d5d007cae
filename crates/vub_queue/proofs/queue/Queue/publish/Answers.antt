use Rattle.std.proofs.Common.{ap, subst, sym, ◌∙◌}
use Rattle.vub_steps.specs.Readiness.{is_ready}
use Rattle.vub_steps.specs.declared.readiness.Standing.{Standing}
use Rattle.vub_steps.specs.declared.readiness.Turn.TheVariants.{Publish}
use Rattle.vub_split.specs.Split.{RingLies}
use Rattle.vub_split.specs.declared.split.SplitRing.{SplitRing}
use Rattle.vub_infl_split.specs.declared.region.SplitRegion.{SplitRegion}
use Rattle.vub_infl_split.specs.Region.{RegionLies}
use Rattle.vub_queue.specs.QueueState.{state_of, publishes, under_way}
use Rattle.vub_queue.proofs.LyingLemmas.{under_way_lies}
use Rattle.vub_queue.proofs.MoveLemmas.{publishes_by}
use Rattle.vub_queue.proofs.queue.Queue.publish.Goals as goal

pub publish_step-requires-clause-lies : goal.publish_step-requires-clause-lies
publish_step-requires-clause-lies g c = subst (λ (r : SplitRing). RingLies (g.M.Shared.sizes c.args.mem.now) r) (sym c.begin_if_resting.ensures.ring) c.requires.lies

pub publish_step-requires-clause-region : goal.publish_step-requires-clause-region
publish_step-requires-clause-region g c = subst (λ (r : SplitRegion). RegionLies (g.M.Shared.sizes c.args.mem.now) r) (sym c.begin_if_resting.ensures.region) c.requires.region

pub returns-clause-lies : goal.returns-clause-lies
returns-clause-lies g c sizes capacity h =
    let s = state_of c.args.self.now in
    let u = state_of c.begin_if_resting.new.self in
    c.publish_step.ensures.lies sizes capacity (under_way_lies c.args.most s u c.begin_if_resting.ensures.state sizes capacity h)

pub returns-clause-publishes : goal.returns-clause-publishes
returns-clause-publishes g c =
    let s = state_of c.args.self.now in
    publishes_by (publishes c.args.most s) (g.M.Shared.told c.args.mem.now) c.publish_step.result s (state_of c.begin_if_resting.new.self) (under_way c.args.most s) (state_of c.publish_step.new.self)
    (ap (λ (x : Standing). is_ready x (Publish c.args.most)) (sym c.standing.ensures) ∙ sym c.is_ready.ensures ∙ c.if-not-is_ready.false) c.begin_if_resting.ensures.state c.publish_step.ensures.moves
