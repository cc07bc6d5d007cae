use Rattle.std.proofs.Common.{ℕ, refl, ap, ◌∙◌, subst}
use Rattle.vub_inflight.specs.Entries.{AreEntries}
use Rattle.vub_split.specs.Split.{RingLies}
use Rattle.vub_split.specs.declared.split.SplitRing.{SplitRing}
use Rattle.vub_rec_split.specs.Starts.{outcome as recovered_outcome}
use Rattle.vub_queue.specs.declared.queue.Stepped.TheVariants as says
use Rattle.vub_queue.specs.QueueState.{QueueState, state_of}
use Rattle.vub_queue.proofs.LyingLemmas.{lies_started}
use Rattle.vub_queue.proofs.StartLemmas.{start_stores, start_trails}
use Rattle.vub_queue.proofs.queue.Queue.start_step.Goals as goal

pub end_start-requires-clause-ring : goal.end_start-requires-clause-ring
end_start-requires-clause-ring g c = subst (RingLies (g.M.Shared.sizes c.step.new.mem)) (c.step.ensures.same_queue.ring ∙ c.requires.same_ring) c.step.ensures.lies.ring

pub end_start-requires-clause-entries : goal.end_start-requires-clause-entries
end_start-requires-clause-entries g c = subst (λ (n : ℕ). AreEntries n c.step.new.list.items) (c.requires.lies.same_size ∙ ap (λ (r : SplitRing). r.size) c.requires.same_ring) c.step.ensures.entries

pub returns-in-Stored-clause-stores : goal.returns-in-Stored-clause-stores
returns-in-Stored-clause-stores g c = start_stores (g.M.Shared.told) (g.M.Shared.trail) (g.M.Shared.names) (g.M.Shared.handed) (g.M.Shared.sizes) c.args.mem.now c.step.new.mem (says.Stored c.in-Stored.tag) c.step.result (state_of c.args.self.now) c.requires.resting (ap recovered_outcome c.in-Stored.is) c.step.ensures.due

pub returns-in-Stored-clause-trails : goal.returns-in-Stored-clause-trails
returns-in-Stored-clause-trails g c = start_trails (g.M.Shared.told) (g.M.Shared.trail) (g.M.Shared.names) (g.M.Shared.handed) (g.M.Shared.sizes) c.args.mem.now c.step.new.mem (says.Stored c.in-Stored.tag) c.step.result (state_of c.args.self.now) c.requires.resting (ap recovered_outcome c.in-Stored.is) c.step.ensures.one_store c.step.ensures.due

pub returns-in-Damaged-clause-stores : goal.returns-in-Damaged-clause-stores
returns-in-Damaged-clause-stores g c = start_stores (g.M.Shared.told) (g.M.Shared.trail) (g.M.Shared.names) (g.M.Shared.handed) (g.M.Shared.sizes) c.args.mem.now c.step.new.mem (says.Damaged c.in-Damaged.fault) c.step.result (state_of c.args.self.now) c.requires.resting (ap recovered_outcome c.in-Damaged.is) c.step.ensures.due

pub returns-in-Damaged-clause-trails : goal.returns-in-Damaged-clause-trails
returns-in-Damaged-clause-trails g c = start_trails (g.M.Shared.told) (g.M.Shared.trail) (g.M.Shared.names) (g.M.Shared.handed) (g.M.Shared.sizes) c.args.mem.now c.step.new.mem (says.Damaged c.in-Damaged.fault) c.step.result (state_of c.args.self.now) c.requires.resting (ap recovered_outcome c.in-Damaged.is) c.step.ensures.one_store c.step.ensures.due

pub returns-in-Failed-clause-stores : goal.returns-in-Failed-clause-stores
returns-in-Failed-clause-stores g c = start_stores (g.M.Shared.told) (g.M.Shared.trail) (g.M.Shared.names) (g.M.Shared.handed) (g.M.Shared.sizes) c.args.mem.now c.step.new.mem says.SharedFault c.step.result (state_of c.args.self.now) c.requires.resting (ap recovered_outcome c.in-Failed.is) c.step.ensures.due

pub returns-in-Failed-clause-trails : goal.returns-in-Failed-clause-trails
returns-in-Failed-clause-trails g c = start_trails (g.M.Shared.told) (g.M.Shared.trail) (g.M.Shared.names) (g.M.Shared.handed) (g.M.Shared.sizes) c.args.mem.now c.step.new.mem says.SharedFault c.step.result (state_of c.args.self.now) c.requires.resting (ap recovered_outcome c.in-Failed.is) c.step.ensures.one_store c.step.ensures.due

pub returns-in-Done-clause-lies : goal.returns-in-Done-clause-lies
returns-in-Done-clause-lies g c sizes capacity h =
    let s : QueueState = state_of c.args.self.now in
    let t : QueueState = record s { recovery = c.step.new.self } in
    c.end_start.ensures.lies sizes capacity (lies_started s t c.in-Done.ensures.same_queue refl refl sizes capacity h)
