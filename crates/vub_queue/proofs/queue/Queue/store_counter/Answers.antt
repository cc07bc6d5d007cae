use Rattle.std.proofs.Common.{ap}
use Rattle.vub_base.specs.declared.store.Tag.TheVariants as tags
use Rattle.vub_infl_split.specs.declared.region.SplitStore.TheVariants.{SF1}
use Rattle.vub_steps.specs.Rows.{region_row}
use Rattle.vub_steps.specs.Readiness.{is_fetch}
use Rattle.vub_queue.specs.declared.queue.Stepped.TheVariants as says
use Rattle.vub_queue.specs.QueueState.{state_of, next_row, fetch_under_way}
use Rattle.vub_queue.proofs.QueueLemmas.{none_kept}
use Rattle.vub_queue.proofs.MoveLemmas.{makes_this, count_row}
use Rattle.vub_queue.proofs.queue.Queue.store_counter.Goals as goal

pub returns-in-Ok-clause-makes_row : goal.returns-in-Ok-clause-makes_row
returns-in-Ok-clause-makes_row g c =
    let q = c.args.self.now in
    makes_this (g.M.Shared.told) (g.M.Shared.trail) (g.M.Shared.names) (g.M.Shared.handed) (g.M.Shared.sizes) c.args.mem.now c.store.new.mem (says.Stored tags.SF1) (next_row (fetch_under_way (state_of q))) (region_row q.region (SF1 c.args.head q.counter))
    (λ m tells. count_row (state_of q) m c.args.head q.region (ap is_fetch c.requires.resting) (none_kept q.phase q.fetching q.ring.size q.taken.items (ap is_fetch c.requires.resting) q.kept) (c.requires.here m tells) q.same_region)
    c.in-Ok.ensures.makes_store.stored c.in-Ok.ensures.makes_store.trailed c.in-Ok.ensures.makes_store.spaces

pub returns-in-Err-clause-makes_row : goal.returns-in-Err-clause-makes_row
returns-in-Err-clause-makes_row g c =
    let q = c.args.self.now in
    makes_this (g.M.Shared.told) (g.M.Shared.trail) (g.M.Shared.names) (g.M.Shared.handed) (g.M.Shared.sizes) c.args.mem.now c.store.new.mem says.SharedFault (next_row (fetch_under_way (state_of q))) (region_row q.region (SF1 c.args.head q.counter))
    (λ m tells. count_row (state_of q) m c.args.head q.region (ap is_fetch c.requires.resting) (none_kept q.phase q.fetching q.ring.size q.taken.items (ap is_fetch c.requires.resting) q.kept) (c.requires.here m tells) q.same_region)
    c.in-Err.ensures.makes_store.stored c.in-Err.ensures.makes_store.trailed c.in-Err.ensures.makes_store.spaces
