use Rattle.std.proofs.Common.{sym, ◌∙◌}
use Rattle.vub_queue.specs.QueueState.{state_of}
use Rattle.vub_queue.proofs.QueueLemmas.{rests, ready_rests, ready_started}
use Rattle.vub_queue.proofs.queue.Queue.begin_if_resting.Goals as goal

pub begin_batch-requires-clause-resting : goal.begin_batch-requires-clause-resting
begin_batch-requires-clause-resting c =
    let q = c.args.self.now in
    rests q.phase q.batch q.bell q.started q.fits (sym c.is_publishing.ensures ∙ c.if-is_publishing.false) (ready_rests (state_of q) c.args.most c.requires.ready)

pub begin_batch-requires-clause-started : goal.begin_batch-requires-clause-started
begin_batch-requires-clause-started c = ready_started (state_of c.args.self.now) c.args.most c.requires.ready
