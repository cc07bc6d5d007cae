use Rattle.vub_task.specs.declared.task.TaskStep.TheVariants as answers
use Rattle.vub_queue.specs.QueueState.{state_of}
use Rattle.vub_queue.proofs.LyingLemmas.{lies_concluded}
use Rattle.vub_queue.proofs.queue.Queue.conclude.Goals as goal

pub returns-in-Done-clause-lies : goal.returns-in-Done-clause-lies
returns-in-Done-clause-lies c = lies_concluded c.args.place c.args.head (answers.Done c.in-Done.status c.in-Done.len) (state_of c.args.self.now) (state_of c.complete.new.self) c.complete.ensures.state
