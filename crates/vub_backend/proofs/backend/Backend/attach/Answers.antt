use Rattle.std.proofs.Common.{ℕ, ap, sym, ◌∙◌, subst}
use Rattle.std.specs.Prelude.{List, Option, set, Some}
use Rattle.vub_queue.specs.QueueState.{QueueState, state_of}
use Rattle.vub_backend.specs.Backends.{queues_of, EachLies}
use Rattle.vub_backend.proofs.BackendLemmas.{states_set, attached_lies}
use Rattle.vub_backend.proofs.backend.Backend.attach.Goals as goal

pub returns-clause-attached : goal.returns-clause-attached
returns-clause-attached c = (
  state_of c.in_ok-queue.queue,
  c.in_ok-queue.ensures.state,
  states_set c.args.self.now.queues.items c.from.result (Some c.in_ok-queue.queue) ∙ ap (λ (i : ℕ). set (queues_of c.args.self.now) i (Some (state_of c.in_ok-queue.queue))) c.from.ensures,
)

pub returns-clause-lies : goal.returns-clause-lies
returns-clause-lies c sizes capacity split is start each =
    subst (λ (queues : List (Option QueueState)). EachLies sizes capacity queues) (sym (states_set c.args.self.now.queues.items c.from.result (Some c.in_ok-queue.queue)))
    (attached_lies sizes capacity (queues_of c.args.self.now) c.from.result (state_of c.in_ok-queue.queue) (c.in_ok-queue.ensures.lies sizes capacity split is start) each)
