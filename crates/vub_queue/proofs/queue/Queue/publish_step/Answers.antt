use Rattle.std.proofs.Common.{sym, ap, ◌∙◌, ◌≡◌, length}
use Rattle.std.specs.Prelude.{Some, Option, is_some, true}
use Rattle.vub_steps.specs.declared.steps.Step.{Step}
use Rattle.vub_steps.specs.Steps.{done_of}
use Rattle.vub_steps.specs.Readiness.{is_publication}
use Rattle.vub_queue.specs.declared.queue.Queue.{Queue}
use Rattle.vub_queue.specs.QueueState.{state_of, step_in}
use Rattle.vub_queue.proofs.QueueLemmas.{Stands, no_step, step_left, batch_fits}
use Rattle.vub_queue.proofs.queue.Queue.publish_step.Goals as goal

-- where the next step stands
stands : (q : Queue) (o : Option Step) (x y : Step) → is_publication q.phase ≡ true → o ≡ step_in (state_of q) → o ≡ Some x → x ≡ y → Stands (length (state_of q).batch) (done_of q.phase) y
stands q o x y going next is same = no_step (length (state_of q).batch) q.bell q.phase y going (sym next ∙ is ∙ ap (λ (z : Step). Some z) same)

pub unreachable-requires : goal.unreachable-requires
unreachable-requires g c = stands c.args.self.now c.next_step.result c.in-Some-Features.field-0 _ c.requires.going c.next_step.ensures c.in-Some-Features.is c.in-Some-Features.field-0-is

pub unreachable-requires-in-Some-Free : goal.unreachable-requires-in-Some-Free
unreachable-requires-in-Some-Free g c = stands c.args.self.now c.next_step.result c.in-Some-Free.field-0 _ c.requires.going c.next_step.ensures c.in-Some-Free.is c.in-Some-Free.field-0-is

pub unreachable-requires-in-Some-Open : goal.unreachable-requires-in-Some-Open
unreachable-requires-in-Some-Open g c = stands c.args.self.now c.next_step.result c.in-Some-Open.field-0 _ c.requires.going c.next_step.ensures c.in-Some-Open.is c.in-Some-Open.field-0-is

pub unreachable-requires-in-Some-Settle : goal.unreachable-requires-in-Some-Settle
unreachable-requires-in-Some-Settle g c = stands c.args.self.now c.next_step.result c.in-Some-Settle.field-0 _ c.requires.going c.next_step.ensures c.in-Some-Settle.is c.in-Some-Settle.field-0-is

pub unreachable-requires-in-Some-SettleEnd : goal.unreachable-requires-in-Some-SettleEnd
unreachable-requires-in-Some-SettleEnd g c = stands c.args.self.now c.next_step.result c.in-Some-SettleEnd.field-0 _ c.requires.going c.next_step.ensures c.in-Some-SettleEnd.is c.in-Some-SettleEnd.field-0-is

pub unreachable-requires-in-Some-Start : goal.unreachable-requires-in-Some-Start
unreachable-requires-in-Some-Start g c = stands c.args.self.now c.next_step.result c.in-Some-Start.field-0 _ c.requires.going c.next_step.ensures c.in-Some-Start.is c.in-Some-Start.field-0-is

pub unreachable-requires-in-Some-Count : goal.unreachable-requires-in-Some-Count
unreachable-requires-in-Some-Count g c = stands c.args.self.now c.next_step.result c.in-Some-Count.field-0 _ c.requires.going c.next_step.ensures c.in-Some-Count.is c.in-Some-Count.field-0-is

pub unreachable-requires-in-Some-Accept : goal.unreachable-requires-in-Some-Accept
unreachable-requires-in-Some-Accept g c = stands c.args.self.now c.next_step.result c.in-Some-Accept.field-0 _ c.requires.going c.next_step.ensures c.in-Some-Accept.is c.in-Some-Accept.field-0-is

pub unreachable-requires-in-None : goal.unreachable-requires-in-None
unreachable-requires-in-None g c =
    let q = c.args.self.now in
    let left : is_some (step_in (state_of q)) ≡ true = step_left (length (state_of q).batch) q.bell q.phase q.started (batch_fits q) c.requires.going in
    let none : is_some c.next_step.result ≡ true = ap is_some c.next_step.ensures ∙ left in
    cc (sym (ap is_some c.in-None.is) ∙ none)

pub returns-in-Some-Bell-clause-moves : goal.returns-in-Some-Bell-clause-moves
returns-in-Some-Bell-clause-moves g c = c.ring_bell.ensures.moves (g.M.Shared.told c.args.mem.now)
