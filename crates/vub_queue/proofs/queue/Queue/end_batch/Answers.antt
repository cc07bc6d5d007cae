use Rattle.std.proofs.Common.{◌≡◌, ◌-◌, length, refl, ap, ◌∙◌, arith, length-drop}
use Rattle.vub_steps.specs.declared.steps.Phase.TheVariants.{Rest}
use Rattle.vub_queue.specs.QueueParts.{elements_fit, shown_of}
use Rattle.vub_queue.proofs.QueueLemmas.{below_drop, shown_all, no_head, publishes_no_fetch}
use Rattle.vub_queue.proofs.queue.Queue.end_batch.Goals as goal

pub invariant_of-self-clause-all : goal.invariant_of-self-clause-all
invariant_of-self-clause-all c =
    let q = c.args.self.now in
    let left : length c.drop_front.new.completed.items ≡ length q.completed.items - c.from.result = ap length c.drop_front.ensures.items ∙ length-drop c.from.result q.completed.items in
    omega (arith, q.all, left)

pub invariant_of-self-clause-counted : goal.invariant_of-self-clause-counted
invariant_of-self-clause-counted c =
    let q = c.args.self.now in
    let left : length c.drop_front.new.completed.items ≡ length q.completed.items - c.from.result = ap length c.drop_front.ensures.items ∙ length-drop c.from.result q.completed.items in
    let none : shown_of Rest 0 ≡ 0 = refl in
    omega (arith, q.counted, q.batched, left, c.from.ensures, shown_all q.phase q.batch c.requires.going c.requires.shown, none)

pub invariant_of-self-clause-in_table : goal.invariant_of-self-clause-in_table
invariant_of-self-clause-in_table c =
    let q = c.args.self.now in
    ap (elements_fit q.ring.size) c.drop_front.ensures.items ∙ below_drop q.ring.size c.from.result q.completed.items q.in_table

pub invariant_of-self-clause-kept : goal.invariant_of-self-clause-kept
invariant_of-self-clause-kept c =
    let q = c.args.self.now in
    no_head q.phase Rest q.fetching q.ring.size q.taken.items q.taken.items (publishes_no_fetch q.phase c.requires.going) refl q.kept
