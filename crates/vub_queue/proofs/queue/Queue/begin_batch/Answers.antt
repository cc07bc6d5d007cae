use Rattle.std.proofs.Common.{◌≡◌, List, arith, min, length, refl, ap}
use Rattle.vub_steps.specs.declared.steps.Phase.{Phase}
use Rattle.vub_steps.specs.declared.steps.Phase.TheVariants.{Publish}
use Rattle.vub_steps.specs.Readiness.{is_publication, is_fetch}
use Rattle.vub_queue.specs.declared.queue.Completed.{Completed}
use Rattle.vub_queue.specs.QueueParts.{shown_of}
use Rattle.vub_queue.proofs.QueueLemmas.{first_elements, other_elements, rest_batch, first_step_left, no_head}
use Rattle.vub_queue.proofs.queue.Queue.begin_batch.Goals as goal

pub returns-clause-state : goal.returns-clause-state
returns-clause-state c =
    let g = c.args.self.now in
    let xs : List Completed = g.completed.items in
    let count : c.min.result ≡ min c.args.most (length xs) = omega (arith, c.min.ensures, c.len.ensures, c.from.ensures) in
    let none : g.batch ≡ 0 = rest_batch g.phase g.batch g.bell g.started g.fits (ap is_publication c.requires.resting) in
    rw (none, first_elements xs c.min.result c.args.most count, other_elements xs c.min.result c.args.most count) refl

pub invariant_of-self-clause-fits : goal.invariant_of-self-clause-fits
invariant_of-self-clause-fits c = first_step_left c.min.result c.args.self.now.bell c.args.self.now.started c.requires.started

pub invariant_of-self-clause-kept : goal.invariant_of-self-clause-kept
invariant_of-self-clause-kept c =
    let q = c.args.self.now in
    no_head q.phase (Publish 0) q.fetching q.ring.size q.taken.items q.taken.items (ap is_fetch c.requires.resting) refl q.kept

pub invariant_of-self-clause-counted : goal.invariant_of-self-clause-counted
invariant_of-self-clause-counted c =
    let q = c.args.self.now in
    let none : shown_of q.phase q.batch ≡ 0 = ap (λ (p : Phase). shown_of p q.batch) c.requires.resting in
    omega (arith, q.counted, none)
