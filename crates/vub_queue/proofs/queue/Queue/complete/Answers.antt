use Rattle.std.proofs.Common.{◌≡◌, ◌≤◌, ℕ, List, [], ◌∷◌, ◌++◌, length, map, take, drop, ap, ◌∙◌, arith}
use Rattle.std.specs.Prelude.{remove}
use Rattle.vub_queue.specs.declared.queue.Completed.{Completed}
use Rattle.vub_task.specs.declared.task.Task.{Task}
use Rattle.vub_queue.specs.QueueParts.{element, elements_fit}
use Rattle.vub_queue.specs.QueueState.{QueueState, state_of}
use Rattle.vub_queue.proofs.QueueLemmas.{completed_more, batch_still, below_more}
use Rattle.vub_queue.proofs.queue.Queue.complete.Goals as goal

pub push_reserved-requires : goal.push_reserved-requires
push_reserved-requires c =
    let g = c.args.self.now in
    omega (arith, g.all, g.space, c.remove.ensures.len)

pub returns-clause-state : goal.returns-clause-state
returns-clause-state c =
    let q = c.args.self.now in
    let xs : List Completed = q.completed.items in
    let x : Completed = record { head = c.args.head; len = c.args.len } in
    let few : q.batch ≤ length xs = omega (arith, q.batched) in
    let more : map element (drop q.batch c.push_reserved.new.self.items) ≡ map element (drop q.batch xs) ++ element x ∷ [] =
    ap (λ (ys : List Completed). map element (drop q.batch ys)) c.push_reserved.ensures.items ∙ completed_more q.batch xs x few in
    let still : map element (take q.batch c.push_reserved.new.self.items) ≡ map element (take q.batch xs) =
    ap (λ (ys : List Completed). map element (take q.batch ys)) c.push_reserved.ensures.items ∙ batch_still q.batch xs x few in
    let with_lists : List Task → List (ℕ × ℕ) → List (ℕ × ℕ) → QueueState = λ ts ms bs. record (state_of q) { unfinished = ts; completed = ms; batch = bs } in
    ap (λ (ts : List Task). with_lists ts (map element (drop q.batch c.push_reserved.new.self.items)) (map element (take q.batch c.push_reserved.new.self.items))) c.remove.ensures.items
    ∙ ap (λ (ms : List (ℕ × ℕ)). with_lists (remove q.unfinished.items c.args.place) ms (map element (take q.batch c.push_reserved.new.self.items))) more
    ∙ ap (λ (bs : List (ℕ × ℕ)). with_lists (remove q.unfinished.items c.args.place) (map element (drop q.batch xs) ++ element x ∷ []) bs) still

pub invariant_of-self-clause-in_table : goal.invariant_of-self-clause-in_table
invariant_of-self-clause-in_table c =
    let q = c.args.self.now in
    ap (elements_fit q.ring.size) c.push_reserved.ensures.items ∙ below_more q.ring.size q.completed.items (record { head = c.args.head; len = c.args.len }) q.in_table c.requires.fits (omega (arith, c.ranges.len.fits))
