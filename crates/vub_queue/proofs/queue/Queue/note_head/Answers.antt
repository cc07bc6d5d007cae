use Rattle.std.proofs.Common.{◌≡◌, ℕ, length, refl, arith}
use Rattle.std.specs.Prelude.{Some}
use Rattle.vub_steps.specs.declared.steps.Step.TheVariants.{Head}
use Rattle.vub_queue.specs.declared.queue.Queue.{Queue}
use Rattle.vub_queue.specs.QueueState.{state_of, step_in}
use Rattle.vub_queue.proofs.QueueLemmas.{StandsAt, stands_at, count_is}
use Rattle.vub_queue.proofs.queue.Queue.note_head.Goals as goal

stands : (q : Queue) (e : ℕ) → step_in (state_of q) ≡ Some (Head e) → StandsAt (length (state_of q).batch) q.phase (Head e)
stands q e next = stands_at (length (state_of q).batch) q.bell q.phase (Head e) refl next

pub batch_element-head-requires : goal.batch_element-head-requires
batch_element-head-requires g c =
    let q = c.args.self.now in
    omega (arith, (stands q c.args.element c.requires.next).stands.0, count_is q)
