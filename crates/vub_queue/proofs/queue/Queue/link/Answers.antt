use Rattle.std.proofs.Common.{◌≡◌, ◌<◌, ℕ, length, refl, sym, subst, arith, rules}
use Rattle.std.specs.Prelude.{Some, take, Option}
use Rattle.vub_shared.specs.Bytes.{Bytes}
use Rattle.vub_steps.specs.declared.steps.Step.TheVariants.{Link}
use Rattle.vub_queue.specs.declared.queue.Queue.{Queue}
use Rattle.vub_queue.specs.QueueState.{state_of, step_in, Moves, Unless, is_fault}
use Rattle.vub_queue.proofs.QueueLemmas.{StandsAt, stands_at, count_is, below_at, below_take}
use Rattle.vub_queue.proofs.queue.Queue.link.Goals as goal

stands : (q : Queue) (e : ℕ) → step_in (state_of q) ≡ Some (Link e) → StandsAt (length (state_of q).batch) q.phase (Link e)
stands q e next = stands_at (length (state_of q).batch) q.bell q.phase (Link e) refl next

pub batch_element-head-requires : goal.batch_element-head-requires
batch_element-head-requires g c =
    let q = c.args.self.now in
    omega (arith, (stands q c.args.element c.requires.next).stands.0, count_is q)

pub store_in_region-requires-clause-within : goal.store_in_region-requires-clause-within
store_in_region-requires-clause-within g c =
    let q = c.args.self.now in
    subst (λ (n : ℕ). c.batch_element-head.result.head < n) (sym c.requires.same_size) (below_at q.ring.size (take q.batch q.completed.items) c.args.element c.batch_element-head.result (below_take q.ring.size q.batch q.completed.items q.in_table) c.batch_element-head.ensures)

pub returns : goal.returns
returns g c =
    let moves = subst (λ (o : Option Bytes). Unless (is_fault c.store_in_region.result) (Moves o c.store_in_region.result (state_of c.args.self.now) (state_of c.store_in_region.new.self))) c.in-Ok.ensures.only_loads.same_told c.store_in_region.ensures.moves in
    record {
      ring = search rules;
      stopped = search rules;
      lies = search rules;
      moves = moves;
      makes_row = search rules;
      publishing = search rules;
      no_disk = search rules;
      silent = search rules;
      cause = search rules;
    }
