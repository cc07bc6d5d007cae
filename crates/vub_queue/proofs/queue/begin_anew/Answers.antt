use Rattle.std.proofs.Common.{◌+◌, ◌∙◌, arith, rules}
use Rattle.std.proofs.lemmas.List.{length-drop}
use Rattle.vub_queue.proofs.ResumeLemmas.{tasks_next, taken_next, below_next}
use Rattle.vub_queue.proofs.queue.begin_anew.Goals as goal

pub loop-request-preserved : goal.loop-request-preserved
loop-request-preserved c =
    let xs = c.args.pending.now in
    let l = c.loop-request in
    let i = l.request-index in
    let left = l.invariant.0 in
    let fits = l.invariant.1 in (
      record {
        begun = tasks_next xs i _ l.unfinished.items c.push_reserved.new.self.items _ c.new.result (search rules) c.new.ensures.is c.push_reserved.ensures.items left.begun;
        taken = taken_next xs i _ l.taken c.set_taken.new.taken _ (search rules) c.set_taken.ensures left.taken;
        below = below_next xs i _ l.taken c.set_taken.new.taken c.set_taken.ensures left.below;
      },
      record {
        room = omega (arith, fits.room, length-drop i xs, length-drop (i + 1) xs, c.push_reserved.ensures.len, c.push_reserved.ensures.capacity, c.loop-request-test.true);
        same = c.push_reserved.ensures.capacity ∙ fits.same;
      },
    )
