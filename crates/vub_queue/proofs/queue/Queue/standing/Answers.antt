use Rattle.std.proofs.Common.{arith}
use Rattle.vub_queue.proofs.queue.Queue.standing.Goals as goal

pub overflow_cast-result : goal.overflow_cast-result
overflow_cast-result c =
    let g = c.args.self.now in
    omega (arith, g.all, g.few, c.len.ensures)

pub overflow_cast-result-2 : goal.overflow_cast-result-2
overflow_cast-result-2 c =
    let g = c.args.self.now in
    omega (arith, g.all, g.few, c.len-2.ensures)
