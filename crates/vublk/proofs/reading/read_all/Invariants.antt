use Rattle.std.proofs.Common.{◌-◌, ◌≤◌, vec_len}
use Rattle.vublk.specs.Flows.{Took}
use Rattle.vublk.proofs.reading.read_all.Given as goal

abbrev pub invariant-loop-piece : goal.invariant-loop-piece
invariant-loop-piece g l = record {
  took : Took (g.I.Source.left l.fn.input) (g.I.Source.left l.input) l.bytes.items;
  later : g.I.Source.faults l.fn.input ≤ g.I.Source.faults l.input;
  short : vec_len l.bytes ≤ 16777217;
}

abbrev pub decreases-loop-piece : goal.decreases-loop-piece
decreases-loop-piece g l = 16777217 - vec_len l.bytes
