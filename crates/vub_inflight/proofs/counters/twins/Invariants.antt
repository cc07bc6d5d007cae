use Rattle.std.proofs.Common.{◌≡◌, ◌≤◌, ◌-◌, drop}
use Rattle.vub_inflight.specs.Neighbours.{earlier, twins}
use Rattle.vub_inflight.proofs.counters.twins.Given as goal

abbrev pub invariant-loop-i : goal.invariant-loop-i
invariant-loop-i l = record {
  some : 1 ≤ l.i;
  rest : earlier l.least (twins (drop (l.i - 1) l.entries)) ≡ twins l.entries;
}
