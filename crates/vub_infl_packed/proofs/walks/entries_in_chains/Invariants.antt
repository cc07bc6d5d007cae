use Rattle.std.proofs.Common.{◌≡◌, ◌≤◌, ◌+◌, ◌*◌, drop}
use Rattle.vub_infl_packed.specs.Readings.{chain_entries}
use Rattle.vub_infl_packed.proofs.walks.entries_in_chains.Given as goal

abbrev pub invariant-loop-head : goal.invariant-loop-head
invariant-loop-head l = record {
  rest : l.sum + chain_entries (drop l.head-index l.heads) ≡ chain_entries l.heads;
  few : l.sum ≤ 65535 * l.head-index;
}
