use Rattle.std.proofs.Common.{◌≡◌, drop}
use Rattle.vub_memtable.specs.Tables.{first_overlap}
use Rattle.vub_memtable.proofs.table.first_overlap.Given as goal

-- what is left gives the result
abbrev pub invariant-loop-at : goal.invariant-loop-at
invariant-loop-at l = first_overlap l.at (drop l.at l.regions) ≡ first_overlap 0 l.regions
