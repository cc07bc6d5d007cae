use Rattle.std.proofs.Common.{◌≡◌, ◌++◌, ◌≤◌, drop}
use Rattle.arrayvec.specs.ArrayVec.{array_vec_len}
use Rattle.vub_session.specs.Table as table
use Rattle.vub_session.proofs.table.mapped.Given as goal

abbrev pub invariant-loop-at : goal.invariant-loop-at
invariant-loop-at l =
    (array_vec_len l.mapped ≤ l.at) × (table.mapped l.regions l.found ≡ l.mapped.items ++ table.mapped (drop l.at l.regions) (drop l.at l.found))
