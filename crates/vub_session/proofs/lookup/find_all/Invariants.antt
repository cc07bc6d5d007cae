use Rattle.std.proofs.Common.{◌≡◌}
use Rattle.arrayvec.specs.ArrayVec.{array_vec_len}
use Rattle.vub_session.specs.Finds.{AreFound, OnlyFinds}
use Rattle.vub_session.proofs.lookup.find_all.Given as goal

abbrev pub invariant-loop-at : goal.invariant-loop-at
invariant-loop-at g l =
    (array_vec_len l.all ≡ l.at)
    × OnlyFinds g.M.Shared.told g.M.Shared.trail g.M.Shared.names g.M.Shared.handed g.M.Shared.sizes l.initial.mem l.mem
    × (g.M.Shared.faults l.mem ≡ g.M.Shared.faults l.initial.mem)
    × AreFound (g.M.Shared.names l.initial.mem) (g.M.Shared.handed l.mem) (g.M.Shared.sizes l.mem) l.names l.all.items
