use Rattle.std.proofs.Common.{◌≡◌, ℕ, List, drop}
use Rattle.vub_base.specs.Told.{WhereTold}
use Rattle.vub_shared.specs.Frames.{OnlyLoads}
use Rattle.vub_inflight.specs.Links.{AreMarked}
use Rattle.vub_infl_packed.specs.Readings.{bad_chains}
use Rattle.vub_infl_packed.specs.Region.{words_of}
use Rattle.vub_infl_packed.proofs.walks.walk_chains.Given as goal

abbrev pub invariant-loop-head : goal.invariant-loop-head
invariant-loop-head g l =
    let told = g.M.Shared.told in
    record {
      only_loads : OnlyLoads told g.M.Shared.trail g.M.Shared.names g.M.Shared.handed g.M.Shared.sizes l.fn.mem l.mem;
      faults : g.M.Shared.faults l.mem ≡ g.M.Shared.faults l.fn.mem;
      bad : WhereTold (told l.fn.mem) (λ m. (list : List ℕ) → AreMarked l.fn.met list → (now : List ℕ) × AreMarked l.met now × (bad_chains l.region.size (words_of l.region m) now (drop l.head-index l.heads) ≡ bad_chains l.region.size (words_of l.region m) list l.heads));
    }
