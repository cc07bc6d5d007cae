use Rattle.std.proofs.Common.{◌≡◌, ℕ, List}
use Rattle.vub_base.specs.Told.{WhereTold}
use Rattle.vub_shared.specs.Frames.{OnlyLoads}
use Rattle.vub_inflight.specs.Entries.{by_index, in_flight_but, AreEntries}
use Rattle.vub_inflight.specs.Links.{AreMarked}
use Rattle.vub_infl_packed.specs.Region.{words_of}
use Rattle.vub_infl_packed.proofs.walks.gather.Given as goal

abbrev pub invariant-loop-index : goal.invariant-loop-index
invariant-loop-index g l =
    let told = g.M.Shared.told in
    record {
      entries : AreEntries l.index l.into.items;
      room : l.into.room ≡ l.fn.into.room;
      only_loads : OnlyLoads told g.M.Shared.trail g.M.Shared.names g.M.Shared.handed g.M.Shared.sizes l.fn.mem l.mem;
      faults : g.M.Shared.faults l.mem ≡ g.M.Shared.faults l.fn.mem;
      so_far : WhereTold (told l.fn.mem) (λ m. (list : List ℕ) → AreMarked l.free list → l.into.items ≡ by_index (words_of l.region m).counter (words_of l.region m).num (in_flight_but list (words_of l.region m).inflight) l.index);
    }
