use Rattle.std.proofs.Common.{◌≡◌, ◌<◌, ◌-◌, ◌++◌, ℕ, List, length}
use Rattle.vub_base.specs.Told.{WhereTold}
use Rattle.vub_shared.specs.Frames.{OnlyLoads}
use Rattle.vub_inflight.specs.Links.{link_at, links, first_bad, AreMarked}
use Rattle.vub_infl_packed.specs.Readings.{chain}
use Rattle.vub_infl_packed.specs.Region.{words_of}
use Rattle.vub_infl_packed.proofs.walks.walk_chain.Given as goal

abbrev pub invariant-loop : goal.invariant-loop
invariant-loop g l =
    let told = g.M.Shared.told in
    record {
      long : length l.met ≡ 1024;
      only_loads : OnlyLoads told g.M.Shared.trail g.M.Shared.names g.M.Shared.handed g.M.Shared.sizes l.fn.mem l.mem;
      faults : g.M.Shared.faults l.mem ≡ g.M.Shared.faults l.fn.mem;
      link : WhereTold (told l.fn.mem) (λ m. l.link ≡ link_at (words_of l.region m).next l.counter l.head.head);
      reached : WhereTold (told l.fn.mem) (λ m. 0 < l.counter → l.reached ≡ link_at (words_of l.region m).next (l.counter - 1) l.head.head);
      met : WhereTold (told l.fn.mem) (λ m. (list : List ℕ) → AreMarked l.fn.met list → AreMarked l.met (list ++ links (words_of l.region m).next l.counter l.head.head));
      bad : WhereTold (told l.fn.mem) (λ m. (list : List ℕ) → AreMarked l.fn.met list → first_bad l.region.size (list ++ links (words_of l.region m).next l.counter l.head.head) (links (words_of l.region m).next (l.head.num - l.counter) l.link) ≡ first_bad l.region.size list (chain (words_of l.region m) l.head));
    }
