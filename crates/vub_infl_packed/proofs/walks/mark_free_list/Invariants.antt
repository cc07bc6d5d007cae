use Rattle.std.proofs.Common.{◌≡◌, ◌-◌, ◌++◌, length}
use Rattle.vub_base.specs.Told.{WhereTold}
use Rattle.vub_shared.specs.Frames.{OnlyLoads}
use Rattle.vub_inflight.specs.Links.{links, links_within, AreMarked}
use Rattle.vub_inflight.specs.Links.{link_at}
use Rattle.vub_infl_packed.specs.Region.{words_of}
use Rattle.vub_infl_packed.proofs.walks.mark_free_list.Given as goal

abbrev pub invariant-loop : goal.invariant-loop
invariant-loop g l =
    let told = g.M.Shared.told in
    record {
      long : length l.marks ≡ 1024;
      only_loads : OnlyLoads told g.M.Shared.trail g.M.Shared.names g.M.Shared.handed g.M.Shared.sizes l.fn.mem l.mem;
      faults : g.M.Shared.faults l.mem ≡ g.M.Shared.faults l.fn.mem;
      link : WhereTold (told l.fn.mem) (λ m. l.link ≡ link_at (words_of l.region m).next l.counter l.head);
      met : WhereTold (told l.fn.mem) (λ m. AreMarked l.marks (links (words_of l.region m).next l.counter l.head));
      whole : WhereTold (told l.fn.mem) (λ m. links (words_of l.region m).next l.counter l.head ++ links_within l.region.size (words_of l.region m).next (l.region.size - l.counter) l.link
          ≡ links_within l.region.size (words_of l.region m).next l.region.size l.head);
    }
