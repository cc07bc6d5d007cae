use Rattle.std.proofs.Common.{◌≡◌, ◌+◌, ◌-◌, ◌++◌, length}
use Rattle.vub_base.specs.Told.{WhereTold}
use Rattle.vub_shared.specs.Frames.{OnlyLoads}
use Rattle.vub_inflight.specs.Links.{link_at, links, links_within, first_bad, AreMarked}
use Rattle.vub_infl_packed.specs.Readings.{before_end, free_from, bad_free}
use Rattle.vub_infl_packed.specs.Region.{words_of}
use Rattle.vub_infl_packed.proofs.WalkLemmas.{Distinct}
use Rattle.vub_infl_packed.proofs.walks.walk_free_list.Given as goal

abbrev pub invariant-loop-count : goal.invariant-loop-count
invariant-loop-count g l =
    let told = g.M.Shared.told in
    record {
      long : length l.met ≡ 1024;
      only_loads : OnlyLoads told g.M.Shared.trail g.M.Shared.names g.M.Shared.handed g.M.Shared.sizes l.fn.mem l.mem;
      faults : g.M.Shared.faults l.mem ≡ g.M.Shared.faults l.fn.mem;
      link : WhereTold (told l.fn.mem) (λ m. l.link ≡ link_at (words_of l.region m).next l.count l.head);
      met : WhereTold (told l.fn.mem) (λ m. AreMarked l.met (links (words_of l.region m).next l.count l.head));
      distinct : WhereTold (told l.fn.mem) (λ m. Distinct l.region.size (links (words_of l.region m).next l.count l.head));
      bad : WhereTold (told l.fn.mem) (λ m. first_bad l.region.size (links (words_of l.region m).next l.count l.head) (before_end l.region.size (links (words_of l.region m).next (l.region.size + 1 - l.count) l.link)) ≡ bad_free l.region.size (words_of l.region m) l.head);
      whole : WhereTold (told l.fn.mem) (λ m. links (words_of l.region m).next l.count l.head ++ links_within l.region.size (words_of l.region m).next (l.region.size - l.count) l.link ≡ free_from l.region.size (words_of l.region m) l.head);
    }
