use Rattle.std.proofs.Common.{◌≡◌, ◌∙◌, ap, sym, subst, ℕ, false, Some, List}
use Rattle.std.proofs.lemmas.List.{get_or-replicate}
use Rattle.vub_base.specs.Pending.{PendingState, sorted}
use Rattle.vub_base.specs.declared.pending.Pending.{Pending}
use Rattle.vub_inflight.specs.Entries.{AreEntries}
use Rattle.vub_inflight.specs.Links.{AreMarked}
use Rattle.vub_inflight.proofs.EntryLemmas.{entries_sorted}
use Rattle.vub_infl_packed.specs.Readings.{free_from, free_list}
use Rattle.vub_infl_packed.specs.Region.{RegionWords, words_of}
use Rattle.vub_infl_packed.proofs.region.PackedRegion.unchecked_entries.Goals as goal

pub mark_free_list-requires-clause-unmarked : goal.mark_free_list-requires-clause-unmarked
mark_free_list-requires-clause-unmarked g c i low = get_or-replicate 1024 i false false low

pub returns-clause-open : goal.returns-clause-open
returns-clause-open g c m told =
    let w : RegionWords = words_of c.args.self.now m in
    let n : ℕ = c.args.self.now.size in
    let told_2 : g.M.Shared.told c.header.new.mem ≡ Some m = c.header.ensures.only_loads.same_told ∙ told in
    let told_3 : g.M.Shared.told c.mark_free_list.new.mem ≡ Some m = c.mark_free_list.ensures.only_loads.same_told ∙ told_2 in
    let head = c.chosen_head.ensures w (c.in_ok-header.ensures.loaded m told) in
    let marked : AreMarked c.mark_free_list.new.marks (free_list n c.args.slot_flags w) = subst (λ (h : ℕ). AreMarked c.mark_free_list.new.marks (free_from n w h)) head (c.in_ok-mark_free_list.ensures.marked m told_2) in
    ap (λ (s : PendingState). s.items) c.sort.ensures ∙ ap sorted (c.in_ok-gather.ensures.gathered m told_3 (free_list n c.args.slot_flags w) marked)

pub returns-clause-entries : goal.returns-clause-entries
returns-clause-entries g c = subst (λ (xs : List Pending). AreEntries c.args.self.now.size xs) (sym (ap (λ (s : PendingState). s.items) c.sort.ensures)) (entries_sorted c.args.self.now.size c.gather.new.into.items c.in_ok-gather.ensures.entries)
