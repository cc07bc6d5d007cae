use Rattle.std.proofs.Common.{◌≡◌, ◌<◌, ◌∙◌, ◌+◌, ◌-◌, ◌%◌, min, sym, ap, subst, ℕ, false, Some, List}
use Rattle.std.proofs.lemmas.List.{get_or-replicate}
use Rattle.vub_base.specs.Pending.{PendingState, sorted}
use Rattle.vub_base.specs.declared.pending.Pending.{Pending}
use Rattle.vub_shared.proofs.BytesLemmas.{word-lt}
use Rattle.vub_ring.specs.Ring.{ahead}
use Rattle.vub_inflight.specs.Entries.{AreEntries}
use Rattle.vub_inflight.specs.Links.{links_within, AreMarked}
use Rattle.vub_inflight.proofs.EntryLemmas.{entries_sorted}
use Rattle.vub_infl_split.specs.Readings.{counted_within}
use Rattle.vub_infl_split.specs.Region.{words_of}
use Rattle.vub_infl_split.proofs.ReadingChecks.{ahead_loaded}
use Rattle.vub_infl_split.proofs.region.SplitRegion.unchecked_entries.Goals as goal

pub mark_batch-requires-clause-unmarked : goal.mark_batch-requires-clause-unmarked
mark_batch-requires-clause-unmarked g c i low = get_or-replicate 1024 i false false low

pub returns-clause-open : goal.returns-clause-open
returns-clause-open g c m told =
    let w = words_of c.args.self.now m in
    let n : ℕ = c.args.self.now.size in
    let used : ℕ = c.args.ring_used in
    let told_2 : g.M.Shared.told c.used_idx.new.mem ≡ Some m = c.used_idx.ensures.only_loads.same_told ∙ told in
    let told_3 : g.M.Shared.told c.mark_batch.new.mem ≡ Some m = c.mark_batch.ensures.only_loads.same_told ∙ told_2 in
    let fits : w.used_idx < 65536 = word-lt 2 m c.args.self.now.space.number (c.args.self.now.place + 14) (g.met.M.Shared.told_fits c.args.mem.now m told) in
    let way : ahead used w.used_idx ≡ (used + (65536 - c.in_ok-used_idx.used_idx)) % 65536 = ahead_loaded used w.used_idx c.in_ok-used_idx.used_idx fits (c.in_ok-used_idx.ensures.loaded m told) in
    let count : min (ahead used w.used_idx) n ≡ c.min-count.result = ap (λ (k : ℕ). min k n) way ∙ sym c.min-count.ensures in
    let marked : AreMarked c.mark_batch.new.marks (counted_within n used w) = subst (λ (k : ℕ). AreMarked c.mark_batch.new.marks (links_within n w.next k w.last_batch_head)) (sym count) (c.in_ok-mark_batch.ensures.marked m told_2) in
    ap (λ (s : PendingState). s.items) c.sort.ensures ∙ ap sorted (c.in_ok-gather.ensures.gathered m told_3 (counted_within n used w) marked)

pub returns-clause-entries : goal.returns-clause-entries
returns-clause-entries g c = subst (λ (xs : List Pending). AreEntries c.args.self.now.size xs) (sym (ap (λ (s : PendingState). s.items) c.sort.ensures)) (entries_sorted c.args.self.now.size c.gather.new.into.items c.in_ok-gather.ensures.entries)
