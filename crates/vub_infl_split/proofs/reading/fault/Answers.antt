use Rattle.std.proofs.Common.{◌≡◌, ◌≤◌, ◌<◌, ◌∙◌, ◌+◌, ◌-◌, ◌%◌, sym, ap, subst, ℕ, false, None, Some, List, [], arith}
use Rattle.std.proofs.lemmas.List.{get_or-replicate}
use Rattle.vub_base.specs.Pending.{sorted}
use Rattle.vub_shared.proofs.BytesLemmas.{word-lt}
use Rattle.vub_ring.specs.Ring.{ahead}
use Rattle.vub_base.specs.declared.pending.Pending.{Pending}
use Rattle.vub_inflight.specs.Entries.{AreEntries}
use Rattle.vub_inflight.proofs.EntryLemmas.{entries_sorted}
use Rattle.vub_inflight.specs.Links.{links, first_bad, AreMarked}
use Rattle.vub_inflight.specs.Readings.{bad_counter}
use Rattle.vub_infl_split.specs.Readings.{counted, is_open, one_each}
use Rattle.vub_infl_split.specs.Region.{words_of}
use Rattle.vub_infl_split.proofs.ReadingChecks.{counters_left, ahead_loaded}
use Rattle.vub_infl_split.proofs.reading.fault.Goals as goal

pub walk_links-requires-clause-unmarked : goal.walk_links-requires-clause-unmarked
walk_links-requires-clause-unmarked g c i low = get_or-replicate 1024 i false false low

pub returns-clause-fault : goal.returns-clause-fault
returns-clause-fault g c m told version =
    let w = words_of c.args.region.now m in
    let n = c.args.region.now.size in
    let used = c.args.ring_used in
    let told_2 : g.M.Shared.told c.desc_num.new.mem ≡ Some m = c.desc_num.ensures.only_loads.same_told ∙ told in
    let told_3 : g.M.Shared.told c.used_idx.new.mem ≡ Some m = c.used_idx.ensures.only_loads.same_told ∙ told_2 in
    let told_4 : g.M.Shared.told c.walk_links.new.mem ≡ Some m = c.walk_links.ensures.only_loads.same_told ∙ told_3 in
    let count : w.desc_num ≡ n = sym (c.in_ok-count.ensures.loaded m told) ∙ c.if-count-region.false in
    let fits : w.used_idx < 65536 = word-lt 2 m c.args.region.now.space.number (c.args.region.now.place + 14) (g.met.M.Shared.told_fits c.args.mem.now m told) in
    let batch : ahead used w.used_idx ≡ (used + (65536 - c.in_ok-used_idx.used_idx)) % 65536 = ahead_loaded used w.used_idx c.in_ok-used_idx.used_idx fits (c.in_ok-used_idx.ensures.loaded m told_2) in
    let few : ahead used w.used_idx ≤ n = omega (arith, batch, c.if-batch-region.false) in
    let bad : first_bad n [] (counted used w) ≡ None = ap (λ (k : ℕ). first_bad n [] (links w.next k w.last_batch_head)) batch ∙ sym (c.in_ok-bad.ensures.bad m told_3) ∙ c.in_default.is in
    let marked = subst (λ (k : ℕ). AreMarked c.walk_links.new.met (links w.next k w.last_batch_head)) (sym batch) (c.in_ok-bad.ensures.met c.in_default.is m told_3) in
    let gathered = c.in_ok-gather.ensures.gathered m told_4 (counted used w) marked in
    c.bad_counter.ensures.fault w.counter one_each (is_open used w) n gathered ∙ ap bad_counter gathered ∙ sym (counters_left n used w version count few bad)

pub returns-clause-open : goal.returns-clause-open
returns-clause-open g c none m told =
    let w = words_of c.args.region.now m in
    let used = c.args.ring_used in
    let told_2 : g.M.Shared.told c.desc_num.new.mem ≡ Some m = c.desc_num.ensures.only_loads.same_told ∙ told in
    let told_3 : g.M.Shared.told c.used_idx.new.mem ≡ Some m = c.used_idx.ensures.only_loads.same_told ∙ told_2 in
    let told_4 : g.M.Shared.told c.walk_links.new.mem ≡ Some m = c.walk_links.ensures.only_loads.same_told ∙ told_3 in
    let fits : w.used_idx < 65536 = word-lt 2 m c.args.region.now.space.number (c.args.region.now.place + 14) (g.met.M.Shared.told_fits c.args.mem.now m told) in
    let batch : ahead used w.used_idx ≡ (used + (65536 - c.in_ok-used_idx.used_idx)) % 65536 = ahead_loaded used w.used_idx c.in_ok-used_idx.used_idx fits (c.in_ok-used_idx.ensures.loaded m told_2) in
    let marked = subst (λ (k : ℕ). AreMarked c.walk_links.new.met (links w.next k w.last_batch_head)) (sym batch) (c.in_ok-bad.ensures.met c.in_default.is m told_3) in
    c.bad_counter.ensures.sorted none ∙ ap sorted (c.in_ok-gather.ensures.gathered m told_4 (counted used w) marked)

pub returns-clause-entries : goal.returns-clause-entries
returns-clause-entries g c none = subst (λ (xs : List Pending). AreEntries c.args.region.now.size xs) (sym (c.bad_counter.ensures.sorted none)) (entries_sorted c.args.region.now.size c.gather.new.into.items c.in_ok-gather.ensures.entries)
