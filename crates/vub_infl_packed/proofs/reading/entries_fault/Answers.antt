use Rattle.std.proofs.Common.{◌≡◌, ◌≢◌, ◌-◌, ◌∙◌, ap, sym, subst, ℕ, false, None, Some, List, length}
use Rattle.std.proofs.lemmas.List.{get_or-replicate}
use Rattle.vub_base.specs.Pending.{sorted}
use Rattle.vub_base.specs.declared.pending.Pending.{Pending}
use Rattle.vub_inflight.specs.Entries.{in_flight_but, AreEntries}
use Rattle.vub_inflight.specs.Readings.{bad_counter}
use Rattle.vub_inflight.proofs.EntryLemmas.{entries_sorted}
use Rattle.vub_infl_packed.specs.Readings.{free_from, open_by_index, bad_chains, chain_entries}
use Rattle.vub_infl_packed.specs.Region.{RegionWords, words_of}
use Rattle.vub_infl_packed.specs.Walks.{IsFreeList, HasFew}
use Rattle.vub_infl_packed.proofs.FaultLemmas.{heads_left, link_found, sum_found, counters_left}
use Rattle.vub_infl_packed.proofs.reading.entries_fault.Goals as goal

pub walk_free_list-requires-clause-unmarked : goal.walk_free_list-requires-clause-unmarked
walk_free_list-requires-clause-unmarked g c i low = get_or-replicate 1024 i false false low

pub returns-in-Some-clause-fault : goal.returns-in-Some-clause-fault
returns-in-Some-clause-fault g c m told =
    let w : RegionWords = words_of c.args.region.now m in
    let n : ℕ = c.args.region.now.size in
    let free : List ℕ = free_from n w c.args.free_head in
    let list = subst (IsFreeList n w c.args.free_head c.walk_free_list.new.met) c.in-Entries.is (c.in_ok-count.ensures.list m told) in
    let told_2 : g.M.Shared.told c.walk_free_list.new.mem ≡ Some m = c.walk_free_list.ensures.only_loads.same_told ∙ told in
    let told_3 : g.M.Shared.told c.gather.new.mem ≡ Some m = c.gather.ensures.only_loads.same_told ∙ told_2 in
    let heads : c.items.result.now ≡ open_by_index n free w = c.items.ensures ∙ c.in_ok-gather.ensures.gathered m told_2 free list.2 in
    let bad : bad_chains n w free (open_by_index n free w) ≡ Some c.in-Some.link = sym (ap (bad_chains n w free) heads) ∙ sym (c.in_ok-link.ensures.bad m told_3 free list.2) ∙ c.in-Some.is in
    sym (heads_left n w c.args.free_head list.0 ∙ link_found n w free (open_by_index n free w) c.in-Some.link bad)

pub overflow_sub-region : goal.overflow_sub-region
overflow_sub-region g c = subst (HasFew c.args.region.now.size) c.in-Entries.is c.in_ok-count.ensures.few

pub returns-then-sum-from-clause-fault : goal.returns-then-sum-from-clause-fault
returns-then-sum-from-clause-fault g c m told =
    let w : RegionWords = words_of c.args.region.now m in
    let n : ℕ = c.args.region.now.size in
    let free : List ℕ = free_from n w c.args.free_head in
    let list = subst (IsFreeList n w c.args.free_head c.walk_free_list.new.met) c.in-Entries.is (c.in_ok-count.ensures.list m told) in
    let told_2 : g.M.Shared.told c.walk_free_list.new.mem ≡ Some m = c.walk_free_list.ensures.only_loads.same_told ∙ told in
    let told_3 : g.M.Shared.told c.gather.new.mem ≡ Some m = c.gather.ensures.only_loads.same_told ∙ told_2 in
    let gathered : c.gather.new.into.items ≡ open_by_index n free w = c.in_ok-gather.ensures.gathered m told_2 free list.2 in
    let fine : bad_chains n w free (open_by_index n free w) ≡ None = sym (ap (bad_chains n w free) (c.items.ensures ∙ gathered)) ∙ sym (c.in_ok-link.ensures.bad m told_3 free list.2) ∙ c.in_default.is in
    let sum : c.entries_in_chains-sum.result ≡ chain_entries (open_by_index n free w) = c.entries_in_chains-sum.ensures ∙ ap chain_entries (c.items-2.ensures ∙ gathered) in
    let differs : c.entries_in_chains-sum.result ≢ n - length free = λ same. c.if-sum-from.true (same ∙ ap (λ (k : ℕ). n - k) list.1 ∙ sym c.from.ensures) in
    sym (heads_left n w c.args.free_head list.0 ∙ sum_found n w free (open_by_index n free w) c.entries_in_chains-sum.result fine sum differs)

pub returns-clause-fault : goal.returns-clause-fault
returns-clause-fault g c m told =
    let w : RegionWords = words_of c.args.region.now m in
    let n : ℕ = c.args.region.now.size in
    let free : List ℕ = free_from n w c.args.free_head in
    let list = subst (IsFreeList n w c.args.free_head c.walk_free_list.new.met) c.in-Entries.is (c.in_ok-count.ensures.list m told) in
    let told_2 : g.M.Shared.told c.walk_free_list.new.mem ≡ Some m = c.walk_free_list.ensures.only_loads.same_told ∙ told in
    let told_3 : g.M.Shared.told c.gather.new.mem ≡ Some m = c.gather.ensures.only_loads.same_told ∙ told_2 in
    let gathered : c.gather.new.into.items ≡ open_by_index n free w = c.in_ok-gather.ensures.gathered m told_2 free list.2 in
    let fine : bad_chains n w free (open_by_index n free w) ≡ None = sym (ap (bad_chains n w free) (c.items.ensures ∙ gathered)) ∙ sym (c.in_ok-link.ensures.bad m told_3 free list.2) ∙ c.in_default.is in
    let sum : c.entries_in_chains-sum.result ≡ chain_entries (open_by_index n free w) = c.entries_in_chains-sum.ensures ∙ ap chain_entries (c.items-2.ensures ∙ gathered) in
    let left : chain_entries (open_by_index n free w) ≡ n - length free = sym sum ∙ c.if-sum-from.false ∙ c.from.ensures ∙ ap (λ (k : ℕ). n - k) (sym list.1) in
    c.bad_counter.ensures.fault w.counter w.num (in_flight_but free w.inflight) n gathered ∙ ap bad_counter gathered ∙ sym (heads_left n w c.args.free_head list.0 ∙ counters_left n w free (open_by_index n free w) fine left)

pub returns-clause-open : goal.returns-clause-open
returns-clause-open g c none m told =
    let w : RegionWords = words_of c.args.region.now m in
    let n : ℕ = c.args.region.now.size in
    let free : List ℕ = free_from n w c.args.free_head in
    let list = subst (IsFreeList n w c.args.free_head c.walk_free_list.new.met) c.in-Entries.is (c.in_ok-count.ensures.list m told) in
    let told_2 : g.M.Shared.told c.walk_free_list.new.mem ≡ Some m = c.walk_free_list.ensures.only_loads.same_told ∙ told in
    c.bad_counter.ensures.sorted none ∙ ap sorted (c.in_ok-gather.ensures.gathered m told_2 free list.2)

pub returns-clause-entries : goal.returns-clause-entries
returns-clause-entries g c none = subst (λ (xs : List Pending). AreEntries c.args.region.now.size xs) (sym (c.bad_counter.ensures.sorted none)) (entries_sorted c.args.region.now.size c.gather.new.into.items c.in_ok-gather.ensures.entries)
