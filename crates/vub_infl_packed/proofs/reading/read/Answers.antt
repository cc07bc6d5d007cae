use Rattle.std.proofs.Common.{◌≡◌, ◌≢◌, ◌∙◌, ap, sym, ℕ, Some, None}
use Rattle.vub_inflight.specs.Readings.{unless_damaged}
use Rattle.vub_infl_packed.specs.declared.region.PackedHeader.{PackedHeader}
use Rattle.vub_infl_packed.specs.Readings.{chosen_head, free_from, open_but, header_fault, entries_fault}
use Rattle.vub_infl_packed.specs.Region.{RegionWords, words_of, header_of}
use Rattle.vub_infl_packed.proofs.FaultLemmas.{header_read, entries_read, unless_entries, map_is}
use Rattle.vub_infl_packed.proofs.reading.read.Goals as goal

pub returns-in-Some-clause-reads : goal.returns-in-Some-clause-reads
returns-in-Some-clause-reads g c m told =
    let w : RegionWords = words_of c.args.region.now m in
    let told_2 : g.M.Shared.told c.header.new.mem ≡ Some m = c.header.ensures.only_loads.same_told ∙ told in
    let header : c.in_ok-header.header ≡ header_of w = c.in_ok-header.ensures.loaded m told in
    let made : w.version ≢ 0 = λ zero. c.if-header-eq0.false (ap (λ (h : PackedHeader). h.version) header ∙ zero) in
    let fault : c.header_fault.result ≡ header_fault c.args.region.now.size w = c.header_fault.ensures w header (c.in_ok-wrap_counters.ensures.used m told_2) (c.in_ok-wrap_counters.ensures.old m told_2) in
    sym (header_read c.args.region.now.size c.args.slot_flags w c.in-Some.cause made (sym fault ∙ c.in-Some.is))

pub returns-clause-reads : goal.returns-clause-reads
returns-clause-reads g c m told =
    let w : RegionWords = words_of c.args.region.now m in
    let n : ℕ = c.args.region.now.size in
    let told_2 : g.M.Shared.told c.header.new.mem ≡ Some m = c.header.ensures.only_loads.same_told ∙ told in
    let told_3 : g.M.Shared.told c.wrap_counters.new.mem ≡ Some m = c.wrap_counters.ensures.only_loads.same_told ∙ told_2 in
    let header : c.in_ok-header.header ≡ header_of w = c.in_ok-header.ensures.loaded m told in
    let made : w.version ≢ 0 = λ zero. c.if-header-eq0.false (ap (λ (h : PackedHeader). h.version) header ∙ zero) in
    let fine : header_fault n w ≡ None = sym (c.header_fault.ensures w header (c.in_ok-wrap_counters.ensures.used m told_2) (c.in_ok-wrap_counters.ensures.old m told_2)) ∙ c.in_default.is in
    let fault : c.in_ok-cause.cause ≡ entries_fault n w (chosen_head c.args.slot_flags w) = c.in_ok-cause.ensures.fault m told_3 ∙ ap (entries_fault n w) (c.chosen_head.ensures w header) in
    map_is c.in_ok-cause.cause c.map_or.result c.map_or.ensures ∙ ap unless_damaged fault ∙ sym (entries_read n c.args.slot_flags w made fine)

pub returns-clause-open : goal.returns-clause-open
returns-clause-open g c entries m told =
    let w : RegionWords = words_of c.args.region.now m in
    let n : ℕ = c.args.region.now.size in
    let told_2 : g.M.Shared.told c.header.new.mem ≡ Some m = c.header.ensures.only_loads.same_told ∙ told in
    let told_3 : g.M.Shared.told c.wrap_counters.new.mem ≡ Some m = c.wrap_counters.ensures.only_loads.same_told ∙ told_2 in
    let header : c.in_ok-header.header ≡ header_of w = c.in_ok-header.ensures.loaded m told in
    let none : c.in_ok-cause.cause ≡ None = unless_entries c.in_ok-cause.cause (sym (map_is c.in_ok-cause.cause c.map_or.result c.map_or.ensures) ∙ entries) in
    c.in_ok-cause.ensures.open none m told_3 ∙ ap (λ (h : ℕ). open_but n (free_from n w h) w) (c.chosen_head.ensures w header)
