use Rattle.std.proofs.Common.{◌≡◌, ◌<◌, ◌-◌, ◌+◌, ◌∙◌, ap, sym, refl, subst, ℕ, Bool, List, [], length, get_or, set, true, false, arith}
use Rattle.std.specs.Prelude.{not, ◌||◌, nat_lt, None}
use Rattle.std.proofs.lemmas.List.{length-set}
use Rattle.std.proofs.lemmas.Bool.Decides.{nat_tests}
use Rattle.vub_device.specs.Past.{is_among}
use Rattle.vub_shared.proofs.FrameLemmas.{loads_twice}
use Rattle.vub_inflight.specs.Links.{links, AreMarked}
use Rattle.vub_inflight.proofs.LinkLemmas.{link_goes_on, bad_by_mark, marks_go_on, within_goes_on}
use Rattle.vub_infl_packed.specs.declared.region.PackedEntry.{PackedEntry}
use Rattle.vub_infl_packed.specs.Readings.{free_from, bad_free}
use Rattle.vub_infl_packed.specs.Region.{RegionWords, words_of}
use Rattle.vub_infl_packed.proofs.WalkLemmas.{free_goes_on, free_found, distinct_goes_on, past_all, Distinct, ends_there}
use Rattle.vub_infl_packed.proofs.walks.walk_free_list.Goals as goal

pub returns-then-link-region-clause-list : goal.returns-then-link-region-clause-list
returns-then-link-region-clause-list g c m told =
    ends_there c.args.region.now.size (words_of c.args.region.now m) c.loop-count.count c.loop-count.link c.args.head c.loop-count.met (omega (arith, c.loop-count-test.true)) c.if-link-region.true
    (c.loop-count.invariant.bad m told) (c.loop-count.invariant.whole m told) (c.loop-count.invariant.met m told)

pub returns-then-is_bad-clause-list : goal.returns-then-is_bad-clause-list
returns-then-is_bad-clause-list g c m told =
    let w : RegionWords = words_of c.args.region.now m in
    let met : List ℕ = links w.next c.loop-count.count c.args.head in
    let marks : c.loop-count.link < 1024 → get_or c.loop-count.met c.loop-count.link false ≡ is_among met c.loop-count.link = λ low. c.loop-count.invariant.met m told c.loop-count.link (omega (arith, low, c.loop-count.invariant.long)) in
    let tested : (not (nat_lt c.loop-count.link c.args.region.now.size) || get_or c.loop-count.met c.loop-count.link false) ≡ true = sym c.is_bad.ensures ∙ c.if-is_bad.true in
    let bad : (not (nat_lt c.loop-count.link c.args.region.now.size) || is_among met c.loop-count.link) ≡ true = bad_by_mark c.loop-count.link c.args.region.now.size _ (is_among met c.loop-count.link) c.requires.few marks tested in
    sym (c.loop-count.invariant.bad m told) ∙ free_found c.args.region.now.size w.next (c.args.region.now.size + 1 - c.loop-count.count) c.loop-count.link met (omega (arith, c.loop-count-test.true)) c.if-link-region.false bad

pub loop-count-preserved : goal.loop-count-preserved
loop-count-preserved g c =
    let tested : (not (nat_lt c.loop-count.link c.args.region.now.size) || get_or c.loop-count.met c.loop-count.link false) ≡ false = sym c.is_bad.ensures ∙ c.if-is_bad.false in
    let low : c.loop-count.link < c.args.region.now.size = grind (arith, nat_tests) in
    let within : c.loop-count.link < length c.loop-count.met = omega (arith, low, c.requires.few, c.loop-count.invariant.long) in
    let unmarked : get_or c.loop-count.met c.loop-count.link false ≡ false = grind (arith, nat_tests) in
    let marked = ap (λ (i : ℕ). set c.loop-count.met i true) c.from.ensures in
    record {
      long = length-set c.loop-count.met c.from.result true ∙ c.loop-count.invariant.long;
      only_loads = loads_twice _ _ _ _ _ _ _ _ c.loop-count.invariant.only_loads c.entry.ensures.only_loads;
      faults = c.in_ok-link.ensures.cause.quiet ∙ c.loop-count.invariant.faults;
      link = λ m told.
          let w : RegionWords = words_of c.args.region.now m in
          let to : c.in_ok-link.field-0.next ≡ w.next c.loop-count.link = ap (λ (e : PackedEntry). e.next) (c.in_ok-link.ensures.loaded m (c.loop-count.invariant.only_loads.same_told ∙ told)) in
          link_goes_on w.next c.loop-count.count _ c.loop-count.link c.in_ok-link.field-0.next c.args.head refl (c.loop-count.invariant.link m told) to;
      met = λ m told.
          let w : RegionWords = words_of c.args.region.now m in
          subst (λ (marks : List Bool). AreMarked marks (links w.next (c.loop-count.count + 1) c.args.head)) (sym marked)
          (marks_go_on [] w.next c.loop-count.count _ c.loop-count.link c.args.head c.loop-count.met refl (c.loop-count.invariant.link m told) within (c.loop-count.invariant.met m told));
      distinct = λ m told.
          let w : RegionWords = words_of c.args.region.now m in
          let new : is_among (links w.next c.loop-count.count c.args.head) c.loop-count.link ≡ false = sym (c.loop-count.invariant.met m told c.loop-count.link within) ∙ unmarked in
          distinct_goes_on c.args.region.now.size w.next c.loop-count.count _ c.loop-count.link c.args.head refl (c.loop-count.invariant.link m told) low new (c.loop-count.invariant.distinct m told);
      bad = λ m told.
          let w : RegionWords = words_of c.args.region.now m in
          let to : c.in_ok-link.field-0.next ≡ w.next c.loop-count.link = ap (λ (e : PackedEntry). e.next) (c.in_ok-link.ensures.loaded m (c.loop-count.invariant.only_loads.same_told ∙ told)) in
          let new : is_among (links w.next c.loop-count.count c.args.head) c.loop-count.link ≡ false = sym (c.loop-count.invariant.met m told c.loop-count.link within) ∙ unmarked in
          free_goes_on c.args.region.now.size w.next c.loop-count.count _ (c.args.region.now.size + 1 - c.loop-count.count) _ c.loop-count.link c.in_ok-link.field-0.next c.args.head _ refl (omega (arith, c.loop-count-test.true)) (c.loop-count.invariant.link m told) to low new (c.loop-count.invariant.bad m told);
      whole = λ m told.
          let w : RegionWords = words_of c.args.region.now m in
          let to : c.in_ok-link.field-0.next ≡ w.next c.loop-count.link = ap (λ (e : PackedEntry). e.next) (c.in_ok-link.ensures.loaded m (c.loop-count.invariant.only_loads.same_told ∙ told)) in
          within_goes_on c.args.region.now.size w.next c.loop-count.count _ (c.args.region.now.size - c.loop-count.count) _ c.loop-count.link c.in_ok-link.field-0.next c.args.head _ refl (omega (arith, c.loop-count-test.true)) (c.loop-count.invariant.link m told) to low (c.loop-count.invariant.whole m told);
    }

pub returns-then-link-region-2-clause-list : goal.returns-then-link-region-2-clause-list
returns-then-link-region-2-clause-list g c m told =
    let at_end : c.loop-count.count ≡ c.args.region.now.size = omega (arith, c.loop-count-test.false, c.loop-count.auto.count-end) in
    subst (λ (k : ℕ). (bad_free c.args.region.now.size (words_of c.args.region.now m) c.args.head ≡ None) × (length (free_from c.args.region.now.size (words_of c.args.region.now m) c.args.head) ≡ k) × AreMarked c.loop-count.met (free_from c.args.region.now.size (words_of c.args.region.now m) c.args.head)) at_end
    (ends_there c.args.region.now.size (words_of c.args.region.now m) c.loop-count.count c.loop-count.link c.args.head c.loop-count.met c.loop-count.auto.count-end c.if-link-region-2.true
    (c.loop-count.invariant.bad m told) (c.loop-count.invariant.whole m told) (c.loop-count.invariant.met m told))

pub returns-else-link-region-2-clause-list : goal.returns-else-link-region-2-clause-list
returns-else-link-region-2-clause-list g c m told =
    let w : RegionWords = words_of c.args.region.now m in
    let n : ℕ = c.args.region.now.size in
    let at_end : c.loop-count.count ≡ n = omega (arith, c.loop-count-test.false, c.loop-count.auto.count-end) in
    let all : Distinct n (links w.next n c.args.head) = subst (λ (k : ℕ). Distinct n (links w.next k c.args.head)) at_end (c.loop-count.invariant.distinct m told) in
    let bad : (not (nat_lt c.loop-count.link n) || is_among (links w.next c.loop-count.count c.args.head) c.loop-count.link) ≡ true =
    subst (λ (k : ℕ). (not (nat_lt c.loop-count.link n) || is_among (links w.next k c.args.head) c.loop-count.link) ≡ true) (sym at_end) (past_all n w.next c.loop-count.link c.args.head all c.if-link-region-2.false) in
    sym (c.loop-count.invariant.bad m told) ∙ free_found n w.next (n + 1 - c.loop-count.count) c.loop-count.link (links w.next c.loop-count.count c.args.head) (omega (arith, c.loop-count.auto.count-end)) c.if-link-region-2.false bad
