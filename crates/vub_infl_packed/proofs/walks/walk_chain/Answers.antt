use Rattle.std.proofs.Common.{◌≡◌, ◌<◌, ◌-◌, ◌+◌, ◌++◌, ◌∙◌, ap, sym, refl, subst, ℕ, Bool, List, length, get_or, set, true, false, arith}
use Rattle.std.specs.Prelude.{not, ◌||◌, nat_lt, None}
use Rattle.std.proofs.lemmas.List.{length-set}
use Rattle.std.proofs.lemmas.Bool.Decides.{nat_tests}
use Rattle.vub_base.specs.declared.pending.Pending.{Pending}
use Rattle.vub_device.specs.Past.{is_among}
use Rattle.vub_shared.proofs.FrameLemmas.{loads_twice}
use Rattle.vub_inflight.specs.Links.{link_at, links, first_bad, AreMarked}
use Rattle.vub_inflight.proofs.LinkLemmas.{link_goes_on, bad_goes_on, bad_found, bad_by_mark, marks_go_on}
use Rattle.vub_infl_packed.specs.declared.region.PackedEntry.{PackedEntry}
use Rattle.vub_infl_packed.specs.Readings.{chain, chain_end}
use Rattle.vub_infl_packed.specs.Region.{RegionWords, words_of}
use Rattle.vub_infl_packed.proofs.WalkLemmas.{chain_broken, chain_walked}
use Rattle.vub_infl_packed.proofs.walks.walk_chain.Goals as goal

pub returns-then-is_bad-clause-bad : goal.returns-then-is_bad-clause-bad
returns-then-is_bad-clause-bad g c m told list marked =
    let w : RegionWords = words_of c.args.region.now m in
    let e : Pending = c.args.head.now in
    let met : List ℕ = list ++ links w.next c.loop.counter e.head in
    let marks : c.loop.link < 1024 → get_or c.loop.met c.loop.link false ≡ is_among met c.loop.link = λ low. c.loop.invariant.met m told list marked c.loop.link (omega (arith, low, c.loop.invariant.long)) in
    let tested : (not (nat_lt c.loop.link c.args.region.now.size) || get_or c.loop.met c.loop.link false) ≡ true = sym c.is_bad.ensures ∙ c.if-is_bad.true in
    let bad : (not (nat_lt c.loop.link c.args.region.now.size) || is_among met c.loop.link) ≡ true = bad_by_mark c.loop.link c.args.region.now.size _ (is_among met c.loop.link) c.requires.few marks tested in
    sym (chain_broken c.args.region.now.size w list e c.loop.link c.if-head-eq0.false (sym (c.loop.invariant.bad m told list marked) ∙ bad_found c.args.region.now.size w.next (e.num - c.loop.counter) c.loop.link met (omega (arith, c.loop-test.true)) bad))

pub loop-preserved : goal.loop-preserved
loop-preserved g c =
    let e : Pending = c.args.head.now in
    let tested : (not (nat_lt c.loop.link c.args.region.now.size) || get_or c.loop.met c.loop.link false) ≡ false = sym c.is_bad.ensures ∙ c.if-is_bad.false in
    let low : c.loop.link < c.args.region.now.size = grind (arith, nat_tests) in
    let within : c.loop.link < length c.loop.met = omega (arith, low, c.requires.few, c.loop.invariant.long) in
    let unmarked : get_or c.loop.met c.loop.link false ≡ false = grind (arith, nat_tests) in
    let marks = ap (λ (i : ℕ). set c.loop.met i true) c.from.ensures in
    let before : c.loop.counter + 1 - 1 ≡ c.loop.counter = omega arith in
    record {
      long = length-set c.loop.met c.from.result true ∙ c.loop.invariant.long;
      only_loads = loads_twice _ _ _ _ _ _ _ _ c.loop.invariant.only_loads c.entry.ensures.only_loads;
      faults = c.in_ok-link.ensures.cause.quiet ∙ c.loop.invariant.faults;
      link = λ m told.
          let w : RegionWords = words_of c.args.region.now m in
          let to : c.in_ok-link.field-0.next ≡ w.next c.loop.link = ap (λ (x : PackedEntry). x.next) (c.in_ok-link.ensures.loaded m (c.loop.invariant.only_loads.same_told ∙ told)) in
          link_goes_on w.next c.loop.counter _ c.loop.link c.in_ok-link.field-0.next e.head refl (c.loop.invariant.link m told) to;
      reached = λ m told some. c.loop.invariant.link m told ∙ ap (λ (k : ℕ). link_at (words_of c.args.region.now m).next k e.head) (sym before);
      met = λ m told list marked.
          let w : RegionWords = words_of c.args.region.now m in
          subst (λ (ms : List Bool). AreMarked ms (list ++ links w.next (c.loop.counter + 1) e.head)) (sym marks)
          (marks_go_on list w.next c.loop.counter _ c.loop.link e.head c.loop.met refl (c.loop.invariant.link m told) within (c.loop.invariant.met m told list marked));
      bad = λ m told list marked.
          let w : RegionWords = words_of c.args.region.now m in
          let to : c.in_ok-link.field-0.next ≡ w.next c.loop.link = ap (λ (x : PackedEntry). x.next) (c.in_ok-link.ensures.loaded m (c.loop.invariant.only_loads.same_told ∙ told)) in
          let new : is_among (list ++ links w.next c.loop.counter e.head) c.loop.link ≡ false = sym (c.loop.invariant.met m told list marked c.loop.link within) ∙ unmarked in
          bad_goes_on c.args.region.now.size list w.next c.loop.counter _ (e.num - c.loop.counter) _ c.loop.link c.in_ok-link.field-0.next e.head _ refl (omega (arith, c.loop-test.true)) (c.loop.invariant.link m told) to low new (c.loop.invariant.bad m told list marked);
    }

pub returns-clause-bad : goal.returns-clause-bad
returns-clause-bad g c m told list marked =
    let w : RegionWords = words_of c.args.region.now m in
    let e : Pending = c.args.head.now in
    let n : ℕ = c.args.region.now.size in
    let at_end : c.loop.counter ≡ e.num = omega (arith, c.loop-test.false, c.loop.auto.counter-end) in
    let none_left : e.num - c.loop.counter ≡ 0 = omega (arith, at_end) in
    let some : 0 < c.loop.counter = omega (arith, at_end, c.if-head-eq0.false) in
    let fine : first_bad n list (chain w e) ≡ None = sym (c.loop.invariant.bad m told list marked) ∙ ap (λ (k : ℕ). first_bad n (list ++ links w.next c.loop.counter e.head) (links w.next k c.loop.link)) none_left in
    let at : c.loop.reached ≡ chain_end w e = c.loop.invariant.reached m told some ∙ ap (λ (k : ℕ). link_at w.next (k - 1) e.head) at_end in
    let last : c.in_ok-last.field-0.last ≡ w.last e.head = ap (λ (x : PackedEntry). x.last) (c.in_ok-last.ensures.loaded m (c.loop.invariant.only_loads.same_told ∙ told)) in
    c.then_some.ensures ∙ sym (chain_walked n w list e c.loop.reached c.in_ok-last.field-0.last c.if-head-eq0.false fine at last)

pub returns-clause-met : goal.returns-clause-met
returns-clause-met g c none m told list marked =
    let w : RegionWords = words_of c.args.region.now m in
    let e : Pending = c.args.head.now in
    let at_end : c.loop.counter ≡ e.num = omega (arith, c.loop-test.false, c.loop.auto.counter-end) in
    subst (λ (k : ℕ). AreMarked c.loop.met (list ++ links w.next k e.head)) at_end (c.loop.invariant.met m told list marked)
