use Rattle.std.proofs.Common.{◌≡◌, ◌≤◌, ◌<◌, ◌-◌, ◌+◌, ◌∙◌, ap, sym, refl, subst, ℕ, Bool, List, [], length, get_or, set, true, false, arith}
use Rattle.std.specs.Prelude.{not, ◌||◌, nat_lt}
use Rattle.std.proofs.lemmas.List.{length-set}
use Rattle.std.proofs.lemmas.Bool.Decides.{nat_tests}
use Rattle.vub_device.specs.Past.{is_among}
use Rattle.vub_shared.proofs.FrameLemmas.{loads_twice}
use Rattle.vub_inflight.specs.Links.{links, AreMarked}
use Rattle.vub_inflight.proofs.LinkLemmas.{link_goes_on, bad_goes_on, bad_found, bad_by_mark, marks_go_on}
use Rattle.vub_infl_split.specs.Region.{words_of}
use Rattle.vub_infl_split.proofs.reading.walk_links.Goals as goal

pub returns-then-is_bad-clause-bad : goal.returns-then-is_bad-clause-bad
returns-then-is_bad-clause-bad g c m told =
    let w = words_of c.args.region.now m in
    let met = links w.next c.loop.counter w.last_batch_head in
    let marks : c.loop.link < 1024 → get_or c.loop.met c.loop.link false ≡ is_among met c.loop.link = λ low. c.loop.invariant.met m told c.loop.link (omega (arith, low, c.loop.invariant.long)) in
    let few : c.args.region.now.size ≤ 1024 = c.requires.few in
    let tested : (not (nat_lt c.loop.link c.args.region.now.size) || get_or c.loop.met c.loop.link false) ≡ true = sym c.is_bad.ensures ∙ c.if-is_bad.true in
    let bad : (not (nat_lt c.loop.link c.args.region.now.size) || is_among met c.loop.link) ≡ true = bad_by_mark c.loop.link c.args.region.now.size _ (is_among met c.loop.link) few marks tested in
    sym (bad_found c.args.region.now.size w.next (c.args.count - c.loop.counter) c.loop.link met (omega (arith, c.loop-test.true)) bad) ∙ c.loop.invariant.bad m told

pub returns-then-is_bad-clause-only_loads : goal.returns-then-is_bad-clause-only_loads
returns-then-is_bad-clause-only_loads g c = c.loop.invariant.only_loads

pub returns-then-is_bad-clause-cause : goal.returns-then-is_bad-clause-cause
returns-then-is_bad-clause-cause g c = record { later = omega (arith, c.loop.invariant.faults); failed = tt; quiet = c.loop.invariant.faults }

pub loop-preserved : goal.loop-preserved
loop-preserved g c =
    let tested : (not (nat_lt c.loop.link c.args.region.now.size) || get_or c.loop.met c.loop.link false) ≡ false = sym c.is_bad.ensures ∙ c.if-is_bad.false in
    let low : c.loop.link < c.args.region.now.size = grind (arith, nat_tests) in
    let within : c.loop.link < length c.loop.met = omega (arith, low, c.requires.few, c.loop.invariant.long) in
    let unmarked : get_or c.loop.met c.loop.link false ≡ false = grind (arith, nat_tests) in
    let place : c.from.result ≡ c.loop.link = c.from.ensures in
    let marked = ap (λ (i : ℕ). set c.loop.met i true) place in
    record {
      long = length-set c.loop.met c.from.result true ∙ c.loop.invariant.long;
      only_loads = loads_twice _ _ _ _ _ _ _ _ c.loop.invariant.only_loads c.next_of.ensures.only_loads;
      faults = c.in_ok-link-2.ensures.cause.quiet ∙ c.loop.invariant.faults;
      link = λ m told.
          let w = words_of c.args.region.now m in
          let to : c.in_ok-link-2.link ≡ w.next c.loop.link = c.in_ok-link-2.ensures.loaded m (c.loop.invariant.only_loads.same_told ∙ told) in
          link_goes_on w.next c.loop.counter _ c.loop.link c.in_ok-link-2.link w.last_batch_head refl (c.loop.invariant.link m told) to;
      met = λ m told.
          let w = words_of c.args.region.now m in
          subst (λ (marks : List Bool). AreMarked marks (links w.next (c.loop.counter + 1) w.last_batch_head)) (sym marked)
          (marks_go_on [] w.next c.loop.counter _ c.loop.link w.last_batch_head c.loop.met refl (c.loop.invariant.link m told) within (c.loop.invariant.met m told));
      bad = λ m told.
          let w = words_of c.args.region.now m in
          let to : c.in_ok-link-2.link ≡ w.next c.loop.link = c.in_ok-link-2.ensures.loaded m (c.loop.invariant.only_loads.same_told ∙ told) in
          let new : is_among (links w.next c.loop.counter w.last_batch_head) c.loop.link ≡ false = sym (c.loop.invariant.met m told c.loop.link within) ∙ unmarked in
          bad_goes_on c.args.region.now.size [] w.next c.loop.counter _ (c.args.count - c.loop.counter) _ c.loop.link c.in_ok-link-2.link w.last_batch_head _ refl (omega (arith, c.loop-test.true)) (c.loop.invariant.link m told) to low new (c.loop.invariant.bad m told);
    }
