use Rattle.std.proofs.Common.{◌≡◌, ◌∙◌, ap, sym, [], drop, None}
use Rattle.std.proofs.Math.ListN.{drop_of_length-le}
use Rattle.std.proofs.lemmas.List.{drop_more}
use Rattle.vub_shared.proofs.FrameLemmas.{loads_twice}
use Rattle.vub_infl_packed.specs.Readings.{bad_chains}
use Rattle.vub_infl_packed.specs.Region.{RegionWords, words_of}
use Rattle.vub_infl_packed.proofs.WalkLemmas.{chains_go_on, chains_stop, none_found}
use Rattle.vub_infl_packed.proofs.walks.walk_chains.Goals as goal

pub returns-then-is_some-clause-bad : goal.returns-then-is_some-clause-bad
returns-then-is_some-clause-bad g c m told list marked =
    let w : RegionWords = words_of c.args.region.now m in
    let p = c.loop-head.invariant.bad m told list marked in
    let is = c.in_ok-bad.ensures.bad m (c.loop-head.invariant.only_loads.same_told ∙ told) p.0 p.1 in
    chains_stop c.args.region.now.size w p.0 _ _ (drop c.loop-head.head-index c.args.heads.now) c.in_ok-bad.bad (drop_more c.args.heads.now c.loop-head.head-index _ c.loop-head-test.true) is (sym c.is_some.ensures ∙ c.if-is_some.true) ∙ p.2

pub loop-head-preserved : goal.loop-head-preserved
loop-head-preserved g c =
    let none : c.in_ok-bad.bad ≡ None = none_found c.in_ok-bad.bad (sym c.is_some.ensures ∙ c.if-is_some.false) in
    record {
      only_loads = loads_twice _ _ _ _ _ _ _ _ c.loop-head.invariant.only_loads c.walk_chain.ensures.only_loads;
      faults = c.in_ok-bad.ensures.cause.quiet ∙ c.loop-head.invariant.faults;
      bad = λ m told list marked.
          let w : RegionWords = words_of c.args.region.now m in
          let p = c.loop-head.invariant.bad m told list marked in
          let told_2 = c.loop-head.invariant.only_loads.same_told ∙ told in
          let is = c.in_ok-bad.ensures.bad m told_2 p.0 p.1 in
          (_, c.in_ok-bad.ensures.met none m told_2 p.0 p.1, chains_go_on c.args.region.now.size w p.0 _ _ (drop c.loop-head.head-index c.args.heads.now) (drop_more c.args.heads.now c.loop-head.head-index _ c.loop-head-test.true) (sym is ∙ none) ∙ p.2);
    }

pub returns-clause-bad : goal.returns-clause-bad
returns-clause-bad g c m told list marked =
    let w : RegionWords = words_of c.args.region.now m in
    let p = c.loop-head.invariant.bad m told list marked in
    let none : drop c.loop-head.head-index c.args.heads.now ≡ [] = drop_of_length-le c.args.heads.now c.loop-head-test.false in
    sym (ap (bad_chains c.args.region.now.size w p.0) none) ∙ p.2
