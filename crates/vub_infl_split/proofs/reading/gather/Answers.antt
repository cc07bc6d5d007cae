use Rattle.std.proofs.Common.{◌≡◌, ◌∙◌, refl, subst, ℕ, arith}
use Rattle.std.proofs.lemmas.Grind.{common_steps}
use Rattle.vub_shared.proofs.FrameLemmas.{loads_twice}
use Rattle.vub_inflight.specs.Entries.{by_index, in_flight_but}
use Rattle.vub_infl_split.specs.Readings.{one_each}
use Rattle.vub_infl_split.specs.Region.{words_of}
use Rattle.vub_inflight.proofs.EntryLemmas.{by_index_goes_on}
use Rattle.vub_infl_split.proofs.reading.gather.Goals as goal

pub loop-index-preserved : goal.loop-index-preserved
loop-index-preserved g c = record {
  entries = c.add_if_open.ensures.entries c.loop-index.invariant.entries;
  room = grind (arith, common_steps);
  only_loads = loads_twice _ _ _ _ _ _ _ _ c.loop-index.invariant.only_loads c.add_if_open.ensures.only_loads;
  faults = c.in_ok-add_if_open.ensures.cause.quiet ∙ c.loop-index.invariant.faults;
  so_far = λ m told batch marked. by_index_goes_on (words_of c.args.region.now m).counter one_each (words_of c.args.region.now m).inflight batch c.loop-index.index _ c.args.counted.now c.loop-index.into.items _ refl marked (omega (arith, c.told-counted, c.loop-index-test.true, c.requires.few)) (c.loop-index.invariant.so_far m told batch marked) (c.in_ok-add_if_open.ensures.added m (c.loop-index.invariant.only_loads.same_told ∙ told));
}

pub returns-clause-gathered : goal.returns-clause-gathered
returns-clause-gathered g c m told batch marked =
    let at_end : c.loop-index.index ≡ c.args.region.now.size = grind (arith, common_steps) in
    let w = words_of c.args.region.now m in
    subst (λ (k : ℕ). c.loop-index.into.items ≡ by_index w.counter one_each (in_flight_but batch w.inflight) k) at_end (c.loop-index.invariant.so_far m told batch marked)
