use Rattle.std.proofs.Common.{◌≡◌, ◌<◌, ◌-◌, ◌+◌, ◌++◌, ◌∙◌, [], ap, sym, refl, subst, ℕ, Bool, List, length, set, true, arith}
use Rattle.std.proofs.lemmas.List.{length-set, append-nil}
use Rattle.std.proofs.lemmas.Bool.Decides.{nat_tests}
use Rattle.vub_device.specs.Past.{is_among}
use Rattle.vub_shared.proofs.FrameLemmas.{loads_twice}
use Rattle.vub_inflight.specs.Links.{links, links_within, AreMarked}
use Rattle.vub_inflight.proofs.LinkLemmas.{link_goes_on, marks_go_on, within_goes_on, within_ends}
use Rattle.vub_infl_split.specs.Region.{words_of}
use Rattle.vub_infl_split.proofs.unchecked.mark_batch.Goals as goal

pub loop-preserved : goal.loop-preserved
loop-preserved g c =
    let low : c.loop.link < c.args.region.now.size = grind (arith, nat_tests) in
    let within : c.loop.link < length c.loop.marks = omega (arith, low, c.requires.few, c.loop.invariant.long) in
    let place : c.from.result ≡ c.loop.link = c.from.ensures in
    let marked = ap (λ (i : ℕ). set c.loop.marks i true) place in
    record {
      long = length-set c.loop.marks c.from.result true ∙ c.loop.invariant.long;
      only_loads = loads_twice _ _ _ _ _ _ _ _ c.loop.invariant.only_loads c.next_of.ensures.only_loads;
      faults = c.in_ok-link-2.ensures.cause.quiet ∙ c.loop.invariant.faults;
      link = λ m told.
          let w = words_of c.args.region.now m in
          let to : c.in_ok-link-2.link ≡ w.next c.loop.link = c.in_ok-link-2.ensures.loaded m (c.loop.invariant.only_loads.same_told ∙ told) in
          link_goes_on w.next c.loop.counter _ c.loop.link c.in_ok-link-2.link w.last_batch_head refl (c.loop.invariant.link m told) to;
      met = λ m told.
          let w = words_of c.args.region.now m in
          subst (λ (marks : List Bool). AreMarked marks (links w.next (c.loop.counter + 1) w.last_batch_head)) (sym marked)
          (marks_go_on [] w.next c.loop.counter _ c.loop.link w.last_batch_head c.loop.marks refl (c.loop.invariant.link m told) within (c.loop.invariant.met m told));
      whole = λ m told.
          let w = words_of c.args.region.now m in
          let to : c.in_ok-link-2.link ≡ w.next c.loop.link = c.in_ok-link-2.ensures.loaded m (c.loop.invariant.only_loads.same_told ∙ told) in
          within_goes_on c.args.region.now.size w.next c.loop.counter _ (c.args.count - c.loop.counter) _ c.loop.link c.in_ok-link-2.link w.last_batch_head _ refl (omega (arith, c.loop-test.true)) (c.loop.invariant.link m told) to low (c.loop.invariant.whole m told);
    }

pub returns-then-link-region-clause-marked : goal.returns-then-link-region-clause-marked
returns-then-link-region-clause-marked g c m told i low =
    let w = words_of c.args.region.now m in
    let n : ℕ = c.args.region.now.size in
    let met : List ℕ = links w.next c.loop.counter w.last_batch_head in
    let none : links_within n w.next (c.args.count - c.loop.counter) c.loop.link ≡ [] = within_ends n w.next (c.args.count - c.loop.counter) c.loop.link c.if-link-region.true in
    let all : met ≡ links_within n w.next c.args.count w.last_batch_head = sym (append-nil met) ∙ ap (λ (xs : List ℕ). met ++ xs) (sym none) ∙ c.loop.invariant.whole m told in
    c.loop.invariant.met m told i low ∙ ap (λ (xs : List ℕ). is_among xs i) all
