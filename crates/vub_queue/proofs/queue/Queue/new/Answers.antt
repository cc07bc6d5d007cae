use Rattle.std.proofs.Common.{◌≡◌, rules, refl, sym, ◌∙◌, ap, subst}
use Rattle.std.specs.Prelude.{Some}
use Rattle.vub_infl_split.specs.declared.region.SplitRegion.{SplitRegion}
use Rattle.vub_rec_split.specs.Starts.{StartLies}
use Rattle.vub_setup.specs.declared.setup.QueueSetup.{QueueSetup}
use Rattle.vub_setup.specs.declared.setup.Rings.TheVariants.{Split}
use Rattle.vub_setup.specs.Setups.{SplitSetup, split_in, split_of}
use Rattle.vub_split.specs.declared.split.SplitRing.{SplitRing}
use Rattle.vub_queue.specs.QueueState.{new_recovery}
use Rattle.vub_queue.proofs.LyingLemmas.{lies_new}
use Rattle.vub_queue.proofs.ResumeLemmas.{none_in_new}
use Rattle.vub_queue.proofs.queue.Queue.new.Goals as goal

pub invariant_of-result-clause-unstarted : goal.invariant_of-result-clause-unstarted
invariant_of-result-clause-unstarted c = none_in_new c.in_ok-map_err-4.field-0.items c.in-Split.ring.size (search rules)

abbrev split_with : QueueSetup → SplitRing → SplitRegion → SplitSetup
split_with setup ring region = record { index = setup.index; ring = ring; region = region; base = setup.base; bell = setup.bell }

with_rings : (setup : QueueSetup) (ring : SplitRing) (region : SplitRegion) (split : SplitSetup) → setup.rings ≡ Split ring region → split_of setup ≡ Some split → split ≡ split_with setup ring region
with_rings setup ring region split rings is =
    let both : Some split ≡ Some (split_with setup ring region) = sym is ∙ ap (split_in setup) rings in
    cc

pub returns-clause-lies : goal.returns-clause-lies
returns-clause-lies c sizes capacity split is h =
    let whole : SplitSetup = split_with c.args.setup.now c.in-Split.ring c.in-Split.region in
    let there : split ≡ whole = with_rings c.args.setup.now c.in-Split.ring c.in-Split.region split c.in-Split.is is in
    lies_new sizes capacity whole _ refl (search rules) (search rules) (subst (λ (p : SplitSetup). StartLies sizes (new_recovery p)) there h)
