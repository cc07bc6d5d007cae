use Rattle.std.proofs.Common.{◌<◌, length, arith}
use Rattle.std.proofs.lemmas.Grind.{common_steps}
use Rattle.vub_shared.proofs.MeaningLemmas.{meaning-more}
use Rattle.vub_shared.proofs.spaces.last_of.Goals.{then-eq, else-eq}
use Rattle.vub_shared.proofs.spaces.last_of.Goals as goal

pub loop-number-preserved : goal.loop-number-preserved
loop-number-preserved c =
    let d = c.index-spaces-number.result in
    let in_range : c.loop-number.number < length c.args.spaces.now = grind (arith, common_steps) in
    let more = meaning-more c.args.spaces.now c.loop-number.number d c.args.name.now in_range in
    elim c.if-eq.branch [ then-eq w ↦ grind (arith, common_steps) | else-eq w ↦ grind (arith, common_steps) ]
