use Rattle.std.proofs.Common.{◌<◌, ◌∙◌, sym, length, arith}
use Rattle.std.proofs.lemmas.Grind.{common_steps}
use Rattle.vub_edge.proofs.SpaceLemmas.{found}
use Rattle.vub_edge.proofs.spaces.last_of.Goals.{then-eq, else-eq}
use Rattle.vub_edge.proofs.spaces.last_of.Goals as goal

pub loop-number-preserved : goal.loop-number-preserved
loop-number-preserved g c =
    let d = c.index-spaces-number.result in
    let in_range : c.loop-number.number < length c.args.spaces.now = grind (arith, common_steps) in
    elim c.if-eq.branch [
      | then-eq w ↦
          let named = found c.args.spaces.now c.loop-number.number d c.as_str.result.now c.args.name.now in_range c.index-spaces-number.is c.as_str.ensures.value (sym c.eq.ensures ∙ w.if-eq.true) in
          grind (arith, common_steps)
      | else-eq w ↦ grind (arith, common_steps)
    ]
