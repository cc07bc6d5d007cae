use Rattle.std.proofs.Common.{ap, ◌∙◌, arith}
use Rattle.std.proofs.lemmas.Grind.{common_steps}
use Rattle.vub_inflight.specs.Neighbours.{earlier}
use Rattle.vub_inflight.proofs.Twins.{twins_go_on, twins_done}
use Rattle.vub_inflight.proofs.counters.twins.Goals as goal

pub loop-i-preserved : goal.loop-i-preserved
loop-i-preserved c = record {
  some = grind (arith, common_steps);
  rest = twins_go_on c.args.entries.now c.loop-i.i _ _ c.loop-i.least c.earlier-least.result c.loop-i.invariant.some c.loop-i-test.true (c.earlier-least.ensures ∙ ap (earlier c.loop-i.least) c.twin.ensures) c.loop-i.invariant.rest;
}

pub returns : goal.returns
returns c = twins_done c.args.entries.now c.loop-i.i c.loop-i.least c.loop-i.invariant.some (grind (arith, common_steps)) c.loop-i.invariant.rest
