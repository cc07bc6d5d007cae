use Rattle.std.proofs.Common.{rules, arith, ◌<◌, length}
use Rattle.std.proofs.lemmas.Grind.{common_steps}
use Rattle.vub_schedule.proofs.Texts.{LinesMore, shorter, stops_at}
use Rattle.vub_schedule.proofs.parsing.events_of.Goals as goal

pub returns-in-None-clause-err : goal.returns-in-None-clause-err
returns-in-None-clause-err c =
    let more : 0 < length c.loop-rest.rest.now = grind (arith, common_steps) in
    stops_at c.args.header.now c.args.bytes.now c.loop-rest.rest.now c.loop-rest.events.items _ c.requires c.loop-rest.invariant.good c.loop-rest.invariant.parts more c.in-None.ensures (search (rules, common_steps))

pub loop-rest-smaller : goal.loop-rest-smaller
loop-rest-smaller c = shorter c.args.header.now c.loop-rest.rest.now c.in-Some.after.now c.in-Some.event c.requires c.in-Some.ensures

pub loop-rest-preserved : goal.loop-rest-preserved
loop-rest-preserved c =
    let next = LinesMore c.args.header.now c.args.bytes.now c.loop-rest.rest.now c.in-Some.after.now c.loop-rest.events.items c.push.new.self.items c.in-Some.event c.requires c.loop-rest.invariant.good c.loop-rest.invariant.parts c.in-Some.ensures (search (rules, common_steps)) in
    record { good = next.0; parts = next.1 }
