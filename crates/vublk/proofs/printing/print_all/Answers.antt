use Rattle.std.proofs.Common.{rules, ◌∙◌, ◌≤◌, List, length, take, refl, arith, length-take}
use Rattle.std.proofs.lemmas.Result.{err_from_is_err_and}
use Rattle.vublk.proofs.OneMore.{Part-more, Whole-more, none_played}
use Rattle.vub_schedule.specs.declared.types.Event.{Event}
use Rattle.vub_world.specs.World.{offers_in}
use Rattle.vub_world.proofs.MachineEvents.{offers_few}
use Rattle.vublk.proofs.printing.print_all.Goals as goal

pub returns-in_err-print_next-clause-part : goal.returns-in_err-print_next-clause-part
returns-in_err-print_next-clause-part g c = λ failed.
    let r = err_from_is_err_and c.from_residual.result c.from_residual.ensures.1 in
    let f = rw r.1 at failed in
    let at = c.in_err-print_next.ensures.part (cc (f, r.2)) in
    let inv = c.loop-event.invariant.printed in
    Part-more c.args.command _ c.loop-event.world c.print_next.new.world c.args.events.now c.loop-event.event-index c.event-item.result inv.0 at.0 _ _ _ _ _ c.loop-event-test.true (omega arith) c.event-item.is c.loop-event.invariant.header inv.1 at.1 inv.2 at.2

pub loop-event-init : goal.loop-event-init
loop-event-init g c = record {
  header = refl;
  printed = none_played c.args.command _ c.args.world.now _ c.args.pieces.now c.requires.new;
  later = search rules;
}

pub print_next-requires-clause-more : goal.print_next-requires-clause-more
print_next-requires-clause-more g c =
    let inv = c.loop-event.invariant.printed in
    let played : List Event = take c.loop-event.event-index c.args.events.now in
    let few : offers_in c.loop-event.world ≤ length played = offers_few c.loop-event.world played inv.0 inv.1.stands in
    omega (arith, few, length-take c.loop-event.event-index c.args.events.now, c.loop-event-test.true)

pub loop-event-preserved : goal.loop-event-preserved
loop-event-preserved g c =
    let inv = c.loop-event.invariant in
    let at = c.in_ok-print_next.ensures.ok in
    record {
      header = c.print_next.ensures.header ∙ inv.header;
      printed = Whole-more c.args.command _ c.loop-event.world c.print_next.new.world c.args.events.now c.loop-event.event-index c.event-item.result inv.printed.0 at.0 _ _ _ _ _ _ c.loop-event-test.true (omega arith) c.event-item.is inv.header inv.printed.1 at.1 inv.printed.2 at.2;
      later = search rules;
    }
