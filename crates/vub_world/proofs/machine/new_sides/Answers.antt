use Rattle.std.proofs.Common.{◌≡◌, length, rules}
use Rattle.vub_world.proofs.MachineOpening.{no_sides, one_side_more}
use Rattle.vub_world.proofs.machine.new_sides.Goals as goal

pub loop-queue-init : goal.loop-queue-init
loop-queue-init c =
    let none : length c.in_ok-sides.sides.items ≡ 0 = search rules in
    no_sides c.args.header.now c.in_ok-sides.sides.items none

pub loop-queue-preserved : goal.loop-queue-preserved
loop-queue-preserved c = one_side_more c.args.header.now c.loop-queue.queue c.loop-queue.sides.items c.in_ok-side.side c.add_side.new.sides.items c.loop-queue.invariant c.in_ok-side.ensures c.in_ok-add_side.ensures
