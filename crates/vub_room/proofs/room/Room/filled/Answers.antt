use Rattle.std.proofs.Common.{◌≡◌, ◌≤◌, ◌*◌, length, take, arith, ap, ◌∙◌}
use Rattle.std.proofs.lemmas.List.{length-take}
use Rattle.vub_driver.proofs.FillLemmas.{length-fills}
use Rattle.vub_room.proofs.room.Room.filled.Goals as goal

pub append-requires : goal.append-requires
append-requires c =
    let fills = c.args.fills.now in
    let i = c.loop-fill.fill-index in
    let held : length c.loop-fill.list.items ≡ 512 * length (take i fills) = ap length c.loop-fill.invariant.0 ∙ length-fills (take i fills) in
    let few : length (take i fills) ≤ i = omega (arith, length-take i fills) in
    omega (arith, held, few, c.loop-fill-test.true, c.requires.few, c.loop-fill.invariant.1)
