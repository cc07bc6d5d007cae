use Rattle.std.proofs.Common.{◌≡◌, ◌≤◌, ◌*◌, ◌++◌, length, take, get_or, arith, ap, ◌∙◌}
use Rattle.std.proofs.lemmas.List.{length-take}
use Rattle.std.specs.Prelude.{replicate}
use Rattle.vub_guest.proofs.RequestLemmas.{flat_map-more}
use Rattle.vub_driver.proofs.FillLemmas.{length-fills}
use Rattle.vub_guest.proofs.guest.request.filled_sectors.Goals as goal

pub append-requires : goal.append-requires
append-requires c =
    let fills = c.args.fills.now in
    let i = c.loop-fill.fill-index in
    let held : length c.loop-fill.sectors.items ≡ 512 * length (take i fills) = ap length c.loop-fill.invariant ∙ length-fills (take i fills) in
    let few : length (take i fills) ≤ i = omega (arith, length-take i fills) in
    omega (arith, held, few, c.loop-fill-test.true, c.requires)

pub loop-fill-preserved : goal.loop-fill-preserved
loop-fill-preserved c =
    let fills = c.args.fills.now in
    let i = c.loop-fill.fill-index in
    c.append.ensures ∙ ap (λ xs. xs ++ replicate 512 (get_or fills i 0)) c.loop-fill.invariant ∙ flat_map-more (λ b. replicate 512 b) fills i 0 c.loop-fill-test.true
