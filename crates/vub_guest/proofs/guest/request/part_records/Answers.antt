use Rattle.std.proofs.Common.{◌≡◌, ◌≤◌, ◌*◌, ◌++◌, length, take, arith, ap, ◌∙◌}
use Rattle.std.proofs.lemmas.List.{length-take}
use Rattle.std.specs.List.{flat_map}
use Rattle.vub_driver.specs.Requests.{part_bytes}
use Rattle.vub_guest.proofs.RequestLemmas.{length-parts, flat_map-more}
use Rattle.vub_guest.proofs.guest.request.part_records.Goals as goal

pub append-requires : goal.append-requires
append-requires c =
    let parts = c.args.parts.now in
    let i = c.loop-part.part-index in
    let held : length c.loop-part.records.items ≡ 16 * length (take i parts) = ap length c.loop-part.invariant ∙ length-parts (take i parts) in
    let few : length (take i parts) ≤ i = omega (arith, length-take i parts) in
    let one : length c.part_record.result ≡ 16 = ap length c.part_record.ensures in
    omega (arith, held, few, one, c.loop-part-test.true, c.requires)

pub loop-part-preserved : goal.loop-part-preserved
loop-part-preserved c =
    let parts = c.args.parts.now in
    let i = c.loop-part.part-index in
    c.append.ensures ∙ ap (λ xs. xs ++ c.part_record.result) c.loop-part.invariant ∙ ap (λ xs. flat_map part_bytes (take i parts) ++ xs) c.part_record.ensures ∙ flat_map-more part_bytes parts i _ c.loop-part-test.true
