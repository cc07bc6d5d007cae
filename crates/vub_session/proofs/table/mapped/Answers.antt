use Rattle.std.proofs.Common.{◌≡◌, ◌≤◌, [], length, drop, arith}
use Rattle.std.proofs.lemmas.Bool.Decides.{nat_tests}
use Rattle.std.proofs.lemmas.Grind.{common_steps}
use Rattle.vub_session.proofs.MappedLemmas.{mapped_end}
use Rattle.vub_session.specs.Table as table
use Rattle.vub_session.proofs.table.mapped.Goals as goal

pub returns-in_default : goal.returns-in_default
returns-in_default c =
    let lookup = c.in_default.ensures.lookup in
    let short : length c.args.found.now ≤ c.loop-at.at = grind (arith, nat_tests) in
    let rest : table.mapped (drop c.loop-at.at c.args.regions.now) (drop c.loop-at.at c.args.found.now) ≡ [] = mapped_end (drop c.loop-at.at c.args.regions.now) c.args.found.now c.loop-at.at short in
    let whole = c.loop-at.invariant.1 in
    grind (arith, common_steps)
