use Rattle.std.proofs.Common.{◌<◌, ◌≤◌, length, arith}
use Rattle.std.proofs.lemmas.Bool.Decides.{nat_tests}
use Rattle.vub_chain.proofs.ListLemmas.{list_table_answers, list_plain_answers}
use Rattle.vub_chain.proofs.walk.+of_list.Goals as goal

pub returns-then-is_table-clause-walks : goal.returns-then-is_table-clause-walks
returns-then-is_table-clause-walks g t c m told =
    let some : 1 ≤ length c.args.list.now = grind (arith, nat_tests) in
    let below : c.args.position < c.args.size = grind (arith, nat_tests) in
    list_table_answers _ m c.args.alone c.args.position c.args.list.now _ _ c.in-Ok.entries _ _ some below (grind (arith, nat_tests)) c.in-Ok.ensures.names (c.of_table.ensures.walks c.args.indirect m told)

pub returns-in-Ok-plain-clause-walks : goal.returns-in-Ok-plain-clause-walks
returns-in-Ok-plain-clause-walks g t c m told =
    let some : 1 ≤ length c.args.list.now = grind (arith, nat_tests) in
    let below : c.args.position < c.args.size = grind (arith, nat_tests) in
    list_plain_answers _ m c.args.alone c.args.position c.args.list.now _ _ c.in-Ok-plain.turned _ c.plain.new.into _ some below (grind (arith, nat_tests)) c.in-Ok-plain.ensures.adds (c.of_list.ensures.walks m told)
