use Rattle.std.proofs.Common.{◌≡◌, ◌<◌, ◌≤◌, true, false, arith}
use Rattle.std.proofs.lemmas.Bool.Decides.{nat_tests}
use Rattle.vub_chain.specs.Descs.{goes_on, is_table}
use Rattle.vub_chain.proofs.TableLemmas.{table_next_answers, table_plain_answers}
use Rattle.vub_chain.proofs.walk.+in_table.Goals as goal

pub returns-in-Err-plain-clause-walks : goal.returns-in-Err-plain-clause-walks
returns-in-Err-plain-clause-walks g t c indirect m told =
    let some : 0 < c.args.left = grind (arith, nat_tests) in
    let none : is_table c.in-Ok.desc ≡ false = grind (arith, nat_tests) in
    table_plain_answers (record { table = c.args.table.now; size = c.args.size; indirect = indirect }) m _ c.args.left c.args.index _ _ _ c.in-Ok.desc (c.in-Ok.ensures.loaded m told) some none c.in-Err-plain.ensures.adds

pub returns-then-next-source-clause-walks : goal.returns-then-next-source-clause-walks
returns-then-next-source-clause-walks g t c indirect m told =
    let some : 0 < c.args.left = grind (arith, nat_tests) in
    let none : is_table c.in-Ok.desc ≡ false = grind (arith, nat_tests) in
    let on : goes_on c.in-Ok.desc ≡ true = grind (arith, nat_tests) in
    let far : c.args.source.count ≤ c.in-Ok.desc.next = grind (arith, nat_tests) in
    table_next_answers (record { table = c.args.table.now; size = c.args.size; indirect = indirect }) m _ c.args.left c.args.index _ c.in-Ok-plain.turned c.plain.new.into c.in-Ok.desc (c.in-Ok.ensures.loaded m told) some none c.in-Ok-plain.ensures.adds on far
