use Rattle.std.proofs.Common.{◌≡◌, ◌<◌, ◌≤◌, true, false, ◌∙◌, arith}
use Rattle.std.proofs.lemmas.Bool.Decides.{nat_tests}
use Rattle.vub_chain.specs.Descs.{is_table, goes_on}
use Rattle.vub_chain.proofs.RingLemmas.{done_answers, fault_answers, more_answers, next_answers, plain_answers, table_answers}
use Rattle.vub_chain.proofs.walk.+in_ring.Goals as goal

pub returns-in-Err-table_of-clause-walks : goal.returns-in-Err-table_of-clause-walks
returns-in-Err-table_of-clause-walks g t c m told =
    let some : 0 < c.args.left = grind (arith, nat_tests) in
    let yes : is_table c.in-Ok.desc ≡ true = grind (arith, nat_tests) in
    fault_answers _ m _ c.args.left c.args.index _ _ _ c.in-Ok.desc (c.in-Ok.ensures.loaded m told) some yes c.in-Err-table_of.ensures.names

pub returns-then-is_table-clause-walks : goal.returns-then-is_table-clause-walks
returns-then-is_table-clause-walks g t c m told =
    let some : 0 < c.args.left = grind (arith, nat_tests) in
    let yes : is_table c.in-Ok.desc ≡ true = grind (arith, nat_tests) in
    table_answers _ m _ c.args.left c.args.index _ c.in-Ok-table_of.entries _ _ c.in-Ok.desc (c.in-Ok.ensures.loaded m told) some yes c.in-Ok-table_of.ensures.names (c.in_table.ensures.walks c.args.indirect m (c.linked_desc.ensures.only_loads.same_told ∙ told))

pub returns-in-Err-plain-clause-walks : goal.returns-in-Err-plain-clause-walks
returns-in-Err-plain-clause-walks g t c m told =
    let some : 0 < c.args.left = grind (arith, nat_tests) in
    let none : is_table c.in-Ok.desc ≡ false = grind (arith, nat_tests) in
    plain_answers _ m _ c.args.left c.args.index _ _ _ c.in-Ok.desc (c.in-Ok.ensures.loaded m told) some none c.in-Err-plain.ensures.adds

pub returns-then-next-source-clause-walks : goal.returns-then-next-source-clause-walks
returns-then-next-source-clause-walks g t c m told =
    let some : 0 < c.args.left = grind (arith, nat_tests) in
    let none : is_table c.in-Ok.desc ≡ false = grind (arith, nat_tests) in
    let on : goes_on c.in-Ok.desc ≡ true = grind (arith, nat_tests) in
    let far : c.args.source.count ≤ c.in-Ok.desc.next = grind (arith, nat_tests) in
    next_answers _ m _ c.args.left c.args.index _ c.in-Ok-plain.turned c.plain.new.into c.in-Ok.desc (c.in-Ok.ensures.loaded m told) some none c.in-Ok-plain.ensures.adds on far

pub returns-then-not-goes_on-clause-walks : goal.returns-then-not-goes_on-clause-walks
returns-then-not-goes_on-clause-walks g t c m told =
    let some : 0 < c.args.left = grind (arith, nat_tests) in
    let none : is_table c.in-Ok.desc ≡ false = grind (arith, nat_tests) in
    let stops : goes_on c.in-Ok.desc ≡ false = grind (arith, nat_tests) in
    done_answers (record { table = c.args.table.now; size = c.args.size; indirect = c.args.indirect }) m _ c.args.left c.args.index _ c.in-Ok-plain.turned c.plain.new.into c.in-Ok.desc (c.in-Ok.ensures.loaded m told) some none c.in-Ok-plain.ensures.adds stops

pub returns-clause-walks : goal.returns-clause-walks
returns-clause-walks g t c m told =
    let some : 0 < c.args.left = grind (arith, nat_tests) in
    let none : is_table c.in-Ok.desc ≡ false = grind (arith, nat_tests) in
    let on : goes_on c.in-Ok.desc ≡ true = grind (arith, nat_tests) in
    let low : c.from-next.result < c.args.source.count = grind (arith, nat_tests) in
    more_answers (record { table = c.args.table.now; size = c.args.size; indirect = c.args.indirect }) m (record { space = c.args.source.space.number; place = c.args.source.place; count = c.args.source.count }) c.args.left c.args.index (Rattle.vub_chain.specs.Steps.chain_in c.args.turned c.args.into.now) c.in-Ok-plain.turned c.in_ring.result c.plain.new.into c.in_ring.new.into c.in-Ok.desc c.from-next.result (c.in-Ok.ensures.loaded m told) some none c.in-Ok-plain.ensures.adds on c.from-next.ensures low (c.in_ring.ensures.walks m (c.linked_desc.ensures.only_loads.same_told ∙ told))
