use Rattle.std.proofs.Common.{rules}
use Rattle.vub_chain.specs.Steps.{Answers, list_walk}
use Rattle.vub_chain.proofs.ListLemmas.{single_is}
use Rattle.vub_chain.proofs.WalkLemmas.{list_walks}
use Rattle.vub_chain.proofs.walk.walk_list.Goals as goal

pub returns-clause-walks : goal.returns-clause-walks
returns-clause-walks g c m told =
    let parts : Answers c.of_list.result c.of_list.new.into (list_walk (record { table = c.args.table.now; size = c.args.size; indirect = c.args.indirect }) m c.args.list.now) = search (rules, single_is, c.of_list.ensures.walks) in
    list_walks (record { table = c.args.table.now; size = c.args.size; indirect = c.args.indirect }) m c.args.list.now c.of_list.result c.of_list.new.into parts
