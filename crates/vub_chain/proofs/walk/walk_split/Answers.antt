use Rattle.std.proofs.Common.{rules}
use Rattle.vub_chain.specs.Steps.{Answers, split_walk}
use Rattle.vub_chain.proofs.WalkLemmas.{split_walks}
use Rattle.vub_chain.proofs.walk.walk_split.Goals as goal

pub returns-clause-walks : goal.returns-clause-walks
returns-clause-walks g c m told =
    let parts : Answers c.in_ring.result c.in_ring.new.into (split_walk (record { table = c.args.table.now; size = c.args.size; indirect = c.args.indirect }) m c.args.place.0.number c.args.place.1 c.args.head) = search (rules, c.in_ring.ensures.walks) in
    split_walks (record { table = c.args.table.now; size = c.args.size; indirect = c.args.indirect }) m c.args.place.0.number c.args.place.1 c.args.head c.in_ring.result c.in_ring.new.into parts
