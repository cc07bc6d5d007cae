use Rattle.std.proofs.Common.{sym, arith}
use Rattle.vub_memtable.proofs.RangeLemmas.{found_from, found_lies, found_range, found_within, nowhere}
use Rattle.vub_memtable.proofs.table.MemTable.guest_to_space.Goals as goal

pub overflow_sub-address : goal.overflow_sub-address
overflow_sub-address c = found_from (λ m. m.region.guest) c.args.self.now c.args.address c.args.len _ (sym c.in-Some.ensures.is)

pub place_of-requires : goal.place_of-requires
place_of-requires c =
    let within = found_within (λ m. m.region.guest) c.args.self.now c.args.address c.args.len c.in-Some.held.now c.in-Some.ensures.table (sym c.in-Some.ensures.is) in
    omega (arith, within)

pub returns-in-Some-clause-triples : goal.returns-in-Some-clause-triples
returns-in-Some-clause-triples c = rw c.place_of.ensures (found_range (λ m. m.region.guest) c.args.self.now c.args.address c.args.len _ (sym c.in-Some.ensures.is))

pub returns-in-Some-clause-lies : goal.returns-in-Some-clause-lies
returns-in-Some-clause-lies c sizes held = rw c.place_of.ensures (found_lies (λ m. m.region.guest) c.args.self.now c.args.address c.args.len c.in-Some.held.now sizes c.in-Some.ensures.table (sym c.in-Some.ensures.is) held)

pub returns-in-None-clause-nowhere : goal.returns-in-None-clause-nowhere
returns-in-None-clause-nowhere c space place = nowhere (λ m. m.region.guest) c.args.self.now c.args.address c.args.len space place c.requires (sym c.in-None.ensures.is)
