use Rattle.vub_memtable.proofs.LawLemmas.{distinct, ranges_apart}
use Rattle.vub_memtable.proofs.laws.distinct_addresses_lie_apart.Goals as goal

pub returns-clause-bytes : goal.returns-clause-bytes
returns-clause-bytes c = distinct

pub returns-clause-ranges : goal.returns-clause-ranges
returns-clause-ranges c = ranges_apart
