use Rattle.vub_memtable.proofs.LawLemmas.{no_reason, none_of, one_reason, some_of}
use Rattle.vub_memtable.proofs.TableLemmas.{refused_is, table_is}
use Rattle.vub_memtable.proofs.laws.a_table_or_one_reason.Goals as goal

pub returns-clause-table : goal.returns-clause-table
returns-clause-table c xs = (table_is xs, none_of xs)

pub returns-clause-reason : goal.returns-clause-reason
returns-clause-reason c xs e = (refused_is xs e, some_of xs e)

pub returns-clause-either : goal.returns-clause-either
returns-clause-either c = no_reason

pub returns-clause-one : goal.returns-clause-one
returns-clause-one c = one_reason
