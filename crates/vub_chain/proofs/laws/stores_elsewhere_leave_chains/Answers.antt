use Rattle.vub_chain.proofs.LeavesLemmas.{list_off, split_off}
use Rattle.vub_chain.proofs.laws.stores_elsewhere_leave_chains.Goals as goal

pub returns-clause-split : goal.returns-clause-split
returns-clause-split c = split_off

pub returns-clause-list : goal.returns-clause-list
returns-clause-list c = list_off
