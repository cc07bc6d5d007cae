use Rattle.vub_driver.specs.Requests.{pieces}
use Rattle.vub_chain_laws.proofs.PieceLemmas.{in_order, list_direct, split_direct}
use Rattle.vub_chain_laws.proofs.laws.direct_chains_give_the_request.Goals as goal

pub returns-clause-split : goal.returns-clause-split
returns-clause-split c x m space place head buffer ds ask fit few mapped = split_direct x m space place head ds (pieces buffer ask) fit few mapped (in_order buffer ask)

pub returns-clause-list : goal.returns-clause-list
returns-clause-list c x m buffer list ask fit few mapped = list_direct x m list (pieces buffer ask) fit few mapped (in_order buffer ask)
