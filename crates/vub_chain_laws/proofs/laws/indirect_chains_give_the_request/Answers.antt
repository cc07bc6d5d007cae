use Rattle.vub_driver.specs.Requests.{pieces}
use Rattle.vub_chain_laws.proofs.PieceLemmas.{in_order, list_indirect, split_indirect}
use Rattle.vub_chain_laws.proofs.laws.indirect_chains_give_the_request.Goals as goal

pub returns-clause-split : goal.returns-clause-split
returns-clause-split c x m space place head buffer s ask indirect names fit few mapped = split_indirect x m space place head s (pieces buffer ask) indirect names fit few mapped (in_order buffer ask)

pub returns-clause-list : goal.returns-clause-list
returns-clause-list c x m buffer d s ask indirect names fit few mapped = list_indirect x m d s (pieces buffer ask) indirect names fit few mapped (in_order buffer ask)
