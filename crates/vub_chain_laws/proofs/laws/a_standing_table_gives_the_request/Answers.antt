use Rattle.vub_chain_laws.proofs.TableLemmas.{standing_table_gives}
use Rattle.vub_chain_laws.proofs.laws.a_standing_table_gives_the_request.Goals as goal

pub returns : goal.returns
returns c = standing_table_gives
