use Rattle.vub_chain_laws.proofs.MadeLemmas.{stores_link}
use Rattle.vub_chain_laws.proofs.laws.the_drivers_stores_link_its_pieces.Goals as goal

pub returns : goal.returns
returns c = stores_link
