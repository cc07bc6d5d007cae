use Rattle.vub_packed_facts.proofs.NewLemmas.{new_begins, features_keeps, frees_keeps, links_keeps, placed_keeps, made_keeps}
use Rattle.vub_packed_facts.proofs.laws.a_start_makes_a_region.Goals as goal

pub returns-clause-begins : goal.returns-clause-begins
returns-clause-begins c n driver w s base f = new_begins n driver w s base f

pub returns-clause-features : goal.returns-clause-features
returns-clause-features c n driver w s base f = features_keeps n driver w s base f

pub returns-clause-frees : goal.returns-clause-frees
returns-clause-frees c n driver w s base entry low f = frees_keeps n driver w s base entry low f

pub returns-clause-links : goal.returns-clause-links
returns-clause-links c n driver w s base entry f = links_keeps n driver w s base entry f

pub returns-clause-placed : goal.returns-clause-placed
returns-clause-placed c n driver w s base f = placed_keeps n driver w s base f

pub returns-clause-made : goal.returns-clause-made
returns-clause-made c n driver w s base f = made_keeps n driver w s base f

pub returns-clause-cut_off : goal.returns-clause-cut_off
returns-clause-cut_off c n driver w s base stage f = f.unmade
