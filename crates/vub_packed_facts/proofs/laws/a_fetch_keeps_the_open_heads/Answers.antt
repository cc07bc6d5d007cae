use Rattle.vub_packed_facts.proofs.LifeLemmas.{life_begins, fetch_begins}
use Rattle.vub_packed_facts.proofs.FetchLemmas.{pf1_keeps, pf2_keeps, pf3_keeps, pf4_keeps, pf5_next, pf5_keeps, pf6_keeps, pf7_keeps, pf8_keeps, pf9_keeps}
use Rattle.vub_packed_facts.proofs.laws.a_fetch_keeps_the_open_heads.Goals as goal

pub returns-clause-life : goal.returns-clause-life
returns-clause-life c n driver w s free heads f = life_begins n driver w s free heads f

pub returns-clause-begins : goal.returns-clause-begins
returns-clause-begins c n driver counter buffer w s free heads waits f = fetch_begins n driver counter buffer w s free heads waits f

pub returns-clause-pf1 : goal.returns-clause-pf1
returns-clause-pf1 c n driver buffer counter w s free heads head f = pf1_keeps n driver buffer counter w s free heads head f

pub returns-clause-pf2 : goal.returns-clause-pf2
returns-clause-pf2 c n driver buffer counter w s free heads head f = pf2_keeps n driver buffer counter w s free heads head f

pub returns-clause-pf3 : goal.returns-clause-pf3
returns-clause-pf3 c n driver buffer counter w s free heads head f = pf3_keeps n driver buffer counter w s free heads head f

pub returns-clause-pf4 : goal.returns-clause-pf4
returns-clause-pf4 c n driver buffer counter w s free heads head taken final f = pf4_keeps n driver buffer counter w s free heads head taken final f

pub returns-clause-no_pf4 : goal.returns-clause-no_pf4
returns-clause-no_pf4 c n driver buffer counter w s free heads head taken more f = pf5_next n driver buffer counter w s free heads head taken more f

pub returns-clause-pf5 : goal.returns-clause-pf5
returns-clause-pf5 c n driver buffer counter w s free heads head taken f = pf5_keeps n driver buffer counter w s free heads head taken f

pub returns-clause-pf6 : goal.returns-clause-pf6
returns-clause-pf6 c n driver buffer counter w s free heads head taken addr f = pf6_keeps n driver buffer counter w s free heads head taken addr f

pub returns-clause-pf7 : goal.returns-clause-pf7
returns-clause-pf7 c n driver buffer counter w s free heads head taken flags len f = pf7_keeps n driver buffer counter w s free heads head taken flags len f

pub returns-clause-pf8 : goal.returns-clause-pf8
returns-clause-pf8 c n driver buffer counter w s free heads head taken f = pf8_keeps n driver buffer counter w s free heads head taken f

pub returns-clause-accept : goal.returns-clause-accept
returns-clause-accept c n driver buffer counter w s free heads head limit f = pf9_keeps n driver buffer counter w s free heads head limit f

pub returns-clause-cut_off : goal.returns-clause-cut_off
returns-clause-cut_off c n driver buffer counter w s free heads step f = f.left

pub returns-clause-cut_at_rest : goal.returns-clause-cut_at_rest
returns-clause-cut_at_rest c n driver counter w s free heads f = f.left
