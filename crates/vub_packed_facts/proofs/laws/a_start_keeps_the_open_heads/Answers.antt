use Rattle.vub_packed_facts.proofs.StartLemmas.{start_begins, commits_keeps, notes_keeps, rolls_back_keeps, rolled_back_keeps, agrees_keeps, clears_keeps, clears_end, clears_done}
use Rattle.vub_packed_facts.proofs.laws.a_start_keeps_the_open_heads.Goals as goal

pub returns-clause-begins : goal.returns-clause-begins
returns-clause-begins c n driver w s free heads stand f = start_begins n driver w s free heads stand f

pub returns-clause-commits : goal.returns-clause-commits
returns-clause-commits c n driver w s free heads slots f = commits_keeps n driver w s free heads slots f

pub returns-clause-notes : goal.returns-clause-notes
returns-clause-notes c n driver w s free heads slots f = notes_keeps n driver w s free heads slots f

pub returns-clause-rolls_back : goal.returns-clause-rolls_back
returns-clause-rolls_back c n driver w s free heads slots done flags inside f = rolls_back_keeps n driver w s free heads slots done flags inside f

pub returns-clause-rolled_back : goal.returns-clause-rolled_back
returns-clause-rolled_back c n driver w s free heads slots f = rolled_back_keeps n driver w s free heads slots f

pub returns-clause-agrees : goal.returns-clause-agrees
returns-clause-agrees c n driver w s free heads f = agrees_keeps n driver w s free heads f

pub returns-clause-clears : goal.returns-clause-clears
returns-clause-clears c n driver w s free heads entry done more f = clears_keeps n driver w s free heads entry done more f

pub returns-clause-last_clear : goal.returns-clause-last_clear
returns-clause-last_clear c n driver w s free heads entry done f = clears_end n driver w s free heads entry done f

pub returns-clause-recovered : goal.returns-clause-recovered
returns-clause-recovered c n driver w s free heads entry f = clears_done n driver w s free heads entry f

pub returns-clause-cut_off : goal.returns-clause-cut_off
returns-clause-cut_off c n driver w s free heads stage f = f.left
