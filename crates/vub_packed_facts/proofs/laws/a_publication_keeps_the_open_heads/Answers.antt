use Rattle.vub_packed_facts.proofs.PublishLemmas.{batch_begins, pp1_keeps, pp2_keeps, pp3_keeps, pp7_keeps, pp8_keeps, pp9_keeps}
use Rattle.vub_packed_facts.proofs.ShowLemmas.{pp4_keeps, pp5_keeps, pp6_keeps, publish_keeps}
use Rattle.vub_packed_facts.proofs.laws.a_publication_keeps_the_open_heads.Goals as goal

pub returns-clause-begins : goal.returns-clause-begins
returns-clause-begins c n driver counter w s free heads batch lens b f = batch_begins n driver counter w s free heads batch lens b f

pub returns-clause-pp1 : goal.returns-clause-pp1
returns-clause-pp1 c n driver counter w s free heads batch lens done more f = pp1_keeps n driver counter w s free heads batch lens done more f

pub returns-clause-pp2 : goal.returns-clause-pp2
returns-clause-pp2 c n driver counter w s free heads batch lens done f = pp2_keeps n driver counter w s free heads batch lens done f

pub returns-clause-pp3 : goal.returns-clause-pp3
returns-clause-pp3 c n driver counter w s free heads batch lens f = pp3_keeps n driver counter w s free heads batch lens f

pub returns-clause-pp4 : goal.returns-clause-pp4
returns-clause-pp4 c n driver counter w s free heads batch lens shown f = pp4_keeps n driver counter w s free heads batch lens shown f

pub returns-clause-pp5 : goal.returns-clause-pp5
returns-clause-pp5 c n driver counter w s free heads batch lens shown f = pp5_keeps n driver counter w s free heads batch lens shown f

pub returns-clause-pp6 : goal.returns-clause-pp6
returns-clause-pp6 c n driver counter w s free heads batch lens shown later f = pp6_keeps n driver counter w s free heads batch lens shown later f

pub returns-clause-publish : goal.returns-clause-publish
returns-clause-publish c n driver counter w s free heads batch lens shown final f = publish_keeps n driver counter w s free heads batch lens shown final f

pub returns-clause-pp7 : goal.returns-clause-pp7
returns-clause-pp7 c n driver counter w s free heads batch lens done more f = pp7_keeps n driver counter w s free heads batch lens done more f

pub returns-clause-pp8 : goal.returns-clause-pp8
returns-clause-pp8 c n driver counter w s free heads batch lens f = pp8_keeps n driver counter w s free heads batch lens f

pub returns-clause-pp9 : goal.returns-clause-pp9
returns-clause-pp9 c n driver counter w s free heads batch lens f = pp9_keeps n driver counter w s free heads batch lens f

pub returns-clause-cut_off : goal.returns-clause-cut_off
returns-clause-cut_off c n driver counter w s free heads batch lens step f = f.left
