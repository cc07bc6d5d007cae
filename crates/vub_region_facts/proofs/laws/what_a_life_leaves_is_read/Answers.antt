use Rattle.vub_infl_split.specs.Region.{words_of}
use Rattle.vub_infl_split.proofs.ReadingLemmas.{words_fit}
use Rattle.vub_region_facts.proofs.SoundLemmas.{left_reads, left_distinct, left_open}
use Rattle.vub_region_facts.proofs.StartLemmas.{left_undamaged, left_at_base, unfaulted_left}
use Rattle.vub_region_facts.proofs.laws.what_a_life_leaves_is_read.Goals as goal

pub returns-clause-reads : goal.returns-clause-reads
returns-clause-reads c r used heads base m p = left_reads r.size used heads base (words_of r m) p

pub returns-clause-distinct : goal.returns-clause-distinct
returns-clause-distinct c r used heads base m p = left_distinct r.size used heads base (words_of r m) p

pub returns-clause-in_flight : goal.returns-clause-in_flight
returns-clause-in_flight c r used heads base h m p held = left_open r.size used heads base (words_of r m) h p held

pub returns-clause-undamaged : goal.returns-clause-undamaged
returns-clause-undamaged c r used heads base m p made = left_undamaged r.size used heads base (words_of r m) p made

pub returns-clause-at_base : goal.returns-clause-at_base
returns-clause-at_base c r used heads base m p new = left_at_base r.size used heads base (words_of r m) p new

pub returns-clause-checked : goal.returns-clause-checked
returns-clause-checked c r used base m fits at_base undamaged = unfaulted_left r.size used base (words_of r m) (words_fit r m fits) at_base undamaged
