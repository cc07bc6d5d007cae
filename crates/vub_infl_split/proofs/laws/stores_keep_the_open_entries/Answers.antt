use Rattle.vub_infl_split.proofs.ReadingLemmas.{reading_count, reading_accept, reading_link, reading_last, reading_show, reading_clear, reading_note}
use Rattle.vub_infl_split.proofs.laws.stores_keep_the_open_entries.Goals as goal

pub returns-clause-count : goal.returns-clause-count
returns-clause-count c n used w i counter out = reading_count n used w i counter out

pub returns-clause-accept : goal.returns-clause-accept
returns-clause-accept c n used w i within same fits free above = reading_accept n used w i within same fits free above

pub returns-clause-link : goal.returns-clause-link
returns-clause-link c n used w i next same fits = reading_link n used w i next same fits

pub returns-clause-last_batch_head : goal.returns-clause-last_batch_head
returns-clause-last_batch_head c n used w head same fits = reading_last n used w head same fits

pub returns-clause-show : goal.returns-clause-show
returns-clause-show c n used w batch same fits small = reading_show n used w batch same fits small

pub returns-clause-clear : goal.returns-clause-clear
returns-clause-clear c n used w i held = reading_clear n used w i held

pub returns-clause-note : goal.returns-clause-note
returns-clause-note c n used w fits clear = reading_note n used w fits clear
