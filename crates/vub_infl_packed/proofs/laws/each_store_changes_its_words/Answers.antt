use Rattle.vub_infl_packed.proofs.WordLemmas.{words_stored, words_elsewhere}
use Rattle.vub_infl_packed.proofs.laws.each_store_changes_its_words.Goals as goal

pub returns-clause-row : goal.returns-clause-row
returns-clause-row c r step m small within fits = words_stored r step m small within fits

pub returns-clause-elsewhere : goal.returns-clause-elsewhere
returns-clause-elsewhere c r m st off = words_elsewhere r m st off
