use Rattle.vub_split.proofs.Words.{words_avail_idx, words_avail_entry, words_used_idx, words_used_id, words_used_len, words_elsewhere}
use Rattle.vub_split.proofs.laws.stores_change_one_word.Goals as goal

pub returns-clause-avail_idx : goal.returns-clause-avail_idx
returns-clause-avail_idx c r m index fits small = words_avail_idx r m index fits small

pub returns-clause-avail_entry : goal.returns-clause-avail_entry
returns-clause-avail_entry c r m index head fits small = words_avail_entry r m index head fits small

pub returns-clause-used_idx : goal.returns-clause-used_idx
returns-clause-used_idx c r m index fits small = words_used_idx r m index fits small

pub returns-clause-used_id : goal.returns-clause-used_id
returns-clause-used_id c r m index id fits small = words_used_id r m index id fits small

pub returns-clause-used_len : goal.returns-clause-used_len
returns-clause-used_len c r m index len fits small = words_used_len r m index len fits small

pub returns-clause-elsewhere : goal.returns-clause-elsewhere
returns-clause-elsewhere c r m st fits avail used = words_elsewhere r m st fits.some avail used
