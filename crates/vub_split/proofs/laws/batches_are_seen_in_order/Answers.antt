use Rattle.vub_split.specs.Stores.{avail_idx_store, avail_entry_store}
use Rattle.vub_split.proofs.Words.{avail_idx_off_used, avail_entry_off_used}
use Rattle.vub_split.proofs.Seen.{seen_index, seen_id, seen_len, seen_off}
use Rattle.vub_split.proofs.laws.batches_are_seen_in_order.Goals as goal

pub returns-clause-index : goal.returns-clause-index
returns-clause-index c r m from batch room each = seen_index r m from batch room each

pub returns-clause-id : goal.returns-clause-id
returns-clause-id c r m from index id size later near = seen_id r m from index id size.some size.laps later near

pub returns-clause-len : goal.returns-clause-len
returns-clause-len c r m from index len size later near = seen_len r m from index len size.some size.laps later near

pub returns-clause-avail_idx : goal.returns-clause-avail_idx
returns-clause-avail_idx c r m from index fits = seen_off r m (avail_idx_store r index) from fits.some (avail_idx_off_used r index fits)

pub returns-clause-avail_entry : goal.returns-clause-avail_entry
returns-clause-avail_entry c r m from index head fits = seen_off r m (avail_entry_store r index head) from fits.some (avail_entry_off_used r index head fits)

pub returns-clause-elsewhere : goal.returns-clause-elsewhere
returns-clause-elsewhere c r m st from some off = seen_off r m st from some off
