use Rattle.vub_split.specs.Stores.{used_idx_store, used_id_store, used_len_store}
use Rattle.vub_split.proofs.Words.{used_idx_off_avail, used_id_off_avail, used_len_off_avail}
use Rattle.vub_split.proofs.Seen.{waiting_index, waiting_entry, waiting_offer, waiting_off}
use Rattle.vub_split.proofs.laws.offers_wait_in_order.Goals as goal

pub returns-clause-index : goal.returns-clause-index
returns-clause-index c r m from room = waiting_index r m from room

pub returns-clause-entry : goal.returns-clause-entry
returns-clause-entry c r m from head size room = waiting_entry r m from head size.some size.laps room

pub returns-clause-offer : goal.returns-clause-offer
returns-clause-offer c r m from head size room fits = waiting_offer r m from head size.few size.some size.laps room fits

pub returns-clause-used_idx : goal.returns-clause-used_idx
returns-clause-used_idx c r m from index fits = waiting_off r m (used_idx_store r index) from fits.some (used_idx_off_avail r index fits)

pub returns-clause-used_id : goal.returns-clause-used_id
returns-clause-used_id c r m from index id fits = waiting_off r m (used_id_store r index id) from fits.some (used_id_off_avail r index id fits)

pub returns-clause-used_len : goal.returns-clause-used_len
returns-clause-used_len c r m from index len fits = waiting_off r m (used_len_store r index len) from fits.some (used_len_off_avail r index len fits)

pub returns-clause-elsewhere : goal.returns-clause-elsewhere
returns-clause-elsewhere c r m st from some off = waiting_off r m st from some off
