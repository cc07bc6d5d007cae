use Rattle.std.specs.Prelude.{◌%◌}
use Rattle.vub_slots.specs.Stores.{len_store, id_store, details_store, slot_store}
use Rattle.vub_packed.proofs.Words.{len_lies, id_lies, details_lies, slot_lies}
use Rattle.vub_packed.proofs.Seen.{waiting_offer, waiting_behind, waiting_further, waiting_before, waiting_flags_before, waiting_off}
use Rattle.vub_packed.proofs.laws.offers_wait_in_order.Goals as goal

pub returns-clause-flags : goal.returns-clause-flags
returns-clause-flags c r m from flags offer = waiting_offer r m from flags offer.fits offer.available offer.room offer.last

pub returns-clause-details : goal.returns-clause-details
returns-clause-details c r m from p addr len id behind near = waiting_behind r m from p (details_store r (p % r.size) addr len id) behind near (details_lies r (p % r.size) addr len id)

pub returns-clause-slot : goal.returns-clause-slot
returns-clause-slot c r m from p addr len id flags behind near = waiting_further r m from p (slot_store r (p % r.size) addr len id flags) behind near (slot_lies r (p % r.size) addr len id flags)

pub returns-clause-used_len : goal.returns-clause-used_len
returns-clause-used_len c r m from p len before far = waiting_before r m from p (len_store r (p % r.size) len) before far (len_lies r (p % r.size) len)

pub returns-clause-used_id : goal.returns-clause-used_id
returns-clause-used_id c r m from p id before far = waiting_before r m from p (id_store r (p % r.size) id) before far (id_lies r (p % r.size) id)

pub returns-clause-used_flags : goal.returns-clause-used_flags
returns-clause-used_flags c r m from p flags before far fits lap = waiting_flags_before r m from p flags before far fits lap

pub returns-clause-elsewhere : goal.returns-clause-elsewhere
returns-clause-elsewhere c r m st from off = waiting_off r m st from off
