use Rattle.std.specs.Prelude.{◌%◌}
use Rattle.vub_slots.specs.Stores.{len_store, id_store, details_store}
use Rattle.vub_packed.proofs.Words.{len_lies, id_lies, details_lies}
use Rattle.vub_packed.proofs.Seen.{seen_batch, seen_behind, seen_flags, seen_slot, seen_off}
use Rattle.vub_packed.proofs.laws.batches_are_seen_in_order.Goals as goal

pub returns-clause-flags : goal.returns-clause-flags
returns-clause-flags c sizes r m from flags batch sized is = seen_batch sizes r m from flags batch sized is.some is.sized is.stands is.room is.last

pub returns-clause-len : goal.returns-clause-len
returns-clause-len c sizes r m from p len sized behind near = seen_behind sizes r m from p (len_store r (p % r.size) len) sized behind near (len_lies r (p % r.size) len)

pub returns-clause-id : goal.returns-clause-id
returns-clause-id c sizes r m from p id sized behind near = seen_behind sizes r m from p (id_store r (p % r.size) id) sized behind near (id_lies r (p % r.size) id)

pub returns-clause-other_flags : goal.returns-clause-other_flags
returns-clause-other_flags c sizes r m from p flags sized behind near fits unused = seen_flags sizes r m from p flags sized behind near fits unused

pub returns-clause-details : goal.returns-clause-details
returns-clause-details c sizes r m from p addr len id sized behind near = seen_behind sizes r m from p (details_store r (p % r.size) addr len id) sized behind near (details_lies r (p % r.size) addr len id)

pub returns-clause-slot : goal.returns-clause-slot
returns-clause-slot c sizes r m from p addr len id flags sized behind near fits unused = seen_slot sizes r m from p addr len id flags sized behind near fits unused

pub returns-clause-elsewhere : goal.returns-clause-elsewhere
returns-clause-elsewhere c sizes r m st from off = seen_off sizes r m st from off
