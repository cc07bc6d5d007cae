use Rattle.vub_packed.proofs.Words.{len_stored, id_stored, flags_stored, details_stored, slot_stored, words_elsewhere}
use Rattle.vub_packed.proofs.laws.stores_change_one_word.Goals as goal

pub returns-clause-len : goal.returns-clause-len
returns-clause-len c r m index len below fits = len_stored r m index len below fits

pub returns-clause-id : goal.returns-clause-id
returns-clause-id c r m index id below fits = id_stored r m index id below fits

pub returns-clause-flags : goal.returns-clause-flags
returns-clause-flags c r m index flags below fits = flags_stored r m index flags below fits

pub returns-clause-details : goal.returns-clause-details
returns-clause-details c r m index addr len id below fits = details_stored r m index addr len id below fits.addr_fits fits.len_fits fits.id_fits

pub returns-clause-slot : goal.returns-clause-slot
returns-clause-slot c r m index addr len id flags below fits = slot_stored r m index addr len id flags below fits

pub returns-clause-elsewhere : goal.returns-clause-elsewhere
returns-clause-elsewhere c r m st off = words_elsewhere r m st off
