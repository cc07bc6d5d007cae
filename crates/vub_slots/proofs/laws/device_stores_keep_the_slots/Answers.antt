use Rattle.vub_slots.proofs.DeviceLemmas.{slots_len, slots_id, slots_carried, slots_restored, slots_shown}
use Rattle.vub_slots.proofs.laws.device_stores_keep_the_slots.Goals as goal

pub returns-clause-len : goal.returns-clause-len
returns-clause-len c n driver d u v a w used old_used stand q len from upto f = slots_len n driver d u v a w used old_used stand q len from upto f

pub returns-clause-id : goal.returns-clause-id
returns-clause-id c n driver d u v a w used old_used stand q id from upto f = slots_id n driver d u v a w used old_used stand q id from upto f

pub returns-clause-carried : goal.returns-clause-carried
returns-clause-carried c n driver d u v a w used old_used batch q flags from upto lap f = slots_carried n driver d u v a w used old_used batch q flags from upto lap f

pub returns-clause-restored : goal.returns-clause-restored
returns-clause-restored c n driver d u v a w used old_used batch q flags from upto new f = slots_restored n driver d u v a w used old_used batch q flags from upto new f

pub returns-clause-shown : goal.returns-clause-shown
returns-clause-shown c n driver d u v a w used old_used batch flags elements some sum new stand f = slots_shown n driver d u v a w used old_used batch flags elements some sum new stand f
