use Rattle.vub_slots.proofs.DeviceLemmas.{slots_moved, slots_noted, slots_back, slots_accepted}
use Rattle.vub_slots.proofs.laws.positions_move_over_the_slots.Goals as goal

pub returns-clause-moved : goal.returns-clause-moved
returns-clause-moved c n driver d u v a w used moved old_used batch within is f = slots_moved n driver d u v a w used moved old_used batch within is f

pub returns-clause-noted : goal.returns-clause-noted
returns-clause-noted c n driver d u v a w used old_used batch f = slots_noted n driver d u v a w used old_used batch f

pub returns-clause-back : goal.returns-clause-back
returns-clause-back c n driver d u v a w used old_used batch restored f = slots_back n driver d u v a w used old_used batch restored f

pub returns-clause-accepted : goal.returns-clause-accepted
returns-clause-accepted c n driver d u v a w used old_used first others is f = slots_accepted n driver d u v a w used old_used first others is f
