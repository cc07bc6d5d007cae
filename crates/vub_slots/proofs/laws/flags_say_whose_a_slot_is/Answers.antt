use Rattle.vub_slots.proofs.FlagLemmas.{available_is, used_is, restored_is, restored_others, not_both}
use Rattle.vub_slots.proofs.laws.flags_say_whose_a_slot_is.Goals as goal

pub returns-clause-available : goal.returns-clause-available
returns-clause-available c wrap = available_is wrap

pub returns-clause-used : goal.returns-clause-used
returns-clause-used c wrap = used_is wrap

pub returns-clause-restored : goal.returns-clause-restored
returns-clause-restored c flags wrap = restored_is flags wrap

pub returns-clause-others : goal.returns-clause-others
returns-clause-others c flags wrap = restored_others flags wrap

pub returns-clause-not_both : goal.returns-clause-not_both
returns-clause-not_both c flags wrap available = not_both flags wrap available
