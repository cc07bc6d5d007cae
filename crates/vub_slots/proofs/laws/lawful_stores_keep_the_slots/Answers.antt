use Rattle.vub_slots.proofs.DriverLemmas.{driver_keeps}
use Rattle.vub_slots.proofs.laws.lawful_stores_keep_the_slots.Goals as goal

pub returns : goal.returns
returns c n driver u v a w used old_used stand store lawful f = driver_keeps n driver u v a w used old_used stand store lawful f
