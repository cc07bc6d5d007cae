use Rattle.vub_slots.proofs.DriverLemmas.{seen_is, waiting_is}
use Rattle.vub_slots.proofs.laws.what_stands_is_seen.Goals as goal

pub returns-clause-seen : goal.returns-clause-seen
returns-clause-seen c n driver u v a w used old_used stand sizes known sized f = seen_is n driver u v a w used old_used stand sizes known sized f

pub returns-clause-waiting : goal.returns-clause-waiting
returns-clause-waiting c n driver d u v a w used old_used stand f = waiting_is n driver d u v a w used old_used stand f
