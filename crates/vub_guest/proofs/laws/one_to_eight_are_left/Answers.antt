use Rattle.vub_guest.proofs.GuestLemmas.{left_some, left_few}
use Rattle.vub_guest.proofs.laws.one_to_eight_are_left.Goals as goal

pub returns-clause-some : goal.returns-clause-some
returns-clause-some c g w is = left_some g w is

pub returns-clause-few : goal.returns-clause-few
returns-clause-few c g w is = left_few g w is
