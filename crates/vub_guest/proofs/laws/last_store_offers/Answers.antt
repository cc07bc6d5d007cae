use Rattle.vub_guest.proofs.Offers.{guest_fits, step_waits, step_stands, step_offers, step_sees}
use Rattle.vub_guest.proofs.laws.last_store_offers.Goals as goal

pub returns-clause-rings : goal.returns-clause-rings
returns-clause-rings c g = guest_fits g

pub returns-clause-earlier : goal.returns-clause-earlier
returns-clause-earlier c g w m from is more size index room = step_waits g w m from is more size index room

pub returns-clause-entry : goal.returns-clause-entry
returns-clause-entry c g w m is two = step_stands g w m is two

pub returns-clause-last : goal.returns-clause-last
returns-clause-last c g w m from is last index there room = step_offers g w m from is last index there room

pub returns-clause-seen : goal.returns-clause-seen
returns-clause-seen c g w m from is = step_sees g w m from is
