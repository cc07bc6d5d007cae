use Rattle.vub_wire.proofs.StreamLemmas.{none_at_fault}
use Rattle.vub_wire.proofs.FaultLemmas.{fault_goes_on, all_fault}
use Rattle.vub_wire.proofs.laws.a_fault_stays.Goals as goal

pub returns : goal.returns
returns c = record { stays = fault_goes_on; again = all_fault; none = none_at_fault }
