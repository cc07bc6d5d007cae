use Rattle.vub_run_laws.proofs.RunServes.{run_legal}
use Rattle.vub_run_laws.proofs.laws.every_driver_store_is_lawful.Goals as goal

pub returns : goal.returns
returns c s records is run = (run_legal s.header s.events records is.header is.events run).lawful
