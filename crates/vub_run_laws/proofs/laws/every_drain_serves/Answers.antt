use Rattle.vub_run_laws.proofs.RunServes.{run_serves}
use Rattle.vub_run_laws.proofs.laws.every_drain_serves.Goals as goal

pub returns : goal.returns
returns c s records is run few = run_serves s.header s.events records is.header is.events run few
