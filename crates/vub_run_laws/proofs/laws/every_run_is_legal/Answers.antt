use Rattle.vub_run_laws.proofs.RunServes.{run_legal}
use Rattle.vub_run_laws.proofs.laws.every_run_is_legal.Goals as goal

pub returns-clause-legal : goal.returns-clause-legal
returns-clause-legal c s records is run = (run_legal s.header s.events records is.header is.events run).legal

pub returns-clause-tracked : goal.returns-clause-tracked
returns-clause-tracked c s records is run = (run_legal s.header s.events records is.header is.events run).tracked
