use Rattle.vub_run_laws.proofs.RunExists.{run_some}
use Rattle.vub_run_laws.proofs.laws.every_schedule_runs.Goals as goal

pub returns : goal.returns
returns c s is = run_some s is
