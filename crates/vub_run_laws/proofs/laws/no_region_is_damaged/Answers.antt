use Rattle.vub_run_laws.proofs.RunsTo.{stands_undamaged}
use Rattle.vub_run_laws.proofs.laws.no_region_is_damaged.Goals as goal

pub returns : goal.returns
returns c h es rs m q fault low stands = stands_undamaged q h es rs m fault low stands
