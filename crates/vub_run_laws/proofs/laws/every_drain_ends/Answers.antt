use Rattle.vub_run_laws.proofs.RunsTo.{stands_drained}
use Rattle.vub_run_laws.proofs.laws.every_drain_ends.Goals as goal

pub returns-clause-published : goal.returns-clause-published
returns-clause-published c h es rs m next items q low stands counts attached plays = (stands_drained q h es rs m next items low stands counts attached plays).0

pub returns-clause-accepted : goal.returns-clause-accepted
returns-clause-accepted c h es rs m next items q low stands counts attached plays = (stands_drained q h es rs m next items low stands counts attached plays).1
