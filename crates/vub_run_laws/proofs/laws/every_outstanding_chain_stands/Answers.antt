use Rattle.vub_run_laws.proofs.RunLawful.{stands_described}
use Rattle.vub_run_laws.proofs.laws.every_outstanding_chain_stands.Goals as goal

pub returns : goal.returns
returns c h es rs m q k low stands out = stands_described h es rs m q k low stands out
