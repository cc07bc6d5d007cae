use Rattle.vub_run_laws.proofs.RunChainsMeaning.{stands_means}
use Rattle.vub_run_laws.proofs.laws.every_open_request_is_meant.Goals as goal

pub returns : goal.returns
returns c h es rs m sizes r q k low stands ring below new = stands_means q h es rs m sizes r k low stands ring below new
