use Rattle.std.proofs.Common.{ap, ◌∙◌}
use Rattle.vub_backend.specs.Backends.{states_of}
use Rattle.vub_backend.proofs.BackendLemmas.{none_there}
use Rattle.vub_backend.proofs.backend.Backend.new.Goals as goal

pub returns : goal.returns
returns c = ap states_of c.in_ok-no_queues.ensures ∙ none_there c.args.queues
