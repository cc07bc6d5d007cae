use Rattle.vub_wire.proofs.StreamLemmas.{any_calls, counted, same_messages}
use Rattle.vub_wire.proofs.laws.any_chunking.Goals as goal

pub returns : goal.returns
returns c = record { first = any_calls; taken = counted; same = same_messages }
