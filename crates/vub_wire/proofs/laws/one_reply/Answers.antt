use Rattle.vub_wire.proofs.ReplyLemmas.{one_reply_of, one_spelling}
use Rattle.vub_wire.proofs.laws.one_reply.Goals as goal

pub returns : goal.returns
returns c = record { reply = one_reply_of; bytes = one_spelling }
