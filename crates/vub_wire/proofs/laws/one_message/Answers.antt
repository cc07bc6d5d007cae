use Rattle.vub_wire.proofs.WrittenMessages.{one_message_of, one_spelling}
use Rattle.vub_wire.proofs.laws.one_message.Goals as goal

pub returns : goal.returns
returns c = record { message = one_message_of; bytes = one_spelling }
