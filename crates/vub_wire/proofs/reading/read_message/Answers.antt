use Rattle.std.proofs.Common.{ap, ◌∙◌, arith}
use Rattle.std.specs.Result.{result_err}
use Rattle.vub_wire.proofs.FrontMessages.{found_of, only_of, first_fault}
use Rattle.vub_wire.proofs.reading.read_message.Goals as goal

pub returns : goal.returns
returns c = record {
  found = found_of c.args.bytes.now c.message_at.result (λ i. omega (arith, c.type_inv.bytes i)) c.message_at.ensures;
  only = only_of c.args.bytes.now c.message_at.result c.message_at.ensures;
  fault = ap result_err c.message_at.ensures ∙ first_fault c.args.bytes.now;
}
