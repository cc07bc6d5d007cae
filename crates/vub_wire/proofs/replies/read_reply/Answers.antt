use Rattle.std.proofs.Common.{ap, ◌∙◌, arith}
use Rattle.std.specs.Result.{result_err}
use Rattle.vub_wire.proofs.ReplyLemmas.{found_of, only_of, first_fault}
use Rattle.vub_wire.proofs.replies.read_reply.Goals as goal

pub returns : goal.returns
returns c = record {
  found = found_of c.args.bytes.now c.reply_at.result (λ i. omega (arith, c.type_inv.bytes i)) c.reply_at.ensures;
  only = only_of c.args.bytes.now c.reply_at.result c.reply_at.ensures;
  fault = ap result_err c.reply_at.ensures ∙ first_fault c.args.bytes.now;
}
