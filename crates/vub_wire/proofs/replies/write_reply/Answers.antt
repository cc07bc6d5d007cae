use Rattle.std.proofs.Common.{◌≡◌, ◌++◌, List, ℕ, ap, sym, subst, refl, ◌∙◌}
use Rattle.vub_wire.specs.Grammar.{header_bytes}
use Rattle.vub_wire.specs.Replies.{IsReply, reply_header, reply_bytes, written_body}
use Rattle.std.specs.Prelude.{length}
use Rattle.vub_wire.proofs.ReplyLemmas.{written}
use Rattle.vub_wire.proofs.replies.write_reply.Goals as goal

pub returns-clause-reply : goal.returns-clause-reply
returns-clause-reply c =
    let r = c.args.reply.now in
    let header : c.put_header.new.out.items ≡ header_bytes (reply_header r.request 5 (length (written_body r.body))) = c.put_header.ensures.items ∙ rw c.size_of.ensures refl in
    let is : c.put_body.new.out.items ≡ reply_bytes r = c.put_body.ensures.items ∙ ap (λ (l : List ℕ). l ++ written_body r.body) header in
    subst (λ (l : List ℕ). IsReply l r) (sym is) (written r c.put_header.ensures.fits c.requires.kind c.put_body.ensures.fits)
