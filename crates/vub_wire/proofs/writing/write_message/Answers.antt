use Rattle.std.proofs.Common.{◌≡◌, ◌++◌, List, ℕ, ap, sym, subst, refl, ◌∙◌, arith}
use Rattle.vub_wire.specs.Grammar.{IsMessage, header_bytes}
use Rattle.vub_wire.specs.Writing.{written_payload, written_header, message_bytes}
use Rattle.vub_wire.proofs.WrittenMessages.{written}
use Rattle.vub_wire.proofs.writing.write_message.Goals as goal

pub returns-clause-message : goal.returns-clause-message
returns-clause-message c =
    let m = c.args.message.now in
    let flags = c.args.flags in
    let header : c.put_header.new.out.items ≡ header_bytes (written_header m flags) = c.put_header.ensures.items ∙ rw (c.number_of.ensures, c.size_of.ensures) refl in
    let is : c.put_payload.new.out.items ≡ message_bytes m flags = c.put_payload.ensures.items ∙ ap (λ (l : List ℕ). l ++ written_payload m) header in
    let fits = c.put_payload.ensures.fits (rw (sym c.number_of.ensures) c.number_of.type_inv) c.requires.named in
    λ one none. subst (λ (l : List ℕ). IsMessage l (written_header m flags) m) (sym is) (written m flags fits (omega (arith, c.ranges.flags)) one none)
