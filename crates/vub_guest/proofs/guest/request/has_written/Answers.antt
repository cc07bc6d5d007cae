use Rattle.std.proofs.Common.{ap, ◌∙◌}
use Rattle.std.specs.Prelude.{not}
use Rattle.vub_guest.proofs.RequestLemmas.{some_written_of_write, some_written_of_parts}
use Rattle.vub_guest.proofs.guest.request.has_written.Goals as goal

pub returns-in-Write : goal.returns-in-Write
returns-in-Write c = ap not c.is_empty.ensures ∙ some_written_of_write c.args.ask.now c.in-Write.sector c.in-Write.fills c.in-Write.is

pub returns-in-Discard : goal.returns-in-Discard
returns-in-Discard c = ap not c.is_empty-in-Discard.ensures ∙ some_written_of_parts c.args.ask.now c.in-Discard.parts c.in-Discard.is
