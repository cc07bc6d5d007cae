use Rattle.std.proofs.Common.{◌++◌, ap, sym, ◌∙◌, length, arith, ◌<◌}
use Rattle.std.proofs.lemmas.List.{append-nil}
use Rattle.vub_report.proofs.RecordTextLemmas.{bytes_text-none}
use Rattle.vub_report.proofs.text.put_bytes.Goals as goal

pub returns : goal.returns
returns c =
    let none : length c.loop-rest.rest.now < 1 = omega arith in
    sym (ap (λ l. c.loop-rest.out.items ++ l) (bytes_text-none c.loop-rest.rest.now none) ∙ append-nil c.loop-rest.out.items) ∙ c.loop-rest.invariant
