use Rattle.std.proofs.Common.{◌≡◌, ◌++◌, take}
use Rattle.vub_report.specs.RecordText.{each_after}
use Rattle.vub_report.proofs.text.put_after_commas.Given as goal

abbrev pub invariant-loop-part : goal.invariant-loop-part
invariant-loop-part g l = l.out.items ≡ l.fn.out.items ++ each_after 44 g.T.EntryPart.text (take l.part-index l.parts)
