use Rattle.std.proofs.Common.{◌≡◌, ◌++◌, take}
use Rattle.vub_report.specs.RecordText.{entries_spelling}
use Rattle.vub_report.specs.Histories.{entries_of}
use Rattle.vub_report.proofs.text.put_entries.Given as goal

abbrev pub invariant-loop-item : goal.invariant-loop-item
invariant-loop-item l = l.out.items ≡ l.fn.out.items ++ entries_spelling (entries_of (take l.item-index l.item-items))
