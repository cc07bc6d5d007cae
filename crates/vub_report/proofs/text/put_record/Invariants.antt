use Rattle.std.proofs.Common.{◌≡◌, ◌++◌, take}
use Rattle.std.specs.Prelude.{codes}
use Rattle.std.specs.List.{flat_map}
use Rattle.vub_schedule.specs.Spelling.{event_line}
use Rattle.vub_report.specs.RecordText.{item_line}
use Rattle.vub_report.proofs.text.put_record.Given as goal

abbrev pub invariant-loop-item : goal.invariant-loop-item
invariant-loop-item l = l.out.items ≡ l.fn.out.items ++ (codes "> " ++ event_line l.made.event ++ flat_map item_line (take l.item-index l.item-items))
