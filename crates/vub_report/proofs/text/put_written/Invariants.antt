use Rattle.std.proofs.Common.{◌≡◌, ◌++◌}
use Rattle.vub_report.specs.RecordText.{written_text}
use Rattle.vub_report.proofs.text.put_written.Given as goal

abbrev pub invariant-loop-place : goal.invariant-loop-place
invariant-loop-place l = l.out.items ≡ l.fn.out.items ++ written_text l.place l.bytes
