use Rattle.std.proofs.Common.{◌≡◌, ◌++◌, length}
use Rattle.vub_report.specs.RecordText.{bytes_text}
use Rattle.vub_report.proofs.text.put_bytes.Given as goal

abbrev pub invariant-loop-rest : goal.invariant-loop-rest
invariant-loop-rest l = l.out.items ++ bytes_text l.rest ≡ l.fn.out.items ++ bytes_text l.fn.bytes

abbrev pub decreases-loop-rest : goal.decreases-loop-rest
decreases-loop-rest l = length l.rest
