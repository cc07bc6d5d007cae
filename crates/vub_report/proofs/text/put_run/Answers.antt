use Rattle.std.proofs.Common.{length, ◌≤◌, arith}
use Rattle.std.proofs.lemmas.Slice.{between_to_end}
use Rattle.vub_report.proofs.RecordTextLemmas.{run_written}
use Rattle.vub_report.proofs.text.put_run.Goals as goal

pub returns-clause-text : goal.returns-clause-text
returns-clause-text c =
    let whole : length c.args.bytes.now ≤ length c.args.bytes.now = omega arith in
    run_written c.args.byte c.run_length-count.result c.args.out.now.items c.put_repeated.new.out.items c.put_joint.new.out.items c.args.bytes.now _ c.requires.0 c.requires.1 c.run_length-count.ensures
    (between_to_end c.args.bytes.now c.run_length-count.result (length c.args.bytes.now) whole) c.in_ok-put_repeated.ensures c.in_ok-put_joint.ensures
