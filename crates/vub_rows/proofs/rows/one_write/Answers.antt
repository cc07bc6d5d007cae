use Rattle.vub_rows.proofs.WriteRow.{is_run, is_tracked}
use Rattle.vub_rows.proofs.rows.one_write.Goals as goal

pub returns-clause-run : goal.returns-clause-run
returns-clause-run c = is_run

pub returns-clause-tracked : goal.returns-clause-tracked
returns-clause-tracked c = is_tracked
