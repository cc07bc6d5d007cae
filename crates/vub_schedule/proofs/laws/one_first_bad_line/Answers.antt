use Rattle.vub_schedule.proofs.FirstBad.{one_line, one_or_other}
use Rattle.vub_schedule.proofs.Texts.{not_spelled}
use Rattle.vub_schedule.proofs.laws.one_first_bad_line.Goals as goal

pub returns : goal.returns
returns c = record { either = one_or_other; not_both = λ bytes n bad text. not_spelled bytes n text.0 bad text.1 text.2; one = one_line }
