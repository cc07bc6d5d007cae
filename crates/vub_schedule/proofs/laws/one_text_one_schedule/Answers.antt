use Rattle.vub_schedule.proofs.Texts.{spelling_injective}
use Rattle.vub_schedule.proofs.laws.one_text_one_schedule.Goals as goal

pub returns : goal.returns
returns c = spelling_injective
