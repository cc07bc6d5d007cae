use Rattle.vub_schedule.proofs.Texts.{only_one}
use Rattle.vub_schedule.proofs.parsing.parse_schedule.Goals as goal

pub returns-clause-only : goal.returns-clause-only
returns-clause-only c = only_one c.args.bytes.now c.schedule_of.result c.schedule_of.ensures.found c.schedule_of.ensures.fault
