use Rattle.std.proofs.Common.{sym, subst}
use Rattle.std.specs.Prelude.{IfOk}
use Rattle.vub_schedule.specs.declared.types.Event.{Event}
use Rattle.vub_world.specs.MachineAt.{Performs}
use Rattle.vub_world.proofs.machine.Machine.items_of.Goals as goal

pub returns-in-Fetch-clause-performs : goal.returns-in-Fetch-clause-performs
returns-in-Fetch-clause-performs c = subst (λ (e : Event). IfOk c.single-in-Fetch.result (λ is. Performs c.args.self.now c.single-in-Fetch.new.self e is)) (sym c.in-Fetch.is) c.single-in-Fetch.ensures.plays
