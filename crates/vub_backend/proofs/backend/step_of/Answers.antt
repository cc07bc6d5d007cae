use Rattle.std.proofs.Common.{sym, refl, subst}
use Rattle.std.specs.Prelude.{Option, Some, option_map}
use Rattle.vub_queue.specs.declared.queue.Queue.{Queue}
use Rattle.vub_queue.specs.QueueState.{state_of}
use Rattle.vub_queue.specs.Turned.{Outside, outside}
use Rattle.vub_backend.specs.Backends.{StepsIn}
use Rattle.vub_backend.proofs.backend.step_of.Goals as goal

pub returns-in-Some : goal.returns-in-Some
returns-in-Some g c =
    let before : Outside = outside g.M.Shared g.D.Disk g.B.Bell c.args.mem.now c.args.disk.now c.args.bell.now in
    let after : Outside = outside g.M.Shared g.D.Disk g.B.Bell c.turn.new.mem c.turn.new.disk c.turn.new.bell in
    subst (λ (o : Option Queue). StepsIn (option_map state_of o) c.args.choice before after c.turn.result (Some (state_of c.turn.new.self))) (sym c.in-Some.is) (
      state_of c.turn.new.self,
      refl,
      c.turn.ensures,
    )
