use Rattle.std.proofs.Common.{List, ap, sym, ◌∙◌}
use Rattle.vub_report.specs.declared.items.Item.{Item}
use Rattle.vub_run.specs.Run.{played}
use Rattle.vub_schedule.specs.declared.types.Event.TheVariants as events
use Rattle.vub_world.specs.declared.machine.Machine.{Machine}
use Rattle.vub_world.specs.MachineAt.{Performs}
use Rattle.vub_world.proofs.MachineEvents.{ok_then}
use Rattle.vub_world.proofs.MachineLives.{joined, join_plays}
use Rattle.vub_world.proofs.MachineStarts.{joining_on, joined_on, joined_sound, join_idle_on}
use Rattle.vub_world.proofs.machine.Machine.join.Goals as goal

pub returns-clause-sound : goal.returns-clause-sound
returns-clause-sound c = joined_sound c.args.self.now _ c.requires.sound c.in_ok-new_backend.ensures.backend c.in_ok-new_backend.ensures.new

pub returns-clause-performs : goal.returns-clause-performs
returns-clause-performs c es rs m stands at =
    let w = c.args.self.now in
    let new = joining_on w m c.requires.sound (sym c.is_joining.ensures ∙ c.if-not-is_joining.false) at in (
      joined m,
      ap (λ (is : List Item). played is (joined m)) c.nothing.ensures ∙ join_plays m new.0 new.1,
      joined_on w _ es rs m c.requires.sound c.in_ok-new_backend.ensures.new (sym c.is_joining.ensures ∙ c.if-not-is_joining.false) stands at,
    )

pub returns-then-not-is_joining-clause-performs : goal.returns-then-not-is_joining-clause-performs
returns-then-not-is_joining-clause-performs c =
    let w : Machine = c.args.self.now in
    ok_then _ (λ is. Performs w w events.Join is) c.idle.result (λ is noted es rs m s at. (m, ap (λ (js : List Item). played js m) noted ∙ join_idle_on w m c.requires.sound (sym c.is_joining.ensures ∙ c.if-not-is_joining.true) at, at)) c.idle.ensures
