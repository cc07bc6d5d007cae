use Rattle.std.proofs.Common.{List, ap, sym, ◌∙◌}
use Rattle.vub_report.specs.declared.items.Item.{Item}
use Rattle.vub_run.specs.Run.{played}
use Rattle.vub_schedule.specs.declared.types.Event.TheVariants as events
use Rattle.vub_world.specs.declared.machine.Machine.{Machine}
use Rattle.vub_world.specs.MachineAt.{Performs}
use Rattle.vub_world.proofs.MachineEvents.{ok_then}
use Rattle.vub_world.proofs.MachineLives.{booted, boot_plays}
use Rattle.vub_world.proofs.MachineStarts.{booted_on, asleep_on, booted_sound, living_on, boot_idle}
use Rattle.vub_world.proofs.machine.Machine.boot.Goals as goal

pub returns-clause-sound : goal.returns-clause-sound
returns-clause-sound c = booted_sound c.args.self.now _ c.requires.sound c.in_ok-new.ensures

pub returns-clause-performs : goal.returns-clause-performs
returns-clause-performs c es rs m stands at =
    let w = c.args.self.now in
    let none = sym c.is_some.ensures ∙ c.if-is_some.false in
    let asleep = asleep_on w m c.requires.sound none at in
    (booted m, ap (λ (is : List Item). played is (booted m)) c.nothing.ensures ∙ boot_plays m asleep, booted_on w _ es rs m c.requires.sound c.in_ok-new.ensures stands asleep at)

pub returns-then-is_some-clause-performs : goal.returns-then-is_some-clause-performs
returns-then-is_some-clause-performs c =
    let w : Machine = c.args.self.now in
    ok_then _ (λ is. Performs w w events.Boot is) c.idle.result (λ is noted es rs m s at. (m, ap (λ (js : List Item). played js m) noted ∙ boot_idle m (living_on w m c.requires.sound (sym c.is_some.ensures ∙ c.if-is_some.true) at), at)) c.idle.ensures
