use Rattle.std.proofs.Common.{◌≡◌, ◌++◌, ◌∷◌, [], List, true, not, ap, ◌∙◌}
use Rattle.vub_device.specs.declared.entry.Entry.TheVariants as entries
use Rattle.vub_report.specs.declared.items.Item.{Item}
use Rattle.vub_report.specs.declared.items.Item.TheVariants as items
use Rattle.vub_room.specs.Rooms.{RoomState}
use Rattle.vub_run.specs.Run.{played}
use Rattle.vub_schedule.specs.declared.types.Event.TheVariants as events
use Rattle.vub_world.specs.declared.machine.Machine.{Machine}
use Rattle.vub_world.specs.MachineAt.{Performs}
use Rattle.vub_world.proofs.MachineEvents.{ok_then}
use Rattle.vub_world.proofs.MachineLives.{killed, kill_plays, kill_idle}
use Rattle.vub_world.proofs.MachineStarts.{killed_on, killed_sound, asleep_on, living_on}
use Rattle.vub_world.proofs.machine.Machine.kill.Goals as goal

pub returns-clause-sound : goal.returns-clause-sound
returns-clause-sound c = killed_sound c.args.self.now c.requires.sound

pub returns-clause-performs : goal.returns-clause-performs
returns-clause-performs c es rs m stands at =
    let w : Machine = c.args.self.now in
    let lives : m.lives ≡ true = living_on w m c.requires.sound (c.is_none.ensures ∙ ap not c.if-is_none.false) at in
    let noted : c.into_items.result ≡ items.Made entries.Kill ∷ [] = c.into_items.ensures ∙ ap (λ (r : RoomState). r.items) c.note.ensures ∙ ap (λ (r : RoomState). r.items ++ items.Made entries.Kill ∷ []) c.in_ok-room.ensures in
    (killed w.header m, ap (λ (js : List Item). played js (killed w.header m)) noted ∙ kill_plays w.header m lives, killed_on w m at)

pub returns-then-is_none-clause-performs : goal.returns-then-is_none-clause-performs
returns-then-is_none-clause-performs c =
    let w : Machine = c.args.self.now in
    ok_then _ (λ is. Performs w w events.Kill is) c.idle.result
    (λ is noted es rs m s at. (m, ap (λ (js : List Item). played js m) noted ∙ kill_idle w.header m (asleep_on w m c.requires.sound (c.is_none.ensures ∙ ap not c.if-is_none.true) at), at)) c.idle.ensures
