use Rattle.std.proofs.Common.{◌≡◌, ◌++◌, ◌∷◌, [], List, sym, ap, subst, ◌∙◌}
use Rattle.vub_report.specs.declared.items.Item.{Item}
use Rattle.vub_room.specs.Rooms.{RoomState}
use Rattle.vub_run.specs.Run.{played}
use Rattle.vub_world.specs.declared.machine.Machine.{Machine}
use Rattle.vub_world.specs.DriverSides.{parts_of, setup_of}
use Rattle.vub_world.specs.Machine.{IsSound}
use Rattle.vub_world.specs.MachineAt.{MachineAt}
use Rattle.vub_world.proofs.MachineDrivers.{collect_on}
use Rattle.vub_world.proofs.MachineGuestCollects.{taken_item, shown_placed}
use Rattle.vub_world.proofs.MachineParts.{KeepsDriverSide, taken_side, guest_ring_is, parts_stand, with_side_at, side_sound}
use Rattle.vub_world.proofs.machine.Machine.collect.Goals.{in-None, in-Some}
use Rattle.vub_world.proofs.machine.Machine.collect.Goals as goal

pub collect-requires-clause-sound : goal.collect-requires-clause-sound
collect-requires-clause-sound c = (c.requires.sound.parts c.args.queue c.index_mut-side.result.now (taken_side c.args.self.now c.from.result c.args.queue c.index_mut-side.result.now c.requires.sound c.from.ensures c.requires.event c.index_mut-side.ensures.value)).side

pub collect-requires-clause-placed : goal.collect-requires-clause-placed
collect-requires-clause-placed c =
    let w : Machine = c.args.self.now in
    let f = c.index_mut-side.result.now in
    shown_placed c.args.queue (parts_of c.args.queue f w) (guest_ring_is c.args.queue (parts_of c.args.queue f w) (c.requires.sound.parts c.args.queue f (taken_side c.args.self.now c.from.result c.args.queue c.index_mut-side.result.now c.requires.sound c.from.ensures c.requires.event c.index_mut-side.ensures.value))) (parts_stand w c.args.queue f c.requires.sound (taken_side c.args.self.now c.from.result c.args.queue c.index_mut-side.result.now c.requires.sound c.from.ensures c.requires.event c.index_mut-side.ensures.value) c.requires.stands)

pub returns-clause-sound : goal.returns-clause-sound
returns-clause-sound c =
    let w : Machine = c.args.self.now in
    let t = c.collect.ensures in
    let keeps : KeepsDriverSide c.index_mut-side.result.now c.collect.new.self = record { header = ap (λ f. f.header) t.frame; index = ap (λ f. f.index) t.frame; setup = ap (λ f. (setup_of f)) t.frame } in
    subst (λ k. IsSound (with_side_at w c.collect.new.memory k c.collect.new.self)) (sym c.from.ensures) (side_sound w c.collect.new.memory c.args.queue c.index_mut-side.result.now c.collect.new.self c.requires.sound (taken_side c.args.self.now c.from.result c.args.queue c.index_mut-side.result.now c.requires.sound c.from.ensures c.requires.event c.index_mut-side.ensures.value) keeps t.sound t.sizes)

pub returns-clause-performs : goal.returns-clause-performs
returns-clause-performs c es rs m s at =
    let w : Machine = c.args.self.now in
    let t = c.collect.ensures in
    let done = collect_on w c.collect.new.memory c.args.queue c.index_mut-side.result.now c.collect.new.self es rs m c.collect.result c.requires.sound (taken_side c.args.self.now c.from.result c.args.queue c.index_mut-side.result.now c.requires.sound c.from.ensures c.requires.event c.index_mut-side.ensures.value) s at t.memory t.frame t.takes in
    let item : c.match-collect.item ≡ taken_item c.args.queue c.collect.result = elim c.match-collect.branch [
      | in-Some b ↦ b.item-is ∙ sym (ap (taken_item c.args.queue) b.in-Some.is)
      | in-None b ↦ b.item-is ∙ sym (ap (taken_item c.args.queue) b.in-None.is)
    ] in
    let noted : c.into_items.result ≡ taken_item c.args.queue c.collect.result ∷ [] =
    c.into_items.ensures ∙ ap (λ (r : RoomState). r.items) c.note.ensures ∙ ap (λ (r : RoomState). r.items ++ c.match-collect.item ∷ []) c.in_ok-room.ensures ∙ ap (λ (i : Item). i ∷ []) item in
    (done.0, ap (λ (js : List Item). played js done.0) noted ∙ done.1, subst (λ k. MachineAt (with_side_at w c.collect.new.memory k c.collect.new.self) done.0) (sym c.from.ensures) done.2)
