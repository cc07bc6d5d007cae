use Rattle.std.proofs.Common.{◌≡◌, ℕ, List, [], sym, ap, subst, ◌∙◌, arith, true}
use Rattle.std.specs.Prelude.{Some, is_some, not}
use Rattle.vub_driver.specs.Drivers.{Waiting}
use Rattle.vub_report.specs.declared.items.Item.{Item}
use Rattle.vub_run.specs.Run.{played}
use Rattle.vub_schedule.specs.declared.types.Event.TheVariants as events
use Rattle.vub_world.specs.declared.driver_side.DriverSide.{DriverSide}
use Rattle.vub_world.specs.declared.machine.Machine.{Machine}
use Rattle.vub_world.specs.DriverSides.{parts_of, desk, setup_of}
use Rattle.vub_world.specs.Machine.{IsSound}
use Rattle.vub_world.specs.MachineAt.{DriverSideAt, MachineAt, Performs}
use Rattle.vub_world.specs.MachineDriverSide.{GuestGoes}
use Rattle.vub_world.proofs.MachineEvents.{ok_then}
use Rattle.vub_world.proofs.MachineDrivers.{guest_on, guest_idle}
use Rattle.vub_world.proofs.MachineGuestFits.{side_fits}
use Rattle.vub_world.proofs.MachineParts.{KeepsDriverSide, taken_side, parts_stand, with_side_at, side_sound}
use Rattle.vub_world.proofs.machine.Machine.guest.Goals as goal

pub stores-requires-clause-sound : goal.stores-requires-clause-sound
stores-requires-clause-sound c = (c.requires.sound.parts c.args.queue c.index_mut.result.now (taken_side c.args.self.now c.from-place.result c.args.queue c.index_mut.result.now c.requires.sound c.from-place.ensures c.requires.event.0 c.index_mut.ensures.value)).side

pub stores-requires-clause-fits : goal.stores-requires-clause-fits
stores-requires-clause-fits c =
    let w : Machine = c.args.self.now in
    let q : ℕ = c.args.queue in
    let f : DriverSide = c.index_mut.result.now in
    side_fits q (parts_of q f w) (parts_stand w q f c.requires.sound (taken_side c.args.self.now c.from-place.result c.args.queue c.index_mut.result.now c.requires.sound c.from-place.ensures c.requires.event.0 c.index_mut.ensures.value) c.requires.stands)

pub returns-clause-sound : goal.returns-clause-sound
returns-clause-sound c =
    let w : Machine = c.args.self.now in
    let t = c.stores.ensures in
    let keeps : KeepsDriverSide c.index_mut.result.now c.stores.new.self = record { header = ap (λ f. f.header) t.frame; index = ap (λ f. f.index) t.frame; setup = ap (λ f. (setup_of f)) t.frame } in
    subst (λ k. IsSound (with_side_at w c.stores.new.memory k c.stores.new.self)) (sym c.from-place.ensures) (side_sound w c.stores.new.memory c.args.queue c.index_mut.result.now c.stores.new.self c.requires.sound (taken_side c.args.self.now c.from-place.result c.args.queue c.index_mut.result.now c.requires.sound c.from-place.ensures c.requires.event.0 c.index_mut.ensures.value) keeps t.sound t.sizes)

pub returns-clause-performs : goal.returns-clause-performs
returns-clause-performs c es rs m s at =
    let w : Machine = c.args.self.now in
    let q : ℕ = c.args.queue in
    let f : DriverSide = c.index_mut.result.now in
    let g : DriverSide = c.stores.new.self in
    let most : ℕ = c.min-most.result in
    let is : List Item = c.finish.result in
    let begins : c.in_ok-room.room.items ≡ [] = ap (λ r. r.items) c.in_ok-room.ensures in
    let goes : (x : Waiting) → DriverSideAt f.index (desk w.memory f) m → (m.lanes f.index).driver.waiting ≡ Some x → GuestGoes f.index most x (desk w.memory f) (desk c.stores.new.memory g) m [] is = λ x side waits. subst (λ (js : List Item). GuestGoes f.index most x (desk w.memory f) (desk c.stores.new.memory g) m [] js) (sym c.finish.ensures)
    (subst (λ (js : List Item). GuestGoes f.index most x (desk w.memory f) (desk c.stores.new.memory g) m js c.stores.new.room.items) begins (c.stores.ensures.goes m x side waits)) in
    let both : Some f ≡ Some c.index.result.now = sym (taken_side c.args.self.now c.from-place.result c.args.queue c.index_mut.result.now c.requires.sound c.from-place.ensures c.requires.event.0 c.index_mut.ensures.value) ∙ taken_side c.args.self.now c.from-place.result c.args.queue c.index.result.now c.requires.sound c.from-place.ensures c.requires.event.0 c.index.ensures in
    let same : f ≡ c.index.result.now = cc both in
    let asked : is_some f.asked ≡ true = ap (λ (y : DriverSide). is_some y.asked) same ∙ c.is_none.ensures ∙ ap not c.if-is_none.false in
    let done = guest_on w c.stores.new.memory q f g es rs m is c.args.stores most c.requires.sound (taken_side c.args.self.now c.from-place.result c.args.queue c.index_mut.result.now c.requires.sound c.from-place.ensures c.requires.event.0 c.index_mut.ensures.value) s at asked c.min-most.ensures (omega (arith, c.ranges.stores.fits)) c.stores.ensures.frame c.stores.ensures.position goes in
    (done.0, done.1, subst (λ k. MachineAt (with_side_at w c.stores.new.memory k g) done.0) (sym c.from-place.ensures) done.2)

pub returns-then-is_none-clause-performs : goal.returns-then-is_none-clause-performs
returns-then-is_none-clause-performs c =
    let w : Machine = c.args.self.now in
    ok_then _ (λ is. Performs w w (events.Guest c.args.queue c.args.stores) is) c.idle.result
    (λ is noted es rs m s at. (m, ap (λ (js : List Item). played js m) noted ∙ guest_idle w c.args.queue c.index.result.now m c.args.stores (taken_side c.args.self.now c.from-place.result c.args.queue c.index.result.now c.requires.sound c.from-place.ensures c.requires.event.0 c.index.ensures) at (c.is_none.ensures ∙ ap not c.if-is_none.true), at))
    c.idle.ensures
