use Rattle.std.proofs.Common.{◌≡◌, ◌≤◌, ◌+◌, refl, sym, subst}
use Rattle.vub_report.specs.declared.items.Record.{Record}
use Rattle.vub_world.specs.declared.machine.Machine.{Machine}
use Rattle.vub_world.specs.DriverSides.{offers_in}
use Rattle.vub_world.specs.Lending.{HasPlayed, with_record}
use Rattle.vub_world.specs.Machine.{IsSound}
use Rattle.vub_world.proofs.MachineLending.{recorded_sound}
use Rattle.vub_world.proofs.MachineEvents.{stands_on, one_offer, standing_on}
use Rattle.vub_world.proofs.machine.Machine.perform.Goals as goal

pub returns-clause-plays : goal.returns-clause-plays
returns-clause-plays c =
    let w = c.args.self.now in
    let now = c.items_of.new.self in
    let e = c.args.event.now in
    let r : Record = record { event = c.in_ok-made.made; items = c.in_ok-items.items } in
    let kept : c.keep.new.self ≡ with_record r c.keep.new.self.spare now = c.keep.ensures in (
      r,
      subst (λ (x : Machine). HasPlayed w x e r) (sym kept) (record {
        last = refl;
        event = c.in_ok-made.ensures;
        on = stands_on w now e r c.keep.new.self.spare c.requires.sound c.items_of.ensures.sound c.requires.fits c.items_of.ensures.header c.in_ok-made.ensures c.in_ok-items.ensures.performs;
      }),
    )

pub returns-clause-sound : goal.returns-clause-sound
returns-clause-sound c =
    let r : Record = record { event = c.in_ok-made.made; items = c.in_ok-items.items } in
    subst IsSound (sym c.keep.ensures) (recorded_sound r c.keep.new.self.spare c.items_of.new.self c.items_of.ensures.sound)

pub returns-clause-offers : goal.returns-clause-offers
returns-clause-offers c = subst (λ (x : Machine). offers_in x ≤ offers_in c.args.self.now + 1) (sym c.keep.ensures) (one_offer c.args.self.now c.items_of.new.self c.args.event.now c.in_ok-items.items c.items_of.ensures.sound c.requires.fits c.requires.stands c.in_ok-items.ensures.performs)

pub returns-clause-stands : goal.returns-clause-stands
returns-clause-stands c = let plays = returns-clause-plays c in standing_on c.args.self.now c.keep.new.self c.args.event.now plays.0 c.requires.stands plays.1.on
