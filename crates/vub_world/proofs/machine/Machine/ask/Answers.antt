use Rattle.std.proofs.Common.{List, sym, ap, subst, ◌∙◌}
use Rattle.std.specs.Prelude.{Result, Ok, Err, OnErr}
use Rattle.vub_report.specs.declared.items.Item.{Item}
use Rattle.vub_run.specs.Run.{played}
use Rattle.vub_schedule.specs.declared.types.Event.TheVariants as events
use Rattle.vub_world.specs.declared.machine.Machine.{Machine}
use Rattle.vub_world.specs.Machine.{IsSound}
use Rattle.vub_world.specs.MachineAt.{MachineAt, Performs}
use Rattle.vub_world.proofs.MachineDrivers.{ask_on, ask_idle}
use Rattle.vub_world.proofs.MachineEvents.{ok_then}
use Rattle.vub_world.proofs.MachineParts.{taken_side, with_side_at, side_kept, asked_sound}
use Rattle.vub_world.proofs.machine.Machine.ask.Goals as goal

on_err : {A B : Type 0} (r : Result A B) (P : Type 0) → P → OnErr r P
on_err (Ok x) P p = tt
on_err (Err e) P p = p

pub returns-then-not-ask-clause-kept : goal.returns-then-not-ask-clause-kept
returns-then-not-ask-clause-kept c = on_err c.idle.result _ (side_kept c.args.self.now c.from.result c.index_mut.result.now c.ask.new.self c.index_mut.ensures.value (c.ask.ensures.kept c.if-not-ask.true))

pub returns-then-not-ask-clause-sound : goal.returns-then-not-ask-clause-sound
returns-then-not-ask-clause-sound c = subst (λ (x : Machine). IsSound x) (sym (side_kept c.args.self.now c.from.result c.index_mut.result.now c.ask.new.self c.index_mut.ensures.value (c.ask.ensures.kept c.if-not-ask.true))) c.requires.sound

pub returns-then-not-ask-clause-performs : goal.returns-then-not-ask-clause-performs
returns-then-not-ask-clause-performs c =
    let w : Machine = c.args.self.now in
    let same = side_kept w c.from.result c.index_mut.result.now c.ask.new.self c.index_mut.ensures.value (c.ask.ensures.kept c.if-not-ask.true) in
    ok_then _ (λ is. Performs w (with_side_at w w.memory c.from.result c.ask.new.self) (events.Ask c.args.queue c.args.shape c.args.ask.now) is) c.idle.result (λ is noted es rs m s at. (
      m,
      ap (λ (js : List Item). played js m) noted ∙ ask_idle w c.args.queue c.index_mut.result.now m c.args.shape c.args.ask.now c.ask.result c.requires.sound (taken_side c.args.self.now c.from.result c.args.queue c.index_mut.result.now c.requires.sound c.from.ensures c.requires.event.0 c.index_mut.ensures.value) at c.ask.ensures.answer c.if-not-ask.true,
      subst (λ (x : Machine). MachineAt x m) (sym same) at,
    )) c.idle.ensures

pub returns-clause-sound : goal.returns-clause-sound
returns-clause-sound c =
    let w : Machine = c.args.self.now in
    subst (λ k. IsSound (with_side_at w w.memory k c.ask.new.self)) (sym c.from.ensures)
    (asked_sound w c.args.queue c.index_mut.result.now c.ask.new.self c.requires.sound (taken_side c.args.self.now c.from.result c.args.queue c.index_mut.result.now c.requires.sound c.from.ensures c.requires.event.0 c.index_mut.ensures.value) c.ask.ensures.frame c.ask.ensures.ring)

pub returns-clause-performs : goal.returns-clause-performs
returns-clause-performs c es rs m s at =
    let w : Machine = c.args.self.now in
    let a = c.ask.ensures in
    let done = ask_on w c.args.queue c.index_mut.result.now c.ask.new.self m c.args.shape c.args.ask.now c.ask.result c.requires.sound (taken_side c.args.self.now c.from.result c.args.queue c.index_mut.result.now c.requires.sound c.from.ensures c.requires.event.0 c.index_mut.ensures.value) at a.answer c.if-not-ask.false a.frame (a.asked c.if-not-ask.false) a.driver a.position in
    (done.0, ap (λ (is : List Item). played is done.0) c.nothing.ensures ∙ done.1, subst (λ k. MachineAt (with_side_at w w.memory k c.ask.new.self) done.0) (sym c.from.ensures) done.2)
