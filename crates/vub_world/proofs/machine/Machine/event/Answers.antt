use Rattle.std.proofs.Common.{◌≡◌, ◌<◌, ◌-◌, ◌^◌, refl, ap, sym, ◌∙◌, subst, true, false}
use Rattle.std.specs.Prelude.{Ok}
use Rattle.std.proofs.lemmas.Result.{err_from_is_err_and}
use Rattle.vub_schedule.specs.declared.types.Event.{Event}
use Rattle.vub_world.specs.declared.machine.Machine.{Machine}
use Rattle.vub_world.specs.DriverSides.{offers_in}
use Rattle.vub_world.specs.Lending.{Lends}
use Rattle.vub_world.specs.Machine.{IsSound, HaveNumbers, KeepsLast}
use Rattle.vub_world.specs.MachineAt.{IsStanding}
use Rattle.vub_world.proofs.MachineLending.{numbers_few, none_left, keeps_last, lends_played, lends_nothing, lends_last}
use Rattle.vub_world.proofs.machine.Machine.event.Goals.{then-has_numbers+in_ok-perform, else-has_numbers}
use Rattle.vub_world.proofs.machine.Machine.event.Goals as goal

pub perform-requires-clause-more : goal.perform-requires-clause-more
perform-requires-clause-more c = numbers_few c.args.self.now c.requires.sound (c.has_numbers.ensures.0 c.if-has_numbers.true)

pub returns-in_err-perform : goal.returns-in_err-perform
returns-in_err-perform c =
    let w : Machine = c.args.self.now in
    let now : Machine = c.perform.new.self in
    let few : offers_in w < 2 ^ 64 - 1 = numbers_few w c.requires.sound (c.has_numbers.ensures.0 c.if-has_numbers.true) in
    let same : now ≡ w = c.in_err-perform.ensures.kept in
    let p = err_from_is_err_and c.from_residual.result c.from_residual.ensures.1 in
    let lends : Lends w now c.args.event.now c.from_residual.result = lends_nothing w now c.args.event.now c.from_residual.result p.0 few same p.1 in
    ((refl, (λ x. tt), (c.perform.ensures.sound, c.perform.ensures.stands, subst KeepsLast (sym same) c.requires.last, lends)), record { after = tt })

pub returns : goal.returns
returns c =
    let w : Machine = c.args.self.now in
    let now : Machine = c.if-has_numbers.self in
    let e : Event = c.args.event.now in
    let all : IsSound now × IsStanding now × KeepsLast now × Lends w now e (Ok c.last.result) = elim c.if-has_numbers.branch [
      | then-has_numbers+in_ok-perform b ↦
          let next : Machine = b.perform.new.self in
          let few : offers_in w < 2 ^ 64 - 1 = numbers_few w c.requires.sound (c.has_numbers.ensures.0 b.if-has_numbers.true) in
          let plays = b.in_ok-perform.ensures.plays in
          let lends : Lends w next e (Ok c.last.result) = lends_played w next e plays.0 c.last.result few b.perform.ensures.header b.perform.ensures.offers plays.1 (c.last.ensures ∙ ap (λ (x : Machine). x.last) b.self-is) in
          subst (λ (x : Machine). IsSound x × IsStanding x × KeepsLast x × Lends w x e (Ok c.last.result)) (sym b.self-is) (b.perform.ensures.sound, b.perform.ensures.stands, keeps_last next plays.0 plays.1.last, lends)
      | else-has_numbers b ↦
          let none : HaveNumbers w → ⊥ = λ have. absurd (let fails : true ≡ false = sym (c.has_numbers.ensures.1 have) ∙ b.if-has_numbers.false in cc) in
          let lends : Lends w w e (Ok c.last.result) = lends_last w e c.last.result (none_left w none) (c.last.ensures ∙ ap (λ (x : Machine). x.last) b.self-is) in
          subst (λ (x : Machine). IsSound x × IsStanding x × KeepsLast x × Lends w x e (Ok c.last.result)) (sym b.self-is) (c.requires.sound, c.requires.stands, c.requires.last, lends)
    ] in
    ((refl, (λ x. tt), all), record { after = tt })
