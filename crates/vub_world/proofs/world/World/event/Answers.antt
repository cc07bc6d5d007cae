use Rattle.std.proofs.Common.{refl, subst}
use Rattle.vub_world.specs.declared.machine.Machine.{Machine}
use Rattle.vub_world.specs.Lending.{Lends}
use Rattle.vub_world.proofs.world.World.event.Goals as goal

pub returns : goal.returns
returns c =
    let now : Machine = c.event.follows.lender-at-none in
    let x = c.event.follows.holds-at-none in
    ((refl, (λ w. tt), subst (λ (w : Machine). Lends w now c.args.event.now c.event.result) c.self.view_is x.3), record { after = tt })
