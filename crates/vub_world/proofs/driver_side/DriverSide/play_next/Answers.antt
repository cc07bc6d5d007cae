use Rattle.std.proofs.Common.{◌≡◌, sym, ◌∙◌, true, false, not, Bool, ◌+◌, ℕ, ap, subst}
use Rattle.vub_steps.specs.declared.readiness.Choice.{Choice}
use Rattle.vub_steps.specs.declared.readiness.Turn.{Turn}
use Rattle.vub_world.specs.DriverSides.{Parts, parts_in}
use Rattle.vub_queue.specs.declared.queue.Stepped.{Stepped}
use Rattle.vub_world.specs.Sequences.{next_turn}
use Rattle.vub_world.specs.MachineDevice.{accepts, turn_here}
use Rattle.vub_world.specs.MachineSteps.{StepGoes}
use Rattle.vub_world.proofs.MachineTurnsSteps.{step_chosen, count_more, count_same}
use Rattle.vub_world.proofs.driver_side.DriverSide.play_next.Goals as goal
use Rattle.vub_world.proofs.driver_side.DriverSide.play_next.Goals.{then-matches, else-matches, in-Accepted, in_default}

pub returns-clause-goes : goal.returns-clause-goes
returns-clause-goes c m reached at small =
    let q : ℕ = c.args.self.now.index in
    let w : Parts = parts_in c.args.memory.now c.args.self.now c.args.backend.now c.args.disk.now in
    let now : Parts = parts_in c.play-stepped.new.memory c.args.self.now c.play-stepped.new.backend c.play-stepped.new.disk in
    let x : Stepped = c.play-stepped.result in
    let taken : ℕ = c.args.accepted.now in
    let t : Turn = turn_here q w.side.header c.next.result m in
    let u : Turn = next_turn q w.side.header c.args.sequence taken m in
    let counts : c.if-matches.accepted ≡ taken + accepts x = elim c.if-matches.branch [
      | then-matches i ↦ elim c.match-matches.branch [
        | in-Accepted b ↦ i.accepted-is ∙ i.saturating_add.ensures ∙ count_more x b.in-Accepted.field-0 taken b.in-Accepted.is small
        | in_default b ↦ absurd (let fails : true ≡ false = sym i.if-matches.true ∙ b.matches-is in cc)
      ]
      | else-matches i ↦ elim c.match-matches.branch [
        | in-Accepted b ↦ absurd (let fails : true ≡ false = sym b.matches-is ∙ i.if-matches.false in cc)
        | in_default b ↦ i.accepted-is ∙ count_same x taken b.in_default.not-Accepted
      ]
    ] in
    step_chosen q (not c.is_idle.result) t u w now m c.args.room.now.items c.play-stepped.new.room.items taken c.if-matches.accepted (accepts x) (λ attached. ap (λ (choice : Choice). turn_here q w.side.header choice m) c.next.ensures) counts
    (subst (λ (b : Bool). StepGoes q (not b) t w now m c.args.room.now.items c.play-stepped.new.room.items 0 (accepts x)) (sym c.is_idle.ensures) (c.play-stepped.ensures.goes m reached at))
