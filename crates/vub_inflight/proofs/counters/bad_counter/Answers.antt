use Rattle.std.proofs.Common.{◌≡◌, ap, sym, ◌∙◌, arith}
use Rattle.std.proofs.lemmas.Grind.{common_steps}
use Rattle.vub_base.specs.Pending.{sorted}
use Rattle.vub_inflight.specs.Entries.{same_counter}
use Rattle.vub_inflight.specs.Neighbours.{twins}
use Rattle.vub_inflight.proofs.Twins.{same_counter_twins}
use Rattle.vub_inflight.proofs.counters.bad_counter.Goals as goal

pub returns-clause-fault : goal.returns-clause-fault
returns-clause-fault c counter num is_open n is =
    let same : same_counter c.args.entries.now.items ≡ twins (sorted c.args.entries.now.items) = ap same_counter is ∙ same_counter_twins counter num is_open n ∙ ap (λ xs. twins (sorted xs)) (sym is) in
    grind (arith, common_steps)
