use Rattle.std.proofs.Common.{◌≡◌, ◌∙◌, sym, Some, None}
use Rattle.vub_rec_split.proofs.StartLemmas.{found_step}
use Rattle.vub_rec_split.proofs.recovery.SplitRecovery.find.Goals as goal

pub returns-in-Some-clause-found : goal.returns-in-Some-clause-found
returns-in-Some-clause-found g c m told =
    let told_2 : g.M.Shared.told c.begin.new.mem ≡ Some m = c.begin.ensures.only_loads.same_told ∙ told in
    found_step c.args.self.now m c.in-Ok.plan (Some c.in-Some.step) (sym c.in-Ok.is ∙ c.in_ok-plan.ensures.begun m told) (sym c.in-Some.is ∙ c.in_ok-step.ensures.due m told_2)

pub returns-in_ok-open_entries-in-None-clause-found : goal.returns-in_ok-open_entries-in-None-clause-found
returns-in_ok-open_entries-in-None-clause-found g c m told =
    let told_2 : g.M.Shared.told c.begin.new.mem ≡ Some m = c.begin.ensures.only_loads.same_told ∙ told in
    found_step c.args.self.now m c.in-Ok.plan None (sym c.in-Ok.is ∙ c.in_ok-plan.ensures.begun m told) (sym c.in-None.is ∙ c.in_ok-step.ensures.due m told_2)
