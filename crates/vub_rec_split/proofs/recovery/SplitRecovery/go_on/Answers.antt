use Rattle.std.proofs.Common.{◌∙◌, sym, subst, Option, Some}
use Rattle.vub_shared.proofs.FrameLemmas.{loads_before}
use Rattle.vub_infl_split.specs.declared.region.SplitStore.{SplitStore}
use Rattle.vub_infl_split.specs.Stores.{store_of}
use Rattle.vub_rec_split.specs.Starts.{outcome, MakesStep}
use Rattle.vub_rec_split.proofs.StartLemmas.{stored_tells, store_due, store_answer, store_state, damaged_state}
use Rattle.vub_rec_split.proofs.recovery.SplitRecovery.go_on.Goals as goal

pub returns-in-Ok-Store-clause-answers : goal.returns-in-Ok-Store-clause-answers
returns-in-Ok-Store-clause-answers g c m told fine =
    c.make.ensures.said fine ∙ sym (store_answer c.args.self.now m c.in-Ok-Store.plan c.in-Ok-Store.step (sym c.in-Ok-Store.field-0-is ∙ c.in-Ok-Store.ensures.found m told))

pub returns-in-Ok-Store-clause-state : goal.returns-in-Ok-Store-clause-state
returns-in-Ok-Store-clause-state g c m told fine =
    c.make.ensures.state fine ∙ sym (store_state c.args.self.now m c.in-Ok-Store.plan c.in-Ok-Store.step (sym c.in-Ok-Store.field-0-is ∙ c.in-Ok-Store.ensures.found m told))

pub returns-in-Ok-Store-clause-due : goal.returns-in-Ok-Store-clause-due
returns-in-Ok-Store-clause-due g c m told =
    subst (λ (due : Option SplitStore). MakesStep g.M.Shared.told g.M.Shared.trail g.M.Shared.names g.M.Shared.handed g.M.Shared.sizes c.args.mem.now c.make.new.mem c.make.result c.args.self.now.region due)
    (sym (store_due c.args.self.now m c.in-Ok-Store.plan c.in-Ok-Store.step (sym c.in-Ok-Store.field-0-is ∙ c.in-Ok-Store.ensures.found m told)))
    (loads_before _ _ _ _ _ _ _ _ (outcome c.make.result) (store_of c.args.self.now.region c.in-Ok-Store.step) c.find.ensures.only_loads c.make.ensures.store)

pub returns-in-Ok-Store-clause-one_store : goal.returns-in-Ok-Store-clause-one_store
returns-in-Ok-Store-clause-one_store g c = record {
  step = Some c.in-Ok-Store.step;
  tells = stored_tells c.make.result c.in-Ok-Store.step c.make.ensures.said;
  makes = loads_before _ _ _ _ _ _ _ _ (outcome c.make.result) (store_of c.args.self.now.region c.in-Ok-Store.step) c.find.ensures.only_loads c.make.ensures.store;
}

pub returns-in-Ok-Damaged-clause-state : goal.returns-in-Ok-Damaged-clause-state
returns-in-Ok-Damaged-clause-state g c m told fine =
    sym (damaged_state c.args.self.now m c.in-Ok-Damaged.fault (sym c.in-Ok-Damaged.field-0-is ∙ c.in-Ok-Damaged.ensures.found m told))
