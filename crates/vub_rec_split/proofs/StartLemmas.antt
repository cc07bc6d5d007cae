-- What the first step finds.
use Rattle.std.proofs.Common.{◌≡◌, ◌≢◌, Option, None, Some, refl, ap, sym, ◌∙◌}
use Rattle.std.specs.Prelude.{Result, Ok, Err}
use Rattle.vub_base.specs.declared.reading.RegionFault.{RegionFault}
use Rattle.vub_base.specs.declared.store.Tag.{Tag}
use Rattle.vub_shared.specs.Bytes.{Bytes}
use Rattle.vub_infl_split.specs.declared.region.SplitStore.{SplitStore}
use Rattle.vub_steps.specs.declared.steps.Plan.{Plan}
use Rattle.vub_rec_split.specs.declared.plan.Found.TheVariants as finds
use Rattle.vub_rec_split.specs.declared.plan.Recovered.{Recovered}
use Rattle.vub_rec_split.specs.declared.plan.Recovered.TheVariants as recovered
use Rattle.vub_infl_split.specs.Stores.{tag_of}
use Rattle.vub_rec_split.specs.Starts.{RecoveryState, begun, unless_fault, step_of, fault_in, plan_in, sight_in, due_in, found, found_in, answered, answer_in, gone_on, state_after, moved, Tells}

begun_fine : (fault : Option RegionFault) (p q : Plan) → ◌≡◌ {A = Result Plan RegionFault} (Ok p) (begun fault q) → (fault ≡ None) × (p ≡ q)
begun_fine None p q is = (refl, cc)
begun_fine (Some fault) p q is = absurd (let fails : ◌≡◌ {A = Result Plan RegionFault} (Ok p) (Err fault) = is in cc)

begun_bad : (fault : Option RegionFault) (x : RegionFault) (q : Plan) → ◌≡◌ {A = Result Plan RegionFault} (Err x) (begun fault q) → fault ≡ Some x
begun_bad None x q is = absurd (let fails : ◌≡◌ {A = Result Plan RegionFault} (Err x) (Ok q) = is in cc)
begun_bad (Some fault) x q is = ap (λ (y : RegionFault). Some y) (let e : ◌≡◌ {A = Result Plan RegionFault} (Err x) (Err fault) = is in cc)

-- where there is no fault the plan's step is found
pub found_step : (s : RecoveryState) (m : Bytes) (plan : Plan) (step : Option SplitStore) → ◌≡◌ {A = Result Plan RegionFault} (Ok plan) (begun (fault_in s m) (plan_in s m)) → step ≡ step_of s.region.size (sight_in s m) plan s.done
    → found None step plan ≡ found_in s m
found_step s m plan step is due =
    let both = begun_fine (fault_in s m) plan (plan_in s m) is in
    let next : due_in s m ≡ step = ap (λ (f : Option RegionFault). unless_fault f (step_of s.region.size (sight_in s m) (plan_in s m) s.done)) both.0 ∙ ap (λ (p : Plan). step_of s.region.size (sight_in s m) p s.done) (sym both.1) ∙ sym due in
    sym (ap (λ (f : Option RegionFault). found f (due_in s m) (plan_in s m)) both.0 ∙ ap (λ (o : Option SplitStore). found None o (plan_in s m)) next ∙ ap (λ (p : Plan). found None step p) (sym both.1))

pub found_fault : (s : RecoveryState) (m : Bytes) (fault : RegionFault) → ◌≡◌ {A = Result Plan RegionFault} (Err fault) (begun (fault_in s m) (plan_in s m)) → finds.Damaged fault ≡ found_in s m
found_fault s m fault is = sym (ap (λ (f : Option RegionFault). found f (due_in s m) (plan_in s m)) (begun_bad (fault_in s m) fault (plan_in s m) is))

-- ---- what is found says what the step does

found_store : (fault : Option RegionFault) (due : Option SplitStore) (p plan : Plan) (step : SplitStore) → finds.Store plan step ≡ found fault due p → (fault ≡ None) × (due ≡ Some step) × (p ≡ plan)
found_store (Some x) due p plan step is = absurd (let fails : finds.Store plan step ≡ finds.Damaged x = is in cc)
found_store None None p plan step is = absurd (let fails : finds.Store plan step ≡ finds.Nothing = is in cc)
found_store None (Some x) p plan step is =
    let same : finds.Store plan step ≡ finds.Store p x = is in
    (refl, ap (λ (y : SplitStore). Some y) cc, cc)

found_damaged : (fault : Option RegionFault) (due : Option SplitStore) (p : Plan) (x : RegionFault) → finds.Damaged x ≡ found fault due p → fault ≡ Some x
found_damaged (Some fault) due p x is = ap (λ (y : RegionFault). Some y) (let same : finds.Damaged x ≡ finds.Damaged fault = is in cc)
found_damaged None None p x is = absurd (let fails : finds.Damaged x ≡ finds.Nothing = is in cc)
found_damaged None (Some step) p x is = absurd (let fails : finds.Damaged x ≡ finds.Store p step = is in cc)

pub store_due : (s : RecoveryState) (m : Bytes) (plan : Plan) (step : SplitStore) → finds.Store plan step ≡ found_in s m → due_in s m ≡ Some step
store_due s m plan step is = (found_store (fault_in s m) (due_in s m) (plan_in s m) plan step is).1

pub store_answer : (s : RecoveryState) (m : Bytes) (plan : Plan) (step : SplitStore) → finds.Store plan step ≡ found_in s m → answer_in s m ≡ recovered.Stored (tag_of step)
store_answer s m plan step is =
    let parts = found_store (fault_in s m) (due_in s m) (plan_in s m) plan step is in
    ap (λ (f : Option RegionFault). answered f (due_in s m)) parts.0 ∙ ap (λ (o : Option SplitStore). answered None o) parts.1

pub store_state : (s : RecoveryState) (m : Bytes) (plan : Plan) (step : SplitStore) → finds.Store plan step ≡ found_in s m → state_after s m ≡ moved step (record s { plan = Some plan })
store_state s m plan step is =
    let parts = found_store (fault_in s m) (due_in s m) (plan_in s m) plan step is in
    ap (λ (f : Option RegionFault). gone_on f (due_in s m) (plan_in s m) s) parts.0 ∙ ap (λ (o : Option SplitStore). gone_on None o (plan_in s m) s) parts.1
    ∙ ap (λ (p : Plan). moved step (record s { plan = Some p })) parts.2

pub damaged_state : (s : RecoveryState) (m : Bytes) (fault : RegionFault) → finds.Damaged fault ≡ found_in s m → state_after s m ≡ s
damaged_state s m fault is = ap (λ (f : Option RegionFault). gone_on f (due_in s m) (plan_in s m) s) (found_damaged (fault_in s m) (due_in s m) (plan_in s m) fault is)

-- a store that was made is told by its tag
pub stored_tells : (result : Recovered) (step : SplitStore) → (result ≢ recovered.Failed → result ≡ recovered.Stored (tag_of step)) → Tells result (Some step)
stored_tells (recovered.Stored tag) step said = ap (λ (t : Tag). Some t) (sym (tag_is (said (λ e. let fails : recovered.Stored tag ≡ recovered.Failed = e in cc))))
  where
    tag_is : {t u : Tag} → recovered.Stored t ≡ recovered.Stored u → t ≡ u
    tag_is e = cc
stored_tells recovered.Failed step said = tt
stored_tells recovered.Done step said = absurd (let fails : recovered.Done ≡ recovered.Stored (tag_of step) = said (λ e. let other : recovered.Done ≡ recovered.Failed = e in cc) in cc)
stored_tells (recovered.Damaged fault) step said = absurd (let fails : recovered.Damaged fault ≡ recovered.Stored (tag_of step) = said (λ e. let other : recovered.Damaged fault ≡ recovered.Failed = e in cc) in cc)
