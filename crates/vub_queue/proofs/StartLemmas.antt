-- What the steps of a start store, what they leave, and what the bell tells.
use Rattle.std.proofs.Common.{◌≡◌, ℕ, List, inl, inr, refl, sym, ◌∙◌, subst, arith}
use Rattle.std.specs.Prelude.{Bool, true, false, if◌then◌else◌, Option, Some, None, Result, Ok, Err}
use Rattle.vub_base.specs.Causes.{HasCause}
use Rattle.vub_base.specs.Told.{WhereTold}
use Rattle.vub_base.specs.Bells.{BellState}
use Rattle.vub_shared.specs.Bytes.{Bytes}
use Rattle.vub_shared.specs.Spaces.{Names}
use Rattle.vub_shared.specs.Stores.{Store, Stores, Trails}
use Rattle.vub_infl_split.specs.declared.region.SplitRegion.{SplitRegion}
use Rattle.vub_infl_split.specs.declared.region.SplitStore.{SplitStore}
use Rattle.vub_infl_split.specs.Stores.{store_of}
use Rattle.vub_rec_split.specs.declared.plan.Recovered.{Recovered}
use Rattle.vub_rec_split.specs.Starts.{MakesStep, MakesOne, due_in, outcome as recovered_outcome}
use Rattle.vub_task.specs.TaskState.{GainsOne}
use Rattle.vub_queue.specs.declared.queue.Stepped.{Stepped}
use Rattle.vub_queue.specs.declared.queue.Stepped.TheVariants as says
use Rattle.vub_queue.specs.QueueState.{QueueState, outcome, has_rung, bell_outcome, StoresStep, TrailsStep, StoresStart, TrailsStart, RingsAt, Works, is_fetching}

-- ---- stores

module _ {M : Type 0} (told : M → Option Bytes) (trail : M → Option (List Store)) (names : M → Option Names) (handed : M → ℕ → Bool) (sizes : M → ℕ → ℕ) (before now : M) where
  -- the store that was due, where the turn says of the memory what its recovery answers of it
  stores_step : (x : Stepped) (y : Recovered) (region : SplitRegion) (step : Option SplitStore) → recovered_outcome y ≡ outcome x → MakesStep told trail names handed sizes before now y region step → StoresStep (told before) (told now) x region step
  stores_step x y region None same makes = makes.same_told
  stores_step x y region (Some step) same makes = subst (λ (z : Result (Unit {0}) (Unit {0})). Stores (told before) (told now) z (store_of region step)) same makes.stored

  trails_step : (x : Stepped) (y : Recovered) (region : SplitRegion) (step : Option SplitStore) → recovered_outcome y ≡ outcome x → MakesStep told trail names handed sizes before now y region step → TrailsStep (trail before) (trail now) x region step
  trails_step x y region None same makes = makes.same_trail
  trails_step x y region (Some step) same makes = subst (λ (z : Result (Unit {0}) (Unit {0})). Trails (trail before) (trail now) z (store_of region step)) same makes.trailed

  pub gains_by : (z : Result (Unit {0}) (Unit {0})) (st : Store) → Trails (trail before) (trail now) z st → GainsOne (trail before) (trail now)
  gains_by (Ok x) st h = inr (st, h)
  gains_by (Err e) st (inl h) = inl h
  gains_by (Err e) st (inr h) = inr (st, h)

  gains_step : (y : Recovered) (region : SplitRegion) (step : Option SplitStore) → MakesStep told trail names handed sizes before now y region step → GainsOne (trail before) (trail now)
  gains_step y region None makes = inl makes.same_trail
  gains_step y region (Some step) makes = gains_by (recovered_outcome y) (store_of region step) makes.trailed

  due_by : (s : QueueState) (m : Bytes) (b : Bool) → b ≡ false → (if b then None else due_in s.recovery m) ≡ due_in s.recovery m
  due_by s m true is = absurd (cc is)
  due_by s m false is = refl

  pub start_stores : (x : Stepped) (y : Recovered) (s : QueueState) → s.started ≡ false → recovered_outcome y ≡ outcome x → WhereTold (told before) (λ m. MakesStep told trail names handed sizes before now y s.recovery.region (due_in s.recovery m)) → StoresStart (told before) (told now) x s
  start_stores x y s resting same makes m now_told = subst (StoresStep (told before) (told now) x s.recovery.region) (sym (due_by s m s.started resting)) (stores_step x y s.recovery.region (due_in s.recovery m) same (makes m now_told))

  pub start_trails : (x : Stepped) (y : Recovered) (s : QueueState) → s.started ≡ false → recovered_outcome y ≡ outcome x → MakesOne told trail names handed sizes before now y s.recovery.region → WhereTold (told before) (λ m. MakesStep told trail names handed sizes before now y s.recovery.region (due_in s.recovery m)) → TrailsStart (told before) (trail before) (trail now) x s
  start_trails x y s resting same one makes = (
    gains_step y s.recovery.region one.step one.makes,
    λ m now_told. subst (TrailsStep (trail before) (trail now) x s.recovery.region) (sym (due_by s m s.started resting)) (trails_step x y s.recovery.region (due_in s.recovery m) same (makes m now_told)),
  )

-- ---- a turn that doesn't ring

pub silent_rings : (index : ℕ) (x : Stepped) (bell : Option BellState) → has_rung x ≡ false → RingsAt index x bell bell
silent_rings index says.Idle bell is = refl
silent_rings index (says.Stored tag) bell is = refl
silent_rings index (says.Accepted head) bell is = refl
silent_rings index (says.Looked head sector) bell is = refl
silent_rings index (says.Acted head sector) bell is = refl
silent_rings index (says.Synced head) bell is = refl
silent_rings index (says.Faulted head) bell is = refl
silent_rings index (says.Completed head) bell is = refl
silent_rings index says.Published bell is = refl
silent_rings index says.Belled bell is = absurd (cc is)
silent_rings index says.Started bell is = refl
silent_rings index says.SharedFault bell is = refl
silent_rings index says.BellFault bell is = absurd (cc is)
silent_rings index (says.Broken fault) bell is = refl
silent_rings index (says.Damaged fault) bell is = refl

silent_outcome : (x : Stepped) → has_rung x ≡ false → bell_outcome x ≡ Ok tt
silent_outcome says.Idle is = refl
silent_outcome (says.Stored tag) is = refl
silent_outcome (says.Accepted head) is = refl
silent_outcome (says.Looked head sector) is = refl
silent_outcome (says.Acted head sector) is = refl
silent_outcome (says.Synced head) is = refl
silent_outcome (says.Faulted head) is = refl
silent_outcome (says.Completed head) is = refl
silent_outcome says.Published is = refl
silent_outcome says.Belled is = refl
silent_outcome says.Started is = refl
silent_outcome says.SharedFault is = refl
silent_outcome says.BellFault is = absurd (cc is)
silent_outcome (says.Broken fault) is = refl
silent_outcome (says.Damaged fault) is = refl

pub silent_cause : (faults : ℕ) (x : Stepped) → has_rung x ≡ false → HasCause faults faults (bell_outcome x)
silent_cause faults x is = subst (λ (z : Result (Unit {0}) (Unit {0})). HasCause faults faults z) (sym (silent_outcome x is)) (record { later = omega arith; failed = tt; quiet = refl })

pub silent_fetching : (x : Stepped) → is_fetching x ≡ true → has_rung x ≡ false
silent_fetching says.Idle is = refl
silent_fetching (says.Stored tag) is = refl
silent_fetching (says.Accepted head) is = refl
silent_fetching (says.Looked head sector) is = refl
silent_fetching (says.Acted head sector) is = refl
silent_fetching (says.Synced head) is = refl
silent_fetching (says.Faulted head) is = refl
silent_fetching (says.Completed head) is = refl
silent_fetching says.Published is = refl
silent_fetching says.Belled is = absurd (cc is)
silent_fetching says.Started is = refl
silent_fetching says.SharedFault is = refl
silent_fetching says.BellFault is = absurd (cc is)
silent_fetching (says.Broken fault) is = refl
silent_fetching (says.Damaged fault) is = refl

pub silent_worked : (place : ℕ) (x : Stepped) (s t : QueueState) → Works place x s t → has_rung x ≡ false
silent_worked place says.Idle s t h = refl
silent_worked place (says.Stored tag) s t h = refl
silent_worked place (says.Accepted head) s t h = absurd h
silent_worked place (says.Looked head sector) s t h = refl
silent_worked place (says.Acted head sector) s t h = refl
silent_worked place (says.Synced head) s t h = refl
silent_worked place (says.Faulted head) s t h = refl
silent_worked place (says.Completed head) s t h = refl
silent_worked place says.Published s t h = absurd h
silent_worked place says.Belled s t h = absurd h
silent_worked place says.Started s t h = absurd h
silent_worked place says.SharedFault s t h = refl
silent_worked place says.BellFault s t h = absurd h
silent_worked place (says.Broken fault) s t h = refl
silent_worked place (says.Damaged fault) s t h = absurd h

pub rung_absurd : (x : Stepped) (P : Type 0) → has_rung x ≡ false → has_rung x ≡ true → P
rung_absurd x P silent rung = absurd (cc (sym silent ∙ rung))
