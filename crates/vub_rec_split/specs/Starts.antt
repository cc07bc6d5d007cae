-- A start of a split queue over its in-flight region: what its first step finds, and its stores, one a step (vhost-user,
-- "Inflight I/O tracking").
use Rattle.std.specs.Prelude.{◌≡◌, ◌<◌, ◌≤◌, ℕ, ◌+◌, ◌-◌, ◌==◌, ◌&&◌, Bool, nat_lt, nat_le, if◌then◌else◌, List, Option, Some, None, Result, Ok, Err, ⊤}
use Rattle.std.specs.Option.{option_map}
use Rattle.vub_base.specs.declared.reading.RegionFault.{RegionFault}
use Rattle.vub_base.specs.declared.reading.RegionFault.TheVariants.{BadBase}
use Rattle.vub_base.specs.declared.pending.Pending.{Pending}
use Rattle.vub_shared.specs.Bytes.{Bytes}
use Rattle.vub_shared.specs.Spaces.{Names}
use Rattle.vub_shared.specs.Stores.{Store, after_store}
use Rattle.vub_shared.specs.Frames.{OnlyLoads, MakesStore}
use Rattle.vub_split.specs.declared.split.SplitRing.{SplitRing}
use Rattle.vub_split.specs.Split.{RingLies, used_idx_word}
use Rattle.vub_infl_split.specs.declared.region.SplitRegion.{SplitRegion}
use Rattle.vub_infl_split.specs.declared.region.SplitStore.{SplitStore}
use Rattle.vub_infl_split.specs.declared.region.SplitStore.TheVariants.{SI1, SI2, SI3, SR1, SR2}
use Rattle.vub_infl_split.specs.Region.{RegionWords, RegionLies, words_of}
use Rattle.vub_infl_split.specs.Stores.{store_of, tag_of, NamesEntry}
use Rattle.vub_infl_split.specs.Readings.{made_fault, split_entries, unchecked_entries}
use Rattle.vub_steps.specs.declared.steps.Plan.{Plan}
use Rattle.vub_steps.specs.declared.steps.Plan.TheVariants.{New, Settles, Settled}
use Rattle.vub_steps.specs.Plans.{plan_of}
use Rattle.vub_rec_split.specs.declared.plan.Found.{Found}
use Rattle.vub_rec_split.specs.declared.plan.Found.TheVariants as finds
use Rattle.vub_rec_split.specs.declared.plan.Recovered.{Recovered}
use Rattle.vub_rec_split.specs.declared.plan.Recovered.TheVariants.{Stored, Done, Failed, Damaged}

-- ---- what the first step finds, where used.idx is `used`

-- a queue whose region was never made starts where its used ring stands
abbrev pub bad_base : ℕ → ℕ → Option RegionFault
bad_base base used = if base == used then None else Some (BadBase base)

-- the first cause for which a queue of n descriptors can't start
abbrev pub start_fault : ℕ → ℕ → ℕ → RegionWords → Option RegionFault
start_fault base n used w = if w.version == 0 then bad_base base used else made_fault n used w

-- ---- the step in place `done` of a plan

-- what a step sees: used.idx, and the entry that is linked next
pub record Sight : Type 0 where
  pub used : ℕ
  pub link : ℕ

-- the features, an entry each, and the header
abbrev pub new_step : ℕ → Sight → ℕ → SplitStore
new_step n sight done = if done == 0 then SI1 else if nat_le done n then SI2 (done - 1) else SI3 sight.used

-- an entry each of the batch, up to a link that is no entry, and used_idx
abbrev pub settle_step : ℕ → Sight → ℕ → ℕ → SplitStore
settle_step n sight count done = if nat_lt done count && nat_lt sight.link n then SR1 sight.link else SR2 sight.used

abbrev pub step_of : ℕ → Sight → Plan → ℕ → Option SplitStore
step_of n sight New done = Some (new_step n sight done)
step_of n sight (Settles count) done = Some (settle_step n sight count done)
step_of n sight Settled done = None

-- ---- a recovery

-- its queue, the base that it starts from, its plan once the first step found it, how many of its steps are done, and the entry
-- that was cleared last of a batch
pub record RecoveryState : Type 0 where
  pub ring : SplitRing
  pub region : SplitRegion
  pub base : ℕ
  pub plan : Option Plan
  pub done : ℕ
  pub cleared : Option ℕ

-- the first link of a batch is last_batch_head, and then comes the next of the entry before
abbrev pub link_after : Option ℕ → RegionWords → ℕ
link_after None w = w.last_batch_head
link_after (Some entry) w = w.next entry

abbrev pub sight_in : RecoveryState → Bytes → Sight
sight_in s m = record { used = used_idx_word s.ring m; link = link_after s.cleared (words_of s.region m) }

-- the checks are made where there is no plan yet
abbrev pub fault_if : Option Plan → Option RegionFault → Option RegionFault
fault_if None fault = fault
fault_if (Some plan) fault = None

abbrev pub fault_in : RecoveryState → Bytes → Option RegionFault
fault_in s m = fault_if s.plan (start_fault s.base s.region.size (used_idx_word s.ring m) (words_of s.region m))

abbrev pub plan_or : Option Plan → Plan → Plan
plan_or None plan = plan
plan_or (Some plan) other = plan

abbrev pub plan_in : RecoveryState → Bytes → Plan
plan_in s m = plan_or s.plan (plan_of (used_idx_word s.ring m) (words_of s.region m))

abbrev pub unless_fault : Option RegionFault → Option SplitStore → Option SplitStore
unless_fault None step = step
unless_fault (Some fault) step = None

-- the step that is due: none where there is a fault or no store is left
abbrev pub due_in : RecoveryState → Bytes → Option SplitStore
due_in s m = unless_fault (fault_in s m) (step_of s.region.size (sight_in s m) (plan_in s m) s.done)

-- what a step answers that doesn't fail
abbrev pub answered : Option RegionFault → Option SplitStore → Recovered
answered (Some fault) step = Damaged fault
answered None (Some step) = Stored (tag_of step)
answered None None = Done

abbrev pub answer_in : RecoveryState → Bytes → Recovered
answer_in s m = answered (fault_in s m) (due_in s m)

-- the recovery after a store of its plan: the last one of each plan leaves nothing to settle
abbrev pub plan_after : SplitStore → Option Plan → Option Plan
plan_after SI1 plan = plan
plan_after (SI2 i) plan = plan
plan_after (SR1 i) plan = plan
plan_after step plan = Some Settled

abbrev pub done_after : SplitStore → ℕ → ℕ
done_after SI1 done = done + 1
done_after (SI2 i) done = done + 1
done_after (SR1 i) done = done + 1
done_after step done = done

abbrev pub cleared_after : SplitStore → Option ℕ → Option ℕ
cleared_after (SR1 i) cleared = Some i
cleared_after step cleared = cleared

abbrev pub moved : SplitStore → RecoveryState → RecoveryState
moved step s = record s { plan = plan_after step s.plan; done = done_after step s.done; cleared = cleared_after step s.cleared }

abbrev pub gone_on : Option RegionFault → Option SplitStore → Plan → RecoveryState → RecoveryState
gone_on (Some fault) step plan s = s
gone_on None (Some step) plan s = moved step (record s { plan = Some plan })
gone_on None None plan s = record s { plan = Some Settled }

abbrev pub state_after : RecoveryState → Bytes → RecoveryState
state_after s m = gone_on (fault_in s m) (due_in s m) (plan_in s m) s

-- ---- a call of `step`

-- ring and region lie in their spaces and have one size
pub record StartLies (sizes : ℕ → ℕ) (s : RecoveryState) : Type 0 where
  pub ring : RingLies sizes s.ring
  pub region : RegionLies sizes s.region
  pub same_size : s.region.size ≡ s.ring.size

-- how many stores it makes at most, of a queue of n descriptors
abbrev pub stores_left : ℕ → Option Plan → ℕ → ℕ
stores_left n None done = n + 2
stores_left n (Some New) done = n + 2 - done
stores_left n (Some (Settles count)) done = count + 1 - done
stores_left n (Some Settled) done = 0

-- no batch of more entries than there are is followed, and no step is made twice
abbrev pub PlanFits : ℕ → Option Plan → ℕ → Type 0
PlanFits n None done = done ≡ 0
PlanFits n (Some New) done = done ≤ n + 1
PlanFits n (Some (Settles count)) done = (count ≤ n) × (done ≤ count)
PlanFits n (Some Settled) done = ⊤

-- a step that isn't the last of its plan leaves another one
abbrev pub StepFits : ℕ → Plan → ℕ → SplitStore → Type 0
StepFits n plan done SI1 = 1 < stores_left n (Some plan) done
StepFits n plan done (SI2 i) = 1 < stores_left n (Some plan) done
StepFits n plan done (SR1 i) = 1 < stores_left n (Some plan) done
StepFits n plan done step = 0 < stores_left n (Some plan) done

-- over any memory it stays the recovery of its queue
pub record SameQueue (s s' : RecoveryState) : Type 0 where
  pub ring : s'.ring ≡ s.ring
  pub region : s'.region ≡ s.region
  pub base : s'.base ≡ s.base

abbrev pub outcome : Recovered → Result ⊤ ⊤
outcome Failed = Err tt
outcome result = Ok tt

-- it makes the store of this step, or only loads where there is none
abbrev pub MakesStep : {M : Type 0} → (M → Option Bytes) → (M → Option (List Store)) → (M → Option Names) → (M → ℕ → Bool) → (M → ℕ → ℕ) → M → M → Recovered → SplitRegion → Option SplitStore → Type 0
MakesStep told trail names handed sizes before now result region None = OnlyLoads told trail names handed sizes before now
MakesStep told trail names handed sizes before now result region (Some step) = MakesStore told trail names handed sizes before now (outcome result) (store_of region step)

-- over any memory: what it answers tells its store
abbrev pub Tells : Recovered → Option SplitStore → Type 0
Tells (Stored tag) step = option_map tag_of step ≡ Some tag
Tells Failed step = ⊤
Tells result step = step ≡ None

pub record MakesOne {M : Type 0} (told : M → Option Bytes) (trail : M → Option (List Store)) (names : M → Option Names) (handed : M → ℕ → Bool) (sizes : M → ℕ → ℕ) (before now : M) (result : Recovered) (region : SplitRegion) : Type 0 where
  pub step : Option SplitStore
  pub tells : Tells result step
  pub makes : MakesStep told trail names handed sizes before now result region step

-- the memory after it
abbrev pub memory_after : SplitRegion → Option SplitStore → Bytes → Bytes
memory_after region None m = m
memory_after region (Some step) m = after_store (store_of region step) m

-- what is read of the region, and what the last step takes from it, with no check
abbrev pub entries_in : RecoveryState → Bytes → List Pending
entries_in s m = split_entries s.region.size (used_idx_word s.ring m) (words_of s.region m)

abbrev pub unchecked_in : RecoveryState → Bytes → List Pending
unchecked_in s m = unchecked_entries s.region.size (used_idx_word s.ring m) (words_of s.region m)

-- ---- what is to be done, before it is done

abbrev pub found : Option RegionFault → Option SplitStore → Plan → Found
found (Some fault) step plan = finds.Damaged fault
found None (Some step) plan = finds.Store plan step
found None None plan = finds.Nothing

abbrev pub found_in : RecoveryState → Bytes → Found
found_in s m = found (fault_in s m) (due_in s m) (plan_in s m)

-- over any memory: a store within the region, and a plan that makes no more stores than are left
pub record StoreFits (s : RecoveryState) (plan : Plan) (step : SplitStore) : Type 0 where
  pub plan_fits : PlanFits s.region.size (Some plan) s.done
  pub within : NamesEntry s.region.size step
  pub step_fits : StepFits s.region.size plan s.done step
  pub no_more : stores_left s.region.size (Some plan) s.done ≤ stores_left s.region.size s.plan s.done

abbrev pub FoundFits : RecoveryState → Found → Type 0
FoundFits s (finds.Store plan step) = StoreFits s plan step
FoundFits s found = ⊤

-- the plan, or why there is none
abbrev pub begun : Option RegionFault → Plan → Result Plan RegionFault
begun None plan = Ok plan
begun (Some fault) plan = Err fault
