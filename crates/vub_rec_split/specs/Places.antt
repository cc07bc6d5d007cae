-- Where a recovery stands in the steps of its plan.
use Rattle.std.specs.Prelude.{◌≡◌, ◌<◌, ◌≤◌, ℕ, length, Option, Some, None, ⊤}
use Rattle.vub_inflight.specs.Links.{link_at}
use Rattle.vub_infl_split.specs.Region.{RegionWords}
use Rattle.vub_steps.specs.declared.steps.Plan.{Plan}
use Rattle.vub_steps.specs.declared.steps.Plan.TheVariants.{Settles, Settled}
use Rattle.vub_steps.specs.Steps.{plan_steps}
use Rattle.vub_rec_split.specs.Starts.{RecoveryState, link_after}

-- it hasn't begun
pub record IsFresh (r : RecoveryState) : Type 0 where
  pub no_plan : r.plan ≡ None
  pub none_done : r.done ≡ 0
  pub none_cleared : r.cleared ≡ None

-- the entry that is linked next is the one in this place of the batch that is settled
abbrev pub FollowsLinks : Plan → ℕ → Option ℕ → RegionWords → Type 0
FollowsLinks (Settles count) place cleared w = link_after cleared w ≡ link_at w.next place w.last_batch_head
FollowsLinks plan place cleared w = ⊤

-- the store in this place of the plan is next
pub record InPlace (plan : Plan) (place : ℕ) (w : RegionWords) (r : RecoveryState) : Type 0 where
  pub plan_is : r.plan ≡ Some plan
  pub done_is : r.done ≡ place
  pub link : FollowsLinks plan place r.cleared w

-- so many steps of a start with this plan were made
pub record IsAt (plan : Plan) (place : ℕ) (w : RegionWords) (r : RecoveryState) : Type 0 where
  pub stores : place < length (plan_steps r.region.size plan) → InPlace plan place w r
  pub settled : length (plan_steps r.region.size plan) ≤ place → r.plan ≡ Some Settled
