-- What a life of a split queue of n descriptors finds in its in-flight region, and what holds of the region between two stores
-- of its start, where used.idx is `used` and the open requests have these heads, in the order in which they were accepted
-- (vhost-user, "Inflight I/O tracking").
use Rattle.std.specs.Prelude.{◌≡◌, ◌<◌, ◌≤◌, ◌⊎◌, ℕ, ◌+◌, true, List, [], length}
use Rattle.vub_device.specs.Past.{is_among}
use Rattle.vub_ring.specs.Ring.{ahead}
use Rattle.vub_inflight.specs.Links.{links}
use Rattle.vub_infl_split.specs.Region.{RegionWords}
use Rattle.vub_infl_split.specs.Sound.{Sound}
use Rattle.vub_steps.specs.declared.steps.Plan.{Plan}
use Rattle.vub_steps.specs.declared.steps.Plan.TheVariants.{New, Settles, Settled}
use Rattle.vub_steps.specs.Steps.{plan_steps}

-- ---- what any life finds

-- a region that was never made: no request is open, and used.idx is the base that the queue began with
pub record Unmade (used : ℕ) (heads : List ℕ) (base : ℕ) (w : RegionWords) : Type 0 where
  pub version : w.version ≡ 0
  pub none : heads ≡ []
  pub at_base : base ≡ used

abbrev pub Left : ℕ → ℕ → List ℕ → ℕ → RegionWords → Type 0
Left n used heads base w = Unmade used heads base w ⊎ Sound n used heads w

-- every batch that the used ring shows is noted
abbrev pub IsNoted : ℕ → RegionWords → Type 0
IsNoted used w = w.used_idx ≡ used

-- ---- a start, before the store in place `done`

-- a new region is made: the features, an entry each, and the header. The entries that were stored aren't in flight
pub record InNew (n used : ℕ) (heads : List ℕ) (base done : ℕ) (w : RegionWords) : Type 0 where
  pub unmade : Unmade used heads base w
  pub upto : done ≤ n + 1
  pub freed : (i : ℕ) → i + 1 < done → w.inflight i ≡ 0

-- a batch of so many is settled: each of its links is cleared, and it is noted. The links that were stored aren't in flight
pub record InSettling (n used : ℕ) (heads : List ℕ) (count done : ℕ) (w : RegionWords) : Type 0 where
  pub sound : Sound n used heads w
  pub batch : ahead used w.used_idx ≡ count
  pub upto : done ≤ count
  pub clear : (i : ℕ) → is_among (links w.next done w.last_batch_head) i ≡ true → w.inflight i ≡ 0

-- no store is left
pub record IsSettled (n used : ℕ) (heads : List ℕ) (w : RegionWords) : Type 0 where
  pub sound : Sound n used heads w
  pub noted : IsNoted used w

-- a store of its plan is left
abbrev pub InPlan : ℕ → ℕ → List ℕ → ℕ → Plan → ℕ → RegionWords → Type 0
InPlan n used heads base New done w = InNew n used heads base done w
InPlan n used heads base (Settles count) done w = InSettling n used heads count done w
InPlan n used heads base Settled done w = ⊥

-- a start with this plan, of which so many steps were made
pub record InStart (n used : ℕ) (heads : List ℕ) (base : ℕ) (plan : Plan) (done : ℕ) (w : RegionWords) : Type 0 where
  pub stores : done < length (plan_steps n plan) → InPlan n used heads base plan done w
  pub settled : length (plan_steps n plan) ≤ done → IsSettled n used heads w
