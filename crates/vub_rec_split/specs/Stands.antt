-- Where a recovery stands between two of its steps, over the region of a queue of n descriptors where used.idx is `used` and the
-- open requests have these heads.
use Rattle.std.specs.Prelude.{◌≡◌, ℕ, List, Option, Some, None}
use Rattle.vub_shared.specs.Bytes.{Bytes, Apart}
use Rattle.vub_split.specs.Split.{used_idx_word, used_idx_place}
use Rattle.vub_inflight.specs.Links.{link_at}
use Rattle.vub_infl_split.specs.Region.{RegionWords, words_of, region_size}
use Rattle.vub_region_facts.specs.Starts.{Left, InNew, InSettling, IsSettled}
use Rattle.vub_steps.specs.declared.steps.Plan.{Plan}
use Rattle.vub_steps.specs.declared.steps.Plan.TheVariants.{New, Settles, Settled}
use Rattle.vub_rec_split.specs.Starts.{RecoveryState, link_after, entries_in}

-- ---- in a start, before step `done` of its plan

-- the entry that is linked next comes behind those of the batch that are cleared
pub record FollowsBatch (n used : ℕ) (heads : List ℕ) (count done : ℕ) (cleared : Option ℕ) (w : RegionWords) : Type 0 where
  pub settling : InSettling n used heads count done w
  pub link : link_after cleared w ≡ link_at w.next done w.last_batch_head

-- nothing was checked yet
pub record NotBegun (n used : ℕ) (heads : List ℕ) (base done : ℕ) (cleared : Option ℕ) (w : RegionWords) : Type 0 where
  pub left : Left n used heads base w
  pub none_done : done ≡ 0
  pub none_cleared : cleared ≡ None

abbrev pub InStart : ℕ → ℕ → List ℕ → ℕ → Option Plan → ℕ → Option ℕ → RegionWords → Type 0
InStart n used heads base None done cleared w = NotBegun n used heads base done cleared w
InStart n used heads base (Some New) done cleared w = InNew n used heads base done w
InStart n used heads base (Some (Settles count)) done cleared w = FollowsBatch n used heads count done cleared w
InStart n used heads base (Some Settled) done cleared w = IsSettled n used heads w

-- ---- in told memory

-- no store into the region touches used.idx
abbrev pub IsApart : RecoveryState → Type 0
IsApart s = Apart s.region.space.number s.region.place (region_size s.region.size) s.ring.used.0.number (used_idx_place s.ring) 2

-- what a life finds that begins now
abbrev pub LeftAt : List ℕ → RecoveryState → Bytes → Type 0
LeftAt heads s m = Left s.region.size (used_idx_word s.ring m) heads s.base (words_of s.region m)

-- where the recovery stands
pub record StandsAt (heads : List ℕ) (s : RecoveryState) (m : Bytes) : Type 0 where
  pub apart : IsApart s
  pub in_start : InStart s.region.size (used_idx_word s.ring m) heads s.base s.plan s.done s.cleared (words_of s.region m)

-- ---- what a step leaves that makes no fault: where the recovery stands, what a life finds that begins then, and what is read

pub record Keeps (heads : List ℕ) (s s' : RecoveryState) (m m' : Bytes) : Type 0 where
  pub stands : StandsAt heads s' m'
  pub left : LeftAt heads s m'
  pub same_entries : entries_in s m' ≡ entries_in s m
