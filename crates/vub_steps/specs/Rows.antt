-- The store of each step, with its tag (VIRTIO 1.2, 2.7.8; vhost-user, "Inflight I/O tracking").
use Rattle.std.specs.Prelude.{ℕ, ◌+◌, ◌%◌, List, length, slice_get, Option, Some, None, option_map}
use Rattle.std.specs.Option.{option_or}
use Rattle.byteorder.specs.Endian.{little_bytes}
use Rattle.vub_base.specs.declared.store.Area.{Area}
use Rattle.vub_base.specs.declared.store.Area.TheVariants.{M, I}
use Rattle.vub_base.specs.declared.store.Tag.{Tag}
use Rattle.vub_base.specs.declared.store.Tag.TheVariants.{SP1, SP2, SP5}
use Rattle.vub_shared.specs.Stores.{Store, one_store}
use Rattle.vub_ring.specs.Ring.{Ring, used_idx_place, used_id_place, used_len_place}
use Rattle.vub_infl_split.specs.declared.region.SplitRegion.{SplitRegion}
use Rattle.vub_infl_split.specs.declared.region.SplitStore.{SplitStore}
use Rattle.vub_infl_split.specs.declared.region.SplitStore.TheVariants.{SI1, SI2, SI3, SR1, SR2, SF1, SF2, SP3, SP4, SP6, SP7}
use Rattle.vub_infl_split.specs.Stores.{store_of, tag_of}
use Rattle.vub_steps.specs.declared.steps.Step.{Step}
use Rattle.vub_steps.specs.declared.steps.Step.TheVariants.{Features, Free, Open, Settle, SettleEnd, Count, Accept, Id, Len, Link, Head, Index, Clear, Note}

pub record Row : Type 0 where
  pub tag : Tag
  pub area : Area
  pub store : Store

-- what a step sees: used.idx, and last_batch_head of the in-flight region; the entry that is linked next of a batch that is
-- settled; the head that is fetched, and the counter that it gets; and id and length of each element of the batch that is
-- published
pub record Sight : Type 0 where
  pub used : ℕ
  pub last_batch_head : ℕ
  pub link : ℕ
  pub head : ℕ
  pub counter : ℕ
  pub batch : List (ℕ × ℕ)

-- ---- the in-flight region

-- the store of a step of a start, where used.idx is `used` and that entry is linked next
abbrev pub region_step : ℕ → ℕ → Step → Option SplitStore
region_step used link Features = Some SI1
region_step used link (Free i) = Some (SI2 i)
region_step used link Open = Some (SI3 used)
region_step used link (Settle place) = Some (SR1 link)
region_step used link SettleEnd = Some (SR2 used)
region_step used link step = None

abbrev pub region_step_at : ℕ → ℕ → Option Step → Option SplitStore
region_step_at used link None = None
region_step_at used link (Some step) = region_step used link step

-- the store of a step of a fetch and of a publication
abbrev pub running_step : Sight → Step → Option SplitStore
running_step s Count = Some (SF1 s.head s.counter)
running_step s Accept = Some (SF2 s.head)
running_step s (Link e) = option_map (λ (x : ℕ × ℕ). SP3 x.0 s.last_batch_head) (slice_get s.batch e)
running_step s (Head e) = option_map (λ (x : ℕ × ℕ). SP4 x.0) (slice_get s.batch e)
running_step s (Clear e) = option_map (λ (x : ℕ × ℕ). SP6 x.0) (slice_get s.batch e)
running_step s Note = Some (SP7 s.used)
running_step s step = None

-- the store of any step into the region
abbrev pub region_store : Sight → Step → Option SplitStore
region_store s step = option_or (region_step s.used s.link step) (running_step s step)

abbrev pub region_row : SplitRegion → SplitStore → Row
region_row g x = record { tag = tag_of x; area = I; store = store_of g x }

-- ---- the used ring

abbrev pub row : Ring → Tag → ℕ → List ℕ → Row
row r tag place bytes = record { tag = tag; area = M; store = one_store r.used_space place bytes }

-- the store of a step of a publication
abbrev pub ring_row : Ring → ℕ → List (ℕ × ℕ) → Step → Option Row
ring_row r used batch (Id e) = option_map (λ (x : ℕ × ℕ). row r SP1 (used_id_place r (used + e)) (little_bytes 4 x.0)) (slice_get batch e)
ring_row r used batch (Len e) = option_map (λ (x : ℕ × ℕ). row r SP2 (used_len_place r (used + e)) (little_bytes 4 x.1)) (slice_get batch e)
ring_row r used batch Index = Some (row r SP5 (used_idx_place r) (little_bytes 2 ((used + length batch) % 65536)))
ring_row r used batch step = None

-- ---- any step; none where it makes no store

abbrev pub row_of : Ring → SplitRegion → Sight → Step → Option Row
row_of r g s step = option_or (ring_row r s.used s.batch step) (option_map (region_row g) (region_store s step))
