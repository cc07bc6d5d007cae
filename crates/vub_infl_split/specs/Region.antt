-- The in-flight region of a split queue in shared memory (vhost-user, "Inflight I/O tracking").
use Rattle.std.specs.Prelude.{◌≡◌, ◌≤◌, ℕ, ◌+◌, ◌*◌, ◌%◌, length}
use Rattle.vub_shared.specs.Bytes.{Bytes, word, Apart}
use Rattle.vub_shared.specs.Stores.{Store}
use Rattle.vub_inflight.specs.Words.{bounded}
use Rattle.vub_infl_split.specs.declared.region.SplitRegion.{SplitRegion}

-- ---- places

-- the bytes of the region of a queue of n descriptors: a header, and an entry for each
abbrev pub region_size : ℕ → ℕ
region_size n = 16 + 16 * n

-- it lies in its space at a multiple of 8
pub record RegionLies (sizes : ℕ → ℕ) (r : SplitRegion) : Type 0 where
  pub room : r.place + region_size r.size ≤ sizes r.space.number
  pub aligned : r.place % 8 ≡ 0

abbrev pub inflight_place : SplitRegion → ℕ → ℕ
inflight_place r i = r.place + (16 + 16 * i)

abbrev pub next_place : SplitRegion → ℕ → ℕ
next_place r i = r.place + (22 + 16 * i)

abbrev pub counter_place : SplitRegion → ℕ → ℕ
counter_place r i = r.place + (24 + 16 * i)

-- ---- words

-- those of the header, and of each entry
pub record RegionWords : Type 0 where
  pub version : ℕ
  pub desc_num : ℕ
  pub last_batch_head : ℕ
  pub used_idx : ℕ
  pub inflight : ℕ → ℕ
  pub next : ℕ → ℕ
  pub counter : ℕ → ℕ

abbrev pub words_of : SplitRegion → Bytes → RegionWords
words_of r m = record {
  version = word 2 m r.space.number (r.place + 8);
  desc_num = word 2 m r.space.number (r.place + 10);
  last_batch_head = word 2 m r.space.number (r.place + 12);
  used_idx = word 2 m r.space.number (r.place + 14);
  inflight = bounded r.size (λ i. word 1 m r.space.number (inflight_place r i));
  next = bounded r.size (λ i. word 2 m r.space.number (next_place r i));
  counter = bounded r.size (λ i. word 8 m r.space.number (counter_place r i));
}

-- a store touches no byte of the region
abbrev pub OffRegion : SplitRegion → Store → Type 0
OffRegion r st = Apart st.space st.place (length st.bytes) r.space.number r.place (region_size r.size)
