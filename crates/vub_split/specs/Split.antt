-- The split virtqueue in shared memory (VIRTIO 1.2, 2.7).
use Rattle.std.specs.Prelude.{◌≡◌, ◌≤◌, ℕ, ◌+◌, ◌*◌, ◌%◌}
use Rattle.std.specs.Int.{◌∣◌}
use Rattle.vub_shared.specs.Bytes.{Bytes, word}
use Rattle.vub_ring.specs.Ring.{Ring}
use Rattle.vub_split.specs.declared.split.SplitRing.{SplitRing}

-- Its descriptor table, avail ring and used ring lie in their spaces at their alignments. Its size
-- is a power of two up to 1024.
pub record RingLies (sizes : ℕ → ℕ) (r : SplitRing) : Type 0 where
  pub some : 1 ≤ r.size
  pub few : r.size ≤ 1024
  pub laps : r.size ∣ 65536
  pub desc : r.desc.1 + 16 * r.size ≤ sizes r.desc.0.number
  pub avail : r.avail.1 + (4 + 2 * r.size) ≤ sizes r.avail.0.number
  pub used : r.used.1 + (4 + 8 * r.size) ≤ sizes r.used.0.number
  pub desc_aligned : r.desc.1 % 16 ≡ 0
  pub avail_aligned : r.avail.1 % 2 ≡ 0
  pub used_aligned : r.used.1 % 4 ≡ 0

-- ---- places

abbrev pub avail_idx_place : SplitRing → ℕ
avail_idx_place r = r.avail.1 + 2

-- the avail entry of an index, which is taken modulo the size
abbrev pub avail_entry_place : SplitRing → ℕ → ℕ
avail_entry_place r index = r.avail.1 + (4 + 2 * (index % r.size))

abbrev pub used_idx_place : SplitRing → ℕ
used_idx_place r = r.used.1 + 2

-- the used element of an index: its id, and 4 bytes on its length
abbrev pub used_id_place : SplitRing → ℕ → ℕ
used_id_place r index = r.used.1 + (4 + 8 * (index % r.size))

abbrev pub used_len_place : SplitRing → ℕ → ℕ
used_len_place r index = r.used.1 + (8 + 8 * (index % r.size))

-- ---- words

abbrev pub avail_idx_word : SplitRing → Bytes → ℕ
avail_idx_word r m = word 2 m r.avail.0.number (avail_idx_place r)

abbrev pub head_word : SplitRing → Bytes → ℕ → ℕ
head_word r m index = word 2 m r.avail.0.number (avail_entry_place r index)

abbrev pub used_idx_word : SplitRing → Bytes → ℕ
used_idx_word r m = word 2 m r.used.0.number (used_idx_place r)

-- ---- as a ring

abbrev pub ring_of_split : SplitRing → Ring
ring_of_split r = record { desc_space = r.desc.0.number; desc = r.desc.1; avail_space = r.avail.0.number; avail = r.avail.1; used_space = r.used.0.number; used = r.used.1; size = r.size }
