-- A split virtqueue in shared memory, and what driver and device see of it (VIRTIO 1.2, 2.7.6 and 2.7.8).
use Rattle.std.specs.Prelude.{ℕ, zero, suc, ◌+◌, ◌-◌, ◌*◌, ◌%◌, List, [], ◌∷◌}
use Rattle.vub_shared.specs.Bytes.{Bytes, word}

-- where a queue of `size` places lies: the space and the place of its descriptor table, of its avail ring and of its used ring
pub record Ring : Type 0 where
  pub desc_space : ℕ
  pub desc : ℕ
  pub avail_space : ℕ
  pub avail : ℕ
  pub used_space : ℕ
  pub used : ℕ
  pub size : ℕ

-- ---- places. An index counts modulo 65536, and stands for the entry of that number modulo the size

abbrev pub entry_of : Ring → ℕ → ℕ
entry_of r index = (index % 65536) % r.size

abbrev pub desc_place : Ring → ℕ → ℕ
desc_place r d = r.desc + 16 * d

abbrev pub avail_idx_place : Ring → ℕ
avail_idx_place r = r.avail + 2

abbrev pub avail_entry_place : Ring → ℕ → ℕ
avail_entry_place r index = r.avail + (4 + 2 * entry_of r index)

abbrev pub used_idx_place : Ring → ℕ
used_idx_place r = r.used + 2

abbrev pub used_id_place : Ring → ℕ → ℕ
used_id_place r index = r.used + (4 + 8 * entry_of r index)

abbrev pub used_len_place : Ring → ℕ → ℕ
used_len_place r index = r.used + (8 + 8 * entry_of r index)

-- ---- words

abbrev pub avail_idx : Ring → Bytes → ℕ
avail_idx r m = word 2 m r.avail_space (avail_idx_place r)

-- the head in the avail entry of an index
abbrev pub head_at : Ring → Bytes → ℕ → ℕ
head_at r m index = word 2 m r.avail_space (avail_entry_place r index)

abbrev pub used_idx : Ring → Bytes → ℕ
used_idx r m = word 2 m r.used_space (used_idx_place r)

-- id and length in the used element of an index
abbrev pub element_at : Ring → Bytes → ℕ → ℕ × ℕ
element_at r m index = (word 4 m r.used_space (used_id_place r index), word 4 m r.used_space (used_len_place r index))

-- ---- what is seen

-- how far index a is ahead of position b
abbrev pub ahead : ℕ → ℕ → ℕ
ahead a b = (a + 65536 - b % 65536) % 65536

-- count heads from a position on
abbrev pub heads_from : Ring → Bytes → ℕ → ℕ → List ℕ
heads_from r m zero from = []
heads_from r m (suc count) from = head_at r m from ∷ heads_from r m count (from + 1)

-- count elements from a position on
abbrev pub elements_from : Ring → Bytes → ℕ → ℕ → List (ℕ × ℕ)
elements_from r m zero from = []
elements_from r m (suc count) from = element_at r m from ∷ elements_from r m count (from + 1)

-- the heads that wait from an avail position on, up to avail.idx
abbrev pub waiting : Ring → Bytes → ℕ → List ℕ
waiting r m from = heads_from r m (ahead (avail_idx r m) from) from

-- the elements that the driver sees from its position on, up to used.idx
abbrev pub seen : Ring → Bytes → ℕ → List (ℕ × ℕ)
seen r m from = elements_from r m (ahead (used_idx r m) from) from

-- the head that an offer has just shown: that of the entry before avail.idx
abbrev pub last_head : Ring → Bytes → ℕ
last_head r m = head_at r m (avail_idx r m + 65535)
