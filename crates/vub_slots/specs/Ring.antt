-- The descriptor ring of a packed virtqueue in shared memory, and what driver and device see of it (VIRTIO 1.2, 2.8 and 2.8.13).
use Rattle.std.specs.Prelude.{ℕ, ◌+◌, ◌*◌, nat_lt, if◌then◌else◌, List, length}
use Rattle.vub_shared.specs.Bytes.{Bytes, word, Apart}
use Rattle.vub_shared.specs.Stores.{Store}
use Rattle.vub_slots.specs.Slots.{SlotWords, Buffer, buffer_slots, buffer_from, buffers_from, element_slots, elements_from}

-- where the slots stand: their space, the place of the first, and how many they are
pub record DescriptorRing : Type 0 where
  pub space : ℕ
  pub place : ℕ
  pub size : ℕ

-- ---- places: a slot has 16 bytes, address (8), length (4), id (2) and flags (2)

abbrev pub slot_place : DescriptorRing → ℕ → ℕ
slot_place r i = r.place + 16 * i

abbrev pub len_place : DescriptorRing → ℕ → ℕ
len_place r i = slot_place r i + 8

abbrev pub id_place : DescriptorRing → ℕ → ℕ
id_place r i = slot_place r i + 12

abbrev pub flags_place : DescriptorRing → ℕ → ℕ
flags_place r i = slot_place r i + 14

-- ---- words

-- the number of so many bytes at a place, 0 for a slot past the ring
abbrev pub slot_word : ℕ → DescriptorRing → Bytes → ℕ → ℕ → ℕ
slot_word bytes r m place i = if nat_lt i r.size then word bytes m r.space place else 0

abbrev pub words_of : DescriptorRing → Bytes → SlotWords
words_of r m = record {
  addr = λ i. slot_word 8 r m (slot_place r i) i;
  len = λ i. slot_word 4 r m (len_place r i) i;
  id = λ i. slot_word 2 r m (id_place r i) i;
  flags = λ i. slot_word 2 r m (flags_place r i) i;
}

-- a store touches no byte of the ring
abbrev pub OffRing : DescriptorRing → Store → Type 0
OffRing r st = Apart st.space st.place (length st.bytes) r.space r.place (16 * r.size)

-- ---- what is seen, by running numbers of slots

-- the buffer that begins at a number
abbrev pub buffer_at : DescriptorRing → Bytes → ℕ → Buffer
buffer_at r m p = buffer_from r.size (words_of r m) r.size p

-- the buffers that wait from an avail position on
abbrev pub waiting : DescriptorRing → Bytes → ℕ → List Buffer
waiting r m from = buffers_from r.size (words_of r m) r.size from

-- the number of the first slot after them
abbrev pub waiting_end : DescriptorRing → Bytes → ℕ → ℕ
waiting_end r m from = from + buffer_slots (waiting r m from)

-- the elements that the driver sees from its position on, where the buffer of each id was offered in so many slots
abbrev pub seen : (ℕ → ℕ) → DescriptorRing → Bytes → ℕ → List (ℕ × ℕ)
seen sizes r m from = elements_from r.size sizes (words_of r m) r.size from

-- the number of the first slot after them
abbrev pub seen_end : (ℕ → ℕ) → DescriptorRing → Bytes → ℕ → ℕ
seen_end sizes r m from = from + element_slots sizes (seen sizes r m from)
