-- The packed virtqueue in shared memory (VIRTIO 1.2, 2.8.13).
use Rattle.std.specs.Prelude.{◌≡◌, ◌≤◌, ℕ, ◌+◌, ◌*◌, ◌%◌}
use Rattle.vub_shared.specs.Bytes.{Bytes, word}
use Rattle.vub_slots.specs.Ring.{DescriptorRing, slot_place, len_place, id_place, flags_place}
use Rattle.vub_packed.specs.declared.packed.PackedRing.{PackedRing}
use Rattle.vub_packed.specs.declared.packed.PackedDesc.{PackedDesc}

-- Its slots lie in their space at their alignment. They are 1 to 1024, of any number.
pub record RingLies (sizes : ℕ → ℕ) (r : PackedRing) : Type 0 where
  pub some : 1 ≤ r.size
  pub few : r.size ≤ 1024
  pub room : r.ring.1 + 16 * r.size ≤ sizes r.ring.0.number
  pub aligned : r.ring.1 % 16 ≡ 0

-- as a descriptor ring in its space
abbrev pub ring_of_packed : PackedRing → DescriptorRing
ring_of_packed r = record { space = r.ring.0.number; place = r.ring.1; size = r.size }

-- ---- words

abbrev pub flags_word : PackedRing → Bytes → ℕ → ℕ
flags_word r m index = word 2 m r.ring.0.number (flags_place (ring_of_packed r) index)

-- the slot of an index
abbrev pub slot_in : PackedRing → Bytes → ℕ → PackedDesc
slot_in r m index = record {
  addr = word 8 m r.ring.0.number (slot_place (ring_of_packed r) index);
  len = word 4 m r.ring.0.number (len_place (ring_of_packed r) index);
  id = word 2 m r.ring.0.number (id_place (ring_of_packed r) index);
  flags = flags_word r m index;
}
