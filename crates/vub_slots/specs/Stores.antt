-- The stores that driver and device make of a slot (VIRTIO 1.2, 2.8.21 and 2.8.22).
use Rattle.std.specs.Prelude.{◌<◌, ℕ, ◌^◌, List, ◌++◌}
use Rattle.byteorder.specs.Endian.{little_bytes}
use Rattle.vub_shared.specs.Stores.{Store, one_store}
use Rattle.vub_slots.specs.Ring.{DescriptorRing, slot_place, len_place, id_place, flags_place}

-- ---- of one word

abbrev pub len_store : DescriptorRing → ℕ → ℕ → Store
len_store r i len = one_store r.space (len_place r i) (little_bytes 4 len)

abbrev pub id_store : DescriptorRing → ℕ → ℕ → Store
id_store r i id = one_store r.space (id_place r i) (little_bytes 2 id)

abbrev pub flags_store : DescriptorRing → ℕ → ℕ → Store
flags_store r i flags = one_store r.space (flags_place r i) (little_bytes 2 flags)

-- ---- of the driver, as one run of bytes

-- a slot without its flags: 14 bytes
abbrev pub details_bytes : ℕ → ℕ → ℕ → List ℕ
details_bytes addr len id = little_bytes 8 addr ++ little_bytes 4 len ++ little_bytes 2 id

abbrev pub details_store : DescriptorRing → ℕ → ℕ → ℕ → ℕ → Store
details_store r i addr len id = one_store r.space (slot_place r i) (details_bytes addr len id)

-- a slot with its flags: 16 bytes
abbrev pub slot_bytes : ℕ → ℕ → ℕ → ℕ → List ℕ
slot_bytes addr len id flags = details_bytes addr len id ++ little_bytes 2 flags

abbrev pub slot_store : DescriptorRing → ℕ → ℕ → ℕ → ℕ → ℕ → Store
slot_store r i addr len id flags = one_store r.space (slot_place r i) (slot_bytes addr len id flags)

-- the numbers fit their words
pub record FitsSlot (addr len id flags : ℕ) : Type 0 where
  pub addr_fits : addr < 2 ^ 64
  pub len_fits : len < 2 ^ 32
  pub id_fits : id < 2 ^ 16
  pub flags_fit : flags < 2 ^ 16
