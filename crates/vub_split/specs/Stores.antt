-- The stores that driver and device make of a ring's words.
use Rattle.std.specs.Prelude.{ℕ}
use Rattle.byteorder.specs.Endian.{little_bytes}
use Rattle.vub_shared.specs.Stores.{Store, one_store}
use Rattle.vub_ring.specs.Ring.{Ring, avail_idx_place, avail_entry_place, used_idx_place, used_id_place, used_len_place}

-- ---- of the driver

abbrev pub avail_idx_store : Ring → ℕ → Store
avail_idx_store r index = one_store r.avail_space (avail_idx_place r) (little_bytes 2 index)

-- a head, into the entry of an index
abbrev pub avail_entry_store : Ring → ℕ → ℕ → Store
avail_entry_store r index head = one_store r.avail_space (avail_entry_place r index) (little_bytes 2 head)

-- ---- of the device

abbrev pub used_idx_store : Ring → ℕ → Store
used_idx_store r index = one_store r.used_space (used_idx_place r) (little_bytes 2 index)

-- an id or a length, into the element of an index
abbrev pub used_id_store : Ring → ℕ → ℕ → Store
used_id_store r index id = one_store r.used_space (used_id_place r index) (little_bytes 4 id)

abbrev pub used_len_store : Ring → ℕ → ℕ → Store
used_len_store r index len = one_store r.used_space (used_len_place r index) (little_bytes 4 len)
