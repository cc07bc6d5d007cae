-- The driver's own rule for its stores, by what it keeps: it changes only descriptors and buffers that it hasn't handed
-- over, the avail entry at its index, and that index.
use Rattle.std.specs.Prelude.{◌≡◌, ◌⊎◌, ◌≤◌, ◌<◌, ℕ, ◌+◌, ◌%◌, Bool, false, not, length, Option, Some, None}
use Rattle.byteorder.specs.Endian.{little_bytes}
use Rattle.vub_shared.specs.Stores.{Store}
use Rattle.vub_ring.specs.Ring.{Ring, desc_place, avail_entry_place, avail_idx_place}
use Rattle.vub_driver.specs.Layout.{buffer_place, buffer_bytes}
use Rattle.vub_driver.specs.Drivers.{Driver, Waiting, is_head}

-- that owner is a request which is offered and not collected, and not the one that waits
abbrev pub is_outstanding : Option ℕ → Option Waiting → Bool
is_outstanding None w = false
is_outstanding (Some head) w = not (is_head head w)

-- the descriptor or the buffer of that number is in the device's hands
abbrev pub is_busy : Driver → ℕ → Bool
is_busy v d = is_outstanding (v.owner d) v.waiting

-- the store changes only some of the w bytes from a place on
pub record LiesIn (place w : ℕ) (st : Store) : Type 0 where
  pub from : place ≤ st.place
  pub upto : st.place + length st.bytes ≤ place + w

-- the descriptor and the buffer of that number belong to no request that is offered and not collected
pub record IsOwn (r : Ring) (v : Driver) (d : ℕ) : Type 0 where
  pub below : d < r.size
  pub free : is_busy v d ≡ false

-- into a descriptor that the driver owns
abbrev pub WritesOwnDescriptor : Ring → Driver → Store → Type 0
WritesOwnDescriptor r v st = (st.space ≡ r.desc_space) × (d : ℕ) × IsOwn r v d × LiesIn (desc_place r d) 16 st

-- into a buffer that the driver owns
abbrev pub WritesOwnBuffer : Ring → Driver → Store → Type 0
WritesOwnBuffer r v st = (st.space ≡ r.desc_space) × (d : ℕ) × IsOwn r v d × LiesIn (buffer_place r.desc d) buffer_bytes st

-- the avail entry at its index
abbrev pub WritesOwnEntry : Ring → Driver → Store → Type 0
WritesOwnEntry r v st = (st.space ≡ r.avail_space) × (st.place ≡ avail_entry_place r v.avail_idx) × (length st.bytes ≡ 2)

-- its index forward by one
abbrev pub MovesOwnIndex : Ring → Driver → Store → Type 0
MovesOwnIndex r v st = (st.space ≡ r.avail_space) × (st.place ≡ avail_idx_place r) × (st.bytes ≡ little_bytes 2 ((v.avail_idx + 1) % 65536))

-- a store that keeps to the rule
abbrev pub IsOwnStore : Ring → Driver → Store → Type 0
IsOwnStore r v st = WritesOwnDescriptor r v st ⊎ (WritesOwnBuffer r v st ⊎ (WritesOwnEntry r v st ⊎ MovesOwnIndex r v st))
