-- The two stores by which driver and device tell each other: of the flags of the first slot of a buffer, and of the first
-- element of a batch (VIRTIO 1.2, 2.8.21 and 2.8.22).
use Rattle.std.specs.Prelude.{◌≡◌, ◌<◌, ◌≤◌, ℕ, ◌+◌, ◌%◌, ◌^◌, true, false, List}
use Rattle.vub_base.specs.Positions.{is_available, wrap_at}
use Rattle.vub_shared.specs.Bytes.{Bytes}
use Rattle.vub_shared.specs.Stores.{after_store}
use Rattle.vub_slots.specs.Slots.{available_at, used_at, Element, slots_of, IsSized, Shows}
use Rattle.vub_slots.specs.Ring.{DescriptorRing, words_of, buffer_at, waiting_end, seen_end}
use Rattle.vub_slots.specs.Stores.{flags_store}

-- every buffer was offered in a slot at least
abbrev pub TakesSlots : (ℕ → ℕ) → Type 0
TakesSlots sizes = (id : ℕ) → 0 < sizes id

-- the memory after the driver stored these flags into the first slot after those that wait from a position on
abbrev pub offered : DescriptorRing → Bytes → ℕ → ℕ → Bytes
offered r m from flags = after_store (flags_store r (waiting_end r m from % r.size) flags) m

-- The flags make that slot available. The buffer that then begins there ends within a lap, and the slot after it isn't
-- available.
pub record IsOffer (r : DescriptorRing) (m : Bytes) (from flags : ℕ) : Type 0 where
  pub fits : flags < 2 ^ 16
  pub available : is_available flags (wrap_at r.size (waiting_end r m from)) ≡ true
  pub room : waiting_end r m from + (buffer_at r (offered r m from flags) (waiting_end r m from)).slots ≤ from + r.size
  pub last : waiting_end r m from + (buffer_at r (offered r m from flags) (waiting_end r m from)).slots < from + r.size
      → available_at r.size (words_of r m) (waiting_end r m from + (buffer_at r (offered r m from flags) (waiting_end r m from)).slots) ≡ false

-- the memory after the device stored these flags into the first slot after those that are seen from a position on
abbrev pub published : (ℕ → ℕ) → DescriptorRing → Bytes → ℕ → ℕ → Bytes
published sizes r m from flags = after_store (flags_store r (seen_end sizes r m from % r.size) flags) m

-- The elements of a batch then stand from there on, used. They end within a lap, and the slot after them isn't used.
pub record IsBatch (sizes : ℕ → ℕ) (r : DescriptorRing) (m : Bytes) (from flags : ℕ) (batch : List Element) : Type 0 where
  pub some : 0 < slots_of batch
  pub sized : IsSized sizes batch
  pub stands : Shows r.size (words_of r (published sizes r m from flags)) (seen_end sizes r m from) batch
  pub room : seen_end sizes r m from + slots_of batch ≤ from + r.size
  pub last : seen_end sizes r m from + slots_of batch < from + r.size → used_at r.size (words_of r m) (seen_end sizes r m from + slots_of batch) ≡ false
