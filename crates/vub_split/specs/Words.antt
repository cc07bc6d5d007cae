-- The words of a ring that driver and device read of each other (VIRTIO 1.2, 2.7.6 and 2.7.8).
use Rattle.std.specs.Prelude.{◌<◌, ◌≤◌, ℕ, ◌+◌, ◌*◌, ◌==◌, if◌then◌else◌, length}
use Rattle.std.specs.Int.{◌∣◌}
use Rattle.vub_shared.specs.Bytes.{Bytes, Apart}
use Rattle.vub_shared.specs.Stores.{Store}
use Rattle.vub_ring.specs.Ring.{Ring, entry_of, avail_idx, head_at, used_idx, element_at}

-- avail.idx and the head in the entry of each index, used.idx and the id and length in the element of each index
pub record RingWords : Type 0 where
  pub avail : ℕ
  pub heads : ℕ → ℕ
  pub used : ℕ
  pub elements : ℕ → ℕ × ℕ

abbrev pub words_of : Ring → Bytes → RingWords
words_of r m = record { avail = avail_idx r m; heads = head_at r m; used = used_idx r m; elements = element_at r m }

-- the same, but x in the entry of that index
abbrev pub with_entry : {A : Type 0} → Ring → ℕ → A → (ℕ → A) → ℕ → A
with_entry r index x f i = if entry_of r i == entry_of r index then x else f i

-- ---- where they stand

abbrev pub avail_bytes : Ring → ℕ
avail_bytes r = 4 + 2 * r.size

abbrev pub used_bytes : Ring → ℕ
used_bytes r = 4 + 8 * r.size

-- a ring has so many places: a power of two up to 32768
pub record IsRingSize (n : ℕ) : Type 0 where
  pub some : 0 < n
  pub few : n ≤ 32768
  pub laps : n ∣ 65536

-- a ring has a place, and its avail ring and its used ring share no byte
pub record RingFits (r : Ring) : Type 0 where
  pub some : 0 < r.size
  pub apart : Apart r.avail_space r.avail (avail_bytes r) r.used_space r.used (used_bytes r)

-- a store touches no byte of the avail ring
abbrev pub OffAvail : Ring → Store → Type 0
OffAvail r st = Apart st.space st.place (length st.bytes) r.avail_space r.avail (avail_bytes r)

-- a store touches no byte of the used ring
abbrev pub OffUsed : Ring → Store → Type 0
OffUsed r st = Apart st.space st.place (length st.bytes) r.used_space r.used (used_bytes r)
