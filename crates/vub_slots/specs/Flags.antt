-- The flags of a slot (VIRTIO 1.2, 2.8.1 and 2.8.6).
use Rattle.std.specs.Int.{bit_at}
use Rattle.std.specs.Prelude.{◌≡◌, ◌≢◌, ◌<◌, ℕ, Bool, if◌then◌else◌, bit_and, bit_or}
use Rattle.vub_base.specs.Positions.{bit}

-- bit 0 is NEXT: the buffer goes on in the next slot
abbrev pub goes_on : ℕ → Bool
goes_on flags = bit flags 0

-- AVAIL and USED of a slot that is available where the wrap counter is `wrap`: AVAIL alone for 1, USED alone for 0
abbrev pub available_flags : Bool → ℕ
available_flags wrap = if wrap then 0x80 else 0x8000

-- the flags of a used slot: WRITE, which is bit 1, and both bits for 1
abbrev pub used_flags : Bool → ℕ
used_flags wrap = if wrap then 0x8082 else 2

-- the same flags, but AVAIL and USED as of an available slot
abbrev pub restored_flags : ℕ → Bool → ℕ
restored_flags flags wrap = bit_or (bit_and flags 0x7f7f) (available_flags wrap)

-- all of the 16 bits but AVAIL and USED are the same
abbrev pub SameOthers : ℕ → ℕ → Type 0
SameOthers a b = (k : ℕ) → k < 16 → k ≢ 7 → k ≢ 15 → bit_at a k ≡ bit_at b k
