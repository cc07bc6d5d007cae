-- Positions on a packed ring, and the flags of a slot that say whose it is (VIRTIO 1.2, 2.8.1).
use Rattle.std.specs.Int.{bit_at}
use Rattle.std.specs.Prelude.{ℕ, ◌+◌, ◌-◌, ◌%◌, ◌/◌, ◌==◌, ◌&&◌, Bool, not, nat_lt, if◌then◌else◌}
use Rattle.vub_base.specs.declared.position.Position.{Position}

-- ---- flags

-- bit k of the flags is 1
abbrev pub bit : ℕ → ℕ → Bool
bit flags k = bit_at flags k == 1

-- bit 7 is AVAIL, bit 15 is USED
abbrev pub avail_bit : ℕ → Bool
avail_bit flags = bit flags 7

abbrev pub used_bit : ℕ → Bool
used_bit flags = bit flags 15

abbrev pub same_bool : Bool → Bool → Bool
same_bool a b = if a then b else not b

-- AVAIL is equal to the wrap counter, and USED isn't
abbrev pub is_available : ℕ → Bool → Bool
is_available flags wrap = same_bool (avail_bit flags) wrap && not (same_bool (used_bit flags) wrap)

-- both are equal to it
abbrev pub is_used : ℕ → Bool → Bool
is_used flags wrap = same_bool (avail_bit flags) wrap && same_bool (used_bit flags) wrap

-- ---- positions in a ring of n slots

-- Slots are counted on without end: number p is slot p % n. The wrap counter is 1 in the first lap, and is inverted with
-- each lap.
abbrev pub wrap_at : ℕ → ℕ → Bool
wrap_at n p = (p / n) % 2 == 0

abbrev pub position_of : ℕ → ℕ → Position
position_of n p = record { index = p % n; wrap = wrap_at n p }

-- the least number at a position
abbrev pub number_at : ℕ → Position → ℕ
number_at n at = if at.wrap then at.index else n + at.index

-- so many slots on: past the last slot the index begins again, and the wrap counter is inverted
abbrev pub advanced : ℕ → Position → ℕ → Position
advanced n at by =
    if nat_lt (at.index + by) n then record { index = at.index + by; wrap = at.wrap }
    else record { index = at.index + by - n; wrap = not at.wrap }
