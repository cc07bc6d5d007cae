-- The driver of a split queue.
use Rattle.std.specs.Prelude.{◌≤◌, ℕ, ◌+◌}
use Rattle.vub_guest.specs.declared.guest.Guest.{Guest}
use Rattle.vub_guest.specs.GuestState.{ring_in}

-- the area of its queue, of 1 MiB, lies in its space
abbrev pub GuestLies : (ℕ → ℕ) → Guest → Type 0
GuestLies sizes g = (ring_in g).desc + 1048576 ≤ sizes (ring_in g).desc_space
