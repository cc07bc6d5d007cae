use Rattle.std.proofs.Common.{◌≡◌, ◌<◌, ◌≤◌, ℕ, length}
use Rattle.vub_driver.specs.Drivers.{without_owner}
use Rattle.vub_guest.specs.GuestState.{owner_at}
use Rattle.vub_guest.proofs.guest.Guest.free.Given as goal

abbrev pub invariant-loop-d : goal.invariant-loop-d
invariant-loop-d l =
    (length l.owners ≡ length l.initial.owners)
    × ((k : ℕ) → k < l.d → owner_at l.owners k ≡ without_owner l.head (owner_at l.initial.owners) k)
    × ((k : ℕ) → l.d ≤ k → owner_at l.owners k ≡ owner_at l.initial.owners k)
