use Rattle.std.proofs.Common.{◌≡◌}
use Rattle.vub_guest.specs.GuestState.{free_after}
use Rattle.vub_guest.proofs.guest.Guest.next_free.Given as goal

abbrev pub invariant-loop-d : goal.invariant-loop-d
invariant-loop-d l = free_after l.owners l.from ≡ free_after l.owners l.d
