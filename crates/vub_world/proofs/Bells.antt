-- Why no call of a bell that lists fewer than two has failed.
use Rattle.std.proofs.Common.{◌≡◌, ◌<◌, length}
use Rattle.vub_world.specs.Bells.{rung_in, faults_in}
use Rattle.vub_world.specs.declared.bell.WatchedBell.{WatchedBell}

pub never_refused : (b : WatchedBell) → length (rung_in b) < 2 → faults_in b ≡ 0
never_refused b few = b.unrefused few
