-- What the bell of a world holds.
use Rattle.std.specs.Prelude.{ℕ, true, List}
use Rattle.vub_base.specs.Bells.{BellState}
use Rattle.vub_world.specs.declared.bell.WatchedBell.{WatchedBell}

-- the queues rung
abbrev pub rung_in : WatchedBell → List ℕ
rung_in b = b.rung.items

-- what it tells: every queue counts as attached
abbrev pub bell_in : WatchedBell → BellState
bell_in b = record { rung = rung_in b; attached = λ q. true }

-- how often a call has failed: rings without room; cut at the end of its type
abbrev pub faults_in : WatchedBell → ℕ
faults_in b = b.refused
