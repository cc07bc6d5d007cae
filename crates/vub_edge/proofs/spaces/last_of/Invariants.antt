use Rattle.std.proofs.Common.{◌≡◌, ◌<◌, Some, IfSome}
use Rattle.vub_edge.specs.FileSpaces.{name_at}
use Rattle.vub_edge.proofs.spaces.last_of.Given as goal

abbrev pub invariant-loop-number : goal.invariant-loop-number
invariant-loop-number g l =
    record { within : IfSome l.found (λ s. s < l.number); named : IfSome l.found (λ s. name_at l.spaces s ≡ Some l.name) }
