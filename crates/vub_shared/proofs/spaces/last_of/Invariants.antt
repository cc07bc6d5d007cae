use Rattle.std.proofs.Common.{◌≡◌, ◌<◌, take, IfSome}
use Rattle.vub_shared.specs.Held.{meaning}
use Rattle.vub_shared.proofs.spaces.last_of.Given as goal

abbrev pub invariant-loop-number : goal.invariant-loop-number
invariant-loop-number l =
    record { last : l.found ≡ meaning (take l.number l.spaces) l.name; within : IfSome l.found (λ s. s < l.number) }
