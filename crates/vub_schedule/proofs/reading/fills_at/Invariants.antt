use Rattle.std.proofs.Common.{◌≡◌, ◌-◌, length}
use Rattle.vub_schedule.specs.Reading.{more_fills, fills_at}
use Rattle.vub_schedule.proofs.reading.fills_at.Given as goal

-- what is read so far and what is left give what all of it gives
abbrev pub invariant-loop-rest : goal.invariant-loop-rest
invariant-loop-rest l = fills_at l.bytes ≡ more_fills (8 - length l.fills.items) l.fills.items l.rest

abbrev pub decreases-loop-rest : goal.decreases-loop-rest
decreases-loop-rest l = 8 - length l.fills.items
