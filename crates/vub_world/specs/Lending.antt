-- What an event leaves and lends.
use Rattle.std.specs.Prelude.{◌≡◌, ◌<◌, ◌≤◌, ◌+◌, ◌-◌, ◌^◌, Some, Result, MatchResult, ⊤}
use Rattle.std.specs.Borrow.{Bor}
use Rattle.vub_base.specs.declared.faults.Memory.{Memory}
use Rattle.vub_report.specs.declared.items.Record.{Record}
use Rattle.vub_schedule.specs.declared.types.Event.{Event}
use Rattle.vub_world.specs.declared.machine.Machine.{Machine}
use Rattle.vub_world.specs.DriverSides.{offers_in}
use Rattle.vub_world.specs.MachineAt.{StandsOn}

-- the machine with the record of an event as its last
abbrev pub with_record : Record → ⊤ → Machine → Machine
with_record r spare w = record w { last = Some r; spare = spare }

-- an event was played: its record is kept, and the machine stands for the events that it stood for and this one, with
-- their records
pub record HasPlayed (w now : Machine) (e : Event) (r : Record) : Type 0 where
  pub last : now.last ≡ Some r
  pub event : r.event ≡ e
  pub on : StandsOn w now e r

-- The header stays, and an event offers one request at most. Where a number of 64 bits is left for a further request it
-- is played, and its record lent; for want of memory all is as it was. Where none is left all is as it was, and the record of the
-- event before is lent.
pub record Lends (w now : Machine) (e : Event) (result : Result (Bor Record) Memory) : Type 0 where
  pub header : now.header ≡ w.header
  pub offers : offers_in now ≤ offers_in w + 1
  pub plays : offers_in w < 2 ^ 64 - 1 → MatchResult result (λ r. HasPlayed w now e r.now) (λ _. now ≡ w)
  pub rests : 2 ^ 64 - 1 ≤ offers_in w → (now ≡ w) × MatchResult result (λ r. w.last ≡ Some r.now) (λ _. ⊥)
