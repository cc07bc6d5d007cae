-- The parts of a world, between two steps.
use Rattle.std.specs.Prelude.{◌≡◌, ◌<◌, ℕ, ◌-◌, ◌^◌, length, slice_get, All, Some, None, Result, ⊤}
use Rattle.std.specs.Borrow.{follows_so, MutBor, Bor, Fml}
use mathlib.Core.Option.{none}
use Rattle.vub_base.specs.declared.faults.Memory.{Memory}
use Rattle.vub_schedule.specs.declared.types.Event.{Event}
use Rattle.vub_report.specs.declared.items.Record.{Record}
use Rattle.vub_world.specs.contracts.machine.Machine.{the_row}
use Rattle.vub_world.specs.Lending.{Lends}
use Rattle.vub_world.specs.MachineAt.{IsStanding}
use Rattle.vub_schedule.specs.Spelling.{IsHeader}
use Rattle.vub_memdisk.specs.MemDisks.{capacity_of}
use Rattle.vub_world.specs.declared.driver_side.DriverSide.{DriverSide}
use Rattle.vub_shared.specs.Watched.{sizes_in}
use Rattle.vub_world.specs.Lives.{IsBackendInLife}
use Rattle.vub_world.specs.DriverSides.{PartsSound, parts_of, offers_in}
use Rattle.vub_world.specs.OutstandingRequests.{offered_in}
use Rattle.vub_world.specs.declared.machine.Machine.{Machine}

-- each of the header's queues has its parts
pub record IsSound (w : Machine) : Type 0 where
  pub header : IsHeader w.header
  pub many : length w.sides.items ≡ w.header.queues
  pub backend : IsBackendInLife w.header.queues (sizes_in w.memory) (capacity_of w.disk) w.life
  pub disk : capacity_of w.disk ≡ w.header.capacity
  pub headers : (q : ℕ) (side : DriverSide) → slice_get w.sides.items q ≡ Some side → side.header ≡ w.header
  pub parts : (q : ℕ) (side : DriverSide) → slice_get w.sides.items q ≡ Some side → PartsSound q (parts_of q side w)

-- each queue has a number of 64 bits left for a further request
abbrev pub HaveNumbers : Machine → Type 0
HaveNumbers w = All (λ side. offered_in side.outstanding < 2 ^ 64 - 1) w.sides.items

-- before the first event no request was offered
abbrev pub KeepsLast : Machine → Type 0
KeepsLast w = w.last ≡ None → offers_in w ≡ 0

-- an event lends its record, and the parts go on: sound, and standing for some events
abbrev pub LendsSound : MutBor Machine → Event → Result (Bor Record) Memory → Fml
LendsSound m event result = follows_so the_row the_row m.ghost_name none (λ _ _. ⊤) (λ now. IsSound now × IsStanding now × KeepsLast now × Lends m.now now event result)
