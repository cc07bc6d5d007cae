-- A world, between two events.
use Rattle.std.specs.Prelude.{Option, Result, ⊤}
use Rattle.std.specs.Borrow.{follows_so, MutBor, Bor, Fml}
use mathlib.Core.Option.{none}
use Rattle.vub_base.specs.declared.header.Header1.{Header1}
use Rattle.vub_base.specs.declared.faults.Memory.{Memory}
use Rattle.vub_backend.specs.declared.backend.Backend.{Backend}
use Rattle.vub_memdisk.specs.declared.mem_disk.MemDisk.{MemDisk}
use Rattle.vub_schedule.specs.declared.types.Event.{Event}
use Rattle.vub_world.specs.declared.machine.Machine.{Machine}
use Rattle.vub_report.specs.declared.items.Record.{Record}
use Rattle.vub_world.specs.declared.world.World.{World}
use Rattle.vub_world.specs.contracts.world.World.{the_row}
pub use Rattle.vub_world.specs.DriverSides.{offers_in}
use Rattle.vub_world.specs.Lending.{Lends}

-- the first line of its schedule
abbrev pub header_in : Machine → Header1
header_in w = w.header

abbrev pub disk_in : Machine → MemDisk
disk_in w = w.disk

-- the backend of the life of the device, if there is one
abbrev pub backend_in : Machine → Option Backend
backend_in w = w.life

-- An event lends its record, and leaves the world as `Lends` says.
abbrev pub LendsRecord : MutBor World → Event → Result (Bor Record) Memory → Fml
LendsRecord w event result = follows_so the_row the_row w.ghost_name none (λ _ _. ⊤) (λ now. Lends w.now now event result)
