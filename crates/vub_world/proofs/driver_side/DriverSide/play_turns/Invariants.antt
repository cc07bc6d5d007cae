use Rattle.std.proofs.Common.{◌≡◌, ℕ, List}
use Rattle.vub_schedule.specs.declared.types.Event.{Event}
use Rattle.vub_report.specs.declared.items.Record.{Record}
use Rattle.vub_shared.specs.Watched.{sizes_in}
use Rattle.vub_world.specs.DriverSides.{PartsSound, parts_in, queue_of}
use Rattle.vub_world.specs.Lives.{IsBackend}
use Rattle.vub_memdisk.specs.MemDisks.{capacity_of}
use Rattle.vub_world.specs.MachineDevice.{queue_started}
use Rattle.vub_world.specs.MachineAt.{PartsAt}
use Rattle.vub_world.specs.MachineSteps.{HasStartRoom}
use Rattle.vub_world.specs.Sequences.{most_turns}
use Rattle.vub_run.specs.Moments.{Moment}
use Rattle.vub_run.specs.Run.{Stands}
use Rattle.vub_world.proofs.MachineLoops.{TurnsAt, room_of}
use Rattle.vub_world.proofs.driver_side.DriverSide.play_turns.Given as goal

abbrev pub invariant-loop-done : goal.invariant-loop-done
invariant-loop-done l = record {
  backend : IsBackend l.self.header.queues (sizes_in l.memory) (capacity_of l.disk) l.backend;
  sound : PartsSound l.self.index (parts_in l.memory l.self l.backend l.disk);
  sizes : (s : ℕ) → sizes_in l.memory s ≡ sizes_in l.fn.memory s;
  goes : (es : List Event) (rs : List Record) (m : Moment) → Stands l.self.header es rs m → PartsAt l.self.index (parts_in l.fn.memory l.self l.fn.backend l.fn.disk) m
      → TurnsAt l.self.index l.self.header l.fn.sequence m (room_of (most_turns l.fn.sequence) (parts_in l.fn.memory l.self l.fn.backend l.fn.disk)) l.done (parts_in l.memory l.self l.backend l.disk) l.fn.room.items l.room.items l.accepted l.room;
  numbers : HasStartRoom (queue_started (queue_of l.self l.backend)) l.self.outstanding l.room;
  idle : l.done ≡ 0 → l.room.item_room ≡ l.fn.room.item_room;
}
