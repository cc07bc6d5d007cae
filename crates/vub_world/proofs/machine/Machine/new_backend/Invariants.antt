use Rattle.vub_memdisk.specs.MemDisks.{capacity_of}
use Rattle.vub_shared.specs.Watched.{sizes_in}
use Rattle.vub_backend.specs.Backends.{queues_of}
use Rattle.vub_world.specs.DriverSides.{AreNewQueues}
use Rattle.vub_world.specs.Lives.{IsBackend}
use Rattle.vub_world.proofs.machine.Machine.new_backend.Given as goal

abbrev pub invariant-loop-index : goal.invariant-loop-index
invariant-loop-index l = IsBackend l.self.header.queues (sizes_in l.self.memory) (capacity_of l.self.disk) l.backend × AreNewQueues l.index l.self.sides.items (queues_of l.backend)
