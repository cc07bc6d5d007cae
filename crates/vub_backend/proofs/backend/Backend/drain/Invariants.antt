use Rattle.vub_queue.specs.Turned.{outside}
use Rattle.vub_backend.specs.Backends.{queues_of, EachLies, Drained, KeepsOthers}
use Rattle.vub_backend.proofs.backend.Backend.drain.Given as goal

abbrev pub invariant-loop-done : goal.invariant-loop-done
invariant-loop-done g l = record {
  lies : EachLies (g.M.Shared.sizes l.mem) (g.D.Disk.capacity l.disk) (queues_of l.self);
  drained : Drained l.fn.queue l.done
      (outside g.M.Shared g.D.Disk g.B.Bell l.fn.mem l.fn.disk l.fn.bell)
      (outside g.M.Shared g.D.Disk g.B.Bell l.mem l.disk l.bell)
      (queues_of l.fn.self) (queues_of l.self) l.accepted;
  others : KeepsOthers l.fn.queue (queues_of l.fn.self) (queues_of l.self);
}
