use Rattle.std.proofs.Common.{◌≡◌, ℕ}
use Rattle.vub_run.specs.Memory.{opened}
use Rattle.vub_shared.specs.Watched.{bytes_in, sizes_in, IsUnfailed}
use Rattle.vub_world.proofs.indexes.set_indexes.Given as goal

abbrev pub invariant-loop-queue : goal.invariant-loop-queue
invariant-loop-queue l = record {
  bytes : bytes_in l.memory ≡ opened l.header l.queue;
  sizes : (s : ℕ) → sizes_in l.memory s ≡ sizes_in l.fn.memory s;
  unfailed : IsUnfailed l.memory;
}
