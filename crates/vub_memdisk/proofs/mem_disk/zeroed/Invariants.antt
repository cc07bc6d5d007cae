use Rattle.std.proofs.Common.{◌≡◌, length}
use Rattle.vub_memdisk.specs.Sectors.{AreZero}
use Rattle.vub_memdisk.proofs.mem_disk.zeroed.Given as goal

abbrev pub invariant-loop-made : goal.invariant-loop-made
invariant-loop-made l =
    record { count : length l.sectors.items ≡ l._made; zero : AreZero l.sectors.items }
