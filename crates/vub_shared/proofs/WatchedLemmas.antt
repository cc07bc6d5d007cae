-- Why no call of a memory that keeps fewer than two stores has failed.
use Rattle.std.proofs.Common.{◌≡◌, ◌≤◌, ◌<◌, ℕ, false, length, ap, ◌∙◌, arith}
use Rattle.std.proofs.lemmas.Bool.Decides.{nat_tests}
use Rattle.vub_shared.specs.MemSpaces.{handed_of}
use Rattle.vub_shared.specs.Watched.{memory_in, count_in, handed_in, stores_in, faults_in, IsUnfailed}
use Rattle.vub_shared.specs.declared.mem_shared.MemShared.{MemShared}
use Rattle.vub_shared.specs.declared.watched_shared.WatchedShared.{WatchedShared}

-- a memory that keeps fewer than two stores, and has a number left for a further space, has failed in no call
pub never_failed : (w : WatchedShared) → length (stores_in w) < 2 → handed_in w 65535 ≡ false → faults_in w ≡ 0
never_failed w few left =
    let numbers : count_in w < 65536 = grind (arith, nat_tests) in
    omega (arith, w.unrefused few, w.unfailed numbers)

-- after a restart it is as it was
pub restarted_unfailed : (w now : WatchedShared) → IsUnfailed w → memory_in now ≡ memory_in w → faults_in now ≡ faults_in w → IsUnfailed now
restarted_unfailed w now is same faults = record { faults = faults ∙ is.faults; left = ap (λ (m : MemShared). handed_of m 65535) same ∙ is.left }

-- a step that leaves one store at most, and makes no space, failed in no call
pub still_unfailed : (w now : WatchedShared) → IsUnfailed w → length (stores_in now) ≤ 1 → ((s : ℕ) → handed_in now s ≡ handed_in w s) → IsUnfailed now
still_unfailed w now is few same =
    let left : handed_in now 65535 ≡ false = same 65535 ∙ is.left in
    record { faults = never_failed now (omega arith) left; left = left }
