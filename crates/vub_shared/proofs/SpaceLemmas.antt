-- What names mean and which spaces were handed out.
use Rattle.std.proofs.Common.{◌≡◌, ◌≤◌, nat_lt, true, arith}
use Rattle.std.proofs.lemmas.Bool.Decides.{nat_tests}
use Rattle.vub_shared.specs.MemSpaces.{count_of, handed_of}
use Rattle.vub_shared.specs.Spaces.{AllHanded}
use Rattle.vub_shared.specs.declared.mem_shared.MemShared.{MemShared}

-- where every number is handed out, all 65,536 spaces are there
pub all_there : (mem : MemShared) → AllHanded (handed_of mem) → count_of mem ≡ 65536
all_there mem all =
    let last : nat_lt 65535 (count_of mem) ≡ true = all 65535 (omega arith) in
    let few : count_of mem ≤ 65536 = omega (arith, mem.numbered, mem.spaces.ok) in
    grind (arith, nat_tests)
