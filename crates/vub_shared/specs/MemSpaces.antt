-- What a `MemShared` holds, and what its loads and stores leave.
use Rattle.std.specs.Prelude.{◌≡◌, ◌↔◌, ◌==◌, ◌+◌, if◌then◌else◌, ℕ, Bool, nat_lt, List, Result, OnOk, OnErr, IsErr, IsErrOf, IfOk, Contains, length}
use Rattle.vub_base.specs.MemForms.{next_count}
use Rattle.vub_shared.specs.Bytes.{Bytes}
use Rattle.vub_shared.specs.Spaces.{Names}
use Rattle.vub_shared.specs.Held.{space_bytes, image, space_size, meaning}
use Rattle.vub_base.specs.declared.store.Space.{Space}
use Rattle.vub_shared.specs.declared.fault.SharedFault.{SharedFault}
use Rattle.vub_shared.specs.declared.fault.SharedFault.TheVariants.{Failed}
use Rattle.vub_shared.specs.declared.mem_shared.MemShared.{MemShared}

-- the bytes that a memory holds
abbrev pub bytes_of : MemShared → Bytes
bytes_of mem = image mem.spaces.items

-- the bytes of one space of it, none for one that wasn't handed out
abbrev pub image_of : MemShared → ℕ → List ℕ
image_of mem = space_bytes mem.spaces.items

abbrev pub sizes_of : MemShared → ℕ → ℕ
sizes_of mem = space_size mem.spaces.items

-- how many spaces it has handed out
abbrev pub count_of : MemShared → ℕ
count_of mem = length mem.spaces.items

-- its spaces are numbered from 0
abbrev pub handed_of : MemShared → ℕ → Bool
handed_of mem s = nat_lt s (count_of mem)

abbrev pub names_of : MemShared → Names
names_of mem = meaning mem.spaces.items

-- the number of the next load or store
abbrev pub call_of : MemShared → ℕ
call_of mem = mem.call

-- the numbers of the loads and stores that fail
abbrev pub fails_of : MemShared → List ℕ
fails_of mem = mem.fails.items

abbrev pub faults_of : MemShared → ℕ
faults_of mem = mem.faults

-- no space and no name more, and each space has its size
pub record SameSpaces (before now : MemShared) : Type 0 where
  pub count : count_of now ≡ count_of before
  pub sizes : (s : ℕ) → sizes_of now s ≡ sizes_of before s
  pub names : names_of now ≡ names_of before

-- A load or store was counted. It failed exactly where its number is one of those chosen, and left
-- the bytes as they were then.
pub record IsCounted {T E : Type 0} (before now : MemShared) (result : Result T E) : Type 0 where
  pub fails : IsErr result ↔ Contains (fails_of before) (call_of before)
  pub rises : OnErr result (faults_of now ≡ next_count (faults_of before))
  pub stays : OnOk result (faults_of now ≡ faults_of before)
  pub unchanged : OnErr result (bytes_of now ≡ bytes_of before)
  pub next : call_of now ≡ next_count (call_of before)
  pub chosen : fails_of now ≡ fails_of before

-- A create added a space with the next number, failed exactly where 65,536 are there, and left all
-- as it was, but for the count of faults, where it made none.
pub record IsCreated (before now : MemShared) (result : Result Space SharedFault) : Type 0 where
  pub full : IsErrOf result Failed ↔ (count_of before ≡ 65536)
  pub faults : faults_of now ≡ (if count_of before == 65536 then next_count (faults_of before) else faults_of before)
  pub number : IfOk result (λ space. space.number ≡ count_of before)
  pub added : OnOk result (count_of now ≡ count_of before + 1)
  pub spaces : OnErr result (SameSpaces before now)
  pub bytes : OnErr result (bytes_of now ≡ bytes_of before)
  pub next : call_of now ≡ call_of before
  pub chosen : fails_of now ≡ fails_of before
