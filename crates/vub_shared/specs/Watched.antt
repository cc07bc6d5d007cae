-- What a `WatchedShared` holds.
use Rattle.std.specs.Prelude.{◌≡◌, ◌≤◌, ◌+◌, ◌-◌, ◌*◌, ◌^◌, ◌↔◌, ℕ, Bool, false, List, Result, IsErrOf}
use Rattle.std.proofs.Common.{min}
use Rattle.vub_shared.specs.Bytes.{Bytes}
use Rattle.vub_shared.specs.Spaces.{Names}
use Rattle.vub_shared.specs.Stores.{Store}
use Rattle.vub_shared.specs.MemSpaces.{bytes_of, sizes_of, handed_of, names_of, count_of, faults_of}
use Rattle.vub_base.specs.declared.store.Space.{Space}
use Rattle.vub_shared.specs.declared.fault.SharedFault.{SharedFault}
use Rattle.vub_shared.specs.declared.fault.SharedFault.TheVariants.{Failed}
use Rattle.vub_shared.specs.declared.mem_shared.MemShared.{MemShared}
use Rattle.vub_shared.specs.declared.watched_shared.WatchedShared.{WatchedShared}

-- the memory that its stores are made on
abbrev pub memory_in : WatchedShared → MemShared
memory_in w = w.memory

-- the bytes that it holds
abbrev pub bytes_in : WatchedShared → Bytes
bytes_in w = bytes_of w.memory

abbrev pub sizes_in : WatchedShared → ℕ → ℕ
sizes_in w = sizes_of w.memory

abbrev pub handed_in : WatchedShared → ℕ → Bool
handed_in w = handed_of w.memory

abbrev pub names_in : WatchedShared → Names
names_in w = names_of w.memory

-- how many spaces it has handed out; they are numbered from 0
abbrev pub count_in : WatchedShared → ℕ
count_in w = count_of w.memory

-- the stores since the last restart
abbrev pub stores_in : WatchedShared → List Store
stores_in w = w.trail.stores

-- how often a call has failed: creates past the last space, and stores without room; cut at the end of its type
abbrev pub faults_in : WatchedShared → ℕ
faults_in w = min (faults_of w.memory + w.refused) (2 ^ 64 - 1)

-- no call of it has failed, and a number is left for a further space
pub record IsUnfailed (w : WatchedShared) : Type 0 where
  pub faults : faults_in w ≡ 0
  pub left : handed_in w 65535 ≡ false

-- two stores of so many bytes have room
abbrev pub HasRoomFor : WatchedShared → ℕ → Type 0
HasRoomFor w size = 2 * size ≤ w.trail.bytes_room

-- a create fails exactly where all spaces are handed out
abbrev pub FailsFull : WatchedShared → Result Space SharedFault → Type 0
FailsFull before result = IsErrOf result Failed ↔ (count_in before ≡ 65536)

-- the spaces and their names are as they were
pub record SamePlaces (before now : WatchedShared) : Type 0 where
  pub handed : (s : ℕ) → handed_in now s ≡ handed_in before s
  pub sizes : (s : ℕ) → sizes_in now s ≡ sizes_in before s
  pub names : names_in now ≡ names_in before
