-- The steps of one request at work, in their order (VIRTIO 1.2, 5.2.6).
use Rattle.std.specs.Prelude.{ℕ, zero, suc, ◌+◌, ◌*◌, ◌/◌, min, ◌==◌, if◌then◌else◌, List, [], ◌∷◌, ◌++◌, length, Option, Some, None, unwrap_or}
use Rattle.vub_base.specs.declared.header.Header1.{Header1}
use Rattle.vub_device.specs.declared.entry.Asked.{Asked}
use Rattle.vub_device.specs.declared.entry.Asked.TheVariants as asked
use Rattle.vub_device.specs.Requests.{refusal}

-- one step; the sectors of a request are counted from 0
pub data RequestStep : Type 0 where
  -- reads a sector of the disk
  Look : (place : ℕ) → RequestStep
  -- stores what was read
  Put : (place : ℕ) → RequestStep
  -- writes a sector of the disk
  Act : (place : ℕ) → RequestStep
  -- flushes the disk
  Sync : RequestStep
  -- stores the status, which completes the request
  Status : RequestStep

abbrev pub look_steps : ℕ → ℕ → List RequestStep
look_steps place zero = []
look_steps place (suc count) = Look place ∷ Put place ∷ look_steps (place + 1) count

abbrev pub act_steps : ℕ → ℕ → List RequestStep
act_steps place zero = []
act_steps place (suc count) = Act place ∷ act_steps (place + 1) count

-- the steps of a request that isn't refused, before its status
abbrev pub disk_steps : Asked → List RequestStep
disk_steps (asked.Read s n) = look_steps 0 n
disk_steps (asked.Write s bytes) = act_steps 0 (length bytes / 512)
disk_steps asked.Flush = Sync ∷ []
disk_steps request = []

-- none of them is left out but where the request is refused
abbrev pub unless_refused : Option ℕ → List RequestStep → List RequestStep
unless_refused None steps = steps
unless_refused (Some status) steps = []

abbrev pub task_steps : Header1 → Asked → List RequestStep
task_steps h request = unless_refused (refusal h.capacity h.mode request) (disk_steps request) ++ Status ∷ []

-- the status that a request gets where no call of the disk fails
abbrev pub status_of : Header1 → Asked → ℕ
status_of h request = unwrap_or (refusal h.capacity h.mode request) 0

-- how many bytes the device may write for a request: what is read, and the status
abbrev pub writable_len : Asked → ℕ
writable_len (asked.Read s n) = 512 * n + 1
writable_len asked.Id = 21
writable_len request = 1

-- the length in the used element of a request that was answered with a status
abbrev pub used_len : ℕ → Asked → ℕ
used_len status request =
    if status == 0 then min (writable_len request) 4294967295
    else if writable_len request == 1 then 1 else 0
