-- What holds of a queue at every moment of a run, part by part: its history, the work, what stands in buffers.
use Rattle.std.proofs.Common.{◌≡◌, ◌≤◌, ◌<◌, ℕ, ◌+◌, ◌*◌, ◌/◌, ◌%◌, Bool, true, false, List, [], ◌++◌, length, take, arith}
use Rattle.std.specs.Prelude.{Option, Some, slice_index, nat_lt, if◌then◌else◌, ⊤, None}
use Rattle.std.specs.Int.{◌∣◌}
use Rattle.std.specs.List.{AllByRecursion}
use Rattle.vub_base.specs.declared.header.Header1.{Header1}
use Rattle.vub_shared.specs.Bytes.{Bytes, put}
use Rattle.vub_steps.specs.declared.steps.Phase.{Phase}
use Rattle.vub_steps.specs.declared.steps.Phase.TheVariants as phases
use Rattle.vub_steps.specs.declared.steps.Plan.{Plan}
use Rattle.vub_steps.specs.Steps.{plan_steps, start_steps, publish_steps}
use Rattle.vub_driver.specs.Layout.{area_place, buffer_place, status_place, sectors_place}
use Rattle.vub_device.specs.declared.entry.Answered.{Answered}
use Rattle.vub_device.specs.declared.entry.Asked.{Asked}
use Rattle.vub_device.specs.declared.entry.Asked.TheVariants as asks
use Rattle.vub_device.specs.declared.entry.Entry.{Entry}
use Rattle.vub_device.specs.Crash.{value}
use Rattle.vub_device.specs.Past.{offers, asked, accepted, published, collected, is_among, IsOpen, started, looks, bytes_read, acts, synced, faulted}
use Rattle.vub_device.specs.Places.{are_distinct}
use Rattle.vub_run.specs.Memory.{Scene}
use Rattle.vub_run.specs.Tracking.{answers, answered_len}
use Rattle.vub_base.specs.declared.request.Ask.{Ask}
use Rattle.vub_device.specs.Requests.{request_of}

-- a size of a ring
pub record IsSize (n : ℕ) : Type 0 where
  pub some : 0 < n
  pub small : n ≤ 64
  pub laps : n ∣ 65536

-- ---- the history

-- one to eight sectors are read, up to the end of the disk
pub record IsWideRead (cap s c : ℕ) : Type 0 where
  pub fits : s + c ≤ cap
  pub some : 0 < c
  pub few : c ≤ 8

-- one to eight sectors are written, up to the end of the disk
pub record IsWideWrite (cap s : ℕ) (bytes : List ℕ) : Type 0 where
  pub fits : s + length bytes / 512 ≤ cap
  pub whole : length bytes % 512 ≡ 0
  pub some : 512 ≤ length bytes
  pub few : length bytes ≤ 4096

-- one to eight sectors of the disk are read or written, or all is made stable
abbrev pub IsWide : ℕ → Option Asked → Type 0
IsWide cap (Some (asks.Read s c)) = IsWideRead cap s c
IsWide cap (Some (asks.Write s bytes)) = IsWideWrite cap s bytes
IsWide cap (Some asks.Flush) = ⊤
IsWide cap r = ⊥

pub record Known (q n cap : ℕ) (past : List Entry) (heads : List ℕ) : Type 0 where
  pub offers_are : length heads ≡ offers past q
  pub offered : accepted past q ≤ length heads
  pub distinct : are_distinct (published past q) ≡ true
  pub below : (k : ℕ) → is_among (published past q) k ≡ true → k < accepted past q
  pub shown : collected past q ≤ length (published past q)
  pub fewer : length (published past q) ≤ accepted past q
  pub room : length heads ≤ n + collected past q
  pub good : AllByRecursion (λ (a : Answered). a.status ≡ 0) (answers past q)
  pub wide : (k : ℕ) → k < length heads → IsWide cap (asked past q k)
  pub unfaulted : (k : ℕ) → faulted past q k ≡ false
  pub values : (s : ℕ) → length (value past s) ≡ 512

-- ---- the ring

-- the used element of a number that succeeded
abbrev pub spot : ℕ → List ℕ → List Entry → ℕ → ℕ × ℕ
spot q heads past k = (slice_index heads k, answered_len 0 (asked past q k))

-- ---- the driver

-- offered and not collected
pub record IsOut (q : ℕ) (past : List Entry) (heads : List ℕ) (k : ℕ) : Type 0 where
  pub below : k < length heads
  pub kept : is_among (take (collected past q) (published past q)) k ≡ false

-- ---- the device

-- of c sectors so many were looked at in so many steps, a look and a store for each, and this was read
pub record IsReadTo (c made looked : ℕ) (read : List ℕ) : Type 0 where
  pub under : made ≤ 2 * c → looked ≡ (made + 1) / 2
  pub whole : 2 * c ≤ made → looked ≡ c
  pub long : length read ≡ 512 * looked

-- of so many sectors so many were written in so many steps
pub record IsWrittenTo (n made acted : ℕ) : Type 0 where
  pub under : made ≤ n → acted ≡ made
  pub whole : n ≤ made → acted ≡ n

-- what the steps of a request have done
abbrev pub IsBegun : ℕ → ℕ → ℕ → List ℕ → Bool → Option Asked → Type 0
IsBegun made looked acted read stable (Some (asks.Read s c)) = IsReadTo c made looked read
IsBegun made looked acted read stable (Some (asks.Write s bytes)) = IsWrittenTo (length bytes / 512) made acted
IsBegun made looked acted read stable (Some asks.Flush) = stable ≡ true
IsBegun made looked acted read stable r = ⊤

pub record Progress (made looked acted : ℕ) (read : List ℕ) (stable : Bool) (r : Option Asked) : Type 0 where
  pub fresh : made ≡ 0 → (looked ≡ 0) × ((acted ≡ 0) × ((read ≡ []) × (stable ≡ false)))
  pub begun : 0 < made → IsBegun made looked acted read stable r

-- all steps before the status were made
abbrev pub IsFull : ℕ → Option Asked → Type 0
IsFull made (Some (asks.Read s c)) = 2 * c ≤ made
IsFull made (Some (asks.Write s bytes)) = length bytes / 512 ≤ made
IsFull made (Some asks.Flush) = 1 ≤ made
IsFull made r = ⊤

-- a step is left
abbrev pub IsPending : ℕ → Option Asked → Type 0
IsPending made (Some (asks.Read s c)) = made ≤ 2 * c
IsPending made (Some (asks.Write s bytes)) = made ≤ length bytes / 512
IsPending made (Some asks.Flush) = made ≤ 1
IsPending made r = ⊤

-- before the first one all of them are
pub pending_none : (o : Option Asked) → IsPending 0 o
pending_none (Some (asks.Read s n)) = omega arith
pending_none (Some (asks.Write s bytes)) = omega arith
pending_none (Some asks.Flush) = omega arith
pending_none (Some asks.Id) = tt
pending_none (Some (asks.Discard parts)) = tt
pending_none (Some (asks.Zero parts)) = tt
pending_none None = tt

-- between turns a queue is at rest, in a start, in a fetch whose counter is stored, or in a publication
abbrev pub BetweenTurns : Phase → Type 0
BetweenTurns (phases.Fetch done) = done ≡ 1
BetweenTurns phase = ⊤

-- and its batch goes with that; of a start and of a publication a step is left
abbrev pub PhaseIs : ℕ → Bool → Plan → List ℕ → Phase → Type 0
PhaseIs n bell plan batch phases.Rest = batch ≡ []
PhaseIs n bell plan batch (phases.Start done) = (batch ≡ []) × (done < length (start_steps n plan bell))
PhaseIs n bell plan batch (phases.Fetch done) = (batch ≡ []) × (done ≡ 1)
PhaseIs n bell plan batch (phases.Publish done) = (0 < length batch) × (done < length (publish_steps (length batch) bell))

-- the batch of a publication until used.idx shows it
abbrev pub hidden : List ℕ → Phase → List ℕ
hidden batch (phases.Publish done) = if nat_lt (4 * length batch) done then [] else batch
hidden batch phase = []

-- a start of which so many steps were made: the queue isn't started, a step is left, and it has a store for each entry and two more at most
pub record InStart (runs : Bool) (n : ℕ) (bell : Bool) (plan : Plan) (done : ℕ) : Type 0 where
  pub stopped : runs ≡ false
  pub left : done < length (start_steps n plan bell)
  pub few : length (plan_steps n plan) ≤ n + 2

-- what is known of a start that is under way; a fetch and a publication are of a queue that is started
abbrev pub StartIs : Bool → ℕ → Bool → Plan → Phase → Type 0
StartIs runs n bell plan phases.Rest = ⊤
StartIs runs n bell plan (phases.Start done) = InStart runs n bell plan done
StartIs runs n bell plan phase = runs ≡ true

-- of the numbers that are completed, or in a batch that isn't shown. What a request has done is counted from the start of its queue on
pub record Worked (q : ℕ) (past : List Entry) (phase : Phase) (batch completed : List ℕ) (made : ℕ → ℕ) : Type 0 where
  pub distinct : are_distinct (completed ++ batch) ≡ true
  pub opens : (k : ℕ) → is_among (completed ++ batch) k ≡ true → IsOpen past q k
  pub untouched : (k : ℕ) → accepted past q ≤ k → made k ≡ 0
  pub progress : started past q ≡ true → (k : ℕ) → Progress (made k) (looks past q k) (acts past q k) (bytes_read past q k) (synced past q k) (asked past q k)
  pub full : (k : ℕ) → is_among (completed ++ batch) k ≡ true → IsFull (made k) (asked past q k)
  pub pending : (k : ℕ) → IsOpen past q k → is_among (completed ++ batch) k ≡ false → IsPending (made k) (asked past q k)
  pub quiet : started past q ≡ false → (batch ≡ []) × ((completed ≡ []) × ((k : ℕ) → made k ≡ 0))
  pub between : BetweenTurns phase

-- a counter is at most the number of accepted requests, and a fetch that stored its counter has one more
abbrev pub IsLow : ℕ → ℕ → Phase → Type 0
IsLow taken counter (phases.Fetch done) = counter ≤ taken + done
IsLow taken counter phase = counter ≤ taken

-- The batch and the counter. No number of the batch is completed too, and none stands twice; where the batch is shown its
-- numbers are published. Before the start of a queue there is no batch.
pub record Carries (q : ℕ) (past : List Entry) (counter : ℕ) (phase : Phase) (batch completed : List ℕ) : Type 0 where
  pub distinct : are_distinct (completed ++ batch) ≡ true
  pub shown : (k : ℕ) → is_among batch k ≡ true → is_among (hidden batch phase) k ≡ false → is_among (published past q) k ≡ true
  pub quiet : started past q ≡ false → batch ≡ []
  pub low : IsLow (accepted past q) counter phase

-- ---- what stands in buffers

abbrev pub buffer : ℕ → List ℕ → ℕ → ℕ
buffer q heads k = buffer_place (area_place q) (slice_index heads k)

abbrev pub IsRead : Option Asked → Type 0
IsRead (Some (asks.Read s c)) = ⊤
IsRead r = ⊥

-- a byte that was read and stored: within the buffer, within the sectors whose steps were made, and seen
pub record IsKept (made read i : ℕ) : Type 0 where
  pub small : i < 4096
  pub put : i < 512 * (made / 2)
  pub looked : i < read

pub record Stored (q : ℕ) (past : List Entry) (heads : List ℕ) (m : Bytes) (batch completed : List ℕ) (made : ℕ → ℕ) : Type 0 where
  pub sectors : (k i : ℕ) → IsOpen past q k → IsKept (made k) (length (bytes_read past q k)) i → IsRead (asked past q k) → m 0 (sectors_place (buffer q heads k) + i) ≡ slice_index (bytes_read past q k) i
  pub status : (k : ℕ) → is_among (completed ++ batch) k ≡ true → m 0 (status_place (buffer q heads k)) ≡ 0

-- ---- all of it

-- what an entry leaves that offers and shows nothing: it may accept, and it may collect
pub record LeavesQueue (q : ℕ) (past past' : List Entry) : Type 0 where
  pub accepts : accepted past q ≤ accepted past' q
  pub shows : published past' q ≡ published past q
  pub collects : collected past q ≤ collected past' q
  pub asks : (k : ℕ) → asked past' q k ≡ asked past q k

-- what a header of this grammar gives
pub record IsGood (h : Header1) : Type 0 where
  pub size : IsSize h.size
  pub queues : h.queues ≡ 1
  pub base : h.base < 65536

-- the scene after a store into guest memory
abbrev pub stored_at : ℕ → List ℕ → Scene → Scene
stored_at p bs s = record s { memory = put s.memory 0 p bs }

-- a request of the grammar
abbrev pub IsPlainAsk : ℕ → Ask → Type 0
IsPlainAsk cap a = IsWide cap (Some (request_of a))
