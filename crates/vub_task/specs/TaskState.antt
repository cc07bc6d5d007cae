-- A request at work: which step its task makes next, and what that step leaves (VIRTIO 1.2, 5.2.6).
use Rattle.std.specs.Prelude.{◌≡◌, ◌≢◌, ◌⊎◌, ◌<◌, ◌≤◌, ℕ, ◌+◌, ◌-◌, ◌*◌, ◌/◌, ◌%◌, Bool, true, false, not, nat_le, ◌==◌, ◌&&◌, if◌then◌else◌, min, List, [], ◌∷◌, length, slice_get, Option, Some, None, option_map, Result, Ok, Err, ⊤}
use Rattle.vub_base.specs.declared.header.Header1.{Header1}
use Rattle.vub_base.specs.declared.header.CacheMode.TheVariants.{Back}
use Rattle.vub_base.specs.declared.store.Tag.TheVariants.{T2}
use Rattle.byteorder.specs.Endian.{little_bytes}
use Rattle.vub_shared.specs.Bytes.{Bytes, word, bytes_from}
use Rattle.vub_shared.specs.Stores.{Store, one_store, after_store, after_in_trail}
use Rattle.vub_base.specs.Told.{WhereTold}
use Rattle.vub_disk.specs.Values.{Values, with_value}
use Rattle.vub_driver.specs.Layout.{status_place}
use Rattle.vub_device.specs.declared.entry.Asked.{Asked}
use Rattle.vub_device.specs.declared.entry.Asked.TheVariants as asked
use Rattle.vub_device.specs.declared.entry.SectorValue.{SectorValue}
use Rattle.vub_device.specs.Requests.{effect_at}
use Rattle.vub_driver.specs.GuestChain.{Links}
use Rattle.vub_steps.specs.Tasks.{RequestStep, Look, Put, Act, Sync, Status, task_steps, status_of, used_len}
use Rattle.vub_direct_chain.specs.ChainState.{MeansRequest, sector_of, data_start, data_len, span_at, SpanLies, HasParts, BreaksRule}
use Rattle.vub_direct_chain.specs.declared.chain.Unread.{Unread}
use Rattle.vub_direct_chain.specs.declared.chain.Unread.TheVariants as unread
use Rattle.vub_split.specs.declared.split.SplitRing.{SplitRing}
use Rattle.vub_direct_chain.specs.declared.chain.Sectors.{Sectors}
use Rattle.vub_direct_chain.specs.declared.chain.Parts.{Parts}
use Rattle.vub_task.specs.declared.task.Answer.{Answer}
use Rattle.vub_task.specs.declared.task.Transfer.{Transfer}
use Rattle.vub_task.specs.declared.task.Work.{Work}
use Rattle.vub_task.specs.declared.task.Work.TheVariants as work
use Rattle.vub_task.specs.declared.task.Task.{Task}
use Rattle.vub_task.specs.declared.task.TaskStep as made
use Rattle.vub_task.specs.declared.task.TaskStep.TheVariants as answers

-- ---- which step is next

abbrev pub answer_of : Header1 → SplitRing → ℕ → Asked → Answer
answer_of h r buffer request = record {
  status = status_of h request;
  len = used_len (status_of h request) request;
  plain_len = used_len 1 request;
  span = span_at r (status_place buffer) 1;
}

-- the sectors of a request on their way, of which so many are done
abbrev pub transfer_at : Header1 → SplitRing → ℕ → Asked → ℕ → Transfer
transfer_at h r buffer request done = record {
  sector = sector_of request;
  count = data_len request / 512;
  done = done;
  span = span_at r (data_start buffer request) (data_len request);
  answer = answer_of h r buffer request;
}

-- what a task does that makes this step next
abbrev pub work_for : Header1 → SplitRing → ℕ → Asked → RequestStep → Work
work_for h r buffer request (Look place) = work.Look (transfer_at h r buffer request place)
work_for h r buffer request (Put place) = work.Store (transfer_at h r buffer request place)
work_for h r buffer request (Act place) = work.Act (transfer_at h r buffer request place)
work_for h r buffer request Sync = work.Sync (answer_of h r buffer request)
work_for h r buffer request Status = work.Reply (answer_of h r buffer request)

-- the head of the request that a task works on
abbrev pub head_in : Task → ℕ
head_in task = task.head

-- a request of which no step was made
abbrev pub fresh_task : ℕ → Task
fresh_task head = record { head = head; work = work.Begin }

-- the task of a request stands for so many steps made of it
pub record IsTaskAt (h : Header1) (r : SplitRing) (buffer : ℕ) (request : Asked) (made : ℕ) (task : Task) : Type 0 where
  pub begins : made ≡ 0 → task.work ≡ work.Begin
  pub goes_on : 0 < made → (step : RequestStep) → slice_get (task_steps h request) made ≡ Some step → task.work ≡ work_for h r buffer request step

-- the requests that read, write whole sectors or flush
abbrev pub IsBasic : Asked → Type 0
IsBasic (asked.Read s n) = ⊤
IsBasic (asked.Write s bytes) = length bytes % 512 ≡ 0
IsBasic asked.Flush = ⊤
IsBasic request = ⊥

-- such a request on a disk of so many sectors that is written back at flushes
pub record DiskServes (h : Header1) (sectors : ℕ) (request : Asked) : Type 0 where
  pub basic : IsBasic request
  pub capacity : h.capacity ≡ sectors
  pub cached : h.mode ≡ Back

-- ---- the parts of a request, as it is begun

-- whether the device may write bytes of them
abbrev pub has_writable : Option Sectors → Bool
has_writable None = false
has_writable (Some x) = x.writable && not (x.span.len == 0)

-- the used length where nothing is answered but the status: 1 where the device may write its byte alone
abbrev pub plain_len_with : Bool → ℕ → ℕ
plain_len_with more status_len = if more then 0 else if status_len == 1 then 1 else 0

abbrev pub plain_len_of : Parts → ℕ
plain_len_of p = plain_len_with (has_writable p.sectors) p.status.len

abbrev pub plain_answer_of : Parts → ℕ → Answer
plain_answer_of p status = record { status = status; len = plain_len_of p; plain_len = plain_len_of p; span = p.status }

-- a read or a write of these sectors, none of which is done
abbrev pub whole_transfer : Parts → ℕ → Sectors → Transfer
whole_transfer p sector x = record {
  sector = sector;
  count = x.span.len / 512;
  done = 0;
  span = x.span;
  answer = record {
    status = 0;
    len = if x.writable then min (x.span.len + 1) 4294967295 else plain_len_of p;
    plain_len = plain_len_of p;
    span = p.status;
  };
}

-- whether sectors can be moved: in the direction that the descriptor allows, whole ones, and none past the capacity
abbrev pub can_move : ℕ → ℕ → Bool → Option Sectors → Bool
can_move sector capacity writable None = false
can_move sector capacity writable (Some x) = (if writable then x.writable else not x.writable) && ((x.span.len % 512 == 0) && nat_le (sector + x.span.len / 512) capacity)

-- what a request does first, by the type and the sector of its header (5.2.6)
pub record FirstWork (p : Parts) (kind sector capacity : ℕ) (w : Work) : Type 0 where
  pub read : (x : Sectors) → kind ≡ 0 → p.sectors ≡ Some x → can_move sector capacity true p.sectors ≡ true → 0 < x.span.len / 512 → w ≡ work.Look (whole_transfer p sector x)
  pub read_nothing : (x : Sectors) → kind ≡ 0 → p.sectors ≡ Some x → can_move sector capacity true p.sectors ≡ true → x.span.len ≡ 0 → w ≡ work.Reply (whole_transfer p sector x).answer
  pub read_refused : kind ≡ 0 → can_move sector capacity true p.sectors ≡ false → w ≡ work.Reply (plain_answer_of p 1)
  pub write : (x : Sectors) → kind ≡ 1 → p.sectors ≡ Some x → can_move sector capacity false p.sectors ≡ true → 0 < x.span.len / 512 → w ≡ work.Act (whole_transfer p sector x)
  pub write_nothing : (x : Sectors) → kind ≡ 1 → p.sectors ≡ Some x → can_move sector capacity false p.sectors ≡ true → x.span.len ≡ 0 → w ≡ work.Reply (whole_transfer p sector x).answer
  pub write_refused : kind ≡ 1 → can_move sector capacity false p.sectors ≡ false → w ≡ work.Reply (plain_answer_of p 1)
  pub flush : kind ≡ 4 → w ≡ work.Sync (plain_answer_of p 0)
  pub unsupported : kind ≢ 0 → kind ≢ 1 → kind ≢ 4 → w ≡ work.Reply (plain_answer_of p 2)

-- the same of the parts of a chain: a header that is too short is refused, else its bytes hold type and sector
pub record StartsAs (m : Bytes) (p : Parts) (capacity : ℕ) (w : Work) : Type 0 where
  pub short : p.header.len < 16 → w ≡ work.Reply (plain_answer_of p 1)
  pub whole : 16 ≤ p.header.len → FirstWork p (word 4 m p.header.space.number p.header.place) (word 8 m p.header.space.number (p.header.place + 8)) capacity w

-- a chain that was begun, or wasn't read
abbrev pub Starts : (ℕ → ℕ) → SplitRing → Bytes → ℕ → ℕ → Result Work Unread → Type 0
Starts sizes r m head capacity (Ok w) = (p : Parts) × HasParts sizes r m head p × StartsAs m p capacity w
Starts sizes r m head capacity (Err e) = BreaksRule sizes r m head e

-- ---- where a task lies

-- the status has a byte, and lies in its space
pub record AnswerLies (sizes : ℕ → ℕ) (a : Answer) : Type 0 where
  pub some : 1 ≤ a.span.len
  pub status : SpanLies sizes a.span

-- a sector is left, all lie in their space and on the disk
pub record TransferLies (sizes : ℕ → ℕ) (capacity : ℕ) (t : Transfer) : Type 0 where
  pub left : t.done < t.count
  pub sectors : t.span.place + 512 * t.count ≤ sizes t.span.space.number
  pub disk : t.sector + t.count ≤ capacity
  pub answer : AnswerLies sizes t.answer

abbrev pub WorkLies : (ℕ → ℕ) → ℕ → Work → Type 0
WorkLies sizes capacity work.Begin = ⊤
WorkLies sizes capacity (work.Look t) = TransferLies sizes capacity t
WorkLies sizes capacity (work.Store t) = TransferLies sizes capacity t
WorkLies sizes capacity (work.Act t) = TransferLies sizes capacity t
WorkLies sizes capacity (work.Sync a) = AnswerLies sizes a
WorkLies sizes capacity (work.Reply a) = AnswerLies sizes a

abbrev pub TaskLies : (ℕ → ℕ) → ℕ → Task → Type 0
TaskLies sizes capacity task = WorkLies sizes capacity task.work

-- whether the chain of a task was read
abbrev pub is_begun : Work → Bool
is_begun work.Begin = false
is_begun w = true

-- ---- what a step is and what is next, by the work

-- the answer where a disk call failed
abbrev pub failed_answer : Answer → Answer
failed_answer a = record a { status = 1; len = a.plain_len }

-- the same with one sector more, or the status after the last one
abbrev pub one_more : Transfer → Transfer
one_more t = record t { done = t.done + 1 }

abbrev pub after_put : Transfer → Work
after_put t = if nat_le t.count (t.done + 1) then work.Reply t.answer else work.Look (one_more t)

abbrev pub after_act : Transfer → Work
after_act t = if nat_le t.count (t.done + 1) then work.Reply t.answer else work.Act (one_more t)

-- what a step of this work answers, with the work after it
abbrev pub Makes : Work → made.TaskStep → Work → Type 0
Makes (work.Look t) (answers.Looked s) next = (s ≡ t.sector + t.done) × (next ≡ work.Store t)
Makes (work.Look t) answers.Faulted next = next ≡ work.Reply (failed_answer t.answer)
Makes (work.Store t) (answers.Stored tag) next = (tag ≡ T2) × (next ≡ after_put t)
Makes (work.Store t) answers.Failed next = next ≡ work.Store t
Makes (work.Act t) (answers.Acted s) next = (s ≡ t.sector + t.done) × (next ≡ after_act t)
Makes (work.Act t) answers.Faulted next = next ≡ work.Reply (failed_answer t.answer)
Makes (work.Act t) answers.Failed next = next ≡ work.Act t
Makes (work.Sync a) answers.Synced next = next ≡ work.Reply a
Makes (work.Sync a) answers.Faulted next = next ≡ work.Reply (failed_answer a)
Makes (work.Reply a) (answers.Done status len) next = (status ≡ a.status) × (len ≡ a.len) × (next ≡ work.Reply a)
Makes (work.Reply a) answers.Failed next = next ≡ work.Reply a
Makes w step next = ⊥

-- the store of a step of this work, if it makes one: a sector at its place, or the status in its last byte
abbrev pub store_by : Work → List ℕ → Option Store
store_by (work.Store t) sector = Some (one_store t.span.space.number (t.span.place + 512 * t.done) sector)
store_by (work.Reply a) sector = Some (one_store a.span.space.number (a.span.place + (a.span.len - 1)) (little_bytes 1 a.status))
store_by w sector = None

-- a task whose disk call failed: it owes status 1, with the used length of an answer without data
pub record OwesFailure (task : Task) : Type 0 where
  pub answer : Answer
  pub next : task.work ≡ work.Reply answer
  pub status : answer.status ≡ 1
  pub len : answer.len ≡ answer.plain_len

-- ---- what a step leaves

-- a fact about what a call made, where neither memory nor disk failed in it
abbrev pub IfMade : Option made.TaskStep → (made.TaskStep → Type 0) → Type 0
IfMade None P = ⊥
IfMade (Some answers.Faulted) P = ⊤
IfMade (Some answers.Failed) P = ⊤
IfMade (Some step) P = P step

-- a fact about a flush that was made
abbrev pub IfSynced : Option made.TaskStep → Type 0 → Type 0
IfSynced (Some answers.Synced) P = P
IfSynced o P = ⊤

-- the told stable values: a flush that was made has made the values stable, and any other step leaves them as they were
abbrev pub StableAfter : made.TaskStep → Option Values → Option Values → Option Values → Type 0
StableAfter answers.Synced stable values stable_after = stable_after ≡ values
StableAfter step stable values stable_after = stable_after ≡ stable

-- a fact about a disk call that failed
abbrev pub IfFaulted : made.TaskStep → Type 0 → Type 0
IfFaulted answers.Faulted P = P
IfFaulted step P = ⊤

-- whether the memory failed in a step, and whether the disk did
abbrev pub memory_outcome : Option made.TaskStep → Result (Unit {0}) (Unit {0})
memory_outcome (Some answers.Failed) = Err tt
memory_outcome o = Ok tt

abbrev pub disk_outcome : Option made.TaskStep → Result (Unit {0}) (Unit {0})
disk_outcome (Some answers.Faulted) = Err tt
disk_outcome o = Ok tt

-- how a step is answered
abbrev pub answer_to : Header1 → Asked → RequestStep → made.TaskStep
answer_to h request (Look place) = answers.Looked (sector_of request + place)
answer_to h request (Put place) = answers.Stored T2
answer_to h request (Act place) = answers.Acted (sector_of request + place)
answer_to h request Sync = answers.Synced
answer_to h request Status = answers.Done (status_of h request) (used_len (status_of h request) request)

-- the store of a step, if it makes one; `sector` is what was read before
abbrev pub store_of : Header1 → SplitRing → ℕ → Asked → List ℕ → RequestStep → Option Store
store_of h r buffer request sector (Put place) = Some (one_store r.desc.0.number (data_start buffer request + 512 * place) sector)
store_of h r buffer request sector Status = Some (one_store r.desc.0.number (status_place buffer) (status_of h request ∷ []))
store_of h r buffer request sector step = None

abbrev pub after_maybe : Option Store → Bytes → Bytes
after_maybe None m = m
after_maybe (Some st) m = after_store st m

-- the told list of stores after a step that makes this store, or none
abbrev pub with_maybe : Option Store → List Store → List Store
with_maybe None trail = trail
with_maybe (Some st) trail = after_in_trail st trail

-- the told list of stores gained one at most
abbrev pub GainsOne : Option (List Store) → Option (List Store) → Type 0
GainsOne before after = (after ≡ before) ⊎ ((st : Store) × (after ≡ option_map (after_in_trail st) before))

abbrev pub with_effect : Option SectorValue → Values → Values
with_effect None v = v
with_effect (Some x) v = with_value x.sector x.value v

-- the values of the disk after a step
abbrev pub values_after : Asked → RequestStep → Values → Values
values_after request (Act place) v = with_effect (effect_at request place) v
values_after request step v = v

-- the values of the disk after a step of this work
abbrev pub values_by : Work → Bytes → Values → Values
values_by (work.Act t) m v = with_value (t.sector + t.done) (bytes_from 512 m t.span.space.number (t.span.place + 512 * t.done)) v
values_by w m v = v

-- the told values of the disk, where such a change was made or not
abbrev pub ChangedOrNot : (Values → Values) → Option Values → Option Values → Type 0
ChangedOrNot change before after = (after ≡ before) ⊎ (after ≡ option_map change before)

-- a look leaves the value of its sector
abbrev pub LooksBy : Work → Values → List ℕ → Type 0
LooksBy (work.Look t) v sector = sector ≡ v (t.sector + t.done)
LooksBy w v sector = ⊤

-- what a step of this work leaves: of the work, of the told memory and list of stores, of the disk, and of the sector on its way
pub record Worked (w : Work) (sector sector_after : List ℕ) (step : made.TaskStep) (next : Work) (told told_after : Option Bytes) (trail trail_after : Option (List Store)) (values values_now : Option Values) : Type 0 where
  pub makes : Makes w step next
  pub whole : length sector ≡ 512
  pub stored : IfMade (Some step) (λ x. told_after ≡ option_map (after_maybe (store_by w sector)) told)
  pub trailed : IfMade (Some step) (λ x. trail_after ≡ option_map (with_maybe (store_by w sector)) trail)
  pub written : WhereTold told (λ m. IfMade (Some step) (λ x. values_now ≡ option_map (values_by w m) values))
  pub looked : WhereTold values (λ v. IfMade (Some step) (λ x. LooksBy w v sector_after))
  -- where the disk failed nothing was stored
  pub unstored : IfFaulted step (told_after ≡ told)
  -- whatever failed
  pub changed : WhereTold told (λ m. ChangedOrNot (values_by w m) values values_now)

-- the first step of a task whose chain is read: one of the work that the parts begin which its chain means
pub record BegunAs (sizes : ℕ → ℕ) (r : SplitRing) (m : Bytes) (head capacity : ℕ) (sector sector_after : List ℕ) (step : made.TaskStep) (next : Work) (told_after : Option Bytes) (trail trail_after : Option (List Store)) (values values_now : Option Values) : Type 0 where
  pub parts : Parts
  pub means : HasParts sizes r m head parts
  pub first : Work
  pub starts : StartsAs m parts capacity first
  pub worked : Worked first sector sector_after step next (Some m) told_after trail trail_after values values_now

-- the first step of a task: its chain breaks a rule and nothing was stored, the memory failed, or it is the first step of its work
abbrev pub Begins : (ℕ → ℕ) → SplitRing → Bytes → ℕ → ℕ → List ℕ → List ℕ → made.TaskStep → Work → Option Bytes → Option (List Store) → Option (List Store) → Option Values → Option Values → Type 0
Begins sizes r m head capacity sector sector_after (answers.Broken fault) next told_after trail trail_after values values_now = BreaksRule sizes r m head (unread.Broken fault) × (told_after ≡ Some m)
Begins sizes r m head capacity sector sector_after answers.Failed next told_after trail trail_after values values_now = ⊤
Begins sizes r m head capacity sector sector_after step next told_after trail trail_after values values_now = BegunAs sizes r m head capacity sector sector_after step next told_after trail trail_after values values_now

-- ---- one step of a request

-- a step that is made of a request, which so many were made of
pub record Making : Type 0 where
  pub header : Header1
  pub links : Links
  pub buffer : ℕ
  pub request : Asked
  pub made : ℕ
  pub step : RequestStep

-- memory m means its request, the disk serves it, and the step is next in the step table
pub record IsNext (sectors : ℕ) (sizes : ℕ → ℕ) (r : SplitRing) (m : Bytes) (n : Making) : Type 0 where
  pub means : MeansRequest sizes r m n.links n.buffer n.request
  pub served : DiskServes n.header sectors n.request
  pub next : slice_get (task_steps n.header n.request) n.made ≡ Some n.step

-- a task that makes it, and the task after it
abbrev pub IsReady : SplitRing → Making → Task → Type 0
IsReady r n task = (n.links.head ≡ task.head) × IsTaskAt n.header r n.buffer n.request n.made task

abbrev pub HasMade : SplitRing → Making → Task → Type 0
HasMade r n task = IsTaskAt n.header r n.buffer n.request (n.made + 1) task

-- what makes it, where the request was begun
abbrev pub work_of : SplitRing → Making → Work
work_of r n = work_for n.header r n.buffer n.request n.step

abbrev pub answer_in : Making → made.TaskStep
answer_in n = answer_to n.header n.request n.step

-- the store that it makes, if it makes one
abbrev pub store_in : SplitRing → Making → List ℕ → Option Store
store_in r n sector = store_of n.header r n.buffer n.request sector n.step

-- the told memory after it
abbrev pub memory_after : SplitRing → Making → List ℕ → Bytes → Bytes
memory_after r n sector m = after_maybe (store_in r n sector) m

-- a look leaves the value of its sector
abbrev pub LooksAt : Making → Values → List ℕ → Type 0
LooksAt n v sector = (place : ℕ) → n.step ≡ Look place → sector ≡ v (sector_of n.request + place)
