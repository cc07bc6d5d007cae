use Rattle.std.proofs.Common.{◌≡◌, ◌≤◌, ◌<◌, ℕ, zero, suc, ◌+◌, ◌*◌, ◌/◌, List, [], ◌∷◌, length, take, drop, refl, ap, sym, ◌∙◌, subst, arith, true, false, Bool, add-zero, ◌-◌, ◌≢◌}
use Rattle.std.specs.Prelude.{Option, Some, None, option_map, slice_get, slice_range, unwrap_or, nat_lt, if◌then◌else◌}
use Rattle.byteorder.specs.Endian.{little_bytes}
use Rattle.vub_base.specs.declared.header.Header1.{Header1}
use Rattle.vub_base.specs.declared.header.CacheMode.{CacheMode}
use Rattle.vub_base.specs.declared.header.CacheMode.TheVariants.{Back}
use Rattle.vub_shared.specs.Bytes.{Bytes, bytes_from}
use Rattle.vub_shared.specs.Stores.{Store}
use Rattle.vub_shared.proofs.BytesLemmas.{byte_of}
use Rattle.vub_disk.specs.Values.{Values, with_value}
use Rattle.vub_device.specs.declared.entry.Asked.{Asked}
use Rattle.vub_device.specs.declared.entry.Asked.TheVariants.{Read, Write, Flush, Id, Discard, Zero}
use Rattle.vub_device.specs.declared.entry.SectorValue.{SectorValue}
use Rattle.vub_device.specs.Requests.{refusal, effect_at}
use Rattle.vub_steps.specs.Tasks.{RequestStep, Look, Put, Act, Sync, Status, task_steps, status_of}
use Rattle.vub_direct_chain.specs.ChainState.{sector_of, data_start, data_len, handed_bytes}
use Rattle.vub_task.specs.TaskState.{IfMade, Making, IsNext, IsBasic, IsTaskAt, answer_of, transfer_at, work_for, with_effect, with_maybe}
use Rattle.vub_direct_chain.proofs.ChainReading.{means_still}
use Rattle.vub_split.specs.declared.split.SplitRing.{SplitRing}
use Rattle.std.specs.Prelude.{Ok}
use Rattle.vub_base.specs.declared.ring_fault.RingFault.{RingFault}
use Rattle.vub_task.specs.declared.task.Work.{Work}
use Rattle.vub_task.specs.TaskState.{Makes, Worked, Starts, Begins}
use Rattle.vub_task.specs.declared.task.Answer.{Answer}
use Rattle.vub_task.specs.declared.task.Transfer.{Transfer}
use Rattle.vub_task.specs.declared.task.Work.TheVariants as work
use Rattle.vub_task.specs.declared.task.Task.{Task}
use Rattle.vub_task.specs.declared.task.TaskStep as made
use Rattle.vub_task.specs.declared.task.TaskStep.TheVariants as answers

-- ---- the kind of work tells the step

pub look_arm : (h : Header1) (r : SplitRing) (buffer : ℕ) (request : Asked) (step : RequestStep) (t : Transfer) → work.Look t ≡ work_for h r buffer request step
    → (P : RequestStep → Transfer → Type 0) → ((q : ℕ) → P (Look q) (transfer_at h r buffer request q)) → P step t
look_arm h r buffer request (Look q) t is P f =
    let same : transfer_at h r buffer request q ≡ t = cc is in
    subst (P (Look q)) same (f q)
look_arm h r buffer request (Put q) t is P f = absurd (cc is)
look_arm h r buffer request (Act q) t is P f = absurd (cc is)
look_arm h r buffer request Sync t is P f = absurd (cc is)
look_arm h r buffer request Status t is P f = absurd (cc is)

pub store_arm : (h : Header1) (r : SplitRing) (buffer : ℕ) (request : Asked) (step : RequestStep) (t : Transfer) → work.Store t ≡ work_for h r buffer request step
    → (P : RequestStep → Transfer → Type 0) → ((q : ℕ) → P (Put q) (transfer_at h r buffer request q)) → P step t
store_arm h r buffer request (Put q) t is P f =
    let same : transfer_at h r buffer request q ≡ t = cc is in
    subst (P (Put q)) same (f q)
store_arm h r buffer request (Look q) t is P f = absurd (cc is)
store_arm h r buffer request (Act q) t is P f = absurd (cc is)
store_arm h r buffer request Sync t is P f = absurd (cc is)
store_arm h r buffer request Status t is P f = absurd (cc is)

pub act_arm : (h : Header1) (r : SplitRing) (buffer : ℕ) (request : Asked) (step : RequestStep) (t : Transfer) → work.Act t ≡ work_for h r buffer request step
    → (P : RequestStep → Transfer → Type 0) → ((q : ℕ) → P (Act q) (transfer_at h r buffer request q)) → P step t
act_arm h r buffer request (Act q) t is P f =
    let same : transfer_at h r buffer request q ≡ t = cc is in
    subst (P (Act q)) same (f q)
act_arm h r buffer request (Look q) t is P f = absurd (cc is)
act_arm h r buffer request (Put q) t is P f = absurd (cc is)
act_arm h r buffer request Sync t is P f = absurd (cc is)
act_arm h r buffer request Status t is P f = absurd (cc is)

pub sync_arm : (h : Header1) (r : SplitRing) (buffer : ℕ) (request : Asked) (step : RequestStep) (a : Answer) → work.Sync a ≡ work_for h r buffer request step
    → (P : RequestStep → Answer → Type 0) → P Sync (answer_of h r buffer request) → P step a
sync_arm h r buffer request Sync a is P f =
    let same : answer_of h r buffer request ≡ a = cc is in
    subst (P Sync) same f
sync_arm h r buffer request (Look q) a is P f = absurd (cc is)
sync_arm h r buffer request (Put q) a is P f = absurd (cc is)
sync_arm h r buffer request (Act q) a is P f = absurd (cc is)
sync_arm h r buffer request Status a is P f = absurd (cc is)

pub reply_arm : (h : Header1) (r : SplitRing) (buffer : ℕ) (request : Asked) (step : RequestStep) (a : Answer) → work.Reply a ≡ work_for h r buffer request step
    → (P : RequestStep → Answer → Type 0) → P Status (answer_of h r buffer request) → P step a
reply_arm h r buffer request Status a is P f =
    let same : answer_of h r buffer request ≡ a = cc is in
    subst (P Status) same f
reply_arm h r buffer request (Look q) a is P f = absurd (cc is)
reply_arm h r buffer request (Put q) a is P f = absurd (cc is)
reply_arm h r buffer request (Act q) a is P f = absurd (cc is)
reply_arm h r buffer request Sync a is P f = absurd (cc is)

-- a task that was begun makes some step
pub begun_arm : (h : Header1) (r : SplitRing) (buffer : ℕ) (request : Asked) (step : RequestStep) → work.Begin ≡ work_for h r buffer request step → ⊥
begun_arm h r buffer request (Look q) is = cc is
begun_arm h r buffer request (Put q) is = cc is
begun_arm h r buffer request (Act q) is = cc is
begun_arm h r buffer request Sync is = cc is
begun_arm h r buffer request Status is = cc is

-- ---- facts about what was made

pub made_map : (P Q : made.TaskStep → Type 0) (o : Option made.TaskStep) → ((s : made.TaskStep) → P s → Q s) → IfMade o P → IfMade o Q
made_map P Q None f h = h
made_map P Q (Some (answers.Stored tag)) f h = f (answers.Stored tag) h
made_map P Q (Some (answers.Looked s)) f h = f (answers.Looked s) h
made_map P Q (Some (answers.Acted s)) f h = f (answers.Acted s) h
made_map P Q (Some answers.Synced) f h = f answers.Synced h
made_map P Q (Some answers.Faulted) f h = h
made_map P Q (Some (answers.Done status len)) f h = f (answers.Done status len) h
made_map P Q (Some (answers.Broken fault)) f h = f (answers.Broken fault) h
made_map P Q (Some answers.Failed) f h = h

-- ---- places and values

-- a sector of the data lies in the space
pub room_of : (buffer limit q : ℕ) (request : Asked) → buffer + (4096 + data_len request) ≤ limit → q < data_len request / 512 → data_start buffer request + (512 * q + 512) ≤ limit
room_of buffer limit q (Read s n) room within = omega (arith, room, within)
room_of buffer limit q (Write s bytes) room within = omega (arith, room, within)
room_of buffer limit q Flush room within = omega (arith, room, within)
room_of buffer limit q Id room within = omega (arith, room, within)
room_of buffer limit q (Discard parts) room within = omega (arith, room, within)
room_of buffer limit q (Zero parts) room within = omega (arith, room, within)

-- the task after a step, by the one that is next
pub goes_on : (h : Header1) (r : SplitRing) (buffer : ℕ) (request : Asked) (made : ℕ) (task : Task) (x : RequestStep) → slice_get (task_steps h request) (suc made) ≡ Some x
    → task.work ≡ work_for h r buffer request x → IsTaskAt h r buffer request (made + 1) task
goes_on h r buffer request made task x next is = record {
  begins = λ none. absurd (omega (arith, none));
  goes_on = λ some step at.
      let more : made + 1 ≡ suc made = omega arith in
      let there : slice_get (task_steps h request) (suc made) ≡ Some step = ap (slice_get (task_steps h request)) (sym more) ∙ at in
      let same : x ≡ step = cc (next, there) in
      is ∙ ap (work_for h r buffer request) same;
}

pub ends : (h : Header1) (r : SplitRing) (buffer : ℕ) (request : Asked) (made : ℕ) (task : Task) → slice_get (task_steps h request) (suc made) ≡ None → IsTaskAt h r buffer request (made + 1) task
ends h r buffer request made task next = record {
  begins = λ none. absurd (omega (arith, none));
  goes_on = λ some step at.
      let more : made + 1 ≡ suc made = omega arith in
      let there : slice_get (task_steps h request) (suc made) ≡ Some step = ap (slice_get (task_steps h request)) (sym more) ∙ at in
      absurd (cc (next, there));
}

pub same_values : (o : Option Values) → option_map (λ (v : Values). v) o ≡ o
same_values None = refl
same_values (Some v) = refl

pub same_trail : (o : Option (List Store)) → option_map (with_maybe None) o ≡ o
same_trail None = refl
same_trail (Some trail) = refl

pub status_byte : (h : Header1) (request : Asked) → IsBasic request → h.mode ≡ Back → little_bytes 1 (status_of h request) ≡ status_of h request ∷ []
status_byte h (Read s n) basic cached =
    let go : (t : Bool) → unwrap_or (if t then Some 1 else None) 0 < 256 = elim [ true ↦ omega arith | false ↦ omega arith ] in
    byte_of (status_of h (Read s n)) (go (nat_lt h.capacity (s + n)))
status_byte h (Write s bytes) basic cached =
    let go : (t : Bool) → unwrap_or (if t then Some 1 else None) 0 < 256 = elim [ true ↦ omega arith | false ↦ omega arith ] in
    let back : status_of h (Write s bytes) ≡ unwrap_or (if nat_lt h.capacity (s + length bytes / 512) then Some 1 else None) 0 = ap (λ (mode : CacheMode). unwrap_or (refusal h.capacity mode (Write s bytes)) 0) cached in
    byte_of (status_of h (Write s bytes)) (subst (λ (k : ℕ). k < 256) (sym back) (go (nat_lt h.capacity (s + length bytes / 512))))
status_byte h Flush basic cached =
    let back : status_of h Flush ≡ 0 = ap (λ (mode : CacheMode). unwrap_or (refusal h.capacity mode Flush) 0) cached in
    byte_of (status_of h Flush) (omega (arith, back))
status_byte h Id basic cached = absurd basic
status_byte h (Discard parts) basic cached = absurd basic
status_byte h (Zero parts) basic cached = absurd basic

take_bytes : (w n : ℕ) (m : Bytes) (s p : ℕ) → w ≤ n → take w (bytes_from n m s p) ≡ bytes_from w m s p
take_bytes zero n m s p h = refl
take_bytes (suc w) zero m s p h = absurd (omega arith)
take_bytes (suc w) (suc n) m s p h = ap (λ (bs : List ℕ). m s p ∷ bs) (take_bytes w n m s (p + 1) (omega arith))

cut_bytes : (at w n : ℕ) (m : Bytes) (s p : ℕ) → at + w ≤ n → take w (drop at (bytes_from n m s p)) ≡ bytes_from w m s (p + at)
cut_bytes zero w n m s p h = take_bytes w n m s p (omega arith) ∙ ap (bytes_from w m s) (sym (add-zero p))
cut_bytes (suc at) w zero m s p h = absurd (omega arith)
cut_bytes (suc at) w (suc n) m s p h =
    let there : p + 1 + at ≡ p + suc at = omega arith in
    cut_bytes at w n m s (p + 1) (omega arith) ∙ ap (bytes_from w m s) there

-- a sector of what was handed over, as it is loaded
slice_is : (q : ℕ) (bytes : List ℕ) (m : Bytes) (s p : ℕ) → bytes_from (length bytes) m s p ≡ bytes → q < length bytes / 512 → bytes_from 512 m s (p + 512 * q) ≡ slice_range bytes (512 * q) (512 * q + 512)
slice_is q bytes m s p is within =
    let w : 512 ≡ 512 * q + 512 - 512 * q = omega arith in
    sym (cut_bytes (512 * q) 512 (length bytes) m s p (omega (arith, within)))
    ∙ ap (λ (bs : List ℕ). take 512 (drop (512 * q) bs)) is
    ∙ ap (λ (k : ℕ). take k (drop (512 * q) bytes)) w

-- an act writes the data's sector
pub acted : (q : ℕ) (request : Asked) (m : Bytes) (s p : ℕ) (before after : Option Values) → bytes_from (length (handed_bytes request)) m s p ≡ handed_bytes request → q < data_len request / 512
    → data_len request ≡ length (handed_bytes request) → effect_at request q ≡ Some (record { sector = sector_of request + q; value = slice_range (handed_bytes request) (512 * q) (512 * q + 512) })
    → after ≡ option_map (with_value (sector_of request + q) (bytes_from 512 m s (p + 512 * q))) before → after ≡ option_map (λ (v : Values). with_effect (effect_at request q) v) before
acted q request m s p before after is within len effect writes =
    let bytes : bytes_from 512 m s (p + 512 * q) ≡ slice_range (handed_bytes request) (512 * q) (512 * q + 512) = slice_is q (handed_bytes request) m s p is (omega (arith, within, len)) in
    writes ∙ ap (λ (bs : List ℕ). option_map (with_value (sector_of request + q) bs) before) bytes ∙ ap (λ (o : Option SectorValue). option_map (λ (v : Values). with_effect o v) before) (sym effect)

-- what is to be done next where the request was begun or not
pub at_start : (h : Header1) (r : SplitRing) (buffer : ℕ) (request : Asked) (made : ℕ) (step : RequestStep) (task : Task) → task.work ≡ work.Begin → IsTaskAt h r buffer request made task → slice_get (task_steps h request) made ≡ Some step → made ≡ 0
at_start h r buffer request zero step task is at next = refl
at_start h r buffer request (suc k) step task is at next = absurd (begun_arm h r buffer request step (sym is ∙ at.goes_on (omega arith) step next))

pub at_work : (h : Header1) (r : SplitRing) (buffer : ℕ) (request : Asked) (made : ℕ) (step : RequestStep) (task : Task) → task.work ≢ work.Begin → IsTaskAt h r buffer request made task → slice_get (task_steps h request) made ≡ Some step → task.work ≡ work_for h r buffer request step
at_work h r buffer request zero step task is at next = absurd (is (at.begins refl))
at_work h r buffer request (suc k) step task is at next = at.goes_on (omega arith) step next

-- the same where no size changes, and of the same number of sectors
pub next_still : (sectors : ℕ) (old new : ℕ → ℕ) (r : SplitRing) (m : Bytes) (n : Making) → ((s : ℕ) → new s ≡ old s) → IsNext sectors old r m n → IsNext sectors new r m n
next_still sectors old new r m n sizes is = record { means = means_still old new r m n.links n.buffer n.request sizes is.means; served = is.served; next = is.next }

pub next_with : (sectors : ℕ) (sizes : ℕ → ℕ) (r : SplitRing) (m : Bytes) (n : Making) (other : ℕ) → sectors ≡ other → IsNext sectors sizes r m n → IsNext other sizes r m n
next_with sectors sizes r m n other same is = record {
  means = is.means;
  served = record { basic = is.served.basic; capacity = is.served.capacity ∙ same; cached = is.served.cached };
  next = is.next;
}

-- ---- the first step

makes_unbroken : (w next : Work) (fault : RingFault) → Makes w (answers.Broken fault) next → ⊥
makes_unbroken work.Begin next fault h = h
makes_unbroken (work.Look t) next fault h = h
makes_unbroken (work.Store t) next fault h = h
makes_unbroken (work.Act t) next fault h = h
makes_unbroken (work.Sync a) next fault h = h
makes_unbroken (work.Reply a) next fault h = h

pub begins_by : (sizes : ℕ → ℕ) (r : SplitRing) (m : Bytes) (head capacity : ℕ) (sector after : List ℕ) (step : made.TaskStep) (next w : Work) (told_after : Option Bytes) (trail trail_after : Option (List Store)) (values values_now : Option Values)
    → Starts sizes r m head capacity (Ok w) → Worked w sector after step next (Some m) told_after trail trail_after values values_now → Begins sizes r m head capacity sector after step next told_after trail trail_after values values_now
begins_by sizes r m head capacity sector after (answers.Broken fault) next w told_after trail trail_after values values_now starts worked = absurd (makes_unbroken w next fault worked.makes)
begins_by sizes r m head capacity sector after answers.Failed next w told_after trail trail_after values values_now starts worked = tt
begins_by sizes r m head capacity sector after (answers.Stored tag) next w told_after trail trail_after values values_now starts worked = record { parts = starts.0; means = starts.1; first = w; starts = starts.2; worked = worked }
begins_by sizes r m head capacity sector after (answers.Looked k) next w told_after trail trail_after values values_now starts worked = record { parts = starts.0; means = starts.1; first = w; starts = starts.2; worked = worked }
begins_by sizes r m head capacity sector after (answers.Acted k) next w told_after trail trail_after values values_now starts worked = record { parts = starts.0; means = starts.1; first = w; starts = starts.2; worked = worked }
begins_by sizes r m head capacity sector after answers.Synced next w told_after trail trail_after values values_now starts worked = record { parts = starts.0; means = starts.1; first = w; starts = starts.2; worked = worked }
begins_by sizes r m head capacity sector after answers.Faulted next w told_after trail trail_after values values_now starts worked = record { parts = starts.0; means = starts.1; first = w; starts = starts.2; worked = worked }
begins_by sizes r m head capacity sector after (answers.Done status len) next w told_after trail trail_after values values_now starts worked = record { parts = starts.0; means = starts.1; first = w; starts = starts.2; worked = worked }
