-- What the device's side of one queue keeps agrees with the words of its ring and of its in-flight region, wherever these
-- lie: no history, no number of a request and no driver occurs in it.
use Rattle.std.specs.Prelude.{◌≡◌, ◌<◌, ◌*◌, ℕ, suc, true, false, nat_lt, if◌then◌else◌, List, [], ◌∷◌, ◌++◌, length, map, Option, Some, None, slice_get, All, ⊤}
use Rattle.vub_shared.specs.Bytes.{Bytes, Apart}
use Rattle.vub_ring.specs.Ring.{Ring}
use Rattle.vub_split.specs.Split.{ring_of_split, used_idx_word}
use Rattle.vub_split.specs.Words.{avail_bytes, used_bytes}
use Rattle.vub_infl_split.specs.declared.region.SplitRegion.{SplitRegion}
use Rattle.vub_infl_split.specs.Region.{RegionWords, words_of, region_size}
use Rattle.vub_steps.specs.declared.steps.Phase.{Phase}
use Rattle.vub_steps.specs.declared.steps.Phase.TheVariants as phases
use Rattle.vub_steps.specs.declared.steps.Plan.{Plan}
use Rattle.vub_steps.specs.declared.readiness.Turn.{Turn}
use Rattle.vub_steps.specs.declared.readiness.Turn.TheVariants as turns
use Rattle.vub_steps.specs.Steps.{plan_steps}
use Rattle.vub_rec_split.specs.Places.{IsFresh, IsAt}
use Rattle.vub_facts.specs.Facts.{Side, Words, words_at, heads_in, without, Lies, Facts, IsInPhase, head_next}
use Rattle.vub_facts.specs.Held.{State, Held}
use Rattle.vub_direct_chain.specs.declared.chain.Span.{Span}
use Rattle.vub_direct_chain.specs.declared.chain.Parts.{Parts}
use Rattle.vub_direct_chain.specs.ChainState.{HasParts}
use Rattle.vub_task.specs.declared.task.Task.{Task}
use Rattle.vub_task.specs.declared.task.Work.TheVariants as work
use Rattle.vub_task.specs.TaskState.{head_in}
use Rattle.vub_task.specs.Writes.{spans_written, parts_written}
use Rattle.vub_queue.specs.declared.queue.Stepped.{Stepped}
use Rattle.vub_queue.specs.declared.queue.Stepped.TheVariants as says
use Rattle.vub_queue.specs.QueueParts.{is_taken}
use Rattle.vub_queue.specs.QueueState.{QueueState, Unless, is_fault}

-- ---- what it keeps, by the open heads

-- the part of a batch that isn't shown: all of it until its publication has stored used.idx
abbrev pub hidden_part : {A : Type 0} → Phase → List A → List A
hidden_part (phases.Publish done) batch = if nat_lt (4 * length batch) done then [] else batch
hidden_part phase batch = []

abbrev pub hidden_in : QueueState → List (ℕ × ℕ)
hidden_in s = hidden_part s.phase s.batch

-- its state, as far as the open heads are concerned
abbrev pub held_in : QueueState → State
held_in s = record {
  batch = hidden_in s;
  avail = s.next_avail;
  taken = is_taken s.taken;
  unfinished = map head_in s.unfinished;
  completed = s.completed;
}

-- what it keeps agrees with these open heads where used.idx is `used`, whatever stands beside it
abbrev pub KeepsHeads : ℕ → List ℕ → ℕ → QueueState → Type 0
KeepsHeads n heads used s = (w : Words) → w.ring.used ≡ used → Held n heads w (held_in s)

-- ---- its phase

-- the phase that a queue keeps: of a start its recovery keeps the place
abbrev pub kept_phase : Phase → Phase
kept_phase (phases.Start done) = phases.Rest
kept_phase phase = phase

-- so many steps of a start with this plan were made, on a queue of n descriptors whose region has these words
pub record StartingAt (n : ℕ) (plan : Plan) (done : ℕ) (w : RegionWords) (state : QueueState) : Type 0 where
  pub recovery : IsAt plan done w state.recovery
  pub rung : state.rung ≡ nat_lt (length (plan_steps n plan)) done

abbrev pub StartsAt : ℕ → Plan → Phase → RegionWords → QueueState → Type 0
StartsAt n plan (phases.Start done) w state = StartingAt n plan done w state
StartsAt n plan phase w state = IsFresh state.recovery × (state.rung ≡ false)

-- the head of a fetch is kept from its first step on
abbrev pub kept_head : Phase → ℕ → Option ℕ
kept_head (phases.Fetch (suc done)) head = Some head
kept_head phase head = None

-- ---- the facts of a queue

-- the ring and the words of a queue where memory is m
abbrev pub ring_of : QueueState → Ring
ring_of s = ring_of_split s.ring

abbrev pub words_in : QueueState → Bytes → Words
words_in s m = words_at (ring_of s) s.recovery.region m

-- what it has under way, in this phase with this plan of its start
abbrev pub side_of : Plan → Phase → QueueState → Side
side_of plan phase s = record { started = s.started; bell = s.bell; phase = phase; plan = plan; counter = s.counter; batch = s.batch }

-- its ring and its region lie apart, one of them as long as the other, and its start began at the base
pub record IsLaid (base : ℕ) (s : QueueState) : Type 0 where
  pub lies : Lies (ring_of s) s.recovery.region
  pub same_ring : s.recovery.ring ≡ s.ring
  pub base_is : s.recovery.base ≡ base
  pub places : length s.taken ≡ s.ring.size

-- what it keeps agrees with these open heads where used.idx is `used`, in this phase of which the head that waits next is that one
pub record Keeps (heads : List ℕ) (used next : ℕ) (phase : Phase) (s : QueueState) : Type 0 where
  pub in_phase : IsInPhase s.started phase
  pub kept : s.phase ≡ kept_phase phase
  pub fetching : s.fetching ≡ kept_head phase next
  pub held : KeepsHeads s.ring.size heads used s

-- a queue that isn't started keeps nothing: of its start its recovery keeps the place
pub record KeepsNothing (s : QueueState) : Type 0 where
  pub rests : s.phase ≡ phases.Rest
  pub no_head : s.fetching ≡ None
  pub no_batch : s.batch ≡ []
  pub none_completed : s.completed ≡ []
  pub none_unfinished : s.unfinished ≡ []
  pub none_taken : (head : ℕ) → head < s.ring.size → is_taken s.taken head ≡ false

-- it is in a start with this plan, whose region has these words
pub record IsBeginning (plan : Plan) (phase : Phase) (w : RegionWords) (s : QueueState) : Type 0 where
  pub in_phase : IsInPhase s.started phase
  pub starts : StartsAt s.ring.size plan phase w s
  pub nothing : KeepsNothing s

-- the facts of its phase hold of the words, and once it is started what it keeps agrees with them and with the open heads
pub record FactsAt (heads : List ℕ) (base : ℕ) (s : QueueState) (m : Bytes) : Type 0 where
  pub plan : Plan
  pub phase : Phase
  pub laid : IsLaid base s
  pub keeps : s.started ≡ true → Keeps heads (used_idx_word s.ring m) (head_next heads (words_in s m)) phase s
  pub begins : s.started ≡ false → IsBeginning plan phase (words_of s.recovery.region m) s
  pub facts : Facts s.ring.size heads base (side_of plan phase s) (words_in s m)

-- ---- a turn carries them on

-- the open heads after a turn that says this: the head that it accepts joins them, those of the batch that it shows leave
abbrev pub heads_said : Stepped → QueueState → List ℕ → List ℕ
heads_said (says.Accepted head) s heads = heads ++ head ∷ []
heads_said says.Published s heads = without (heads_in s.batch) heads
heads_said x s heads = heads

-- a span shares no byte with avail ring, used ring and in-flight region
pub record SpanApart (r : Ring) (g : SplitRegion) (x : Span) : Type 0 where
  pub avail : Apart x.space.number x.place x.len r.avail_space r.avail (avail_bytes r)
  pub used : Apart x.space.number x.place x.len r.used_space r.used (used_bytes r)
  pub region : Apart x.space.number x.place x.len g.space.number g.place (region_size g.size)

abbrev pub SpansApart : QueueState → List Span → Type 0
SpansApart s spans = All (SpanApart (ring_of s) s.recovery.region) spans

-- so are the spans that a task may store into: before its chain is read, those that the chain lets the device write
pub record TaskApart (sizes : ℕ → ℕ) (m : Bytes) (s : QueueState) (task : Task) : Type 0 where
  pub goes_on : SpansApart s (spans_written task.work)
  pub begins : task.work ≡ work.Begin → (p : Parts) → HasParts sizes s.ring m (head_in task) p → SpansApart s (parts_written p)

-- a turn of work asks that of the task in its place
abbrev pub WorksApart : (ℕ → ℕ) → Turn → QueueState → Bytes → Type 0
WorksApart sizes (turns.Work place) s m = (task : Task) → slice_get s.unfinished place ≡ Some task → TaskApart sizes m s task
WorksApart sizes turn s m = ⊤

-- where memory is told and the facts hold before a turn, they hold after it, unless shared memory or the bell failed
abbrev pub KeepsFacts : (ℕ → ℕ) → Turn → Option Bytes → Option Bytes → Stepped → QueueState → QueueState → Type 0
KeepsFacts sizes turn before after x s t =
    (heads : List ℕ) (base : ℕ) (m now : Bytes) → before ≡ Some m → after ≡ Some now → WorksApart sizes turn s m → FactsAt heads base s m
    → Unless (is_fault x) (FactsAt (heads_said x s heads) base t now)
