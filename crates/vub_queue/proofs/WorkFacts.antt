-- A turn that works on a request carries the facts of a queue on.
use Rattle.std.proofs.Common.{◌≡◌, ◌⊎◌, ℕ, zero, suc, false, List, [], ap, sym, ◌∙◌, subst, inl, inr}
use Rattle.std.specs.Prelude.{Option, Some, slice_get}
use Rattle.vub_shared.specs.Bytes.{Bytes}
use Rattle.vub_split.specs.Split.{used_idx_word}
use Rattle.vub_infl_split.specs.Region.{RegionWords}
use Rattle.vub_steps.specs.declared.steps.Phase.{Phase}
use Rattle.vub_steps.specs.declared.steps.Phase.TheVariants as phases
use Rattle.vub_steps.specs.declared.steps.Plan.{Plan}
use Rattle.vub_task.specs.declared.task.Task.{Task}
use Rattle.vub_task.specs.TaskState.{head_in}
use Rattle.vub_facts.specs.Facts.{Words, Facts, head_next}
use Rattle.vub_facts.proofs.FactWords.{words_off}
use Rattle.vub_queue.specs.declared.queue.Stop.{Stop}
use Rattle.vub_queue.specs.declared.queue.Stepped.{Stepped}
use Rattle.vub_queue.specs.declared.queue.Stepped.TheVariants as says
use Rattle.vub_queue.specs.QueueState.{QueueState, worked, done_at, HasHead, Works, halted}
use Rattle.vub_queue.specs.QueueFacts.{words_in, ring_of, side_of, KeepsHeads, StartsAt, Keeps, IsBeginning, FactsAt, heads_said}
use Rattle.vub_queue.proofs.BesideLemmas.{IsBeside}
use Rattle.vub_queue.proofs.QueueHeld.{keeps_worked, keeps_done}

-- ---- a queue whose words stay

beside_words : (base : ℕ) (heads : List ℕ) (s : QueueState) (m now : Bytes) → FactsAt heads base s m → IsBeside s m now → words_in s now ≡ words_in s m
beside_words base heads s m now x beside = elim beside.is [
  | inl same ↦ ap (words_in s) same
  | inr off ↦ ap (words_in s) off.2 ∙ words_off (ring_of s) s.recovery.region m off.0 x.laid.lies off.1
]

pub words_keep : (heads : List ℕ) (base : ℕ) (s : QueueState) (m now : Bytes) → words_in s now ≡ words_in s m → FactsAt heads base s m → FactsAt heads base s now
words_keep heads base s m now same x = record {
  plan = x.plan;
  phase = x.phase;
  laid = x.laid;
  keeps = λ on. subst (λ (w : Words). Keeps heads w.ring.used (head_next heads w) x.phase s) (sym same) (x.keeps on);
  begins = λ off. subst (λ (w : Words). IsBeginning x.plan x.phase w.region s) (sym same) (x.begins off);
  facts = subst (λ (w : Words). Facts s.ring.size heads base (side_of x.plan x.phase s) w) (sym same) x.facts;
}

-- ---- one that stops

stops_at : (n : ℕ) (plan : Plan) (p : Phase) (w : RegionWords) (o : Option Stop) (s : QueueState) → StartsAt n plan p w s → StartsAt n plan p w (record s { stopped = o })
stops_at n plan phases.Rest w o s x = x
stops_at n plan (phases.Start done) w o s x = record { recovery = x.recovery; rung = x.rung }
stops_at n plan (phases.Fetch done) w o s x = x
stops_at n plan (phases.Publish done) w o s x = x

stops_keep : (heads : List ℕ) (base : ℕ) (o : Option Stop) (s : QueueState) (m : Bytes) → FactsAt heads base s m → FactsAt heads base (record s { stopped = o }) m
stops_keep heads base o s m x =
    let l = x.laid in record {
      plan = x.plan;
      phase = x.phase;
      laid = record { lies = l.lies; same_ring = l.same_ring; base_is = l.base_is; places = l.places };
      keeps = λ on. let k = x.keeps on in record { in_phase = k.in_phase; kept = k.kept; fetching = k.fetching; held = k.held };
      begins = λ off. let b = x.begins off in record {
        in_phase = b.in_phase;
        starts = stops_at s.ring.size x.plan x.phase (words_in s m).region o s b.starts;
        nothing = record { rests = b.nothing.rests; no_head = b.nothing.no_head; no_batch = b.nothing.no_batch; none_completed = b.nothing.none_completed; none_unfinished = b.nothing.none_unfinished; none_taken = b.nothing.none_taken };
      };
      facts = x.facts;
    }

pub halts_keep : (heads : List ℕ) (base : ℕ) (x : Stepped) (s : QueueState) (m : Bytes) → FactsAt heads base s m → FactsAt heads base (halted x s) m
halts_keep heads base says.Idle s m f = f
halts_keep heads base (says.Stored tag) s m f = f
halts_keep heads base (says.Accepted head) s m f = f
halts_keep heads base (says.Looked head sector) s m f = f
halts_keep heads base (says.Acted head sector) s m f = f
halts_keep heads base (says.Synced head) s m f = f
halts_keep heads base (says.Faulted head) s m f = f
halts_keep heads base (says.Completed head) s m f = f
halts_keep heads base says.Published s m f = f
halts_keep heads base says.Belled s m f = f
halts_keep heads base says.Started s m f = f
halts_keep heads base says.SharedFault s m f = stops_keep heads base _ s m f
halts_keep heads base says.BellFault s m f = stops_keep heads base _ s m f
halts_keep heads base (says.Broken fault) s m f = stops_keep heads base _ s m f
halts_keep heads base (says.Damaged fault) s m f = stops_keep heads base _ s m f

-- ---- work on a request

-- a queue that has a request is started
has_started : {A : Type 0} (heads : List ℕ) (base place head : ℕ) (s : QueueState) (m : Bytes) → HasHead place head s → FactsAt heads base s m → s.started ≡ false → A
has_started heads base place head s m has x off =
    let none : slice_get {X = Task} [] place ≡ Some has.0 = subst (λ (ts : List Task). slice_get ts place ≡ Some has.0) (x.begins off).nothing.none_unfinished has.1 in
    nowhere place none
  where
    nowhere : {A : Type 0} (place : ℕ) → slice_get {X = Task} [] place ≡ Some has.0 → A
    nowhere zero e = absurd (cc)
    nowhere (suc place) e = absurd (cc)

worked_keeps : (heads : List ℕ) (base place : ℕ) (task : Task) (sector : List ℕ) (s : QueueState) (m : Bytes) → HasHead place (head_in task) s → FactsAt heads base s m → FactsAt heads base (worked place task sector s) m
worked_keeps heads base place task sector s m has x =
    let l = x.laid in record {
      plan = x.plan;
      phase = x.phase;
      laid = record { lies = l.lies; same_ring = l.same_ring; base_is = l.base_is; places = l.places };
      keeps = λ on. let k = x.keeps on in record { in_phase = k.in_phase; kept = k.kept; fetching = k.fetching; held = keeps_worked s.ring.size heads (used_idx_word s.ring m) s place task has.0 sector has.1 (sym has.2) k.held };
      begins = λ off. has_started heads base place (head_in task) s m has x off;
      facts = x.facts;
    }

done_keeps : (heads : List ℕ) (base place head len : ℕ) (sector : List ℕ) (s : QueueState) (m : Bytes) → HasHead place head s → FactsAt heads base s m → FactsAt heads base (done_at place head len sector s) m
done_keeps heads base place head len sector s m has x =
    let l = x.laid in record {
      plan = x.plan;
      phase = x.phase;
      laid = record { lies = l.lies; same_ring = l.same_ring; base_is = l.base_is; places = l.places };
      keeps = λ on. let k = x.keeps on in record {
        in_phase = k.in_phase;
        kept = k.kept;
        fetching = k.fetching;
        held = subst (λ (h : ℕ). KeepsHeads s.ring.size heads (used_idx_word s.ring m) (done_at place h len sector s)) has.2 (keeps_done s.ring.size heads (used_idx_word s.ring m) s place len has.0 sector has.1 k.held);
      };
      begins = λ off. has_started heads base place head s m has x off;
      facts = x.facts;
    }

goes_on : (heads : List ℕ) (base place : ℕ) (s t : QueueState) (m : Bytes) → (t ≡ s) ⊎ ((task : Task) × (sector : List ℕ) × HasHead place (head_in task) s × (t ≡ worked place task sector s)) → FactsAt heads base s m → FactsAt heads base t m
goes_on heads base place s t m (inl same) x = subst (λ (u : QueueState). FactsAt heads base u m) (sym same) x
goes_on heads base place s t m (inr h) x = subst (λ (u : QueueState). FactsAt heads base u m) (sym h.3) (worked_keeps heads base place h.0 h.1 s m h.2 x)

works_keep : (heads : List ℕ) (base place : ℕ) (x : Stepped) (s t : QueueState) (m : Bytes) → Works place x s t → FactsAt heads base s m → FactsAt (heads_said x s heads) base t m
works_keep heads base place says.Idle s t m works f = goes_on heads base place s t m works f
works_keep heads base place (says.Stored tag) s t m works f = goes_on heads base place s t m works f
works_keep heads base place (says.Accepted head) s t m works f = absurd works
works_keep heads base place (says.Looked head sector) s t m works f = goes_on heads base place s t m works f
works_keep heads base place (says.Acted head sector) s t m works f = goes_on heads base place s t m works f
works_keep heads base place (says.Synced head) s t m works f = goes_on heads base place s t m works f
works_keep heads base place (says.Faulted head) s t m works f = goes_on heads base place s t m works f
works_keep heads base place (says.Completed head) s t m works f = subst (λ (u : QueueState). FactsAt heads base u m) (sym works.3) (done_keeps heads base place head works.0 works.1 s m works.2 f)
works_keep heads base place says.Published s t m works f = absurd works
works_keep heads base place says.Belled s t m works f = absurd works
works_keep heads base place says.Started s t m works f = absurd works
works_keep heads base place says.SharedFault s t m works f = goes_on heads base place s t m works f
works_keep heads base place says.BellFault s t m works f = absurd works
works_keep heads base place (says.Broken fault) s t m works f = goes_on heads base place s t m works f
works_keep heads base place (says.Damaged fault) s t m works f = absurd works

pub work_keeps : (heads : List ℕ) (base place : ℕ) (x : Stepped) (s t : QueueState) (m now : Bytes) → Works place x s t → IsBeside s m now → FactsAt heads base s m → FactsAt (heads_said x s heads) base t now
work_keeps heads base place x s t m now works beside f =
    works_keep heads base place x s t now works (words_keep heads base s m now (beside_words base heads s m now f beside) f)
