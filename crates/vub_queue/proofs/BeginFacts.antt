-- A turn of a fetch or of a publication carries the facts of a queue on.
use Rattle.std.proofs.Common.{◌≡◌, ◌<◌, ℕ, zero, suc, ◌+◌, ◌%◌, Bool, true, false, List, [], ◌∷◌, length, refl, ap, sym, ◌∙◌, subst, arith, cond}
use Rattle.std.specs.Prelude.{Option, Some, None, take, Ok}
use Rattle.std.proofs.lemmas.Bool.Decides.{nat_tests}
use Rattle.vub_shared.specs.Bytes.{Bytes}
use Rattle.vub_device.specs.Past.{is_among}
use Rattle.vub_ring.specs.Ring.{ahead, avail_idx}
use Rattle.vub_split.specs.Split.{avail_idx_word, used_idx_word, head_word}
use Rattle.vub_split.proofs.SplitLemmas.{avail_idx_is}
use Rattle.vub_steps.specs.declared.steps.Phase.{Phase}
use Rattle.vub_steps.specs.declared.steps.Phase.TheVariants as phases
use Rattle.vub_steps.specs.declared.steps.Plan.{Plan}
use Rattle.vub_steps.specs.declared.steps.Step.{Step}
use Rattle.vub_steps.specs.declared.steps.Step.TheVariants as steps
use Rattle.vub_steps.proofs.StepLemmas.{in_element}
use Rattle.vub_steps.specs.Readiness.{is_fetch, is_publication}
use Rattle.vub_steps.specs.Rows.{Row}
use Rattle.vub_facts.specs.Facts.{heads_in, without, InBatch, ElementsFit, IsInPhase, head_next}
use Rattle.vub_facts.proofs.FactStarts.{runs_on}
use Rattle.vub_facts.proofs.FactSteps.{batch_in, fetch_begins, publication_begins}
use Rattle.vub_facts.proofs.HeldSteps.{batch_begins}
use Rattle.vub_queue.specs.declared.queue.Stepped.{Stepped}
use Rattle.vub_queue.specs.declared.queue.Stepped.TheVariants as says
use Rattle.vub_queue.specs.QueueParts.{is_taken}
use Rattle.vub_queue.specs.QueueState.{QueueState, waiting, row_at, step_in, MovesBy, StoresRow, is_fault, begun, under_way, publishes, fetch_under_way, fetches, Finds}
use Rattle.vub_queue.specs.QueueFacts.{hidden_part, hidden_in, held_in, kept_head, ring_of, words_in, side_of, FactsAt, heads_said}
use Rattle.vub_queue.proofs.QueueHeld.{keeps_alike, keeps_begun}
use Rattle.vub_queue.proofs.FactsLemmas.{head_seen}
use Rattle.vub_queue.proofs.StepFacts.{InRun}
use Rattle.vub_queue.proofs.TurnFacts.{row_heads, move_keeps}

-- ---- a turn that goes on from the begin of its phase

-- heads and lengths of a batch fit their words, of the batch under way and of one that begins
pub record BatchesFit (s : QueueState) : Type 0 where
  pub under_way : ElementsFit s.batch
  pub begins : (most : ℕ) → ElementsFit (take most s.completed)

-- the queue of a turn, once its phase has begun
pub record HasBegun (heads : List ℕ) (base : ℕ) (plan : Plan) (s u : QueueState) (m : Bytes) : Type 0 where
  pub run : InRun heads base plan u m
  pub fit : ElementsFit u.batch
  pub says : (x : Stepped) (t : QueueState) → MovesBy (step_in u) m x u t → heads_said x u heads ≡ heads_said x s heads

pub begun_keeps : (heads : List ℕ) (base : ℕ) (plan : Plan) (s u t : QueueState) (m now : Bytes) (x : Stepped) → HasBegun heads base plan s u m → is_fault x ≡ false → MovesBy (step_in u) m x u t → StoresRow (Some m) (Some now) x (row_at u m (step_in u))
    → FactsAt (heads_said x s heads) base t now
begun_keeps heads base plan s u t m now x b ok moves stores = subst (λ (hs : List ℕ). FactsAt hs base t now) (b.says x t moves) (move_keeps heads base plan u t m now x b.run b.fit ok moves stores)

-- ---- a fetch

said_alike : (x : Stepped) (s u : QueueState) (heads : List ℕ) → u.batch ≡ s.batch → heads_said x u heads ≡ heads_said x s heads
said_alike says.Idle s u heads same = refl
said_alike (says.Stored tag) s u heads same = refl
said_alike (says.Accepted head) s u heads same = refl
said_alike (says.Looked head sector) s u heads same = refl
said_alike (says.Acted head sector) s u heads same = refl
said_alike (says.Synced head) s u heads same = refl
said_alike (says.Faulted head) s u heads same = refl
said_alike (says.Completed head) s u heads same = refl
said_alike says.Published s u heads same = ap (λ (b : List (ℕ × ℕ)). without (heads_in b) heads) same
said_alike says.Belled s u heads same = refl
said_alike says.Started s u heads same = refl
said_alike says.SharedFault s u heads same = refl
said_alike says.BellFault s u heads same = refl
said_alike (says.Broken fault) s u heads same = refl
said_alike (says.Damaged fault) s u heads same = refl

wraps : (avail used next : ℕ) → next ≡ used % 65536 → ahead avail next ≡ ahead avail used
wraps avail used next is = omega (arith, is)

-- as many wait as the facts say
waits_as : (heads : List ℕ) (base : ℕ) (plan : Plan) (s : QueueState) (m : Bytes) → InRun heads base plan s m → waiting s m ≡ ahead (words_in s m).ring.avail (used_idx_word s.ring m + length heads)
waits_as heads base plan s m x =
    let same : avail_idx_word s.ring m ≡ avail_idx (ring_of s) m = avail_idx_is s.ring m in
    wraps (avail_idx_word s.ring m) (used_idx_word s.ring m + length heads) s.next_avail (x.runs.keeps.held (words_in s m) refl).avail ∙ ap (λ (a : ℕ). ahead a (used_idx_word s.ring m + length heads)) same

no_batch : (heads : List ℕ) (base : ℕ) (plan : Plan) (s : QueueState) (m : Bytes) → InRun heads base plan s m → s.phase ≡ phases.Rest → s.batch ≡ []
no_batch heads base plan s m x rest = batch_in s.ring.size heads base phases.Rest (side_of plan s.phase s) (words_in s m) rest x.facts

fetch_first : (heads : List ℕ) (base : ℕ) (plan : Plan) (s : QueueState) (m : Bytes) → InRun heads base plan s m → s.phase ≡ phases.Rest → fetches s m ≡ true → Finds s m (Ok (Some (head_word s.ring m s.next_avail))) → InRun heads base plan (record s { phase = phases.Fetch 0 }) m
fetch_first heads base plan s m x rest ready finds =
    let l = x.laid in
    let next : ℕ = head_next heads (words_in s m) in
    let here : head_word s.ring m s.next_avail ≡ next = head_seen heads base s m l x.runs.keeps.held in
    let low : next < s.ring.size = subst (λ (d : ℕ). d < s.ring.size) here finds.2 in
    let free : is_among heads next ≡ false = sym ((x.runs.keeps.held (words_in s m) refl).taken next low) ∙ subst (λ (d : ℕ). is_taken s.taken d ≡ false) here finds.3 in
    let counts : s.counter < 18446744073709551615 = grind (arith, nat_tests, ap is_fetch rest) in
    let some : 0 < ahead (words_in s m).ring.avail (used_idx_word s.ring m + length heads) = omega (arith, finds.0.some, waits_as heads base plan s m x) in record {
      laid = record { lies = l.lies; same_ring = l.same_ring; base_is = l.base_is; places = l.places };
      runs = record {
        on = x.runs.on;
        keeps = record {
          in_phase = x.runs.on;
          kept = refl;
          fetching = x.runs.keeps.fetching ∙ ap (λ (p : Phase). kept_head p next) rest;
          held = keeps_alike s.ring.size heads (used_idx_word s.ring m) s (phases.Fetch 0) s.counter s.fetching s.batch (sym (ap (λ (p : Phase). hidden_part p s.batch) rest)) x.runs.keeps.held;
        };
        places = x.runs.places;
      };
      facts = fetch_begins s.ring.size heads base (side_of plan s.phase s) (words_in s m) x.runs.on rest (no_batch heads base plan s m x rest) some low free counts x.facts;
    }

pub fetch_begun : (heads : List ℕ) (base : ℕ) (plan : Plan) (s : QueueState) (m : Bytes) → BatchesFit s → InRun heads base plan s m → fetches s m ≡ true → (s.fetching ≡ None → Finds s m (Ok (Some (head_word s.ring m s.next_avail)))) → HasBegun heads base plan s (fetch_under_way s) m
fetch_begun heads base plan s m fit x ready finds = go s.phase refl
  where
    next : ℕ
    next = head_next heads (words_in s m)

    begins : (b : Bool) (u : QueueState) → is_fetch s.phase ≡ b → cond b s (record s { phase = phases.Fetch 0 }) ≡ u → u.batch ≡ s.batch → InRun heads base plan u m → HasBegun heads base plan s (fetch_under_way s) m
    begins b u test is same run =
        let which : fetch_under_way s ≡ u = ap (λ (y : Bool). cond y s (record s { phase = phases.Fetch 0 })) test ∙ is in
        subst (λ (v : QueueState). HasBegun heads base plan s v m) (sym which) (record {
          run = run;
          fit = subst ElementsFit (sym same) fit.under_way;
          says = λ y t moves. said_alike y s u heads same;
        })

    go : (p : Phase) → s.phase ≡ p → HasBegun heads base plan s (fetch_under_way s) m
    go phases.Rest at = begins false (record s { phase = phases.Fetch 0 }) (ap is_fetch at) refl refl (fetch_first heads base plan s m x at ready (finds (x.runs.keeps.fetching ∙ ap (λ (p : Phase). kept_head p next) at)))
    go (phases.Start done) at = runs_on x.runs.on (subst (λ (p : Phase). IsInPhase s.started p) at x.runs.keeps.in_phase)
    go (phases.Fetch done) at = begins true s (ap is_fetch at) refl refl x
    go (phases.Publish done) at = absurd (let busy : is_publication s.phase ≡ true = ap is_publication at in grind (arith, nat_tests))

-- ---- a publication

some_batch : (most : ℕ) (s : QueueState) → s.phase ≡ phases.Rest → publishes most s ≡ true → 0 < length (take most s.completed)
some_batch most s rest ready = go most s.completed counts.0 counts.1
  where
    counts : (0 < most) × (0 < length s.completed)
    counts = (grind (arith, nat_tests, ap is_publication rest), grind (arith, nat_tests, ap is_publication rest))

    go : (most : ℕ) (xs : List (ℕ × ℕ)) → 0 < most → 0 < length xs → 0 < length (take most xs)
    go zero xs more some = absurd (omega (arith, more))
    go (suc k) [] more some = absurd (omega (arith, some))
    go (suc k) (x ∷ xs) more some = omega arith

publication_first : (heads : List ℕ) (base : ℕ) (plan : Plan) (most : ℕ) (s : QueueState) (m : Bytes) → InRun heads base plan s m → s.phase ≡ phases.Rest → 0 < length (take most s.completed) → InRun heads base plan (begun most s) m
publication_first heads base plan most s m x rest some =
    let l = x.laid in
    let next : ℕ = head_next heads (words_in s m) in
    let none : hidden_in s ≡ [] = ap (λ (p : Phase). hidden_part p s.batch) rest in
    let batch : InBatch s.ring.size heads s.bell (take most s.completed) 0 = batch_begins s.ring.size heads (words_in s m) s.bell most (held_in s) none some (x.runs.keeps.held (words_in s m) refl) in record {
      laid = record { lies = l.lies; same_ring = l.same_ring; base_is = l.base_is; places = l.places };
      runs = record {
        on = x.runs.on;
        keeps = record {
          in_phase = x.runs.on;
          kept = refl;
          fetching = x.runs.keeps.fetching ∙ ap (λ (p : Phase). kept_head p next) rest;
          held = keeps_begun s.ring.size heads (used_idx_word s.ring m) most s none x.runs.keeps.held;
        };
        places = x.runs.places;
      };
      facts = publication_begins s.ring.size heads base (side_of plan s.phase s) (take most s.completed) (words_in s m) x.runs.on rest batch x.facts;
    }

-- its first step shows nothing
first_says : (heads : List ℕ) (most : ℕ) (s t : QueueState) (m : Bytes) (x : Stepped) → 0 < length (take most s.completed) → MovesBy (step_in (begun most s)) m x (begun most s) t → heads_said x (begun most s) heads ≡ heads_said x s heads
first_says heads most s t m x some moves =
    let first : step_in (begun most s) ≡ Some (steps.Id 0) = in_element (length (take most s.completed)) s.bell 0 (omega (arith, some)) in
    let y : MovesBy (Some (steps.Id 0)) m x (begun most s) t = subst (λ (o : Option Step). MovesBy o m x (begun most s) t) first moves in
    let row : Option Row = row_at (begun most s) m (Some (steps.Id 0)) in
    ap (λ (z : Stepped). heads_said z (begun most s) heads) y.0 ∙ row_heads row (begun most s) heads ∙ sym (row_heads row s heads) ∙ sym (ap (λ (z : Stepped). heads_said z s heads) y.0)

pub publication_begun : (heads : List ℕ) (base : ℕ) (plan : Plan) (most : ℕ) (s : QueueState) (m : Bytes) → BatchesFit s → InRun heads base plan s m → publishes most s ≡ true → HasBegun heads base plan s (under_way most s) m
publication_begun heads base plan most s m fit x ready = go s.phase refl
  where
    which : (b : Bool) → is_publication s.phase ≡ b → under_way most s ≡ cond b s (begun most s)
    which b test = ap (λ (y : Bool). cond y s (begun most s)) test

    go : (p : Phase) → s.phase ≡ p → HasBegun heads base plan s (under_way most s) m
    go phases.Rest at =
        let some : 0 < length (take most s.completed) = some_batch most s at ready in
        subst (λ (v : QueueState). HasBegun heads base plan s v m) (sym (which false (ap is_publication at))) (record {
          run = publication_first heads base plan most s m x at some;
          fit = fit.begins most;
          says = λ y t moves. first_says heads most s t m y some moves;
        })
    go (phases.Start done) at = runs_on x.runs.on (subst (λ (p : Phase). IsInPhase s.started p) at x.runs.keeps.in_phase)
    go (phases.Fetch done) at = absurd (let busy : is_fetch s.phase ≡ true = ap is_fetch at in grind (arith, nat_tests))
    go (phases.Publish done) at = subst (λ (v : QueueState). HasBegun heads base plan s v m) (sym (which true (ap is_publication at))) (record { run = x; fit = fit.under_way; says = λ y t moves. refl })
