-- A turn of a queue carries its facts on.
use Rattle.std.proofs.Common.{◌≡◌, ℕ, Bool, true, false, List, [], ◌∷◌, ◌++◌, refl, ap, sym, ◌∙◌, subst}
use Rattle.std.specs.Prelude.{Option, Some, None, Result, Ok}
use Rattle.vub_shared.specs.Bytes.{Bytes}
use Rattle.vub_shared.specs.Stores.{Stores, after_store}
use Rattle.vub_split.specs.Split.{used_idx_word}
use Rattle.vub_steps.specs.declared.steps.Phase.{Phase}
use Rattle.vub_steps.specs.declared.steps.Phase.TheVariants as phases
use Rattle.vub_steps.specs.declared.steps.Plan.{Plan}
use Rattle.vub_steps.specs.declared.steps.Step.{Step}
use Rattle.vub_steps.specs.declared.steps.Step.TheVariants as steps
use Rattle.vub_steps.specs.Rows.{Row}
use Rattle.vub_facts.specs.Facts.{Facts, ElementsFit, IsInPhase, head_next, heads_after, after_row}
use Rattle.vub_facts.proofs.FactStarts.{runs_on}
use Rattle.vub_queue.specs.declared.queue.Stepped.{Stepped}
use Rattle.vub_queue.specs.declared.queue.Stepped.TheVariants as says
use Rattle.vub_queue.specs.QueueState.{QueueState, seen_by, row_at, step_in, moved, MovesBy, StoresRow, outcome, is_fault, step_said, row_said}
use Rattle.vub_queue.specs.QueueFacts.{kept_phase, words_in, side_of, Keeps, FactsAt, heads_said}
use Rattle.vub_queue.proofs.StepFacts.{InRun, IsMade, run_facts, step_due, words_seen, seen_head, made_keeps}

-- ---- a queue that is started

-- its phase is the one that it keeps
own_phase : (started : Bool) (p q : Phase) → started ≡ true → IsInPhase started p → q ≡ kept_phase p → q ≡ p
own_phase started phases.Rest q on within is = is
own_phase started (phases.Start done) q on within is = runs_on on within
own_phase started (phases.Fetch done) q on within is = is
own_phase started (phases.Publish done) q on within is = is

pub facts_run : (heads : List ℕ) (base : ℕ) (s : QueueState) (m : Bytes) → s.started ≡ true → (x : FactsAt heads base s m) → InRun heads base x.plan s m
facts_run heads base s m on x =
    let k = x.keeps on in
    let same : x.phase ≡ s.phase = sym (own_phase s.started x.phase s.phase on k.in_phase k.kept) in record {
      laid = x.laid;
      runs = record { on = on; keeps = subst (λ (p : Phase). Keeps heads (used_idx_word s.ring m) (head_next heads (words_in s m)) p s) same k; places = x.laid.places };
      facts = subst (λ (p : Phase). Facts s.ring.size heads base (side_of x.plan p s) (words_in s m)) same x.facts;
    }

-- ---- memory after a turn that didn't fail

pub fine : (x : Stepped) → is_fault x ≡ false → outcome x ≡ Ok tt
fine says.Idle e = refl
fine (says.Stored tag) e = refl
fine (says.Accepted head) e = refl
fine (says.Looked head sector) e = refl
fine (says.Acted head sector) e = refl
fine (says.Synced head) e = refl
fine (says.Faulted head) e = refl
fine (says.Completed head) e = refl
fine says.Published e = refl
fine says.Belled e = refl
fine says.Started e = refl
fine says.SharedFault e = absurd (cc e)
fine says.BellFault e = refl
fine (says.Broken fault) e = refl
fine (says.Damaged fault) e = refl

pub same_bytes : (a b : Bytes) → ◌≡◌ {A = Option Bytes} (Some a) (Some b) → a ≡ b
same_bytes a b e = cc

pub stored_now : (x : Stepped) (row : Option Row) (m now : Bytes) → is_fault x ≡ false → StoresRow (Some m) (Some now) x row → now ≡ after_row row m
stored_now x None m now ok stores = same_bytes now m stores
stored_now x (Some y) m now ok stores = same_bytes now (after_store y.store m) (subst (λ (z : Result (Unit {0}) (Unit {0})). Stores (Some m) (Some now) z y.store) (fine x ok) stores)

-- ---- a step of a fetch or of a publication

-- one that only stores leaves the open heads
pub row_heads : (row : Option Row) (s : QueueState) (heads : List ℕ) → heads_said (row_said row) s heads ≡ heads
row_heads None s heads = refl
row_heads (Some y) s heads = refl

said_heads : (step : Step) (head next : ℕ) (row : Option Row) (s : QueueState) (heads : List ℕ) → head ≡ next → heads_after step next s.batch heads ≡ heads_said (step_said head row step) s heads
said_heads steps.Features head next row s heads same = sym (row_heads row s heads)
said_heads (steps.Free i) head next row s heads same = sym (row_heads row s heads)
said_heads steps.Open head next row s heads same = sym (row_heads row s heads)
said_heads (steps.Settle i) head next row s heads same = sym (row_heads row s heads)
said_heads steps.SettleEnd head next row s heads same = sym (row_heads row s heads)
said_heads steps.Start head next row s heads same = sym (row_heads row s heads)
said_heads steps.Bell head next row s heads same = refl
said_heads steps.Count head next row s heads same = sym (row_heads row s heads)
said_heads steps.Accept head next row s heads same = ap (λ (h : ℕ). heads ++ h ∷ []) (sym same)
said_heads (steps.Id e) head next row s heads same = sym (row_heads row s heads)
said_heads (steps.Len e) head next row s heads same = sym (row_heads row s heads)
said_heads (steps.Link e) head next row s heads same = sym (row_heads row s heads)
said_heads (steps.Head e) head next row s heads same = sym (row_heads row s heads)
said_heads steps.Index head next row s heads same = refl
said_heads (steps.Clear e) head next row s heads same = sym (row_heads row s heads)
said_heads steps.Note head next row s heads same = sym (row_heads row s heads)

pub move_keeps : (heads : List ℕ) (base : ℕ) (plan : Plan) (s t : QueueState) (m now : Bytes) (x : Stepped) → InRun heads base plan s m → ElementsFit s.batch → is_fault x ≡ false → MovesBy (step_in s) m x s t → StoresRow (Some m) (Some now) x (row_at s m (step_in s))
    → FactsAt (heads_said x s heads) base t now
move_keeps heads base plan s t m now x run fit ok moves stores = go (step_in s) refl moves stores
  where
    go : (o : Option Step) → step_in s ≡ o → MovesBy o m x s t → StoresRow (Some m) (Some now) x (row_at s m o) → FactsAt (heads_said x s heads) base t now
    go None is moves stores = absurd moves
    go (Some step) is moves stores =
        let due = step_due heads base plan s m step run is in
        let made : IsMade heads base plan s m now step = record { run = run; due = due; words = ap (words_in s) (stored_now x (row_at s m (Some step)) m now ok stores) ∙ words_seen heads base plan s m step run fit due } in
        let head : ℕ = (seen_by s m).head in
        let after = made_keeps heads base plan s m now step made in
        let same : heads_after step (head_next heads (words_in s m)) s.batch heads ≡ heads_said x s heads =
        said_heads step head (head_next heads (words_in s m)) (row_at s m (Some step)) s heads (seen_head heads base plan s m run) ∙ ap (λ (y : Stepped). heads_said y s heads) (sym moves.0) in
        subst (λ (hs : List ℕ). FactsAt hs base t now) same (subst (λ (u : QueueState). FactsAt (heads_after step (head_next heads (words_in s m)) s.batch heads) base u now) (sym moves.1)
        (run_facts (heads_after step (head_next heads (words_in s m)) s.batch heads) base plan (moved head step s) now after))
