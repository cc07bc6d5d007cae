-- Any turn of a queue carries its facts on.
use Rattle.std.proofs.Common.{◌≡◌, ℕ, Bool, true, false, List, refl, sym, subst, inl, inr, arith}
use Rattle.std.specs.Prelude.{Option, Some, None, ⊤}
use Rattle.std.proofs.lemmas.Bool.Decides.{nat_tests}
use Rattle.std.proofs.lemmas.Bool.{cases_Bool}
use Rattle.vub_shared.specs.Bytes.{Bytes}
use Rattle.vub_steps.specs.declared.readiness.Turn.{Turn}
use Rattle.vub_steps.specs.declared.readiness.Turn.TheVariants as turns
use Rattle.vub_queue.specs.declared.queue.Stepped.{Stepped}
use Rattle.vub_queue.specs.declared.queue.Stepped.TheVariants as says
use Rattle.vub_queue.specs.QueueState.{QueueState, next_row, StoresRow, Moves, Fetched, Fetches, fetch_row, fetch_under_way, fetches, Publishes, publishes, publish_row, row_if, under_way, is_fault, Unless, DoesOf, Does, DoesStore, halted}
use Rattle.vub_queue.specs.QueueFacts.{WorksApart, FactsAt, heads_said, KeepsFacts}
use Rattle.vub_queue.proofs.BesideLemmas.{IsBeside}
use Rattle.vub_queue.proofs.TurnFacts.{facts_run, same_bytes}
use Rattle.vub_queue.proofs.BeginFacts.{BatchesFit, begun_keeps, fetch_begun, publication_begun}
use Rattle.vub_queue.proofs.StartFacts.{start_keeps}
use Rattle.vub_queue.proofs.WorkFacts.{halts_keep, work_keeps}

-- ---- a turn in which nothing is ready

rests : (heads : List ℕ) (base : ℕ) (s t : QueueState) (m now : Bytes) → t ≡ s → StoresRow (Some m) (Some now) says.Idle None → FactsAt heads base s m → FactsAt heads base t now
rests heads base s t m now same stores f = subst (λ (v : Bytes). FactsAt heads base t v) (sym (same_bytes now m stores)) (subst (λ (u : QueueState). FactsAt heads base u m) (sym same) f)

-- ---- a fetch

fetched_keeps : (heads : List ℕ) (base : ℕ) (x : Stepped) (s t : QueueState) (m now : Bytes) → BatchesFit s → is_fault x ≡ false → Fetched (Some m) x s t → StoresRow (Some m) (Some now) x (next_row (fetch_under_way s) m) → FactsAt heads base s m → FactsAt (heads_said x s heads) base t now
fetched_keeps heads base x s t m now fit ok h stores f =
    let ready : fetches s m ≡ true = h.ready m refl in
    let on : s.started ≡ true = grind (arith, nat_tests) in
    let begun = fetch_begun heads base f.plan s m fit (facts_run heads base s m on f) ready (λ none. h.finds none m refl) in
    begun_keeps heads base f.plan s (fetch_under_way s) t m now x begun ok (h.moves m refl) stores

fetch_keeps : (heads : List ℕ) (base : ℕ) (x : Stepped) (s t : QueueState) (m now : Bytes) → BatchesFit s → is_fault x ≡ false → Fetches (Some m) x s t → StoresRow (Some m) (Some now) x (fetch_row x s m) → FactsAt heads base s m → FactsAt (heads_said x s heads) base t now
fetch_keeps heads base says.Idle s t m now fit ok h stores f = rests heads base s t m now h.0 stores f
fetch_keeps heads base (says.Stored tag) s t m now fit ok h stores f = fetched_keeps heads base (says.Stored tag) s t m now fit ok h stores f
fetch_keeps heads base (says.Accepted head) s t m now fit ok h stores f = fetched_keeps heads base (says.Accepted head) s t m now fit ok h stores f
fetch_keeps heads base (says.Looked head sector) s t m now fit ok h stores f = absurd h
fetch_keeps heads base (says.Acted head sector) s t m now fit ok h stores f = absurd h
fetch_keeps heads base (says.Synced head) s t m now fit ok h stores f = absurd h
fetch_keeps heads base (says.Faulted head) s t m now fit ok h stores f = absurd h
fetch_keeps heads base (says.Completed head) s t m now fit ok h stores f = absurd h
fetch_keeps heads base says.Published s t m now fit ok h stores f = absurd h
fetch_keeps heads base says.Belled s t m now fit ok h stores f = absurd h
fetch_keeps heads base says.Started s t m now fit ok h stores f = absurd h
fetch_keeps heads base says.SharedFault s t m now fit ok h stores f = absurd (cc)
fetch_keeps heads base says.BellFault s t m now fit ok h stores f = absurd h
fetch_keeps heads base (says.Broken fault) s t m now fit ok h stores f = rests heads base s t m now h.same stores f
fetch_keeps heads base (says.Damaged fault) s t m now fit ok h stores f = absurd h

-- ---- a publication

publish_keeps : (heads : List ℕ) (base most : ℕ) (x : Stepped) (s t : QueueState) (m now : Bytes) → BatchesFit s → is_fault x ≡ false → Publishes (publishes most s) (Some m) x s (under_way most s) t → StoresRow (Some m) (Some now) x (publish_row most s m) → FactsAt heads base s m
    → FactsAt (heads_said x s heads) base t now
publish_keeps heads base most x s t m now fit ok h stores f = elim (cases_Bool (publishes most s)) [
  | inl ready ↦
      let on : s.started ≡ true = grind (arith, nat_tests) in
      let moves : Moves (Some m) x (under_way most s) t = subst (λ (b : Bool). Publishes b (Some m) x s (under_way most s) t) ready h in
      let row : StoresRow (Some m) (Some now) x (next_row (under_way most s) m) = subst (λ (b : Bool). StoresRow (Some m) (Some now) x (row_if b (under_way most s) m)) ready stores in
      begun_keeps heads base f.plan s (under_way most s) t m now x (publication_begun heads base f.plan most s m fit (facts_run heads base s m on f) ready) ok (moves m refl) row
  | inr idle ↦
      let still : Publishes false (Some m) x s (under_way most s) t = subst (λ (b : Bool). Publishes b (Some m) x s (under_way most s) t) idle h in
      let row : StoresRow (Some m) (Some now) x None = subst (λ (b : Bool). StoresRow (Some m) (Some now) x (row_if b (under_way most s) m)) idle stores in
      subst (λ (y : Stepped). FactsAt (heads_said y s heads) base t now) (sym still.0) (rests heads base s t m now still.1 row f)
]

-- ---- any turn

-- what work on a request left of memory
abbrev pub LeftBeside : Turn → QueueState → Bytes → Bytes → Type 0
LeftBeside (turns.Work place) s m now = IsBeside s m now
LeftBeside turn s m now = ⊤

does_keep : (heads : List ℕ) (base : ℕ) (turn : Turn) (x : Stepped) (s t : QueueState) (m now : Bytes) → BatchesFit s → is_fault x ≡ false → DoesOf turn (Some m) x s t → DoesStore turn (Some m) (Some now) x s → LeftBeside turn s m now → FactsAt heads base s m → FactsAt (heads_said x s heads) base t now
does_keep heads base turns.Start x s t m now fit ok does stores beside f = start_keeps heads base x s t m now ok does stores f
does_keep heads base turns.Fetch x s t m now fit ok does stores beside f = fetch_keeps heads base x s t m now fit ok does (stores m refl) f
does_keep heads base (turns.Work place) x s t m now fit ok does stores beside f = work_keeps heads base place x s t m now does beside f
does_keep heads base (turns.Publish most) x s t m now fit ok does stores beside f = publish_keeps heads base most x s t m now fit ok does (stores m refl) f

pub turned_keeps : (sizes : ℕ → ℕ) (turn : Turn) (before after : Option Bytes) (x : Stepped) (s t u : QueueState) → BatchesFit s → t ≡ halted x u → Does turn before x s u → DoesStore turn before after x s
    → ((m now : Bytes) → before ≡ Some m → after ≡ Some now → is_fault x ≡ false → WorksApart sizes turn s m → LeftBeside turn s m now) → KeepsFacts sizes turn before after x s t
turned_keeps sizes turn before after x s t u fit halts does stores left heads base m now told told_now apart f = go (is_fault x) refl does
  where
    go : (b : Bool) → is_fault x ≡ b → Unless b (DoesOf turn before x s u) → Unless b (FactsAt (heads_said x s heads) base t now)
    go true is does = tt
    go false is does =
        subst (λ (v : QueueState). FactsAt (heads_said x s heads) base v now) (sym halts) (halts_keep (heads_said x s heads) base x u now
        (does_keep heads base turn x s u m now fit is (subst (λ (o : Option Bytes). DoesOf turn o x s u) told does)
        (subst (λ (o : Option Bytes). DoesStore turn (Some m) o x s) told_now (subst (λ (o : Option Bytes). DoesStore turn o after x s) told stores)) (left m now told told_now is apart) f))
