-- A step of a fetch or of a publication carries the facts of a queue on.
use Rattle.std.proofs.Common.{◌≡◌, ◌<◌, ℕ, zero, suc, ◌+◌, ◌*◌, ◌%◌, Bool, true, false, List, [], ◌∷◌, ◌++◌, length, refl, ap, sym, ◌∙◌, subst, inl, inr, arith}
use Rattle.std.specs.Prelude.{Option, Some, None, not, if◌then◌else◌}
use Rattle.std.proofs.lemmas.List.{length-set}
use Rattle.std.proofs.lemmas.Bool.{cases_Bool}
use Rattle.vub_shared.specs.Bytes.{Bytes}
use Rattle.vub_split.specs.Split.{used_idx_word, head_word}
use Rattle.vub_infl_split.specs.declared.region.SplitStore.TheVariants as stores
use Rattle.vub_steps.specs.declared.steps.Phase.{Phase}
use Rattle.vub_steps.specs.declared.steps.Phase.TheVariants as phases
use Rattle.vub_steps.specs.declared.steps.Plan.{Plan}
use Rattle.vub_steps.specs.declared.steps.Step.{Step}
use Rattle.vub_steps.specs.declared.steps.Step.TheVariants as steps
use Rattle.vub_steps.specs.Steps.{done_of, at_step, next_of, after_of, running_steps, next_step, after_step}
use Rattle.vub_steps.specs.Rows.{Row, Sight, row_of, region_row, region_store}
use Rattle.vub_facts.specs.Facts.{Side, Words, heads_in, without, Facts, InFetching, ElementsFit, IsInPhase, IsDue, course_in, head_next, heads_after, side_after, counted, with_phase, next_counter_in, sight, with_stored, words_after, after_row}
use Rattle.vub_facts.specs.Held.{Held}
use Rattle.vub_facts.proofs.Places.{Place, place_of, after_place, is_last}
use Rattle.vub_facts.proofs.FactStarts.{runs_on}
use Rattle.vub_facts.proofs.FactSteps.{step_keeps, batch_in}
use Rattle.vub_facts.proofs.FactWords.{row_words}
use Rattle.vub_facts.proofs.HeldSteps.{same_used}
use Rattle.vub_queue.specs.QueueParts.{is_taken}
use Rattle.vub_queue.specs.QueueState as states
use Rattle.vub_queue.specs.QueueState.{QueueState, seen_by, row_at, steps_in, step_in, changed, moved, kept_or}
use Rattle.vub_queue.specs.QueueFacts.{held_in, kept_head, ring_of, words_in, side_of, IsLaid, FactsAt}
use Rattle.vub_queue.proofs.QueueHeld.{fetched}
use Rattle.vub_queue.proofs.QueueLemmas.{length_without}
use Rattle.vub_queue.proofs.FactsLemmas.{head_seen, IsAside, Runs, still_on, still_ends, index_shows, count_keeps, accept_keeps}

-- ---- a queue that runs

pub record InRun (heads : List ℕ) (base : ℕ) (plan : Plan) (s : QueueState) (m : Bytes) : Type 0 where
  pub laid : IsLaid base s
  pub runs : Runs heads (used_idx_word s.ring m) (head_next heads (words_in s m)) s
  pub facts : Facts s.ring.size heads base (side_of plan s.phase s) (words_in s m)

-- its facts are those of a queue in its own phase
pub run_facts : (heads : List ℕ) (base : ℕ) (plan : Plan) (s : QueueState) (m : Bytes) → InRun heads base plan s m → FactsAt heads base s m
run_facts heads base plan s m x = record { plan = plan; phase = s.phase; laid = x.laid; keeps = λ on. x.runs.keeps; begins = λ off. runs_on x.runs.on off; facts = x.facts }

abbrev runs_side : Plan → QueueState → Side
runs_side plan s = side_of plan s.phase s

-- the steps of its phase, and the phase after the next one, are those of the step table
due_in : (n : ℕ) (plan : Plan) (s : QueueState) (p : Phase) (step : Step) → s.started ≡ true → IsInPhase s.started p → next_of (running_steps (length s.batch) s.bell p) p ≡ Some step → next_step (course_in n (runs_side plan s)) p ≡ Some step
due_in n plan s phases.Rest step on within is = is
due_in n plan s (phases.Start done) step on within is = runs_on on within
due_in n plan s (phases.Fetch done) step on within is = is
due_in n plan s (phases.Publish done) step on within is = is

pub step_due : (heads : List ℕ) (base : ℕ) (plan : Plan) (s : QueueState) (m : Bytes) (step : Step) → InRun heads base plan s m → step_in s ≡ Some step → IsDue s.ring.size step (runs_side plan s)
step_due heads base plan s m step x is = record { in_phase = x.runs.keeps.in_phase; next = due_in s.ring.size plan s s.phase step x.runs.on x.runs.keeps.in_phase is }

after_in : (n : ℕ) (plan : Plan) (s : QueueState) (p : Phase) → s.started ≡ true → IsInPhase s.started p → after_of (running_steps (length s.batch) s.bell p) p ≡ after_step (course_in n (runs_side plan s)) p
after_in n plan s phases.Rest on within = refl
after_in n plan s (phases.Start done) on within = runs_on on within
after_in n plan s (phases.Fetch done) on within = refl
after_in n plan s (phases.Publish done) on within = refl

-- ---- what it stores

abbrev seen_in : List ℕ → Plan → QueueState → Bytes → Sight
seen_in heads plan s m = sight heads (runs_side plan s) (words_in s m)

-- it sees what the step table does, as far as its row depends on it
pub row_seen : (heads : List ℕ) (base : ℕ) (plan : Plan) (s : QueueState) (m : Bytes) (step : Step) → InRun heads base plan s m → ((seen_by s m).head ≡ head_next heads (words_in s m)) → Place s.ring.size step (runs_side plan s)
    → row_at s m (Some step) ≡ row_of (ring_of s) s.recovery.region (seen_in heads plan s m) step
row_seen heads base plan s m steps.Features x head at = runs_on x.runs.on at.0.not_started
row_seen heads base plan s m (steps.Free i) x head at = runs_on x.runs.on at.0.not_started
row_seen heads base plan s m steps.Open x head at = runs_on x.runs.on at.0.not_started
row_seen heads base plan s m (steps.Settle i) x head at = runs_on x.runs.on at.0.not_started
row_seen heads base plan s m steps.SettleEnd x head at = runs_on x.runs.on at.1.0.not_started
row_seen heads base plan s m steps.Start x head at = runs_on x.runs.on at.not_started
row_seen heads base plan s m steps.Bell x head at = refl
row_seen heads base plan s m steps.Count x head at = ap (λ (h : ℕ). Some (region_row s.recovery.region (stores.SF1 h s.counter))) head
row_seen heads base plan s m steps.Accept x head at = ap (λ (h : ℕ). Some (region_row s.recovery.region (stores.SF2 h))) head
row_seen heads base plan s m (steps.Id e) x head at = refl
row_seen heads base plan s m (steps.Len e) x head at = refl
row_seen heads base plan s m (steps.Link e) x head at = refl
row_seen heads base plan s m (steps.Head e) x head at = refl
row_seen heads base plan s m steps.Index x head at = refl
row_seen heads base plan s m (steps.Clear e) x head at = refl
row_seen heads base plan s m steps.Note x head at = refl

-- the head that it sees
kept_or_is : (p : Phase) (kept : Option ℕ) (head next : ℕ) → kept ≡ kept_head p next → head ≡ next → kept_or kept head ≡ next
kept_or_is p None head next is same = same
kept_or_is (phases.Fetch done) (Some kept) head next is same = go done is
  where
    go : (done : ℕ) → Some kept ≡ kept_head (phases.Fetch done) next → kept ≡ next
    go zero e = absurd (cc)
    go (suc d) e = cc
kept_or_is phases.Rest (Some kept) head next is same = absurd (cc)
kept_or_is (phases.Start done) (Some kept) head next is same = absurd (cc)
kept_or_is (phases.Publish done) (Some kept) head next is same = absurd (cc)

pub seen_head : (heads : List ℕ) (base : ℕ) (plan : Plan) (s : QueueState) (m : Bytes) → InRun heads base plan s m → (seen_by s m).head ≡ head_next heads (words_in s m)
seen_head heads base plan s m x = kept_or_is s.phase s.fetching (head_word s.ring m s.next_avail) (head_next heads (words_in s m)) x.runs.keeps.fetching (head_seen heads base s m x.laid x.runs.keeps.held)

abbrev words_made : List ℕ → Plan → QueueState → Bytes → Step → Words
words_made heads plan s m step = words_after (ring_of s) (seen_in heads plan s m) step (words_in s m)

pub words_seen : (heads : List ℕ) (base : ℕ) (plan : Plan) (s : QueueState) (m : Bytes) (step : Step) → InRun heads base plan s m → ElementsFit s.batch → IsDue s.ring.size step (runs_side plan s)
    → words_in s (after_row (row_at s m (Some step)) m) ≡ words_made heads plan s m step
words_seen heads base plan s m step x fit due =
    ap (λ (o : Option Row). words_in s (after_row o m)) (row_seen heads base plan s m step x (seen_head heads base plan s m x) (place_of s.ring.size step (runs_side plan s) due))
    ∙ row_words (ring_of s) s.recovery.region heads base (runs_side plan s) step m x.laid.lies fit due x.facts

-- ---- a step that is made

pub record IsMade (heads : List ℕ) (base : ℕ) (plan : Plan) (s : QueueState) (m now : Bytes) (step : Step) : Type 0 where
  pub run : InRun heads base plan s m
  pub due : IsDue s.ring.size step (runs_side plan s)
  pub words : words_in s now ≡ words_made heads plan s m step

abbrev heads_on : List ℕ → QueueState → Bytes → Step → List ℕ
heads_on heads s m step = heads_after step (head_next heads (words_in s m)) s.batch heads

abbrev next_in : QueueState → Bytes → ℕ
next_in s m = next_counter_in s.ring.size (words_in s m)

-- the facts after it, in this phase
facts_on : (heads : List ℕ) (base : ℕ) (plan : Plan) (s : QueueState) (m now : Bytes) (step : Step) (p : Phase) → IsMade heads base plan s m now step → after_step (course_in s.ring.size (runs_side plan s)) s.phase ≡ p
    → Facts s.ring.size (heads_on heads s m step) base (with_phase p (counted (next_in s m) step (runs_side plan s))) (words_in s now)
facts_on heads base plan s m now step p x after =
    subst (λ (q : Phase). Facts s.ring.size (heads_on heads s m step) base (with_phase q (counted (next_in s m) step (runs_side plan s))) (words_in s now)) after
    (subst (λ (w : Words). Facts s.ring.size (heads_on heads s m step) base (side_after s.ring.size (next_in s m) step (runs_side plan s)) w) (sym x.words)
    (step_keeps (ring_of s) s.recovery.region heads base step (runs_side plan s) (words_in s m) x.run.laid.lies x.due x.run.facts))

-- the queue after it, in this phase
moved_on : (heads : List ℕ) (base : ℕ) (plan : Plan) (s : QueueState) (m now : Bytes) (step : Step) (head : ℕ) (p : Phase) → IsMade heads base plan s m now step → after_step (course_in s.ring.size (runs_side plan s)) s.phase ≡ p
    → moved head step s ≡ states.with_phase p (changed head step s)
moved_on heads base plan s m now step head p x after = ap (λ (q : Phase). states.with_phase q (changed head step s)) (after_in s.ring.size plan s s.phase x.run.runs.on x.run.runs.keeps.in_phase ∙ after)

used_now : (heads : List ℕ) (base : ℕ) (plan : Plan) (s : QueueState) (m now : Bytes) (step : Step) → IsMade heads base plan s m now step → used_idx_word s.ring now ≡ (words_made heads plan s m step).ring.used
used_now heads base plan s m now step x = ap (λ (w : Words). w.ring.used) x.words

-- a step that goes on in its publication
goes : (heads : List ℕ) (base : ℕ) (plan : Plan) (s : QueueState) (m now : Bytes) (step : Step) (done : ℕ) → IsMade heads base plan s m now step → s.phase ≡ phases.Publish done → IsAside s.batch done
    → after_step (course_in s.ring.size (runs_side plan s)) s.phase ≡ phases.Publish (done + 1) → counted (next_in s m) step (runs_side plan s) ≡ runs_side plan s → heads_on heads s m step ≡ heads → (words_made heads plan s m step).ring.used ≡ used_idx_word s.ring m
    → InRun heads base plan (record s { phase = phases.Publish (done + 1) }) now
goes heads base plan s m now step done x at aside after still same used =
    let p : Phase = phases.Publish (done + 1) in
    let f : Facts s.ring.size (heads_on heads s m step) base (with_phase p (counted (next_in s m) step (runs_side plan s))) (words_in s now) = facts_on heads base plan s m now step p x after in
    let l = x.run.laid in record {
      laid = record { lies = l.lies; same_ring = l.same_ring; base_is = l.base_is; places = l.places };
      runs = subst (λ (u : ℕ). Runs heads u (head_next heads (words_in s now)) (record s { phase = p })) (sym (used_now heads base plan s m now step x ∙ used))
          (still_on heads (used_idx_word s.ring m) (head_next heads (words_in s m)) (head_next heads (words_in s now)) done s at aside x.run.runs);
      facts = subst (λ (hs : List ℕ). Facts s.ring.size hs base (with_phase p (runs_side plan s)) (words_in s now)) same (subst (λ (y : Side). Facts s.ring.size (heads_on heads s m step) base (with_phase p y) (words_in s now)) still f);
    }

-- or ends it
ends : (heads : List ℕ) (base : ℕ) (plan : Plan) (s : QueueState) (m now : Bytes) (step : Step) (done : ℕ) → IsMade heads base plan s m now step → s.phase ≡ phases.Publish done → 4 * length s.batch < done
    → after_step (course_in s.ring.size (runs_side plan s)) s.phase ≡ phases.Rest → counted (next_in s m) step (runs_side plan s) ≡ runs_side plan s → heads_on heads s m step ≡ heads → (words_made heads plan s m step).ring.used ≡ used_idx_word s.ring m
    → InRun heads base plan (record s { phase = phases.Rest; batch = [] }) now
ends heads base plan s m now step done x at behind after still same used =
    let f : Facts s.ring.size (heads_on heads s m step) base (with_phase phases.Rest (counted (next_in s m) step (runs_side plan s))) (words_in s now) = facts_on heads base plan s m now step phases.Rest x after in
    let l = x.run.laid in record {
      laid = record { lies = l.lies; same_ring = l.same_ring; base_is = l.base_is; places = l.places };
      runs = subst (λ (u : ℕ). Runs heads u (head_next heads (words_in s now)) (record s { phase = phases.Rest; batch = [] })) (sym (used_now heads base plan s m now step x ∙ used))
          (still_ends heads (used_idx_word s.ring m) (head_next heads (words_in s m)) (head_next heads (words_in s now)) done s at behind x.run.runs);
      facts = subst (λ (hs : List ℕ). Facts s.ring.size hs base (with_phase phases.Rest (runs_side plan s)) (words_in s now)) same (subst (λ (y : Side). Facts s.ring.size (heads_on heads s m step) base (with_phase phases.Rest y) (words_in s now)) still f);
    }

-- the head of a fetch gets its counter
counts : (heads : List ℕ) (base : ℕ) (plan : Plan) (s : QueueState) (m now : Bytes) → IsMade heads base plan s m now steps.Count → s.phase ≡ phases.Fetch 0 → InRun heads base plan (moved (seen_by s m).head steps.Count s) now
counts heads base plan s m now x at =
    let p : Phase = phases.Fetch 1 in
    let head : ℕ = (seen_by s m).head in
    let t : QueueState = record s { counter = s.counter + 1; fetching = Some head; phase = p } in
    let after : after_step (course_in s.ring.size (runs_side plan s)) s.phase ≡ p = ap (after_step (course_in s.ring.size (runs_side plan s))) at in
    let f : Facts s.ring.size heads base (with_phase p (counted (next_in s m) steps.Count (runs_side plan s))) (words_in s now) = facts_on heads base plan s m now steps.Count p x after in
    let used : used_idx_word s.ring now ≡ used_idx_word s.ring m = used_now heads base plan s m now steps.Count x in
    let next : head_next heads (words_in s now) ≡ head_next heads (words_in s m) = ap (head_next heads) x.words in
    let l = x.run.laid in
    subst (λ (u : QueueState). InRun heads base plan u now) (sym (moved_on heads base plan s m now steps.Count head p x after)) (record {
      laid = record { lies = l.lies; same_ring = l.same_ring; base_is = l.base_is; places = l.places };
      runs = subst (λ (u : ℕ). Runs heads u (head_next heads (words_in s now)) t) (sym used) (subst (λ (d : ℕ). Runs heads (used_idx_word s.ring m) d t) (sym next)
          (count_keeps heads (used_idx_word s.ring m) (head_next heads (words_in s m)) head s at (seen_head heads base plan s m x.run) x.run.runs));
      facts = f;
    })

-- and is accepted
accepts : (heads : List ℕ) (base : ℕ) (plan : Plan) (s : QueueState) (m now : Bytes) → IsMade heads base plan s m now steps.Accept → s.phase ≡ phases.Fetch 1 → InRun (heads_on heads s m steps.Accept) base plan (moved (seen_by s m).head steps.Accept s) now
accepts heads base plan s m now x at =
    let p : Phase = phases.Rest in
    let head : ℕ = (seen_by s m).head in
    let next : ℕ = head_next heads (words_in s m) in
    let seen : head ≡ next = seen_head heads base plan s m x.run in
    let after : after_step (course_in s.ring.size (runs_side plan s)) s.phase ≡ p = ap (after_step (course_in s.ring.size (runs_side plan s))) at in
    let b : InFetching s.ring.size heads s.counter s.batch 1 (words_in s m) = batch_in s.ring.size heads base (phases.Fetch 1) (runs_side plan s) (words_in s m) at x.run.facts in
    let f : Facts s.ring.size (heads ++ next ∷ []) base (with_phase p (counted (next_in s m) steps.Accept (runs_side plan s))) (words_in s now) = facts_on heads base plan s m now steps.Accept p x after in
    let used : used_idx_word s.ring now ≡ used_idx_word s.ring m = used_now heads base plan s m now steps.Accept x in
    let held : Held s.ring.size heads (words_in s m) (held_in s) = x.run.runs.keeps.held (words_in s m) refl in
    let free : is_taken s.taken head ≡ false = ap (is_taken s.taken) seen ∙ held.taken next b.below ∙ b.free in
    let low : head < s.ring.size = omega (arith, seen, b.below) in
    let l = x.run.laid in
    let t : QueueState = fetched head s in
    subst (λ (u : QueueState). InRun (heads ++ next ∷ []) base plan u now) (sym (moved_on heads base plan s m now steps.Accept head p x after)) (record {
      laid = record { lies = l.lies; same_ring = l.same_ring; base_is = l.base_is; places = length-set s.taken head true ∙ l.places };
      runs = subst (λ (u : ℕ). Runs (heads ++ next ∷ []) u (head_next (heads ++ next ∷ []) (words_in s now)) t) (sym used)
          (subst (λ (d : ℕ). Runs (heads ++ d ∷ []) (used_idx_word s.ring m) (head_next (heads ++ next ∷ []) (words_in s now)) t) seen
          (accept_keeps (ring_of s) heads (used_idx_word s.ring m) next (head_next (heads ++ next ∷ []) (words_in s now)) head s refl at low free x.run.runs));
      facts = f;
    })

-- the batch is shown
shows_batch : (heads : List ℕ) (base : ℕ) (plan : Plan) (s : QueueState) (m now : Bytes) (head : ℕ) → IsMade heads base plan s m now steps.Index → s.phase ≡ phases.Publish (4 * length s.batch)
    → after_step (course_in s.ring.size (runs_side plan s)) s.phase ≡ phases.Publish (4 * length s.batch + 1) → InRun (heads_on heads s m steps.Index) base plan (moved head steps.Index s) now
shows_batch heads base plan s m now head x at after =
    let done : ℕ = 4 * length s.batch in
    let p : Phase = phases.Publish (done + 1) in
    let left : List ℕ = without (heads_in s.batch) heads in
    let f : Facts s.ring.size left base (with_phase p (counted (next_in s m) steps.Index (runs_side plan s))) (words_in s now) = facts_on heads base plan s m now steps.Index p x after in
    let used : used_idx_word s.ring now ≡ (used_idx_word s.ring m + length s.batch) % 65536 = used_now heads base plan s m now steps.Index x in
    let l = x.run.laid in
    subst (λ (u : QueueState). InRun left base plan u now) (sym (moved_on heads base plan s m now steps.Index head p x after)) (record {
      laid = record { lies = l.lies; same_ring = l.same_ring; base_is = l.base_is; places = length_without s.batch s.taken ∙ l.places };
      runs = index_shows (ring_of s) heads (used_idx_word s.ring m) (used_idx_word s.ring now) (head_next heads (words_in s m)) (head_next left (words_in s now)) s refl x.run.facts.used_fits at used x.run.runs;
      facts = f;
    })

-- ---- the step that is next, whichever it is

publish_next : (heads : List ℕ) (base : ℕ) (plan : Plan) (s : QueueState) (m now : Bytes) (step : Step) (head done : ℕ) → IsMade heads base plan s m now step → s.phase ≡ phases.Publish done → IsAside s.batch done → is_last step (runs_side plan s) ≡ false
    → changed head step s ≡ s → counted (next_in s m) step (runs_side plan s) ≡ runs_side plan s → heads_on heads s m step ≡ heads → (words_made heads plan s m step).ring.used ≡ used_idx_word s.ring m
    → InRun (heads_on heads s m step) base plan (moved head step s) now
publish_next heads base plan s m now step head done x at aside last plain still same used =
    let y : Place s.ring.size step (runs_side plan s) = place_of s.ring.size step (runs_side plan s) x.due in
    let after : after_step (course_in s.ring.size (runs_side plan s)) s.phase ≡ phases.Publish (done + 1) =
    after_place s.ring.size step (runs_side plan s) y ∙ ap (λ (b : Bool). if b then phases.Rest else at_step s.phase (done_of s.phase + 1)) last ∙ ap (λ (q : Phase). at_step q (done_of q + 1)) at in
    subst (λ (hs : List ℕ). InRun hs base plan (moved head step s) now) (sym same) (subst (λ (u : QueueState). InRun heads base plan u now)
    (sym (moved_on heads base plan s m now step head (phases.Publish (done + 1)) x after ∙ ap (states.with_phase (phases.Publish (done + 1))) plain)) (goes heads base plan s m now step done x at aside after still same used))

publish_last : (heads : List ℕ) (base : ℕ) (plan : Plan) (s : QueueState) (m now : Bytes) (step : Step) (head done : ℕ) → IsMade heads base plan s m now step → s.phase ≡ phases.Publish done → 4 * length s.batch < done → is_last step (runs_side plan s) ≡ true
    → changed head step s ≡ s → counted (next_in s m) step (runs_side plan s) ≡ runs_side plan s → heads_on heads s m step ≡ heads → (words_made heads plan s m step).ring.used ≡ used_idx_word s.ring m
    → InRun (heads_on heads s m step) base plan (moved head step s) now
publish_last heads base plan s m now step head done x at behind last plain still same used =
    let y : Place s.ring.size step (runs_side plan s) = place_of s.ring.size step (runs_side plan s) x.due in
    let after : after_step (course_in s.ring.size (runs_side plan s)) s.phase ≡ phases.Rest =
    after_place s.ring.size step (runs_side plan s) y ∙ ap (λ (b : Bool). if b then phases.Rest else at_step s.phase (done_of s.phase + 1)) last in
    subst (λ (hs : List ℕ). InRun hs base plan (moved head step s) now) (sym same) (subst (λ (u : QueueState). InRun heads base plan u now)
    (sym (moved_on heads base plan s m now step head phases.Rest x after ∙ ap (states.with_phase phases.Rest) plain)) (ends heads base plan s m now step done x at behind after still same used))

pub made_keeps : (heads : List ℕ) (base : ℕ) (plan : Plan) (s : QueueState) (m now : Bytes) (step : Step) → IsMade heads base plan s m now step → InRun (heads_on heads s m step) base plan (moved (seen_by s m).head step s) now
made_keeps heads base plan s m now step made = go step (place_of s.ring.size step side made.due) made
  where
    side : Side
    side = runs_side plan s

    head : ℕ
    head = (seen_by s m).head

    b : ℕ
    b = length s.batch

    kept : (step : Step) → (with_stored s.ring.size (region_store (seen_in heads plan s m) step) (words_in s m)).ring.used ≡ used_idx_word s.ring m
    kept step = same_used s.ring.size (region_store (seen_in heads plan s m) step) (words_in s m)

    go : (step : Step) → Place s.ring.size step side → IsMade heads base plan s m now step → InRun (heads_on heads s m step) base plan (moved head step s) now
    go steps.Features p x = runs_on x.run.runs.on p.0.not_started
    go (steps.Free i) p x = runs_on x.run.runs.on p.0.not_started
    go steps.Open p x = runs_on x.run.runs.on p.0.not_started
    go (steps.Settle i) p x = runs_on x.run.runs.on p.0.not_started
    go steps.SettleEnd p x = runs_on x.run.runs.on p.1.0.not_started
    go steps.Start p x = runs_on x.run.runs.on p.not_started
    go steps.Count p x = counts heads base plan s m now x p.place
    go steps.Accept p x = accepts heads base plan s m now x p.place
    go steps.Index p x = shows_batch heads base plan s m now head x p.place (after_place s.ring.size steps.Index side p ∙ ap (λ (q : Phase). at_step q (done_of q + 1)) p.place)
    go (steps.Id e) p x = publish_next heads base plan s m now (steps.Id e) head (4 * e) x p.0.place (inl (omega (arith, p.1))) refl refl refl refl refl
    go (steps.Len e) p x = publish_next heads base plan s m now (steps.Len e) head (4 * e + 1) x p.0.place (inl (omega (arith, p.1))) refl refl refl refl refl
    go (steps.Link e) p x = publish_next heads base plan s m now (steps.Link e) head (4 * e + 2) x p.0.place (inl (omega (arith, p.1))) refl refl refl refl (kept (steps.Link e))
    go (steps.Head e) p x = publish_next heads base plan s m now (steps.Head e) head (4 * e + 3) x p.0.place (inl (omega (arith, p.1))) refl refl refl refl (kept (steps.Head e))
    go (steps.Clear e) p x = publish_next heads base plan s m now (steps.Clear e) head (4 * b + 1 + e) x p.0.place (inr (omega arith)) refl refl refl refl (kept (steps.Clear e))
    go steps.Note p x = elim (cases_Bool s.bell) [
      | inl bell ↦ publish_next heads base plan s m now steps.Note head (4 * b + 1 + b) x p.place (inr (omega arith)) (ap not bell) refl refl refl refl
      | inr silent ↦ publish_last heads base plan s m now steps.Note head (4 * b + 1 + b) x p.place (omega arith) (ap not silent) refl refl refl refl
    ]
    go steps.Bell p x = elim p.1 [
      | inl starts ↦ runs_on x.run.runs.on starts.not_started
      | inr behind ↦ publish_last heads base plan s m now steps.Bell head (4 * b + 1 + (b + 1)) x behind.place (omega arith) x.run.runs.on refl refl refl refl
    ]
