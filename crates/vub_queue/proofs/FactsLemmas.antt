-- What a step of a fetch or of a publication leaves of what a queue keeps.
use Rattle.std.proofs.Common.{◌≡◌, ◌≤◌, ◌<◌, ◌⊎◌, ℕ, ◌+◌, ◌*◌, ◌%◌, Bool, true, false, List, [], ◌∷◌, ◌++◌, length, cond, refl, ap, sym, ◌∙◌, subst, inl, inr, arith}
use Rattle.std.specs.Prelude.{Some, nat_lt}
use Rattle.std.proofs.lemmas.Bool.Decides.{nat_tests}
use Rattle.std.proofs.lemmas.List.{length-set}
use Rattle.vub_shared.specs.Bytes.{Bytes, word}
use Rattle.vub_ring.specs.Ring.{Ring, head_at}
use Rattle.vub_split.specs.Split.{used_idx_word, head_word}
use Rattle.vub_split.proofs.SplitLemmas.{head_is}
use Rattle.vub_steps.specs.declared.steps.Phase.{Phase}
use Rattle.vub_steps.specs.declared.steps.Phase.TheVariants as phases
use Rattle.vub_facts.specs.Facts.{Side, Words, words_at, heads_in, Lies, Facts, InFetching, InBatch, IsBuilt, BatchFacts, ElementsFit, IsInPhase, IsDue, course_in, head_next, heads_after, side_after, counted, next_counter_in, sight, words_after, after_row}
use Rattle.vub_facts.specs.Facts as facts
use Rattle.vub_queue.specs.QueueParts.{is_taken}
use Rattle.vub_queue.specs.QueueState.{QueueState}
use Rattle.vub_queue.specs.QueueFacts.{hidden_part, KeepsHeads, kept_head, ring_of, words_in, IsLaid, Keeps}
use Rattle.vub_queue.proofs.QueueHeld.{fetched, shown, keeps_accepted, keeps_alike, keeps_shown}
use Rattle.vub_queue.proofs.QueueLemmas.{length_without}

-- ---- the head that waits

same_entry : (r : Ring) (m : Bytes) (i : ℕ) → head_at r m (i % 65536) ≡ head_at r m i
same_entry r m i = ap (λ (e : ℕ). word 2 m r.avail_space (r.avail + (4 + 2 * (e % r.size)))) (omega arith)

-- the head at the avail index is the one that is fetched next
pub head_seen : (heads : List ℕ) (base : ℕ) (s : QueueState) (m : Bytes) → IsLaid base s → KeepsHeads s.ring.size heads (used_idx_word s.ring m) s → head_word s.ring m s.next_avail ≡ head_next heads (words_in s m)
head_seen heads base s m laid held =
    let index : ℕ = used_idx_word s.ring m + length heads in
    let at : s.next_avail ≡ index % 65536 = (held (words_in s m) refl).avail in
    ap (head_word s.ring m) at ∙ head_is s.ring m (index % 65536) laid.lies.size.laps ∙ same_entry (ring_of s) m index

-- ---- the part of a batch that isn't shown

-- the batch is hidden up to its index, and not behind it
pub hides : {A : Type 0} (batch : List A) (done : ℕ) → done ≤ 4 * length batch → hidden_part (phases.Publish done) batch ≡ batch
hides batch done before = let test : nat_lt (4 * length batch) done ≡ false = grind (arith, nat_tests) in ap (λ (b : Bool). cond b [] batch) test

pub shows : {A : Type 0} (batch : List A) (done : ℕ) → 4 * length batch < done → hidden_part (phases.Publish done) batch ≡ []
shows batch done past = let test : nat_lt (4 * length batch) done ≡ true = grind (arith, nat_tests) in ap (λ (b : Bool). cond b [] batch) test

-- a step of the publication that isn't the one which shows the batch lies on one side of it
abbrev pub IsAside : {A : Type 0} → List A → ℕ → Type 0
IsAside batch done = (done < 4 * length batch) ⊎ (4 * length batch < done)

pub hides_same : {A : Type 0} (batch : List A) (done : ℕ) → IsAside batch done → hidden_part (phases.Publish (done + 1)) batch ≡ hidden_part (phases.Publish done) batch
hides_same batch done (inl before) = hides batch (done + 1) (omega (arith, before)) ∙ sym (hides batch done (omega (arith, before)))
hides_same batch done (inr behind) = shows batch (done + 1) (omega (arith, behind)) ∙ sym (shows batch done (omega (arith, behind)))

-- ---- what a queue that runs keeps

-- it is started, and stands in its own phase
pub record Runs (heads : List ℕ) (used next : ℕ) (s : QueueState) : Type 0 where
  pub on : s.started ≡ true
  pub keeps : Keeps heads used next s.phase s
  pub places : length s.taken ≡ s.ring.size

-- a step of a publication that shows nothing goes on
pub still_on : (heads : List ℕ) (used next next' done : ℕ) (s : QueueState) → s.phase ≡ phases.Publish done → IsAside s.batch done → Runs heads used next s → Runs heads used next' (record s { phase = phases.Publish (done + 1) })
still_on heads used next next' done s at aside k = record {
  on = k.on;
  keeps = record {
    in_phase = k.on;
    kept = refl;
    fetching = k.keeps.fetching ∙ ap (λ (p : Phase). kept_head p next) at;
    held = keeps_alike s.ring.size heads used s (phases.Publish (done + 1)) s.counter s.fetching s.batch (hides_same s.batch done aside ∙ sym (ap (λ (p : Phase). hidden_part p s.batch) at)) k.keeps.held;
  };
  places = k.places;
}

-- or ends it
pub still_ends : (heads : List ℕ) (used next next' done : ℕ) (s : QueueState) → s.phase ≡ phases.Publish done → 4 * length s.batch < done → Runs heads used next s → Runs heads used next' (record s { phase = phases.Rest; batch = [] })
still_ends heads used next next' done s at behind k = record {
  on = k.on;
  keeps = record {
    in_phase = tt;
    kept = refl;
    fetching = k.keeps.fetching ∙ ap (λ (p : Phase). kept_head p next) at;
    held = keeps_alike s.ring.size heads used s phases.Rest s.counter s.fetching [] (sym (ap (λ (p : Phase). hidden_part p s.batch) at ∙ shows s.batch done behind)) k.keeps.held;
  };
  places = k.places;
}

-- the batch is shown
pub index_shows : (r : Ring) (heads : List ℕ) (used many next next' : ℕ) (s : QueueState) → r.size ≡ s.ring.size → used < 65536 → s.phase ≡ phases.Publish (4 * length s.batch) → many ≡ (used + length s.batch) % 65536 → Runs heads used next s
    → Runs (facts.without (heads_in s.batch) heads) many next' (shown (4 * length s.batch + 1) s)
index_shows r heads used many next next' s size fits at is k =
    let done : ℕ = 4 * length s.batch in record {
      on = k.on;
      keeps = record {
        in_phase = k.on;
        kept = refl;
        fetching = k.keeps.fetching ∙ ap (λ (p : Phase). kept_head p next) at;
        held = subst (λ (n : ℕ). KeepsHeads n (facts.without (heads_in s.batch) heads) many (shown (done + 1) s)) size
            (keeps_shown r heads used many (done + 1) s fits (k.places ∙ sym size) (ap (λ (p : Phase). hidden_part p s.batch) at ∙ hides s.batch done (omega arith)) is (omega arith) (subst (λ (n : ℕ). KeepsHeads n heads used s) (sym size) k.keeps.held));
      };
      places = length_without s.batch s.taken ∙ k.places;
    }

-- the head of a fetch is kept
pub count_keeps : (heads : List ℕ) (used next head : ℕ) (s : QueueState) → s.phase ≡ phases.Fetch 0 → head ≡ next → Runs heads used next s → Runs heads used next (record s { counter = s.counter + 1; fetching = Some head; phase = phases.Fetch 1 })
count_keeps heads used next head s at is k = record {
  on = k.on;
  keeps = record {
    in_phase = k.on;
    kept = refl;
    fetching = ap Some is;
    held = keeps_alike s.ring.size heads used s (phases.Fetch 1) (s.counter + 1) (Some head) s.batch (sym (ap (λ (p : Phase). hidden_part p s.batch) at)) k.keeps.held;
  };
  places = k.places;
}

-- and accepted
pub accept_keeps : (r : Ring) (heads : List ℕ) (used next next' head : ℕ) (s : QueueState) → r.size ≡ s.ring.size → s.phase ≡ phases.Fetch 1 → head < s.ring.size → is_taken s.taken head ≡ false → Runs heads used next s → Runs (heads ++ head ∷ []) used next' (fetched head s)
accept_keeps r heads used next next' head s size at low free k = record {
  on = k.on;
  keeps = record {
    in_phase = tt;
    kept = refl;
    fetching = refl;
    held = subst (λ (n : ℕ). KeepsHeads n (heads ++ head ∷ []) used (fetched head s)) size
        (keeps_accepted r heads used s head (omega (arith, low, size)) (k.places ∙ sym size) free (ap (λ (p : Phase). hidden_part p s.batch) at) (subst (λ (n : ℕ). KeepsHeads n heads used s) (sym size) k.keeps.held));
  };
  places = length-set s.taken head true ∙ k.places;
}
