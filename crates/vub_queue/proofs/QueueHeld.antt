-- What a queue keeps goes on to agree with the open heads.
use Rattle.std.proofs.Common.{◌≡◌, ◌<◌, ℕ, ◌+◌, ◌*◌, ◌%◌, zero, suc, Bool, true, false, not, List, [], ◌∷◌, ◌++◌, length, map, set, get_or, refl, ap, sym, ◌∙◌, subst, inl, inr, arith, nat_lt, cond, take}
use Rattle.std.specs.Prelude.{◌||◌, ◌&&◌, ◌==◌, remove, slice_get, Option, Some, option_map}
use Rattle.std.proofs.lemmas.Bool.{cases_eq}
use Rattle.std.proofs.lemmas.Bool.Decides.{nat_tests}
use Rattle.std.proofs.lemmas.List.{length-set, map-append, get_or-set_same, get_or-set_other}
use Rattle.std.proofs.lemmas.Option.{slice_get-map}
use Rattle.vub_device.specs.Past.{is_among}
use Rattle.vub_steps.specs.declared.steps.Phase.{Phase}
use Rattle.vub_steps.specs.declared.steps.Phase.TheVariants as phases
use Rattle.vub_steps.specs.declared.steps.Step.TheVariants as steps
use Rattle.vub_steps.specs.Rows.{Sight}
use Rattle.vub_ring.specs.Ring.{Ring}
use Rattle.vub_task.specs.declared.task.Task.{Task}
use Rattle.vub_task.specs.TaskState.{head_in, fresh_task}
use Rattle.vub_queue.specs.QueueParts.{is_taken, without_heads}
use Rattle.vub_queue.specs.QueueState as states
use Rattle.vub_queue.specs.QueueState.{QueueState, worked, done_at}
use Rattle.vub_facts.specs.Facts.{Words, heads_in, without, words_after}
use Rattle.vub_facts.specs.Held.{State, Held, state_after, completed_at, publication_begun}
use Rattle.vub_facts.proofs.HeldSteps.{held_words, held_like, held_accept, held_index, held_publication_begun, held_completed}
use Rattle.vub_queue.specs.QueueFacts.{hidden_part, hidden_in, held_in, KeepsHeads}

-- this used.idx, with any words beside it
abbrev pub words_with : ℕ → Words
words_with used = record {
  ring = record { avail = 0; heads = λ i. 0; used = used; elements = λ i. (0, 0) };
  region = record { version = 0; desc_num = 0; last_batch_head = 0; used_idx = 0; inflight = λ i. 0; next = λ i. 0; counter = λ i. 0 };
}

-- ---- a fetch

taken_more : (taken : List Bool) (head d : ℕ) → head < length taken → is_taken (set taken head true) d ≡ ((head == d) || is_taken taken d)
taken_more taken head d inside = elim (cases_eq head d) [
  | inl same ↦
      let there : get_or (set taken head true) head true ≡ true = get_or-set_same taken head true true inside in
      let here : get_or (set taken head true) d true ≡ true = ap (λ (i : ℕ). get_or (set taken head true) i true) (sym same) ∙ there in
      grind (arith, nat_tests)
  | inr apart ↦
      let other : get_or (set taken head true) d true ≡ get_or taken d true = get_or-set_other taken head d true true (λ e. apart (sym e)) in
      grind (arith, nat_tests)
]

-- the queue after a fetch, whose phase is over
abbrev pub fetched : ℕ → QueueState → QueueState
fetched head s = states.with_phase phases.Rest (states.accepted head s)

pub keeps_accepted : (r : Ring) (heads : List ℕ) (used : ℕ) (s : QueueState) (head : ℕ) → head < r.size → length s.taken ≡ r.size → is_taken s.taken head ≡ false → hidden_in s ≡ [] → KeepsHeads r.size heads used s → KeepsHeads r.size (heads ++ head ∷ []) used (fetched head s)
keeps_accepted r heads used s head low places free none x w at =
    held_like r.size (heads ++ head ∷ []) w (state_after steps.Accept head (held_in s)) (held_in (fetched head s)) refl (λ d inside. taken_more s.taken head d (omega (arith, low, places)))
    (map-append head_in s.unfinished (fresh_task head ∷ [])) (ap (λ (b : List (ℕ × ℕ)). heads_in (b ++ s.completed)) (sym none)) (held_accept r heads w (held_in s) head low free (x w at))

-- ---- a publication

-- at the begin of a publication all of its batch is hidden
pub all_hidden : (batch : List (ℕ × ℕ)) → hidden_part (phases.Publish 0) batch ≡ batch
all_hidden batch = let none : nat_lt (4 * length batch) 0 ≡ false = grind (arith, nat_tests) in ap (λ (b : Bool). cond b [] batch) none

pub keeps_begun : (n : ℕ) (heads : List ℕ) (used most : ℕ) (s : QueueState) → hidden_in s ≡ [] → KeepsHeads n heads used s → KeepsHeads n heads used (states.begun most s)
keeps_begun n heads used most s none x w at =
    let y : Held n heads w (held_in s) = x w at in
    let z : Held n heads w (publication_begun most (held_in s)) = held_publication_begun n heads w most (held_in s) none y in
    let all : hidden_in (states.begun most s) ≡ take most s.completed = all_hidden (take most s.completed) in
    subst (λ (bs : List (ℕ × ℕ)). Held n heads w (record (held_in (states.begun most s)) { batch = bs })) (sym all) z

-- one that hides the same, and changed in nothing else that matters
pub keeps_alike : (n : ℕ) (heads : List ℕ) (used : ℕ) (s : QueueState) (p : Phase) (c : ℕ) (f : Option ℕ) (b : List (ℕ × ℕ)) → hidden_part p b ≡ hidden_in s → KeepsHeads n heads used s → KeepsHeads n heads used (record s { phase = p; counter = c; fetching = f; batch = b })
keeps_alike n heads used s p c f b same x w at = subst (λ (bs : List (ℕ × ℕ)). Held n heads w (record (held_in s) { batch = bs })) (sym same) (x w at)

taken_less : (xs : List (ℕ × ℕ)) (taken : List Bool) (d : ℕ) → d < length taken → is_taken (without_heads xs taken) d ≡ (is_taken taken d && not (is_among (heads_in xs) d))
taken_less [] taken d low = grind (arith, nat_tests)
taken_less (x ∷ xs) taken d low =
    let rest : is_taken (without_heads xs (set taken x.0 false)) d ≡ (is_taken (set taken x.0 false) d && not (is_among (heads_in xs) d)) = taken_less xs (set taken x.0 false) d (omega (arith, low, length-set taken x.0 false)) in
    elim (cases_eq x.0 d) [
      | inl same ↦
          let freed : get_or (set taken x.0 false) x.0 true ≡ false = get_or-set_same taken x.0 false true (omega (arith, low, same)) in
          let here : get_or (set taken x.0 false) d true ≡ false = ap (λ (i : ℕ). get_or (set taken x.0 false) i true) (sym same) ∙ freed in
          grind (arith, nat_tests)
      | inr apart ↦
          let other : get_or (set taken x.0 false) d true ≡ get_or taken d true = get_or-set_other taken x.0 d false true (λ e. apart (sym e)) in
          grind (arith, nat_tests)
    ]

-- the queue whose batch is shown, so many steps into its publication
abbrev pub shown : ℕ → QueueState → QueueState
shown done s = record s { taken = without_heads s.batch s.taken; phase = phases.Publish done }

pub keeps_shown : (r : Ring) (heads : List ℕ) (used many done : ℕ) (s : QueueState) → used < 65536 → length s.taken ≡ r.size → hidden_in s ≡ s.batch → many ≡ (used + length s.batch) % 65536 → 4 * length s.batch < done → KeepsHeads r.size heads used s
    → KeepsHeads r.size (without (heads_in s.batch) heads) many (shown done s)
keeps_shown r heads used many done s fits places all is past x w at =
    let v : Words = record w { ring = record w.ring { used = used } } in
    let z : Sight = record { used = used; last_batch_head = 0; link = 0; head = 0; counter = 0; batch = s.batch } in
    let left : List ℕ = without (heads_in s.batch) heads in
    let h : State = record (held_in s) { batch = s.batch } in
    let before : Held r.size heads v h = subst (λ (bs : List (ℕ × ℕ)). Held r.size heads v (record (held_in s) { batch = bs })) all (x v refl) in
    let after : Held r.size left (words_after r z steps.Index v) (state_after steps.Index 0 h) = held_index r heads z v h 0 fits refl before in
    let none : hidden_in (shown done s) ≡ [] = grind (arith, nat_tests) in
    held_like r.size left w (state_after steps.Index 0 h) (held_in (shown done s)) refl (λ d low. taken_less s.batch s.taken d (omega (arith, low, places))) refl (ap (λ (b : List (ℕ × ℕ)). heads_in (b ++ s.completed)) none)
    (held_words r.size left w (words_after r z steps.Index v) (state_after steps.Index 0 h) (at ∙ is) after)

-- ---- work

heads_set : (xs : List Task) (place : ℕ) (next t : Task) → slice_get xs place ≡ Some t → head_in next ≡ head_in t → map head_in (set xs place next) ≡ map head_in xs
heads_set [] place next t there same = refl
heads_set (x ∷ xs) zero next t there same = let here : x ≡ t = cc in ap (λ (h : ℕ). h ∷ map head_in xs) (same ∙ ap head_in (sym here))
heads_set (x ∷ xs) (suc place) next t there same = ap (λ (hs : List ℕ). head_in x ∷ hs) (heads_set xs place next t there same)

heads_remove : (xs : List Task) (place : ℕ) → map head_in (remove xs place) ≡ remove (map head_in xs) place
heads_remove [] zero = refl
heads_remove [] (suc place) = refl
heads_remove (x ∷ xs) zero = refl
heads_remove (x ∷ xs) (suc place) = ap (λ (hs : List ℕ). head_in x ∷ hs) (heads_remove xs place)

pub keeps_worked : (n : ℕ) (heads : List ℕ) (used : ℕ) (s : QueueState) (place : ℕ) (next t : Task) (sector : List ℕ) → slice_get s.unfinished place ≡ Some t → head_in next ≡ head_in t → KeepsHeads n heads used s → KeepsHeads n heads used (worked place next sector s)
keeps_worked n heads used s place next t sector there same x w at =
    held_like n heads w (held_in s) (held_in (worked place next sector s)) refl (λ d low. refl) (heads_set s.unfinished place next t there same) refl (x w at)

pub keeps_done : (n : ℕ) (heads : List ℕ) (used : ℕ) (s : QueueState) (place len : ℕ) (t : Task) (sector : List ℕ) → slice_get s.unfinished place ≡ Some t → KeepsHeads n heads used s → KeepsHeads n heads used (done_at place (head_in t) len sector s)
keeps_done n heads used s place len t sector there x w at =
    let head : slice_get (map head_in s.unfinished) place ≡ Some (head_in t) = slice_get-map head_in s.unfinished place ∙ ap (option_map head_in) there in
    held_like n heads w (completed_at place (head_in t) len (held_in s)) (held_in (done_at place (head_in t) len sector s)) refl (λ d low. refl) (heads_remove s.unfinished place) refl
    (held_completed n heads w place (head_in t) len (held_in s) head (x w at))
