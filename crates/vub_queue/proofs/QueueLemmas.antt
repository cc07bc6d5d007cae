-- What the steps of a queue keep.
use Rattle.std.proofs.Common.{◌≡◌, ◌<◌, ◌≤◌, ℕ, zero, suc, ◌+◌, ◌*◌, ◌%◌, Bool, true, false, ◌-◌, ◌/◌, List, [], ◌∷◌, ◌++◌, length, get_or, map, take, drop, min, inl, inr, refl, ap, sym, ◌∙◌, subst, arith}
use native.Mathlib.Numerals.{unary_clauses}
use Rattle.std.proofs.lemmas.Bool.Decides.{nat_tests}
use Rattle.std.proofs.lemmas.List.{take-map, drop-map, take_min, length-map, length-take-le, length-set, drop-append-le, take-append-le, map-append}
use Rattle.std.proofs.lemmas.Option.{slice_get-get_or, slice_get-map}
use Rattle.std.specs.Prelude.{remove, ◌&&◌, ◌||◌, ◌==◌, not, if◌then◌else◌, nat_lt, set, slice_get, is_some, option_map, Option, Some, None, ⊤}
use Rattle.std.proofs.lemmas.Bool.{cases_lt}
use Rattle.vub_base.specs.Told.{WhereTold}
use Rattle.vub_shared.specs.Bytes.{Bytes}
use Rattle.vub_shared.specs.Stores.{Store}
use Rattle.vub_steps.specs.declared.steps.Phase.{Phase}
use Rattle.vub_steps.specs.declared.steps.Phase.TheVariants.{Rest, Start, Fetch, Publish}
use Rattle.vub_steps.specs.declared.steps.Step.{Step}
use Rattle.vub_steps.specs.declared.steps.Step.TheVariants.{Count, Accept, Id, Len, Link, Head, Index, Clear, Note, Bell}
use Rattle.vub_steps.specs.Steps.{element_step, shown_step, publish_steps, running_steps, done_of, next_of, after_of}
use Rattle.vub_steps.specs.Readiness.{is_publication, is_fetch}
use Rattle.vub_task.specs.declared.task.Task.{Task}
use Rattle.vub_task.specs.declared.task.TaskStep as made
use Rattle.vub_task.specs.declared.task.TaskStep.TheVariants as answers
use Rattle.vub_steps.proofs.StepLemmas.{length_publish, in_element, past_elements}
use Rattle.vub_queue.specs.declared.queue.Completed.{Completed}
use Rattle.vub_queue.specs.declared.queue.Queue.{Queue}
use Rattle.vub_queue.specs.declared.queue.Stepped.{Stepped}
use Rattle.vub_queue.specs.declared.queue.Stepped.TheVariants as says
use Rattle.vub_queue.specs.QueueParts.{element, is_taken, taken_count, without_heads, elements_fit, phase_fits, head_fits, shown_of}
use Rattle.vub_queue.specs.QueueState.{QueueState, state_of, publishes, Unless, worked, done_at, HasHead, Works, StepsAt, StepsOut, WorksOut, IfStepped, Advances, concluded, said, sector_at, IsDue, Rests, halted}
use Rattle.vub_task.specs.TaskState.{Making, IfMade, HasMade, LooksAt, answer_in, answer_to, memory_after, values_after, store_in, with_maybe, head_in}
use Rattle.vub_steps.specs.Tasks as Tasks
use Rattle.vub_task.proofs.ArmLemmas.{next_still}
use Rattle.vub_base.specs.declared.header.Header1.{Header1}
use Rattle.vub_device.specs.declared.entry.Asked.{Asked}
use Rattle.vub_steps.specs.Tasks.{status_of, used_len}
use Rattle.vub_disk.specs.Values.{Values}

-- heads that lie in the table, and lengths that are 32-bit numbers
pub below_first : (size : ℕ) (x : Completed) (xs : List Completed) → elements_fit size (x ∷ xs) ≡ true → x.head < size
below_first size x xs h = grind (arith, nat_tests)

pub len_first : (size : ℕ) (x : Completed) (xs : List Completed) → elements_fit size (x ∷ xs) ≡ true → x.len < 4294967296
len_first size x xs h = grind (arith, nat_tests)

pub below_rest : (size : ℕ) (x : Completed) (xs : List Completed) → elements_fit size (x ∷ xs) ≡ true → elements_fit size xs ≡ true
below_rest size x xs h = grind (arith, nat_tests)

pub below_more : (size : ℕ) (xs : List Completed) (x : Completed) → elements_fit size xs ≡ true → x.head < size → x.len < 4294967296 → elements_fit size (xs ++ x ∷ []) ≡ true
below_more size [] x h fits long = grind (arith, nat_tests)
below_more size (y ∷ ys) x h fits long = grind (arith, nat_tests, below_more size ys x)

pub below_drop : (size n : ℕ) (xs : List Completed) → elements_fit size xs ≡ true → elements_fit size (drop n xs) ≡ true
below_drop size zero xs h = h
below_drop size (suc n) [] h = refl
below_drop size (suc n) (x ∷ xs) h = below_drop size n xs (below_rest size x xs h)

pub below_take : (size n : ℕ) (xs : List Completed) → elements_fit size xs ≡ true → elements_fit size (take n xs) ≡ true
below_take size zero xs h = refl
below_take size (suc n) [] h = refl
below_take size (suc n) (x ∷ xs) h = grind (arith, nat_tests, below_take size n xs)

-- that of an element
pub below_at : (size : ℕ) (xs : List Completed) (i : ℕ) (x : Completed) → elements_fit size xs ≡ true → slice_get (map element xs) i ≡ Some (element x) → x.head < size
below_at size [] zero x h at = absurd (cc at)
below_at size [] (suc i) x h at = absurd (cc at)
below_at size (y ∷ ys) zero x h at =
    let same : element y ≡ element x = cc at in
    subst (λ (k : ℕ). k < size) (ap (λ (p : ℕ × ℕ). p.0) same) (below_first size y ys h)
below_at size (y ∷ ys) (suc i) x h at = below_at size ys i x (below_rest size y ys h) at

-- one more head is taken
pub count_taken : (taken : List Bool) (head : ℕ) → is_taken taken head ≡ false → taken_count (set taken head true) ≡ taken_count taken + 1
count_taken [] head free = grind arith
count_taken (true ∷ xs) zero free = grind arith
count_taken (false ∷ xs) zero free = refl
count_taken (true ∷ xs) (suc head) free = ap (λ n. n + 1) (count_taken xs head free)
count_taken (false ∷ xs) (suc head) free = count_taken xs head free

pub count_fits : (taken : List Bool) → taken_count taken ≤ length taken
count_fits [] = omega arith
count_fits (true ∷ xs) = omega (arith, count_fits xs)
count_fits (false ∷ xs) = omega (arith, count_fits xs)

-- one that isn't taken is left to take
pub count_free : (taken : List Bool) (head : ℕ) → is_taken taken head ≡ false → taken_count taken < length taken
count_free [] head free = grind arith
count_free (true ∷ xs) zero free = grind arith
count_free (false ∷ xs) zero free = omega (arith, count_fits xs)
count_free (true ∷ xs) (suc head) free = omega (arith, count_free xs head free)
count_free (false ∷ xs) (suc head) free = omega (arith, count_free xs head free)

pub count_set : (taken : List Bool) (head : ℕ) → taken_count taken ≤ taken_count (set taken head false) + 1
count_set [] head = omega arith
count_set (true ∷ xs) zero = omega arith
count_set (false ∷ xs) zero = omega arith
count_set (true ∷ xs) (suc head) = omega (arith, count_set xs head)
count_set (false ∷ xs) (suc head) = omega (arith, count_set xs head)

pub length_without : (xs : List (ℕ × ℕ)) (taken : List Bool) → length (without_heads xs taken) ≡ length taken
length_without [] taken = refl
length_without (x ∷ xs) taken = length_without xs (set taken x.0 false) ∙ length-set taken x.0 false

-- no more heads come free than are released
pub count_released : (xs : List (ℕ × ℕ)) (taken : List Bool) → taken_count taken ≤ taken_count (without_heads xs taken) + length xs
count_released [] taken = omega arith
count_released (x ∷ xs) taken = omega (arith, count_set taken x.0, count_released xs (set taken x.0 false))

both_first : (a b : Bool) → a && b ≡ true → a ≡ true
both_first true b is = refl
both_first false b is = is

-- ---- elements of a batch

pub element_at : (xs : List Completed) (i : ℕ) (d : Completed) → i < length xs → slice_get (map element xs) i ≡ Some (element (get_or xs i d))
element_at xs i d below = slice_get-map element xs i ∙ ap (option_map element) (slice_get-get_or xs i d below)

pub length_batch : (n : ℕ) (xs : List Completed) → n ≤ length xs → length (map element (take n xs)) ≡ n
length_batch n xs few = length-map (take n xs) element ∙ length-take-le n xs few

pub count_is : (q : Queue) → length (state_of q).batch ≡ q.batch
count_is q = length_batch q.batch q.completed.items (omega (arith, q.batched))

pub batch_fits : (q : Queue) → phase_fits q.phase (length (state_of q).batch) q.bell q.started ≡ true
batch_fits q = ap (λ (n : ℕ). phase_fits q.phase n q.bell q.started) (count_is q) ∙ q.fits

-- the first elements, at most so many
pub first_elements : (xs : List Completed) (n most : ℕ) → n ≡ min most (length xs) → map element (take n xs) ≡ take most (map element xs)
first_elements xs n most is = ap (λ k. map element (take k xs)) is ∙ ap (map element) (take_min most xs) ∙ sym (take-map element most xs)

drop_none : (n : ℕ) → drop {A = Completed} n [] ≡ []
drop_none zero = refl
drop_none (suc n) = refl

drop_min : (xs : List Completed) (most : ℕ) → drop (min most (length xs)) xs ≡ drop most xs
drop_min [] most = drop_none (min most 0) ∙ sym (drop_none most)
drop_min (x ∷ xs) zero = simp unary_clauses refl
drop_min (x ∷ xs) (suc most) = simp unary_clauses (drop_min xs most)

pub other_elements : (xs : List Completed) (n most : ℕ) → n ≡ min most (length xs) → map element (drop n xs) ≡ drop most (map element xs)
other_elements xs n most is = ap (λ k. map element (drop k xs)) is ∙ ap (map element) (drop_min xs most) ∙ sym (drop-map element most xs)

-- ---- steps and phases

-- a step of a publication of so many elements: which element, and how many steps come before it
abbrev pub Stands : ℕ → ℕ → Step → Type 0
Stands n done (Id e) = (e < n) × (done < 4 * n)
Stands n done (Len e) = (e < n) × (done < 4 * n)
Stands n done (Link e) = (e < n) × (done < 4 * n)
Stands n done (Head e) = (e < n) × (done < 4 * n)
Stands n done Index = done ≡ 4 * n
Stands n done (Clear e) = (e < n) × (4 * n < done)
Stands n done Note = 4 * n < done
Stands n done Bell = 4 * n < done
Stands n done step = ⊥

element_stands : (k e n done : ℕ) → e < n → done < 4 * n → Stands n done (element_step k e)
element_stands zero e n done below early = (below, early)
element_stands (suc zero) e n done below early = (below, early)
element_stands (suc (suc zero)) e n done below early = (below, early)
element_stands (suc (suc (suc k))) e n done below early = (below, early)

abbrev StandsIf : ℕ → ℕ → Option Step → Type 0
StandsIf n done None = ⊤
StandsIf n done (Some step) = Stands n done step

shown_stands : (n : ℕ) (bell : Bool) (place done : ℕ) → done ≡ 4 * n + place → StandsIf n done (shown_step n bell place)
shown_stands n bell zero done at = omega (arith, at)
shown_stands n bell (suc place) done at = go (nat_lt place n) refl (place == n) (bell && (place == n + 1))
  where
    late : 4 * n < done
    late = omega (arith, at)

    go : (t : Bool) → nat_lt place n ≡ t → (u v : Bool) → StandsIf n done (if t then Some (Clear place) else if u then Some Note else if v then Some Bell else None)
    go true low u v = (grind (arith, nat_tests, low), late)
    go false low true v = late
    go false low false true = late
    go false low false false = tt

stands_in : (n : ℕ) (bell : Bool) (done : ℕ) → StandsIf n done (slice_get (publish_steps n bell) done)
stands_in n bell done = elim (cases_lt done (4 * n)) [
  | inl below ↦ subst (StandsIf n done) (sym (in_element n bell done below)) (element_stands (done % 4) (done / 4) n done (omega (arith, below)) below)
  | inr past ↦ subst (StandsIf n done) (sym (past_elements n bell done past)) (shown_stands n bell (done - 4 * n) done (omega (arith, past)))
]

-- whether a step is one of a publication
abbrev pub of_publication : Step → Bool
of_publication Count = false
of_publication Accept = false
of_publication step = true

-- it stands in the publication that is under way
pub record StandsAt (n : ℕ) (p : Phase) (step : Step) : Type 0 where
  pub going : is_publication p ≡ true
  pub stands : Stands n (done_of p) step

some_same : (x y : Step) → Some x ≡ Some y → x ≡ y
some_same x y is = cc is

pub stands_at : (n : ℕ) (bell : Bool) (p : Phase) (step : Step) → of_publication step ≡ true → next_of (running_steps n bell p) p ≡ Some step → StandsAt n p step
stands_at n bell Rest step of is = absurd (cc is)
stands_at n bell (Start zero) step of is = absurd (cc is)
stands_at n bell (Start (suc done)) step of is = absurd (cc is)
stands_at n bell (Fetch zero) step of is = absurd (let e : false ≡ true = ap of_publication (some_same Count step is) ∙ of in cc e)
stands_at n bell (Fetch (suc zero)) step of is = absurd (let e : false ≡ true = ap of_publication (some_same Accept step is) ∙ of in cc e)
stands_at n bell (Fetch (suc (suc done))) step of is = absurd (cc is)
stands_at n bell (Publish done) step of is = record { going = refl; stands = subst (StandsIf n done) is (stands_in n bell done) }

-- a publication has a next step
some_step : (n : ℕ) (bell : Bool) (done : ℕ) (o : Option Step) → slice_get (publish_steps n bell) done ≡ o → done < length (publish_steps n bell) → is_some o ≡ true
some_step n bell done o is within =
    ap is_some (sym is ∙ slice_get-get_or (publish_steps n bell) done Note within)

pub step_left : (n : ℕ) (bell : Bool) (p : Phase) (started : Bool) → phase_fits p n bell started ≡ true → is_publication p ≡ true → is_some (next_of (running_steps n bell p) p) ≡ true
step_left n bell Rest started fits goes = absurd (cc goes)
step_left n bell (Start done) started fits goes = absurd (cc goes)
step_left n bell (Fetch done) started fits goes = absurd (cc goes)
step_left n bell (Publish done) started fits goes =
    let within : nat_lt done (length (publish_steps n bell)) ≡ true = both_first (nat_lt done (length (publish_steps n bell))) started fits in
    some_step n bell done (slice_get (publish_steps n bell) done) refl (grind (arith, nat_tests, within))

pub no_step : (n : ℕ) (bell : Bool) (p : Phase) (step : Step) → is_publication p ≡ true → next_of (running_steps n bell p) p ≡ Some step → Stands n (done_of p) step
no_step n bell Rest step goes is = absurd (cc goes)
no_step n bell (Start done) step goes is = absurd (cc goes)
no_step n bell (Fetch done) step goes is = absurd (cc goes)
no_step n bell (Publish done) step goes is = subst (StandsIf n done) is (stands_in n bell done)

-- ---- the phase after a step

-- a publication that goes on is within its steps
fits_if : (t : Bool) (done n : ℕ) (bell started : Bool) → started ≡ true → nat_lt (done + 1) (length (publish_steps n bell)) ≡ t → is_publication (if t then Publish (done + 1) else Rest) ≡ true → phase_fits (if t then Publish (done + 1) else Rest) n bell started ≡ true
fits_if true done n bell started is more goes = ap (λ (t : Bool). t && started) more ∙ is
fits_if false done n bell started is more goes = absurd (cc goes)

both_second : (a b : Bool) → a && b ≡ true → b ≡ true
both_second true b is = is
both_second false b is = absurd (cc is)

pub fits_after : (p : Phase) (n : ℕ) (bell started : Bool) → phase_fits p n bell started ≡ true → is_publication p ≡ true → is_publication (after_of (running_steps n bell p) p) ≡ true → phase_fits (after_of (running_steps n bell p) p) n bell started ≡ true
fits_after Rest n bell started fits was goes = absurd (cc was)
fits_after (Start done) n bell started fits was goes = absurd (cc was)
fits_after (Fetch done) n bell started fits was goes = absurd (cc was)
fits_after (Publish done) n bell started fits was goes =
    fits_if (nat_lt (done + 1) (length (publish_steps n bell))) done n bell started (both_second (nat_lt done (length (publish_steps n bell))) started fits) refl goes

-- it ends behind the store of used.idx
ends_if : (t : Bool) (done n : ℕ) (bell : Bool) → nat_lt (done + 1) (length (publish_steps n bell)) ≡ t → is_publication (if t then Publish (done + 1) else Rest) ≡ false → (4 * n < done) × ((if t then Publish (done + 1) else Rest) ≡ Rest)
ends_if true done n bell more ends = absurd (cc ends)
ends_if false done n bell more ends =
    let past : length (publish_steps n bell) ≤ done + 1 = grind (arith, nat_tests, more) in
    (omega (arith, past, length_publish n bell), refl)

pub ends_shown : (p : Phase) (n : ℕ) (bell : Bool) → is_publication p ≡ true → is_publication (after_of (running_steps n bell p) p) ≡ false → (4 * n < done_of p) × (after_of (running_steps n bell p) p ≡ Rest)
ends_shown Rest n bell was ends = absurd (cc was)
ends_shown (Start done) n bell was ends = absurd (cc was)
ends_shown (Fetch done) n bell was ends = absurd (cc was)
ends_shown (Publish done) n bell was ends = ends_if (nat_lt (done + 1) (length (publish_steps n bell))) done n bell refl ends

-- what is shown stays so
shown_more : (t : Bool) (done n : ℕ) → is_publication (if t then Publish (done + 1) else Rest) ≡ true → shown_of (Publish done) n ≤ shown_of (if t then Publish (done + 1) else Rest) n
shown_more false done n goes = absurd (cc goes)
shown_more true done n goes = go (nat_lt (4 * n) done) refl (nat_lt (4 * n) (done + 1)) refl
  where
    go : (u : Bool) → nat_lt (4 * n) done ≡ u → (v : Bool) → nat_lt (4 * n) (done + 1) ≡ v → (if u then n else 0) ≤ (if v then n else 0)
    go false a v b = omega arith
    go true a true b = omega arith
    go true a false b = absurd (let low : 4 * n < done = grind (arith, nat_tests, a) in let high : done + 1 ≤ 4 * n = grind (arith, nat_tests, b) in omega (arith, low, high))

pub shown_on : (p : Phase) (n : ℕ) (bell : Bool) → is_publication p ≡ true → is_publication (after_of (running_steps n bell p) p) ≡ true → shown_of p n ≤ shown_of (after_of (running_steps n bell p) p) n
shown_on Rest n bell was goes = absurd (cc was)
shown_on (Start done) n bell was goes = absurd (cc was)
shown_on (Fetch done) n bell was goes = absurd (cc was)
shown_on (Publish done) n bell was goes = shown_more (nat_lt (done + 1) (length (publish_steps n bell))) done n goes

-- all of the batch, behind the store of used.idx
pub shown_all : (p : Phase) (n : ℕ) → is_publication p ≡ true → 4 * n < done_of p → shown_of p n ≡ n
shown_all Rest n was late = absurd (cc was)
shown_all (Start done) n was late = absurd (cc was)
shown_all (Fetch done) n was late = absurd (cc was)
shown_all (Publish done) n was late =
    let past : nat_lt (4 * n) done ≡ true = grind (arith, nat_tests, late) in
    ap (λ (t : Bool). if t then n else 0) past

-- the store of used.idx shows the batch, and isn't the last step
pub record Shows (n : ℕ) (bell : Bool) (p : Phase) : Type 0 where
  pub none_before : shown_of p n ≡ 0
  pub all_after : shown_of (after_of (running_steps n bell p) p) n ≡ n
  pub goes : is_publication (after_of (running_steps n bell p) p) ≡ true

pub index_shows : (n : ℕ) (bell : Bool) (p : Phase) → is_publication p ≡ true → done_of p ≡ 4 * n → Shows n bell p
index_shows n bell Rest was at = absurd (cc was)
index_shows n bell (Start done) was at = absurd (cc was)
index_shows n bell (Fetch done) was at = absurd (cc was)
index_shows n bell (Publish done) was at =
    let more : nat_lt (done + 1) (length (publish_steps n bell)) ≡ true = let low : done + 1 < length (publish_steps n bell) = omega (arith, at, length_publish n bell) in grind (arith, nat_tests, low) in
    let early : nat_lt (4 * n) done ≡ false = let low : done ≤ 4 * n = omega (arith, at) in grind (arith, nat_tests, low) in
    let late : nat_lt (4 * n) (done + 1) ≡ true = let low : 4 * n < done + 1 = omega (arith, at) in grind (arith, nat_tests, low) in
    let after : after_of (publish_steps n bell) (Publish done) ≡ Publish (done + 1) = ap (λ (t : Bool). if t then Publish (done + 1) else Rest) more in
    record {
      none_before = ap (λ (t : Bool). if t then n else 0) early;
      all_after = ap (λ (q : Phase). shown_of q n) after ∙ ap (λ (t : Bool). if t then n else 0) late;
      goes = ap is_publication after;
    }

-- ---- phases that fit

pub rests : (p : Phase) (n : ℕ) (bell started : Bool) → phase_fits p n bell started ≡ true → is_publication p ≡ false → is_fetch p ≡ false → p ≡ Rest
rests Rest n bell started fits a b = refl
rests (Start done) n bell started fits a b = absurd (cc fits)
rests (Fetch done) n bell started fits a b = absurd (cc b)
rests (Publish done) n bell started fits a b = absurd (cc a)

pub rest_batch : (p : Phase) (n : ℕ) (bell started : Bool) → phase_fits p n bell started ≡ true → is_publication p ≡ false → n ≡ 0
rest_batch Rest n bell started fits a = grind (arith, nat_tests, fits)
rest_batch (Start done) n bell started fits a = absurd (cc fits)
rest_batch (Fetch done) n bell started fits a = go (done == 1) (n == 0) refl fits
  where
    go : (t u : Bool) → (n == 0) ≡ u → t && u && started ≡ true → n ≡ 0
    go true true e h = grind (arith, nat_tests, e)
    go true false e h = absurd (cc h)
    go false u e h = absurd (cc h)
rest_batch (Publish done) n bell started fits a = absurd (cc a)

pub first_step_left : (n : ℕ) (bell started : Bool) → started ≡ true → phase_fits (Publish 0) n bell started ≡ true
first_step_left n bell started is =
    let within : nat_lt 0 (length (publish_steps n bell)) ≡ true = let low : 0 < length (publish_steps n bell) = omega (arith, length_publish n bell) in grind (arith, nat_tests, low) in
    ap (λ (t : Bool). t && started) within ∙ is

-- a head is kept in a fetch, before its second step, and is free
pub record Kept (p : Phase) (n head size : ℕ) (taken : List Bool) : Type 0 where
  pub phase : p ≡ Fetch 1
  pub no_batch : n ≡ 0
  pub below : head < size
  pub free : is_taken taken head ≡ false

not_true : (b : Bool) → not b ≡ true → b ≡ false
not_true true is = absurd (cc is)
not_true false is = refl

kept_in : (p : Phase) (n : ℕ) (bell started : Bool) (head size : ℕ) (taken : List Bool) → phase_fits p n bell started ≡ true → head_fits p (Some head) size taken ≡ true → Kept p n head size taken
kept_in Rest n bell started head size taken fits kept = absurd (cc kept)
kept_in (Start done) n bell started head size taken fits kept = absurd (cc kept)
kept_in (Publish done) n bell started head size taken fits kept = absurd (cc kept)
kept_in (Fetch done) n bell started head size taken fits kept = record {
  phase = ap (λ (k : ℕ). Fetch k) (let one : (done == 1) ≡ true = both_first (done == 1) (n == 0) (both_first ((done == 1) && (n == 0)) started fits) in grind (arith, nat_tests, one));
  no_batch = rest_batch (Fetch done) n bell started fits refl;
  below = let low : nat_lt head size ≡ true = both_first (nat_lt head size) (not (is_taken taken head)) kept in grind (arith, nat_tests, low);
  free = not_true (is_taken taken head) (both_second (nat_lt head size) (not (is_taken taken head)) kept);
}

pub kept_at : (p : Phase) (n : ℕ) (bell started : Bool) (o : Option ℕ) (head size : ℕ) (taken : List Bool) → o ≡ Some head → phase_fits p n bell started ≡ true → head_fits p o size taken ≡ true → Kept p n head size taken
kept_at p n bell started o head size taken is fits kept = kept_in p n bell started head size taken fits (subst (λ (x : Option ℕ). head_fits p x size taken ≡ true) is kept)

-- without a head no fetch is under way
pub no_fetch : (p : Phase) (o : Option ℕ) (size : ℕ) (taken : List Bool) → o ≡ None → head_fits p o size taken ≡ true → is_fetch p ≡ false
no_fetch p o size taken is kept = go p (subst (λ (x : Option ℕ). head_fits p x size taken ≡ true) is kept)
  where
    go : (p : Phase) → head_fits p None size taken ≡ true → is_fetch p ≡ false
    go Rest h = refl
    go (Start done) h = refl
    go (Fetch done) h = absurd (cc h)
    go (Publish done) h = refl

-- outside of a fetch no head is kept
pub none_kept : (p : Phase) (o : Option ℕ) (size : ℕ) (taken : List Bool) → is_fetch p ≡ false → head_fits p o size taken ≡ true → o ≡ None
none_kept (Fetch done) o size taken was h = absurd (cc was)
none_kept Rest None size taken was h = refl
none_kept Rest (Some head) size taken was h = absurd (cc h)
none_kept (Start done) None size taken was h = refl
none_kept (Start done) (Some head) size taken was h = absurd (cc h)
none_kept (Publish done) None size taken was h = refl
none_kept (Publish done) (Some head) size taken was h = absurd (cc h)

pub no_head : (p q : Phase) (o : Option ℕ) (size : ℕ) (taken after : List Bool) → is_fetch p ≡ false → is_fetch q ≡ false → head_fits p o size taken ≡ true → head_fits q o size after ≡ true
no_head p q o size taken after was is kept = subst (λ (x : Option ℕ). head_fits q x size after ≡ true) (sym (none_kept p o size taken was kept)) (none_fits q is)
  where
    none_fits : (q : Phase) → is_fetch q ≡ false → head_fits q None size after ≡ true
    none_fits Rest is = refl
    none_fits (Start done) is = refl
    none_fits (Fetch done) is = absurd (cc is)
    none_fits (Publish done) is = refl

pub publishes_no_fetch : (p : Phase) → is_publication p ≡ true → is_fetch p ≡ false
publishes_no_fetch Rest is = refl
publishes_no_fetch (Start done) is = refl
publishes_no_fetch (Fetch done) is = absurd (cc is)
publishes_no_fetch (Publish done) is = refl

-- ---- a publication that is ready

pub ready_started : (q : QueueState) (most : ℕ) → publishes most q ≡ true → q.started ≡ true
ready_started q most ready =
    let b : Bool = not (is_fetch q.phase) in
    both_first q.started b (both_first (q.started && b) (is_publication q.phase || (nat_lt 0 most && nat_lt 0 (length q.completed))) ready)

pub ready_rests : (q : QueueState) (most : ℕ) → publishes most q ≡ true → is_fetch q.phase ≡ false
ready_rests q most ready =
    let b : Bool = not (is_fetch q.phase) in
    not_true (is_fetch q.phase) (both_second q.started b (both_first (q.started && b) (is_publication q.phase || (nat_lt 0 most && nat_lt 0 (length q.completed))) ready))

-- ---- turns

pub unless : (b : Bool) (P : Type 0) → P → Unless b P
unless true P p = tt
unless false P p = p

-- ---- work

-- a task of a place was changed before it is removed
pub remove_set : (xs : List Task) (i : ℕ) (x : Task) → remove (set xs i x) i ≡ remove xs i
remove_set [] zero x = refl
remove_set [] (suc i) x = refl
remove_set (y ∷ ys) zero x = refl
remove_set (y ∷ ys) (suc i) x = ap (λ zs. y ∷ zs) (remove_set ys i x)

pub completed_more : (n : ℕ) (xs : List Completed) (x : Completed) → n ≤ length xs → map element (drop n (xs ++ x ∷ [])) ≡ map element (drop n xs) ++ element x ∷ []
completed_more n xs x few = ap (map element) (drop-append-le n xs (x ∷ []) few) ∙ map-append element (drop n xs) (x ∷ [])

pub batch_still : (n : ℕ) (xs : List Completed) (x : Completed) → n ≤ length xs → map element (take n (xs ++ x ∷ [])) ≡ map element (take n xs)
batch_still n xs x few = ap (map element) (take-append-le n xs (x ∷ []) few)

-- the status of a task that was changed completes it
pub ends_at : (place head len : ℕ) (task : Task) (sector : List ℕ) (s u : QueueState) → head_in task ≡ head → u ≡ worked place task sector s → (status : ℕ) → concluded place head (answers.Done status len) u ≡ done_at place head len sector s
ends_at place head len task sector s u same is status =
    ap (concluded place head (answers.Done status len)) is
    ∙ ap (λ (ts : List Task). record (done_at place (head_in task) len sector s) { unfinished = ts; completed = s.completed ++ (head, len) ∷ [] }) (remove_set s.unfinished place task)
    ∙ ap (λ (k : ℕ). record (done_at place k len sector s) { completed = s.completed ++ (head, len) ∷ [] }) same

pub task_there : (xs : List Task) (place : ℕ) → place < length xs → (task : Task) × (slice_get xs place ≡ Some task)
task_there [] place below = absurd (omega (arith, below))
task_there (x ∷ xs) zero below = (x, refl)
task_there (x ∷ xs) (suc place) below = task_there xs place (omega (arith, below))

-- the step of a request and its end, where nothing is said of the step but that it is that of this head
pub works_if : (place head : ℕ) (step : made.TaskStep) (s u t : QueueState) → HasHead place head s → StepsAt place (Some (head, step)) s u → t ≡ concluded place head step u → Works place (said head step) s t
works_if place head step s u t has steps is = go step steps is
  where
    kept : (next : Task) → head_in next ≡ head → HasHead place (head_in next) s
    kept next same = subst (λ (k : ℕ). HasHead place k s) (sym same) has

    go : (step : made.TaskStep) → StepsAt place (Some (head, step)) s u → t ≡ concluded place head step u → Works place (said head step) s t
    go (answers.Stored tag) h is = inr (h.0, h.1, kept h.0 h.2, is ∙ h.3)
    go (answers.Looked sector) h is = inr (h.0, h.1, kept h.0 h.2, is ∙ h.3)
    go (answers.Acted sector) h is = inr (h.0, h.1, kept h.0 h.2, is ∙ h.3)
    go answers.Synced h is = inr (h.0, h.1, kept h.0 h.2, is ∙ h.3)
    go answers.Faulted h is = inr (h.0, h.1, kept h.0 h.2, is ∙ h.3)
    go (answers.Broken fault) h is = inr (h.0, h.1, kept h.0 h.2, is ∙ h.3)
    go answers.Failed h is = inr (h.0, h.1, kept h.0 h.2, is ∙ h.3)
    go (answers.Done status len) h is = (len, h.1, has, is ∙ ends_at place head len h.0 h.1 s u h.2 h.3 status)

-- a fact about what a task made is one about what the turn made
pub stepped_if : (P : made.TaskStep → Type 0) (Q : Type 0) (head : ℕ) (step : made.TaskStep) → (P step → Q) → IfMade (Some step) P → IfStepped (said head step) Q
stepped_if P Q head (answers.Stored tag) f h = f h
stepped_if P Q head (answers.Looked sector) f h = f h
stepped_if P Q head (answers.Acted sector) f h = f h
stepped_if P Q head answers.Synced f h = f h
stepped_if P Q head answers.Faulted f h = h
stepped_if P Q head (answers.Broken fault) f h = f h
stepped_if P Q head answers.Failed f h = h
stepped_if P Q head (answers.Done status len) f h = f h

made_both : (P Q : made.TaskStep → Type 0) (o : Option made.TaskStep) → IfMade o P → IfMade o Q → IfMade o (λ s. P s × Q s)
made_both P Q None p q = p
made_both P Q (Some (answers.Stored tag)) p q = (p, q)
made_both P Q (Some (answers.Looked s)) p q = (p, q)
made_both P Q (Some (answers.Acted s)) p q = (p, q)
made_both P Q (Some answers.Synced) p q = (p, q)
made_both P Q (Some answers.Faulted) p q = tt
made_both P Q (Some (answers.Done status len)) p q = (p, q)
made_both P Q (Some (answers.Broken fault)) p q = (p, q)
made_both P Q (Some answers.Failed) p q = tt

made_three : (P Q R : made.TaskStep → Type 0) (o : Option made.TaskStep) → IfMade o P → IfMade o Q → IfMade o R → IfMade o (λ s. P s × Q s × R s)
made_three P Q R None p q r = p
made_three P Q R (Some (answers.Stored tag)) p q r = (p, q, r)
made_three P Q R (Some (answers.Looked s)) p q r = (p, q, r)
made_three P Q R (Some (answers.Acted s)) p q r = (p, q, r)
made_three P Q R (Some answers.Synced) p q r = (p, q, r)
made_three P Q R (Some answers.Faulted) p q r = tt
made_three P Q R (Some (answers.Done status len)) p q r = (p, q, r)
made_three P Q R (Some (answers.Broken fault)) p q r = (p, q, r)
made_three P Q R (Some answers.Failed) p q r = tt

made_then : (P : made.TaskStep → Type 0) (R : Type 0) (step : made.TaskStep) → (P step → R) → IfMade (Some step) P → IfMade (Some step) (λ x. R)
made_then P R (answers.Stored tag) f h = f h
made_then P R (answers.Looked s) f h = f h
made_then P R (answers.Acted s) f h = f h
made_then P R answers.Synced f h = f h
made_then P R answers.Faulted f h = h
made_then P R (answers.Done status len) f h = f h
made_then P R (answers.Broken fault) f h = f h
made_then P R answers.Failed f h = h

some_pair : (p q : ℕ × made.TaskStep) → Some p ≡ Some q → p ≡ q
some_pair p q h = cc h

-- the step of a task, in its queue
pub steps_out : (place head : ℕ) (task next : Task) (n : Making) (m : Bytes) (told : Option Bytes) (trail trail_after : Option (List Store)) (v v_after : Option Values) (step : made.TaskStep) (sector after : List ℕ) (s t : QueueState)
    → head ≡ head_in task → head_in next ≡ head_in task → sector ≡ sector_at s (head_in task) → t ≡ worked place next after s
    → IfMade (Some step) (λ x. x ≡ answer_in n) → IfMade (Some step) (λ x. HasMade s.ring n next) → IfMade (Some step) (λ x. WhereTold v (λ u. LooksAt n u after))
    → IfMade (Some step) (λ x. told ≡ Some (memory_after s.ring n sector m)) → IfMade (Some step) (λ x. trail_after ≡ option_map (with_maybe (store_in s.ring n sector)) trail) → IfMade (Some step) (λ x. v_after ≡ option_map (values_after n.request n.step) v)
    → IfMade (Some step) (λ x. StepsOut place task n m told trail trail_after v v_after (Some (head, step)) s t)
steps_out place head task next n m told trail trail_after v v_after step sector after s t same still is state answer goes_on looks stores trails values =
    let A : made.TaskStep → Type 0 = λ x. x ≡ answer_in n in
    let B : made.TaskStep → Type 0 = λ x. HasMade s.ring n next in
    let C : made.TaskStep → Type 0 = λ x. WhereTold v (λ u. LooksAt n u after) in
    let D : made.TaskStep → Type 0 = λ x. told ≡ Some (memory_after s.ring n sector m) in
    let E : made.TaskStep → Type 0 = λ x. trail_after ≡ option_map (with_maybe (store_in s.ring n sector)) trail in
    let F : made.TaskStep → Type 0 = λ x. v_after ≡ option_map (values_after n.request n.step) v in
    let G : made.TaskStep → Type 0 = λ x. A x × B x × C x in
    let H : made.TaskStep → Type 0 = λ x. D x × E x × F x in
    let g : IfMade (Some step) G = made_three A B C (Some step) answer goes_on looks in
    let h : IfMade (Some step) H = made_three D E F (Some step) stores trails values in
    made_then (λ x. G x × H x) (StepsOut place task n m told trail trail_after v v_after (Some (head, step)) s t) step
    (λ all. record {
      says = ap (λ (k : ℕ). Some (k, step)) same ∙ ap (λ (a : made.TaskStep). Some (head_in task, a)) all.0.0;
      next = next;
      sector = after;
      head = still;
      goes_on = all.0.1;
      looks = all.0.2;
      state = state;
      stores = all.1.0 ∙ ap (λ (xs : List ℕ). Some (memory_after s.ring n xs m)) is;
      trails = all.1.1 ∙ ap (λ (xs : List ℕ). option_map (with_maybe (store_in s.ring n xs)) trail) is;
      values = all.1.2;
    }) (made_both G H (Some step) g h)

-- the queue after the step that is due and its end
advances : (place : ℕ) (task next : Task) (n : Making) (sector : List ℕ) (step : Tasks.RequestStep) (s u t : QueueState) → head_in next ≡ head_in task → HasMade s.ring n next → u ≡ worked place next sector s
    → t ≡ concluded place (head_in task) (answer_to n.header n.request step) u → Advances place task n sector step s t
advances place task next n sector (Tasks.Look q) s u t same made steps ends = (next, same, made, ends ∙ steps)
advances place task next n sector (Tasks.Put q) s u t same made steps ends = (next, same, made, ends ∙ steps)
advances place task next n sector (Tasks.Act q) s u t same made steps ends = (next, same, made, ends ∙ steps)
advances place task next n sector Tasks.Sync s u t same made steps ends = (next, same, made, ends ∙ steps)
advances place task next n sector Tasks.Status s u t same made steps ends = ends ∙ ends_at place (head_in task) (used_len (status_of n.header n.request) n.request) next sector s u same steps (status_of n.header n.request)

pub works_out : (place : ℕ) (task : Task) (n : Making) (m : Bytes) (told : Option Bytes) (trail trail_after : Option (List Store)) (v v_after : Option Values) (o : Option (ℕ × made.TaskStep)) (head : ℕ) (step : made.TaskStep) (x : Stepped) (s u t : QueueState)
    → o ≡ Some (head, step) → x ≡ said head step → t ≡ concluded place head step u → StepsOut place task n m told trail trail_after v v_after o s u → WorksOut place task n m told trail trail_after v v_after x s t
works_out place task n m told trail trail_after v v_after o head step x s u t is saying ends out =
    let pair : (head, step) ≡ (head_in task, answer_in n) = some_pair _ _ (sym is ∙ out.says) in
    let heads : head ≡ (head_in task) = ap (λ (y : ℕ × made.TaskStep). y.0) pair in
    let steps : step ≡ answer_in n = ap (λ (y : ℕ × made.TaskStep). y.1) pair in
    record {
      says = saying ∙ ap (λ (k : ℕ). said k step) heads ∙ ap (said (head_in task)) steps;
      leaves = record {
        sector = out.sector;
        looks = out.looks;
        state = advances place task out.next n out.sector n.step s u t out.head out.goes_on out.state (ends ∙ ap (λ (k : ℕ). concluded place k step u) heads ∙ ap (λ (a : made.TaskStep). concluded place (head_in task) a u) steps);
      };
      stores = out.stores;
      trails = out.trails;
      values = out.values;
    }

-- the same where no size changes
pub due_still : (capacity : ℕ) (old new : ℕ → ℕ) (s t : QueueState) (m : Bytes) (place : ℕ) (task : Task) (n : Making) → ((x : ℕ) → new x ≡ old x) → t ≡ s → IsDue capacity old s m place task n → IsDue capacity new t m place task n
due_still capacity old new s t m place task n sizes is due =
    subst (λ (u : QueueState). IsDue capacity new u m place task n) (sym is) (record {
      started = due.started;
      at = due.at;
      fits = due.fits;
      next = next_still capacity old new s.ring m n sizes due.next;
      ready = due.ready;
    })

-- a step of the step table stops no queue
unhalted : (head : ℕ) (h : Header1) (request : Asked) (step : Tasks.RequestStep) (u : QueueState) → halted (said head (answer_to h request step)) u ≡ u
unhalted head h request (Tasks.Look q) u = refl
unhalted head h request (Tasks.Put q) u = refl
unhalted head h request (Tasks.Act q) u = refl
unhalted head h request Tasks.Sync u = refl
unhalted head h request Tasks.Status u = refl

pub runs_on : (place : ℕ) (task : Task) (n : Making) (m : Bytes) (told : Option Bytes) (trail trail_after : Option (List Store)) (v v_after : Option Values) (x : Stepped) (s u t : QueueState)
    → t ≡ halted x u → WorksOut place task n m told trail trail_after v v_after x s u → WorksOut place task n m told trail trail_after v v_after x s t
runs_on place task n m told trail trail_after v v_after x s u t is out =
    let still : u ≡ t = sym (is ∙ ap (λ (y : Stepped). halted y u) out.says ∙ unhalted (head_in task) n.header n.request n.step u) in
    subst (λ (w : QueueState). WorksOut place task n m told trail trail_after v v_after x s w) still out

pub rests_on : (told told_after : Option Bytes) (trail trail_after : Option (List Store)) (v v_after : Option Values) (x : Stepped) (s u t : QueueState) → t ≡ halted x u → Rests told told_after trail trail_after v v_after x s u → Rests told told_after trail trail_after v v_after x s t
rests_on told told_after trail trail_after v v_after x s u t is rests = record {
  idle = rests.idle;
  state = is ∙ ap (λ (y : Stepped). halted y u) rests.idle ∙ rests.state;
  stores = rests.stores;
  trails = rests.trails;
  values = rests.values;
}

pub stepped_map : (P Q : Type 0) (x : Stepped) → (P → Q) → IfStepped x P → IfStepped x Q
stepped_map P Q says.Idle f h = f h
stepped_map P Q (says.Stored tag) f h = f h
stepped_map P Q (says.Accepted head) f h = f h
stepped_map P Q (says.Looked head sector) f h = f h
stepped_map P Q (says.Acted head sector) f h = f h
stepped_map P Q (says.Synced head) f h = f h
stepped_map P Q (says.Faulted head) f h = h
stepped_map P Q (says.Completed head) f h = f h
stepped_map P Q says.Published f h = f h
stepped_map P Q says.Belled f h = f h
stepped_map P Q says.Started f h = f h
stepped_map P Q says.SharedFault f h = h
stepped_map P Q (says.Broken fault) f h = f h
stepped_map P Q (says.Damaged fault) f h = f h
stepped_map P Q says.BellFault f h = f h
