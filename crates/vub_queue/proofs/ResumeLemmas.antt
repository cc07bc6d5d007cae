-- What a queue keeps that goes on with the open requests of its region.
use Rattle.std.proofs.Common.{◌≡◌, ◌<◌, ℕ, zero, suc, ◌+◌, Bool, true, false, List, [], ◌∷◌, ◌++◌, length, map, drop, append_assoc, refl, ap, sym, ◌∙◌, subst, arith}
use Rattle.std.proofs.lemmas.Bool.Decides.{nat_tests}
use Rattle.std.proofs.lemmas.List.{length-set, length-map}
use Rattle.std.specs.Prelude.{◌==◌, set, replicate, slice_index_or}
use Rattle.std.specs.List.{AllByRecursion}
use Rattle.vub_base.specs.declared.pending.Pending.{Pending}
use Rattle.vub_device.specs.Past.{is_among}
use Rattle.vub_device.specs.Places.{are_distinct}
use Rattle.vub_inflight.specs.Entries.{AreEntries, heads_of}
use Rattle.vub_steps.specs.declared.steps.Phase.{Phase}
use Rattle.vub_steps.specs.declared.steps.Phase.TheVariants.{Rest, Start, Fetch, Publish}
use Rattle.vub_task.specs.declared.task.Task.{Task}
use Rattle.vub_task.specs.TaskState.{fresh_task}
use Rattle.vub_queue.specs.QueueParts.{is_taken, taken_count, takes_none_before, with_heads, phase_fits}
use Rattle.vub_queue.proofs.QueueLemmas.{count_taken}

-- ---- before the start

pub none_taken : (started : Bool) (taken : List Bool) → started ≡ false → takes_none_before started taken ≡ true → taken_count taken ≡ 0
none_taken true taken resting is = absurd (cc resting)
none_taken false taken resting is = grind (arith, nat_tests, is)

none_at_first : (n : ℕ) → taken_count (replicate n false) ≡ 0
none_at_first zero = refl
none_at_first (suc n) = none_at_first n

pub none_in_new : (taken : List Bool) (n : ℕ) → taken ≡ replicate n false → takes_none_before false taken ≡ true
none_in_new taken n is = ap (λ (xs : List Bool). taken_count xs == 0) is ∙ ap (λ (k : ℕ). k == 0) (none_at_first n)

pub rests_before : (p : Phase) (n : ℕ) (bell started : Bool) → started ≡ false → phase_fits p n bell started ≡ true → p ≡ Rest
rests_before Rest n bell started resting fits = refl
rests_before (Start done) n bell started resting fits = absurd (cc fits)
rests_before (Fetch done) n bell true resting fits = absurd (cc resting)
rests_before (Fetch done) n bell false resting fits = grind arith
rests_before (Publish done) n bell true resting fits = absurd (cc resting)
rests_before (Publish done) n bell false resting fits = grind arith

pub nothing_in : {A : Type 0} (xs : List A) → length xs ≡ 0 → xs ≡ []
nothing_in [] none = refl
nothing_in (x ∷ xs) none = absurd (omega (arith, none))

-- ---- heads that are taken

pub length_with : (heads : List ℕ) (taken : List Bool) → length (with_heads heads taken) ≡ length taken
length_with [] taken = refl
length_with (x ∷ xs) taken = length_with xs (set taken x true) ∙ length-set taken x true

free_of_none : (taken : List Bool) (head : ℕ) → taken_count taken ≡ 0 → head < length taken → is_taken taken head ≡ false
free_of_none [] head none below = absurd (omega (arith, below))
free_of_none (true ∷ xs) head none below = absurd (omega (arith, none))
free_of_none (false ∷ xs) zero none below = refl
free_of_none (false ∷ xs) (suc head) none below = free_of_none xs head none (omega (arith, below))

still_free : (taken : List Bool) (head k : ℕ) → (head == k) ≡ false → is_taken taken k ≡ false → is_taken (set taken head true) k ≡ false
still_free [] head k other free = free
still_free (x ∷ xs) zero zero other free = absurd (cc other)
still_free (x ∷ xs) zero (suc k) other free = free
still_free (x ∷ xs) (suc head) zero other free = free
still_free (x ∷ xs) (suc head) (suc k) other free = still_free xs head k (grind (arith, nat_tests, other)) free

abbrev AreFree : List Bool → List ℕ → Type 0
AreFree taken heads = AllByRecursion (λ (head : ℕ). is_taken taken head ≡ false) heads

free_after : (x : ℕ) (heads : List ℕ) (taken : List Bool) → is_among heads x ≡ false → AreFree taken heads → AreFree (set taken x true) heads
free_after x [] taken other free = tt
free_after x (head ∷ heads) taken other free =
    let apart : (x == head) ≡ false = grind (arith, nat_tests, other) in
    (still_free taken x head apart free.0, free_after x heads taken (grind (arith, nat_tests, other)) free.1)

-- each takes one more
count_with : (heads : List ℕ) (taken : List Bool) → are_distinct heads ≡ true → AreFree taken heads → taken_count (with_heads heads taken) ≡ taken_count taken + length heads
count_with [] taken distinct free = omega arith
count_with (x ∷ xs) taken distinct free =
    let other : is_among xs x ≡ false = grind (arith, distinct) in
    let rest : are_distinct xs ≡ true = grind (arith, distinct) in
    omega (arith, count_taken taken x free.0, count_with xs (set taken x true) rest (free_after x xs taken other free.1))

all_free : (xs : List Pending) (taken : List Bool) → taken_count taken ≡ 0 → AllByRecursion (λ (e : Pending). e.head < length taken) xs → AreFree taken (heads_of xs)
all_free [] taken none below = tt
all_free (x ∷ xs) taken none below = (free_of_none taken x.head none below.0, all_free xs taken none below.1)

pub count_resumed : (xs : List Pending) (taken : List Bool) → taken_count taken ≡ 0 → AreEntries (length taken) xs → taken_count (with_heads (heads_of xs) taken) ≡ length xs
count_resumed xs taken none entries =
    let many : length (heads_of xs) ≡ length xs = length-map xs (λ (e : Pending). e.head) in
    omega (arith, none, many, count_with (heads_of xs) taken entries.distinct (all_free xs taken none entries.below))

-- ---- one place on

pub heads_drop : (xs : List Pending) (i : ℕ) (d : Pending) → i < length xs → heads_of (drop i xs) ≡ (slice_index_or xs i d).head ∷ heads_of (drop (i + 1) xs)
heads_drop [] i d below = absurd (omega (arith, below))
heads_drop (x ∷ xs) zero d below = refl
heads_drop (x ∷ xs) (suc i) d below =
    let on : suc i + 1 ≡ suc (i + 1) = omega arith in
    heads_drop xs i d (omega (arith, below)) ∙ ap (λ (k : ℕ). (slice_index_or xs i d).head ∷ heads_of (drop k (x ∷ xs))) (sym on)

all_next : (P : Pending → Type 0) (i : ℕ) (xs : List Pending) → AllByRecursion P (drop i xs) → AllByRecursion P (drop (i + 1) xs)
all_next P zero [] all = tt
all_next P zero (x ∷ xs) all = all.1
all_next P (suc i) [] all = subst (λ (k : ℕ). AllByRecursion P (drop k [])) (past i) tt
  where
    past : (i : ℕ) → suc (i + 1) ≡ suc i + 1
    past i = omega arith
all_next P (suc i) (x ∷ xs) all =
    let on : suc (i + 1) ≡ suc i + 1 = omega arith in
    subst (λ (k : ℕ). AllByRecursion P (drop k (x ∷ xs))) on (all_next P i xs all)

pub tasks_next : (xs : List Pending) (i : ℕ) (d : Pending) (tasks after whole : List Task) (task : Task) → i < length xs → task ≡ fresh_task (slice_index_or xs i d).head → after ≡ tasks ++ task ∷ [] → tasks ++ map fresh_task (heads_of (drop i xs)) ≡ whole → after ++ map fresh_task (heads_of (drop (i + 1) xs)) ≡ whole
tasks_next xs i d tasks after whole task below is pushed before =
    let left : List Task = map fresh_task (heads_of (drop (i + 1) xs)) in
    ap (λ (ts : List Task). ts ++ left) pushed
    ∙ append_assoc tasks (task ∷ []) left
    ∙ ap (λ (x : Task). tasks ++ x ∷ left) is
    ∙ ap (λ (hs : List ℕ). tasks ++ map fresh_task hs) (sym (heads_drop xs i d below))
    ∙ before

pub taken_next : (xs : List Pending) (i : ℕ) (d : Pending) (now after whole : List Bool) → i < length xs → after ≡ set now (slice_index_or xs i d).head true → with_heads (heads_of (drop i xs)) now ≡ whole → with_heads (heads_of (drop (i + 1) xs)) after ≡ whole
taken_next xs i d now after whole below is before =
    ap (with_heads (heads_of (drop (i + 1) xs))) is
    ∙ ap (λ (hs : List ℕ). with_heads hs now) (sym (heads_drop xs i d below))
    ∙ before

pub below_next : (xs : List Pending) (i head : ℕ) (now after : List Bool) → after ≡ set now head true → AllByRecursion (λ (e : Pending). e.head < length now) (drop i xs) → AllByRecursion (λ (e : Pending). e.head < length after) (drop (i + 1) xs)
below_next xs i head now after is below =
    let same : length after ≡ length now = ap length is ∙ length-set now head true in
    subst (λ (n : ℕ). AllByRecursion (λ (e : Pending). e.head < n) (drop (i + 1) xs)) (sym same) (all_next (λ (e : Pending). e.head < length now) i xs below)
