-- The states of a list of queues, and of one of them that is another.
use Rattle.std.proofs.Common.{◌≡◌, ◌<◌, ℕ, zero, suc, ◌+◌, List, [], ◌∷◌, ◌++◌, length, refl, ap, sym, ◌∙◌, subst, inl, inr, arith}
use Rattle.std.specs.Prelude.{replicate, set, slice_get, Option, Some, None, option_map, ◌⊎◌, ◌≤◌, get_or, IfSome}
use Rattle.vub_queue.specs.declared.queue.Stepped.TheVariants.{Idle}
use Rattle.vub_steps.specs.declared.readiness.Choice.{Choice}
use Rattle.vub_queue.specs.declared.queue.Stepped.{Stepped}
use Rattle.vub_queue.specs.Turned.{Outside}
use Rattle.std.proofs.lemmas.List.{map-set, replicate-append-replicate}
use Rattle.std.proofs.lemmas.Option.{slice_get-map, slice_get_past}
use Rattle.vub_queue.specs.declared.queue.Queue.{Queue}
use Rattle.vub_queue.specs.QueueState.{QueueState, state_of, QueueLies}
use Rattle.vub_queue.proofs.LyingLemmas.{lies_with}
use Rattle.vub_backend.specs.Backends.{states_of, EachLies, StepsIn, StepsAt, Steps}

pub one_more : {A : Type 0} (n : ℕ) (a : A) → replicate n a ++ a ∷ [] ≡ replicate (n + 1) a
one_more n a = replicate-append-replicate n 1 a

pub none_there : (n : ℕ) → states_of (replicate n None) ≡ replicate n None
none_there zero = refl
none_there (suc n) = ap (λ (xs : List (Option QueueState)). None ∷ xs) (none_there n)

pub states_set : (queues : List (Option Queue)) (i : ℕ) (queue : Option Queue) → states_of (set queues i queue) ≡ set (states_of queues) i (option_map state_of queue)
states_set queues i queue = map-set (option_map state_of) queues i queue

pub states_get : (queues : List (Option Queue)) (i : ℕ) → slice_get (states_of queues) i ≡ option_map (option_map state_of) (slice_get queues i)
states_get queues i = slice_get-map (option_map state_of) queues i

-- what stands in a list of which one element is another
one_of : {A : Type 0} (xs : List A) (i j : ℕ) (x y : A) → slice_get (set xs i x) j ≡ Some y → (slice_get xs j ≡ Some y) ⊎ (x ≡ y)
one_of [] i j x y is = inl is
one_of (z ∷ zs) zero zero x y is = inr (cc is)
one_of (z ∷ zs) zero (suc j) x y is = inl is
one_of (z ∷ zs) (suc i) zero x y is = inl is
one_of (z ∷ zs) (suc i) (suc j) x y is = one_of zs i j x y is

-- ---- a step

pub found_in : {A : Type 0} (xs : List A) (i j : ℕ) (x : A) → i ≡ j → i < length xs → x ≡ get_or xs i x → slice_get xs j ≡ Some x
found_in [] i j x same within is = absurd (omega (arith, within))
found_in (y ∷ ys) zero j x same within is = subst (λ (k : ℕ). slice_get (y ∷ ys) k ≡ Some x) same (ap (λ (z : _). Some z) (sym is))
found_in (y ∷ ys) (suc i) j x same within is = subst (λ (k : ℕ). slice_get (y ∷ ys) k ≡ Some x) same (found_in ys i i x refl (omega (arith, within)) is)

pub none_past : (queues : List (Option Queue)) (i j : ℕ) → i ≡ j → length queues ≤ i → slice_get (states_of queues) j ≡ None
none_past queues i j same past = states_get queues j ∙ ap (option_map (option_map state_of)) (slice_get_past queues j (omega (arith, same, past)))

pub steps_nowhere : (choice : Choice) (before : Outside) (queues : List (Option QueueState)) (i : ℕ) → slice_get queues i ≡ None → Steps i choice before before Idle queues queues
steps_nowhere choice before queues i none = subst (λ (o : Option (Option QueueState)). StepsAt i o choice before before Idle queues queues) (sym none) (refl, refl, refl)

there_is : (queues : List (Option Queue)) (i : ℕ) (queue : Option Queue) → slice_get queues i ≡ Some queue → slice_get (states_of queues) i ≡ Some (option_map state_of queue)
there_is queues i queue there = states_get queues i ∙ ap (option_map (option_map state_of)) there

pub lies_there : (sizes : ℕ → ℕ) (capacity : ℕ) (queues : List (Option Queue)) (i : ℕ) (queue : Option Queue) → slice_get queues i ≡ Some queue → EachLies sizes capacity (states_of queues) → IfSome queue (λ q. QueueLies sizes capacity (state_of q))
lies_there sizes capacity queues i None there each = tt
lies_there sizes capacity queues i (Some q) there each = each i (state_of q) (there_is queues i (Some q) there)

pub steps_there : (choice : Choice) (before after : Outside) (x : Stepped) (queues : List (Option Queue)) (i : ℕ) (queue now : Option Queue) → slice_get queues i ≡ Some queue
    → StepsIn (option_map state_of queue) choice before after x (option_map state_of now) → Steps i choice before after x (states_of queues) (states_of (set queues i now))
steps_there choice before after x queues i queue now there made =
    subst (λ (o : Option (Option QueueState)). StepsAt i o choice before after x (states_of queues) (states_of (set queues i now))) (sym (there_is queues i queue there)) (option_map state_of now, states_set queues i now, made)

same_lie : (before after : Outside) (s : QueueState) → ((x : ℕ) → after.sizes x ≡ before.sizes x) → after.capacity ≡ before.capacity → QueueLies before.sizes before.capacity s → QueueLies after.sizes after.capacity s
same_lie before after s sizes capacity = lies_with before.sizes after.sizes before.capacity after.capacity s sizes capacity

-- what a step leaves of the spaces and of the disk
sizes_after : (choice : Choice) (before after : Outside) (x : Stepped) (queue now : Option QueueState) → StepsIn queue choice before after x now → (k : ℕ) → after.sizes k ≡ before.sizes k
sizes_after choice before after x (Some s) now made k = made.2.keeps_spaces.same_sizes k
sizes_after choice before after x None now made k = ap (λ (o : Outside). o.sizes k) made.2

capacity_after : (choice : Choice) (before after : Outside) (x : Stepped) (queue now : Option QueueState) → StepsIn queue choice before after x now → after.capacity ≡ before.capacity
capacity_after choice before after x (Some s) now made = made.2.capacity
capacity_after choice before after x None now made = ap (λ (o : Outside). o.capacity) made.2

some_is : {A : Type 0} (x y : A) → Some x ≡ Some y → x ≡ y
some_is x y is = cc is

stepped_lies : (choice : Choice) (before after : Outside) (x : Stepped) (queue now : Option QueueState) (s : QueueState) → StepsIn queue choice before after x now → now ≡ Some s → QueueLies after.sizes after.capacity s
stepped_lies choice before after x (Some u) now s made is = subst (QueueLies after.sizes after.capacity) (some_is made.0 s (sym made.1 ∙ is)) made.2.lies
stepped_lies choice before after x None now s made is = absurd (cc (made.1, is))

pub each_lies : (choice : Choice) (before after : Outside) (x : Stepped) (queues : List (Option QueueState)) (i : ℕ) (queue now : Option QueueState) → StepsIn queue choice before after x now
    → EachLies before.sizes before.capacity queues → EachLies after.sizes after.capacity (set queues i now)
each_lies choice before after x queues i queue now made each q s is =
    elim (one_of queues i q now (Some s) is) [
      | inl old ↦ same_lie before after s (sizes_after choice before after x queue now made) (capacity_after choice before after x queue now made) (each q s old)
      | inr new ↦ stepped_lies choice before after x queue now s made new
    ]

-- one more queue that lies
pub attached_lies : (sizes : ℕ → ℕ) (capacity : ℕ) (queues : List (Option QueueState)) (i : ℕ) (u : QueueState) → QueueLies sizes capacity u → EachLies sizes capacity queues → EachLies sizes capacity (set queues i (Some u))
attached_lies sizes capacity queues i u fits each q s is =
    elim (one_of queues i q (Some u) (Some s) is) [
      | inl old ↦ each q s old
      | inr new ↦ subst (QueueLies sizes capacity) (some_is u s new) fits
    ]

pub none_lies : (sizes : ℕ → ℕ) (capacity n : ℕ) → EachLies sizes capacity (replicate n None)
none_lies sizes capacity zero q s is = absurd (cc is)
none_lies sizes capacity (suc n) zero s is = absurd (cc is)
none_lies sizes capacity (suc n) (suc q) s is = none_lies sizes capacity n q s is
