-- The open entries by counter, as the entries change.
use Rattle.std.proofs.Common.{◌≡◌, ◌≢◌, ◌<◌, ℕ, zero, suc, Bool, true, false, cond, not, List, [], ◌∷◌, ◌++◌, ◌+◌, length, get_or, filter, refl, ap, sym, ◌∙◌, subst, inl, inr, arith}
use Rattle.std.specs.Prelude.{◌&&◌, ◌||◌, ◌==◌, nat_lt, if◌then◌else◌, ⊤}
use Rattle.std.specs.List.{AllByRecursion}
use Rattle.std.proofs.lemmas.Bool.Decides.{nat_tests}
use Rattle.std.proofs.lemmas.Bool.{cases_eq}
use Rattle.std.proofs.lemmas.List.{append-nil, map-append, length-append}
use Rattle.std.proofs.lemmas.List.Elements.{filter-append}
use Rattle.vub_base.specs.declared.pending.Pending.{Pending}
use Rattle.vub_base.specs.Pending.{precedes, insert_pending, sorted}
use Rattle.vub_base.proofs.PendingLemmas.{sorted_push}
use Rattle.vub_device.specs.Past.{is_among}
use Rattle.vub_device.specs.Places.{are_distinct}
use Rattle.vub_inflight.specs.Entries.{in_flight_but, entry_at, by_index, by_counter, heads_of, without_heads, AreEntries, CountersBelow}
use Rattle.vub_inflight.specs.Links.{AreMarked}
use Rattle.vub_device.proofs.Numbers.{is_among_append}
use Rattle.vub_inflight.proofs.Each.{all_weaker, all_append, append_all, all_filter, all_insert, all_sorted, sorted_all}

-- ---- one entry more

pub by_counter-more : (c u : ℕ → ℕ) (p : ℕ → Bool) (n : ℕ) → by_counter c u p (suc n) ≡ cond (p n) (insert_pending (entry_at c u n) (by_counter c u p n)) (by_counter c u p n)
by_counter-more c u p n = elim (p n) as (λ b. sorted (by_index c u p n ++ cond b (entry_at c u n ∷ []) []) ≡ cond b (insert_pending (entry_at c u n) (by_counter c u p n)) (by_counter c u p n)) [
  | true ↦ sorted_push (by_index c u p n) (entry_at c u n)
  | false ↦ ap sorted (append-nil (by_index c u p n))
]

-- ---- what holds of each

pub all_by_index : (P : Pending → Type 0) (c u : ℕ → ℕ) (p : ℕ → Bool) (n : ℕ) → ((i : ℕ) → i < n → p i ≡ true → P (entry_at c u i)) → AllByRecursion P (by_index c u p n)
all_by_index P c u p zero h = tt
all_by_index P c u p (suc n) h =
    let go : (b : Bool) → p n ≡ b → AllByRecursion P (cond b (entry_at c u n ∷ []) []) = elim [
      | true ↦ λ is. (h n (omega arith) is, tt)
      | false ↦ λ is. tt
    ] in
    all_append P (by_index c u p n) (cond (p n) (entry_at c u n ∷ []) []) (all_by_index P c u p n (λ i l. h i (omega arith))) (go (p n) refl)

pub by_index_all : (P : Pending → Type 0) (c u : ℕ → ℕ) (p : ℕ → Bool) (n : ℕ) → AllByRecursion P (by_index c u p n) → (i : ℕ) → i < n → p i ≡ true → P (entry_at c u i)
by_index_all P c u p zero a i l is = absurd (omega arith)
by_index_all P c u p (suc n) a i l is =
    let both = append_all P (by_index c u p n) (cond (p n) (entry_at c u n ∷ []) []) a in
    let here : AllByRecursion P (cond (p n) (entry_at c u n ∷ []) []) = both.1 in
    elim (cases_eq i n) [
      | inl same ↦
          let open_n : p n ≡ true = ap p (sym same) ∙ is in
          let one : AllByRecursion P (entry_at c u n ∷ []) = subst (λ (b : Bool). AllByRecursion P (cond b (entry_at c u n ∷ []) [])) open_n here in
          subst (λ (j : ℕ). P (entry_at c u j)) (sym same) one.0
      | inr apart ↦ by_index_all P c u p n both.0 i (omega arith) is
    ]

pub all_by_counter : (P : Pending → Type 0) (c u : ℕ → ℕ) (p : ℕ → Bool) (n : ℕ) → ((i : ℕ) → i < n → p i ≡ true → P (entry_at c u i)) → AllByRecursion P (by_counter c u p n)
all_by_counter P c u p n h = all_sorted P (by_index c u p n) (all_by_index P c u p n h)

pub by_counter_all : (P : Pending → Type 0) (c u : ℕ → ℕ) (p : ℕ → Bool) (n : ℕ) → AllByRecursion P (by_counter c u p n) → (i : ℕ) → i < n → p i ≡ true → P (entry_at c u i)
by_counter_all P c u p n a = by_index_all P c u p n (sorted_all P (by_index c u p n) a)

-- ---- the same entries

-- tests and counters that agree below n
pub by_index_agree : (c d u : ℕ → ℕ) (p q : ℕ → Bool) (n : ℕ) → ((i : ℕ) → i < n → p i ≡ q i) → ((i : ℕ) → i < n → p i ≡ true → c i ≡ d i) → by_index c u p n ≡ by_index d u q n
by_index_agree c d u p q zero same counters = refl
by_index_agree c d u p q (suc n) same counters =
    let rest : by_index c u p n ≡ by_index d u q n = by_index_agree c d u p q n (λ i h. same i (omega arith)) (λ i h. counters i (omega arith)) in
    let here : p n ≡ q n = same n (omega arith) in
    let count : p n ≡ true → c n ≡ d n = counters n (omega arith) in
    grind arith

pub by_counter_agree : (c d u : ℕ → ℕ) (p q : ℕ → Bool) (n : ℕ) → ((i : ℕ) → i < n → p i ≡ q i) → ((i : ℕ) → i < n → p i ≡ true → c i ≡ d i) → by_counter c u p n ≡ by_counter d u q n
by_counter_agree c d u p q n same counters = ap sorted (by_index_agree c d u p q n same counters)

-- ---- one more, whose counter is above all

-- it goes last
insert_last : (e : Pending) (xs : List Pending) → CountersBelow e.counter xs → insert_pending e xs ≡ xs ++ e ∷ []
insert_last e [] h = refl
insert_last e (x ∷ xs) h = let lower : x.counter < e.counter = h.0 in grind (arith, nat_tests, insert_last e xs h.1)

-- another one goes before it
insert_before_last : (e f : Pending) (xs : List Pending) → e.counter < f.counter → insert_pending e (xs ++ f ∷ []) ≡ insert_pending e xs ++ f ∷ []
insert_before_last e f [] h = grind (arith, nat_tests)
insert_before_last e f (x ∷ xs) h = grind (arith, nat_tests, insert_before_last e f xs h)

pub by_counter_add : (c u : ℕ → ℕ) (p q : ℕ → Bool) (h : ℕ) (n : ℕ) → h < n → p h ≡ false → q h ≡ true → ((i : ℕ) → i < n → i ≢ h → q i ≡ p i) → ((i : ℕ) → i < n → p i ≡ true → c i < c h)
    → by_counter c u q n ≡ by_counter c u p n ++ entry_at c u h ∷ []
by_counter_add c u p q h zero l out in' same above = absurd (omega arith)
by_counter_add c u p q h (suc n) l out in' same above =
    let old : by_counter c u p (suc n) ≡ cond (p n) (insert_pending (entry_at c u n) (by_counter c u p n)) (by_counter c u p n) = by_counter-more c u p n in
    let new : by_counter c u q (suc n) ≡ cond (q n) (insert_pending (entry_at c u n) (by_counter c u q n)) (by_counter c u q n) = by_counter-more c u q n in
    elim (cases_eq n h) [
      | inl here ↦
          let rest : by_counter c u q n ≡ by_counter c u p n = by_counter_agree c c u q p n (λ i k. same i (omega arith) (omega arith)) (λ i k t. refl) in
          let last : insert_pending (entry_at c u n) (by_counter c u p n) ≡ by_counter c u p n ++ entry_at c u n ∷ [] =
          insert_last (entry_at c u n) (by_counter c u p n) (all_by_counter (λ e. e.counter < c n) c u p n (λ i k t. subst (λ j. c i < c j) (sym here) (above i (omega arith) t))) in
          let q_here : q n ≡ true = ap q here ∙ in' in
          let p_here : p n ≡ false = ap p here ∙ out in
          let same_entry : entry_at c u n ≡ entry_at c u h = ap (entry_at c u) here in
          grind arith
      | inr apart ↦
          let rest : by_counter c u q n ≡ by_counter c u p n ++ entry_at c u h ∷ [] = by_counter_add c u p q h n (omega arith) out in' (λ i k. same i (omega arith)) (λ i k. above i (omega arith)) in
          let agree : q n ≡ p n = same n (omega arith) apart in
          let lower : p n ≡ true → c n < c h = above n (omega arith) in
          let before : c n < c h → insert_pending (entry_at c u n) (by_counter c u p n ++ entry_at c u h ∷ []) ≡ insert_pending (entry_at c u n) (by_counter c u p n) ++ entry_at c u h ∷ [] =
          insert_before_last (entry_at c u n) (entry_at c u h) (by_counter c u p n) in
          grind arith
    ]

-- ---- fewer

-- entries in order, and none before one that it precedes
abbrev pub AreOrdered : List Pending → Type 0
AreOrdered [] = ⊤
AreOrdered (x ∷ xs) = AllByRecursion (λ (y : Pending). precedes y x ≡ false) xs × AreOrdered xs

behind : (e x y : Pending) → precedes e x ≡ true → precedes y x ≡ false → precedes y e ≡ false
behind e x y before later = grind (arith, nat_tests)

ahead_of : (e x y : Pending) → precedes e x ≡ true → precedes y x ≡ false → precedes e y ≡ true
ahead_of e x y before later = grind (arith, nat_tests)

ordered_insert : (e : Pending) (xs : List Pending) → AreOrdered xs → AreOrdered (insert_pending e xs)
ordered_insert e [] o = (tt, tt)
ordered_insert e (x ∷ xs) o =
    let go : (b : Bool) → precedes e x ≡ b → AreOrdered (cond b (e ∷ (x ∷ xs)) (x ∷ insert_pending e xs)) = elim [
      | true ↦ λ is. ((grind (arith, nat_tests), all_weaker (λ y. precedes y x ≡ false) (λ y. precedes y e ≡ false) xs (λ y. behind e x y is) o.0), o)
      | false ↦ λ is. (all_insert (λ y. precedes y x ≡ false) e xs is o.0, ordered_insert e xs o.1)
    ] in
    go (precedes e x) refl

pub ordered_sorted : (xs : List Pending) → AreOrdered (sorted xs)
ordered_sorted [] = tt
ordered_sorted (x ∷ xs) = ordered_insert x (sorted xs) (ordered_sorted xs)

-- one that precedes all goes first
insert_first : (e : Pending) (xs : List Pending) → AllByRecursion (λ (y : Pending). precedes e y ≡ true) xs → insert_pending e xs ≡ e ∷ xs
insert_first e [] h = refl
insert_first e (x ∷ xs) h = let first : precedes e x ≡ true = h.0 in grind arith

-- a filter and an insertion commute
filter_insert : (p : Pending → Bool) (e : Pending) (xs : List Pending) → AreOrdered xs → filter p (insert_pending e xs) ≡ cond (p e) (insert_pending e (filter p xs)) (filter p xs)
filter_insert p e [] o = grind arith
filter_insert p e (x ∷ xs) o =
    let rest : filter p (insert_pending e xs) ≡ cond (p e) (insert_pending e (filter p xs)) (filter p xs) = filter_insert p e xs o.1 in
    let first : precedes e x ≡ true → insert_pending e (filter p xs) ≡ e ∷ filter p xs = λ is.
    insert_first e (filter p xs) (all_filter (λ y. precedes e y ≡ true) p xs (all_weaker (λ y. precedes y x ≡ false) (λ y. precedes e y ≡ true) xs (λ y. ahead_of e x y is) o.0)) in
    grind arith

pub sorted_filter : (p : Pending → Bool) (xs : List Pending) → filter p (sorted xs) ≡ sorted (filter p xs)
sorted_filter p [] = refl
sorted_filter p (x ∷ xs) =
    let rest : filter p (sorted xs) ≡ sorted (filter p xs) = sorted_filter p xs in
    let here : filter p (insert_pending x (sorted xs)) ≡ cond (p x) (insert_pending x (filter p (sorted xs))) (filter p (sorted xs)) = filter_insert p x (sorted xs) (ordered_sorted xs) in
    grind arith

-- the entries that are open and aren't among these heads
pub by_counter_without : (c u : ℕ → ℕ) (p q : ℕ → Bool) (heads : List ℕ) (n : ℕ) → ((i : ℕ) → i < n → q i ≡ (p i && not (is_among heads i))) → by_counter c u q n ≡ without_heads heads (by_counter c u p n)
by_counter_without c u p q heads n same = ap sorted (left n same) ∙ sym (sorted_filter (λ e. not (is_among heads e.head)) (by_index c u p n))
  where
    left : (k : ℕ) → ((i : ℕ) → i < k → q i ≡ (p i && not (is_among heads i))) → by_index c u q k ≡ without_heads heads (by_index c u p k)
    left zero agree = refl
    left (suc k) agree =
        let rest : by_index c u q k ≡ without_heads heads (by_index c u p k) = left k (λ i l. agree i (omega arith)) in
        let here : q k ≡ (p k && not (is_among heads k)) = agree k (omega arith) in
        let parts : without_heads heads (by_index c u p k ++ cond (p k) (entry_at c u k ∷ []) []) ≡ without_heads heads (by_index c u p k) ++ without_heads heads (cond (p k) (entry_at c u k ∷ []) []) =
        filter-append (λ e. not (is_among heads e.head)) (by_index c u p k) (cond (p k) (entry_at c u k ∷ []) []) in
        let last : cond (q k) (entry_at c u k ∷ []) [] ≡ without_heads heads (cond (p k) (entry_at c u k ∷ []) []) = grind arith in
        grind arith

-- ---- heads

among_insert : (i : ℕ) (e : Pending) (xs : List Pending) → is_among (heads_of (insert_pending e xs)) i ≡ ((e.head == i) || is_among (heads_of xs) i)
among_insert i e [] = refl
among_insert i e (x ∷ xs) =
    let rest : is_among (heads_of (insert_pending e xs)) i ≡ ((e.head == i) || is_among (heads_of xs) i) = among_insert i e xs in
    grind arith

pub among_sorted : (i : ℕ) (xs : List Pending) → is_among (heads_of (sorted xs)) i ≡ is_among (heads_of xs) i
among_sorted i [] = refl
among_sorted i (x ∷ xs) =
    let rest : is_among (heads_of (sorted xs)) i ≡ is_among (heads_of xs) i = among_sorted i xs in
    let added : is_among (heads_of (insert_pending x (sorted xs))) i ≡ ((x.head == i) || is_among (heads_of (sorted xs)) i) = among_insert i x (sorted xs) in
    grind arith

-- the heads are the entries that are open
pub among_by_index : (c u : ℕ → ℕ) (p : ℕ → Bool) (n i : ℕ) → is_among (heads_of (by_index c u p n)) i ≡ (nat_lt i n && p i)
among_by_index c u p zero i = grind (arith, nat_tests)
among_by_index c u p (suc n) i =
    let rest : is_among (heads_of (by_index c u p n)) i ≡ (nat_lt i n && p i) = among_by_index c u p n i in
    let heads : heads_of (by_index c u p n ++ cond (p n) (entry_at c u n ∷ []) []) ≡ heads_of (by_index c u p n) ++ heads_of (cond (p n) (entry_at c u n ∷ []) []) = map-append (λ e. e.head) (by_index c u p n) (cond (p n) (entry_at c u n ∷ []) []) in
    let parts : is_among (heads_of (by_index c u p n) ++ heads_of (cond (p n) (entry_at c u n ∷ []) [])) i ≡ (is_among (heads_of (by_index c u p n)) i || is_among (heads_of (cond (p n) (entry_at c u n ∷ []) [])) i) =
    is_among_append (heads_of (by_index c u p n)) (heads_of (cond (p n) (entry_at c u n ∷ []) [])) i in
    let whole : is_among (heads_of (by_index c u p (suc n))) i ≡ (is_among (heads_of (by_index c u p n)) i || is_among (heads_of (cond (p n) (entry_at c u n ∷ []) [])) i) = ap (λ (xs : List ℕ). is_among xs i) heads ∙ parts in
    let last : is_among (heads_of (cond (p n) (entry_at c u n ∷ []) [])) i ≡ (p n && (n == i)) = grind arith in
    elim (cases_eq i n) [
      | inl here ↦ let at_n : p n ≡ p i = ap p (sym here) in grind (arith, nat_tests)
      | inr apart ↦ grind (arith, nat_tests)
    ]

pub among_by_counter : (c u : ℕ → ℕ) (p : ℕ → Bool) (n i : ℕ) → is_among (heads_of (by_counter c u p n)) i ≡ (nat_lt i n && p i)
among_by_counter c u p n i = among_sorted i (by_index c u p n) ∙ among_by_index c u p n i

distinct_insert : (e : Pending) (xs : List Pending) → are_distinct (heads_of (insert_pending e xs)) ≡ (not (is_among (heads_of xs) e.head) && are_distinct (heads_of xs))
distinct_insert e [] = refl
distinct_insert e (x ∷ xs) =
    let rest : are_distinct (heads_of (insert_pending e xs)) ≡ (not (is_among (heads_of xs) e.head) && are_distinct (heads_of xs)) = distinct_insert e xs in
    let added : is_among (heads_of (insert_pending e xs)) x.head ≡ ((e.head == x.head) || is_among (heads_of xs) x.head) = among_insert x.head e xs in
    grind (arith, nat_tests)

pub distinct_by_counter : (c u : ℕ → ℕ) (p : ℕ → Bool) (n : ℕ) → are_distinct (heads_of (by_counter c u p n)) ≡ true
distinct_by_counter c u p zero = refl
distinct_by_counter c u p (suc n) =
    let rest : are_distinct (heads_of (by_counter c u p n)) ≡ true = distinct_by_counter c u p n in
    let out : is_among (heads_of (by_counter c u p n)) n ≡ (nat_lt n n && p n) = among_by_counter c u p n n in
    let more : are_distinct (heads_of (insert_pending (entry_at c u n) (by_counter c u p n))) ≡ (not (is_among (heads_of (by_counter c u p n)) n) && are_distinct (heads_of (by_counter c u p n))) = distinct_insert (entry_at c u n) (by_counter c u p n) in
    let new : are_distinct (heads_of (insert_pending (entry_at c u n) (by_counter c u p n))) ≡ true = grind (arith, nat_tests) in
    let go : (b : Bool) → are_distinct (heads_of (cond b (insert_pending (entry_at c u n) (by_counter c u p n)) (by_counter c u p n))) ≡ true = elim [ true ↦ new | false ↦ rest ] in
    ap (λ xs. are_distinct (heads_of xs)) (by_counter-more c u p n) ∙ go (p n)

-- ---- lists of entries

length_insert : (e : Pending) (xs : List Pending) → length (insert_pending e xs) ≡ suc (length xs)
length_insert e [] = refl
length_insert e (x ∷ xs) = let rest : length (insert_pending e xs) ≡ suc (length xs) = length_insert e xs in grind arith

length_sorted : (xs : List Pending) → length (sorted xs) ≡ length xs
length_sorted [] = refl
length_sorted (x ∷ xs) = length_insert x (sorted xs) ∙ ap suc (length_sorted xs)

distinct_sorted : (xs : List Pending) → are_distinct (heads_of (sorted xs)) ≡ are_distinct (heads_of xs)
distinct_sorted [] = refl
distinct_sorted (x ∷ xs) =
    let rest : are_distinct (heads_of (sorted xs)) ≡ are_distinct (heads_of xs) = distinct_sorted xs in
    let here : is_among (heads_of (sorted xs)) x.head ≡ is_among (heads_of xs) x.head = among_sorted x.head xs in
    let added : are_distinct (heads_of (insert_pending x (sorted xs))) ≡ (not (is_among (heads_of (sorted xs)) x.head) && are_distinct (heads_of (sorted xs))) = distinct_insert x (sorted xs) in
    grind arith

pub entries_sorted : (n : ℕ) (xs : List Pending) → AreEntries n xs → AreEntries n (sorted xs)
entries_sorted n xs f = record {
  few = omega (arith, length_sorted xs, f.few);
  below = all_sorted (λ e. e.head < n) xs f.below;
  distinct = distinct_sorted xs ∙ f.distinct;
}

distinct_push : (xs : List Pending) (e : Pending) → AllByRecursion (λ (x : Pending). x.head < e.head) xs → are_distinct (heads_of xs) ≡ true → are_distinct (heads_of (xs ++ e ∷ [])) ≡ true
distinct_push [] e below d = refl
distinct_push (x ∷ xs) e below d =
    let rest : are_distinct (heads_of (xs ++ e ∷ [])) ≡ true = distinct_push xs e below.1 (grind arith) in
    let heads : heads_of (xs ++ e ∷ []) ≡ heads_of xs ++ heads_of (e ∷ []) = map-append (λ y. y.head) xs (e ∷ []) in
    let joined : is_among (heads_of xs ++ heads_of (e ∷ [])) x.head ≡ (is_among (heads_of xs) x.head || is_among (heads_of (e ∷ [])) x.head) = is_among_append (heads_of xs) (heads_of (e ∷ [])) x.head in
    let lower : x.head < e.head = below.0 in
    grind (arith, nat_tests)

-- one more behind lower heads
pub entries_push : (n : ℕ) (xs : List Pending) (e : Pending) → e.head ≡ n → AreEntries n xs → AreEntries (n + 1) (xs ++ e ∷ [])
entries_push n xs e is f =
    let more : length (xs ++ e ∷ []) ≡ length xs + 1 = length-append xs (e ∷ []) in
    record {
      few = omega (arith, more, f.few);
      below = all_append (λ x. x.head < n + 1) xs (e ∷ []) (all_weaker (λ x. x.head < n) (λ x. x.head < n + 1) xs (λ x l. omega (arith, l)) f.below) (omega (arith, is), tt);
      distinct = distinct_push xs e (subst (λ (k : ℕ). AllByRecursion (λ (x : Pending). x.head < k) xs) (sym is) f.below) f.distinct;
    }

-- the entry at the next index is looked at
pub by_index_goes_on : (c u inflight : ℕ → ℕ) (these : List ℕ) (index next : ℕ) (marks : List Bool) (before after : List Pending) → next ≡ index + 1 → AreMarked marks these → index < length marks
    → before ≡ by_index c u (in_flight_but these inflight) index
    → after ≡ before ++ (if not (inflight index == 0) && not (get_or marks index false) then entry_at c u index ∷ [] else [])
    → after ≡ by_index c u (in_flight_but these inflight) next
by_index_goes_on c u inflight these index next marks before after more marked low so_far added =
    let here : get_or marks index false ≡ is_among these index = marked index low in
    let is_suc : next ≡ suc index = omega (arith, more) in
    let one_more : after ≡ by_index c u (in_flight_but these inflight) (suc index) = grind arith in
    one_more ∙ ap (by_index c u (in_flight_but these inflight)) (sym is_suc)
