-- Lists of numbers, and how many there are.
use Rattle.std.proofs.Common.{◌≡◌, ◌≢◌, ◌≤◌, ◌<◌, ℕ, zero, suc, ◌+◌, Bool, true, false, List, [], ◌∷◌, ◌++◌, length, take, map, refl, ap, sym, ◌∙◌, inl, inr, arith}
use Rattle.std.specs.Prelude.{◌||◌, slice_index, filter}
use Rattle.std.proofs.lemmas.Bool.Decides.{nat_tests}
use Rattle.std.proofs.lemmas.Bool.{cases_eq, cases_Bool}
use Rattle.std.proofs.lemmas.List.{length-append, length-map, map-append}
use Rattle.vub_device.specs.Past.{is_among, missing_below}
use Rattle.vub_device.specs.Places.{are_distinct}
use Rattle.vub_device.proofs.Numbers.{is_among_append}
use Rattle.vub_facts.proofs.HeadLemmas.{distinct_push, distinct_parts, few_below, number_of}

-- ---- members

pub among_at : (xs : List ℕ) (i : ℕ) → i < length xs → is_among xs (slice_index xs i) ≡ true
among_at [] i l = absurd (omega arith)
among_at (x ∷ xs) zero l = grind (arith, nat_tests)
among_at (x ∷ xs) (suc i) l = let rest : is_among xs (slice_index xs i) ≡ true = among_at xs i (omega arith) in grind (arith, nat_tests)

-- a member of what a list keeps is a member that passes
pub among_filter : (test : ℕ → Bool) (xs : List ℕ) (k : ℕ) → is_among (filter test xs) k ≡ true → (is_among xs k ≡ true) × (test k ≡ true)
among_filter test [] k h = absurd (let fails : false ≡ true = h in cc)
among_filter test (x ∷ xs) k h =
    let rest : is_among (filter test xs) k ≡ true → (is_among xs k ≡ true) × (test k ≡ true) = among_filter test xs k in
    elim (cases_Bool (test x)) [
      | inl holds ↦ elim (cases_eq x k) [
        | inl same ↦ (grind (arith, nat_tests), ap test (sym same) ∙ holds)
        | inr apart ↦ let r : (is_among xs k ≡ true) × (test k ≡ true) = rest (grind (arith, nat_tests)) in (grind (arith, nat_tests, r.0), r.1)
      ]
      | inr out ↦ let r : (is_among xs k ≡ true) × (test k ≡ true) = rest (grind (arith, nat_tests)) in (grind (arith, nat_tests, r.0), r.1)
    ]

-- where all members fail, nothing is kept
pub filter_none : (test : ℕ → Bool) (xs : List ℕ) → ((k : ℕ) → is_among xs k ≡ true → test k ≡ true) → length (filter test xs) ≡ 0 → length xs ≡ 0
filter_none test [] all none = refl
filter_none test (x ∷ xs) all none = let holds : test x ≡ true = all x (grind (arith, nat_tests)) in absurd (grind (arith, nat_tests))

-- members of what is missing
pub missing-among : (xs : List ℕ) (n k : ℕ) → is_among (missing_below xs n) k ≡ true → (k < n) × (is_among xs k ≡ false)
missing-among xs zero k h = absurd (let fails : false ≡ true = h in cc)
missing-among xs (suc n) k h =
    let rest : is_among (missing_below xs n) k ≡ true → (k < n) × (is_among xs k ≡ false) = missing-among xs n k in
    let joined : is_among (missing_below xs n ++ n ∷ []) k ≡ (is_among (missing_below xs n) k || is_among (n ∷ []) k) = is_among_append (missing_below xs n) (n ∷ []) k in
    elim (cases_Bool (is_among xs n)) [
      | inl holds ↦ let r : (k < n) × (is_among xs k ≡ false) = rest (grind (arith, nat_tests)) in (omega (arith, r.0), r.1)
      | inr out ↦ elim (cases_eq n k) [
        | inl same ↦ (omega arith, ap (is_among xs) (sym same) ∙ out)
        | inr apart ↦ let r : (k < n) × (is_among xs k ≡ false) = rest (grind (arith, nat_tests)) in (omega (arith, r.0), r.1)
      ]
    ]

pub among-missing : (xs : List ℕ) (n k : ℕ) → k < n → is_among xs k ≡ false → is_among (missing_below xs n) k ≡ true
among-missing xs zero k l out = absurd (omega arith)
among-missing xs (suc n) k l out =
    let rest : k < n → is_among (missing_below xs n) k ≡ true = λ b. among-missing xs n k b out in
    let joined : is_among (missing_below xs n ++ n ∷ []) k ≡ (is_among (missing_below xs n) k || is_among (n ∷ []) k) = is_among_append (missing_below xs n) (n ∷ []) k in
    elim (cases_eq n k) [
      | inl same ↦ let here : is_among xs n ≡ false = ap (is_among xs) same ∙ out in grind (arith, nat_tests)
      | inr apart ↦ let r : is_among (missing_below xs n) k ≡ true = rest (omega arith) in grind (arith, nat_tests)
    ]

-- those of the first so many are those of the list
pub among-take : (xs : List ℕ) (n k : ℕ) → is_among (take n xs) k ≡ true → is_among xs k ≡ true
among-take xs zero k h = absurd (let fails : false ≡ true = h in cc)
among-take [] (suc n) k h = h
among-take (x ∷ xs) (suc n) k h = let rest : is_among (take n xs) k ≡ true → is_among xs k ≡ true = among-take xs n k in grind (arith, nat_tests)

pub not_among-take : (xs : List ℕ) (n k : ℕ) → is_among xs k ≡ false → is_among (take n xs) k ≡ false
not_among-take xs n k out = elim (cases_Bool (is_among (take n xs) k)) [
  | inl holds ↦ let fails : is_among xs k ≡ true = among-take xs n k holds in cc
  | inr fails ↦ fails
]

-- a number that is among some isn't one that isn't
pub among_apart : (xs : List ℕ) (j k : ℕ) → is_among xs j ≡ true → is_among xs k ≡ false → j ≢ k
among_apart xs j k held out same = let both : is_among xs j ≡ is_among xs k = ap (is_among xs) same in absurd (cc)

-- ---- distinct numbers

pub distinct_join : (xs ys : List ℕ) → are_distinct xs ≡ true → are_distinct ys ≡ true → ((k : ℕ) → is_among ys k ≡ true → is_among xs k ≡ false) → are_distinct (xs ++ ys) ≡ true
distinct_join [] ys dx dy apart = dy
distinct_join (x ∷ xs) ys dx dy apart =
    let joined : is_among (xs ++ ys) x ≡ (is_among xs x || is_among ys x) = is_among_append xs ys x in
    let dxs : are_distinct xs ≡ true = grind (arith, nat_tests) in
    let out : is_among xs x ≡ false = grind (arith, nat_tests) in
    let rest : are_distinct (xs ++ ys) ≡ true = distinct_join xs ys dxs dy (λ k h. let fails : is_among (x ∷ xs) k ≡ false = apart k h in grind (arith, nat_tests)) in
    let not_y : is_among ys x ≡ false = elim (cases_Bool (is_among ys x)) [
      | inl holds ↦ let fails : is_among (x ∷ xs) x ≡ false = apart x holds in grind (arith, nat_tests)
      | inr fails ↦ fails
    ] in
    grind (arith, nat_tests)

pub distinct_more : (xs ys : List ℕ) (k : ℕ) → are_distinct (xs ++ ys) ≡ true → is_among (xs ++ ys) k ≡ false → are_distinct ((xs ++ k ∷ []) ++ ys) ≡ true
distinct_more xs ys k d out =
    let parts = distinct_parts xs ys d in
    let right : is_among (xs ++ ys) k ≡ (is_among xs k || is_among ys k) = is_among_append xs ys k in
    let out_xs : is_among xs k ≡ false = grind (arith, nat_tests) in
    let out_ys : is_among ys k ≡ false = grind (arith, nat_tests) in
    distinct_join (xs ++ k ∷ []) ys (distinct_push xs k parts.first out_xs) parts.second (λ j held.
    let other : is_among xs j ≡ false = parts.apart j held in
    let differs : j ≢ k = among_apart ys j k held out_ys in
    let turned : k ≢ j = λ e. differs (sym e) in
    let inner : is_among (xs ++ k ∷ []) j ≡ (is_among xs j || is_among (k ∷ []) j) = is_among_append xs (k ∷ []) j in
    grind (arith, nat_tests))

-- what is missing is distinct
pub missing_distinct : (xs : List ℕ) (a : ℕ) → are_distinct (missing_below xs a) ≡ true
missing_distinct xs zero = refl
missing_distinct xs (suc a) =
    let rest : are_distinct (missing_below xs a) ≡ true = missing_distinct xs a in
    elim (cases_Bool (is_among xs a)) [
      | inl there ↦ grind (arith, nat_tests)
      | inr out ↦
          let new : is_among (missing_below xs a) a ≡ false = elim (cases_Bool (is_among (missing_below xs a) a)) [
            | inl held ↦ absurd (let low : (a < a) × (is_among xs a ≡ false) = missing-among xs a a held in omega (arith, low.0))
            | inr none ↦ none
          ] in
          let whole : are_distinct (missing_below xs a ++ a ∷ []) ≡ true = distinct_push (missing_below xs a) a rest new in
          grind (arith, nat_tests)
    ]

-- ---- how many

pub missing_past : (x : ℕ) (xs : List ℕ) (a : ℕ) → a ≤ x → missing_below (x ∷ xs) a ≡ missing_below xs a
missing_past x xs zero l = refl
missing_past x xs (suc a) l = let rest : missing_below (x ∷ xs) a ≡ missing_below xs a = missing_past x xs a (omega arith) in grind (arith, nat_tests)

missing_less : (x : ℕ) (xs : List ℕ) (a : ℕ) → length (missing_below xs a) ≤ length (missing_below (x ∷ xs) a) + 1
missing_less x xs zero = omega arith
missing_less x xs (suc a) =
    let rest : length (missing_below xs a) ≤ length (missing_below (x ∷ xs) a) + 1 = missing_less x xs a in
    let more : length (missing_below xs a ++ a ∷ []) ≡ length (missing_below xs a) + 1 = length-append (missing_below xs a) (a ∷ []) in
    let more_too : length (missing_below (x ∷ xs) a ++ a ∷ []) ≡ length (missing_below (x ∷ xs) a) + 1 = length-append (missing_below (x ∷ xs) a) (a ∷ []) in
    elim (cases_eq x a) [
      | inl same ↦ let past : missing_below (x ∷ xs) a ≡ missing_below xs a = missing_past x xs a (omega arith) in grind (arith, nat_tests)
      | inr apart ↦ grind (arith, nat_tests)
    ]

pub missing_all : (a : ℕ) → length (missing_below [] a) ≡ a
missing_all zero = refl
missing_all (suc a) = omega (arith, missing_all a, length-append (missing_below [] a) (a ∷ []))

-- what is missing and what isn't are all of it
pub missing_count : (xs : List ℕ) (a : ℕ) → a ≤ length (missing_below xs a) + length xs
missing_count [] a = omega (arith, missing_all a)
missing_count (x ∷ xs) a = omega (arith, missing_count xs a, missing_less x xs a)

-- different numbers that aren't taken have different places below n
map_distinct : (f : ℕ → ℕ) (taken : List ℕ) (a : ℕ) → ((j k : ℕ) → j < k → k < a → is_among taken j ≡ false → is_among taken k ≡ false → f j ≢ f k) → are_distinct (map f (missing_below taken a)) ≡ true
map_distinct f taken zero inj = refl
map_distinct f taken (suc a) inj =
    let rest : are_distinct (map f (missing_below taken a)) ≡ true = map_distinct f taken a (λ j k l b p q. inj j k l (omega arith) p q) in
    elim (cases_Bool (is_among taken a)) [
      | inl holds ↦ grind (arith, nat_tests)
      | inr out ↦
          let new : is_among (map f (missing_below taken a)) (f a) ≡ false = elim (cases_Bool (is_among (map f (missing_below taken a)) (f a))) [
            | inl held ↦
                let r = number_of f (missing_below taken a) (f a) held in
                let low : (r.0 < a) × (is_among taken r.0 ≡ false) = missing-among taken a r.0 r.1 in
                absurd (inj r.0 a low.0 (omega arith) low.1 out r.2)
            | inr fails ↦ fails
          ] in
          let whole : are_distinct (map f (missing_below taken a) ++ f a ∷ []) ≡ true = distinct_push (map f (missing_below taken a)) (f a) rest new in
          let moved : are_distinct (map f (missing_below taken a ++ a ∷ [])) ≡ true = ap are_distinct (map-append f (missing_below taken a) (a ∷ [])) ∙ whole in
          grind (arith, nat_tests)
    ]

pub few_places : (f : ℕ → ℕ) (taken : List ℕ) (a n : ℕ) → ((j k : ℕ) → j < k → k < a → is_among taken j ≡ false → is_among taken k ≡ false → f j ≢ f k) → ((k : ℕ) → k < a → is_among taken k ≡ false → f k < n) → a ≤ n + length taken
few_places f taken a n inj below =
    let few : length (map f (missing_below taken a)) ≤ n = few_below (map f (missing_below taken a)) n (map_distinct f taken a inj) (λ y h.
    let r = number_of f (missing_below taken a) y h in
    let low : (r.0 < a) × (is_among taken r.0 ≡ false) = missing-among taken a r.0 r.1 in
    let fits : f r.0 < n = below r.0 low.0 low.1 in
    omega (arith, fits, r.2)) in
    omega (arith, few, length-map (missing_below taken a) f, missing_count taken a)
