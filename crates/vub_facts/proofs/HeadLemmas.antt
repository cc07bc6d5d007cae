-- Lists of heads, and what is left of them without others.
use Rattle.std.proofs.Common.{◌≡◌, ◌≢◌, ◌≤◌, ◌<◌, ℕ, zero, suc, ◌+◌, true, false, not, List, [], ◌∷◌, ◌++◌, length, map, refl, ap, sym, ◌∙◌, inl, inr, arith}
use Rattle.std.specs.Prelude.{◌||◌, ◌&&◌, ◌==◌, remove, slice_get, Some}
use Rattle.std.specs.List.{list_any, AllByRecursion, IsDistinct as IsDistinctBy}
use Rattle.std.proofs.lemmas.Map.Steps.{length-le_from_distinct_below}
use Rattle.std.proofs.lemmas.Bool.{cases_Bool, cases_eq}
use Rattle.std.proofs.lemmas.Bool.Decides.{nat_tests}
use Rattle.vub_device.specs.Past.{is_among}
use Rattle.vub_device.specs.Places.{are_distinct}
use Rattle.vub_device.proofs.Numbers.{is_among_append}
pub use Rattle.vub_inflight.proofs.DistinctLemmas.{distinct_push, few_below}
use Rattle.vub_facts.specs.Facts.{without}

-- ---- members

pub among_without : (those heads : List ℕ) (h : ℕ) → is_among (without those heads) h ≡ (is_among heads h && not (is_among those h))
among_without those [] h = refl
among_without those (x ∷ heads) h =
    let rest : is_among (without those heads) h ≡ (is_among heads h && not (is_among those h)) = among_without those heads h in
    elim (cases_eq x h) [
      | inl same ↦ let here : is_among those x ≡ is_among those h = ap (is_among those) same in grind (arith, nat_tests)
      | inr apart ↦ grind (arith, nat_tests)
    ]

pub among_get : (xs : List ℕ) (i h : ℕ) → slice_get xs i ≡ Some h → is_among xs h ≡ true
among_get [] i h e = absurd (cc)
among_get (x ∷ xs) zero h e = let same : x ≡ h = cc in grind (arith, nat_tests)
among_get (x ∷ xs) (suc i) h e = let rest : is_among xs h ≡ true = among_get xs i h e in grind (arith, nat_tests)

-- ---- distinct heads

-- the parts of two lists in one
pub record Parts (xs ys : List ℕ) : Type 0 where
  pub first : are_distinct xs ≡ true
  pub second : are_distinct ys ≡ true
  pub apart : (h : ℕ) → is_among ys h ≡ true → is_among xs h ≡ false

pub distinct_parts : (xs ys : List ℕ) → are_distinct (xs ++ ys) ≡ true → Parts xs ys
distinct_parts [] ys d = record { first = refl; second = d; apart = λ h held. refl }
distinct_parts (x ∷ xs) ys d =
    let tail : are_distinct (xs ++ ys) ≡ true = grind (arith, nat_tests) in
    let head : is_among (xs ++ ys) x ≡ false = grind (arith, nat_tests) in
    let rest : Parts xs ys = distinct_parts xs ys tail in
    let joined : is_among (xs ++ ys) x ≡ (is_among xs x || is_among ys x) = is_among_append xs ys x in
    let first : are_distinct xs ≡ true = rest.first in
    record {
      first = grind (arith, nat_tests);
      second = rest.second;
      apart = λ h held.
          let other : is_among xs h ≡ false = rest.apart h held in
          elim (cases_eq x h) [
            | inl same ↦ let there : is_among ys x ≡ is_among ys h = ap (is_among ys) same in grind (arith, nat_tests)
            | inr apart ↦ grind (arith, nat_tests)
          ];
    }

pub distinct_without : (those heads : List ℕ) → are_distinct heads ≡ true → are_distinct (without those heads) ≡ true
distinct_without those [] d = refl
distinct_without those (x ∷ heads) d =
    let out : is_among heads x ≡ false = grind (arith, nat_tests) in
    let rest : are_distinct (without those heads) ≡ true = distinct_without those heads (grind (arith, nat_tests)) in
    let kept : is_among (without those heads) x ≡ (is_among heads x && not (is_among those x)) = among_without those heads x in
    grind (arith, nat_tests)

-- ---- without others

pub without_none : (heads : List ℕ) → without [] heads ≡ heads
without_none [] = refl
without_none (x ∷ heads) = ap (λ (xs : List ℕ). x ∷ xs) (without_none heads)

-- in two goes
pub without_both : (xs ys heads : List ℕ) → without ys (without xs heads) ≡ without (xs ++ ys) heads
without_both xs ys [] = refl
without_both xs ys (x ∷ heads) =
    let rest : without ys (without xs heads) ≡ without (xs ++ ys) heads = without_both xs ys heads in
    let joined : is_among (xs ++ ys) x ≡ (is_among xs x || is_among ys x) = is_among_append xs ys x in
    grind (arith, nat_tests)

pub without_push : (those heads : List ℕ) (h : ℕ) → is_among those h ≡ false → without those (heads ++ h ∷ []) ≡ without those heads ++ h ∷ []
without_push those [] h out = grind (arith, nat_tests)
without_push those (x ∷ heads) h out =
    let rest : without those (heads ++ h ∷ []) ≡ without those heads ++ h ∷ [] = without_push those heads h out in
    grind (arith, nat_tests)

-- where none of them is there all are left
pub without_other : (x : ℕ) (heads : List ℕ) → is_among heads x ≡ false → without (x ∷ []) heads ≡ heads
without_other x [] out = refl
without_other x (y ∷ heads) out =
    let rest : without (x ∷ []) heads ≡ heads = without_other x heads (grind (arith, nat_tests)) in
    let differs : (x == y) ≡ false = grind (arith, nat_tests) in
    grind (arith, nat_tests)

-- one is taken out of its place
pub remove_is_without : (xs : List ℕ) (place h : ℕ) → are_distinct xs ≡ true → slice_get xs place ≡ Some h → remove xs place ≡ without (h ∷ []) xs
remove_is_without [] place h d there = absurd (cc)
remove_is_without (x ∷ xs) zero h d there =
    let same : x ≡ h = cc in
    let out : is_among xs h ≡ false = ap (is_among xs) (sym same) ∙ (let gone : is_among xs x ≡ false = grind (arith, nat_tests) in gone) in
    let rest : without (h ∷ []) xs ≡ xs = without_other h xs out in
    let here : without (h ∷ []) (x ∷ xs) ≡ without (h ∷ []) xs = grind (arith, nat_tests) in
    sym (here ∙ rest)
remove_is_without (x ∷ xs) (suc place) h d there =
    let rest : remove xs place ≡ without (h ∷ []) xs = remove_is_without xs place h (grind (arith, nat_tests)) there in
    let held : is_among xs h ≡ true = among_get xs place h there in
    let differs : (h == x) ≡ false = elim (cases_eq h x) [
      | inl same ↦ absurd (let gone : is_among xs h ≡ false = ap (is_among xs) same ∙ (let out : is_among xs x ≡ false = grind (arith, nat_tests) in out) in cc)
      | inr apart ↦ grind (arith, nat_tests)
    ] in
    let here : without (h ∷ []) (x ∷ xs) ≡ x ∷ without (h ∷ []) xs = grind (arith, nat_tests) in
    ap (λ (ys : List ℕ). x ∷ ys) rest ∙ sym here

-- ---- how many are left

one_less : (x : ℕ) (heads : List ℕ) → are_distinct heads ≡ true → is_among heads x ≡ true → length (without (x ∷ []) heads) + 1 ≡ length heads
one_less x [] d held = absurd (let fails : false ≡ true = held in cc)
one_less x (y ∷ heads) d held =
    let tail : are_distinct heads ≡ true = grind (arith, nat_tests) in
    let out : is_among heads y ≡ false = grind (arith, nat_tests) in
    elim (cases_eq y x) [
      | inl same ↦
          let gone : is_among heads x ≡ false = ap (is_among heads) (sym same) ∙ out in
          let rest : without (x ∷ []) heads ≡ heads = without_other x heads gone in
          let here : without (x ∷ []) (y ∷ heads) ≡ without (x ∷ []) heads = grind (arith, nat_tests) in
          omega (arith, ap (λ (xs : List ℕ). length xs) (here ∙ rest))
      | inr apart ↦
          let there : is_among heads x ≡ true = grind (arith, nat_tests) in
          let rest : length (without (x ∷ []) heads) + 1 ≡ length heads = one_less x heads tail there in
          let here : without (x ∷ []) (y ∷ heads) ≡ y ∷ without (x ∷ []) heads = grind (arith, nat_tests) in
          omega (arith, ap (λ (xs : List ℕ). length xs) here, rest)
    ]

-- as many fewer as leave
pub length_without : (those heads : List ℕ) → are_distinct heads ≡ true → are_distinct those ≡ true → ((h : ℕ) → is_among those h ≡ true → is_among heads h ≡ true) → length (without those heads) + length those ≡ length heads
length_without [] heads d e opens = omega (arith, ap (λ (xs : List ℕ). length xs) (without_none heads))
length_without (x ∷ those) heads d e opens =
    let first : is_among heads x ≡ true = opens x (grind (arith, nat_tests)) in
    let less : length (without (x ∷ []) heads) + 1 ≡ length heads = one_less x heads d first in
    let tail : are_distinct those ≡ true = grind (arith, nat_tests) in
    let new : is_among those x ≡ false = grind (arith, nat_tests) in
    let rest : length (without those (without (x ∷ []) heads)) + length those ≡ length (without (x ∷ []) heads) = length_without those (without (x ∷ []) heads) (distinct_without (x ∷ []) heads d) tail (λ h held.
    let kept : is_among (without (x ∷ []) heads) h ≡ (is_among heads h && not (is_among (x ∷ []) h)) = among_without (x ∷ []) heads h in
    let open_too : is_among heads h ≡ true = opens h (grind (arith, nat_tests)) in
    let other : (x == h) ≡ false = elim (cases_eq x h) [
      | inl same ↦ absurd (let fails : is_among those x ≡ true = ap (is_among those) same ∙ held in cc)
      | inr apart ↦ grind (arith, nat_tests)
    ] in
    grind (arith, nat_tests)) in
    omega (arith, less, rest, ap (λ (xs : List ℕ). length xs) (without_both (x ∷ []) those heads))

-- ---- numbers and their heads

pub among_map : (f : ℕ → ℕ) (ks : List ℕ) (k : ℕ) → is_among ks k ≡ true → is_among (map f ks) (f k) ≡ true
among_map f [] k held = absurd (let fails : false ≡ true = held in cc)
among_map f (j ∷ ks) k held = elim (cases_eq j k) [
  | inl same ↦ let at_k : f j ≡ f k = ap f same in grind (arith, nat_tests)
  | inr apart ↦ let rest : is_among ks k ≡ true → is_among (map f ks) (f k) ≡ true = among_map f ks k in grind (arith, nat_tests)
]

-- a head that is among them is that of one of these numbers
pub number_of : (f : ℕ → ℕ) (ks : List ℕ) (h : ℕ) → is_among (map f ks) h ≡ true → (k : ℕ) × (is_among ks k ≡ true) × (f k ≡ h)
number_of f [] h held = absurd (let fails : false ≡ true = held in cc)
number_of f (k ∷ ks) h held = elim (cases_eq (f k) h) [
  | inl same ↦ (k, grind (arith, nat_tests), same)
  | inr apart ↦
      let rest = number_of f ks h (grind (arith, nat_tests)) in
      let there : is_among ks rest.0 ≡ true = rest.1 in
      (rest.0, grind (arith, nat_tests), rest.2)
]

-- of distinct heads each is one number's
pub one_number : (f : ℕ → ℕ) (ns : List ℕ) (x y : ℕ) → are_distinct (map f ns) ≡ true → is_among ns x ≡ true → is_among ns y ≡ true → f x ≡ f y → x ≡ y
one_number f [] x y d a b e = absurd (let fails : false ≡ true = a in cc)
one_number f (z ∷ ns) x y d a b e =
    let in_x : is_among ns x ≡ true → is_among (map f ns) (f x) ≡ true = among_map f ns x in
    let in_y : is_among ns y ≡ true → is_among (map f ns) (f y) ≡ true = among_map f ns y in
    let out : is_among (map f ns) (f z) ≡ false = grind (arith, nat_tests) in
    let rest : is_among ns x ≡ true → is_among ns y ≡ true → x ≡ y = λ p q. one_number f ns x y (grind (arith, nat_tests)) p q e in
    elim (cases_eq z x) [
      | inl zx ↦ elim (cases_eq z y) [
        | inl zy ↦ sym zx ∙ zy
        | inr apart ↦ absurd (
            let y_in : is_among ns y ≡ true = grind (arith, nat_tests) in
            let both : is_among (map f ns) (f z) ≡ true = ap (is_among (map f ns)) (ap f zx ∙ e) ∙ in_y y_in in
            cc)
      ]
      | inr apart ↦
          let x_in : is_among ns x ≡ true = grind (arith, nat_tests) in
          elim (cases_eq z y) [
            | inl zy ↦ absurd (let both : is_among (map f ns) (f z) ≡ true = ap (is_among (map f ns)) (ap f zy ∙ sym e) ∙ in_x x_in in cc)
            | inr other ↦ let y_in : is_among ns y ≡ true = grind (arith, nat_tests) in rest x_in y_in
          ]
    ]

-- a number's head is among those of others exactly where it is one of them
pub same_members : (f : ℕ → ℕ) (ks ns : List ℕ) (x : ℕ) → are_distinct (map f ns) ≡ true → ((k : ℕ) → is_among ks k ≡ true → is_among ns k ≡ true) → is_among ns x ≡ true → is_among (map f ks) (f x) ≡ is_among ks x
same_members f [] ns x d within held = refl
same_members f (k ∷ ks) ns x d within held =
    let rest : is_among (map f ks) (f x) ≡ is_among ks x = same_members f ks ns x d (λ j there. within j (grind (arith, nat_tests))) held in
    elim (cases_eq k x) [
      | inl same ↦ let at_x : f k ≡ f x = ap f same in grind (arith, nat_tests)
      | inr apart ↦ let differs : f k ≢ f x = λ e. apart (one_number f ns k x d (within k (grind (arith, nat_tests))) held e) in grind (arith, nat_tests)
    ]

map_filter : (f : ℕ → ℕ) (ks ns : List ℕ) → ((x : ℕ) → is_among ns x ≡ true → is_among (map f ks) (f x) ≡ is_among ks x) → without (map f ks) (map f ns) ≡ map f (without ks ns)
map_filter f ks [] same = refl
map_filter f ks (x ∷ ns) same =
    let rest : without (map f ks) (map f ns) ≡ map f (without ks ns) = map_filter f ks ns (λ y held. same y (grind (arith, nat_tests))) in
    let here : is_among (map f ks) (f x) ≡ is_among ks x = same x (grind (arith, nat_tests)) in
    elim (cases_Bool (is_among ks x)) [
      | inl holds ↦ grind (arith, nat_tests)
      | inr fails ↦ grind (arith, nat_tests)
    ]

-- numbers taken out, and their heads
pub without_map : (f : ℕ → ℕ) (ks ns : List ℕ) → are_distinct (map f ns) ≡ true → ((k : ℕ) → is_among ks k ≡ true → is_among ns k ≡ true) → without (map f ks) (map f ns) ≡ map f (without ks ns)
without_map f ks ns d within = map_filter f ks ns (λ x held. same_members f ks ns x d within held)
