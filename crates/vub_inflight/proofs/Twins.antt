-- The first two entries of one counter are found among neighbours in the order of counters.
use Rattle.std.proofs.Common.{◌≡◌, ◌≢◌, ◌≤◌, ◌<◌, ◌⊎◌, ℕ, zero, suc, Bool, true, false, cond, ◌+◌, ◌-◌, List, [], ◌∷◌, ◌++◌, length, get_or, drop, refl, ap, sym, ◌∙◌, subst, inl, inr, arith}
use Rattle.std.specs.Prelude.{◌==◌, ◌||◌, nat_lt, Option, Some, None, ⊤}
use Rattle.std.proofs.lemmas.List.{append-nil, drop_more, length-drop}
use Rattle.std.specs.List.{find, AllByRecursion}
use Rattle.std.specs.Option.{option_or, option_map}
use Rattle.std.proofs.lemmas.Bool.Decides.{nat_tests}
use Rattle.std.proofs.lemmas.Bool.{cases_eq}
use Rattle.vub_base.specs.declared.pending.Pending.{Pending}
use Rattle.vub_base.specs.Pending.{precedes}
use Rattle.vub_device.specs.Past.{is_among}
use Rattle.vub_device.specs.Places.{are_distinct}
use Rattle.vub_inflight.specs.Entries.{heads_of, CountersRise, with_counter, same_counter, entry_at, by_index, by_counter}
use Rattle.vub_inflight.specs.Neighbours.{earlier, twin, twins}
use Rattle.vub_inflight.proofs.Each.{all_weaker, all_append}
use Rattle.vub_inflight.proofs.EntryLemmas.{AreOrdered, ordered_sorted, among_sorted, all_by_index, all_by_counter, distinct_by_counter}

-- two heads of one counter, the lower first, and no pair of heads of one counter stands before them
pub record AreFirst (counter : ℕ → ℕ) (held : ℕ → Bool) (i j : ℕ) : Type 0 where
  pub first : held i ≡ true
  pub second : held j ≡ true
  pub rising : i < j
  pub same : counter i ≡ counter j
  pub least : (k l : ℕ) → held k ≡ true → held l ≡ true → k < l → counter k ≡ counter l → (i < k) ⊎ ((i ≡ k) × (j ≤ l))

abbrev pub NoneShare : (ℕ → ℕ) → (ℕ → Bool) → Type 0
NoneShare counter held = (k l : ℕ) → held k ≡ true → held l ≡ true → k < l → counter k ≢ counter l

abbrev pub Shares : (ℕ → ℕ) → (ℕ → Bool) → Option (ℕ × ℕ) → Type 0
Shares counter held None = NoneShare counter held
Shares counter held (Some (i, j)) = AreFirst counter held i j

pair_is : (a b c d : ℕ) → a ≡ c → b ≡ d → ◌≡◌ {A = Option (ℕ × ℕ)} (Some (a, b)) (Some (c, d))
pair_is a b c d e f = cc

-- there is one answer
pub shares_once : (counter : ℕ → ℕ) (p q : ℕ → Bool) (o r : Option (ℕ × ℕ)) → ((i : ℕ) → p i ≡ q i) → Shares counter p o → Shares counter q r → o ≡ r
shares_once c p q None None same a b = refl
shares_once c p q None (Some (k, l)) same a b = absurd (a k l (same k ∙ b.first) (same l ∙ b.second) b.rising b.same)
shares_once c p q (Some (i, j)) None same a b = absurd (b i j (sym (same i) ∙ a.first) (sym (same j) ∙ a.second) a.rising a.same)
shares_once c p q (Some (i, j)) (Some (k, l)) same a b =
    let here = a.least k l (same k ∙ b.first) (same l ∙ b.second) b.rising b.same in
    let there = b.least i j (sym (same i) ∙ a.first) (sym (same j) ∙ a.second) a.rising a.same in
    pair_is i j k l (grind arith) (grind arith)

held_or : (x k : ℕ) (q : ℕ → Bool) → ((x == k) || q k) ≡ true → (x ≡ k) ⊎ (q k ≡ true)
held_or x k q h = elim (cases_eq x k) [ inl same ↦ inl same | inr apart ↦ inr (grind (arith, nat_tests)) ]

held_first : (x : ℕ) (q : ℕ → Bool) → ((x == x) || q x) ≡ true
held_first x q = grind (arith, nat_tests)

held_rest : (x k : ℕ) (q : ℕ → Bool) → q k ≡ true → ((x == k) || q k) ≡ true
held_rest x k q h = grind (arith, nat_tests)

-- one head more that shares its counter with none
shares_rest : (c : ℕ → ℕ) (q : ℕ → Bool) (x : ℕ) (r : Option (ℕ × ℕ)) → ((l : ℕ) → q l ≡ true → c x ≢ c l) → Shares c q r → Shares c (λ i. (x == i) || q i) r
shares_rest c q x None alone s = λ k l a b up same. go k l up same (held_or x k q a) (held_or x l q b)
  where
    go : (k l : ℕ) → k < l → c k ≡ c l → (x ≡ k) ⊎ (q k ≡ true) → (x ≡ l) ⊎ (q l ≡ true) → ⊥
    go k l up same (inl a) (inl b) = omega (arith, up, a, b)
    go k l up same (inl a) (inr b) = alone l b (ap c a ∙ same)
    go k l up same (inr a) (inl b) = alone k a (ap c b ∙ sym same)
    go k l up same (inr a) (inr b) = s k l a b up same
shares_rest c q x (Some (i, j)) alone s = record {
  first = held_rest x i q s.first;
  second = held_rest x j q s.second;
  rising = s.rising;
  same = s.same;
  least = λ k l a b up same. go k l up same (held_or x k q a) (held_or x l q b);
}
  where
    go : (k l : ℕ) → k < l → c k ≡ c l → (x ≡ k) ⊎ (q k ≡ true) → (x ≡ l) ⊎ (q l ≡ true) → (i < k) ⊎ ((i ≡ k) × (j ≤ l))
    go k l up same (inl a) (inl b) = absurd (omega (arith, up, a, b))
    go k l up same (inl a) (inr b) = absurd (alone l b (ap c a ∙ same))
    go k l up same (inr a) (inl b) = absurd (alone k a (ap c b ∙ sym same))
    go k l up same (inr a) (inr b) = s.least k l a b up same

-- one head more that shares its counter, first with this one, and is below the pairs of the rest
shares_first : (c : ℕ → ℕ) (q : ℕ → Bool) (x y : ℕ) → q y ≡ true → x < y → c x ≡ c y → ((l : ℕ) → q l ≡ true → c x ≡ c l → y ≤ l)
    → ((k l : ℕ) → q k ≡ true → q l ≡ true → k < l → c k ≡ c l → x < k) → AreFirst c (λ i. (x == i) || q i) x y
shares_first c q x y held up same nearest lower = record {
  first = held_first x q;
  second = held_rest x y q held;
  rising = up;
  same = same;
  least = λ k l a b above share. go k l above share (held_or x k q a) (held_or x l q b);
}
  where
    go : (k l : ℕ) → k < l → c k ≡ c l → (x ≡ k) ⊎ (q k ≡ true) → (x ≡ l) ⊎ (q l ≡ true) → (x < k) ⊎ ((x ≡ k) × (y ≤ l))
    go k l above share (inl a) (inl b) = absurd (omega (arith, above, a, b))
    go k l above share (inl a) (inr b) = inr (a, nearest l b (ap c a ∙ share))
    go k l above share (inr a) (inl b) = absurd (let low : y ≤ k = nearest k a (ap c b ∙ sym share) in omega (arith, above, b, low, up))
    go k l above share (inr a) (inr b) = inl (lower k l a b above share)

-- ---- by index

-- each head is below those after it
abbrev pub HeadsRise : List Pending → Type 0
HeadsRise [] = ⊤
HeadsRise (x ∷ xs) = AllByRecursion (λ (e : Pending). x.head < e.head) xs × HeadsRise xs

heads_rise_push : (xs : List Pending) (e : Pending) → HeadsRise xs → AllByRecursion (λ (x : Pending). x.head < e.head) xs → HeadsRise (xs ++ e ∷ [])
heads_rise_push [] e r b = (tt, tt)
heads_rise_push (x ∷ xs) e r b = (all_append (λ y. x.head < y.head) xs (e ∷ []) r.0 (b.0, tt), heads_rise_push xs e r.1 b.1)

heads_rise_by_index : (c u : ℕ → ℕ) (p : ℕ → Bool) (n : ℕ) → HeadsRise (by_index c u p n)
heads_rise_by_index c u p zero = tt
heads_rise_by_index c u p (suc n) =
    let rest : HeadsRise (by_index c u p n) = heads_rise_by_index c u p n in
    let go : (b : Bool) → HeadsRise (by_index c u p n ++ cond b (entry_at c u n ∷ []) []) = elim [
      | true ↦ heads_rise_push (by_index c u p n) (entry_at c u n) rest (all_by_index (λ x. x.head < n) c u p n (λ i l is. l))
      | false ↦ subst HeadsRise (sym (append-nil (by_index c u p n))) rest
    ] in
    go (p n)

-- the counter of each entry is that of its head
abbrev pub CountersOf : (ℕ → ℕ) → List Pending → Type 0
CountersOf c xs = AllByRecursion (λ (e : Pending). e.counter ≡ c e.head) xs

-- what the first entry with a counter is
abbrev IsFirstWith : (ℕ → ℕ) → (ℕ → Bool) → ℕ → Option ℕ → Type 0
IsFirstWith c q v None = (l : ℕ) → q l ≡ true → v ≢ c l
IsFirstWith c q v (Some h) = (q h ≡ true) × ((c h ≡ v) × ((l : ℕ) → q l ≡ true → v ≡ c l → h ≤ l))

all_above : (k : ℕ) (xs : List Pending) (l : ℕ) → AllByRecursion (λ (e : Pending). k < e.head) xs → is_among (heads_of xs) l ≡ true → k < l
all_above k [] l a held = absurd (let fails : false ≡ true = held in cc)
all_above k (x ∷ xs) l a held = elim (held_or x.head l (is_among (heads_of xs)) held) [
  | inl same ↦ let first : k < x.head = a.0 in omega (arith, first, same)
  | inr there ↦ all_above k xs l a.1 there
]

first_with : (c : ℕ → ℕ) (v : ℕ) (xs : List Pending) → HeadsRise xs → CountersOf c xs → IsFirstWith c (is_among (heads_of xs)) v (with_counter v xs)
first_with c v [] r counters = λ l held same. (let fails : false ≡ true = held in cc)
first_with c v (x ∷ xs) r counters =
    let rest : IsFirstWith c (is_among (heads_of xs)) v (with_counter v xs) = first_with c v xs r.1 counters.1 in
    let here : x.counter ≡ c x.head = counters.0 in
    let q : ℕ → Bool = is_among (heads_of xs) in
    let go : (b : Bool) → (x.counter == v) ≡ b → IsFirstWith c (λ i. (x.head == i) || q i) v (option_map (λ (e : Pending). e.head) (cond b (Some x) (find (λ (e : Pending). e.counter == v) xs))) = elim [
      | true ↦ λ is. (
        held_first x.head q,
        (
          let same : x.counter ≡ v = grind (arith, nat_tests) in sym here ∙ same,
          (λ l held same. elim (held_or x.head l q held) [
            | inl first ↦ omega (arith, first)
            | inr there ↦ let above : x.head < l = all_above x.head xs l r.0 there in omega (arith, above)
          ]),
        ),
      )
      | false ↦ λ is.
          let apart : v ≢ c x.head = let differs : x.counter ≢ v = grind (arith, nat_tests) in (λ e. differs (here ∙ sym e)) in
          widen q v x.head (with_counter v xs) apart rest
    ] in
    go (x.counter == v) refl
  where
    widen : (q : ℕ → Bool) (w k : ℕ) (o : Option ℕ) → w ≢ c k → IsFirstWith c q w o → IsFirstWith c (λ i. (k == i) || q i) w o
    widen q w k None apart f = λ l held same. elim (held_or k l q held) [ inl first ↦ apart (same ∙ sym (ap c first)) | inr there ↦ f l there same ]
    widen q w k (Some h) apart f = (held_rest k h q f.0, (f.1.0, (λ l held same. elim (held_or k l q held) [ inl first ↦ absurd (apart (same ∙ sym (ap c first))) | inr there ↦ f.1.1 l there same ])))

shares_by_index : (c : ℕ → ℕ) (xs : List Pending) → HeadsRise xs → CountersOf c xs → Shares c (is_among (heads_of xs)) (same_counter xs)
shares_by_index c [] r counters = λ k l a b up same. (let fails : false ≡ true = a in cc)
shares_by_index c (x ∷ xs) r counters = step (shares_by_index c xs r.1 counters.1) (with_counter x.counter xs) (first_with c x.counter xs r.1 counters.1)
  where
    here : x.counter ≡ c x.head
    here = counters.0

    step : Shares c (is_among (heads_of xs)) (same_counter xs) → (o : Option ℕ) → IsFirstWith c (is_among (heads_of xs)) x.counter o → Shares c (λ i. (x.head == i) || is_among (heads_of xs) i) (option_or (option_map (λ (head : ℕ). (x.head, head)) o) (same_counter xs))
    step rest None f = shares_rest c (is_among (heads_of xs)) x.head (same_counter xs) (λ l held same. f l held (here ∙ same)) rest
    step rest (Some h) f =
        shares_first c (is_among (heads_of xs)) x.head h f.0 (all_above x.head xs h r.0 f.0) (sym here ∙ sym f.1.0) (λ l held same. f.1.1 l held (here ∙ same)) (λ k l a b up same. all_above x.head xs k r.0 a)

-- ---- by counter

-- a later entry of the first one's counter has a higher head, and none between them has another counter
later_above : (c : ℕ → ℕ) (x : Pending) (xs : List Pending) (l : ℕ) → AllByRecursion (λ (y : Pending). precedes y x ≡ false) xs → CountersOf c xs → x.counter ≡ c x.head → is_among (heads_of xs) l ≡ true → (x.counter ≤ c l) × (x.counter ≡ c l → x.head ≤ l)
later_above c x [] l o counters here held = absurd (let fails : false ≡ true = held in cc)
later_above c x (y ∷ xs) l o counters here held = elim (held_or y.head l (is_among (heads_of xs)) held) [
  | inl first ↦
      let after : precedes y x ≡ false = o.0 in
      let at_l : y.counter ≡ c l = counters.0 ∙ ap c first in
      (grind (arith, nat_tests), (λ same. grind (arith, nat_tests)))
  | inr there ↦ later_above c x xs l o.1 counters.1 here there
]

pub shares_by_counter : (c : ℕ → ℕ) (xs : List Pending) → AreOrdered xs → CountersOf c xs → are_distinct (heads_of xs) ≡ true → Shares c (is_among (heads_of xs)) (twins xs)
shares_by_counter c [] o counters d = λ k l a b up same. (let fails : false ≡ true = a in cc)
shares_by_counter c (x ∷ []) o counters d = shares_rest c (λ i. false) x.head None (λ l held same. (let fails : false ≡ true = held in cc)) (λ k l a b up same. (let fails : false ≡ true = a in cc))
shares_by_counter c (x ∷ y ∷ xs) o counters d = go (x.counter == y.counter) refl (twins (y ∷ xs)) (shares_by_counter c (y ∷ xs) o.1 counters.1 (grind arith))
  where
    q : ℕ → Bool
    q = is_among (heads_of (y ∷ xs))

    here : x.counter ≡ c x.head
    here = counters.0

    next : y.counter ≡ c y.head
    next = counters.1.0

    y_held : q y.head ≡ true
    y_held = held_first y.head (is_among (heads_of xs))

    x_out : q x.head ≡ false
    x_out = grind arith

    apart : (l : ℕ) → q l ≡ true → x.head ≢ l
    apart l held same = let at_x : q x.head ≡ true = ap q same ∙ held in let fails : false ≡ true = sym x_out ∙ at_x in cc

    above : (l : ℕ) → q l ≡ true → x.counter ≡ c l → x.head < l
    above l held same =
        let le : x.head ≤ l = (later_above c x (y ∷ xs) l o.0 counters.1 here held).1 same in
        let differs : x.head ≢ l = apart l held in
        omega (arith, le, differs)

    -- those of its counter begin with its neighbour
    nearest : (l : ℕ) → q l ≡ true → x.counter ≡ c l → (x.counter ≡ y.counter) × (y.head ≤ l)
    nearest l held same = elim (held_or y.head l (is_among (heads_of xs)) held) [
      | inl first ↦ (same ∙ sym (ap c first) ∙ sym next, omega (arith, first))
      | inr there ↦
          let low : x.counter ≤ y.counter = let both = (later_above c x (y ∷ xs) y.head o.0 counters.1 here y_held).0 in omega (arith, both, next) in
          let high = later_above c y xs l o.1.0 counters.1.1 next there in
          let up : y.counter ≤ c l = high.0 in
          let share : x.counter ≡ y.counter = omega (arith, low, up, same) in
          (share, high.1 (sym share ∙ same))
    ]

    pair : x.counter ≡ y.counter → ((k l : ℕ) → q k ≡ true → q l ≡ true → k < l → c k ≡ c l → x.head < k) → AreFirst c (λ i. (x.head == i) || q i) x.head y.head
    pair share lower = shares_first c q x.head y.head y_held (above y.head y_held (share ∙ next)) (sym here ∙ share ∙ next) (λ l held same. (nearest l held (here ∙ same)).1) lower

    go : (b : Bool) → (x.counter == y.counter) ≡ b → (r : Option (ℕ × ℕ)) → Shares c q r → Shares c (λ i. (x.head == i) || q i) (earlier (cond b (Some (x.head, y.head)) None) r)
    go false is r s = shares_rest c q x.head r (λ l held same. (let share : x.counter ≡ y.counter = (nearest l held (here ∙ same)).0 in let differs : x.counter ≢ y.counter = grind (arith, nat_tests) in differs share)) s
    go true is None s = pair (grind (arith, nat_tests)) (λ k l a b up same. absurd (s k l a b up same))
    go true is (Some (i, j)) s = choose (nat_lt i x.head) refl
      where
        share : x.counter ≡ y.counter
        share = grind (arith, nat_tests)

        choose : (t : Bool) → nat_lt i x.head ≡ t → Shares c (λ k. (x.head == k) || q k) (cond t (Some (i, j)) (Some (x.head, y.head)))
        choose true lower = record {
          first = held_rest x.head i q s.first;
          second = held_rest x.head j q s.second;
          rising = s.rising;
          same = s.same;
          least = λ k l a b up same. elim (held_or x.head k q a) [
            | inl first ↦ inl (let less : i < x.head = grind (arith, nat_tests) in omega (arith, less, first))
            | inr there ↦ elim (held_or x.head l q b) [
              | inl second ↦ absurd (let up_x : x.head < k = above k there (here ∙ ap c second ∙ sym same) in omega (arith, up, up_x, second))
              | inr at_l ↦ s.least k l there at_l up same
            ]
          ];
        }
        choose false higher = pair share (λ k l a b up same.
            let not_less : x.head ≤ i = grind (arith, nat_tests) in
            let differs : x.head ≢ i = apart i s.first in
            elim (s.least k l a b up same) [ inl less ↦ omega (arith, not_less, differs, less) | inr at_i ↦ omega (arith, not_less, differs, at_i.0) ])

-- the first two entries of one counter are the first neighbours of one counter
pub same_counter_twins : (c u : ℕ → ℕ) (p : ℕ → Bool) (n : ℕ) → same_counter (by_index c u p n) ≡ twins (by_counter c u p n)
same_counter_twins c u p n =
    shares_once c (is_among (heads_of (by_index c u p n))) (is_among (heads_of (by_counter c u p n))) (same_counter (by_index c u p n)) (twins (by_counter c u p n)) (λ i. sym (among_sorted i (by_index c u p n)))
    (shares_by_index c (by_index c u p n) (heads_rise_by_index c u p n) (all_by_index (λ e. e.counter ≡ c e.head) c u p n (λ i l is. refl)))
    (shares_by_counter c (by_counter c u p n) (ordered_sorted (by_index c u p n)) (all_by_counter (λ e. e.counter ≡ c e.head) c u p n (λ i l is. refl)) (distinct_by_counter c u p n))

-- none where the counters rise
pub no_twins : (xs : List Pending) → CountersRise xs → twins xs ≡ None
no_twins [] r = refl
no_twins (x ∷ []) r = refl
no_twins (x ∷ y ∷ xs) r =
    let rest : twins (y ∷ xs) ≡ None = no_twins (y ∷ xs) r.1 in
    let differs : x.counter < y.counter = r.0.0 in
    let none : twin x y ≡ None = grind (arith, nat_tests) in
    ap (λ (o : Option (ℕ × ℕ)). earlier o (twins (y ∷ xs))) none ∙ rest

-- and entries in order of which no neighbours have one counter
pub rise_without_twins : (xs : List Pending) → AreOrdered xs → twins xs ≡ None → CountersRise xs
rise_without_twins [] o none = tt
rise_without_twins (x ∷ []) o none = (tt, tt)
rise_without_twins (x ∷ y ∷ xs) o none =
    let both = none_earlier (twin x y) (twins (y ∷ xs)) none in
    let rest : CountersRise (y ∷ xs) = rise_without_twins (y ∷ xs) o.1 both.1 in
    let after : precedes y x ≡ false = o.0.0 in
    let differs : x.counter ≢ y.counter = λ same. (let equal : (x.counter == y.counter) ≡ true = grind (arith, nat_tests) in let found : twin x y ≡ Some (x.head, y.head) = grind arith in let fails : ◌≡◌ {A = Option (ℕ × ℕ)} (Some (x.head, y.head)) None = sym found ∙ both.0 in cc) in
    let up : x.counter < y.counter = grind (arith, nat_tests) in
    ((up, all_weaker (λ e. y.counter < e.counter) (λ e. x.counter < e.counter) xs (λ e l. omega (arith, up, l)) rest.0), rest)
  where
    none_earlier : (a b : Option (ℕ × ℕ)) → earlier a b ≡ None → (a ≡ None) × (b ≡ None)
    none_earlier None b e = (refl, e)
    none_earlier (Some a) None e = absurd (let fails : ◌≡◌ {A = Option (ℕ × ℕ)} (Some a) None = e in cc)
    none_earlier (Some a) (Some b) e = go (nat_lt b.0 a.0) e
      where
        go : (t : Bool) → cond t (Some b) (Some a) ≡ None → (Some a ≡ None) × (Some b ≡ None)
        go true e' = absurd (let fails : ◌≡◌ {A = Option (ℕ × ℕ)} (Some b) None = e' in cc)
        go false e' = absurd (let fails : ◌≡◌ {A = Option (ℕ × ℕ)} (Some a) None = e' in cc)

-- ---- neighbours in turn

earlier_none : (a : Option (ℕ × ℕ)) → earlier a None ≡ a
earlier_none None = refl
earlier_none (Some a) = refl

earlier_assoc : (a b c : Option (ℕ × ℕ)) → earlier (earlier a b) c ≡ earlier a (earlier b c)
earlier_assoc None b c = refl
earlier_assoc (Some a) None c = refl
earlier_assoc (Some a) (Some b) None = earlier_none (earlier (Some a) (Some b))
earlier_assoc (Some a) (Some b) (Some c) = grind (arith, nat_tests)

-- one pair of neighbours more
pub twins_go_on : (xs : List Pending) (i : ℕ) (d e : Pending) (least new : Option (ℕ × ℕ)) → 1 ≤ i → i < length xs → new ≡ earlier least (twin (get_or xs (i - 1) d) (get_or xs i e)) → earlier least (twins (drop (i - 1) xs)) ≡ twins xs
    → earlier new (twins (drop (i + 1 - 1) xs)) ≡ twins xs
twins_go_on xs i d e least new some low is so_far =
    let before : i - 1 + 1 ≡ i = omega (arith, some) in
    let after : i + 1 - 1 ≡ i = omega arith in
    let x : Pending = get_or xs (i - 1) d in
    let y : Pending = get_or xs i e in
    let first : drop (i - 1) xs ≡ x ∷ drop (i - 1 + 1) xs = drop_more xs (i - 1) d (omega (arith, low)) in
    let second : drop i xs ≡ y ∷ drop (i + 1) xs = drop_more xs i e low in
    let both : drop (i - 1) xs ≡ x ∷ (y ∷ drop (i + 1) xs) = first ∙ ap (λ (k : ℕ). x ∷ drop k xs) before ∙ ap (λ (ys : List Pending). x ∷ ys) second in
    let here : twins (drop (i - 1) xs) ≡ earlier (twin x y) (twins (drop i xs)) = ap twins both ∙ ap (λ (ys : List Pending). earlier (twin x y) (twins ys)) (sym second) in
    let joined : earlier (earlier least (twin x y)) (twins (drop i xs)) ≡ twins xs = earlier_assoc least (twin x y) (twins (drop i xs)) ∙ ap (earlier least) (sym here) ∙ so_far in
    rw (after, is) joined

pub twins_done : (xs : List Pending) (i : ℕ) (least : Option (ℕ × ℕ)) → 1 ≤ i → length xs ≤ i → earlier least (twins (drop (i - 1) xs)) ≡ twins xs → least ≡ twins xs
twins_done xs i least some past so_far =
    let one : (ys : List Pending) → length ys ≤ 1 → twins ys ≡ None = λ ys few. short ys few in
    let none : twins (drop (i - 1) xs) ≡ None = one (drop (i - 1) xs) (omega (arith, some, past, length-drop (i - 1) xs)) in
    sym (earlier_none least) ∙ ap (earlier least) (sym none) ∙ so_far
  where
    short : (ys : List Pending) → length ys ≤ 1 → twins ys ≡ None
    short [] few = refl
    short (y ∷ []) few = refl
    short (y ∷ z ∷ ys) few = absurd (omega (arith, few))
