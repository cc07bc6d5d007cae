-- Why a table is refused, or what it promises.
use Rattle.std.proofs.Common.{◌≡◌, ◌≤◌, ◌<◌, ◌⊎◌, ℕ, zero, suc, ◌+◌, Bool, true, false, cond, List, [], ◌∷◌, length, get_or, refl, ap, sym, ◌∙◌, subst, inl, inr, arith}
use Rattle.std.specs.Prelude.{nat_lt, Option, Some, None, option_map, unwrap_or}
use Rattle.std.proofs.lemmas.Option.{none-some}
use Rattle.std.specs.List.{position_from}
use Rattle.std.specs.Option.{option_or}
use Rattle.std.proofs.lemmas.Bool.{cases_Bool}
use Rattle.std.proofs.lemmas.Bool.Decides.{nat_tests}
use Rattle.std.proofs.lemmas.Iterator.Adapters.{position_from-zero}
use Rattle.std.proofs.lemmas.List.Quantifiers.{position-Some}
use Rattle.vub_memtable.specs.declared.region.Mapped.{Mapped}
use Rattle.vub_memtable.specs.declared.fault.TableFault.{TableFault}
use Rattle.vub_memtable.specs.declared.fault.TableFault.TheVariants.{TooMany}
use Rattle.vub_memtable.specs.Regions.{ShareAddress, ends_past, regions_meet}
use Rattle.vub_memtable.specs.Tables.{most_regions, AddressesApart, IsTable, IsLeastOverlap, IsLeastPast, Refuses, first_overlap, overlap_fault, fault_of}
use Rattle.vub_memtable.proofs.RegionLemmas.{past_is, not_past, share_is, no_share}

-- what is true at the first index at which a test passes
first_is : (p : Mapped → Bool) (xs : List Mapped) (i : ℕ) (d : Mapped) → position_from p 0 xs ≡ Some i → (i < length xs) × (p (get_or xs i d) ≡ true) × ((k : ℕ) → k < i → p (get_or xs k d) ≡ false)
first_is p xs i d found = position-Some p xs i d (position_from-zero p xs ∙ found)

-- where it passes nowhere
none_is : (p : Mapped → Bool) (at : ℕ) (xs : List Mapped) (k : ℕ) (d : Mapped) → position_from p at xs ≡ None → k < length xs → p (get_or xs k d) ≡ false
none_is p at [] k d none below = absurd (omega arith)
none_is p at (x ∷ xs) zero d none below = elim (cases_Bool (p x)) [
  | inl passes ↦ absurd (none-some at (sym none ∙ ap (λ (b : Bool). cond b (Some at) (position_from p (at + 1) xs)) passes))
  | inr fails ↦ fails
]
none_is p at (x ∷ xs) (suc k) d none below = elim (cases_Bool (p x)) [
  | inl passes ↦ absurd (none-some at (sym none ∙ ap (λ (b : Bool). cond b (Some at) (position_from p (at + 1) xs)) passes))
  | inr fails ↦ none_is p (at + 1) xs k d (ap (λ (b : Bool). cond b (Some at) (position_from p (at + 1) xs)) (sym fails) ∙ none) (omega arith)
]

-- ---- overlaps

-- the two numbers, as counted from the start of this list
abbrev pub OverlapFrom : ℕ → List Mapped → ℕ → ℕ → Type 0
OverlapFrom at xs i j = (p : ℕ) × (q : ℕ) × (i ≡ at + p) × (j ≡ at + q) × IsLeastOverlap xs p q

-- where the first region shares none with those before the k-th of the others
least_first : (x : Mapped) (xs : List Mapped) (k : ℕ) (e : Mapped) → ((l : ℕ) (d : Mapped) → l < k → regions_meet x (get_or xs l d) ≡ false)
    → (h l : ℕ) (d : Mapped) → h < l → (h < 0) ⊎ ((h ≡ 0) × (l < suc k)) → ¬ ShareAddress (get_or (x ∷ xs) h d) (get_or (x ∷ xs) l d)
least_first x xs k e none h zero d below before = absurd (omega arith)
least_first x xs k e none zero (suc l) d below (inl never) = absurd (omega arith)
least_first x xs k e none zero (suc l) d below (inr first) = no_share x (get_or xs l d) (none l d (let low : suc l < suc k = first.1 in omega arith))
least_first x xs k e none (suc h) (suc l) d below (inl never) = absurd (omega arith)
least_first x xs k e none (suc h) (suc l) d below (inr first) = absurd (let zero_is : suc h ≡ 0 = first.0 in omega arith)

-- where it shares none with any of the others
least_later : (x : Mapped) (xs : List Mapped) (p q : ℕ) → ((l : ℕ) (d : Mapped) → l < length xs → regions_meet x (get_or xs l d) ≡ false) → IsLeastOverlap xs p q
    → (h l : ℕ) (d : Mapped) → h < l → l < length (x ∷ xs) → (h < suc p) ⊎ ((h ≡ suc p) × (l < suc q)) → ¬ ShareAddress (get_or (x ∷ xs) h d) (get_or (x ∷ xs) l d)
least_later x xs p q none least h zero d below held before = absurd (omega arith)
least_later x xs p q none least zero (suc l) d below held before = no_share x (get_or xs l d) (none l d (omega arith))
least_later x xs p q none least (suc h) (suc l) d below held (inl lower) = least.least h l d (omega arith) (omega arith) (inl (omega arith))
least_later x xs p q none least (suc h) (suc l) d below held (inr same) =
    let first : suc h ≡ suc p = same.0 in
    let second : suc l < suc q = same.1 in
    least.least h l d (omega arith) (omega arith) (inr (omega arith, omega arith))

overlap_step : (at : ℕ) (x : Mapped) (xs : List Mapped) (i j : ℕ) (o : Option ℕ) → position_from (regions_meet x) 0 xs ≡ o → (first_overlap (at + 1) xs ≡ Some (i, j) → OverlapFrom (at + 1) xs i j)
    → option_or (option_map (λ (k : ℕ). (at, at + 1 + k)) o) (first_overlap (at + 1) xs) ≡ Some (i, j) → OverlapFrom at (x ∷ xs) i j
overlap_step at x xs i j (Some k) is rest found =
    let one : at ≡ i = ap (λ (y : Option (ℕ × ℕ)). (unwrap_or y (0, 0)).0) found in
    let two : at + 1 + k ≡ j = ap (λ (y : Option (ℕ × ℕ)). (unwrap_or y (0, 0)).1) found in
    let low : k < length xs = (first_is (regions_meet x) xs k x is).0 in (
      0,
      suc k,
      omega (arith, one),
      omega (arith, two),
      record {
        later = omega arith;
        held = omega (arith, low);
        share = λ (d : Mapped). share_is x (get_or xs k d) (first_is (regions_meet x) xs k d is).1;
        least = λ (h l : ℕ) (d : Mapped). λ below held before. least_first x xs k x (λ (n : ℕ) (e : Mapped). λ lower. (first_is (regions_meet x) xs k e is).2 n lower) h l d below before;
      },
    )
overlap_step at x xs i j None is rest found =
    let later : OverlapFrom (at + 1) xs i j = rest found in
    let one : i ≡ at + 1 + later.0 = later.2 in
    let two : j ≡ at + 1 + later.1 = later.3 in
    let least : IsLeastOverlap xs later.0 later.1 = later.4 in (
      suc later.0,
      suc later.1,
      omega (arith, one),
      omega (arith, two),
      record {
        later = omega (arith, least.later);
        held = omega (arith, least.held);
        share = λ (d : Mapped). least.share d;
        least = λ (h l : ℕ) (d : Mapped). λ below held before. least_later x xs later.0 later.1 (λ (n : ℕ) (e : Mapped). λ low. none_is (regions_meet x) 0 xs n e is low) least h l d below held before;
      },
    )

overlap_is : (at : ℕ) (xs : List Mapped) (i j : ℕ) → first_overlap at xs ≡ Some (i, j) → OverlapFrom at xs i j
overlap_is at [] i j found = absurd (none-some (i, j) found)
overlap_is at (x ∷ xs) i j found = overlap_step at x xs i j (position_from (regions_meet x) 0 xs) refl (overlap_is (at + 1) xs i j) found

apart_step : (at : ℕ) (x : Mapped) (xs : List Mapped) (o : Option ℕ) → position_from (regions_meet x) 0 xs ≡ o → option_or (option_map (λ (k : ℕ). (at, at + 1 + k)) o) (first_overlap (at + 1) xs) ≡ None
    → (position_from (regions_meet x) 0 xs ≡ None) × (first_overlap (at + 1) xs ≡ None)
apart_step at x xs (Some k) is none = absurd (none-some (at, at + 1 + k) (sym none))
apart_step at x xs None is none = (is, none)

apart_is : (at : ℕ) (xs : List Mapped) → first_overlap at xs ≡ None → AddressesApart xs
apart_is at [] none i j d below held = absurd (omega arith)
apart_is at (x ∷ xs) none i zero d below held = absurd (omega arith)
apart_is at (x ∷ xs) none zero (suc j) d below held =
    no_share x (get_or xs j d) (none_is (regions_meet x) 0 xs j d (apart_step at x xs (position_from (regions_meet x) 0 xs) refl none).0 (omega arith))
apart_is at (x ∷ xs) none (suc i) (suc j) d below held = apart_is (at + 1) xs (apart_step at x xs (position_from (regions_meet x) 0 xs) refl none).1 i j d (omega arith) (omega arith)

-- ---- tables

past_least : (xs : List Mapped) (i : ℕ) → position_from ends_past 0 xs ≡ Some i → IsLeastPast xs i
past_least [] i found = absurd (none-some i found)
past_least (x ∷ xs) i found = record {
  held = (first_is ends_past (x ∷ xs) i x found).0;
  past = λ (d : Mapped). past_is (get_or (x ∷ xs) i d) (first_is ends_past (x ∷ xs) i d found).1;
  least = λ (h : ℕ) (d : Mapped). λ lower. not_past (get_or (x ∷ xs) h d) ((first_is ends_past (x ∷ xs) i d found).2 h lower);
}

-- the answer of the three tests, by what the second and the third find
abbrev pub Answered : List Mapped → Option TableFault → Type 0
Answered xs None = IsTable xs
Answered xs (Some e) = Refuses xs e

answered_rest : (xs : List Mapped) (overlap : Option (ℕ × ℕ)) (past : Option ℕ) → length xs ≤ most_regions → first_overlap 0 xs ≡ overlap → position_from ends_past 0 xs ≡ past → Answered xs (overlap_fault overlap past)
answered_rest xs (Some x) past few is past_as =
    let found : OverlapFrom 0 xs x.0 x.1 = overlap_is 0 xs x.0 x.1 is in
    let one : found.0 ≡ x.0 = omega (arith, found.2) in
    let two : found.1 ≡ x.1 = omega (arith, found.3) in
    (few, subst (λ (i : ℕ). IsLeastOverlap xs i x.1) one (subst (λ (j : ℕ). IsLeastOverlap xs found.0 j) two found.4))
answered_rest xs None (Some i) few is past_as = (few, apart_is 0 xs is, past_least xs i past_as)
answered_rest xs None None few is past_as = record {
  few = few;
  apart = apart_is 0 xs is;
  ends = λ (k : ℕ) (d : Mapped). λ below. not_past (get_or xs k d) (none_is ends_past 0 xs k d past_as below);
}

pub answered : (xs : List Mapped) → Answered xs (fault_of xs)
answered xs = elim (cases_Bool (nat_lt most_regions (length xs))) [
  | inl many ↦ subst (Answered xs) (sym (ap (λ (b : Bool). cond b (Some TooMany) (overlap_fault (first_overlap 0 xs) (position_from ends_past 0 xs))) many)) (let above : most_regions < length xs = grind (arith, nat_tests) in above)
  | inr few ↦ subst (Answered xs) (sym (ap (λ (b : Bool). cond b (Some TooMany) (overlap_fault (first_overlap 0 xs) (position_from ends_past 0 xs))) few))
      (answered_rest xs (first_overlap 0 xs) (position_from ends_past 0 xs) (grind (arith, nat_tests)) refl refl)
]

-- a table that isn't refused is one; a fault is the reason
pub table_is : (xs : List Mapped) → fault_of xs ≡ None → IsTable xs
table_is xs none = subst (Answered xs) none (answered xs)

pub refused_is : (xs : List Mapped) (e : TableFault) → fault_of xs ≡ Some e → Refuses xs e
refused_is xs e some = subst (Answered xs) some (answered xs)
