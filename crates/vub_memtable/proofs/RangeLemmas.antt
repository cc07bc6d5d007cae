-- Ranges of addresses in a table.
use Rattle.std.proofs.Common.{◌≡◌, ◌≤◌, ◌<◌, ◌⊎◌, ℕ, zero, suc, ◌+◌, ◌-◌, Bool, true, false, cond, List, [], ◌∷◌, length, get_or, refl, ap, sym, ◌∙◌, subst, inl, inr, arith}
use Rattle.std.specs.Prelude.{Option, Some, None, All, Any, unwrap_or}
use Rattle.std.specs.List.{find}
use Rattle.std.proofs.lemmas.Bool.{cases_Bool}
use Rattle.std.proofs.lemmas.Bool.Decides.{nat_tests}
use Rattle.std.proofs.lemmas.Option.{none-some}
use Rattle.vub_memtable.specs.declared.region.Mapped.{Mapped}
use Rattle.vub_memtable.specs.Regions.{EndsPast, IsHeld, is_within}
use Rattle.vub_memtable.specs.Triples.{IsTriple, HasTriples}
use Rattle.vub_memtable.specs.Tables.{IsTable}

-- what a search finds passes the test and stands in the list
find_some : (p : Mapped → Bool) (xs : List Mapped) (r : Mapped) → find p xs ≡ Some r → (p r ≡ true) × ((k : ℕ) × (k < length xs) × (get_or xs k r ≡ r))
find_some p [] r found = absurd (none-some r found)
find_some p (x ∷ xs) r found = elim (cases_Bool (p x)) [
  | inl passes ↦
      let here : Some x ≡ Some r = ap (λ (b : Bool). cond b (Some x) (find p xs)) (sym passes) ∙ found in
      let same : x ≡ r = ap (λ (o : Option Mapped). unwrap_or o x) here in
      (subst (λ (m : Mapped). p m ≡ true) same passes, (zero, omega arith, same))
  | inr fails ↦
      let rest = find_some p xs r (ap (λ (b : Bool). cond b (Some x) (find p xs)) (sym fails) ∙ found) in
      (rest.0, (suc rest.1.0, (let low : rest.1.0 < length xs = rest.1.1 in omega arith), rest.1.2))
]

-- where it finds nothing, nothing passes
find_none : (p : Mapped → Bool) (xs : List Mapped) (k : ℕ) (d : Mapped) → find p xs ≡ None → k < length xs → p (get_or xs k d) ≡ false
find_none p [] k d none below = absurd (omega arith)
find_none p (x ∷ xs) zero d none below = elim (cases_Bool (p x)) [
  | inl passes ↦ absurd (none-some x (sym none ∙ ap (λ (b : Bool). cond b (Some x) (find p xs)) passes))
  | inr fails ↦ fails
]
find_none p (x ∷ xs) (suc k) d none below = elim (cases_Bool (p x)) [
  | inl passes ↦ absurd (none-some x (sym none ∙ ap (λ (b : Bool). cond b (Some x) (find p xs)) passes))
  | inr fails ↦ find_none p xs k d (ap (λ (b : Bool). cond b (Some x) (find p xs)) (sym fails) ∙ none) (omega arith)
]

-- each address of a range within a region has its triple
triples_of : (m : Mapped) (start address len : ℕ) → is_within start m.region.size address len ≡ true → HasTriples m start address len m.space.number (m.region.offset + (address - start))
triples_of m start address len within i l =
    let from : start ≤ address = grind (arith, nat_tests) in
    let upto : address + len ≤ start + m.region.size = grind (arith, nat_tests) in
    record { at = address - start + i; inside = omega arith; address_is = omega arith; space_is = refl; place_is = omega arith }

-- and where each of them has one, the range lies in the region
within_of : (m : Mapped) (start address len space place : ℕ) → 1 ≤ len → HasTriples m start address len space place → is_within start m.region.size address len ≡ true
within_of m start address len space place some all =
    let first : IsTriple m start (address + 0) space (place + 0) = all 0 (omega arith) in
    let last : IsTriple m start (address + (len - 1)) space (place + (len - 1)) = all (len - 1) (omega arith) in
    let from : start ≤ address = omega (arith, first.address_is) in
    let upto : address + len ≤ start + m.region.size = omega (arith, last.address_is, last.inside) in
    grind (arith, nat_tests)

-- ---- the region that a search finds, where its addresses begin at `start`

abbrev pub region_of : (Mapped → ℕ) → List Mapped → ℕ → ℕ → Option Mapped
region_of start xs address len = find (λ m. is_within (start m) m.region.size address len) xs

pub found_from : (start : Mapped → ℕ) (xs : List Mapped) (address len : ℕ) (r : Mapped) → region_of start xs address len ≡ Some r → start r ≤ address
found_from start xs address len r found =
    let within : is_within (start r) r.region.size address len ≡ true = (find_some (λ m. is_within (start m) m.region.size address len) xs r found).0 in
    grind (arith, nat_tests)

-- it ends in its space
pub found_within : (start : Mapped → ℕ) (xs : List Mapped) (address len : ℕ) (r : Mapped) → IsTable xs → region_of start xs address len ≡ Some r → r.region.offset + (address - start r) + len ≤ r.space_size
found_within start xs address len r table found =
    let at = find_some (λ m. is_within (start m) m.region.size address len) xs r found in
    let within : is_within (start r) r.region.size address len ≡ true = at.0 in
    let ends : ¬ EndsPast r = subst (λ (m : Mapped). ¬ EndsPast m) at.1.2 (table.ends at.1.0 r at.1.1) in
    let from : start r ≤ address = grind (arith, nat_tests) in
    let upto : address + len ≤ start r + r.region.size = grind (arith, nat_tests) in
    elim (nat_dec (r.region.offset + r.region.size) r.space_size) [
      | inl fits ↦ omega (arith, from, upto, fits)
      | inr past ↦ absurd (ends (inl past))
    ]
  where
    nat_dec : (a b : ℕ) → (a ≤ b) ⊎ (b < a)
    nat_dec a b = elim (cases_Bool (Rattle.std.specs.Prelude.nat_le a b)) [ inl low ↦ inl (grind (arith, nat_tests)) | inr high ↦ inr (grind (arith, nat_tests)) ]

pub found_range : (start : Mapped → ℕ) (xs : List Mapped) (address len : ℕ) (r : Mapped) → region_of start xs address len ≡ Some r
    → Any (λ m. HasTriples m (start m) address len r.space.number (r.region.offset + (address - start r))) xs
found_range start xs address len r found =
    let at = find_some (λ m. is_within (start m) m.region.size address len) xs r found in
    (at.1.0, r, at.1.1, at.1.2, triples_of r (start r) address len at.0)

pub found_lies : (start : Mapped → ℕ) (xs : List Mapped) (address len : ℕ) (r : Mapped) (sizes : ℕ → ℕ) → IsTable xs → region_of start xs address len ≡ Some r → All (IsHeld sizes) xs
    → r.region.offset + (address - start r) + len ≤ sizes r.space.number
found_lies start xs address len r sizes table found held =
    let at = find_some (λ m. is_within (start m) m.region.size address len) xs r found in
    let size_is : sizes r.space.number ≡ r.space_size = subst (IsHeld sizes) at.1.2 (held at.1.0 r at.1.1) in
    omega (arith, size_is, found_within start xs address len r table found)

pub nowhere : (start : Mapped → ℕ) (xs : List Mapped) (address len space place : ℕ) → 1 ≤ len → region_of start xs address len ≡ None → ¬ Any (λ m. HasTriples m (start m) address len space place) xs
nowhere start xs address len space place some none any =
    let m : Mapped = any.1 in
    let no : is_within (start m) m.region.size address len ≡ false = subst (λ (x : Mapped). is_within (start x) x.region.size address len ≡ false) any.3 (find_none (λ x. is_within (start x) x.region.size address len) xs any.0 m none any.2) in
    let yes : is_within (start m) m.region.size address len ≡ true = within_of m (start m) address len space place some any.4 in
    let both : true ≡ false = sym yes ∙ no in
    cc
