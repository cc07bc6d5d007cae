-- What the laws rest on.
use Rattle.std.proofs.Common.{◌≡◌, ◌≢◌, ◌≤◌, ◌<◌, ◌⊎◌, ℕ, ◌+◌, ◌-◌, List, [], ◌∷◌, length, get_or, refl, ap, sym, ◌∙◌, subst, inl, inr, arith}
use Rattle.std.specs.Prelude.{nat_lt, ◌==◌, Option, Some, None, Any, AllPairs, option_map, unwrap_or}
use Rattle.std.proofs.lemmas.Bool.{cases_Bool, cases_order}
use Rattle.std.proofs.lemmas.Bool.Decides.{nat_tests}
use Rattle.std.proofs.lemmas.List.{get_or_default}
use Rattle.std.proofs.lemmas.Option.{none-some}
use Rattle.vub_memtable.specs.declared.region.Mapped.{Mapped}
use Rattle.vub_memtable.specs.declared.fault.TableFault.{TableFault}
use Rattle.vub_memtable.specs.declared.fault.TableFault.TheVariants.{TooMany, Overlap, PastEnd, Unmapped}
use Rattle.vub_memtable.specs.Regions.{IsAmong, SharePlace}
use Rattle.vub_memtable.specs.Triples.{IsTriple, HasTriples, IsGuestRange}
use Rattle.vub_memtable.specs.Tables.{AddressesApart, PlacesApart, IsTable, IsLeastOverlap, IsLeastPast, Refuses, fault_of, place_from}
use Rattle.vub_memtable.proofs.RangeLemmas.{region_of, found_range, nowhere}
use Rattle.vub_memtable.proofs.TableLemmas.{table_is, refused_is}

-- ---- one answer

-- the two regions of one overlap are those of any other
same_overlap : (xs : List Mapped) (d : Mapped) (i j k l : ℕ) → IsLeastOverlap xs i j → IsLeastOverlap xs k l → (i ≡ k) × (j ≡ l)
same_overlap xs d i j k l one two = elim (cases_order i k) [
  | inr (inl low) ↦ absurd (two.least i j d one.later one.held (inl low) (one.share d))
  | inr (inr high) ↦ absurd (one.least k l d two.later two.held (inl high) (two.share d))
  | inl same ↦ elim (cases_order j l) [
    | inr (inl low) ↦ absurd (two.least i j d one.later one.held (inr (same, low)) (one.share d))
    | inr (inr high) ↦ absurd (one.least k l d two.later two.held (inr (sym same, high)) (two.share d))
    | inl equal ↦ (same, equal)
  ]
]

same_past : (xs : List Mapped) (d : Mapped) (i k : ℕ) → IsLeastPast xs i → IsLeastPast xs k → i ≡ k
same_past xs d i k one two = elim (cases_order i k) [
  | inr (inl low) ↦ absurd (two.least i d low (one.past d))
  | inr (inr high) ↦ absurd (one.least k d high (two.past d))
  | inl same ↦ same
]

-- a list with an element that stands somewhere has one
some_region : (xs : List Mapped) (i : ℕ) → i < length xs → Mapped
some_region [] i below = absurd (omega arith)
some_region (x ∷ xs) i below = x

apart_no_overlap : (xs : List Mapped) (i j : ℕ) → AddressesApart xs → ¬ IsLeastOverlap xs i j
apart_no_overlap xs i j apart one = let d = some_region xs j one.held in apart i j d one.later one.held (one.share d)

pub no_reason : (xs : List Mapped) (e : TableFault) → IsTable xs → ¬ Refuses xs e
no_reason xs TooMany table many = omega (arith, table.few, many)
no_reason xs (Overlap i j) table reason = apart_no_overlap xs i j table.apart reason.1
no_reason xs (PastEnd i) table reason =
    let least : IsLeastPast xs i = reason.2 in
    let d = some_region xs i least.held in
    table.ends i d least.held (least.past d)
no_reason xs (Unmapped address) table reason = reason

pub one_reason : (xs : List Mapped) (e f : TableFault) → Refuses xs e → Refuses xs f → e ≡ f
one_reason xs TooMany TooMany a b = refl
one_reason xs TooMany (Overlap i j) a b = absurd (omega (arith, a, b.0))
one_reason xs TooMany (PastEnd i) a b = absurd (omega (arith, a, b.0))
one_reason xs TooMany (Unmapped x) a b = absurd b
one_reason xs (Overlap i j) TooMany a b = absurd (omega (arith, b, a.0))
one_reason xs (Overlap i j) (Overlap k l) a b =
    let one : IsLeastOverlap xs i j = a.1 in
    let same = same_overlap xs (some_region xs j one.held) i j k l one b.1 in
    ap (λ (n : ℕ). Overlap n j) same.0 ∙ ap (λ (n : ℕ). Overlap k n) same.1
one_reason xs (Overlap i j) (PastEnd k) a b = absurd (apart_no_overlap xs i j b.1 a.1)
one_reason xs (Overlap i j) (Unmapped x) a b = absurd b
one_reason xs (PastEnd i) TooMany a b = absurd (omega (arith, b, a.0))
one_reason xs (PastEnd i) (Overlap k l) a b = absurd (apart_no_overlap xs k l a.1 b.1)
one_reason xs (PastEnd i) (PastEnd k) a b =
    let one : IsLeastPast xs i = a.2 in
    ap (λ (n : ℕ). PastEnd n) (same_past xs (some_region xs i one.held) i k one b.2)
one_reason xs (PastEnd i) (Unmapped x) a b = absurd b
one_reason xs (Unmapped x) f a b = absurd a

none_by : (xs : List Mapped) (o : Option TableFault) → fault_of xs ≡ o → IsTable xs → fault_of xs ≡ None
none_by xs None is table = is
none_by xs (Some e) is table = absurd (no_reason xs e table (refused_is xs e is))

pub none_of : (xs : List Mapped) → IsTable xs → fault_of xs ≡ None
none_of xs table = none_by xs (fault_of xs) refl table

some_by : (xs : List Mapped) (e : TableFault) (o : Option TableFault) → fault_of xs ≡ o → Refuses xs e → fault_of xs ≡ Some e
some_by xs e None is reason = absurd (no_reason xs e (table_is xs is) reason)
some_by xs e (Some f) is reason = is ∙ ap (λ (x : TableFault). Some x) (one_reason xs f e (refused_is xs f is) reason)

pub some_of : (xs : List Mapped) (e : TableFault) → Refuses xs e → fault_of xs ≡ Some e
some_of xs e reason = some_by xs e (fault_of xs) refl reason

-- ---- one translation, where the addresses of a region begin at `start`

abbrev pub IsRange : (Mapped → ℕ) → List Mapped → ℕ → ℕ → ℕ → ℕ → Type 0
IsRange start xs address len s p = Any (λ m. HasTriples m (start m) address len s p) xs

-- no two regions share an address
abbrev pub StartsApart : (Mapped → ℕ) → List Mapped → Type 0
StartsApart start xs = AllPairs (λ (a b : Mapped). ¬ ((address : ℕ) × IsAmong (start a) a.region.size address × IsAmong (start b) b.region.size address)) xs

pub guests_apart : (xs : List Mapped) → AddressesApart xs → StartsApart (λ m. m.region.guest) xs
guests_apart xs apart i j d below held common = apart i j d below held (inl common)

pub users_apart : (xs : List Mapped) → AddressesApart xs → StartsApart (λ m. m.region.user) xs
users_apart xs apart i j d below held common = apart i j d below held (inr common)

among : (m : Mapped) (start address s p : ℕ) → IsTriple m start address s p → IsAmong start m.region.size address
among m start address s p t = (omega (arith, t.address_is), omega (arith, t.address_is, t.inside))

not_two : (start : Mapped → ℕ) (xs : List Mapped) (k l : ℕ) (x y : Mapped) (address s p t q : ℕ) → StartsApart start xs → k < l → l < length xs → get_or xs k x ≡ x → get_or xs l y ≡ y
    → IsTriple x (start x) address s p → IsTriple y (start y) address t q → ⊥
not_two start xs k l x y address s p t q apart below held at_x at_y one two =
    let there : get_or xs l x ≡ y = get_or_default xs l x y held ∙ at_y in
    let here : ¬ ((n : ℕ) × IsAmong (start x) x.region.size n × IsAmong (start y) y.region.size n)
    = subst (λ (b : Mapped). ¬ ((n : ℕ) × IsAmong (start x) x.region.size n × IsAmong (start b) b.region.size n)) there
    (subst (λ (a : Mapped). ¬ ((n : ℕ) × IsAmong (start a) a.region.size n × IsAmong (start (get_or xs l x)) (get_or xs l x).region.size n)) at_x (apart k l x below held)) in
    here (address, among x (start x) address s p one, among y (start y) address t q two)

same_triple : (m : Mapped) (start address s p t q : ℕ) → IsTriple m start address s p → IsTriple m start address t q → (s ≡ t) × (p ≡ q)
same_triple m start address s p t q one two =
    (one.space_is ∙ sym two.space_is, omega (arith, one.address_is, two.address_is, one.place_is, two.place_is))

pub one_range : (start : Mapped → ℕ) (xs : List Mapped) (address len s p t q : ℕ) → StartsApart start xs → 1 ≤ len → IsRange start xs address len s p → IsRange start xs address len t q → (s ≡ t) × (p ≡ q)
one_range start xs address len s p t q apart some one two =
    let a : IsTriple one.1 (start one.1) (address + 0) s (p + 0) = one.4 0 (omega arith) in
    let b : IsTriple two.1 (start two.1) (address + 0) t (q + 0) = two.4 0 (omega arith) in
    elim (cases_order one.0 two.0) [
      | inr (inl low) ↦ absurd (not_two start xs one.0 two.0 one.1 two.1 (address + 0) s (p + 0) t (q + 0) apart low two.2 one.3 two.3 a b)
      | inr (inr high) ↦ absurd (not_two start xs two.0 one.0 two.1 one.1 (address + 0) t (q + 0) s (p + 0) apart high one.2 two.3 one.3 b a)
      | inl same ↦
          let there : two.1 ≡ one.1 = sym two.3 ∙ ap (λ (n : ℕ). get_or xs n two.1) (sym same) ∙ get_or_default xs one.0 two.1 one.1 one.2 ∙ one.3 in
          let both = same_triple one.1 (start one.1) (address + 0) s (p + 0) t (q + 0) a (subst (λ (m : Mapped). IsTriple m (start m) (address + 0) t (q + 0)) there b) in
          (both.0, omega (arith, both.1))
    ]

pub part_of : (start : Mapped → ℕ) (xs : List Mapped) (address len s p past part : ℕ) → past + part ≤ len → IsRange start xs address len s p → IsRange start xs (address + past) part s (p + past)
part_of start xs address len s p past part within range = (range.0, range.1, range.2, range.3, go)
  where
    go : HasTriples range.1 (start range.1) (address + past) part s (p + past)
    go i low =
        let whole : IsTriple range.1 (start range.1) (address + (past + i)) s (p + (past + i)) = range.4 (past + i) (omega arith) in
        record { at = whole.at; inside = whole.inside; address_is = omega (arith, whole.address_is); space_is = whole.space_is; place_is = omega (arith, whole.place_is) }

-- ---- the calls' answer

answer_by : (start : Mapped → ℕ) (xs : List Mapped) (address len s p : ℕ) (o : Option Mapped) → region_of start xs address len ≡ o → StartsApart start xs → 1 ≤ len → IsRange start xs address len s p
    → option_map (λ m. place_from (start m) m address) o ≡ Some (s, p)
answer_by start xs address len s p None is apart some range = absurd (nowhere start xs address len s p some is range)
answer_by start xs address len s p (Some r) is apart some range =
    let same = one_range start xs address len r.space.number (r.region.offset + (address - start r)) s p apart some (found_range start xs address len r is) range in
    ap (λ (n : ℕ). Some (n, r.region.offset + (address - start r))) same.0 ∙ ap (λ (n : ℕ). Some (s, n)) same.1

pub answer_of : (start : Mapped → ℕ) (xs : List Mapped) (address len s p : ℕ) → StartsApart start xs → 1 ≤ len → IsRange start xs address len s p → option_map (λ m. place_from (start m) m address) (region_of start xs address len) ≡ Some (s, p)
answer_of start xs address len s p apart some range = answer_by start xs address len s p (region_of start xs address len) refl apart some range

range_by : (start : Mapped → ℕ) (xs : List Mapped) (address len s p : ℕ) (o : Option Mapped) → region_of start xs address len ≡ o → option_map (λ m. place_from (start m) m address) o ≡ Some (s, p) → IsRange start xs address len s p
range_by start xs address len s p None is answer = absurd (none-some (s, p) answer)
range_by start xs address len s p (Some r) is answer =
    let one : r.space.number ≡ s = ap (λ (o : Option (ℕ × ℕ)). (unwrap_or o (0, 0)).0) answer in
    let two : r.region.offset + (address - start r) ≡ p = ap (λ (o : Option (ℕ × ℕ)). (unwrap_or o (0, 0)).1) answer in
    subst (λ (n : ℕ). IsRange start xs address len n p) one (subst (λ (n : ℕ). IsRange start xs address len r.space.number n) two (found_range start xs address len r is))

pub range_of : (start : Mapped → ℕ) (xs : List Mapped) (address len s p : ℕ) → option_map (λ m. place_from (start m) m address) (region_of start xs address len) ≡ Some (s, p) → IsRange start xs address len s p
range_of start xs address len s p answer = range_by start xs address len s p (region_of start xs address len) refl answer

-- ---- distinct places

-- two regions that name a byte, where those of a table are apart
not_shared : (xs : List Mapped) (k l : ℕ) (x y : Mapped) (f g a b s p : ℕ) → PlacesApart xs → k < l → l < length xs → get_or xs k x ≡ x → get_or xs l y ≡ y → IsTriple x f a s p → IsTriple y g b s p → ⊥
not_shared xs k l x y f g a b s p apart below held at_x at_y one two =
    let there : get_or xs l x ≡ y = get_or_default xs l x y held ∙ at_y in
    let here : ¬ SharePlace x y = subst (λ (n : Mapped). ¬ SharePlace x n) there (subst (λ (m : Mapped). ¬ SharePlace m (get_or xs l x)) at_x (apart k l x below held)) in
    here (s, p, (one.space_is, (omega (arith, one.place_is), omega (arith, one.place_is, one.inside))), (two.space_is, (omega (arith, two.place_is), omega (arith, two.place_is, two.inside))))

pub distinct : (xs : List Mapped) (a b s p t q : ℕ) → PlacesApart xs → a ≢ b → IsGuestRange xs a 1 s p → IsGuestRange xs b 1 t q → ¬ ((s ≡ t) × (p ≡ q))
distinct xs a b s p t q apart other one two same =
    let x : Mapped = one.1 in
    let y : Mapped = two.1 in
    let first : IsTriple x x.region.guest (a + 0) s (p + 0) = one.4 0 (omega arith) in
    let moved : IsTriple y y.region.guest (b + 0) t (q + 0) = two.4 0 (omega arith) in
    let places : q + 0 ≡ p + 0 = (let e : p ≡ q = same.1 in omega (arith, e)) in
    let second : IsTriple y y.region.guest (b + 0) s (p + 0) = subst (λ (n : ℕ). IsTriple y y.region.guest (b + 0) n (p + 0)) (sym same.0) (subst (λ (n : ℕ). IsTriple y y.region.guest (b + 0) t n) places moved) in
    elim (cases_order one.0 two.0) [
      | inr (inl low) ↦ not_shared xs one.0 two.0 x y x.region.guest y.region.guest (a + 0) (b + 0) s (p + 0) apart low two.2 one.3 two.3 first second
      | inr (inr high) ↦ not_shared xs two.0 one.0 y x y.region.guest x.region.guest (b + 0) (a + 0) s (p + 0) apart high one.2 two.3 one.3 second first
      | inl equal ↦
          let there : y ≡ x = sym two.3 ∙ ap (λ (n : ℕ). get_or xs n y) (sym equal) ∙ get_or_default xs one.0 y x one.2 ∙ one.3 in
          let third : IsTriple x x.region.guest (b + 0) s (p + 0) = subst (λ (m : Mapped). IsTriple m m.region.guest (b + 0) s (p + 0)) there second in
          other (omega (arith, first.address_is, third.address_is, first.place_is, third.place_is))
    ]

pub ranges_apart : (xs : List Mapped) (a len s p b count t q : ℕ) → PlacesApart xs → 1 ≤ len → 1 ≤ count → (b + count ≤ a) ⊎ (a + len ≤ b) → IsGuestRange xs a len s p → IsGuestRange xs b count t q → (t ≢ s) ⊎ ((q + count ≤ p) ⊎ (p + len ≤ q))
ranges_apart xs a len s p b count t q apart some also other one two = elim (cases_Bool (t == s)) [
  | inr far ↦ inl (λ same. let e : t ≡ s = same in grind (arith, nat_tests))
  | inl near ↦ elim (cases_Bool (nat_lt p (q + count))) [
    | inr below ↦ inr (inl (grind (arith, nat_tests)))
    | inl above ↦ elim (cases_Bool (nat_lt q (p + len))) [
      | inr over ↦ inr (inr (grind (arith, nat_tests)))
      | inl under ↦ absurd (meet (grind (arith, nat_tests)) (grind (arith, nat_tests)) (grind (arith, nat_tests)) (cases_order p q))
    ]
  ]
]
  where
    at : (i j : ℕ) → i < len → j < count → s ≡ t → p + i ≡ q + j → ⊥
    at i j low_i low_j same place =
        distinct xs (a + i) (b + j) s (p + i) t (q + j) apart (λ e. elim other [ inl before ↦ (let f : a + i ≡ b + j = e in omega (arith, f, before, low_i, low_j)) | inr after ↦ (let f : a + i ≡ b + j = e in omega (arith, f, after, low_i, low_j)) ])
        (part_of (λ m. m.region.guest) xs a len s p i 1 (omega arith) one) (part_of (λ m. m.region.guest) xs b count t q j 1 (omega arith) two) (same, place)

    meet : s ≡ t → p < q + count → q < p + len → (p ≡ q) ⊎ ((p < q) ⊎ (q < p)) → ⊥
    meet same one_way other_way (inr (inl low)) = at (q - p) 0 (omega arith) (omega arith) same (omega arith)
    meet same one_way other_way (inl equal) = at 0 0 (omega arith) (omega arith) same (omega arith)
    meet same one_way other_way (inr (inr high)) = at 0 (p - q) (omega arith) (omega arith) same (omega arith)
