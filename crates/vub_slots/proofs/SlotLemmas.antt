-- Rings that agree on some slots, and what stands in them.
use Rattle.std.proofs.Common.{◌≡◌, ◌≢◌, ◌≤◌, ◌<◌, ◌⊎◌, ℕ, zero, suc, ◌+◌, ◌-◌, ◌%◌, true, false, List, [], ◌∷◌, ◌++◌, length, refl, ap, sym, ◌∙◌, subst, inl, inr, arith}
use Rattle.std.proofs.lemmas.Bool.Decides.{nat_tests}
use Rattle.vub_base.specs.Positions.{is_available, is_used, wrap_at}
use Rattle.vub_slots.specs.Flags.{goes_on}
use Rattle.vub_slots.specs.Slots.{SlotWords, with_at, IsAvailable, Element, slots_of, pairs_of, Shows, Buffer, buffer_slots, OneBuffer, Waits}
use Rattle.vub_slots.proofs.NumberLemmas.{slots_apart}

-- ---- one slot

-- the flags of another slot
pub other_slot : (n : ℕ) (f : ℕ → ℕ) (p q x : ℕ) → 0 < n → p ≢ q → p < q + n → q < p + n → with_at f (q % n) x (p % n) ≡ f (p % n)
other_slot n f p q x some apart near far =
    let other : p % n ≢ q % n = slots_apart n p q some apart near far in
    grind (arith, nat_tests)

pub this_slot : (f : ℕ → ℕ) (i x : ℕ) → with_at f i x i ≡ x
this_slot f i x = grind (arith, nat_tests)

-- a ring that differs in one slot agrees on the others of a lap
abbrev pub Elsewhere : ℕ → SlotWords → SlotWords → Type 0
Elsewhere i r s = (j : ℕ) → j ≢ i → (r.flags j ≡ s.flags j) × (r.id j ≡ s.id j) × (r.len j ≡ s.len j)

pub len_elsewhere : (r : SlotWords) (i x : ℕ) → Elsewhere i r (record r { len = with_at r.len i x })
len_elsewhere r i x j apart = (refl, refl, (let e : r.len j ≡ with_at r.len i x j = grind (arith, nat_tests) in e))

pub id_elsewhere : (r : SlotWords) (i x : ℕ) → Elsewhere i r (record r { id = with_at r.id i x })
id_elsewhere r i x j apart = (refl, (let e : r.id j ≡ with_at r.id i x j = grind (arith, nat_tests) in e), refl)

pub flags_elsewhere : (r : SlotWords) (i x : ℕ) → Elsewhere i r (record r { flags = with_at r.flags i x })
flags_elsewhere r i x j apart = ((let e : r.flags j ≡ with_at r.flags i x j = grind (arith, nat_tests) in e), refl, refl)

pub details_elsewhere : (r : SlotWords) (i addr len id : ℕ) → Elsewhere i r (record { addr = with_at r.addr i addr; len = with_at r.len i len; id = with_at r.id i id; flags = r.flags })
details_elsewhere r i addr len id j apart = (refl, (let e : r.id j ≡ with_at r.id i id j = grind (arith, nat_tests) in e), (let e : r.len j ≡ with_at r.len i len j = grind (arith, nat_tests) in e))

pub slot_elsewhere : (r : SlotWords) (i addr len id flags : ℕ) → Elsewhere i r (record { addr = with_at r.addr i addr; len = with_at r.len i len; id = with_at r.id i id; flags = with_at r.flags i flags })
slot_elsewhere r i addr len id flags j apart =
    ((let e : r.flags j ≡ with_at r.flags i flags j = grind (arith, nat_tests) in e), (let e : r.id j ≡ with_at r.id i id j = grind (arith, nat_tests) in e), (let e : r.len j ≡ with_at r.len i len j = grind (arith, nat_tests) in e))

-- ---- the slots of some numbers

-- two rings agree on the slots from p up to q
abbrev pub Agree : ℕ → SlotWords → SlotWords → ℕ → ℕ → Type 0
Agree n r s p q = (j : ℕ) → p ≤ j → j < q → (r.flags (j % n) ≡ s.flags (j % n)) × (r.id (j % n) ≡ s.id (j % n)) × (r.len (j % n) ≡ s.len (j % n))

pub agree_elsewhere : (n : ℕ) (r s : SlotWords) (q from upto : ℕ) → 0 < n → Elsewhere (q % n) r s → (upto ≤ q) ⊎ (q < from) → q < from + n → upto ≤ q + n → Agree n r s from upto
agree_elsewhere n r s q from upto some same side near far j l m =
    same (j % n) (slots_apart n j q some (λ e. elim side [ inl a ↦ omega (arith, e, a) | inr b ↦ omega (arith, e, b) ]) (omega arith) (omega arith))

-- ---- elements

pub slots_of-append : (xs ys : List Element) → slots_of (xs ++ ys) ≡ slots_of xs + slots_of ys
slots_of-append [] ys = omega arith
slots_of-append (x ∷ xs) ys = omega (arith, slots_of-append xs ys)

pub pairs_of-append : (xs ys : List Element) → pairs_of (xs ++ ys) ≡ pairs_of xs ++ pairs_of ys
pairs_of-append [] ys = refl
pairs_of-append (x ∷ xs) ys = ap (λ (es : List (ℕ × ℕ)). (x.id, x.len) ∷ es) (pairs_of-append xs ys)

pub shows_agree : (n : ℕ) (r s : SlotWords) (p : ℕ) (es : List Element) → Agree n r s p (p + slots_of es) → Shows n r p es → Shows n s p es
shows_agree n r s p [] same h = tt
shows_agree n r s p (e ∷ es) same h =
    let some : 0 < e.slots = h.3 in
    let here = same p (omega arith) (omega arith) in (
      subst (λ v. is_used v (wrap_at n p) ≡ true) here.0 h.0,
      sym here.1 ∙ h.1,
      sym here.2 ∙ h.2,
      some,
      shows_agree n r s (p + e.slots) es (λ j l m. same j (omega arith) (omega arith)) h.4,
    )

pub shows_append : (n : ℕ) (r : SlotWords) (p : ℕ) (xs ys : List Element) → Shows n r p xs → Shows n r (p + slots_of xs) ys → Shows n r p (xs ++ ys)
shows_append n r p [] ys h k = subst (λ q. Shows n r q ys) (let e : p + 0 ≡ p = omega arith in e) k
shows_append n r p (x ∷ xs) ys h k =
    (h.0, h.1, h.2, h.3, shows_append n r (p + x.slots) xs ys h.4 (subst (λ q. Shows n r q ys) (let e : p + (x.slots + slots_of xs) ≡ p + x.slots + slots_of xs = omega arith in e) k))

pub shows_few : (n : ℕ) (r : SlotWords) (p : ℕ) (es : List Element) → Shows n r p es → length es ≤ slots_of es
shows_few n r p [] h = omega arith
shows_few n r p (e ∷ es) h = (let rest = shows_few n r (p + e.slots) es h.4 in let some : 0 < e.slots = h.3 in omega arith)

-- ---- buffers

pub buffer_slots-append : (bs : List Buffer) (b : Buffer) → buffer_slots (bs ++ b ∷ []) ≡ buffer_slots bs + b.slots
buffer_slots-append [] b = omega arith
buffer_slots-append (x ∷ bs) b = omega (arith, buffer_slots-append bs b)

one_agree : (n : ℕ) (r s : SlotWords) (id k p : ℕ) → Agree n r s p (p + k + 1) → OneBuffer n r id k p → OneBuffer n s id k p
one_agree n r s id zero p same h = (let here = same p (omega arith) (omega arith) in (subst (λ f. goes_on f ≡ false) here.0 h.0, sym here.1 ∙ h.1))
one_agree n r s id (suc k) p same h =
    (let here = same p (omega arith) (omega arith) in
    (subst (λ f. goes_on f ≡ true) here.0 h.0, one_agree n r s id k (p + 1) (λ j l m. same j (omega arith) (omega arith)) h.1))

pub waits_agree : (n : ℕ) (r s : SlotWords) (p : ℕ) (bs : List Buffer) → Agree n r s p (p + buffer_slots bs) → Waits n r p bs → Waits n s p bs
waits_agree n r s p [] same h = tt
waits_agree n r s p (b ∷ bs) same h =
    (h.0, one_agree n r s b.id (b.slots - 1) p (λ j l m. same j l (omega (arith, h.0))) h.1, waits_agree n r s (p + b.slots) bs (λ j l m. same j (omega arith) (omega arith)) h.2)

pub waits_append : (n : ℕ) (r : SlotWords) (p : ℕ) (bs : List Buffer) (b : Buffer) → Waits n r p bs → (0 < b.slots) → OneBuffer n r b.id (b.slots - 1) (p + buffer_slots bs) → Waits n r p (bs ++ b ∷ [])
waits_append n r p [] b h some one = (some, subst (λ q. OneBuffer n r b.id (b.slots - 1) q) (let e : p + 0 ≡ p = omega arith in e) one, tt)
waits_append n r p (x ∷ bs) b h some one =
    (h.0, h.1, waits_append n r (p + x.slots) bs b h.2 some (subst (λ q. OneBuffer n r b.id (b.slots - 1) q) (let e : p + (x.slots + buffer_slots bs) ≡ p + x.slots + buffer_slots bs = omega arith in e) one))

-- the first slots of these buffers are available
abbrev pub Firsts : ℕ → SlotWords → ℕ → List Buffer → Type 0
Firsts n w p [] = Unit {0}
Firsts n w p (b ∷ bs) = IsAvailable n w.flags p × Firsts n w (p + b.slots) bs

pub firsts_agree : (n : ℕ) (r s : SlotWords) (p : ℕ) (bs : List Buffer) → Waits n r p bs → Agree n r s p (p + buffer_slots bs) → Firsts n r p bs → Firsts n s p bs
firsts_agree n r s p [] waits same h = tt
firsts_agree n r s p (b ∷ bs) waits same h =
    let here = same p (omega arith) (omega (arith, waits.0)) in
    (subst (λ v. is_available v (wrap_at n p) ≡ true) here.0 h.0, firsts_agree n r s (p + b.slots) bs waits.2 (λ j l m. same j (omega arith) (omega arith)) h.1)

pub firsts_append : (n : ℕ) (w : SlotWords) (p : ℕ) (bs : List Buffer) (b : Buffer) → Firsts n w p bs → IsAvailable n w.flags (p + buffer_slots bs) → Firsts n w p (bs ++ b ∷ [])
firsts_append n w p [] b h last = (subst (λ q. IsAvailable n w.flags q) (let e : p + 0 ≡ p = omega arith in e) last, tt)
firsts_append n w p (x ∷ bs) b h last =
    (h.0, firsts_append n w (p + x.slots) bs b h.1 (subst (λ q. IsAvailable n w.flags q) (let e : p + (x.slots + buffer_slots bs) ≡ p + x.slots + buffer_slots bs = omega arith in e) last))

pub first_of_some : (n : ℕ) (w : SlotWords) (p : ℕ) (bs : List Buffer) (b : Buffer) → Firsts n w p (bs ++ b ∷ []) → IsAvailable n w.flags p
first_of_some n w p [] b h = h.0
first_of_some n w p (x ∷ bs) b h = h.0

-- where each slot is available, the first ones are
pub firsts_of_all : (n : ℕ) (w : SlotWords) (p : ℕ) (bs : List Buffer) → Waits n w p bs → ((q : ℕ) → p ≤ q → q < p + buffer_slots bs → IsAvailable n w.flags q) → Firsts n w p bs
firsts_of_all n w p [] waits each = tt
firsts_of_all n w p (b ∷ bs) waits each = (each p (omega arith) (omega (arith, waits.0)), firsts_of_all n w (p + b.slots) bs waits.2 (λ q l m. each q (omega arith) (omega arith)))
