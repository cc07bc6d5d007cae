-- What a walk along the slots finds, and what stands where it found it.
use Rattle.std.proofs.Common.{◌≡◌, ◌≤◌, ◌<◌, ℕ, zero, suc, ◌+◌, ◌-◌, ◌%◌, true, false, cond, List, [], ◌∷◌, ◌++◌, length, refl, ap, sym, ◌∙◌, subst, inl, inr, arith}
use Rattle.std.proofs.lemmas.Bool.{cases_Bool, cases_lt}
use Rattle.vub_base.specs.Positions.{is_used, wrap_at}
use Rattle.vub_slots.specs.Flags.{goes_on}
use Rattle.vub_slots.specs.Slots.{SlotWords, available_at, used_at, IsUsed, Element, element_slots, slots_of, pairs_of, IsSized, Shows, elements_from, Buffer, buffer_slots, OneBuffer, Waits, buffer_from, buffers_from}
use Rattle.vub_slots.proofs.NumberLemmas.{available_of_lap, used_of_lap, other_lap, old_not_available, old_not_used}
use Rattle.vub_slots.proofs.SlotLemmas.{Agree, slots_of-append, pairs_of-append, shows_agree, shows_append, shows_few, buffer_slots-append, waits_agree, waits_append, Firsts, firsts_agree, firsts_append, first_of_some}

-- ---- what waits

buffer_from-one : (n : ℕ) (r : SlotWords) (id k m p : ℕ) → k ≤ m → OneBuffer n r id k p → buffer_from n r m p ≡ record { id = id; slots = k + 1 }
buffer_from-one n r id zero m p l h =
    let make : ℕ → ℕ → Buffer = λ i s. record { id = i; slots = s } in
    let go : (j : ℕ) → buffer_from n r j p ≡ make id 1 = elim [
      | zero ↦ ap (λ i. make i 1) h.1
      | suc j ↦ ap (λ b. cond b (make (buffer_from n r j (p + 1)).id ((buffer_from n r j (p + 1)).slots + 1)) (make (r.id (p % n)) 1)) h.0 ∙ ap (λ i. make i 1) h.1
    ] in
    go m
buffer_from-one n r id (suc k) zero p l h = absurd (omega arith)
buffer_from-one n r id (suc k) (suc m) p l h =
    let make : ℕ → ℕ → Buffer = λ i s. record { id = i; slots = s } in
    let rest : buffer_from n r m (p + 1) ≡ make id (k + 1) = buffer_from-one n r id k m (p + 1) (omega arith) h.1 in
    let on : make (buffer_from n r m (p + 1)).id ((buffer_from n r m (p + 1)).slots + 1) ≡ make id (k + 1 + 1) = ap (λ (b : Buffer). make b.id (b.slots + 1)) rest in
    ap (λ b. cond b (make (buffer_from n r m (p + 1)).id ((buffer_from n r m (p + 1)).slots + 1)) (make (r.id (p % n)) 1)) h.0 ∙ on ∙ ap (make id) (let e : k + 1 + 1 ≡ suc k + 1 = omega arith in e)

pub buffers_from-waits : (n : ℕ) (r : SlotWords) (k p : ℕ) (bs : List Buffer) → Waits n r p bs → Firsts n r p bs → buffer_slots bs ≤ k → k ≤ n → available_at n r (p + buffer_slots bs) ≡ false → buffers_from n r k p ≡ bs
buffers_from-waits n r zero p [] h f l few stop = refl
buffers_from-waits n r zero p (b ∷ bs) h f l few stop = absurd (omega (arith, h.0))
buffers_from-waits n r (suc k) p [] h f l few stop =
    let at_p : available_at n r p ≡ false = subst (λ q. available_at n r q ≡ false) (let e : p + 0 ≡ p = omega arith in e) stop in
    ap (λ b. cond b (buffer_from n r n p ∷ buffers_from n r k (p + (buffer_from n r n p).slots)) []) at_p
buffers_from-waits n r (suc k) p (b ∷ bs) h f l few stop =
    let some : 0 < b.slots = h.0 in
    let make : ℕ → ℕ → Buffer = λ i s. record { id = i; slots = s } in
    let here : available_at n r p ≡ true = f.0 in
    let is : buffer_from n r n p ≡ make b.id (b.slots - 1 + 1) = buffer_from-one n r b.id (b.slots - 1) n p (omega arith) h.1 in
    let whole : buffer_from n r n p ≡ b = is ∙ ap (make b.id) (let e : b.slots - 1 + 1 ≡ b.slots = omega arith in e) in
    let at_end : available_at n r (p + b.slots + buffer_slots bs) ≡ false = subst (λ q. available_at n r q ≡ false) (let e : p + (b.slots + buffer_slots bs) ≡ p + b.slots + buffer_slots bs = omega arith in e) stop in
    let rest : buffers_from n r k (p + b.slots) ≡ bs = buffers_from-waits n r k (p + b.slots) bs h.2 f.1 (omega arith) (omega arith) at_end in
    ap (λ t. cond t (buffer_from n r n p ∷ buffers_from n r k (p + (buffer_from n r n p).slots)) []) here
    ∙ ap (λ (x : Buffer). x ∷ buffers_from n r k (p + x.slots)) whole ∙ ap (λ (xs : List Buffer). b ∷ xs) rest

pub some_slots : (n : ℕ) (w : SlotWords) (k p : ℕ) → 0 < (buffer_from n w k p).slots
some_slots n w zero p = omega arith
some_slots n w (suc k) p = elim (cases_Bool (goes_on (w.flags (p % n)))) [
  | inl on ↦ rw on (let e : 0 < (buffer_from n w k (p + 1)).slots + 1 = omega arith in e)
  | inr last ↦ rw last (let e : 0 < 1 = omega arith in e)
]

-- what the walk found as a buffer is one, unless it stopped for its length
pub one-buffer_from : (n : ℕ) (w : SlotWords) (k p : ℕ) → (buffer_from n w k p).slots ≤ k → OneBuffer n w (buffer_from n w k p).id ((buffer_from n w k p).slots - 1) p
one-buffer_from n w zero p few = absurd (omega arith)
one-buffer_from n w (suc k) p few = elim (cases_Bool (goes_on (w.flags (p % n)))) [
  | inl on ↦
      let is : buffer_from n w (suc k) p ≡ make (rest k).id ((rest k).slots + 1) = ap (λ t. cond t (make (rest k).id ((rest k).slots + 1)) (make (w.id (p % n)) 1)) on in
      let many : (buffer_from n w (suc k) p).slots ≡ (rest k).slots + 1 = ap (λ (b : Buffer). b.slots) is in
      let some : 0 < (rest k).slots = some_slots n w k (p + 1) in
      let further : OneBuffer n w (rest k).id ((rest k).slots - 1) (p + 1) = one-buffer_from n w k (p + 1) (omega arith) in
      let whole : OneBuffer n w (rest k).id (suc ((rest k).slots - 1)) p = (on, further) in
      let count : suc ((rest k).slots - 1) ≡ (rest k).slots + 1 - 1 = omega arith in
      subst (λ (b : Buffer). OneBuffer n w b.id (b.slots - 1) p) (sym is) (subst (λ (j : ℕ). OneBuffer n w (rest k).id j p) count whole)
  | inr last ↦
      let is : buffer_from n w (suc k) p ≡ make (w.id (p % n)) 1 = ap (λ t. cond t (make (rest k).id ((rest k).slots + 1)) (make (w.id (p % n)) 1)) last in
      subst (λ (b : Buffer). OneBuffer n w b.id (b.slots - 1) p) (sym is) (last, refl)
]
  where
    make : ℕ → ℕ → Buffer
    make i s = record { id = i; slots = s }

    rest : ℕ → Buffer
    rest j = buffer_from n w j (p + 1)

-- the buffers that wait, where they take a lap at most
pub waits-buffers_from : (n : ℕ) (w : SlotWords) (k p : ℕ) → buffer_slots (buffers_from n w k p) ≤ n → Waits n w p (buffers_from n w k p) × Firsts n w p (buffers_from n w k p)
waits-buffers_from n w zero p few = (tt, tt)
waits-buffers_from n w (suc k) p few =
    let whole : Stand (buffers_from n w (suc k) p) = elim (cases_Bool (available_at n w p)) [
      | inl here ↦
          let is : buffers_from n w (suc k) p ≡ first ∷ rest k = ap (λ t. cond t (first ∷ rest k) []) here in
          subst Stand (sym is) (λ few. (let later = waits-buffers_from n w k (p + first.slots) (omega arith) in ((some_slots n w n p, one-buffer_from n w n p (omega arith), later.0), (here, later.1))))
      | inr none ↦
          let is : buffers_from n w (suc k) p ≡ [] = ap (λ t. cond t (first ∷ rest k) []) none in
          subst Stand (sym is) (λ few. (tt, tt))
    ] in
    whole few
  where
    first : Buffer
    first = buffer_from n w n p

    rest : ℕ → List Buffer
    rest j = buffers_from n w j (p + first.slots)

    Stand : List Buffer → Type 0
    Stand bs = buffer_slots bs ≤ n → Waits n w p bs × Firsts n w p bs

-- where the walk ends, no buffer begins
pub ends-buffers_from : (n : ℕ) (w : SlotWords) (k p : ℕ) → buffer_slots (buffers_from n w k p) < k → available_at n w (p + buffer_slots (buffers_from n w k p)) ≡ false
ends-buffers_from n w zero p few = absurd (omega arith)
ends-buffers_from n w (suc k) p few =
    let whole : Ends (buffers_from n w (suc k) p) = elim (cases_Bool (available_at n w p)) [
      | inl here ↦
          let is : buffers_from n w (suc k) p ≡ first ∷ rest k = ap (λ t. cond t (first ∷ rest k) []) here in
          subst Ends (sym is) (λ few.
          let some : 0 < first.slots = some_slots n w n p in
          let place : p + first.slots + buffer_slots (rest k) ≡ p + (first.slots + buffer_slots (rest k)) = omega arith in
          subst (λ q. available_at n w q ≡ false) place (ends-buffers_from n w k (p + first.slots) (omega arith)))
      | inr none ↦
          let is : buffers_from n w (suc k) p ≡ [] = ap (λ t. cond t (first ∷ rest k) []) none in
          subst Ends (sym is) (λ few. subst (λ q. available_at n w q ≡ false) (let place : p ≡ p + 0 = omega arith in place) none)
    ] in
    whole few
  where
    first : Buffer
    first = buffer_from n w n p

    rest : ℕ → List Buffer
    rest j = buffers_from n w j (p + first.slots)

    Ends : List Buffer → Type 0
    Ends bs = buffer_slots bs < suc k → available_at n w (p + buffer_slots bs) ≡ false

-- the same buffers wait in words that agree on their slots, where none begins after them
pub buffers_kept : (n : ℕ) (w s : SlotWords) (p : ℕ) → buffer_slots (buffers_from n w n p) < n → Agree n w s p (p + buffer_slots (buffers_from n w n p)) → available_at n s (p + buffer_slots (buffers_from n w n p)) ≡ false
    → buffers_from n s n p ≡ buffers_from n w n p
buffers_kept n w s p few same stop =
    let bs : List Buffer = buffers_from n w n p in
    let stand = waits-buffers_from n w n p (omega arith) in
    buffers_from-waits n s n p bs (waits_agree n w s p bs same stand.0) (firsts_agree n w s p bs stand.0 same stand.1) (omega arith) (omega arith) stop

-- and one more, where one begins after them that ends within the lap, and none begins after that one
pub buffers_more : (n : ℕ) (w s : SlotWords) (p : ℕ) → Agree n w s p (p + buffer_slots (buffers_from n w n p)) → available_at n s (p + buffer_slots (buffers_from n w n p)) ≡ true
    → buffer_slots (buffers_from n w n p) + (buffer_from n s n (p + buffer_slots (buffers_from n w n p))).slots ≤ n
    → (buffer_slots (buffers_from n w n p) + (buffer_from n s n (p + buffer_slots (buffers_from n w n p))).slots < n
    → available_at n s (p + buffer_slots (buffers_from n w n p) + (buffer_from n s n (p + buffer_slots (buffers_from n w n p))).slots) ≡ false)
    → buffers_from n s n p ≡ buffers_from n w n p ++ buffer_from n s n (p + buffer_slots (buffers_from n w n p)) ∷ []
buffers_more n w s p same here few stop =
    let bs : List Buffer = buffers_from n w n p in
    let e : ℕ = p + buffer_slots bs in
    let b : Buffer = buffer_from n s n e in
    let some : 0 < b.slots = some_slots n s n e in
    let stand = waits-buffers_from n w n p (omega arith) in
    let one : OneBuffer n s b.id (b.slots - 1) e = one-buffer_from n s n e (omega arith) in
    let waits : Waits n s p (bs ++ b ∷ []) = waits_append n s p bs b (waits_agree n w s p bs same stand.0) some one in
    let firsts : Firsts n s p (bs ++ b ∷ []) = firsts_append n s p bs b (firsts_agree n w s p bs stand.0 same stand.1) here in
    let many : buffer_slots (bs ++ b ∷ []) ≡ buffer_slots bs + b.slots = buffer_slots-append bs b in
    let at_end : available_at n s (p + buffer_slots (bs ++ b ∷ [])) ≡ false = elim (cases_lt (buffer_slots bs + b.slots) n) [
      | inl less ↦ subst (λ q. available_at n s q ≡ false) (let place : e + b.slots ≡ p + buffer_slots (bs ++ b ∷ []) = omega arith in place) (stop less)
      | inr whole ↦
          let lap : p + n ≡ p + buffer_slots (bs ++ b ∷ []) = omega arith in
          subst (λ q. available_at n s q ≡ false) lap (old_not_available n s.flags (p + n) (other_lap n s.flags p (let some_n : 0 < n = omega arith in some_n) (available_of_lap n s.flags p (first_of_some n s p bs b firsts))))
    ] in
    buffers_from-waits n s n p (bs ++ b ∷ []) waits firsts (omega arith) (omega arith) at_end

-- ---- what is seen

pub elements_from-shows : (sizes : ℕ → ℕ) (r : SlotWords) (n k p : ℕ) (es : List Element) → Shows n r p es → IsSized sizes es → length es ≤ k → is_used (r.flags ((p + slots_of es) % n)) (wrap_at n (p + slots_of es)) ≡ false
    → elements_from n sizes r k p ≡ pairs_of es
elements_from-shows sizes r n zero p [] h z l stop = refl
elements_from-shows sizes r n zero p (e ∷ es) h z l stop = absurd (omega arith)
elements_from-shows sizes r n (suc k) p [] h z l stop =
    let at_p : is_used (r.flags (p % n)) (wrap_at n p) ≡ false = subst (λ q. is_used (r.flags (q % n)) (wrap_at n q) ≡ false) (let e : p + 0 ≡ p = omega arith in e) stop in
    ap (λ b. cond b ((r.id (p % n), r.len (p % n)) ∷ elements_from n sizes r k (p + sizes (r.id (p % n)))) []) at_p
elements_from-shows sizes r n (suc k) p (e ∷ es) h z l stop =
    let at_end : is_used (r.flags ((p + e.slots + slots_of es) % n)) (wrap_at n (p + e.slots + slots_of es)) ≡ false =
    subst (λ q. is_used (r.flags (q % n)) (wrap_at n q) ≡ false) (let e : p + (e.slots + slots_of es) ≡ p + e.slots + slots_of es = omega arith in e) stop in
    let rest : elements_from n sizes r k (p + e.slots) ≡ pairs_of es = elements_from-shows sizes r n k (p + e.slots) es h.4 z.1 (omega arith) at_end in
    let step : sizes (r.id (p % n)) ≡ e.slots = ap sizes h.1 ∙ z.0 in
    let on : elements_from n sizes r k (p + sizes (r.id (p % n))) ≡ pairs_of es = ap (λ s. elements_from n sizes r k (p + s)) step ∙ rest in
    let here : is_used (r.flags (p % n)) (wrap_at n p) ≡ true = h.0 in
    let pair : (r.id (p % n), r.len (p % n)) ∷ elements_from n sizes r k (p + sizes (r.id (p % n))) ≡ (e.id, e.len) ∷ pairs_of es = cons_pair (r.id (p % n)) (r.len (p % n)) e.id e.len _ _ h.1 h.2 on in
    ap (λ b. cond b ((r.id (p % n), r.len (p % n)) ∷ elements_from n sizes r k (p + sizes (r.id (p % n)))) []) here ∙ pair
  where
    cons_pair : (a b c d : ℕ) (xs ys : List (ℕ × ℕ)) → a ≡ c → b ≡ d → xs ≡ ys → (a, b) ∷ xs ≡ (c, d) ∷ ys
    cons_pair a b c d xs ys e f g =
        let pair_at : ℕ → ℕ → ℕ × ℕ = λ x y. (x, y) in
        let one : pair_at a b ≡ pair_at c d = ap (λ x. pair_at x b) e ∙ ap (λ y. pair_at c y) f in
        ap (λ (x : ℕ × ℕ). x ∷ xs) one ∙ ap (λ zs. pair_at c d ∷ zs) g

-- the elements that a walk found, with the slots of their buffers
abbrev pub sized_elements : (ℕ → ℕ) → List (ℕ × ℕ) → List Element
sized_elements sizes [] = []
sized_elements sizes (x ∷ xs) = record { id = x.0; len = x.1; slots = sizes x.0 } ∷ sized_elements sizes xs

pairs_of-sized : (sizes : ℕ → ℕ) (xs : List (ℕ × ℕ)) → pairs_of (sized_elements sizes xs) ≡ xs
pairs_of-sized sizes [] = refl
pairs_of-sized sizes (x ∷ xs) = ap (λ (ys : List (ℕ × ℕ)). x ∷ ys) (pairs_of-sized sizes xs)

slots_of-sized : (sizes : ℕ → ℕ) (xs : List (ℕ × ℕ)) → slots_of (sized_elements sizes xs) ≡ element_slots sizes xs
slots_of-sized sizes [] = refl
slots_of-sized sizes (x ∷ xs) = ap (λ (k : ℕ). sizes x.0 + k) (slots_of-sized sizes xs)

is_sized : (sizes : ℕ → ℕ) (xs : List (ℕ × ℕ)) → IsSized sizes (sized_elements sizes xs)
is_sized sizes [] = tt
is_sized sizes (x ∷ xs) = (refl, is_sized sizes xs)

is_sized-append : (sizes : ℕ → ℕ) (xs ys : List Element) → IsSized sizes xs → IsSized sizes ys → IsSized sizes (xs ++ ys)
is_sized-append sizes [] ys h k = k
is_sized-append sizes (x ∷ xs) ys h k = (h.0, is_sized-append sizes xs ys h.1 k)

shows-elements_from : (n : ℕ) (sizes : ℕ → ℕ) (w : SlotWords) (k p : ℕ) → ((id : ℕ) → 0 < sizes id) → Shows n w p (sized_elements sizes (elements_from n sizes w k p))
shows-elements_from n sizes w zero p some = tt
shows-elements_from n sizes w (suc k) p some = elim (cases_Bool (used_at n w p)) [
  | inl here ↦
      let is : elements_from n sizes w (suc k) p ≡ (w.id (p % n), w.len (p % n)) ∷ rest k = ap (λ t. cond t ((w.id (p % n), w.len (p % n)) ∷ rest k) []) here in
      subst (λ xs. Shows n w p (sized_elements sizes xs)) (sym is) (here, refl, refl, some (w.id (p % n)), shows-elements_from n sizes w k (p + sizes (w.id (p % n))) some)
  | inr none ↦
      let is : elements_from n sizes w (suc k) p ≡ [] = ap (λ t. cond t ((w.id (p % n), w.len (p % n)) ∷ rest k) []) none in
      subst (λ xs. Shows n w p (sized_elements sizes xs)) (sym is) tt
]
  where
    rest : ℕ → List (ℕ × ℕ)
    rest j = elements_from n sizes w j (p + sizes (w.id (p % n)))

-- where the walk ends, no slot is used
pub ends-elements_from : (n : ℕ) (sizes : ℕ → ℕ) (w : SlotWords) (k p : ℕ) → ((id : ℕ) → 0 < sizes id) → element_slots sizes (elements_from n sizes w k p) < k → used_at n w (p + element_slots sizes (elements_from n sizes w k p)) ≡ false
ends-elements_from n sizes w zero p some few = absurd (omega arith)
ends-elements_from n sizes w (suc k) p some few =
    let whole : Ends (elements_from n sizes w (suc k) p) = elim (cases_Bool (used_at n w p)) [
      | inl here ↦
          let is : elements_from n sizes w (suc k) p ≡ (id, w.len (p % n)) ∷ rest k = ap (λ t. cond t ((id, w.len (p % n)) ∷ rest k) []) here in
          subst Ends (sym is) (λ few.
          let on : 0 < sizes id = some id in
          let place : p + sizes id + element_slots sizes (rest k) ≡ p + (sizes id + element_slots sizes (rest k)) = omega arith in
          subst (λ q. used_at n w q ≡ false) place (ends-elements_from n sizes w k (p + sizes id) some (omega arith)))
      | inr none ↦
          let is : elements_from n sizes w (suc k) p ≡ [] = ap (λ t. cond t ((id, w.len (p % n)) ∷ rest k) []) none in
          subst Ends (sym is) (λ few. subst (λ q. used_at n w q ≡ false) (let place : p ≡ p + 0 = omega arith in place) none)
    ] in
    whole few
  where
    id : ℕ
    id = w.id (p % n)

    rest : ℕ → List (ℕ × ℕ)
    rest j = elements_from n sizes w j (p + sizes id)

    Ends : List (ℕ × ℕ) → Type 0
    Ends xs = element_slots sizes xs < suc k → used_at n w (p + element_slots sizes xs) ≡ false

-- the same elements are seen in words that agree on their slots, where the slot after them isn't used
pub elements_kept : (n : ℕ) (sizes : ℕ → ℕ) (w s : SlotWords) (p : ℕ) → ((id : ℕ) → 0 < sizes id) → element_slots sizes (elements_from n sizes w n p) < n → Agree n w s p (p + element_slots sizes (elements_from n sizes w n p))
    → used_at n s (p + element_slots sizes (elements_from n sizes w n p)) ≡ false → elements_from n sizes s n p ≡ elements_from n sizes w n p
elements_kept n sizes w s p some few same stop =
    let xs : List (ℕ × ℕ) = elements_from n sizes w n p in
    let es : List Element = sized_elements sizes xs in
    let many : element_slots sizes xs ≡ slots_of es = sym (slots_of-sized sizes xs) in
    let place : p + element_slots sizes xs ≡ p + slots_of es = ap (λ (k : ℕ). p + k) many in
    let shows : Shows n s p es = shows_agree n w s p es (subst (λ q. Agree n w s p q) place same) (shows-elements_from n sizes w n p some) in
    elements_from-shows sizes s n n p es shows (is_sized sizes xs) (omega (arith, shows_few n s p es shows)) (subst (λ q. used_at n s q ≡ false) place stop) ∙ pairs_of-sized sizes xs

first_used : (n : ℕ) (w : SlotWords) (p : ℕ) (xs ys : List Element) → 0 < slots_of ys → Shows n w p (xs ++ ys) → IsUsed n w.flags p
first_used n w p [] [] some h = absurd (omega arith)
first_used n w p [] (y ∷ ys) some h = h.0
first_used n w p (x ∷ xs) ys some h = h.0

-- and more, where more stand after them within the lap, and the slot after these isn't used
pub elements_more : (n : ℕ) (sizes : ℕ → ℕ) (w s : SlotWords) (p : ℕ) (batch : List Element) → ((id : ℕ) → 0 < sizes id) → Agree n w s p (p + element_slots sizes (elements_from n sizes w n p)) → 0 < slots_of batch
    → IsSized sizes batch → Shows n s (p + element_slots sizes (elements_from n sizes w n p)) batch → element_slots sizes (elements_from n sizes w n p) + slots_of batch ≤ n
    → (element_slots sizes (elements_from n sizes w n p) + slots_of batch < n → used_at n s (p + element_slots sizes (elements_from n sizes w n p) + slots_of batch) ≡ false)
    → elements_from n sizes s n p ≡ elements_from n sizes w n p ++ pairs_of batch
elements_more n sizes w s p batch some same more sized stand few stop =
    let xs : List (ℕ × ℕ) = elements_from n sizes w n p in
    let es : List Element = sized_elements sizes xs in
    let many : element_slots sizes xs ≡ slots_of es = sym (slots_of-sized sizes xs) in
    let place : p + element_slots sizes xs ≡ p + slots_of es = ap (λ (k : ℕ). p + k) many in
    let old : Shows n s p es = shows_agree n w s p es (subst (λ q. Agree n w s p q) place same) (shows-elements_from n sizes w n p some) in
    let shows : Shows n s p (es ++ batch) = shows_append n s p es batch old (subst (λ q. Shows n s q batch) place stand) in
    let sum : slots_of (es ++ batch) ≡ slots_of es + slots_of batch = slots_of-append es batch in
    let at_end : used_at n s (p + slots_of (es ++ batch)) ≡ false = elim (cases_lt (element_slots sizes xs + slots_of batch) n) [
      | inl less ↦ subst (λ q. used_at n s q ≡ false) (let to : p + element_slots sizes xs + slots_of batch ≡ p + slots_of (es ++ batch) = omega arith in to) (stop less)
      | inr whole ↦
          let lap : p + n ≡ p + slots_of (es ++ batch) = omega arith in
          subst (λ q. used_at n s q ≡ false) lap (old_not_used n s.flags (p + n) (other_lap n s.flags p (let some_n : 0 < n = omega arith in some_n) (used_of_lap n s.flags p (first_used n s p es batch more shows))))
    ] in
    elements_from-shows sizes s n n p (es ++ batch) shows (is_sized-append sizes es batch (is_sized sizes xs) sized) (omega (arith, shows_few n s p (es ++ batch) shows)) at_end
    ∙ pairs_of-append es batch ∙ ap (λ (ys : List (ℕ × ℕ)). ys ++ pairs_of batch) (pairs_of-sized sizes xs)
