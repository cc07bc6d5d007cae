-- What a store leaves of the words of a ring's slots.
use Rattle.std.proofs.Common.{◌≡◌, ◌≢◌, ◌≤◌, ◌<◌, ◌⊎◌, ℕ, ◌+◌, ◌-◌, ◌^◌, Bool, true, false, cond, List, ◌++◌, length, get_or, refl, ap, sym, ◌∙◌, inl, inr, arith, length-append}
use Rattle.std.specs.Prelude.{◌==◌, nat_lt}
use Rattle.std.proofs.lemmas.Bool.{cases_lt, cases_eq, cases_Bool}
use Rattle.std.proofs.lemmas.Bool.Decides.{nat_tests}
use Rattle.std.proofs.lemmas.List.{get_or_append_left, get_or-append-add}
use mathlib.Core.Path.{fun_ext}
use Rattle.byteorder.specs.Endian.{little_bytes}
use Rattle.byteorder.specs.Numbers.{length-bytes_low_first}
use Rattle.vub_shared.specs.Bytes.{Bytes, put, word, Apart}
use Rattle.vub_shared.specs.Stores.{Store, one_store, after_store}
use Rattle.vub_shared.proofs.BytesLemmas.{put_other, put_inside, word-put_other, word-put_same}
use Rattle.vub_slots.specs.Slots.{SlotWords, with_at}
use Rattle.vub_slots.specs.Ring.{DescriptorRing, slot_place, len_place, id_place, flags_place, slot_word, words_of, OffRing}
use Rattle.vub_slots.specs.Stores.{len_store, id_store, flags_store, details_bytes, details_store, slot_bytes, slot_store, FitsSlot}
use Rattle.vub_slots.proofs.SlotLemmas.{Elsewhere}

pub long : (w x : ℕ) → length (little_bytes w x) ≡ w
long w x = length-bytes_low_first 0 w x

-- ---- a run of bytes in two parts

put_append : (m : Bytes) (s p : ℕ) (xs ys : List ℕ) (t q : ℕ) → put m s p (xs ++ ys) t q ≡ put (put m s p xs) s (p + length xs) ys t q
put_append m s p xs ys t q =
    let many : length (xs ++ ys) ≡ length xs + length ys = length-append xs ys in
    elim (cases_eq t s) [
      | inr other ↦ put_other m s p (xs ++ ys) t q (inl other) ∙ sym (put_other m s p xs t q (inl other)) ∙ sym (put_other (put m s p xs) s (p + length xs) ys t q (inl other))
      | inl same ↦ elim (cases_lt q p) [
        | inl before ↦
            put_other m s p (xs ++ ys) t q (inr (inl (omega arith))) ∙ sym (put_other m s p xs t q (inr (inl (omega arith))))
            ∙ sym (put_other (put m s p xs) s (p + length xs) ys t q (inr (inl (omega arith))))
        | inr from ↦ elim (cases_lt q (p + length xs)) [
          | inl first ↦
              let i : ℕ = q - p in
              let at : q ≡ p + i = omega arith in
              let whole : put m s p (xs ++ ys) s (p + i) ≡ get_or (xs ++ ys) i 0 = put_inside m s p (xs ++ ys) i (omega arith) in
              let part : put m s p xs s (p + i) ≡ get_or xs i 0 = put_inside m s p xs i (omega arith) in
              let kept : put (put m s p xs) s (p + length xs) ys s (p + i) ≡ put m s p xs s (p + i) = put_other (put m s p xs) s (p + length xs) ys s (p + i) (inr (inl (omega arith))) in
              here (put m s p (xs ++ ys)) (put (put m s p xs) s (p + length xs) ys) i same at (whole ∙ get_or_append_left xs ys 0 i (omega arith) ∙ sym part ∙ sym kept)
          | inr past ↦ elim (cases_lt q (p + length xs + length ys)) [
            | inl second ↦
                let i : ℕ = q - (p + length xs) in
                let at : q ≡ p + (length xs + i) = omega arith in
                let next : p + length xs + i ≡ p + (length xs + i) = omega arith in
                let whole : put m s p (xs ++ ys) s (p + (length xs + i)) ≡ get_or (xs ++ ys) (length xs + i) 0 = put_inside m s p (xs ++ ys) (length xs + i) (omega arith) in
                let part : put (put m s p xs) s (p + length xs) ys s (p + length xs + i) ≡ get_or ys i 0 = put_inside (put m s p xs) s (p + length xs) ys i (omega arith) in
                here (put m s p (xs ++ ys)) (put (put m s p xs) s (p + length xs) ys) (length xs + i) same at
                (whole ∙ get_or-append-add xs ys i 0 ∙ sym part ∙ ap (put (put m s p xs) s (p + length xs) ys s) next)
            | inr after ↦
                put_other m s p (xs ++ ys) t q (inr (inr (omega arith))) ∙ sym (put_other m s p xs t q (inr (inr (omega arith))))
                ∙ sym (put_other (put m s p xs) s (p + length xs) ys t q (inr (inr (omega arith))))
          ]
        ]
      ]
    ]
  where
    here : (f g : Bytes) (i : ℕ) → t ≡ s → q ≡ p + i → f s (p + i) ≡ g s (p + i) → f t q ≡ g t q
    here f g i same at e = ap (λ (u : ℕ). f u q) same ∙ ap (f s) at ∙ e ∙ sym (ap (g s) at) ∙ sym (ap (λ (u : ℕ). g u q) same)

-- a store of two runs is two stores
pub store_append : (s p q : ℕ) (xs ys : List ℕ) (m : Bytes) → q ≡ p + length xs → after_store (one_store s p (xs ++ ys)) m ≡ after_store (one_store s q ys) (after_store (one_store s p xs) m)
store_append s p q xs ys m next =
    let each : (t : ℕ) → put m s p (xs ++ ys) t ≡ put (put m s p xs) s (p + length xs) ys t = λ t. fun_ext (put_append m s p xs ys t) in
    let both : put m s p (xs ++ ys) ≡ put (put m s p xs) s (p + length xs) ys = fun_ext each in
    both ∙ ap (λ (k : ℕ). put (put m s p xs) s k ys) (sym next)

-- ---- one word

-- a word stays where a store touches no byte of it
off : (w : ℕ) (r : DescriptorRing) (m : Bytes) (place : ℕ) (st : Store) (j : ℕ) → (j < r.size → Apart st.space st.place (length st.bytes) r.space place w) → slot_word w r (after_store st m) place j ≡ slot_word w r m place j
off w r m place st j apart = elim (cases_Bool (nat_lt j r.size)) [
  | inl below ↦
      let within : j < r.size = grind (arith, nat_tests) in
      let same : word w (after_store st m) r.space place ≡ word w m r.space place = word-put_other w m st.space st.place st.bytes r.space place (apart within) in
      ap (λ (b : Bool). cond b (word w (after_store st m) r.space place) 0) below ∙ same ∙ sym (ap (λ (b : Bool). cond b (word w m r.space place) 0) below)
  | inr past ↦ ap (λ (b : Bool). cond b (word w (after_store st m) r.space place) 0) past ∙ sym (ap (λ (b : Bool). cond b (word w m r.space place) 0) past)
]

-- a store lies in the first so many bytes of a slot
pub record LiesInSlot (r : DescriptorRing) (i bytes : ℕ) (st : Store) : Type 0 where
  pub space : st.space ≡ r.space
  pub from : slot_place r i ≤ st.place
  pub upto : st.place + length st.bytes ≤ slot_place r i + bytes

-- a word of another slot
other_word : (w : ℕ) (r : DescriptorRing) (m : Bytes) (place i : ℕ) (st : Store) (j : ℕ) → LiesInSlot r i 16 st → j ≢ i → slot_place r j ≤ place → place + w ≤ slot_place r j + 16 → slot_word w r (after_store st m) place j ≡ slot_word w r m place j
other_word w r m place i st j lies other low high = off w r m place st j (λ l. elim (cases_lt j i) [
  | inl down ↦ inr (inl (omega (arith, lies.from, down, high)))
  | inr up ↦ inr (inr (omega (arith, lies.upto, up, other, low)))
])

-- a store in one slot leaves the words of the others
pub lies_elsewhere : (r : DescriptorRing) (m : Bytes) (i : ℕ) (st : Store) → LiesInSlot r i 16 st → Elsewhere i (words_of r m) (words_of r (after_store st m))
lies_elsewhere r m i st lies j other = (
  sym (other_word 2 r m (flags_place r j) i st j lies other (omega arith) (omega arith)),
  sym (other_word 2 r m (id_place r j) i st j lies other (omega arith) (omega arith)),
  sym (other_word 4 r m (len_place r j) i st j lies other (omega arith) (omega arith)),
)

pub lies_less : (r : DescriptorRing) (i : ℕ) (st : Store) → LiesInSlot r i 14 st → LiesInSlot r i 16 st
lies_less r i st lies = record { space = lies.space; from = lies.from; upto = omega (arith, lies.upto) }

-- before its flags it leaves all flags
pub lies_flags : (r : DescriptorRing) (m : Bytes) (i : ℕ) (st : Store) → LiesInSlot r i 14 st → (j : ℕ) → (words_of r (after_store st m)).flags j ≡ (words_of r m).flags j
lies_flags r m i st lies j = elim (cases_eq j i) [
  | inl same ↦ off 2 r m (flags_place r j) st j (λ l. inr (inr (omega (arith, lies.upto, same))))
  | inr other ↦ other_word 2 r m (flags_place r j) i st j (lies_less r i st lies) other (omega arith) (omega arith)
]

-- ---- where the stores lie

pub len_lies : (r : DescriptorRing) (i len : ℕ) → LiesInSlot r i 14 (len_store r i len)
len_lies r i len = record { space = refl; from = omega arith; upto = omega (arith, long 4 len) }

pub id_lies : (r : DescriptorRing) (i id : ℕ) → LiesInSlot r i 14 (id_store r i id)
id_lies r i id = record { space = refl; from = omega arith; upto = omega (arith, long 2 id) }

pub flags_lies : (r : DescriptorRing) (i flags : ℕ) → LiesInSlot r i 16 (flags_store r i flags)
flags_lies r i flags = record { space = refl; from = omega arith; upto = omega (arith, long 2 flags) }

long_details : (addr len id : ℕ) → length (details_bytes addr len id) ≡ 14
long_details addr len id =
    let front : length (little_bytes 8 addr ++ little_bytes 4 len) ≡ length (little_bytes 8 addr) + length (little_bytes 4 len) = length-append (little_bytes 8 addr) (little_bytes 4 len) in
    let whole : length (details_bytes addr len id) ≡ length (little_bytes 8 addr ++ little_bytes 4 len) + length (little_bytes 2 id) = length-append (little_bytes 8 addr ++ little_bytes 4 len) (little_bytes 2 id) in
    omega (arith, front, whole, long 8 addr, long 4 len, long 2 id)

pub details_lies : (r : DescriptorRing) (i addr len id : ℕ) → LiesInSlot r i 14 (details_store r i addr len id)
details_lies r i addr len id = record { space = refl; from = omega arith; upto = omega (arith, long_details addr len id) }

pub slot_lies : (r : DescriptorRing) (i addr len id flags : ℕ) → LiesInSlot r i 16 (slot_store r i addr len id flags)
slot_lies r i addr len id flags =
    let whole : length (slot_bytes addr len id flags) ≡ length (details_bytes addr len id) + length (little_bytes 2 flags) = length-append (details_bytes addr len id) (little_bytes 2 flags) in
    record { space = refl; from = omega arith; upto = omega (arith, whole, long_details addr len id, long 2 flags) }

-- ---- the words after a store of one

abbrev addr_store : DescriptorRing → ℕ → ℕ → Store
addr_store r i addr = one_store r.space (slot_place r i) (little_bytes 8 addr)

-- the word that is stored
stored : (w : ℕ) (r : DescriptorRing) (m : Bytes) (f : ℕ → ℕ) (i x j : ℕ) → i < r.size → x < 256 ^ w → LiesInSlot r i 16 (one_store r.space (f i) (little_bytes w x))
    → (slot_place r j ≤ f j) × (f j + w ≤ slot_place r j + 16) → slot_word w r (after_store (one_store r.space (f i) (little_bytes w x)) m) (f j) j ≡ with_at (λ k. slot_word w r m (f k) k) i x j
stored w r m f i x j below fits lies within = elim (cases_eq j i) [
  | inl same ↦
      let st : Store = one_store r.space (f i) (little_bytes w x) in
      let yes : nat_lt i r.size ≡ true = grind (arith, nat_tests) in
      let hit : slot_word w r (after_store st m) (f i) i ≡ x = ap (λ (b : Bool). cond b (word w (after_store st m) r.space (f i)) 0) yes ∙ word-put_same w m r.space (f i) x fits in
      let this : (j == i) ≡ true = grind (arith, nat_tests) in
      let set : with_at (λ k. slot_word w r m (f k) k) i x j ≡ x = ap (λ (b : Bool). cond b x (slot_word w r m (f j) j)) this in
      ap (λ (k : ℕ). slot_word w r (after_store st m) (f k) k) same ∙ hit ∙ sym set
  | inr other ↦
      let no : (j == i) ≡ false = grind (arith, nat_tests) in
      let left : with_at (λ k. slot_word w r m (f k) k) i x j ≡ slot_word w r m (f j) j = ap (λ (b : Bool). cond b x (slot_word w r m (f j) j)) no in
      other_word w r m (f j) i (one_store r.space (f i) (little_bytes w x)) j lies other within.0 within.1 ∙ sym left
]

-- a word of the slots that is stored elsewhere in one of them
beside : (w : ℕ) (r : DescriptorRing) (m : Bytes) (f : ℕ → ℕ) (i : ℕ) (st : Store) (j : ℕ) → LiesInSlot r i 16 st → (slot_place r j ≤ f j) × (f j + w ≤ slot_place r j + 16) → (f i + w ≤ st.place) ⊎ (st.place + length st.bytes ≤ f i)
    → slot_word w r (after_store st m) (f j) j ≡ slot_word w r m (f j) j
beside w r m f i st j lies within apart = elim (cases_eq j i) [
  | inl same ↦ off w r m (f j) st j (λ l. let at : f j ≡ f i = ap f same in elim apart [ inl before ↦ inr (inl (omega (arith, at, before))) | inr after ↦ inr (inr (omega (arith, at, after))) ])
  | inr other ↦ other_word w r m (f j) i st j lies other within.0 within.1
]

words_are : (r : DescriptorRing) (m : Bytes) (a l i f : ℕ → ℕ) → ((j : ℕ) → slot_word 8 r m (slot_place r j) j ≡ a j) → ((j : ℕ) → slot_word 4 r m (len_place r j) j ≡ l j) → ((j : ℕ) → slot_word 2 r m (id_place r j) j ≡ i j)
    → ((j : ℕ) → slot_word 2 r m (flags_place r j) j ≡ f j) → words_of r m ≡ record { addr = a; len = l; id = i; flags = f }
words_are r m a l i f ha hl hi hf =
    let w : SlotWords = words_of r m in
    let sa : w.addr ≡ a = fun_ext ha in
    let sl : w.len ≡ l = fun_ext hl in
    let si : w.id ≡ i = fun_ext hi in
    let sf : w.flags ≡ f = fun_ext hf in
    ap (λ (x : ℕ → ℕ). make x w.len w.id w.flags) sa ∙ ap (λ (x : ℕ → ℕ). make a x w.id w.flags) sl ∙ ap (λ (x : ℕ → ℕ). make a l x w.flags) si ∙ ap (λ (x : ℕ → ℕ). make a l i x) sf
  where
    make : (ℕ → ℕ) → (ℕ → ℕ) → (ℕ → ℕ) → (ℕ → ℕ) → SlotWords
    make p q s t = record { addr = p; len = q; id = s; flags = t }

addr_stored : (r : DescriptorRing) (m : Bytes) (i x : ℕ) → i < r.size → x < 2 ^ 64 → words_of r (after_store (addr_store r i x) m) ≡ record (words_of r m) { addr = with_at (words_of r m).addr i x }
addr_stored r m i x below fits =
    let st : Store = addr_store r i x in
    let lies : LiesInSlot r i 16 st = record { space = refl; from = omega arith; upto = omega (arith, long 8 x) } in
    let end : st.place + length st.bytes ≤ slot_place r i + 8 = omega (arith, long 8 x) in
    words_are r (after_store st m) _ _ _ _ (λ j. stored 8 r m (slot_place r) i x j below fits lies (omega arith, omega arith)) (λ j. beside 4 r m (len_place r) i st j lies (omega arith, omega arith) (inr (omega (arith, end))))
    (λ j. beside 2 r m (id_place r) i st j lies (omega arith, omega arith) (inr (omega (arith, end)))) (λ j. beside 2 r m (flags_place r) i st j lies (omega arith, omega arith) (inr (omega (arith, end))))

pub len_stored : (r : DescriptorRing) (m : Bytes) (i x : ℕ) → i < r.size → x < 2 ^ 32 → words_of r (after_store (len_store r i x) m) ≡ record (words_of r m) { len = with_at (words_of r m).len i x }
len_stored r m i x below fits =
    let st : Store = len_store r i x in
    let lies : LiesInSlot r i 16 st = lies_less r i st (len_lies r i x) in
    let end : st.place + length st.bytes ≤ slot_place r i + 12 = omega (arith, long 4 x) in
    words_are r (after_store st m) _ _ _ _ (λ j. beside 8 r m (slot_place r) i st j lies (omega arith, omega arith) (inl (omega arith))) (λ j. stored 4 r m (len_place r) i x j below fits lies (omega arith, omega arith))
    (λ j. beside 2 r m (id_place r) i st j lies (omega arith, omega arith) (inr (omega (arith, end)))) (λ j. beside 2 r m (flags_place r) i st j lies (omega arith, omega arith) (inr (omega (arith, end))))

pub id_stored : (r : DescriptorRing) (m : Bytes) (i x : ℕ) → i < r.size → x < 2 ^ 16 → words_of r (after_store (id_store r i x) m) ≡ record (words_of r m) { id = with_at (words_of r m).id i x }
id_stored r m i x below fits =
    let st : Store = id_store r i x in
    let lies : LiesInSlot r i 16 st = lies_less r i st (id_lies r i x) in
    let end : st.place + length st.bytes ≤ slot_place r i + 14 = omega (arith, long 2 x) in
    words_are r (after_store st m) _ _ _ _ (λ j. beside 8 r m (slot_place r) i st j lies (omega arith, omega arith) (inl (omega arith))) (λ j. beside 4 r m (len_place r) i st j lies (omega arith, omega arith) (inl (omega arith)))
    (λ j. stored 2 r m (id_place r) i x j below fits lies (omega arith, omega arith)) (λ j. beside 2 r m (flags_place r) i st j lies (omega arith, omega arith) (inr (omega (arith, end))))

pub flags_stored : (r : DescriptorRing) (m : Bytes) (i x : ℕ) → i < r.size → x < 2 ^ 16 → words_of r (after_store (flags_store r i x) m) ≡ record (words_of r m) { flags = with_at (words_of r m).flags i x }
flags_stored r m i x below fits =
    let st : Store = flags_store r i x in
    let lies : LiesInSlot r i 16 st = flags_lies r i x in
    words_are r (after_store st m) _ _ _ _ (λ j. beside 8 r m (slot_place r) i st j lies (omega arith, omega arith) (inl (omega arith))) (λ j. beside 4 r m (len_place r) i st j lies (omega arith, omega arith) (inl (omega arith)))
    (λ j. beside 2 r m (id_place r) i st j lies (omega arith, omega arith) (inl (omega arith))) (λ j. stored 2 r m (flags_place r) i x j below fits lies (omega arith, omega arith))

-- ---- the words after the driver's runs

-- a slot without its flags is stored as its address, its length and its id
details_parts : (r : DescriptorRing) (m : Bytes) (i addr len id : ℕ) → after_store (details_store r i addr len id) m ≡ after_store (id_store r i id) (after_store (len_store r i len) (after_store (addr_store r i addr) m))
details_parts r m i addr len id =
    let front : length (little_bytes 8 addr ++ little_bytes 4 len) ≡ length (little_bytes 8 addr) + length (little_bytes 4 len) = length-append (little_bytes 8 addr) (little_bytes 4 len) in
    store_append r.space (slot_place r i) (id_place r i) (little_bytes 8 addr ++ little_bytes 4 len) (little_bytes 2 id) m (omega (arith, front, long 8 addr, long 4 len))
    ∙ ap (after_store (id_store r i id)) (store_append r.space (slot_place r i) (len_place r i) (little_bytes 8 addr) (little_bytes 4 len) m (omega (arith, long 8 addr)))

-- and its flags after them
pub slot_parts : (r : DescriptorRing) (m : Bytes) (i addr len id flags : ℕ) → after_store (slot_store r i addr len id flags) m ≡ after_store (flags_store r i flags) (after_store (details_store r i addr len id) m)
slot_parts r m i addr len id flags = store_append r.space (slot_place r i) (flags_place r i) (details_bytes addr len id) (little_bytes 2 flags) m (omega (arith, long_details addr len id))

pub details_stored : (r : DescriptorRing) (m : Bytes) (i addr len id : ℕ) → i < r.size → addr < 2 ^ 64 → len < 2 ^ 32 → id < 2 ^ 16
    → words_of r (after_store (details_store r i addr len id) m) ≡ record (words_of r m) { addr = with_at (words_of r m).addr i addr; len = with_at (words_of r m).len i len; id = with_at (words_of r m).id i id }
details_stored r m i addr len id below fits_addr fits_len fits_id =
    let m1 : Bytes = after_store (addr_store r i addr) m in
    let m2 : Bytes = after_store (len_store r i len) m1 in
    ap (words_of r) (details_parts r m i addr len id) ∙ id_stored r m2 i id below fits_id
    ∙ ap (λ (w : SlotWords). record w { id = with_at w.id i id }) (len_stored r m1 i len below fits_len ∙ ap (λ (w : SlotWords). record w { len = with_at w.len i len }) (addr_stored r m i addr below fits_addr))

pub slot_stored : (r : DescriptorRing) (m : Bytes) (i addr len id flags : ℕ) → i < r.size → FitsSlot addr len id flags
    → words_of r (after_store (slot_store r i addr len id flags) m) ≡ record { addr = with_at (words_of r m).addr i addr; len = with_at (words_of r m).len i len; id = with_at (words_of r m).id i id; flags = with_at (words_of r m).flags i flags }
slot_stored r m i addr len id flags below fits =
    let n : Bytes = after_store (details_store r i addr len id) m in
    ap (words_of r) (slot_parts r m i addr len id flags) ∙ flags_stored r n i flags below fits.flags_fit
    ∙ ap (λ (w : SlotWords). record w { flags = with_at w.flags i flags }) (details_stored r m i addr len id below fits.addr_fits fits.len_fits fits.id_fits)

-- ---- a store anywhere else

away : (w : ℕ) (r : DescriptorRing) (m : Bytes) (st : Store) (place j : ℕ) → OffRing r st → slot_place r j ≤ place → place + w ≤ slot_place r j + 16 → slot_word w r (after_store st m) place j ≡ slot_word w r m place j
away w r m st place j apart low high = off w r m place st j (λ l. elim apart [
  | inl other ↦ inl other
  | inr sides ↦ elim sides [ inl before ↦ inr (inl (omega (arith, before, l, high))) | inr after ↦ inr (inr (omega (arith, after, l, low))) ]
])

pub words_elsewhere : (r : DescriptorRing) (m : Bytes) (st : Store) → OffRing r st → words_of r (after_store st m) ≡ words_of r m
words_elsewhere r m st apart =
    words_are r (after_store st m) _ _ _ _ (λ j. away 8 r m st (slot_place r j) j apart (omega arith) (omega arith)) (λ j. away 4 r m st (len_place r j) j apart (omega arith) (omega arith))
    (λ j. away 2 r m st (id_place r j) j apart (omega arith) (omega arith)) (λ j. away 2 r m st (flags_place r j) j apart (omega arith) (omega arith))
