-- What each store leaves of a ring's words.
use Rattle.std.proofs.Common.{◌≡◌, ◌≢◌, ◌≤◌, ◌<◌, ◌⊎◌, ℕ, ◌+◌, ◌*◌, Bool, true, false, List, length, refl, ap, sym, ◌∙◌, inl, inr, arith}
use Rattle.std.specs.Prelude.{◌==◌, if◌then◌else◌}
use Rattle.std.proofs.lemmas.Bool.{cases_lt, cases_eq}
use Rattle.std.proofs.lemmas.Bool.Decides.{nat_tests}
use mathlib.Core.Path.{fun_ext}
use Rattle.byteorder.specs.Endian.{little_bytes}
use Rattle.byteorder.specs.Numbers.{length-bytes_low_first}
use Rattle.vub_shared.specs.Bytes.{Bytes, put, word, Apart}
use Rattle.vub_shared.specs.Stores.{Store, after_store}
use Rattle.vub_shared.proofs.BytesLemmas.{word-put_other, word-put_same}
use Rattle.vub_ring.specs.Ring.{Ring, entry_of, avail_idx_place, avail_entry_place, used_idx_place, used_id_place, used_len_place, avail_idx, head_at, used_idx, element_at}
use Rattle.vub_split.specs.Words.{words_of, with_entry, RingFits, OffAvail, OffUsed, avail_bytes, used_bytes}
use Rattle.vub_split.specs.Stores.{avail_idx_store, avail_entry_store, used_idx_store, used_id_store, used_len_store}

-- ---- places

pub length_little : (w x : ℕ) → length (little_bytes w x) ≡ w
length_little w x = length-bytes_low_first 0 w x

pub entry_within : (r : Ring) (index : ℕ) → 0 < r.size → entry_of r index < r.size
entry_within r index some = omega (arith, some)

-- a word within bytes that a store leaves
word_off : (w : ℕ) (m : Bytes) (st : Store) (s from many q : ℕ) → Apart st.space st.place (length st.bytes) s from many → from ≤ q → q + w ≤ from + many → word w (after_store st m) s q ≡ word w m s q
word_off w m st s from many q (inl other) low high = word-put_other w m st.space st.place st.bytes s q (inl other)
word_off w m st s from many q (inr (inl before)) low high = word-put_other w m st.space st.place st.bytes s q (inr (inl (omega (arith, before, low, high))))
word_off w m st s from many q (inr (inr after)) low high = word-put_other w m st.space st.place st.bytes s q (inr (inr (omega (arith, after, low, high))))

-- ---- a store elsewhere

pub avail_idx_off : (r : Ring) (m : Bytes) (st : Store) → OffAvail r st → avail_idx r (after_store st m) ≡ avail_idx r m
avail_idx_off r m st off = word_off 2 m st r.avail_space r.avail (avail_bytes r) (avail_idx_place r) off (omega arith) (omega arith)

pub head_off : (r : Ring) (m : Bytes) (st : Store) (i : ℕ) → 0 < r.size → OffAvail r st → head_at r (after_store st m) i ≡ head_at r m i
head_off r m st i some off =
    let within : entry_of r i < r.size = entry_within r i some in
    word_off 2 m st r.avail_space r.avail (avail_bytes r) (avail_entry_place r i) off (omega arith) (omega (arith, within))

pub used_idx_off : (r : Ring) (m : Bytes) (st : Store) → OffUsed r st → used_idx r (after_store st m) ≡ used_idx r m
used_idx_off r m st off = word_off 2 m st r.used_space r.used (used_bytes r) (used_idx_place r) off (omega arith) (omega arith)

pair_is : (a b c d : ℕ) → a ≡ b → c ≡ d → ◌≡◌ {A = ℕ × ℕ} (a, c) (b, d)
pair_is a b c d e f = cc

pub element_off : (r : Ring) (m : Bytes) (st : Store) (i : ℕ) → 0 < r.size → OffUsed r st → element_at r (after_store st m) i ≡ element_at r m i
element_off r m st i some off =
    let within : entry_of r i < r.size = entry_within r i some in
    let id = word_off 4 m st r.used_space r.used (used_bytes r) (used_id_place r i) off (omega arith) (omega (arith, within)) in
    let len = word_off 4 m st r.used_space r.used (used_bytes r) (used_len_place r i) off (omega arith) (omega (arith, within)) in
    pair_is _ _ _ _ id len

words_are : (r : Ring) (m : Bytes) (avail used : ℕ) (heads : ℕ → ℕ) (elements : ℕ → ℕ × ℕ) → avail_idx r m ≡ avail → ((i : ℕ) → head_at r m i ≡ heads i) → used_idx r m ≡ used → ((i : ℕ) → element_at r m i ≡ elements i)
    → words_of r m ≡ record { avail = avail; heads = heads; used = used; elements = elements }
words_are r m avail used heads elements a h u e =
    let same_heads : head_at r m ≡ heads = fun_ext h in
    let same_elements : element_at r m ≡ elements = fun_ext e in
    ap (λ (x : ℕ). record (words_of r m) { avail = x }) a
    ∙ ap (λ (x : ℕ → ℕ). record (words_of r m) { avail = avail; heads = x }) same_heads
    ∙ ap (λ (x : ℕ). record (words_of r m) { avail = avail; heads = heads; used = x }) u
    ∙ ap (λ (x : ℕ → ℕ × ℕ). record (words_of r m) { avail = avail; heads = heads; used = used; elements = x }) same_elements

pub words_elsewhere : (r : Ring) (m : Bytes) (st : Store) → 0 < r.size → OffAvail r st → OffUsed r st → words_of r (after_store st m) ≡ words_of r m
words_elsewhere r m st some avail used =
    words_are r (after_store st m) _ _ _ _ (avail_idx_off r m st avail) (λ i. head_off r m st i some avail) (used_idx_off r m st used) (λ i. element_off r m st i some used)

-- ---- a store of the avail ring touches no byte of the used ring, and the other way round

pub off_used : (r : Ring) (st : Store) → RingFits r → st.space ≡ r.avail_space → r.avail ≤ st.place → st.place + length st.bytes ≤ r.avail + avail_bytes r → OffUsed r st
off_used r st fits space low high = go fits.apart
  where
    go : Apart r.avail_space r.avail (avail_bytes r) r.used_space r.used (used_bytes r) → OffUsed r st
    go (inl other) = inl (λ e. other (e ∙ space))
    go (inr (inl before)) = inr (inl (omega (arith, before, low, high)))
    go (inr (inr after)) = inr (inr (omega (arith, after, low, high)))

pub off_avail : (r : Ring) (st : Store) → RingFits r → st.space ≡ r.used_space → r.used ≤ st.place → st.place + length st.bytes ≤ r.used + used_bytes r → OffAvail r st
off_avail r st fits space low high = go fits.apart
  where
    go : Apart r.avail_space r.avail (avail_bytes r) r.used_space r.used (used_bytes r) → OffAvail r st
    go (inl other) = inl (λ e. other (sym (e ∙ space)))
    go (inr (inl before)) = inr (inr (omega (arith, before, low, high)))
    go (inr (inr after)) = inr (inl (omega (arith, after, low, high)))

pub avail_idx_off_used : (r : Ring) (index : ℕ) → RingFits r → OffUsed r (avail_idx_store r index)
avail_idx_off_used r index fits = off_used r (avail_idx_store r index) fits refl (omega arith) (omega (arith, length_little 2 index))

pub avail_entry_off_used : (r : Ring) (index head : ℕ) → RingFits r → OffUsed r (avail_entry_store r index head)
avail_entry_off_used r index head fits =
    let within : entry_of r index < r.size = entry_within r index fits.some in
    off_used r (avail_entry_store r index head) fits refl (omega arith) (omega (arith, length_little 2 head, within))

pub used_idx_off_avail : (r : Ring) (index : ℕ) → RingFits r → OffAvail r (used_idx_store r index)
used_idx_off_avail r index fits = off_avail r (used_idx_store r index) fits refl (omega arith) (omega (arith, length_little 2 index))

pub used_id_off_avail : (r : Ring) (index id : ℕ) → RingFits r → OffAvail r (used_id_store r index id)
used_id_off_avail r index id fits =
    let within : entry_of r index < r.size = entry_within r index fits.some in
    off_avail r (used_id_store r index id) fits refl (omega arith) (omega (arith, length_little 4 id, within))

pub used_len_off_avail : (r : Ring) (index len : ℕ) → RingFits r → OffAvail r (used_len_store r index len)
used_len_off_avail r index len fits =
    let within : entry_of r index < r.size = entry_within r index fits.some in
    off_avail r (used_len_store r index len) fits refl (omega arith) (omega (arith, length_little 4 len, within))

-- ---- one word in the ring that is stored

keeps : (w : ℕ) (m : Bytes) (s p : ℕ) (bs : List ℕ) (q : ℕ) → (q + w ≤ p) ⊎ (p + length bs ≤ q) → word w (put m s p bs) s q ≡ word w m s q
keeps w m s p bs q h = word-put_other w m s p bs s q (inr h)

-- avail.idx
pub avail_idx_stored : (r : Ring) (m : Bytes) (index : ℕ) → index < 65536 → avail_idx r (after_store (avail_idx_store r index) m) ≡ index
avail_idx_stored r m index fits = word-put_same 2 m r.avail_space (avail_idx_place r) index fits

pub head_beside_idx : (r : Ring) (m : Bytes) (index i : ℕ) → head_at r (after_store (avail_idx_store r index) m) i ≡ head_at r m i
head_beside_idx r m index i = keeps 2 m r.avail_space (avail_idx_place r) (little_bytes 2 index) (avail_entry_place r i) (inr (omega (arith, length_little 2 index)))

pub words_avail_idx : (r : Ring) (m : Bytes) (index : ℕ) → RingFits r → index < 65536 → words_of r (after_store (avail_idx_store r index) m) ≡ record (words_of r m) { avail = index }
words_avail_idx r m index fits small =
    let st : Store = avail_idx_store r index in
    let off : OffUsed r st = avail_idx_off_used r index fits in
    words_are r (after_store st m) _ _ _ _ (avail_idx_stored r m index small) (head_beside_idx r m index) (used_idx_off r m st off) (λ i. element_off r m st i fits.some off)

-- an avail entry
pub avail_idx_beside_entry : (r : Ring) (m : Bytes) (index head : ℕ) → avail_idx r (after_store (avail_entry_store r index head) m) ≡ avail_idx r m
avail_idx_beside_entry r m index head = keeps 2 m r.avail_space (avail_entry_place r index) (little_bytes 2 head) (avail_idx_place r) (inl (omega arith))

pub head_stored : (r : Ring) (m : Bytes) (index head i : ℕ) → head < 65536 → entry_of r i ≡ entry_of r index → head_at r (after_store (avail_entry_store r index head) m) i ≡ head
head_stored r m index head i fits same =
    ap (λ (e : ℕ). word 2 (after_store (avail_entry_store r index head) m) r.avail_space (r.avail + (4 + 2 * e))) same ∙ word-put_same 2 m r.avail_space (avail_entry_place r index) head fits

pub head_beside : (r : Ring) (m : Bytes) (index head i : ℕ) → entry_of r i ≢ entry_of r index → head_at r (after_store (avail_entry_store r index head) m) i ≡ head_at r m i
head_beside r m index head i other = keeps 2 m r.avail_space (avail_entry_place r index) (little_bytes 2 head) (avail_entry_place r i) (elim (cases_lt (entry_of r i) (entry_of r index)) [
  | inl less ↦ inl (omega (arith, less))
  | inr more ↦ inr (let above : entry_of r index < entry_of r i = omega (arith, more, other) in omega (arith, above, length_little 2 head))
])

-- by cases on whether the entry is the one
pub by_entry : {A : Type 0} (r : Ring) (i index : ℕ) (y x z : A) → (entry_of r i ≡ entry_of r index → y ≡ x) → (entry_of r i ≢ entry_of r index → y ≡ z) → y ≡ (if entry_of r i == entry_of r index then x else z)
by_entry r i index y x z same other = go (cases_eq (entry_of r i) (entry_of r index))
  where
    go : (entry_of r i ≡ entry_of r index) ⊎ (entry_of r i ≢ entry_of r index) → y ≡ (if entry_of r i == entry_of r index then x else z)
    go (inl e) = let t : entry_of r i == entry_of r index ≡ true = grind (arith, nat_tests) in same e ∙ sym (ap (λ (b : Bool). if b then x else z) t)
    go (inr n) = let t : entry_of r i == entry_of r index ≡ false = grind (arith, nat_tests) in other n ∙ sym (ap (λ (b : Bool). if b then x else z) t)

pub words_avail_entry : (r : Ring) (m : Bytes) (index head : ℕ) → RingFits r → head < 65536 → words_of r (after_store (avail_entry_store r index head) m) ≡ record (words_of r m) { heads = with_entry r index head (head_at r m) }
words_avail_entry r m index head fits small =
    let st : Store = avail_entry_store r index head in
    let off : OffUsed r st = avail_entry_off_used r index head fits in
    words_are r (after_store st m) _ _ _ _ (avail_idx_beside_entry r m index head) (λ i. by_entry r i index _ _ _ (head_stored r m index head i small) (head_beside r m index head i)) (used_idx_off r m st off) (λ i. element_off r m st i fits.some off)

-- used.idx
pub used_idx_stored : (r : Ring) (m : Bytes) (index : ℕ) → index < 65536 → used_idx r (after_store (used_idx_store r index) m) ≡ index
used_idx_stored r m index fits = word-put_same 2 m r.used_space (used_idx_place r) index fits

pub element_beside_idx : (r : Ring) (m : Bytes) (index i : ℕ) → element_at r (after_store (used_idx_store r index) m) i ≡ element_at r m i
element_beside_idx r m index i =
    let bs : List ℕ = little_bytes 2 index in
    let two : length bs ≡ 2 = length_little 2 index in
    pair_is _ _ _ _ (keeps 4 m r.used_space (used_idx_place r) bs (used_id_place r i) (inr (omega (arith, two)))) (keeps 4 m r.used_space (used_idx_place r) bs (used_len_place r i) (inr (omega (arith, two))))

pub words_used_idx : (r : Ring) (m : Bytes) (index : ℕ) → RingFits r → index < 65536 → words_of r (after_store (used_idx_store r index) m) ≡ record (words_of r m) { used = index }
words_used_idx r m index fits small =
    let st : Store = used_idx_store r index in
    let off : OffAvail r st = used_idx_off_avail r index fits in
    words_are r (after_store st m) _ _ _ _ (avail_idx_off r m st off) (λ i. head_off r m st i fits.some off) (used_idx_stored r m index small) (element_beside_idx r m index)

-- an element's id
pub used_idx_beside_id : (r : Ring) (m : Bytes) (index id : ℕ) → used_idx r (after_store (used_id_store r index id) m) ≡ used_idx r m
used_idx_beside_id r m index id = keeps 2 m r.used_space (used_id_place r index) (little_bytes 4 id) (used_idx_place r) (inl (omega arith))

-- a word of the element of another entry
word_beside : (w : ℕ) (m : Bytes) (r : Ring) (p q : ℕ) (bs : List ℕ) (d e : ℕ) → d ≢ e → w ≤ 4 → length bs ≡ 4 → r.used + (4 + 8 * e) ≤ p → p ≤ r.used + (8 + 8 * e) → r.used + (4 + 8 * d) ≤ q → q ≤ r.used + (8 + 8 * d)
    → word w (put m r.used_space p bs) r.used_space q ≡ word w m r.used_space q
word_beside w m r p q bs d e other small four low_p high_p low_q high_q = keeps w m r.used_space p bs q (elim (cases_lt d e) [
  | inl less ↦ inl (omega (arith, less, small, low_p, high_q))
  | inr more ↦ inr (let above : e < d = omega (arith, more, other) in omega (arith, above, four, high_p, low_q))
])

-- the element of one entry
abbrev element_in : Ring → Bytes → ℕ → ℕ × ℕ
element_in r m e = (word 4 m r.used_space (r.used + (4 + 8 * e)), word 4 m r.used_space (r.used + (8 + 8 * e)))

id_stored : (r : Ring) (m : Bytes) (index id i : ℕ) → id < 4294967296 → entry_of r i ≡ entry_of r index → element_at r (after_store (used_id_store r index id) m) i ≡ (id, (element_at r m index).1)
id_stored r m index id i fits same =
    let four : length (little_bytes 4 id) ≡ 4 = length_little 4 id in
    ap (element_in r (after_store (used_id_store r index id) m)) same
    ∙ pair_is _ _ _ _ (word-put_same 4 m r.used_space (used_id_place r index) id fits) (keeps 4 m r.used_space (used_id_place r index) (little_bytes 4 id) (used_len_place r index) (inr (omega (arith, four))))

pub element_beside_id : (r : Ring) (m : Bytes) (index id i : ℕ) → entry_of r i ≢ entry_of r index → element_at r (after_store (used_id_store r index id) m) i ≡ element_at r m i
element_beside_id r m index id i other =
    let bs : List ℕ = little_bytes 4 id in
    let beside : (q : ℕ) → r.used + (4 + 8 * entry_of r i) ≤ q → q ≤ r.used + (8 + 8 * entry_of r i) → word 4 (after_store (used_id_store r index id) m) r.used_space q ≡ word 4 m r.used_space q =
    λ q low high. word_beside 4 m r (used_id_place r index) q bs (entry_of r i) (entry_of r index) other (omega arith) (length_little 4 id) (omega arith) (omega arith) low high in
    pair_is _ _ _ _ (beside (used_id_place r i) (omega arith) (omega arith)) (beside (used_len_place r i) (omega arith) (omega arith))

pub words_used_id : (r : Ring) (m : Bytes) (index id : ℕ) → RingFits r → id < 4294967296 → words_of r (after_store (used_id_store r index id) m) ≡ record (words_of r m) { elements = with_entry r index (id, (element_at r m index).1) (element_at r m) }
words_used_id r m index id fits small =
    let st : Store = used_id_store r index id in
    let off : OffAvail r st = used_id_off_avail r index id fits in
    words_are r (after_store st m) _ _ _ _ (avail_idx_off r m st off) (λ i. head_off r m st i fits.some off) (used_idx_beside_id r m index id) (λ i. by_entry r i index _ _ _ (id_stored r m index id i small) (element_beside_id r m index id i))

-- an element's length
pub used_idx_beside_len : (r : Ring) (m : Bytes) (index len : ℕ) → used_idx r (after_store (used_len_store r index len) m) ≡ used_idx r m
used_idx_beside_len r m index len = keeps 2 m r.used_space (used_len_place r index) (little_bytes 4 len) (used_idx_place r) (inl (omega arith))

len_stored : (r : Ring) (m : Bytes) (index len i : ℕ) → len < 4294967296 → entry_of r i ≡ entry_of r index → element_at r (after_store (used_len_store r index len) m) i ≡ ((element_at r m index).0, len)
len_stored r m index len i fits same =
    ap (element_in r (after_store (used_len_store r index len) m)) same
    ∙ pair_is _ _ _ _ (keeps 4 m r.used_space (used_len_place r index) (little_bytes 4 len) (used_id_place r index) (inl (omega arith))) (word-put_same 4 m r.used_space (used_len_place r index) len fits)

pub element_beside_len : (r : Ring) (m : Bytes) (index len i : ℕ) → entry_of r i ≢ entry_of r index → element_at r (after_store (used_len_store r index len) m) i ≡ element_at r m i
element_beside_len r m index len i other =
    let bs : List ℕ = little_bytes 4 len in
    let beside : (q : ℕ) → r.used + (4 + 8 * entry_of r i) ≤ q → q ≤ r.used + (8 + 8 * entry_of r i) → word 4 (after_store (used_len_store r index len) m) r.used_space q ≡ word 4 m r.used_space q =
    λ q low high. word_beside 4 m r (used_len_place r index) q bs (entry_of r i) (entry_of r index) other (omega arith) (length_little 4 len) (omega arith) (omega arith) low high in
    pair_is _ _ _ _ (beside (used_id_place r i) (omega arith) (omega arith)) (beside (used_len_place r i) (omega arith) (omega arith))

pub words_used_len : (r : Ring) (m : Bytes) (index len : ℕ) → RingFits r → len < 4294967296 → words_of r (after_store (used_len_store r index len) m) ≡ record (words_of r m) { elements = with_entry r index ((element_at r m index).0, len) (element_at r m) }
words_used_len r m index len fits small =
    let st : Store = used_len_store r index len in
    let off : OffAvail r st = used_len_off_avail r index len fits in
    words_are r (after_store st m) _ _ _ _ (avail_idx_off r m st off) (λ i. head_off r m st i fits.some off) (used_idx_beside_len r m index len) (λ i. by_entry r i index _ _ _ (len_stored r m index len i small) (element_beside_len r m index len i))
