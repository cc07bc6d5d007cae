-- A slot's fields as they were loaded.
use Rattle.std.proofs.Common.{◌≡◌, ◌<◌, ℕ, ◌+◌, ◌*◌, Bool, true, cond, List, ap, sym, ◌∙◌, arith, add-zero}
use Rattle.std.specs.Prelude.{nat_lt}
use Rattle.std.proofs.lemmas.Bool.Decides.{nat_tests}
use Rattle.vub_base.specs.Fields.{field}
use Rattle.vub_shared.specs.Bytes.{Bytes, word, bytes_from}
use Rattle.vub_shared.proofs.BytesLemmas.{field_of_loaded}
use Rattle.vub_packed.specs.declared.packed.PackedRing.{PackedRing}
use Rattle.vub_packed.specs.declared.packed.PackedDesc.{PackedDesc}
use Rattle.vub_slots.specs.Ring.{DescriptorRing, slot_place, len_place, id_place, flags_place, slot_word, words_of}
use Rattle.vub_packed.specs.Packed.{ring_of_packed, slot_in}

abbrev pub make : ℕ → ℕ → ℕ → ℕ → PackedDesc
make a l i f = record { addr = a; len = l; id = i; flags = f }

-- the slot whose fields were loaded from its place
pub slot_is : (r : PackedRing) (m : Bytes) (index p : ℕ) (bytes : List ℕ) (a l i f : ℕ) → p ≡ r.ring.1 + 16 * index → bytes ≡ bytes_from 16 m r.ring.0.number p
    → a ≡ field 8 0 bytes → l ≡ field 4 8 bytes → i ≡ field 2 12 bytes → f ≡ field 2 14 bytes → make a l i f ≡ slot_in r m index
slot_is r m index p bytes a l i f place loaded ha hl hi hf =
    let s : ℕ = r.ring.0.number in
    let q : ℕ = r.ring.1 + 16 * index in
    let is_a : a ≡ word 8 m s q = ha ∙ ap (field 8 0) loaded ∙ field_of_loaded 0 8 16 m s p (omega arith) ∙ ap (λ (k : ℕ). word 8 m s (k + 0)) place ∙ ap (word 8 m s) (add-zero q) in
    let is_l : l ≡ word 4 m s (q + 8) = hl ∙ ap (field 4 8) loaded ∙ field_of_loaded 8 4 16 m s p (omega arith) ∙ ap (λ (k : ℕ). word 4 m s (k + 8)) place in
    let is_i : i ≡ word 2 m s (q + 12) = hi ∙ ap (field 2 12) loaded ∙ field_of_loaded 12 2 16 m s p (omega arith) ∙ ap (λ (k : ℕ). word 2 m s (k + 12)) place in
    let is_f : f ≡ word 2 m s (q + 14) = hf ∙ ap (field 2 14) loaded ∙ field_of_loaded 14 2 16 m s p (omega arith) ∙ ap (λ (k : ℕ). word 2 m s (k + 14)) place in
    ap (λ (x : ℕ). make x l i f) is_a ∙ ap (λ (x : ℕ). make (word 8 m s q) x i f) is_l ∙ ap (λ (x : ℕ). make (word 8 m s q) (word 4 m s (q + 8)) x f) is_i
    ∙ ap (λ (x : ℕ). make (word 8 m s q) (word 4 m s (q + 8)) (word 2 m s (q + 12)) x) is_f

-- ---- as a slot of a descriptor ring

word_is : (w : ℕ) (r : DescriptorRing) (m : Bytes) (place index : ℕ) → index < r.size → word w m r.space place ≡ slot_word w r m place index
word_is w r m place index below =
    let within : nat_lt index r.size ≡ true = grind (arith, nat_tests) in
    sym (ap (λ (b : Bool). cond b (word w m r.space place) 0) within)

pub slot_words : (r : PackedRing) (m : Bytes) (index : ℕ) → index < r.size
    → ((slot_in r m index).addr ≡ (words_of (ring_of_packed r) m).addr index) × ((slot_in r m index).len ≡ (words_of (ring_of_packed r) m).len index)
    × ((slot_in r m index).id ≡ (words_of (ring_of_packed r) m).id index) × ((slot_in r m index).flags ≡ (words_of (ring_of_packed r) m).flags index)
slot_words r m index below =
    let ring : DescriptorRing = ring_of_packed r in
    (word_is 8 ring m (slot_place ring index) index below, word_is 4 ring m (len_place ring index) index below, word_is 2 ring m (id_place ring index) index below, word_is 2 ring m (flags_place ring index) index below)
