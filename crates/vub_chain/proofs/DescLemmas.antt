-- Tests of one bit, and a descriptor's fields as they were loaded.
use Rattle.std.proofs.Common.{◌≡◌, ◌<◌, ◌≤◌, ℕ, zero, suc, ◌+◌, ◌*◌, not, List, ◌∷◌, refl, ap, sym, ◌∙◌, arith, add-zero}
use Rattle.std.specs.Prelude.{◌==◌, bit_and}
use Rattle.std.specs.Int.{bit_at}
use Rattle.std.proofs.lemmas.Bool.Decides.{nat_tests}
use Rattle.std.proofs.lemmas.Nat.Bits.{and_pow, bit_at-lt}
use Rattle.byteorder.specs.Endian.{little_from}
use Rattle.byteorder.specs.Numbers.{little_from-cons}
use Rattle.vub_base.specs.Fields.{field}
use Rattle.vub_shared.specs.Bytes.{Bytes, word, bytes_from}
use Rattle.vub_chain.specs.declared.walk.Desc.{Desc}
use Rattle.vub_chain.specs.Descs.{Source, linked_desc}

pub tested_next : (f : ℕ) → not (bit_and f 1 == 0) ≡ (bit_at f 0 == 1)
tested_next f = let e : bit_and f 1 ≡ bit_at f 0 * 1 = and_pow f 0 in let l : bit_at f 0 < 2 = bit_at-lt f 0 in grind (arith, nat_tests)

pub tested_write : (f : ℕ) → not (bit_and f 2 == 0) ≡ (bit_at f 1 == 1)
tested_write f = let e : bit_and f 2 ≡ bit_at f 1 * 2 = and_pow f 1 in let l : bit_at f 1 < 2 = bit_at-lt f 1 in grind (arith, nat_tests)

pub tested_indirect : (f : ℕ) → not (bit_and f 4 == 0) ≡ (bit_at f 2 == 1)
tested_indirect f = let e : bit_and f 4 ≡ bit_at f 2 * 4 = and_pow f 2 in let l : bit_at f 2 < 2 = bit_at-lt f 2 in grind (arith, nat_tests)

-- the number at the start of a longer run
number_of_start : (w n : ℕ) (m : Bytes) (s p : ℕ) → w ≤ n → little_from 0 w (bytes_from n m s p) ≡ word w m s p
unfolding word
number_of_start zero n m s p h = refl
number_of_start (suc w) zero m s p h = absurd (omega arith)
number_of_start (suc w) (suc n) m s p h =
    let rest : little_from 0 w (bytes_from n m s (p + 1)) ≡ word w m s (p + 1) = number_of_start w n m s (p + 1) (omega arith) in
    let moved : little_from 1 w (m s p ∷ bytes_from n m s (p + 1)) ≡ little_from 0 w (bytes_from n m s (p + 1)) = little_from-cons 0 w (m s p) (bytes_from n m s (p + 1)) in
    omega (arith, rest, moved)

-- a field of what was loaded is the word there
pub field_of_loaded : (at w n : ℕ) (m : Bytes) (s p : ℕ) → at + w ≤ n → field w at (bytes_from n m s p) ≡ word w m s (p + at)
field_of_loaded zero w n m s p h = number_of_start w n m s p (omega arith) ∙ ap (word w m s) (sym (add-zero p))
field_of_loaded (suc at) w zero m s p h = absurd (omega arith)
field_of_loaded (suc at) w (suc n) m s p h =
    let rest : field w at (bytes_from n m s (p + 1)) ≡ word w m s (p + 1 + at) = field_of_loaded at w n m s (p + 1) (omega arith) in
    let there : p + 1 + at ≡ p + suc at = omega arith in
    rest ∙ ap (word w m s) there

abbrev pub make : ℕ → ℕ → ℕ → ℕ → Desc
make a l f n = record { addr = a; len = l; flags = f; next = n }

pub desc_is : (src : Source) (m : Bytes) (index at : ℕ) (bytes : List ℕ) (a l f n : ℕ) → at ≡ index → bytes ≡ bytes_from 16 m src.space (src.place + 16 * at)
    → a ≡ field 8 0 bytes → l ≡ field 4 8 bytes → f ≡ field 2 12 bytes → n ≡ field 2 14 bytes → make a l f n ≡ linked_desc m src index
desc_is src m index at bytes a l f n same loaded ha hl hf hn =
    let p : ℕ = src.place + 16 * at in
    let s : ℕ = src.space in
    let place : p ≡ src.place + 16 * index = ap (λ (i : ℕ). src.place + 16 * i) same in
    let is_a : a ≡ word 8 m s (src.place + 16 * index) = ha ∙ ap (field 8 0) loaded ∙ number_of_start 8 16 m s p (omega arith) ∙ ap (word 8 m s) place in
    let is_l : l ≡ word 4 m s (src.place + 16 * index + 8) = hl ∙ ap (field 4 8) loaded ∙ field_of_loaded 8 4 16 m s p (omega arith) ∙ ap (λ (q : ℕ). word 4 m s (q + 8)) place in
    let is_f : f ≡ word 2 m s (src.place + 16 * index + 12) = hf ∙ ap (field 2 12) loaded ∙ field_of_loaded 12 2 16 m s p (omega arith) ∙ ap (λ (q : ℕ). word 2 m s (q + 12)) place in
    let is_n : n ≡ word 2 m s (src.place + 16 * index + 14) = hn ∙ ap (field 2 14) loaded ∙ field_of_loaded 14 2 16 m s p (omega arith) ∙ ap (λ (q : ℕ). word 2 m s (q + 14)) place in
    ap (λ (x : ℕ). make x l f n) is_a
    ∙ ap (λ (x : ℕ). make (word 8 m s (src.place + 16 * index)) x f n) is_l
    ∙ ap (λ (x : ℕ). make (word 8 m s (src.place + 16 * index)) (word 4 m s (src.place + 16 * index + 8)) x n) is_f
    ∙ ap (λ (x : ℕ). make (word 8 m s (src.place + 16 * index)) (word 4 m s (src.place + 16 * index + 8)) (word 2 m s (src.place + 16 * index + 12)) x) is_n
