-- A field that is read is the field that was written, and what was written is read again.
use Rattle.std.proofs.Common.{◌≡◌, ℕ, zero, suc, ◌+◌, ◌*◌, ◌/◌, ◌%◌, ◌^◌, ◌<◌, ◌≤◌, Bool, true, false, ltb, cond, List, [], ◌∷◌, ◌++◌, length, get_or, take, drop, Option, Some, None, refl, sym, ap, subst, ◌∙◌, arith}
use Rattle.std.specs.Prelude.{nat_eq, ◌&&◌}
use Rattle.std.proofs.Math.Seq.{take-append_seam, drop-append_seam}
use Rattle.std.proofs.lemmas.Bool.{ltb-true, lt-ltb}
use Rattle.std.proofs.lemmas.Bool.Decides.{nat_tests}
use Rattle.std.proofs.lemmas.List.{take-append-drop}
use Rattle.std.proofs.lemmas.List.Folds.{length-prefix_len}
use Rattle.std.proofs.lemmas.List.Sums.{take_while-cons}
use Rattle.std.proofs.lemmas.Option.{cond_some}
use Rattle.std.proofs.lemmas.Str.Parse.{IsNumeralModel, numerals_by_value, tells_digits, digit_from_value}
use Rattle.std.proofs.lemmas.Fmt.{decimal-digits_value, decimal_is_IsNumeral, first_decimal, decimal_digit, decimal_nonempty}
use Rattle.std.specs.Cmp.Lexicographic.{pointwise, same_text}
use Rattle.std.specs.Char.{digit_value, is_ascii_digit}
use Rattle.std.specs.Int.{IsInRange}
use Rattle.std.specs.List.{take_while}
use Rattle.std.specs.Fmt.{decimal, digit_glyph}
use Rattle.std.specs.Str.Parse.{digits_value, AllDigits}
use Rattle.vub_schedule.specs.Spelling.{hex_pair}
use Rattle.vub_schedule.specs.Reading.{◌>>=◌, tag, is_canonical, number_at, count_at, hex_value, pair_at}
use Rattle.vub_schedule.proofs.Digits.{AllDigits-front}

-- ---- steps

abbrev given : {A : Type 0} → A → Option A
given x = Some x

pub some_is : {A : Type 0} (x y : A) → given x ≡ given y → x ≡ y
some_is x y e = cc

-- a step that did not fail
pub bind_some : {A B : Type 0} (o : Option A) (f : A → Option B) (y : B) → (o >>= f) ≡ Some y → (x : A) × (o ≡ Some x) × (f x ≡ Some y)
bind_some (Some x) f y e = (x, refl, e)
bind_some None f y e = absurd cc

-- ---- texts

pub tag_takes : (text bytes rest : List ℕ) → tag text bytes ≡ Some rest → bytes ≡ text ++ rest
unfolding tag
tag_takes text bytes rest e =
    let p = cond_some (pointwise nat_eq (take (length text) bytes) text) (drop (length text) bytes) rest e in
    let front : take (length text) bytes ≡ text = same_text _ _ (sym p.0) in
    sym (take-append-drop (length text) bytes) ∙ ap (λ (t : List ℕ). t ++ drop (length text) bytes) front ∙ ap (λ (t : List ℕ). text ++ t) p.1

same_self : (xs : List ℕ) → pointwise nat_eq xs xs ≡ true
same_self [] = refl
same_self (x ∷ xs) = grind (arith, nat_tests, same_self xs)

pub tag_again : (text rest : List ℕ) → tag text (text ++ rest) ≡ Some rest
unfolding tag
tag_again text rest = rw (take-append_seam text rest, drop-append_seam text rest, same_self text) refl

-- ---- numbers

-- no digit stands at the front
abbrev pub NoDigit : List ℕ → Type 0
NoDigit [] = Unit {0}
NoDigit (c ∷ rest) = is_ascii_digit c ≡ false

none_front : (rest : List ℕ) → NoDigit rest → take_while is_ascii_digit rest ≡ []
none_front [] h = refl
none_front (c ∷ rest) h = rw (take_while-cons is_ascii_digit c rest, h) refl

digit-test : (c : ℕ) → digit_value c < 10 → is_ascii_digit c ≡ true
digit-test c h = let r : IsInRange 48 57 c = digit_from_value c h in grind (arith, nat_tests)

digits_front : (ds rest : List ℕ) → AllDigits 10 ds → NoDigit rest → take_while is_ascii_digit (ds ++ rest) ≡ ds
digits_front [] rest all h = none_front rest h
digits_front (d ∷ ds) rest all h = rw (take_while-cons is_ascii_digit d (ds ++ rest), digit-test d all.0, digits_front ds rest all.1 h) refl

own : IsNumeralModel (AllDigits 10) (digits_value 10)
own = numerals_by_value (AllDigits 10) tells_digits

pub both : (a b : Bool) → (a && b) ≡ true → (a ≡ true) × (b ≡ true)
both true true e = (refl, refl)
both true false e = absurd cc
both false b e = absurd cc

canonical_from : (ds : List ℕ) → 0 < length ds → 48 < get_or ds 0 0 → is_canonical ds ≡ true
canonical_from ds some first = grind (arith, nat_tests)

canonical_is : (ds : List ℕ) → is_canonical ds ≡ true → (0 < length ds) × (get_or ds 0 0 ≡ 48 → length ds ≡ 1)
canonical_is ds e = (grind (arith, nat_tests), λ z. grind (arith, nat_tests))

pub canonical_decimal : (n : ℕ) → n < 2 ^ 64 → is_canonical (decimal n) ≡ true
canonical_decimal zero lt = rw (decimal_digit 0 (omega arith)) refl
canonical_decimal (suc n) lt = canonical_from (decimal (suc n)) (decimal_nonempty (suc n) lt) (first_decimal (suc n) (omega arith) lt)

pub number_again : (limit n : ℕ) (rest : List ℕ) → limit ≤ 2 ^ 64 → n < limit → NoDigit rest → number_at limit (decimal n ++ rest) ≡ Some (n, rest)
unfolding number_at
number_again limit n rest fits lt h =
    let small : n < 2 ^ 64 = omega arith in
    let is = decimal_is_IsNumeral n small in
    let front : take_while is_ascii_digit (decimal n ++ rest) ≡ decimal n = digits_front (decimal n) rest is.0.1 h in
    rw (front, is.1, canonical_decimal n small, lt-ltb n limit lt, drop-append_seam (decimal n) rest) refl

pub number_takes : (limit : ℕ) (bytes : List ℕ) (n : ℕ) (rest : List ℕ) → limit ≤ 2 ^ 64 → number_at limit bytes ≡ Some (n, rest) → (bytes ≡ decimal n ++ rest) × (n < limit)
unfolding number_at
number_takes limit bytes n rest fits e =
    let ds : List ℕ = take_while is_ascii_digit bytes in
    let p = cond_some (is_canonical ds && ltb (digits_value 10 ds) limit) (digits_value 10 ds, drop (length ds) bytes) (n, rest) e in
    let tests = both (is_canonical ds) (ltb (digits_value 10 ds) limit) p.0 in
    let canonical = canonical_is ds tests.0 in
    let below : digits_value 10 ds < limit = ltb-true _ _ tests.1 in
    let same : take (length ds) bytes ≡ ds = rw (length-prefix_len is_ascii_digit bytes) refl in
    let all : AllDigits 10 ds = subst (λ (t : List ℕ). AllDigits 10 t) same (AllDigits-front bytes) in
    let n-is : digits_value 10 ds ≡ n = ap (λ (x : ℕ × List ℕ). x.0) p.1 in
    let rest-is : drop (length ds) bytes ≡ rest = ap (λ (x : ℕ × List ℕ). x.1) p.1 in
    let text : decimal n ≡ ds = rw (← n-is) (decimal-digits_value own ds all canonical.0 canonical.1 (omega arith)) in
    (rw (text, ← rest-is) (sym (take-append-drop (length ds) bytes) ∙ ap (λ (t : List ℕ). t ++ drop (length ds) bytes) same), rw (← n-is) below)

pub count_again : (most n : ℕ) (rest : List ℕ) → most < 2 ^ 64 → 1 ≤ n → n ≤ most → NoDigit rest → count_at most (decimal n ++ rest) ≡ Some (n, rest)
unfolding count_at
count_again most n rest fits some few h = rw (number_again (most + 1) n rest (omega arith) (omega arith) h, lt-ltb 0 n some) refl

pub count_takes : (most : ℕ) (bytes : List ℕ) (n : ℕ) (rest : List ℕ) → most < 2 ^ 64 → count_at most bytes ≡ Some (n, rest) → (bytes ≡ decimal n ++ rest) × (1 ≤ n) × (n ≤ most)
unfolding count_at
count_takes most bytes n rest fits e =
    let c = bind_some (number_at (most + 1) bytes) (λ count. cond (ltb 0 count.0) (Some count) None) (n, rest) e in
    let p = cond_some (ltb 0 c.0.0) c.0 (n, rest) c.2 in
    let number = number_takes (most + 1) bytes c.0.0 c.0.1 (omega arith) c.1 in
    subst (λ (x : ℕ × List ℕ). (bytes ≡ decimal x.0 ++ x.1) × (1 ≤ x.0) × (x.0 ≤ most)) p.1 (number.0, ltb-true 0 c.0.0 p.0, omega (arith, number.1))

-- ---- bytes

-- a digit that was read is the glyph of its value
record HexDigit (c x : ℕ) : Type 0 where
  small : x < 16
  glyph : c ≡ digit_glyph false x

hex_takes : (c x : ℕ) → hex_value c ≡ Some x → HexDigit c x
hex_takes c x e = record { small = grind (arith, nat_tests); glyph = grind (arith, nat_tests) }

hex_again : (x : ℕ) → x < 16 → hex_value (digit_glyph false x) ≡ Some x
hex_again x lt = grind (arith, nat_tests)

pub pair_again : (n : ℕ) (rest : List ℕ) → n < 256 → pair_at (hex_pair n ++ rest) ≡ Some (n, rest)
unfolding pair_at
pair_again n rest lt =
    let sum : 16 * (n / 16) + n % 16 ≡ n = omega arith in
    rw (hex_again (n / 16) (omega arith), hex_again (n % 16) (omega arith), sum) refl

pair_from : (a b x y n : ℕ) → HexDigit a x → HexDigit b y → 16 * x + y ≡ n → (n / 16 ≡ x) × (n % 16 ≡ y) × (n < 256)
pair_from a b x y n p q e = (omega (arith, p.small, q.small), omega (arith, p.small, q.small), omega (arith, p.small, q.small))

pub pair_takes : (bytes : List ℕ) (n : ℕ) (rest : List ℕ) → pair_at bytes ≡ Some (n, rest) → (bytes ≡ hex_pair n ++ rest) × (n < 256)
unfolding pair_at
pair_takes [] n rest e = absurd cc
pair_takes (a ∷ []) n rest e = absurd cc
pair_takes (a ∷ b ∷ bytes) n rest e =
    let x = bind_some (hex_value a) (λ x. hex_value b >>= λ y. Some (16 * x + y, bytes)) (n, rest) e in
    let y = bind_some (hex_value b) (λ y. Some (16 * x.0 + y, bytes)) (n, rest) x.2 in
    let same = some_is (16 * x.0 + y.0, bytes) (n, rest) y.2 in
    let p = hex_takes a x.0 x.1 in
    let q = hex_takes b y.0 y.1 in
    let parts = pair_from a b x.0 y.0 n p q (ap (λ (t : ℕ × List ℕ). t.0) same) in
    (rw (parts.0, parts.1, ← p.glyph, ← q.glyph, ← ap (λ (t : ℕ × List ℕ). t.1) same) refl, parts.2)
