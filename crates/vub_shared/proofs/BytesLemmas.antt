use Rattle.std.proofs.Common.{◌≡◌, ◌≤◌, ◌<◌, ℕ, zero, suc, ◌+◌, ◌*◌, ◌^◌, List, length, get_or, refl, ap, sym, ◌∙◌, arith}
use Rattle.std.proofs.lemmas.Grind.{common_steps}
use Rattle.std.proofs.lemmas.Bool.Decides.{nat_tests}
use Rattle.std.specs.Int.{bytes_low_first}
use Rattle.byteorder.specs.Endian.{little_from, little_bytes}
use Rattle.byteorder.specs.Numbers.{little_number-reads_back, length-bytes_low_first}
use Rattle.std.proofs.lemmas.List.{append-nil}
use Rattle.std.proofs.Common.{[], ◌∷◌, ◌++◌, add-zero, ◌≢◌, subst}
use Rattle.std.proofs.Common.{◌/◌, ◌%◌, take, zero-add}
use Rattle.std.specs.Int.{byte_at}
use Rattle.byteorder.specs.Numbers.{little_from-take, little_from-bytes}
use Rattle.byteorder.proofs.Bytes.{take-bytes_low_first}
use Rattle.vub_base.specs.Fields.{field}
use Rattle.vub_shared.specs.Bytes.{Bytes, put, word, Apart, cleared}
use Rattle.vub_shared.specs.Bytes.{bytes_from}
use Rattle.byteorder.specs.Numbers.{little_from-cons}

-- a byte elsewhere stays
pub put_other : (m : Bytes) (s p : ℕ) (bs : List ℕ) (t q : ℕ) → Apart s p (length bs) t q 1 → put m s p bs t q ≡ m t q
unfolding put
put_other m s p bs t q h = grind (arith, nat_tests)

-- a byte that was put
pub put_inside : (m : Bytes) (s p : ℕ) (bs : List ℕ) (i : ℕ) → i < length bs → put m s p bs s (p + i) ≡ get_or bs i 0
unfolding put
put_inside m s p bs i h = grind (arith, nat_tests)

-- a word elsewhere stays
pub word-put_other : (w : ℕ) (m : Bytes) (s p : ℕ) (bs : List ℕ) (t q : ℕ) → Apart s p (length bs) t q w → word w (put m s p bs) t q ≡ word w m t q
unfolding word
word-put_other zero m s p bs t q h = refl
word-put_other (suc w) m s p bs t q h = grind (arith, put_other m s p bs t q, word-put_other w m s p bs t (q + 1))

-- a word of what was put
pub word-put_inside : (w : ℕ) (m : Bytes) (s p : ℕ) (bs : List ℕ) (i : ℕ) → i + w ≤ length bs → word w (put m s p bs) s (p + i) ≡ little_from i w bs
unfolding word
word-put_inside zero m s p bs i h = refl
word-put_inside (suc w) m s p bs i h =
    let here : put m s p bs s (p + i) ≡ get_or bs i 0 = put_inside m s p bs i (omega arith) in
    let next : word w (put m s p bs) s (p + (i + 1)) ≡ little_from (i + 1) w bs = word-put_inside w m s p bs (i + 1) (omega arith) in
    grind arith

-- what was stored is loaded
pub word-put_same : (w : ℕ) (m : Bytes) (s p x : ℕ) → x < 256 ^ w → word w (put m s p (little_bytes w x)) s p ≡ x
word-put_same w m s p x h =
    let whole : word w (put m s p (little_bytes w x)) s (p + 0) ≡ little_from 0 w (little_bytes w x) = word-put_inside w m s p (little_bytes w x) 0 (omega (arith, length-bytes_low_first 0 w x)) in
    let back : little_from 0 w (little_bytes w x ++ []) ≡ x = little_number-reads_back w x [] h in
    let same : little_from 0 w (little_bytes w x) ≡ x = rw append-nil at back in
    let at_start : word w (put m s p (little_bytes w x)) s p ≡ little_from 0 w (little_bytes w x) = rw add-zero at whole in
    at_start ∙ same

-- a number of w bytes
pub word-lt : (w : ℕ) (m : Bytes) (s p : ℕ) → ((t q : ℕ) → m t q < 256) → word w m s p < 256 ^ w
unfolding word
word-lt zero m s p h = omega arith
word-lt (suc w) m s p h =
    let here : m s p < 256 = h s p in
    let rest : word w m s (p + 1) < 256 ^ w = word-lt w m s (p + 1) h in
    omega (arith, here, rest)

-- what a load gives is the word
pub number_of_loaded : (w : ℕ) (m : Bytes) (s p : ℕ) → little_from 0 w (bytes_from w m s p) ≡ word w m s p
unfolding word
number_of_loaded zero m s p = refl
number_of_loaded (suc w) m s p =
    let rest : little_from 0 w (bytes_from w m s (p + 1)) ≡ word w m s (p + 1) = number_of_loaded w m s (p + 1) in
    let moved : little_from 1 w (m s p ∷ bytes_from w m s (p + 1)) ≡ little_from 0 w (bytes_from w m s (p + 1)) = little_from-cons 0 w (m s p) (bytes_from w m s (p + 1)) in
    omega (arith, rest, moved)

-- the number at the start of a longer run
number_of_start : (w n : ℕ) (m : Bytes) (s p : ℕ) → w ≤ n → little_from 0 w (bytes_from n m s p) ≡ word w m s p
unfolding word
number_of_start zero n m s p h = refl
number_of_start (suc w) zero m s p h = absurd (omega arith)
number_of_start (suc w) (suc n) m s p h =
    let rest : little_from 0 w (bytes_from n m s (p + 1)) ≡ word w m s (p + 1) = number_of_start w n m s (p + 1) (omega arith) in
    let moved : little_from 1 w (m s p ∷ bytes_from n m s (p + 1)) ≡ little_from 0 w (bytes_from n m s (p + 1)) = little_from-cons 0 w (m s p) (bytes_from n m s (p + 1)) in
    omega (arith, rest, moved)

-- a field of what was loaded is the word there
pub field_of_loaded : (at w n : ℕ) (m : Bytes) (s p : ℕ) → at + w ≤ n → field w at (bytes_from n m s p) ≡ word w m s (p + at)
field_of_loaded zero w n m s p h = number_of_start w n m s p (omega arith) ∙ ap (word w m s) (sym (add-zero p))
field_of_loaded (suc at) w zero m s p h = absurd (omega arith)
field_of_loaded (suc at) w (suc n) m s p h =
    let rest : field w at (bytes_from n m s (p + 1)) ≡ word w m s (p + 1 + at) = field_of_loaded at w n m s (p + 1) (omega arith) in
    let there : p + 1 + at ≡ p + suc at = omega arith in
    rest ∙ ap (word w m s) there

pub word-one : (m : Bytes) (s p : ℕ) → word 1 m s p ≡ m s p
unfolding word
word-one m s p = omega arith

-- a part of a number's bytes
part_of_bytes : (i w j v x : ℕ) → i + w ≤ v → little_from i w (bytes_low_first j v x) ≡ x / 256 ^ (j + i) % 256 ^ w
part_of_bytes zero w j v x h =
    let front : little_from 0 w (take w (bytes_low_first j v x)) ≡ little_from 0 w (bytes_low_first j v x) = little_from-take 0 w w (bytes_low_first j v x) (omega arith) in
    let cut : take w (bytes_low_first j v x) ≡ bytes_low_first j w x = take-bytes_low_first j v w x (omega arith) in
    let whole : little_from 0 w (bytes_low_first j w x ++ []) ≡ x / 256 ^ j % 256 ^ w = little_from-bytes w j x [] in
    let bare : little_from 0 w (bytes_low_first j w x) ≡ x / 256 ^ j % 256 ^ w = rw append-nil at whole in
    rw add-zero (sym front ∙ ap (little_from 0 w) cut ∙ bare)
part_of_bytes (suc i) w j zero x h = absurd (omega arith)
part_of_bytes (suc i) w j (suc v) x h =
    let moved : little_from (suc i) w (byte_at j x ∷ bytes_low_first (suc j) v x) ≡ little_from i w (bytes_low_first (suc j) v x) = little_from-cons i w (byte_at j x) (bytes_low_first (suc j) v x) in
    let rest : little_from i w (bytes_low_first (suc j) v x) ≡ x / 256 ^ (suc j + i) % 256 ^ w = part_of_bytes i w (suc j) v x (omega arith) in
    let same : suc j + i ≡ j + suc i = omega arith in
    moved ∙ rest ∙ ap (λ k. x / 256 ^ k % 256 ^ w) same

-- a smaller word of a larger one that was stored
pub word-put_part : (w v i : ℕ) (m : Bytes) (s p x : ℕ) → i + w ≤ v → word w (put m s p (little_bytes v x)) s (p + i) ≡ x / 256 ^ i % 256 ^ w
word-put_part w v i m s p x h =
    word-put_inside w m s p (little_bytes v x) i (omega (arith, length-bytes_low_first 0 v x)) ∙ part_of_bytes i w 0 v x h ∙ ap (λ k. x / 256 ^ k % 256 ^ w) (zero-add i)

-- the four words of an 8-byte store
pub four_words : (m : Bytes) (s p a b c d : ℕ) → a < 65536 → b < 65536 → c < 65536 → d < 65536
    → (word 2 (put m s p (little_bytes 8 (a + 65536 * (b + 65536 * (c + 65536 * d))))) s (p + 0) ≡ a)
    × (word 2 (put m s p (little_bytes 8 (a + 65536 * (b + 65536 * (c + 65536 * d))))) s (p + 2) ≡ b)
    × (word 2 (put m s p (little_bytes 8 (a + 65536 * (b + 65536 * (c + 65536 * d))))) s (p + 4) ≡ c)
    × (word 2 (put m s p (little_bytes 8 (a + 65536 * (b + 65536 * (c + 65536 * d))))) s (p + 6) ≡ d)
four_words m s p a b c d ha hb hc hd =
    let x : ℕ = a + 65536 * (b + 65536 * (c + 65536 * d)) in (
      word-put_part 2 8 0 m s p x (omega arith) ∙ omega arith,
      word-put_part 2 8 2 m s p x (omega arith) ∙ omega arith,
      word-put_part 2 8 4 m s p x (omega arith) ∙ omega arith,
      word-put_part 2 8 6 m s p x (omega arith) ∙ omega arith,
    )

-- one byte as a number of one byte
pub byte_of : (x : ℕ) → x < 256 → little_bytes 1 x ≡ x ∷ []
byte_of x h = grind (arith, common_steps)

-- one byte of a run
pub get_or-bytes_from : (w : ℕ) (m : Bytes) (s p i : ℕ) → i < w → get_or (bytes_from w m s p) i 0 ≡ m s (p + i)
get_or-bytes_from zero m s p i l = absurd (omega arith)
get_or-bytes_from (suc w) m s p zero l = grind arith
get_or-bytes_from (suc w) m s p (suc i) l =
    let rest : get_or (bytes_from w m s (p + 1)) i 0 ≡ m s (p + 1 + i) = get_or-bytes_from w m s (p + 1) i (omega arith) in
    let at_i : p + 1 + i ≡ p + suc i = omega arith in
    rest ∙ ap (m s) at_i

pub length-bytes_from : (w : ℕ) (m : Bytes) (s p : ℕ) → length (bytes_from w m s p) ≡ w
length-bytes_from zero m s p = refl
length-bytes_from (suc w) m s p = omega (arith, length-bytes_from w m s (p + 1))

-- a run elsewhere stays
pub bytes_from-put_other : (w : ℕ) (m : Bytes) (s p : ℕ) (bs : List ℕ) (t q : ℕ) → Apart s p (length bs) t q w → bytes_from w (put m s p bs) t q ≡ bytes_from w m t q
bytes_from-put_other zero m s p bs t q h = refl
bytes_from-put_other (suc w) m s p bs t q h =
    let here : put m s p bs t q ≡ m t q = put_other m s p bs t q (grind arith) in
    let rest : bytes_from w (put m s p bs) t (q + 1) ≡ bytes_from w m t (q + 1) = bytes_from-put_other w m s p bs t (q + 1) (grind arith) in
    ap (λ b. b ∷ bytes_from w (put m s p bs) t (q + 1)) here ∙ ap (λ bytes. m t q ∷ bytes) rest

bytes_from-put_inside : (done bs : List ℕ) (m : Bytes) (s p : ℕ) → bytes_from (length bs) (put m s p (done ++ bs)) s (p + length done) ≡ bs
bytes_from-put_inside done [] m s p = refl
bytes_from-put_inside done (b ∷ bs) m s p =
    let here : put m s p (done ++ b ∷ bs) s (p + length done) ≡ get_or (done ++ b ∷ bs) (length done) 0 = put_inside m s p (done ++ b ∷ bs) (length done) (grind (arith, common_steps)) in
    let first : get_or (done ++ b ∷ bs) (length done) 0 ≡ b = grind (arith, common_steps) in
    let rest : bytes_from (length bs) (put m s p ((done ++ b ∷ []) ++ bs)) s (p + length (done ++ b ∷ [])) ≡ bs = bytes_from-put_inside (done ++ b ∷ []) bs m s p in
    let list : (done ++ b ∷ []) ++ bs ≡ done ++ b ∷ bs = grind (arith, common_steps) in
    let place : p + length (done ++ b ∷ []) ≡ p + length done + 1 = grind (arith, common_steps) in
    let moved : bytes_from (length bs) (put m s p (done ++ b ∷ bs)) s (p + length done + 1) ≡ bs =
    subst (λ (k : ℕ). bytes_from (length bs) (put m s p (done ++ b ∷ bs)) s k ≡ bs) place (subst (λ (xs : List ℕ). bytes_from (length bs) (put m s p xs) s (p + length (done ++ b ∷ [])) ≡ bs) list rest) in
    ap (λ x. x ∷ bytes_from (length bs) (put m s p (done ++ b ∷ bs)) s (p + length done + 1)) (here ∙ first) ∙ ap (λ bytes. b ∷ bytes) moved

-- a run that was stored is loaded
pub bytes_from-put_same : (bs : List ℕ) (m : Bytes) (s p : ℕ) → bytes_from (length bs) (put m s p bs) s p ≡ bs
bytes_from-put_same bs m s p =
    let whole : bytes_from (length bs) (put m s p ([] ++ bs)) s (p + 0) ≡ bs = bytes_from-put_inside [] bs m s p in
    subst (λ (k : ℕ). bytes_from (length bs) (put m s p bs) s k ≡ bs) (add-zero p) whole

-- a word of a space whose bytes are zero
pub word-cleared_same : (w : ℕ) (m : Bytes) (s q : ℕ) → word w (cleared s m) s q ≡ 0
unfolding word
word-cleared_same zero m s q = refl
word-cleared_same (suc w) m s q =
    let rest : word w (cleared s m) s (q + 1) ≡ 0 = word-cleared_same w m s (q + 1) in
    grind (arith, nat_tests)

-- a word of another space
pub word-cleared_other : (w : ℕ) (m : Bytes) (s t q : ℕ) → t ≢ s → word w (cleared s m) t q ≡ word w m t q
unfolding word
word-cleared_other zero m s t q apart = refl
word-cleared_other (suc w) m s t q apart =
    let rest : word w (cleared s m) t (q + 1) ≡ word w m t (q + 1) = word-cleared_other w m s t (q + 1) apart in
    grind (arith, nat_tests)
