-- What a write into one space does to the image.
use Rattle.std.proofs.Common.{◌≡◌, ◌≢◌, ◌≤◌, ◌<◌, ◌⊎◌, ℕ, zero, suc, ◌+◌, ◌-◌, ◌%◌, List, [], ◌∷◌, ◌++◌, length, get_or, set, refl, ap, sym, ◌∙◌, subst, inl, inr, arith}
use Rattle.std.specs.Prelude.{replicate, ◌==◌, if◌then◌else◌}
use Rattle.std.proofs.lemmas.Bool.Decides.{nat_tests}
use Rattle.std.proofs.lemmas.Bool.{cases_lt, cases_eq}
use Rattle.std.proofs.lemmas.List.{places}
use Rattle.vub_shared.specs.declared.held.Held.{Held}
use Rattle.vub_shared.specs.Bytes.{Bytes, put, cleared}
use Rattle.vub_shared.specs.Splices.{splice}
use Rattle.vub_shared.specs.Held.{space_bytes, image, space_size}
use Rattle.vub_shared.proofs.BytesLemmas.{put_other, put_inside, get_or-bytes_from, length-bytes_from}
use Rattle.vub_shared.specs.Bytes.{bytes_from}
use Rattle.std.proofs.Common.{Some}
use Rattle.std.proofs.lemmas.Grind.{same_number_lists}

-- the bytes of one space set anew
pub space_bytes-set : (spaces : List Held) (s t : ℕ) (v : Held) → s < length spaces → space_bytes (set spaces s v) t ≡ (if t == s then v.bytes.items else space_bytes spaces t)
space_bytes-set [] s t v l = absurd (omega arith)
space_bytes-set (u ∷ us) zero zero v l = grind (arith, nat_tests)
space_bytes-set (u ∷ us) zero (suc t) v l = grind (arith, nat_tests)
space_bytes-set (u ∷ us) (suc s) zero v l = grind (arith, nat_tests)
space_bytes-set (u ∷ us) (suc s) (suc t) v l =
    let rest : space_bytes (set us s v) t ≡ (if t == s then v.bytes.items else space_bytes us t) = space_bytes-set us s t v (omega arith) in
    grind (arith, nat_tests)

pub space_bytes-get : (spaces : List Held) (s : ℕ) (d : Held) → s < length spaces → space_bytes spaces s ≡ (get_or spaces s d).bytes.items
space_bytes-get [] s d l = absurd (omega arith)
space_bytes-get (u ∷ us) zero d l = refl
space_bytes-get (u ∷ us) (suc s) d l = space_bytes-get us s d (omega arith)

pub space_bytes-past : (spaces : List Held) (s : ℕ) → length spaces ≤ s → space_bytes spaces s ≡ []
space_bytes-past [] s l = refl
space_bytes-past (u ∷ us) zero l = absurd (omega arith)
space_bytes-past (u ∷ us) (suc s) l = space_bytes-past us s (omega arith)

pub size-overwritten : (spaces : List Held) (s p : ℕ) (bs : List ℕ) (v : Held) → s < length spaces → v.bytes.items ≡ splice (space_bytes spaces s) p bs → p + length bs ≤ space_size spaces s → (t : ℕ) → space_size (set spaces s v) t ≡ space_size spaces t
size-overwritten spaces s p bs v held is room t = elim (cases_eq t s) [
  | inr apart ↦ ap (λ (xs : List ℕ). length xs) (let same : space_bytes (set spaces s v) t ≡ space_bytes spaces t = space_bytes-set spaces s t v held ∙ grind (arith, nat_tests) in same)
  | inl here ↦
      let now : space_bytes (set spaces s v) s ≡ splice (space_bytes spaces s) p bs = space_bytes-set spaces s s v held ∙ grind (arith, nat_tests) in
      let P : ℕ → Type 0 = λ k. space_size (set spaces s v) k ≡ space_size spaces k in
      subst P (sym here) (ap (λ (xs : List ℕ). length xs) now ∙ length-splice_here (space_bytes spaces s) p bs room)
]
  where
    length-splice_here : (xs : List ℕ) (p : ℕ) (bs : List ℕ) → p + length bs ≤ length xs → length (splice xs p bs) ≡ length xs
    length-splice_here xs p bs room = grind (arith, places)

splice_other : (xs : List ℕ) (p : ℕ) (bs : List ℕ) (q : ℕ) → p + length bs ≤ length xs → (q + 1 ≤ p) ⊎ (p + length bs ≤ q) → get_or (splice xs p bs) q 0 ≡ get_or xs q 0
splice_other xs p bs q room h = grind (arith, places)

splice_inside : (xs : List ℕ) (p : ℕ) (bs : List ℕ) (i : ℕ) → p + length bs ≤ length xs → i < length bs → get_or (splice xs p bs) (p + i) 0 ≡ get_or bs i 0
splice_inside xs p bs i room h = grind (arith, places)

-- a write over part of one space
pub image-overwritten : (spaces : List Held) (s p : ℕ) (bs : List ℕ) (v : Held) → s < length spaces → v.bytes.items ≡ splice (space_bytes spaces s) p bs → p + length bs ≤ space_size spaces s
    → ((k : ℕ) → get_or bs k 0 < 256) → (t q : ℕ) → image (set spaces s v) t q ≡ put (image spaces) s p bs t q
image-overwritten spaces s p bs v held is room fits t q = elim (cases_eq t s) [
  | inr apart ↦
      let same : space_bytes (set spaces s v) t ≡ space_bytes spaces t = space_bytes-set spaces s t v held ∙ grind (arith, nat_tests) in
      ap (λ (xs : List ℕ). get_or xs q 0 % 256) same ∙ sym (put_other (image spaces) s p bs t q (inl apart))
  | inl here ↦
      let now : space_bytes (set spaces s v) s ≡ splice (space_bytes spaces s) p bs = space_bytes-set spaces s s v held ∙ grind (arith, nat_tests) in
      let P : ℕ → Type 0 = λ k. image (set spaces s v) k q ≡ put (image spaces) s p bs k q in
      subst P (sym here) (elim (cases_lt q p) [
        | inl before ↦ ap (λ (xs : List ℕ). get_or xs q 0 % 256) now ∙ ap (λ (k : ℕ). k % 256) (splice_other (space_bytes spaces s) p bs q room (inl (omega arith))) ∙ sym (put_other (image spaces) s p bs s q (inr (inl (omega arith))))
        | inr from ↦ elim (cases_lt q (p + length bs)) [
          | inr after ↦ ap (λ (xs : List ℕ). get_or xs q 0 % 256) now ∙ ap (λ (k : ℕ). k % 256) (splice_other (space_bytes spaces s) p bs q room (inr after)) ∙ sym (put_other (image spaces) s p bs s q (inr (inr after)))
          | inl within ↦
              let at_q : p + (q - p) ≡ q = omega arith in
              let here_is : image (set spaces s v) s (p + (q - p)) ≡ get_or bs (q - p) 0 % 256 =
              ap (λ (xs : List ℕ). get_or xs (p + (q - p)) 0 % 256) now ∙ ap (λ (k : ℕ). k % 256) (splice_inside (space_bytes spaces s) p bs (q - p) room (omega arith)) in
              let there_is : put (image spaces) s p bs s (p + (q - p)) ≡ get_or bs (q - p) 0 = put_inside (image spaces) s p bs (q - p) (omega arith) in
              let small : get_or bs (q - p) 0 % 256 ≡ get_or bs (q - p) 0 = let f : get_or bs (q - p) 0 < 256 = fits (q - p) in omega arith in
              let Q : ℕ → Type 0 = λ k. image (set spaces s v) s k ≡ put (image spaces) s p bs s k in
              subst Q at_q (here_is ∙ small ∙ sym there_is)
        ]
      ])
]

-- a part of one space, as bytes, is what its image tells
pub loaded-image : (spaces : List Held) (s p w : ℕ) (ys : List ℕ) → length ys ≡ w → ((i : ℕ) → i < w → get_or ys i 0 ≡ get_or (space_bytes spaces s) (p + i) 0) → ((i : ℕ) → get_or ys i 0 < 256)
    → (m : Bytes) → Some (image spaces) ≡ Some m → ys ≡ bytes_from w m s p
loaded-image spaces s p w ys len same fits m e =
    let is : image spaces ≡ m = cc in
    let whole : ys ≡ bytes_from w (image spaces) s p = same_number_lists ys (bytes_from w (image spaces) s p) (len ∙ sym (length-bytes_from w (image spaces) s p))
    (λ i l.
    let at_i : get_or (bytes_from w (image spaces) s p) i 0 ≡ image spaces s (p + i) = get_or-bytes_from w (image spaces) s p i (omega arith) in
    let raw : get_or ys i 0 ≡ get_or (space_bytes spaces s) (p + i) 0 = same i (omega arith) in
    let small : get_or ys i 0 < 256 = fits i in
    let tiny : get_or (space_bytes spaces s) (p + i) 0 % 256 ≡ get_or ys i 0 = omega arith in
    sym tiny ∙ sym at_i) in
    whole ∙ ap (λ (f : Bytes). bytes_from w f s p) is

-- one space more
pub space_bytes-push : (spaces : List Held) (h : Held) (t : ℕ) → space_bytes (spaces ++ h ∷ []) t ≡ (if t == length spaces then h.bytes.items else space_bytes spaces t)
space_bytes-push [] h zero = grind (arith, nat_tests)
space_bytes-push [] h (suc t) = grind (arith, nat_tests)
space_bytes-push (g ∷ gs) h zero = grind (arith, nat_tests)
space_bytes-push (g ∷ gs) h (suc t) =
    let rest : space_bytes (gs ++ h ∷ []) t ≡ (if t == length gs then h.bytes.items else space_bytes gs t) = space_bytes-push gs h t in
    grind (arith, nat_tests)

zero-replicate : (n q : ℕ) → let zeros : List ℕ = replicate n 0 in get_or zeros q 0 ≡ 0
zero-replicate zero q = refl
zero-replicate (suc n) zero = refl
zero-replicate (suc n) (suc q) = zero-replicate n q

-- one space more of zero bytes
pub image-push : (spaces : List Held) (h : Held) (n : ℕ) → h.bytes.items ≡ replicate n 0 → (t q : ℕ) → image (spaces ++ h ∷ []) t q ≡ cleared (length spaces) (image spaces) t q
image-push spaces h n zeros t q =
    let here : space_bytes (spaces ++ h ∷ []) t ≡ (if t == length spaces then h.bytes.items else space_bytes spaces t) = space_bytes-push spaces h t in
    elim (cases_eq t (length spaces)) [
      | inl same ↦
          let is : space_bytes (spaces ++ h ∷ []) t ≡ replicate n 0 = here ∙ grind (arith, nat_tests) in
          ap (λ (xs : List ℕ). get_or xs q 0 % 256) is ∙ ap (λ (k : ℕ). k % 256) (zero-replicate n q) ∙ grind (arith, nat_tests)
      | inr apart ↦
          let is : space_bytes (spaces ++ h ∷ []) t ≡ space_bytes spaces t = here ∙ grind (arith, nat_tests) in
          ap (λ (xs : List ℕ). get_or xs q 0 % 256) is ∙ grind (arith, nat_tests)
    ]

-- the sizes with one space more
pub size-push : (spaces : List Held) (h : Held) (s : ℕ) → s ≢ length spaces → space_size (spaces ++ h ∷ []) s ≡ space_size spaces s
size-push spaces h s apart =
    let here : space_bytes (spaces ++ h ∷ []) s ≡ space_bytes spaces s = space_bytes-push spaces h s ∙ grind (arith, nat_tests) in
    ap (λ (xs : List ℕ). length xs) here

pub size-pushed : (spaces : List Held) (h : Held) → space_size (spaces ++ h ∷ []) (length spaces) ≡ length h.bytes.items
size-pushed spaces h =
    let here : space_bytes (spaces ++ h ∷ []) (length spaces) ≡ h.bytes.items = space_bytes-push spaces h (length spaces) ∙ grind (arith, nat_tests) in
    ap (λ (xs : List ℕ). length xs) here
