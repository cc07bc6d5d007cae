-- In a legal history no number is published twice.
use Rattle.std.proofs.Common.{◌≡◌, ℕ, ◌<◌, ◌+◌, ◌-◌, ◌==◌, Bool, true, false, List, [], ◌∷◌, ◌++◌, length, get_or, refl, sym, ◌∙◌, subst, inl, inr, arith}
use Rattle.std.specs.Prelude.{All, reverse, if◌then◌else◌}
use Rattle.std.proofs.lemmas.Bool.{cases_lt, eqb-true}
use Rattle.std.proofs.lemmas.List.{get_or_append_left, get_or-append_right, length-append}
use Rattle.std.proofs.lemmas.List.Elements.{All-map}
use Rattle.vub_base.specs.declared.header.CacheMode.{CacheMode}
use Rattle.vub_device.specs.declared.entry.Entry.{Entry}
use Rattle.vub_device.specs.declared.entry.Entry.TheVariants.{Offer, Accept, Look, Act, Sync, Fault, Publish, Kill, Start, Collect, Power}
use Rattle.vub_device.specs.Past.{published, numbers, is_among, IsDistinct}
use Rattle.vub_device.proofs.Distinct.{among_at}
use Rattle.vub_device.proofs.Histories.{kept, after_reverse}
use Rattle.vub_device.specs.Legal.{Allowed, Legal}

-- a distinct list that has none of another's numbers may follow it
pub distinct-append : (xs ys : List ℕ) → IsDistinct xs → IsDistinct ys → All (λ y. is_among xs y ≡ false) ys → IsDistinct (xs ++ ys)
distinct-append xs ys p q new i j d lt below same =
    let all : j < length xs + length ys = omega (arith, length-append xs ys) in
    elim (cases_lt j (length xs)) [
      | inl a ↦ p i j d lt a (sym (get_or_append_left xs ys d i (omega arith)) ∙ same ∙ get_or_append_left xs ys d j a)
      | inr a ↦ let right : get_or (xs ++ ys) j d ≡ get_or ys (j - length xs) d = get_or-append_right xs ys (length xs) j d refl a in
          elim (cases_lt i (length xs)) [
            | inl b ↦ let here : get_or xs i d ≡ get_or ys (j - length xs) d = sym (get_or_append_left xs ys d i b) ∙ same ∙ right in
                let found : is_among xs (get_or ys (j - length xs) d) ≡ true = among_at xs i d _ b here in
                let missed : is_among xs (get_or ys (j - length xs) d) ≡ false = new (j - length xs) d (omega arith) in
                absurd (cc)
            | inr b ↦ q (i - length xs) (j - length xs) d (omega arith) (omega arith) (sym (get_or-append_right xs ys (length xs) i d refl b) ∙ same ∙ right)
          ]
    ]

step : (capacity : ℕ) (mode : CacheMode) (q : ℕ) (past : List Entry) (e : Entry) → IsDistinct (published past q) → Allowed capacity mode past e → IsDistinct (published (e ∷ past) q)
step capacity mode q past (Publish p answers) d is =
    let new : All (λ y. is_among (published past p) y ≡ false) (numbers answers) = All-map (λ y. is_among (published past p) y ≡ false) (λ a. a.number) answers (λ i a lt. (is.opens i a lt).unpublished) in
    let P : Bool → Type 0 = λ b. ((p == q) ≡ b) → IsDistinct (if b then published past q ++ numbers answers else published past q) in
    let both : (b : Bool) → P b = λ b. elim b as P [
      | true ↦ λ e. subst (λ (r : ℕ). IsDistinct (published past r) → IsDistinct (published past r ++ numbers answers)) (eqb-true p q e) (λ old. distinct-append (published past p) (numbers answers) old is.distinct new) d
      | false ↦ λ e. d
    ] in
    both (p == q) refl
step capacity mode q past (Offer p r) d is = d
step capacity mode q past (Accept p k) d is = d
step capacity mode q past (Look p k s v) d is = d
step capacity mode q past (Act p k s v) d is = d
step capacity mode q past (Sync p k) d is = d
step capacity mode q past (Fault p k) d is = d
step capacity mode q past Kill d is = d
step capacity mode q past (Start p list) d is = d
step capacity mode q past (Collect p k) d is = d
step capacity mode q past (Power image) d is = λ i j x lt below same. absurd (omega arith)

pub published_once : (capacity : ℕ) (mode : CacheMode) (history : List Entry) (q : ℕ) → Legal capacity mode history → IsDistinct (published (reverse history) q)
published_once capacity mode history q legal =
    subst (λ (past : List Entry). IsDistinct (published past q)) (after_reverse history)
    (kept capacity mode (λ past. IsDistinct (published past q)) (step capacity mode q) [] history (λ i j x lt below same. absurd (omega arith)) legal)
