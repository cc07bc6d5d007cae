-- Every text is a schedule's or has one first bad line.
use Rattle.std.proofs.Common.{◌≡◌, ℕ, zero, suc, ◌+◌, ◌<◌, ◌≤◌, List, [], ◌∷◌, ◌++◌, length, Option, Some, None, refl, sym, ap, subst, ◌∙◌, append_assoc, arith, inl, inr, ◌⊎◌}
use Rattle.std.specs.List.{AllByRecursion, flat_map}
use Rattle.vub_base.specs.declared.header.Header1.{Header1}
use Rattle.vub_schedule.specs.declared.types.Event.{Event}
use Rattle.vub_schedule.specs.declared.types.Schedule.{Schedule}
use Rattle.vub_schedule.specs.Spelling.{header_line, event_line, spelling, IsHeader, IsEvent, IsText}
use Rattle.vub_schedule.specs.Faults.{NoEvent, Stops, IsFirstBad}
use Rattle.vub_schedule.specs.Reading.{event_at, header_at}
use Rattle.vub_schedule.proofs.Lines.{event_takes, header_takes}
use Rattle.vub_schedule.proofs.Texts.{fits, no_event, no_header, shorter, same_first, same_header}

-- ---- each text is one or the other

abbrev Good : Header1 → List ℕ → Type 0
Good h bytes = (es : List Event) × AllByRecursion (IsEvent h) es × (bytes ≡ flat_map event_line es)

abbrev Bad : Header1 → List ℕ → Type 0
Bad h bytes = (es : List Event) × (rest : List ℕ) × AllByRecursion (IsEvent h) es × (bytes ≡ flat_map event_line es ++ rest) × (0 < length rest) × NoEvent h rest

next : (h : Header1) (bytes : List ℕ) → IsHeader h → 0 < length bytes → (o : Option (Event × List ℕ)) → event_at h bytes ≡ o
    → ((after : List ℕ) → length after < length bytes → Good h after ⊎ Bad h after) → Good h bytes ⊎ Bad h bytes
next h bytes good some None e more = inr ([], bytes, tt, refl, some, no_event h bytes good e)
next h bytes good some (Some x) e more =
    let t = event_takes h bytes x.0 x.1 (fits h good) e in
    elim (more x.1 (shorter h bytes x.1 x.0 good e)) [
      | inl g ↦ inl (x.0 ∷ g.0, (t.1, g.1), t.0 ∙ ap (λ (z : List ℕ). event_line x.0 ++ z) g.2)
      | inr b ↦ inr (x.0 ∷ b.0, b.1, (t.1, b.2), t.0 ∙ ap (λ (z : List ℕ). event_line x.0 ++ z) b.3 ∙ sym (append_assoc (event_line x.0) (flat_map event_line b.0) b.1), b.4, b.5)
    ]

all_lines : (k : ℕ) (h : Header1) (bytes : List ℕ) → IsHeader h → length bytes ≤ k → Good h bytes ⊎ Bad h bytes
all_lines k h [] good le = inl ([], tt, refl)
all_lines zero h (b ∷ bytes) good le = absurd (omega (arith, le))
all_lines (suc k) h (b ∷ bytes) good le = next h (b ∷ bytes) good (omega arith) (event_at h (b ∷ bytes)) refl (λ after lt. all_lines k h after good (omega (arith, lt, le)))

from_header : (bytes : List ℕ) (o : Option (Header1 × List ℕ)) → header_at bytes ≡ o → IsText bytes ⊎ ((n : ℕ) × IsFirstBad bytes n)
unfolding spelling
from_header bytes None e = inr (1, inl (refl, no_header bytes e))
from_header bytes (Some x) e =
    let t = header_takes bytes x.0 x.1 e in
    elim (all_lines (length x.1) x.0 x.1 t.1 (omega arith)) [
      | inl g ↦ inl (record { header = x.0; events = g.0 }, record { header = t.1; events = g.1 }, t.0 ∙ ap (λ (z : List ℕ). header_line x.0 ++ z) g.2)
      | inr b ↦ inr (
        length b.0 + 2,
        inr (
          record { header = x.0; events = b.0 },
          b.1,
          record {
            good = record { header = t.1; events = b.2 };
            parts = t.0 ∙ ap (λ (z : List ℕ). header_line x.0 ++ z) b.3 ∙ sym (append_assoc (header_line x.0) (flat_map event_line b.0) b.1);
            more = b.4;
            bad = b.5;
            numbered = refl;
          },
        ),
      )
    ]

pub one_or_other : (bytes : List ℕ) → IsText bytes ⊎ ((n : ℕ) × IsFirstBad bytes n)
one_or_other bytes = from_header bytes (header_at bytes) refl

-- ---- the first bad line is one line

same_count : (h : Header1) (xs ys : List Event) (a b : List ℕ) → IsHeader h → AllByRecursion (IsEvent h) xs → AllByRecursion (IsEvent h) ys → NoEvent h a → NoEvent h b
    → flat_map event_line xs ++ a ≡ flat_map event_line ys ++ b → length xs ≡ length ys
same_count h [] [] a b good p q bad_a bad_b e = refl
same_count h [] (y ∷ ys) a b good p q bad_a bad_b e = absurd (bad_a y (flat_map event_line ys ++ b) q.0 (e ∙ append_assoc (event_line y) (flat_map event_line ys) b))
same_count h (x ∷ xs) [] a b good p q bad_a bad_b e = absurd (bad_b x (flat_map event_line xs ++ a) p.0 (sym e ∙ append_assoc (event_line x) (flat_map event_line xs) a))
same_count h (x ∷ xs) (y ∷ ys) a b good p q bad_a bad_b e =
    let f = sym (append_assoc (event_line x) (flat_map event_line xs) a) ∙ e ∙ append_assoc (event_line y) (flat_map event_line ys) b in
    let s = same_first h x y (flat_map event_line xs ++ a) (flat_map event_line ys ++ b) good p.0 q.0 f in
    omega (arith, same_count h xs ys a b good p.1 q.1 bad_a bad_b s.1)

headed : (bytes rest : List ℕ) (s : Schedule) → bytes ≡ spelling s ++ rest → bytes ≡ header_line s.header ++ (flat_map event_line s.events ++ rest)
unfolding spelling
headed bytes rest s e = e ∙ append_assoc (header_line s.header) (flat_map event_line s.events) rest

both_stop : (bytes : List ℕ) (m n : ℕ) (s t : Schedule) (a b : List ℕ) → Stops bytes m s a → Stops bytes n t b → m ≡ n
both_stop bytes m n s t a b p q =
    let h = same_header s.header t.header (flat_map event_line s.events ++ a) (flat_map event_line t.events ++ b) p.good.header q.good.header (sym (headed bytes a s p.parts) ∙ headed bytes b t q.parts) in
    let good : AllByRecursion (IsEvent s.header) t.events = subst (λ (x : Header1). AllByRecursion (IsEvent x) t.events) (sym h.0) q.good.events in
    let bad : NoEvent s.header b = subst (λ (x : Header1). NoEvent x b) (sym h.0) q.bad in
    let same = same_count s.header s.events t.events a b p.good.header p.good.events good p.bad bad h.1 in
    omega (arith, same, p.numbered, q.numbered)

pub one_line : (bytes : List ℕ) (m n : ℕ) → IsFirstBad bytes m → IsFirstBad bytes n → m ≡ n
one_line bytes m n (inl p) (inl q) = p.0 ∙ sym q.0
one_line bytes m n (inl p) (inr q) = absurd (p.1 q.0.header (flat_map event_line q.0.events ++ q.1) q.2.good.header (headed bytes q.1 q.0 q.2.parts))
one_line bytes m n (inr p) (inl q) = absurd (q.1 p.0.header (flat_map event_line p.0.events ++ p.1) p.2.good.header (headed bytes p.1 p.0 p.2.parts))
one_line bytes m n (inr p) (inr q) = both_stop bytes m n p.0 q.0 p.1 q.1 p.2 q.2
