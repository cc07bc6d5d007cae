-- A text is read in one way.
use Rattle.std.proofs.Common.{◌≡◌, ℕ, ◌+◌, ◌^◌, ◌<◌, ◌≤◌, List, [], ◌∷◌, ◌++◌, length, Some, None, refl, sym, ap, subst, ◌∙◌, append_assoc, arith, inl, inr}
use Rattle.std.specs.List.{AllByRecursion, flat_map}
use Rattle.std.specs.Prelude.{Result, Ok, Err, IfOk, IfErr, MatchResult}
use Rattle.std.proofs.lemmas.Grind.{flat_map-append}
use Rattle.std.proofs.lemmas.List.{append-nil, length-append}
use Rattle.vub_schedule.specs.declared.fault.ScheduleFault.{ScheduleFault}
use Rattle.vub_schedule.specs.declared.fault.ScheduleFault.TheVariants as faults
use Rattle.vub_base.specs.declared.header.Header1.{Header1}
use Rattle.vub_schedule.specs.declared.types.Event.{Event}
use Rattle.vub_schedule.specs.declared.types.Schedule.{Schedule}
use Rattle.vub_schedule.specs.Spelling.{header_line, event_line, event_text, spelling, IsHeader, IsEvent, IsSchedule}
use Rattle.vub_schedule.specs.Faults.{NoHeader, NoEvent, IsFirstBad, LinesStop, Causes, LinesCause}
use Rattle.vub_schedule.specs.Reading.{tag, event_at, event_text_at, asked_at, numbered_at, word_at, header_at}
use Rattle.vub_schedule.proofs.Fields.{some_is}
use Rattle.vub_schedule.proofs.Lines.{event_again, event_takes, header_again}

AllByRecursion-push : {X : Type 0} (P : X → Type 0) (xs : List X) (y : X) → AllByRecursion P xs → P y → AllByRecursion P (xs ++ y ∷ [])
AllByRecursion-push P [] y h p = (p, tt)
AllByRecursion-push P (x ∷ xs) y h p = (h.0, AllByRecursion-push P xs y h.1 p)

pub fits : (h : Header1) → IsHeader h → h.capacity ≤ 2 ^ 64
fits h is = omega (arith, is.few)

pub no_event : (h : Header1) (rest : List ℕ) → IsHeader h → event_at h rest ≡ None → NoEvent h rest
no_event h rest good none = λ e more is eq. let again = event_again h e more (fits h good) is in let same = ap (event_at h) eq in absurd cc

pub no_header : (bytes : List ℕ) → header_at bytes ≡ None → NoHeader bytes
no_header bytes none = λ h more is eq. let again = header_again h more is in let same = ap header_at eq in absurd cc

empty_none : (h : Header1) → event_at h [] ≡ None
unfolding event_at event_text_at asked_at numbered_at word_at tag
empty_none h = refl

-- two texts that begin with an event of each begin with the same one
pub same_first : (h : Header1) (x y : Event) (a b : List ℕ) → IsHeader h → IsEvent h x → IsEvent h y → event_line x ++ a ≡ event_line y ++ b → (x ≡ y) × (a ≡ b)
same_first h x y a b good p q e =
    let s = some_is (x, a) (y, b) (sym (event_again h x a (fits h good) p) ∙ ap (event_at h) e ∙ event_again h y b (fits h good) q) in
    (ap (λ (t : Event × List ℕ). t.0) s, ap (λ (t : Event × List ℕ). t.1) s)

no_line : (h : Header1) (x : Event) (a : List ℕ) → IsHeader h → IsEvent h x → event_line x ++ a ≡ [] → ⊥
no_line h x a good p e =
    let again = event_again h x a (fits h good) p in let same = ap (event_at h) e in let none = empty_none h in cc

pub lines_injective : (h : Header1) (xs ys : List Event) → IsHeader h → AllByRecursion (IsEvent h) xs → AllByRecursion (IsEvent h) ys → flat_map event_line xs ≡ flat_map event_line ys → xs ≡ ys
lines_injective h [] [] good p q e = refl
lines_injective h [] (y ∷ ys) good p q e = absurd (no_line h y (flat_map event_line ys) good q.0 (sym e))
lines_injective h (x ∷ xs) [] good p q e = absurd (no_line h x (flat_map event_line xs) good p.0 e)
lines_injective h (x ∷ xs) (y ∷ ys) good p q e =
    let s = same_first h x y (flat_map event_line xs) (flat_map event_line ys) good p.0 q.0 e in
    ap (λ (t : Event). t ∷ xs) s.0 ∙ ap (λ (t : List Event). y ∷ t) (lines_injective h xs ys good p.1 q.1 s.1)

pub lines_stop : (h : Header1) (xs ys : List Event) (rest : List ℕ) → IsHeader h → AllByRecursion (IsEvent h) xs → AllByRecursion (IsEvent h) ys → NoEvent h rest → 0 < length rest
    → flat_map event_line xs ++ rest ≡ flat_map event_line ys → ⊥
lines_stop h [] [] rest good p q bad more e = let l = ap (λ (t : List ℕ). length t) e in omega arith
lines_stop h [] (y ∷ ys) rest good p q bad more e = bad y (flat_map event_line ys) q.0 e
lines_stop h (x ∷ xs) [] rest good p q bad more e = no_line h x (flat_map event_line xs ++ rest) good p.0 (sym (append_assoc (event_line x) (flat_map event_line xs) rest) ∙ e)
lines_stop h (x ∷ xs) (y ∷ ys) rest good p q bad more e =
    let s = same_first h x y (flat_map event_line xs ++ rest) (flat_map event_line ys) good p.0 q.0 (sym (append_assoc (event_line x) (flat_map event_line xs) rest) ∙ e) in
    lines_stop h xs ys rest good p.1 q.1 bad more s.1

pub same_header : (g h : Header1) (a b : List ℕ) → IsHeader g → IsHeader h → header_line g ++ a ≡ header_line h ++ b → (g ≡ h) × (a ≡ b)
same_header g h a b p q e =
    let s = some_is (g, a) (h, b) (sym (header_again g a p) ∙ ap header_at e ∙ header_again h b q) in
    (ap (λ (t : Header1 × List ℕ). t.0) s, ap (λ (t : Header1 × List ℕ). t.1) s)

same_schedule : (s t : Schedule) → s.header ≡ t.header → s.events ≡ t.events → s ≡ t
same_schedule s t e f = ap (λ (h : Header1). record { header = h; events = s.events }) e ∙ ap (λ (es : List Event). record { header = t.header; events = es }) f

-- a text spells one schedule
pub spelling_injective : (s t : Schedule) → IsSchedule s → IsSchedule t → spelling s ≡ spelling t → s ≡ t
unfolding spelling
spelling_injective s t p q e =
    let h = same_header s.header t.header (flat_map event_line s.events) (flat_map event_line t.events) p.header q.header e in
    let good : AllByRecursion (IsEvent s.header) t.events = subst (λ (x : Header1). AllByRecursion (IsEvent x) t.events) (sym h.0) q.events in
    same_schedule s t h.0 (lines_injective s.header s.events t.events p.header p.events good h.1)

-- a text with a bad line spells none
pub not_spelled : (bytes : List ℕ) (n : ℕ) (t : Schedule) → IsFirstBad bytes n → IsSchedule t → bytes ≡ spelling t → ⊥
unfolding spelling
not_spelled bytes n t (inl first) is e = first.1 t.header (flat_map event_line t.events) is.header e
not_spelled bytes n t (inr stop) is e =
    let s = stop.0 in
    let rest = stop.1 in
    let r = stop.2 in
    let h = same_header s.header t.header (flat_map event_line s.events ++ rest) (flat_map event_line t.events) r.good.header is.header (sym (append_assoc (header_line s.header) (flat_map event_line s.events) rest) ∙ sym r.parts ∙ e) in
    let good : AllByRecursion (IsEvent s.header) t.events = subst (λ (x : Header1). AllByRecursion (IsEvent x) t.events) (sym h.0) is.events in
    lines_stop s.header s.events t.events rest r.good.header r.good.events good r.bad r.more h.1

lines_more : (h : Header1) (bytes rest after : List ℕ) (es : List Event) (e : Event) → IsHeader h → AllByRecursion (IsEvent h) es → bytes ≡ flat_map event_line es ++ rest → event_at h rest ≡ Some (e, after)
    → AllByRecursion (IsEvent h) (es ++ e ∷ []) × (bytes ≡ flat_map event_line (es ++ e ∷ []) ++ after)
lines_more h bytes rest after es e good p parts is =
    let t = event_takes h rest e after (fits h good) is in
    (AllByRecursion-push (IsEvent h) es e p t.1, rw (parts, t.0, flat_map-append event_line es (e ∷ [])) (simp (append_assoc, append-nil)))

pub LinesMore : (h : Header1) (bytes rest after : List ℕ) (es fs : List Event) (e : Event) → IsHeader h → AllByRecursion (IsEvent h) es → bytes ≡ flat_map event_line es ++ rest → event_at h rest ≡ Some (e, after) → fs ≡ es ++ e ∷ []
    → AllByRecursion (IsEvent h) fs × (bytes ≡ flat_map event_line fs ++ after)
LinesMore h bytes rest after es fs e good p parts is eq = rw eq (lines_more h bytes rest after es e good p parts is)

-- each line takes a byte at least
pub shorter : (h : Header1) (rest after : List ℕ) (e : Event) → IsHeader h → event_at h rest ≡ Some (e, after) → length after < length rest
unfolding event_line
shorter h rest after e good is =
    let t = event_takes h rest e after (fits h good) is in
    let l = ap (λ (x : List ℕ). length x) t.0 in
    omega (arith, length-append (event_text e ++ 10 ∷ []) after, length-append (event_text e) (10 ∷ []), l)

pub stops_at : (h : Header1) (bytes rest : List ℕ) (es : List Event) (n : ℕ) → IsHeader h → AllByRecursion (IsEvent h) es → bytes ≡ flat_map event_line es ++ rest → 0 < length rest → event_at h rest ≡ None → n ≡ length es + 2
    → (events : List Event) × (rest : List ℕ) × LinesStop h bytes n events rest
stops_at h bytes rest es n good p parts more none line = (es, rest, record { good = p; parts = parts; more = more; bad = no_event h rest good none; numbered = line })

pub first_bad : (h : Header1) (bytes rest : List ℕ) (e : ScheduleFault) → IsHeader h → bytes ≡ header_line h ++ rest → LinesCause h rest e → Causes bytes e
unfolding spelling
first_bad h bytes rest faults.Memory good eq c = tt
first_bad h bytes rest (faults.BadLine n) good eq c =
    inr (record { header = h; events = c.0 }, c.1, record { good = record { header = good; events = c.2.good }; parts = eq ∙ ap (λ (t : List ℕ). header_line h ++ t) c.2.parts ∙ sym (append_assoc (header_line h) (flat_map event_line c.0) c.1); more = c.2.more; bad = c.2.bad; numbered = c.2.numbered })

pub only_one : (bytes : List ℕ) (r : Result Schedule ScheduleFault) → IfOk r (λ s. IsSchedule s × (bytes ≡ spelling s)) → IfErr r (λ e. Causes bytes e)
    → (s : Schedule) → IsSchedule s → bytes ≡ spelling s → MatchResult r (λ t. t ≡ s) (λ e. e ≡ faults.Memory)
only_one bytes (Ok t) found fault s is e = spelling_injective t s found.0 is (sym found.1 ∙ e)
only_one bytes (Err faults.Memory) found fault s is e = refl
only_one bytes (Err (faults.BadLine n)) found fault s is e = absurd (not_spelled bytes n s fault is e)

pub spelled : (h : Header1) (bytes rest : List ℕ) (es fs : List Event) → IsHeader h → bytes ≡ header_line h ++ rest → AllByRecursion (IsEvent h) es → rest ≡ flat_map event_line es → fs ≡ es
    → IsSchedule (record { header = h; events = fs }) × (bytes ≡ spelling (record { header = h; events = fs }))
unfolding spelling
spelled h bytes rest es fs good eq p parts same =
    let at : IsSchedule (record { header = h; events = es }) × (bytes ≡ spelling (record { header = h; events = es })) = (record { header = good; events = p }, eq ∙ ap (λ (t : List ℕ). header_line h ++ t) parts) in
    subst (λ (t : List Event). IsSchedule (record { header = h; events = t }) × (bytes ≡ spelling (record { header = h; events = t }))) (sym same) at
