-- Legal histories, entry by entry.
use Rattle.std.proofs.Common.{◌≡◌, ℕ, suc, ◌<◌, ◌+◌, length, get_or, take, drop, List, [], ◌∷◌, ◌++◌, refl, sym, ◌∙◌, ap, subst}
use Rattle.std.specs.Prelude.{reverse}
use mathlib.Core.List.{reverse_aux}
use Rattle.std.proofs.Math.Seq.{drop-cons}
use Rattle.std.proofs.lemmas.List.{take-append-drop, take_more}
use Rattle.vub_base.specs.declared.header.CacheMode.{CacheMode}
use Rattle.vub_device.specs.declared.entry.Entry.{Entry}
use Rattle.vub_device.specs.Legal.{Allowed, LegalFrom, Legal, after}

-- what each allowed entry keeps, a legal history keeps
pub kept : (capacity : ℕ) (mode : CacheMode) (P : List Entry → Type 0) → ((past : List Entry) (e : Entry) → P past → Allowed capacity mode past e → P (e ∷ past)) → (past es : List Entry) → P past → LegalFrom capacity mode past es → P (after past es)
kept capacity mode P step past [] p legal = p
kept capacity mode P step past (e ∷ es) p legal = kept capacity mode P step (e ∷ past) es (step past e p legal.0) legal.1

after_onto : (past es : List Entry) → after past es ≡ reverse_aux es past
after_onto past [] = refl
after_onto past (e ∷ es) = after_onto (e ∷ past) es

-- the past after a whole history is the history, the newest first
pub after_reverse : (history : List Entry) → after [] history ≡ reverse history
after_reverse history = after_onto [] history

-- one more allowed entry
pub legal_more : (capacity : ℕ) (mode : CacheMode) (past es : List Entry) (e : Entry) → LegalFrom capacity mode past es → Allowed capacity mode (after past es) e → LegalFrom capacity mode past (es ++ e ∷ [])
legal_more capacity mode past [] e legal allowed = (allowed, tt)
legal_more capacity mode past (x ∷ es) e legal allowed = (legal.0, legal_more capacity mode (x ∷ past) es e legal.1 allowed)

-- an entry of a legal history is allowed by those before it
pub allowed_at : (capacity : ℕ) (mode : CacheMode) (past es : List Entry) (e : Entry) (more : List Entry) → LegalFrom capacity mode past (es ++ e ∷ more) → Allowed capacity mode (after past es) e
allowed_at capacity mode past [] e more legal = legal.0
allowed_at capacity mode past (x ∷ es) e more legal = allowed_at capacity mode (x ∷ past) es e more legal.1

-- the front of a legal history is legal
pub front_legal : (capacity : ℕ) (mode : CacheMode) (past front rest : List Entry) → LegalFrom capacity mode past (front ++ rest) → LegalFrom capacity mode past front
front_legal capacity mode past [] rest legal = tt
front_legal capacity mode past (e ∷ front) rest legal = (legal.0, front_legal capacity mode (e ∷ past) front rest legal.1)

-- what follows the front of a legal history is legal after it
pub rest_legal : (capacity : ℕ) (mode : CacheMode) (past front rest : List Entry) → LegalFrom capacity mode past (front ++ rest) → LegalFrom capacity mode (after past front) rest
rest_legal capacity mode past [] rest legal = legal
rest_legal capacity mode past (e ∷ front) rest legal = rest_legal capacity mode (e ∷ past) front rest legal.1

pub after_append : (past front rest : List Entry) → after past (front ++ rest) ≡ after (after past front) rest
after_append past [] rest = refl
after_append past (e ∷ front) rest = after_append (e ∷ past) front rest

-- ---- the checker's step

split_at : (history : List Entry) (i : ℕ) (e : Entry) → i < length history → e ≡ get_or history i e → take i history ++ e ∷ drop (suc i) history ≡ history
split_at history i e lt is = ap (λ x. take i history ++ x ∷ drop (suc i) history) is ∙ ap (λ l. take i history ++ l) (sym (drop-cons history i e lt)) ∙ take-append-drop i history

pub allowed_in : (capacity : ℕ) (mode : CacheMode) (history : List Entry) (i : ℕ) (e : Entry) → i < length history → e ≡ get_or history i e → Legal capacity mode history → Allowed capacity mode (reverse (take i history)) e
allowed_in capacity mode history i e lt is legal =
    let whole : Legal capacity mode (take i history ++ e ∷ drop (suc i) history) = subst (λ (l : List Entry). Legal capacity mode l) (sym (split_at history i e lt is)) legal in
    subst (λ (past : List Entry). Allowed capacity mode past e) (after_reverse (take i history)) (allowed_at capacity mode [] (take i history) e (drop (suc i) history) whole)

pub legal_next : (capacity : ℕ) (mode : CacheMode) (history : List Entry) (i : ℕ) (e : Entry) → i < length history → e ≡ get_or history i e → Legal capacity mode (take i history) → Allowed capacity mode (reverse (take i history)) e → Legal capacity mode (take (i + 1) history)
legal_next capacity mode history i e lt is legal allowed =
    let more : take (i + 1) history ≡ take i history ++ e ∷ [] = take_more history i e lt ∙ ap (λ x. take i history ++ x ∷ []) (sym is) in
    subst (λ (l : List Entry). Legal capacity mode l) (sym more)
    (legal_more capacity mode [] (take i history) e legal (subst (λ (past : List Entry). Allowed capacity mode past e) (sym (after_reverse (take i history))) allowed))
