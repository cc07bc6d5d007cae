-- Reads and writes one after another.
use Rattle.std.proofs.Common.{◌≡◌, ℕ, List, [], ◌++◌, append_assoc, refl, sym, ap, subst, ◌∙◌, Option, Some, None, Result, Ok, Err, IfOk, OnOk, OnErr, take, drop, length, length-append, length-take, ◌+◌, ◌≤◌, arith}
use Rattle.std.proofs.Math.Seq.{take-append-add}
use Rattle.std.proofs.lemmas.List.{take-append-drop, append-nil}
use Rattle.vub_base.specs.Sources.{Reads}
use Rattle.vub_base.specs.Sinks.{Writes}
use Rattle.vublk.specs.Flows.{Took, TakesAtMost, Wrote, WrotePart, WroteBut}

pub Took-then : (a b c : Option (List ℕ)) (xs ys : List ℕ) → Took a b xs → Took b c ys → Took a c (xs ++ ys)
Took-then None b c xs ys p q = let e : Took None c ys = rw p at q in e
Took-then (Some l) b c xs ys p q =
    let at : Took (Some p.0) c ys = rw p.1 at q in
    (at.0, at.1, p.2 ∙ ap (λ (t : List ℕ). xs ++ t) at.2 ∙ sym (append_assoc xs ys at.0))

-- what was read and then at most n bytes more
pub Takes-then : (m n : ℕ) (a b c : Option (List ℕ)) (xs : List ℕ) → Took a b xs → TakesAtMost n b c → length xs + n ≤ m → TakesAtMost m a c
Takes-then m n a b c xs p q le = (xs ++ q.0, omega (arith, length-append xs q.0, q.1, le), Took-then a b c xs q.0 p q.2)

pub Takes-more : (m n : ℕ) (a b : Option (List ℕ)) → n ≤ m → TakesAtMost n a b → TakesAtMost m a b
Takes-more m n a b le p = (p.0, omega (arith, p.1, le), p.2)

-- one read takes no more than there was room for
pub Reads-takes : {E : Type 0} (left after : Option (List ℕ)) (r : Result ℕ E) (piece : List ℕ) → IfOk r (λ n. n ≤ length piece) → Reads left after r piece → TakesAtMost (length piece) left after
Reads-takes None after r piece within p = ([], omega arith, p)
Reads-takes (Some left) after (Ok n) piece within p = (take n left, omega (arith, within, length-take n left), (drop n left, p.1, sym (take-append-drop n left)))
Reads-takes (Some left) after (Err e) piece within p = ([], omega arith, (left, p, refl))

pub Wrote-then : (a b c : Option (List ℕ)) (xs ys : List ℕ) → Wrote a b xs → Wrote b c ys → Wrote a c (xs ++ ys)
Wrote-then None b c xs ys p q = let e : Wrote None c ys = rw p at q in e
Wrote-then (Some h) b c xs ys p q =
    let at : Wrote (Some (h ++ xs)) c ys = rw p at q in
    at ∙ ap (λ (t : List ℕ). Some t) (append_assoc h xs ys)

pub Part-then : (a b c : Option (List ℕ)) (xs ys : List ℕ) → Wrote a b xs → WrotePart b c ys → WrotePart a c (xs ++ ys)
Part-then a b c xs ys p q = (length xs + q.0, rw take-append-add (Wrote-then a b c xs (take q.0 ys) p q.1))

-- ---- with bytes that wait

Wrote-is : (a b : Option (List ℕ)) (xs ys : List ℕ) → xs ≡ ys → Wrote a b xs → Wrote a b ys
Wrote-is a b xs ys e p = subst (λ (t : List ℕ). Wrote a b t) e p

Part-is : (a b : Option (List ℕ)) (xs ys : List ℕ) → xs ≡ ys → WrotePart a b xs → WrotePart a b ys
Part-is a b xs ys e p = subst (λ (t : List ℕ). WrotePart a b t) e p

Wrote-none : (a : Option (List ℕ)) → Wrote a a []
Wrote-none None = refl
Wrote-none (Some h) = ap (λ (t : List ℕ). Some t) (sym (append-nil h))

-- nothing is written: all waits
pub But-none : (a : Option (List ℕ)) (waiting text : List ℕ) → waiting ≡ text → WroteBut a a waiting text
But-none a waiting text e = ([], Wrote-none a, e)

-- all is written: nothing waits
pub But-all : (a b : Option (List ℕ)) (waiting text : List ℕ) → waiting ≡ [] → Wrote a b text → WroteBut a b waiting text
But-all a b waiting text none p = (text, p, ap (λ (t : List ℕ). text ++ t) none ∙ append-nil text)

-- what waited and more was put
pub But-then : (a b c : Option (List ℕ)) (waiting later text more : List ℕ) → WroteBut a b waiting text → WroteBut b c later (waiting ++ more) → WroteBut a c later (text ++ more)
But-then a b c waiting later text more p q =
    (p.0 ++ q.0, Wrote-then a b c p.0 q.0 p.1 q.1, append_assoc p.0 q.0 later ∙ ap (λ (t : List ℕ). p.0 ++ t) q.2 ∙ sym (append_assoc p.0 waiting more) ∙ ap (λ (t : List ℕ). t ++ more) p.2)

pub But-part : (a b c : Option (List ℕ)) (waiting text more : List ℕ) → WroteBut a b waiting text → WrotePart b c (waiting ++ more) → WrotePart a c (text ++ more)
But-part a b c waiting text more p q =
    Part-is a c (p.0 ++ (waiting ++ more)) (text ++ more) (sym (append_assoc p.0 waiting more) ∙ ap (λ (t : List ℕ). t ++ more) p.2) (Part-then a b c p.0 (waiting ++ more) p.1 q)

-- and what waited was written
pub But-flushed : (a b c : Option (List ℕ)) (waiting text : List ℕ) → WroteBut a b waiting text → Wrote b c waiting → Wrote a c text
But-flushed a b c waiting text p q = Wrote-is a c (p.0 ++ waiting) text p.2 (Wrote-then a b c p.0 waiting p.1 q)

pub But-flushed_part : (a b c : Option (List ℕ)) (waiting text : List ℕ) → WroteBut a b waiting text → WrotePart b c waiting → WrotePart a c text
But-flushed_part a b c waiting text p q = Part-is a c (p.0 ++ waiting) text p.2 (Part-then a b c p.0 waiting p.1 q)

-- ---- a text that doesn't wait

-- what waited was written, and then a text
pub Long-ok : {T E : Type 0} (a b c : Option (List ℕ)) (r : Result T E) (xs text waiting : List ℕ) → waiting ≡ [] → Wrote a b xs → Writes b c r text → OnOk r (WroteBut a c waiting (xs ++ text))
Long-ok a None c (Ok x) xs text waiting none p q = But-all a c waiting (xs ++ text) none (Wrote-then a None c xs text p q)
Long-ok a (Some h) c (Ok x) xs text waiting none p q = But-all a c waiting (xs ++ text) none (Wrote-then a (Some h) c xs text p q)
Long-ok a b c (Err e) xs text waiting none p q = tt

pub Long-part : {T E : Type 0} (a b c : Option (List ℕ)) (r : Result T E) (xs text : List ℕ) → Wrote a b xs → Writes b c r text → OnErr r (WrotePart a c (xs ++ text))
Long-part a b c (Ok x) xs text p q = tt
Long-part a None c (Err e) xs text p q = Part-then a None c xs text p (0, q)
Long-part a (Some h) c (Err e) xs text p q = Part-then a (Some h) c xs text p q
