-- Parts of joined bytes, by the first span.
use Rattle.std.proofs.Common.{◌≡◌, ◌<◌, ◌≤◌, ◌+◌, ◌-◌, ◌∙◌, ℕ, zero, suc, List, ◌∷◌, ◌++◌, length, take, drop, sym, ap, arith}
use Rattle.std.proofs.Math.Seq.{drop-append_seam, drop-append-add, take-append_seam, take-append-add}
use Rattle.std.proofs.lemmas.List.{drop-append-le, take-append-le}
use Rattle.vub_shared.specs.Bytes.{Bytes, bytes_from}
use Rattle.vub_shared.proofs.BytesLemmas.{length-bytes_from}
use Rattle.vub_chain.specs.declared.spans.Span.{Span}
use Rattle.vub_pieces.specs.Pieces.{gathered, joined}

-- ---- a run of bytes, cut

run_add : (a b : ℕ) (m : Bytes) (s p : ℕ) → bytes_from (a + b) m s p ≡ bytes_from a m s p ++ bytes_from b m s (p + a)
run_add zero b m s p = ap (λ (i : ℕ). bytes_from i m s p) (let none : 0 + b ≡ b = omega arith in none) ∙ ap (λ (i : ℕ). bytes_from b m s i) (let here : p ≡ p + 0 = omega arith in here)
run_add (suc a) b m s p =
    let tail : bytes_from (a + b) m s (p + 1) ≡ bytes_from a m s (p + 1) ++ bytes_from b m s (p + suc a) =
    run_add a b m s (p + 1) ∙ ap (λ (i : ℕ). bytes_from a m s (p + 1) ++ bytes_from b m s i) (omega arith) in
    ap (λ (i : ℕ). bytes_from i m s p) (let one : suc a + b ≡ suc (a + b) = omega arith in one) ∙ ap (λ (xs : List ℕ). m s p ∷ xs) tail

run_drop : (skip len : ℕ) (m : Bytes) (s p : ℕ) → skip ≤ len → drop skip (bytes_from len m s p) ≡ bytes_from (len - skip) m s (p + skip)
run_drop skip len m s p low =
    let cut : bytes_from len m s p ≡ bytes_from skip m s p ++ bytes_from (len - skip) m s (p + skip) = ap (λ (i : ℕ). bytes_from i m s p) (omega (arith, low)) ∙ run_add skip (len - skip) m s p in
    ap (λ (xs : List ℕ). drop skip xs) cut
    ∙ ap (λ (i : ℕ). drop i (bytes_from skip m s p ++ bytes_from (len - skip) m s (p + skip))) (sym (length-bytes_from skip m s p))
    ∙ drop-append_seam (bytes_from skip m s p) (bytes_from (len - skip) m s (p + skip))

run_take : (count len : ℕ) (m : Bytes) (s p : ℕ) → count ≤ len → take count (bytes_from len m s p) ≡ bytes_from count m s p
run_take count len m s p low =
    let cut : bytes_from len m s p ≡ bytes_from count m s p ++ bytes_from (len - count) m s (p + count) = ap (λ (i : ℕ). bytes_from i m s p) (omega (arith, low)) ∙ run_add count (len - count) m s p in
    ap (λ (xs : List ℕ). take count xs) cut
    ∙ ap (λ (i : ℕ). take i (bytes_from count m s p ++ bytes_from (len - count) m s (p + count))) (sym (length-bytes_from count m s p))
    ∙ take-append_seam (bytes_from count m s p) (bytes_from (len - count) m s (p + count))

-- ---- joined bytes, by the first span

-- none of them is of the first span
pub past : (m : Bytes) (s : Span) (ss : List Span) (skip count : ℕ) → s.len ≤ skip → gathered m (s ∷ ss) skip count ≡ gathered m ss (skip - s.len) count
past m s ss skip count low =
    let run : List ℕ = bytes_from s.len m s.space.number s.place in
    let behind : skip ≡ length run + (skip - s.len) = omega (arith, low, length-bytes_from s.len m s.space.number s.place) in
    ap (λ (xs : List ℕ). take count xs) (ap (λ (i : ℕ). drop i (run ++ joined m ss)) behind ∙ drop-append-add run (joined m ss) (skip - s.len))

-- what is left of the first span, and all later ones
left : (m : Bytes) (s : Span) (ss : List Span) (skip : ℕ) → skip < s.len → drop skip (joined m (s ∷ ss)) ≡ bytes_from (s.len - skip) m s.space.number (s.place + skip) ++ joined m ss
left m s ss skip low =
    let run : List ℕ = bytes_from s.len m s.space.number s.place in
    drop-append-le skip run (joined m ss) (omega (arith, low, length-bytes_from s.len m s.space.number s.place))
    ∙ ap (λ (xs : List ℕ). xs ++ joined m ss) (run_drop skip s.len m s.space.number s.place (omega (arith, low)))

-- all of them are of the first span
pub within : (m : Bytes) (s : Span) (ss : List Span) (skip count : ℕ) → skip < s.len → count ≤ s.len - skip → gathered m (s ∷ ss) skip count ≡ bytes_from count m s.space.number (s.place + skip)
within m s ss skip count low few =
    let run : List ℕ = bytes_from (s.len - skip) m s.space.number (s.place + skip) in
    ap (λ (xs : List ℕ). take count xs) (left m s ss skip low)
    ∙ take-append-le count run (joined m ss) (omega (arith, few, length-bytes_from (s.len - skip) m s.space.number (s.place + skip)))
    ∙ run_take count (s.len - skip) m s.space.number (s.place + skip) few

-- the first span has some of them, and the later ones have the others
pub over : (m : Bytes) (s : Span) (ss : List Span) (skip count : ℕ) → skip < s.len → s.len - skip < count
    → gathered m (s ∷ ss) skip count ≡ bytes_from (s.len - skip) m s.space.number (s.place + skip) ++ gathered m ss 0 (count - (s.len - skip))
over m s ss skip count low more =
    let run : List ℕ = bytes_from (s.len - skip) m s.space.number (s.place + skip) in
    let rest : count ≡ length run + (count - (s.len - skip)) = omega (arith, more, length-bytes_from (s.len - skip) m s.space.number (s.place + skip)) in
    ap (λ (xs : List ℕ). take count xs) (left m s ss skip low)
    ∙ ap (λ (i : ℕ). take i (run ++ joined m ss)) rest
    ∙ take-append-add run (joined m ss) (count - (s.len - skip))
