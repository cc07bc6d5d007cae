-- Joined bytes behind the first span.
use Rattle.std.proofs.Common.{◌≡◌, ◌<◌, ◌≤◌, ◌+◌, ◌-◌, ◌∙◌, ℕ, List, [], ◌∷◌, ◌++◌, length, take, drop, sym, ap, subst, arith}
use Rattle.std.proofs.Math.Seq.{take-length}
use Rattle.std.specs.Prelude.{get_or, Result, Ok, Err, OnOk, Option}
use Rattle.vub_base.specs.Told.{WhereTold}
use Rattle.vub_shared.specs.Bytes.{Bytes, bytes_from}
use Rattle.vub_chain.specs.declared.spans.Span.{Span}
use Rattle.vub_pieces.specs.Pieces.{gathered}
use Rattle.vub_pieces.proofs.JoinLemmas.{past, within, over}

pub past_first : (m : Bytes) (ss : List Span) (d : Span) (skip count : ℕ) → 0 < length ss → (get_or ss 0 d).len ≤ skip
    → gathered m ss skip count ≡ gathered m (take (length ss - 1) (drop 1 ss)) (skip - (get_or ss 0 d).len) count
past_first m [] d skip count some low = absurd (omega (arith, some))
past_first m (s ∷ ss) d skip count some low =
    let one : length (s ∷ ss) - 1 ≡ length ss = omega arith in
    let rest : take (length (s ∷ ss) - 1) ss ≡ ss = ap (λ (k : ℕ). take k ss) one ∙ take-length ss in
    past m s ss skip count low ∙ ap (λ (xs : List Span). gathered m xs (skip - s.len) count) (sym rest)

pub gathers_past : {E : Type 0} (r : Result (Unit {0}) E) (told : Option Bytes) (xs : List ℕ) (ss : List Span) (d : Span) (skip l count : ℕ) → 0 < length ss → l ≡ (get_or ss 0 d).len → l ≤ skip
    → OnOk r (WhereTold told (λ (m : Bytes). xs ≡ gathered m (take (length ss - 1) (drop 1 ss)) (skip - l) count)) → OnOk r (WhereTold told (λ (m : Bytes). xs ≡ gathered m ss skip count))
gathers_past (Ok u) told xs ss d skip l count some is low h =
    λ m t. h m t ∙ ap (λ (k : ℕ). gathered m (take (length ss - 1) (drop 1 ss)) (skip - k) count) is ∙ sym (past_first m ss d skip count some (subst (λ (k : ℕ). k ≤ skip) is low))
gathers_past (Err e) told xs ss d skip l count some is low h = tt

over_first : (m : Bytes) (ss : List Span) (d : Span) (skip count : ℕ) → 0 < length ss → skip < (get_or ss 0 d).len → (get_or ss 0 d).len - skip < count
    → gathered m ss skip count ≡ bytes_from ((get_or ss 0 d).len - skip) m (get_or ss 0 d).space.number ((get_or ss 0 d).place + skip) ++ gathered m (take (length ss - 1) (drop 1 ss)) 0 (count - ((get_or ss 0 d).len - skip))
over_first m [] d skip count some within more = absurd (omega (arith, some))
over_first m (s ∷ ss) d skip count some within more =
    let one : length (s ∷ ss) - 1 ≡ length ss = omega arith in
    let rest : take (length (s ∷ ss) - 1) ss ≡ ss = ap (λ (k : ℕ). take k ss) one ∙ take-length ss in
    over m s ss skip count within more
    ∙ ap (λ (xs : List Span). bytes_from (s.len - skip) m s.space.number (s.place + skip) ++ gathered m xs 0 (count - (s.len - skip))) (sym rest)

pub gathers_over : {E : Type 0} (r : Result (Unit {0}) E) (told after : Option Bytes) (front back : List ℕ) (ss : List Span) (d : Span) (skip l left count n k : ℕ) → 0 < length ss → l ≡ (get_or ss 0 d).len → skip < l → left ≡ l - skip
    → left < count → n ≡ left → k ≡ count - left → after ≡ told
    → WhereTold told (λ (m : Bytes). front ≡ bytes_from n m (get_or ss 0 d).space.number ((get_or ss 0 d).place + skip))
    → OnOk r (WhereTold after (λ (m : Bytes). back ≡ gathered m (take (length ss - 1) (drop 1 ss)) 0 k)) → OnOk r (WhereTold told (λ (m : Bytes). front ++ back ≡ gathered m ss skip count))
gathers_over (Ok u) told after front back ss d skip l left count n k some is within has more many rest same loaded gathers =
    λ m t.
    let lone : n ≡ (get_or ss 0 d).len - skip = omega (arith, many, has, is) in
    let ltwo : k ≡ count - ((get_or ss 0 d).len - skip) = omega (arith, rest, has, is) in
    let here : front ≡ bytes_from ((get_or ss 0 d).len - skip) m (get_or ss 0 d).space.number ((get_or ss 0 d).place + skip) = loaded m t ∙ ap (λ (i : ℕ). bytes_from i m (get_or ss 0 d).space.number ((get_or ss 0 d).place + skip)) lone in
    let there : back ≡ gathered m (take (length ss - 1) (drop 1 ss)) 0 (count - ((get_or ss 0 d).len - skip)) = gathers m (same ∙ t) ∙ ap (λ (i : ℕ). gathered m (take (length ss - 1) (drop 1 ss)) 0 i) ltwo in
    ap (λ (xs : List ℕ). xs ++ back) here
    ∙ ap (λ (ys : List ℕ). bytes_from ((get_or ss 0 d).len - skip) m (get_or ss 0 d).space.number ((get_or ss 0 d).place + skip) ++ ys) there
    ∙ sym (over_first m ss d skip count some (omega (arith, is, within)) (omega (arith, is, has, more)))
gathers_over (Err e) told after front back ss d skip l left count n k some is within has more many rest same loaded gathers = tt

-- ---- all in the first span

within_first : (m : Bytes) (ss : List Span) (d : Span) (skip count : ℕ) → 0 < length ss → skip < (get_or ss 0 d).len → count ≤ (get_or ss 0 d).len - skip
    → gathered m ss skip count ≡ bytes_from count m (get_or ss 0 d).space.number ((get_or ss 0 d).place + skip)
within_first m [] d skip count some low few = absurd (omega (arith, some))
within_first m (s ∷ ss) d skip count some low few = within m s ss skip count low few

pub gathers_within : {E : Type 0} (r : Result (Unit {0}) E) (told : Option Bytes) (xs : List ℕ) (ss : List Span) (d : Span) (skip l count : ℕ) → 0 < length ss → l ≡ (get_or ss 0 d).len → skip < l → count ≤ l - skip
    → OnOk r (WhereTold told (λ (m : Bytes). xs ≡ bytes_from count m (get_or ss 0 d).space.number ((get_or ss 0 d).place + skip))) → OnOk r (WhereTold told (λ (m : Bytes). xs ≡ gathered m ss skip count))
gathers_within (Ok u) told xs ss d skip l count some is low few h = λ m t. h m t ∙ sym (within_first m ss d skip count some (omega (arith, is, low)) (omega (arith, is, few)))
gathers_within (Err e) told xs ss d skip l count some is low few h = tt
