-- Walks along a free list and along chains.
use Rattle.std.proofs.Common.{◌≡◌, ◌≢◌, ◌≤◌, ◌<◌, ℕ, zero, suc, ◌+◌, ◌-◌, Bool, true, false, cond, List, [], ◌∷◌, ◌++◌, length, get_or, refl, ap, sym, subst, ◌∙◌, arith}
use Rattle.std.specs.Prelude.{not, ◌||◌, ◌==◌, nat_lt, if◌then◌else◌, Option, Some, None}
use Rattle.std.specs.List.{AllByRecursion}
use Rattle.std.specs.Bool.{then_some}
use Rattle.std.specs.Option.{option_or, is_some}
use Rattle.std.proofs.lemmas.Bool.Decides.{nat_tests}
use Rattle.std.proofs.lemmas.List.{append-nil}
use Rattle.vub_base.specs.declared.pending.Pending.{Pending}
use Rattle.vub_device.specs.Past.{is_among}
use Rattle.vub_device.specs.Places.{are_distinct}
use Rattle.vub_inflight.specs.Links.{link_at, links, links_within, first_bad, AreMarked}
use Rattle.vub_inflight.proofs.DistinctLemmas.{distinct_push, all_below}
use Rattle.vub_inflight.proofs.Each.{all_append}
use Rattle.vub_inflight.proofs.LinkLemmas.{length-links, links_go_on, within_ends}
use Rattle.vub_infl_packed.specs.Readings.{before_end, free_from, bad_free, chain, chain_end, bad_chain, bad_chains}
use Rattle.vub_infl_packed.specs.Region.{RegionWords}

-- ---- the free list

-- one entry more of it
pub free_goes_on : (n : ℕ) (next : ℕ → ℕ) (k k' left left' h h' head : ℕ) (result : Option ℕ) → k' ≡ k + 1 → left ≡ left' + 1 → h ≡ link_at next k head → h' ≡ next h → h < n → is_among (links next k head) h ≡ false
    → first_bad n (links next k head) (before_end n (links next left h)) ≡ result → first_bad n (links next k' head) (before_end n (links next left' h')) ≡ result
free_goes_on n next k k' left left' h h' head result more less at to low new so_far =
    let is_suc : left ≡ suc left' = omega (arith, less) in
    let met : links next k' head ≡ links next k head ++ h ∷ [] = links_go_on next k k' h head more at in
    let fine : nat_lt h n ≡ true = grind (arith, nat_tests) in
    let inner : (h == n) ≡ false = grind (arith, nat_tests) in
    let opened : first_bad n (links next k head) (before_end n (links next (suc left') h)) ≡ result = rw is_suc at so_far in
    let kept : before_end n (h ∷ links next left' (next h)) ≡ h ∷ before_end n (links next left' (next h)) = ap (λ (b : Bool). cond b [] (h ∷ before_end n (links next left' (next h)))) inner in
    let step : first_bad n (links next k head) (h ∷ before_end n (links next left' (next h))) ≡ first_bad n (links next k head ++ h ∷ []) (before_end n (links next left' (next h))) = grind (arith, nat_tests) in
    rw (met, to) (sym step ∙ ap (first_bad n (links next k head)) (sym kept) ∙ opened)

-- a bad link
pub free_found : (n : ℕ) (next : ℕ → ℕ) (left h : ℕ) (met : List ℕ) → 0 < left → h ≢ n → (not (nat_lt h n) || is_among met h) ≡ true → first_bad n met (before_end n (links next left h)) ≡ Some h
free_found n next zero h met some apart bad = absurd (omega (arith, some))
free_found n next (suc left) h met some apart bad =
    let inner : (h == n) ≡ false = grind (arith, nat_tests) in
    let kept : before_end n (h ∷ links next left (next h)) ≡ h ∷ before_end n (links next left (next h)) = ap (λ (b : Bool). cond b [] (h ∷ before_end n (links next left (next h)))) inner in
    ap (first_bad n met) kept ∙ ap (λ (b : Bool). cond b (Some h) (first_bad n (met ++ h ∷ []) (before_end n (links next left (next h))))) bad

-- its end
pub free_ends : (n : ℕ) (next : ℕ → ℕ) (left h : ℕ) (met : List ℕ) → 0 < left → h ≡ n → first_bad n met (before_end n (links next left h)) ≡ None
free_ends n next zero h met some same = absurd (omega (arith, some))
free_ends n next (suc left) h met some same =
    let here : (h == n) ≡ true = grind (arith, nat_tests) in
    ap (first_bad n met) (ap (λ (b : Bool). cond b [] (h ∷ before_end n (links next left (next h)))) here)

-- what was walked, where its end comes next
pub free_whole : (n : ℕ) (next : ℕ → ℕ) (k left h head : ℕ) (whole : List ℕ) → n ≤ h → links next k head ++ links_within n next left h ≡ whole → whole ≡ links next k head
free_whole n next k left h head whole out so_far =
    let none : links_within n next left h ≡ [] = within_ends n next left h out in
    sym so_far ∙ ap (λ (xs : List ℕ). links next k head ++ xs) none ∙ append-nil (links next k head)

-- entries of it, none twice
pub record Distinct (n : ℕ) (xs : List ℕ) : Type 0 where
  pub once : are_distinct xs ≡ true
  pub below : AllByRecursion (λ (x : ℕ). x < n) xs

pub distinct_goes_on : (n : ℕ) (next : ℕ → ℕ) (k k' h head : ℕ) → k' ≡ k + 1 → h ≡ link_at next k head → h < n → is_among (links next k head) h ≡ false → Distinct n (links next k head) → Distinct n (links next k' head)
distinct_goes_on n next k k' h head more at low new d = subst (Distinct n) (sym (links_go_on next k k' h head more at)) (record {
  once = distinct_push (links next k head) h d.once new;
  below = all_append (λ x. x < n) (links next k head) (h ∷ []) d.below (low, tt);
})

-- after n of them a link that isn't the end is bad
pub past_all : (n : ℕ) (next : ℕ → ℕ) (h head : ℕ) → Distinct n (links next n head) → h ≢ n → (not (nat_lt h n) || is_among (links next n head) h) ≡ true
past_all n next h head d apart =
    let met : h < n → is_among (links next n head) h ≡ true = all_below (links next n head) n h d.once d.below (length-links next n head) in
    grind (arith, nat_tests)

-- where the end comes next, the list is what was walked
pub ends_there : (n : ℕ) (w : RegionWords) (k h head : ℕ) (marks : List Bool) → k ≤ n → h ≡ n → first_bad n (links w.next k head) (before_end n (links w.next (n + 1 - k) h)) ≡ bad_free n w head
    → links w.next k head ++ links_within n w.next (n - k) h ≡ free_from n w head → AreMarked marks (links w.next k head)
    → (bad_free n w head ≡ None) × (length (free_from n w head) ≡ k) × AreMarked marks (free_from n w head)
ends_there n w k h head marks low same bad whole marked =
    let is : free_from n w head ≡ links w.next k head = free_whole n w.next k (n - k) h head (free_from n w head) (omega (arith, same)) whole in
    (sym bad ∙ free_ends n w.next (n + 1 - k) h (links w.next k head) (omega (arith, low)) same, ap (λ (xs : List ℕ). length xs) is ∙ length-links w.next k head, subst (λ (xs : List ℕ). AreMarked marks xs) (sym is) marked)

-- ---- chains

abbrev end_fault : RegionWords → Pending → Option ℕ
end_fault w e = if chain_end w e == w.last e.head then None else Some (w.last e.head)

-- the head at a place is below n where all are
pub head_below : (n : ℕ) (es : List Pending) (i : ℕ) (d : Pending) → AllByRecursion (λ (e : Pending). e.head < n) es → i < length es → (get_or es i d).head < n
head_below n [] i d all low = absurd (omega (arith, low))
head_below n (e ∷ es) zero d all low = all.0
head_below n (e ∷ es) (suc i) d all low = head_below n es i d all.1 (omega (arith, low))

-- its chain's fault
pub chain_broken : (n : ℕ) (w : RegionWords) (met : List ℕ) (e : Pending) (link : ℕ) → e.num ≢ 0 → first_bad n met (chain w e) ≡ Some link → bad_chain n w met e ≡ Some link
chain_broken n w met e link some bad =
    let counted : (e.num == 0) ≡ false = grind (arith, nat_tests) in
    ap (λ (b : Bool). cond b (Some e.head) (option_or (first_bad n met (chain w e)) (end_fault w e))) counted ∙ ap (λ (o : Option ℕ). option_or o (end_fault w e)) bad

ended : (a : Bool) (last l : ℕ) (b : Bool) → a ≡ b → last ≡ l → then_some (not a) last ≡ cond b None (Some l)
ended true last l true same is = refl
ended false last l false same is = ap (λ (k : ℕ). Some k) is
ended true last l false same is = absurd (cc)
ended false last l true same is = absurd (cc)

-- where its links are fine, only its end is left
pub chain_walked : (n : ℕ) (w : RegionWords) (met : List ℕ) (e : Pending) (end last : ℕ) → e.num ≢ 0 → first_bad n met (chain w e) ≡ None → end ≡ chain_end w e → last ≡ w.last e.head
    → bad_chain n w met e ≡ then_some (not (end == last)) last
chain_walked n w met e end last some fine at is =
    let counted : (e.num == 0) ≡ false = grind (arith, nat_tests) in
    ap (λ (b : Bool). cond b (Some e.head) (option_or (first_bad n met (chain w e)) (end_fault w e))) counted ∙ ap (λ (o : Option ℕ). option_or o (end_fault w e)) fine ∙ sym (ended (end == last) last (w.last e.head) (chain_end w e == w.last e.head) (ap (λ (k : ℕ). k == last) at ∙ ap (λ (k : ℕ). chain_end w e == k) is) is)

-- one chain after another
pub chains_go_on : (n : ℕ) (w : RegionWords) (met : List ℕ) (e : Pending) (es xs : List Pending) → xs ≡ e ∷ es → bad_chain n w met e ≡ None → bad_chains n w (met ++ chain w e) es ≡ bad_chains n w met xs
chains_go_on n w met e es xs list none = sym (ap (bad_chains n w met) list ∙ ap (λ (o : Option ℕ). option_or o (bad_chains n w (met ++ chain w e) es)) none)

-- the first chain that has one
pub chains_stop : (n : ℕ) (w : RegionWords) (met : List ℕ) (e : Pending) (es xs : List Pending) (bad : Option ℕ) → xs ≡ e ∷ es → bad ≡ bad_chain n w met e → is_some bad ≡ true → bad ≡ bad_chains n w met xs
chains_stop n w met e es xs None list is some = absurd (let fails : false ≡ true = some in cc)
chains_stop n w met e es xs (Some link) list is some = sym (ap (bad_chains n w met) list ∙ ap (λ (o : Option ℕ). option_or o (bad_chains n w (met ++ chain w e) es)) (sym is))

pub none_found : (bad : Option ℕ) → is_some bad ≡ false → bad ≡ None
none_found None none = refl
none_found (Some link) none = absurd (let fails : true ≡ false = none in cc)
