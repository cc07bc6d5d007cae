-- The order of open requests, and that the sorted list is the same in whichever order they came.
use Rattle.std.proofs.Common.{◌≡◌, ◌<◌, ◌+◌, ℕ, zero, suc, Bool, true, false, cond, List, [], ◌∷◌, ◌++◌, length, refl, ap, sym, ◌∙◌, arith, nat_cmp, is_lt, inl, inr}
use Rattle.std.specs.List.{swap}
use Rattle.std.specs.List.Sorted.{IsPermutation, IsSortedBy}
use Rattle.std.specs.Ordering.{ordering_then}
use Rattle.std.proofs.lemmas.Bool.{cases_eq}
use Rattle.std.proofs.lemmas.Bool.Decides.{nat_tests}
use Rattle.std.specs.Prelude.{get_or}
use lib.ListN.{set}
use Rattle.std.proofs.lemmas.List.{length-set, get_or-set_same, get_or-set_other}
use Rattle.std.proofs.lemmas.List.Sorted.{IsPermutation-keeps}
use Rattle.vub_base.specs.declared.pending.Pending.{Pending}
use Rattle.vub_base.specs.Pending.{precedes, insert_pending, sorted}

precedes_one_way : (p q : Pending) → precedes p q ≡ true → precedes q p ≡ false
precedes_one_way p q h = grind (arith, nat_tests)

precedes_chain : (p q r : Pending) → precedes p q ≡ true → precedes q r ≡ true → precedes p r ≡ true
precedes_chain p q r h k = grind (arith, nat_tests)

counters_tie : (p q : Pending) → precedes p q ≡ false → precedes q p ≡ false → p.counter ≡ q.counter
counters_tie p q h k = grind (arith, nat_tests)

heads_tie : (p q : Pending) → precedes p q ≡ false → precedes q p ≡ false → p.head ≡ q.head
heads_tie p q h k = grind (arith, nat_tests)

nums_tie : (p q : Pending) → precedes p q ≡ false → precedes q p ≡ false → p.num ≡ q.num
nums_tie p q h k = grind (arith, nat_tests)

-- of two that differ one precedes the other
precedes_total : (p q : Pending) → precedes p q ≡ false → precedes q p ≡ false → p ≡ q
precedes_total p q h k = λ i. record { head = heads_tie p q h k i; counter = counters_tie p q h k i; num = nums_tie p q h k i }

-- the same order as the sort by keys tells it
abbrev pub key_precedes : Pending → Pending → Bool
key_precedes p q = is_lt (ordering_then (ordering_then (nat_cmp p.counter q.counter) (nat_cmp p.head q.head)) (nat_cmp p.num q.num))

key_precedes_is : (p q : Pending) → precedes p q ≡ key_precedes p q
key_precedes_is p q = grind (arith, nat_tests)

-- lists put in the order of a test
module _ {X : Type 0} (lt : X → X → Bool) where
  abbrev put : X → List X → List X
  put e [] = e ∷ []
  put e (x ∷ xs) = cond (lt e x) (e ∷ x ∷ xs) (x ∷ put e xs)

  abbrev put_all : List X → List X
  put_all [] = []
  put_all (x ∷ xs) = put x (put_all xs)

  length_put : (e : X) (xs : List X) → length (put e xs) ≡ suc (length xs)
  length_put e [] = refl
  length_put e (x ∷ xs) = let rest = length_put e xs in grind arith

  -- a test that orders any two which differ
  module _ (one_way : (x y : X) → lt x y ≡ true → lt y x ≡ false) (chain : (x y z : X) → lt x y ≡ true → lt y z ≡ true → lt x z ≡ true) (total : (x y : X) → lt x y ≡ false → lt y x ≡ false → x ≡ y) where
    put_comm : (a b : X) (xs : List X) → put a (put b xs) ≡ put b (put a xs)
    put_comm a b [] =
        let w = one_way a b in
        let t = total a b in
        grind arith
    put_comm a b (x ∷ xs) =
        let w = one_way a b in
        let t = total a b in
        let c = chain a b x in
        let d = chain b a x in
        let rest = put_comm a b xs in
        grind arith

    -- an item that is put into a list doesn't precede the head
    put_head : (e : X) (xs : List X) (y : X) (ys : List X) → put e xs ≡ y ∷ ys → lt e y ≡ false
    put_head e [] y ys h = let w = one_way e e in grind arith
    put_head e (x ∷ xs) y ys h = let w = one_way e e in grind arith

    put_cancel : (e : X) (xs ys : List X) → put e xs ≡ put e ys → xs ≡ ys
    put_cancel e [] [] h = refl
    put_cancel e [] (y ∷ ys) h = absurd (omega (arith, ap length h, length_put e (y ∷ ys)))
    put_cancel e (x ∷ xs) [] h = absurd (omega (arith, ap length h, length_put e (x ∷ xs)))
    put_cancel e (x ∷ xs) (y ∷ ys) h =
        let rest = put_cancel e xs ys in
        let head = put_head e ys x xs in
        let head' = put_head e xs y ys in
        grind arith

    -- the item at i and another in its place
    put_all_set : (xs : List X) (i : ℕ) (v d : X) → i < length xs → put (get_or xs i d) (put_all (set xs i v)) ≡ put v (put_all xs)
    put_all_set [] i v d l = absurd (omega arith)
    put_all_set (x ∷ xs) zero v d l = put_comm x v (put_all xs)
    put_all_set (x ∷ xs) (suc i) v d l = put_comm (get_or xs i d) x (put_all (set xs i v)) ∙ ap (put x) (put_all_set xs i v d (omega arith)) ∙ put_comm x v (put_all xs)

    put_all_swap : (xs : List X) (i j : ℕ) → i < length xs → j < length xs → put_all (swap xs i j) ≡ put_all xs
    put_all_swap [] i j l m = refl
    put_all_swap (d ∷ ys) i j l m =
        let xs = d ∷ ys in
        let w : List X = set xs i (get_or xs j d) in
        let there : get_or w j d ≡ get_or xs j d = elim (cases_eq j i) [
          | inl same ↦ ap (λ n. get_or w n d) same ∙ get_or-set_same xs i (get_or xs j d) d l
          | inr apart ↦ get_or-set_other xs i j (get_or xs j d) d apart
        ] in
        let first : put (get_or w j d) (put_all (set w j (get_or xs i d))) ≡ put (get_or xs i d) (put_all w) = put_all_set w j (get_or xs i d) d (omega (arith, length-set xs i (get_or xs j d))) in
        put_cancel (get_or xs j d) _ _ (ap (λ v. put v (put_all (set w j (get_or xs i d)))) (sym there) ∙ first ∙ put_all_set xs i (get_or xs j d) d l)

    put_all_permutation : (xs ys : List X) → IsPermutation xs ys → put_all ys ≡ put_all xs
    put_all_permutation xs ys = IsPermutation-keeps xs (λ l. put_all l ≡ put_all xs) refl (λ l i j p q h. put_all_swap l i j p q ∙ h) ys

    -- a list in order stays
    put_all_stays : (xs : List X) → ((k : ℕ) (d : X) → suc k < length xs → lt (get_or xs (suc k) d) (get_or xs k d) ≡ false) → put_all xs ≡ xs
    put_all_stays [] h = refl
    put_all_stays (x ∷ []) h = refl
    put_all_stays (x ∷ y ∷ ys) h =
        let rest = put_all_stays (y ∷ ys) (λ k d l. h (suc k) d (omega arith)) in
        let more = put_all_stays ys (λ k d l. h (suc (suc k)) d (omega arith)) in
        let first = h 0 x (omega arith) in
        let t = total x y in
        grind arith

insert_is : (e : Pending) (xs : List Pending) → insert_pending e xs ≡ put precedes e xs
insert_is e [] = refl
insert_is e (x ∷ xs) = ap (λ l. cond (precedes e x) (e ∷ x ∷ xs) (x ∷ l)) (insert_is e xs)

sorted_is : (xs : List Pending) → sorted xs ≡ put_all precedes xs
sorted_is [] = refl
sorted_is (x ∷ xs) = insert_is x (sorted xs) ∙ ap (put precedes x) (sorted_is xs)

-- a list of the same items that is in order is the sorted one
pub sorted_from_order : (xs ys : List Pending) → IsPermutation xs ys → IsSortedBy key_precedes ys → ys ≡ sorted xs
sorted_from_order xs ys same up =
    let order : (k : ℕ) (d : Pending) → suc k < length ys → precedes (get_or ys (suc k) d) (get_or ys k d) ≡ false = λ k d l.
    let next : suc k ≡ k + 1 = omega arith in
    key_precedes_is (get_or ys (suc k) d) (get_or ys k d) ∙ ap (λ n. key_precedes (get_or ys n d) (get_or ys k d)) next ∙ up k d (omega arith) (omega arith)
    in
    sym (put_all_stays precedes precedes_one_way precedes_chain precedes_total ys order) ∙ put_all_permutation precedes precedes_one_way precedes_chain precedes_total xs ys same ∙ sym (sorted_is xs)

-- the order in which two are inserted doesn't matter
pub insert_comm : (a b : Pending) (xs : List Pending) → insert_pending a (insert_pending b xs) ≡ insert_pending b (insert_pending a xs)
insert_comm a b xs =
    insert_is a (insert_pending b xs) ∙ ap (put precedes a) (insert_is b xs) ∙ put_comm precedes precedes_one_way precedes_chain precedes_total a b xs ∙ ap (put precedes b) (sym (insert_is a xs)) ∙ sym (insert_is b (insert_pending a xs))

-- an item at the end is inserted too
pub sorted_push : (xs : List Pending) (x : Pending) → sorted (xs ++ x ∷ []) ≡ insert_pending x (sorted xs)
sorted_push [] x = refl
sorted_push (y ∷ xs) x = ap (insert_pending y) (sorted_push xs x) ∙ insert_comm y x (sorted xs)
