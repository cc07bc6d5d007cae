-- What one store more does to the stores that are kept.
use Rattle.std.proofs.Common.{◌≡◌, ◌≤◌, ◌<◌, ℕ, zero, suc, ◌+◌, ◌*◌, ◌-◌, List, [], ◌∷◌, ◌++◌, length, take, drop, refl, ap, ◌∙◌, arith, length-append, length-drop, Some}
use Rattle.std.specs.Prelude.{All, slice_get, slice_index_or, slice_range}
use Rattle.std.proofs.lemmas.Grind.{common_steps}
use Rattle.std.proofs.lemmas.List.{take-append-le, drop-append-le}
use Rattle.vub_shared.specs.Stores.{Store, one_store}
use Rattle.vub_shared.specs.Trails.{kept_stores, total_of, IsWithin, IsKept}
use Rattle.vub_shared.specs.declared.kept.Kept.{Kept}

store_of : List ℕ → Kept → Store
store_of bytes k = one_store k.space.number k.place (slice_range bytes k.start k.end)

pub total-append : (xs : List Store) (st : Store) → total_of (xs ++ st ∷ []) ≡ total_of xs + length st.bytes
total-append [] st = grind arith
total-append (x ∷ xs) st = omega (arith, total-append xs st)

-- a first store takes half of the room at most
pub short-push : (xs : List Store) (st : Store) (room : ℕ) → 2 * length st.bytes ≤ room → length (xs ++ st ∷ []) < 2 → 2 * total_of (xs ++ st ∷ []) ≤ room
short-push [] st room small few = omega (arith, total-append [] st)
short-push (x ∷ xs) st room small few = absurd (omega (arith, length-append (x ∷ xs) (st ∷ [])))

-- a range stays as it is where bytes are added past it
range-append : (bytes bs : List ℕ) (a b : ℕ) → a ≤ b → b ≤ length bytes → slice_range (bytes ++ bs) a b ≡ slice_range bytes a b
range-append bytes bs a b up within =
    let cut : drop a (bytes ++ bs) ≡ drop a bytes ++ bs = drop-append-le a bytes bs (omega arith) in
    ap (take (b - a)) cut ∙ take-append-le (b - a) (drop a bytes) bs (omega (arith, length-drop a bytes))

range-new : (bytes bs : List ℕ) → slice_range (bytes ++ bs) (length bytes) (length bytes + length bs) ≡ bs
range-new bytes bs = grind (arith, common_steps)

pub kept-more : (bytes bs : List ℕ) (ks : List Kept) → All (IsWithin (length bytes)) ks → kept_stores (bytes ++ bs) ks ≡ kept_stores bytes ks
kept-more bytes bs [] within = refl
kept-more bytes bs (k ∷ ks) within =
    let here : IsWithin (length bytes) k = within 0 k (omega arith) in
    let rest = kept-more bytes bs ks (λ i d l. within (suc i) d (omega arith)) in
    let range = range-append bytes bs k.start k.end here.0 here.1 in
    ap (λ xs. one_store k.space.number k.place xs ∷ kept_stores (bytes ++ bs) ks) range ∙ ap (λ sts. one_store k.space.number k.place (slice_range bytes k.start k.end) ∷ sts) rest

kept-append : (bytes : List ℕ) (ks : List Kept) (k : Kept) → kept_stores bytes (ks ++ k ∷ []) ≡ kept_stores bytes ks ++ one_store k.space.number k.place (slice_range bytes k.start k.end) ∷ []
kept-append bytes [] k = refl
kept-append bytes (h ∷ hs) k = ap (λ sts. one_store h.space.number h.place (slice_range bytes h.start h.end) ∷ sts) (kept-append bytes hs k)

-- one store more
pub kept-push : (bytes bs : List ℕ) (ks : List Kept) (k : Kept) → All (IsWithin (length bytes)) ks → k.start ≡ length bytes → k.end ≡ length bytes + length bs
    → kept_stores (bytes ++ bs) (ks ++ k ∷ []) ≡ kept_stores bytes ks ++ one_store k.space.number k.place bs ∷ []
kept-push bytes bs ks k within start end =
    let cut : slice_range (bytes ++ bs) k.start k.end ≡ bs = ap (λ a. slice_range (bytes ++ bs) a k.end) start ∙ ap (λ b. slice_range (bytes ++ bs) (length bytes) b) end ∙ range-new bytes bs in
    kept-append (bytes ++ bs) ks k ∙ ap (λ sts. sts ++ one_store k.space.number k.place (slice_range (bytes ++ bs) k.start k.end) ∷ []) (kept-more bytes bs ks within) ∙ ap (λ xs. kept_stores bytes ks ++ one_store k.space.number k.place xs ∷ []) cut

within-push : (n m : ℕ) (ks : List Kept) (k : Kept) → All (IsWithin n) ks → n ≤ m → IsWithin m k → All (IsWithin m) (ks ++ k ∷ [])
within-push n m [] k within more here zero d l = here
within-push n m [] k within more here (suc i) d l = absurd (omega arith)
within-push n m (h ∷ hs) k within more here zero d l = let w : IsWithin n h = within 0 h (omega arith) in (w.0, omega (arith, w.1))
within-push n m (h ∷ hs) k within more here (suc i) d l = within-push n m hs k (λ j e b. within (suc j) e (omega arith)) more here i d (omega arith)

pub is_kept-push : (bytes bs : List ℕ) (ks : List Kept) (k : Kept) → IsKept bytes ks → k.start ≡ length bytes → k.end ≡ length bytes + length bs → IsKept (bytes ++ bs) (ks ++ k ∷ [])
is_kept-push bytes bs ks k kept start end =
    let push = kept-push bytes bs ks k kept.within start end in
    let len : length (bytes ++ bs) ≡ length bytes + length bs = length-append bytes bs in
    record {
      within = within-push (length bytes) (length (bytes ++ bs)) ks k kept.within (omega arith) (omega arith, omega arith);
      total = ap total_of push ∙ total-append (kept_stores bytes ks) (one_store k.space.number k.place bs) ∙ omega (arith, kept.total);
      count = ap (λ (sts : List Store). length sts) push ∙ grind (arith, common_steps, kept.count);
    }

-- one of the stores
pub kept-at : (bytes : List ℕ) (ks : List Kept) (i : ℕ) (d : Kept) → i < length ks
    → slice_get (kept_stores bytes ks) i ≡ Some (one_store (slice_index_or ks i d).space.number (slice_index_or ks i d).place (slice_range bytes (slice_index_or ks i d).start (slice_index_or ks i d).end))
kept-at bytes [] i d l = absurd (omega arith)
kept-at bytes (k ∷ ks) zero d l = refl
kept-at bytes (k ∷ ks) (suc i) d l = kept-at bytes ks i d (omega arith)
