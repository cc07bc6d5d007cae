-- Lists of sectors that are all the same.
use Rattle.std.proofs.Common.{◌≡◌, ◌<◌, ◌+◌, ℕ, zero, suc, List, [], ◌∷◌, ◌++◌, length, refl, ap, ◌∙◌, arith, length-append}
use Rattle.std.specs.Prelude.{slice_index_or}

all_push : (z : List ℕ) (xs : List (List ℕ)) → ((s : ℕ) (d : List ℕ) → s < length xs → slice_index_or xs s d ≡ z) → (s : ℕ) (d : List ℕ) → s < length xs + 1 → slice_index_or (xs ++ z ∷ []) s d ≡ z
all_push z [] same zero d l = refl
all_push z [] same (suc s) d l = absurd (omega arith)
all_push z (x ∷ xs) same zero d l = same 0 d (omega arith)
all_push z (x ∷ xs) same (suc s) d l = all_push z xs (λ t e b. same (suc t) e (omega arith)) s d (omega arith)

-- one more of them
pub same_push : (z : List ℕ) (xs ys : List (List ℕ)) → ys ≡ xs ++ z ∷ [] → ((s : ℕ) (d : List ℕ) → s < length xs → slice_index_or xs s d ≡ z) → (s : ℕ) (d : List ℕ) → s < length ys → slice_index_or ys s d ≡ z
same_push z xs ys is same s d l =
    let len : length ys ≡ length xs + 1 = ap (λ (zs : List (List ℕ)). length zs) is ∙ length-append xs (z ∷ []) in
    ap (λ zs. slice_index_or zs s d) is ∙ all_push z xs same s d (omega arith)

pub length-push : (z : List ℕ) (xs ys : List (List ℕ)) → ys ≡ xs ++ z ∷ [] → length ys ≡ length xs + 1
length-push z xs ys is = ap (λ (zs : List (List ℕ)). length zs) is ∙ length-append xs (z ∷ [])
