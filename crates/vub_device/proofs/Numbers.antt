-- Lists of numbers.
use Rattle.std.proofs.Common.{◌≡◌, ℕ, zero, suc, ◌==◌, ◌||◌, List, [], ◌∷◌, ◌++◌, refl, sym, ◌∙◌}
use Rattle.std.specs.Prelude.{slice_get, Some, Ok}
use Rattle.std.proofs.lemmas.List.{append_cancel_right}
use Rattle.std.proofs.lemmas.List.Folds.{list_any-append}
use Rattle.vub_device.specs.Past.{is_among}
use Rattle.vub_device.specs.Places.{place_of, or_later}

pub is_among_append : (xs ys : List ℕ) (k : ℕ) → is_among (xs ++ ys) k ≡ (is_among xs k || is_among ys k)
is_among_append xs ys k = list_any-append (λ x. x == k) xs ys

-- a place in two lists one after the other
pub place_of_append : (xs ys : List ℕ) (i : ℕ) → place_of (xs ++ ys) i ≡ or_later (place_of xs i) ys
unfolding or_later
place_of_append [] ys i = refl
place_of_append (x ∷ xs) ys zero = refl
place_of_append (x ∷ xs) ys (suc i) = place_of_append xs ys i

-- a place that is found is the list's
pub slice_get_found : (xs : List ℕ) (i x : ℕ) → place_of xs i ≡ Ok x → slice_get xs i ≡ Some x
slice_get_found [] i x e = cc
slice_get_found (y ∷ xs) zero x e = cc
slice_get_found (y ∷ xs) (suc i) x e = slice_get_found xs i x e

pub place_of_get : (xs : List ℕ) (i x : ℕ) → slice_get xs i ≡ Some x → place_of xs i ≡ Ok x
place_of_get [] i x e = cc
place_of_get (y ∷ xs) zero x e = cc
place_of_get (y ∷ xs) (suc i) x e = place_of_get xs i x e

-- lists that end alike are equal where they begin
pub same_front : (front xs v bytes : List ℕ) → bytes ≡ front ++ v → bytes ≡ xs ++ v → front ≡ xs
same_front front xs v bytes e f = append_cancel_right front xs v (sym e ∙ f)
