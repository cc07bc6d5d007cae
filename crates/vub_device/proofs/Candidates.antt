-- What a sector may hold after a power stop.
use Rattle.std.proofs.Common.{◌≡◌, ℕ, true, ◌||◌, List, [], ◌∷◌, ◌++◌, ◌∙◌, arith}
use Rattle.std.specs.Prelude.{Contains, bytes_eq}
use Rattle.std.proofs.lemmas.List.Folds.{list_any-append}
use Rattle.std.proofs.lemmas.Map.Views.{list_any-from_Contains, Contains-from_any}
use Rattle.std.proofs.lemmas.Cmp.{nat_list_eq_equiv}
use Rattle.std.proofs.lemmas.Slice.Eq.{bytes_eq-Decides}
use Rattle.std.proofs.lemmas.Grind.{common_steps}
use Rattle.vub_device.specs.Places.{is_held}

-- with one more value
pub is_held_more : (x : List ℕ) (xs : List (List ℕ)) (v held : List ℕ) → is_held (x ∷ (xs ++ v ∷ [])) held ≡ (is_held (x ∷ xs) held || bytes_eq held v)
is_held_more x xs v held = list_any-append (λ w. bytes_eq held w) (x ∷ xs) (v ∷ []) ∙ grind (arith, common_steps)

-- the test of the definition's words
pub Contains-from_is_held : (values : List (List ℕ)) (held : List ℕ) → is_held values held ≡ true → Contains values held
Contains-from_is_held values held is = Contains-from_any (λ x y e. (bytes_eq-Decides x y).0 e) held values is

pub is_held-from_Contains : (values : List (List ℕ)) (held : List ℕ) → Contains values held → is_held values held ≡ true
is_held-from_Contains values held has = list_any-from_Contains nat_list_eq_equiv held values has
