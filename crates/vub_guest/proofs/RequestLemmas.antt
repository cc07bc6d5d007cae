use Rattle.std.proofs.Common.{◌≡◌, ◌<◌, ◌≤◌, ℕ, zero, suc, ◌+◌, ◌*◌, List, [], ◌∷◌, ◌++◌, length, take, get_or, refl, ap, sym, ◌∙◌, arith}
use Rattle.std.proofs.lemmas.Bool.Decides.{nat_tests}
use Rattle.std.proofs.Common.{mul-le-mul_left}
use Rattle.std.proofs.lemmas.List.{flat_map_more, take_more}
use Rattle.std.specs.List.{flat_map}
use Rattle.std.specs.Prelude.{nat_lt, not, ◌==◌, ◌⊎◌}
use Rattle.std.proofs.Common.{inl, inr}
use Rattle.arrayvec.specs.ArrayVec.{ArrayVec}
use Rattle.vub_base.specs.declared.request.Ask.{Ask}
use Rattle.vub_base.specs.declared.request.Ask.TheVariants.{Write, Discard, Zero}
use Rattle.vub_base.specs.declared.request.Part.{Part}
use Rattle.vub_driver.proofs.FillLemmas.{length-each, length-fills}
use Rattle.vub_driver.specs.Requests.{written_bytes, part_bytes}
use Rattle.vub_guest.specs.GuestRequest.{data_len}

pub length-parts : (parts : List Part) → length (flat_map part_bytes parts) ≡ 16 * length parts
length-parts parts = length-each part_bytes 16 (λ p. refl) parts

pub length_of_write : (ask : Ask) (sector : ℕ) (fills : ArrayVec ℕ) → ask ≡ Write sector fills → length (written_bytes ask) ≡ 512 * length fills.items
length_of_write ask sector fills is = ap (λ a. length (written_bytes a)) is ∙ length-fills fills.items

pub length_of_parts : (ask : Ask) (parts : ArrayVec Part) → (ask ≡ Discard parts) ⊎ (ask ≡ Zero parts) → length (written_bytes ask) ≡ 16 * length parts.items
length_of_parts ask parts (inl is) = ap (λ a. length (written_bytes a)) is ∙ length-parts parts.items
length_of_parts ask parts (inr is) = ap (λ a. length (written_bytes a)) is ∙ length-parts parts.items

pub data_len_of_write : (ask : Ask) (sector : ℕ) (fills : ArrayVec ℕ) → ask ≡ Write sector fills → data_len ask ≡ 512 * length fills.items
data_len_of_write ask sector fills is = ap data_len is ∙ length-fills fills.items

pub data_len_of_parts : (ask : Ask) (parts : ArrayVec Part) → (ask ≡ Discard parts) ⊎ (ask ≡ Zero parts) → data_len ask ≡ 16 * length parts.items
data_len_of_parts ask parts (inl is) = ap data_len is ∙ length-parts parts.items
data_len_of_parts ask parts (inr is) = ap data_len is ∙ length-parts parts.items

-- bytes are handed over where there is something to write
pub some_written : (n k : ℕ) → 0 < n → (bytes : List ℕ) → length bytes ≡ n * k → not (k == 0) ≡ nat_lt 0 (length bytes)
some_written n zero some bytes is =
    let none : length bytes ≡ 0 = omega (arith, is) in
    grind (arith, nat_tests)
some_written n (suc k) some bytes is =
    let many : n * 1 ≤ n * suc k = mul-le-mul_left n (omega arith) in
    let more : 0 < length bytes = omega (arith, is, many) in
    grind (arith, nat_tests)

pub some_written_of_write : (ask : Ask) (sector : ℕ) (fills : ArrayVec ℕ) → ask ≡ Write sector fills → not (length fills.items == 0) ≡ nat_lt 0 (length (written_bytes ask))
some_written_of_write ask sector fills is = some_written 512 (length fills.items) (omega arith) (written_bytes ask) (length_of_write ask sector fills is)

pub some_written_of_parts : (ask : Ask) (parts : ArrayVec Part) → (ask ≡ Discard parts) ⊎ (ask ≡ Zero parts) → not (length parts.items == 0) ≡ nat_lt 0 (length (written_bytes ask))
some_written_of_parts ask parts is = some_written 16 (length parts.items) (omega arith) (written_bytes ask) (length_of_parts ask parts is)

-- one more of the pieces
pub flat_map-more : {X : Type 0} (f : X → List ℕ) (xs : List X) (i : ℕ) (d : X) → i < length xs → flat_map f (take i xs) ++ f (get_or xs i d) ≡ flat_map f (take (i + 1) xs)
flat_map-more f xs i d within =
    let whole : flat_map f (take i xs) ++ f (get_or xs i d) ≡ flat_map f (take i xs ++ get_or xs i d ∷ []) = flat_map_more f [] (take i xs) (get_or xs i d) in
    whole ∙ ap (flat_map f) (sym (take_more xs i d within))
