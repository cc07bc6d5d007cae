use Rattle.std.proofs.Common.{◌≡◌, ℕ, List, [], ◌∷◌, ◌++◌, length, refl, arith}
use Rattle.std.specs.Prelude.{true, false, nat_lt, take, flat_map}
use Rattle.byteorder.specs.Endian.{little_bytes}
use Rattle.byteorder.specs.Numbers.{little_number-reads_back}
use Rattle.vub_base.specs.declared.request.Part.{Part}
use Rattle.vub_driver.specs.Requests.{part_bytes}
use Rattle.vub_blkreq.specs.Requests.{Given, part_at, parts_given, readable_data, is_parts_size}
use Rattle.vub_blkreq_laws.specs.Meanings.{IsPart, AreParts}

pub same_part : (p : Part) (s c f : ℕ) → s ≡ p.sector → c ≡ p.count → f ≡ p.flags → (record { sector = s; count = c; flags = f }) ≡ p
same_part p s c f is is' is'' = rw (is, is', is'')

-- a part is read again
pub part_back : (p : Part) (rest : List ℕ) → IsPart p → part_at (part_bytes p ++ rest) 0 ≡ p
part_back p rest fits =
    same_part p _ _ _
    (little_number-reads_back 8 p.sector (little_bytes 4 p.count ++ little_bytes 4 p.flags ++ rest) fits.0)
    (little_number-reads_back 4 p.count (little_bytes 4 p.flags ++ rest) fits.1)
    (little_number-reads_back 4 p.flags rest fits.2)

pub same_cons : {X : Type 0} (x y : X) (xs ys : List X) → x ≡ y → xs ≡ ys → x ∷ xs ≡ y ∷ ys
same_cons x y xs ys is is' = rw (is, is')

-- a header of this type, and the parts behind it
abbrev pub with_parts : ℕ → List Part → Given
with_parts kind parts =
    let bytes = (little_bytes 4 kind ++ little_bytes 4 0 ++ little_bytes 8 0) ++ flat_map part_bytes parts in
    record { front = take 80 bytes; readable = length bytes; writable = 1 }

-- one to four parts are read again
pub record AreRead (kind : ℕ) (parts : List Part) : Type 0 where
  pub long : nat_lt (with_parts kind parts).readable 16 ≡ false
  pub whole : is_parts_size (readable_data (with_parts kind parts)) ≡ true
  pub same : parts_given (with_parts kind parts) ≡ parts

pub parts_back : (kind : ℕ) (parts : List Part) → AreParts parts → AreRead kind parts
parts_back kind [] laid = absurd (omega (arith, laid.0))
parts_back kind (p ∷ []) laid = record { long = refl; whole = refl; same = same_cons _ _ _ _ (part_back p [] laid.2.0) refl }
parts_back kind (p ∷ q ∷ []) laid = record {
  long = refl;
  whole = refl;
  same = same_cons _ _ _ _ (part_back p (part_bytes q) laid.2.0) (same_cons _ _ _ _ (part_back q [] laid.2.1.0) refl);
}
parts_back kind (p ∷ q ∷ r ∷ []) laid = record {
  long = refl;
  whole = refl;
  same = same_cons _ _ _ _ (part_back p (part_bytes q ++ part_bytes r) laid.2.0)
      (same_cons _ _ _ _ (part_back q (part_bytes r) laid.2.1.0) (same_cons _ _ _ _ (part_back r [] laid.2.1.1.0) refl));
}
parts_back kind (p ∷ q ∷ r ∷ s ∷ []) laid = record {
  long = refl;
  whole = refl;
  same = same_cons _ _ _ _ (part_back p (part_bytes q ++ part_bytes r ++ part_bytes s) laid.2.0)
      (same_cons _ _ _ _ (part_back q (part_bytes r ++ part_bytes s) laid.2.1.0)
      (same_cons _ _ _ _ (part_back r (part_bytes s) laid.2.1.1.0) (same_cons _ _ _ _ (part_back s [] laid.2.1.1.1.0) refl)));
}
parts_back kind (p ∷ q ∷ r ∷ s ∷ t ∷ parts) laid = absurd (omega (arith, laid.1))
