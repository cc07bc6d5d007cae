-- Pieces that are appended one after the other.
use Rattle.std.proofs.Common.{◌≡◌, ℕ, ◌+◌, ◌*◌, List, [], ◌++◌, length, ap, ◌∙◌, arith, append_assoc, length-append}
use Rattle.std.specs.List.{flat_map}
use Rattle.vub_memtable.specs.declared.region.Region.{Region}
use Rattle.vub_wire.specs.Grammar.{table_bytes, region_bytes}
use Rattle.vub_wire.specs.Writing.{zeros}
use Rattle.vub_wire.proofs.Payloads.{length_regions_bytes}

-- four pieces, and five
pub four : (o a b c d : List ℕ) {x y z w : List ℕ} → x ≡ o ++ a → y ≡ x ++ b → z ≡ y ++ c → w ≡ z ++ d → w ≡ o ++ (a ++ (b ++ (c ++ d)))
four o a b c d e f g h = h ∙ ap (λ l. l ++ d) (g ∙ ap (λ l. l ++ c) (f ∙ ap (λ l. l ++ b) e)) ∙ simp append_assoc

pub five : (o a b c d t : List ℕ) {x y z w v : List ℕ} → x ≡ o ++ a → y ≡ x ++ b → z ≡ y ++ c → w ≡ z ++ d → v ≡ w ++ t → v ≡ o ++ (a ++ (b ++ (c ++ (d ++ t))))
five o a b c d t e f g h i = i ∙ ap (λ l. l ++ t) (four o a b c d e f g h) ∙ simp append_assoc

pub table_long : (rs : List Region) → 8 + 32 * length rs ≡ length (table_bytes rs zeros [])
unfolding table_bytes
table_long rs = omega (arith, length_regions_bytes rs, length-append (flat_map region_bytes rs) [])
