-- The driver's stores link its pieces.
use Rattle.std.proofs.Common.{◌≡◌, ◌≢◌, ◌≤◌, ◌<◌, ℕ, zero, suc, ◌+◌, ◌*◌, ◌^◌, Bool, true, false, List, [], ◌∷◌, ◌++◌, length, refl, ap, sym, ◌∙◌, inl, inr, arith}
use Rattle.std.specs.List.{AllByRecursion}
use Rattle.std.proofs.lemmas.Bool.{cases_order}
use Rattle.std.proofs.lemmas.List.{append-nil, append_assoc, length-append}
use Rattle.byteorder.specs.Endian.{little_from, little_bytes}
use Rattle.byteorder.specs.Numbers.{length-bytes_low_first, little_from-cons, little_number-reads_back}
use Rattle.vub_shared.specs.Bytes.{Bytes, put, word}
use Rattle.vub_shared.specs.Stores.{Store, after_store, one_store}
use Rattle.vub_shared.proofs.BytesLemmas.{word-put_inside}
use Rattle.vub_ring.specs.Ring.{Ring, desc_place}
use Rattle.vub_driver.specs.Requests.{Piece, descriptor_bytes, write_flag}
use Rattle.vub_driver.specs.Stores.{chain_stores}
use Rattle.vub_chain.specs.Descs.{linked_desc}
use Rattle.vub_chain.specs.Leaves.{OffDesc}
use Rattle.vub_chain.proofs.LeavesLemmas.{linked_off, same_desc}
use Rattle.vub_chain_laws.specs.Made.{ChainFits, FitsFields, after_all, table_of}
use Rattle.vub_chain_laws.specs.Pieces.{LinkedAs, desc_of}

pub length_little : (w x : ℕ) → length (little_bytes w x) ≡ w
length_little w x = length-bytes_low_first 0 w x

from_after : (xs ys : List ℕ) (i w : ℕ) → length xs ≡ i → little_from i w (xs ++ ys) ≡ little_from 0 w ys
from_after [] ys i w long = ap (λ (k : ℕ). little_from k w ys) (sym long)
from_after (x ∷ xs) ys zero w long = absurd (omega arith)
from_after (x ∷ xs) ys (suc i) w long = little_from-cons i w x (xs ++ ys) ∙ from_after xs ys i w (omega arith)

-- a number of w bytes, stored after some others and before some more
word_made : (m : Bytes) (s p q : ℕ) (xs rest bs : List ℕ) (w x : ℕ) → bs ≡ xs ++ (little_bytes w x ++ rest) → q ≡ p + length xs → length xs + w ≤ length bs → x < 256 ^ w → word w (put m s p bs) s q ≡ x
word_made m s p q xs rest bs w x is at fits small =
    ap (word w (put m s p bs) s) at ∙ word-put_inside w m s p bs (length xs) fits ∙ ap (little_from (length xs) w) is ∙ from_after xs (little_bytes w x ++ rest) (length xs) w refl ∙ little_number-reads_back w x rest small

four_long : (a b c d : List ℕ) → length a ≡ 8 → length b ≡ 4 → length c ≡ 2 → length d ≡ 2 → length (a ++ b ++ c ++ d) ≡ 16
four_long a b c d la lb lc ld = simp length-append (omega arith)

pub desc_long : (p : Piece) (flag next : ℕ) → length (descriptor_bytes p flag next) ≡ 16
desc_long p flag next = four_long (little_bytes 8 p.place) (little_bytes 4 p.len) (little_bytes 2 (write_flag p.writable + flag)) (little_bytes 2 next) (length_little 8 p.place) (length_little 4 p.len) (length_little 2 (write_flag p.writable + flag)) (length_little 2 next)

pub small_flag : (w : Bool) (flag : ℕ) → flag < 2 → write_flag w + flag < 256 ^ 2
small_flag true flag small = omega arith
small_flag false flag small = omega arith

-- the store of a descriptor
abbrev desc_store : Ring → ℕ → Piece → ℕ → ℕ → Store
desc_store r d p flag next = one_store r.desc_space (desc_place r d) (descriptor_bytes p flag next)

-- what was stored stands there
stands : (r : Ring) (m : Bytes) (d : ℕ) (p : Piece) (flag next : ℕ) → FitsFields p → flag < 2 → next < 65536 → linked_desc (after_store (desc_store r d p flag next) m) (table_of r) d ≡ desc_of p flag next
stands r m d p flag next fits small_next small =
    let at : ℕ = r.desc + 16 * d in
    let f : ℕ = write_flag p.writable + flag in
    let a : List ℕ = little_bytes 8 p.place in
    let b : List ℕ = little_bytes 4 p.len in
    let c : List ℕ = little_bytes 2 f in
    let e : List ℕ = little_bytes 2 next in
    let bs : List ℕ = descriptor_bytes p flag next in
    let long : length bs ≡ 16 = desc_long p flag next in
    let la : length a ≡ 8 = length_little 8 p.place in
    let lb : length b ≡ 4 = length_little 4 p.len in
    let lc : length c ≡ 2 = length_little 2 f in
    let lab : length (a ++ b) ≡ 12 = length-append a b ∙ omega arith in
    let labc : length ((a ++ b) ++ c) ≡ 14 = length-append (a ++ b) c ∙ omega arith in
    let after_b : bs ≡ (a ++ b) ++ (c ++ e) = sym (append_assoc a b (c ++ e)) in
    let after_c : bs ≡ ((a ++ b) ++ c) ++ (e ++ []) = after_b ∙ sym (append_assoc (a ++ b) c e) ∙ ap (λ (xs : List ℕ). ((a ++ b) ++ c) ++ xs) (sym (append-nil e)) in
    same_desc _ _ _ _ _ _ _ _
    (word_made m r.desc_space at at [] (b ++ c ++ e) bs 8 p.place refl (omega arith) (omega arith) fits.place)
    (word_made m r.desc_space at (at + 8) a (c ++ e) bs 4 p.len refl (omega arith) (omega arith) fits.len)
    (word_made m r.desc_space at (at + 12) (a ++ b) e bs 2 f after_b (omega arith) (omega arith) (small_flag p.writable flag small_next))
    (word_made m r.desc_space at (at + 14) ((a ++ b) ++ c) [] bs 2 next after_c (omega arith) (omega arith) small)

-- the store of another descriptor leaves it
other_off : (r : Ring) (d e : ℕ) (p : Piece) (flag next : ℕ) → e ≢ d → OffDesc (desc_store r e p flag next) (table_of r) d
other_off r d e p flag next other = elim (cases_order e d) [
  | inl same ↦ absurd (other same)
  | inr (inl low) ↦ inr (inr (let long : length (descriptor_bytes p flag next) ≡ 16 = desc_long p flag next in omega arith))
  | inr (inr high) ↦ inr (inl (omega arith))
]

rest_off : (r : Ring) (m : Bytes) (ps : List Piece) (ds : List ℕ) (d : ℕ) → AllByRecursion (λ (x : ℕ). x ≢ d) ds → linked_desc (after_all (chain_stores r ps ds) m) (table_of r) d ≡ linked_desc m (table_of r) d
rest_off r m [] ds d others = refl
rest_off r m (p ∷ []) [] d others = refl
rest_off r m (p ∷ []) (e ∷ es) d others = linked_off m (desc_store r e p 0 0) (table_of r) d (other_off r d e p 0 0 others.0)
rest_off r m (p ∷ q ∷ ps) [] d others = refl
rest_off r m (p ∷ q ∷ ps) (e ∷ []) d others = refl
rest_off r m (p ∷ q ∷ ps) (e ∷ f ∷ es) d others =
    rest_off r (after_store (desc_store r e p 1 f) m) (q ∷ ps) (f ∷ es) d others.1 ∙ linked_off m (desc_store r e p 1 f) (table_of r) d (other_off r d e p 1 f others.0)

first_below : (size e : ℕ) (ds : List ℕ) (q : Piece) (ps : List Piece) → ChainFits size (e ∷ ds) (q ∷ ps) → e < size
first_below size e [] q [] fits = fits.0
first_below size e [] q (p ∷ ps) fits = absurd fits
first_below size e (d ∷ ds) q [] fits = absurd fits
first_below size e (d ∷ ds) q (p ∷ ps) fits = fits.0

pub stores_link : (r : Ring) (m : Bytes) (ds : List ℕ) (ps : List Piece) → r.size ≤ 65536 → ChainFits r.size ds ps → LinkedAs (after_all (chain_stores r ps ds) m) (table_of r) ds ps
stores_link r m [] [] few fits = absurd fits
stores_link r m [] (p ∷ ps) few fits = absurd fits
stores_link r m (d ∷ []) [] few fits = absurd fits
stores_link r m (d ∷ e ∷ ds) [] few fits = absurd fits
stores_link r m (d ∷ []) (p ∷ q ∷ ps) few fits = absurd fits
stores_link r m (d ∷ e ∷ ds) (p ∷ []) few fits = absurd fits
stores_link r m (d ∷ []) (p ∷ []) few fits = stands r m d p 0 0 fits.1 (omega arith) (omega arith)
stores_link r m (d ∷ e ∷ ds) (p ∷ q ∷ ps) few fits =
    let below : e < r.size = first_below r.size e ds q ps fits.3 in
    (rest_off r (after_store (desc_store r d p 1 e) m) (q ∷ ps) (e ∷ ds) d fits.2 ∙ stands r m d p 1 e fits.1 (omega arith) (omega arith), below, stores_link r (after_store (desc_store r d p 1 e) m) (e ∷ ds) (q ∷ ps) few fits.3)
