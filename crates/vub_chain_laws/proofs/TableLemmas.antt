-- What stands of a table in memory links its pieces.
use Rattle.std.proofs.Common.{◌≡◌, ◌≤◌, ◌<◌, true, ℕ, ◌+◌, ◌*◌, ◌^◌, List, [], ◌∷◌, ◌++◌, length, refl, ap, ap₂, sym, subst, ◌∙◌, arith}
use Rattle.std.specs.List.{AllByRecursion}
use Rattle.std.proofs.lemmas.List.{append-nil}
use Rattle.byteorder.specs.Endian.{little_from, little_bytes}
use Rattle.byteorder.specs.Numbers.{little_number-reads_back}
use Rattle.vub_shared.specs.Bytes.{Bytes, word, bytes_from}
use Rattle.vub_shared.proofs.BytesLemmas.{number_of_loaded}
use Rattle.vub_driver.specs.Requests.{Piece, descriptor_bytes, write_flag, readable_piece, writable_piece, data_pieces, pieces}
use Rattle.vub_driver.specs.Layout.{status_place}
use Rattle.vub_base.specs.declared.request.Ask.{Ask}
use Rattle.std.specs.Prelude.{◌/◌, Option, Some, option_map}
use Rattle.vub_memtable.specs.declared.region.Mapped.{Mapped}
use Rattle.vub_memtable.specs.Tables.{guest_place}
use Rattle.vub_chain.specs.declared.walk.Desc.{Desc}
use Rattle.vub_chain.specs.Chains.{Limits, source_in, source_of, split_chain}
use Rattle.vub_chain.specs.Descs.{linked_desc}
use Rattle.vub_chain.proofs.LeavesLemmas.{same_desc}
use Rattle.vub_chain_laws.specs.Made.{FitsFields}
use Rattle.vub_chain_laws.specs.Pieces.{AreMapped, Gives, LinkedAs, NamesTable, desc_of, numbers_from}
use Rattle.vub_chain_laws.specs.Tables.{table_bytes, naming_bytes, StandAt, FitsTable}
use Rattle.vub_chain_laws.proofs.MadeLemmas.{length_little, desc_long, small_flag}
use Rattle.vub_chain_laws.proofs.PieceLemmas.{in_order, split_indirect}

head_same : (x y : ℕ) (xs ys : List ℕ) → x ∷ xs ≡ y ∷ ys → x ≡ y
head_same x y xs ys e = cc

tail_same : (x y : ℕ) (xs ys : List ℕ) → x ∷ xs ≡ y ∷ ys → xs ≡ ys
tail_same x y xs ys e = cc

-- what stands of two lists one behind the other stands of each
stand_both : (xs ys : List ℕ) (m : Bytes) (s p : ℕ) → StandAt m s p (xs ++ ys) → StandAt m s p xs × StandAt m s (p + length xs) ys
stand_both [] ys m s p e = (refl, subst (λ (q : ℕ). StandAt m s q ys) (omega arith) e)
stand_both (x ∷ xs) ys m s p e =
    let here : m s p ≡ x = head_same (m s p) x (bytes_from (length (xs ++ ys)) m s (p + 1)) (xs ++ ys) e in
    let rest : StandAt m s (p + 1) (xs ++ ys) = tail_same (m s p) x (bytes_from (length (xs ++ ys)) m s (p + 1)) (xs ++ ys) e in
    let both : StandAt m s (p + 1) xs × StandAt m s (p + 1 + length xs) ys = stand_both xs ys m s (p + 1) rest in
    (ap₂ (λ (b : ℕ) (bs : List ℕ). b ∷ bs) here both.0, subst (λ (q : ℕ). StandAt m s q ys) (omega arith) both.1)

-- a number that stands is read
word_stands : (w x : ℕ) (m : Bytes) (s p : ℕ) → x < 256 ^ w → StandAt m s p (little_bytes w x) → word w m s p ≡ x
word_stands w x m s p small e =
    let loaded : bytes_from w m s p ≡ little_bytes w x = subst (λ (n : ℕ). bytes_from n m s p ≡ little_bytes w x) (length_little w x) e in
    sym (number_of_loaded w m s p) ∙ ap (little_from 0 w) (loaded ∙ sym (append-nil (little_bytes w x))) ∙ little_number-reads_back w x [] small

-- the fields of 16 bytes that stand, one behind the other
record Fields (m : Bytes) (s p a b c d : ℕ) : Type 0 where
  address : word 8 m s p ≡ a
  len : word 4 m s (p + 8) ≡ b
  flags : word 2 m s (p + 12) ≡ c
  next : word 2 m s (p + 14) ≡ d

fields_stand : (m : Bytes) (s p a b c d : ℕ) → a < 2 ^ 64 → b < 2 ^ 32 → c < 65536 → d < 65536 → StandAt m s p (little_bytes 8 a ++ (little_bytes 4 b ++ (little_bytes 2 c ++ little_bytes 2 d))) → Fields m s p a b c d
fields_stand m s p a b c d sa sb sc sd e =
    let one : StandAt m s p (little_bytes 8 a) × StandAt m s (p + length (little_bytes 8 a)) (little_bytes 4 b ++ (little_bytes 2 c ++ little_bytes 2 d)) = stand_both (little_bytes 8 a) (little_bytes 4 b ++ (little_bytes 2 c ++ little_bytes 2 d)) m s p e in
    let la : length (little_bytes 8 a) ≡ 8 = length_little 8 a in
    let lb : length (little_bytes 4 b) ≡ 4 = length_little 4 b in
    let lc : length (little_bytes 2 c) ≡ 2 = length_little 2 c in
    let two : StandAt m s (p + 8) (little_bytes 4 b) × StandAt m s (p + 8 + length (little_bytes 4 b)) (little_bytes 2 c ++ little_bytes 2 d) =
    stand_both (little_bytes 4 b) (little_bytes 2 c ++ little_bytes 2 d) m s (p + 8) (subst (λ (n : ℕ). StandAt m s (p + n) (little_bytes 4 b ++ (little_bytes 2 c ++ little_bytes 2 d))) la one.1) in
    let at_two : StandAt m s (p + 12) (little_bytes 2 c ++ little_bytes 2 d) = subst (λ (q : ℕ). StandAt m s q (little_bytes 2 c ++ little_bytes 2 d)) (omega (arith, lb)) two.1 in
    let three : StandAt m s (p + 12) (little_bytes 2 c) × StandAt m s (p + 12 + length (little_bytes 2 c)) (little_bytes 2 d) = stand_both (little_bytes 2 c) (little_bytes 2 d) m s (p + 12) at_two in
    let at_three : StandAt m s (p + 14) (little_bytes 2 d) = subst (λ (q : ℕ). StandAt m s q (little_bytes 2 d)) (omega (arith, lc)) three.1 in
    record {
      address = word_stands 8 a m s p (omega (arith, sa)) one.0;
      len = word_stands 4 b m s (p + 8) (omega (arith, sb)) two.0;
      flags = word_stands 2 c m s (p + 12) (omega (arith, sc)) three.0;
      next = word_stands 2 d m s (p + 14) (omega (arith, sd)) at_three;
    }

-- an entry that stands
entry_stands : (m : Bytes) (s place i count : ℕ) (p : Piece) (flag next : ℕ) → FitsFields p → flag < 2 → next < 65536 → StandAt m s (place + 16 * i) (descriptor_bytes p flag next)
    → linked_desc m (record { space = s; place = place; count = count }) i ≡ desc_of p flag next
entry_stands m s place i count p flag next fits low small e =
    let f : Fields m s (place + 16 * i) p.place p.len (write_flag p.writable + flag) next = fields_stand m s (place + 16 * i) p.place p.len (write_flag p.writable + flag) next fits.place fits.len (omega (arith, small_flag p.writable flag low)) small e in
    same_desc _ _ _ _ _ _ _ _ f.address f.len f.flags f.next

-- the entries from number i on
entries_link : (m : Bytes) (s place count i : ℕ) (p : Piece) (ps : List Piece) → i + length (p ∷ ps) ≡ count → count < 65536 → AllByRecursion FitsFields (p ∷ ps) → StandAt m s (place + 16 * i) (table_bytes i (p ∷ ps))
    → LinkedAs m (record { space = s; place = place; count = count }) (numbers_from (length (p ∷ ps)) i) (p ∷ ps)
entries_link m s place count i p [] long few fits e = entry_stands m s place i count p 0 0 fits.0 (omega arith) (omega arith) e
entries_link m s place count i p (q ∷ ps) long few fits e =
    let both : StandAt m s (place + 16 * i) (descriptor_bytes p 1 (i + 1)) × StandAt m s (place + 16 * i + length (descriptor_bytes p 1 (i + 1))) (table_bytes (i + 1) (q ∷ ps)) =
    stand_both (descriptor_bytes p 1 (i + 1)) (table_bytes (i + 1) (q ∷ ps)) m s (place + 16 * i) e in
    let next : StandAt m s (place + 16 * (i + 1)) (table_bytes (i + 1) (q ∷ ps)) = subst (λ (n : ℕ). StandAt m s n (table_bytes (i + 1) (q ∷ ps))) (omega (arith, desc_long p 1 (i + 1))) both.1 in
    (entry_stands m s place i count p 1 (i + 1) fits.0 (omega arith) (omega arith) both.0, omega arith, entries_link m s place count (i + 1) q ps (omega arith) few fits.1 next)

pub table_links : (m : Bytes) (space place : ℕ) (p : Piece) (ps : List Piece) → FitsTable (p ∷ ps) → StandAt m space place (table_bytes 0 (p ∷ ps))
    → LinkedAs m (record { space = space; place = place; count = length (p ∷ ps) }) (numbers_from (length (p ∷ ps)) 0) (p ∷ ps)
table_links m space place p ps fits e = entries_link m space place (length (p ∷ ps)) 0 p ps (omega arith) fits.few fits.fit (subst (λ (q : ℕ). StandAt m space q (table_bytes 0 (p ∷ ps))) (omega arith) e)

-- a descriptor that stands for a table names it
table_named : (table : List Mapped) (m : Bytes) (space place count i at many : ℕ) (w : ℕ × ℕ) → at < 2 ^ 64 → many < 65536 → 0 < many → StandAt m space (place + 16 * i) (naming_bytes at many)
    → guest_place table at (16 * many) ≡ Some w → NamesTable table (linked_desc m (record { space = space; place = place; count = count }) i) many (record { space = w.0; place = w.1; count = many })
table_named table m space place count i at many w low short some e mapped =
    let f : Fields m space (place + 16 * i) at (16 * many) 4 0 = fields_stand m space (place + 16 * i) at (16 * many) 4 0 low (omega (arith, short)) (omega arith) (omega arith) e in
    let d : Desc = record { addr = at; len = 16 * many; flags = 4; next = 0 } in
    let is : linked_desc m (record { space = space; place = place; count = count }) i ≡ d = same_desc _ _ _ _ _ _ _ _ f.address f.len f.flags f.next in
    let entries : (16 * many) / 16 ≡ many = omega arith in
    let source : source_in table d ≡ Some (record { space = w.0; place = w.1; count = many }) =
    ap (λ (o : Option (ℕ × ℕ)). option_map (source_of d) o) mapped ∙ ap (λ (n : ℕ). Some (record { space = w.0; place = w.1; count = n })) entries in
    subst (λ (x : Desc). NamesTable table x many (record { space = w.0; place = w.1; count = many })) (sym is) (record { names = refl; last = refl; some = some; len = refl; mapped = source })

-- a request whose table stands, and the descriptor that names it
pub standing_table_gives : (x : Limits) (m : Bytes) (space place head buffer at : ℕ) (w : ℕ × ℕ) (ask : Ask) → x.indirect ≡ true → at < 2 ^ 64 → guest_place x.table at (16 * length (pieces buffer ask)) ≡ Some w
    → StandAt m space (place + 16 * head) (naming_bytes at (length (pieces buffer ask))) → StandAt m w.0 w.1 (table_bytes 0 (pieces buffer ask)) → FitsTable (pieces buffer ask)
    → length (pieces buffer ask) ≤ x.size → AreMapped x.table (pieces buffer ask) → Gives x (split_chain x m space place head) (pieces buffer ask)
standing_table_gives x m space place head buffer at w ask indirect low mapped named table fits few ranges =
    let first : Piece = readable_piece buffer 16 in
    let rest : List Piece = data_pieces buffer ask ++ (writable_piece (status_place buffer) 1 ∷ []) in
    split_indirect x m space place head (record { space = w.0; place = w.1; count = length (pieces buffer ask) }) (pieces buffer ask) indirect
    (table_named x.table m space place x.size head at (length (pieces buffer ask)) w low fits.few (omega arith) named mapped)
    (table_links m w.0 w.1 first rest fits table) few ranges (in_order buffer ask)
