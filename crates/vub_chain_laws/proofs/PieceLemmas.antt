-- Chains of pieces break no rule and give the pieces.
use Rattle.std.proofs.Common.{◌≡◌, ◌≤◌, ◌<◌, ℕ, zero, suc, ◌+◌, ◌*◌, ◌/◌, ◌%◌, Bool, true, false, cond, not, ◌&&◌, ◌||◌, List, [], ◌∷◌, ◌++◌, length, refl, ap, sym, ◌∙◌, subst, arith}
use Rattle.std.specs.Int.{bit_at}
use Rattle.std.specs.List.{filter_map, list_any, cons_option}
use Rattle.std.specs.Option.{option_or}
use Rattle.std.specs.Prelude.{◌==◌, nat_lt, Option, Some, None, option_map, is_none, unwrap_or, ⊤}
use Rattle.std.proofs.lemmas.Bool.Decides.{nat_tests}
use Rattle.std.proofs.lemmas.List.Folds.{list_any-append}
use Rattle.std.proofs.lemmas.Option.{none-some}
use Rattle.vub_base.specs.declared.request.Ask.{Ask}
use Rattle.vub_base.specs.declared.request.Ask.TheVariants.{Read, Write, Flush, Id, Discard, Zero}
use Rattle.vub_base.specs.declared.ring_fault.ChainFault.{ChainFault}
use Rattle.vub_shared.specs.Bytes.{Bytes}
use Rattle.vub_driver.specs.Requests.{Piece, pieces, write_flag}
use Rattle.vub_memtable.specs.declared.region.Mapped.{Mapped}
use Rattle.vub_memtable.specs.Tables.{guest_place}
use Rattle.vub_chain.specs.declared.spans.Span.{Span}
use Rattle.vub_chain.specs.declared.walk.Desc.{Desc}
use Rattle.vub_chain.specs.Descs.{Source, goes_on, is_writable, is_table, linked_desc, listed_from}
use Rattle.vub_chain.specs.Chains.{Limits, Link, all_listed, fault_at, first_fault, linked, linked_entries, linked_from, list_chain, listed, listed_entries, names_writable, positions, readable_span, source_in, source_of, span_at, split_chain, with_entries, writable_span}
use Rattle.vub_chain.proofs.WalkLemmas.{bytes_is, one_more, or_false, table_is}
use Rattle.vub_chain_laws.specs.Pieces.{AreMapped, Gives, IsPiece, LinkedAs, ListedAs, NamesTable, desc_of, is_mapped, numbers_from, readable_piece_span, writable_piece_span}

-- ---- links that hold pieces

abbrev pub AsPieces : List Link → List Piece → Type 0
AsPieces [] [] = ⊤
AsPieces (l ∷ ls) (p ∷ ps) = IsPiece l.desc p × (l.astray ≡ false) × AsPieces ls ps
AsPieces ls ps = ⊥

writes_last : (w : Bool) → (bit_at (write_flag w + 0) 1 == 1) ≡ w
writes_last true = refl
writes_last false = refl

bytes_last : (w : Bool) → (bit_at (write_flag w + 0) 2 == 1) ≡ false
bytes_last true = refl
bytes_last false = refl

ends_last : (w : Bool) → (bit_at (write_flag w + 0) 0 == 1) ≡ false
ends_last true = refl
ends_last false = refl

writes_on : (w : Bool) → (bit_at (write_flag w + 1) 1 == 1) ≡ w
writes_on true = refl
writes_on false = refl

bytes_on : (w : Bool) → (bit_at (write_flag w + 1) 2 == 1) ≡ false
bytes_on true = refl
bytes_on false = refl

goes : (w : Bool) → (bit_at (write_flag w + 1) 0 == 1) ≡ true
goes true = refl
goes false = refl

last_piece : (d : Desc) (p : Piece) → d ≡ desc_of p 0 0 → IsPiece d p
last_piece d p is = subst (λ (e : Desc). IsPiece e p) (sym is) (record { place = refl; len = refl; writable = writes_last p.writable; bytes = bytes_last p.writable })

linked_piece : (d : Desc) (p : Piece) (next : ℕ) → d ≡ desc_of p 1 next → IsPiece d p
linked_piece d p next is = subst (λ (e : Desc). IsPiece e p) (sym is) (record { place = refl; len = refl; writable = writes_on p.writable; bytes = bytes_on p.writable })

pub linked_as : (m : Bytes) (s : Source) (within : Bool) (d : ℕ) (ds : List ℕ) (ps : List Piece) (most : ℕ) → LinkedAs m s (d ∷ ds) ps → length ps ≤ most → AsPieces (linked_from within m s most d) ps
linked_as m s within d [] [] most fit few = absurd fit
linked_as m s within d (e ∷ ds) [] most fit few = absurd fit
linked_as m s within d [] (p ∷ q ∷ ps) most fit few = absurd fit
linked_as m s within d (e ∷ ds) (p ∷ []) most fit few = absurd fit
linked_as m s within d [] (p ∷ []) zero fit few = absurd (omega arith)
linked_as m s within d [] (p ∷ []) (suc most) fit few =
    let low : Bool = nat_lt (linked_desc m s d).next s.count in
    let stops : goes_on (linked_desc m s d) ≡ false = ap goes_on fit ∙ ends_last p.writable in
    let none : cond (goes_on (linked_desc m s d) && low) (linked_from within m s most (linked_desc m s d).next) [] ≡ [] = ap (λ (b : Bool). cond (b && low) (linked_from within m s most (linked_desc m s d).next) []) stops in
    (last_piece (linked_desc m s d) p fit, ap (λ (b : Bool). b && not low) stops, subst (λ (ls : List Link). AsPieces ls []) (sym none) tt)
linked_as m s within d (e ∷ ds) (p ∷ q ∷ ps) zero fit few = absurd (omega arith)
linked_as m s within d (e ∷ ds) (p ∷ q ∷ ps) (suc most) fit few =
    let on : goes_on (linked_desc m s d) ≡ true = ap goes_on fit.0 ∙ goes p.writable in
    let next_is : (linked_desc m s d).next ≡ e = ap (λ (x : Desc). x.next) fit.0 in
    let low : nat_lt (linked_desc m s d).next s.count ≡ true = (let l : e < s.count = fit.1 in grind (arith, nat_tests)) in
    let both : (goes_on (linked_desc m s d) && nat_lt (linked_desc m s d).next s.count) ≡ true = ap (λ (b : Bool). b && nat_lt (linked_desc m s d).next s.count) on ∙ low in
    let rest : cond (goes_on (linked_desc m s d) && nat_lt (linked_desc m s d).next s.count) (linked_from within m s most (linked_desc m s d).next) [] ≡ linked_from within m s most e
    = ap (λ (b : Bool). cond b (linked_from within m s most (linked_desc m s d).next) []) both ∙ ap (linked_from within m s most) next_is in
    let straight : (goes_on (linked_desc m s d) && not (nat_lt (linked_desc m s d).next s.count)) ≡ false = ap (λ (b : Bool). b && not (nat_lt (linked_desc m s d).next s.count)) on ∙ ap not low in
    (linked_piece (linked_desc m s d) p e fit.0, straight, subst (λ (ls : List Link). AsPieces ls (q ∷ ps)) (sym rest) (linked_as m s within e ds (q ∷ ps) most fit.2 (omega arith)))

pub listed_as : (within alone : Bool) (ds : List Desc) (ps : List Piece) → ListedAs ds ps → AsPieces (all_listed within alone ds) ps
listed_as within alone [] [] fit = tt
listed_as within alone (d ∷ ds) [] fit = absurd fit
listed_as within alone [] (p ∷ ps) fit = absurd fit
listed_as within alone (d ∷ ds) (p ∷ ps) fit = (fit.0, refl, listed_as within alone ds ps fit.1)

no_tables : (table : List Mapped) (entries : Option Source → List Link) (ls : List Link) (ps : List Piece) → AsPieces ls ps → with_entries table entries ls ≡ ls
no_tables table entries [] [] fit = refl
no_tables table entries (l ∷ ls) [] fit = absurd fit
no_tables table entries [] (p ∷ ps) fit = absurd fit
no_tables table entries (l ∷ ls) (p ∷ ps) fit =
    ap (λ (b : Bool). cond b (l ∷ entries (source_in table l.desc)) (l ∷ with_entries table entries ls)) fit.0.bytes
    ∙ ap (λ (ks : List Link). l ∷ ks) (no_tables table entries ls ps fit.2)

-- ---- no rule is broken

-- none is readable after a writable one
abbrev pub InOrder : Bool → List Piece → Type 0
InOrder turned [] = ⊤
InOrder turned (p ∷ ps) = ((not p.writable && turned) ≡ false) × InOrder (turned || p.writable) ps

none_by : (b c a : Bool) (f g h : ChainFault) → b ≡ false → c ≡ false → a ≡ false → ◌≡◌ {A = Option ChainFault} (option_or (cond b (Some f) (cond c (Some g) None)) (cond a (Some h) None)) None
none_by true c a f g h one two three = absurd cc
none_by false true a f g h one two three = absurd cc
none_by false false true f g h one two three = absurd cc
none_by false false false f g h one two three = refl

false_of : (b : Bool) → not b ≡ true → b ≡ false
false_of true h = absurd cc
false_of false h = refl

mapped_as : (table : List Mapped) (d : Desc) (p : Piece) → IsPiece d p → is_mapped table p ≡ true → (not (d.len == 0) && is_none (guest_place table d.addr d.len)) ≡ false
mapped_as table d p fit mapped =
    ap (λ (a : ℕ). not (d.len == 0) && is_none (guest_place table a d.len)) fit.place
    ∙ ap (λ (n : ℕ). not (n == 0) && is_none (guest_place table p.place n)) fit.len
    ∙ false_of (not (p.len == 0) && is_none (guest_place table p.place p.len)) mapped

ordered_as : (d : Desc) (p : Piece) (before turned : Bool) → IsPiece d p → before ≡ turned → (not p.writable && turned) ≡ false → (not (is_writable d) && before) ≡ false
ordered_as d p before turned fit same order = ap (λ (b : Bool). not (is_writable d) && b) same ∙ ap (λ (w : Bool). not w && turned) fit.writable ∙ order

turned_as : (before : List Link) (l : Link) (p : Piece) (turned : Bool) → IsPiece l.desc p → list_any names_writable before ≡ turned → list_any names_writable (before ++ l ∷ []) ≡ (turned || p.writable)
turned_as before l p turned fit same =
    list_any-append names_writable before (l ∷ [])
    ∙ ap (λ (b : Bool). list_any names_writable before || b) (or_false (names_writable l))
    ∙ ap (λ (b : Bool). b || names_writable l) same
    ∙ ap (λ (b : Bool). turned || (not b && is_writable l.desc)) fit.bytes
    ∙ ap (λ (w : Bool). turned || w) fit.writable

no_fault : (x : Limits) (before : List Link) (ls : List Link) (ps : List Piece) (turned : Bool) → AsPieces ls ps → positions before + length ps ≤ x.size → AreMapped x.table ps → list_any names_writable before ≡ turned → InOrder turned ps
    → first_fault x before ls ≡ None
no_fault x before [] [] turned fit few mapped same order = refl
no_fault x before (l ∷ ls) [] turned fit few mapped same order = absurd fit
no_fault x before [] (p ∷ ps) turned fit few mapped same order = absurd fit
no_fault x before (l ∷ ls) (p ∷ ps) turned fit few mapped same order =
    let here : fault_at x before l ≡ None =
    bytes_is x before l (omega arith) fit.0.bytes
    ∙ none_by (not (is_writable l.desc) && list_any names_writable before) (not (l.desc.len == 0) && is_none (guest_place x.table l.desc.addr l.desc.len)) l.astray _ _ _ (ordered_as l.desc p (list_any names_writable before) turned fit.0 same order.0) (mapped_as x.table l.desc p fit.0 mapped.0) fit.1 in
    ap (λ (o : Option ChainFault). option_or o (first_fault x (before ++ l ∷ []) ls)) here
    ∙ no_fault x (before ++ l ∷ []) ls ps (turned || p.writable) fit.2 (omega (arith, one_more x before l fit.0.bytes)) mapped.1 (turned_as before l p turned fit.0 same) order.1

-- ---- the spans are those of the pieces

readable_by : (b w v : Bool) (s t : Option Span) → b ≡ false → w ≡ v → s ≡ t → cond (not b && not w) s None ≡ cond v None t
readable_by true w v s t one two three = absurd cc
readable_by false true true s t one two three = refl
readable_by false true false s t one two three = absurd cc
readable_by false false true s t one two three = absurd cc
readable_by false false false s t one two three = three

writable_by : (b w v : Bool) (s t : Option Span) → b ≡ false → w ≡ v → s ≡ t → cond (not b && w) s None ≡ cond v t None
writable_by true w v s t one two three = absurd cc
writable_by false true true s t one two three = three
writable_by false true false s t one two three = absurd cc
writable_by false false true s t one two three = absurd cc
writable_by false false false s t one two three = refl

span_as : (table : List Mapped) (d : Desc) (p : Piece) → IsPiece d p
    → ◌≡◌ {A = Option Span} (cond (d.len == 0) None (option_map (span_at d.len) (guest_place table d.addr d.len))) (cond (p.len == 0) None (option_map (span_at p.len) (guest_place table p.place p.len)))
span_as table d p fit =
    ap (λ (a : ℕ). cond {A = Option Span} (d.len == 0) None (option_map (span_at d.len) (guest_place table a d.len))) fit.place
    ∙ ap (λ (n : ℕ). cond {A = Option Span} (n == 0) None (option_map (span_at n) (guest_place table p.place n))) fit.len

readable_as : (table : List Mapped) (ls : List Link) (ps : List Piece) → AsPieces ls ps → filter_map (readable_span table) ls ≡ filter_map (readable_piece_span table) ps
readable_as table [] [] fit = refl
readable_as table (l ∷ ls) [] fit = absurd fit
readable_as table [] (p ∷ ps) fit = absurd fit
readable_as table (l ∷ ls) (p ∷ ps) fit =
    ap (λ (o : Option Span). cons_option o (filter_map (readable_span table) ls)) (readable_by (is_table l.desc) (is_writable l.desc) p.writable _ _ fit.0.bytes fit.0.writable (span_as table l.desc p fit.0))
    ∙ ap (cons_option (readable_piece_span table p)) (readable_as table ls ps fit.2)

writable_as : (table : List Mapped) (ls : List Link) (ps : List Piece) → AsPieces ls ps → filter_map (writable_span table) ls ≡ filter_map (writable_piece_span table) ps
writable_as table [] [] fit = refl
writable_as table (l ∷ ls) [] fit = absurd fit
writable_as table [] (p ∷ ps) fit = absurd fit
writable_as table (l ∷ ls) (p ∷ ps) fit =
    ap (λ (o : Option Span). cons_option o (filter_map (writable_span table) ls)) (writable_by (is_table l.desc) (is_writable l.desc) p.writable _ _ fit.0.bytes fit.0.writable (span_as table l.desc p fit.0))
    ∙ ap (cons_option (writable_piece_span table p)) (writable_as table ls ps fit.2)

pub gives : (x : Limits) (ls : List Link) (ps : List Piece) → AsPieces ls ps → length ps ≤ x.size → AreMapped x.table ps → InOrder false ps → Gives x ls ps
gives x ls ps fit few mapped order = record {
  sound = no_fault x [] ls ps false fit (omega arith) mapped refl order;
  readable = readable_as x.table ls ps fit;
  writable = writable_as x.table ls ps fit;
}

-- ---- after a descriptor that names a table

table_none : (ind go within alone bad far : Bool) (f g h i j k : ChainFault) → ind ≡ true → go ≡ false → within ≡ false → alone ≡ true → bad ≡ false → far ≡ false
    → ◌≡◌ {A = Option ChainFault} (cond (not ind) (Some f) (cond go (Some g) (cond within (Some h) (cond (not alone) (Some i) (cond bad (Some j) (cond far (Some k) None)))))) None
table_none false go within alone bad far f g h i j k a b c d e o = absurd cc
table_none true true within alone bad far f g h i j k a b c d e o = absurd cc
table_none true false true alone bad far f g h i j k a b c d e o = absurd cc
table_none true false false false bad far f g h i j k a b c d e o = absurd cc
table_none true false false true true far f g h i j k a b c d e o = absurd cc
table_none true false false true false true f g h i j k a b c d e o = absurd cc
table_none true false false true false false f g h i j k a b c d e o = refl

or_falses : (a b : Bool) → a ≡ false → b ≡ false → (a || b) ≡ false
or_falses true b h g = absurd cc
or_falses false b h g = g

found_by : (d : Desc) (o : Option (ℕ × ℕ)) (s : Source) → option_map (source_of d) o ≡ Some s → is_none o ≡ false
found_by d None s found = absurd (none-some s found)
found_by d (Some y) s found = refl

count_by : (d : Desc) (o : Option (ℕ × ℕ)) (s : Source) → option_map (source_of d) o ≡ Some s → s.count ≡ d.len / 16
count_by d None s found = absurd (none-some s found)
count_by d (Some y) s found = sym (ap (λ (z : Option Source). (unwrap_or z s).count) found)

count_is : (table : List Mapped) (d : Desc) (count : ℕ) (s : Source) → NamesTable table d count s → s.count ≡ count
count_is table d count s n = let whole : d.len ≡ 16 * count = n.len in let c : s.count ≡ d.len / 16 = count_by d (guest_place table d.addr d.len) s n.mapped in omega (arith, whole, c)

named_none : (x : Limits) (l : Link) (count : ℕ) (s : Source) → x.indirect ≡ true → l.within ≡ false → l.alone ≡ true → NamesTable x.table l.desc count s → 0 < x.size → fault_at x [] l ≡ None
named_none x l count s indirect within alone n some =
    let whole : l.desc.len ≡ 16 * count = n.len in
    let one : 0 < count = n.some in
    let filled : (l.desc.len == 0) ≡ false = grind (arith, nat_tests) in
    let rest : l.desc.len % 16 ≡ 0 = omega (arith, whole) in
    let even : not (l.desc.len % 16 == 0) ≡ false = grind (arith, nat_tests) in
    table_is x [] l some n.names
    ∙ table_none x.indirect (goes_on l.desc) l.within l.alone (l.desc.len == 0 || not (l.desc.len % 16 == 0)) (is_none (guest_place x.table l.desc.addr l.desc.len)) _ _ _ _ _ _ indirect n.last within alone (or_falses (l.desc.len == 0) (not (l.desc.len % 16 == 0)) filled even) (found_by l.desc (guest_place x.table l.desc.addr l.desc.len) s n.mapped)

pub gives_named : (x : Limits) (l : Link) (entries : List Link) (ps : List Piece) (count : ℕ) (s : Source) → x.indirect ≡ true → l.within ≡ false → l.alone ≡ true → NamesTable x.table l.desc count s → 0 < length ps
    → AsPieces entries ps → length ps ≤ x.size → AreMapped x.table ps → InOrder false ps → Gives x (l ∷ entries) ps
gives_named x l entries ps count s indirect within alone n some fit few mapped order =
    let none : positions (l ∷ []) ≡ 0 = ap (λ (b : Bool). length (cond {A = List Link} (not b) (l ∷ []) [])) n.names in
    let unturned : list_any names_writable (l ∷ []) ≡ false = ap (λ (b : Bool). (not b && is_writable l.desc) || false) n.names in
    record {
      sound = ap (λ (o : Option ChainFault). option_or o (first_fault x (l ∷ []) entries)) (named_none x l count s indirect within alone n (omega arith)) ∙ no_fault x (l ∷ []) entries ps false fit (omega (arith, none)) mapped unturned order;
      readable = ap (λ (b : Bool). cons_option (cond (not b && not (is_writable l.desc)) (Rattle.vub_chain.specs.Chains.span_of x.table l.desc) None) (filter_map (readable_span x.table) entries)) n.names ∙ readable_as x.table entries ps fit;
      writable = ap (λ (b : Bool). cons_option (cond (not b && is_writable l.desc) (Rattle.vub_chain.specs.Chains.span_of x.table l.desc) None) (filter_map (writable_span x.table) entries)) n.names ∙ writable_as x.table entries ps fit;
    }

first_names : (table : List Mapped) (entries : Option Source → List Link) (m : Bytes) (s : Source) (most i : ℕ) → 0 < most → is_table (linked_desc m s i) ≡ true
    → with_entries table entries (linked_from false m s most i) ≡ linked false s (linked_desc m s i) ∷ entries (source_in table (linked_desc m s i))
first_names table entries m s zero i some names = absurd (omega arith)
first_names table entries m s (suc most) i some names =
    ap (λ (b : Bool). cond {A = List Link} b (linked false s (linked_desc m s i) ∷ entries (source_in table (linked_desc m s i))) (linked false s (linked_desc m s i) ∷ with_entries table entries (cond (goes_on (linked_desc m s i) && nat_lt (linked_desc m s i).next s.count) (linked_from false m s most (linked_desc m s i).next) []))) names

from_first : (m : Bytes) (s : Source) (n i : ℕ) (ps : List Piece) (most : ℕ) → 0 < n → LinkedAs m s (numbers_from n i) ps → length ps ≤ most → AsPieces (linked_from true m s most i) ps
from_first m s zero i ps most some fit few = absurd (omega arith)
from_first m s (suc n) i ps most some fit few = linked_as m s true i (numbers_from n (i + 1)) ps most fit few

-- ---- the driver's requests

pub in_order : (buffer : ℕ) (ask : Ask) → InOrder false (pieces buffer ask)
in_order buffer (Read s n) = (refl, (refl, (refl, tt)))
in_order buffer (Write s fills) = (refl, (refl, (refl, tt)))
in_order buffer Flush = (refl, (refl, tt))
in_order buffer Id = (refl, (refl, (refl, tt)))
in_order buffer (Discard parts) = (refl, (refl, (refl, tt)))
in_order buffer (Zero parts) = (refl, (refl, (refl, tt)))

pub split_direct : (x : Limits) (m : Bytes) (space place head : ℕ) (ds : List ℕ) (ps : List Piece) → LinkedAs m (record { space = space; place = place; count = x.size }) (head ∷ ds) ps → length ps ≤ x.size → AreMapped x.table ps → InOrder false ps
    → Gives x (split_chain x m space place head) ps
split_direct x m space place head ds ps fit few mapped order =
    let s : Source = record { space = space; place = place; count = x.size } in
    let links : List Link = linked_from false m s (x.size + 1) head in
    let held : AsPieces links ps = linked_as m s false head ds ps (x.size + 1) fit (omega arith) in
    subst (λ (ls : List Link). Gives x ls ps) (sym (no_tables x.table (linked_entries x m) links ps held)) (gives x links ps held few mapped order)

pub list_direct : (x : Limits) (m : Bytes) (ds : List Desc) (ps : List Piece) → ListedAs ds ps → length ps ≤ x.size → AreMapped x.table ps → InOrder false ps → Gives x (list_chain x m ds) ps
list_direct x m ds ps fit few mapped order =
    let links : List Link = all_listed false (length ds == 1) ds in
    let held : AsPieces links ps = listed_as false (length ds == 1) ds ps fit in
    subst (λ (ls : List Link). Gives x ls ps) (sym (no_tables x.table (listed_entries m) links ps held)) (gives x links ps held few mapped order)

pub split_indirect : (x : Limits) (m : Bytes) (space place head : ℕ) (s : Source) (ps : List Piece) → x.indirect ≡ true → NamesTable x.table (linked_desc m (record { space = space; place = place; count = x.size }) head) (length ps) s
    → LinkedAs m s (numbers_from (length ps) 0) ps → length ps ≤ x.size → AreMapped x.table ps → InOrder false ps → Gives x (split_chain x m space place head) ps
split_indirect x m space place head s ps indirect n fit few mapped order =
    let r : Source = record { space = space; place = place; count = x.size } in
    let some : 0 < length ps = n.some in
    let count : s.count ≡ length ps = count_is x.table (linked_desc m r head) (length ps) s n in
    let filled : (s.count == 0) ≡ false = grind (arith, nat_tests) in
    let entries : List Link = linked_from true m s (x.size + 1) 0 in
    let held : AsPieces entries ps = from_first m s (length ps) 0 ps (x.size + 1) some fit (omega arith) in
    let chain : split_chain x m space place head ≡ linked false r (linked_desc m r head) ∷ entries =
    first_names x.table (linked_entries x m) m r (x.size + 1) head (omega arith) n.names
    ∙ ap (λ (o : Option Source). linked false r (linked_desc m r head) ∷ linked_entries x m o) n.mapped
    ∙ ap (λ (b : Bool). linked false r (linked_desc m r head) ∷ cond {A = List Link} b [] entries) filled in
    subst (λ (ls : List Link). Gives x ls ps) (sym chain) (gives_named x (linked false r (linked_desc m r head)) entries ps (length ps) s indirect refl refl n some held few mapped order)

pub list_indirect : (x : Limits) (m : Bytes) (d : Desc) (s : Source) (ps : List Piece) → x.indirect ≡ true → NamesTable x.table d (length ps) s → ListedAs (listed_from m s (length ps) 0) ps → length ps ≤ x.size → AreMapped x.table ps → InOrder false ps
    → Gives x (list_chain x m (d ∷ [])) ps
list_indirect x m d s ps indirect n fit few mapped order =
    let some : 0 < length ps = n.some in
    let count : s.count ≡ length ps = count_is x.table d (length ps) s n in
    let l : Link = listed false true d in
    let entries : List Link = all_listed true true (listed_from m s s.count 0) in
    let same : ListedAs (listed_from m s s.count 0) ps = subst (λ (k : ℕ). ListedAs (listed_from m s k 0) ps) (sym count) fit in
    let chain : list_chain x m (d ∷ []) ≡ l ∷ entries =
    ap (λ (b : Bool). cond {A = List Link} b (l ∷ listed_entries m (source_in x.table d)) (l ∷ [])) n.names
    ∙ ap (λ (o : Option Source). l ∷ listed_entries m o) n.mapped in
    subst (λ (ls : List Link). Gives x ls ps) (sym chain) (gives_named x l entries ps (length ps) s indirect refl refl n some (listed_as true true (listed_from m s s.count 0) ps same) few mapped order)
