-- The walk, part by part, finds what the rules say of its chain.
use Rattle.std.proofs.Common.{◌≡◌, ◌≤◌, ◌<◌, ℕ, zero, suc, ◌+◌, ◌-◌, ◌/◌, ◌%◌, Bool, true, false, cond, not, ◌&&◌, ◌||◌, List, [], ◌∷◌, ◌++◌, length, refl, ap, sym, ◌∙◌, subst, inl, inr, arith}
use Rattle.std.specs.Prelude.{◌==◌, nat_le, nat_lt, filter, Option, Some, None, option_map, is_none, Result, Ok, Err}
use Rattle.std.specs.List.{filter_map, list_any, cons_option}
use Rattle.std.specs.Option.{option_or}
use Rattle.std.proofs.lemmas.Bool.{cases_Bool}
use Rattle.std.proofs.lemmas.Bool.Decides.{nat_tests}
use Rattle.std.proofs.lemmas.List.{append-nil, append_assoc}
use Rattle.std.proofs.lemmas.List.Elements.{filter-append, filter_map-append}
use Rattle.std.proofs.lemmas.List.Folds.{list_any-append}
use Rattle.vub_base.specs.declared.ring_fault.ChainFault.{ChainFault}
use Rattle.vub_base.specs.declared.ring_fault.ChainFault.TheVariants as faults
use Rattle.vub_shared.specs.Bytes.{Bytes}
use Rattle.vub_memtable.specs.declared.region.Mapped.{Mapped}
use Rattle.vub_memtable.specs.Tables.{guest_place}
use Rattle.vub_chain.specs.declared.spans.Span.{Span}
use Rattle.vub_chain.specs.declared.walk.Desc.{Desc}
use Rattle.vub_chain.specs.Descs.{Source, goes_on, is_writable, is_table, linked_desc, listed_from}
use Rattle.vub_chain.specs.Spans.{SpanLists}
use Rattle.vub_chain.specs.Chains.{Limits, Link, Finds, Walks, all_listed, fault_at, first_broken, first_fault, is_unmapped, linked, linked_entries, linked_from, list_chain, listed, listed_entries, names_bytes, names_writable, positions, readable_span, rules_of, source_in, source_of, span_at, split_chain, with_entries, writable_span}
use Rattle.vub_chain.specs.Steps.{Answers, Chain, Walked, in_ring, in_table, list_walk, named, of_list, of_table, plain, split_walk, then_walk, to_next, with_place, with_table}

-- ---- what was found along a chain

abbrev pub chain_of : List Mapped → List Link → Chain
chain_of table ds = record { readable = filter_map (readable_span table) ds; writable = filter_map (writable_span table) ds; turned = list_any names_writable ds }

-- a fault, or else that walk
abbrev pub either : Option ChainFault → Walked → Walked
either None w = w
either (Some e) w = Err e

-- what a walk finds in these descriptors, after those before them
abbrev pub rest_of : Limits → List Link → List Link → Walked
rest_of x before ds = either (first_fault x before ds) (Ok (chain_of x.table (before ++ ds)))

cons_by : (f g : Option ChainFault) (v w : Walked) → v ≡ w → either (option_or f g) v ≡ either f (either g w)
cons_by None g v w same = ap (either g) same
cons_by (Some e) g v w same = refl

-- by the first of them
pub rest_cons : (x : Limits) (before : List Link) (d : Link) (ds : List Link) → rest_of x before (d ∷ ds) ≡ either (fault_at x before d) (rest_of x (before ++ d ∷ []) ds)
rest_cons x before d ds =
    cons_by (fault_at x before d) (first_fault x (before ++ d ∷ []) ds) (Ok (chain_of x.table (before ++ d ∷ ds))) (Ok (chain_of x.table ((before ++ d ∷ []) ++ ds)))
    (ap (λ (ls : List Link). Ok (chain_of x.table ls)) (sym (append_assoc before (d ∷ []) ds)))

rest_nil : (x : Limits) (before : List Link) → rest_of x before [] ≡ Ok (chain_of x.table before)
rest_nil x before = ap (λ (ls : List Link). Ok (chain_of x.table ls)) (append-nil before)

-- ---- one more descriptor

length_by : (b : Bool) (ls : List Link) (d : Link) → length (ls ++ cond b (d ∷ []) []) ≡ length ls + cond b 1 0
length_by true [] d = refl
length_by false [] d = refl
length_by b (l ∷ ls) d = omega (arith, length_by b ls d)

positions_push : (before : List Link) (d : Link) → positions (before ++ d ∷ []) ≡ positions before + cond (names_bytes d) 1 0
positions_push before d = ap length (filter-append names_bytes before (d ∷ [])) ∙ length_by (names_bytes d) (filter names_bytes before) d

pub or_false : (b : Bool) → (b || false) ≡ b
or_false true = refl
or_false false = refl

pub chain_push : (table : List Mapped) (before : List Link) (d : Link)
    → chain_of table (before ++ d ∷ []) ≡ record { readable = filter_map (readable_span table) before ++ cons_option (readable_span table d) []; writable = filter_map (writable_span table) before ++ cons_option (writable_span table d) []; turned = list_any names_writable before || names_writable d }
chain_push table before d =
    let last : list_any names_writable (before ++ d ∷ []) ≡ (list_any names_writable before || names_writable d) = list_any-append names_writable before (d ∷ []) ∙ ap (λ (b : Bool). list_any names_writable before || b) (or_false (names_writable d)) in
    ap (λ (r : List Span). made r (filter_map (writable_span table) (before ++ d ∷ [])) (list_any names_writable (before ++ d ∷ []))) (filter_map-append (readable_span table) before (d ∷ []))
    ∙ ap (λ (w : List Span). made (filter_map (readable_span table) before ++ cons_option (readable_span table d) []) w (list_any names_writable (before ++ d ∷ []))) (filter_map-append (writable_span table) before (d ∷ []))
    ∙ ap (made (filter_map (readable_span table) before ++ cons_option (readable_span table d) []) (filter_map (writable_span table) before ++ cons_option (writable_span table d) [])) last
  where
    made : List Span → List Span → Bool → Chain
    made r w t = record { readable = r; writable = w; turned = t }

-- ---- one that names bytes

-- the rules on order and mapping
abbrev pub plain_fault : Limits → List Link → Link → Option ChainFault
plain_fault x before d = cond (not (is_writable d.desc) && list_any names_writable before) (Some (faults.BadOrder (positions before))) (cond (not (d.desc.len == 0) && is_none (guest_place x.table d.desc.addr d.desc.len)) (Some (faults.Unmapped d.desc.addr)) None)

kept : (r w : List Span) (t : Bool) → ◌≡◌ {A = Chain} (record { readable = r; writable = w; turned = t }) (record { readable = r ++ []; writable = w ++ []; turned = t })
kept r w t = ap (λ (s : List Span). record { readable = s; writable = w; turned = t }) (sym (append-nil r)) ∙ ap (λ (s : List Span). record { readable = r ++ []; writable = s; turned = t }) (sym (append-nil w))

read : (r w : List Span) (s : Span) → ◌≡◌ {A = Chain} (record { readable = r ++ s ∷ []; writable = w; turned = false }) (record { readable = r ++ s ∷ []; writable = w ++ []; turned = false })
read r w s = ap (λ (v : List Span). record { readable = r ++ s ∷ []; writable = v; turned = false }) (sym (append-nil w))

written : (r w : List Span) (s : Span) → ◌≡◌ {A = Chain} (record { readable = r; writable = w ++ s ∷ []; turned = true }) (record { readable = r ++ []; writable = w ++ s ∷ []; turned = true })
written r w s = ap (λ (v : List Span). record { readable = v; writable = w ++ s ∷ []; turned = true }) (sym (append-nil r))

plain_by : (b w t z : Bool) (o : Option (ℕ × ℕ)) (p addr len : ℕ) (r ws : List Span) → b ≡ false
    → cond {A = Walked} (not w && t) (Err (faults.BadOrder p)) (cond z (Ok (record { readable = r; writable = ws; turned = t || w })) (with_place w addr len o (record { readable = r; writable = ws; turned = t })))
    ≡ either (cond (not w && t) (Some (faults.BadOrder p)) (cond (not z && is_none o) (Some (faults.Unmapped addr)) None))
    (Ok (record { readable = r ++ cons_option (cond (not b && not w) (cond z None (option_map (span_at len) o)) None) []; writable = ws ++ cons_option (cond (not b && w) (cond z None (option_map (span_at len) o)) None) []; turned = t || (not b && w) }))
plain_by true w t z o p addr len r ws h = absurd cc
plain_by false false true z o p addr len r ws h = refl
plain_by false false false true o p addr len r ws h = ap (λ (c : Chain). Ok c) (kept r ws false)
plain_by false false false false None p addr len r ws h = refl
plain_by false false false false (Some x) p addr len r ws h = ap (λ (c : Chain). Ok c) (read r ws (span_at len x))
plain_by false true t true o p addr len r ws h = ap (λ (c : Chain). Ok c) (kept r ws (t || true))
plain_by false true t false None p addr len r ws h = refl
plain_by false true true false (Some x) p addr len r ws h = ap (λ (c : Chain). Ok c) (written r ws (span_at len x))
plain_by false true false false (Some x) p addr len r ws h = ap (λ (c : Chain). Ok c) (written r ws (span_at len x))

pub plain_is : (x : Limits) (before : List Link) (d : Link) → is_table d.desc ≡ false → plain x.table (positions before) d.desc (chain_of x.table before) ≡ either (plain_fault x before d) (Ok (chain_of x.table (before ++ d ∷ [])))
plain_is x before d bytes =
    plain_by (is_table d.desc) (is_writable d.desc) (list_any names_writable before) (d.desc.len == 0) (guest_place x.table d.desc.addr d.desc.len) (positions before) d.desc.addr d.desc.len (filter_map (readable_span x.table) before) (filter_map (writable_span x.table) before) bytes
    ∙ ap (λ (c : Chain). either (plain_fault x before d) (Ok c)) (sym (chain_push x.table before d))

-- ---- the first rule that is broken

or_cond : (b c : Bool) (f g : ChainFault) (o : Option ChainFault) → cond {A = Option ChainFault} b (Some f) (cond c (Some g) o) ≡ option_or (cond b (Some f) (cond c (Some g) None)) o
or_cond true c f g o = refl
or_cond false true f g o = refl
or_cond false false f g o = refl

full_by : (full : Bool) (rs : List (Bool × ChainFault)) → full ≡ true → first_broken ((full, faults.Loop) ∷ rs) ≡ Some faults.Loop
full_by true rs h = refl
full_by false rs h = absurd cc

abbrev nine : Bool → Bool → Bool → Bool → Bool → Bool → Bool → Bool → Bool → Bool → Bool → Bool → ℕ → ℕ → ℕ → List (Bool × ChainFault)
nine full b ind go within alone z m w t n a p addr next =
    (full, faults.Loop)
    ∷ (b && not ind, faults.BadIndirect p)
    ∷ (b && go, faults.BadIndirect p)
    ∷ (b && within, faults.BadIndirect p)
    ∷ (b && not alone, faults.BadIndirect p)
    ∷ (b && (z || not m), faults.BadIndirect p)
    ∷ (not b && not w && t, faults.BadOrder p)
    ∷ ((b || not z) && n, faults.Unmapped addr)
    ∷ (not b && a, faults.BadIndex next)
    ∷ []

bytes_by : (full b ind go within alone z m w t n a : Bool) (p addr next : ℕ) → full ≡ false → b ≡ false
    → first_broken (nine full b ind go within alone z m w t n a p addr next)
    ≡ option_or (cond (not w && t) (Some (faults.BadOrder p)) (cond (not z && n) (Some (faults.Unmapped addr)) None)) (cond a (Some (faults.BadIndex next)) None)
bytes_by true b ind go within alone z m w t n a p addr next h g = absurd cc
bytes_by false true ind go within alone z m w t n a p addr next h g = absurd cc
bytes_by false false ind go within alone z m w t n a p addr next h g = or_cond (not w && t) (not z && n) (faults.BadOrder p) (faults.Unmapped addr) (cond a (Some (faults.BadIndex next)) None)

table_by : (full b ind go within alone z m w t n a : Bool) (p addr next : ℕ) → full ≡ false → b ≡ true
    → first_broken (nine full b ind go within alone z m w t n a p addr next)
    ≡ cond (not ind) (Some (faults.BadIndirect p)) (cond go (Some (faults.BadIndirect p)) (cond within (Some (faults.BadIndirect p)) (cond (not alone) (Some (faults.BadIndirect p)) (cond (z || not m) (Some (faults.BadIndirect p)) (cond n (Some (faults.Unmapped addr)) None)))))
table_by true b ind go within alone z m w t n a p addr next h g = absurd cc
table_by false false ind go within alone z m w t n a p addr next h g = absurd cc
table_by false true ind go within alone z m w t n a p addr next h g = refl

-- the rules after the first
abbrev later_rules : Limits → List Link → Link → ℕ → List (Bool × ChainFault)
later_rules x before c position =
    (is_table c.desc && not x.indirect, faults.BadIndirect position)
    ∷ (is_table c.desc && goes_on c.desc, faults.BadIndirect position)
    ∷ (is_table c.desc && c.within, faults.BadIndirect position)
    ∷ (is_table c.desc && not c.alone, faults.BadIndirect position)
    ∷ (is_table c.desc && (c.desc.len == 0 || not (c.desc.len % 16 == 0)), faults.BadIndirect position)
    ∷ (names_bytes c && not (is_writable c.desc) && list_any names_writable before, faults.BadOrder position)
    ∷ (is_unmapped x.table c.desc, faults.Unmapped c.desc.addr)
    ∷ (names_bytes c && c.astray, faults.BadIndex c.desc.next)
    ∷ []

pub full_is : (x : Limits) (before : List Link) (d : Link) → x.size ≤ positions before → fault_at x before d ≡ Some faults.Loop
full_is x before d full = full_by (nat_le x.size (positions before)) (later_rules x before d (positions before)) (grind (arith, nat_tests))

pub bytes_is : (x : Limits) (before : List Link) (d : Link) → positions before < x.size → is_table d.desc ≡ false → fault_at x before d ≡ option_or (plain_fault x before d) (cond d.astray (Some (faults.BadIndex d.desc.next)) None)
bytes_is x before d below bytes =
    bytes_by (nat_le x.size (positions before)) (is_table d.desc) x.indirect (goes_on d.desc) d.within d.alone (d.desc.len == 0) (d.desc.len % 16 == 0) (is_writable d.desc) (list_any names_writable before) (is_none (guest_place x.table d.desc.addr d.desc.len)) d.astray (positions before) d.desc.addr d.desc.next (grind (arith, nat_tests)) bytes

-- the rules on a descriptor that names a table, after those on where it stands
abbrev pub table_rest : Limits → List Link → Link → Option ChainFault
table_rest x before d =
    cond (not d.alone) (Some (faults.BadIndirect (positions before))) (cond (d.desc.len == 0 || not (d.desc.len % 16 == 0)) (Some (faults.BadIndirect (positions before))) (cond (is_none (guest_place x.table d.desc.addr d.desc.len)) (Some (faults.Unmapped d.desc.addr)) None))

abbrev pub table_fault : Limits → List Link → Link → Option ChainFault
table_fault x before d =
    cond (not x.indirect) (Some (faults.BadIndirect (positions before))) (cond (goes_on d.desc) (Some (faults.BadIndirect (positions before))) (cond d.within (Some (faults.BadIndirect (positions before))) (table_rest x before d)))

pub table_is : (x : Limits) (before : List Link) (d : Link) → positions before < x.size → is_table d.desc ≡ true → fault_at x before d ≡ table_fault x before d
table_is x before d below table =
    table_by (nat_le x.size (positions before)) (is_table d.desc) x.indirect (goes_on d.desc) d.within d.alone (d.desc.len == 0) (d.desc.len % 16 == 0) (is_writable d.desc) (list_any names_writable before) (is_none (guest_place x.table d.desc.addr d.desc.len)) d.astray (positions before) d.desc.addr d.desc.next (grind (arith, nat_tests)) table

-- ---- steps of a walk

-- on from one that names bytes, in a table where they are linked
link_by : (f : Option ChainFault) (go low : Bool) (next : ℕ) (c : Chain) (k : ℕ → Chain → Walked) (R : List Link → Walked) (rest : List Link) → (low ≡ true → k next c ≡ R rest) → Ok c ≡ R []
    → then_walk (either f (Ok c)) (λ (v : Chain). cond go (cond low (k next v) (Err (faults.BadIndex next))) (Ok v)) ≡ either (option_or f (cond (go && not low) (Some (faults.BadIndex next)) None)) (R (cond (go && low) rest []))
link_by (Some e) go low next c k R rest more none = refl
link_by None false low next c k R rest more none = none
link_by None true false next c k R rest more none = refl
link_by None true true next c k R rest more none = more refl

-- and in a list
list_by : (f : Option ChainFault) (c : Chain) (k : Chain → Walked) → then_walk (either f (Ok c)) k ≡ either (option_or f None) (k c)
list_by (Some e) c k = refl
list_by None c k = refl

-- one that names a table where it may not
within_by : (ind go : Bool) (o : Option ChainFault) (p : ℕ) (w : Walked) → Err (faults.BadIndirect p) ≡ either (cond (not ind) (Some (faults.BadIndirect p)) (cond go (Some (faults.BadIndirect p)) (cond true (Some (faults.BadIndirect p)) o))) w
within_by false go o p w = refl
within_by true true o p w = refl
within_by true false o p w = refl

-- and where it may
named_by : (ind go within alone z m : Bool) (o : Option (ℕ × ℕ)) (p : ℕ) (d : Desc) (k : Source → Walked) (R : Option Source → Walked) → within ≡ false → ((y : ℕ × ℕ) → z ≡ false → m ≡ true → k (source_of d y) ≡ R (Some (source_of d y)))
    → cond {A = Walked} (ind && not go && alone && not z && m) (with_table d o k) (Err (faults.BadIndirect p))
    ≡ either (cond (not ind) (Some (faults.BadIndirect p)) (cond go (Some (faults.BadIndirect p)) (cond within (Some (faults.BadIndirect p)) (cond (not alone) (Some (faults.BadIndirect p)) (cond (z || not m) (Some (faults.BadIndirect p)) (cond (is_none o) (Some (faults.Unmapped d.addr)) None))))))
    (R (option_map (source_of d) o))
named_by ind go true alone z m o p d k R out on = absurd cc
named_by false go false alone z m o p d k R out on = refl
named_by true true false alone z m o p d k R out on = refl
named_by true false false false z m o p d k R out on = refl
named_by true false false true true m o p d k R out on = refl
named_by true false false true false false o p d k R out on = refl
named_by true false false true false true None p d k R out on = refl
named_by true false false true false true (Some x) p d k R out on = on x refl refl

pub one_more : (x : Limits) (before : List Link) (d : Link) → is_table d.desc ≡ false → positions (before ++ d ∷ []) ≡ positions before + 1
one_more x before d bytes = positions_push before d ∙ ap (λ (b : Bool). positions before + cond (not b) 1 0) bytes

no_more : (before : List Link) (d : Link) → is_table d.desc ≡ true → positions (before ++ d ∷ []) ≡ positions before
no_more before d table = positions_push before d ∙ ap (λ (b : Bool). positions before + cond (not b) 1 0) table ∙ (let e : positions before + 0 ≡ positions before = omega arith in e)

-- a descriptor that names a table adds no span
unturned : (b w : Bool) (table : List Mapped) (o p : Option Span) (r ws : List Span) (t : Bool) → b ≡ true
    → ◌≡◌ {A = Chain} (record { readable = r ++ cons_option (cond (not b && not w) o None) []; writable = ws ++ cons_option (cond (not b && w) p None) []; turned = t || (not b && w) }) (record { readable = r; writable = ws; turned = t })
unturned false w table o p r ws t h = absurd cc
unturned true w table o p r ws true h = sym (kept r ws true)
unturned true w table o p r ws false h = sym (kept r ws false)

same_chain : (table : List Mapped) (before : List Link) (d : Link) → is_table d.desc ≡ true → chain_of table (before ++ d ∷ []) ≡ chain_of table before
same_chain table before d names =
    chain_push table before d
    ∙ unturned (is_table d.desc) (is_writable d.desc) table (Rattle.vub_chain.specs.Chains.span_of table d.desc) (Rattle.vub_chain.specs.Chains.span_of table d.desc) (filter_map (readable_span table) before) (filter_map (writable_span table) before) (list_any names_writable before) names

-- ---- linked chains

-- a table that may be named has entries
has_entries : (d : Desc) → (d.len == 0) ≡ false → (d.len % 16 == 0) ≡ true → (d.len / 16 == 0) ≡ false
has_entries d some whole =
    let positive : 0 < d.len = grind (arith, nat_tests) in
    let even : d.len % 16 ≡ 0 = grind (arith, nat_tests) in
    let one : 0 < d.len / 16 = omega (arith, positive, even) in
    grind (arith, nat_tests)

-- that fault ends what is found
ends : (x : Limits) (before : List Link) (d : Link) (ds : List Link) (f : Option ChainFault) → fault_at x before d ≡ f → rest_of x before (d ∷ ds) ≡ either f (rest_of x (before ++ d ∷ []) ds)
ends x before d ds f is = rest_cons x before d ds ∙ ap (λ (o : Option ChainFault). either o (rest_of x (before ++ d ∷ []) ds)) is

pub in_table_is : (x : Limits) (m : Bytes) (s : Source) (left i most : ℕ) (before : List Link) → left + positions before ≡ x.size → left < most
    → in_table x m s left i (chain_of x.table before) ≡ rest_of x before (linked_from true m s most i)
in_table_is x m s left i zero before sum less = absurd (omega arith)
in_table_is x m s zero i (suc most) before sum less = sym (ends x before (linked true s (linked_desc m s i)) _ (Some faults.Loop) (full_is x before (linked true s (linked_desc m s i)) (omega arith)))
in_table_is x m s (suc left) i (suc most) before sum less =
    let d : Desc = linked_desc m s i in
    let l : Link = linked true s d in
    let tail : List Link = cond (goes_on d && nat_lt d.next s.count) (linked_from true m s most d.next) [] in
    let below : positions before < x.size = omega arith in
    let place : x.size - suc left ≡ positions before = omega arith in
    elim (cases_Bool (is_table d)) [
      | inl table ↦
          ap (λ (b : Bool). cond b (Err (faults.BadIndirect (x.size - suc left))) (then_walk (plain x.table (x.size - suc left) d (chain_of x.table before)) (to_next s d (in_table x m s left)))) table
          ∙ ap (λ (p : ℕ). Err (faults.BadIndirect p)) place
          ∙ within_by x.indirect (goes_on d) (table_rest x before l) (positions before) (rest_of x (before ++ l ∷ []) tail)
          ∙ sym (ends x before l tail (table_fault x before l) (table_is x before l below table))
      | inr bytes ↦
          ap (λ (b : Bool). cond b (Err (faults.BadIndirect (x.size - suc left))) (then_walk (plain x.table (x.size - suc left) d (chain_of x.table before)) (to_next s d (in_table x m s left)))) bytes
          ∙ ap (λ (p : ℕ). then_walk (plain x.table p d (chain_of x.table before)) (to_next s d (in_table x m s left))) place
          ∙ ap (λ (w : Walked). then_walk w (to_next s d (in_table x m s left))) (plain_is x before l bytes)
          ∙ link_by (plain_fault x before l) (goes_on d) (nat_lt d.next s.count) d.next (chain_of x.table (before ++ l ∷ [])) (in_table x m s left) (rest_of x (before ++ l ∷ [])) (linked_from true m s most d.next)
          (λ low. in_table_is x m s left d.next most (before ++ l ∷ []) (omega (arith, sum, one_more x before l bytes)) (omega arith)) (sym (rest_nil x (before ++ l ∷ [])))
          ∙ sym (ends x before l tail _ (bytes_is x before l below bytes))
    ]

full_first : (b : Bool) (x : Limits) (before : List Link) (d : Link) (ks bs : List Link) → x.size ≤ positions before → rest_of x before (cond b (d ∷ ks) (d ∷ bs)) ≡ Err faults.Loop
full_first true x before d ks bs full = ends x before d ks (Some faults.Loop) (full_is x before d full)
full_first false x before d ks bs full = ends x before d bs (Some faults.Loop) (full_is x before d full)

pub in_ring_is : (x : Limits) (m : Bytes) (s : Source) (left i most : ℕ) (before : List Link) → left + positions before ≡ x.size → left < most
    → in_ring x m s left i (chain_of x.table before) ≡ rest_of x before (with_entries x.table (linked_entries x m) (linked_from false m s most i))
in_ring_is x m s left i zero before sum less = absurd (omega arith)
in_ring_is x m s zero i (suc most) before sum less = sym (full_first (is_table (linked_desc m s i)) x before (linked false s (linked_desc m s i)) _ _ (omega arith))
in_ring_is x m s (suc left) i (suc most) before sum less =
    let d : Desc = linked_desc m s i in
    let l : Link = linked false s d in
    let tail : List Link = cond (goes_on d && nat_lt d.next s.count) (linked_from false m s most d.next) [] in
    let entries : List Link = linked_entries x m (source_in x.table d) in
    let rest : List Link = with_entries x.table (linked_entries x m) tail in
    let below : positions before < x.size = omega arith in
    let place : x.size - suc left ≡ positions before = omega arith in
    elim (cases_Bool (is_table d)) [
      | inl table ↦
          ap (λ (b : Bool). cond b (named x true (x.size - suc left) d (λ t. in_table x m t (suc left) 0 (chain_of x.table before))) (then_walk (plain x.table (x.size - suc left) d (chain_of x.table before)) (to_next s d (in_ring x m s left)))) table
          ∙ ap (λ (p : ℕ). named x true p d (λ t. in_table x m t (suc left) 0 (chain_of x.table before))) place
          ∙ named_by x.indirect (goes_on d) false true (d.len == 0) (d.len % 16 == 0) (guest_place x.table d.addr d.len) (positions before) d (λ t. in_table x m t (suc left) 0 (chain_of x.table before)) (λ o. rest_of x (before ++ l ∷ []) (linked_entries x m o)) refl
          (λ (y : ℕ × ℕ). λ some whole.
          ap (in_table x m (source_of d y) (suc left) 0) (sym (same_chain x.table before l table))
          ∙ in_table_is x m (source_of d y) (suc left) 0 (x.size + 1) (before ++ l ∷ []) (omega (arith, sum, no_more before l table)) (omega (arith, sum))
          ∙ sym (ap (λ (b : Bool). rest_of x (before ++ l ∷ []) (cond b [] (linked_from true m (source_of d y) (x.size + 1) 0))) (has_entries d some whole)))
          ∙ sym (ends x before l entries (table_fault x before l) (table_is x before l below table))
          ∙ sym (ap (λ (b : Bool). rest_of x before (cond b (l ∷ entries) (l ∷ rest))) table)
      | inr bytes ↦
          ap (λ (b : Bool). cond b (named x true (x.size - suc left) d (λ t. in_table x m t (suc left) 0 (chain_of x.table before))) (then_walk (plain x.table (x.size - suc left) d (chain_of x.table before)) (to_next s d (in_ring x m s left)))) bytes
          ∙ ap (λ (p : ℕ). then_walk (plain x.table p d (chain_of x.table before)) (to_next s d (in_ring x m s left))) place
          ∙ ap (λ (w : Walked). then_walk w (to_next s d (in_ring x m s left))) (plain_is x before l bytes)
          ∙ link_by (plain_fault x before l) (goes_on d) (nat_lt d.next s.count) d.next (chain_of x.table (before ++ l ∷ [])) (in_ring x m s left) (λ ls. rest_of x (before ++ l ∷ []) (with_entries x.table (linked_entries x m) ls)) (linked_from false m s most d.next)
          (λ low. in_ring_is x m s left d.next most (before ++ l ∷ []) (omega (arith, sum, one_more x before l bytes)) (omega arith)) (sym (rest_nil x (before ++ l ∷ [])))
          ∙ sym (ends x before l rest _ (bytes_is x before l below bytes))
          ∙ sym (ap (λ (b : Bool). rest_of x before (cond b (l ∷ entries) (l ∷ rest))) bytes)
    ]

-- ---- listed chains

pub of_table_is : (x : Limits) (p : ℕ) (ds : List Desc) (before : List Link) → p ≡ positions before → of_table x p ds (chain_of x.table before) ≡ rest_of x before (all_listed true true ds)
of_table_is x p [] before place = sym (rest_nil x before)
of_table_is x p (d ∷ ds) before place =
    let l : Link = listed true true d in
    let tail : List Link = all_listed true true ds in
    elim (cases_Bool (nat_le x.size p)) [
      | inl full ↦
          ap (λ (b : Bool). cond b (Err faults.Loop) (cond (is_table d) (Err (faults.BadIndirect p)) (then_walk (plain x.table p d (chain_of x.table before)) (of_table x (p + 1) ds)))) full
          ∙ sym (ends x before l tail (Some faults.Loop) (full_is x before l (let f : x.size ≤ p = grind (arith, nat_tests) in omega arith)))
      | inr more ↦ let below : positions before < x.size = (let f : p < x.size = grind (arith, nat_tests) in omega arith) in
          ap (λ (b : Bool). cond b (Err faults.Loop) (cond (is_table d) (Err (faults.BadIndirect p)) (then_walk (plain x.table p d (chain_of x.table before)) (of_table x (p + 1) ds)))) more
          ∙ elim (cases_Bool (is_table d)) [
            | inl table ↦
                ap (λ (b : Bool). cond b (Err (faults.BadIndirect p)) (then_walk (plain x.table p d (chain_of x.table before)) (of_table x (p + 1) ds))) table
                ∙ ap (λ (q : ℕ). Err (faults.BadIndirect q)) place
                ∙ within_by x.indirect (goes_on d) (table_rest x before l) (positions before) (rest_of x (before ++ l ∷ []) tail)
                ∙ sym (ends x before l tail (table_fault x before l) (table_is x before l below table))
            | inr bytes ↦
                ap (λ (b : Bool). cond b (Err (faults.BadIndirect p)) (then_walk (plain x.table p d (chain_of x.table before)) (of_table x (p + 1) ds))) bytes
                ∙ ap (λ (q : ℕ). then_walk (plain x.table q d (chain_of x.table before)) (of_table x (p + 1) ds)) place
                ∙ ap (λ (w : Walked). then_walk w (of_table x (p + 1) ds)) (plain_is x before l bytes)
                ∙ list_by (plain_fault x before l) (chain_of x.table (before ++ l ∷ [])) (of_table x (p + 1) ds)
                ∙ ap (either (option_or (plain_fault x before l) None)) (of_table_is x (p + 1) ds (before ++ l ∷ []) (omega (arith, place, one_more x before l bytes)))
                ∙ sym (ends x before l tail _ (bytes_is x before l below bytes))
          ]
    ]

list_step : (x : Limits) (m : Bytes) (alone : Bool) (p : ℕ) (d : Desc) (ds : List Desc) (before : List Link) → p ≡ positions before
    → (p + 1 ≡ positions (before ++ listed false alone d ∷ []) → of_list x m false (p + 1) ds (chain_of x.table (before ++ listed false alone d ∷ [])) ≡ rest_of x (before ++ listed false alone d ∷ []) (with_entries x.table (listed_entries m) (all_listed false alone ds)))
    → of_list x m alone p (d ∷ ds) (chain_of x.table before) ≡ rest_of x before (with_entries x.table (listed_entries m) (all_listed false alone (d ∷ ds)))
list_step x m alone p d ds before place later =
    let l : Link = listed false alone d in
    let tail : List Link = with_entries x.table (listed_entries m) (all_listed false alone ds) in
    let entries : List Link = listed_entries m (source_in x.table d) in
    let k : Source → Walked = λ t. of_table x p (listed_from m t t.count 0) (chain_of x.table before) in
    elim (cases_Bool (nat_le x.size p)) [
      | inl full ↦
          ap (λ (b : Bool). cond b (Err faults.Loop) (cond (is_table d) (named x alone p d k) (then_walk (plain x.table p d (chain_of x.table before)) (of_list x m false (p + 1) ds)))) full
          ∙ sym (full_first (is_table d) x before l entries tail (let f : x.size ≤ p = grind (arith, nat_tests) in omega arith))
      | inr more ↦ let below : positions before < x.size = (let f : p < x.size = grind (arith, nat_tests) in omega arith) in
          ap (λ (b : Bool). cond b (Err faults.Loop) (cond (is_table d) (named x alone p d k) (then_walk (plain x.table p d (chain_of x.table before)) (of_list x m false (p + 1) ds)))) more
          ∙ elim (cases_Bool (is_table d)) [
            | inl table ↦
                ap (λ (b : Bool). cond b (named x alone p d k) (then_walk (plain x.table p d (chain_of x.table before)) (of_list x m false (p + 1) ds))) table
                ∙ ap (λ (q : ℕ). named x alone q d k) place
                ∙ named_by x.indirect (goes_on d) false alone (d.len == 0) (d.len % 16 == 0) (guest_place x.table d.addr d.len) (positions before) d k (λ o. rest_of x (before ++ l ∷ []) (listed_entries m o)) refl
                (λ (y : ℕ × ℕ). λ some whole. ap (of_table x p (listed_from m (source_of d y) (source_of d y).count 0)) (sym (same_chain x.table before l table)) ∙ of_table_is x p (listed_from m (source_of d y) (source_of d y).count 0) (before ++ l ∷ []) (omega (arith, place, no_more before l table)))
                ∙ sym (ends x before l entries (table_fault x before l) (table_is x before l below table))
                ∙ sym (ap (λ (b : Bool). rest_of x before (cond b (l ∷ entries) (l ∷ tail))) table)
            | inr bytes ↦
                ap (λ (b : Bool). cond b (named x alone p d k) (then_walk (plain x.table p d (chain_of x.table before)) (of_list x m false (p + 1) ds))) bytes
                ∙ ap (λ (q : ℕ). then_walk (plain x.table q d (chain_of x.table before)) (of_list x m false (p + 1) ds)) place
                ∙ ap (λ (w : Walked). then_walk w (of_list x m false (p + 1) ds)) (plain_is x before l bytes)
                ∙ list_by (plain_fault x before l) (chain_of x.table (before ++ l ∷ [])) (of_list x m false (p + 1) ds)
                ∙ ap (either (option_or (plain_fault x before l) None)) (later (omega (arith, place, one_more x before l bytes)))
                ∙ sym (ends x before l tail _ (bytes_is x before l below bytes))
                ∙ sym (ap (λ (b : Bool). rest_of x before (cond b (l ∷ entries) (l ∷ tail))) bytes)
          ]
    ]

many_is : (x : Limits) (m : Bytes) (p : ℕ) (ds : List Desc) (before : List Link) → p ≡ positions before → of_list x m false p ds (chain_of x.table before) ≡ rest_of x before (with_entries x.table (listed_entries m) (all_listed false false ds))
many_is x m p [] before place = sym (rest_nil x before)
many_is x m p (d ∷ ds) before place = list_step x m false p d ds before place (many_is x m (p + 1) ds (before ++ listed false false d ∷ []))

-- ---- whole walks

pub split_is : (x : Limits) (m : Bytes) (space place head : ℕ) → split_walk x m space place head ≡ rest_of x [] (split_chain x m space place head)
split_is x m space place head = in_ring_is x m (record { space = space; place = place; count = x.size }) x.size head (x.size + 1) [] (omega arith) (omega arith)

pub list_is : (x : Limits) (m : Bytes) (ds : List Desc) → list_walk x m ds ≡ rest_of x [] (list_chain x m ds)
list_is x m [] = refl
list_is x m (d ∷ []) = list_step x m true 0 d [] [] refl (λ place. sym (rest_nil x (listed false true d ∷ [])))
list_is x m (d ∷ e ∷ ds) =
    let many : length (d ∷ e ∷ ds) == 1 ≡ false = grind (arith, nat_tests) in
    many_is x m 0 (d ∷ e ∷ ds) [] refl ∙ sym (ap (λ (b : Bool). rest_of x [] (with_entries x.table (listed_entries m) (all_listed false b (d ∷ e ∷ ds)))) many)

finds_by : (r : Result (Unit {0}) ChainFault) (into : SpanLists) (table : List Mapped) (ds : List Link) (o : Option ChainFault) → Answers r into (either o (Ok (chain_of table ds))) → Finds r into table ds o
finds_by (Ok u) into table ds None a = a
finds_by (Ok u) into table ds (Some e) a = a
finds_by (Err faults.Failed) into table ds o a = tt
finds_by (Err faults.Loop) into table ds None a = a
finds_by (Err faults.Loop) into table ds (Some e) a = a
finds_by (Err (faults.BadIndex i)) into table ds None a = a
finds_by (Err (faults.BadIndex i)) into table ds (Some e) a = a
finds_by (Err (faults.BadOrder i)) into table ds None a = a
finds_by (Err (faults.BadOrder i)) into table ds (Some e) a = a
finds_by (Err (faults.Unmapped i)) into table ds None a = a
finds_by (Err (faults.Unmapped i)) into table ds (Some e) a = a
finds_by (Err (faults.BadIndirect i)) into table ds None a = a
finds_by (Err (faults.BadIndirect i)) into table ds (Some e) a = a

pub split_walks : (x : Limits) (m : Bytes) (space place head : ℕ) (r : Result (Unit {0}) ChainFault) (into : SpanLists) → Answers r into (split_walk x m space place head) → Walks x r into (split_chain x m space place head)
split_walks x m space place head r into a = finds_by r into x.table (split_chain x m space place head) (first_fault x [] (split_chain x m space place head)) (subst (Answers r into) (split_is x m space place head) a)

pub list_walks : (x : Limits) (m : Bytes) (ds : List Desc) (r : Result (Unit {0}) ChainFault) (into : SpanLists) → Answers r into (list_walk x m ds) → Walks x r into (list_chain x m ds)
list_walks x m ds r into a = finds_by r into x.table (list_chain x m ds) (first_fault x [] (list_chain x m ds)) (subst (Answers r into) (list_is x m ds) a)
