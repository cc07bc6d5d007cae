-- Lists of descriptors, and tables of the packed format.
use Rattle.std.proofs.Common.{◌≡◌, ◌≤◌, ◌<◌, ℕ, suc, ◌+◌, ◌-◌, ◌*◌, Bool, true, false, cond, List, [], ◌∷◌, length, refl, ap, sym, ◌∙◌, subst, inl, inr, arith, add-zero}
use Rattle.std.specs.Prelude.{◌==◌, nat_le, take, drop, slice_index_or, Option, Result, Ok, Err}
use Rattle.std.proofs.lemmas.Bool.Decides.{nat_tests}
use Rattle.vub_base.specs.Fields.{field}
use Rattle.vub_base.specs.declared.ring_fault.ChainFault.{ChainFault}
use Rattle.vub_base.specs.declared.ring_fault.ChainFault.TheVariants as faults
use Rattle.vub_shared.specs.Bytes.{Bytes, word, bytes_from}
use Rattle.vub_memtable.specs.Tables.{guest_place}
use Rattle.vub_chain.specs.declared.walk.Desc.{Desc}
use Rattle.vub_chain.specs.declared.walk.Source as sources
use Rattle.vub_chain.specs.Chains.{Limits}
use Rattle.vub_chain.specs.Descs.{Source, is_table, listed_desc, listed_from}
use Rattle.vub_chain.specs.Steps.{Chain, Walked, Adds, Answers, NamesTable, then_walk, named, with_table, plain, chain_in, of_table, of_list, is_single}
use Rattle.vub_chain.specs.Spans.{SpanLists}
use Rattle.vub_chain.proofs.RingLemmas.{added_ok, answers_along}
use Rattle.vub_chain.proofs.DescLemmas.{field_of_loaded, make}

pub single_is : (ds : List Desc) → is_single ds ≡ (length ds == 1)
single_is [] = grind (arith, nat_tests)
single_is (d ∷ []) = grind (arith, nat_tests)
single_is (d ∷ e ∷ ds) = grind (arith, nat_tests)

pub listed_none : (m : Bytes) (s : Source) (n i : ℕ) → i ≡ n → listed_from m s (n - i) i ≡ []
listed_none m s n i same = let none : n - i ≡ 0 = omega arith in ap (λ (k : ℕ). listed_from m s k i) none

pub listed_more : (m : Bytes) (s : Source) (n i : ℕ) → i < n → listed_from m s (n - i) i ≡ listed_desc m s i ∷ listed_from m s (n - (i + 1)) (i + 1)
listed_more m s n i below = let some : n - i ≡ suc (n - (i + 1)) = omega arith in ap (λ (k : ℕ). listed_from m s k i) some

pub named_fault : (x : Limits) (alone : Bool) (position : ℕ) (d : Desc) (k : Source → Walked) (f : ChainFault) → NamesTable (Err f) x.table x.indirect alone position d → named x alone position d k ≡ Err f
named_fault x alone position d k f (inl no_name) =
    ap (λ (b : Bool). cond {A = Walked} b (with_table d (guest_place x.table d.addr d.len) k) (Err (faults.BadIndirect position))) no_name.0 ∙ ap (λ (y : ChainFault). Err y) (sym no_name.1)
named_fault x alone position d k f (inr unmapped) =
    ap (λ (b : Bool). cond {A = Walked} b (with_table d (guest_place x.table d.addr d.len) k) (Err (faults.BadIndirect position))) unmapped.0
    ∙ ap (λ (o : Option (ℕ × ℕ)). with_table d o k) unmapped.1 ∙ ap (λ (y : ChainFault). Err y) (sym unmapped.2)

pub named_table : (x : Limits) (alone : Bool) (position : ℕ) (d : Desc) (k : Source → Walked) (t : sources.Source) → NamesTable (Ok t) x.table x.indirect alone position d → named x alone position d k ≡ k (record { space = t.space.number; place = t.place; count = t.count })
named_table x alone position d k t names =
    ap (λ (b : Bool). cond {A = Walked} b (with_table d (guest_place x.table d.addr d.len) k) (Err (faults.BadIndirect position))) names.0
    ∙ ap (λ (o : Option (ℕ × ℕ)). with_table d o k) names.1 ∙ ap (λ (n : ℕ). k (record { space = t.space.number; place = t.place; count = n })) (sym names.2)

pub listed_is : (src : Source) (m : Bytes) (index at : ℕ) (bytes : List ℕ) (a l f : ℕ) → at ≡ index → bytes ≡ bytes_from 16 m src.space (src.place + 16 * at)
    → a ≡ field 8 0 bytes → l ≡ field 4 8 bytes → f ≡ field 2 14 bytes → make a l f 0 ≡ listed_desc m src index
listed_is src m index at bytes a l f same loaded ha hl hf =
    let p : ℕ = src.place + 16 * at in
    let s : ℕ = src.space in
    let place : p ≡ src.place + 16 * index = ap (λ (i : ℕ). src.place + 16 * i) same in
    let is_a : a ≡ word 8 m s (src.place + 16 * index) = ha ∙ ap (field 8 0) loaded ∙ field_of_loaded 0 8 16 m s p (omega arith) ∙ ap (word 8 m s) (add-zero p ∙ place) in
    let is_l : l ≡ word 4 m s (src.place + 16 * index + 8) = hl ∙ ap (field 4 8) loaded ∙ field_of_loaded 8 4 16 m s p (omega arith) ∙ ap (λ (q : ℕ). word 4 m s (q + 8)) place in
    let is_f : f ≡ word 2 m s (src.place + 16 * index + 14) = hf ∙ ap (field 2 14) loaded ∙ field_of_loaded 14 2 16 m s p (omega arith) ∙ ap (λ (q : ℕ). word 2 m s (q + 14)) place in
    ap (λ (x : ℕ). make x l f 0) is_a
    ∙ ap (λ (x : ℕ). make (word 8 m s (src.place + 16 * index)) x f 0) is_l
    ∙ ap (λ (x : ℕ). make (word 8 m s (src.place + 16 * index)) (word 4 m s (src.place + 16 * index + 8)) x 0) is_f

-- ---- the first descriptor of a list

pub take_all : (ds : List Desc) → take (length ds) ds ≡ ds
take_all [] = refl
take_all (d ∷ ds) = ap (λ (es : List Desc). d ∷ es) (take_all ds)

rest_is : (d : Desc) (ds : List Desc) → take (length (d ∷ ds) - 1) (drop 1 (d ∷ ds)) ≡ ds
rest_is d ds = let back : length (d ∷ ds) - 1 ≡ length ds = omega arith in ap (λ (k : ℕ). take k ds) back ∙ take_all ds

list_named : (x : Limits) (m : Bytes) (alone : Bool) (position : ℕ) (d : Desc) (ds : List Desc) (c : Chain) → position < x.size → is_table d ≡ true
    → of_list x m alone position (d ∷ ds) c ≡ named x alone position d (λ t. of_table x position (listed_from m t t.count 0) c)
list_named x m alone position d ds c below table =
    let within : nat_le x.size position ≡ false = grind (arith, nat_tests) in
    ap (λ (b : Bool). cond {A = Walked} b (Err faults.Loop) (cond {A = Walked} (is_table d) (named x alone position d (λ t. of_table x position (listed_from m t t.count 0) c)) (then_walk (plain x.table position d c) (of_list x m false (position + 1) ds)))) within
    ∙ ap (λ (b : Bool). cond {A = Walked} b (named x alone position d (λ t. of_table x position (listed_from m t t.count 0) c)) (then_walk (plain x.table position d c) (of_list x m false (position + 1) ds))) table

list_plain : (x : Limits) (m : Bytes) (alone : Bool) (position : ℕ) (d : Desc) (ds : List Desc) (c : Chain) → position < x.size → is_table d ≡ false
    → of_list x m alone position (d ∷ ds) c ≡ then_walk (plain x.table position d c) (of_list x m false (position + 1) ds)
list_plain x m alone position d ds c below no_table =
    let within : nat_le x.size position ≡ false = grind (arith, nat_tests) in
    ap (λ (b : Bool). cond {A = Walked} b (Err faults.Loop) (cond {A = Walked} (is_table d) (named x alone position d (λ t. of_table x position (listed_from m t t.count 0) c)) (then_walk (plain x.table position d c) (of_list x m false (position + 1) ds)))) within
    ∙ ap (λ (b : Bool). cond {A = Walked} b (named x alone position d (λ t. of_table x position (listed_from m t t.count 0) c)) (then_walk (plain x.table position d c) (of_list x m false (position + 1) ds))) no_table

pub list_table_answers : (x : Limits) (m : Bytes) (alone : Bool) (position : ℕ) (xs : List Desc) (other : Desc) (c : Chain) (t : sources.Source) (r : Result (Unit {0}) ChainFault) (into : SpanLists) → 1 ≤ length xs → position < x.size
    → is_table (slice_index_or xs 0 other) ≡ true → NamesTable (Ok t) x.table x.indirect alone position (slice_index_or xs 0 other)
    → Answers r into (of_table x position (listed_from m (record { space = t.space.number; place = t.place; count = t.count }) (t.count - 0) 0) c) → Answers r into (of_list x m alone position xs c)
list_table_answers x m alone position [] other c t r into some below table names a = absurd (omega arith)
list_table_answers x m alone position (d ∷ ds) other c t r into some below table names a =
    let whole : t.count - 0 ≡ t.count = omega arith in
    answers_along r into (of_list x m alone position (d ∷ ds) c) (of_table x position (listed_from m (record { space = t.space.number; place = t.place; count = t.count }) t.count 0) c)
    (list_named x m alone position d ds c below table ∙ named_table x alone position d (λ s. of_table x position (listed_from m s s.count 0) c) t names)
    (subst (λ (k : ℕ). Answers r into (of_table x position (listed_from m (record { space = t.space.number; place = t.place; count = t.count }) k 0) c)) whole a)

pub list_plain_answers : (x : Limits) (m : Bytes) (alone : Bool) (position : ℕ) (xs : List Desc) (other : Desc) (c : Chain) (turned : Bool) (r : Result (Unit {0}) ChainFault) (one into : SpanLists) → 1 ≤ length xs → position < x.size
    → is_table (slice_index_or xs 0 other) ≡ false → Adds (Ok turned) one (plain x.table position (slice_index_or xs 0 other) c)
    → Answers r into (of_list x m false (position + 1) (take (length xs - 1) (drop 1 xs)) (chain_in turned one)) → Answers r into (of_list x m alone position xs c)
list_plain_answers x m alone position [] other c turned r one into some below no_table adds a = absurd (omega arith)
list_plain_answers x m alone position (d ∷ ds) other c turned r one into some below no_table adds a =
    answers_along r into (of_list x m alone position (d ∷ ds) c) (of_list x m false (position + 1) ds (chain_in turned one))
    (list_plain x m alone position d ds c below no_table ∙ ap (λ (w : Walked). then_walk w (of_list x m false (position + 1) ds)) (added_ok turned one (plain x.table position d c) adds))
    (subst (λ (es : List Desc). Answers r into (of_list x m false (position + 1) es (chain_in turned one))) (rest_is d ds) a)
