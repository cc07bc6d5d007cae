-- What a walk in a ring's table is, by its first descriptor.
use Rattle.std.proofs.Common.{◌≡◌, ◌≤◌, ◌<◌, ℕ, zero, suc, ◌-◌, Bool, true, false, cond, refl, ap, sym, ◌∙◌, subst, inl, inr, arith}
use Rattle.std.specs.Prelude.{nat_lt, Option, Result, Ok, Err}
use Rattle.std.proofs.lemmas.Bool.Decides.{nat_tests}
use Rattle.vub_base.specs.declared.ring_fault.ChainFault.{ChainFault}
use Rattle.vub_base.specs.declared.ring_fault.ChainFault.TheVariants as faults
use Rattle.vub_shared.specs.Bytes.{Bytes}
use Rattle.vub_memtable.specs.Tables.{guest_place}
use Rattle.vub_chain.specs.declared.walk.Desc.{Desc}
use Rattle.vub_chain.specs.declared.walk.Source as sources
use Rattle.vub_chain.specs.Spans.{SpanLists}
use Rattle.vub_chain.specs.Chains.{Limits}
use Rattle.vub_chain.specs.Descs.{Source, goes_on, is_table, linked_desc}
use Rattle.vub_chain.specs.Steps.{Chain, Walked, Adds, Answers, NamesTable, then_walk, to_next, with_table, named, plain, in_table, in_ring, chain_in}

-- what was added is what the walk of one descriptor gives
pub added_err : (f : ChainFault) (s : SpanLists) (w : Walked) → Adds (Err f) s w → w ≡ Err f
added_err f s (Ok c) a = absurd a
added_err f s (Err e) a = ap (λ (x : ChainFault). Err x) (sym a)

pub added_ok : (turned : Bool) (s : SpanLists) (w : Walked) → Adds (Ok turned) s w → w ≡ Ok (chain_in turned s)
added_ok turned s (Ok c) a = ap (λ (x : Chain). Ok x) (sym a)
added_ok turned s (Err e) a = absurd a

pub ring_plain : (x : Limits) (m : Bytes) (s : Source) (left i : ℕ) (c : Chain) → 0 < left → is_table (linked_desc m s i) ≡ false
    → in_ring x m s left i c ≡ then_walk (plain x.table (x.size - left) (linked_desc m s i) c) (to_next s (linked_desc m s i) (in_ring x m s (left - 1)))
ring_plain x m s zero i c some no_table = absurd (omega arith)
ring_plain x m s (suc left) i c some no_table =
    let back : left ≡ suc left - 1 = omega arith in
    ap (λ (b : Bool). cond b (named x true (x.size - suc left) (linked_desc m s i) (λ t. in_table x m t (suc left) 0 c)) (then_walk (plain x.table (x.size - suc left) (linked_desc m s i) c) (to_next s (linked_desc m s i) (in_ring x m s left)))) no_table
    ∙ ap (λ (k : ℕ). then_walk (plain x.table (x.size - suc left) (linked_desc m s i) c) (to_next s (linked_desc m s i) (in_ring x m s k))) back

pub ring_named : (x : Limits) (m : Bytes) (s : Source) (left i : ℕ) (c : Chain) → 0 < left → is_table (linked_desc m s i) ≡ true
    → in_ring x m s left i c ≡ named x true (x.size - left) (linked_desc m s i) (λ t. in_table x m t left 0 c)
ring_named x m s zero i c some table = absurd (omega arith)
ring_named x m s (suc left) i c some table =
    ap (λ (b : Bool). cond b (named x true (x.size - suc left) (linked_desc m s i) (λ t. in_table x m t (suc left) 0 c)) (then_walk (plain x.table (x.size - suc left) (linked_desc m s i) c) (to_next s (linked_desc m s i) (in_ring x m s left)))) table

-- a fault of the descriptor is the walk's
pub ring_plain_fault : (x : Limits) (m : Bytes) (s : Source) (left i : ℕ) (c : Chain) (f : ChainFault) (into : SpanLists) → 0 < left → is_table (linked_desc m s i) ≡ false
    → Adds (Err f) into (plain x.table (x.size - left) (linked_desc m s i) c) → in_ring x m s left i c ≡ Err f
ring_plain_fault x m s left i c f into some no_table a =
    ring_plain x m s left i c some no_table
    ∙ ap (λ (w : Walked). then_walk w (to_next s (linked_desc m s i) (in_ring x m s (left - 1)))) (added_err f into (plain x.table (x.size - left) (linked_desc m s i) c) a)

pub ring_bad_next : (x : Limits) (m : Bytes) (s : Source) (left i : ℕ) (c : Chain) (turned : Bool) (into : SpanLists) → 0 < left → is_table (linked_desc m s i) ≡ false
    → Adds (Ok turned) into (plain x.table (x.size - left) (linked_desc m s i) c) → goes_on (linked_desc m s i) ≡ true → s.count ≤ (linked_desc m s i).next
    → in_ring x m s left i c ≡ Err (faults.BadIndex (linked_desc m s i).next)
ring_bad_next x m s left i c turned into some no_table a on far =
    let past : nat_lt (linked_desc m s i).next s.count ≡ false = grind (arith, nat_tests) in
    ring_plain x m s left i c some no_table
    ∙ ap (λ (w : Walked). then_walk w (to_next s (linked_desc m s i) (in_ring x m s (left - 1)))) (added_ok turned into (plain x.table (x.size - left) (linked_desc m s i) c) a)
    ∙ ap (λ (b : Bool). cond {A = Walked} b (cond {A = Walked} (nat_lt (linked_desc m s i).next s.count) (in_ring x m s (left - 1) (linked_desc m s i).next (chain_in turned into)) (Err (faults.BadIndex (linked_desc m s i).next))) (Ok (chain_in turned into))) on
    ∙ ap (λ (b : Bool). cond {A = Walked} b (in_ring x m s (left - 1) (linked_desc m s i).next (chain_in turned into)) (Err (faults.BadIndex (linked_desc m s i).next))) past

-- a table that may not be named, or isn't mapped
pub ring_table_fault : (x : Limits) (m : Bytes) (s : Source) (left i : ℕ) (c : Chain) (f : ChainFault) → 0 < left → is_table (linked_desc m s i) ≡ true
    → NamesTable (Err f) x.table x.indirect true (x.size - left) (linked_desc m s i) → in_ring x m s left i c ≡ Err f
ring_table_fault x m s left i c f some table (inl no_name) =
    ring_named x m s left i c some table
    ∙ ap (λ (b : Bool). cond {A = Walked} b (with_table (linked_desc m s i) (guest_place x.table (linked_desc m s i).addr (linked_desc m s i).len) (λ t. in_table x m t left 0 c)) (Err (faults.BadIndirect (x.size - left)))) no_name.0
    ∙ ap (λ (y : ChainFault). Err y) (sym no_name.1)
ring_table_fault x m s left i c f some table (inr unmapped) =
    ring_named x m s left i c some table
    ∙ ap (λ (b : Bool). cond {A = Walked} b (with_table (linked_desc m s i) (guest_place x.table (linked_desc m s i).addr (linked_desc m s i).len) (λ t. in_table x m t left 0 c)) (Err (faults.BadIndirect (x.size - left)))) unmapped.0
    ∙ ap (λ (o : Option (ℕ × ℕ)). with_table (linked_desc m s i) o (λ t. in_table x m t left 0 c)) unmapped.1
    ∙ ap (λ (y : ChainFault). Err y) (sym unmapped.2)

-- or else the walk goes on in the table
pub ring_table : (x : Limits) (m : Bytes) (s : Source) (left i : ℕ) (c : Chain) (t : sources.Source) → 0 < left → is_table (linked_desc m s i) ≡ true
    → NamesTable (Ok t) x.table x.indirect true (x.size - left) (linked_desc m s i) → in_ring x m s left i c ≡ in_table x m (record { space = t.space.number; place = t.place; count = t.count }) left 0 c
ring_table x m s left i c t some table names =
    ring_named x m s left i c some table
    ∙ ap (λ (b : Bool). cond {A = Walked} b (with_table (linked_desc m s i) (guest_place x.table (linked_desc m s i).addr (linked_desc m s i).len) (λ t. in_table x m t left 0 c)) (Err (faults.BadIndirect (x.size - left)))) names.0
    ∙ ap (λ (o : Option (ℕ × ℕ)). with_table (linked_desc m s i) o (λ t. in_table x m t left 0 c)) names.1
    ∙ ap (λ (k : ℕ). in_table x m (record { space = t.space.number; place = t.place; count = k }) left 0 c) (sym names.2)

-- ---- answers

itself : (f : ChainFault) (s : SpanLists) → Answers (Err f) s (Err f)
itself faults.Loop s = refl
itself (faults.BadIndex i) s = refl
itself (faults.BadOrder i) s = refl
itself (faults.Unmapped a) s = refl
itself (faults.BadIndirect i) s = refl
itself faults.Failed s = tt

pub answers_err : (f : ChainFault) (s : SpanLists) (w : Walked) → w ≡ Err f → Answers (Err f) s w
answers_err f s w same = subst (λ (v : Walked). Answers (Err f) s v) (sym same) (itself f s)

pub answers_along : (r : Result (Unit {0}) ChainFault) (s : SpanLists) (w v : Walked) → w ≡ v → Answers r s v → Answers r s w
answers_along r s w v same a = subst (λ (u : Walked). Answers r s u) (sym same) a

-- the same, where a descriptor was loaded
pub fault_answers : (x : Limits) (m : Bytes) (s : Source) (left i : ℕ) (c : Chain) (f : ChainFault) (into : SpanLists) (d : Desc) → d ≡ linked_desc m s i → 0 < left → is_table d ≡ true
    → NamesTable (Err f) x.table x.indirect true (x.size - left) d → Answers (Err f) into (in_ring x m s left i c)
fault_answers x m s left i c f into d same some table names =
    answers_err f into (in_ring x m s left i c)
    (ring_table_fault x m s left i c f some (subst (λ (e : Desc). is_table e ≡ true) same table) (subst (λ (e : Desc). NamesTable (Err f) x.table x.indirect true (x.size - left) e) same names))

pub table_answers : (x : Limits) (m : Bytes) (s : Source) (left i : ℕ) (c : Chain) (t : sources.Source) (r : Result (Unit {0}) ChainFault) (into : SpanLists) (d : Desc) → d ≡ linked_desc m s i → 0 < left → is_table d ≡ true
    → NamesTable (Ok t) x.table x.indirect true (x.size - left) d → Answers r into (in_table x m (record { space = t.space.number; place = t.place; count = t.count }) left 0 c) → Answers r into (in_ring x m s left i c)
table_answers x m s left i c t r into d same some table names a =
    answers_along r into (in_ring x m s left i c) (in_table x m (record { space = t.space.number; place = t.place; count = t.count }) left 0 c)
    (ring_table x m s left i c t some (subst (λ (e : Desc). is_table e ≡ true) same table) (subst (λ (e : Desc). NamesTable (Ok t) x.table x.indirect true (x.size - left) e) same names)) a

pub plain_answers : (x : Limits) (m : Bytes) (s : Source) (left i : ℕ) (c : Chain) (f : ChainFault) (into : SpanLists) (d : Desc) → d ≡ linked_desc m s i → 0 < left → is_table d ≡ false
    → Adds (Err f) into (plain x.table (x.size - left) d c) → Answers (Err f) into (in_ring x m s left i c)
plain_answers x m s left i c f into d same some no_table adds =
    answers_err f into (in_ring x m s left i c)
    (ring_plain_fault x m s left i c f into some (subst (λ (e : Desc). is_table e ≡ false) same no_table) (subst (λ (e : Desc). Adds (Err f) into (plain x.table (x.size - left) e c)) same adds))

pub next_answers : (x : Limits) (m : Bytes) (s : Source) (left i : ℕ) (c : Chain) (turned : Bool) (into : SpanLists) (d : Desc) → d ≡ linked_desc m s i → 0 < left → is_table d ≡ false
    → Adds (Ok turned) into (plain x.table (x.size - left) d c) → goes_on d ≡ true → s.count ≤ d.next → Answers (Err (faults.BadIndex d.next)) into (in_ring x m s left i c)
next_answers x m s left i c turned into d same some no_table adds on far =
    answers_err (faults.BadIndex d.next) into (in_ring x m s left i c)
    (subst (λ (e : Desc). in_ring x m s left i c ≡ Err (faults.BadIndex e.next)) (sym same)
    (ring_bad_next x m s left i c turned into some (subst (λ (e : Desc). is_table e ≡ false) same no_table) (subst (λ (e : Desc). Adds (Ok turned) into (plain x.table (x.size - left) e c)) same adds) (subst (λ (e : Desc). goes_on e ≡ true) same on) (subst (λ (e : Desc). s.count ≤ e.next) same far)))

-- the last one
pub done_answers : (x : Limits) (m : Bytes) (s : Source) (left i : ℕ) (c : Chain) (turned : Bool) (into : SpanLists) (d : Desc) → d ≡ linked_desc m s i → 0 < left → is_table d ≡ false
    → Adds (Ok turned) into (plain x.table (x.size - left) d c) → goes_on d ≡ false → Answers (Ok (tt {0})) into (in_ring x m s left i c)
done_answers x m s left i c turned into d same some no_table adds stops =
    let here : Adds (Ok turned) into (plain x.table (x.size - left) (linked_desc m s i) c) = subst (λ (e : Desc). Adds (Ok turned) into (plain x.table (x.size - left) e c)) same adds in
    let off : goes_on (linked_desc m s i) ≡ false = subst (λ (e : Desc). goes_on e ≡ false) same stops in
    answers_along (Ok (tt {0})) into (in_ring x m s left i c) (Ok (chain_in turned into))
    (ring_plain x m s left i c some (subst (λ (e : Desc). is_table e ≡ false) same no_table)
    ∙ ap (λ (w : Walked). then_walk w (to_next s (linked_desc m s i) (in_ring x m s (left - 1)))) (added_ok turned into (plain x.table (x.size - left) (linked_desc m s i) c) here)
    ∙ ap (λ (b : Bool). cond {A = Walked} b (cond {A = Walked} (nat_lt (linked_desc m s i).next s.count) (in_ring x m s (left - 1) (linked_desc m s i).next (chain_in turned into)) (Err (faults.BadIndex (linked_desc m s i).next))) (Ok (chain_in turned into))) off)
    (refl, refl)

-- and one that another one follows
pub more_answers : (x : Limits) (m : Bytes) (s : Source) (left i : ℕ) (c : Chain) (turned : Bool) (r : Result (Unit {0}) ChainFault) (one into : SpanLists) (d : Desc) (next : ℕ) → d ≡ linked_desc m s i → 0 < left → is_table d ≡ false
    → Adds (Ok turned) one (plain x.table (x.size - left) d c) → goes_on d ≡ true → next ≡ d.next → next < s.count → Answers r into (in_ring x m s (left - 1) next (chain_in turned one)) → Answers r into (in_ring x m s left i c)
more_answers x m s left i c turned r one into d next same some no_table adds on next_is low a =
    let here : Adds (Ok turned) one (plain x.table (x.size - left) (linked_desc m s i) c) = subst (λ (e : Desc). Adds (Ok turned) one (plain x.table (x.size - left) e c)) same adds in
    let goes : goes_on (linked_desc m s i) ≡ true = subst (λ (e : Desc). goes_on e ≡ true) same on in
    let there : next ≡ (linked_desc m s i).next = next_is ∙ ap (λ (e : Desc). e.next) same in
    let below : nat_lt (linked_desc m s i).next s.count ≡ true = (let l : (linked_desc m s i).next < s.count = subst (λ (n : ℕ). n < s.count) there low in grind (arith, nat_tests)) in
    answers_along r into (in_ring x m s left i c) (in_ring x m s (left - 1) next (chain_in turned one))
    (ring_plain x m s left i c some (subst (λ (e : Desc). is_table e ≡ false) same no_table)
    ∙ ap (λ (w : Walked). then_walk w (to_next s (linked_desc m s i) (in_ring x m s (left - 1)))) (added_ok turned one (plain x.table (x.size - left) (linked_desc m s i) c) here)
    ∙ ap (λ (b : Bool). cond {A = Walked} b (cond {A = Walked} (nat_lt (linked_desc m s i).next s.count) (in_ring x m s (left - 1) (linked_desc m s i).next (chain_in turned one)) (Err (faults.BadIndex (linked_desc m s i).next))) (Ok (chain_in turned one))) goes
    ∙ ap (λ (b : Bool). cond {A = Walked} b (in_ring x m s (left - 1) (linked_desc m s i).next (chain_in turned one)) (Err (faults.BadIndex (linked_desc m s i).next))) below
    ∙ ap (λ (n : ℕ). in_ring x m s (left - 1) n (chain_in turned one)) (sym there))
    a
