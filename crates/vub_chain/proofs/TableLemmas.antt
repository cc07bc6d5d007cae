-- What a walk in a table that a descriptor names is, by its first descriptor.
use Rattle.std.proofs.Common.{◌≡◌, ◌≤◌, ◌<◌, ℕ, zero, suc, ◌-◌, Bool, true, false, cond, ap, sym, ◌∙◌, subst, arith}
use Rattle.std.specs.Prelude.{nat_lt, Ok, Err}
use Rattle.std.proofs.lemmas.Bool.Decides.{nat_tests}
use Rattle.vub_base.specs.declared.ring_fault.ChainFault.{ChainFault}
use Rattle.vub_base.specs.declared.ring_fault.ChainFault.TheVariants as faults
use Rattle.vub_shared.specs.Bytes.{Bytes}
use Rattle.vub_chain.specs.declared.walk.Desc.{Desc}
use Rattle.vub_chain.specs.Chains.{Limits}
use Rattle.vub_chain.specs.Descs.{Source, goes_on, is_table, linked_desc}
use Rattle.vub_chain.specs.Spans.{SpanLists}
use Rattle.vub_chain.specs.Steps.{Adds, Answers, Chain, Walked, chain_in, in_table, plain, then_walk, to_next}
use Rattle.vub_chain.proofs.RingLemmas.{added_err, added_ok, answers_err}

table_plain : (x : Limits) (m : Bytes) (s : Source) (left i : ℕ) (c : Chain) → 0 < left → is_table (linked_desc m s i) ≡ false
    → in_table x m s left i c ≡ then_walk (plain x.table (x.size - left) (linked_desc m s i) c) (to_next s (linked_desc m s i) (in_table x m s (left - 1)))
table_plain x m s zero i c some bytes = absurd (omega arith)
table_plain x m s (suc left) i c some bytes =
    let back : left ≡ suc left - 1 = omega arith in
    ap (λ (b : Bool). cond b (Err (faults.BadIndirect (x.size - suc left))) (then_walk (plain x.table (x.size - suc left) (linked_desc m s i) c) (to_next s (linked_desc m s i) (in_table x m s left)))) bytes
    ∙ ap (λ (k : ℕ). then_walk (plain x.table (x.size - suc left) (linked_desc m s i) c) (to_next s (linked_desc m s i) (in_table x m s k))) back

-- a fault of the descriptor is the walk's
pub table_plain_answers : (x : Limits) (m : Bytes) (s : Source) (left i : ℕ) (c : Chain) (f : ChainFault) (into : SpanLists) (d : Desc) → d ≡ linked_desc m s i → 0 < left → is_table d ≡ false
    → Adds (Err f) into (plain x.table (x.size - left) d c) → Answers (Err f) into (in_table x m s left i c)
table_plain_answers x m s left i c f into d same some bytes adds =
    let here = subst (λ (e : Desc). Adds (Err f) into (plain x.table (x.size - left) e c)) same adds in
    answers_err f into (in_table x m s left i c)
    (table_plain x m s left i c some (subst (λ (e : Desc). is_table e ≡ false) same bytes)
    ∙ ap (λ (w : Walked). then_walk w (to_next s (linked_desc m s i) (in_table x m s (left - 1)))) (added_err f into (plain x.table (x.size - left) (linked_desc m s i) c) here))

next_past : (x : Limits) (m : Bytes) (s : Source) (left i : ℕ) (c : Chain) (turned : Bool) (into : SpanLists) → 0 < left → is_table (linked_desc m s i) ≡ false
    → Adds (Ok turned) into (plain x.table (x.size - left) (linked_desc m s i) c) → goes_on (linked_desc m s i) ≡ true → s.count ≤ (linked_desc m s i).next
    → in_table x m s left i c ≡ Err (faults.BadIndex (linked_desc m s i).next)
next_past x m s left i c turned into some bytes adds on far =
    let past : nat_lt (linked_desc m s i).next s.count ≡ false = grind (arith, nat_tests) in
    table_plain x m s left i c some bytes
    ∙ ap (λ (w : Walked). then_walk w (to_next s (linked_desc m s i) (in_table x m s (left - 1)))) (added_ok turned into (plain x.table (x.size - left) (linked_desc m s i) c) adds)
    ∙ ap (λ (b : Bool). cond {A = Walked} b (cond {A = Walked} (nat_lt (linked_desc m s i).next s.count) (in_table x m s (left - 1) (linked_desc m s i).next (chain_in turned into)) (Err (faults.BadIndex (linked_desc m s i).next))) (Ok (chain_in turned into))) on
    ∙ ap (λ (b : Bool). cond {A = Walked} b (in_table x m s (left - 1) (linked_desc m s i).next (chain_in turned into)) (Err (faults.BadIndex (linked_desc m s i).next))) past

pub table_next_answers : (x : Limits) (m : Bytes) (s : Source) (left i : ℕ) (c : Chain) (turned : Bool) (into : SpanLists) (d : Desc) → d ≡ linked_desc m s i → 0 < left → is_table d ≡ false
    → Adds (Ok turned) into (plain x.table (x.size - left) d c) → goes_on d ≡ true → s.count ≤ d.next → Answers (Err (faults.BadIndex d.next)) into (in_table x m s left i c)
table_next_answers x m s left i c turned into d same some bytes adds on far =
    answers_err (faults.BadIndex d.next) into (in_table x m s left i c)
    (subst (λ (e : Desc). in_table x m s left i c ≡ Err (faults.BadIndex e.next)) (sym same)
    (next_past x m s left i c turned into some (subst (λ (e : Desc). is_table e ≡ false) same bytes) (subst (λ (e : Desc). Adds (Ok turned) into (plain x.table (x.size - left) e c)) same adds) (subst (λ (e : Desc). goes_on e ≡ true) same on) (subst (λ (e : Desc). s.count ≤ e.next) same far)))
