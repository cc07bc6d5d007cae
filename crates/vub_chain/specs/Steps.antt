-- How a walk goes, part by part, for the functions that make it. What it finds is said by `Chains`; that the two agree is
-- proved.
use Rattle.std.specs.Prelude.{◌≡◌, ◌⊎◌, ℕ, zero, suc, ◌+◌, ◌-◌, ◌/◌, ◌%◌, Bool, true, false, not, ◌==◌, ◌&&◌, ◌||◌, nat_lt, nat_le, if◌then◌else◌, List, [], ◌∷◌, ◌++◌, length, Option, Some, None, Result, Ok, Err, ⊤}
use Rattle.vub_base.specs.declared.ring_fault.ChainFault.{ChainFault}
use Rattle.vub_base.specs.declared.ring_fault.ChainFault.TheVariants as faults
use Rattle.vub_shared.specs.Bytes.{Bytes}
use Rattle.vub_memtable.specs.declared.region.Mapped.{Mapped}
use Rattle.vub_memtable.specs.Tables.{guest_place}
use Rattle.vub_chain.specs.declared.spans.Span.{Span}
use Rattle.vub_chain.specs.declared.walk.Desc.{Desc}
use Rattle.vub_chain.specs.declared.walk.Source as sources
use Rattle.vub_chain.specs.Chains.{Limits, source_of, span_at}
use Rattle.vub_chain.specs.Descs.{Source, goes_on, is_writable, is_table, linked_desc, listed_from}
use Rattle.vub_chain.specs.Spans.{SpanLists}

pub record Chain : Type 0 where
  pub readable : List Span
  pub writable : List Span
  -- a writable descriptor has come
  pub turned : Bool

abbrev pub no_chain : Chain
no_chain = record { readable = []; writable = []; turned = false }

abbrev pub Walked : Type 0
Walked = Result Chain ChainFault

abbrev pub then_walk : Walked → (Chain → Walked) → Walked
then_walk (Ok c) k = k c
then_walk (Err e) k = Err e

-- ---- one descriptor that names bytes

abbrev pub with_span : Bool → Span → Chain → Chain
with_span true s c = record c { writable = c.writable ++ s ∷ []; turned = true }
with_span false s c = record c { readable = c.readable ++ s ∷ [] }

abbrev pub with_place : Bool → ℕ → ℕ → Option (ℕ × ℕ) → Chain → Walked
with_place writable addr len None c = Err (faults.Unmapped addr)
with_place writable addr len (Some x) c = Ok (with_span writable (span_at len x) c)

-- none is readable after a writable one; one of length 0 gives no span and isn't translated
abbrev pub plain : List Mapped → ℕ → Desc → Chain → Walked
plain table position d c =
    if not (is_writable d) && c.turned then Err (faults.BadOrder position)
    else if d.len == 0 then Ok (record c { turned = c.turned || is_writable d })
    else with_place (is_writable d) d.addr d.len (guest_place table d.addr d.len) c

-- ---- one that names a table

-- it may: the feature is there, no other one follows, it stands alone where a list is walked, and the table has entries
abbrev pub may_name : Bool → Bool → Desc → Bool
may_name indirect alone d = indirect && not (goes_on d) && alone && not (d.len == 0) && (d.len % 16 == 0)

-- the table must be mapped as a whole
abbrev pub with_table : Desc → Option (ℕ × ℕ) → (Source → Walked) → Walked
with_table d None k = Err (faults.Unmapped d.addr)
with_table d (Some x) k = k (source_of d x)

abbrev pub named : Limits → Bool → ℕ → Desc → (Source → Walked) → Walked
named x alone position d k = if may_name x.indirect alone d then with_table d (guest_place x.table d.addr d.len) k else Err (faults.BadIndirect position)

-- ---- chains that are linked

-- on to the next descriptor, if there is one
abbrev pub to_next : Source → Desc → (ℕ → Chain → Walked) → Chain → Walked
to_next s d k c = if goes_on d then (if nat_lt d.next s.count then k d.next c else Err (faults.BadIndex d.next)) else Ok c

-- within a table, where so many positions are left
abbrev pub in_table : Limits → Bytes → Source → ℕ → ℕ → Chain → Walked
in_table x m s zero i c = Err faults.Loop
in_table x m s (suc left) i c =
    if is_table (linked_desc m s i) then Err (faults.BadIndirect (x.size - suc left))
    else then_walk (plain x.table (x.size - suc left) (linked_desc m s i) c) (to_next s (linked_desc m s i) (in_table x m s left))

-- in the descriptor table of a ring
abbrev pub in_ring : Limits → Bytes → Source → ℕ → ℕ → Chain → Walked
in_ring x m s zero i c = Err faults.Loop
in_ring x m s (suc left) i c =
    if is_table (linked_desc m s i) then named x true (x.size - suc left) (linked_desc m s i) (λ t. in_table x m t (suc left) 0 c)
    else then_walk (plain x.table (x.size - suc left) (linked_desc m s i) c) (to_next s (linked_desc m s i) (in_ring x m s left))

-- from a head on
abbrev pub split_walk : Limits → Bytes → ℕ → ℕ → ℕ → Walked
split_walk x m space place head = in_ring x m (record { space = space; place = place; count = x.size }) x.size head no_chain

-- ---- chains that are listed

-- the entries of a table, of which none names a table
abbrev pub of_table : Limits → ℕ → List Desc → Chain → Walked
of_table x position [] c = Ok c
of_table x position (d ∷ ds) c =
    if nat_le x.size position then Err faults.Loop
    else if is_table d then Err (faults.BadIndirect position)
    else then_walk (plain x.table position d c) (of_table x (position + 1) ds)

-- the descriptors of a list, of which only one that stands alone may name a table
abbrev pub of_list : Limits → Bytes → Bool → ℕ → List Desc → Chain → Walked
of_list x m alone position [] c = Ok c
of_list x m alone position (d ∷ ds) c =
    if nat_le x.size position then Err faults.Loop
    else if is_table d then named x alone position d (λ t. of_table x position (listed_from m t t.count 0) c)
    else then_walk (plain x.table position d c) (of_list x m false (position + 1) ds)

abbrev pub is_single : List Desc → Bool
is_single (d ∷ []) = true
is_single ds = false

abbrev pub list_walk : Limits → Bytes → List Desc → Walked
list_walk x m ds = of_list x m (is_single ds) 0 ds no_chain

-- ---- what a call answers

-- the lists that it leaves, or the fault that comes first; nothing is said where memory failed
abbrev pub Answers : Result (Unit {0}) ChainFault → SpanLists → Walked → Type 0
Answers (Ok u) s (Ok c) = (s.readable ≡ c.readable) × (s.writable ≡ c.writable)
Answers (Ok u) s (Err e) = ⊥
Answers (Err faults.Failed) s w = ⊤
Answers (Err f) s (Ok c) = ⊥
Answers (Err f) s (Err e) = f ≡ e

-- ---- as the parts of a walk answer

-- the lists so far, as a chain
abbrev pub chain_in : Bool → SpanLists → Chain
chain_in turned s = record { readable = s.readable; writable = s.writable; turned = turned }

-- what one descriptor leaves: the lists, and whether a writable one has come; or the fault
abbrev pub Adds : Result Bool ChainFault → SpanLists → Walked → Type 0
Adds (Ok turned) s (Ok c) = chain_in turned s ≡ c
Adds (Ok turned) s (Err e) = ⊥
Adds (Err f) s (Ok c) = ⊥
Adds (Err f) s (Err e) = f ≡ e

-- a part of a walk with so many positions left has room for their spans
pub record HasRoom (s : SpanLists) (left : ℕ) : Type 0 where
  pub readable : nat_le (length s.readable + left) s.room ≡ true
  pub writable : nat_le (length s.writable + left) s.room ≡ true

-- where the table of a descriptor stands that names one, or why it may not
abbrev pub NamesTable : Result sources.Source ChainFault → List Mapped → Bool → Bool → ℕ → Desc → Type 0
NamesTable (Ok t) table indirect alone position d =
    (may_name indirect alone d ≡ true) × (guest_place table d.addr d.len ≡ Some (t.space.number, t.place)) × (t.count ≡ d.len / 16)
NamesTable (Err e) table indirect alone position d =
    ((may_name indirect alone d ≡ false) × (e ≡ faults.BadIndirect position)) ⊎ ((may_name indirect alone d ≡ true) × (guest_place table d.addr d.len ≡ None) × (e ≡ faults.Unmapped d.addr))
