-- What a walk over a chain of descriptors finds (VIRTIO 1.2, 2.7.5, 2.7.5.3 and 2.8.6 to 2.8.8).
use Rattle.std.specs.List.{filter_map, list_any}
use Rattle.std.specs.Option.{option_or}
use Rattle.std.specs.Prelude.{◌≡◌, ℕ, zero, suc, ◌+◌, ◌/◌, ◌%◌, Bool, true, false, not, ◌==◌, ◌&&◌, ◌||◌, nat_lt, nat_le, if◌then◌else◌, List, [], ◌∷◌, ◌++◌, length, map, filter, Option, Some, None, option_map, is_none, Result, Ok, Err}
use Rattle.vub_base.specs.declared.ring_fault.ChainFault.{ChainFault}
use Rattle.vub_base.specs.declared.ring_fault.ChainFault.TheVariants as faults
use Rattle.vub_shared.specs.Bytes.{Bytes}
use Rattle.vub_memtable.specs.declared.region.Mapped.{Mapped}
use Rattle.vub_memtable.specs.Tables.{guest_place}
use Rattle.vub_chain.specs.declared.spans.Span.{Span}
use Rattle.vub_chain.specs.declared.walk.Desc.{Desc}
use Rattle.vub_chain.specs.Descs.{Source, goes_on, is_writable, is_table, linked_desc, listed_from}
use Rattle.vub_chain.specs.Spans.{SpanLists}

-- what a walk depends on besides memory
pub record Limits : Type 0 where
  pub table : List Mapped
  -- how many positions a chain has at most
  pub size : ℕ
  -- whether descriptors may name tables
  pub indirect : Bool

-- ---- the descriptors that a head or a list stands for

-- a descriptor of a chain
pub record Link : Type 0 where
  pub desc : Desc
  -- it stands in a table that a descriptor names
  pub within : Bool
  -- no other one stands beside it in its list
  pub alone : Bool
  -- it is followed by one that its table doesn't have
  pub astray : Bool

-- on from a descriptor of a table to its next one
abbrev pub goes_astray : Source → Desc → Bool
goes_astray s d = goes_on d && not (nat_lt d.next s.count)

abbrev pub linked : Bool → Source → Desc → Link
linked within s d = record { desc = d; within = within; alone = true; astray = goes_astray s d }

-- the descriptors that are linked from one on, the first so many of them
abbrev pub linked_from : Bool → Bytes → Source → ℕ → ℕ → List Link
linked_from within m s zero i = []
linked_from within m s (suc most) i =
    linked within s (linked_desc m s i)
    ∷ (if goes_on (linked_desc m s i) && nat_lt (linked_desc m s i).next s.count then linked_from within m s most (linked_desc m s i).next else [])

-- those of a list, which follow one another
abbrev pub listed : Bool → Bool → Desc → Link
listed within alone d = record { desc = d; within = within; alone = alone; astray = false }

abbrev pub all_listed : Bool → Bool → List Desc → List Link
all_listed within alone ds = map (listed within alone) ds

-- the table that a descriptor names, if it is mapped as a whole
abbrev pub source_of : Desc → ℕ × ℕ → Source
source_of d x = record { space = x.0; place = x.1; count = d.len / 16 }

abbrev pub source_in : List Mapped → Desc → Option Source
source_in table d = option_map (source_of d) (guest_place table d.addr d.len)

-- its entries: linked from the first on, as many as a walk may meet; or in their order
abbrev pub linked_entries : Limits → Bytes → Option Source → List Link
linked_entries x m None = []
linked_entries x m (Some s) = if s.count == 0 then [] else linked_from true m s (x.size + 1) 0

abbrev pub listed_entries : Bytes → Option Source → List Link
listed_entries m None = []
listed_entries m (Some s) = all_listed true true (listed_from m s s.count 0)

-- the same chain up to the first descriptor that names a table, and with the entries of that table after it
abbrev pub with_entries : List Mapped → (Option Source → List Link) → List Link → List Link
with_entries table entries [] = []
with_entries table entries (d ∷ ds) = if is_table d.desc then d ∷ entries (source_in table d.desc) else d ∷ with_entries table entries ds

-- the chain of a head in the descriptor table at a place, as far as a walk may meet it
abbrev pub split_chain : Limits → Bytes → ℕ → ℕ → ℕ → List Link
split_chain x m space place head =
    with_entries x.table (linked_entries x m) (linked_from false m (record { space = space; place = place; count = x.size }) (x.size + 1) head)

-- the chain of a list
abbrev pub list_chain : Limits → Bytes → List Desc → List Link
list_chain x m ds = with_entries x.table (listed_entries m) (all_listed false (length ds == 1) ds)

-- ---- the rules

-- a descriptor that names bytes, and one that names those for the device to write
abbrev pub names_bytes : Link → Bool
names_bytes d = not (is_table d.desc)

abbrev pub names_writable : Link → Bool
names_writable d = not (is_table d.desc) && is_writable d.desc

-- how many positions these take: a descriptor that names a table counts as none
abbrev pub positions : List Link → ℕ
positions ds = length (filter names_bytes ds)

-- its range isn't mapped; one of length 0 that names bytes isn't translated
abbrev pub is_unmapped : List Mapped → Desc → Bool
is_unmapped table d = (is_table d || not (d.len == 0)) && is_none (guest_place table d.addr d.len)

-- the rules in their order, for a descriptor at a position: whether it breaks the rule, and the fault
abbrev pub rules_of : Limits → List Link → Link → ℕ → List (Bool × ChainFault)
rules_of x before c position =
    (nat_le x.size position, faults.Loop)
    ∷ (is_table c.desc && not x.indirect, faults.BadIndirect position)
    ∷ (is_table c.desc && goes_on c.desc, faults.BadIndirect position)
    ∷ (is_table c.desc && c.within, faults.BadIndirect position)
    ∷ (is_table c.desc && not c.alone, faults.BadIndirect position)
    ∷ (is_table c.desc && (c.desc.len == 0 || not (c.desc.len % 16 == 0)), faults.BadIndirect position)
    ∷ (names_bytes c && not (is_writable c.desc) && list_any names_writable before, faults.BadOrder position)
    ∷ (is_unmapped x.table c.desc, faults.Unmapped c.desc.addr)
    ∷ (names_bytes c && c.astray, faults.BadIndex c.desc.next)
    ∷ []

-- the fault of the first rule that is broken
abbrev pub first_broken : List (Bool × ChainFault) → Option ChainFault
first_broken [] = None
first_broken (r ∷ rs) = if r.0 then Some r.1 else first_broken rs

-- that of a descriptor after these
abbrev pub fault_at : Limits → List Link → Link → Option ChainFault
fault_at x before c = first_broken (rules_of x before c (positions before))

-- that of the first descriptor that breaks a rule, of those that follow these
abbrev pub first_fault : Limits → List Link → List Link → Option ChainFault
first_fault x before [] = None
first_fault x before (d ∷ ds) = option_or (fault_at x before d) (first_fault x (before ++ d ∷ []) ds)

-- ---- spans

abbrev pub span_at : ℕ → ℕ × ℕ → Span
span_at len x = record { space = record { number = x.0 }; place = x.1; len = len }

-- the translated range of a descriptor; one of length 0 gives none
abbrev pub span_of : List Mapped → Desc → Option Span
span_of table d = if d.len == 0 then None else option_map (span_at d.len) (guest_place table d.addr d.len)

abbrev pub readable_span : List Mapped → Link → Option Span
readable_span table d = if names_bytes d && not (is_writable d.desc) then span_of table d.desc else None

abbrev pub writable_span : List Mapped → Link → Option Span
writable_span table d = if names_writable d then span_of table d.desc else None

-- what a call answers for a chain: the fault of the first broken rule, or else the spans; nothing is said where memory failed
abbrev pub Finds : Result (Unit {0}) ChainFault → SpanLists → List Mapped → List Link → Option ChainFault → Type 0
Finds (Ok u) into table ds None = (into.readable ≡ filter_map (readable_span table) ds) × (into.writable ≡ filter_map (writable_span table) ds)
Finds (Ok u) into table ds (Some e) = ⊥
Finds (Err faults.Failed) into table ds fault = Unit {0}
Finds (Err f) into table ds None = ⊥
Finds (Err f) into table ds (Some e) = f ≡ e

abbrev pub Walks : Limits → Result (Unit {0}) ChainFault → SpanLists → List Link → Type 0
Walks x result into ds = Finds result into x.table ds (first_fault x [] ds)

-- whether a call failed for the memory's sake
abbrev pub failure : Result (Unit {0}) ChainFault → Result (Unit {0}) (Unit {0})
failure (Err faults.Failed) = Err tt
failure r = Ok tt
