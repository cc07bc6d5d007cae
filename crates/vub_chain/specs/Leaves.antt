-- Which stores leave the chain of a head or of a list.
use Rattle.std.specs.Bool.{OnTrue}
use Rattle.std.specs.List.{AllByRecursion}
use Rattle.std.specs.Prelude.{ℕ, zero, suc, ◌+◌, ◌*◌, ◌&&◌, nat_lt, if◌then◌else◌, List, [], ◌∷◌, length, Option, Some, None, ⊤}
use Rattle.vub_shared.specs.Bytes.{Bytes, Apart}
use Rattle.vub_shared.specs.Stores.{Store}
use Rattle.vub_memtable.specs.declared.region.Mapped.{Mapped}
use Rattle.vub_chain.specs.declared.walk.Desc.{Desc}
use Rattle.vub_chain.specs.Descs.{Source, goes_on, is_table, linked_desc}
use Rattle.vub_chain.specs.Chains.{Limits, source_in}

-- the indices of the descriptors that are linked from one on, the first so many of them
abbrev pub indices_from : Bytes → Source → ℕ → ℕ → List ℕ
indices_from m s zero i = []
indices_from m s (suc most) i = i ∷ (if goes_on (linked_desc m s i) && nat_lt (linked_desc m s i).next s.count then indices_from m s most (linked_desc m s i).next else [])

-- a store touches no byte of that descriptor, or of any of a table
abbrev pub OffDesc : Store → Source → ℕ → Type 0
OffDesc st s i = Apart st.space st.place (length st.bytes) s.space (s.place + 16 * i) 16

abbrev pub OffTable : Store → Option Source → Type 0
OffTable st None = ⊤
OffTable st (Some s) = Apart st.space st.place (length st.bytes) s.space s.place (16 * s.count)

-- nor of the table that a descriptor names, if it names one
abbrev pub OffNamed : Store → List Mapped → Desc → Type 0
OffNamed st table d = OnTrue (is_table d) (OffTable st (source_in table d))

-- neither of a descriptor nor of a table that it names
abbrev pub OffLinked : Store → Limits → Bytes → Source → ℕ → Type 0
OffLinked st x m s i = OffDesc st s i × OffNamed st x.table (linked_desc m s i)

-- a store touches no descriptor of a head's chain and no table that one of them names
abbrev pub OffSplit : Store → Limits → Bytes → ℕ → ℕ → ℕ → Type 0
OffSplit st x m space place head =
    AllByRecursion (OffLinked st x m (record { space = space; place = place; count = x.size })) (indices_from m (record { space = space; place = place; count = x.size }) (x.size + 1) head)

-- a store touches no table that a descriptor of a list names
abbrev pub OffList : Store → Limits → List Desc → Type 0
OffList st x ds = AllByRecursion (OffNamed st x.table) ds
