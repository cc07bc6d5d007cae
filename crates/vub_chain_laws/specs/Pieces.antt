-- The driver's pieces as a chain: in a ring's descriptor table, in a list, and in a table that one descriptor names (VIRTIO
-- 1.2, 2.7.5, 2.7.5.3, 2.8.6 and 2.8.7).
use Rattle.std.specs.List.{AllByRecursion, filter_map}
use Rattle.std.specs.Prelude.{◌≡◌, ◌<◌, ℕ, zero, suc, ◌+◌, ◌*◌, Bool, true, false, not, ◌==◌, ◌&&◌, is_none, if◌then◌else◌, List, [], ◌∷◌, Option, Some, None, option_map, ⊤}
use Rattle.vub_shared.specs.Bytes.{Bytes}
use Rattle.vub_driver.specs.Requests.{Piece, write_flag}
use Rattle.vub_memtable.specs.declared.region.Mapped.{Mapped}
use Rattle.vub_memtable.specs.Tables.{guest_place}
use Rattle.vub_chain.specs.declared.spans.Span.{Span}
use Rattle.vub_chain.specs.declared.walk.Desc.{Desc}
use Rattle.vub_chain.specs.Descs.{Source, goes_on, is_writable, is_table, linked_desc}
use Rattle.vub_chain.specs.Chains.{Limits, Link, first_fault, readable_span, source_in, span_at, writable_span}

-- ---- descriptors of pieces

-- the descriptor of a piece as the driver writes it: with NEXT and the next one, or with neither
abbrev pub desc_of : Piece → ℕ → ℕ → Desc
desc_of p next_flag next = record { addr = p.place; len = p.len; flags = write_flag p.writable + next_flag; next = next }

-- these descriptors of a table hold these pieces, each linked to the one after it
abbrev pub LinkedAs : Bytes → Source → List ℕ → List Piece → Type 0
LinkedAs m s (d ∷ []) (p ∷ []) = linked_desc m s d ≡ desc_of p 0 0
LinkedAs m s (d ∷ d' ∷ ds) (p ∷ p' ∷ ps) = (linked_desc m s d ≡ desc_of p 1 d') × (d' < s.count) × LinkedAs m s (d' ∷ ds) (p' ∷ ps)
LinkedAs m s ds ps = ⊥

-- a descriptor of the packed format holds a piece, whatever its flags besides WRITE and INDIRECT
pub record IsPiece (d : Desc) (p : Piece) : Type 0 where
  pub place : d.addr ≡ p.place
  pub len : d.len ≡ p.len
  pub writable : is_writable d ≡ p.writable
  pub bytes : is_table d ≡ false

-- these hold these pieces, one after another
abbrev pub ListedAs : List Desc → List Piece → Type 0
ListedAs [] [] = ⊤
ListedAs (d ∷ ds) (p ∷ ps) = IsPiece d p × ListedAs ds ps
ListedAs ds ps = ⊥

-- so many numbers from one on
abbrev pub numbers_from : ℕ → ℕ → List ℕ
numbers_from zero i = []
numbers_from (suc count) i = i ∷ numbers_from count (i + 1)

-- a descriptor names a table of so many entries, which is mapped as a whole, and no other one follows it
pub record NamesTable (table : List Mapped) (d : Desc) (count : ℕ) (s : Source) : Type 0 where
  pub names : is_table d ≡ true
  pub last : goes_on d ≡ false
  pub some : 0 < count
  pub len : d.len ≡ 16 * count
  pub mapped : source_in table d ≡ Some s

-- ---- what a chain of pieces is to give

-- the translated range of a piece that has a byte
abbrev pub piece_span : List Mapped → Piece → Option Span
piece_span table p = if p.len == 0 then None else option_map (span_at p.len) (guest_place table p.place p.len)

abbrev pub readable_piece_span : List Mapped → Piece → Option Span
readable_piece_span table p = if p.writable then None else piece_span table p

abbrev pub writable_piece_span : List Mapped → Piece → Option Span
writable_piece_span table p = if p.writable then piece_span table p else None

-- a piece is mapped as a whole, or empty
abbrev pub is_mapped : List Mapped → Piece → Bool
is_mapped table p = not (not (p.len == 0) && is_none (guest_place table p.place p.len))

abbrev pub AreMapped : List Mapped → List Piece → Type 0
AreMapped table ps = AllByRecursion (λ p. is_mapped table p ≡ true) ps

-- a chain breaks no rule, and its spans are those of the pieces, the readable ones and the writable ones in their order
pub record Gives (x : Limits) (ls : List Link) (ps : List Piece) : Type 0 where
  pub sound : first_fault x [] ls ≡ None
  pub readable : filter_map (readable_span x.table) ls ≡ filter_map (readable_piece_span x.table) ps
  pub writable : filter_map (writable_span x.table) ls ≡ filter_map (writable_piece_span x.table) ps
