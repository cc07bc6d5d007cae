-- The spans of a chain as contracts see them.
use Rattle.std.specs.Prelude.{◌≤◌, ℕ, ◌+◌, List, All}
use Rattle.vub_memtable.specs.declared.region.Mapped.{Mapped}
use Rattle.vub_memtable.specs.Regions.{IsHeld}
use Rattle.vub_chain.specs.declared.spans.Span.{Span}

pub record SpanLists : Type 0 where
  pub room : ℕ
  pub readable : List Span
  pub writable : List Span

-- a span lies in its space
abbrev pub LiesIn : (ℕ → ℕ) → Span → Type 0
LiesIn sizes s = s.place + s.len ≤ sizes s.space.number

pub record SpansLie (sizes : ℕ → ℕ) (s : SpanLists) : Type 0 where
  pub readable : All (LiesIn sizes) s.readable
  pub writable : All (LiesIn sizes) s.writable

-- wherever the regions of a table are held, spans that lie in their spaces go on to
abbrev pub KeepsLying : List Mapped → SpanLists → SpanLists → Type 0
KeepsLying table old new = (sizes : ℕ → ℕ) → All (IsHeld sizes) table → SpansLie sizes old → SpansLie sizes new
