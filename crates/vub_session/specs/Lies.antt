-- Where the parts of a ring lie that are given to a queue.
use Rattle.std.specs.Prelude.{◌≡◌, ◌≤◌, ⊤, ℕ, ◌+◌, ◌%◌, Bool, true, All, Option, Some, None}
use Rattle.vub_base.specs.declared.store.Space.{Space}
use Rattle.vub_memtable.specs.Regions.{IsHeld}
use Rattle.vub_memtable.specs.declared.region.Mapped.{Mapped}
use Rattle.vub_session.specs.declared.finding.Found.{Found}
use Rattle.vub_session.specs.Ready.{avail_alignment, avail_size, desc_size, used_size}
use Rattle.vub_session.specs.declared.ready.Parts.{Parts}
use Rattle.vub_session.specs.declared.state.KeptRegion.{KeptRegion}
use Rattle.vub_session.specs.declared.state.State.{State}

-- each part lies in its space at its alignment
pub record PartsLie (sizes : ℕ → ℕ) (packed : Bool) (n : ℕ) (p : Parts) : Type 0 where
  pub desc : p.desc.1 + desc_size n ≤ sizes p.desc.0.number
  pub avail : p.avail.1 + avail_size packed n ≤ sizes p.avail.0.number
  pub used : p.used.1 + used_size packed n ≤ sizes p.used.0.number
  pub desc_aligned : p.desc.1 % 16 ≡ 0
  pub avail_aligned : p.avail.1 % avail_alignment packed ≡ 0
  pub used_aligned : p.used.1 % 4 ≡ 0

-- the space of the in-flight region has the size that it had when it was handed out
abbrev pub RegionSized : (ℕ → ℕ) → Option KeptRegion → Type 0
RegionSized sizes None = ⊤
RegionSized sizes (Some r) = sizes r.space.number ≡ r.space_size

-- and so have all spaces of a session
pub record AreSized (sizes : ℕ → ℕ) (s : State) : Type 0 where
  pub table : All (IsHeld sizes) s.table
  pub region : RegionSized sizes s.terms.region

-- each space that a session keeps was handed out, and has the size that it had then
abbrev pub SpaceHeld : (ℕ → Bool) → (ℕ → ℕ) → Space → ℕ → Type 0
SpaceHeld handed sizes space size = (handed space.number ≡ true) × (sizes space.number ≡ size)

abbrev pub IsMappedHeld : (ℕ → Bool) → (ℕ → ℕ) → Mapped → Type 0
IsMappedHeld handed sizes m = SpaceHeld handed sizes m.space m.space_size

abbrev pub IsFoundHeld : (ℕ → Bool) → (ℕ → ℕ) → Found → Type 0
IsFoundHeld handed sizes f = SpaceHeld handed sizes f.space f.size

abbrev pub RegionHeld : (ℕ → Bool) → (ℕ → ℕ) → Option KeptRegion → Type 0
RegionHeld handed sizes None = ⊤
RegionHeld handed sizes (Some r) = SpaceHeld handed sizes r.space r.space_size

pub record AreHeld (handed : ℕ → Bool) (sizes : ℕ → ℕ) (s : State) : Type 0 where
  pub table : All (IsMappedHeld handed sizes) s.table
  pub region : RegionHeld handed sizes s.terms.region
