-- A region that was never made, and what holds between two stores of a start that makes it (vhost-user, "Inflight I/O
-- tracking").
use Rattle.std.specs.Prelude.{◌≡◌, ◌≤◌, ◌<◌, ℕ, zero, suc, ◌+◌, List, [], ◌∷◌, ⊤}
use Rattle.vub_base.specs.declared.position.Position.{Position}
use Rattle.vub_slots.specs.Slots.{SlotWords, buffer_slots}
use Rattle.vub_slots.specs.Stands.{DriverSlots, IsSlots}
use Rattle.vub_slots.specs.Stands.Stand.{Hidden}
use Rattle.vub_infl_packed.specs.Region.{RegionWords, used, old_used}
use Rattle.vub_packed_facts.specs.Left.{used_number}

-- no request is open, and the slots stand as this position says, at which the queue began
pub record IsUnmade (n : ℕ) (driver : DriverSlots) (w : RegionWords) (s : SlotWords) (base : Position) : Type 0 where
  pub version : w.version ≡ 0
  pub slots : IsSlots n driver driver.collected (used_number driver) (used_number driver) (used_number driver + buffer_slots driver.waiting) s base base (Hidden 0)

-- which store is next: PI1; PI2 and then PI3 of an entry, or PI4 after the last; PI5
pub data Making : Type 0 where
  Features : Making
  Frees : (entry : ℕ) → Making
  Links : (entry : ℕ) → Making
  Makes : Making

-- the entries below i aren't in flight, and each is followed by the next one
abbrev pub AreFree : RegionWords → ℕ → Type 0
AreFree w i = (j : ℕ) → j < i → (w.inflight j ≡ 0) × (w.next j ≡ j + 1)

abbrev pub InMaking : ℕ → RegionWords → Position → Making → Type 0
InMaking n w base Features = ⊤
InMaking n w base (Frees entry) = (entry ≤ n) × AreFree w entry
InMaking n w base (Links entry) = (entry < n) × AreFree w entry × (w.inflight entry ≡ 0)
InMaking n w base Makes = AreFree w n × (used w ≡ base) × (old_used w ≡ base)

-- a start before the store of this stage; cut off anywhere, the region was never made
pub record InNew (n : ℕ) (driver : DriverSlots) (w : RegionWords) (s : SlotWords) (base : Position) (stage : Making) : Type 0 where
  pub unmade : IsUnmade n driver w s base
  pub stage_is : InMaking n w base stage

-- so many entries from i on
abbrev pub counting : ℕ → ℕ → List ℕ
counting i zero = []
counting i (suc more) = i ∷ counting (i + 1) more
