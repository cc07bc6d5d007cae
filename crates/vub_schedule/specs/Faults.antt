-- The first line outside the grammar.
use Rattle.std.specs.Prelude.{◌≡◌, ℕ, ◌+◌, ◌<◌, List, ◌++◌, length, ◌⊎◌}
use Rattle.std.specs.List.{AllByRecursion, flat_map}
use Rattle.vub_base.specs.declared.header.Header1.{Header1}
use Rattle.vub_schedule.specs.declared.types.Event.{Event}
use Rattle.vub_schedule.specs.declared.types.Schedule.{Schedule}
use Rattle.vub_schedule.specs.declared.fault.ScheduleFault.{ScheduleFault}
use Rattle.vub_schedule.specs.declared.fault.ScheduleFault.TheVariants.{BadLine, Memory}
use Rattle.vub_schedule.specs.Spelling.{header_line, event_line, spelling, IsHeader, IsEvent, IsSchedule}

-- no header of the grammar stands at the front
abbrev pub NoHeader : List ℕ → Type 0
NoHeader bytes = (h : Header1) (more : List ℕ) → IsHeader h → bytes ≡ header_line h ++ more → ⊥

-- no event of the grammar under this header stands at the front
abbrev pub NoEvent : Header1 → List ℕ → Type 0
NoEvent h bytes = (e : Event) (more : List ℕ) → IsEvent h e → bytes ≡ event_line e ++ more → ⊥

-- The text begins with a schedule of n - 1 lines, and what stands behind it is not nothing and
-- doesn't begin with an event.
pub record Stops (bytes : List ℕ) (n : ℕ) (s : Schedule) (rest : List ℕ) : Type 0 where
  pub good : IsSchedule s
  pub parts : bytes ≡ spelling s ++ rest
  pub more : 0 < length rest
  pub bad : NoEvent s.header rest
  pub numbered : n ≡ length s.events + 2

-- line n is the first outside the grammar: the first of all, or one behind a schedule
abbrev pub IsFirstBad : List ℕ → ℕ → Type 0
IsFirstBad bytes n = ((n ≡ 1) × NoHeader bytes) ⊎ ((s : Schedule) × (rest : List ℕ) × Stops bytes n s rest)

-- when each fault comes: a bad line for its line, want of memory at any time
abbrev pub Causes : List ℕ → ScheduleFault → Type 0
Causes bytes (BadLine n) = IsFirstBad bytes n
Causes bytes Memory = Unit {0}

-- the same of the lines behind the header
pub record LinesStop (h : Header1) (bytes : List ℕ) (n : ℕ) (events : List Event) (rest : List ℕ) : Type 0 where
  pub good : AllByRecursion (IsEvent h) events
  pub parts : bytes ≡ flat_map event_line events ++ rest
  pub more : 0 < length rest
  pub bad : NoEvent h rest
  pub numbered : n ≡ length events + 2

abbrev pub LinesCause : Header1 → List ℕ → ScheduleFault → Type 0
LinesCause h bytes (BadLine n) = (events : List Event) × (rest : List ℕ) × LinesStop h bytes n events rest
LinesCause h bytes Memory = Unit {0}
