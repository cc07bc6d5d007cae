-- What holds of the numbers that a session keeps, whatever messages came.
use Rattle.std.specs.Prelude.{◌≡◌, ◌≤◌, ⊤, ℕ, ◌+◌, ◌%◌, ◌^◌, ◌<◌, length, Option, Some, None}
use Rattle.vub_session.specs.State.{ring_at}
use Rattle.vub_session.specs.declared.state.KeptRegion.{KeptRegion}
use Rattle.vub_session.specs.declared.state.Terms.{Terms}
use Rattle.vub_session.specs.declared.state.TheConstants.{MAX_QUEUES, MAX_QUEUE_SIZE}

-- the size of a ring, where it is given
abbrev pub SizeBounded : Option ℕ → Type 0
SizeBounded None = ⊤
SizeBounded (Some n) = (1 ≤ n) × (n ≤ MAX_QUEUE_SIZE)

-- an in-flight region of a device with so many queues: it lies in its space at a multiple of 8
pub record IsRegion (queues : ℕ) (r : KeptRegion) : Type 0 where
  pub counted : r.queues ≤ queues
  pub inside : r.offset + r.size ≤ r.space_size
  pub fits : r.space_size < 2 ^ 64
  pub aligned : r.offset % 8 ≡ 0

abbrev pub RegionBounded : ℕ → Option KeptRegion → Type 0
RegionBounded queues None = ⊤
RegionBounded queues (Some r) = IsRegion queues r

pub record IsBounded (queues : ℕ) (t : Terms) : Type 0 where
  pub count : length t.rings ≡ MAX_QUEUES
  pub sizes : (index : ℕ) → SizeBounded (ring_at t index).size
  pub region : RegionBounded queues t.region
