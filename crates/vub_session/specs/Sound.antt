-- What holds of a session whatever messages came: its numbers are bounded, each ring that is ready is attached, and each
-- attached ring lies where a queue can run.
use Rattle.std.specs.Prelude.{◌≡◌, ◌≤◌, ℕ, true, IsSome, List}
use Rattle.vub_memtable.specs.declared.region.Mapped.{Mapped}
use Rattle.vub_session.specs.Bounds.{IsBounded}
use Rattle.vub_session.specs.Ready.{can_run, is_ready, rings_of}
use Rattle.vub_session.specs.State.{ring_at}
use Rattle.vub_session.specs.declared.state.Ring.{Ring}
use Rattle.vub_session.specs.declared.state.State.{State}
use Rattle.vub_session.specs.declared.state.Terms.{Terms}
use Rattle.vub_session.specs.declared.state.TheConstants.{MAX_QUEUES}

-- a ring has all that makes it ready but that it is enabled, and lies where a queue can run
pub record Runs (table : List Mapped) (t : Terms) (index : ℕ) (ring : Ring) : Type 0 where
  pub can : can_run t index ring ≡ true
  pub lies : IsSome (rings_of t table index ring)

-- terms that a message may leave before rings are attached: those that were attached can still run
pub record IsCandidate (queues : ℕ) (table : List Mapped) (t : Terms) : Type 0 where
  pub bounded : IsBounded queues t
  pub attached : (index : ℕ) → (ring_at t index).is_attached ≡ true → Runs table t index (ring_at t index)

-- each ring that is ready is attached
abbrev pub ReadyAttached : Terms → Type 0
ReadyAttached t = (index : ℕ) → is_ready t index (ring_at t index) ≡ true → (ring_at t index).is_attached ≡ true

pub record IsSound (s : State) : Type 0 where
  pub some : 1 ≤ s.config.queues
  pub few : s.config.queues ≤ MAX_QUEUES
  pub terms : IsCandidate s.config.queues s.table s.terms
  pub ready : ReadyAttached s.terms
