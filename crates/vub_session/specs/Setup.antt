-- What a queue is made from, where its ring is ready.
use Rattle.std.specs.Prelude.{ℕ, Bool, false, if◌then◌else◌, Option, Some, None, option_map, unwrap_or}
use Rattle.vub_session.specs.Ready.{is_ready, rings_of}
use Rattle.vub_session.specs.State.{has_indirect, ring_at, ring_of}
use Rattle.vub_session.specs.declared.state.Ring.{Ring}
use Rattle.vub_session.specs.declared.state.State.{State}
use Rattle.vub_setup.specs.declared.setup.QueueSetup.{QueueSetup}
use Rattle.vub_setup.specs.declared.setup.Rings.{Rings}

-- the ring of a queue is ready
abbrev pub is_ready_in : State → ℕ → Option Ring → Bool
is_ready_in s queue None = false
is_ready_in s queue (Some ring) = is_ready s.terms queue ring

unfoldable pub queue_ready : State → ℕ → Bool
queue_ready s queue = is_ready_in s queue (ring_of s queue)

abbrev pub setup_with : State → ℕ → Ring → Rings → QueueSetup
setup_with s queue ring rings = record { index = queue; rings = rings; base = unwrap_or ring.base 0; indirect = has_indirect s.terms; bell = ring.has_bell }

abbrev pub setup_in : State → ℕ → Ring → Option QueueSetup
setup_in s queue ring = option_map (setup_with s queue ring) (rings_of s.terms s.table queue ring)

unfoldable pub setup_of : State → ℕ → Option QueueSetup
setup_of s queue = if queue_ready s queue then setup_in s queue (ring_at s.terms queue) else None
