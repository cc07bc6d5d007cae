-- The words for what a session keeps.
use Rattle.std.specs.Prelude.{◌≡◌, ◌<◌, ℕ, ◌/◌, ◌%◌, ◌==◌, Bool, true, false, nat_lt, if◌then◌else◌, [], slice_index_or, slice_set, replicate, Option, Some, None}
use Rattle.std.specs.List.{list_any}
use Rattle.vub_blkreq.specs.declared.features.TheConstants.Features as feature
use Rattle.vub_blkreq.specs.declared.features.TheConstants.ProtocolFeatures as protocol_feature
use Rattle.vub_blkreq.specs.declared.config.DeviceConfig.{DeviceConfig}
use Rattle.vub_blkreq.specs.declared.request.DeviceMode.{DeviceMode}
use Rattle.vub_session.specs.declared.state.Ring.{Ring}
use Rattle.vub_session.specs.declared.state.State.{State}
use Rattle.vub_session.specs.declared.state.Terms.{Terms}
use Rattle.vub_session.specs.declared.state.TheConstants.{MAX_QUEUES}

-- ---- features

-- the set has this feature of one bit
abbrev pub has : ℕ → ℕ → Bool
has set feature = set / feature % 2 == 1

abbrev pub is_packed : Terms → Bool
is_packed t = has t.features feature.RING_PACKED.0

abbrev pub has_version_1 : Terms → Bool
has_version_1 t = has t.features feature.VERSION_1.0

abbrev pub has_indirect : Terms → Bool
has_indirect t = has t.features feature.INDIRECT_DESC.0

-- rings are enabled by a message of their own
abbrev pub enables_rings : Terms → Bool
enables_rings t = has t.features feature.PROTOCOL_FEATURES.0

abbrev pub has_reply_ack : Terms → Bool
has_reply_ack t = has t.protocol protocol_feature.REPLY_ACK.0

abbrev pub has_inflight : Terms → Bool
has_inflight t = has t.protocol protocol_feature.INFLIGHT_SHMFD.0

-- what requests are told of the device
abbrev pub mode_of : State → DeviceMode
mode_of s = record {
  capacity = s.config.capacity;
  read_only = s.config.read_only;
  flush = has s.terms.features feature.FLUSH.0;
  discard = has s.terms.features feature.DISCARD.0;
  write_zeroes = has s.terms.features feature.WRITE_ZEROES.0;
}

-- ---- rings

-- a ring of which nothing was given
abbrev pub new_ring : Ring
new_ring = record { size = None; addresses = None; base = None; has_kick = false; has_bell = false; is_enabled = false; is_attached = false }

-- the ring of this index
abbrev pub ring_at : Terms → ℕ → Ring
ring_at t index = slice_index_or t.rings index new_ring

-- the same, if it is that of a queue
unfoldable pub ring_of : State → ℕ → Option Ring
ring_of s index = if nat_lt index s.config.queues then Some (ring_at s.terms index) else None

-- the same with another ring in this place
unfoldable pub with_ring : Terms → ℕ → Ring → Terms
with_ring t index ring = record t { rings = slice_set t.rings index ring }

-- some queue is attached
unfoldable pub is_running : Terms → Bool
is_running t = list_any (λ r. r.is_attached) t.rings

-- a queue runs on the ring
pub record IsAttached (s : State) (index : ℕ) : Type 0 where
  pub below : index < s.config.queues
  pub attached : (ring_at s.terms index).is_attached ≡ true

-- ---- before the first message

unfoldable pub new_terms : Terms
new_terms = record { features = 0; protocol = 0; has_table = false; region = None; rings = replicate MAX_QUEUES new_ring }

abbrev pub new_state : DeviceConfig → State
new_state config = record { config = config; terms = new_terms; table = []; refused = None }
