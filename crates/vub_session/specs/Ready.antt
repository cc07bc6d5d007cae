-- When a ring is ready, and where it lies (VIRTIO 1.2, 2.7 and 2.8; vhost-user, "Ring states" and "Inflight I/O tracking").
use Rattle.std.specs.List.{range_with_len}
use Rattle.std.specs.Prelude.{ℕ, zero, suc, ◌+◌, ◌*◌, ◌%◌, ◌==◌, ◌&&◌, ◌||◌, Bool, true, false, not, nat_lt, nat_le, is_some, is_none, if◌then◌else◌, List, map, Option, Some, None}
use Rattle.vub_base.specs.declared.store.Space.{Space}
use Rattle.vub_memtable.specs.declared.region.Mapped.{Mapped}
use Rattle.vub_memtable.specs.Tables.{user_place}
use Rattle.vub_session.specs.State.{enables_rings, has_inflight, has_version_1, is_packed, ring_at}
use Rattle.vub_session.specs.declared.ready.Parts.{Parts}
use Rattle.vub_session.specs.declared.state.Addresses.{Addresses}
use Rattle.vub_session.specs.declared.state.KeptRegion.{KeptRegion}
use Rattle.vub_session.specs.declared.state.Ring.{Ring}
use Rattle.vub_session.specs.declared.state.Terms.{Terms}
use Rattle.vub_session.specs.declared.state.TheConstants.{MAX_QUEUES}
use Rattle.vub_setup.specs.declared.setup.Rings.{Rings}
use Rattle.vub_setup.specs.declared.setup.Rings.TheVariants.{Split, Packed}
use Rattle.vub_setup.specs.Setups.{region_size}

-- ---- ready rings

-- a power of two up to 65,536 divides it, and no other number does
abbrev pub is_power_of_two : ℕ → Bool
is_power_of_two n = nat_lt 0 n && (65536 % n == 0)

-- the region counts the queue, and the ring's size is at most the region's, and a power of two for a split ring
unfoldable pub sizes_fit : Bool → ℕ → KeptRegion → ℕ → Bool
sizes_fit packed index region n = nat_lt index region.queues && (nat_le n region.queue_size && (packed || is_power_of_two n))

abbrev pub region_fits : Bool → ℕ → Option KeptRegion → Option ℕ → Bool
region_fits packed index None size = false
region_fits packed index (Some region) None = false
region_fits packed index (Some region) (Some n) = sizes_fit packed index region n

-- addresses, base and kick are given
abbrev pub is_given : Ring → Bool
is_given ring = is_some ring.addresses && (is_some ring.base && ring.has_kick)

-- all that makes a ring ready but that it is enabled
unfoldable pub can_run : Terms → ℕ → Ring → Bool
can_run t index ring = has_version_1 t && (has_inflight t && (t.has_table && (is_given ring && region_fits (is_packed t) index t.region ring.size)))

unfoldable pub is_ready : Terms → ℕ → Ring → Bool
is_ready t index ring = can_run t index ring && (ring.is_enabled || not (enables_rings t))

-- ---- where a ring lies

-- the space and the place of so many bytes from an address of the front end on, where they are mapped and the place is
-- a multiple of `alignment`
abbrev pub aligned_place : ℕ → Option (ℕ × ℕ) → Option (Space × ℕ)
aligned_place alignment None = None
aligned_place alignment (Some x) = if x.1 % alignment == 0 then Some (record { number = x.0 }, x.1) else None

unfoldable pub extent_place : List Mapped → ℕ → ℕ → ℕ → Option (Space × ℕ)
extent_place table address len alignment = aligned_place alignment (user_place table address len)

-- the bytes of the descriptors, and of the other two parts of a split ring; those of a packed one have 4
abbrev pub desc_size : ℕ → ℕ
desc_size n = 16 * n

abbrev pub avail_size : Bool → ℕ → ℕ
avail_size packed n = if packed then 4 else 4 + 2 * n

abbrev pub used_size : Bool → ℕ → ℕ
used_size packed n = if packed then 4 else 4 + 8 * n

-- what the place of an avail ring, or of a driver area, is a multiple of
abbrev pub avail_alignment : Bool → ℕ
avail_alignment packed = if packed then 4 else 2

abbrev pub with_used : Space × ℕ → Space × ℕ → Option (Space × ℕ) → Option Parts
with_used desc avail None = None
with_used desc avail (Some used) = Some (record { desc = desc; avail = avail; used = used })

abbrev pub with_avail : Space × ℕ → Option (Space × ℕ) → Option (Space × ℕ) → Option Parts
with_avail desc None used = None
with_avail desc (Some avail) used = with_used desc avail used

abbrev pub with_desc : Option (Space × ℕ) → Option (Space × ℕ) → Option (Space × ℕ) → Option Parts
with_desc None avail used = None
with_desc (Some desc) avail used = with_avail desc avail used

-- the three parts of a ring, where each is mapped and aligned
unfoldable pub parts_of : Bool → List Mapped → Addresses → ℕ → Option Parts
parts_of packed table a n =
    with_desc (extent_place table a.desc (desc_size n) 16)
    (extent_place table a.avail (avail_size packed n) (avail_alignment packed))
    (extent_place table a.used (used_size packed n) 4)

-- where the queue's part of the in-flight region begins: the parts stand one behind the other, each for as many
-- descriptors as the region tells
unfoldable pub queue_place : Bool → ℕ → KeptRegion → ℕ
queue_place packed index region = region.offset + index * region_size packed region.queue_size

-- the part ends within the region
unfoldable pub holds_queue : Bool → ℕ → KeptRegion → Bool
holds_queue packed index region = nat_le ((index + 1) * region_size packed region.queue_size) region.size

abbrev pub split_rings : ℕ → Parts → Space → ℕ → Rings
split_rings n parts space place =
    Split (record { desc = parts.desc; avail = parts.avail; used = parts.used; size = n }) (record { space = space; place = place; size = n })

abbrev pub packed_rings : ℕ → Parts → Space → ℕ → Rings
packed_rings n parts space place = Packed (record { ring = parts.desc; size = n }) (record { space = space; place = place; size = n })

abbrev pub rings_at : Bool → ℕ → Parts → Space → ℕ → Rings
rings_at packed n parts space place = if packed then packed_rings n parts space place else split_rings n parts space place

abbrev pub with_parts : Bool → ℕ → ℕ → KeptRegion → Option Parts → Option Rings
with_parts packed index n region None = None
with_parts packed index n region (Some parts) =
    if holds_queue packed index region then Some (rings_at packed n parts region.space (queue_place packed index region)) else None

abbrev pub rings_in : Bool → List Mapped → ℕ → Option KeptRegion → Option ℕ → Option Addresses → Option Rings
rings_in packed table index None size addresses = None
rings_in packed table index (Some region) None addresses = None
rings_in packed table index (Some region) (Some n) None = None
rings_in packed table index (Some region) (Some n) (Some a) = with_parts packed index n region (parts_of packed table a n)

-- where a ring and its part of the in-flight region lie, if all of it does
unfoldable pub rings_of : Terms → List Mapped → ℕ → Ring → Option Rings
rings_of t table index ring = rings_in (is_packed t) table index t.region ring.size ring.addresses

-- ---- what a message makes of ready rings

-- the ring would be ready, and can't run
unfoldable pub is_bad : Terms → List Mapped → ℕ → Bool
is_bad t table index = is_ready t index (ring_at t index) && is_none (rings_of t table index (ring_at t index))

-- the least number below n that passes
abbrev pub or_last : Option ℕ → Bool → ℕ → Option ℕ
or_last (Some k) last n = Some k
or_last None true n = Some n
or_last None false n = None

abbrev pub least : (ℕ → Bool) → ℕ → Option ℕ
least p zero = None
least p (suc n) = or_last (least p n) (p n) n

abbrev pub bad_ring : Terms → List Mapped → ℕ → Option ℕ
bad_ring t table queues = least (is_bad t table) queues

-- a ring that is ready is attached from now on
abbrev pub attached : Terms → ℕ → Ring
attached t index = record (ring_at t index) { is_attached = (ring_at t index).is_attached || is_ready t index (ring_at t index) }

unfoldable pub attach : Terms → Terms
attach t = record t { rings = map (attached t) (range_with_len 0 MAX_QUEUES) }
