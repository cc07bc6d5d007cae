-- Which stores of a driver are lawful, by history and memory alone: it changes nothing that the device may use (VIRTIO
-- 1.2, 2.7.13 and 2.7.14). Every request that is offered and not collected is outstanding.
use Rattle.std.specs.Prelude.{◌≡◌, ◌≢◌, ◌⊎◌, ◌≤◌, ◌<◌, ℕ, ◌+◌, ◌%◌, false, List, [], ◌∷◌, length, take, get_or, slice_index, ⊤}
use Rattle.byteorder.specs.Endian.{little_bytes}
use Rattle.vub_base.specs.declared.header.Header1.{Header1}
use Rattle.vub_base.specs.declared.store.Tag.TheVariants.{G}
use Rattle.vub_shared.specs.Stores.{Store, one_store}
use Rattle.vub_ring.specs.Ring.{desc_place, avail_entry_place, avail_idx_place, avail_idx}
use Rattle.vub_split.specs.Words.{OffUsed, used_bytes}
use Rattle.vub_driver.specs.Layout.{guest_space, ring_of, area_place, buffer_place, buffer_bytes}
use Rattle.vub_driver.specs.OwnStores.{LiesIn}
use Rattle.vub_device.specs.Past.{offers, published, collected, is_among}
use Rattle.vub_schedule.specs.declared.types.Event.{Event}
use Rattle.vub_schedule.specs.declared.types.Event.TheVariants as events
use Rattle.vub_report.specs.declared.items.Item.{Item}
use Rattle.vub_report.specs.declared.items.Item.TheVariants as items
use Rattle.vub_report.specs.declared.items.Record.{Record}
use Rattle.vub_run.specs.Before.{BeforeEach}
use Rattle.vub_run.specs.Memory.{Scene, opening_scene, space_of, after_items}

-- ---- what the device may use

-- the number of a request that is offered and not collected
pub record IsOutstanding (q : ℕ) (s : Scene) (k : ℕ) : Type 0 where
  pub offered : k < offers s.past q
  pub kept : is_among (take (collected s.past q) (published s.past q)) k ≡ false

-- a descriptor of the table that is in the chain of no outstanding request
pub record IsFreeDescriptor (h : Header1) (q : ℕ) (s : Scene) (d : ℕ) : Type 0 where
  pub below : d < h.size
  pub free : (k : ℕ) → IsOutstanding q s k → is_among (get_or (s.descriptors q) k []) d ≡ false

-- a head under which no request is outstanding
pub record IsFreeHead (h : Header1) (q : ℕ) (s : Scene) (d : ℕ) : Type 0 where
  pub below : d < h.size
  pub free : (k : ℕ) → IsOutstanding q s k → slice_index (s.heads q) k ≢ d

-- fewer requests are outstanding than the queue has places: so no entry that the device may still read is overwritten,
-- and avail.idx doesn't lap
abbrev pub HasRoom : Header1 → ℕ → Scene → Type 0
HasRoom h q s = offers s.past q < h.size + collected s.past q

-- ---- the four kinds of stores

-- where the driver is: the base advanced by the number of offers
abbrev pub next_index : Header1 → ℕ → Scene → ℕ
next_index h q s = (h.base + offers s.past q) % 65536

-- into a free descriptor, which lies before the avail ring
pub record WritesDescriptor (h : Header1) (q : ℕ) (s : Scene) (st : Store) : Type 0 where
  pub descriptor : ℕ
  pub free : IsFreeDescriptor h q s descriptor
  pub before_rings : desc_place (ring_of q h.size) descriptor + 16 ≤ (ring_of q h.size).avail
  pub lies : LiesIn (desc_place (ring_of q h.size) descriptor) 16 st

-- into the buffer of a free head, which lies past the used ring
pub record WritesBuffer (h : Header1) (q : ℕ) (s : Scene) (st : Store) : Type 0 where
  pub head : ℕ
  pub free : IsFreeHead h q s head
  pub past_rings : (ring_of q h.size).used + used_bytes (ring_of q h.size) ≤ buffer_place (area_place q) head
  pub lies : LiesIn (buffer_place (area_place q) head) buffer_bytes st

-- the avail entry of the next index
pub record WritesEntry (h : Header1) (q : ℕ) (s : Scene) (st : Store) : Type 0 where
  pub room : HasRoom h q s
  pub place : st.place ≡ avail_entry_place (ring_of q h.size) (next_index h q s)
  pub whole : length st.bytes ≡ 2

-- avail.idx forward by one
pub record MovesIndex (h : Header1) (q : ℕ) (s : Scene) (st : Store) : Type 0 where
  pub room : HasRoom h q s
  pub place : st.place ≡ avail_idx_place (ring_of q h.size)
  pub one_more : st.bytes ≡ little_bytes 2 ((next_index h q s + 1) % 65536)

-- A lawful store of the driver of queue q at a scene, where memory's avail.idx is the driver's index. It is in guest
-- memory, and so never of requests in flight; in the area of the queue, and so never of another one's; and never of
-- the used ring.
pub record IsLawful (h : Header1) (q : ℕ) (s : Scene) (st : Store) : Type 0 where
  pub index : avail_idx (ring_of q h.size) s.memory ≡ next_index h q s
  pub space : st.space ≡ guest_space
  pub area : LiesIn (area_place q) 1048576 st
  pub off_used : OffUsed (ring_of q h.size) st
  pub owned : WritesDescriptor h q s st ⊎ (WritesBuffer h q s st ⊎ (WritesEntry h q s st ⊎ MovesIndex h q s st))

-- ---- along a run

-- a store of the driver in an event: it is a guest event, and the store lawful for its queue
abbrev pub IsLawfulIn : Header1 → Scene → Store → Event → Type 0
IsLawfulIn h s st (events.Guest q count) = IsLawful h q s st
IsLawfulIn h s st e = ⊥

-- an item of an event at the scene before it: where it is a store of the driver, it is lawful
abbrev pub IsLawfulItem : Header1 → Event → Scene → Item → Type 0
IsLawfulItem h e s (items.Store G area place bytes) = IsLawfulIn h s (one_store (space_of area) place bytes) e
IsLawfulItem h e s i = ⊤

-- each store of a driver in these records is lawful where it is made
abbrev pub LawfulFrom : Header1 → Scene → List Record → Type 0
LawfulFrom h s [] = ⊤
LawfulFrom h s (r ∷ rs) = BeforeEach h (IsLawfulItem h r.event) s r.items × LawfulFrom h (after_items h r.items s) rs

abbrev pub EveryStoreIsLawful : Header1 → List Record → Type 0
EveryStoreIsLawful h records = LawfulFrom h (opening_scene h) records
