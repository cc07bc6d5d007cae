-- The stores of a request that waits, stage by stage.
use Rattle.std.specs.Prelude.{ℕ, ◌+◌, ◌%◌, nat_lt, is_some, if◌then◌else◌, List, [], ◌∷◌, length, Option, Some, None}
use Rattle.byteorder.specs.Endian.{little_bytes}
use Rattle.vub_base.specs.declared.request.Ask.{Ask}
use Rattle.vub_shared.specs.Stores.{Store, one_store}
use Rattle.vub_ring.specs.Ring.{Ring, desc_place, avail_entry_place, avail_idx_place}
use Rattle.vub_driver.specs.Layout.{buffer_place, status_place}
use Rattle.vub_driver.specs.Requests.{header_bytes, written_bytes, data_place, readable_piece, writable_piece}
use Rattle.vub_driver.specs.GuestChain.{Links, second}
use Rattle.vub_guest.specs.GuestRequest.{data_piece, table_entry}
use Rattle.vub_guest.specs.declared.guest.Chain.{Chain}
use Rattle.vub_guest.specs.declared.guest.Stage.{Stage}
use Rattle.vub_guest.specs.declared.guest.Stage.TheVariants.{Header, Data, Status, HeaderDescriptor, DataDescriptor, StatusDescriptor, AvailEntry, AvailIdx}

-- the descriptors of a chain
abbrev pub links_of : Chain → Links
links_of c = record { head = c.head; body = c.body; status = c.status }

abbrev pub buffer_of : Ring → Links → ℕ
buffer_of r l = buffer_place r.desc l.head

-- the store of a stage; `index` is avail.idx before the offer
abbrev pub store_at : Ring → ℕ → Ask → Links → Stage → Store
store_at r index ask l Header = one_store r.desc_space (buffer_of r l) (header_bytes ask)
store_at r index ask l Data = one_store r.desc_space (data_place (buffer_of r l) ask) (written_bytes ask)
store_at r index ask l Status = one_store r.desc_space (status_place (buffer_of r l)) (255 ∷ [])
store_at r index ask l HeaderDescriptor = one_store r.desc_space (desc_place r l.head) (table_entry (readable_piece (buffer_of r l) 16) (Some (second l)))
store_at r index ask l DataDescriptor = one_store r.desc_space (desc_place r (second l)) (table_entry (data_piece (buffer_of r l) ask) (Some l.status))
store_at r index ask l StatusDescriptor = one_store r.desc_space (desc_place r l.status) (table_entry (writable_piece (status_place (buffer_of r l)) 1) None)
store_at r index ask l AvailEntry = one_store r.avail_space (avail_entry_place r index) (little_bytes 2 l.head)
store_at r index ask l AvailIdx = one_store r.avail_space (avail_idx_place r) (little_bytes 2 ((index + 1) % 65536))

-- the stage after a stage; none after the last
abbrev pub stage_after : Ask → Links → Stage → Option Stage
stage_after ask l Header = if nat_lt 0 (length (written_bytes ask)) then Some Data else Some Status
stage_after ask l Data = Some Status
stage_after ask l Status = Some HeaderDescriptor
stage_after ask l HeaderDescriptor = if is_some l.body then Some DataDescriptor else Some StatusDescriptor
stage_after ask l DataDescriptor = Some StatusDescriptor
stage_after ask l StatusDescriptor = Some AvailEntry
stage_after ask l AvailEntry = Some AvailIdx
stage_after ask l AvailIdx = None

-- ---- all stores from a stage on

abbrev pub from_entry : Ring → ℕ → Ask → Links → List Store
from_entry r index ask l = store_at r index ask l AvailEntry ∷ store_at r index ask l AvailIdx ∷ []

abbrev pub from_status_descriptor : Ring → ℕ → Ask → Links → List Store
from_status_descriptor r index ask l = store_at r index ask l StatusDescriptor ∷ from_entry r index ask l

abbrev pub from_data_descriptor : Ring → ℕ → Ask → Links → List Store
from_data_descriptor r index ask l = store_at r index ask l DataDescriptor ∷ from_status_descriptor r index ask l

abbrev pub from_header_descriptor : Ring → ℕ → Ask → Links → List Store
from_header_descriptor r index ask l = store_at r index ask l HeaderDescriptor ∷ (if is_some l.body then from_data_descriptor r index ask l else from_status_descriptor r index ask l)

abbrev pub from_status : Ring → ℕ → Ask → Links → List Store
from_status r index ask l = store_at r index ask l Status ∷ from_header_descriptor r index ask l

abbrev pub from_data : Ring → ℕ → Ask → Links → List Store
from_data r index ask l = store_at r index ask l Data ∷ from_status r index ask l

unfoldable pub stores_from : Ring → ℕ → Ask → Links → Stage → List Store
stores_from r index ask l Header = store_at r index ask l Header ∷ (if nat_lt 0 (length (written_bytes ask)) then from_data r index ask l else from_status r index ask l)
stores_from r index ask l Data = from_data r index ask l
stores_from r index ask l Status = from_status r index ask l
stores_from r index ask l HeaderDescriptor = from_header_descriptor r index ask l
stores_from r index ask l DataDescriptor = from_data_descriptor r index ask l
stores_from r index ask l StatusDescriptor = from_status_descriptor r index ask l
stores_from r index ask l AvailEntry = from_entry r index ask l
stores_from r index ask l AvailIdx = store_at r index ask l AvailIdx ∷ []
