-- The driver's stores for one request, in their order (VIRTIO 1.2, 2.7.13).
use Rattle.std.specs.Prelude.{ℕ, ◌+◌, ◌%◌, List, [], ◌∷◌, ◌++◌}
use Rattle.byteorder.specs.Endian.{little_bytes}
use Rattle.vub_base.specs.declared.request.Ask.{Ask}
use Rattle.vub_shared.specs.Stores.{Store, one_store}
use Rattle.vub_ring.specs.Ring.{Ring, desc_place, avail_entry_place, avail_idx_place}
use Rattle.vub_driver.specs.Layout.{buffer_place, status_place}
use Rattle.vub_driver.specs.Requests.{Piece, header_bytes, written_bytes, data_place, pieces, descriptor_bytes}

-- one store of these bytes, or none where there are none
abbrev pub store_of_some : ℕ → ℕ → List ℕ → List Store
store_of_some space place [] = []
store_of_some space place (b ∷ bytes) = one_store space place (b ∷ bytes) ∷ []

-- the header, the data that the driver hands over, and 0xff as the status
abbrev pub buffer_stores : Ring → ℕ → Ask → List Store
buffer_stores r buffer ask =
    one_store r.desc_space buffer (header_bytes ask)
    ∷ (store_of_some r.desc_space (data_place buffer ask) (written_bytes ask)
    ++ one_store r.desc_space (status_place buffer) (255 ∷ []) ∷ [])

-- a descriptor for each piece, in the order of the chain; the last names no next one
abbrev pub chain_stores : Ring → List Piece → List ℕ → List Store
chain_stores r (p ∷ []) (d ∷ ds) = one_store r.desc_space (desc_place r d) (descriptor_bytes p 0 0) ∷ []
chain_stores r (p ∷ p' ∷ ps) (d ∷ d' ∷ ds) = one_store r.desc_space (desc_place r d) (descriptor_bytes p 1 d') ∷ chain_stores r (p' ∷ ps) (d' ∷ ds)
chain_stores r ps ds = []

-- the entry at avail.idx, and avail.idx, whose store offers the request
abbrev pub offer_stores : Ring → ℕ → ℕ → List Store
offer_stores r index head =
    one_store r.avail_space (avail_entry_place r index) (little_bytes 2 head)
    ∷ one_store r.avail_space (avail_idx_place r) (little_bytes 2 ((index + 1) % 65536))
    ∷ []

-- all stores of a request with this head, whose descriptors stand in the ring; `index` is avail.idx before them
abbrev pub stores_with : Ring → ℕ → ℕ → Ask → List ℕ → List Store
stores_with r index head ask ds =
    buffer_stores r (buffer_place r.desc head) ask
    ++ (chain_stores r (pieces (buffer_place r.desc head) ask) ds ++ offer_stores r index head)

-- the same; the head is the first of the descriptors
abbrev pub request_stores : Ring → ℕ → Ask → List ℕ → List Store
request_stores r index ask [] = []
request_stores r index ask (head ∷ ds) = stores_with r index head ask (head ∷ ds)
