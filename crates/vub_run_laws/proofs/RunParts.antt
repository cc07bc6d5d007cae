-- Split chains. Where each store of a request goes: into its buffer, into a descriptor that belongs to its head, into the avail entry
-- of the driver's index, or to avail.idx.
use Rattle.std.proofs.Common.{◌≡◌, ◌≤◌, ◌<◌, ◌⊎◌, ℕ, ◌+◌, ◌%◌, Bool, true, false, List, [], ◌∷◌, ◌++◌, length, refl, sym, subst, inl, inr, arith}
use Rattle.std.specs.Prelude.{Option, Some}
use Rattle.std.specs.List.{AllByRecursion}
use Rattle.byteorder.specs.Endian.{little_bytes}
use Rattle.vub_base.specs.declared.request.Ask.{Ask}
use Rattle.vub_base.specs.declared.request.Ask.TheVariants as wants
use Rattle.vub_shared.specs.Bytes.{Bytes}
use Rattle.vub_shared.specs.Stores.{Store, one_store}
use Rattle.vub_ring.specs.Ring.{desc_place, avail_entry_place, avail_idx_place}
use Rattle.vub_driver.specs.Drivers.{Driver, Waiting}
use Rattle.vub_driver.specs.Layout.{buffer_bytes, status_place, sectors_place}
use Rattle.vub_driver.specs.OwnStores.{LiesIn}
use Rattle.vub_driver.specs.Requests.{Piece, pieces, written_bytes, header_bytes, descriptor_bytes, has_data}
use Rattle.vub_driver.specs.Stores.{store_of_some, buffer_stores, chain_stores, offer_stores, request_stores}
use Rattle.vub_device.specs.declared.entry.Entry.{Entry}
use Rattle.vub_device.specs.Requests.{request_of}
use Rattle.vub_run_laws.proofs.RingGood.{the_ring, IsWaiting}
use Rattle.vub_run_laws.proofs.RunGood.{IsWide}
use Rattle.vub_run_laws.proofs.RunFrames.{length_little}
use Rattle.vub_run_laws.proofs.RunChains.{buffer_at, chain_of, desc_long}
use Rattle.vub_run_laws.proofs.RunChainsStores.{header_long}
use Rattle.vub_run_laws.proofs.RunChainsMade.{all_append, all_last}
use Rattle.vub_run_laws.proofs.RunChainsTurns.{IsPrepared}

-- a descriptor of the table that belongs to the head
pub record IsOwned (n : ℕ) (owner : ℕ → Option ℕ) (head d : ℕ) : Type 0 where
  pub below : d < n
  pub mine : owner d ≡ Some head

abbrev pub IsPart : ℕ → ℕ → ℕ → (ℕ → Option ℕ) → ℕ → ℕ → List ℕ → Type 0
IsPart q n index owner head p bs =
    ((d : ℕ) × IsOwned n owner head d × LiesIn (desc_place (the_ring q n) d) 16 (one_store 0 p bs))
    ⊎ (LiesIn (buffer_at q head) buffer_bytes (one_store 0 p bs)
    ⊎ (((p ≡ avail_entry_place (the_ring q n) index) × (length bs ≡ 2)) ⊎ ((p ≡ avail_idx_place (the_ring q n)) × (bs ≡ little_bytes 2 ((index + 1) % 65536)))))

abbrev pub AreParts : ℕ → ℕ → ℕ → (ℕ → Option ℕ) → ℕ → List Store → Type 0
AreParts q n index owner head sts = AllByRecursion (λ (st : Store). IsPart q n index owner head st.place st.bytes) sts

-- ---- the buffer

in_buffer : (q n index : ℕ) (owner : ℕ → Option ℕ) (head p : ℕ) (bs : List ℕ) → buffer_at q head ≤ p → p + length bs ≤ buffer_at q head + 8192 → IsPart q n index owner head p bs
in_buffer q n index owner head p bs from upto = inr (inl (record { from = from; upto = upto }))

some_parts : (q n index : ℕ) (owner : ℕ → Option ℕ) (head : ℕ) (bytes : List ℕ) → length bytes ≤ 4096 → AreParts q n index owner head (store_of_some 0 (sectors_place (buffer_at q head)) bytes)
some_parts q n index owner head [] few = tt
some_parts q n index owner head (b ∷ bytes) few = (in_buffer q n index owner head (sectors_place (buffer_at q head)) (b ∷ bytes) (omega arith) (omega arith), tt)

buffer_parts : (q n cap index : ℕ) (owner : ℕ → Option ℕ) (head : ℕ) (a : Ask) → IsWide cap (Some (request_of a)) → AreParts q n index owner head (buffer_stores (the_ring q n) (buffer_at q head) a)
buffer_parts q n cap index owner head (wants.Read s c) wide =
    (in_buffer q n index owner head (buffer_at q head) (header_bytes (wants.Read s c)) (omega arith) (omega (arith, header_long 0 s)), (in_buffer q n index owner head (status_place (buffer_at q head)) (255 ∷ []) (omega arith) (omega arith), tt))
buffer_parts q n cap index owner head (wants.Write s fills) wide =
    let bytes : List ℕ = written_bytes (wants.Write s fills) in
    let status : List Store = one_store 0 (status_place (buffer_at q head)) (255 ∷ []) ∷ [] in (
      in_buffer q n index owner head (buffer_at q head) (header_bytes (wants.Write s fills)) (omega arith) (omega (arith, header_long 1 s)),
      all_append (λ (st : Store). IsPart q n index owner head st.place st.bytes) (store_of_some 0 (sectors_place (buffer_at q head)) bytes) status
          (some_parts q n index owner head bytes wide.few)
          (in_buffer q n index owner head (status_place (buffer_at q head)) (255 ∷ []) (omega arith) (omega arith), tt),
    )
buffer_parts q n cap index owner head wants.Flush wide =
    (in_buffer q n index owner head (buffer_at q head) (header_bytes wants.Flush) (omega arith) (omega (arith, header_long 4 0)), (in_buffer q n index owner head (status_place (buffer_at q head)) (255 ∷ []) (omega arith) (omega arith), tt))
buffer_parts q n cap index owner head wants.Id wide = absurd wide
buffer_parts q n cap index owner head (wants.Discard parts) wide = absurd wide
buffer_parts q n cap index owner head (wants.Zero parts) wide = absurd wide

-- ---- the table

in_table : (q n index : ℕ) (owner : ℕ → Option ℕ) (head d flag next : ℕ) (p : Piece) → IsOwned n owner head d → IsPart q n index owner head (desc_place (the_ring q n) d) (descriptor_bytes p flag next)
in_table q n index owner head d flag next p own = inl (d, own, record { from = omega arith; upto = omega (arith, desc_long p flag next) })

chain_parts : (q n index : ℕ) (owner : ℕ → Option ℕ) (head : ℕ) (ps : List Piece) (ds : List ℕ) → AllByRecursion (IsOwned n owner head) ds → AreParts q n index owner head (chain_stores (the_ring q n) ps ds)
chain_parts q n index owner head [] ds all = tt
chain_parts q n index owner head (p ∷ []) [] all = tt
chain_parts q n index owner head (p ∷ []) (d ∷ ds) all = (in_table q n index owner head d 0 0 p all.0, tt)
chain_parts q n index owner head (p ∷ p' ∷ ps) [] all = tt
chain_parts q n index owner head (p ∷ p' ∷ ps) (d ∷ []) all = tt
chain_parts q n index owner head (p ∷ p' ∷ ps) (d ∷ d' ∷ ds) all = (in_table q n index owner head d 1 d' p all.0, chain_parts q n index owner head (p' ∷ ps) (d' ∷ ds) all.1)

-- ---- all stores

offer_parts : (q n index : ℕ) (owner : ℕ → Option ℕ) (head : ℕ) → AreParts q n index owner head (offer_stores (the_ring q n) index head)
offer_parts q n index owner head = (inr (inr (inl (refl, length_little 2 head))), (inr (inr (inr (refl, refl))), tt))

stores_parts : (q n cap index : ℕ) (owner : ℕ → Option ℕ) (head : ℕ) (ds : List ℕ) (a : Ask) → IsWide cap (Some (request_of a)) → AllByRecursion (IsOwned n owner head) (head ∷ ds) → AreParts q n index owner head (request_stores (the_ring q n) index a (head ∷ ds))
stores_parts q n cap index owner head ds a wide all =
    let part : Store → Type 0 = λ st. IsPart q n index owner head st.place st.bytes in
    let front : List Store = buffer_stores (the_ring q n) (buffer_at q head) a in
    let chain : List Store = chain_stores (the_ring q n) (pieces (buffer_at q head) a) (head ∷ ds) in
    let offer : List Store = offer_stores (the_ring q n) index head in
    all_append part front (chain ++ offer) (buffer_parts q n cap index owner head a wide) (all_append part chain offer (chain_parts q n index owner head (pieces (buffer_at q head) a) (head ∷ ds) all) (offer_parts q n index owner head))

request_parts : (q n cap index : ℕ) (owner : ℕ → Option ℕ) (head body status : ℕ) (a : Ask) (b : Bool) → IsWide cap (Some (request_of a)) → IsOwned n owner head head → IsOwned n owner head body → IsOwned n owner head status
    → AreParts q n index owner head (request_stores (the_ring q n) index a (chain_of b head body status))
request_parts q n cap index owner head body status a true wide mh mb ms = stores_parts q n cap index owner head (body ∷ status ∷ []) a wide (mh, (mb, (ms, tt)))
request_parts q n cap index owner head body status a false wide mh mb ms = stores_parts q n cap index owner head (status ∷ []) a wide (mh, (ms, tt))

-- of a request that waits, those that are left
pub left_parts : (q n cap : ℕ) (past : List Entry) (heads : List ℕ) (m : Bytes) (v : Driver) (w : Waiting) → IsWaiting q n cap past heads v w → IsPrepared q n m v w → AreParts q n v.avail_idx v.owner w.head w.left
left_parts q n cap past heads m v w waits p =
    let within : p.body ≤ p.status = p.within in
    let whole : AreParts q n v.avail_idx v.owner w.head (p.made ++ w.left) =
    subst (λ (sts : List Store). AreParts q n v.avail_idx v.owner w.head sts) (sym p.stores)
    (request_parts q n cap v.avail_idx v.owner w.head p.body p.status w.ask (has_data w.ask) waits.wide (record { below = waits.below; mine = waits.mine }) (record { below = omega (arith, p.fits, within); mine = p.body_mine }) (record { below = p.fits; mine = p.status_mine })) in
    all_last (λ (st : Store). IsPart q n v.avail_idx v.owner w.head st.place st.bytes) p.made w.left whole
