-- What the driver's stores leave of what waits in its ring and of what is seen of it.
use Rattle.std.proofs.Common.{◌≡◌, ◌≤◌, ◌<◌, ◌⊎◌, ℕ, ◌+◌, ◌%◌, Bool, true, false, List, [], ◌∷◌, ◌++◌, length, refl, ap, sym, ◌∙◌, subst, inl, inr, arith}
use Rattle.std.specs.Prelude.{Option, Some, None, option_map, IfSome, if◌then◌else◌, nat_lt, is_some}
use Rattle.std.specs.Option.{ForSome}
use Rattle.vub_base.specs.declared.request.Ask.{Ask}
use Rattle.vub_shared.specs.Bytes.{Bytes}
use Rattle.vub_shared.specs.Stores.{Store, after_store}
use Rattle.vub_ring.specs.Ring.{Ring, avail_idx, head_at, waiting, seen}
use Rattle.vub_driver.specs.Drivers.{Waiting}
use Rattle.vub_driver.specs.Requests.{written_bytes}
use Rattle.vub_split.specs.Words.{IsRingSize, RingFits, OffAvail, OffUsed, used_bytes}
use Rattle.vub_split.specs.Stores.{avail_idx_store, avail_entry_store}
use Rattle.vub_split.proofs.Words.{avail_idx_off_used, avail_entry_off_used, head_stored}
use Rattle.vub_split.proofs.Seen.{waiting_off, waiting_entry, waiting_index, seen_off}
use Rattle.vub_guest.specs.declared.guest.Guest.{Guest}
use Rattle.vub_guest.specs.declared.guest.WaitingRequest.{WaitingRequest}
use Rattle.vub_guest.specs.declared.guest.Stage.{Stage}
use Rattle.vub_guest.specs.declared.guest.Stage.TheVariants.{Header, Data, Status, HeaderDescriptor, DataDescriptor, StatusDescriptor, AvailEntry, AvailIdx}
use Rattle.vub_driver.specs.GuestChain.{Links, second}
use Rattle.vub_guest.specs.GuestStores.{links_of, buffer_of, store_at, stores_from, from_data, from_status, from_header_descriptor, from_data_descriptor, from_status_descriptor}
use Rattle.vub_guest.specs.GuestState.{ring_in, driver_in, waiting_in, next_store}
use Rattle.vub_guest.proofs.ChainLemmas.{length-table_entry, data_place-near}
use Rattle.vub_guest.proofs.GuestLemmas.{next_store-is}

-- ---- the rings

-- a ring that lies as a guest's does
record LiesAsGuest (r : Ring) : Type 0 where
  pub some : 0 < r.size
  pub few : r.size ≤ 64
  pub avail : r.avail ≡ r.desc + 4096
  pub used : r.used ≡ r.desc + 8192

lies_as_guest : (g : Guest) → LiesAsGuest (ring_in g)
lies_as_guest g = record { some = omega (arith, g.some); few = g.few; avail = refl; used = refl }

fits_of : (r : Ring) → LiesAsGuest r → RingFits r
fits_of r at = record { some = at.some; apart = inr (inr (omega (arith, at.few, at.avail, at.used))) }

pub guest_fits : (g : Guest) → RingFits (ring_in g)
guest_fits g = fits_of (ring_in g) (lies_as_guest g)

-- ---- stores besides them

-- of a request whose descriptors are in the table
record InTable (l : Links) : Type 0 where
  pub head : l.head < 64
  pub next : second l < 64
  pub status : l.status < 64

next_fits : (o : Option ℕ) (head status : ℕ) → ForSome o (λ d. d < 64) → status < 64 → second (record { head = head; body = o; status = status }) < 64
next_fits None head status all fits = fits
next_fits (Some d) head status all fits = all d refl

in_table : (p : WaitingRequest) → InTable (links_of p.chain)
in_table p = record { head = p.chain.head_fits; next = next_fits p.chain.body p.chain.head p.chain.status p.chain.body_fits p.chain.status_fits; status = p.chain.status_fits }

-- past the used ring, or before the avail ring
abbrev Beside : Ring → Store → Type 0
Beside r st = (r.used + used_bytes r ≤ st.place) ⊎ (st.place + length st.bytes ≤ r.avail)

beside_avail : (r : Ring) (st : Store) → LiesAsGuest r → Beside r st → OffAvail r st
beside_avail r st at (inl past) = inr (inl (omega (arith, past, at.few, at.avail, at.used)))
beside_avail r st at (inr before) = inr (inr before)

beside_used : (r : Ring) (st : Store) → LiesAsGuest r → Beside r st → OffUsed r st
beside_used r st at (inl past) = inr (inl past)
beside_used r st at (inr before) = inr (inr (omega (arith, before, at.avail, at.used)))

-- each store is one of those, with two more after it, or the last but one, or the last
abbrev Places : Ring → ℕ → ℕ → Store → ℕ → Type 0
Places r index head st left =
    (Beside r st × (3 ≤ left)) ⊎ (((st ≡ avail_entry_store r index head) × (left ≡ 2)) ⊎ ((st ≡ avail_idx_store r ((index + 1) % 65536)) × (left ≡ 1)))

if_long : (b : Bool) (xs ys : List Store) → 3 ≤ length xs → 3 ≤ length ys → 3 ≤ length (if b then xs else ys)
if_long true xs ys one two = one
if_long false xs ys one two = two

long_descriptors : (r : Ring) (index : ℕ) (ask : Ask) (l : Links) → 3 ≤ length (from_header_descriptor r index ask l)
long_descriptors r index ask l =
    let rest : 3 ≤ length (if is_some l.body then from_data_descriptor r index ask l else from_status_descriptor r index ask l) =
    if_long (is_some l.body) (from_data_descriptor r index ask l) (from_status_descriptor r index ask l) (omega arith) (omega arith) in
    omega (arith, rest)

long_status : (r : Ring) (index : ℕ) (ask : Ask) (l : Links) → 3 ≤ length (from_status r index ask l)
long_status r index ask l = omega (arith, long_descriptors r index ask l)

long_data : (r : Ring) (index : ℕ) (ask : Ask) (l : Links) → 3 ≤ length (from_data r index ask l)
long_data r index ask l = omega (arith, long_status r index ask l)

long_header : (r : Ring) (index : ℕ) (ask : Ask) (l : Links) → 3 ≤ length (stores_from r index ask l Header)
unfolding stores_from
long_header r index ask l =
    let b : Bool = nat_lt 0 (length (written_bytes ask)) in
    let rest : 3 ≤ length (if b then from_data r index ask l else from_status r index ask l) = if_long b (from_data r index ask l) (from_status r index ask l) (long_data r index ask l) (long_status r index ask l) in
    omega (arith, rest)

places : (r : Ring) (index : ℕ) (ask : Ask) (l : Links) (stage : Stage) → LiesAsGuest r → InTable l → Places r index l.head (store_at r index ask l stage) (length (stores_from r index ask l stage))
unfolding stores_from
places r index ask l Header at within = inl (inl (omega (arith, at.few, at.used)), long_header r index ask l)
places r index ask l Data at within = inl (inl (omega (arith, at.few, at.used, (data_place-near (buffer_of r l) ask).0)), long_data r index ask l)
places r index ask l Status at within = inl (inl (omega (arith, at.few, at.used)), long_status r index ask l)
places r index ask l HeaderDescriptor at within = inl (inr (omega (arith, within.head, at.avail, length-table_entry)), long_descriptors r index ask l)
places r index ask l DataDescriptor at within = inl (inr (omega (arith, within.next, at.avail, length-table_entry)), omega arith)
places r index ask l StatusDescriptor at within = inl (inr (omega (arith, within.status, at.avail, length-table_entry)), omega arith)
places r index ask l AvailEntry at within = inr (inl (refl, refl))
places r index ask l AvailIdx at within = inr (inr (refl, refl))

-- ---- what they leave

waits_still : (r : Ring) (index head : ℕ) (st : Store) (left : ℕ) (m : Bytes) (from : ℕ) → LiesAsGuest r → Places r index head st left → 1 < left → IsRingSize r.size → avail_idx r m ≡ index → length (waiting r m from) < r.size
    → waiting r (after_store st m) from ≡ waiting r m from
waits_still r index head st left m from at (inl (beside, many)) more size is room = waiting_off r m st from at.some (beside_avail r st at beside)
waits_still r index head st left m from at (inr (inl (same, two))) more size is room =
    ap (λ (x : Store). waiting r (after_store x m) from) (same ∙ ap (λ (i : ℕ). avail_entry_store r i head) (sym is)) ∙ waiting_entry r m from head size.some size.laps room
waits_still r index head st left m from at (inr (inr (same, one))) more size is room = absurd (omega (arith, more, one))

waits_more : (r : Ring) (index head : ℕ) (st : Store) (left : ℕ) (m : Bytes) (from : ℕ) → Places r index head st left → left ≡ 1 → avail_idx r m ≡ index → head_at r m index ≡ head → length (waiting r m from) < 65535
    → waiting r (after_store st m) from ≡ waiting r m from ++ head ∷ []
waits_more r index head st left m from (inl (beside, many)) last is there room = absurd (omega (arith, many, last))
waits_more r index head st left m from (inr (inl (same, two))) last is there room = absurd (omega (arith, two, last))
waits_more r index head st left m from (inr (inr (same, one))) last is there room =
    let stored : st ≡ avail_idx_store r ((avail_idx r m + 1) % 65536) = same ∙ ap (λ (i : ℕ). avail_idx_store r ((i + 1) % 65536)) (sym is) in
    ap (λ (x : Store). waiting r (after_store x m) from) stored ∙ waiting_index r m from room ∙ ap (λ (x : ℕ). waiting r m from ++ x ∷ []) (ap (head_at r m) is ∙ there)

stands_there : (r : Ring) (index head : ℕ) (st : Store) (left : ℕ) (m : Bytes) → Places r index head st left → left ≡ 2 → head < 65536 → head_at r (after_store st m) index ≡ head
stands_there r index head st left m (inl (beside, many)) two fits = absurd (omega (arith, many, two))
stands_there r index head st left m (inr (inl (same, it))) two fits = ap (λ (x : Store). head_at r (after_store x m) index) same ∙ head_stored r m index head index fits refl
stands_there r index head st left m (inr (inr (same, one))) two fits = absurd (omega (arith, one, two))

sees_still : (r : Ring) (index head : ℕ) (st : Store) (left : ℕ) (m : Bytes) (from : ℕ) → LiesAsGuest r → Places r index head st left → seen r (after_store st m) from ≡ seen r m from
sees_still r index head st left m from at (inl (beside, many)) = seen_off r m st from at.some (beside_used r st at beside)
sees_still r index head st left m from at (inr (inl (same, two))) =
    ap (λ (x : Store). seen r (after_store x m) from) same ∙ seen_off r m (avail_entry_store r index head) from at.some (avail_entry_off_used r index head (fits_of r at))
sees_still r index head st left m from at (inr (inr (same, one))) =
    ap (λ (x : Store). seen r (after_store x m) from) same ∙ seen_off r m (avail_idx_store r ((index + 1) % 65536)) from at.some (avail_idx_off_used r ((index + 1) % 65536) (fits_of r at))

-- ---- a step of the guest

-- the request that waits, with the store that comes next
record Next (g : Guest) (w : Waiting) : Type 0 where
  pub store : Store
  pub next : next_store (driver_in g).waiting ≡ Some store
  pub fits : w.head < 65536
  pub places : Places (ring_in g) (driver_in g).avail_idx w.head store (length w.left)

next_of : (g : Guest) (w : Waiting) → (driver_in g).waiting ≡ Some w → Next g w
next_of g w is = go g.waiting refl is
  where
    r : Ring
    r = ring_in g

    go : (o : Option WaitingRequest) → g.waiting ≡ o → option_map (waiting_in r g.avail_idx) o ≡ Some w → Next g w
    go None same e = absurd (cc)
    go (Some p) same e =
        let found : waiting_in r g.avail_idx p ≡ w = cc in
        let l : Links = links_of p.chain in
        let st : Store = store_at r g.avail_idx p.ask l p.stage in
        let first : next_store (driver_in g).waiting ≡ Some st = ap (λ (x : Option WaitingRequest). next_store (option_map (waiting_in r g.avail_idx) x)) same ∙ next_store-is r g.avail_idx p in
        let low : p.chain.head < 64 = p.chain.head_fits in
        subst (λ (x : Waiting). Next g x) found (record {
          store = st;
          next = first;
          fits = omega (arith, low);
          places = places r g.avail_idx p.ask l p.stage (lies_as_guest g) (in_table p);
        })

pub step_waits : (g : Guest) (w : Waiting) (m : Bytes) (from : ℕ) → (driver_in g).waiting ≡ Some w → 1 < length w.left → IsRingSize (ring_in g).size → avail_idx (ring_in g) m ≡ (driver_in g).avail_idx → length (waiting (ring_in g) m from) < (ring_in g).size
    → IfSome (next_store (driver_in g).waiting) (λ st. waiting (ring_in g) (after_store st m) from ≡ waiting (ring_in g) m from)
step_waits g w m from is more size index room =
    let n : Next g w = next_of g w is in
    subst (λ (o : Option Store). IfSome o (λ st. waiting (ring_in g) (after_store st m) from ≡ waiting (ring_in g) m from)) (sym n.next)
    (waits_still (ring_in g) (driver_in g).avail_idx w.head n.store (length w.left) m from (lies_as_guest g) n.places more size index room)

pub step_stands : (g : Guest) (w : Waiting) (m : Bytes) → (driver_in g).waiting ≡ Some w → length w.left ≡ 2 → IfSome (next_store (driver_in g).waiting) (λ st. head_at (ring_in g) (after_store st m) (driver_in g).avail_idx ≡ w.head)
step_stands g w m is two =
    let n : Next g w = next_of g w is in
    subst (λ (o : Option Store). IfSome o (λ st. head_at (ring_in g) (after_store st m) (driver_in g).avail_idx ≡ w.head)) (sym n.next)
    (stands_there (ring_in g) (driver_in g).avail_idx w.head n.store (length w.left) m n.places two n.fits)

pub step_offers : (g : Guest) (w : Waiting) (m : Bytes) (from : ℕ) → (driver_in g).waiting ≡ Some w → length w.left ≡ 1 → avail_idx (ring_in g) m ≡ (driver_in g).avail_idx → head_at (ring_in g) m (driver_in g).avail_idx ≡ w.head → length (waiting (ring_in g) m from) < 65535
    → IfSome (next_store (driver_in g).waiting) (λ st. waiting (ring_in g) (after_store st m) from ≡ waiting (ring_in g) m from ++ w.head ∷ [])
step_offers g w m from is last index there room =
    let n : Next g w = next_of g w is in
    subst (λ (o : Option Store). IfSome o (λ st. waiting (ring_in g) (after_store st m) from ≡ waiting (ring_in g) m from ++ w.head ∷ [])) (sym n.next)
    (waits_more (ring_in g) (driver_in g).avail_idx w.head n.store (length w.left) m from n.places last index there room)

pub step_sees : (g : Guest) (w : Waiting) (m : Bytes) (from : ℕ) → (driver_in g).waiting ≡ Some w → IfSome (next_store (driver_in g).waiting) (λ st. seen (ring_in g) (after_store st m) from ≡ seen (ring_in g) m from)
step_sees g w m from is =
    let n : Next g w = next_of g w is in
    subst (λ (o : Option Store). IfSome o (λ st. seen (ring_in g) (after_store st m) from ≡ seen (ring_in g) m from)) (sym n.next)
    (sees_still (ring_in g) (driver_in g).avail_idx w.head n.store (length w.left) m from (lies_as_guest g) n.places)
