-- The driver's stores keep what holds, up to the offer.
use Rattle.std.proofs.Common.{◌≡◌, ◌≤◌, ◌<◌, ℕ, zero, suc, List, [], ◌∷◌, length, drop, refl, sym, subst, inl, inr, arith, ◌++◌, ap, ◌∙◌}
use Rattle.std.specs.Prelude.{Some, slice_index}
use Rattle.vub_base.specs.declared.header.CacheMode.{CacheMode}
use Rattle.vub_base.specs.declared.header.Header1.{Header1}
use Rattle.vub_shared.specs.Bytes.{Bytes}
use Rattle.vub_shared.specs.Stores.{Store}
use Rattle.vub_driver.specs.Drivers.{Driver, Waiting, with_left}
use Rattle.vub_device.specs.declared.entry.Asked.{Asked}
use Rattle.vub_device.specs.declared.entry.Entry.{Entry}
use Rattle.vub_device.specs.declared.entry.Entry.TheVariants as entries
use Rattle.vub_device.specs.Legal.{LegalFrom}
use Rattle.vub_device.specs.Requests.{request_of}
use Rattle.vub_report.specs.declared.items.Item.{Item}
use Rattle.vub_report.specs.Histories.{entries_of}
use Rattle.vub_run.specs.Memory.{Scene, after_items}
use Rattle.vub_run.specs.Moments.{Lane, region_in}
use Rattle.vub_run.specs.Run.{guest_items, with_driver}
use Rattle.vub_run.specs.Tracking.{Tracks, AfterEach}
use Rattle.vub_run_laws.proofs.RunGood.{Known, hidden, Stored, stored_at, IsGood}
use Rattle.vub_run_laws.proofs.RunHolds.{Holds, StoresBefore, offered_scene, StoresLast, offered_by, IsWaiting, LastStands}
use Rattle.vub_run_laws.proofs.RunQueue.{queue_waiting, queue_waits, queue_before, queue_last, queue_tracks}
use Rattle.vub_run_laws.proofs.RunFrames.{open_out, stored_elsewhere}
use Rattle.vub_run_laws.proofs.RunOffers.{offer_known, offer_worked, offer_stored, same_head}
use Rattle.vub_run_laws.proofs.RunCarries.{carries_on, batch_taken}
use Rattle.vub_run_laws.proofs.RingGood.{CountsLow}
use Rattle.vub_run_laws.proofs.RingCounters.{stored_counter}
use Rattle.vub_device.specs.Past.{IsOpen, accepted}

pub holds_track : (q : ℕ) (h : Header1) (s : Scene) (l : Lane) → IsGood h → Holds q h s l → Tracks h q s
holds_track q h s l good holds = queue_tracks q h s l.driver l.bell l.plan l.counter l.batch l.phase good.size holds.known holds.queue

-- what holds after a store of a request before its last one
before_holds : (q : ℕ) (h : Header1) (s : Scene) (l : Lane) (w : Waiting) (st : Store) (left : List Store) → Holds q h s l → StoresBefore q h s l.driver w l.bell l.plan l.counter l.batch l.phase st left → Holds q h (stored_at st.place st.bytes s) l
before_holds q h s l w st left holds next = record {
  known = holds.known;
  worked = holds.worked;
  stored = stored_elsewhere q s.past (s.heads q) s.memory st.place st.bytes (hidden l.batch l.phase) l.completed l.made holds.worked.opens (λ k is_open. next.off k (open_out q h.size h.capacity s.past (s.heads q) k holds.known is_open)) holds.stored;
  carries = holds.carries;
  queue = next.queue;
}

abbrev pub offered : Lane → Lane
offered l = record l { driver = offered_by l.driver }

-- and after the last one, with its offer
last_holds : (q : ℕ) (h : Header1) (s : Scene) (l : Lane) (w : Waiting) (st : Store) (left : List Store) → IsWaiting q h.size h.capacity s.past (s.heads q) l.driver (record w { left = left }) → Holds q h s l → StoresLast q h s l.driver w l.bell l.plan l.counter l.batch l.phase st
    → Holds q h (offered_scene q h w st s) (offered l)
last_holds q h s l w st left waits holds next =
    let r : Asked = request_of w.ask in
    let past' : List Entry = entries.Offer q r ∷ s.past in
    let m : Bytes = (stored_at st.place st.bytes s).memory in
    let stored = stored_elsewhere q s.past (s.heads q) s.memory st.place st.bytes (hidden l.batch l.phase) l.completed l.made holds.worked.opens (λ k is_open. next.off k) holds.stored in record {
      known = subst (Known q h.size h.capacity past') (sym next.heads) (offer_known q h.size h.capacity s.past (s.heads q) r w.head holds.known waits.wide next.room);
      worked = offer_worked q h.size h.capacity s.past (s.heads q) r l.phase (hidden l.batch l.phase) l.completed l.made holds.known holds.worked;
      stored = subst (λ (hs : List ℕ). Stored q past' hs m (hidden l.batch l.phase) l.completed l.made) (sym next.heads) (offer_stored q h.size h.capacity s.past (s.heads q) r w.head m l.phase (hidden l.batch l.phase) l.completed l.made holds.known holds.worked stored);
      carries = carries_on q s.past past' l.counter l.phase l.batch l.completed refl refl refl holds.carries;
      queue = next.queue;
    }

-- the counters of open requests: a store into guest memory leaves them, and an offer makes none
counts_stored : (q : ℕ) (h : Header1) (s : Scene) (p : ℕ) (bs : List ℕ) → CountsLow q h s → CountsLow q h (stored_at p bs s)
counts_stored q h s p bs low k is_open = omega (arith, low k is_open, stored_counter q h s p bs (slice_index (s.heads q) k))

counts_offered : (q : ℕ) (h : Header1) (s : Scene) (l : Lane) (w : Waiting) (st : Store) → Holds q h s l → (offered_scene q h w st s).heads q ≡ s.heads q ++ w.head ∷ [] → CountsLow q h s → CountsLow q h (offered_scene q h w st s)
counts_offered q h s l w st holds heads low k is_open =
    let before : IsOpen s.past q k = record { taken = is_open.taken; unpublished = is_open.unpublished } in
    let head : slice_index ((offered_scene q h w st s).heads q) k ≡ slice_index (s.heads q) k =
    ap (λ (hs : List ℕ). slice_index hs k) heads ∙ same_head (s.heads q) w.head k (omega (arith, is_open.taken, holds.known.offered)) in
    subst (λ (d : ℕ). (region_in h q (stored_at st.place st.bytes s)).counter d < accepted s.past q) (sym head) (counts_stored q h s st.place st.bytes low k before)

-- ---- all that are left, up to the offer

-- what all stores that are left and the offer leave
pub record Offered (q : ℕ) (h : Header1) (mode : CacheMode) (s : Scene) (l : Lane) (r : Asked) (is : List Item) : Type 0 where
  pub each : AfterEach h (Tracks h q) s is
  pub holds : Holds q h (after_items h is s) (offered l)
  pub counts : CountsLow q h s → CountsLow q h (after_items h is s)
  pub legal : LegalFrom h.capacity mode s.past (entries_of is)
  pub past : (after_items h is s).past ≡ entries.Offer q r ∷ s.past

pub guest_holds : (q : ℕ) (h : Header1) (mode : CacheMode) (s : Scene) (l : Lane) (w : Waiting) (count : ℕ) (left : List Store) → IsGood h → IsWaiting q h.size h.capacity s.past (s.heads q) l.driver (record w { left = left }) → LastStands q h s (record w { left = left })
    → 0 < length left → length left ≤ count → Holds q h s l → Offered q h mode s l (request_of w.ask) (guest_items count q w.ask left)
guest_holds q h mode s l w count [] good waits stands some enough holds = absurd (omega arith)
guest_holds q h mode s l w zero (st ∷ left) good waits stands some enough holds = absurd (omega arith)
guest_holds q h mode s l w (suc count) (st ∷ []) good waits stands some enough holds =
    let next = queue_last q h s l.driver w l.bell l.plan l.counter l.batch l.phase st good.size holds.known (batch_taken q s.past l.counter l.phase l.batch l.completed holds.worked.opens holds.known.below holds.carries) waits stands holds.queue in
    let done = last_holds q h s l w st (st ∷ []) waits holds next in record {
      each = (inl tt, (inr (holds_track q h (offered_scene q h w st s) (offered l) good done), tt));
      holds = done;
      counts = counts_offered q h s l w st holds next.heads;
      legal = (tt, tt);
      past = refl;
    }
guest_holds q h mode s l w (suc count) (st ∷ st' ∷ left) good waits stands some enough holds =
    let s' : Scene = stored_at st.place st.bytes s in
    let next = queue_before q h s l.driver w l.bell l.plan l.counter l.batch l.phase st st' left good.size holds.known waits holds.queue in
    let then = before_holds q h s l w st (st' ∷ left) holds next in
    let rest = guest_holds q h mode s' l w count (st' ∷ left) good next.waits next.last (omega arith) (omega arith) then in record {
      each = (inr (holds_track q h s' l good then), rest.each);
      holds = rest.holds;
      counts = λ low. rest.counts (counts_stored q h s st.place st.bytes low);
      legal = rest.legal;
      past = rest.past;
    }

-- what is known of the request that waits
pub waits_well : (q : ℕ) (h : Header1) (s : Scene) (l : Lane) (w : Waiting) → l.driver.waiting ≡ Some w → Holds q h s l → IsWaiting q h.size h.capacity s.past (s.heads q) l.driver (record w { left = w.left })
waits_well q h s l w waiting holds = queue_waiting q h s l.driver l.bell l.plan l.counter l.batch l.phase w waiting holds.queue

-- ---- a part of what is left

-- what stores before the last leave, where these are left
pub record Unoffered (q : ℕ) (h : Header1) (s : Scene) (l : Lane) (w : Waiting) (is : List Item) (left : List Store) : Type 0 where
  pub each : AfterEach h (Tracks h q) s is
  pub holds : Holds q h (after_items h is s) l
  pub waits : IsWaiting q h.size h.capacity (after_items h is s).past ((after_items h is s).heads q) l.driver (record w { left = left })
  pub none : entries_of is ≡ []
  pub counts : CountsLow q h s → CountsLow q h (after_items h is s)
  pub past : (after_items h is s).past ≡ s.past

-- fewer stores than are left
pub part_holds : (q : ℕ) (h : Header1) (s : Scene) (l : Lane) (w : Waiting) (count : ℕ) (left : List Store) → IsGood h → IsWaiting q h.size h.capacity s.past (s.heads q) l.driver (record w { left = left }) → count < length left → Holds q h s l
    → Unoffered q h s l w (guest_items count q w.ask left) (drop count left)
part_holds q h s l w zero left good waits few holds = record { each = tt; holds = holds; waits = waits; none = refl; counts = λ low. low; past = refl }
part_holds q h s l w (suc count) [] good waits few holds = absurd (omega arith)
part_holds q h s l w (suc count) (st ∷ []) good waits few holds = absurd (omega arith)
part_holds q h s l w (suc count) (st ∷ st' ∷ left) good waits few holds =
    let s' : Scene = stored_at st.place st.bytes s in
    let next = queue_before q h s l.driver w l.bell l.plan l.counter l.batch l.phase st st' left good.size holds.known waits holds.queue in
    let then = before_holds q h s l w st (st' ∷ left) holds next in
    let rest = part_holds q h s' l w count (st' ∷ left) good next.waits (omega arith) then in record {
      each = (inr (holds_track q h s' l good then), rest.each);
      holds = rest.holds;
      waits = rest.waits;
      none = rest.none;
      counts = λ low. rest.counts (counts_stored q h s st.place st.bytes low);
      past = rest.past;
    }

-- the request still waits, with what is left
pub rest_waits : (q : ℕ) (h : Header1) (s : Scene) (l : Lane) (w : Waiting) (left : List Store) → IsWaiting q h.size h.capacity s.past (s.heads q) l.driver (record w { left = left }) → Holds q h s l
    → Holds q h s (with_driver (record (l.driver) { waiting = Some (record w { left = left }) }) l)
rest_waits q h s l w left waits holds = record {
  known = holds.known;
  worked = holds.worked;
  stored = holds.stored;
  carries = holds.carries;
  queue = queue_waits q h s l.driver l.bell l.plan l.counter l.batch l.phase w left waits holds.queue;
}

-- where a store is left the request waits on
pub left_waits : (w : Waiting) (left : List Store) (v : Driver) → 0 < length left → with_left w left v ≡ record v { waiting = Some (record w { left = left }) }
left_waits w [] v some = absurd (omega arith)
left_waits w (st ∷ left) v some = refl
