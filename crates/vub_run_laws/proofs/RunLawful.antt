-- Split chains. Every store of the driver in a run is lawful where it is made.
use Rattle.std.proofs.Common.{true, ◌≡◌, ◌≢◌, ◌≤◌, ◌<◌, ℕ, zero, suc, ◌+◌, ◌%◌, false, List, [], ◌∷◌, ◌++◌, length, refl, ap, sym, ◌∙◌, subst, inl, inr, arith}
use Rattle.std.specs.Prelude.{Option, Some, None, get_or, slice_index, is_some}
use Rattle.std.specs.List.{AllByRecursion}
use Rattle.std.proofs.lemmas.Bool.{cases_Bool}
use Rattle.byteorder.specs.Endian.{little_bytes}
use Rattle.vub_base.specs.declared.header.Header1.{Header1}
use Rattle.vub_base.specs.declared.request.Ask.{Ask}
use Rattle.vub_shared.specs.Bytes.{Bytes, put}
use Rattle.vub_shared.specs.Stores.{Store, one_store}
use Rattle.vub_ring.specs.Ring.{avail_entry_place, avail_idx_place, avail_idx}
use Rattle.vub_driver.specs.Drivers.{Driver, Waiting}
use Rattle.vub_driver.specs.Stores.{offer_stores}
use Rattle.vub_driver.specs.TableChain.{chain_in}
use Rattle.vub_device.specs.Past.{asked, is_among}
use Rattle.vub_schedule.specs.declared.types.Event.{Event}
use Rattle.vub_schedule.specs.declared.types.Event.TheVariants as events
use Rattle.vub_schedule.specs.Spelling.{IsHeader, IsEvent}
use Rattle.vub_report.specs.declared.items.Item.{Item}
use Rattle.vub_report.specs.declared.items.Record.{Record}
use Rattle.vub_run.specs.Before.{BeforeEach}
use Rattle.vub_run.specs.Lawful.{IsOutstanding, HasRoom, next_index, IsLawful, IsLawfulItem, LawfulFrom, EveryStoreIsLawful}
use Rattle.vub_run.specs.Memory.{Scene}
use Rattle.vub_run.specs.Moments.{Moment, opening}
use Rattle.vub_run.specs.Run.{RunTo, Stands, Played, if_ready, guest_items, guest, guest_stores, Plays, RunFrom}
use Rattle.vub_run_laws.proofs.RingGood.{the_ring, index_store, IsHarmless, IsWaiting, IsLeft}
use Rattle.vub_run_laws.proofs.RunGood.{IsSize, IsOut, Known}
use Rattle.vub_run_laws.proofs.RunFrames.{keeps, length_little}
use Rattle.vub_run_laws.proofs.RingFrames.{entry_small}
use Rattle.vub_run_laws.proofs.RunGuests.{waits_well}
use Rattle.vub_run_laws.proofs.RunTurns.{IsPlain}
use Rattle.vub_run_laws.proofs.RunEvents.{Right}
use Rattle.vub_run_laws.proofs.Runs.{plain_header}
use Rattle.vub_run_laws.proofs.RunChainsTurns.{IsPrepared, PreparedWell}
use Rattle.vub_run_laws.proofs.RunsLegal.{HoldsOf, IsHeld, some_queue, opening_held, held_right, held_next}
use Rattle.vub_run_laws.proofs.RunsTo.{stands_held}
use Rattle.vub_run_laws.proofs.RunQueues.{IsOn, on_one}
use Rattle.vub_run_laws.proofs.RunQuiet.{quiet_lawful, event_quiet}
use Rattle.vub_run_laws.proofs.RunDescriptors.{DescribedAt, chain_owned, event_described, opening_described}
use Rattle.vub_run_laws.proofs.RunParts.{IsPart, AreParts, left_parts}
use Rattle.vub_run_laws.proofs.RunQueue.{kept_index, queue_room, offered_index, head_owned}

-- what the driver of a queue may store at a scene for the request of that head, whatever memory holds
record MayStore (q : ℕ) (h : Header1) (s : Scene) (index head : ℕ) (owner : ℕ → Option ℕ) : Type 0 where
  pub size : IsSize h.size
  pub index_is : index ≡ next_index h q s
  pub room : HasRoom h q s
  pub low : head < h.size
  pub unused : (k : ℕ) → IsOutstanding q s k → slice_index (s.heads q) k ≢ head
  pub unlinked : (d : ℕ) → owner d ≡ Some head → (k : ℕ) → IsOutstanding q s k → is_among (get_or (s.descriptors q) k []) d ≡ false

-- memory's avail.idx is the driver's
abbrev AtIndex : ℕ → Header1 → ℕ → Bytes → Type 0
AtIndex q h index m = avail_idx (the_ring q h.size) m ≡ index

-- ---- one store

lawful_part : (q : ℕ) (h : Header1) (s : Scene) (index head : ℕ) (owner : ℕ → Option ℕ) (m : Bytes) (p : ℕ) (bs : List ℕ) → MayStore q h s index head owner → AtIndex q h index m → IsPart q h.size index owner head p bs → IsLawful h q (record s { memory = m }) (one_store 0 p bs)
lawful_part q h s index head owner m p bs may at (inl (d, own, lies)) =
    let small : h.size ≤ 64 = may.size.small in
    let low : d < h.size = own.below in record {
      index = at ∙ may.index_is;
      space = refl;
      area = record { from = omega (arith, lies.from); upto = omega (arith, lies.upto) };
      off_used = inr (inr (omega (arith, lies.upto)));
      owned = inl (record {
        descriptor = d;
        free = record { below = low; free = λ k out. may.unlinked d own.mine k (record { offered = out.offered; kept = out.kept }) };
        before_rings = omega arith;
        lies = lies;
      });
    }
lawful_part q h s index head owner m p bs may at (inr (inl lies)) =
    let small : h.size ≤ 64 = may.size.small in
    let low : head < h.size = may.low in record {
      index = at ∙ may.index_is;
      space = refl;
      area = record { from = omega (arith, lies.from); upto = omega (arith, lies.upto) };
      off_used = inr (inl (omega (arith, lies.from)));
      owned = inr (inl (record {
        head = head;
        free = record { below = low; free = λ k out. may.unused k (record { offered = out.offered; kept = out.kept }) };
        past_rings = omega arith;
        lies = lies;
      }));
    }
lawful_part q h s index head owner m p bs may at (inr (inr (inl (place, long)))) =
    let entry = entry_small h.size index may.size in record {
      index = at ∙ may.index_is;
      space = refl;
      area = record { from = omega (arith, place); upto = omega (arith, place, long) };
      off_used = inr (inr (omega (arith, place, long)));
      owned = inr (inr (inl (record { room = may.room; place = place ∙ ap (avail_entry_place (the_ring q h.size)) may.index_is; whole = long })));
    }
lawful_part q h s index head owner m p bs may at (inr (inr (inr (place, moved)))) =
    let long : length bs ≡ 2 = ap length moved ∙ length_little 2 ((index + 1) % 65536) in record {
      index = at ∙ may.index_is;
      space = refl;
      area = record { from = omega (arith, place); upto = omega (arith, place, long) };
      off_used = inr (inr (omega (arith, place, long)));
      owned = inr (inr (inr (record { room = may.room; place = place; one_more = moved ∙ ap (λ (i : ℕ). little_bytes 2 ((i + 1) % 65536)) may.index_is })));
    }

-- ---- the stores that are left

-- a store into the table or a buffer leaves avail.idx
harmless_at : (q : ℕ) (h : Header1) (index head : ℕ) (m : Bytes) (st : Store) → IsHarmless q head st → AtIndex q h index m → AtIndex q h index (put m 0 st.place st.bytes)
harmless_at q h index head m st harmless at =
    elim harmless.lies [
      | inl low ↦ keeps 2 m st.place st.bytes (avail_idx_place (the_ring q h.size)) (inr (omega (arith, low.1)))
      | inr high ↦ keeps 2 m st.place st.bytes (avail_idx_place (the_ring q h.size)) (inl (omega (arith, high.0)))
    ] ∙ at

-- and so does the one of the entry
entry_at : (q : ℕ) (h : Header1) (index head : ℕ) (m : Bytes) → AtIndex q h index m → AtIndex q h index (put m 0 (avail_entry_place (the_ring q h.size) index) (little_bytes 2 head))
entry_at q h index head m at = keeps 2 m (avail_entry_place (the_ring q h.size) index) (little_bytes 2 head) (avail_idx_place (the_ring q h.size)) (inl (omega arith)) ∙ at

abbrev AreLawful : ℕ → Header1 → ℕ → ℕ → Scene → Ask → List Store → Type 0
AreLawful q h many count s a sts = BeforeEach h (IsLawfulItem h (events.Guest q many)) s (guest_items count q a sts)

-- some into table and buffer, and the two of the offer
plan_lawful : (q : ℕ) (h : Header1) (many : ℕ) (s : Scene) (index head : ℕ) (owner : ℕ → Option ℕ) (a : Ask) (count : ℕ) (m : Bytes) (first : List Store) → MayStore q h s index head owner → AllByRecursion (IsHarmless q head) first
    → AreParts q h.size index owner head (first ++ offer_stores (the_ring q h.size) index head) → AtIndex q h index m → AreLawful q h many count (record s { memory = m }) a (first ++ offer_stores (the_ring q h.size) index head)
plan_lawful q h many s index head owner a zero m first may harmless parts at = tt
plan_lawful q h many s index head owner a (suc zero) m [] may harmless parts at = (lawful_part q h s index head owner m _ _ may at parts.0, tt)
plan_lawful q h many s index head owner a (suc (suc count)) m [] may harmless parts at =
    (lawful_part q h s index head owner m _ _ may at parts.0, (lawful_part q h s index head owner _ _ _ may (entry_at q h index head m at) parts.1.0, (tt, tt)))
plan_lawful q h many s index head owner a (suc count) m (st ∷ []) may harmless parts at =
    (lawful_part q h s index head owner m st.place st.bytes may at parts.0, plan_lawful q h many s index head owner a count (put m 0 st.place st.bytes) [] may tt parts.1 (harmless_at q h index head m st harmless.0 at))
plan_lawful q h many s index head owner a (suc count) m (st ∷ st' ∷ first) may harmless parts at =
    (lawful_part q h s index head owner m st.place st.bytes may at parts.0, plan_lawful q h many s index head owner a count (put m 0 st.place st.bytes) (st' ∷ first) may harmless.1 parts.1 (harmless_at q h index head m st harmless.0 at))

-- the last alone
last_lawful : (q : ℕ) (h : Header1) (many : ℕ) (s : Scene) (index head : ℕ) (owner : ℕ → Option ℕ) (a : Ask) (count : ℕ) → MayStore q h s index head owner → AreParts q h.size index owner head (index_store (the_ring q h.size) index ∷ []) → AtIndex q h index s.memory
    → AreLawful q h many count s a (index_store (the_ring q h.size) index ∷ [])
last_lawful q h many s index head owner a zero may parts at = tt
last_lawful q h many s index head owner a (suc count) may parts at = (lawful_part q h s index head owner s.memory _ _ may at parts.0, (tt, tt))

left_lawful : (q : ℕ) (h : Header1) (many : ℕ) (s : Scene) (index head : ℕ) (owner : ℕ → Option ℕ) (a : Ask) (count : ℕ) (left : List Store) → MayStore q h s index head owner → IsLeft q h.size index head left → AreParts q h.size index owner head left → AtIndex q h index s.memory
    → AreLawful q h many count s a left
left_lawful q h many s index head owner a count left may (inl plan) parts at =
    subst (λ (sts : List Store). AreLawful q h many count s a sts) (sym plan.whole)
    (plan_lawful q h many s index head owner a count s.memory plan.first may plan.harmless (subst (λ (sts : List Store). AreParts q h.size index owner head sts) plan.whole parts) at)
left_lawful q h many s index head owner a count left may (inr last) parts at =
    subst (λ (sts : List Store). AreLawful q h many count s a sts) (sym last)
    (last_lawful q h many s index head owner a count may (subst (λ (sts : List Store). AreParts q h.size index owner head sts) last parts) at)

-- ---- an event

-- of a request that waits
may_store : (q : ℕ) (h : Header1) (m : Moment) (w : Waiting) → IsPlain h → HoldsOf q h m → DescribedAt q h m → IsWaiting q h.size h.capacity m.scene.past (m.scene.heads q) (m.lanes q).driver w → MayStore q h m.scene (m.lanes q).driver.avail_idx w.head (m.lanes q).driver.owner
may_store q h m w plain held x waits =
    let s : Scene = m.scene in
    let v : Driver = (m.lanes q).driver in
    let known : Known q h.size h.capacity s.past (s.heads q) = held.good.holds.known in
    let out_of : (k : ℕ) → IsOutstanding q s k → IsOut q s.past (s.heads q) k = λ k out. record { below = omega (arith, out.offered, known.offers_are); kept = out.kept } in record {
      size = plain.good.size;
      index_is = kept_index q h m.scene (m.lanes q).driver (m.lanes q).bell (m.lanes q).plan (m.lanes q).counter (m.lanes q).batch (m.lanes q).phase held.good.holds.queue ∙ ap (λ (c : ℕ). (h.base + c) % 65536) known.offers_are;
      room = let room = queue_room q h m.scene (m.lanes q).driver (m.lanes q).bell (m.lanes q).plan (m.lanes q).counter (m.lanes q).batch (m.lanes q).phase w known waits held.good.holds.queue in omega (arith, room, known.offers_are);
      low = waits.below;
      unused = λ k out. waits.apart k (out_of k out);
      unlinked = λ d mine k out. elim (cases_Bool (is_among (get_or (s.descriptors q) k []) d)) [
        | inl among ↦
            let o : IsOut q s.past (s.heads q) k = out_of k out in
            let head : ℕ = slice_index (s.heads q) k in
            let there : is_among (chain_in (the_ring q h.size) s.memory head) d ≡ true = ap (λ (xs : List ℕ). is_among xs d) (sym (x.stands k o)) ∙ among in
            let theirs : v.owner d ≡ Some head = chain_owned q h.size v.owner s.memory head d (asked s.past q k) (head_owned q h m.scene (m.lanes q).driver (m.lanes q).bell (m.lanes q).plan (m.lanes q).counter (m.lanes q).batch (m.lanes q).phase k held.good.holds.queue o) (held.chained.linked k o) there in
            let both : Some head ≡ Some w.head = sym theirs ∙ mine in
            absurd (waits.apart k o (let same : head ≡ w.head = cc in same))
        | inr free ↦ free
      ];
    }

guest_lawful : (q : ℕ) (h : Header1) (many : ℕ) (m : Moment) → IsPlain h → HoldsOf q h m → DescribedAt q h m → BeforeEach h (IsLawfulItem h (events.Guest q many)) m.scene (guest h q many m).items
guest_lawful q h many m plain held x = go (m.lanes q).driver.waiting refl
  where
    go : (o : Option Waiting) → (m.lanes q).driver.waiting ≡ o → BeforeEach h (IsLawfulItem h (events.Guest q many)) m.scene (if_ready (is_some o) (guest_stores h q many o m) m).items
    go None e = (tt, tt)
    go (Some w) e =
        let v : Driver = (m.lanes q).driver in
        let waits : IsWaiting q h.size h.capacity m.scene.past (m.scene.heads q) v w = waits_well q h m.scene (m.lanes q) w e held.good.holds in
        let ready : IsPrepared q h.size m.scene.memory v w = subst (λ (o : Option Waiting). PreparedWell q h.size m.scene.memory v o) e held.chained.waits in
        left_lawful q h many m.scene v.avail_idx w.head v.owner w.ask many w.left (may_store q h m w plain held x waits) waits.plan
        (left_parts q h.size h.capacity m.scene.past (m.scene.heads q) m.scene.memory v w waits ready) (offered_index q h m.scene (m.lanes q).driver (m.lanes q).bell (m.lanes q).plan (m.lanes q).counter (m.lanes q).batch (m.lanes q).phase held.good.holds.queue)

event_lawful : (q : ℕ) (h : Header1) (m : Moment) (e : Event) (is : List Item) (next : Moment) → IsPlain h → HoldsOf q h m → DescribedAt q h m → IsOn q e → Plays h m e is next → BeforeEach h (IsLawfulItem h e) m.scene is
event_lawful q h m (events.Guest p k) is next plain held x on plays =
    let here : Plays h m (events.Guest q k) is next = subst (λ (p : ℕ). Plays h m (events.Guest p k) is next) on plays in
    let lawful : BeforeEach h (IsLawfulItem h (events.Guest q k)) m.scene is = subst (λ (y : Played). BeforeEach h (IsLawfulItem h (events.Guest q k)) m.scene y.items) (sym here) (guest_lawful q h k m plain held x) in
    subst (λ (p : ℕ). BeforeEach h (IsLawfulItem h (events.Guest p k)) m.scene is) (sym on) lawful
event_lawful q h m (events.Ask p shape a) is next plain held x on plays = quiet_lawful h (events.Ask p shape a) m.scene is (event_quiet h m (events.Ask p shape a) is next (λ guest. guest) plays)
event_lawful q h m (events.Collect p) is next plain held x on plays = quiet_lawful h (events.Collect p) m.scene is (event_quiet h m (events.Collect p) is next (λ guest. guest) plays)
event_lawful q h m events.Boot is next plain held x on plays = quiet_lawful h events.Boot m.scene is (event_quiet h m events.Boot is next (λ guest. guest) plays)
event_lawful q h m events.Join is next plain held x on plays = quiet_lawful h events.Join m.scene is (event_quiet h m events.Join is next (λ guest. guest) plays)
event_lawful q h m events.Kill is next plain held x on plays = quiet_lawful h events.Kill m.scene is (event_quiet h m events.Kill is next (λ guest. guest) plays)
event_lawful q h m (events.Start p) is next plain held x on plays = quiet_lawful h (events.Start p) m.scene is (event_quiet h m (events.Start p) is next (λ guest. guest) plays)
event_lawful q h m (events.Fetch p) is next plain held x on plays = quiet_lawful h (events.Fetch p) m.scene is (event_quiet h m (events.Fetch p) is next (λ guest. guest) plays)
event_lawful q h m (events.Work p place) is next plain held x on plays = quiet_lawful h (events.Work p place) m.scene is (event_quiet h m (events.Work p place) is next (λ guest. guest) plays)
event_lawful q h m (events.Publish p most) is next plain held x on plays = quiet_lawful h (events.Publish p most) m.scene is (event_quiet h m (events.Publish p most) is next (λ guest. guest) plays)
event_lawful q h m (events.Turn p count) is next plain held x on plays = quiet_lawful h (events.Turn p count) m.scene is (event_quiet h m (events.Turn p count) is next (λ guest. guest) plays)
event_lawful q h m (events.Drain p) is next plain held x on plays = quiet_lawful h (events.Drain p) m.scene is (event_quiet h m (events.Drain p) is next (λ guest. guest) plays)

-- ---- runs

-- what holds of every queue at every moment of a run
abbrev EveryDescribed : Header1 → Moment → Type 0
EveryDescribed h m = (q : ℕ) → q < h.queues → DescribedAt q h m

described_next : (h : Header1) (m : Moment) (e : Event) (is : List Item) (next : Moment) → IsHeader h → IsHeld h m → EveryDescribed h m → IsEvent h e → Plays h m e is next → EveryDescribed h next
described_next h m e is next header held x fits plays q low = event_described q h m e is next (plain_header h header) (held q low) (x q low) (on_one h q e header low fits) fits plays

lawful_from : (h : Header1) (m : Moment) (es : List Event) (rs : List Record) → IsHeader h → IsHeld h m → EveryDescribed h m → AllByRecursion (IsEvent h) es → RunFrom h m es rs → LawfulFrom h m.scene rs
lawful_from h m [] [] header held x fits run = tt
lawful_from h m [] (r ∷ rs) header held x fits run = absurd run
lawful_from h m (e ∷ es) [] header held x fits run = absurd run
lawful_from h m (e ∷ es) (r ∷ rs) header held x fits run =
    let next : Moment = run.1.0 in
    let some : 0 < h.queues = some_queue h header in
    let right : Right 0 h m r.items next = held_right 0 h m e r.items next header some held fits.0 run.1.1 in
    let lawful : BeforeEach h (IsLawfulItem h e) m.scene r.items = event_lawful 0 h m e r.items next (plain_header h header) (held 0 some) (x 0 some) (on_one h 0 e header some fits.0) run.1.1 in
    let rest : LawfulFrom h next.scene rs = lawful_from h next es rs header (held_next h m e r.items next header held fits.0 run.1.1) (described_next h m e r.items next header held x fits.0 run.1.1) fits.1 run.1.2 in (
      subst (λ (y : Event). BeforeEach h (IsLawfulItem h y) m.scene r.items) (sym run.0) lawful,
      subst (λ (s : Scene). LawfulFrom h s rs) right.scene rest,
    )

pub run_lawful : (h : Header1) (es : List Event) (rs : List Record) → IsHeader h → AllByRecursion (IsEvent h) es → RunFrom h (opening h) es rs → EveryStoreIsLawful h rs
run_lawful h es rs header fits run = lawful_from h (opening h) es rs header (opening_held h header) (λ q low. opening_described q h) fits run

-- where a run leads
run_described : (h : Header1) (m : Moment) (es : List Event) (rs : List Record) (n : Moment) → IsHeader h → IsHeld h m → EveryDescribed h m → AllByRecursion (IsEvent h) es → RunTo h m es rs n → EveryDescribed h n
run_described h m [] [] n header held x fits run = subst (λ (y : Moment). EveryDescribed h y) (sym run) x
run_described h m [] (r ∷ rs) n header held x fits run = absurd run
run_described h m (e ∷ es) [] n header held x fits run = absurd run
run_described h m (e ∷ es) (r ∷ rs) n header held x fits run =
    run_described h run.1.0 es rs n header (held_next h m e r.items run.1.0 header held fits.0 run.1.1) (described_next h m e r.items run.1.0 header held x fits.0 run.1.1) fits.1 run.1.2

pub stands_described : (h : Header1) (es : List Event) (rs : List Record) (n : Moment) (q k : ℕ) → q < h.queues → Stands h es rs n → IsOutstanding q n.scene k → get_or (n.scene.descriptors q) k [] ≡ chain_in (the_ring q h.size) n.scene.memory (slice_index (n.scene.heads q) k)
stands_described h es rs n q k low s out =
    let x : EveryDescribed h n = run_described h (opening h) es rs n s.header (opening_held h s.header) (λ p fits. opening_described p h) s.events s.run in
    let known : Known q h.size h.capacity n.scene.past (n.scene.heads q) = (stands_held h es rs n s q low).good.holds.known in
    (x q low).stands k (record { below = omega (arith, out.offered, known.offers_are); kept = out.kept })
