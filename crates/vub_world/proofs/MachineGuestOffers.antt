-- Where the machine stands after the driver's stores of a request, whose last one offers it.
use Rattle.std.proofs.Common.{◌≡◌, ◌≢◌, ◌≤◌, ◌<◌, ℕ, zero, suc, ◌+◌, Bool, true, false, cond, List, [], ◌∷◌, ◌++◌, length, take, refl, ap, sym, ◌∙◌, subst, inl, inr, arith}
use Rattle.std.specs.Prelude.{Option, Some, None, slice_index, is_some, ◌==◌}
use Rattle.std.proofs.lemmas.Bool.Decides.{nat_tests}
use Rattle.std.proofs.lemmas.Bool.{cases_Bool, cases_lt}
use Rattle.std.proofs.lemmas.List.{length_push}
use Rattle.vub_base.specs.declared.header.Header1.{Header1}
use Rattle.vub_base.specs.declared.request.Ask.{Ask}
use Rattle.vub_base.specs.declared.request.Ask.TheVariants as wants
use Rattle.vub_infl_split.specs.Region.{RegionWords, words_of}
use Rattle.vub_infl_split.proofs.WordLemmas.{words_elsewhere}
use Rattle.vub_shared.specs.Bytes.{Bytes, put}
use Rattle.vub_shared.specs.Stores.{Store, one_store}
use Rattle.vub_shared.specs.declared.watched_shared.WatchedShared.{WatchedShared}
use Rattle.vub_driver.specs.Drivers.{Waiting, after_stores}
use Rattle.vub_device.specs.declared.entry.Asked.{Asked}
use Rattle.vub_device.specs.declared.entry.Entry.{Entry}
use Rattle.vub_device.specs.declared.entry.Entry.TheVariants as entries
use Rattle.vub_device.specs.Past.{asked, accepted, published, collected, is_among}
use Rattle.vub_schedule.specs.declared.types.Event.{Event}
use Rattle.vub_schedule.specs.declared.types.Event.TheVariants as events
use Rattle.vub_guest.specs.declared.guest.Guest.{Guest}
use Rattle.vub_world.specs.declared.outstanding.OutstandingRequests.{OutstandingRequests}
use Rattle.vub_world.specs.declared.outstanding.OutstandingRequest.{OutstandingRequest}
use Rattle.vub_world.specs.declared.driver_side.DriverSide.{DriverSide}
use Rattle.vub_world.specs.DriverSides.{Parts, desk, desk_of, setup_of}
use Rattle.vub_setup.specs.Setups.{SplitSetup}
use Rattle.vub_report.specs.declared.items.Item.{Item}
use Rattle.vub_report.specs.declared.items.Item.TheVariants as items
use Rattle.vub_report.specs.declared.items.Record.{Record}
use Rattle.vub_guest.specs.GuestState.{last_used_in}
use Rattle.vub_world.specs.OutstandingRequests.{offered_in, slot_in, reads_in, new_slot, Offers}
use Rattle.vub_world.specs.MachineAt.{DriverSideAt, LifeAt, OutstandingAt, PartsAt, reads_of}
use Rattle.vub_world.specs.MachineDriverSide.{GuestGoes}
use Rattle.vub_run.specs.Memory.{Scene, after_item, after_items}
use Rattle.vub_run.specs.Moments.{Lane, Moment, region_of, region_in}
use Rattle.vub_queue.specs.QueueState.{QueueState}
use Rattle.vub_run.specs.Run.{Stands, played, if_ready, with_lane, with_driver, guest_items, guest_stores, guest}
use Rattle.vub_device.specs.Requests.{request_of}
use Rattle.vub_run_laws.proofs.RunGood.{Known, IsOut, IsSize, BetweenTurns}
use Rattle.vub_run_laws.proofs.RunOffers.{same_head, new_head, same_asked, new_asked}
use Rattle.vub_run_laws.proofs.RunTurns.{IsPlain, Good}
use Rattle.vub_run_laws.proofs.RunHolds.{EntryStands}
use Rattle.vub_run_laws.proofs.RunQueue.{heads_apart, left_offered, fetch_more}
use Rattle.vub_run_laws.proofs.RunChainsEvents.{chained_entry}
use Rattle.vub_run_laws.proofs.Runs.{plain_header}
use Rattle.vub_run_laws.proofs.RunsTo.{stands_good, stands_chained, stands_more}
use Rattle.vub_run_laws.proofs.RunChainsStores.{put_all}
use Rattle.vub_run_laws.proofs.RunChainsGuests.{guest_scene, part_scene}
use Rattle.vub_steps.specs.declared.steps.Phase.{Phase}
use Rattle.vub_steps.specs.declared.steps.Phase.TheVariants as phases
use Rattle.vub_run_laws.proofs.RunCarries.{batch_taken}
use Rattle.vub_run_laws.proofs.RingFacts.{map_alike}
use Rattle.vub_queue_in_run.proofs.QueueAtMoves.{at_offer, offered_spot}
use Rattle.vub_queue_in_run.proofs.QueueAtTurns.{worked_at}
use Rattle.vub_queue.specs.QueueFacts.{hidden_part, kept_head}
use Rattle.vub_queue_in_run.specs.QueueAt.{QueueAt, PhaseAt, spot_of}
use Rattle.vub_world.proofs.MachineLanes.{all_lanes, life_with}

-- ---- the outstanding requests

reads_are : (a : Ask) → reads_of (Some (request_of a)) ≡ reads_in a
reads_are (wants.Read s n) = refl
reads_are (wants.Write s fills) = refl
reads_are wants.Flush = refl
reads_are wants.Id = refl
reads_are (wants.Discard parts) = refl
reads_are (wants.Zero parts) = refl

abbrev slot : ℕ → ℕ → OutstandingRequest
slot number reads = record { number = number; reads = reads }

-- a request that is offered isn't collected
new_out : (q : ℕ) (n cap : ℕ) (past : List Entry) (heads : List ℕ) (r : Asked) (head : ℕ) → Known q n cap past heads → IsOut q (entries.Offer q r ∷ past) (heads ++ head ∷ []) (length heads)
new_out q n cap past heads r head known =
    let c : ℕ = length heads in
    record {
      below = omega (arith, length_push heads head);
      kept = elim (cases_Bool (is_among (take (collected past q) (published past q)) c)) [
        | inl held ↦ absurd (let low : is_among (published past q) c ≡ true = among_taken (published past q) (collected past q) c held in omega (arith, known.below c low, known.offered))
        | inr out ↦ out
      ];
    }
  where
    among_taken : (xs : List ℕ) (k x : ℕ) → is_among (take k xs) x ≡ true → is_among xs x ≡ true
    among_taken [] zero x held = held
    among_taken [] (suc k) x held = held
    among_taken (y ∷ xs) zero x held = absurd (let fails : false ≡ true = held in cc)
    among_taken (y ∷ xs) (suc k) x held =
        let rest : is_among (take k xs) x ≡ true → is_among xs x ≡ true = λ h. among_taken xs k x h in
        grind (arith, nat_tests)

-- no two outstanding requests have the same head
abbrev AreApart : ℕ → List Entry → List ℕ → Type 0
AreApart q past heads = (j k : ℕ) → IsOut q past heads j → IsOut q past heads k → slice_index heads j ≡ slice_index heads k → j ≡ k

-- under the head of the request stand its number and what it reads, and others keep their slots
offered_outstanding : (q : ℕ) (n cap : ℕ) (past : List Entry) (heads : List ℕ) (a : Ask) (head : ℕ) (l now : OutstandingRequests) → OutstandingAt q n past heads l → Known q n cap past heads
    → AreApart q (entries.Offer q (request_of a) ∷ past) (heads ++ head ∷ []) → Offers l now head a
    → OutstandingAt q n (entries.Offer q (request_of a) ∷ past) (heads ++ head ∷ []) now
offered_outstanding q n cap past heads a head l now at known distinct offers =
    let r : Asked = request_of a in
    let past' : List Entry = entries.Offer q r ∷ past in
    let heads' : List ℕ = heads ++ head ∷ [] in
    let c : ℕ = length heads in
    let long : length heads' ≡ c + 1 = length_push heads head in
    let last_out : IsOut q past' heads' c = new_out q n cap past heads r head known in
    let last_head_is : slice_index heads' c ≡ head = new_head heads head in
    record {
      offers_are = offers.offered ∙ ap (λ (k : ℕ). k + 1) at.offers_are ∙ sym long;
      collects_are = offers.collected ∙ at.collects_are;
      places = offers.size ∙ at.places;
      slots = λ k below kept. elim (cases_lt k c) [
        | inl low ↦
            let d : ℕ = slice_index heads' k in
            let head_is : d ≡ slice_index heads k = same_head heads head k low in
            let apart : d ≢ head = λ same. (let one : k ≡ c = distinct k c (record { below = below; kept = kept }) last_out (same ∙ sym last_head_is) in omega (arith, one)) in
            let other : (d == head) ≡ false = grind (arith, nat_tests) in
            let still : slot_in now d ≡ slot_in l d = offers.slots d ∙ ap (λ (b : Bool). cond {A = OutstandingRequest} b (new_slot l a) (slot_in l d)) other in
            let asks_it : asked past' q k ≡ asked past q k = same_asked q past r k (omega (arith, low, known.offers_are)) in
            still ∙ ap (λ (e : ℕ). slot_in l e) head_is ∙ at.slots k low kept ∙ ap (λ (o : Option Asked). slot k (reads_of o)) (sym asks_it)
        | inr high ↦
            let is : k ≡ c = omega (arith, long, high, below) in
            let d : ℕ = slice_index heads' k in
            let here : d ≡ head = ap (λ (i : ℕ). slice_index heads' i) is ∙ last_head_is in
            let yes : (d == head) ≡ true = grind (arith, nat_tests) in
            let new : slot_in now d ≡ new_slot l a = offers.slots d ∙ ap (λ (b : Bool). cond {A = OutstandingRequest} b (new_slot l a) (slot_in l d)) yes in
            let number : offered_in l ≡ k = at.offers_are ∙ sym is in
            let asks_it : asked past' q k ≡ Some r = new_asked q past r k (is ∙ known.offers_are) in
            new ∙ ap (λ (i : ℕ). slot i (reads_in a)) number ∙ ap (λ (i : ℕ). slot k i) (sym (reads_are a)) ∙ ap (λ (o : Option Asked). slot k (reads_of o)) (sym asks_it)
      ];
    }

-- ---- the moment

-- the driver's stores leave the in-flight region
region_kept : (q : ℕ) (h : Header1) (stores : List Store) (m : Bytes) → words_of (region_of q h.size) (put_all stores m) ≡ words_of (region_of q h.size) m
region_kept q h [] m = refl
region_kept q h (st ∷ stores) m =
    let first : words_of (region_of q h.size) (put m 0 st.place st.bytes) ≡ words_of (region_of q h.size) m = words_elsewhere (region_of q h.size) m (one_store 0 st.place st.bytes) (inl (λ e. omega (arith, e))) in
    region_kept q h stores (put m 0 st.place st.bytes) ∙ first

-- the lane after so many of the stores
abbrev pub stored_lane : ℕ → ℕ → Waiting → Moment → Lane
stored_lane q count x m = with_driver (after_stores count x (m.lanes q).driver) (m.lanes q)

-- the scene after the offer, where memory is that
abbrev pub offered_scene : ℕ → Header1 → Asked → Bytes → Scene → Scene
offered_scene q h r b s = after_item h (items.Made (entries.Offer q r)) (record s { memory = b })

abbrev pub moment_with : ℕ → ℕ → Waiting → Moment → Scene → Moment
moment_with q count x m s = with_lane q (stored_lane q count x m) (record m { scene = s })

-- the head of a fetch that is under way was offered before
fetched_kept : (q : ℕ) (h : Header1) (m : Moment) (x : ℕ) → IsSize h.size → Good q h m
    → kept_head (m.lanes q).phase (slice_index (m.scene.heads q) (accepted m.scene.past q)) ≡ kept_head (m.lanes q).phase (slice_index (m.scene.heads q ++ x ∷ []) (accepted m.scene.past q))
fetched_kept q h m x size good = go (m.lanes q).phase good.holds.worked.between refl
  where
    a : ℕ
    a = accepted m.scene.past q

    heads : List ℕ
    heads = m.scene.heads q

    go : (p : Phase) → BetweenTurns p → (m.lanes q).phase ≡ p → kept_head p (slice_index heads a) ≡ kept_head p (slice_index (heads ++ x ∷ []) a)
    go phases.Rest between is = refl
    go (phases.Start done) between is = refl
    go (phases.Fetch zero) between is = refl
    go (phases.Fetch (suc done)) between is = ap (λ (d : ℕ). Some d) (sym (same_head heads x a (fetch_more q h m.scene (m.lanes q) size (is ∙ ap (λ (n : ℕ). phases.Fetch n) between) good.holds)))
    go (phases.Publish done) between is = refl

-- an offer leaves what a queue keeps of its phase
phase_offered : (q : ℕ) (h : Header1) (setup : SplitSetup) (m : Moment) (state : QueueState) (r : Asked) (x : ℕ) → IsSize h.size → Good q h m
    → PhaseAt q h setup m.scene.past (m.scene.heads q) (m.lanes q).bell (m.lanes q).plan (m.lanes q).counter (m.lanes q).batch (m.lanes q).phase (region_in h q m.scene) state
    → PhaseAt q h setup (entries.Offer q r ∷ m.scene.past) (m.scene.heads q ++ x ∷ []) (m.lanes q).bell (m.lanes q).plan (m.lanes q).counter (m.lanes q).batch (m.lanes q).phase (region_in h q m.scene) state
phase_offered q h setup m state r x size good z =
    let l : Lane = m.lanes q in
    let past : List Entry = m.scene.past in
    let heads : List ℕ = m.scene.heads q in
    let low : (k : ℕ) → is_among l.batch k ≡ true → k < accepted past q = λ k held. batch_taken q past l.counter l.phase l.batch l.completed good.holds.worked.opens good.holds.known.below good.holds.carries k held in
    record {
      index = z.index;
      bell = z.bell;
      ring = z.ring;
      region = z.region;
      base = z.base;
      begun = z.begun;
      counter = z.counter;
      fetching = z.fetching ∙ fetched_kept q h m x size good;
      batch = z.batch ∙ map_alike (spot_of q h past heads) (spot_of q h (entries.Offer q r ∷ past) (heads ++ x ∷ [])) l.batch (λ k held. sym (offered_spot q h past heads r x k good.holds.known (low k held)));
    }

offered_life : (q : ℕ) (h : Header1) (setup : SplitSetup) (count : ℕ) (m : Moment) (x : Waiting) (r : Asked) (b : Bytes) (life : Option (Option QueueState)) → words_of (region_of q h.size) b ≡ region_in h q m.scene → (offered_scene q h r b m.scene).heads q ≡ m.scene.heads q ++ x.head ∷ [] → IsSize h.size → Good q h m → LifeAt q h setup m life → LifeAt q h setup (moment_with q count x m (offered_scene q h r b m.scene)) life
offered_life q h setup count m x r b life same heads size good at = life_with q h setup (record m { scene = offered_scene q h r b m.scene }) (stored_lane q count x m) life (offered life at)
  where
    offered : (life : Option (Option QueueState)) → LifeAt q h setup m life → LifeAt q h setup (all_lanes (stored_lane q count x m) (record m { scene = offered_scene q h r b m.scene })) life
    offered None at = at
    offered (Some None) at = at
    offered (Some (Some queue)) at =
        let l : Lane = m.lanes q in
        let past' : List Entry = entries.Offer q r ∷ m.scene.past in
        let stands = at_offer q h setup m.scene.past (m.scene.heads q) l.phase (hidden_part l.phase l.batch) l.completed l.made queue r x.head good.holds.known (worked_at q h m good.holds) at.1.2.at in
        let phase = phase_offered q h setup m queue r x.head size good at.1.2.phase in
        let words : region_in h q (offered_scene q h r b m.scene) ≡ region_in h q m.scene = same in (
          at.0,
          (
            at.1.0,
            at.1.1,
            record {
              at = subst (λ (hs : List ℕ). QueueAt q h setup past' hs l.phase (hidden_part l.phase l.batch) l.completed l.made queue) (sym heads) stands;
              phase = subst (λ (hs : List ℕ). PhaseAt q h setup past' hs l.bell l.plan l.counter l.batch l.phase (region_in h q (offered_scene q h r b m.scene)) queue) (sym heads)
                  (subst (λ (w : RegionWords). PhaseAt q h setup past' (m.scene.heads q ++ x.head ∷ []) l.bell l.plan l.counter l.batch l.phase w queue) (sym words) phase);
            },
          ),
        )

-- stores that offer nothing are nothing to the device
stored_life : (q : ℕ) (h : Header1) (setup : SplitSetup) (count : ℕ) (m : Moment) (x : Waiting) (b : Bytes) (life : Option (Option QueueState)) → words_of (region_of q h.size) b ≡ region_in h q m.scene → LifeAt q h setup m life → LifeAt q h setup (moment_with q count x m (record m.scene { memory = b })) life
stored_life q h setup count m x b life same at = life_with q h setup (record m { scene = record m.scene { memory = b } }) (stored_lane q count x m) life (stored life at)
  where
    stored : (life : Option (Option QueueState)) → LifeAt q h setup m life → LifeAt q h setup (all_lanes (stored_lane q count x m) (record m { scene = record m.scene { memory = b } })) life
    stored None at = at
    stored (Some None) at = at
    stored (Some (Some queue)) at =
        let l : Lane = m.lanes q in
        let phase = subst (λ (w : RegionWords). PhaseAt q h setup m.scene.past (m.scene.heads q) l.bell l.plan l.counter l.batch l.phase w queue) (sym same) at.1.2.phase in
        (at.0, (at.1.0, at.1.1, record { at = at.1.2.at; phase = phase }))

-- the parts with another memory and side
abbrev pub with_desk : Parts → WatchedShared → DriverSide → Parts
with_desk w memory side = record w { memory = memory; side = side }

abbrev pub with_side : Parts → WatchedShared → Guest → Option Ask → OutstandingRequests → Parts
with_side w memory guest asked outstanding = record w { memory = memory; side = record w.side { guest = guest; asked = asked; outstanding = outstanding } }

-- the moment that so many stores of a request lead to
abbrev pub stored_moment : ℕ → Header1 → ℕ → Waiting → Moment → Moment
stored_moment q h count x m = (guest_stores h q count (Some x) m).next

-- a moment of a run, where these are all that were left
offered_good : (q : ℕ) (h : Header1) (es : List Event) (rs : List Record) (m : Moment) (x : Waiting) (is : List Item) (count : ℕ) → q < h.queues → Stands h es rs m → count < 65536 → 0 < length x.left → length x.left ≤ count
    → played is (stored_moment q h count x m) ≡ guest h q count m → Good q h (moment_with q count x m (offered_scene q h (request_of x.ask) (put_all x.left m.scene.memory) m.scene))
offered_good q h es rs m x is count low s fits some few plays =
    let next : Moment = stored_moment q h count x m in
    let record_of : Record = record { event = events.Guest q count; items = is } in
    let later : Good q h next = stands_good q h (es ++ events.Guest q count ∷ []) (rs ++ record_of ∷ []) next low (stands_more h es rs m next (events.Guest q count) record_of s (omega (arith, low, s.header.one), omega (arith, some, few), fits) refl plays) in
    subst (λ (n : Moment). Good q h n) (ap (moment_with q count x m) (guest_scene q h count x.ask x.left m.scene some few)) later

-- where these are all that were left
offered_at : (q : ℕ) (w : Parts) (memory : WatchedShared) (guest' : Guest) (asked' : Option Ask) (outstanding : OutstandingRequests) (es : List Event) (rs : List Record) (m : Moment) (x : Waiting) (is : List Item) (count : ℕ)
    → last_used_in guest' ≡ last_used_in w.side.guest → q < w.side.header.queues → Stands w.side.header es rs m → PartsAt q w m → count < 65536 → 0 < length x.left → length x.left ≤ count → (m.lanes q).driver.waiting ≡ Some x
    → played is (stored_moment q w.side.header count x m) ≡ guest w.side.header q count m → GuestGoes q count x (desk_of w) (desk_of (with_side w memory guest' asked' outstanding)) m [] is
    → PartsAt q (with_side w memory guest' asked' outstanding) (stored_moment q w.side.header count x m)
offered_at q w memory guest' asked' outstanding es rs m x is count position low s at fits some few waits plays goes =
    let h : Header1 = w.side.header in
    let now : Parts = with_side w memory guest' asked' outstanding in
    let good : Good q h m = stands_good q h es rs m low s in
    let r : Asked = request_of x.ask in
    let next : Moment = stored_moment q h count x m in
    let b : Bytes = put_all x.left m.scene.memory in
    let scene : after_items h (guest_items count q x.ask x.left) m.scene ≡ offered_scene q h r b m.scene = guest_scene q h count x.ask x.left m.scene some few in
    let whole : next ≡ moment_with q count x m (offered_scene q h r b m.scene) = ap (moment_with q count x m) scene in
    let side : DriverSideAt q (desk_of now) (moment_with q count x m (offered_scene q h r b m.scene)) = subst (λ (n : Moment). DriverSideAt q (desk_of now) n) whole goes.side in
    let good_next : Good q h (moment_with q count x m (offered_scene q h r b m.scene)) = offered_good q h es rs m x is count low s fits some few plays in
    let plain : IsPlain h = plain_header h s.header in
    let entry : EntryStands q h m = chained_entry q h m plain good (stands_chained q h es rs m low s) in
    let own : (offered_scene q h r b m.scene).heads q ≡ m.scene.heads q ++ x.head ∷ [] = left_offered q h m x r plain.good.size waits entry good.holds.queue in
    let lane : Lane = (moment_with q count x m (offered_scene q h r b m.scene)).lanes q in
    let apart : AreApart q (entries.Offer q r ∷ m.scene.past) (m.scene.heads q ++ x.head ∷ []) =
    subst (λ (hs : List ℕ). AreApart q (entries.Offer q r ∷ m.scene.past) hs) own (λ j k. heads_apart q h (offered_scene q h r b m.scene) lane.driver lane.bell lane.plan lane.counter lane.batch lane.phase j k good_next.holds.queue) in
    let stands : PartsAt q now (moment_with q count x m (offered_scene q h r b m.scene)) = record {
      side = side;
      position = position ∙ at.position;
      life = offered_life q h (setup_of w.side) count m x r b w.life (region_kept q h x.left m.scene.memory) own plain.good.size good at.life;
      disk = at.disk;
      outstanding = subst (λ (hs : List ℕ). OutstandingAt q h.size (entries.Offer q r ∷ m.scene.past) hs outstanding) (sym own)
          (offered_outstanding q h.size h.capacity m.scene.past (m.scene.heads q) x.ask x.head w.side.outstanding outstanding at.outstanding good.holds.known apart (goes.outstanding.offers few));
    } in
    subst (λ (n : Moment). PartsAt q now n) (sym whole) stands

-- where some are left
partly_at : (q : ℕ) (w : Parts) (memory : WatchedShared) (guest' : Guest) (asked' : Option Ask) (outstanding : OutstandingRequests) (m : Moment) (x : Waiting) (is : List Item) (count : ℕ) → last_used_in guest' ≡ last_used_in w.side.guest → PartsAt q w m → count < length x.left
    → GuestGoes q count x (desk_of w) (desk_of (with_side w memory guest' asked' outstanding)) m [] is → PartsAt q (with_side w memory guest' asked' outstanding) (stored_moment q w.side.header count x m)
partly_at q w memory guest' asked' outstanding m x is count position at part goes =
    let h : Header1 = w.side.header in
    let now : Parts = with_side w memory guest' asked' outstanding in
    let b : Bytes = put_all (take count x.left) m.scene.memory in
    let scene : after_items h (guest_items count q x.ask x.left) m.scene ≡ record m.scene { memory = b } = part_scene q h count x.ask x.left m.scene part in
    let whole : stored_moment q h count x m ≡ moment_with q count x m (record m.scene { memory = b }) = ap (moment_with q count x m) scene in
    let stands : PartsAt q now (moment_with q count x m (record m.scene { memory = b })) = record {
      side = subst (λ (n : Moment). DriverSideAt q (desk_of now) n) whole goes.side;
      position = position ∙ at.position;
      life = stored_life q h (setup_of w.side) count m x b w.life (region_kept q h (take count x.left) m.scene.memory) at.life;
      disk = at.disk;
      outstanding = subst (λ (l : OutstandingRequests). OutstandingAt q h.size m.scene.past (m.scene.heads q) l) (sym (goes.outstanding.before part)) at.outstanding;
    } in
    subst (λ (n : Moment). PartsAt q now n) (sym whole) stands

-- the event is played
pub guest_performs : (q : ℕ) (w : Parts) (memory : WatchedShared) (side : DriverSide) (es : List Event) (rs : List Record) (m : Moment) (x : Waiting) (is : List Item) (count : ℕ) → side ≡ record w.side { guest = side.guest; asked = side.asked; outstanding = side.outstanding }
    → last_used_in side.guest ≡ last_used_in w.side.guest → q < w.side.header.queues → Stands w.side.header es rs m → PartsAt q w m → count < 65536 → 0 < length x.left → (m.lanes q).driver.waiting ≡ Some x
    → GuestGoes q count x (desk_of w) (desk memory side) m [] is → (next : Moment) × (played is next ≡ guest w.side.header q count m) × PartsAt q (with_desk w memory side) next
guest_performs q w memory side es rs m x is count frame position low s at fits some waits goes =
    let h : Header1 = w.side.header in
    let next : Moment = stored_moment q h count x m in
    let plays : played is next ≡ guest h q count m = ap (λ (js : List Item). played js next) goes.items ∙ ap (λ (o : Option Waiting). if_ready (is_some o) (guest_stores h q count o m) m) (sym waits) in
    let here : GuestGoes q count x (desk_of w) (desk_of (with_side w memory side.guest side.asked side.outstanding)) m [] is = subst (λ (f : DriverSide). GuestGoes q count x (desk_of w) (desk memory f) m [] is) frame goes in
    let stands : PartsAt q (with_side w memory side.guest side.asked side.outstanding) next = elim (cases_lt count (length x.left)) [
      | inl part ↦ partly_at q w memory side.guest side.asked side.outstanding m x is count position at part here
      | inr all ↦ offered_at q w memory side.guest side.asked side.outstanding es rs m x is count position low s at fits some (omega arith) waits plays here
    ] in
    (next, plays, subst (λ (f : DriverSide). PartsAt q (with_desk w memory f) next) (sym frame) stands)
