-- Where the machine stands after the driver collected what the device shows.
use Rattle.std.proofs.Common.{◌≡◌, ◌≤◌, ◌<◌, ℕ, ◌+◌, ◌%◌, false, List, [], ◌∷◌, ◌++◌, length, take, ap, sym, ◌∙◌, subst, arith}
use Rattle.std.specs.Prelude.{Option, Some, None, slice_index, ◌||◌}
use Rattle.std.proofs.lemmas.Bool.Decides.{nat_tests}
use Rattle.std.proofs.lemmas.List.{take_more}
use Rattle.vub_base.specs.declared.header.Header1.{Header1}
use Rattle.vub_shared.specs.Bytes.{Bytes}
use Rattle.vub_shared.specs.Watched.{bytes_in}
use Rattle.vub_shared.specs.declared.watched_shared.WatchedShared.{WatchedShared}
use Rattle.vub_ring.specs.Ring.{Ring}
use Rattle.vub_driver.specs.Drivers.{Driver, after_collect}
use Rattle.vub_driver.specs.Shown.{ShowsNext}
use Rattle.vub_device.specs.declared.entry.Entry.{Entry}
use Rattle.vub_device.specs.declared.entry.Entry.TheVariants as entries
use Rattle.vub_device.specs.Past.{published, collected, is_among}
use Rattle.vub_device.proofs.Numbers.{is_among_append}
use Rattle.vub_schedule.specs.declared.types.Event.{Event}
use Rattle.vub_guest.specs.declared.guest.Guest.{Guest}
use Rattle.vub_world.specs.declared.outstanding.OutstandingRequests.{OutstandingRequests}
use Rattle.vub_world.specs.declared.outstanding.OutstandingRequest.{OutstandingRequest}
use Rattle.vub_driver.specs.Layout.{ring_of}
use Rattle.vub_guest.specs.declared.guest.Collected.TheVariants as takes
use Rattle.vub_report.specs.declared.items.Item.{Item}
use Rattle.vub_world.specs.declared.driver_side.DriverSide.{DriverSide}
use Rattle.vub_world.specs.DriverSides.{Parts, desk_of, setup_of}
use Rattle.vub_world.specs.MachineDriverSide.{HasPlace, HasPlaces, TakesOne, TakesFirst}
use Rattle.vub_run.specs.Memory.{after_items}
use Rattle.vub_run_laws.proofs.RunOwn.{collected_own}
use Rattle.vub_world.proofs.MachineLanes.{all_lanes, life_with, side_with}
use Rattle.vub_world.proofs.MachineGuestOffers.{with_desk}
use Rattle.vub_setup.specs.Setups.{SplitSetup}
use Rattle.vub_report.specs.declared.items.Item.TheVariants as items
use Rattle.vub_report.specs.declared.items.Record.{Record}
use Rattle.vub_guest.specs.GuestState.{ring_in, driver_in, last_used_in, Shows}
use Rattle.vub_world.specs.OutstandingRequests.{offered_in, collected_in, slot_in}
use Rattle.vub_world.specs.MachineAt.{AskAt, LifeAt, PartsAt, PartsStand}
use Rattle.vub_run.specs.Moments.{Lane, Moment, region_in}
use Rattle.vub_queue.specs.QueueState.{QueueState}
use Rattle.vub_queue.specs.QueueFacts.{hidden_part}
use Rattle.vub_queue_in_run.specs.QueueAt.{PhaseAt}
use Rattle.vub_infl_split.specs.Region.{RegionWords}
use Rattle.vub_run.specs.Run.{Stands, played, with_driver, next_collected, take_first, collect}
use Rattle.vub_run_laws.proofs.RunGood.{IsOut}
use Rattle.vub_run_laws.proofs.RunQueue.{sees, SeesFirst, queue_none, queue_shown, queue_free, head_below}
use Rattle.vub_run_laws.proofs.RunTaken.{IsTaken, next_number, next_out}
use Rattle.vub_run_laws.proofs.RunTurns.{Good}
use Rattle.vub_run_laws.proofs.Runs.{plain_header}
use Rattle.vub_run_laws.proofs.RunsTo.{stands_good}
use Rattle.vub_queue_in_run.proofs.QueueAtMoves.{at_collect}

-- the machine after a collection
abbrev pub with_taken : Parts → WatchedShared → Guest → OutstandingRequests → Parts
with_taken w memory guest' outstanding = record w { memory = memory; side = record w.side { guest = guest'; outstanding = outstanding } }

-- ---- what is shown

-- it stands in the memory of the moment
shown_there : (q : ℕ) (w : Parts) (m : Moment) (found : Option ℕ) → PartsAt q w m → ShowsNext found (ring_of q w.side.header.size) (bytes_in w.memory) (last_used_in w.side.guest) → ShowsNext found (ring_of q w.side.header.size) m.scene.memory (last_used_in w.side.guest)
shown_there q w m found at shown = subst (λ (b : Bytes). ShowsNext found (ring_of q w.side.header.size) b (last_used_in w.side.guest)) at.side.memory shown

-- ---- nothing is shown

pub none_performs : (q : ℕ) (w : Parts) (memory : WatchedShared) (guest' : Guest) (m : Moment) → PartsAt q w m → bytes_in memory ≡ bytes_in w.memory → ShowsNext None (ring_of q w.side.header.size) (bytes_in w.memory) (last_used_in w.side.guest)
    → driver_in guest' ≡ driver_in w.side.guest → last_used_in guest' ≡ last_used_in w.side.guest
    → (next : Moment) × (played (items.Idle ∷ []) next ≡ collect w.side.header q m) × PartsAt q (with_taken w memory guest' w.side.outstanding) next
none_performs q w memory guest' m at bytes shown driver position =
    let h : Header1 = w.side.header in
    let none : sees q h m.scene ≡ [] = queue_none q h m.scene (last_used_in w.side.guest) at.position (shown_there q w m None at shown) in (
      m,
      sym (ap (λ (xs : List (ℕ × ℕ)). take_first h q xs m) none),
      record {
        side = record { memory = bytes ∙ at.side.memory; driver = driver ∙ at.side.driver; asks = at.side.asks };
        position = position ∙ at.position;
        life = at.life;
        disk = at.disk;
        outstanding = at.outstanding;
      },
    )

-- ---- an element is taken

-- what isn't among more numbers isn't among fewer
fewer_among : (xs : List ℕ) (c k : ℕ) → c < length xs → is_among (take (c + 1) xs) k ≡ false → is_among (take c xs) k ≡ false
fewer_among xs c k less out =
    let more : take (c + 1) xs ≡ take c xs ++ slice_index xs c ∷ [] = take_more xs c 0 less in
    let joined : is_among (take c xs ++ slice_index xs c ∷ []) k ≡ (is_among (take c xs) k || is_among (slice_index xs c ∷ []) k) = is_among_append (take c xs) (slice_index xs c ∷ []) k in
    let none : (is_among (take c xs) k || is_among (slice_index xs c ∷ []) k) ≡ false = sym joined ∙ ap (λ (ks : List ℕ). is_among ks k) (sym more) ∙ out in
    grind (arith, nat_tests)

-- the lane after the element was taken
abbrev taken_lane : ℕ → ℕ → Moment → Lane
taken_lane q x m = with_driver (after_collect x (m.lanes q).driver) (m.lanes q)

-- the moment with the scene after it
abbrev taken_moment : Header1 → ℕ → Moment → Moment
taken_moment h q m = record m { scene = after_items h (items.Made (entries.Collect q (next_collected q m)) ∷ []) m.scene }

-- a collection leaves what a queue keeps of its phase
phase_collected : (q : ℕ) (h : Header1) (setup : SplitSetup) (past : List Entry) (heads : List ℕ) (l : Lane) (w : RegionWords) (state : QueueState) (k : ℕ) → PhaseAt q h setup past heads l.bell l.plan l.counter l.batch l.phase w state
    → PhaseAt q h setup (entries.Collect q k ∷ past) heads l.bell l.plan l.counter l.batch l.phase w state
phase_collected q h setup past heads l w state k z = record {
  index = z.index;
  bell = z.bell;
  ring = z.ring;
  region = z.region;
  base = z.base;
  begun = z.begun;
  counter = z.counter;
  fetching = z.fetching;
  batch = z.batch;
}

taken_life : (q : ℕ) (h : Header1) (setup : SplitSetup) (m : Moment) (x : ℕ × ℕ) (xs : List (ℕ × ℕ)) (life : Option (Option QueueState)) → LifeAt q h setup m life → LifeAt q h setup (take_first h q (x ∷ xs) m).next life
taken_life q h setup m x xs life at = life_with q h setup (taken_moment h q m) (taken_lane q x.0 m) life (taken life at)
  where
    taken : (life : Option (Option QueueState)) → LifeAt q h setup m life → LifeAt q h setup (all_lanes (taken_lane q x.0 m) (taken_moment h q m)) life
    taken None at = at
    taken (Some None) at = at
    taken (Some (Some queue)) at =
        let l : Lane = m.lanes q in
        let stands = at_collect q h setup m.scene.past (m.scene.heads q) l.phase (hidden_part l.phase l.batch) l.completed l.made queue (next_collected q m) at.1.2.at in
        let phase = phase_collected q h setup m.scene.past (m.scene.heads q) l (region_in h q m.scene) queue (next_collected q m) at.1.2.phase in
        (at.0, (at.1.0, at.1.1, record { at = stands; phase = phase }))

head_plays : (q : ℕ) (h : Header1) (m : Moment) (x : ℕ × ℕ) (xs : List (ℕ × ℕ)) (number : ℕ) → number ≡ next_collected q m → sees q h m.scene ≡ x ∷ xs
    → played (items.Made (entries.Collect q number) ∷ []) (take_first h q (x ∷ xs) m).next ≡ collect h q m
head_plays q h m x xs number is seen_is =
    let next : Moment = (take_first h q (x ∷ xs) m).next in
    let here : played (items.Made (entries.Collect q number) ∷ []) next ≡ take_first h q (x ∷ xs) m = ap (λ (j : ℕ). played (items.Made (entries.Collect q j) ∷ []) next) is in
    here ∙ sym (ap (λ (ys : List (ℕ × ℕ)). take_first h q ys m) seen_is)

-- the first element that the driver sees: it names the head of a request that isn't collected
pub record IsFirst (q : ℕ) (w : Parts) (m : Moment) (head : ℕ) : Type 0 where
  pub shown : SeesFirst q w.side.header m.scene (m.lanes q) head
  pub out : IsOut q m.scene.past (m.scene.heads q) (slice_index (published m.scene.past q) (collected m.scene.past q))
  pub low : head < w.side.header.size

is_first : (q : ℕ) (w : Parts) (es : List Event) (rs : List Record) (m : Moment) (head : ℕ) → q < w.side.header.queues → Stands w.side.header es rs m → PartsAt q w m → ShowsNext (Some head) (ring_of q w.side.header.size) (bytes_in w.memory) (last_used_in w.side.guest) → IsFirst q w m head
is_first q w es rs m head low s at shown =
    let h : Header1 = w.side.header in
    let good : Good q h m = stands_good q h es rs m low s in
    let l : Lane = m.lanes q in
    let first : SeesFirst q h m.scene l head = queue_shown q h m.scene l (last_used_in w.side.guest) head (plain_header h s.header).good good.holds at.position (shown_there q w m (Some head) at shown) in
    let out : IsOut q m.scene.past (m.scene.heads q) (next_number q m.scene) = next_out q h m.scene l first.first.0 first.taken in
    let below : slice_index (m.scene.heads q) (next_number q m.scene) < h.size = head_below q h m.scene l.driver l.bell l.plan l.counter l.batch l.phase (next_number q m.scene) good.holds.queue out in
    record { shown = first; out = out; low = omega (arith, first.head_is, first.taken.head, below) }

-- so the table of outstanding requests has a place for it, and one is left to be collected
pub head_placed : (q : ℕ) (w : Parts) (head : ℕ) → PartsStand q w → ShowsNext (Some head) (ring_of q w.side.header.size) (bytes_in w.memory) (last_used_in w.side.guest) → HasPlace w.side head
head_placed q w head stood shown =
    let at : PartsAt q w stood.2.0 = stood.2.2 in
    let f : IsFirst q w stood.2.0 head = is_first q w stood.0 stood.1 stood.2.0 head stood.2.3 stood.2.1 at shown in
    let known = f.shown.taken.holds.known in
    record { below = omega (arith, f.low, at.outstanding.places); left = omega (arith, at.outstanding.collects_are, at.outstanding.offers_are, f.shown.taken.more, known.fewer, known.offered) }

-- no more requests are collected than were offered
pub collects_within : (q : ℕ) (w : Parts) → PartsStand q w → collected_in w.side.outstanding ≤ offered_in w.side.outstanding
collects_within q w stood =
    let known = (stands_good q w.side.header stood.0 stood.1 stood.2.0 stood.2.3 stood.2.1).holds.known in
    let at : PartsAt q w stood.2.0 = stood.2.2 in
    omega (arith, at.outstanding.collects_are, at.outstanding.offers_are, known.shown, known.fewer, known.offered)

pub head_performs : (q : ℕ) (w : Parts) (memory : WatchedShared) (guest' : Guest) (outstanding : OutstandingRequests) (es : List Event) (rs : List Record) (m : Moment) (head : ℕ) → q < w.side.header.queues → Stands w.side.header es rs m → PartsAt q w m → bytes_in memory ≡ bytes_in w.memory
    → ShowsNext (Some head) (ring_of q w.side.header.size) (bytes_in w.memory) (last_used_in w.side.guest)
    → driver_in guest' ≡ after_collect head (driver_in w.side.guest) → last_used_in guest' ≡ (last_used_in w.side.guest + 1) % 65536 → TakesOne w.side.outstanding outstanding
    → (next : Moment) × (played (items.Made (entries.Collect q (slot_in w.side.outstanding head).number) ∷ []) next ≡ collect w.side.header q m) × PartsAt q (with_taken w memory guest' outstanding) next
head_performs q w memory guest' outstanding es rs m head low s at bytes shown driver position takes =
    let h : Header1 = w.side.header in
    let c : ℕ = collected m.scene.past q in
    let ps : List ℕ = published m.scene.past q in
    let l : Lane = m.lanes q in
    let f : IsFirst q w m head = is_first q w es rs m head low s at shown in
    let x : ℕ × ℕ = f.shown.first in
    let k : ℕ = slice_index ps c in
    let t : IsTaken q h m.scene l x.0 = f.shown.taken in
    let number : (slot_in w.side.outstanding head).number ≡ k = ap (λ (d : ℕ). (slot_in w.side.outstanding d).number) (f.shown.head_is ∙ t.head) ∙ ap (λ (o : OutstandingRequest). o.number) (at.outstanding.slots k f.out.below f.out.kept) in
    let next : Moment = (take_first h q (x ∷ f.shown.rest) m).next in
    let own : collected next.scene.past q ≡ c + 1 = collected_own m.scene.past q (next_collected q m) in (
      next,
      head_plays q h m x f.shown.rest (slot_in w.side.outstanding head).number number f.shown.sees,
      record {
        side = side_with q (desk_of (with_taken w memory guest' outstanding)) (taken_moment h q m) (taken_lane q x.0 m) (record {
          memory = bytes ∙ at.side.memory;
          driver = driver ∙ ap (λ (d : ℕ). after_collect d (driver_in w.side.guest)) f.shown.head_is ∙ ap (λ (v : Driver). after_collect x.0 v) at.side.driver;
          asks = subst (λ (v : Driver). AskAt v.waiting w.side.asked) (sym (queue_free q h m.scene l x.0 t)) at.side.asks;
        });
        position = let e : last_used_in guest' ≡ (h.base + collected next.scene.past q) % 65536 = omega (arith, position, at.position, own) in e;
        life = taken_life q h (setup_of w.side) m x f.shown.rest w.life at.life;
        disk = at.disk;
        outstanding = record {
          offers_are = takes.offers ∙ at.outstanding.offers_are;
          collects_are = takes.collects ∙ ap (λ (i : ℕ). i + 1) at.outstanding.collects_are ∙ sym own;
          places = takes.places ∙ at.outstanding.places;
          slots = λ j below out. takes.slots (slice_index (m.scene.heads q) j) ∙ at.outstanding.slots j below (fewer_among ps c j t.more (subst (λ (n : ℕ). is_among (take n ps) j ≡ false) own out));
        };
      },
    )

-- ---- the event

-- the item of what the driver took
abbrev pub taken_item : ℕ → Option ℕ → Item
taken_item q None = items.Idle
taken_item q (Some number) = items.Made (entries.Collect q number)

-- each head that is shown has a place
pub shown_placed : (q : ℕ) (w : Parts) → ring_in w.side.guest ≡ ring_of q w.side.header.size → PartsStand q w → HasPlaces (bytes_in w.memory) w.side
shown_placed q w ring stood head shown =
    head_placed q w head stood (subst (λ (r : Ring). Shows (takes.Head head) r (bytes_in w.memory) (last_used_in w.side.guest)) ring shown)

pub takes_performs : (q : ℕ) (w : Parts) (memory : WatchedShared) (side : DriverSide) (number : Option ℕ) (es : List Event) (rs : List Record) (m : Moment) → ring_in w.side.guest ≡ ring_of q w.side.header.size → q < w.side.header.queues → Stands w.side.header es rs m → PartsAt q w m → bytes_in memory ≡ bytes_in w.memory
    → side ≡ record w.side { guest = side.guest; outstanding = side.outstanding } → TakesFirst (bytes_in w.memory) w.side side number
    → (next : Moment) × (played (taken_item q number ∷ []) next ≡ collect w.side.header q m) × PartsAt q (with_desk w memory side) next
takes_performs q w memory side None es rs m ring low s at bytes frame took =
    let shown = subst (λ (r : Ring). Shows takes.Nothing r (bytes_in w.memory) (last_used_in w.side.guest)) ring took.shown in
    let done = none_performs q w memory side.guest m at bytes shown took.driver.0 took.driver.1 in
    let same : side ≡ record w.side { guest = side.guest } = frame ∙ ap (λ (l : OutstandingRequests). record w.side { guest = side.guest; outstanding = l }) took.outstanding in
    (done.0, done.1, subst (λ (f : DriverSide). PartsAt q (with_desk w memory f) done.0) (sym same) done.2)
takes_performs q w memory side (Some number) es rs m ring low s at bytes frame took =
    let shown = subst (λ (r : Ring). Shows (takes.Head took.head) r (bytes_in w.memory) (last_used_in w.side.guest)) ring took.shown in
    let done = head_performs q w memory side.guest side.outstanding es rs m took.head low s at bytes shown took.driver.0 took.driver.1 took.takes in (
      done.0,
      ap (λ (n : ℕ). played (items.Made (entries.Collect q n) ∷ []) done.0) took.is ∙ done.1,
      subst (λ (f : DriverSide). PartsAt q (with_desk w memory f) done.0) (sym frame) done.2,
    )
