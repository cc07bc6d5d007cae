-- What is known of a queue, and what each step of the driver and of the device leaves of it.
use Rattle.std.proofs.Common.{◌≡◌, ◌<◌, ℕ, ◌+◌, true, false, List, [], ◌∷◌, ◌++◌, length, ap, sym, ◌∙◌, subst, arith, ◌%◌, ◌≤◌, Bool}
use Rattle.std.specs.Prelude.{Option, Some, None, slice_index, slice_get}
use Rattle.vub_base.specs.declared.header.Header1.{Header1}
use Rattle.vub_shared.specs.Bytes.{Bytes, put}
use Rattle.vub_shared.specs.Stores.{Store}
use Rattle.vub_steps.specs.declared.steps.Phase.{Phase}
use Rattle.vub_steps.specs.declared.steps.Plan.{Plan}
use Rattle.vub_steps.specs.declared.steps.Phase.TheVariants as phases
use Rattle.vub_ring.specs.Ring.{used_idx, ahead, avail_idx, head_at, seen}
use Rattle.vub_driver.specs.Shown.{ShowsNext}
use Rattle.vub_driver.specs.Drivers.{Driver, Waiting, without_owner, after_collect, can_take, after_ask}
use Rattle.vub_device.specs.declared.entry.Asked.{Asked}
use Rattle.vub_device.specs.declared.entry.Entry.{Entry}
use Rattle.vub_device.specs.Past.{started, accepted, asked, published, collected, is_among, IsOpen}
use Rattle.vub_device.specs.Places.{are_distinct}
use Rattle.vub_run.specs.Memory.{Scene, opening_scene, shown_head, after_entry}
use Rattle.vub_run.specs.Moments.{Moment, Lane, opening_lane, used_in, region_in, avail_position}
use Rattle.vub_steps.specs.Plans.{plan_of}
use Rattle.vub_run_laws.proofs.RingStarts.{start_facts, next_start}
use Rattle.vub_run.specs.Tracking.{Tracks}
use Rattle.vub_run_laws.proofs.RingGood.{the_ring, WordsAt, QueueFacts, IsWaiting, WaitsWell, EntryWell, EntryStands, LastStands}
use Rattle.vub_run_laws.proofs.RunGood.{IsSize, Known, StartIs, IsOut, IsGood, IsPlainAsk}
use Rattle.vub_run_laws.proofs.RingFrames.{OffRings}
use Rattle.vub_run_laws.proofs.RingHeads.{left_shows}
use Rattle.vub_run_laws.proofs.RunChainsStores.{put_all}
use Rattle.vub_run_laws.proofs.RunOwn.{at_own}
use Rattle.vub_run_laws.proofs.RunHolds.{StoresBefore, StoresLast, FetchCounts, FetchAccepts, IsPublishing, publication_of, NextRow, steps_in, NextStart, Holds}
use Rattle.vub_run_laws.proofs.RingFetches.{fetch_counts, fetch_accepts}
use Rattle.vub_run_laws.proofs.RingRows.{next_row}
use Rattle.vub_run_laws.proofs.RingTracks.{tracks, some_waits}
use Rattle.vub_run_laws.proofs.RingStores.{stores_before, stores_last, some_left}
use Rattle.vub_run_laws.proofs.RingFacts.{words_same, words_attached, start_attached, words_rests, words_fetch, words_begin, batch_begins_at, facts_entry, facts_elsewhere, facts_killed}
pub use Rattle.vub_run_laws.proofs.RingFacts.{phase_at}
use Rattle.vub_run_laws.proofs.RingFacts.{batch_small}
use Rattle.vub_run_laws.proofs.RingPositions.{fetch_waits}
use Rattle.vub_base.specs.declared.request.Ask.{Ask}
use Rattle.vub_base.specs.declared.request.Shape.TheVariants.{Direct}
use Rattle.vub_run_laws.proofs.RunTaken.{IsTaken}
use Rattle.vub_run_laws.proofs.RingOpening.{open_facts}
use Rattle.vub_run_laws.proofs.RingAsks.{ask_facts}
use Rattle.vub_run_laws.proofs.RingCollects.{first_seen, after_taken, taken_facts, none_seen, shown_seen}
pub use Rattle.vub_run_laws.proofs.RingCollects.{SeesFirst}
use Rattle.vub_run_laws.proofs.RingOffers.{offer_room}
use Rattle.vub_device.specs.declared.entry.Entry.TheVariants as entries
use Rattle.vub_steps.specs.declared.steps.Step.{Step}
use Rattle.vub_run.specs.Turns.{step_items}
use Rattle.vub_run_laws.proofs.RunItems.{AreQuiet}
use Rattle.vub_run_laws.proofs.RingQuiet.{step_quiet}
use Rattle.vub_run.specs.Before.{BeforeEach}
use Rattle.vub_run.specs.Spared.{IsSparing}
use Rattle.vub_run_laws.proofs.RingSpares.{step_spares}
use Rattle.vub_steps.specs.Readiness.{last_counter}
use Rattle.vub_steps.specs.declared.steps.Plan.TheVariants as plans

-- ---- the opening

pub queue_opens : (q : ℕ) (h : Header1) → h.base < 65536 → q < h.queues → QueueFacts q h (opening_scene h) (opening_lane h).driver (opening_lane h).bell (opening_lane h).plan (opening_lane h).counter [] phases.Rest
queue_opens q h fits low = open_facts q h fits low

-- ---- an entry

-- an entry that offers, shows and collects nothing, and starts and accepts nothing either, whatever is under way
pub queue_same : (q : ℕ) (h : Header1) (s : Scene) (past' : List Entry) (v : Driver) (bell : Bool) (plan : Plan) (counter : ℕ) (batch : List ℕ) (phase : Phase) → started past' q ≡ started s.past q → accepted past' q ≡ accepted s.past q → published past' q ≡ published s.past q → collected past' q ≡ collected s.past q
    → ((k : ℕ) → asked past' q k ≡ asked s.past q k) → QueueFacts q h s v bell plan counter batch phase → QueueFacts q h (record s { past = past' }) v bell plan counter batch phase
queue_same q h s past' v bell plan counter batch phase runs accepts shows collects asks x =
    facts_entry q h s past' v bell plan counter batch phase (record { accepts = omega (arith, accepts); shows = shows; collects = omega (arith, collects); asks = asks }) collects (words_same q h s past' bell plan counter batch phase runs accepts shows asks x.words) (subst (λ (b : Bool). StartIs b h.size bell plan phase) (sym runs) x.start) x

-- what the driver sees of the used elements that it hasn't collected
abbrev pub sees : ℕ → Header1 → Scene → List (ℕ × ℕ)
sees q h s = seen (the_ring q h.size) s.memory (h.base + collected s.past q)

-- where an element is seen, the first one is that of the number that is collected next
pub queue_first : (q : ℕ) (h : Header1) (s : Scene) (l : Lane) (x : ℕ × ℕ) (xs : List (ℕ × ℕ)) → IsGood h → Holds q h s l → sees q h s ≡ x ∷ xs → IsTaken q h s l x.0
queue_first q h s l x xs good holds e = first_seen q h s l x xs good holds e

-- what is taken is free again
pub queue_free : (q : ℕ) (h : Header1) (s : Scene) (l : Lane) (x : ℕ) → IsTaken q h s l x → after_collect x l.driver ≡ record l.driver { owner = without_owner x l.driver.owner }
queue_free q h s l x t = after_taken q h s l x t

-- a collection
pub queue_collect : (q : ℕ) (h : Header1) (s : Scene) (l : Lane) (x k : ℕ) → IsTaken q h s l x → QueueFacts q h (record s { past = entries.Collect q k ∷ s.past }) (record l.driver { owner = without_owner x l.driver.owner }) l.bell l.plan l.counter l.batch l.phase
queue_collect q h s l x k t = taken_facts q h s l x k t

-- ---- what a collection finds

-- none at the driver's position: it sees none
pub queue_none : (q : ℕ) (h : Header1) (s : Scene) (position : ℕ) → position ≡ (h.base + collected s.past q) % 65536 → ShowsNext None (the_ring q h.size) s.memory position → sees q h s ≡ []
queue_none q h s position at shown = none_seen q h s position at shown

-- a head: that of the first element that it sees
pub queue_shown : (q : ℕ) (h : Header1) (s : Scene) (l : Lane) (position head : ℕ) → IsGood h → Holds q h s l → position ≡ (h.base + collected s.past q) % 65536 → ShowsNext (Some head) (the_ring q h.size) s.memory position → SeesFirst q h s l head
queue_shown q h s l position head good holds at shown = shown_seen q h s l position head good holds at shown

-- ---- phases

-- nothing is under way any more
pub queue_rests : (q : ℕ) (h : Header1) (s : Scene) (v : Driver) (bell bell' : Bool) (plan plan' : Plan) (counter counter' : ℕ) (batch : List ℕ) (phase : Phase) → started s.past q ≡ false → QueueFacts q h s v bell plan counter batch phase → QueueFacts q h s v bell' plan' counter' [] phases.Rest
queue_rests q h s v bell bell' plan plan' counter counter' batch phase stopped x = record { ringed = x.ringed; driven = x.driven; words = words_rests q h s bell bell' plan plan' counter counter' batch phase stopped x.words; start = tt }

-- a life ends, whatever is under way
pub queue_killed : (q : ℕ) (h : Header1) (s : Scene) (l : Lane) → QueueFacts q h s l.driver l.bell l.plan l.counter l.batch l.phase → QueueFacts q h (record s { past = entries.Kill ∷ s.past }) l.driver false plans.New 0 [] phases.Rest
queue_killed q h s l x = facts_killed q h s l.driver l.bell l.plan l.counter l.batch l.phase x

-- it gets a bell
pub queue_attached : (q : ℕ) (h : Header1) (s : Scene) (v : Driver) (bell : Bool) (plan : Plan) (counter : ℕ) (batch : List ℕ) (phase : Phase) → QueueFacts q h s v bell plan counter batch phase → QueueFacts q h s v true plan counter batch phase
queue_attached q h s v bell plan counter batch phase x = record { ringed = x.ringed; driven = x.driven; words = words_attached q h s bell plan counter batch phase x.words; start = start_attached (started s.past q) h.size bell plan phase x.start }

-- ---- a start

-- it begins, by the plan that it finds in memory
pub queue_start_begins : (q : ℕ) (h : Header1) (s : Scene) (v : Driver) (bell : Bool) (plan : Plan) (counter : ℕ) → started s.past q ≡ false → QueueFacts q h s v bell plan counter [] phases.Rest → QueueFacts q h s v bell (plan_of (used_in h q s) (region_in h q s)) counter [] (phases.Start 0)
queue_start_begins q h s v bell plan counter stopped x = start_facts q h s v bell plan counter stopped x

-- while it is under way a step of it is left, and the queue isn't started
pub queue_start : (q : ℕ) (h : Header1) (s : Scene) (l : Lane) → Holds q h s l → StartIs (started s.past q) h.size l.bell l.plan l.phase
queue_start q h s l x = x.queue.start

-- and a fetch is of a queue that is started
pub fetch_runs : (q : ℕ) (h : Header1) (s : Scene) (l : Lane) → l.phase ≡ phases.Fetch 1 → Holds q h s l → started s.past q ≡ true
fetch_runs q h s l phase x = subst (λ (p : Phase). StartIs (started s.past q) h.size l.bell l.plan p) phase x.queue.start

-- its next step: a store into the in-flight region, the bell, or the last one, with its entry
pub queue_start_step : (q : ℕ) (h : Header1) (s : Scene) (l : Lane) (done : ℕ) → IsSize h.size → QueueFacts q h s l.driver l.bell l.plan l.counter [] (phases.Start done) → NextStart q h s l done (slice_get (steps_in h l) done)
queue_start_step q h s l done size x = next_start q h s l done size x

-- no batch has more requests than the queue has places
pub queue_batch : (q : ℕ) (h : Header1) (s : Scene) (l : Lane) → Holds q h s l → length l.batch ≤ h.size
queue_batch q h s l x = batch_small q h s l x

-- ---- a fetch

-- while it is under way an offer isn't accepted
pub fetch_more : (q : ℕ) (h : Header1) (s : Scene) (l : Lane) → IsSize h.size → l.phase ≡ phases.Fetch 1 → Holds q h s l → accepted s.past q < length (s.heads q)
fetch_more q h s l size phase x = fetch_waits q h s l.bell l.plan l.counter l.batch 1 size x.known x.queue.ringed (subst (λ (p : Phase). WordsAt q h s l.bell l.plan l.counter l.batch p) phase x.queue.words)

-- it begins at the head of the next number, which is a free one
pub queue_fetch_begins : (q : ℕ) (h : Header1) (s : Scene) (v : Driver) (bell : Bool) (plan : Plan) (counter : ℕ) → IsSize h.size → started s.past q ≡ true → Known q h.size h.capacity s.past (s.heads q) → accepted s.past q < length (s.heads q) → counter < last_counter
    → QueueFacts q h s v bell plan counter [] phases.Rest → QueueFacts q h s v bell plan counter [] (phases.Fetch 0)
queue_fetch_begins q h s v bell plan counter size run known more low x = record {
  ringed = x.ringed;
  driven = x.driven;
  words = words_fetch q h s v bell plan counter size run known x.ringed x.driven more low x.words;
  start = run;
}

-- its two steps
pub queue_counts : (q : ℕ) (h : Header1) (s : Scene) (l : Lane) → IsSize h.size → started s.past q ≡ true → QueueFacts q h s l.driver l.bell l.plan l.counter [] (phases.Fetch 0) → FetchCounts q h s l
queue_counts q h s l size run x = fetch_counts q h s l size run x

pub queue_accepts : (q : ℕ) (h : Header1) (s : Scene) (l : Lane) → IsSize h.size → started s.past q ≡ true → Known q h.size h.capacity s.past (s.heads q) → QueueFacts q h s l.driver l.bell l.plan l.counter [] (phases.Fetch 1) → FetchAccepts q h s l
queue_accepts q h s l size run known x = fetch_accepts q h s l size run known x

-- ---- a publication

-- a batch of open numbers begins: none of its elements stands yet
pub queue_begins : (q : ℕ) (h : Header1) (s : Scene) (v : Driver) (bell : Bool) (plan : Plan) (counter : ℕ) (batch : List ℕ) → started s.past q ≡ true → Known q h.size h.capacity s.past (s.heads q) → 0 < length batch → are_distinct batch ≡ true → ((k : ℕ) → is_among batch k ≡ true → IsOpen s.past q k)
    → QueueFacts q h s v bell plan counter [] phases.Rest → QueueFacts q h s v bell plan counter batch (phases.Publish 0)
queue_begins q h s v bell plan counter batch run known some distinct opens x = record {
  ringed = x.ringed;
  driven = x.driven;
  words = words_begin q h s bell plan counter batch run (batch_begins_at q h s v bell batch known x.driven some distinct opens) x.words;
  start = run;
}

-- the next row of a publication
pub queue_row : (q : ℕ) (h : Header1) (s : Scene) (l : Lane) (done : ℕ) → IsPublishing q h s l done → NextRow q h s l done (slice_get (publication_of l) done)
queue_row q h s l done x = next_row q h s l done x

-- ---- the driver

-- the driver after it took a request
abbrev pub takes : ℕ → Header1 → Ask → Driver → Driver
takes q h a v = after_ask (the_ring q h.size) a v

-- a request that it takes
pub queue_ask : (q : ℕ) (h : Header1) (s : Scene) (v : Driver) (bell : Bool) (plan : Plan) (counter : ℕ) (batch : List ℕ) (phase : Phase) (a : Ask) → IsSize h.size → IsPlainAsk h.capacity a → can_take h.size Direct a v ≡ true → QueueFacts q h s v bell plan counter batch phase → QueueFacts q h s (takes q h a v) bell plan counter batch phase
queue_ask q h s v bell plan counter batch phase a size plain ready x = ask_facts q h s v bell plan counter batch phase a size plain ready x

-- what is known of the request that waits
pub queue_waiting : (q : ℕ) (h : Header1) (s : Scene) (v : Driver) (bell : Bool) (plan : Plan) (counter : ℕ) (batch : List ℕ) (phase : Phase) (w : Waiting) → v.waiting ≡ Some w → QueueFacts q h s v bell plan counter batch phase → IsWaiting q h.size h.capacity s.past (s.heads q) v (record w { left = w.left })
queue_waiting q h s v bell plan counter batch phase w waiting x =
    let waits : IsWaiting q h.size h.capacity s.past (s.heads q) v w = subst (λ (o : Option Waiting). WaitsWell q h.size h.capacity s.past (s.heads q) v o) waiting x.driven.waits in
    record { wide = waits.wide; below = waits.below; mine = waits.mine; apart = waits.apart; plan = waits.plan }

-- something is left of it
pub queue_left : (q n cap : ℕ) (past : List Entry) (heads : List ℕ) (v : Driver) (w : Waiting) → IsWaiting q n cap past heads v w → 0 < length w.left
queue_left q n cap past heads v w waits = some_left q n cap past heads v w waits

-- where the last store alone is left, those before it stand
pub queue_stands : (q : ℕ) (h : Header1) (m : Moment) (w : Waiting) → (m.lanes q).driver.waiting ≡ Some w → EntryStands q h m → LastStands q h m.scene (record w { left = w.left })
queue_stands q h m w waiting entry one =
    let well : EntryWell q h.size (h.base + length (m.scene.heads q)) m.scene.memory (Some w) = subst (λ (o : Option Waiting). EntryWell q h.size (h.base + length (m.scene.heads q)) m.scene.memory o) waiting entry in
    well one

-- the request waits on, with these stores left
pub queue_waits : (q : ℕ) (h : Header1) (s : Scene) (v : Driver) (bell : Bool) (plan : Plan) (counter : ℕ) (batch : List ℕ) (phase : Phase) (w : Waiting) (left : List Store) → IsWaiting q h.size h.capacity s.past (s.heads q) v (record w { left = left }) → QueueFacts q h s v bell plan counter batch phase
    → QueueFacts q h s (record v { waiting = Some (record w { left = left }) }) bell plan counter batch phase
queue_waits q h s v bell plan counter batch phase w left waits x = record {
  ringed = x.ringed;
  driven = record {
    index = x.driven.index;
    below = x.driven.below;
    owned = x.driven.owned;
    apart = x.driven.apart;
    waits = record { wide = waits.wide; below = waits.below; mine = waits.mine; apart = waits.apart; plan = waits.plan };
  };
  words = x.words;
  start = x.start;
}

-- a store of a request before its last one
pub queue_before : (q : ℕ) (h : Header1) (s : Scene) (v : Driver) (w : Waiting) (bell : Bool) (plan : Plan) (counter : ℕ) (batch : List ℕ) (phase : Phase) (st st' : Store) (left : List Store) → IsSize h.size → Known q h.size h.capacity s.past (s.heads q)
    → IsWaiting q h.size h.capacity s.past (s.heads q) v (record w { left = st ∷ st' ∷ left }) → QueueFacts q h s v bell plan counter batch phase → StoresBefore q h s v w bell plan counter batch phase st (st' ∷ left)
queue_before q h s v w bell plan counter batch phase st st' left size known waits x = stores_before q h s v w bell plan counter batch phase st st' left size known waits x

-- the last one, with its offer
pub queue_last : (q : ℕ) (h : Header1) (s : Scene) (v : Driver) (w : Waiting) (bell : Bool) (plan : Plan) (counter : ℕ) (batch : List ℕ) (phase : Phase) (st : Store) → IsSize h.size → Known q h.size h.capacity s.past (s.heads q) → ((k : ℕ) → is_among batch k ≡ true → k < accepted s.past q)
    → IsWaiting q h.size h.capacity s.past (s.heads q) v (record w { left = st ∷ [] }) → LastStands q h s (record w { left = st ∷ [] }) → QueueFacts q h s v bell plan counter batch phase → StoresLast q h s v w bell plan counter batch phase st
queue_last q h s v w bell plan counter batch phase st size known taken waits stands x = stores_last q h s v w bell plan counter batch phase st size known taken waits stands x

-- ---- a store

-- off the words of the ring
pub queue_elsewhere : (q : ℕ) (h : Header1) (s : Scene) (p : ℕ) (bs : List ℕ) (v : Driver) (bell : Bool) (plan : Plan) (counter : ℕ) (batch : List ℕ) (phase : Phase) → IsSize h.size → OffRings q p bs → QueueFacts q h s v bell plan counter batch phase → QueueFacts q h (record s { memory = put s.memory 0 p bs }) v bell plan counter batch phase
queue_elsewhere q h s p bs v bell plan counter batch phase size off x = facts_elsewhere q h s p bs v bell plan counter batch phase size off x

-- ---- what it tells

-- memory and history agree
pub queue_tracks : (q : ℕ) (h : Header1) (s : Scene) (v : Driver) (bell : Bool) (plan : Plan) (counter : ℕ) (batch : List ℕ) (phase : Phase) → IsSize h.size → Known q h.size h.capacity s.past (s.heads q) → QueueFacts q h s v bell plan counter batch phase → Tracks h q s
queue_tracks q h s v bell plan counter batch phase size known x = tracks q h s bell plan counter batch phase size known x.ringed x.words

-- the heads of outstanding offers are places of the queue, and no two are the same
pub head_below : (q : ℕ) (h : Header1) (s : Scene) (v : Driver) (bell : Bool) (plan : Plan) (counter : ℕ) (batch : List ℕ) (phase : Phase) (k : ℕ) → QueueFacts q h s v bell plan counter batch phase → IsOut q s.past (s.heads q) k → slice_index (s.heads q) k < h.size
head_below q h s v bell plan counter batch phase k x out = x.driven.below k out

-- and the descriptor of that number belongs to it
pub head_owned : (q : ℕ) (h : Header1) (s : Scene) (v : Driver) (bell : Bool) (plan : Plan) (counter : ℕ) (batch : List ℕ) (phase : Phase) (k : ℕ) → QueueFacts q h s v bell plan counter batch phase → IsOut q s.past (s.heads q) k → v.owner (slice_index (s.heads q) k) ≡ Some (slice_index (s.heads q) k)
head_owned q h s v bell plan counter batch phase k x out = x.driven.owned k out

pub heads_apart : (q : ℕ) (h : Header1) (s : Scene) (v : Driver) (bell : Bool) (plan : Plan) (counter : ℕ) (batch : List ℕ) (phase : Phase) (j k : ℕ) → QueueFacts q h s v bell plan counter batch phase → IsOut q s.past (s.heads q) j → IsOut q s.past (s.heads q) k → slice_index (s.heads q) j ≡ slice_index (s.heads q) k → j ≡ k
heads_apart q h s v bell plan counter batch phase j k x out_j out_k same = x.driven.apart j k out_j out_k same

-- used.idx is the base, advanced by what is published
pub shown_index : (q : ℕ) (h : Header1) (s : Scene) (v : Driver) (bell : Bool) (plan : Plan) (counter : ℕ) (batch : List ℕ) (phase : Phase) → QueueFacts q h s v bell plan counter batch phase → used_idx (the_ring q h.size) s.memory ≡ (h.base + length (published s.past q)) % 65536
shown_index q h s v bell plan counter batch phase x = x.ringed.used_idx_is

-- what the driver keeps of avail.idx is the base, advanced by what is offered; and so stands the word
pub kept_index : (q : ℕ) (h : Header1) (s : Scene) (v : Driver) (bell : Bool) (plan : Plan) (counter : ℕ) (batch : List ℕ) (phase : Phase) → QueueFacts q h s v bell plan counter batch phase → v.avail_idx ≡ (h.base + length (s.heads q)) % 65536
kept_index q h s v bell plan counter batch phase x = x.driven.index

pub offered_index : (q : ℕ) (h : Header1) (s : Scene) (v : Driver) (bell : Bool) (plan : Plan) (counter : ℕ) (batch : List ℕ) (phase : Phase) → QueueFacts q h s v bell plan counter batch phase → avail_idx (the_ring q h.size) s.memory ≡ v.avail_idx
offered_index q h s v bell plan counter batch phase x = x.ringed.avail_idx_is ∙ sym x.driven.index

-- the entry of each offer that isn't accepted names its head
pub offered_head : (q : ℕ) (h : Header1) (s : Scene) (v : Driver) (bell : Bool) (plan : Plan) (counter : ℕ) (batch : List ℕ) (phase : Phase) (i : ℕ) → QueueFacts q h s v bell plan counter batch phase → accepted s.past q ≤ i → i < length (s.heads q) → head_at (the_ring q h.size) s.memory (h.base + i) ≡ slice_index (s.heads q) i
offered_head q h s v bell plan counter batch phase i x from upto = x.ringed.avail_at i from upto

-- the queue has room for the request that waits
pub queue_room : (q : ℕ) (h : Header1) (s : Scene) (v : Driver) (bell : Bool) (plan : Plan) (counter : ℕ) (batch : List ℕ) (phase : Phase) (w : Waiting) → Known q h.size h.capacity s.past (s.heads q) → IsWaiting q h.size h.capacity s.past (s.heads q) v w → QueueFacts q h s v bell plan counter batch phase → length (s.heads q) < h.size + collected s.past q
queue_room q h s v bell plan counter batch phase w known waits x = offer_room q h.size h.capacity h.base s.past (s.heads q) v w known x.driven waits

-- something waits exactly where an offer isn't accepted
pub queue_ahead : (q : ℕ) (h : Header1) (s : Scene) (l : Lane) → IsGood h → Holds q h s l → ahead (avail_idx (the_ring q h.size) s.memory) (avail_position h q s) + accepted s.past q ≡ length (s.heads q)
queue_ahead q h s l good x = some_waits q h s l good x

-- the items of a step are neither a store of a driver nor an offer
pub queue_quiet : (q : ℕ) (h : Header1) (l : Lane) (step : Step) (s : Scene) → AreQuiet h (step_items h q l step s)
queue_quiet q h l step s = step_quiet q h l step s

-- and where one is a store it spares the answers that are published and not collected
pub queue_spares : (q : ℕ) (h : Header1) (l : Lane) (step : Step) (s : Scene) → IsSize h.size → BeforeEach h (IsSparing q) s (step_items h q l step s)
queue_spares q h l step s size = step_spares q h l step s size

-- ---- the head of an offer

-- where the stores left of a request are made, memory shows its head
pub left_shown : (q : ℕ) (h : Header1) (m : Moment) (w : Waiting) → IsSize h.size → (m.lanes q).driver.waiting ≡ Some w → EntryStands q h m → QueueFacts q h m.scene (m.lanes q).driver (m.lanes q).bell (m.lanes q).plan (m.lanes q).counter (m.lanes q).batch (m.lanes q).phase → shown_head h q (put_all w.left m.scene.memory) ≡ w.head
left_shown q h m w size waiting entry x =
    left_shows q h m.scene (m.lanes q).driver (record w { left = w.left }) size.small x.driven.index (queue_waiting q h m.scene (m.lanes q).driver (m.lanes q).bell (m.lanes q).plan (m.lanes q).counter (m.lanes q).batch (m.lanes q).phase w waiting x) (queue_stands q h m w waiting entry)

-- and its offer is made under it
pub left_offered : (q : ℕ) (h : Header1) (m : Moment) (w : Waiting) (r : Asked) → IsSize h.size → (m.lanes q).driver.waiting ≡ Some w → EntryStands q h m → QueueFacts q h m.scene (m.lanes q).driver (m.lanes q).bell (m.lanes q).plan (m.lanes q).counter (m.lanes q).batch (m.lanes q).phase
    → (after_entry h (entries.Offer q r) (record m.scene { memory = put_all w.left m.scene.memory })).heads q ≡ m.scene.heads q ++ w.head ∷ []
left_offered q h m w r size waiting entry x =
    let m' : Bytes = put_all w.left m.scene.memory in
    at_own m.scene.heads q (m.scene.heads q ++ shown_head h q m' ∷ []) ∙ ap (λ (head : ℕ). m.scene.heads q ++ head ∷ []) (left_shown q h m w size waiting entry x)
