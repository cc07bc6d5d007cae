-- What a queue works on once it is started: its open requests, in order.
use Rattle.std.proofs.Common.{◌≡◌, ◌≤◌, ◌<◌, ℕ, ◌+◌, ◌-◌, Bool, true, false, List, [], ◌∷◌, ◌++◌, length, map, refl, ap, sym, ◌∙◌, subst, arith}
use Rattle.std.specs.Prelude.{Option, Some, None, if◌then◌else◌, slice_get, slice_index}
use Rattle.std.proofs.lemmas.Bool.Decides.{nat_tests}
use Rattle.std.proofs.lemmas.List.{length-map}
use Rattle.vub_base.specs.declared.header.Header1.{Header1}
use Rattle.vub_steps.specs.declared.steps.Phase.{Phase}
use Rattle.vub_steps.specs.declared.steps.Phase.TheVariants as phases
use Rattle.vub_steps.specs.declared.steps.Step.{Step}
use Rattle.vub_steps.specs.declared.steps.Step.TheVariants as steps
use Rattle.vub_steps.specs.Steps.{next_step, after_step}
use Rattle.vub_steps.specs.Rows.{Row}
use Rattle.vub_steps.specs.declared.readiness.Turn.{Turn}
use Rattle.vub_steps.specs.declared.readiness.Turn.TheVariants as turns
use Rattle.vub_shared.specs.Bytes.{Bytes}
use Rattle.vub_shared.specs.Stores.{Store}
use Rattle.vub_shared.specs.Watched.{bytes_in, stores_in}
use Rattle.vub_shared.specs.declared.watched_shared.WatchedShared.{WatchedShared}
use Rattle.vub_disk.specs.Values.{Values}
use Rattle.vub_memdisk.specs.MemDisks.{values_of}
use Rattle.vub_memdisk.specs.declared.mem_disk.MemDisk.{MemDisk}
use Rattle.vub_base.specs.declared.store.Tag.{Tag}
use Rattle.vub_base.specs.declared.store.Tag.TheVariants.{SF2, SP5, T5}
use Rattle.vub_device.specs.declared.entry.Answered.{Answered}
use Rattle.vub_room.specs.Rooms.{RoomState}
use Rattle.vub_device.specs.declared.entry.Entry.{Entry}
use Rattle.vub_device.specs.declared.entry.Entry.TheVariants as entries
use Rattle.vub_device.specs.Past.{is_among, open_numbers, accepted, published, started}
use Rattle.vub_setup.specs.Setups.{SplitSetup}
use Rattle.vub_queue.specs.declared.queue.Stepped.{Stepped}
use Rattle.vub_queue.specs.declared.queue.Stepped.TheVariants as says
use Rattle.vub_queue.specs.QueueState.{QueueState, Publishes, MovesBy, step_in, step_said, row_said, row_at, seen_by}
use Rattle.vub_report.specs.declared.items.Item.{Item}
use Rattle.vub_report.specs.declared.items.Item.TheVariants as items
use Rattle.vub_run.specs.Memory.{Scene, after_items}
use Rattle.vub_run.specs.Moments.{Lane, Moment, open_heads}
use Rattle.vub_run.specs.Run.{one_turn}
use Rattle.vub_run.specs.Turns.{turned, begun, counted, course_of, is_rest, next_counter_in, phase_turn, under_way}
use Rattle.vub_run_laws.proofs.RunFrames.{open_out}
use Rattle.vub_run_laws.proofs.RunGood.{IsOut}
use Rattle.vub_run_laws.proofs.RunHeads.{missing_exact}
use Rattle.vub_run_laws.proofs.RunNumbers.{missing-among}
use Rattle.vub_run_laws.proofs.RunOwn.{at_own, started_own}
use Rattle.vub_run_laws.proofs.RunTurns.{Good}
use Rattle.vub_queue.specs.QueueFacts.{hidden_part}
use Rattle.vub_queue_in_run.proofs.QueueAtMoves.{heads_open, heads_low}
use Rattle.vub_queue_in_run.specs.QueueAt.{QueueStands, LiesAs}
use Rattle.vub_queue_in_run.proofs.TurnSays.{TurnSays, Notes, Accepts, Publishes as SaysPublishes, Rings, Starts}
use Rattle.vub_world.specs.declared.outstanding.OutstandingRequests.{OutstandingRequests}
use Rattle.vub_world.specs.declared.outstanding.OutstandingRequest.{OutstandingRequest}
use Rattle.vub_world.specs.DriverSides.{Parts, parts, setup_of}
use Rattle.vub_world.specs.OutstandingRequests.{offered_in, collected_in, size_in}
use Rattle.vub_world.specs.MachineAt.{AttachedAt, OutstandingAt, PartsAt, LifeAt}
use Rattle.vub_world.specs.MachineDevice.{heads_of, numbers_of, queue_heads, queue_numbers, queue_started, number_at, noted, stored_items, answers_shown, started_in, StartFits, KeepsNumbers}
use Rattle.vub_world.specs.MachineSteps.{MachineTurns, HasStartRoom}
use Rattle.vub_world.proofs.MachineNotes.{queue_numbers_are}

-- ---- a start leaves nothing completed and no batch

counted_keeps : (n : ℕ) (step : Step) (l : Lane) → ((counted n step l).completed ≡ l.completed) × ((counted n step l).batch ≡ l.batch)
counted_keeps n steps.Features l = (refl, refl)
counted_keeps n (steps.Free e) l = (refl, refl)
counted_keeps n steps.Open l = (refl, refl)
counted_keeps n (steps.Settle e) l = (refl, refl)
counted_keeps n steps.SettleEnd l = (refl, refl)
counted_keeps n steps.Bell l = (refl, refl)
counted_keeps n steps.Start l = (refl, refl)
counted_keeps n steps.Count l = (refl, refl)
counted_keeps n steps.Accept l = (refl, refl)
counted_keeps n (steps.Id e) l = (refl, refl)
counted_keeps n (steps.Len e) l = (refl, refl)
counted_keeps n (steps.Link e) l = (refl, refl)
counted_keeps n (steps.Head e) l = (refl, refl)
counted_keeps n steps.Index l = (refl, refl)
counted_keeps n (steps.Clear e) l = (refl, refl)
counted_keeps n steps.Note l = (refl, refl)

either_none : (b : Bool) (xs : List ℕ) → xs ≡ [] → (if b then [] else xs) ≡ []
either_none true xs none = refl
either_none false xs none = none

-- of a lane nothing is completed, and none of its requests is being published
record IsIdle (l : Lane) : Type 0 where
  pub completed : l.completed ≡ []
  pub batch : l.batch ≡ []

phase_idle : (h : Header1) (q : ℕ) (s : Scene) (l : Lane) (o : Option Step) → IsIdle l → IsIdle (phase_turn h q s l o).lane
phase_idle h q s l None idle = idle
phase_idle h q s l (Some step) idle =
    let n : ℕ = next_counter_in h q s in
    let keeps = counted_keeps n step l in
    record { completed = keeps.0 ∙ idle.completed; batch = either_none (is_rest (after_step (course_of h l) l.phase)) (counted n step l).batch (keeps.1 ∙ idle.batch) }

begun_idle : (h : Header1) (q : ℕ) (s : Scene) (l : Lane) (b : Bool) → IsIdle l → IsIdle (if b then begun h q s turns.Start l else l)
begun_idle h q s l true idle = record { completed = idle.completed; batch = idle.batch }
begun_idle h q s l false idle = idle

start_idle : (h : Header1) (q : ℕ) (m : Moment) → IsIdle (m.lanes q) → IsIdle (turned h q turns.Start m).lane
start_idle h q m idle =
    let l : Lane = under_way h q m.scene turns.Start (m.lanes q) in
    phase_idle h q m.scene l (next_step (course_of h l) l.phase) (begun_idle h q m.scene (m.lanes q) (is_rest (m.lanes q).phase) idle)

-- ---- the numbers of the requests that it works on

-- no batch has a hidden part
hidden_none : (phase : Phase) (batch : List ℕ) → batch ≡ [] → hidden_part phase batch ≡ []
hidden_none phases.Rest batch none = refl
hidden_none (phases.Start done) batch none = refl
hidden_none (phases.Fetch done) batch none = refl
hidden_none (phases.Publish done) batch none = ap (hidden_part (phases.Publish done)) none ∙ either_none _ [] refl

map_back : (f g : ℕ → ℕ) (ks : List ℕ) → ((k : ℕ) → is_among ks k ≡ true → f (g k) ≡ k) → map f (map g ks) ≡ ks
map_back f g [] same = refl
map_back f g (k ∷ ks) same =
    ap (λ (j : ℕ). j ∷ map f (map g ks)) (same k (grind (arith, nat_tests)))
    ∙ ap (λ (l : List ℕ). k ∷ l) (map_back f g ks (λ j held. same j (grind (arith, nat_tests))))

-- the numbers under the heads of the open requests
open_back : (q : ℕ) (h : Header1) (m : Moment) (outstanding : OutstandingRequests) → Good q h m → OutstandingAt q h.size m.scene.past (m.scene.heads q) outstanding → map (number_at outstanding) (open_heads q m.scene.past (m.scene.heads q)) ≡ open_numbers m.scene.past q
open_back q h m outstanding good numbered =
    let past : List Entry = m.scene.past in
    let heads : List ℕ = m.scene.heads q in
    map_back (number_at outstanding) (slice_index heads) (open_numbers past q) (λ k held.
    let is = missing-among (published past q) (accepted past q) k held in
    let out : IsOut q past heads k = open_out q h.size h.capacity past heads k good.holds.known (record { taken = is.0; unpublished = is.1 }) in
    ap (λ (o : OutstandingRequest). o.number) (numbered.slots k out.below out.kept))

-- what a turn says that starts the queue
starts_items : (q : ℕ) (h : Header1) (m : Moment) (t : Turn) (x : Stepped) (row : Option Row) (head : ℕ) (batch : List ℕ) → TurnSays q h m t x row head batch → x ≡ says.Started → (turned h q t m).items ≡ items.Made (entries.Start q (open_numbers m.scene.past q)) ∷ []
starts_items q h m t x row head batch (Notes y s) e = absurd (let fails : says.Started ≡ says.Stored y.tag = sym e ∙ s.said in cc)
starts_items q h m t x row head batch (Accepts y tag s) e = absurd (let fails : says.Started ≡ says.Accepted head = sym e ∙ s.said in cc)
starts_items q h m t x row head batch (SaysPublishes y w s) e = absurd (let fails : says.Started ≡ says.Published = sym e ∙ s.said in cc)
starts_items q h m t x row head batch (Rings s) e = absurd (let fails : says.Started ≡ says.Belled = sym e ∙ s.said in cc)
starts_items q h m t x row head batch (Starts s) e = s.made

-- after a start the queue works on the open requests
pub start_resumes : (q : ℕ) (h : Header1) (setup : SplitSetup) (m : Moment) (outstanding : OutstandingRequests) (x : Stepped) (row : Option Row) (head : ℕ) (batch : List ℕ) (state : QueueState) → Good q h m → OutstandingAt q h.size m.scene.past (m.scene.heads q) outstanding
    → (m.lanes q).completed ≡ [] → (m.lanes q).batch ≡ [] → TurnSays q h m turns.Start x row head batch → QueueStands q h setup (one_turn h q turns.Start m).next state → x ≡ says.Started → numbers_of outstanding state ≡ open_numbers m.scene.past q
start_resumes q h setup m outstanding x row head batch state good numbered completed none says_so stands is =
    let n : Moment = (one_turn h q turns.Start m).next in
    let own : n.lanes q ≡ (turned h q turns.Start m).lane = at_own m.lanes q (turned h q turns.Start m).lane in
    let idle : IsIdle (n.lanes q) = subst IsIdle (sym own) (start_idle h q m (record { completed = completed; batch = none })) in
    let made = starts_items q h m turns.Start x row head batch says_so is in
    let run : started n.scene.past q ≡ true = ap (λ (list : List Item). started (after_items h list m.scene).past q) made ∙ started_own m.scene.past q (open_numbers m.scene.past q) in
    let heads : heads_of state ≡ open_heads q n.scene.past (n.scene.heads q) =
    heads_open q h setup n.scene.past (n.scene.heads q) (n.lanes q).phase (hidden_part (n.lanes q).phase (n.lanes q).batch) (n.lanes q).completed (n.lanes q).made state run (hidden_none (n.lanes q).phase (n.lanes q).batch idle.batch) idle.completed stands.at in
    let same : open_heads q n.scene.past (n.scene.heads q) ≡ open_heads q m.scene.past (m.scene.heads q) =
    ap (λ (list : List Item). open_heads q (after_items h list m.scene).past ((after_items h list m.scene).heads q)) made in
    ap (map (number_at outstanding)) (heads ∙ same) ∙ open_back q h m outstanding good numbered

-- ---- a publication starts no queue

row_never : (o : Option Row) → row_said o ≡ says.Started → ⊥
row_never None is = cc is
row_never (Some y) is = cc is

step_never : (head : ℕ) (o : Option Row) (step : Step) → step_said head o step ≡ says.Started → ⊥
step_never head o steps.Features is = row_never o is
step_never head o (steps.Free e) is = row_never o is
step_never head o steps.Open is = row_never o is
step_never head o (steps.Settle e) is = row_never o is
step_never head o steps.SettleEnd is = row_never o is
step_never head o steps.Bell is = cc is
step_never head o steps.Start is = row_never o is
step_never head o steps.Count is = row_never o is
step_never head o steps.Accept is = cc is
step_never head o (steps.Id e) is = row_never o is
step_never head o (steps.Len e) is = row_never o is
step_never head o (steps.Link e) is = row_never o is
step_never head o (steps.Head e) is = row_never o is
step_never head o steps.Index is = cc is
step_never head o (steps.Clear e) is = row_never o is
step_never head o steps.Note is = row_never o is

pub publish_never : (b : Bool) (m : Bytes) (x : Stepped) (s u t : QueueState) → Publishes b (Some m) x s u t → x ≡ says.Started → ⊥
publish_never false m x s u t idle is = let fails : says.Idle ≡ says.Started = sym idle.0 ∙ is in cc
publish_never true m x s u t moves is = go (step_in u) (moves m refl)
  where
    go : (o : Option Step) → MovesBy o m x u t → ⊥
    go None none = none
    go (Some step) does = step_never (seen_by u m).head (row_at u m (Some step)) step (sym does.0 ∙ is)

-- ---- the numbers of a start have room

-- the open requests are outstanding
pub open_few : (q : ℕ) (h : Header1) (m : Moment) (outstanding : OutstandingRequests) → Good q h m → OutstandingAt q h.size m.scene.past (m.scene.heads q) outstanding → length (open_numbers m.scene.past q) ≤ offered_in outstanding - collected_in outstanding
open_few q h m outstanding good numbered =
    let known = good.holds.known in
    let past : List Entry = m.scene.past in
    let all : length (open_numbers past q) + length (published past q) ≡ accepted past q = missing_exact (published past q) (accepted past q) known.distinct known.below in
    omega (arith, all, known.shown, known.offered, numbered.offers_are, numbered.collects_are)

start_fits_in : (size room : ℕ) (state : Option QueueState) (x : Stepped) → (x ≡ says.Started → ((i head : ℕ) → slice_get (queue_heads state) i ≡ Some head → head < size) × (length (queue_heads state) ≤ room)) → StartFits size state room x
start_fits_in size room state says.Started fits = fits refl
start_fits_in size room state says.Idle fits = tt
start_fits_in size room state (says.Stored tag) fits = tt
start_fits_in size room state (says.Accepted head) fits = tt
start_fits_in size room state (says.Looked head sector) fits = tt
start_fits_in size room state (says.Acted head sector) fits = tt
start_fits_in size room state (says.Synced head) fits = tt
start_fits_in size room state (says.Faulted head) fits = tt
start_fits_in size room state (says.Completed head) fits = tt
start_fits_in size room state says.Published fits = tt
start_fits_in size room state says.Belled fits = tt
start_fits_in size room state says.SharedFault fits = tt
start_fits_in size room state says.BellFault fits = tt
start_fits_in size room state (says.Damaged fault) fits = tt
start_fits_in size room state (says.Broken fault) fits = tt

-- the heads of an attached queue have places
places_low : (q : ℕ) (h : Header1) (setup : SplitSetup) (m : Moment) (o : Option QueueState) (i head : ℕ) → AttachedAt q h setup m o → slice_get (queue_heads o) i ≡ Some head → head < setup.ring.size
places_low q h setup m None i head at found = absurd (cc found)
places_low q h setup m (Some s) i head at found = heads_low q h setup m.scene.past (m.scene.heads q) (m.lanes q).phase (hidden_part (m.lanes q).phase (m.lanes q).batch) (m.lanes q).completed (m.lanes q).made s i head at.2.at found

-- the list of numbers has room for those of a start
pub start_fits : (q : ℕ) (t : Turn) (w : Parts) (queue : Option QueueState) (memory : WatchedShared) (disk : MemDisk) (m : Moment) (x : Stepped) (r r' : RoomState) → Good q w.side.header m → LiesAs q (setup_of w.side) w.side.header.size → PartsAt q w m → MachineTurns q t w (parts memory w.side queue disk) m x
    → HasStartRoom (started_in w.life) w.side.outstanding r → r'.numbers ≡ r.numbers → StartFits (size_in w.side.outstanding) queue r'.numbers x
start_fits q t w queue memory disk m x r r' good main at made room same = start_fits_in (size_in w.side.outstanding) r'.numbers queue x (λ is.
    let starts = made.starts is in
    let long : length (queue_heads queue) ≡ length (open_numbers m.scene.past q) = sym (length-map (queue_heads queue) (number_at w.side.outstanding)) ∙ ap (λ (ks : List ℕ). length ks) (sym (queue_numbers_are w.side.outstanding queue) ∙ starts.1) in
    let few = open_few q w.side.header m w.side.outstanding good at.outstanding in
    let has = room starts.0 in (
      λ i head found.
          let low : head < w.side.ring.size = places_low q w.side.header (setup_of w.side) (one_turn w.side.header q t m).next queue i head made.at.life.1 found in
          omega (arith, low, main.size, at.outstanding.places),
      omega (arith, long, few, has, same),
    ))

-- ---- until a queue is started there is room for its start

-- a turn that says anything else leaves the queue as it was
store_stays : (q : ℕ) (h : Header1) (tag : Tag) (stores : List Store) (s : Scene) → started (after_items h (stored_items tag stores) s).past q ≡ started s.past q
store_stays q h tag [] s = refl
store_stays q h tag (st ∷ []) s = refl
store_stays q h tag (st ∷ more ∷ stores) s = refl

publish_stays : (q : ℕ) (h : Header1) (tag : Tag) (stores : List Store) (answers : List Answered) (s : Scene) → started (after_items h (stored_items tag stores ++ items.Made (entries.Publish q answers) ∷ []) s).past q ≡ started s.past q
publish_stays q h tag [] answers s = refl
publish_stays q h tag (st ∷ []) answers s = refl
publish_stays q h tag (st ∷ more ∷ stores) answers s = refl

accept_stays : (q : ℕ) (h : Header1) (tag : Tag) (stores : List Store) (number : ℕ) (s : Scene) → started (after_items h (stored_items tag stores ++ items.Made (entries.Accept q number) ∷ []) s).past q ≡ started s.past q
accept_stays q h tag [] number s = refl
accept_stays q h tag (st ∷ []) number s = refl
accept_stays q h tag (st ∷ more ∷ stores) number s = refl

-- where the queue isn't started after a turn it wasn't before, and its list of numbers is kept
numbers_stay : (q : ℕ) (h : Header1) (outstanding : OutstandingRequests) (v : Values) (stores : List Store) (answers : List Answered) (opens : List ℕ) (room now : ℕ) (x : Stepped) (s : Scene) → started (after_items h (noted q outstanding v stores answers opens x) s).past q ≡ false → KeepsNumbers room now x
    → (started s.past q ≡ false) × (now ≡ room)
numbers_stay q h outstanding v stores answers opens room now (says.Stored tag) s stopped kept = (sym (store_stays q h tag stores s) ∙ stopped, kept)
numbers_stay q h outstanding v stores answers opens room now (says.Completed head) s stopped kept = (sym (store_stays q h T5 stores s) ∙ stopped, kept)
numbers_stay q h outstanding v stores answers opens room now says.Published s stopped kept = (sym (publish_stays q h SP5 stores answers s) ∙ stopped, kept)
numbers_stay q h outstanding v stores answers opens room now says.Started s stopped kept = absurd (let fails : true ≡ false = sym (started_own s.past q opens) ∙ stopped in cc)
numbers_stay q h outstanding v stores answers opens room now (says.Accepted head) s stopped kept = (sym (accept_stays q h SF2 stores (number_at outstanding head) s) ∙ stopped, kept)
numbers_stay q h outstanding v stores answers opens room now (says.Looked head sector) s stopped kept = (stopped, kept)
numbers_stay q h outstanding v stores answers opens room now (says.Acted head sector) s stopped kept = (stopped, kept)
numbers_stay q h outstanding v stores answers opens room now (says.Synced head) s stopped kept = (stopped, kept)
numbers_stay q h outstanding v stores answers opens room now (says.Faulted head) s stopped kept = (stopped, kept)
numbers_stay q h outstanding v stores answers opens room now says.Idle s stopped kept = (stopped, kept)
numbers_stay q h outstanding v stores answers opens room now says.Belled s stopped kept = (stopped, kept)
numbers_stay q h outstanding v stores answers opens room now says.SharedFault s stopped kept = (stopped, kept)
numbers_stay q h outstanding v stores answers opens room now says.BellFault s stopped kept = (stopped, kept)
numbers_stay q h outstanding v stores answers opens room now (says.Damaged fault) s stopped kept = (stopped, kept)
numbers_stay q h outstanding v stores answers opens room now (says.Broken fault) s stopped kept = (stopped, kept)

-- a queue is started where the past says so, if it is attached
started_as : (q : ℕ) (h : Header1) (setup : SplitSetup) (m : Moment) (o : Option QueueState) → AttachedAt q h setup m o → queue_started o ≡ started m.scene.past q
started_as q h setup m None at = sym at.2
started_as q h setup m (Some s) at = at.2.at.started

-- after a turn that was made
pub start_room_next : (q : ℕ) (t : Turn) (w : Parts) (before queue : Option QueueState) (memory : WatchedShared) (disk : MemDisk) (m : Moment) (x : Stepped) (r r' r'' : RoomState) → w.life ≡ Some before → PartsAt q w m → MachineTurns q t w (parts memory w.side queue disk) m x
    → HasStartRoom (queue_started before) w.side.outstanding r → r'.numbers ≡ r.numbers → KeepsNumbers r'.numbers r''.numbers x → HasStartRoom (queue_started queue) w.side.outstanding r''
start_room_next q t w before queue memory disk m x r r' r'' has at made room same kept stopped =
    let h : Header1 = w.side.header in
    let old : queue_started before ≡ started m.scene.past q = started_as q h (setup_of w.side) m before (subst (λ (l : Option (Option QueueState)). LifeAt q h (setup_of w.side) m l) has at.life).1 in
    let still : started (one_turn h q t m).next.scene.past q ≡ false = sym (started_as q h (setup_of w.side) (one_turn h q t m).next queue made.at.life.1) ∙ stopped in
    let stay = numbers_stay q h w.side.outstanding (values_of disk) (stores_in memory) (answers_shown q w.side.outstanding (bytes_in w.memory) w.life) (queue_numbers w.side.outstanding queue) r'.numbers r''.numbers x m.scene
    (ap (λ (is : List Item). started (after_items h is m.scene).past q) (sym made.items_are) ∙ still) kept in
    let few = room (old ∙ stay.0) in
    omega (arith, few, same, stay.1)

-- after one that wasn't
pub start_room_still : (q : ℕ) (h : Header1) (setup : SplitSetup) (m : Moment) (before queue : Option QueueState) (outstanding : OutstandingRequests) (r r' : RoomState) → AttachedAt q h setup m before → AttachedAt q h setup m queue → HasStartRoom (queue_started before) outstanding r → r'.numbers ≡ r.numbers → HasStartRoom (queue_started queue) outstanding r'
start_room_still q h setup m before queue outstanding r r' old new room same stopped =
    let few = room (started_as q h setup m before old ∙ sym (started_as q h setup m queue new) ∙ stopped) in
    omega (arith, few, same)
