-- A turn of the device at a moment of a run: start, fetch and publication.
use Rattle.std.proofs.Common.{◌≡◌, ◌≤◌, ◌<◌, ◌⊎◌, ℕ, ◌+◌, ◌*◌, Bool, true, false, List, [], ◌∷◌, ◌++◌, length, map, cond, refl, ap, sym, ◌∙◌, subst, inl, inr, arith}
use Rattle.std.specs.Prelude.{Option, Some, None, Result, Ok, unwrap_or, slice_index, ◌==◌, ◌||◌, ⊤}
use Rattle.std.proofs.lemmas.Bool.Decides.{nat_tests}
use Rattle.vub_run_laws.proofs.RunQueue.{head_below}
use Rattle.vub_base.specs.declared.header.Header1.{Header1}
use Rattle.vub_base.specs.declared.store.Tag.{Tag}
use Rattle.vub_base.specs.declared.store.Tag.TheVariants.{SF2, SP5}
use Rattle.vub_base.specs.declared.store.Area.{Area}
use Rattle.vub_base.specs.declared.store.Area.TheVariants.{M, I}
use Rattle.vub_shared.specs.Bytes.{Bytes, put, bytes_from}
use Rattle.vub_shared.specs.Stores.{Store, Stores, Trails, after_store, after_in_trail}
use Rattle.vub_shared.proofs.BytesLemmas.{put_other, bytes_from-put_other}
use Rattle.vub_disk.specs.Values.{Values}
use Rattle.vub_steps.specs.declared.steps.Phase.TheVariants as phases
use Rattle.vub_steps.specs.declared.readiness.Turn.{Turn}
use Rattle.vub_steps.specs.declared.readiness.Turn.TheVariants as turns
use Rattle.vub_steps.specs.declared.steps.Step.{Step}
use Rattle.vub_steps.specs.declared.steps.Step.TheVariants as steps
use Rattle.vub_steps.specs.Readiness.{is_ready}
use Rattle.vub_steps.specs.Rows.{Row}
use Rattle.vub_infl_split.specs.declared.region.SplitStore.{SplitStore}
use Rattle.vub_driver.specs.Layout.{area_place, buffer_place, status_place, sectors_place}
use Rattle.vub_device.specs.declared.entry.Answered.{Answered}
use Rattle.vub_device.specs.declared.entry.Asked.{Asked}
use Rattle.vub_device.specs.declared.entry.Asked.TheVariants as asks
use Rattle.vub_device.specs.declared.entry.Entry.{Entry}
use Rattle.vub_device.specs.declared.entry.Entry.TheVariants as entries
use Rattle.vub_device.specs.Past.{asked, accepted, published, collected, is_among, open_numbers, started}
use Rattle.vub_device.proofs.Numbers.{is_among_append}
use Rattle.vub_world.specs.declared.outstanding.OutstandingRequests.{OutstandingRequests}
use Rattle.vub_world.specs.declared.outstanding.OutstandingRequest.{OutstandingRequest}
use Rattle.vub_report.specs.declared.items.Item.{Item}
use Rattle.vub_report.specs.declared.items.Item.TheVariants as items
use Rattle.vub_queue.specs.declared.queue.Stepped.{Stepped}
use Rattle.vub_queue.specs.declared.queue.Stepped.TheVariants as says
use Rattle.vub_setup.specs.Setups.{SplitSetup}
use Rattle.vub_task.specs.declared.task.Task.{Task}
use Rattle.vub_world.specs.OutstandingRequests.{slot_in}
use Rattle.vub_world.specs.MachineAt.{OutstandingAt, reads_of}
use Rattle.vub_world.specs.MachineDevice.{Device, DeviceAt, TurnMade, IsMade, StoreFits, SectorFits, HeadFits, answer_for, answers_for, noted, stored_items, shown_of, is_index, accepts, number_at, numbers_of}
use Rattle.vub_world.specs.MachineDriverSide.{area_of, IsSmall, OneSmall}
use Rattle.vub_run.specs.Memory.{Scene, space_of, after_items}
use Rattle.vub_run.specs.Moments.{Lane, Moment, standing}
use Rattle.vub_queue_in_run.specs.QueueAt.{spot_of, QueueStands, LiesAs, DiskAt}
use Rattle.vub_rec_split.specs.declared.plan.Recovered.{Recovered}
use Rattle.vub_rec_split.specs.declared.plan.Recovered.TheVariants as recovered
use Rattle.vub_rec_split.specs.Starts.{due_in, answer_in}
use Rattle.vub_queue.specs.QueueState as states
use Rattle.vub_queue.specs.QueueState.{steps_in, QueueState, row_at, row_if, next_row, publishes, publish_row, TrailsRow, StoresStep, start_due, start_said, rings_next, step_in, fetch_row, Fetches, StartsIf, StoresBy, TrailsBy, Turns, DoesStore, DoesTrail, DoesDisk, IsDue, IfStepped, WorksOut, outcome, is_idle, is_fault}
use Rattle.vub_run.specs.Run.{one_turn}
use Rattle.vub_task.specs.TaskState.{Making}
use Rattle.vub_run.specs.Turns.{turned, under_way, answer_len, answer_at}
use Rattle.vub_run_laws.proofs.RunNumbers.{not_among-take}
use Rattle.vub_run_laws.proofs.RunFrames.{open_out}
use Rattle.vub_run_laws.proofs.RunGood.{IsWide, IsOut, hidden}
use Rattle.vub_run_laws.proofs.RunHolds.{Holds}
use Rattle.vub_run_laws.proofs.RunOwn.{accepted_own}
use Rattle.vub_run_laws.proofs.RunTurns.{IsPlain, Good, turn_fine}
use Rattle.vub_run_laws.proofs.RunChainsEvents.{ChainedAt}
use Rattle.vub_queue_in_run.proofs.QueueAtMoves.{new_unpublished}
use Rattle.vub_queue_in_run.proofs.QueueAtStarts.{start_row, start_stores_row, start_trails_row, start_stands}
use Rattle.vub_queue_in_run.proofs.QueueAtTurns.{IsPhaseTurn, does_of, hidden_is, idle_stands, ready_same}
use Rattle.vub_queue_in_run.proofs.QueueAtFetches.{fetch_stands}
use Rattle.vub_queue_in_run.proofs.QueueAtPublications.{publish_stands}
use Rattle.vub_queue_in_run.proofs.QueueAtSteps.{hides}
use Rattle.vub_queue_in_run.proofs.TurnSays.{RowFits, row_item, after_stored, ShowsRow, StoresRow, StoresNone, TurnSays, Notes, Accepts, Publishes, Rings, Starts}
use Rattle.vub_queue_in_run.proofs.WorkAtItems.{IsNoWork, turn_disk}
use Rattle.vub_world.proofs.MachineResumes.{start_resumes, publish_never}

-- ---- what a turn is given, and what it does

-- the device stands at a moment of a run, and its memory keeps no store
pub record TurnAt (q : ℕ) (h : Header1) (setup : SplitSetup) (m : Moment) (outstanding : OutstandingRequests) (d : Device) : Type 0 where
  pub plain : IsPlain h
  pub good : Good q h m
  pub chained : ChainedAt q h m
  pub main : LiesAs q setup h.size
  pub at : DeviceAt q h setup m d
  pub fresh : d.stores ≡ []
  pub numbered : OutstandingAt q h.size m.scene.past (m.scene.heads q) outstanding

-- the disk didn't fail
abbrev pub NoDiskFault : Stepped → Type 0
NoDiskFault (says.Faulted head) = ⊥
NoDiskFault x = ⊤

-- what a turn tells, which failed nowhere
pub record DeviceDoes (t : Turn) (cap : ℕ) (sizes : ℕ → ℕ) (d now : Device) (x : Stepped) : Type 0 where
  pub fine : is_fault x ≡ false
  pub served : NoDiskFault x
  pub does : Turns t (Some d.memory) x d.queue now.queue
  pub stores_are : DoesStore t (Some d.memory) (Some now.memory) x d.queue
  pub trails : DoesTrail t (Some d.memory) (Some d.stores) (Some now.stores) x d.queue
  pub values_are : DoesDisk t (Some d.values) (Some now.values)
  pub made : (place : ℕ) (task : Task) (n : Making) → t ≡ turns.Work place → IsDue cap sizes d.queue d.memory place task n
      → IfStepped x (WorksOut place task n d.memory (Some now.memory) (Some d.stores) (Some now.stores) (Some d.values) (Some now.values) x d.queue now.queue)

pub some_is : {A : Type 0} (a b : A) → Some a ≡ Some b → a ≡ b
some_is a b e = ap (λ o. unwrap_or o a) e

-- the disk where its values are those before
pub disk_same : (cap : ℕ) (past : List Entry) (v w : Values) → w ≡ v → DiskAt cap past v → DiskAt cap past w
disk_same cap past v w same disk = subst (λ (u : Values). DiskAt cap past u) (sym same) disk

-- ---- a turn that stores

-- the area of the space of an area's stores
area_same : (area : Area) (space : ℕ) → space ≡ space_of area → area_of space ≡ area
area_same M space is = ap area_of is
area_same I space is = ap area_of is

-- the turn made this store, a small one into that area
pub record StoredIn (d now : Device) (area : Area) (st : Store) : Type 0 where
  pub memory_is : now.memory ≡ after_store st d.memory
  pub stores_are : now.stores ≡ st ∷ []
  pub small : IsSmall area st

stored_in : (d now : Device) (x : Stepped) (area : Area) (st : Store) → outcome x ≡ Ok tt → d.stores ≡ [] → IsSmall area st → Stores (Some d.memory) (Some now.memory) (outcome x) st → Trails (Some d.stores) (Some now.stores) (outcome x) st → StoredIn d now area st
stored_in d now x area st fine fresh small left right =
    let memory : Some now.memory ≡ Some (after_store st d.memory) = subst (λ (z : Result (Unit {0}) (Unit {0})). Stores (Some d.memory) (Some now.memory) z st) fine left in
    let trail : Some now.stores ≡ Some (after_in_trail st d.stores) = subst (λ (z : Result (Unit {0}) (Unit {0})). Trails (Some d.stores) (Some now.stores) z st) fine right in
    record {
      memory_is = some_is now.memory (after_store st d.memory) memory;
      stores_are = some_is now.stores (after_in_trail st d.stores) trail ∙ ap (after_in_trail st) fresh;
      small = small;
    }

-- its items
store_made : (d now : Device) (tag : Tag) (area : Area) (st : Store) → StoredIn d now area st → stored_items tag now.stores ≡ items.Store tag area st.place st.bytes ∷ []
store_made d now tag area st s = ap (stored_items tag) s.stores_are ∙ ap (λ (a : Area). items.Store tag a st.place st.bytes ∷ []) (area_same area st.space s.small.space)

one_small : (d now : Device) (area : Area) (st : Store) → StoredIn d now area st → OneSmall now.stores
one_small d now area st s =
    let here : IsSmall (area_of st.space) st = subst (λ (a : Area). IsSmall a st) (sym (area_same area st.space s.small.space)) s.small in
    subst (λ (l : List Store). OneSmall l) (sym s.stores_are) here

-- memory after it, as the items have it
store_memory : (h : Header1) (m : Moment) (d now : Device) (tag : Tag) (area : Area) (st : Store) → d.memory ≡ m.scene.memory → StoredIn d now area st → now.memory ≡ (after_items h (items.Store tag area st.place st.bytes ∷ []) m.scene).memory
store_memory h m d now tag area st same s =
    s.memory_is ∙ ap (λ (b : Bytes). put b st.space st.place st.bytes) same ∙ ap (λ (k : ℕ). put m.scene.memory k st.place st.bytes) s.small.space

-- what it leaves, where its store is the only one among its items
left_at : (q : ℕ) (h : Header1) (setup : SplitSetup) (m : Moment) (outstanding : OutstandingRequests) (t : Turn) (d now : Device) (tag : Tag) (area : Area) (st : Store) → TurnAt q h setup m outstanding d → IsNoWork t → QueueStands q h setup (one_turn h q t m).next now.queue → now.values ≡ d.values
    → StoredIn d now area st → (one_turn h q t m).next.scene.memory ≡ (after_items h (items.Store tag area st.place st.bytes ∷ []) m.scene).memory → DeviceAt q h setup (one_turn h q t m).next now
left_at q h setup m outstanding t d now tag area st a none stands values s memory = record {
  stands = stands;
  memory_is = store_memory h m d now tag area st a.at.memory_is s ∙ sym memory;
  disk = disk_same h.capacity (one_turn h q t m).next.scene.past d.values now.values values (turn_disk q h m t d.values none a.at.disk);
}

-- ---- the answers of a batch

same_answer : (k st st' : ℕ) (bs bs' : List ℕ) → st ≡ st' → bs ≡ bs' → ◌≡◌ {A = Answered} (record { number = k; status = st; bytes = bs }) (record { number = k; status = st'; bytes = bs' })
same_answer k st st' bs bs' es eb = cc

-- how many bytes an answer that succeeds has
len_same : (cap : ℕ) (o : Option Asked) → IsWide cap o → 512 * reads_of o ≡ answer_len 0 o
len_same cap None simple = absurd simple
len_same cap (Some (asks.Read s n)) simple = refl
len_same cap (Some (asks.Write s bytes)) simple = refl
len_same cap (Some asks.Flush) simple = refl
len_same cap (Some asks.Id) simple = absurd simple
len_same cap (Some (asks.Discard parts)) simple = absurd simple
len_same cap (Some (asks.Zero parts)) simple = absurd simple

-- the store that shows a batch touches no buffer
answer_same : (q : ℕ) (cap : ℕ) (o : Option Asked) (m : Bytes) (p : ℕ) (bs : List ℕ) (k head : ℕ) → IsWide cap o → p + length bs ≤ area_place q + 65536 → m 0 (status_place (buffer_place (area_place q) head)) ≡ 0
    → answer_for q (record { number = k; reads = reads_of o }) m head
    ≡ record {
      number = k;
      status = put m 0 p bs 0 (status_place (buffer_place (area_place q) head));
      bytes = bytes_from (answer_len (put m 0 p bs 0 (status_place (buffer_place (area_place q) head))) o) (put m 0 p bs) 0 (sectors_place (buffer_place (area_place q) head));
    }
answer_same q cap o m p bs k head simple off good =
    let place : ℕ = status_place (buffer_place (area_place q) head) in
    let sectors : ℕ = sectors_place (buffer_place (area_place q) head) in
    let kept : put m 0 p bs 0 place ≡ m 0 place = put_other m 0 p bs 0 place (inr (inr (omega arith))) in
    let zero_too : put m 0 p bs 0 place ≡ 0 = kept ∙ good in
    let long : cond {A = ℕ} (m 0 place == 0) (512 * reads_of o) 0 ≡ answer_len (put m 0 p bs 0 place) o =
    ap (λ (st : ℕ). cond {A = ℕ} (st == 0) (512 * reads_of o) 0) good ∙ len_same cap o simple ∙ sym (ap (λ (st : ℕ). answer_len st o) zero_too) in
    let len : ℕ = answer_len (put m 0 p bs 0 place) o in
    let bytes : bytes_from (cond {A = ℕ} (m 0 place == 0) (512 * reads_of o) 0) m 0 sectors ≡ bytes_from len (put m 0 p bs) 0 sectors =
    ap (λ (n : ℕ). bytes_from n m 0 sectors) long ∙ sym (bytes_from-put_other len m 0 p bs 0 sectors (inr (inr (omega arith)))) in
    same_answer k (m 0 place) (put m 0 p bs 0 place) _ _ (sym kept) bytes

map_over : (f : ℕ × ℕ → Answered) (g : ℕ → Answered) (spot : ℕ → ℕ × ℕ) (ks : List ℕ) → ((k : ℕ) → is_among ks k ≡ true → f (spot k) ≡ g k) → map f (map spot ks) ≡ map g ks
map_over f g spot [] same = refl
map_over f g spot (k ∷ ks) same =
    ap (λ (a : Answered). a ∷ map f (map spot ks)) (same k (grind (arith, nat_tests)))
    ∙ ap (λ (l : List Answered). g k ∷ l) (map_over f g spot ks (λ j held. same j (grind (arith, nat_tests))))

pub among_right : (xs ys : List ℕ) (k : ℕ) → is_among ys k ≡ true → is_among (xs ++ ys) k ≡ true
among_right xs ys k held = let joined : is_among (xs ++ ys) k ≡ (is_among xs k || is_among ys k) = is_among_append xs ys k in grind (arith, nat_tests)

-- while a batch isn't shown
abbrev NotShown : ℕ → Moment → Type 0
NotShown q m = (m.lanes q).phase ≡ phases.Publish (4 * length (m.lanes q).batch)

answers_same : (q : ℕ) (h : Header1) (setup : SplitSetup) (m : Moment) (outstanding : OutstandingRequests) (d : Device) (y : Row) → TurnAt q h setup m outstanding d → NotShown q m → ShowsRow q y
    → answers_for q outstanding d.memory d.queue.batch ≡ map (answer_at q (after_stored h y m.scene)) (m.lanes q).batch
answers_same q h setup m outstanding d y a not_shown w =
    let l : Lane = m.lanes q in
    let past : List Entry = m.scene.past in
    let heads : List ℕ = m.scene.heads q in
    let all : hidden l.batch l.phase ≡ l.batch = ap (hidden l.batch) not_shown ∙ hidden_is l.batch (phases.Publish (4 * length l.batch)) ∙ hides l.batch (4 * length l.batch) (omega arith) in
    let scene : after_stored h y m.scene ≡ after_stored h (record y { area = M }) m.scene = ap (λ (area : Area). after_stored h (record y { area = area }) m.scene) w.area in
    ap (λ (b : Bytes). answers_for q outstanding b d.queue.batch) a.at.memory_is
    ∙ ap (λ (xs : List (ℕ × ℕ)). answers_for q outstanding m.scene.memory xs) a.at.stands.phase.batch
    ∙ map_over (λ x. answer_for q (slot_in outstanding x.0) m.scene.memory x.0) (answer_at q (after_stored h (record y { area = M }) m.scene)) (spot_of q h past heads) l.batch (λ k held.
    let part : is_among (hidden l.batch l.phase) k ≡ true = ap (λ (ks : List ℕ). is_among ks k) all ∙ held in
    let done : is_among (l.completed ++ hidden l.batch l.phase) k ≡ true = among_right l.completed (hidden l.batch l.phase) k part in
    let out : IsOut q past heads k = open_out q h.size h.capacity past heads k a.good.holds.known (a.good.holds.worked.opens k done) in
    let head : ℕ = slice_index heads k in
    ap (λ (o : OutstandingRequest). answer_for q o m.scene.memory head) (a.numbered.slots k out.below out.kept)
    ∙ answer_same q h.capacity (asked past q k) m.scene.memory y.store.place y.store.bytes k head (a.good.holds.known.wide k out.below) w.low (a.good.holds.stored.status k done))
    ∙ ap (λ (s : Scene). map (answer_at q s) l.batch) (sym scene)

-- which answers a turn notes
shown_is : (q : ℕ) (outstanding : OutstandingRequests) (m : Bytes) (state : QueueState) → step_in state ≡ Some steps.Index → shown_of q outstanding m state ≡ answers_for q outstanding m state.batch
shown_is q outstanding m state next = ap (λ (o : Option Step). cond {A = List Answered} (is_index o) (answers_for q outstanding m state.batch) []) next

-- ---- a turn of a phase

-- what is told of its row
record RowTold (d now : Device) (x : Stepped) (row : Option Row) : Type 0 where
  pub stores : states.StoresRow (Some d.memory) (Some now.memory) x row
  pub trails : TrailsRow (Some d.stores) (Some now.stores) x row

-- where its row stores, the device did
stored_row : (d now : Device) (x : Stepped) (row : Option Row) (y : Row) → RowTold d now x row → row ≡ Some y → outcome x ≡ Ok tt → d.stores ≡ [] → RowFits y → StoredIn d now y.area y.store
stored_row d now x row y told is fine fresh fits =
    let left : states.StoresRow (Some d.memory) (Some now.memory) x (Some y) = subst (λ (z : Option Row). states.StoresRow (Some d.memory) (Some now.memory) x z) is told.stores in
    let right : TrailsRow (Some d.stores) (Some now.stores) x (Some y) = subst (λ (z : Option Row). TrailsRow (Some d.stores) (Some now.stores) x z) is told.trails in
    stored_in d now x y.area y.store fine fresh (record { space = fits.space; few = omega (arith, fits.few) }) left right

-- what a turn is told to do and to leave
record PhaseTurn (q : ℕ) (h : Header1) (setup : SplitSetup) (m : Moment) (outstanding : OutstandingRequests) (t : Turn) (d now : Device) (x : Stepped) (row : Option Row) : Type 0 where
  pub given : TurnAt q h setup m outstanding d
  pub none : IsNoWork t
  pub ready : is_ready (standing h q m) t ≡ true
  pub stands : QueueStands q h setup (one_turn h q t m).next now.queue
  pub values : now.values ≡ d.values
  pub told : RowTold d now x row
  pub starts : x ≡ says.Started → (d.queue.started ≡ false) × (numbers_of outstanding now.queue ≡ open_numbers m.scene.past q)

-- nothing is accepted
none_taken : (a b : ℕ) → b ≡ a → 0 + a ≡ b
none_taken a b same = omega (arith, same)

-- where the queue says this, with these items
made_as : (q : ℕ) (h : Header1) (setup : SplitSetup) (m : Moment) (outstanding : OutstandingRequests) (t : Turn) (d now : Device) (x what : Stepped) (row : Option Row) (list : List Item) → PhaseTurn q h setup m outstanding t d now x row → x ≡ what → (turned h q t m).items ≡ list → is_idle what ≡ false → IsMade what
    → list ≡ noted q outstanding now.values now.stores (shown_of q outstanding d.memory d.queue) (numbers_of outstanding now.queue) what → StoreFits what now.stores → SectorFits h.capacity what → HeadFits h.size what → now.memory ≡ (after_items h list m.scene).memory → accepts what + accepted m.scene.past q ≡ accepted (after_items h list m.scene).past q
    → TurnMade q h setup m t outstanding d now x
made_as q h setup m outstanding t d now x what row list p said made goes fine notes store sector head memory takes = record {
  goes = ap is_idle said ∙ goes;
  made = subst (λ (z : Stepped). IsMade z) (sym said) fine;
  at = record {
    stands = p.stands;
    memory_is = memory ∙ sym (ap (λ (is : List Item). (after_items h is m.scene).memory) made);
    disk = disk_same h.capacity (one_turn h q t m).next.scene.past d.values now.values p.values (turn_disk q h m t d.values p.none p.given.at.disk);
  };
  items_are = made ∙ notes ∙ sym (ap (noted q outstanding now.values now.stores (shown_of q outstanding d.memory d.queue) (numbers_of outstanding now.queue)) said);
  store = subst (λ (z : Stepped). StoreFits z now.stores) (sym said) store;
  sector = subst (λ (z : Stepped). SectorFits h.capacity z) (sym said) sector;
  head = subst (λ (z : Stepped). HeadFits h.size z) (sym said) head;
  starts = p.starts;
  taken = ap (λ (z : Stepped). accepts z + accepted m.scene.past q) said ∙ takes ∙ sym (ap (λ (is : List Item). accepted (after_items h is m.scene).past q) made);
}

-- a store and nothing else
notes_made : (q : ℕ) (h : Header1) (setup : SplitSetup) (m : Moment) (outstanding : OutstandingRequests) (t : Turn) (d now : Device) (x : Stepped) (row : Option Row) (y : Row) → PhaseTurn q h setup m outstanding t d now x row → StoresRow q h m t x (says.Stored y.tag) row y [] → TurnMade q h setup m t outstanding d now x
notes_made q h setup m outstanding t d now x row y p s =
    let st : StoredIn d now y.area y.store = stored_row d now x row y p.told s.is_row (ap outcome s.said) p.given.fresh s.fits in
    made_as q h setup m outstanding t d now x (says.Stored y.tag) row (row_item y ∷ []) p s.said s.made refl tt (sym (store_made d now y.tag y.area y.store st)) (one_small d now y.area y.store st) tt tt
    (store_memory h m d now y.tag y.area y.store p.given.at.memory_is st) (none_taken (accepted m.scene.past q) (accepted m.scene.past q) refl)

-- nothing but the bell, or the end of a start
none_made : (q : ℕ) (h : Header1) (setup : SplitSetup) (m : Moment) (outstanding : OutstandingRequests) (t : Turn) (d now : Device) (x what : Stepped) (row : Option Row) (item : Item) → PhaseTurn q h setup m outstanding t d now x row → StoresNone q h m t x what row item → is_idle what ≡ false → IsMade what
    → item ∷ [] ≡ noted q outstanding now.values now.stores (shown_of q outstanding d.memory d.queue) (numbers_of outstanding now.queue) what → StoreFits what now.stores → SectorFits h.capacity what → HeadFits h.size what → (after_items h (item ∷ []) m.scene).memory ≡ m.scene.memory
    → accepts what + accepted m.scene.past q ≡ accepted (after_items h (item ∷ []) m.scene).past q → TurnMade q h setup m t outstanding d now x
none_made q h setup m outstanding t d now x what row item p s goes fine notes store sector head memory takes =
    let kept : states.StoresRow (Some d.memory) (Some now.memory) x None = subst (λ (z : Option Row). states.StoresRow (Some d.memory) (Some now.memory) x z) s.is_row p.told.stores in
    made_as q h setup m outstanding t d now x what row (item ∷ []) p s.said s.made goes fine notes store sector head (some_is now.memory d.memory kept ∙ p.given.at.memory_is ∙ sym memory) takes

-- the request that is accepted is offered: it is so after the turn
more_offered : (q : ℕ) (h : Header1) (setup : SplitSetup) (m : Moment) (outstanding : OutstandingRequests) (t : Turn) (d now : Device) (x : Stepped) (row : Option Row) (y : Row) → PhaseTurn q h setup m outstanding t d now x row
    → (turned h q t m).items ≡ row_item y ∷ items.Made (entries.Accept q (accepted m.scene.past q)) ∷ [] → accepted m.scene.past q < length (m.scene.heads q)
more_offered q h setup m outstanding t d now x row y p made =
    let after = turn_fine q h t m p.given.plain p.given.good p.ready in
    let many : accepted (after_items h (turned h q t m).items m.scene).past q ≡ accepted m.scene.past q + 1 = ap (λ (is : List Item). accepted (after_items h is m.scene).past q) made ∙ accepted_own m.scene.past q (accepted m.scene.past q) in
    let same : (after_items h (turned h q t m).items m.scene).heads q ≡ m.scene.heads q = ap (λ (is : List Item). (after_items h is m.scene).heads q) made in
    omega (arith, after.holds.known.offered, many, ap (λ (hs : List ℕ). length hs) same)

-- the acceptance of a head, with its store
accepts_made : (q : ℕ) (h : Header1) (setup : SplitSetup) (m : Moment) (outstanding : OutstandingRequests) (t : Turn) (d now : Device) (x : Stepped) (row : Option Row) (y : Row) → PhaseTurn q h setup m outstanding t d now x row → y.tag ≡ SF2
    → StoresRow q h m t x (says.Accepted (slice_index (m.scene.heads q) (accepted m.scene.past q))) row y (items.Made (entries.Accept q (accepted m.scene.past q)) ∷ []) → TurnMade q h setup m t outstanding d now x
accepts_made q h setup m outstanding t d now x row y p tag s =
    let k : ℕ = accepted m.scene.past q in
    let head : ℕ = slice_index (m.scene.heads q) k in
    let st : StoredIn d now y.area y.store = stored_row d now x row y p.told s.is_row (ap outcome s.said) p.given.fresh s.fits in
    let new = not_among-take (published m.scene.past q) (collected m.scene.past q) k (new_unpublished q h.size h.capacity m.scene.past (m.scene.heads q) p.given.good.holds.known) in
    let offered : k < length (m.scene.heads q) = more_offered q h setup m outstanding t d now x row y p s.made in
    let number : number_at outstanding head ≡ k = ap (λ (o : OutstandingRequest). o.number) (p.given.numbered.slots k offered new) in
    let entry : ℕ → List Item = λ n. items.Made (entries.Accept q n) ∷ [] in
    made_as q h setup m outstanding t d now x (says.Accepted head) row (row_item y ∷ entry k) p s.said s.made refl tt
    (ap (λ (is : List Item). is ++ entry k) (sym (store_made d now y.tag y.area y.store st)) ∙ ap (λ (z : Tag). stored_items z now.stores ++ entry k) tag ∙ ap (λ (n : ℕ). stored_items SF2 now.stores ++ entry n) (sym number)) (one_small d now y.area y.store st) tt
    (head_below q h m.scene (m.lanes q).driver (m.lanes q).bell (m.lanes q).plan (m.lanes q).counter (m.lanes q).batch (m.lanes q).phase k p.given.good.holds.queue (record { below = offered; kept = new }))
    (store_memory h m d now y.tag y.area y.store p.given.at.memory_is st) (omega (arith, accepted_own m.scene.past q k))

-- the next step of queue and lane shows this batch
record ShowsNow (q : ℕ) (m : Moment) (d : Device) (batch : List ℕ) : Type 0 where
  pub next : step_in d.queue ≡ Some steps.Index
  pub place : NotShown q m
  pub batch_is : batch ≡ (m.lanes q).batch

-- the store that shows a batch
shows_made : (q : ℕ) (h : Header1) (setup : SplitSetup) (m : Moment) (outstanding : OutstandingRequests) (t : Turn) (d now : Device) (x : Stepped) (row : Option Row) (y : Row) (batch : List ℕ) → PhaseTurn q h setup m outstanding t d now x row → ShowsRow q y
    → StoresRow q h m t x says.Published row y (items.Made (entries.Publish q (map (answer_at q (after_stored h y m.scene)) batch)) ∷ []) → ShowsNow q m d batch → TurnMade q h setup m t outstanding d now x
shows_made q h setup m outstanding t d now x row y batch p w s shows =
    let st : StoredIn d now y.area y.store = stored_row d now x row y p.told s.is_row (ap outcome s.said) p.given.fresh s.fits in
    let entry : List Answered → List Item = λ list. items.Made (entries.Publish q list) ∷ [] in
    let list : List Answered = map (answer_at q (after_stored h y m.scene)) batch in
    let answers : shown_of q outstanding d.memory d.queue ≡ list =
    shown_is q outstanding d.memory d.queue shows.next ∙ answers_same q h setup m outstanding d y p.given shows.place w ∙ ap (map (answer_at q (after_stored h y m.scene))) (sym shows.batch_is) in
    made_as q h setup m outstanding t d now x says.Published row (row_item y ∷ entry list) p s.said s.made refl tt
    (ap (λ (is : List Item). is ++ entry list) (sym (store_made d now y.tag y.area y.store st)) ∙ ap (λ (z : Tag). stored_items z now.stores ++ entry list) w.tag ∙ ap (λ (xs : List Answered). stored_items SP5 now.stores ++ entry xs) (sym answers)) (one_small d now y.area y.store st) tt tt
    (store_memory h m d now y.tag y.area y.store p.given.at.memory_is st) (none_taken (accepted m.scene.past q) (accepted m.scene.past q) refl)

-- whichever it is
phase_made : (q : ℕ) (h : Header1) (setup : SplitSetup) (m : Moment) (outstanding : OutstandingRequests) (t : Turn) (d now : Device) (x : Stepped) (row : Option Row) (batch : List ℕ) → PhaseTurn q h setup m outstanding t d now x row → (x ≡ says.Published → ShowsNow q m d batch)
    → TurnSays q h m t x row (slice_index (m.scene.heads q) (accepted m.scene.past q)) batch → TurnMade q h setup m t outstanding d now x
phase_made q h setup m outstanding t d now x row batch p shows (Notes y s) = notes_made q h setup m outstanding t d now x row y p s
phase_made q h setup m outstanding t d now x row batch p shows (Accepts y tag s) = accepts_made q h setup m outstanding t d now x row y p tag s
phase_made q h setup m outstanding t d now x row batch p shows (Publishes y w s) = shows_made q h setup m outstanding t d now x row y batch p w s (shows s.said)
phase_made q h setup m outstanding t d now x row batch p shows (Rings s) = none_made q h setup m outstanding t d now x says.Belled row (items.Bell q) p s refl tt refl tt tt tt refl (none_taken (accepted m.scene.past q) (accepted m.scene.past q) refl)
phase_made q h setup m outstanding t d now x row batch p shows (Starts s) = none_made q h setup m outstanding t d now x says.Started row (items.Made (entries.Start q (open_numbers m.scene.past q))) p s refl tt (ap (λ (ks : List ℕ). items.Made (entries.Start q ks) ∷ []) (sym (p.starts s.said).1)) tt tt tt refl (none_taken (accepted m.scene.past q) (accepted m.scene.past q) refl)

-- what the device was told, at the moment
told_now : (q : ℕ) (h : Header1) (setup : SplitSetup) (m : Moment) (outstanding : OutstandingRequests) (cap : ℕ) (sizes : ℕ → ℕ) (t : Turn) (d now : Device) (x : Stepped) → TurnAt q h setup m outstanding d → DeviceDoes t cap sizes d now x → Turns t (Some m.scene.memory) x d.queue now.queue
told_now q h setup m outstanding cap sizes t d now x a does = subst (λ (b : Bytes). Turns t (Some b) x d.queue now.queue) a.at.memory_is does.does

row_now : (d now : Device) (x : Stepped) (row : Bytes → Option Row) (m : Bytes) → d.memory ≡ m → StoresBy (Some d.memory) (Some now.memory) x row → TrailsBy (Some d.memory) (Some d.stores) (Some now.stores) x row → RowTold d now x (row m)
row_now d now x row m same stores trails = subst (λ (b : Bytes). RowTold d now x (row b)) same (record { stores = stores d.memory refl; trails = trails.1 d.memory refl })

-- a start publishes nothing
start_never : {A : Type 0} (rings : Bool) (answer : Recovered) → start_said rings answer ≡ says.Published → A
start_never rings (recovered.Stored tag) e = absurd (cc)
start_never true recovered.Done e = absurd (let fails : says.Belled ≡ says.Published = e in cc)
start_never false recovered.Done e = absurd (let fails : says.Started ≡ says.Published = e in cc)
start_never rings (recovered.Damaged fault) e = absurd (cc)
start_never rings recovered.Failed e = absurd (cc)

pub start_made : (q : ℕ) (h : Header1) (setup : SplitSetup) (m : Moment) (outstanding : OutstandingRequests) (cap : ℕ) (sizes : ℕ → ℕ) (d now : Device) (x : Stepped) → TurnAt q h setup m outstanding d → is_ready (standing h q m) turns.Start ≡ true → DeviceDoes turns.Start cap sizes d now x
    → TurnMade q h setup m turns.Start outstanding d now x
start_made q h setup m outstanding cap sizes d now x a ready does =
    let told : Turns turns.Start (Some m.scene.memory) x d.queue now.queue = told_now q h setup m outstanding cap sizes turns.Start d now x a does in
    let s = start_stands q h setup m x d.queue now.queue a.plain a.good a.main a.at.stands ready does.fine told in
    let new : started m.scene.past q ≡ false = grind (arith, nat_tests) in
    let stopped : d.queue.started ≡ false = a.at.stands.at.started ∙ new in
    let quiet = a.good.holds.worked.quiet new in
    let starts : StartsIf false (Some m.scene.memory) x d.queue told.0 = subst (λ (b : Bool). StartsIf b (Some m.scene.memory) x d.queue told.0) stopped (does_of turns.Start (Some m.scene.memory) x d.queue now.queue told does.fine) in
    phase_made q h setup m outstanding turns.Start d now x (start_row d.queue m.scene.memory) [] (record {
      given = a;
      none = tt;
      ready = ready;
      stands = s.stands;
      values = some_is now.values d.values does.values_are;
      told = row_now d now x (start_row d.queue) m.scene.memory a.at.memory_is (start_stores_row (Some d.memory) (Some now.memory) x d.queue does.stores_are) (start_trails_row (Some d.memory) (Some d.stores) (Some now.stores) x d.queue does.trails);
      starts = λ is. (stopped, start_resumes q h setup m outstanding x (start_row d.queue m.scene.memory) 0 [] now.queue a.good a.numbered quiet.1.0 (a.good.holds.carries.quiet new) (s.says 0) s.stands is);
    }) (λ e. start_never (rings_next d.queue) (answer_in d.queue.recovery m.scene.memory) (sym (starts m.scene.memory refl).0 ∙ e)) (s.says (slice_index (m.scene.heads q) (accepted m.scene.past q)))

pub fetch_made : (q : ℕ) (h : Header1) (setup : SplitSetup) (m : Moment) (outstanding : OutstandingRequests) (cap : ℕ) (sizes : ℕ → ℕ) (d now : Device) (x : Stepped) → TurnAt q h setup m outstanding d → is_ready (standing h q m) turns.Fetch ≡ true → DeviceDoes turns.Fetch cap sizes d now x
    → TurnMade q h setup m turns.Fetch outstanding d now x
fetch_made q h setup m outstanding cap sizes d now x a ready does =
    let told : Turns turns.Fetch (Some m.scene.memory) x d.queue now.queue = told_now q h setup m outstanding cap sizes turns.Fetch d now x a does in
    let s = fetch_stands q h setup m x d.queue now.queue a.plain a.good a.main a.at.stands ready does.fine told in
    let fetches : Fetches (Some m.scene.memory) x d.queue told.0 = does_of turns.Fetch (Some m.scene.memory) x d.queue now.queue told does.fine in
    phase_made q h setup m outstanding turns.Fetch d now x (fetch_row x d.queue m.scene.memory) [] (record {
      given = a;
      none = tt;
      ready = ready;
      stands = s.stands;
      values = some_is now.values d.values does.values_are;
      told = row_now d now x (fetch_row x d.queue) m.scene.memory a.at.memory_is does.stores_are does.trails;
      starts = λ is. absurd (subst (λ (z : Stepped). Fetches (Some m.scene.memory) z d.queue told.0) is fetches);
    }) (λ e. absurd (subst (λ (z : Stepped). Fetches (Some m.scene.memory) z d.queue told.0) e fetches)) s.says

pub publish_made : (q : ℕ) (h : Header1) (setup : SplitSetup) (m : Moment) (outstanding : OutstandingRequests) (cap : ℕ) (sizes : ℕ → ℕ) (most : ℕ) (d now : Device) (x : Stepped) → TurnAt q h setup m outstanding d → is_ready (standing h q m) (turns.Publish most) ≡ true
    → DeviceDoes (turns.Publish most) cap sizes d now x → TurnMade q h setup m (turns.Publish most) outstanding d now x
publish_made q h setup m outstanding cap sizes most d now x a ready does =
    let t : Turn = turns.Publish most in
    let told : Turns t (Some m.scene.memory) x d.queue now.queue = told_now q h setup m outstanding cap sizes t d now x a does in
    let s = publish_stands q h setup m most x d.queue now.queue a.plain a.good a.main a.at.stands ready does.fine told in
    phase_made q h setup m outstanding t d now x (publish_row most d.queue m.scene.memory) (under_way h q m.scene t (m.lanes q)).batch (record {
      given = a;
      none = tt;
      ready = ready;
      stands = s.step.stands;
      values = some_is now.values d.values does.values_are;
      told = row_now d now x (publish_row most d.queue) m.scene.memory a.at.memory_is does.stores_are does.trails;
      starts = λ is. absurd (publish_never (publishes most d.queue) m.scene.memory x d.queue (states.under_way most d.queue) told.0 (does_of t (Some m.scene.memory) x d.queue now.queue told does.fine) is);
    }) (λ e. let shown = s.shows e in record { next = shown.next; place = shown.place; batch_is = shown.batch }) s.step.says

-- ---- a turn that isn't due

-- the turn that stores nothing
abbrev IsEarly : Turn → Type 0
IsEarly turns.Fetch = ⊤
IsEarly t = ⊥

idle_values : (t : Turn) (v w : Values) → IsPhaseTurn t → DoesDisk t (Some v) (Some w) → w ≡ v
idle_values turns.Start v w is does = some_is w v does
idle_values turns.Fetch v w is does = some_is w v does
idle_values (turns.Work place) v w is does = absurd is
idle_values (turns.Publish most) v w is does = some_is w v does

-- whether a start or a publication is ready doesn't depend on what waits
unready_still : (q : ℕ) (h : Header1) (setup : SplitSetup) (m : Moment) (t : Turn) (state : QueueState) → LiesAs q setup h.size → Holds q h m.scene (m.lanes q) → QueueStands q h setup m state → IsPhaseTurn t → is_ready (standing h q m) t ≡ false → (is_ready (states.standing_at state 0) t ≡ false) ⊎ IsEarly t
unready_still q h setup m turns.Start state main holds z is unready = inl (ready_same q h setup m state turns.Start main holds z ∙ unready)
unready_still q h setup m turns.Fetch state main holds z is unready = inr tt
unready_still q h setup m (turns.Work place) state main holds z is unready = absurd is
unready_still q h setup m (turns.Publish most) state main holds z is unready = inl (ready_same q h setup m state (turns.Publish most) main holds z ∙ unready)

idle_memory : (t : Turn) (d now : Device) (x : Stepped) → IsPhaseTurn t → (is_ready (states.standing_at d.queue 0) t ≡ false) ⊎ IsEarly t → x ≡ says.Idle → DoesStore t (Some d.memory) (Some now.memory) x d.queue → now.memory ≡ d.memory
idle_memory turns.Start d now x is (inl unready) idle stores =
    let run : d.queue.started ≡ true = grind (arith, nat_tests) in
    let none : start_due d.queue d.memory ≡ None = ap (λ (b : Bool). cond {A = Option SplitStore} b None (due_in d.queue.recovery d.memory)) run in
    some_is now.memory d.memory (subst (λ (o : Option SplitStore). StoresStep (Some d.memory) (Some now.memory) x d.queue.recovery.region o) none (stores d.memory refl))
idle_memory turns.Start d now x is (inr early) idle stores = absurd early
idle_memory turns.Fetch d now x is unready idle stores =
    let none : StoresBy (Some d.memory) (Some now.memory) says.Idle (fetch_row says.Idle d.queue) = subst (λ (z : Stepped). StoresBy (Some d.memory) (Some now.memory) z (fetch_row z d.queue)) idle stores in
    some_is now.memory d.memory (none d.memory refl)
idle_memory (turns.Work place) d now x is unready idle stores = absurd is
idle_memory (turns.Publish most) d now x is (inl unready) idle stores =
    let none : publish_row most d.queue d.memory ≡ None = ap (λ (b : Bool). row_if b (states.under_way most d.queue) d.memory) unready in
    some_is now.memory d.memory (subst (λ (o : Option Row). states.StoresRow (Some d.memory) (Some now.memory) x o) none (stores d.memory refl))
idle_memory (turns.Publish most) d now x is (inr early) idle stores = absurd early

pub idle_made : (q : ℕ) (h : Header1) (setup : SplitSetup) (m : Moment) (outstanding : OutstandingRequests) (cap : ℕ) (sizes : ℕ → ℕ) (t : Turn) (d now : Device) (x : Stepped) → TurnAt q h setup m outstanding d → IsPhaseTurn t → is_ready (standing h q m) t ≡ false
    → DeviceDoes t cap sizes d now x → (x ≡ says.Idle) × DeviceAt q h setup m now
idle_made q h setup m outstanding cap sizes t d now x a is unready does =
    let told : Turns t (Some m.scene.memory) x d.queue now.queue = subst (λ (b : Bytes). Turns t (Some b) x d.queue now.queue) a.at.memory_is does.does in
    let idle = idle_stands q h setup m t x d.queue now.queue a.main a.good.holds a.at.stands is unready does.fine told in
    let values : now.values ≡ d.values = idle_values t d.values now.values is does.values_are in (
      idle.0,
      record {
        stands = subst (λ (state : QueueState). QueueStands q h setup m state) (sym idle.1) a.at.stands;
        memory_is = idle_memory t d now x is (unready_still q h setup m t d.queue a.main a.good.holds a.at.stands is unready) idle.0 does.stores_are ∙ a.at.memory_is;
        disk = disk_same h.capacity m.scene.past d.values now.values values a.at.disk;
      },
    )
