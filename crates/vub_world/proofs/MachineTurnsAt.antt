-- Where the machine stands after a turn of its device.
use Rattle.std.proofs.Common.{◌≡◌, ◌≤◌, ◌<◌, ℕ, zero, suc, ◌+◌, ◌%◌, Bool, true, false, List, [], ◌∷◌, ◌++◌, length, refl, ap, sym, ◌∙◌, subst, inl, inr, arith}
use Rattle.std.specs.Prelude.{◌&&◌, ◌⊎◌, Option, Some, None, take, slice_index, ⊤}
use Rattle.std.proofs.lemmas.Bool.Decides.{nat_tests}
use Rattle.std.proofs.lemmas.List.{append-nil}
use Rattle.vub_base.specs.declared.header.Header1.{Header1}
use Rattle.vub_base.specs.declared.store.Tag.{Tag}
use Rattle.vub_base.specs.declared.store.Tag.TheVariants.{SF2, SP5, T5}
use Rattle.vub_shared.specs.Bytes.{Bytes}
use Rattle.vub_shared.specs.Stores.{Store}
use Rattle.vub_shared.specs.Watched as watched
use Rattle.vub_shared.specs.Watched.{bytes_in, stores_in, memory_in}
use Rattle.vub_shared.specs.MemSpaces.{bytes_of, sizes_of}
use Rattle.vub_shared.specs.declared.mem_shared.MemShared.{MemShared}
use Rattle.vub_shared.specs.declared.watched_shared.WatchedShared.{WatchedShared}
use Rattle.vub_disk.specs.Values.{Values}
use Rattle.vub_memdisk.specs.MemDisks.{values_of}
use Rattle.vub_memdisk.specs.declared.mem_disk.MemDisk.{MemDisk}
use Rattle.vub_steps.specs.declared.readiness.Turn.{Turn}
use Rattle.vub_steps.specs.Readiness.{is_ready}
use Rattle.vub_driver.specs.Drivers.{Driver}
use Rattle.vub_driver.specs.Layout.{area_place}
use Rattle.vub_device.specs.declared.entry.Answered.{Answered}
use Rattle.vub_device.specs.declared.entry.Asked.{Asked}
use Rattle.vub_device.specs.declared.entry.Entry.TheVariants as entries
use Rattle.vub_device.specs.Past.{asked, published, collected, numbers, is_among}
use Rattle.vub_world.specs.declared.outstanding.OutstandingRequests.{OutstandingRequests}
use Rattle.vub_world.specs.DriverSides.{Parts, DriverSideSound, setup_of}
use Rattle.vub_queue.specs.declared.queue.Stepped.{Stepped}
use Rattle.vub_queue.specs.declared.queue.Stepped.TheVariants as says
use Rattle.vub_report.specs.declared.items.Item.{Item}
use Rattle.vub_report.specs.declared.items.Item.TheVariants as items
use Rattle.vub_world.specs.OutstandingRequests.{slot_in}
use Rattle.vub_world.specs.MachineAt.{AskAt, AttachedAt, LifeAt, OutstandingAt, PartsAt, reads_of}
use Rattle.vub_world.specs.MachineDevice.{Device, device, DeviceAt, TurnMade, DeviceTurns, noted, number_at, stored_items, shown_of, numbers_of, answers_shown, started_in}
use Rattle.vub_world.specs.MachineSteps.{TurnGoes}
use Rattle.vub_run.specs.Memory.{Scene, after_items}
use Rattle.vub_run.specs.Moments.{Lane, Moment, standing}
use Rattle.vub_setup.specs.Setups.{SplitSetup}
use Rattle.vub_queue.specs.QueueState.{QueueState}
use Rattle.vub_queue_in_run.specs.QueueAt.{DiskAt}
use Rattle.vub_backend.specs.Backends.{EachLies}
use Rattle.vub_world.specs.Lives.{IsAttachedOn}
use Rattle.vub_run.specs.Run.{one_turn, is_due}
use Rattle.vub_run.specs.Turns.{turned}
use Rattle.vub_run_laws.proofs.RunOwn.{at_own, published_own}
use Rattle.vub_run_laws.proofs.RunDrains.{turned_stays}
use Rattle.vub_run_laws.proofs.RunTurns.{Good}
use Rattle.vub_run_laws.proofs.RunChainsTurns.{turn_driver}

-- ---- what the items of a turn leave of the outstanding requests

pub record Keeps (q : ℕ) (s s' : Scene) : Type 0 where
  pub heads_are : s'.heads q ≡ s.heads q
  pub collects : collected s'.past q ≡ collected s.past q
  pub asked_are : (k : ℕ) → asked s'.past q k ≡ asked s.past q k
  pub more : List ℕ
  pub shown : published s'.past q ≡ published s.past q ++ more

-- nothing is shown
abbrev Same : ℕ → Scene → Scene → Type 0
Same q s s' = (s'.heads q ≡ s.heads q) × (collected s'.past q ≡ collected s.past q) × ((k : ℕ) → asked s'.past q k ≡ asked s.past q k) × (published s'.past q ≡ published s.past q)

same_keeps : (q : ℕ) (s s' : Scene) → Same q s s' → Keeps q s s'
same_keeps q s s' x = record { heads_are = x.0; collects = x.1; asked_are = x.2; more = []; shown = x.3 ∙ sym (append-nil (published s.past q)) }

stores_same : (q : ℕ) (h : Header1) (tag : Tag) (stores : List Store) (s : Scene) → Same q s (after_items h (stored_items tag stores) s)
stores_same q h tag [] s = (refl, refl, λ k. refl, refl)
stores_same q h tag (st ∷ []) s = (refl, refl, λ k. refl, refl)
stores_same q h tag (st ∷ more ∷ stores) s = (refl, refl, λ k. refl, refl)

accepts_same : (q : ℕ) (h : Header1) (tag : Tag) (stores : List Store) (number : ℕ) (s : Scene) → Same q s (after_items h (stored_items tag stores ++ items.Made (entries.Accept q number) ∷ []) s)
accepts_same q h tag [] number s = (refl, refl, λ k. refl, refl)
accepts_same q h tag (st ∷ []) number s = (refl, refl, λ k. refl, refl)
accepts_same q h tag (st ∷ more ∷ stores) number s = (refl, refl, λ k. refl, refl)

shows_keeps : (q : ℕ) (h : Header1) (tag : Tag) (stores : List Store) (answers : List Answered) (s : Scene) → Keeps q s (after_items h (stored_items tag stores ++ items.Made (entries.Publish q answers) ∷ []) s)
shows_keeps q h tag [] answers s = record { heads_are = refl; collects = refl; asked_are = λ k. refl; more = numbers answers; shown = published_own s.past q answers }
shows_keeps q h tag (st ∷ []) answers s = record { heads_are = refl; collects = refl; asked_are = λ k. refl; more = numbers answers; shown = published_own s.past q answers }
shows_keeps q h tag (st ∷ next ∷ stores) answers s = record { heads_are = refl; collects = refl; asked_are = λ k. refl; more = numbers answers; shown = published_own s.past q answers }

noted_keeps : (q : ℕ) (h : Header1) (outstanding : OutstandingRequests) (v : Values) (stores : List Store) (answers : List Answered) (opens : List ℕ) (x : Stepped) (s : Scene) → Keeps q s (after_items h (noted q outstanding v stores answers opens x) s)
noted_keeps q h outstanding v stores answers opens (says.Stored tag) s = same_keeps q s _ (stores_same q h tag stores s)
noted_keeps q h outstanding v stores answers opens (says.Completed head) s = same_keeps q s _ (stores_same q h T5 stores s)
noted_keeps q h outstanding v stores answers opens says.Published s = shows_keeps q h SP5 stores answers s
noted_keeps q h outstanding v stores answers opens says.Started s = same_keeps q s _ (refl, refl, λ k. refl, refl)
noted_keeps q h outstanding v stores answers opens (says.Accepted head) s = same_keeps q s _ (accepts_same q h SF2 stores (number_at outstanding head) s)
noted_keeps q h outstanding v stores answers opens (says.Looked head sector) s = same_keeps q s _ (refl, refl, λ k. refl, refl)
noted_keeps q h outstanding v stores answers opens (says.Acted head sector) s = same_keeps q s _ (refl, refl, λ k. refl, refl)
noted_keeps q h outstanding v stores answers opens (says.Synced head) s = same_keeps q s _ (refl, refl, λ k. refl, refl)
noted_keeps q h outstanding v stores answers opens (says.Faulted head) s = same_keeps q s _ (refl, refl, λ k. refl, refl)
noted_keeps q h outstanding v stores answers opens says.Idle s = same_keeps q s _ (refl, refl, λ k. refl, refl)
noted_keeps q h outstanding v stores answers opens says.Belled s = same_keeps q s _ (refl, refl, λ k. refl, refl)
noted_keeps q h outstanding v stores answers opens says.SharedFault s = same_keeps q s _ (refl, refl, λ k. refl, refl)
noted_keeps q h outstanding v stores answers opens says.BellFault s = same_keeps q s _ (refl, refl, λ k. refl, refl)
noted_keeps q h outstanding v stores answers opens (says.Damaged fault) s = same_keeps q s _ (refl, refl, λ k. refl, refl)
noted_keeps q h outstanding v stores answers opens (says.Broken fault) s = same_keeps q s _ (refl, refl, λ k. refl, refl)

take_more : (xs ys : List ℕ) (n : ℕ) → n ≤ length xs → take n (xs ++ ys) ≡ take n xs
take_more [] ys n few = let none : n ≡ 0 = omega (arith, few) in ap (λ (j : ℕ). take j ys) none ∙ sym (ap (λ (j : ℕ). take {A = ℕ} j []) none)
take_more (x ∷ xs) ys zero few = refl
take_more (x ∷ xs) ys (suc n) few = ap (λ (l : List ℕ). x ∷ l) (take_more xs ys n (omega (arith, few)))

kept_slots : (q : ℕ) (size : ℕ) (s s' : Scene) (outstanding : OutstandingRequests) → Keeps q s s' → collected s.past q ≤ length (published s.past q) → OutstandingAt q size s.past (s.heads q) outstanding → OutstandingAt q size s'.past (s'.heads q) outstanding
kept_slots q size s s' outstanding k few at = record {
  offers_are = at.offers_are ∙ sym (ap (λ (l : List ℕ). length l) k.heads_are);
  collects_are = at.collects_are ∙ sym k.collects;
  places = at.places;
  slots = λ n low out.
      let first : take (collected s'.past q) (published s'.past q) ≡ take (collected s.past q) (published s.past q) =
      ap (λ (j : ℕ). take j (published s'.past q)) k.collects ∙ ap (λ (l : List ℕ). take (collected s.past q) l) k.shown ∙ take_more (published s.past q) k.more (collected s.past q) few in
      let low_too : n < length (s.heads q) = subst (λ (l : List ℕ). n < length l) k.heads_are low in
      let out_too : is_among (take (collected s.past q) (published s.past q)) n ≡ false = sym (ap (λ (l : List ℕ). is_among l n) first) ∙ out in
      ap (λ (l : List ℕ). slot_in outstanding (slice_index l n)) k.heads_are ∙ at.slots n low_too out_too ∙ ap (λ (o : Option Asked). record { number = n; reads = reads_of o }) (sym (k.asked_are n));
}

-- ---- the machine with other parts of its device

abbrev pub with_queue : QueueState → Option (Option QueueState)
with_queue queue = Some (Some queue)

abbrev pub with_device : Parts → WatchedShared → QueueState → MemDisk → Parts
with_device w memory queue disk = record w { memory = memory; life = with_queue queue; disk = disk }

-- the machine stood at a moment with this queue
pub record HasQueue (q : ℕ) (w : Parts) (m : Moment) (queue : QueueState) : Type 0 where
  pub good : Good q w.side.header m
  pub at : PartsAt q w m
  pub life_is : w.life ≡ with_queue queue

pub life_at : (q : ℕ) (w : Parts) (m : Moment) (queue : QueueState) → HasQueue q w m queue → LifeAt q w.side.header (setup_of w.side) m (with_queue queue)
life_at q w m queue has = subst (λ (l : Option (Option QueueState)). LifeAt q w.side.header (setup_of w.side) m l) has.life_is has.at.life

abbrev after_turn : ℕ → Parts → Turn → Moment → Moment
after_turn q w t m = (one_turn w.side.header q t m).next

-- after a turn that was made
made_at : (q : ℕ) (w : Parts) (m : Moment) (queue queue' : QueueState) (t : Turn) (memory : WatchedShared) (disk : MemDisk) (d : Device) (x : Stepped) → HasQueue q w m queue → TurnMade q w.side.header (setup_of w.side) m t w.side.outstanding d (device queue' memory disk) x
    → PartsAt q (with_device w memory queue' disk) (after_turn q w t m)
made_at q w m queue queue' t memory disk d x has made =
    let life = life_at q w m queue has in
    let keeps : Keeps q m.scene (after_turn q w t m).scene = subst (λ (is : List Item). Keeps q m.scene (after_items w.side.header is m.scene)) (sym made.items_are) (noted_keeps q w.side.header w.side.outstanding (values_of disk) (stores_in memory) (shown_of q w.side.outstanding d.memory d.queue) (numbers_of w.side.outstanding queue') x m.scene) in
    let own : (after_turn q w t m).lanes q ≡ (turned w.side.header q t m).lane = at_own m.lanes q (turned w.side.header q t m).lane in
    let driver : ((after_turn q w t m).lanes q).driver ≡ (m.lanes q).driver = ap (λ (l : Lane). l.driver) own ∙ turn_driver q w.side.header t m in
    record {
      side = record {
        memory = made.at.memory_is;
        driver = has.at.side.driver ∙ sym driver;
        asks = subst (λ (v : Driver). AskAt v.waiting w.side.asked) (sym driver) has.at.side.asks;
      };
      position = has.at.position ∙ ap (λ (n : ℕ). (w.side.header.base + n) % 65536) (sym keeps.collects);
      life = (life.0, (life.1.0, ap (λ (l : Lane). l.attached) own ∙ turned_stays q w.side.header t m ∙ life.1.1, made.at.stands));
      disk = made.at.disk;
      outstanding = kept_slots q w.side.header.size m.scene (after_turn q w t m).scene w.side.outstanding keeps has.good.holds.known.shown has.at.outstanding;
    }

-- after a turn in which nothing was made
idle_at : (q : ℕ) (w : Parts) (m : Moment) (queue queue' : QueueState) (memory : WatchedShared) (disk : MemDisk) → HasQueue q w m queue → DeviceAt q w.side.header (setup_of w.side) m (device queue' memory disk) → PartsAt q (with_device w memory queue' disk) m
idle_at q w m queue queue' memory disk has at =
    let life = life_at q w m queue has in
    record {
      side = record { memory = at.memory_is; driver = has.at.side.driver; asks = has.at.side.asks };
      position = has.at.position;
      life = (life.0, (life.1.0, life.1.1, at.stands));
      disk = at.disk;
      outstanding = has.at.outstanding;
    }

-- the device stands where its queue does
pub device_at : (q : ℕ) (w : Parts) (m : Moment) (queue : QueueState) (kept : WatchedShared) → HasQueue q w m queue → bytes_in kept ≡ bytes_in w.memory → DeviceAt q w.side.header (setup_of w.side) m (device queue kept w.disk)
device_at q w m queue kept has same = record { stands = (life_at q w m queue has).1.2; memory_is = same ∙ has.at.side.memory; disk = has.at.disk }

-- a turn of the device is one of the machine
pub turn_goes : (q : ℕ) (w : Parts) (m : Moment) (queue queue' : QueueState) (t : Turn) (kept memory : WatchedShared) (disk : MemDisk) (x : Stepped) → HasQueue q w m queue → bytes_in kept ≡ bytes_in w.memory
    → DeviceTurns q w.side.header (setup_of w.side) m t w.side.outstanding (device queue kept w.disk) (device queue' memory disk) x → TurnGoes q t w (with_device w memory queue' disk) m x
turn_goes q w m queue queue' t kept memory disk x has same does =
    let life = life_at q w m queue has in
    let d : Device = device queue kept w.disk in (
      λ due.
          let ready : is_ready (standing w.side.header q m) t ≡ true = grind (arith, nat_tests) in
          let made : TurnMade q w.side.header (setup_of w.side) m t w.side.outstanding d (device queue' memory disk) x = does.0 ready in
          let shown : shown_of q w.side.outstanding (bytes_in kept) queue ≡ answers_shown q w.side.outstanding (bytes_in w.memory) w.life =
          ap (λ (b : Bytes). shown_of q w.side.outstanding b queue) same ∙ sym (ap (answers_shown q w.side.outstanding (bytes_in w.memory)) has.life_is) in
          record {
            goes = made.goes;
            made = made.made;
            at = made_at q w m queue queue' t memory disk d x has made;
            items_are = made.items_are ∙ ap (λ (as_shown : List Answered). noted q w.side.outstanding (values_of disk) (stores_in memory) as_shown (numbers_of w.side.outstanding queue') x) shown;
            store = made.store;
            sector = made.sector;
            head = made.head;
            taken = made.taken;
            starts = λ is. (ap started_in has.life_is ∙ (made.starts is).0, (made.starts is).1);
          },
      λ late.
          let unready : is_ready (standing w.side.header q m) t ≡ false = ap (λ (b : Bool). b && is_ready (standing w.side.header q m) t) (sym life.1.1) ∙ late in
          let idle = does.1 unready in
          (idle.0, idle_at q w m queue queue' memory disk has idle.1),
    )

-- where no queue is attached, no turn is due
pub undue : (q : ℕ) (h : Header1) (t : Turn) (m : Moment) → (m.lanes q).attached ≡ false → is_due h q t m ≡ false
undue q h t m none = ap (λ (b : Bool). b && is_ready (standing h q m) t) none

abbrev pub has_no_queue : Option (Option QueueState) → Type 0
has_no_queue None = ⊤
has_no_queue (Some l) = l ≡ None

pub none_attached : (q : ℕ) (w : Parts) (m : Moment) → Good q w.side.header m → PartsAt q w m → has_no_queue w.life → (m.lanes q).attached ≡ false
none_attached q w m good at none = go w.life at.life none
  where
    with_queue_or : (queue : Option QueueState) → AttachedAt q w.side.header (setup_of w.side) m queue → queue ≡ None → (m.lanes q).attached ≡ false
    with_queue_or None at none = at.1
    with_queue_or (Some queue) at none = absurd (let fails : Some queue ≡ None = none in cc)

    go : (l : Option (Option QueueState)) → LifeAt q w.side.header (setup_of w.side) m l → has_no_queue l → (m.lanes q).attached ≡ false
    go None at none = (good.asleep at).0
    go (Some l) at none = with_queue_or l at.1 none

-- so the machine stands where it did
pub turn_rests : (q : ℕ) (w : Parts) (m : Moment) (t : Turn) (memory : WatchedShared) (disk : MemDisk) (x : Stepped) → PartsAt q w m → w.life ≡ Some None → x ≡ says.Idle → bytes_in memory ≡ bytes_in w.memory → values_of disk ≡ values_of w.disk → TurnGoes q t w (record w { memory = memory; life = Some None; disk = disk }) m x
turn_rests q w m t memory disk x at none idle bytes values =
    let life : LifeAt q w.side.header (setup_of w.side) m (Some None) = subst (λ (l : Option (Option QueueState)). LifeAt q w.side.header (setup_of w.side) m l) none at.life in
    let never : is_due w.side.header q t m ≡ false = undue q w.side.header t m life.1.1 in (
      λ due. absurd (let fails : true ≡ false = sym due ∙ never in cc),
      λ late. (
        idle,
        record {
          side = record { memory = bytes ∙ at.side.memory; driver = at.side.driver; asks = at.side.asks };
          position = at.position;
          life = life;
          disk = subst (λ (v : Values). DiskAt w.side.header.capacity m.scene.past v) (sym values) at.disk;
          outstanding = at.outstanding;
        },
      ),
    )

-- a queue is attached or isn't
pub attached_or : (o : Option QueueState) → ((s : QueueState) × (o ≡ Some s)) ⊎ (o ≡ None)
attached_or None = inr refl
attached_or (Some s) = inl (s, refl)

-- it stays on its rings
pub still_on : (setup : SplitSetup) (old new : Option QueueState) → (old ≡ None → new ≡ None) → ((s t : QueueState) → old ≡ Some s → new ≡ Some t → t.ring ≡ s.ring) → IsAttachedOn setup old → IsAttachedOn setup new
still_on setup old None rests rings on = tt
still_on setup None (Some t) rests rings on = absurd (let fails : Some t ≡ None = rests refl in cc)
still_on setup (Some s) (Some t) rests rings on = rings s t refl refl ∙ on

-- ---- the parts of a sound machine

-- the queues lie where memory is as it was
pub lie_still : (w kept : WatchedShared) (capacity : ℕ) (queues : List (Option QueueState)) → EachLies (watched.sizes_in w) capacity queues → memory_in kept ≡ memory_in w → EachLies (watched.sizes_in kept) capacity queues
lie_still w kept capacity queues lies same = subst (λ (x : MemShared). EachLies (sizes_of x) capacity queues) (sym same) lies

pub kept_room : (w : Parts) (kept : WatchedShared) → DriverSideSound w.memory w.side → memory_in kept ≡ memory_in w.memory → area_place w.side.index + 1048576 ≤ watched.sizes_in kept 0
kept_room w kept sound same = subst (λ (x : MemShared). area_place w.side.index + 1048576 ≤ sizes_of x 0) (sym same) sound.room

pub kept_bytes : (w : Parts) (kept : WatchedShared) → memory_in kept ≡ memory_in w.memory → bytes_in kept ≡ bytes_in w.memory
kept_bytes w kept same = ap (λ (x : MemShared). bytes_of x) same
