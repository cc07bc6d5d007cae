-- A turn of the device at a moment of a run: work on a request, and any turn.
use Rattle.std.proofs.Common.{◌≡◌, ◌<◌, ◌≤◌, ℕ, ◌+◌, true, false, List, [], ◌∷◌, refl, ap, sym, ◌∙◌, subst, inl, inr, arith}
use Rattle.std.specs.Prelude.{Option, Some, option_map, nat_lt}
use Rattle.vub_base.specs.declared.header.Header1.{Header1}
use Rattle.vub_base.specs.declared.store.Tag.{Tag}
use Rattle.vub_base.specs.declared.store.Tag.TheVariants.{T2, T5}
use Rattle.vub_shared.specs.Bytes.{Bytes}
use Rattle.vub_shared.specs.Stores.{Store, one_store}
use Rattle.vub_disk.specs.Values.{Values}
use Rattle.vub_steps.specs.declared.readiness.Standing.{Standing}
use Rattle.vub_steps.specs.declared.readiness.Turn.{Turn}
use Rattle.vub_steps.specs.declared.readiness.Turn.TheVariants as turns
use Rattle.vub_steps.specs.Readiness.{is_ready, chosen}
use Rattle.vub_steps.proofs.ReadinessLemmas.{any_works, drain_works}
use Rattle.vub_driver.specs.Layout.{area_place}
use Rattle.vub_device.specs.declared.entry.Asked.{Asked}
use Rattle.vub_device.specs.declared.entry.Entry.TheVariants as entries
use Rattle.vub_device.specs.Past.{accepted}
use Rattle.vub_world.specs.declared.outstanding.OutstandingRequests.{OutstandingRequests}
use Rattle.vub_world.specs.declared.outstanding.OutstandingRequest.{OutstandingRequest}
use Rattle.vub_report.specs.declared.items.Item.{Item}
use Rattle.vub_report.specs.declared.items.Item.TheVariants as items
use Rattle.vub_queue.specs.declared.queue.Stepped.{Stepped}
use Rattle.vub_queue.specs.declared.queue.Stepped.TheVariants as says
use Rattle.vub_steps.specs.declared.readiness.Choice.{Choice}
use Rattle.vub_steps.specs.declared.readiness.Choice.TheVariants as choices
use Rattle.vub_setup.specs.Setups.{SplitSetup}
use Rattle.vub_task.specs.declared.task.Task.{Task}
use Rattle.vub_world.specs.MachineDevice.{Device, DeviceAt, TurnMade, DeviceTurns, IsMade, StoreFits, SectorFits, HeadFits, noted, stored_items, shown_of, accepts, number_at, numbers_of}
use Rattle.vub_world.specs.MachineDriverSide.{OneSmall}
use Rattle.vub_run.specs.Memory.{after_items}
use Rattle.vub_run.specs.Moments.{Moment, standing}
use Rattle.vub_queue_in_run.specs.QueueAt.{QueueStands, DiskAt}
use Rattle.vub_queue.specs.QueueState.{QueueState, IsDue, IfStepped, WorksOut, due_store, sector_at, said, is_idle, is_fault, Rests}
use Rattle.vub_run.specs.Run.{one_turn}
use Rattle.vub_task.specs.TaskState.{Making, answer_in, answer_to, memory_after, values_after, with_maybe, head_in}
use Rattle.vub_steps.specs.Tasks.{RequestStep, Look, Act}
use Rattle.vub_run.specs.Turns.{turned}
use Rattle.vub_run_laws.proofs.RunFrames.{open_out}
use Rattle.vub_run_laws.proofs.RunGood.{IsOut}
use Rattle.vub_run_laws.proofs.RunQueue.{head_below}
use Rattle.vub_queue_in_run.proofs.WorkAt.{WorkReady, making, Kind, work_ready}
use Rattle.vub_queue_in_run.proofs.WorkAtItems.{Shows, ShowsStore, work_items, work_memory, work_disk, work_kind}
use Rattle.vub_queue_in_run.proofs.WorkAtStands.{work_stands}
use Rattle.vub_world.proofs.MachineTurns.{TurnAt, DeviceDoes, NoDiskFault, some_is, disk_same, start_made, fetch_made, publish_made, idle_made}

-- what a call made that failed nowhere
stepped_out : (x : Stepped) (P : Type 0) → is_fault x ≡ false → NoDiskFault x → IfStepped x P → P
stepped_out says.SharedFault P fine served p = absurd (let fails : true ≡ false = fine in cc)
stepped_out (says.Faulted head) P fine served p = absurd served
stepped_out says.Idle P fine served p = p
stepped_out (says.Stored tag) P fine served p = p
stepped_out (says.Accepted head) P fine served p = p
stepped_out (says.Looked head sector) P fine served p = p
stepped_out (says.Acted head sector) P fine served p = p
stepped_out (says.Synced head) P fine served p = p
stepped_out (says.Completed head) P fine served p = p
stepped_out says.Published P fine served p = p
stepped_out says.Started P fine served p = p
stepped_out says.Belled P fine served p = p
stepped_out says.BellFault P fine served p = p
stepped_out (says.Damaged fault) P fine served p = p
stepped_out (says.Broken fault) P fine served p = p

-- what a step of work says fits: a look leaves the disk's values, and each sector is on the disk
pub record SaysWell (cap : ℕ) (request : Asked) (step : RequestStep) (x : Stepped) : Type 0 where
  pub looks : (head sector : ℕ) (v : Values) → x ≡ says.Looked head sector → values_after request step v ≡ v
  pub sector : SectorFits cap x

says_well : (h : Header1) (head made : ℕ) (request : Asked) (step : RequestStep) → Kind h request made step → SaysWell h.capacity request step (said head (answer_to h request step))
says_well h head made request step (inl x) =
    subst (λ (s : RequestStep). SaysWell h.capacity request s (said head (answer_to h request s))) (sym x.next)
    (subst (λ (o : Asked). SaysWell h.capacity o (Look x.place) (said head (answer_to h o (Look x.place)))) (sym x.is)
    (record { looks = λ d t v e. refl; sector = omega (arith, x.within, x.wide.fits) }))
says_well h head made request step (inr (inl x)) =
    subst (λ (s : RequestStep). SaysWell h.capacity request s (said head (answer_to h request s))) (sym x.next)
    (record { looks = λ d t v e. refl; sector = tt })
says_well h head made request step (inr (inr (inl x))) =
    subst (λ (s : RequestStep). SaysWell h.capacity request s (said head (answer_to h request s))) (sym x.next)
    (subst (λ (o : Asked). SaysWell h.capacity o (Act x.place) (said head (answer_to h o (Act x.place)))) (sym x.is)
    (record { looks = λ d t v e. absurd (let fails : says.Acted head (x.sector + x.place) ≡ says.Looked d t = e in cc); sector = omega (arith, x.within, x.wide.fits) }))
says_well h head made request step (inr (inr (inr (inl x)))) =
    subst (λ (s : RequestStep). SaysWell h.capacity request s (said head (answer_to h request s))) (sym x.next)
    (record { looks = λ d t v e. refl; sector = tt })
says_well h head made request step (inr (inr (inr (inr x)))) =
    subst (λ (s : RequestStep). SaysWell h.capacity request s (said head (answer_to h request s))) (sym x.next)
    (record { looks = λ d t v e. refl; sector = tt })

-- what a turn of work notes
pub record NotesWork (q : ℕ) (h : Header1) (m : Moment) (t : Turn) (outstanding : OutstandingRequests) (d now : Device) (x : Stepped) : Type 0 where
  pub goes : is_idle x ≡ false
  pub made : IsMade x
  pub items_are : (one_turn h q t m).items ≡ noted q outstanding now.values now.stores (shown_of q outstanding d.memory d.queue) (numbers_of outstanding now.queue) x
  pub store : StoreFits x now.stores
  pub head : HeadFits h.size x
  pub none : accepts x ≡ 0
  pub same : accepted (one_turn h q t m).next.scene.past q ≡ accepted m.scene.past q
  pub never : x ≡ says.Started → ⊥

-- of one store
stores_noted : (q : ℕ) (h : Header1) (m : Moment) (t : Turn) (outstanding : OutstandingRequests) (d now : Device) (tag : Tag) (x : Stepped) (task : Task) (n : Making) → d.stores ≡ [] → Some now.stores ≡ option_map (with_maybe (due_store d.queue task n)) (Some d.stores)
    → ShowsStore tag d.queue task n (turned h q t m).items → is_idle x ≡ false → IsMade x → HeadFits h.size x → accepts x ≡ 0 → noted q outstanding now.values now.stores (shown_of q outstanding d.memory d.queue) (numbers_of outstanding now.queue) x ≡ stored_items tag now.stores → StoreFits x now.stores ≡ OneSmall now.stores → (x ≡ says.Started → ⊥)
    → NotesWork q h m t outstanding d now x
stores_noted q h m t outstanding d now tag x task n fresh trails shows goes made head none notes fits never =
    let st : Store = one_store 0 shows.place shows.bytes in
    let kept : now.stores ≡ st ∷ [] = some_is now.stores (with_maybe (due_store d.queue task n) d.stores) trails ∙ ap (λ (o : Option Store). with_maybe o d.stores) shows.due ∙ ap (λ (l : List Store). with_maybe (Some st) l) fresh in
    let small : OneSmall now.stores = subst (λ (l : List Store). OneSmall l) (sym kept) (record { space = refl; few = omega (arith, shows.few) }) in
    record {
      goes = goes;
      made = made;
      items_are = shows.items ∙ sym (ap (stored_items tag) kept) ∙ sym notes;
      store = subst (λ (T : Type 0). T) (sym fits) small;
      head = head;
      none = none;
      same = ap (λ (is : List Item). accepted (after_items h is m.scene).past q) shows.items;
      never = never;
    }

-- what is known of the step that is made
pub record Makes (size : ℕ) (outstanding : OutstandingRequests) (d now : Device) (k : ℕ) (task : Task) (n : Making) (x : Stepped) : Type 0 where
  pub fresh : d.stores ≡ []
  pub below : head_in task < size
  pub number : number_at outstanding (head_in task) ≡ k
  pub values_are : now.values ≡ values_after n.request n.step d.values
  pub trails : Some now.stores ≡ option_map (with_maybe (due_store d.queue task n)) (Some d.stores)
  pub looks : (head sector : ℕ) (v : Values) → x ≡ says.Looked head sector → values_after n.request n.step v ≡ v

work_noted : (q : ℕ) (h : Header1) (m : Moment) (t : Turn) (outstanding : OutstandingRequests) (d now : Device) (k : ℕ) (task : Task) (n : Making) (x : Stepped) → Makes h.size outstanding d now k task n x → Shows q d.values d.queue k task n (turned h q t m).items x → NotesWork q h m t outstanding d now x
work_noted q h m t outstanding d now k task n (says.Looked head sector) g shows =
    let values : now.values ≡ d.values = g.values_are ∙ g.looks head sector d.values refl in
    let number : number_at outstanding head ≡ k = ap (number_at outstanding) shows.0 ∙ g.number in
    record {
      goes = refl;
      made = tt;
      items_are = shows.1 ∙ ap (λ (j : ℕ). items.Made (entries.Look q j sector (d.values sector)) ∷ []) (sym number) ∙ ap (λ (v : Values). items.Made (entries.Look q (number_at outstanding head) sector (v sector)) ∷ []) (sym values);
      store = tt;
      head = omega (arith, shows.0, g.below);
      none = refl;
      same = ap (λ (is : List Item). accepted (after_items h is m.scene).past q) shows.1;
      never = λ is. cc is;
    }
work_noted q h m t outstanding d now k task n (says.Acted head sector) g shows =
    let number : number_at outstanding head ≡ k = ap (number_at outstanding) shows.0 ∙ g.number in
    record {
      goes = refl;
      made = tt;
      items_are = shows.1
          ∙ ap (λ (j : ℕ). items.Made (entries.Act q j sector (values_after n.request n.step d.values sector)) ∷ []) (sym number)
          ∙ ap (λ (v : Values). items.Made (entries.Act q (number_at outstanding head) sector (v sector)) ∷ []) (sym g.values_are);
      store = tt;
      head = omega (arith, shows.0, g.below);
      none = refl;
      same = ap (λ (is : List Item). accepted (after_items h is m.scene).past q) shows.1;
      never = λ is. cc is;
    }
work_noted q h m t outstanding d now k task n (says.Stored tag) g shows =
    stores_noted q h m t outstanding d now T2 (says.Stored tag) task n g.fresh g.trails shows.1 refl tt tt refl (ap (λ (y : Tag). stored_items y now.stores) shows.0) refl (λ is. cc is)
work_noted q h m t outstanding d now k task n (says.Completed head) g shows = stores_noted q h m t outstanding d now T5 (says.Completed head) task n g.fresh g.trails shows.1 refl tt tt refl refl refl (λ is. cc is)
work_noted q h m t outstanding d now k task n says.Idle g shows = absurd shows
work_noted q h m t outstanding d now k task n (says.Accepted head) g shows = absurd shows
work_noted q h m t outstanding d now k task n (says.Synced head) g shows =
    let number : number_at outstanding head ≡ k = ap (number_at outstanding) shows.0 ∙ g.number in
    record {
      goes = refl;
      made = tt;
      items_are = shows.1 ∙ ap (λ (j : ℕ). items.Made (entries.Sync q j) ∷ []) (sym number);
      store = tt;
      head = omega (arith, shows.0, g.below);
      none = refl;
      same = ap (λ (is : List Item). accepted (after_items h is m.scene).past q) shows.1;
      never = λ is. cc is;
    }
work_noted q h m t outstanding d now k task n (says.Faulted head) g shows = absurd shows
work_noted q h m t outstanding d now k task n says.Published g shows = absurd shows
work_noted q h m t outstanding d now k task n says.Started g shows = absurd shows
work_noted q h m t outstanding d now k task n says.Belled g shows = absurd shows
work_noted q h m t outstanding d now k task n says.BellFault g shows = absurd shows
work_noted q h m t outstanding d now k task n (says.Damaged fault) g shows = absurd shows
work_noted q h m t outstanding d now k task n says.SharedFault g shows = absurd shows
work_noted q h m t outstanding d now k task n (says.Broken fault) g shows = absurd shows

pub work_made : (q : ℕ) (h : Header1) (setup : SplitSetup) (m : Moment) (outstanding : OutstandingRequests) (sizes : ℕ → ℕ) (place : ℕ) (d now : Device) (x : Stepped) → TurnAt q h setup m outstanding d → area_place q + 1048576 ≤ sizes 0 → is_ready (standing h q m) (turns.Work place) ≡ true
    → DeviceDoes (turns.Work place) h.capacity sizes d now x → TurnMade q h setup m (turns.Work place) outstanding d now x
work_made q h setup m outstanding sizes place d now x a room ready does =
    let state : QueueState = d.queue in
    let w : WorkReady q h sizes m state place = work_ready q h m setup sizes state place a.plain a.good a.chained a.main room a.at.stands ready in
    let n : Making = making w in
    let due : IsDue h.capacity sizes state d.memory place w.task n = subst (λ (b : Bytes). IsDue h.capacity sizes state b place w.task n) (sym a.at.memory_is) w.due in
    let out : WorksOut place w.task n d.memory (Some now.memory) (Some d.stores) (Some now.stores) (Some d.values) (Some now.values) x state now.queue = stepped_out x _ does.fine does.served (does.made place w.task n refl due) in
    let kind = work_kind q h sizes m state place w a.plain a.good in
    let well : SaysWell h.capacity w.request w.step (said (head_in w.task) (answer_in n)) = says_well h (head_in w.task) ((m.lanes q).made w.k) w.request w.step kind in
    let well_too : SaysWell h.capacity w.request w.step x = subst (λ (y : Stepped). SaysWell h.capacity w.request w.step y) (sym out.says) well in
    let shows : Shows q d.values state w.k w.task n (turned h q (turns.Work place) m).items x =
    subst (λ (y : Stepped). Shows q d.values state w.k w.task n (turned h q (turns.Work place) m).items y) (sym out.says) (work_items q h sizes m setup state place d.values w a.plain a.good a.main a.at.stands a.at.disk) in
    let is_out : IsOut q m.scene.past (m.scene.heads q) w.k = open_out q h.size h.capacity m.scene.past (m.scene.heads q) w.k a.good.holds.known w.is_open in
    let below : head_in w.task < h.size = omega (arith, w.head, head_below q h m.scene (m.lanes q).driver (m.lanes q).bell (m.lanes q).plan (m.lanes q).counter (m.lanes q).batch (m.lanes q).phase w.k a.good.holds.queue is_out) in
    let number : number_at outstanding (head_in w.task) ≡ w.k = ap (number_at outstanding) w.head ∙ ap (λ (o : OutstandingRequest). o.number) (a.numbered.slots w.k is_out.below is_out.kept) in
    let values : now.values ≡ values_after w.request w.step d.values = some_is now.values (values_after w.request w.step d.values) out.values in
    let notes : NotesWork q h m (turns.Work place) outstanding d now x = work_noted q h m (turns.Work place) outstanding d now w.k w.task n x (record { fresh = a.fresh; below = below; number = number; values_are = values; trails = out.trails; looks = well_too.looks }) shows in
    let memory : now.memory ≡ memory_after state.ring n (sector_at state (head_in w.task)) m.scene.memory =
    some_is now.memory (memory_after state.ring n (sector_at state (head_in w.task)) d.memory) out.stores ∙ ap (memory_after state.ring n (sector_at state (head_in w.task))) a.at.memory_is in
    record {
      goes = notes.goes;
      made = notes.made;
      at = record {
        stands = work_stands q h sizes m setup state now.queue place d.values w a.plain a.good a.at.stands a.at.disk out.leaves;
        memory_is = memory ∙ sym (work_memory q h sizes m setup state place w a.plain a.good a.main a.at.stands);
        disk = subst (λ (v : Values). DiskAt h.capacity (one_turn h q (turns.Work place) m).next.scene.past v) (sym values) (work_disk q h sizes m state place d.values w a.plain a.good a.at.disk);
      };
      items_are = notes.items_are;
      store = notes.store;
      sector = well_too.sector;
      head = notes.head;
      taken = omega (arith, notes.none, notes.same);
      starts = λ is. absurd (notes.never is);
    }

-- ---- work that isn't ready

-- work that comes first is ready, so work that isn't was asked for
pub work_asked : (size : ℕ) (s : Standing) (choice : Choice) (place : ℕ) → chosen size choice s ≡ turns.Work place → is_ready s (turns.Work place) ≡ false → choice ≡ choices.Only (turns.Work place)
work_asked size s (choices.Only turn) place is unready = ap choices.Only is
work_asked size s choices.Any place is unready = absurd (let fails : true ≡ false = sym (any_works size place s is) ∙ unready in cc)
work_asked size s (choices.Drain accepted) place is unready = absurd (let fails : true ≡ false = sym (drain_works size place s (nat_lt accepted size) is) ∙ unready in cc)

-- nothing was made
abbrev pub RestsAt : Device → Device → Stepped → Type 0
RestsAt d now x = Rests (Some d.memory) (Some now.memory) (Some d.stores) (Some now.stores) (Some d.values) (Some now.values) x d.queue now.queue

rests_at : (q : ℕ) (h : Header1) (setup : SplitSetup) (m : Moment) (outstanding : OutstandingRequests) (d now : Device) (x : Stepped) → TurnAt q h setup m outstanding d → RestsAt d now x → (x ≡ says.Idle) × DeviceAt q h setup m now
rests_at q h setup m outstanding d now x a rests = (
  rests.idle,
  record {
    stands = subst (λ (state : QueueState). QueueStands q h setup m state) (sym rests.state) a.at.stands;
    memory_is = some_is now.memory d.memory rests.stores ∙ a.at.memory_is;
    disk = disk_same h.capacity m.scene.past d.values now.values (some_is now.values d.values rests.values) a.at.disk;
  },
)

-- ---- any turn

-- it is made where it is due, and else nothing is
pub device_turns : (q : ℕ) (h : Header1) (setup : SplitSetup) (m : Moment) (outstanding : OutstandingRequests) (sizes : ℕ → ℕ) (t : Turn) (d now : Device) (x : Stepped) → TurnAt q h setup m outstanding d → area_place q + 1048576 ≤ sizes 0
    → ((place : ℕ) → t ≡ turns.Work place → is_ready (standing h q m) (turns.Work place) ≡ false → RestsAt d now x) → DeviceDoes t h.capacity sizes d now x → DeviceTurns q h setup m t outstanding d now x
device_turns q h setup m outstanding sizes turns.Start d now x a room rests does = (λ ready. start_made q h setup m outstanding h.capacity sizes d now x a ready does, λ unready. idle_made q h setup m outstanding h.capacity sizes turns.Start d now x a tt unready does)
device_turns q h setup m outstanding sizes turns.Fetch d now x a room rests does = (λ ready. fetch_made q h setup m outstanding h.capacity sizes d now x a ready does, λ unready. idle_made q h setup m outstanding h.capacity sizes turns.Fetch d now x a tt unready does)
device_turns q h setup m outstanding sizes (turns.Publish most) d now x a room rests does =
    (λ ready. publish_made q h setup m outstanding h.capacity sizes most d now x a ready does, λ unready. idle_made q h setup m outstanding h.capacity sizes (turns.Publish most) d now x a tt unready does)
device_turns q h setup m outstanding sizes (turns.Work place) d now x a room rests does =
    (λ ready. work_made q h setup m outstanding sizes place d now x a room ready does, λ unready. rests_at q h setup m outstanding d now x a (rests place refl unready))
