-- What a step of work shows, what it leaves of memory, and what it leaves of the disk.
use Rattle.std.proofs.Common.{◌≡◌, ◌≢◌, ◌≤◌, ◌<◌, ℕ, ◌+◌, ◌*◌, ◌/◌, List, [], ◌∷◌, ◌++◌, length, refl, ap, sym, ◌∙◌, subst, inl, inr, arith}
use Rattle.std.specs.Prelude.{Option, Some, None, ⊤, slice_range}
use Rattle.std.specs.List.{AllByRecursion}
use Rattle.std.proofs.lemmas.Bool.Decides.{nat_tests}
use Rattle.std.proofs.lemmas.Bool.{cases_eq}
use Rattle.vub_base.specs.declared.header.Header1.{Header1}
use Rattle.vub_base.specs.declared.store.Area.TheVariants.{M}
use Rattle.vub_base.specs.declared.store.Tag.{Tag}
use Rattle.vub_base.specs.declared.store.Tag.TheVariants.{T2, T5}
use Rattle.vub_shared.specs.Bytes.{Bytes}
use Rattle.vub_shared.specs.Stores.{one_store, after_store}
use Rattle.vub_disk.specs.Values.{Values}
use Rattle.vub_steps.specs.declared.readiness.Turn.{Turn}
use Rattle.vub_steps.specs.declared.readiness.Turn.TheVariants as turns
use Rattle.vub_steps.specs.declared.steps.Step.{Step}
use Rattle.vub_steps.specs.declared.steps.Step.TheVariants as steps
use Rattle.vub_steps.specs.Rows.{Row}
use Rattle.vub_steps.specs.Steps.{next_step}
use Rattle.vub_driver.specs.Layout.{status_place, sectors_place}
use Rattle.vub_device.specs.declared.entry.Asked.{Asked}
use Rattle.vub_device.specs.declared.entry.Asked.TheVariants as asks
use Rattle.vub_device.specs.declared.entry.Entry.TheVariants as entries
use Rattle.vub_device.specs.declared.entry.SectorValue.{SectorValue}
use Rattle.vub_device.specs.Crash.{value}
use Rattle.vub_device.specs.Past.{bytes_read}
use Rattle.vub_device.specs.Requests.{look_at, effect_at}
use Rattle.vub_queue.specs.declared.queue.Stepped.{Stepped}
use Rattle.vub_queue.specs.declared.queue.Stepped.TheVariants as says
use Rattle.vub_report.specs.declared.items.Item.{Item}
use Rattle.vub_report.specs.declared.items.Item.TheVariants as items
use Rattle.vub_split.specs.declared.split.SplitRing.{SplitRing}
use Rattle.vub_setup.specs.Setups.{SplitSetup}
use Rattle.vub_task.specs.declared.task.Task.{Task}
use Rattle.vub_driver.specs.GuestChain.{Links}
use Rattle.vub_run.specs.Memory.{Scene, after_item, after_items}
use Rattle.vub_run.specs.Moments.{Lane, Moment, buffer_of}
use Rattle.vub_queue.specs.QueueFacts.{hidden_part}
use Rattle.vub_queue_in_run.specs.QueueAt.{QueueStands, LiesAs, DiskAt, left_of}
use Rattle.vub_queue.specs.QueueState.{QueueState, said, sector_at, due_store}
use Rattle.vub_run.specs.Run.{one_turn}
use Rattle.vub_task.specs.TaskState.{Making, answer_in, memory_after, values_after, with_effect, head_in}
use Rattle.vub_steps.specs.Tasks.{RequestStep, Look, Put, Act, Status, status_of}
use Rattle.vub_run.specs.TaskItems.{task_items, look_items, act_items}
use Rattle.vub_run.specs.Turns.{course_of, Turned, turned, work_turn, request_turn, task_turn, phase_turn, under_way, step_stores, row_items, bell_items, entry_items}
use Rattle.vub_facts.proofs.HeadLemmas.{among_get}
use Rattle.vub_run_laws.proofs.RunGood.{IsWide, IsOut, IsPending}
use Rattle.vub_run_laws.proofs.RunFrames.{open_out}
use Rattle.vub_run_laws.proofs.RunSteps.{look_is, effect_is}
use Rattle.vub_run_laws.proofs.RunWork.{sector_few}
use Rattle.vub_run_laws.proofs.RunTurns.{IsPlain, Good}
use Rattle.vub_queue_in_run.proofs.WorkAt.{WorkReady, making, making_of, left_at, unfinished_open, unfinished_pending, Kind, kind_of}

-- ---- items

-- one store, which is the one that is due
pub record ShowsStore (tag : Tag) (state : QueueState) (task : Task) (n : Making) (is : List Item) : Type 0 where
  pub place : ℕ
  pub bytes : List ℕ
  pub few : length bytes ≤ 512
  pub due : due_store state task n ≡ Some (one_store 0 place bytes)
  pub items : is ≡ items.Store tag M place bytes ∷ []

-- the items of a step of the k-th request, by what the queue's turn says of it, where the disk's values were v
abbrev pub Shows : ℕ → Values → QueueState → ℕ → Task → Making → List Item → Stepped → Type 0
Shows q v state k task n is (says.Looked head sector) = (head ≡ (head_in task)) × (is ≡ items.Made (entries.Look q k sector (v sector)) ∷ [])
Shows q v state k task n is (says.Acted head sector) = (head ≡ (head_in task)) × (is ≡ items.Made (entries.Act q k sector (values_after n.request n.step v sector)) ∷ [])
Shows q v state k task n is (says.Synced head) = (head ≡ (head_in task)) × (is ≡ items.Made (entries.Sync q k) ∷ [])
Shows q v state k task n is (says.Stored tag) = (tag ≡ T2) × ShowsStore T2 state task n is
Shows q v state k task n is (says.Completed head) = (head ≡ (head_in task)) × ShowsStore T5 state task n is
Shows q v state k task n is x = ⊥

-- the turn is the row of the step that is due
pub work_turned : (q : ℕ) (h : Header1) (sizes : ℕ → ℕ) (m : Moment) (state : QueueState) (place : ℕ) (w : WorkReady q h sizes m state place)
    → turned h q (turns.Work place) m ≡ task_turn h q m.scene (m.lanes q) w.k w.request (Some w.step)
work_turned q h sizes m state place w =
    ap (work_turn h q m.scene (m.lanes q)) w.at
    ∙ ap (request_turn h q m.scene (m.lanes q) w.k) w.is
    ∙ ap (task_turn h q m.scene (m.lanes q) w.k w.request) w.due.next.next

-- it is of a kind
pub work_kind : (q : ℕ) (h : Header1) (sizes : ℕ → ℕ) (m : Moment) (state : QueueState) (place : ℕ) (w : WorkReady q h sizes m state place) → IsPlain h → Good q h m → Kind h w.request ((m.lanes q).made w.k) w.step
work_kind q h sizes m state place w plain good =
    let is_out : IsOut q m.scene.past (m.scene.heads q) w.k = open_out q h.size h.capacity m.scene.past (m.scene.heads q) w.k good.holds.known w.is_open in
    let where_open = unfinished_open q m place w.k w.at in
    let wide : IsWide h.capacity (Some w.request) = subst (λ (o : Option Asked). IsWide h.capacity o) w.is (good.holds.known.wide w.k is_out.below) in
    let pending : IsPending ((m.lanes q).made w.k) (Some w.request) = unfinished_pending q h m w.k w.request good where_open.0 where_open.1 w.is in
    kind_of h w.request ((m.lanes q).made w.k) w.step plain.back wide pending w.due.next.next

abbrev ShowsAt : ℕ → Header1 → Moment → QueueState → Values → ℕ → Task → Links → Asked → RequestStep → Type 0
ShowsAt q h m state v k task links request step =
    Shows q v state k task (making_of q h m k links request step) (task_items h q k (buffer_of q k m.scene) m.scene.past request step) (said (head_in task) (answer_in (making_of q h m k links request step)))

show_look : (q : ℕ) (h : Header1) (m : Moment) (state : QueueState) (v : Values) (k : ℕ) (task : Task) (links : Links) (sector c p : ℕ) → p < c → v (sector + p) ≡ value m.scene.past (sector + p) → ShowsAt q h m state v k task links (asks.Read sector c) (Look p)
show_look q h m state v k task links sector c p low held = (refl, ap (look_items q k m.scene.past) (look_is sector c p low) ∙ ap (λ (bs : List ℕ). items.Made (entries.Look q k (sector + p) bs) ∷ []) (sym held))

show_put : (q : ℕ) (h : Header1) (m : Moment) (state : QueueState) (v : Values) (k : ℕ) (task : Task) (links : Links) (sector c p : ℕ) → state.ring.desc.0.number ≡ 0 → sector_at state (head_in task) ≡ slice_range (bytes_read m.scene.past q k) (512 * p) (512 * p + 512)
    → ShowsAt q h m state v k task links (asks.Read sector c) (Put p)
show_put q h m state v k task links sector c p space held =
    let place : ℕ = sectors_place (buffer_of q k m.scene) + 512 * p in
    let bs : List ℕ = slice_range (bytes_read m.scene.past q k) (512 * p) (512 * p + 512) in (
      refl,
      record {
        place = place;
        bytes = bs;
        few = sector_few (bytes_read m.scene.past q k) p;
        due = ap (λ (t : ℕ). Some (one_store t place (sector_at state (head_in task)))) space ∙ ap (λ (xs : List ℕ). Some (one_store 0 place xs)) held;
        items = refl;
      },
    )

show_act : (q : ℕ) (h : Header1) (m : Moment) (state : QueueState) (v : Values) (k : ℕ) (task : Task) (links : Links) (sector p : ℕ) (bytes : List ℕ) → p < length bytes / 512 → ShowsAt q h m state v k task links (asks.Write sector bytes) (Act p)
show_act q h m state v k task links sector p bytes low =
    let bs : List ℕ = slice_range bytes (512 * p) (512 * p + 512) in
    let x : SectorValue = record { sector = sector + p; value = bs } in
    let effect : effect_at (asks.Write sector bytes) p ≡ Some x = effect_is sector bytes p low in
    let new : with_effect (Some x) v (sector + p) ≡ bs = grind (arith, nat_tests) in
    let now : with_effect (effect_at (asks.Write sector bytes) p) v (sector + p) ≡ bs = ap (λ (o : Option SectorValue). with_effect o v (sector + p)) effect ∙ new in
    (refl, ap (act_items q k) effect ∙ ap (λ (xs : List ℕ). items.Made (entries.Act q k (sector + p) xs) ∷ []) (sym now))

show_status : (q : ℕ) (h : Header1) (m : Moment) (state : QueueState) (v : Values) (k : ℕ) (task : Task) (links : Links) (request : Asked) → state.ring.desc.0.number ≡ 0 → ShowsAt q h m state v k task links request Status
show_status q h m state v k task links request space =
    let p : ℕ = status_place (buffer_of q k m.scene) in (
      refl,
      record {
        place = p;
        bytes = status_of h request ∷ [];
        few = omega arith;
        due = ap (λ (t : ℕ). Some (one_store t p (status_of h request ∷ []))) space;
        items = refl;
      },
    )

ring_space : (q : ℕ) (h : Header1) (m : Moment) (setup : SplitSetup) (state : QueueState) → LiesAs q setup h.size → QueueStands q h setup m state → state.ring.desc.0.number ≡ 0
ring_space q h m setup state main a = ap (λ (x : SplitRing). x.desc.0.number) a.at.ring ∙ main.desc_space

-- before its store, what was read stands in the queue
held_sector : (q : ℕ) (h : Header1) (sizes : ℕ → ℕ) (m : Moment) (setup : SplitSetup) (state : QueueState) (place p : ℕ) (w : WorkReady q h sizes m state place) → Good q h m → QueueStands q h setup m state → w.step ≡ Put p
    → sector_at state (head_in w.task) ≡ slice_range (bytes_read m.scene.past q w.k) (512 * p) (512 * p + 512)
held_sector q h sizes m setup state place p w good a put =
    ap (sector_at state) w.head ∙ a.at.sectors w.k p w.request (among_get (left_of q m.scene.past (m.lanes q).completed (hidden_part (m.lanes q).phase (m.lanes q).batch)) place w.k (left_at q h m place w.k good w.at)) w.is (w.due.next.next ∙ ap (λ (s : RequestStep). Some s) put)

show_step : (q : ℕ) (h : Header1) (sizes : ℕ → ℕ) (m : Moment) (setup : SplitSetup) (state : QueueState) (place : ℕ) (v : Values) (w : WorkReady q h sizes m state place) → Good q h m → LiesAs q setup h.size → QueueStands q h setup m state → DiskAt h.capacity m.scene.past v
    → Kind h w.request ((m.lanes q).made w.k) w.step → ShowsAt q h m state v w.k w.task w.links w.request w.step
show_step q h sizes m setup state place v w good main a disk (inl x) =
    subst (λ (s : RequestStep). ShowsAt q h m state v w.k w.task w.links w.request s) (sym x.next)
    (subst (λ (o : Asked). ShowsAt q h m state v w.k w.task w.links o (Look x.place)) (sym x.is) (show_look q h m state v w.k w.task w.links x.sector x.count x.place x.within (disk (x.sector + x.place) (omega (arith, x.within, x.wide.fits)))))
show_step q h sizes m setup state place v w good main a disk (inr (inl x)) =
    subst (λ (s : RequestStep). ShowsAt q h m state v w.k w.task w.links w.request s) (sym x.next)
    (subst (λ (o : Asked). ShowsAt q h m state v w.k w.task w.links o (Put x.place)) (sym x.is) (show_put q h m state v w.k w.task w.links x.sector x.count x.place (ring_space q h m setup state main a) (held_sector q h sizes m setup state place x.place w good a x.next)))
show_step q h sizes m setup state place v w good main a disk (inr (inr (inl x))) =
    subst (λ (s : RequestStep). ShowsAt q h m state v w.k w.task w.links w.request s) (sym x.next)
    (subst (λ (o : Asked). ShowsAt q h m state v w.k w.task w.links o (Act x.place)) (sym x.is) (show_act q h m state v w.k w.task w.links x.sector x.place x.bytes x.within))
show_step q h sizes m setup state place v w good main a disk (inr (inr (inr (inl x)))) = subst (λ (s : RequestStep). ShowsAt q h m state v w.k w.task w.links w.request s) (sym x.next) (refl, refl)
show_step q h sizes m setup state place v w good main a disk (inr (inr (inr (inr x)))) =
    subst (λ (s : RequestStep). ShowsAt q h m state v w.k w.task w.links w.request s) (sym x.next) (show_status q h m state v w.k w.task w.links w.request (ring_space q h m setup state main a))

-- what a turn of work shows, by what the queue says of it
pub work_items : (q : ℕ) (h : Header1) (sizes : ℕ → ℕ) (m : Moment) (setup : SplitSetup) (state : QueueState) (place : ℕ) (v : Values) (w : WorkReady q h sizes m state place) → IsPlain h → Good q h m → LiesAs q setup h.size → QueueStands q h setup m state → DiskAt h.capacity m.scene.past v
    → Shows q v state w.k w.task (making w) (turned h q (turns.Work place) m).items (said (head_in w.task) (answer_in (making w)))
work_items q h sizes m setup state place v w plain good main a disk =
    subst (λ (t : Turned). Shows q v state w.k w.task (making w) t.items (said (head_in w.task) (answer_in (making w)))) (sym (work_turned q h sizes m state place w))
    (show_step q h sizes m setup state place v w good main a disk (work_kind q h sizes m state place w plain good))

-- ---- memory

abbrev LeavesMemory : ℕ → Header1 → Moment → QueueState → ℕ → Task → Links → Asked → RequestStep → Type 0
LeavesMemory q h m state k task links request step =
    (after_items h (task_items h q k (buffer_of q k m.scene) m.scene.past request step) m.scene).memory ≡ memory_after state.ring (making_of q h m k links request step) (sector_at state (head_in task)) m.scene.memory

-- the memory after one store in guest memory
stored_memory : (state : QueueState) (mem : Bytes) (p : ℕ) (bs sector : List ℕ) → state.ring.desc.0.number ≡ 0 → sector ≡ bs → after_store (one_store 0 p bs) mem ≡ after_store (one_store state.ring.desc.0.number p sector) mem
stored_memory state mem p bs sector space held = ap (λ (t : ℕ). after_store (one_store t p bs) mem) (sym space) ∙ ap (λ (xs : List ℕ). after_store (one_store state.ring.desc.0.number p xs) mem) (sym held)

acts_memory : (q : ℕ) (h : Header1) (k : ℕ) (s : Scene) (o : Option SectorValue) → (after_items h (act_items q k o) s).memory ≡ s.memory
acts_memory q h k s None = refl
acts_memory q h k s (Some x) = refl

looks_memory : (q : ℕ) (h : Header1) (k : ℕ) (s : Scene) (o : Option ℕ) → (after_items h (look_items q k s.past o) s).memory ≡ s.memory
looks_memory q h k s None = refl
looks_memory q h k s (Some x) = refl

memory_step : (q : ℕ) (h : Header1) (sizes : ℕ → ℕ) (m : Moment) (setup : SplitSetup) (state : QueueState) (place : ℕ) (w : WorkReady q h sizes m state place) → Good q h m → LiesAs q setup h.size → QueueStands q h setup m state
    → Kind h w.request ((m.lanes q).made w.k) w.step → LeavesMemory q h m state w.k w.task w.links w.request w.step
memory_step q h sizes m setup state place w good main a (inl x) =
    subst (λ (s : RequestStep). LeavesMemory q h m state w.k w.task w.links w.request s) (sym x.next) (looks_memory q h w.k m.scene (look_at w.request x.place))
memory_step q h sizes m setup state place w good main a (inr (inl x)) =
    subst (λ (s : RequestStep). LeavesMemory q h m state w.k w.task w.links w.request s) (sym x.next)
    (subst (λ (o : Asked). LeavesMemory q h m state w.k w.task w.links o (Put x.place)) (sym x.is)
    (stored_memory state m.scene.memory (sectors_place (buffer_of q w.k m.scene) + 512 * x.place) (slice_range (bytes_read m.scene.past q w.k) (512 * x.place) (512 * x.place + 512)) (sector_at state (head_in w.task)) (ring_space q h m setup state main a) (held_sector q h sizes m setup state place x.place w good a x.next)))
memory_step q h sizes m setup state place w good main a (inr (inr (inl x))) =
    subst (λ (s : RequestStep). LeavesMemory q h m state w.k w.task w.links w.request s) (sym x.next) (acts_memory q h w.k m.scene (effect_at w.request x.place))
memory_step q h sizes m setup state place w good main a (inr (inr (inr (inl x)))) = subst (λ (s : RequestStep). LeavesMemory q h m state w.k w.task w.links w.request s) (sym x.next) refl
memory_step q h sizes m setup state place w good main a (inr (inr (inr (inr x)))) =
    subst (λ (s : RequestStep). LeavesMemory q h m state w.k w.task w.links w.request s) (sym x.next)
    (stored_memory state m.scene.memory (status_place (buffer_of q w.k m.scene)) (status_of h w.request ∷ []) (status_of h w.request ∷ []) (ring_space q h m setup state main a) refl)

-- a turn of work leaves memory as the step that is due
pub work_memory : (q : ℕ) (h : Header1) (sizes : ℕ → ℕ) (m : Moment) (setup : SplitSetup) (state : QueueState) (place : ℕ) (w : WorkReady q h sizes m state place) → IsPlain h → Good q h m → LiesAs q setup h.size → QueueStands q h setup m state
    → (one_turn h q (turns.Work place) m).next.scene.memory ≡ memory_after state.ring (making w) (sector_at state (head_in w.task)) m.scene.memory
work_memory q h sizes m setup state place w plain good main a =
    ap (λ (t : Turned). (after_items h t.items m.scene).memory) (work_turned q h sizes m state place w)
    ∙ memory_step q h sizes m setup state place w good main a (work_kind q h sizes m state place w plain good)

-- ---- the disk

abbrev LeavesDisk : ℕ → Header1 → Moment → Values → ℕ → Asked → RequestStep → Type 0
LeavesDisk q h m v k request step = DiskAt h.capacity (after_items h (task_items h q k (buffer_of q k m.scene) m.scene.past request step) m.scene).past (values_after request step v)

-- an act changes its sector
disk_act : (q cap : ℕ) (h : Header1) (k : ℕ) (s : Scene) (v : Values) (o : Option SectorValue) → DiskAt cap s.past v → DiskAt cap (after_items h (act_items q k o) s).past (with_effect o v)
disk_act q cap h k s v None disk = disk
disk_act q cap h k s v (Some x) disk = λ t low.
    let old : v t ≡ value s.past t = disk t low in
    elim (cases_eq t x.sector) [
      | inl same ↦ let turned : x.sector ≡ t = sym same in grind (arith, nat_tests)
      | inr apart ↦ let turned : x.sector ≢ t = λ e. apart (sym e) in grind (arith, nat_tests)
    ]

disk_look : (q cap : ℕ) (h : Header1) (k : ℕ) (s : Scene) (v : Values) (o : Option ℕ) → DiskAt cap s.past v → DiskAt cap (after_items h (look_items q k s.past o) s).past v
disk_look q cap h k s v None disk = disk
disk_look q cap h k s v (Some x) disk = λ t low. disk t low

disk_step : (q : ℕ) (h : Header1) (m : Moment) (v : Values) (k made : ℕ) (request : Asked) (step : RequestStep) → DiskAt h.capacity m.scene.past v → Kind h request made step → LeavesDisk q h m v k request step
disk_step q h m v k made request step disk (inl x) = subst (λ (s : RequestStep). LeavesDisk q h m v k request s) (sym x.next) (disk_look q h.capacity h k m.scene v (look_at request x.place) disk)
disk_step q h m v k made request step disk (inr (inl x)) = subst (λ (s : RequestStep). LeavesDisk q h m v k request s) (sym x.next) (λ t low. disk t low)
disk_step q h m v k made request step disk (inr (inr (inl x))) = subst (λ (s : RequestStep). LeavesDisk q h m v k request s) (sym x.next) (disk_act q h.capacity h k m.scene v (effect_at request x.place) disk)
disk_step q h m v k made request step disk (inr (inr (inr (inl x)))) = subst (λ (s : RequestStep). LeavesDisk q h m v k request s) (sym x.next) (λ t low. disk t low)
disk_step q h m v k made request step disk (inr (inr (inr (inr x)))) = subst (λ (s : RequestStep). LeavesDisk q h m v k request s) (sym x.next) (λ t low. disk t low)

-- a turn of work changes the disk as the step that is due
pub work_disk : (q : ℕ) (h : Header1) (sizes : ℕ → ℕ) (m : Moment) (state : QueueState) (place : ℕ) (v : Values) (w : WorkReady q h sizes m state place) → IsPlain h → Good q h m → DiskAt h.capacity m.scene.past v
    → DiskAt h.capacity (one_turn h q (turns.Work place) m).next.scene.past (values_after (making w).request (making w).step v)
work_disk q h sizes m state place v w plain good disk =
    subst (λ (t : Turned). DiskAt h.capacity (after_items h t.items m.scene).past (values_after w.request w.step v)) (sym (work_turned q h sizes m state place w))
    (disk_step q h m v w.k ((m.lanes q).made w.k) w.request w.step disk (work_kind q h sizes m state place w plain good))

-- an item that changes no sector
abbrev IsQuiet : Header1 → Item → Type 0
IsQuiet h i = (s : Scene) (x : ℕ) → value (after_item h i s).past x ≡ value s.past x

quiet_items : (h : Header1) (is : List Item) (s : Scene) (x : ℕ) → AllByRecursion (IsQuiet h) is → value (after_items h is s).past x ≡ value s.past x
quiet_items h [] s x all = refl
quiet_items h (i ∷ is) s x all = quiet_items h is (after_item h i s) x all.1 ∙ all.0 s x

quiet_append : (h : Header1) (is js : List Item) → AllByRecursion (IsQuiet h) is → AllByRecursion (IsQuiet h) js → AllByRecursion (IsQuiet h) (is ++ js)
quiet_append h [] js all rest = rest
quiet_append h (i ∷ is) js all rest = (all.0, quiet_append h is js all.1 rest)

quiet_row : (h : Header1) (o : Option Row) → AllByRecursion (IsQuiet h) (row_items o)
quiet_row h None = tt
quiet_row h (Some x) = (λ s t. refl, tt)

quiet_bell : (q : ℕ) (h : Header1) (step : Step) → AllByRecursion (IsQuiet h) (bell_items q step)
quiet_bell q h steps.Bell = (λ s t. refl, tt)
quiet_bell q h steps.Features = tt
quiet_bell q h (steps.Free i) = tt
quiet_bell q h steps.Open = tt
quiet_bell q h (steps.Settle place) = tt
quiet_bell q h steps.SettleEnd = tt
quiet_bell q h steps.Start = tt
quiet_bell q h steps.Count = tt
quiet_bell q h steps.Accept = tt
quiet_bell q h (steps.Id e) = tt
quiet_bell q h (steps.Len e) = tt
quiet_bell q h (steps.Link e) = tt
quiet_bell q h (steps.Head e) = tt
quiet_bell q h steps.Index = tt
quiet_bell q h (steps.Clear e) = tt
quiet_bell q h steps.Note = tt

quiet_entry : (q : ℕ) (h : Header1) (batch : List ℕ) (step : Step) (s : Scene) → AllByRecursion (IsQuiet h) (entry_items q batch step s)
quiet_entry q h batch steps.Start s = (λ t x. refl, tt)
quiet_entry q h batch steps.Accept s = (λ t x. refl, tt)
quiet_entry q h batch steps.Index s = (λ t x. refl, tt)
quiet_entry q h batch steps.Features s = tt
quiet_entry q h batch (steps.Free i) s = tt
quiet_entry q h batch steps.Open s = tt
quiet_entry q h batch (steps.Settle place) s = tt
quiet_entry q h batch steps.SettleEnd s = tt
quiet_entry q h batch steps.Bell s = tt
quiet_entry q h batch steps.Count s = tt
quiet_entry q h batch (steps.Id e) s = tt
quiet_entry q h batch (steps.Len e) s = tt
quiet_entry q h batch (steps.Link e) s = tt
quiet_entry q h batch (steps.Head e) s = tt
quiet_entry q h batch (steps.Clear e) s = tt
quiet_entry q h batch steps.Note s = tt

phase_quiet : (q : ℕ) (h : Header1) (s : Scene) (l : Lane) (o : Option Step) → AllByRecursion (IsQuiet h) (phase_turn h q s l o).items
phase_quiet q h s l None = tt
phase_quiet q h s l (Some step) =
    quiet_append h (step_stores h q l step s) (entry_items q l.batch step (after_items h (step_stores h q l step s) s)) (quiet_append h _ (bell_items q step) (quiet_row h _) (quiet_bell q h step)) (quiet_entry q h l.batch step _)

-- it isn't a turn of work
abbrev pub IsNoWork : Turn → Type 0
IsNoWork (turns.Work place) = ⊥
IsNoWork t = ⊤

turn_quiet : (q : ℕ) (h : Header1) (m : Moment) (t : Turn) → IsNoWork t → AllByRecursion (IsQuiet h) (turned h q t m).items
turn_quiet q h m turns.Start none = phase_quiet q h m.scene (under_way h q m.scene turns.Start (m.lanes q)) (next_step (course_of h (under_way h q m.scene turns.Start (m.lanes q))) (under_way h q m.scene turns.Start (m.lanes q)).phase)
turn_quiet q h m turns.Fetch none = phase_quiet q h m.scene (under_way h q m.scene turns.Fetch (m.lanes q)) (next_step (course_of h (under_way h q m.scene turns.Fetch (m.lanes q))) (under_way h q m.scene turns.Fetch (m.lanes q)).phase)
turn_quiet q h m (turns.Publish most) none = phase_quiet q h m.scene (under_way h q m.scene (turns.Publish most) (m.lanes q)) (next_step (course_of h (under_way h q m.scene (turns.Publish most) (m.lanes q))) (under_way h q m.scene (turns.Publish most) (m.lanes q)).phase)
turn_quiet q h m (turns.Work place) none = absurd none

-- any other turn leaves the disk
pub turn_disk : (q : ℕ) (h : Header1) (m : Moment) (t : Turn) (v : Values) → IsNoWork t → DiskAt h.capacity m.scene.past v → DiskAt h.capacity (one_turn h q t m).next.scene.past v
turn_disk q h m t v none disk = λ s low. disk s low ∙ sym (quiet_items h (turned h q t m).items m.scene s (turn_quiet q h m t none))
