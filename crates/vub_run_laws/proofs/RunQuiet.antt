-- All items of a run but the driver's stores and offers: they leave the descriptors that history keeps.
use Rattle.std.proofs.Common.{◌≡◌, ℕ, zero, suc, Bool, true, false, not, cond, List, [], ◌∷◌, refl, sym, ◌∙◌, subst, inl, inr}
use Rattle.std.specs.Prelude.{Option, Some, None, ◌&&◌, slice_get, ⊤}
use Rattle.vub_base.specs.declared.header.Header1.{Header1}
use Rattle.vub_steps.specs.declared.steps.Step.{Step}
use Rattle.vub_steps.specs.declared.readiness.Turn.{Turn}
use Rattle.vub_steps.specs.declared.readiness.Turn.TheVariants as turns
use Rattle.vub_steps.specs.Steps.{next_step}
use Rattle.vub_steps.specs.Tasks.{RequestStep, Look, Put, Act, Sync, Status, task_steps}
use Rattle.vub_driver.specs.Drivers.{can_take}
use Rattle.vub_device.specs.declared.entry.Asked.{Asked}
use Rattle.vub_device.specs.declared.entry.Entry.{Entry}
use Rattle.vub_device.specs.declared.entry.SectorValue.{SectorValue}
use Rattle.vub_device.specs.Past.{asked, accepted}
use Rattle.vub_device.specs.Requests.{look_at, effect_at}
use Rattle.vub_schedule.specs.declared.types.Event.{Event}
use Rattle.vub_schedule.specs.declared.types.Event.TheVariants as events
use Rattle.vub_device.specs.declared.entry.Entry.TheVariants as entries
use Rattle.vub_report.specs.declared.items.Item.{Item}
use Rattle.vub_report.specs.declared.items.Item.TheVariants as items
use Rattle.vub_run.specs.Before.{BeforeEach}
use Rattle.vub_run.specs.Lawful.{IsLawfulItem}
use Rattle.vub_run.specs.Memory.{Scene, after_item, after_items}
use Rattle.vub_run.specs.Moments.{Lane, Moment, fresh, attached, unfinished}
use Rattle.vub_run.specs.Run.{Played, played, if_ready, ask, take_first, collect, boot, join, one_turn, is_due, then_played, turns as many_turns, single, up_to, any_choice, drain_choice, Drains, Plays, kill, ended}
use Rattle.vub_run.specs.TaskItems.{look_items, act_items}
use Rattle.vub_run.specs.Turns.{course_of, turned, phase_turn, phase_goes_on, under_way, work_turn, request_turn, task_turn}
use Rattle.vub_run_laws.proofs.RunChainsMade.{all_append}
use Rattle.vub_run_laws.proofs.RunItems.{IsQuiet, AreQuiet}
use Rattle.vub_run_laws.proofs.RunQueue.{queue_quiet}

pub quiet_lawful : (h : Header1) (e : Event) (s : Scene) (is : List Item) → AreQuiet h is → BeforeEach h (IsLawfulItem h e) s is
quiet_lawful h e s [] all = tt
quiet_lawful h e s (i ∷ is) all = (all.0.lawful e s, quiet_lawful h e (after_item h i s) is all.1)

pub quiet_kept : (h : Header1) (s : Scene) (is : List Item) → AreQuiet h is → (after_items h is s).descriptors ≡ s.descriptors
quiet_kept h s [] all = refl
quiet_kept h s (i ∷ is) all = quiet_kept h (after_item h i s) is all.1 ∙ all.0.kept s

-- ---- the device

phase_quiet : (q : ℕ) (h : Header1) (s : Scene) (l : Lane) (o : Option Step) → AreQuiet h (phase_turn h q s l o).items
phase_quiet q h s l None = tt
phase_quiet q h s l (Some step) = queue_quiet q h l step s

look_quiet : (q : ℕ) (h : Header1) (k : ℕ) (past : List Entry) (o : Option ℕ) → AreQuiet h (look_items q k past o)
look_quiet q h k past None = tt
look_quiet q h k past (Some s) = (record { lawful = λ e x. tt; kept = λ x. refl }, tt)

act_quiet : (q : ℕ) (h : Header1) (k : ℕ) (o : Option SectorValue) → AreQuiet h (act_items q k o)
act_quiet q h k None = tt
act_quiet q h k (Some x) = (record { lawful = λ e s. tt; kept = λ s. refl }, tt)

task_quiet : (q : ℕ) (h : Header1) (s : Scene) (l : Lane) (k : ℕ) (r : Asked) (o : Option RequestStep) → AreQuiet h (task_turn h q s l k r o).items
task_quiet q h s l k r None = tt
task_quiet q h s l k r (Some (Look place)) = look_quiet q h k s.past (look_at r place)
task_quiet q h s l k r (Some (Put place)) = (record { lawful = λ e x. tt; kept = λ x. refl }, tt)
task_quiet q h s l k r (Some (Act place)) = act_quiet q h k (effect_at r place)
task_quiet q h s l k r (Some Sync) = (record { lawful = λ e x. tt; kept = λ x. refl }, tt)
task_quiet q h s l k r (Some Status) = (record { lawful = λ e x. tt; kept = λ x. refl }, tt)

request_quiet : (q : ℕ) (h : Header1) (s : Scene) (l : Lane) (k : ℕ) (o : Option Asked) → AreQuiet h (request_turn h q s l k o).items
request_quiet q h s l k None = tt
request_quiet q h s l k (Some r) = task_quiet q h s l k r (slice_get (task_steps h r) (l.made k))

work_quiet : (q : ℕ) (h : Header1) (s : Scene) (l : Lane) (o : Option ℕ) → AreQuiet h (work_turn h q s l o).items
work_quiet q h s l None = tt
work_quiet q h s l (Some k) = request_quiet q h s l k (asked s.past q k)

goes_quiet : (q : ℕ) (h : Header1) (s : Scene) (l : Lane) → AreQuiet h (phase_goes_on h q s l).items
goes_quiet q h s l = phase_quiet q h s l (next_step (course_of h l) l.phase)

pub turned_quiet : (q : ℕ) (h : Header1) (t : Turn) (m : Moment) → AreQuiet h (turned h q t m).items
turned_quiet q h turns.Start m = goes_quiet q h m.scene (under_way h q m.scene turns.Start (m.lanes q))
turned_quiet q h turns.Fetch m = goes_quiet q h m.scene (under_way h q m.scene turns.Fetch (m.lanes q))
turned_quiet q h (turns.Publish most) m = goes_quiet q h m.scene (under_way h q m.scene (turns.Publish most) (m.lanes q))
turned_quiet q h (turns.Work place) m = work_quiet q h m.scene (m.lanes q) (slice_get (unfinished q m) place)

turns_quiet : (q count : ℕ) (choose : Moment → Turn) (h : Header1) (m : Moment) → AreQuiet h (many_turns count choose h q m).items
turns_quiet q zero choose h m = tt
turns_quiet q (suc count) choose h m = go (is_due h q (choose m) m) (turns_quiet q count choose h (one_turn h q (choose m) m).next)
  where
    go : (b : Bool) → AreQuiet h (many_turns count choose h q (one_turn h q (choose m) m).next).items
        → AreQuiet h (cond {A = Played} b (then_played (one_turn h q (choose m) m) (many_turns count choose h q (one_turn h q (choose m) m).next)) (played [] m)).items
    go true rest = all_append (IsQuiet h) (one_turn h q (choose m) m).items (many_turns count choose h q (one_turn h q (choose m) m).next).items (turned_quiet q h (choose m) m) rest
    go false rest = tt

-- ---- any event but the driver's stores

idle_quiet : (h : Header1) → AreQuiet h (items.Idle ∷ [])
idle_quiet h = (record { lawful = λ e s. tt; kept = λ s. refl }, tt)

tested : (h : Header1) (ready : Bool) (p : Played) (m : Moment) → AreQuiet h p.items → AreQuiet h (if_ready ready p m).items
tested h true p m quiet = quiet
tested h false p m quiet = idle_quiet h

made_quiet : (h : Header1) (is : List Item) (next : Moment) (p : Played) → played is next ≡ p → AreQuiet h p.items → AreQuiet h is
made_quiet h is next p e quiet = subst (λ (x : Played). AreQuiet h x.items) (sym e) quiet

taken_quiet : (q : ℕ) (h : Header1) (xs : List (ℕ × ℕ)) (m : Moment) → AreQuiet h (take_first h q xs m).items
taken_quiet q h [] m = idle_quiet h
taken_quiet q h (x ∷ xs) m = (record { lawful = λ e s. tt; kept = λ s. refl }, tt)

drain_quiet : (q : ℕ) (h : Header1) (m : Moment) (choose : Moment → Turn) (is : List Item) (next : Moment) → Drains h q m choose is next → AreQuiet h is
drain_quiet q h m choose is next (inl none) = made_quiet h is next (played (items.Idle ∷ []) m) none.1 (idle_quiet h)
drain_quiet q h m choose is next (inr some) = made_quiet h is next (many_turns some.1.count choose h q m) some.1.made (turns_quiet q some.1.count choose h m)

single_quiet : (q : ℕ) (h : Header1) (t : Turn) (m : Moment) → AreQuiet h (single h q t m).items
single_quiet q h t m = tested h (is_due h q t m) (one_turn h q t m) m (turned_quiet q h t m)

boot_quiet : (h : Header1) (m : Moment) → AreQuiet h (boot m).items
boot_quiet h m = tested h (not m.lives) (played [] (record m { lives = true; joined = false; lanes = λ q. fresh (m.lanes q) })) m tt

join_quiet : (h : Header1) (m : Moment) → AreQuiet h (join m).items
join_quiet h m = tested h (m.lives && not m.joined) (played [] (record m { joined = true; lanes = λ q. attached (m.lanes q) })) m tt

kill_quiet : (h : Header1) (m : Moment) → AreQuiet h (kill h m).items
kill_quiet h m = tested h m.lives (played (items.Made entries.Kill ∷ []) (ended (record m { scene = after_items h (items.Made entries.Kill ∷ []) m.scene }))) m (record { lawful = λ e s. tt; kept = λ s. refl }, tt)

-- the event is one of the driver's stores
abbrev pub IsGuest : Event → Type 0
IsGuest (events.Guest q count) = ⊤
IsGuest e = ⊥

pub event_quiet : (h : Header1) (m : Moment) (e : Event) (is : List Item) (next : Moment) → (IsGuest e → ⊥) → Plays h m e is next → AreQuiet h is
event_quiet h m (events.Ask q shape a) is next other plays = made_quiet h is next (ask h q shape a m) plays (tested h (can_take h.size shape a (m.lanes q).driver) _ m tt)
event_quiet h m (events.Guest q k) is next other plays = absurd (other tt)
event_quiet h m (events.Collect q) is next other plays = made_quiet h is next (collect h q m) plays (taken_quiet q h _ m)
event_quiet h m events.Boot is next other plays = made_quiet h is next (boot m) plays (boot_quiet h m)
event_quiet h m events.Join is next other plays = made_quiet h is next (join m) plays (join_quiet h m)
event_quiet h m events.Kill is next other plays = made_quiet h is next (kill h m) plays (kill_quiet h m)
event_quiet h m (events.Start q) is next other plays = made_quiet h is next (single h q turns.Start m) plays (single_quiet q h turns.Start m)
event_quiet h m (events.Fetch q) is next other plays = made_quiet h is next (single h q turns.Fetch m) plays (single_quiet q h turns.Fetch m)
event_quiet h m (events.Work q place) is next other plays = made_quiet h is next (single h q (turns.Work place) m) plays (single_quiet q h (turns.Work place) m)
event_quiet h m (events.Publish q most) is next other plays = made_quiet h is next (single h q (turns.Publish most) m) plays (single_quiet q h (turns.Publish most) m)
event_quiet h m (events.Turn q count) is next other plays =
    made_quiet h is next (up_to count (any_choice h q) h q m) plays (tested h (is_due h q (any_choice h q m) m) (many_turns count (any_choice h q) h q m) m (turns_quiet q count (any_choice h q) h m))
event_quiet h m (events.Drain q) is next other plays = drain_quiet q h m (drain_choice h q (accepted m.scene.past q)) is next plays
