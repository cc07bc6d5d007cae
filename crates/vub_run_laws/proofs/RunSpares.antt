-- Every store of the device in a run spares the answers that are published and not collected.
use Rattle.std.proofs.Common.{◌≡◌, ◌≢◌, ◌≤◌, ◌<◌, ℕ, zero, suc, ◌+◌, ◌*◌, Bool, true, false, not, cond, List, [], ◌∷◌, ◌++◌, length, refl, sym, subst, inl, inr, arith}
use Rattle.std.specs.Prelude.{Option, Some, None, ◌&&◌, slice_get, slice_index, slice_range, is_some}
use Rattle.std.specs.List.{AllByRecursion}
use Rattle.vub_base.specs.declared.header.Header1.{Header1}
use Rattle.vub_base.specs.declared.request.Ask.{Ask}
use Rattle.vub_base.specs.declared.store.Tag.{Tag}
use Rattle.vub_base.specs.declared.store.Tag.TheVariants.{G, T2, T5}
use Rattle.vub_base.specs.declared.store.Area.TheVariants.{M}
use Rattle.vub_shared.specs.Stores.{Store}
use Rattle.vub_steps.specs.declared.steps.Step.{Step}
use Rattle.vub_steps.specs.declared.readiness.Turn.{Turn}
use Rattle.vub_steps.specs.declared.readiness.Turn.TheVariants as turns
use Rattle.vub_steps.specs.Steps.{next_step}
use Rattle.vub_steps.specs.Tasks.{RequestStep, Look, Put, Act, Sync, Status, task_steps, status_of}
use Rattle.vub_driver.specs.Drivers.{Waiting, can_take}
use Rattle.vub_driver.specs.Layout.{status_place, sectors_place}
use Rattle.vub_device.specs.declared.entry.Asked.{Asked}
use Rattle.vub_device.specs.declared.entry.SectorValue.{SectorValue}
use Rattle.vub_device.specs.Past.{asked, accepted, published, is_among, IsOpen, open_numbers, bytes_read}
use Rattle.vub_device.specs.Requests.{look_at, effect_at}
use Rattle.vub_schedule.specs.declared.types.Event.{Event}
use Rattle.vub_schedule.specs.declared.types.Event.TheVariants as events
use Rattle.vub_schedule.specs.Spelling.{IsHeader, IsEvent}
use Rattle.vub_device.specs.declared.entry.Entry.TheVariants as entries
use Rattle.vub_report.specs.declared.items.Item.{Item}
use Rattle.vub_report.specs.declared.items.Item.TheVariants as items
use Rattle.vub_report.specs.declared.items.Record.{Record}
use Rattle.vub_run.specs.Before.{BeforeEach}
use Rattle.vub_run.specs.Memory.{Scene, after_item, after_items}
use Rattle.vub_run.specs.Moments.{Lane, Moment, opening, fresh, attached, unfinished}
use Rattle.vub_run.specs.Run.{Played, played, if_ready, ask, guest_items, guest_stores, guest, take_first, collect, boot, join, one_turn, is_due, then_played, turns as many_turns, single, up_to, any_choice, drain_choice, Drains, Plays, RunFrom, kill, ended}
use Rattle.vub_run.specs.Spared.{IsSparing, SparedFrom, EveryAnswerIsSpared}
use Rattle.vub_run.specs.TaskItems.{look_items, act_items}
use Rattle.vub_run.specs.Turns.{course_of, turned, phase_turn, phase_goes_on, under_way, work_turn, request_turn, task_turn}
use Rattle.vub_facts.proofs.HeadLemmas.{among_get}
use Rattle.vub_run_laws.proofs.RunNumbers.{among_apart, among_filter, missing-among}
use Rattle.vub_run_laws.proofs.RunGood.{IsWide, IsOut, buffer, IsGood}
use Rattle.vub_run_laws.proofs.RunHolds.{Holds}
use Rattle.vub_run_laws.proofs.RunFrames.{open_out, other_buffer, off_spares}
use Rattle.vub_run_laws.proofs.RunItems.{before-append, before_every}
use Rattle.vub_run_laws.proofs.RunSteps.{put_few}
use Rattle.vub_run_laws.proofs.RunWork.{sector_few}
use Rattle.vub_run_laws.proofs.RunTurns.{IsPlain, Good}
use Rattle.vub_run_laws.proofs.RunEvents.{Right, turn_right}
use Rattle.vub_run_laws.proofs.Runs.{plain_header}
use Rattle.vub_run_laws.proofs.RunsLegal.{IsHeld, some_queue, opening_held, held_right, held_next}
use Rattle.vub_run_laws.proofs.RunQueues.{IsOn, on_one}
use Rattle.vub_run_laws.proofs.RunQueue.{heads_apart, queue_spares}

-- these items spare the answers of the queue, from a scene on
abbrev AreSparing : ℕ → Header1 → Scene → List Item → Type 0
AreSparing q h s is = BeforeEach h (IsSparing q) s is

-- ---- start, fetch and publication

phase_spares : (q : ℕ) (h : Header1) (s : Scene) (l : Lane) (o : Option Step) → IsGood h → AreSparing q h s (phase_turn h q s l o).items
phase_spares q h s l None good = tt
phase_spares q h s l (Some step) good = queue_spares q h l step s good.size

goes_spares : (q : ℕ) (h : Header1) (s : Scene) (l : Lane) → IsGood h → AreSparing q h s (phase_goes_on h q s l).items
goes_spares q h s l good = phase_spares q h s l (next_step (course_of h l) l.phase) good

-- ---- work

-- no request that is open is published: a store into its buffer is off those of the published ones
open_spares : (q : ℕ) (h : Header1) (s : Scene) (l : Lane) (k : ℕ) (tag : Tag) (p : ℕ) (bs : List ℕ) → Holds q h s l → IsOpen s.past q k → buffer q (s.heads q) k ≤ p → p + length bs ≤ buffer q (s.heads q) k + 8192 → IsSparing q s (items.Store tag M p bs)
open_spares q h s l k tag p bs x is_open from upto = off_spares q s tag p bs (λ j out.
    let out_j : IsOut q s.past (s.heads q) j = record { below = omega (arith, x.known.below j out.shown, x.known.offered); kept = out.kept } in
    let out_k : IsOut q s.past (s.heads q) k = open_out q h.size h.capacity s.past (s.heads q) k x.known is_open in
    let other : j ≢ k = among_apart (published s.past q) j k out.shown is_open.unpublished in
    other_buffer q (s.heads q) j (slice_index (s.heads q) k) p bs (λ same. other (heads_apart q h s l.driver l.bell l.plan l.counter l.batch l.phase j k x.queue out_j out_k same)) (omega arith) (omega arith))

look_spares : (q : ℕ) (h : Header1) (s : Scene) (k : ℕ) (o : Option ℕ) → AreSparing q h s (look_items q k s.past o)
look_spares q h s k None = tt
look_spares q h s k (Some sector) = (tt, tt)

act_spares : (q : ℕ) (h : Header1) (s : Scene) (k : ℕ) (o : Option SectorValue) → AreSparing q h s (act_items q k o)
act_spares q h s k None = tt
act_spares q h s k (Some x) = (tt, tt)

task_spares : (q : ℕ) (h : Header1) (s : Scene) (l : Lane) (k : ℕ) (r : Asked) (o : Option RequestStep) → Holds q h s l → IsOpen s.past q k → ((place : ℕ) → o ≡ Some (Put place) → place < 8) → AreSparing q h s (task_turn h q s l k r o).items
task_spares q h s l k r None x is_open few = tt
task_spares q h s l k r (Some (Look place)) x is_open few = look_spares q h s k (look_at r place)
task_spares q h s l k r (Some (Put place)) x is_open few =
    let within : place < 8 = few place refl in
    let bs : List ℕ = slice_range (bytes_read s.past q k) (512 * place) (512 * place + 512) in
    let short : length bs ≤ 512 = sector_few (bytes_read s.past q k) place in
    (open_spares q h s l k T2 (sectors_place (buffer q (s.heads q) k) + 512 * place) bs x is_open (omega arith) (omega arith), tt)
task_spares q h s l k r (Some (Act place)) x is_open few = act_spares q h s k (effect_at r place)
task_spares q h s l k r (Some Sync) x is_open few = (tt, tt)
task_spares q h s l k r (Some Status) x is_open few = (open_spares q h s l k T5 (status_place (buffer q (s.heads q) k)) (status_of h r ∷ []) x is_open (omega arith) (omega arith), tt)

request_spares : (q : ℕ) (h : Header1) (s : Scene) (l : Lane) (k : ℕ) → IsPlain h → Holds q h s l → IsOpen s.past q k → AreSparing q h s (request_turn h q s l k (asked s.past q k)).items
request_spares q h s l k plain x is_open = go (asked s.past q k) (x.known.wide k (omega (arith, is_open.taken, x.known.offered)))
  where
    go : (o : Option Asked) → IsWide h.capacity o → AreSparing q h s (request_turn h q s l k o).items
    go None wide = tt
    go (Some r) wide = task_spares q h s l k r (slice_get (task_steps h r) (l.made k)) x is_open (λ place is. put_few h r (l.made k) place plain.back wide is)

work_spares : (q : ℕ) (h : Header1) (m : Moment) (place : ℕ) → IsPlain h → Good q h m → AreSparing q h m.scene (turned h q (turns.Work place) m).items
work_spares q h m place plain good = go (slice_get (unfinished q m) place) refl
  where
    go : (o : Option ℕ) → slice_get (unfinished q m) place ≡ o → AreSparing q h m.scene (work_turn h q m.scene (m.lanes q) o).items
    go None is = tt
    go (Some k) is =
        let l : Lane = m.lanes q in
        let kept = among_filter (λ j. not (is_among (l.completed ++ l.batch) j)) (open_numbers m.scene.past q) k (among_get (unfinished q m) place k is) in
        let opened = missing-among (published m.scene.past q) (accepted m.scene.past q) k kept.0 in
        request_spares q h m.scene l k plain good.holds (record { taken = opened.0; unpublished = opened.1 })

-- ---- turns

turn_spares : (q : ℕ) (h : Header1) (t : Turn) (m : Moment) → IsPlain h → Good q h m → AreSparing q h m.scene (turned h q t m).items
turn_spares q h turns.Start m plain good = goes_spares q h m.scene (under_way h q m.scene turns.Start (m.lanes q)) plain.good
turn_spares q h turns.Fetch m plain good = goes_spares q h m.scene (under_way h q m.scene turns.Fetch (m.lanes q)) plain.good
turn_spares q h (turns.Publish most) m plain good = goes_spares q h m.scene (under_way h q m.scene (turns.Publish most) (m.lanes q)) plain.good
turn_spares q h (turns.Work place) m plain good = work_spares q h m place plain good

turns_spare : (q count : ℕ) (choose : Moment → Turn) (h : Header1) (m : Moment) → IsPlain h → Good q h m → AreSparing q h m.scene (many_turns count choose h q m).items
turns_spare q zero choose h m plain good = tt
turns_spare q (suc count) choose h m plain good = go (is_due h q (choose m) m) refl (λ good'. turns_spare q count choose h (one_turn h q (choose m) m).next plain good')
  where
    go : (b : Bool) → is_due h q (choose m) m ≡ b → (Good q h (one_turn h q (choose m) m).next → AreSparing q h (one_turn h q (choose m) m).next.scene (many_turns count choose h q (one_turn h q (choose m) m).next).items)
        → AreSparing q h m.scene (cond {A = Played} b (then_played (one_turn h q (choose m) m) (many_turns count choose h q (one_turn h q (choose m) m).next)) (played [] m)).items
    go true due rest =
        before-append h (IsSparing q) m.scene (one_turn h q (choose m) m).items (many_turns count choose h q (one_turn h q (choose m) m).next).items (turn_spares q h (choose m) m plain good) (rest (turn_right q h (choose m) m plain good due).good)
    go false due rest = tt

-- ---- the driver

guest_spares : (q : ℕ) (h : Header1) (count : ℕ) (a : Ask) (sts : List Store) (s : Scene) → AreSparing q h s (guest_items count q a sts)
guest_spares q h zero a sts s = tt
guest_spares q h (suc count) a [] s = tt
guest_spares q h (suc count) a (st ∷ []) s = (λ other. absurd (other refl), (tt, tt))
guest_spares q h (suc count) a (st ∷ st' ∷ sts) s = (λ other. absurd (other refl), guest_spares q h count a (st' ∷ sts) (after_item h (items.Store G M st.place st.bytes) s))

stores_spare : (q : ℕ) (h : Header1) (count : ℕ) (o : Option Waiting) (m : Moment) → AreSparing q h m.scene (guest_stores h q count o m).items
stores_spare q h count None m = tt
stores_spare q h count (Some w) m = guest_spares q h count w.ask w.left m.scene

taken_spares : (q : ℕ) (h : Header1) (xs : List (ℕ × ℕ)) (m : Moment) → AreSparing q h m.scene (take_first h q xs m).items
taken_spares q h [] m = (tt, tt)
taken_spares q h (x ∷ xs) m = (tt, tt)

-- ---- any event

tested : (q : ℕ) (h : Header1) (ready : Bool) (p : Played) (m : Moment) → AreSparing q h m.scene p.items → AreSparing q h m.scene (if_ready ready p m).items
tested q h true p m spares = spares
tested q h false p m spares = (tt, tt)

made_spares : (q : ℕ) (h : Header1) (m : Moment) (is : List Item) (next : Moment) (p : Played) → played is next ≡ p → AreSparing q h m.scene p.items → AreSparing q h m.scene is
made_spares q h m is next p e spares = subst (λ (x : Played). AreSparing q h m.scene x.items) (sym e) spares

single_spares : (q : ℕ) (h : Header1) (t : Turn) (m : Moment) → IsPlain h → Good q h m → AreSparing q h m.scene (single h q t m).items
single_spares q h t m plain good = tested q h (is_due h q t m) (one_turn h q t m) m (turn_spares q h t m plain good)

up_to_spares : (q count : ℕ) (choose : Moment → Turn) (h : Header1) (m : Moment) → IsPlain h → Good q h m → AreSparing q h m.scene (up_to count choose h q m).items
up_to_spares q count choose h m plain good = tested q h (is_due h q (choose m) m) (many_turns count choose h q m) m (turns_spare q count choose h m plain good)

drain_spares : (q : ℕ) (h : Header1) (m : Moment) (choose : Moment → Turn) (is : List Item) (next : Moment) → IsPlain h → Good q h m → Drains h q m choose is next → AreSparing q h m.scene is
drain_spares q h m choose is next plain good (inl none) = made_spares q h m is next (played (items.Idle ∷ []) m) none.1 (tt, tt)
drain_spares q h m choose is next plain good (inr some) = made_spares q h m is next (many_turns some.1.count choose h q m) some.1.made (turns_spare q some.1.count choose h m plain good)

event_spares : (q : ℕ) (h : Header1) (m : Moment) (e : Event) (is : List Item) (next : Moment) → IsPlain h → Good q h m → IsOn q e → Plays h m e is next → AreSparing q h m.scene is
event_spares q h m (events.Ask p shape a) is next plain good on plays =
    let here : Plays h m (events.Ask q shape a) is next = subst (λ (p : ℕ). Plays h m (events.Ask p shape a) is next) on plays in
    made_spares q h m is next (ask h q shape a m) here (tested q h (can_take h.size shape a (m.lanes q).driver) _ m tt)
event_spares q h m (events.Guest p count) is next plain good on plays =
    let here : Plays h m (events.Guest q count) is next = subst (λ (p : ℕ). Plays h m (events.Guest p count) is next) on plays in
    made_spares q h m is next (guest h q count m) here (tested q h (is_some (m.lanes q).driver.waiting) (guest_stores h q count (m.lanes q).driver.waiting m) m (stores_spare q h count (m.lanes q).driver.waiting m))
event_spares q h m (events.Collect p) is next plain good on plays =
    let here : Plays h m (events.Collect q) is next = subst (λ (p : ℕ). Plays h m (events.Collect p) is next) on plays in
    made_spares q h m is next (collect h q m) here (taken_spares q h _ m)
event_spares q h m events.Boot is next plain good on plays = made_spares q h m is next (boot m) plays (tested q h (not m.lives) (played [] (record m { lives = true; joined = false; lanes = λ q. fresh (m.lanes q) })) m tt)
event_spares q h m events.Join is next plain good on plays = made_spares q h m is next (join m) plays (tested q h (m.lives && not m.joined) (played [] (record m { joined = true; lanes = λ q. attached (m.lanes q) })) m tt)
event_spares q h m events.Kill is next plain good on plays = made_spares q h m is next (kill h m) plays (tested q h m.lives (played (items.Made entries.Kill ∷ []) (ended (record m { scene = after_items h (items.Made entries.Kill ∷ []) m.scene }))) m (tt, tt))
event_spares q h m (events.Start p) is next plain good on plays =
    let here : Plays h m (events.Start q) is next = subst (λ (p : ℕ). Plays h m (events.Start p) is next) on plays in
    made_spares q h m is next (single h q turns.Start m) here (single_spares q h turns.Start m plain good)
event_spares q h m (events.Fetch p) is next plain good on plays =
    let here : Plays h m (events.Fetch q) is next = subst (λ (p : ℕ). Plays h m (events.Fetch p) is next) on plays in
    made_spares q h m is next (single h q turns.Fetch m) here (single_spares q h turns.Fetch m plain good)
event_spares q h m (events.Work p place) is next plain good on plays =
    let here : Plays h m (events.Work q place) is next = subst (λ (p : ℕ). Plays h m (events.Work p place) is next) on plays in
    made_spares q h m is next (single h q (turns.Work place) m) here (single_spares q h (turns.Work place) m plain good)
event_spares q h m (events.Publish p most) is next plain good on plays =
    let here : Plays h m (events.Publish q most) is next = subst (λ (p : ℕ). Plays h m (events.Publish p most) is next) on plays in
    made_spares q h m is next (single h q (turns.Publish most) m) here (single_spares q h (turns.Publish most) m plain good)
event_spares q h m (events.Turn p count) is next plain good on plays =
    let here : Plays h m (events.Turn q count) is next = subst (λ (p : ℕ). Plays h m (events.Turn p count) is next) on plays in
    made_spares q h m is next (up_to count (any_choice h q) h q m) here (up_to_spares q count (any_choice h q) h m plain good)
event_spares q h m (events.Drain p) is next plain good on plays =
    let here : Plays h m (events.Drain q) is next = subst (λ (p : ℕ). Plays h m (events.Drain p) is next) on plays in
    drain_spares q h m (drain_choice h q (accepted m.scene.past q)) is next plain good here

-- ---- runs

spared_from : (h : Header1) (m : Moment) (es : List Event) (rs : List Record) → IsHeader h → IsHeld h m → AllByRecursion (IsEvent h) es → RunFrom h m es rs → SparedFrom h m.scene rs
spared_from h m [] [] header held fits run = tt
spared_from h m [] (r ∷ rs) header held fits run = absurd run
spared_from h m (e ∷ es) [] header held fits run = absurd run
spared_from h m (e ∷ es) (r ∷ rs) header held fits run =
    let next : Moment = run.1.0 in
    let right : Right 0 h m r.items next = held_right 0 h m e r.items next header (some_queue h header) held fits.0 run.1.1 in
    let rest : SparedFrom h next.scene rs = spared_from h next es rs header (held_next h m e r.items next header held fits.0 run.1.1) fits.1 run.1.2 in (
      before_every h IsSparing m.scene r.items (λ q low. event_spares q h m e r.items next (plain_header h header) (held q low).good (on_one h q e header low fits.0) run.1.1),
      subst (λ (s : Scene). SparedFrom h s rs) right.scene rest,
    )

pub run_spared : (h : Header1) (es : List Event) (rs : List Record) → IsHeader h → AllByRecursion (IsEvent h) es → RunFrom h (opening h) es rs → EveryAnswerIsSpared h rs
run_spared h es rs header fits run = spared_from h (opening h) es rs header (opening_held h header) fits run
