-- Every schedule of the grammar has a run.
use Rattle.std.proofs.Common.{◌<◌, ◌≡◌, ◌≤◌, ℕ, zero, suc, Bool, true, false, cond, List, [], ◌∷◌, refl, ap, sym, subst, inl, inr, arith}
use Rattle.std.specs.List.{AllByRecursion}
use Rattle.vub_run_laws.proofs.RunQueues.{on_one, IsOn}
use Rattle.vub_base.specs.declared.header.Header1.{Header1}
use Rattle.vub_steps.specs.declared.readiness.Turn.{Turn}
use Rattle.vub_steps.specs.declared.readiness.Turn.TheVariants.{Start, Fetch, Work, Publish}
use Rattle.vub_device.specs.Past.{accepted}
use Rattle.vub_schedule.specs.declared.types.Event.{Event}
use Rattle.vub_schedule.specs.declared.types.Event.TheVariants as events
use Rattle.vub_schedule.specs.declared.types.Schedule.{Schedule}
use Rattle.vub_schedule.specs.Spelling.{IsHeader, IsEvent, IsSchedule}
use Rattle.vub_report.specs.declared.items.Item.{Item}
use Rattle.vub_report.specs.declared.items.Item.TheVariants as items
use Rattle.vub_report.specs.declared.items.Record.{Record}
use Rattle.vub_run.specs.Moments.{Moment, opening}
use Rattle.vub_run.specs.Run.{Played, played, ask, guest, collect, boot, join, kill, one_turn, is_due, then_played, turns, single, up_to, any_choice, drain_choice, Drains, Plays, RunFrom, Run}
use Rattle.vub_run_laws.proofs.RunTurns.{IsPlain, Good}
use Rattle.vub_run_laws.proofs.RunEvents.{turn_right}
use Rattle.vub_run_laws.proofs.RunEnds.{effort_at, turn_falls}
use Rattle.vub_run_laws.proofs.Runs.{plain_header}
use Rattle.vub_run_laws.proofs.RunsLegal.{some_queue, IsHeld, opening_held, held_next}

-- turns end
pub turns_end : (q fuel : ℕ) (choose : Moment → Turn) (h : Header1) (m : Moment) → IsPlain h → Good q h m → effort_at q h m ≤ fuel
    → (count : ℕ) × (is_due h q (choose (turns count choose h q m).next) (turns count choose h q m).next ≡ false)
turns_end q zero choose h m plain good small = go (is_due h q (choose m) m) refl
  where
    go : (b : Bool) → is_due h q (choose m) m ≡ b → (count : ℕ) × (is_due h q (choose (turns count choose h q m).next) (turns count choose h q m).next ≡ false)
    go false is = (0, is)
    go true is = absurd (omega (arith, turn_falls q h (choose m) m plain good is))
turns_end q (suc fuel) choose h m plain good small = go (is_due h q (choose m) m) refl (λ good' small'. turns_end q fuel choose h (one_turn h q (choose m) m).next plain good' small')
  where
    go : (b : Bool) → is_due h q (choose m) m ≡ b
        → (Good q h (one_turn h q (choose m) m).next → effort_at q h (one_turn h q (choose m) m).next ≤ fuel
        → (count : ℕ) × (is_due h q (choose (turns count choose h q (one_turn h q (choose m) m).next).next) (turns count choose h q (one_turn h q (choose m) m).next).next ≡ false))
        → (count : ℕ) × (is_due h q (choose (turns count choose h q m).next) (turns count choose h q m).next ≡ false)
    go false is rest = (0, is)
    go true is rest =
        let later = rest (turn_right q h (choose m) m plain good is).good (omega (arith, turn_falls q h (choose m) m plain good is)) in
        let whole : turns (suc later.0) choose h q m ≡ then_played (one_turn h q (choose m) m) (turns later.0 choose h q (one_turn h q (choose m) m).next) =
        ap (λ (b : Bool). cond {A = Played} b (then_played (one_turn h q (choose m) m) (turns later.0 choose h q (one_turn h q (choose m) m).next)) (played [] m)) is in
        (suc later.0, subst (λ (p : Played). is_due h q (choose p.next) p.next ≡ false) (sym whole) later.1)

-- what an event leads to
pub record Outcome (h : Header1) (m : Moment) (e : Event) : Type 0 where
  pub items : List Item
  pub next : Moment
  pub plays : Plays h m e items next

drain_plays : (q : ℕ) (h : Header1) (m : Moment) (choose : Moment → Turn) → IsPlain h → Good q h m → (is : List Item) × (next : Moment) × Drains h q m choose is next
drain_plays q h m choose plain good = go (is_due h q (choose m) m) refl
  where
    go : (b : Bool) → is_due h q (choose m) m ≡ b → (is : List Item) × (next : Moment) × Drains h q m choose is next
    go false is = (items.Idle ∷ [], m, inl (is, refl))
    go true is =
        let ends = turns_end q (effort_at q h m) choose h m plain good (omega arith) in
        ((turns ends.0 choose h q m).items, (turns ends.0 choose h q m).next, inr (is, record { count = ends.0; made = refl; ends = ends.1 }))

pub event_plays : (q : ℕ) (h : Header1) (m : Moment) (e : Event) → IsPlain h → Good q h m → IsOn q e → IsEvent h e → Outcome h m e
event_plays q h m (events.Ask p shape a) plain good on fits = record { items = (ask h p shape a m).items; next = (ask h p shape a m).next; plays = refl }
event_plays q h m (events.Guest p k) plain good on fits = record { items = (guest h p k m).items; next = (guest h p k m).next; plays = refl }
event_plays q h m (events.Collect p) plain good on fits = record { items = (collect h p m).items; next = (collect h p m).next; plays = refl }
event_plays q h m events.Boot plain good on fits = record { items = (boot m).items; next = (boot m).next; plays = refl }
event_plays q h m events.Join plain good on fits = record { items = (join m).items; next = (join m).next; plays = refl }
event_plays q h m (events.Start p) plain good on fits = record { items = (single h p Start m).items; next = (single h p Start m).next; plays = refl }
event_plays q h m (events.Fetch p) plain good on fits = record { items = (single h p Fetch m).items; next = (single h p Fetch m).next; plays = refl }
event_plays q h m (events.Work p place) plain good on fits = record { items = (single h p (Work place) m).items; next = (single h p (Work place) m).next; plays = refl }
event_plays q h m (events.Publish p most) plain good on fits = record { items = (single h p (Publish most) m).items; next = (single h p (Publish most) m).next; plays = refl }
event_plays q h m (events.Turn p count) plain good on fits = record { items = (up_to count (any_choice h p) h p m).items; next = (up_to count (any_choice h p) h p m).next; plays = refl }
event_plays q h m events.Kill plain good on fits = record { items = (kill h m).items; next = (kill h m).next; plays = refl }
event_plays q h m (events.Drain p) plain good on fits =
    let d = drain_plays q h m (drain_choice h q (accepted m.scene.past q)) plain good in
    record { items = d.0; next = d.1; plays = subst (λ (p : ℕ). Plays h m (events.Drain p) d.0 d.1) (sym on) d.2 }

pub run_from_some : (h : Header1) (m : Moment) (es : List Event) → IsHeader h → IsHeld h m → AllByRecursion (IsEvent h) es → (rs : List Record) × RunFrom h m es rs
run_from_some h m [] header held fits = ([], tt)
run_from_some h m (e ∷ es) header held fits =
    let low : 0 < h.queues = some_queue h header in
    let o : Outcome h m e = event_plays 0 h m e (plain_header h header) (held 0 low).good (on_one h 0 e header low fits.0) fits.0 in
    let rest = run_from_some h o.next es header (held_next h m e o.items o.next header held fits.0 o.plays) fits.1 in
    (record { event = e; items = o.items } ∷ rest.0, (refl, (o.next, o.plays, rest.1)))

-- every schedule of the grammar has a run
pub run_some : (s : Schedule) → IsSchedule s → (records : List Record) × Run s records
run_some s is = run_from_some s.header (opening s.header) s.events is.header (opening_held s.header is.header) is.events
