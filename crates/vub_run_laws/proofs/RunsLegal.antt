-- Every run of a schedule is a legal history, and memory tracks it.
use Rattle.std.proofs.Common.{◌≡◌, ◌<◌, ℕ, List, [], ◌∷◌, ap, ◌∙◌, subst, arith}
use Rattle.std.specs.List.{AllByRecursion}
use Rattle.vub_base.specs.declared.header.Header1.{Header1}
use Rattle.vub_device.specs.declared.entry.Entry.{Entry}
use Rattle.vub_device.specs.Legal.{LegalFrom, after}
use Rattle.vub_schedule.specs.declared.types.Event.{Event}
use Rattle.vub_schedule.specs.Spelling.{IsHeader, IsEvent}
use Rattle.vub_report.specs.declared.items.Item.{Item}
use Rattle.vub_report.specs.declared.items.Record.{Record}
use Rattle.vub_run.specs.Memory.{Scene}
use Rattle.vub_run.specs.Moments.{Moment, opening}
use Rattle.vub_run.specs.Run.{Plays, RunFrom}
use Rattle.vub_run.specs.Tracking.{TracksFrom}
use Rattle.vub_report.specs.Histories.{entries_of, history_of}
use Rattle.vub_run_laws.proofs.RunTurns.{IsPlain, Good}
use Rattle.vub_run_laws.proofs.RunItems.{legal-append, past_after}
use Rattle.vub_run_laws.proofs.RunEvents.{Right, event_right}
use Rattle.vub_run_laws.proofs.RunChainsEvents.{ChainedAt, chained_entry, event_chained, opening_chained}
use Rattle.vub_run_laws.proofs.Runs.{opening_good, plain_header}
use Rattle.vub_run_laws.proofs.RunQueues.{on_one}
use Rattle.vub_run_laws.proofs.RunTracks.{each_every}

-- what holds of a queue at a moment of a run
pub record HoldsOf (q : ℕ) (h : Header1) (m : Moment) : Type 0 where
  pub good : Good q h m
  pub chained : ChainedAt q h m

-- what holds at every moment of a run
abbrev pub IsHeld : Header1 → Moment → Type 0
IsHeld h m = (q : ℕ) → q < h.queues → HoldsOf q h m

pub opening_held : (h : Header1) → IsHeader h → IsHeld h (opening h)
opening_held h is q low = record { good = opening_good q h (plain_header h is) low; chained = opening_chained q h }

-- where all that holds does, an event is right
pub held_right : (q : ℕ) (h : Header1) (m : Moment) (e : Event) (is : List Item) (next : Moment) → IsHeader h → q < h.queues → IsHeld h m → IsEvent h e → Plays h m e is next → Right q h m is next
held_right q h m e is next header low held fits plays =
    let plain : IsPlain h = plain_header h header in
    let here : HoldsOf q h m = held q low in
    event_right q h m e is next plain here.good (chained_entry q h m plain here.good here.chained) (on_one h q e header low fits) fits plays

-- and it holds after it
pub held_next : (h : Header1) (m : Moment) (e : Event) (is : List Item) (next : Moment) → IsHeader h → IsHeld h m → IsEvent h e → Plays h m e is next → IsHeld h next
held_next h m e is next header held fits plays q low = record {
  good = (held_right q h m e is next header low held fits plays).good;
  chained = event_chained q h m e is next (plain_header h header) header.few (omega (arith, low, header.one)) (held q low).good (held q low).chained (on_one h q e header low fits) fits plays;
}

-- the past after the items of an event
pub right_past : (q : ℕ) (h : Header1) (m : Moment) (is : List Item) (next : Moment) → Right q h m is next → next.scene.past ≡ after m.scene.past (entries_of is)
right_past q h m is next right = ap (λ (s : Scene). s.past) right.scene ∙ past_after h is m.scene

-- there is a queue
pub some_queue : (h : Header1) → IsHeader h → 0 < h.queues
some_queue h header = omega (arith, header.one)

-- from a moment on: legal, and tracked after each item with its entry
pub run_from : (h : Header1) (m : Moment) (es : List Event) (rs : List Record) → IsHeader h → IsHeld h m → AllByRecursion (IsEvent h) es → RunFrom h m es rs
    → LegalFrom h.capacity h.mode m.scene.past (history_of rs) × TracksFrom h m.scene rs
run_from h m [] [] header held fits run = (tt, tt)
run_from h m [] (r ∷ rs) header held fits run = absurd run
run_from h m (e ∷ es) [] header held fits run = absurd run
run_from h m (e ∷ es) (r ∷ rs) header held fits run =
    let next : Moment = run.1.0 in
    let of_queue : (q : ℕ) → q < h.queues → Right q h m r.items next = λ q low. held_right q h m e r.items next header low held fits.0 run.1.1 in
    let right : Right 0 h m r.items next = of_queue 0 (some_queue h header) in
    let rest = run_from h next es rs header (held_next h m e r.items next header held fits.0 run.1.1) fits.1 run.1.2 in (
      legal-append h.capacity h.mode m.scene.past (entries_of r.items) (history_of rs) right.legal (subst (λ (p : List Entry). LegalFrom h.capacity h.mode p (history_of rs)) (right_past 0 h m r.items next right) rest.0),
      (each_every h m.scene r.items (λ q low. (of_queue q low).each), subst (λ (s : Scene). TracksFrom h s rs) right.scene rest.1),
    )
