-- Runs with the moment to which they lead.
use Rattle.std.proofs.Common.{◌≢◌, ◌≡◌, ◌≤◌, ◌<◌, ℕ, ◌+◌, true, List, [], ◌∷◌, ◌++◌, length, refl, ap, sym, ◌∙◌, subst, arith}
use Rattle.std.specs.List.{AllByRecursion}
use Rattle.vub_base.specs.declared.header.Header1.{Header1}
use Rattle.vub_steps.specs.declared.readiness.Turn.{Turn}
use Rattle.vub_device.specs.declared.entry.Entry.{Entry}
use Rattle.vub_device.specs.Legal.{LegalFrom, after}
use Rattle.vub_device.specs.Past.{accepted, offers, open_numbers}
use Rattle.vub_schedule.specs.declared.types.Event.{Event}
use Rattle.vub_schedule.specs.declared.types.Event.TheVariants as events
use Rattle.vub_schedule.specs.Spelling.{IsEvent, IsHeader}
use Rattle.vub_report.specs.declared.items.Item.{Item}
use Rattle.vub_report.specs.declared.items.Record.{Record}
use Rattle.vub_run.specs.LegalRuns.{past_of}
use Rattle.vub_run.specs.Moments.{Moment, opening}
use Rattle.vub_run_laws.proofs.RunEntries.{event_offers, run_offers}
use Rattle.vub_run.specs.Run.{turns, Plays, RunFrom, RunTo, Stands}
use Rattle.vub_run.specs.Tracking.{TracksFrom, reading_of}
use Rattle.vub_report.specs.Histories.{entries_of, history_of}
use Rattle.vub_run_laws.proofs.RunTurns.{Good}
use Rattle.vub_run_laws.proofs.RunEvents.{Right}
use Rattle.vub_run_laws.proofs.RunChainsEvents.{ChainedAt, turns_chained}
use Rattle.vub_run_laws.proofs.RunDrains.{drained}
use Rattle.vub_run_laws.proofs.Runs.{plain_header}
use Rattle.vub_run_laws.proofs.RunsLegal.{IsHeld, opening_held, held_right, held_next, right_past, some_queue, run_from}
use Rattle.vub_steps.specs.Readiness.{last_counter}
use Rattle.vub_base.specs.declared.reading.Reading.TheVariants.{Damaged}
use Rattle.vub_base.specs.declared.reading.RegionFault.{RegionFault}
use Rattle.vub_run_laws.proofs.RunGuests.{holds_track}

pub run_of : (h : Header1) (m : Moment) (es : List Event) (rs : List Record) (n : Moment) → RunTo h m es rs n → RunFrom h m es rs
run_of h m [] [] n run = tt
run_of h m [] (r ∷ rs) n run = absurd run
run_of h m (e ∷ es) [] n run = absurd run
run_of h m (e ∷ es) (r ∷ rs) n run = (run.0, (run.1.0, run.1.1, run_of h run.1.0 es rs n run.1.2))

-- one more event and its record
pub run_more : (h : Header1) (m : Moment) (es : List Event) (rs : List Record) (n : Moment) (e : Event) (r : Record) (k : Moment) → RunTo h m es rs n → r.event ≡ e → Plays h n e r.items k → RunTo h m (es ++ e ∷ []) (rs ++ r ∷ []) k
run_more h m [] [] n e r k run is plays = (is, (k, subst (λ (x : Moment). Plays h x e r.items k) run plays, refl))
run_more h m [] (x ∷ rs) n e r k run is plays = absurd run
run_more h m (y ∷ es) [] n e r k run is plays = absurd run
run_more h m (y ∷ es) (x ∷ rs) n e r k run is plays = (run.0, (run.1.0, run.1.1, run_more h run.1.0 es rs n e r k run.1.2 is plays))

-- what holds at its end
pub run_held : (h : Header1) (m : Moment) (es : List Event) (rs : List Record) (n : Moment) → IsHeader h → IsHeld h m → AllByRecursion (IsEvent h) es → RunTo h m es rs n → IsHeld h n
run_held h m [] [] n header held fits run = subst (λ (x : Moment). IsHeld h x) (sym run) held
run_held h m [] (r ∷ rs) n header held fits run = absurd run
run_held h m (e ∷ es) [] n header held fits run = absurd run
run_held h m (e ∷ es) (r ∷ rs) n header held fits run = run_held h run.1.0 es rs n header (held_next h m e r.items run.1.0 header held fits.0 run.1.1) fits.1 run.1.2

after-append : (past es fs : List Entry) → after past (es ++ fs) ≡ after (after past es) fs
after-append past [] fs = refl
after-append past (e ∷ es) fs = after-append (e ∷ past) es fs

-- its entries are those of the records
run_past : (h : Header1) (m : Moment) (es : List Event) (rs : List Record) (n : Moment) → IsHeader h → IsHeld h m → AllByRecursion (IsEvent h) es → RunTo h m es rs n → n.scene.past ≡ after m.scene.past (history_of rs)
run_past h m [] [] n header held fits run = ap (λ (x : Moment). x.scene.past) run
run_past h m [] (r ∷ rs) n header held fits run = absurd run
run_past h m (e ∷ es) [] n header held fits run = absurd run
run_past h m (e ∷ es) (r ∷ rs) n header held fits run =
    let right : Right 0 h m r.items run.1.0 = held_right 0 h m e r.items run.1.0 header (some_queue h header) held fits.0 run.1.1 in
    let rest : n.scene.past ≡ after run.1.0.scene.past (history_of rs) = run_past h run.1.0 es rs n header (held_next h m e r.items run.1.0 header held fits.0 run.1.1) fits.1 run.1.2 in
    rest ∙ ap (λ (p : List Entry). after p (history_of rs)) (right_past 0 h m r.items run.1.0 right) ∙ sym (after-append m.scene.past (entries_of r.items) (history_of rs))

pub stands_none : (h : Header1) → IsHeader h → Stands h [] [] (opening h)
stands_none h is = record { header = is; events = tt; run = refl }

more_events : (h : Header1) (es : List Event) (e : Event) → AllByRecursion (IsEvent h) es → IsEvent h e → AllByRecursion (IsEvent h) (es ++ e ∷ [])
more_events h [] e all is = (is, tt)
more_events h (x ∷ es) e all is = (all.0, more_events h es e all.1 is)

pub stands_more : (h : Header1) (es : List Event) (rs : List Record) (n k : Moment) (e : Event) (r : Record) → Stands h es rs n → IsEvent h e → r.event ≡ e → Plays h n e r.items k → Stands h (es ++ e ∷ []) (rs ++ r ∷ []) k
stands_more h es rs n k e r s fits is plays = record {
  header = s.header;
  events = more_events h es e s.events fits;
  run = run_more h (opening h) es rs n e r k s.run is plays;
}

-- all that holds where it leads
pub stands_held : (h : Header1) (es : List Event) (rs : List Record) (n : Moment) → Stands h es rs n → IsHeld h n
stands_held h es rs n s = run_held h (opening h) es rs n s.header (opening_held h s.header) s.events s.run

pub stands_good : (q : ℕ) (h : Header1) (es : List Event) (rs : List Record) (n : Moment) → q < h.queues → Stands h es rs n → Good q h n
stands_good q h es rs n low s = (stands_held h es rs n s q low).good

-- the chain of each request that is offered and not collected stands in memory
pub stands_chained : (q : ℕ) (h : Header1) (es : List Event) (rs : List Record) (n : Moment) → q < h.queues → Stands h es rs n → ChainedAt q h n
stands_chained q h es rs n low s = (stands_held h es rs n s q low).chained

-- also after any number of turns from there on, as in the middle of a drain
pub stands_turns : (q : ℕ) (h : Header1) (es : List Event) (rs : List Record) (n : Moment) (count : ℕ) (choose : Moment → Turn) → q < h.queues → Stands h es rs n → Good q h (turns count choose h q n).next × ChainedAt q h (turns count choose h q n).next
stands_turns q h es rs n count choose low s = turns_chained q count choose h n (plain_header h s.header) (stands_good q h es rs n low s) (stands_chained q h es rs n low s)

-- no in-flight region is damaged
pub stands_undamaged : (q : ℕ) (h : Header1) (es : List Event) (rs : List Record) (n : Moment) (fault : RegionFault) → q < h.queues → Stands h es rs n → reading_of h q n.scene ≢ Damaged fault
stands_undamaged q h es rs n fault low s = (holds_track q h n.scene (n.lanes q) (plain_header h s.header).good (stands_good q h es rs n low s).holds).reads.undamaged fault

-- its history is that of the records
pub stands_past : (h : Header1) (es : List Event) (rs : List Record) (n : Moment) → Stands h es rs n → n.scene.past ≡ past_of rs
stands_past h es rs n s = run_past h (opening h) es rs n s.header (opening_held h s.header) s.events s.run

-- it is legal, and tracked
pub stands_true : (h : Header1) (es : List Event) (rs : List Record) (n : Moment) → Stands h es rs n → LegalFrom h.capacity h.mode [] (history_of rs) × TracksFrom h (opening h).scene rs
stands_true h es rs n s = run_from h (opening h) es rs s.header (opening_held h s.header) s.events (run_of h (opening h) es rs n s.run)

-- as many records as events
pub run_length : (h : Header1) (m : Moment) (es : List Event) (rs : List Record) (n : Moment) → RunTo h m es rs n → length es ≡ length rs
run_length h m [] [] n run = refl
run_length h m [] (r ∷ rs) n run = absurd run
run_length h m (e ∷ es) [] n run = absurd run
run_length h m (e ∷ es) (r ∷ rs) n run = omega (arith, run_length h run.1.0 es rs n run.1.2)

-- each event offers one request at most
pub stands_offers : (q : ℕ) (h : Header1) (es : List Event) (rs : List Record) (n : Moment) → q < h.queues → Stands h es rs n → length (n.scene.heads q) ≤ length es
stands_offers q h es rs n low s = omega (arith, run_offers q h (opening h) es rs n s.header low (opening_held h s.header) s.events s.run)

-- after a drain on an attached queue nothing is open, and every offer is accepted, where fewer events came before than there are counters
pub stands_drained : (q : ℕ) (h : Header1) (es : List Event) (rs : List Record) (n k : Moment) (is : List Item) → q < h.queues → Stands h es rs n → length es + 1 < last_counter → (n.lanes q).attached ≡ true → Plays h n (events.Drain q) is k
    → (open_numbers k.scene.past q ≡ []) × (accepted k.scene.past q ≡ offers k.scene.past q)
stands_drained q h es rs n k is low s counts attached plays =
    let fits : IsEvent h (events.Drain q) = omega (arith, low, s.header.one) in
    let few : length (k.scene.heads q) ≤ length (n.scene.heads q) + 1 = event_offers q h n (events.Drain q) is k s.header low (stands_held h es rs n s) fits plays in
    drained q h n is k (plain_header h s.header) (stands_good q h es rs n low s) (omega (arith, few, counts, stands_offers q h es rs n low s)) attached plays
