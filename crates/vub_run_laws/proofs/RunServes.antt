-- Each drain of an attached queue in a run serves it.
use Rattle.std.proofs.Common.{◌≡◌, ◌<◌, ℕ, ◌+◌, Bool, true, false, not, List, [], ◌∷◌, ◌++◌, length, length-append, refl, ap, sym, ◌∙◌, subst, inl, inr, arith}
use Rattle.std.specs.Prelude.{Option, Some, None, is_some, ◌&&◌}
use Rattle.std.specs.List.{AllByRecursion}
use Rattle.vub_base.specs.declared.header.Header1.{Header1}
use Rattle.vub_steps.specs.declared.readiness.Turn.{Turn}
use Rattle.vub_steps.specs.declared.readiness.Turn.TheVariants as turns
use Rattle.vub_driver.specs.Drivers.{Waiting, can_take}
use Rattle.vub_device.specs.declared.entry.Entry.{Entry}
use Rattle.vub_device.specs.Past.{accepted, offers, open_numbers}
use Rattle.vub_schedule.specs.declared.types.Event.{Event}
use Rattle.vub_schedule.specs.declared.types.Event.TheVariants as events
use Rattle.vub_schedule.specs.Spelling.{IsHeader, IsEvent}
use Rattle.vub_device.specs.declared.entry.Entry.TheVariants as entries
use Rattle.vub_report.specs.declared.items.Item.{Item}
use Rattle.vub_report.specs.declared.items.Item.TheVariants as items
use Rattle.vub_report.specs.declared.items.Record.{Record}
use Rattle.vub_run.specs.LegalRuns.{past_of, attached_after, attached_from, IsServed, EveryDrainServes, IsLegalRun}
use Rattle.vub_run.specs.Memory.{after_items}
use Rattle.vub_run.specs.Moments.{Lane, Moment, opening, fresh, attached}
use Rattle.vub_run.specs.Run.{Played, played, ended, kill, if_ready, ask, guest, guest_stores, take_first, collect, one_turn, is_due, turns as many_turns, single, up_to, any_choice, drain_choice, Drains, Plays, RunFrom, RunTo, Stands}
use Rattle.vub_run_laws.proofs.RunOwn.{at_own}
use Rattle.vub_run_laws.proofs.RunEntries.{run_enters}
use Rattle.vub_run_laws.proofs.RunTurns.{IsPlain, Good}
use Rattle.vub_run_laws.proofs.RunDrains.{turned_stays, turns_stay}
use Rattle.vub_run_laws.proofs.Runs.{plain_header}
use Rattle.vub_run_laws.proofs.RunQueues.{IsOn, on_one}
use Rattle.vub_run_laws.proofs.RunLawful.{run_lawful}
use Rattle.vub_run_laws.proofs.RunSpares.{run_spared}
use Rattle.vub_run_laws.proofs.RunsLegal.{IsHeld, opening_held, held_next}
use Rattle.vub_run_laws.proofs.RunsTo.{run_length, run_of, stands_more, stands_past, stands_true, stands_drained}
use Rattle.vub_steps.specs.Readiness.{last_counter}

-- ---- what records say of attached queues

abbrev is_on : ℕ → Moment → Bool
is_on q m = (m.lanes q).attached

abbrev Stays : ℕ → Moment → Moment → Type 0
Stays q m n = is_on q n ≡ is_on q m

tested : (q : ℕ) (ready : Bool) (p : Played) (m : Moment) → Stays q m p.next → Stays q m (if_ready ready p m).next
tested q true p m stays = stays
tested q false p m stays = refl

made_stays : (q : ℕ) (m : Moment) (is : List Item) (next : Moment) (p : Played) → played is next ≡ p → Stays q m p.next → Stays q m next
made_stays q m is next p e stays = subst (λ (x : Played). Stays q m x.next) (sym e) stays

-- none is attached after it
made_stays_off : (q : ℕ) (m : Moment) (is : List Item) (next : Moment) (p : Played) → played is next ≡ p → is_on q p.next ≡ false → is_on q next ≡ false
made_stays_off q m is next p e off = subst (λ (x : Played). is_on q x.next ≡ false) (sym e) off

stores_stay : (q : ℕ) (h : Header1) (m : Moment) (count : ℕ) (o : Option Waiting) → Stays q m (guest_stores h q count o m).next
stores_stay q h m count None = refl
stores_stay q h m count (Some w) = ap (λ (l : Lane). l.attached) (at_own m.lanes q _)

taken_stays : (q : ℕ) (h : Header1) (m : Moment) (xs : List (ℕ × ℕ)) → Stays q m (take_first h q xs m).next
taken_stays q h m [] = refl
taken_stays q h m (x ∷ xs) = ap (λ (l : Lane). l.attached) (at_own m.lanes q _)

single_stays : (q : ℕ) (h : Header1) (m : Moment) (t : Turn) → Stays q m (single h q t m).next
single_stays q h m t = tested q (is_due h q t m) (one_turn h q t m) m (ap (λ (l : Lane). l.attached) (at_own m.lanes q _) ∙ turned_stays q h t m)

drain_stays : (q : ℕ) (h : Header1) (m : Moment) (choose : Moment → Turn) (is : List Item) (next : Moment) → IsPlain h → Good q h m → Drains h q m choose is next → Stays q m next
drain_stays q h m choose is next plain good (inl none) = ap (λ (p : Played). is_on q p.next) none.1
drain_stays q h m choose is next plain good (inr some) = made_stays q m is next (many_turns some.1.count choose h q m) some.1.made (turns_stay q some.1.count choose h m plain good).joined

-- items and moment of an event that has a test are these
tested_is : (P : List Item → Moment → Type 0) (test : Bool) (p : Played) (m : Moment) (is : List Item) (next : Moment) → played is next ≡ if_ready test p m → P p.items p.next → P (if_ready false p m).items m → P is next
tested_is P true p m is next e ready idle = subst (λ (x : Played). P x.items x.next) (sym e) ready
tested_is P false p m is next e ready idle = subst (λ (x : Played). P x.items x.next) (sym e) idle

-- after an event
event_attaches : (q : ℕ) (h : Header1) (m : Moment) (e : Event) (is : List Item) (next : Moment) → IsPlain h → Good q h m → IsOn q e → IsEvent h e → Plays h m e is next → is_on q next ≡ attached_after q e is (is_on q m)
event_attaches q h m (events.Ask p shape a) is next plain good on fits plays =
    let here : Plays h m (events.Ask q shape a) is next = subst (λ (p : ℕ). Plays h m (events.Ask p shape a) is next) on plays in
    made_stays q m is next (ask h q shape a m) here (tested q (can_take h.size shape a (m.lanes q).driver) _ m (ap (λ (l : Lane). l.attached) (at_own m.lanes q _)))
event_attaches q h m (events.Guest p k) is next plain good on fits plays =
    let here : Plays h m (events.Guest q k) is next = subst (λ (p : ℕ). Plays h m (events.Guest p k) is next) on plays in
    made_stays q m is next (guest h q k m) here (tested q (is_some (m.lanes q).driver.waiting) _ m (stores_stay q h m k (m.lanes q).driver.waiting))
event_attaches q h m (events.Collect p) is next plain good on fits plays =
    let here : Plays h m (events.Collect q) is next = subst (λ (p : ℕ). Plays h m (events.Collect p) is next) on plays in
    made_stays q m is next (collect h q m) here (taken_stays q h m _)
event_attaches q h m events.Boot is next plain good on fits plays =
    tested_is (λ js n. is_on q n ≡ attached_after q events.Boot js (is_on q m)) (not m.lives) (played [] (record m { lives = true; joined = false; lanes = λ q. fresh (m.lanes q) })) m is next plays refl refl
event_attaches q h m events.Join is next plain good on fits plays =
    tested_is (λ js n. is_on q n ≡ attached_after q events.Join js (is_on q m)) (m.lives && not m.joined) (played [] (record m { joined = true; lanes = λ q. attached (m.lanes q) })) m is next plays refl refl
event_attaches q h m (events.Start p) is next plain good on fits plays =
    let here : Plays h m (events.Start q) is next = subst (λ (p : ℕ). Plays h m (events.Start p) is next) on plays in
    made_stays q m is next (single h q turns.Start m) here (single_stays q h m turns.Start)
event_attaches q h m (events.Fetch p) is next plain good on fits plays =
    let here : Plays h m (events.Fetch q) is next = subst (λ (p : ℕ). Plays h m (events.Fetch p) is next) on plays in
    made_stays q m is next (single h q turns.Fetch m) here (single_stays q h m turns.Fetch)
event_attaches q h m (events.Work p place) is next plain good on fits plays =
    let here : Plays h m (events.Work q place) is next = subst (λ (p : ℕ). Plays h m (events.Work p place) is next) on plays in
    made_stays q m is next (single h q (turns.Work place) m) here (single_stays q h m (turns.Work place))
event_attaches q h m (events.Publish p most) is next plain good on fits plays =
    let here : Plays h m (events.Publish q most) is next = subst (λ (p : ℕ). Plays h m (events.Publish p most) is next) on plays in
    made_stays q m is next (single h q (turns.Publish most) m) here (single_stays q h m (turns.Publish most))
event_attaches q h m (events.Turn p count) is next plain good on fits plays =
    let here : Plays h m (events.Turn q count) is next = subst (λ (p : ℕ). Plays h m (events.Turn p count) is next) on plays in
    made_stays q m is next (up_to count (any_choice h q) h q m) here
    (tested q (is_due h q (any_choice h q m) m) (many_turns count (any_choice h q) h q m) m (turns_stay q count (any_choice h q) h m plain good).joined)
event_attaches q h m (events.Drain p) is next plain good on fits plays =
    let here : Plays h m (events.Drain q) is next = subst (λ (p : ℕ). Plays h m (events.Drain p) is next) on plays in
    drain_stays q h m (drain_choice h q (accepted m.scene.past q)) is next plain good here
event_attaches q h m events.Kill is next plain good on fits plays = made_stays_off q m is next (kill h m) plays (go m.lives refl)
  where
    go : (b : Bool) → m.lives ≡ b → is_on q (if_ready b (played (items.Made entries.Kill ∷ []) (ended (record m { scene = after_items h (items.Made entries.Kill ∷ []) m.scene }))) m).next ≡ false
    go true on = refl
    go false off = (good.asleep off).0

-- and after a run
run_attaches : (q : ℕ) (h : Header1) (m : Moment) (es : List Event) (rs : List Record) (n : Moment) → IsHeader h → q < h.queues → IsHeld h m → AllByRecursion (IsEvent h) es → RunTo h m es rs n → is_on q n ≡ attached_from q (is_on q m) rs
run_attaches q h m [] [] n header low held fits run = ap (is_on q) run
run_attaches q h m [] (r ∷ rs) n header low held fits run = absurd run
run_attaches q h m (e ∷ es) [] n header low held fits run = absurd run
run_attaches q h m (e ∷ es) (r ∷ rs) n header low held fits run =
    let next : Moment = run.1.0 in
    let first : is_on q next ≡ attached_after q e r.items (is_on q m) = event_attaches q h m e r.items next (plain_header h header) (held q low).good (on_one h q e header low fits.0) fits.0 run.1.1 in
    run_attaches q h next es rs n header low (held_next h m e r.items next header held fits.0 run.1.1) fits.1 run.1.2
    ∙ ap (λ (b : Bool). attached_from q b rs) (first ∙ ap (λ (x : Event). attached_after q x r.items (is_on q m)) (sym run.0))

-- ---- a run is parted at a record

pub record PartedAt (h : Header1) (m : Moment) (es : List Event) (before : List Record) (r : Record) : Type 0 where
  pub first : List Event
  pub at : Moment
  pub next : Moment
  pub fits : AllByRecursion (IsEvent h) first
  pub upto : RunTo h m first before at
  pub is_event : IsEvent h r.event
  pub plays : Plays h at r.event r.items next

parted : (h : Header1) (m : Moment) (es : List Event) (before : List Record) (r : Record) (later : List Record) (n : Moment) → AllByRecursion (IsEvent h) es → RunTo h m es (before ++ r ∷ later) n → PartedAt h m es before r
parted h m [] [] r later n fits run = absurd run
parted h m (e ∷ es) [] r later n fits run = record {
  first = [];
  at = m;
  next = run.1.0;
  fits = tt;
  upto = refl;
  is_event = subst (λ (x : Event). IsEvent h x) (sym run.0) fits.0;
  plays = subst (λ (x : Event). Plays h m x r.items run.1.0) (sym run.0) run.1.1;
}
parted h m [] (x ∷ before) r later n fits run = absurd run
parted h m (e ∷ es) (x ∷ before) r later n fits run =
    let rest : PartedAt h run.1.0 es before r = parted h run.1.0 es before r later n fits.1 run.1.2 in
    record {
      first = e ∷ rest.first;
      at = rest.at;
      next = rest.next;
      fits = (fits.0, rest.fits);
      upto = (run.0, (run.1.0, run.1.1, rest.upto));
      is_event = rest.is_event;
      plays = rest.plays;
    }

-- ---- drains

pub drain_serves : (q : ℕ) (h : Header1) (es : List Event) (rs : List Record) (m k : Moment) (r : Record) → q < h.queues → Stands h es rs m → Stands h (es ++ events.Drain q ∷ []) (rs ++ r ∷ []) k → length es + 1 < last_counter → is_on q m ≡ true → Plays h m (events.Drain q) r.items k → IsServed q (rs ++ r ∷ [])
drain_serves q h es rs m k r low stands next counts attached plays =
    let both = stands_drained q h es rs m k r.items low stands counts attached plays in
    let past : k.scene.past ≡ past_of (rs ++ r ∷ []) = stands_past h (es ++ events.Drain q ∷ []) (rs ++ r ∷ []) k next in
    record {
      none_open = subst (λ (p : List Entry). open_numbers p q ≡ []) past both.0;
      all_accepted = subst (λ (p : List Entry). accepted p q ≡ offers p q) past both.1;
    }

-- each does where fewer events came than there are counters
pub stands_serves : (h : Header1) (es : List Event) (rs : List Record) (n : Moment) → Stands h es rs n → length es < last_counter → EveryDrainServes rs
stands_serves h es rs n s few before r later q parts is attached =
    let run : RunTo h (opening h) es (before ++ r ∷ later) n = subst (λ (xs : List Record). RunTo h (opening h) es xs n) parts s.run in
    let p : PartedAt h (opening h) es before r = parted h (opening h) es before r later n s.events run in
    let stands : Stands h p.first before p.at = record { header = s.header; events = p.fits; run = p.upto } in
    let fits : IsEvent h (events.Drain q) = subst (λ (x : Event). IsEvent h x) is p.is_event in
    let low : q < h.queues = omega (arith, fits, s.header.one) in
    let plays : Plays h p.at (events.Drain q) r.items p.next = subst (λ (x : Event). Plays h p.at x r.items p.next) is p.plays in
    let next : Stands h (p.first ++ events.Drain q ∷ []) (before ++ r ∷ []) p.next = stands_more h p.first before p.at p.next (events.Drain q) r stands fits is plays in
    let on : is_on q p.at ≡ true = run_attaches q h (opening h) p.first before p.at s.header low (opening_held h s.header) p.fits p.upto ∙ attached in
    let many : length rs ≡ length before + length (r ∷ later) = ap length parts ∙ length-append before (r ∷ later) in
    let counts : length p.first + 1 < last_counter = omega (arith, few, many, run_length h (opening h) es rs n s.run, run_length h (opening h) p.first before p.at p.upto) in
    drain_serves q h p.first before p.at p.next r low stands next counts on plays

-- ---- all that is true of a run

pub stands_legal : (h : Header1) (es : List Event) (rs : List Record) (n : Moment) → Stands h es rs n → IsLegalRun h es rs
stands_legal h es rs n s =
    let both = stands_true h es rs n s in
    let run : RunFrom h (opening h) es rs = run_of h (opening h) es rs n s.run in record {
      run = run;
      entries = run_enters h (opening h) es rs s.header (opening_held h s.header) s.events run;
      legal = both.0;
      tracked = both.1;
      lawful = run_lawful h es rs s.header s.events run;
      spared = run_spared h es rs s.header s.events run;
    }

-- a run leads somewhere
ends_at : (h : Header1) (m : Moment) (es : List Event) (rs : List Record) → RunFrom h m es rs → (n : Moment) × RunTo h m es rs n
ends_at h m [] [] run = (m, refl)
ends_at h m [] (r ∷ rs) run = absurd run
ends_at h m (e ∷ es) [] run = absurd run
ends_at h m (e ∷ es) (r ∷ rs) run =
    let rest = ends_at h run.1.0 es rs run.1.2 in
    (rest.0, (run.0, (run.1.0, run.1.1, rest.1)))

pub run_legal : (h : Header1) (es : List Event) (rs : List Record) → IsHeader h → AllByRecursion (IsEvent h) es → RunFrom h (opening h) es rs → IsLegalRun h es rs
run_legal h es rs header fits run =
    let end = ends_at h (opening h) es rs run in
    stands_legal h es rs end.0 (record { header = header; events = fits; run = end.1 })

pub run_serves : (h : Header1) (es : List Event) (rs : List Record) → IsHeader h → AllByRecursion (IsEvent h) es → RunFrom h (opening h) es rs → length es < last_counter → EveryDrainServes rs
run_serves h es rs header fits run few =
    let end = ends_at h (opening h) es rs run in
    stands_serves h es rs end.0 (record { header = header; events = fits; run = end.1 }) few
