-- The entries of a run are of those that there are.
use Rattle.std.proofs.Common.{◌≡◌, ℕ, zero, suc, ◌+◌, ◌-◌, ◌*◌, ◌/◌, ◌<◌, ◌≤◌, Bool, true, false, not, cond, List, [], ◌∷◌, ◌++◌, length, refl, sym, subst, inl, inr, arith}
use Rattle.std.specs.Prelude.{Option, Some, None, slice_get, slice_range, nat_lt, ⊤, is_some, ◌&&◌, if◌then◌else◌}
use Rattle.std.specs.List.{AllByRecursion}
use Rattle.std.proofs.lemmas.Bool.Decides.{nat_tests}
use Rattle.std.proofs.lemmas.List.{length-replicate}
use Rattle.vub_run_laws.proofs.RunOwn.{offers_own}
use Rattle.vub_run_laws.proofs.RunQueues.{on_one, IsOn}
use Rattle.vub_base.specs.declared.header.Header1.{Header1}
use Rattle.vub_base.specs.declared.request.Ask.{Ask}
use Rattle.vub_base.specs.declared.request.Part.{Part}
use Rattle.vub_shared.specs.Stores.{Store}
use Rattle.vub_steps.specs.declared.steps.Step.{Step}
use Rattle.vub_steps.specs.declared.steps.Step.TheVariants as steps
use Rattle.vub_steps.specs.declared.readiness.Turn.{Turn}
use Rattle.vub_steps.specs.declared.readiness.Turn.TheVariants as turns
use Rattle.vub_steps.specs.Rows.{Row}
use Rattle.vub_steps.specs.Steps.{next_step}
use Rattle.vub_steps.specs.Tasks.{RequestStep, Look, Put, Act, Sync, Status, task_steps}
use Rattle.vub_driver.specs.Drivers.{Waiting, can_take}
use Rattle.vub_device.specs.declared.entry.Asked.{Asked}
use Rattle.vub_device.specs.declared.entry.Asked.TheVariants as asks
use Rattle.vub_device.specs.declared.entry.Entry.{Entry}
use Rattle.vub_device.specs.declared.entry.Entry.TheVariants as entries
use Rattle.vub_device.specs.declared.entry.SectorValue.{SectorValue}
use Rattle.vub_device.specs.Legal.{after}
use Rattle.vub_device.specs.Crash.{value}
use Rattle.vub_device.specs.Past.{offers, asked, accepted}
use Rattle.vub_device.specs.Requests.{zeros, zeroed_at, look_at, effect_at, request_of}
use Rattle.vub_schedule.specs.declared.types.Event.{Event}
use Rattle.vub_schedule.specs.declared.types.Event.TheVariants as events
use Rattle.vub_schedule.specs.Spelling.{IsHeader, IsEvent}
use Rattle.vub_report.specs.declared.items.Item.{Item}
use Rattle.vub_report.specs.declared.items.Item.TheVariants as items
use Rattle.vub_report.specs.declared.items.Record.{Record}
use Rattle.vub_report.specs.Entries.{IsRequest, IsEntry}
use Rattle.vub_report.specs.Histories.{entries_of, history_of}
use Rattle.vub_report.proofs.HistoryLemmas.{entries-append}
use Rattle.vub_run.specs.Memory.{Scene, after_items}
use Rattle.vub_run.specs.Moments.{Lane, Moment, fresh, attached, unfinished}
use Rattle.vub_run.specs.Run.{Played, played, if_ready, ask, guest, guest_items, guest_stores, take_first, collect, boot, join, one_turn, is_due, then_played, turns as many_turns, single, up_to, any_choice, drain_choice, Drains, Plays, RunFrom, RunTo, kill, ended}
use Rattle.vub_run.specs.TaskItems.{look_items, act_items}
use Rattle.vub_run.specs.Turns.{course_of, turned, row_items, bell_items, entry_items, step_stores, phase_turn, phase_goes_on, under_way, work_turn, request_turn, task_turn}
use Rattle.vub_run_laws.proofs.Runs.{plain_header}
use Rattle.vub_run_laws.proofs.RunEvents.{Right, turn_right}
use Rattle.vub_run_laws.proofs.RunGood.{IsWide}
use Rattle.vub_run_laws.proofs.RunGuests.{waits_well}
use Rattle.vub_run_laws.proofs.RunsLegal.{some_queue, IsHeld, held_right, held_next, right_past}
use Rattle.vub_run_laws.proofs.RunTurns.{IsPlain, Good}
use Rattle.vub_run_laws.proofs.RunWork.{sector_long}
use Rattle.vub_run_laws.proofs.RunHolds.{IsWaiting}

-- an entry of that kind that isn't an offer
abbrev IsMade : Entry → Type 0
IsMade (entries.Offer q r) = ⊥
IsMade (entries.Accept q k) = ⊤
IsMade (entries.Look q k s v) = length v ≡ 512
IsMade (entries.Act q k s v) = length v ≡ 512
IsMade (entries.Sync q k) = ⊤
IsMade (entries.Fault q k) = ⊤
IsMade (entries.Publish q answers) = ⊤
IsMade entries.Kill = ⊤
IsMade (entries.Start q list) = ⊤
IsMade (entries.Collect q k) = ⊤
IsMade (entries.Power image) = ⊤

abbrev AreMade : List Entry → Type 0
AreMade es = AllByRecursion IsMade es

-- these items make none but such entries
abbrev Makes : List Item → Type 0
Makes is = AreMade (entries_of is)

all_both : (P : Entry → Type 0) (es fs : List Entry) → AllByRecursion P es → AllByRecursion P fs → AllByRecursion P (es ++ fs)
all_both P [] fs p q = q
all_both P (e ∷ es) fs p q = (p.0, all_both P es fs p.1 q)

makes-append : (xs ys : List Item) → Makes xs → Makes ys → Makes (xs ++ ys)
makes-append xs ys p q = subst AreMade (sym (entries-append xs ys)) (all_both IsMade (entries_of xs) (entries_of ys) p q)

made_entry : (e : Entry) → IsMade e → IsEntry e
made_entry (entries.Offer q r) is = absurd is
made_entry (entries.Accept q k) is = tt
made_entry (entries.Look q k s v) is = is
made_entry (entries.Act q k s v) is = is
made_entry (entries.Sync q k) is = tt
made_entry (entries.Fault q k) is = tt
made_entry (entries.Publish q answers) is = tt
made_entry entries.Kill is = tt
made_entry (entries.Start q list) is = tt
made_entry (entries.Collect q k) is = tt
made_entry (entries.Power image) is = tt

made_entries : (es : List Entry) → AreMade es → AllByRecursion IsEntry es
made_entries [] all = tt
made_entries (e ∷ es) all = (made_entry e all.0, made_entries es all.1)

-- they add no offer
made_offer : (q : ℕ) (past : List Entry) (e : Entry) → IsMade e → offers (e ∷ past) q ≤ offers past q
made_offer q past (entries.Offer p r) is = absurd is
made_offer q past (entries.Accept p k) is = omega arith
made_offer q past (entries.Look p k s v) is = omega arith
made_offer q past (entries.Act p k s v) is = omega arith
made_offer q past (entries.Sync p k) is = omega arith
made_offer q past (entries.Fault p k) is = omega arith
made_offer q past (entries.Publish p answers) is = omega arith
made_offer q past entries.Kill is = omega arith
made_offer q past (entries.Start p list) is = omega arith
made_offer q past (entries.Collect p k) is = omega arith
made_offer q past (entries.Power image) is = omega arith

made_offers : (q : ℕ) (past es : List Entry) → AreMade es → offers (after past es) q ≤ offers past q
made_offers q past [] all = omega arith
made_offers q past (e ∷ es) all = omega (arith, made_offer q past e all.0, made_offers q (e ∷ past) es all.1)

-- the entries of an event are of those that there are, and at most one is an offer
pub record Enters (q : ℕ) (past : List Entry) (is : List Item) : Type 0 where
  pub entries : AllByRecursion IsEntry (entries_of is)
  pub one : offers (after past (entries_of is)) q ≤ offers past q + 1

made_enters : (q : ℕ) (past : List Entry) (is : List Item) → Makes is → Enters q past is
made_enters q past is makes = record { entries = made_entries (entries_of is) makes; one = omega (arith, made_offers q past (entries_of is) makes) }

-- ---- the driver

request_wide : (cap : ℕ) (r : Asked) → IsWide cap (Some r) → IsRequest r
request_wide cap (asks.Read s c) wide = wide.some
request_wide cap (asks.Write s bytes) wide = (wide.some, wide.whole)
request_wide cap asks.Flush wide = tt
request_wide cap asks.Id wide = absurd wide
request_wide cap (asks.Discard parts) wide = absurd wide
request_wide cap (asks.Zero parts) wide = absurd wide

no_entry : (q : ℕ) (past : List Entry) → Enters q past []
no_entry q past = record { entries = tt; one = omega arith }

guest_enters : (q : ℕ) (past : List Entry) (count : ℕ) (a : Ask) (stores : List Store) → IsRequest (request_of a) → Enters q past (guest_items count q a stores)
guest_enters q past zero a stores is = no_entry q past
guest_enters q past (suc count) a [] is = no_entry q past
guest_enters q past (suc count) a (st ∷ []) is = record { entries = (is, tt); one = omega (arith, offers_own past q (request_of a)) }
guest_enters q past (suc count) a (st ∷ st' ∷ stores) is =
    let rest = guest_enters q past count a (st' ∷ stores) is in
    record { entries = rest.entries; one = rest.one }

waiting_enters : (q : ℕ) (h : Header1) (m : Moment) (count : ℕ) → Good q h m → Enters q m.scene.past (guest_stores h q count (m.lanes q).driver.waiting m).items
waiting_enters q h m count good = go (m.lanes q).driver.waiting refl
  where
    go : (o : Option Waiting) → (m.lanes q).driver.waiting ≡ o → Enters q m.scene.past (guest_stores h q count o m).items
    go None is = no_entry q m.scene.past
    go (Some w) is =
        let waits : IsWaiting q h.size h.capacity m.scene.past (m.scene.heads q) (m.lanes q).driver w = waits_well q h m.scene (m.lanes q) w is good.holds in
        guest_enters q m.scene.past count w.ask w.left (request_wide h.capacity (request_of w.ask) waits.wide)

guest_event : (q : ℕ) (h : Header1) (m : Moment) (count : ℕ) → Good q h m → Enters q m.scene.past (guest h q count m).items
guest_event q h m count good = go (is_some (m.lanes q).driver.waiting)
  where
    go : (b : Bool) → Enters q m.scene.past (if_ready b (guest_stores h q count (m.lanes q).driver.waiting m) m).items
    go true = waiting_enters q h m count good
    go false = record { entries = tt; one = omega arith }

taken_makes : (q : ℕ) (h : Header1) (xs : List (ℕ × ℕ)) (m : Moment) → Makes (take_first h q xs m).items
taken_makes q h [] m = tt
taken_makes q h (x ∷ xs) m = (tt, tt)

-- ---- the device

row_makes : (o : Option Row) → Makes (row_items o)
row_makes None = tt
row_makes (Some x) = tt

bell_makes : (q : ℕ) (step : Step) → Makes (bell_items q step)
bell_makes q steps.Features = tt
bell_makes q (steps.Free i) = tt
bell_makes q steps.Open = tt
bell_makes q (steps.Settle i) = tt
bell_makes q steps.SettleEnd = tt
bell_makes q steps.Bell = tt
bell_makes q steps.Start = tt
bell_makes q steps.Count = tt
bell_makes q steps.Accept = tt
bell_makes q (steps.Id e) = tt
bell_makes q (steps.Len e) = tt
bell_makes q (steps.Link e) = tt
bell_makes q (steps.Head e) = tt
bell_makes q steps.Index = tt
bell_makes q (steps.Clear e) = tt
bell_makes q steps.Note = tt

step_makes : (q : ℕ) (batch : List ℕ) (step : Step) (s : Scene) → Makes (entry_items q batch step s)
step_makes q batch steps.Features s = tt
step_makes q batch (steps.Free i) s = tt
step_makes q batch steps.Open s = tt
step_makes q batch (steps.Settle i) s = tt
step_makes q batch steps.SettleEnd s = tt
step_makes q batch steps.Bell s = tt
step_makes q batch steps.Start s = (tt, tt)
step_makes q batch steps.Count s = tt
step_makes q batch steps.Accept s = (tt, tt)
step_makes q batch (steps.Id e) s = tt
step_makes q batch (steps.Len e) s = tt
step_makes q batch (steps.Link e) s = tt
step_makes q batch (steps.Head e) s = tt
step_makes q batch steps.Index s = (tt, tt)
step_makes q batch (steps.Clear e) s = tt
step_makes q batch steps.Note s = tt

phase_makes : (q : ℕ) (h : Header1) (s : Scene) (l : Lane) (o : Option Step) → Makes (phase_turn h q s l o).items
phase_makes q h s l None = tt
phase_makes q h s l (Some step) =
    let stores : List Item = step_stores h q l step s in
    makes-append stores (entry_items q l.batch step (after_items h stores s)) (makes-append (row_items _) (bell_items q step) (row_makes _) (bell_makes q step)) (step_makes q l.batch step (after_items h stores s))

zeros_long : length zeros ≡ 512
unfolding zeros
zeros_long = length-replicate {A = ℕ} 512 0

abbrev IsLong : Option SectorValue → Type 0
IsLong None = Unit {0}
IsLong (Some x) = length x.value ≡ 512

zeroed_long : (parts : List Part) (i : ℕ) → IsLong (zeroed_at parts i)
zeroed_long [] i = tt
zeroed_long (p ∷ parts) i = go (nat_lt i p.count) (zeroed_long parts (i - p.count))
  where
    go : (b : Bool) → IsLong (zeroed_at parts (i - p.count)) → IsLong (if b then Some (record { sector = p.sector + i; value = zeros }) else zeroed_at parts (i - p.count))
    go true rest = zeros_long
    go false rest = rest

effect_long : (r : Asked) (i : ℕ) → IsLong (effect_at r i)
effect_long (asks.Read s n) i = tt
effect_long (asks.Write s bytes) i = go (nat_lt i (length bytes / 512)) refl
  where
    go : (b : Bool) → nat_lt i (length bytes / 512) ≡ b → IsLong (if b then Some (record { sector = s + i; value = slice_range bytes (512 * i) (512 * i + 512) }) else None)
    go true low =
        let below : i < length bytes / 512 = grind (arith, nat_tests) in
        sector_long bytes i (omega arith)
    go false low = tt
effect_long asks.Flush i = tt
effect_long asks.Id i = tt
effect_long (asks.Discard parts) i = zeroed_long parts.items i
effect_long (asks.Zero parts) i = zeroed_long parts.items i

abbrev AreLong : List Entry → Type 0
AreLong past = (s : ℕ) → length (value past s) ≡ 512

look_makes : (q k : ℕ) (past : List Entry) (o : Option ℕ) → AreLong past → Makes (look_items q k past o)
look_makes q k past None long = tt
look_makes q k past (Some s) long = (long s, tt)

act_makes : (q k : ℕ) (o : Option SectorValue) → IsLong o → Makes (act_items q k o)
act_makes q k None long = tt
act_makes q k (Some x) long = (long, tt)

task_makes : (q : ℕ) (h : Header1) (s : Scene) (l : Lane) (k : ℕ) (r : Asked) (o : Option RequestStep) → AreLong s.past → Makes (task_turn h q s l k r o).items
task_makes q h s l k r None long = tt
task_makes q h s l k r (Some (Look place)) long = look_makes q k s.past (look_at r place) long
task_makes q h s l k r (Some (Put place)) long = tt
task_makes q h s l k r (Some (Act place)) long = act_makes q k (effect_at r place) (effect_long r place)
task_makes q h s l k r (Some Sync) long = (tt, tt)
task_makes q h s l k r (Some Status) long = tt

request_makes : (q : ℕ) (h : Header1) (s : Scene) (l : Lane) (k : ℕ) (o : Option Asked) → AreLong s.past → Makes (request_turn h q s l k o).items
request_makes q h s l k None long = tt
request_makes q h s l k (Some r) long = task_makes q h s l k r (slice_get (task_steps h r) (l.made k)) long

work_makes : (q : ℕ) (h : Header1) (s : Scene) (l : Lane) (o : Option ℕ) → AreLong s.past → Makes (work_turn h q s l o).items
work_makes q h s l None long = tt
work_makes q h s l (Some k) long = request_makes q h s l k (asked s.past q k) long

goes_makes : (q : ℕ) (h : Header1) (s : Scene) (l : Lane) → Makes (phase_goes_on h q s l).items
goes_makes q h s l = phase_makes q h s l (next_step (course_of h l) l.phase)

turned_makes : (q : ℕ) (h : Header1) (t : Turn) (m : Moment) → AreLong m.scene.past → Makes (turned h q t m).items
turned_makes q h turns.Start m long = goes_makes q h m.scene (under_way h q m.scene turns.Start (m.lanes q))
turned_makes q h turns.Fetch m long = goes_makes q h m.scene (under_way h q m.scene turns.Fetch (m.lanes q))
turned_makes q h (turns.Publish most) m long = goes_makes q h m.scene (under_way h q m.scene (turns.Publish most) (m.lanes q))
turned_makes q h (turns.Work place) m long = work_makes q h m.scene (m.lanes q) (slice_get (unfinished q m) place) long

turn_makes : (q : ℕ) (h : Header1) (t : Turn) (m : Moment) → Good q h m → Makes (one_turn h q t m).items
turn_makes q h t m good = turned_makes q h t m good.holds.known.values

turns_make : (q count : ℕ) (choose : Moment → Turn) (h : Header1) (m : Moment) → IsPlain h → Good q h m → Makes (many_turns count choose h q m).items
turns_make q zero choose h m plain good = tt
turns_make q (suc count) choose h m plain good = go (is_due h q (choose m) m) refl (λ good'. turns_make q count choose h (one_turn h q (choose m) m).next plain good')
  where
    go : (b : Bool) → is_due h q (choose m) m ≡ b → (Good q h (one_turn h q (choose m) m).next → Makes (many_turns count choose h q (one_turn h q (choose m) m).next).items)
        → Makes (cond {A = Played} b (then_played (one_turn h q (choose m) m) (many_turns count choose h q (one_turn h q (choose m) m).next)) (played [] m)).items
    go true due rest =
        makes-append (one_turn h q (choose m) m).items (many_turns count choose h q (one_turn h q (choose m) m).next).items
        (turn_makes q h (choose m) m good) (rest (turn_right q h (choose m) m plain good due).good)
    go false due rest = tt

-- ---- any event

tested : (ready : Bool) (p : Played) (m : Moment) → Makes p.items → Makes (if_ready ready p m).items
tested true p m makes = makes
tested false p m makes = tt

made_makes : (is : List Item) (next : Moment) (p : Played) → played is next ≡ p → Makes p.items → Makes is
made_makes is next p e makes = subst (λ (x : Played). Makes x.items) (sym e) makes

drain_makes : (q : ℕ) (h : Header1) (m : Moment) (choose : Moment → Turn) (is : List Item) (next : Moment) → IsPlain h → Good q h m → Drains h q m choose is next → Makes is
drain_makes q h m choose is next plain good (inl none) = made_makes is next (played (items.Idle ∷ []) m) none.1 tt
drain_makes q h m choose is next plain good (inr some) = made_makes is next (many_turns some.1.count choose h q m) some.1.made (turns_make q some.1.count choose h m plain good)

single_makes : (q : ℕ) (h : Header1) (t : Turn) (m : Moment) → Good q h m → Makes (single h q t m).items
single_makes q h t m good = tested (is_due h q t m) (one_turn h q t m) m (turn_makes q h t m good)

boot_makes : (m : Moment) → Makes (boot m).items
boot_makes m = tested (not m.lives) (played [] (record m { lives = true; joined = false; lanes = λ q. fresh (m.lanes q) })) m tt

join_makes : (m : Moment) → Makes (join m).items
join_makes m = tested (m.lives && not m.joined) (played [] (record m { joined = true; lanes = λ q. attached (m.lanes q) })) m tt

kill_makes : (h : Header1) (m : Moment) → Makes (kill h m).items
kill_makes h m = tested m.lives (played (items.Made entries.Kill ∷ []) (ended (record m { scene = after_items h (items.Made entries.Kill ∷ []) m.scene }))) m (tt, tt)

pub event_enters : (q : ℕ) (h : Header1) (m : Moment) (e : Event) (is : List Item) (next : Moment) → IsPlain h → Good q h m → IsOn q e → IsEvent h e → Plays h m e is next → Enters q m.scene.past is
event_enters q h m (events.Ask p shape a) is next plain good on fits plays =
    made_enters q m.scene.past is (made_makes is next (ask h p shape a m) plays (tested (can_take h.size shape a (m.lanes p).driver) _ m tt))
event_enters q h m (events.Guest p k) is next plain good on fits plays =
    let here : Plays h m (events.Guest q k) is next = subst (λ (p : ℕ). Plays h m (events.Guest p k) is next) on plays in
    subst (λ (x : Played). Enters q m.scene.past x.items) (sym here) (guest_event q h m k good)
event_enters q h m (events.Collect p) is next plain good on fits plays =
    let here : Plays h m (events.Collect q) is next = subst (λ (p : ℕ). Plays h m (events.Collect p) is next) on plays in
    made_enters q m.scene.past is (made_makes is next (collect h q m) here (taken_makes q h _ m))
event_enters q h m events.Boot is next plain good on fits plays = made_enters q m.scene.past is (made_makes is next (boot m) plays (boot_makes m))
event_enters q h m events.Join is next plain good on fits plays = made_enters q m.scene.past is (made_makes is next (join m) plays (join_makes m))
event_enters q h m events.Kill is next plain good on fits plays = made_enters q m.scene.past is (made_makes is next (kill h m) plays (kill_makes h m))
event_enters q h m (events.Start p) is next plain good on fits plays =
    let here : Plays h m (events.Start q) is next = subst (λ (p : ℕ). Plays h m (events.Start p) is next) on plays in
    made_enters q m.scene.past is (made_makes is next (single h q turns.Start m) here (single_makes q h turns.Start m good))
event_enters q h m (events.Fetch p) is next plain good on fits plays =
    let here : Plays h m (events.Fetch q) is next = subst (λ (p : ℕ). Plays h m (events.Fetch p) is next) on plays in
    made_enters q m.scene.past is (made_makes is next (single h q turns.Fetch m) here (single_makes q h turns.Fetch m good))
event_enters q h m (events.Work p place) is next plain good on fits plays =
    let here : Plays h m (events.Work q place) is next = subst (λ (p : ℕ). Plays h m (events.Work p place) is next) on plays in
    made_enters q m.scene.past is (made_makes is next (single h q (turns.Work place) m) here (single_makes q h (turns.Work place) m good))
event_enters q h m (events.Publish p most) is next plain good on fits plays =
    let here : Plays h m (events.Publish q most) is next = subst (λ (p : ℕ). Plays h m (events.Publish p most) is next) on plays in
    made_enters q m.scene.past is (made_makes is next (single h q (turns.Publish most) m) here (single_makes q h (turns.Publish most) m good))
event_enters q h m (events.Turn p count) is next plain good on fits plays =
    let here : Plays h m (events.Turn q count) is next = subst (λ (p : ℕ). Plays h m (events.Turn p count) is next) on plays in
    made_enters q m.scene.past is (made_makes is next (up_to count (any_choice h q) h q m) here (tested (is_due h q (any_choice h q m) m) (many_turns count (any_choice h q) h q m) m (turns_make q count (any_choice h q) h m plain good)))
event_enters q h m (events.Drain p) is next plain good on fits plays =
    let here : Plays h m (events.Drain q) is next = subst (λ (p : ℕ). Plays h m (events.Drain p) is next) on plays in
    made_enters q m.scene.past is (drain_makes q h m (drain_choice h q (accepted m.scene.past q)) is next plain good here)

-- where all that holds does
held_enters : (q : ℕ) (h : Header1) (m : Moment) (e : Event) (is : List Item) (next : Moment) → IsHeader h → q < h.queues → IsHeld h m → IsEvent h e → Plays h m e is next → Enters q m.scene.past is
held_enters q h m e is next header low held fits plays = event_enters q h m e is next (plain_header h header) (held q low).good (on_one h q e header low fits) fits plays

-- ---- runs

pub run_enters : (h : Header1) (m : Moment) (es : List Event) (rs : List Record) → IsHeader h → IsHeld h m → AllByRecursion (IsEvent h) es → RunFrom h m es rs → AllByRecursion IsEntry (history_of rs)
run_enters h m [] [] header held fits run = tt
run_enters h m [] (r ∷ rs) header held fits run = absurd run
run_enters h m (e ∷ es) [] header held fits run = absurd run
run_enters h m (e ∷ es) (r ∷ rs) header held fits run =
    all_both IsEntry (entries_of r.items) (history_of rs)
    (held_enters 0 h m e r.items run.1.0 header (some_queue h header) held fits.0 run.1.1).entries
    (run_enters h run.1.0 es rs header (held_next h m e r.items run.1.0 header held fits.0 run.1.1) fits.1 run.1.2)

-- an event offers one request at most
pub event_offers : (q : ℕ) (h : Header1) (m : Moment) (e : Event) (is : List Item) (next : Moment) → IsHeader h → q < h.queues → IsHeld h m → IsEvent h e → Plays h m e is next → length (next.scene.heads q) ≤ length (m.scene.heads q) + 1
event_offers q h m e is next header low held fits plays =
    let enters : Enters q m.scene.past is = held_enters q h m e is next header low held fits plays in
    let right : Right q h m is next = held_right q h m e is next header low held fits plays in
    let past : next.scene.past ≡ after m.scene.past (entries_of is) = right_past q h m is next right in
    let few : offers next.scene.past q ≤ offers m.scene.past q + 1 = subst (λ (p : List Entry). offers p q ≤ offers m.scene.past q + 1) (sym past) enters.one in
    omega (arith, few, right.good.holds.known.offers_are, (held q low).good.holds.known.offers_are)

-- so a run offers no more requests than it has events
pub run_offers : (q : ℕ) (h : Header1) (m : Moment) (es : List Event) (rs : List Record) (n : Moment) → IsHeader h → q < h.queues → IsHeld h m → AllByRecursion (IsEvent h) es → RunTo h m es rs n → length (n.scene.heads q) ≤ length (m.scene.heads q) + length es
run_offers q h m [] [] n header low held fits run = subst (λ (x : Moment). length (x.scene.heads q) ≤ length (m.scene.heads q) + 0) (sym run) (omega arith)
run_offers q h m [] (r ∷ rs) n header low held fits run = absurd run
run_offers q h m (e ∷ es) [] n header low held fits run = absurd run
run_offers q h m (e ∷ es) (r ∷ rs) n header low held fits run =
    let first = event_offers q h m e r.items run.1.0 header low held fits.0 run.1.1 in
    let rest = run_offers q h run.1.0 es rs n header low (held_next h m e r.items run.1.0 header held fits.0 run.1.1) fits.1 run.1.2 in
    omega (arith, first, rest)
