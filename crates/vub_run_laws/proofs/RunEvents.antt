-- Every event keeps what holds; its entries are legal, and memory tracks them.
use Rattle.std.proofs.Common.{◌≡◌, ◌≤◌, ◌<◌, ℕ, zero, suc, Bool, true, false, not, cond, List, [], ◌∷◌, ◌++◌, length, drop, refl, ap, sym, ◌∙◌, subst, inl, inr, arith}
use Rattle.std.specs.Prelude.{Option, Some, None, is_some, ◌&&◌}
use Rattle.std.proofs.lemmas.Bool.Decides.{nat_tests}
use Rattle.std.proofs.lemmas.Bool.{cases_lt}
use Rattle.std.proofs.lemmas.List.{length-drop, drop_all}
use Rattle.vub_run_laws.proofs.RunOwn.{at_own}
use Rattle.vub_run_laws.proofs.RunQueues.{IsOn}
use Rattle.vub_base.specs.declared.header.Header1.{Header1}
use Rattle.vub_base.specs.declared.request.Ask.{Ask}
use Rattle.vub_base.specs.declared.request.Shape.{Shape}
use Rattle.vub_base.specs.declared.request.Shape.TheVariants.{Direct}
use Rattle.vub_shared.specs.Stores.{Store}
use Rattle.vub_steps.specs.declared.readiness.Turn.{Turn}
use Rattle.vub_steps.specs.declared.readiness.Turn.TheVariants.{Start, Fetch, Work, Publish}
use Rattle.vub_steps.specs.declared.steps.Phase.TheVariants as phases
use Rattle.vub_steps.specs.declared.steps.Plan.TheVariants.{New}
use Rattle.vub_steps.specs.Readiness.{is_ready}
use Rattle.vub_driver.specs.Drivers.{Driver, Waiting, can_take, with_left, without_owner}
use Rattle.vub_device.specs.declared.entry.Asked.{Asked}
use Rattle.vub_device.specs.declared.entry.Entry.{Entry}
use Rattle.vub_device.specs.declared.entry.Entry.TheVariants as entries
use Rattle.vub_device.specs.Legal.{LegalFrom, after}
use Rattle.vub_device.specs.Past.{asked, accepted, started}
use Rattle.vub_schedule.specs.declared.types.Event.{Event}
use Rattle.vub_schedule.specs.declared.types.Event.TheVariants as events
use Rattle.vub_schedule.specs.Spelling.{IsAsk, IsEvent}
use Rattle.vub_report.specs.declared.items.Item.{Item}
use Rattle.vub_report.specs.declared.items.Item.TheVariants as items
use Rattle.vub_run.specs.Memory.{Scene, with_at, after_items}
use Rattle.vub_run.specs.Moments.{Lane, Moment, fresh, attached, standing}
use Rattle.vub_run.specs.Run.{Played, played, if_ready, with_lane, comes_about, with_driver, ask, guest, guest_items, guest_stores, take_first, collect, boot, join, one_turn, is_due, then_played, turns, single, up_to, any_choice, drain_choice, Drains, Plays, ended, kill}
use Rattle.vub_device.specs.Requests.{request_of}
use Rattle.vub_run.specs.Tracking.{Tracks, AfterEach}
use Rattle.vub_report.specs.Histories.{entries_of}
use Rattle.vub_run.specs.Turns.{turned}
use Rattle.vub_run_laws.proofs.RunQueue.{queue_rests, queue_attached, queue_left, queue_stands, queue_first, queue_free, takes, sees, queue_killed}
use Rattle.vub_run_laws.proofs.RunGood.{pending_none, Known}
use Rattle.vub_run_laws.proofs.RunHolds.{Holds, EntryStands, QueueFacts}
use Rattle.vub_run_laws.proofs.RunGuests.{holds_track, offered, Offered, guest_holds, Unoffered, part_holds, left_waits, rest_waits, waits_well}
use Rattle.vub_run_laws.proofs.RunWork.{Fine}
use Rattle.vub_run_laws.proofs.RunItems.{after-append, each-append, legal-append, past_after}
use Rattle.vub_report.proofs.HistoryLemmas.{entries-append}
use Rattle.vub_run_laws.proofs.RunTurns.{IsPlain, Good, turn_fine}
use Rattle.vub_run_laws.proofs.RunAsks.{plain_ask, ask_holds}
use Rattle.vub_run_laws.proofs.RunTaken.{IsTaken, next_number}
use Rattle.vub_run_laws.proofs.RunCollects.{taken_holds, taken_legal}
use Rattle.vub_run_laws.proofs.RingGood.{CountsLow}
use Rattle.vub_run_laws.proofs.RingCounters.{killed_counts}

-- items from one moment to another
pub record Right (q : ℕ) (h : Header1) (m : Moment) (is : List Item) (next : Moment) : Type 0 where
  pub good : Good q h next
  pub each : AfterEach h (Tracks h q) m.scene is
  pub scene : next.scene ≡ after_items h is m.scene
  pub legal : LegalFrom h.capacity h.mode m.scene.past (entries_of is)

abbrev pub Leads : ℕ → Header1 → Moment → Played → Type 0
Leads q h m p = Right q h m p.items p.next

-- one after another
pub right-append : (q : ℕ) (h : Header1) (m n k : Moment) (xs ys : List Item) → Right q h m xs n → Right q h n ys k → Right q h m (xs ++ ys) k
right-append q h m n k xs ys p later =
    let legal_next : LegalFrom h.capacity h.mode (after m.scene.past (entries_of xs)) (entries_of ys) =
    subst (λ (past : List Entry). LegalFrom h.capacity h.mode past (entries_of ys)) (ap (λ (s : Scene). s.past) p.scene ∙ past_after h xs m.scene) later.legal in record {
      good = later.good;
      each = each-append h (Tracks h q) m.scene xs ys p.each (subst (λ (s : Scene). AfterEach h (Tracks h q) s ys) p.scene later.each);
      scene = later.scene ∙ ap (after_items h ys) p.scene ∙ sym (after-append h xs ys m.scene);
      legal = subst (λ (es : List Entry). LegalFrom h.capacity h.mode m.scene.past es) (sym (entries-append xs ys)) (legal-append h.capacity h.mode m.scene.past (entries_of xs) (entries_of ys) p.legal legal_next);
    }

-- ---- nothing happens

pub nothing_right : (q : ℕ) (h : Header1) (m : Moment) → Good q h m → Right q h m [] m
nothing_right q h m good = record { good = good; each = tt; scene = refl; legal = tt }

pub idle_right : (q : ℕ) (h : Header1) (m : Moment) → IsPlain h → Good q h m → Right q h m (items.Idle ∷ []) m
idle_right q h m plain good = record {
  good = good;
  each = (inr (holds_track q h m.scene (m.lanes q) plain.good good.holds), tt);
  scene = refl;
  legal = tt;
}

-- an event that has a test
tested : (q : ℕ) (h : Header1) (m : Moment) (ready : Bool) (p : Played) → IsPlain h → Good q h m → (ready ≡ true → Leads q h m p) → Leads q h m (if_ready ready p m)
tested q h m true p plain good then = then refl
tested q h m false p plain good then = idle_right q h m plain good

-- ---- the driver

-- what holds of a lane holds where it is set
lane_good : (q : ℕ) (h : Header1) (n : Moment) (l : Lane) → Holds q h n.scene l → (n.lives ≡ false → (l.attached ≡ false) × (started n.scene.past q ≡ false)) → (started n.scene.past q ≡ false → CountsLow q h n.scene) → Good q h (with_lane q l n)
lane_good q h n l holds asleep counts =
    let own : with_at n.lanes q l q ≡ l = at_own n.lanes q l in record {
      holds = subst (λ (x : Lane). Holds q h n.scene x) (sym own) holds;
      asleep = λ dead. (ap (λ (x : Lane). x.attached) own ∙ (asleep dead).0, (asleep dead).1);
      counts = counts;
    }

ask_right : (q : ℕ) (h : Header1) (m : Moment) (a : Ask) → IsPlain h → Good q h m → IsAsk h a → Leads q h m (ask h q Direct a m)
ask_right q h m a plain good is = tested q h m (can_take h.size Direct a (m.lanes q).driver) (played [] (with_lane q (with_driver (takes q h a (m.lanes q).driver) (m.lanes q)) m)) plain good (λ ready. record {
  good = lane_good q h m (with_driver (takes q h a (m.lanes q).driver) (m.lanes q)) (ask_holds q h m.scene (m.lanes q) a plain.good (plain_ask h a is) ready good.holds) good.asleep good.counts;
  each = tt;
  scene = refl;
  legal = tt;
})

-- after these stores the request is offered
offers_right : (q : ℕ) (h : Header1) (m : Moment) (r : Asked) (is : List Item) → Good q h m → Offered q h h.mode m.scene (m.lanes q) r is → Leads q h m (comes_about h q is (offered (m.lanes q)) m)
offers_right q h m r is good all = record {
  good = lane_good q h (record m { scene = after_items h is m.scene }) (offered (m.lanes q)) all.holds
      (λ dead. ((good.asleep dead).0, ap (λ (p : List Entry). started p q) all.past ∙ (good.asleep dead).1))
      (λ stopped. all.counts (good.counts (sym (ap (λ (p : List Entry). started p q) all.past) ∙ stopped)));
  each = all.each;
  scene = refl;
  legal = all.legal;
}

-- the queue after so many stores, where these are left
abbrev StoresRight : ℕ → Header1 → Moment → Waiting → ℕ → List Store → Type 0
StoresRight q h m w count left = Leads q h m (comes_about h q (guest_items count q w.ask left) (with_driver (with_left w (drop count left) (m.lanes q).driver) (m.lanes q)) m)

-- with none left
nothing_left : (q : ℕ) (h : Header1) (m : Moment) (w : Waiting) (count : ℕ) (left : List Store) → length left ≤ count → Leads q h m (comes_about h q (guest_items count q w.ask left) (offered (m.lanes q)) m) → StoresRight q h m w count left
nothing_left q h m w count left enough all = subst (λ (rest : List Store). Leads q h m (comes_about h q (guest_items count q w.ask left) (with_driver (with_left w rest (m.lanes q).driver) (m.lanes q)) m)) (sym (drop_all count left enough)) all

-- fewer stores than are left: nothing is offered
guest_part : (q : ℕ) (h : Header1) (m : Moment) (w : Waiting) (count : ℕ) → IsPlain h → Good q h m → (m.lanes q).driver.waiting ≡ Some w → count < length w.left → StoresRight q h m w count w.left
guest_part q h m w count plain good waiting less =
    let l : Lane = m.lanes q in
    let is : List Item = guest_items count q w.ask w.left in
    let part : Unoffered q h m.scene l w is (drop count w.left) = part_holds q h m.scene l w count w.left plain.good (waits_well q h m.scene l w waiting good.holds) less good.holds in
    let s' : Scene = after_items h is m.scene in
    let v' : Driver = record (l.driver) { waiting = Some (record w { left = drop count w.left }) } in
    let next : Leads q h m (comes_about h q is (with_driver v' l) m) = record {
      good = lane_good q h (record m { scene = s' }) (with_driver v' l) (rest_waits q h s' l w (drop count w.left) part.waits part.holds)
          (λ dead. ((good.asleep dead).0, ap (λ (p : List Entry). started p q) part.past ∙ (good.asleep dead).1))
          (λ stopped. part.counts (good.counts (sym (ap (λ (p : List Entry). started p q) part.past) ∙ stopped)));
      each = part.each;
      scene = refl;
      legal = subst (λ (es : List Entry). LegalFrom h.capacity h.mode m.scene.past es) (sym part.none) tt;
    } in
    subst (λ (v : Driver). Leads q h m (comes_about h q is (with_driver v l) m)) (sym (left_waits w (drop count w.left) l.driver (omega (arith, length-drop count w.left)))) next

-- the next stores of the request that waits
guest_some : (q : ℕ) (h : Header1) (m : Moment) (w : Waiting) (count : ℕ) → IsPlain h → Good q h m → EntryStands q h m → 1 ≤ count → (m.lanes q).driver.waiting ≡ Some w → StoresRight q h m w count w.left
guest_some q h m w count plain good entry some waiting =
    let l : Lane = m.lanes q in
    let waits = waits_well q h m.scene l w waiting good.holds in
    elim (cases_lt count (length w.left)) [
      | inl less ↦ guest_part q h m w count plain good waiting less
      | inr enough ↦
          let left : 0 < length w.left = queue_left q h.size h.capacity m.scene.past (m.scene.heads q) l.driver (record w { left = w.left }) waits in
          nothing_left q h m w count w.left enough (offers_right q h m (request_of w.ask) (guest_items count q w.ask w.left) good (guest_holds q h h.mode m.scene l w count w.left plain.good waits (queue_stands q h m w waiting entry) left enough good.holds))
    ]

guest_right : (q : ℕ) (h : Header1) (m : Moment) (count : ℕ) → IsPlain h → Good q h m → EntryStands q h m → 1 ≤ count → Leads q h m (guest h q count m)
guest_right q h m count plain good entry some = tested q h m (is_some (m.lanes q).driver.waiting) (guest_stores h q count (m.lanes q).driver.waiting m) plain good (λ ready. go (m.lanes q).driver.waiting refl)
  where
    go : (o : Option Waiting) → (m.lanes q).driver.waiting ≡ o → Leads q h m (guest_stores h q count o m)
    go None e = nothing_right q h m good
    go (Some w) e = guest_some q h m w count plain good entry some e

collect_right : (q : ℕ) (h : Header1) (m : Moment) → IsPlain h → Good q h m → Leads q h m (collect h q m)
collect_right q h m plain good = go (sees q h m.scene) refl
  where
    go : (xs : List (ℕ × ℕ)) → sees q h m.scene ≡ xs → Leads q h m (take_first h q xs m)
    go [] e = idle_right q h m plain good
    go (x ∷ xs) e =
        let l : Lane = m.lanes q in
        let t : IsTaken q h m.scene l x.0 = queue_first q h m.scene l x xs plain.good good.holds e in
        let k : ℕ = next_number q m.scene in
        let v : Driver = record l.driver { owner = without_owner x.0 l.driver.owner } in
        let next = taken_holds q h m.scene l x.0 k t in
        let whole : Leads q h m (comes_about h q (items.Made (entries.Collect q k) ∷ []) (with_driver v l) m) = record {
          good = lane_good q h (record m { scene = record m.scene { past = entries.Collect q k ∷ m.scene.past } }) (with_driver v l) next good.asleep (λ stopped j is_open. good.counts stopped j (record { taken = is_open.taken; unpublished = is_open.unpublished }));
          each = (inr (holds_track q h (record m.scene { past = entries.Collect q k ∷ m.scene.past }) (with_driver v l) plain.good next), tt);
          scene = refl;
          legal = (taken_legal q h m.scene l x.0 t, tt);
        } in
        subst (λ (d : Driver). Leads q h m (comes_about h q (items.Made (entries.Collect q k) ∷ []) (with_driver d l) m)) (sym (queue_free q h m.scene l x.0 t)) whole

-- ---- lives

-- nothing is under way on a queue that isn't started
fresh_holds : (q : ℕ) (h : Header1) (s : Scene) (l : Lane) → started s.past q ≡ false → Known q h.size h.capacity s.past (s.heads q) → QueueFacts q h s l.driver false New 0 [] phases.Rest → Holds q h s (fresh l)
fresh_holds q h s l stopped known queue = record {
  known = known;
  worked = record {
    distinct = refl;
    opens = λ k held. absurd (let fails : false ≡ true = held in cc);
    untouched = λ k high. refl;
    progress = λ on. absurd (let fails : true ≡ false = sym on ∙ stopped in cc);
    full = λ k held. absurd (let fails : false ≡ true = held in cc);
    pending = λ k is_open out. pending_none (asked s.past q k);
    quiet = λ e. (refl, (refl, λ k. refl));
    between = tt;
  };
  stored = record { sectors = λ k i is_open kept read. absurd (omega (arith, kept.put)); status = λ k held. absurd (let fails : false ≡ true = held in cc) };
  carries = record {
    distinct = refl;
    shown = λ k held out. absurd (let fails : false ≡ true = held in cc);
    quiet = λ e. refl;
    low = omega arith;
  };
  queue = queue;
}

boot_right : (q : ℕ) (h : Header1) (m : Moment) → IsPlain h → Good q h m → Leads q h m (boot m)
boot_right q h m plain good = tested q h m (not m.lives) (played [] (record m { lives = true; joined = false; lanes = λ q. fresh (m.lanes q) })) plain good (λ ready.
    let dead : m.lives ≡ false = grind (arith, nat_tests) in
    let stopped : started m.scene.past q ≡ false = (good.asleep dead).1 in record {
      good = record {
        holds = fresh_holds q h m.scene (m.lanes q) stopped good.holds.known (queue_rests q h m.scene (m.lanes q).driver (m.lanes q).bell false (m.lanes q).plan New (m.lanes q).counter 0 (m.lanes q).batch (m.lanes q).phase stopped good.holds.queue);
        asleep = λ e. absurd (let fails : true ≡ false = e in cc);
        counts = good.counts;
      };
      each = tt;
      scene = refl;
      legal = tt;
    })

join_right : (q : ℕ) (h : Header1) (m : Moment) → IsPlain h → Good q h m → Leads q h m (join m)
join_right q h m plain good = tested q h m (m.lives && not m.joined) (played [] (record m { joined = true; lanes = λ q. attached (m.lanes q) })) plain good (λ ready. record {
  good = record {
    holds = record { known = good.holds.known; worked = good.holds.worked; stored = good.holds.stored; carries = good.holds.carries; queue = queue_attached q h m.scene (m.lanes q).driver (m.lanes q).bell (m.lanes q).plan (m.lanes q).counter (m.lanes q).batch (m.lanes q).phase good.holds.queue };
    asleep = λ dead. absurd (grind (arith, nat_tests));
    counts = good.counts;
  };
  each = tt;
  scene = refl;
  legal = tt;
})

-- what was offered, accepted and shown stands
killed_known : (q n cap : ℕ) (past : List Entry) (heads : List ℕ) → Known q n cap past heads → Known q n cap (entries.Kill ∷ past) heads
killed_known q n cap past heads a = record {
  offers_are = a.offers_are;
  offered = a.offered;
  distinct = a.distinct;
  below = a.below;
  shown = a.shown;
  fewer = a.fewer;
  room = a.room;
  good = a.good;
  wide = a.wide;
  unfaulted = a.unfaulted;
  values = a.values;
}

-- a life ends, whatever is under way
kill_right : (q : ℕ) (h : Header1) (m : Moment) → IsPlain h → Good q h m → Leads q h m (kill h m)
kill_right q h m plain good = tested q h m m.lives (played (items.Made entries.Kill ∷ []) (ended (record m { scene = s' }))) plain good (λ ready. record {
  good = record { holds = holds; asleep = λ dead. (refl, refl); counts = λ stopped. killed_counts q h m.scene (m.lanes q) good.holds good.counts };
  each = (inr (holds_track q h s' (fresh (m.lanes q)) plain.good holds), tt);
  scene = refl;
  legal = (tt, tt);
})
  where
    s' : Scene
    s' = after_items h (items.Made entries.Kill ∷ []) m.scene

    holds : Holds q h s' (fresh (m.lanes q))
    holds = fresh_holds q h s' (m.lanes q) refl (killed_known q h.size h.capacity m.scene.past (m.scene.heads q) good.holds.known) (queue_killed q h m.scene (m.lanes q) good.holds.queue)

-- ---- turns

pub turn_right : (q : ℕ) (h : Header1) (t : Turn) (m : Moment) → IsPlain h → Good q h m → is_due h q t m ≡ true → Leads q h m (one_turn h q t m)
turn_right q h t m plain good due =
    let ready : is_ready (standing h q m) t ≡ true = grind (arith, nat_tests) in
    let joined : (m.lanes q).attached ≡ true = grind (arith, nat_tests) in
    let fine : Fine q h m.scene (m.lanes q) (turned h q t m) = turn_fine q h t m plain good ready in record {
      good = lane_good q h (record m { scene = after_items h (turned h q t m).items m.scene }) (turned h q t m).lane fine.holds
          (λ dead. absurd (let fails : true ≡ false = sym joined ∙ (good.asleep dead).0 in cc))
          (λ stopped. (fine.idle stopped).counts);
      each = fine.each;
      scene = refl;
      legal = fine.legal;
    }

pub turns_right : (q count : ℕ) (choose : Moment → Turn) (h : Header1) (m : Moment) → IsPlain h → Good q h m → Leads q h m (turns count choose h q m)
turns_right q zero choose h m plain good = nothing_right q h m good
turns_right q (suc count) choose h m plain good = go (is_due h q (choose m) m) refl (λ good'. turns_right q count choose h (one_turn h q (choose m) m).next plain good')
  where
    go : (b : Bool) → is_due h q (choose m) m ≡ b → (Good q h (one_turn h q (choose m) m).next → Leads q h (one_turn h q (choose m) m).next (turns count choose h q (one_turn h q (choose m) m).next))
        → Leads q h m (cond {A = Played} b (then_played (one_turn h q (choose m) m) (turns count choose h q (one_turn h q (choose m) m).next)) (played [] m))
    go true due rest =
        let first = turn_right q h (choose m) m plain good due in
        right-append q h m (one_turn h q (choose m) m).next (turns count choose h q (one_turn h q (choose m) m).next).next (one_turn h q (choose m) m).items (turns count choose h q (one_turn h q (choose m) m).next).items first (rest first.good)
    go false due rest = nothing_right q h m good

-- what is made is right
made_right : (q : ℕ) (h : Header1) (m : Moment) (is : List Item) (next : Moment) (p : Played) → played is next ≡ p → Leads q h m p → Right q h m is next
made_right q h m is next p e r = subst (λ (x : Played). Leads q h m x) (sym e) r

pub drain_right : (q : ℕ) (h : Header1) (m : Moment) (choose : Moment → Turn) (is : List Item) (next : Moment) → IsPlain h → Good q h m → Drains h q m choose is next → Right q h m is next
drain_right q h m choose is next plain good (inl none) = made_right q h m is next (played (items.Idle ∷ []) m) none.1 (idle_right q h m plain good)
drain_right q h m choose is next plain good (inr some) = made_right q h m is next (turns some.1.count choose h q m) some.1.made (turns_right q some.1.count choose h m plain good)

-- a single turn, and up to so many
single_right : (q : ℕ) (h : Header1) (t : Turn) (m : Moment) → IsPlain h → Good q h m → Leads q h m (single h q t m)
single_right q h t m plain good = tested q h m (is_due h q t m) (one_turn h q t m) plain good (λ due. turn_right q h t m plain good due)

up_to_right : (q count : ℕ) (choose : Moment → Turn) (h : Header1) (m : Moment) → IsPlain h → Good q h m → Leads q h m (up_to count choose h q m)
up_to_right q count choose h m plain good = tested q h m (is_due h q (choose m) m) (turns count choose h q m) plain good (λ due. turns_right q count choose h m plain good)

-- ---- any event

pub event_right : (q : ℕ) (h : Header1) (m : Moment) (e : Event) (is : List Item) (next : Moment) → IsPlain h → Good q h m → EntryStands q h m → IsOn q e → IsEvent h e → Plays h m e is next → Right q h m is next
event_right q h m (events.Ask p shape a) is next plain good entry on fits plays =
    let P : ℕ → Shape → Type 0 = λ p sh. Plays h m (events.Ask p sh a) is next in
    let here : P q Direct = subst (λ (sh : Shape). P q sh) fits.1 (subst (λ (p : ℕ). P p shape) on plays) in
    made_right q h m is next (ask h q Direct a m) here (ask_right q h m a plain good fits.2)
event_right q h m (events.Guest p k) is next plain good entry on fits plays =
    let here : Plays h m (events.Guest q k) is next = subst (λ (p : ℕ). Plays h m (events.Guest p k) is next) on plays in
    made_right q h m is next (guest h q k m) here (guest_right q h m k plain good entry fits.1)
event_right q h m (events.Collect p) is next plain good entry on fits plays =
    let here : Plays h m (events.Collect q) is next = subst (λ (p : ℕ). Plays h m (events.Collect p) is next) on plays in
    made_right q h m is next (collect h q m) here (collect_right q h m plain good)
event_right q h m events.Boot is next plain good entry on fits plays = made_right q h m is next (boot m) plays (boot_right q h m plain good)
event_right q h m events.Join is next plain good entry on fits plays = made_right q h m is next (join m) plays (join_right q h m plain good)
event_right q h m events.Kill is next plain good entry on fits plays = made_right q h m is next (kill h m) plays (kill_right q h m plain good)
event_right q h m (events.Start p) is next plain good entry on fits plays =
    let here : Plays h m (events.Start q) is next = subst (λ (p : ℕ). Plays h m (events.Start p) is next) on plays in
    made_right q h m is next (single h q Start m) here (single_right q h Start m plain good)
event_right q h m (events.Fetch p) is next plain good entry on fits plays =
    let here : Plays h m (events.Fetch q) is next = subst (λ (p : ℕ). Plays h m (events.Fetch p) is next) on plays in
    made_right q h m is next (single h q Fetch m) here (single_right q h Fetch m plain good)
event_right q h m (events.Work p place) is next plain good entry on fits plays =
    let here : Plays h m (events.Work q place) is next = subst (λ (p : ℕ). Plays h m (events.Work p place) is next) on plays in
    made_right q h m is next (single h q (Work place) m) here (single_right q h (Work place) m plain good)
event_right q h m (events.Publish p most) is next plain good entry on fits plays =
    let here : Plays h m (events.Publish q most) is next = subst (λ (p : ℕ). Plays h m (events.Publish p most) is next) on plays in
    made_right q h m is next (single h q (Publish most) m) here (single_right q h (Publish most) m plain good)
event_right q h m (events.Turn p count) is next plain good entry on fits plays =
    let here : Plays h m (events.Turn q count) is next = subst (λ (p : ℕ). Plays h m (events.Turn p count) is next) on plays in
    made_right q h m is next (up_to count (any_choice h q) h q m) here (up_to_right q count (any_choice h q) h m plain good)
event_right q h m (events.Drain p) is next plain good entry on fits plays =
    let here : Plays h m (events.Drain q) is next = subst (λ (p : ℕ). Plays h m (events.Drain p) is next) on plays in
    drain_right q h m (drain_choice h q (accepted m.scene.past q)) is next plain good here
