-- The steps of a start and a fetch keep what holds, and so does the begin of a publication.
use Rattle.std.proofs.Common.{◌≡◌, ◌≤◌, ◌<◌, ℕ, true, false, List, [], ◌∷◌, ◌++◌, length, take, drop, refl, ap, sym, ◌∙◌, subst, inl, inr, arith, Bool}
use Rattle.std.specs.Prelude.{Option, Some, ◌+◌, ◌-◌, ◌||◌, if◌then◌else◌, nat_lt, slice_get, slice_index}
use Rattle.vub_base.specs.declared.store.Area.TheVariants.{I}
use Rattle.vub_shared.specs.Bytes.{Bytes, put}
use Rattle.vub_shared.proofs.BytesLemmas.{put_other}
use Rattle.vub_steps.specs.declared.steps.Step.{Step}
use Rattle.vub_driver.specs.Layout.{status_place, sectors_place}
use Rattle.vub_report.specs.declared.items.Item.{Item}
use Rattle.vub_report.specs.declared.items.Item.TheVariants as items
use Rattle.std.proofs.lemmas.Bool.Decides.{nat_tests}
use Rattle.std.proofs.lemmas.Bool.{cases_lt, cases_Bool, or_right}
use Rattle.std.proofs.lemmas.List.{length-drop, append-nil, length-take, take-append-drop}
use Rattle.vub_base.specs.declared.header.Header1.{Header1}
use Rattle.vub_steps.specs.declared.steps.Phase.{Phase}
use Rattle.vub_steps.specs.declared.steps.Phase.TheVariants as phases
use Rattle.vub_steps.specs.declared.readiness.Turn.TheVariants as turns
use Rattle.vub_device.specs.declared.entry.Entry.{Entry}
use Rattle.vub_device.specs.declared.entry.Entry.TheVariants as entries
use Rattle.vub_device.specs.Legal.{MayStart, MayAccept}
use Rattle.vub_device.specs.Past.{asked, accepted, published, is_among, open_numbers, started}
use Rattle.vub_device.specs.Places.{are_distinct}
use Rattle.vub_device.proofs.Numbers.{is_among_append}
use Rattle.vub_run.specs.Memory.{Scene}
use Rattle.vub_run.specs.Moments.{Lane}
use Rattle.vub_run.specs.Turns.{Turned, step_items, phase_turn, with_phase, begun, under_way, phase_goes_on, counted, next_counter_in}
use Rattle.vub_run_laws.proofs.RunOwn.{accepted_own, started_own, looks_start, acts_start, bytes_start, synced_start, faulted_start}
use Rattle.vub_run_laws.proofs.RunNumbers.{distinct_join}
use Rattle.vub_facts.proofs.HeadLemmas.{distinct_parts}
use Rattle.vub_run_laws.proofs.RunGood.{IsPending, StartIs, BetweenTurns, hidden, Worked, Stored, IsGood, buffer, pending_none}
use Rattle.vub_run_laws.proofs.RunHolds.{Holds, QueueFacts, fetching, FetchCounts, FetchAccepts, starting, steps_in, noted_at, StartStores, StartRings, StartEnds, NextStart, Stores, Rings, Ends}
use Rattle.vub_run_laws.proofs.RunEfforts.{weight, steps_left, effort, start_short, sum_below, sum_more, weight_small, sum_moved}
use Rattle.vub_run_laws.proofs.RunGuests.{holds_track}
use Rattle.vub_run_laws.proofs.RunWork.{Fine}
use Rattle.vub_run_laws.proofs.RunCarries.{all_hidden, carries_phase}
use Rattle.vub_run_laws.proofs.RunQueue.{queue_begins, queue_start, queue_start_begins, queue_start_step, queue_fetch_begins, queue_counts, queue_accepts}
use Rattle.vub_steps.specs.Readiness.{last_counter}
use Rattle.vub_run_laws.proofs.RingGood.{CountsLow}

-- the lane at rest
abbrev pub resting : Lane → Lane
resting l = record l { phase = phases.Rest; batch = [] }

pub rest_is : (l : Lane) → l.phase ≡ phases.Rest → l.batch ≡ [] → resting l ≡ l
rest_is l phase batch = ap (λ (p : Phase). record l { phase = p; batch = [] }) (sym phase) ∙ ap (λ (b : List ℕ). record l { batch = b }) (sym batch)

-- the lane in a start
pub start_is : (done : ℕ) (l : Lane) → l.phase ≡ phases.Start done → l.batch ≡ [] → starting done l ≡ l
start_is done l phase batch = ap (λ (p : Phase). record l { phase = p; batch = [] }) (sym phase) ∙ ap (λ (b : List ℕ). record l { batch = b }) (sym batch)

-- ---- start

-- a step before the last one: whatever is at rest but the phase is as it was
pub moving_worked : (q : ℕ) (past : List Entry) (batch completed : List ℕ) (made : ℕ → ℕ) (phase phase' : Phase) → BetweenTurns phase' → Worked q past phase batch completed made → Worked q past phase' batch completed made
moving_worked q past batch completed made phase phase' between w = record {
  distinct = w.distinct;
  opens = w.opens;
  untouched = w.untouched;
  progress = w.progress;
  full = w.full;
  pending = w.pending;
  quiet = w.quiet;
  between = between;
}

moving_holds : (q : ℕ) (h : Header1) (s : Scene) (l : Lane) (done : ℕ) → Holds q h s (starting done l) → QueueFacts q h s l.driver l.bell l.plan l.counter [] (phases.Start (done + 1)) → Holds q h s (starting (done + 1) l)
moving_holds q h s l done x queue = record {
  known = x.known;
  worked = moving_worked q s.past [] l.completed l.made (phases.Start done) (phases.Start (done + 1)) tt x.worked;
  carries = carries_phase q s.past l.counter l.counter (phases.Start done) (phases.Start (done + 1)) l.completed x.carries.low x.carries;
  stored = x.stored;
  queue = queue;
}

-- a store into the region leaves guest memory, and so what stands in buffers
pub noted_stored : (q : ℕ) (past : List Entry) (heads : List ℕ) (m : Bytes) (p : ℕ) (bs batch completed : List ℕ) (made : ℕ → ℕ) → Stored q past heads m batch completed made → Stored q past heads (put m 1 p bs) batch completed made
noted_stored q past heads m p bs batch completed made x = record {
  sectors = λ k i is_open kept read. put_other m 1 p bs 0 (sectors_place (buffer q heads k) + i) (inl (λ e. omega (arith, e))) ∙ x.sectors k i is_open kept read;
  status = λ k held. put_other m 1 p bs 0 (status_place (buffer q heads k)) (inl (λ e. omega (arith, e))) ∙ x.status k held;
}

noted_holds : (q : ℕ) (h : Header1) (s : Scene) (l : Lane) (done p : ℕ) (bs : List ℕ) → Holds q h s (starting done l) → QueueFacts q h (noted_at p bs s) l.driver l.bell l.plan l.counter [] (phases.Start (done + 1)) → Holds q h (noted_at p bs s) (starting (done + 1) l)
noted_holds q h s l done p bs x queue = record {
  known = x.known;
  worked = moving_worked q s.past [] l.completed l.made (phases.Start done) (phases.Start (done + 1)) tt x.worked;
  carries = carries_phase q s.past l.counter l.counter (phases.Start done) (phases.Start (done + 1)) l.completed x.carries.low x.carries;
  stored = noted_stored q s.past (s.heads q) s.memory p bs [] l.completed l.made x.stored;
  queue = queue;
}

start_worked : (q : ℕ) (past : List Entry) (list completed : List ℕ) (made : ℕ → ℕ) (phase : Phase) → started past q ≡ false → Worked q past phase [] completed made → Worked q (entries.Start q list ∷ past) phases.Rest [] completed made
start_worked q past list completed made phase stopped w =
    let none : (k : ℕ) → made k ≡ 0 = (w.quiet stopped).1.1 in record {
      distinct = w.distinct;
      opens = λ j held. record { taken = (w.opens j held).taken; unpublished = (w.opens j held).unpublished };
      untouched = w.untouched;
      progress = λ on k. record { fresh = λ e. (looks_start past q list k, (acts_start past q list k, (bytes_start past q list k, synced_start past q list k))); begun = λ some. absurd (let zero_made : made k ≡ 0 = none k in omega arith) };
      full = w.full;
      pending = λ j is_open out. w.pending j (record { taken = is_open.taken; unpublished = is_open.unpublished }) out;
      quiet = λ stops. absurd (let fails : true ≡ false = sym (started_own past q list) ∙ stops in cc);
      between = tt;
    }

start_holds : (q : ℕ) (h : Header1) (s : Scene) (l : Lane) (list : List ℕ) (done counter : ℕ) → started s.past q ≡ false → Holds q h s (starting done l) → counter ≤ accepted s.past q → QueueFacts q h (record s { past = entries.Start q list ∷ s.past }) l.driver l.bell l.plan counter [] phases.Rest
    → Holds q h (record s { past = entries.Start q list ∷ s.past }) (record (resting l) { counter = counter })
start_holds q h s l list done counter stopped x low queue = record {
  known = record {
    offers_are = x.known.offers_are;
    offered = x.known.offered;
    distinct = x.known.distinct;
    below = x.known.below;
    shown = x.known.shown;
    fewer = x.known.fewer;
    room = x.known.room;
    good = x.known.good;
    wide = x.known.wide;
    unfaulted = λ k. faulted_start s.past q list k;
    values = x.known.values;
  };
  worked = start_worked q s.past list l.completed l.made (phases.Start done) stopped x.worked;
  carries = record {
    distinct = x.carries.distinct;
    shown = λ k held out. absurd (let fails : false ≡ true = held in cc);
    quiet = λ stops. refl;
    low = low;
  };
  stored = record {
    sectors = λ k i is_open kept read. absurd (let zero_made : l.made k ≡ 0 = (x.worked.quiet stopped).1.1 k in omega (arith, kept.put));
    status = x.stored.status;
  };
  queue = queue;
}

-- what is left of a queue that isn't started, and of one that is
abbrev pub left_of : ℕ → Lane → Bool → ℕ
left_of n l runs = if runs then 0 else steps_left n l.bell l.plan l.phase

-- the turn of a step of a start, where more or none is left after it
abbrev start_turn : List Item → ℕ → Lane → Bool → Turned
start_turn is done l more = record { items = is; lane = with_phase (if more then phases.Start (done + 1) else phases.Rest) l }

abbrev StartFine : ℕ → Header1 → Scene → Lane → ℕ → Turned → Type 0
StartFine q h s l done t = Fine q h s (starting done l) t

-- as the step has it: its items, whether a step is left, and the counter
start_is_fine : (q : ℕ) (h : Header1) (s : Scene) (l : Lane) (done : ℕ) (step : Step) (is : List Item) (b : Bool) (x : Lane) → step_items h q (starting done l) step s ≡ is → nat_lt (done + 1) (length (steps_in h l)) ≡ b → counted (next_counter_in h q s) step (starting done l) ≡ x
    → StartFine q h s l done (start_turn is done x b) → StartFine q h s l done (phase_turn h q s (starting done l) (Some step))
start_is_fine q h s l done step is b x items_are more counts fine =
    let one : StartFine q h s l done (start_turn (step_items h q (starting done l) step s) done x b) = subst (λ (js : List Item). StartFine q h s l done (start_turn js done x b)) (sym items_are) fine in
    let two : StartFine q h s l done (start_turn (step_items h q (starting done l) step s) done x (nat_lt (done + 1) (length (steps_in h l)))) = subst (λ (t : Bool). StartFine q h s l done (start_turn (step_items h q (starting done l) step s) done x t)) (sym more) one in
    subst (λ (y : Lane). StartFine q h s l done (start_turn (step_items h q (starting done l) step s) done y (nat_lt (done + 1) (length (steps_in h l))))) (sym counts) two

stores_fine : (q : ℕ) (h : Header1) (s : Scene) (l : Lane) (done : ℕ) (step : Step) → IsGood h → started s.past q ≡ false → CountsLow q h s → Holds q h s (starting done l) → StartStores q h s l done step → StartFine q h s l done (phase_turn h q s (starting done l) (Some step))
stores_fine q h s l done step good stopped low x y =
    let holds : Holds q h (noted_at y.place y.bytes s) (starting (done + 1) l) = noted_holds q h s l done y.place y.bytes x y.queue in
    let more : nat_lt (done + 1) (length (steps_in h l)) ≡ true = let low : done + 1 < length (steps_in h l) = y.more in grind (arith, nat_tests) in
    let before : left_of h.size (starting done l) (started s.past q) ≡ length (steps_in h l) - done = ap (left_of h.size (starting done l)) stopped in
    let after : left_of h.size (starting (done + 1) l) (started s.past q) ≡ length (steps_in h l) - (done + 1) = ap (left_of h.size (starting (done + 1) l)) stopped in
    start_is_fine q h s l done step (items.Store y.tag I y.place y.bytes ∷ []) true (starting done l) y.stores more (y.counts (next_counter_in h q s) (starting done l)) (record {
      each = (inr (holds_track q h (noted_at y.place y.bytes s) (starting (done + 1) l) good holds), tt);
      holds = holds;
      legal = tt;
      idle = λ stops. record { stopped = stops; accepts = refl; counts = λ k is_open. omega (arith, y.kept (slice_index (s.heads q) k), low k (record { taken = is_open.taken; unpublished = is_open.unpublished })) };
      collects = refl;
      falls = omega (arith, before, after, y.more);
    })

rings_fine : (q : ℕ) (h : Header1) (s : Scene) (l : Lane) (done : ℕ) (step : Step) → IsGood h → started s.past q ≡ false → CountsLow q h s → Holds q h s (starting done l) → StartRings q h s l done step → StartFine q h s l done (phase_turn h q s (starting done l) (Some step))
rings_fine q h s l done step good stopped low x y =
    let holds : Holds q h s (starting (done + 1) l) = moving_holds q h s l done x y.queue in
    let more : nat_lt (done + 1) (length (steps_in h l)) ≡ true = let low : done + 1 < length (steps_in h l) = y.more in grind (arith, nat_tests) in
    let before : left_of h.size (starting done l) (started s.past q) ≡ length (steps_in h l) - done = ap (left_of h.size (starting done l)) stopped in
    let after : left_of h.size (starting (done + 1) l) (started s.past q) ≡ length (steps_in h l) - (done + 1) = ap (left_of h.size (starting (done + 1) l)) stopped in
    start_is_fine q h s l done step (items.Bell q ∷ []) true (starting done l) y.rings more (y.counts (next_counter_in h q s) (starting done l)) (record {
      each = (inr (holds_track q h s (starting (done + 1) l) good holds), tt);
      holds = holds;
      legal = tt;
      idle = λ stops. record { stopped = stops; accepts = refl; counts = low };
      collects = refl;
      falls = omega (arith, before, after, y.more);
    })

ends_fine : (q : ℕ) (h : Header1) (s : Scene) (l : Lane) (done : ℕ) (step : Step) → IsGood h → started s.past q ≡ false → CountsLow q h s → done < length (steps_in h l) → Holds q h s (starting done l) → StartEnds q h s l done step → StartFine q h s l done (phase_turn h q s (starting done l) (Some step))
ends_fine q h s l done step good stopped counts low x y =
    let list : List ℕ = open_numbers s.past q in
    let next : ℕ = next_counter_in h q s in
    let holds : Holds q h (record s { past = entries.Start q list ∷ s.past }) (record (resting l) { counter = next }) = start_holds q h s l list done next stopped x (y.low counts) y.queue in
    let may : MayStart s.past q list = record { stopped = stopped; resubmits = refl } in
    let none : nat_lt (done + 1) (length (steps_in h l)) ≡ false = let all : length (steps_in h l) ≤ done + 1 = y.none in grind (arith, nat_tests) in
    let before : left_of h.size (starting done l) (started s.past q) ≡ length (steps_in h l) - done = ap (left_of h.size (starting done l)) stopped in
    let after : left_of h.size (resting l) (started (entries.Start q list ∷ s.past) q) ≡ 0 = ap (left_of h.size (resting l)) (started_own s.past q list) in
    start_is_fine q h s l done step (items.Made (entries.Start q list) ∷ []) false (record (starting done l) { counter = next }) y.starts none (y.counts next (starting done l)) (record {
      each = (inr (holds_track q h (record s { past = entries.Start q list ∷ s.past }) (record (resting l) { counter = next }) good holds), tt);
      holds = holds;
      legal = (may, tt);
      idle = λ stops. absurd (let fails : true ≡ false = sym (started_own s.past q list) ∙ stops in cc);
      collects = refl;
      falls = omega (arith, before, after, low);
    })

-- the next step of a start that is under way
pub start_goes_on : (q : ℕ) (h : Header1) (s : Scene) (l : Lane) (done : ℕ) → IsGood h → started s.past q ≡ false → CountsLow q h s → done < length (steps_in h l) → Holds q h s (starting done l) → StartFine q h s l done (phase_goes_on h q s (starting done l))
start_goes_on q h s l done good stopped counts low x = go (slice_get (steps_in h l) done) (queue_start_step q h s l done good.size x.queue)
  where
    go : (o : Option Step) → NextStart q h s l done o → StartFine q h s l done (phase_turn h q s (starting done l) o)
    go o (Stores step is y) = subst (λ (p : Option Step). StartFine q h s l done (phase_turn h q s (starting done l) p)) (sym is) (stores_fine q h s l done step good stopped counts x y)
    go o (Rings step is y) = subst (λ (p : Option Step). StartFine q h s l done (phase_turn h q s (starting done l) p)) (sym is) (rings_fine q h s l done step good stopped counts x y)
    go o (Ends step is y) = subst (λ (p : Option Step). StartFine q h s l done (phase_turn h q s (starting done l) p)) (sym is) (ends_fine q h s l done step good stopped counts low x y)

-- the lane in which a start begins
abbrev planned : ℕ → Header1 → Scene → Lane → Lane
planned q h s l = begun h q s turns.Start (resting l)

planned_holds : (q : ℕ) (h : Header1) (s : Scene) (l : Lane) → started s.past q ≡ false → Holds q h s (resting l) → Holds q h s (starting 0 (planned q h s l))
planned_holds q h s l stopped x = record {
  known = x.known;
  worked = moving_worked q s.past [] l.completed l.made phases.Rest (phases.Start 0) tt x.worked;
  carries = carries_phase q s.past l.counter l.counter phases.Rest (phases.Start 0) l.completed x.carries.low x.carries;
  stored = x.stored;
  queue = queue_start_begins q h s l.driver l.bell l.plan l.counter stopped x.queue;
}

-- a start begins with its first step
pub start_fine : (q : ℕ) (h : Header1) (s : Scene) (l : Lane) → IsGood h → started s.past q ≡ false → CountsLow q h s → Holds q h s (resting l) → Fine q h s (resting l) (phase_goes_on h q s (under_way h q s turns.Start (resting l)))
start_fine q h s l good stopped counts x =
    let l' : Lane = planned q h s l in
    let begins : Holds q h s (starting 0 l') = planned_holds q h s l stopped x in
    let start : StartIs (started s.past q) h.size l'.bell l'.plan (phases.Start 0) = queue_start q h s (starting 0 l') begins in
    let from_there : StartFine q h s l' 0 (phase_goes_on h q s (starting 0 l')) = start_goes_on q h s l' 0 good stopped counts start.left begins in
    let before : left_of h.size (resting l) (started s.past q) ≡ h.size + 4 = ap (left_of h.size (resting l)) stopped in
    let after : left_of h.size (starting 0 l') (started s.past q) ≡ length (steps_in h l') - 0 = ap (left_of h.size (starting 0 l')) stopped in
    record {
      each = from_there.each;
      holds = from_there.holds;
      legal = from_there.legal;
      idle = from_there.idle;
      collects = from_there.collects;
      falls = omega (arith, from_there.falls, before, after, start_short h.size l'.bell l'.plan start.few);
    }

-- ---- fetch

accept_worked : (q : ℕ) (past : List Entry) (k : ℕ) (batch completed : List ℕ) (made : ℕ → ℕ) (phase : Phase) → Worked q past phase batch completed made → Worked q (entries.Accept q k ∷ past) phase batch completed made
accept_worked q past k batch completed made phase w = record {
  distinct = w.distinct;
  opens = λ j held. record { taken = omega (arith, (w.opens j held).taken, accepted_own past q k); unpublished = (w.opens j held).unpublished };
  untouched = λ j high. w.untouched j (omega (arith, high, accepted_own past q k));
  progress = w.progress;
  full = w.full;
  pending = λ j is_open out. elim (cases_lt j (accepted past q)) [
    | inl low ↦ w.pending j (record { taken = low; unpublished = is_open.unpublished }) out
    | inr high ↦ subst (λ (c : ℕ). IsPending c (asked past q j)) (sym (w.untouched j high)) (pending_none (asked past q j))
  ];
  quiet = w.quiet;
  between = w.between;
}

-- the first step stores the counter
count_fine : (q : ℕ) (h : Header1) (s : Scene) (l : Lane) → IsGood h → started s.past q ≡ true → Holds q h s (resting l) → FetchCounts q h s l → Fine q h s (resting l) (phase_goes_on h q s (fetching 0 l))
count_fine q h s l good run x y =
    let l' : Lane = record (fetching 1 l) { counter = l.counter + 1 } in
    let s' : Scene = noted_at y.place y.bytes s in
    let holds : Holds q h s' l' = record {
      known = x.known;
      worked = moving_worked q s.past [] l.completed l.made phases.Rest (phases.Fetch 1) refl x.worked;
      carries = carries_phase q s.past l.counter (l.counter + 1) phases.Rest (phases.Fetch 1) l.completed (omega (arith, x.carries.low)) x.carries;
      stored = noted_stored q s.past (s.heads q) s.memory y.place y.bytes [] l.completed l.made x.stored;
      queue = y.queue;
    } in
    let fine : Fine q h s (resting l) (record { items = items.Store y.tag I y.place y.bytes ∷ []; lane = l' }) = record {
      each = (inr (holds_track q h s' l' good holds), tt);
      holds = holds;
      legal = tt;
      idle = λ stopped. absurd (let fails : true ≡ false = sym run ∙ stopped in cc);
      collects = refl;
      falls = omega (arith, ap (left_of h.size l') run, ap (left_of h.size (resting l)) run);
    } in
    subst (λ (is : List Item). Fine q h s (resting l) (record { items = is; lane = l' })) (sym y.stores) fine

pub fetch_fine : (q : ℕ) (h : Header1) (s : Scene) (l : Lane) → IsGood h → started s.past q ≡ true → accepted s.past q < length (s.heads q) → l.counter < last_counter → Holds q h s (resting l) → Fine q h s (resting l) (phase_goes_on h q s (under_way h q s turns.Fetch (resting l)))
fetch_fine q h s l good run more low x = count_fine q h s l good run x (queue_counts q h s l good.size run (queue_fetch_begins q h s l.driver l.bell l.plan l.counter good.size run x.known more low x.queue))

-- the second one accepts
accept_holds : (q : ℕ) (h : Header1) (s : Scene) (l : Lane) → started s.past q ≡ true → Holds q h s (fetching 1 l) → (y : FetchAccepts q h s l) → Holds q h (record (noted_at y.place y.bytes s) { past = entries.Accept q (accepted s.past q) ∷ s.past }) (resting l)
accept_holds q h s l run x y =
    let k : ℕ = accepted s.past q in
    let stored = noted_stored q s.past (s.heads q) s.memory y.place y.bytes [] l.completed l.made x.stored in
    record {
      known = record {
        offers_are = x.known.offers_are;
        offered = omega (arith, y.more, accepted_own s.past q k);
        distinct = x.known.distinct;
        below = λ j held. omega (arith, x.known.below j held, accepted_own s.past q k);
        shown = x.known.shown;
        fewer = omega (arith, x.known.fewer, accepted_own s.past q k);
        room = x.known.room;
        good = x.known.good;
        wide = x.known.wide;
        unfaulted = x.known.unfaulted;
        values = x.known.values;
      };
      worked = moving_worked q (entries.Accept q k ∷ s.past) [] l.completed l.made (phases.Fetch 1) phases.Rest tt (accept_worked q s.past k [] l.completed l.made (phases.Fetch 1) x.worked);
      carries = record {
        distinct = x.carries.distinct;
        shown = λ j held out. absurd (let fails : false ≡ true = held in cc);
        quiet = λ stopped. refl;
        low = omega (arith, x.carries.low, accepted_own s.past q k);
      };
      stored = record {
        sectors = λ j i is_open kept read. stored.sectors j i (record {
          taken = elim (cases_lt j k) [
            | inl low ↦ low
            | inr high ↦ absurd (let none : l.made j ≡ 0 = x.worked.untouched j high in omega (arith, kept.put))
          ];
          unpublished = is_open.unpublished;
        }) kept read;
        status = stored.status;
      };
      queue = y.queue;
    }

accepts_fine : (q : ℕ) (h : Header1) (s : Scene) (l : Lane) → IsGood h → started s.past q ≡ true → Holds q h s (fetching 1 l) → FetchAccepts q h s l → Fine q h s (fetching 1 l) (phase_goes_on h q s (fetching 1 l))
accepts_fine q h s l good run x y =
    let k : ℕ = accepted s.past q in
    let s' : Scene = record (noted_at y.place y.bytes s) { past = entries.Accept q k ∷ s.past } in
    let holds : Holds q h s' (resting l) = accept_holds q h s l run x y in
    let may : MayAccept s.past q k = record { started = run; next = refl; offered = omega (arith, y.more, x.known.offers_are) } in
    let w : ℕ → ℕ = weight (published s.past q) (l.completed ++ []) l.made in
    let fine : Fine q h s (fetching 1 l) (record { items = items.Store y.tag I y.place y.bytes ∷ items.Made (entries.Accept q k) ∷ []; lane = resting l }) = record {
      each = (inl tt, (inr (holds_track q h s' (resting l) good holds), tt));
      holds = holds;
      legal = (may, tt);
      idle = λ stopped. absurd (let fails : true ≡ false = sym run ∙ stopped in cc);
      collects = refl;
      falls = omega (arith, y.more, ap (left_of h.size (resting l)) run, ap (left_of h.size (fetching 1 l)) run, accepted_own s.past q k, ap (sum_below w) (accepted_own s.past q k), sum_more w k, weight_small (published s.past q) (l.completed ++ []) l.made k);
    } in
    subst (λ (is : List Item). Fine q h s (fetching 1 l) (record { items = is; lane = resting l })) (sym y.stores) fine

pub accept_fine : (q : ℕ) (h : Header1) (s : Scene) (l : Lane) → IsGood h → started s.past q ≡ true → Holds q h s (fetching 1 l) → Fine q h s (fetching 1 l) (phase_goes_on h q s (fetching 1 l))
accept_fine q h s l good run x = accepts_fine q h s l good run x (queue_accepts q h s l good.size run x.known x.queue)

-- ---- a batch is taken

abbrev pub taking : ℕ → Lane → Lane
taking most l = record l { phase = phases.Publish 0; batch = take most l.completed; completed = drop most l.completed }

pub swap_among : (most : ℕ) (xs : List ℕ) (k : ℕ) → is_among (drop most xs ++ take most xs) k ≡ is_among (xs ++ []) k
swap_among most xs k =
    let left : is_among (drop most xs ++ take most xs) k ≡ (is_among (drop most xs) k || is_among (take most xs) k) = is_among_append (drop most xs) (take most xs) k in
    let right : is_among (take most xs ++ drop most xs) k ≡ (is_among (take most xs) k || is_among (drop most xs) k) = is_among_append (take most xs) (drop most xs) k in
    let whole : is_among (take most xs ++ drop most xs) k ≡ is_among (xs ++ []) k = ap (λ (ys : List ℕ). is_among ys k) (take-append-drop most xs ∙ sym (append-nil xs)) in
    let flip : (is_among (drop most xs) k || is_among (take most xs) k) ≡ (is_among (take most xs) k || is_among (drop most xs) k) = grind (arith, nat_tests) in
    left ∙ flip ∙ sym right ∙ whole

swap_distinct : (most : ℕ) (xs : List ℕ) → are_distinct (xs ++ []) ≡ true → are_distinct (drop most xs ++ take most xs) ≡ true
swap_distinct most xs d =
    let whole : are_distinct (take most xs ++ drop most xs) ≡ true = ap are_distinct (take-append-drop most xs ∙ sym (append-nil xs)) ∙ d in
    let parts = distinct_parts (take most xs) (drop most xs) whole in
    distinct_join (drop most xs) (take most xs) parts.second parts.first (λ k held. elim (cases_Bool (is_among (drop most xs) k)) [
      | inl there ↦ let out : is_among (take most xs) k ≡ false = parts.apart k there in absurd (let fails : true ≡ false = sym held ∙ out in cc)
      | inr out ↦ out
    ])

pub taking_holds : (q : ℕ) (h : Header1) (s : Scene) (l : Lane) (most : ℕ) → 0 < most → 0 < length l.completed → started s.past q ≡ true → Holds q h s (resting l) → Holds q h s (taking most l)
taking_holds q h s l most some any run x =
    let batch : List ℕ = take most l.completed in
    let rest : List ℕ = drop most l.completed in
    let all : hidden batch (phases.Publish 0) ≡ batch = all_hidden batch 0 (omega arith) in
    let same : (k : ℕ) → is_among (rest ++ batch) k ≡ true → is_among (l.completed ++ []) k ≡ true = λ k held. sym (swap_among most l.completed k) ∙ held in
    let distinct : are_distinct (rest ++ batch) ≡ true = swap_distinct most l.completed x.worked.distinct in
    let worked : Worked q s.past (phases.Publish 0) batch rest l.made = record {
      distinct = distinct;
      opens = λ k held. x.worked.opens k (same k held);
      untouched = x.worked.untouched;
      progress = x.worked.progress;
      full = λ k held. x.worked.full k (same k held);
      pending = λ k is_open out. x.worked.pending k is_open (sym (swap_among most l.completed k) ∙ out);
      quiet = λ stopped. absurd (let fails : true ≡ false = sym run ∙ stopped in cc);
      between = tt;
    } in
    let stored : Stored q s.past (s.heads q) s.memory batch rest l.made = record {
      sectors = x.stored.sectors;
      status = λ k held. x.stored.status k (same k held);
    } in
    record {
      known = x.known;
      worked = subst (λ (ks : List ℕ). Worked q s.past (phases.Publish 0) ks rest l.made) (sym all) worked;
      carries = record {
        distinct = distinct;
        shown = λ k held out. absurd (let fails : true ≡ false = sym held ∙ ap (λ (ks : List ℕ). is_among ks k) (sym all) ∙ out in cc);
        quiet = λ stopped. absurd (let fails : true ≡ false = sym run ∙ stopped in cc);
        low = x.carries.low;
      };
      stored = subst (λ (ks : List ℕ). Stored q s.past (s.heads q) s.memory ks rest l.made) (sym all) stored;
      queue = queue_begins q h s l.driver l.bell l.plan l.counter batch run x.known (omega (arith, some, any, length-take most l.completed)) (distinct_parts rest batch distinct).second (λ k held.
          x.worked.opens k (same k (is_among_append rest batch k ∙ or_right (is_among rest k) (is_among batch k) held))) x.queue;
    }

-- and what is left to do grows by no more than the store that follows
pub taking_effort : (q n : ℕ) (past : List Entry) (offered most : ℕ) (l : Lane) → 0 < most → 0 < length l.completed → effort q n past offered (taking most l) ≤ effort q n past offered (resting l)
taking_effort q n past offered most l some any =
    let batch : List ℕ = take most l.completed in
    let rest : List ℕ = drop most l.completed in
    let all : hidden batch (phases.Publish 0) ≡ batch = all_hidden batch 0 (omega arith) in
    let same : (k : ℕ) → is_among (rest ++ hidden batch (phases.Publish 0)) k ≡ is_among (l.completed ++ []) k = λ k. ap (λ (ks : List ℕ). is_among (rest ++ ks) k) all ∙ swap_among most l.completed k in
    omega (arith, length-take most l.completed, length-drop most l.completed, sum_moved (published past q) (l.completed ++ []) (rest ++ hidden batch (phases.Publish 0)) l.made (accepted past q) same)
