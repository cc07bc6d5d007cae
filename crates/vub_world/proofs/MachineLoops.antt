-- Where the machine stands in the middle of some turns, and at their end.
use Rattle.std.proofs.Common.{◌≡◌, ◌≢◌, ◌≤◌, ◌<◌, ℕ, suc, ◌+◌, ◌-◌, ◌*◌, Bool, true, false, List, [], ◌++◌, length, refl, ap, sym, ◌∙◌, subst, inl, inr, arith}
use Rattle.std.specs.Prelude.{Option, Some, None, nat_lt, min}
use Rattle.std.proofs.lemmas.Bool.Decides.{nat_tests}
use Rattle.std.proofs.lemmas.Bool.{cases_eq}
use Rattle.std.proofs.lemmas.List.{append-nil, append_assoc, length-map}
use Rattle.vub_base.specs.declared.header.Header1.{Header1}
use Rattle.vub_steps.specs.declared.readiness.Turn.{Turn}
use Rattle.vub_steps.specs.Readiness.{drain_turn}
use Rattle.vub_device.specs.Past.{accepted, collected}
use Rattle.vub_schedule.specs.declared.types.Event.{Event}
use Rattle.vub_world.specs.DriverSides.{Parts, setup_of}
use Rattle.vub_report.specs.declared.items.Item.{Item}
use Rattle.vub_report.specs.declared.items.Record.{Record}
use Rattle.vub_setup.specs.Setups.{SplitSetup}
use Rattle.vub_room.specs.Rooms.{RoomState, HasTurnRoom, HasRoom, SpendsStep}
use Rattle.vub_world.specs.MachineAt.{PartsAt, LifeAt, AttachedAt, IsReached}
use Rattle.vub_world.specs.MachineDevice.{shown_in, queue_shows}
use Rattle.vub_world.specs.declared.device.Sequence.{Sequence}
use Rattle.vub_world.specs.declared.device.Sequence.TheVariants as sequences
use Rattle.vub_world.specs.Sequences.{next_turn, choices_from, most_turns}
use Rattle.vub_world.specs.MachineSteps.{StepGoes, TurnsGo, turns_besides}
use Rattle.vub_run.specs.Moments.{Moment, standing}
use Rattle.vub_queue_in_run.specs.QueueAt.{QueueStands, spot_of}
use Rattle.vub_queue.specs.QueueState.{QueueState}
use Rattle.vub_run.specs.Run.{Stands, Played, turns, one_turn, is_due, then_played}
use Rattle.vub_world.proofs.MachineRooms.{shown_by, lane_shows, chosen_shows, undone, shown_undone}
use Rattle.vub_run_laws.proofs.RunChainsTurns.{turn_gentle}
use Rattle.vub_run_laws.proofs.RunEnds.{effort_at, effort_small, turn_falls, turns_more}
use Rattle.vub_run_laws.proofs.RunTurns.{IsPlain, Good}
use Rattle.vub_run_laws.proofs.Runs.{plain_header}
use Rattle.vub_run_laws.proofs.RunsTo.{stands_good, stands_turns}

-- ---- what a life shows, and what its lane shows

batch_same : (q : ℕ) (h : Header1) (setup : SplitSetup) (m : Moment) (queue : QueueState) → QueueStands q h setup m queue → length queue.batch ≡ length (m.lanes q).batch
batch_same q h setup m queue s = ap (λ (xs : List (ℕ × ℕ)). length xs) s.phase.batch ∙ length-map (m.lanes q).batch (spot_of q h m.scene.past (m.scene.heads q))

queue_shows_is : (q : ℕ) (h : Header1) (setup : SplitSetup) (m : Moment) (queue : QueueState) → QueueStands q h setup m queue → queue_shows (Some queue) ≡ lane_shows (m.lanes q)
queue_shows_is q h setup m queue s =
    ap (λ (n : ℕ). shown_by n queue.bell queue.phase) (batch_same q h setup m queue s) ∙ ap (λ (b : Bool). shown_by (length (m.lanes q).batch) b queue.phase) s.phase.bell ∙ ap (shown_by (length (m.lanes q).batch) (m.lanes q).bell) s.at.phase

pub shown_is : (q : ℕ) (h : Header1) (setup : SplitSetup) (m : Moment) (life : Option (Option QueueState)) → Good q h m → LifeAt q h setup m life → (m.lanes q).attached ≡ true → shown_in life ≡ lane_shows (m.lanes q)
shown_is q h setup m None good at attached = absurd (let asleep : (m.lanes q).attached ≡ false = (good.asleep at).0 in let both : true ≡ false = sym attached ∙ asleep in cc)
shown_is q h setup m (Some l) good at attached = go l at.1
  where
    go : (queue : Option QueueState) → AttachedAt q h setup m queue → queue_shows queue ≡ lane_shows (m.lanes q)
    go None at = absurd (let both : true ≡ false = sym attached ∙ at.1 in cc)
    go (Some queue) at = queue_shows_is q h setup m queue at.2

-- what the next step shows is not published yet
pub shown_few : (q : ℕ) (h : Header1) (setup : SplitSetup) (m : Moment) (life : Option (Option QueueState)) → Good q h m → LifeAt q h setup m life → shown_in life ≤ undone q m
shown_few q h setup m None good at = omega arith
shown_few q h setup m (Some l) good at = go l at.1
  where
    go : (queue : Option QueueState) → AttachedAt q h setup m queue → queue_shows queue ≤ undone q m
    go None at = omega arith
    go (Some queue) at = omega (arith, queue_shows_is q h setup m queue at.2, shown_undone q h m good)

-- ---- the loop

-- so many turns from m on
abbrev pub so_far : ℕ → Header1 → Sequence → Moment → ℕ → Played
so_far q h sequence m done = turns done (choices_from q h sequence m) h q m

-- so many turns were made from m on, and there is room for most in all
pub record TurnsAre (q : ℕ) (h : Header1) (sequence : Sequence) (m : Moment) (most done : ℕ) (now : Parts) (before after : List Item) (taken : ℕ) (r : RoomState) (p : Played) : Type 0 where
  pub at : PartsAt q now p.next
  pub items_are : after ≡ before ++ p.items
  pub begun : 0 < done → is_due h q (choices_from q h sequence m m) m ≡ true
  pub taken_is : taken + accepted m.scene.past q ≡ accepted p.next.scene.past q
  pub heads_are : p.next.scene.heads q ≡ m.scene.heads q
  pub falls : done + effort_at q h p.next ≤ effort_at q h m
  pub room : done < most → HasRoom (most - done) (undone q p.next) r

abbrev pub TurnsAt : ℕ → Header1 → Sequence → Moment → ℕ → ℕ → Parts → List Item → List Item → ℕ → RoomState → Type 0
TurnsAt q h sequence m most done now before after taken r = TurnsAre q h sequence m most done now before after taken r (so_far q h sequence m done)

-- at their begin
pub turns_begin : (q : ℕ) (h : Header1) (sequence : Sequence) (m : Moment) (w : Parts) (items : List Item) (most undone_all : ℕ) (r : RoomState) → PartsAt q w m → undone q m ≤ undone_all → HasRoom most undone_all r → TurnsAt q h sequence m most 0 w items items 0 r
turns_begin q h sequence m w items most all r at few room = record {
  at = at;
  items_are = sym (append-nil items);
  begun = λ some. absurd (omega arith);
  taken_is = omega arith;
  heads_are = refl;
  falls = omega arith;
  room = λ some. record {
    items = omega (arith, room.items);
    lists = omega (arith, few, room.lists);
    answer_lists = omega (arith, few, room.answer_lists);
    answers = omega (arith, few, room.answers);
  };
}

-- what is offered and not published is outstanding
pub undone_few : (q : ℕ) (h : Header1) (m : Moment) (w : Parts) → Good q h m → PartsAt q w m → undone q m ≤ w.side.outstanding.offered - w.side.outstanding.collected
undone_few q h m w good at =
    let shown = good.holds.known.shown in
    omega (arith, shown, at.outstanding.offers_are, at.outstanding.collects_are)

-- the moments of turns are reached
pub reached : (q : ℕ) (h : Header1) (sequence : Sequence) (es : List Event) (rs : List Record) (m : Moment) (done : ℕ) → q < h.queues → Stands h es rs m → IsReached q h (so_far q h sequence m done).next
reached q h sequence es rs m done low stands = record { events = es; records = rs; from = m; stands = stands; exists = low; count = done; choose = choices_from q h sequence m; is = refl }

taken_few : (q : ℕ) (h : Header1) (m n : Moment) (taken : ℕ) → IsPlain h → Good q h m → Good q h n → n.scene.heads q ≡ m.scene.heads q → taken + accepted m.scene.past q ≡ accepted n.scene.past q → taken ≤ 64
taken_few q h m n taken plain good later heads is =
    let few : h.size ≤ 64 = plain.good.size.small in
    let old = good.holds.known in
    let new = later.holds.known in
    let room : length (m.scene.heads q) ≤ h.size + collected m.scene.past q = old.room in
    let offered : accepted n.scene.past q ≤ length (n.scene.heads q) = new.offered in
    let same : length (n.scene.heads q) ≡ length (m.scene.heads q) = ap (λ (xs : List ℕ). length xs) heads in
    omega (arith, few, room, offered, same, is, old.shown, old.fewer)

pub turns_taken : (q : ℕ) (h : Header1) (sequence : Sequence) (es : List Event) (rs : List Record) (m : Moment) (most done : ℕ) (now : Parts) (before after : List Item) (taken : ℕ) (r : RoomState) → q < h.queues → Stands h es rs m → TurnsAt q h sequence m most done now before after taken r → taken < 65535
turns_taken q h sequence es rs m most done now before after taken r low stands d =
    let both = stands_turns q h es rs m done (choices_from q h sequence m) low stands in
    omega (arith, taken_few q h m (so_far q h sequence m done).next taken (plain_header h stands.header) (stands_good q h es rs m low stands) both.0 d.heads_are d.taken_is)

-- the turn that comes next in the machine is the next sequence
turn_is : (q : ℕ) (h : Header1) (sequence : Sequence) (m n : Moment) (taken : ℕ) → taken + accepted m.scene.past q ≡ accepted n.scene.past q → next_turn q h sequence taken n ≡ choices_from q h sequence m n
turn_is q h (sequences.Once t) m n taken is = refl
turn_is q h (sequences.UpTo count) m n taken is = refl
turn_is q h sequences.Drain m n taken is = ap (λ (a : ℕ). drain_turn h.size a (standing h q n)) (let same : taken ≡ accepted n.scene.past q - accepted m.scene.past q = omega (arith, is) in same)

-- how many turns a machine reserves for, where so many are asked for
abbrev pub room_of : ℕ → Parts → ℕ
room_of count w = min count (27 * (w.side.outstanding.offered - w.side.outstanding.collected) + turns_besides w.side.header.size)

-- for a single turn that is at most one
pub once_few : (sequence : Sequence) (w : Parts) (t : Turn) → sequence ≡ sequences.Once t → room_of (most_turns sequence) w ≤ 1
once_few sequence w t is = let one : most_turns sequence ≡ 1 = ap most_turns is in omega (arith, one)

-- few belong to no one request
pub besides_small : (n : ℕ) → n ≤ 64 → turns_besides n ≤ 71
besides_small n few = omega (arith, few)

-- there is room for one turn more: for as many as are asked for, or for all that can follow
pub room_left : (q : ℕ) (h : Header1) (sequence : Sequence) (es : List Event) (rs : List Record) (m : Moment) (count undone_all besides done : ℕ) (now : Parts) (before after : List Item) (taken : ℕ) (r : RoomState) → q < h.queues → Stands h es rs m → undone q m ≤ undone_all → effort_at q h m + 1 ≤ 27 * undone q m + besides → done < count
    → TurnsAt q h sequence m (min count (27 * undone_all + besides)) done now before after taken r → done < min count (27 * undone_all + besides)
room_left q h sequence es rs m count all besides done now before after taken r low stands few bound more d =
    omega (arith, bound, few, more, d.falls)

pub turn_room : (q : ℕ) (h : Header1) (sequence : Sequence) (es : List Event) (rs : List Record) (m : Moment) (most done : ℕ) (now : Parts) (before after : List Item) (taken : ℕ) (r : RoomState) → q < h.queues → Stands h es rs m → now.side.header ≡ h → done < most
    → TurnsAt q h sequence m most done now before after taken r → HasTurnRoom (shown_in now.life) r
turn_room q h sequence es rs m most done now before after taken r low stands same left d =
    let n : Moment = (so_far q h sequence m done).next in
    let good = (stands_turns q h es rs m done (choices_from q h sequence m) low stands).0 in
    let life : LifeAt q h (setup_of now.side) n now.life = subst (λ (k : Header1). LifeAt q k (setup_of now.side) n now.life) same d.at.life in
    let not_yet = shown_few q h (setup_of now.side) n now.life good life in record {
      items = omega (arith, left, (d.room left).items);
      lists = omega (arith, left, (d.room left).lists, not_yet);
      answer_lists = omega (arith, left, (d.room left).answer_lists);
      answers = omega (arith, (d.room left).answers, not_yet);
    }

-- the room after one turn more, which shows so many answers
room_after : (left undone_now undone_next shown : ℕ) (r r' : RoomState) → undone_next + shown ≤ undone_now → HasRoom (suc left) undone_now r → SpendsStep shown r r' → HasRoom left undone_next r'
room_after left now next shown r r' fewer room spent = record {
  items = omega (arith, room.items, spent.item_room);
  lists = omega (arith, fewer, room.lists, spent.lists_left);
  answer_lists = omega (arith, fewer, room.answer_lists, spent.answer_lists);
  answers = omega (arith, fewer, room.answers, spent.answers);
}

-- one turn more
pub turns_go_on : (q : ℕ) (h : Header1) (sequence : Sequence) (es : List Event) (rs : List Record) (m : Moment) (most done : ℕ) (now next : Parts) (before after after' : List Item) (taken taken' : ℕ) (r r' : RoomState) → q < h.queues → Stands h es rs m → now.side.header ≡ h → ((t : Turn) → sequence ≡ sequences.Once t → most ≤ 1) → done < most
    → TurnsAt q h sequence m most done now before after taken r → StepGoes q true (next_turn q now.side.header sequence taken (so_far q h sequence m done).next) now next (so_far q h sequence m done).next after after' taken taken' → SpendsStep (shown_in now.life) r r'
    → TurnsAt q h sequence m most (suc done) next before after' taken' r'
turns_go_on q h sequence es rs m most done now next before after after' taken taken' r r' low stands same once left d step spent =
    let n : Moment = (so_far q h sequence m done).next in
    let plain = plain_header h stands.header in
    let good = (stands_turns q h es rs m done (choices_from q h sequence m) low stands).0 in
    let t : Turn = choices_from q h sequence m n in
    let is : next_turn q h sequence taken n ≡ t = turn_is q h sequence m n taken d.taken_is in
    let chosen : next_turn q now.side.header sequence taken n ≡ t = ap (λ (k : Header1). next_turn q k sequence taken n) same ∙ is in
    let went : StepGoes q true t now next n after after' taken taken' = subst (λ (u : Turn). StepGoes q true u now next n after after' taken taken') chosen step in
    let due : is_due h q t n ≡ true = subst (λ (k : Header1). is_due k q t n ≡ true) same went.0 in
    let at : PartsAt q next (one_turn h q t n).next = subst (λ (k : Header1). PartsAt q next (one_turn k q t n).next) same went.1 in
    let items_are : after' ≡ after ++ (one_turn h q t n).items = subst (λ (k : Header1). after' ≡ after ++ (one_turn k q t n).items) same went.2 in
    let taken_are : taken' + accepted n.scene.past q ≡ taken + accepted (one_turn h q t n).next.scene.past q = subst (λ (k : Header1). taken' + accepted n.scene.past q ≡ taken + accepted (one_turn k q t n).next.scene.past q) same went.3 in
    let attached : (n.lanes q).attached ≡ true = grind (arith, nat_tests) in
    let life : LifeAt q h (setup_of now.side) n now.life = subst (λ (k : Header1). LifeAt q k (setup_of now.side) n now.life) same d.at.life in
    let shown : shown_in now.life ≡ lane_shows (n.lanes q) = shown_is q h (setup_of now.side) n now.life good life attached in
    let heads : (one_turn h q t n).next.scene.heads q ≡ n.scene.heads q = (turn_gentle q h t n plain good).heads in
    let many : length ((one_turn h q t n).next.scene.heads q) ≡ length (n.scene.heads q) = ap (λ (xs : List ℕ). length xs) heads in
    let falls = turn_falls q h t n plain good due in
    let more : so_far q h sequence m (suc done) ≡ then_played (so_far q h sequence m done) (one_turn h q t n) = turns_more q done (choices_from q h sequence m) h m due in
    let later : Good q h (one_turn h q t n).next = subst (λ (p : Played). Good q h p.next) more (stands_turns q h es rs m (suc done) (choices_from q h sequence m) low stands).0 in
    let some_shown = later.holds.known.fewer in
    let all_taken = later.holds.known.offered in
    let fewer : suc done < most → undone q (one_turn h q t n).next + shown_in now.life ≤ undone q n = λ more.
    let shows = chosen_shows q h n sequence taken (λ u is_once. let e : ⊥ = omega (arith, more, once u is_once) in e) good t (sym is) in
    omega (arith, shows, many, shown, some_shown, all_taken) in
    let one_left : suc (most - suc done) ≡ most - done = omega (arith, left) in
    let start : is_due h q (choices_from q h sequence m m) m ≡ true = elim (cases_eq done 0) [
      | inl none ↦ subst (λ (x : ℕ). is_due h q (choices_from q h sequence m (so_far q h sequence m x).next) (so_far q h sequence m x).next ≡ true) none due
      | inr some ↦ d.begun (omega (arith, some))
    ] in
    subst (λ (p : Played). TurnsAre q h sequence m most (suc done) next before after' taken' r' p) (sym more) (record {
      at = at;
      items_are = items_are ∙ ap (λ (is : List Item). is ++ (one_turn h q t n).items) d.items_are ∙ append_assoc before (so_far q h sequence m done).items (one_turn h q t n).items;
      begun = λ some. start;
      taken_is = omega (arith, taken_are, d.taken_is);
      heads_are = heads ∙ d.heads_are;
      falls = omega (arith, falls, d.falls);
      room = λ more. room_after (most - suc done) (undone q n) (undone q (one_turn h q t n).next) (shown_in now.life) r r' (fewer more) (subst (λ (k : ℕ). HasRoom k (undone q n) r) (sym one_left) (d.room left)) spent;
    })

-- ---- the end

-- what the loop knows of its event
pub record EndsAt (q : ℕ) (h : Header1) (sequence : Sequence) (es : List Event) (rs : List Record) (m : Moment) (most done : ℕ) (now : Parts) (before after : List Item) (taken : ℕ) (r : RoomState) : Type 0 where
  pub low : q < h.queues
  pub stands : Stands h es rs m
  pub same : now.side.header ≡ h
  pub here : TurnsAt q h sequence m most done now before after taken r

-- turns never are many
turns_few : (q : ℕ) (h : Header1) (sequence : Sequence) (es : List Event) (rs : List Record) (m : Moment) (most done : ℕ) (now : Parts) (before after : List Item) (taken : ℕ) (r : RoomState) → q < h.queues → Stands h es rs m → TurnsAt q h sequence m most done now before after taken r → done ≤ 2000
turns_few q h sequence es rs m most done now before after taken r low stands d =
    let small = effort_small q h m (plain_header h stands.header) (stands_good q h es rs m low stands) in
    omega (arith, d.falls, small)

-- as many were made as are asked for
pub turns_all : (q : ℕ) (h : Header1) (sequence : Sequence) (es : List Event) (rs : List Record) (m : Moment) (most done count : ℕ) (now : Parts) (before after : List Item) (taken : ℕ) (r : RoomState) → EndsAt q h sequence es rs m most done now before after taken r → 1 ≤ count → done ≡ count
    → TurnsGo q h true sequence count (PartsAt q now) m before after
turns_all q h sequence es rs m most done count now before after taken r e some all =
    let d = e.here in (
      d.begun (omega (arith, some, all)),
      record { count = done; few = omega (arith, all); small = turns_few q h sequence es rs m most done now before after taken r e.low e.stands d; at = d.at; items_are = d.items_are; ends = inl all },
    )

none_before : (n : ℕ) → n ≡ 0 → nat_lt 0 n ≡ false
none_before n e = ap (λ (x : ℕ). nat_lt 0 x) e

some_before : (n : ℕ) → n ≢ 0 → nat_lt 0 n ≡ true
some_before n e = let some : 0 < n = omega (arith, e) in grind (arith, nat_tests)

-- the next one isn't due
pub turns_stop : (q : ℕ) (h : Header1) (sequence : Sequence) (es : List Event) (rs : List Record) (m : Moment) (most done count : ℕ) (now next : Parts) (before after after' : List Item) (taken taken' : ℕ) (r : RoomState) (made : Bool) → EndsAt q h sequence es rs m most done now before after taken r
    → done < count → made ≡ nat_lt 0 done → StepGoes q false (next_turn q now.side.header sequence taken (so_far q h sequence m done).next) now next (so_far q h sequence m done).next after after' taken taken' → TurnsGo q h made sequence count (PartsAt q next) m before after'
turns_stop q h sequence es rs m most done count now next before after after' taken taken' r made e few is step = subst (λ (b : Bool). TurnsGo q h b sequence count (PartsAt q next) m before after') (sym is) (elim (cases_eq done 0) [
  | inl none ↦ subst (λ (b : Bool). TurnsGo q h b sequence count (PartsAt q next) m before after') (sym (none_before done none)) (
    subst (λ (x : ℕ). is_due h q (choices_from q h sequence m (so_far q h sequence m x).next) (so_far q h sequence m x).next ≡ false) none ends,
    subst (λ (x : ℕ). PartsAt q next (so_far q h sequence m x).next) none step.1,
    items_are ∙ subst (λ (x : ℕ). before ++ (so_far q h sequence m x).items ≡ before ++ []) (sym none) refl ∙ append-nil before,
  )
  | inr some ↦ subst (λ (b : Bool). TurnsGo q h b sequence count (PartsAt q next) m before after') (sym (some_before done some)) (
    e.here.begun (omega (arith, some)),
    record { count = done; few = omega (arith, few); small = turns_few q h sequence es rs m most done now before after taken r e.low e.stands e.here; at = step.1; items_are = items_are; ends = inr ends },
  )
])
  where
    n : Moment
    n = (so_far q h sequence m done).next

    ends : is_due h q (choices_from q h sequence m n) n ≡ false
    ends =
        let chosen : next_turn q now.side.header sequence taken n ≡ choices_from q h sequence m n = ap (λ (k : Header1). next_turn q k sequence taken n) e.same ∙ turn_is q h sequence m n taken e.here.taken_is in
        subst (λ (k : Header1). is_due k q (choices_from q h sequence m n) n ≡ false) e.same (subst (λ (u : Turn). is_due now.side.header q u n ≡ false) chosen step.0)

    items_are : after' ≡ before ++ (so_far q h sequence m done).items
    items_are = step.2 ∙ e.here.items_are

-- no more are outstanding than the ring has places
pub outstanding_few : (q : ℕ) (h : Header1) (m : Moment) (w : Parts) → IsPlain h → Good q h m → PartsAt q w m → w.side.outstanding.offered - w.side.outstanding.collected ≤ 64
outstanding_few q h m w plain good at =
    let few : h.size ≤ 64 = plain.good.size.small in
    omega (arith, few, good.holds.known.room, at.outstanding.offers_are, at.outstanding.collects_are)
