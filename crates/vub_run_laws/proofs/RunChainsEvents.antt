-- Split chains. Through every event the chain of each request that is offered and not collected stands in memory.
use Rattle.std.proofs.Common.{◌<◌, ◌≡◌, ◌≤◌, ℕ, zero, suc, ◌+◌, ◌*◌, ◌%◌, Bool, true, false, not, cond, List, [], ◌∷◌, ◌++◌, length, take, drop, refl, ap, sym, ◌∙◌, subst, inl, inr, arith}
use Rattle.std.specs.Prelude.{Option, Some, None, is_some, ◌&&◌}
use Rattle.byteorder.specs.Endian.{little_bytes}
use Rattle.std.proofs.Math.Seq.{take-append_seam}
use Rattle.std.proofs.lemmas.Bool.{cases_lt}
use Rattle.std.proofs.lemmas.List.{length-append, append_assoc, drop_all}
use Rattle.vub_run_laws.proofs.RunOwn.{at_own}
use Rattle.vub_run_laws.proofs.RunQueues.{IsOn}
use Rattle.vub_driver.specs.Layout.{area_place}
use Rattle.vub_base.specs.declared.header.Header1.{Header1}
use Rattle.vub_base.specs.declared.request.Ask.{Ask}
use Rattle.vub_base.specs.declared.request.Shape.{Shape}
use Rattle.vub_base.specs.declared.request.Shape.TheVariants.{Direct}
use Rattle.vub_shared.specs.Bytes.{Bytes, put, word}
use Rattle.vub_shared.specs.Stores.{Store, one_store}
use Rattle.vub_shared.proofs.BytesLemmas.{word-put_same}
use Rattle.vub_steps.specs.declared.readiness.Turn.{Turn}
use Rattle.vub_steps.specs.declared.readiness.Turn.TheVariants as readiness
use Rattle.vub_ring.specs.Ring.{entry_of, avail_entry_place, head_at, seen}
use Rattle.vub_driver.specs.Drivers.{after_ask, after_collect, Driver, Waiting, can_take, with_left, after_stores}
use Rattle.vub_driver.specs.Requests.{has_data}
use Rattle.vub_device.specs.declared.entry.Entry.TheVariants as entries
use Rattle.vub_device.specs.Past.{accepted, collected}
use Rattle.vub_schedule.specs.declared.types.Event.{Event}
use Rattle.vub_schedule.specs.declared.types.Event.TheVariants as events
use Rattle.vub_schedule.specs.Spelling.{IsAsk, IsEvent}
use Rattle.vub_report.specs.declared.items.Item.{Item}
use Rattle.vub_run.specs.Memory.{Scene, after_items}
use Rattle.vub_run.specs.Moments.{Lane, Moment, opening}
use Rattle.vub_run.specs.Run.{Played, played, if_ready, with_lane, with_driver, guest_items, guest, guest_stores, ask, collect, take_first, boot, join, one_turn, is_due, then_played, turns, single, up_to, any_choice, drain_choice, Drains, Plays, kill}
use Rattle.vub_run.specs.Turns.{turned}
use Rattle.vub_run_laws.proofs.RingGood.{the_ring, index_store, IsWaiting, WaitsWell, EntryWell, EntryStands}
use Rattle.vub_run_laws.proofs.RingFrames.{same_entry}
use Rattle.vub_run_laws.proofs.RunTaken.{IsTaken, next_number}
use Rattle.vub_run_laws.proofs.RunTurns.{IsPlain, Good}
use Rattle.vub_run_laws.proofs.RunEvents.{turn_right}
use Rattle.vub_run_laws.proofs.RunFrames.{none_out}
use Rattle.vub_run_laws.proofs.RunChainsStores.{put_all}
use Rattle.vub_run_laws.proofs.RunChainsMade.{put_append}
use Rattle.vub_run_laws.proofs.RunChainsTurns.{IsPrepared, PreparedWell, Chained, gentle_chained, turn_gentle, turn_driver}
use Rattle.vub_run_laws.proofs.RunChainsOffers.{ask_chained, collect_chained}
use Rattle.vub_run_laws.proofs.RunChainsGuests.{part_scene, part_chained, front_stores, guest_chained}
use Rattle.vub_run_laws.proofs.RunQueue.{queue_first, queue_free, kept_index}

-- what memory holds at a moment
abbrev pub ChainedAt : ℕ → Header1 → Moment → Type 0
ChainedAt q h m = Chained q h.size m.scene (m.lanes q).driver

-- what memory holds for a lane it holds where that is set
lane_chained : (q : ℕ) (h : Header1) (n : Moment) (l : Lane) → Chained q h.size n.scene l.driver → ChainedAt q h (with_lane q l n)
lane_chained q h n l c = subst (λ (x : Lane). Chained q h.size n.scene x.driver) (sym (at_own n.lanes q l)) c

tested : (q : ℕ) (h : Header1) (m : Moment) (ready : Bool) (p : Played) → ChainedAt q h m → (ready ≡ true → ChainedAt q h p.next) → ChainedAt q h (if_ready ready p m).next
tested q h m true p c then = then refl
tested q h m false p c then = c

-- some of the stores, or all that are left
guest_some : (q : ℕ) (h : Header1) (count : ℕ) (m : Moment) (w : Waiting) → IsPlain h → h.capacity ≤ 4096 → q < 65536 → Good q h m → ChainedAt q h m → (m.lanes q).driver.waiting ≡ Some w → ChainedAt q h (guest_stores h q count (Some w) m).next
guest_some q h count m w plain few numbered good c waiting = lane_chained q h (record m { scene = after_items h (guest_items count q w.ask w.left) m.scene }) (with_driver (after_stores count w v) (m.lanes q)) (elim (cases_lt count (length w.left)) [
  | inl part ↦ subst (λ (x : Scene). Chained q h.size x (after_stores count w v)) (sym (part_scene q h count w.ask w.left m.scene part)) (part_chained q h m.scene v w count plain.good good.holds.known good.holds.queue.driven waits part ready c)
  | inr all ↦
      let none : drop count w.left ≡ [] = drop_all count w.left (omega arith) in
      subst (λ (rest : List Store). Chained q h.size (after_items h (guest_items count q w.ask w.left) m.scene) (with_left w rest v)) (sym none) (guest_chained q h m.scene v w count plain.good few numbered good.holds.known good.holds.queue.driven waits (omega arith) ready c)
])
  where
    v : Driver
    v = (m.lanes q).driver

    waits : IsWaiting q h.size h.capacity m.scene.past (m.scene.heads q) v w
    waits = subst (λ (o : Option Waiting). WaitsWell q h.size h.capacity m.scene.past (m.scene.heads q) v o) waiting good.holds.queue.driven.waits

    ready : IsPrepared q h.size m.scene.memory v w
    ready = subst (λ (o : Option Waiting). PreparedWell q h.size m.scene.memory v o) waiting c.waits

guest_all : (q : ℕ) (h : Header1) (count : ℕ) (m : Moment) → IsPlain h → h.capacity ≤ 4096 → q < 65536 → Good q h m → ChainedAt q h m → ChainedAt q h (guest h q count m).next
guest_all q h count m plain few numbered good c = tested q h m (is_some (m.lanes q).driver.waiting) (guest_stores h q count (m.lanes q).driver.waiting m) c (λ ready. go (m.lanes q).driver.waiting refl)
  where
    go : (o : Option Waiting) → (m.lanes q).driver.waiting ≡ o → ChainedAt q h (guest_stores h q count o m).next
    go None e = c
    go (Some w) e = guest_some q h count m w plain few numbered good c e

ask_all : (q : ℕ) (h : Header1) (m : Moment) (a : Ask) → IsAsk h a → ChainedAt q h m → ChainedAt q h (ask h q Direct a m).next
ask_all q h m a is c = tested q h m (can_take h.size Direct a (m.lanes q).driver) _ c (λ ready. lane_chained q h m (with_driver (after_ask (the_ring q h.size) a (m.lanes q).driver) (m.lanes q)) (ask_chained q h m.scene (m.lanes q).driver a ready c))

collect_all : (q : ℕ) (h : Header1) (m : Moment) → IsPlain h → Good q h m → ChainedAt q h m → ChainedAt q h (collect h q m).next
collect_all q h m plain good c = go (seen (the_ring q h.size) m.scene.memory (h.base + collected m.scene.past q)) refl
  where
    go : (xs : List (ℕ × ℕ)) → seen (the_ring q h.size) m.scene.memory (h.base + collected m.scene.past q) ≡ xs → ChainedAt q h (take_first h q xs m).next
    go [] e = c
    go (x ∷ xs) e =
        let l : Lane = m.lanes q in
        let t : IsTaken q h m.scene l x.0 = queue_first q h m.scene l x xs plain.good good.holds e in
        let k : ℕ = next_number q m.scene in
        lane_chained q h (record m { scene = record m.scene { past = entries.Collect q k ∷ m.scene.past } }) (with_driver (after_collect x.0 l.driver) l)
        (subst (λ (d : Driver). Chained q h.size (record m.scene { past = entries.Collect q k ∷ m.scene.past }) d) (sym (queue_free q h m.scene l x.0 t)) (collect_chained q h m.scene l x.0 k t c))

boot_all : (q : ℕ) (h : Header1) (m : Moment) → ChainedAt q h m → ChainedAt q h (boot m).next
boot_all q h m c = tested q h m (not m.lives) _ c (λ ready. record { linked = c.linked; waits = c.waits })

join_all : (q : ℕ) (h : Header1) (m : Moment) → ChainedAt q h m → ChainedAt q h (join m).next
join_all q h m c = tested q h m (m.lives && not m.joined) _ c (λ ready. record { linked = c.linked; waits = c.waits })

kill_all : (q : ℕ) (h : Header1) (m : Moment) → ChainedAt q h m → ChainedAt q h (kill h m).next
kill_all q h m c = tested q h m m.lives _ c (λ ready. record { linked = λ k out. c.linked k (record { below = out.below; kept = out.kept }); waits = c.waits })

-- ---- turns

pub one_turn_chained : (q : ℕ) (h : Header1) (t : Turn) (m : Moment) → IsPlain h → Good q h m → ChainedAt q h m → ChainedAt q h (one_turn h q t m).next
one_turn_chained q h t m plain good c =
    let s' : Scene = after_items h (turned h q t m).items m.scene in
    let kept : Chained q h.size s' (m.lanes q).driver = gentle_chained q h.size h.capacity m.scene s' (m.lanes q).driver plain.good.size good.holds.queue.driven.waits (turn_gentle q h t m plain good) c in
    lane_chained q h (record m { scene = s' }) (turned h q t m).lane (subst (λ (v : Driver). Chained q h.size s' v) (sym (turn_driver q h t m)) kept)

-- after any number of turns that are due
pub turns_chained : (q count : ℕ) (choose : Moment → Turn) (h : Header1) (m : Moment) → IsPlain h → Good q h m → ChainedAt q h m → Good q h (turns count choose h q m).next × ChainedAt q h (turns count choose h q m).next
turns_chained q zero choose h m plain good c = (good, c)
turns_chained q (suc count) choose h m plain good c = go (is_due h q (choose m) m) refl (λ good' c'. turns_chained q count choose h (one_turn h q (choose m) m).next plain good' c')
  where
    N : Moment
    N = (one_turn h q (choose m) m).next

    go : (b : Bool) → is_due h q (choose m) m ≡ b → (Good q h N → ChainedAt q h N → Good q h (turns count choose h q N).next × ChainedAt q h (turns count choose h q N).next)
        → Good q h (cond {A = Played} b (then_played (one_turn h q (choose m) m) (turns count choose h q (one_turn h q (choose m) m).next)) (played [] m)).next
        × ChainedAt q h (cond {A = Played} b (then_played (one_turn h q (choose m) m) (turns count choose h q (one_turn h q (choose m) m).next)) (played [] m)).next
    go true due rest = let right = turn_right q h (choose m) m plain good due in rest right.good (one_turn_chained q h (choose m) m plain good c)
    go false due rest = (good, c)

drain_chained : (q : ℕ) (h : Header1) (m : Moment) (choose : Moment → Turn) (is : List Item) (next : Moment) → IsPlain h → Good q h m → ChainedAt q h m → Drains h q m choose is next → ChainedAt q h next
drain_chained q h m choose is next plain good c (inl none) = subst (λ (n : Moment). ChainedAt q h n) (sym (ap (λ (p : Played). p.next) none.1)) c
drain_chained q h m choose is next plain good c (inr some) = subst (λ (n : Moment). ChainedAt q h n) (sym (ap (λ (p : Played). p.next) some.1.made)) (turns_chained q some.1.count choose h m plain good c).1

-- a single turn
single_chained : (q : ℕ) (h : Header1) (t : Turn) (m : Moment) → IsPlain h → Good q h m → ChainedAt q h m → ChainedAt q h (single h q t m).next
single_chained q h t m plain good c = tested q h m (is_due h q t m) (one_turn h q t m) c (λ due. one_turn_chained q h t m plain good c)

-- so many turns at most
up_to_chained : (q count : ℕ) (choose : Moment → Turn) (h : Header1) (m : Moment) → IsPlain h → Good q h m → ChainedAt q h m → ChainedAt q h (up_to count choose h q m).next
up_to_chained q count choose h m plain good c = tested q h m (is_due h q (choose m) m) (turns count choose h q m) c (λ due. (turns_chained q count choose h m plain good c).1)

-- ---- the entry of the next offer

-- lists that are equal, each with one element more, are equal without it
before_last : (xs ys zs : List Store) (st : Store) → xs ++ ys ≡ zs ++ st ∷ [] → length ys ≡ 1 → xs ≡ zs
before_last xs ys zs st same one =
    let long : length xs + length ys ≡ length zs + 1 = sym (length-append xs ys) ∙ ap length same ∙ length-append zs (st ∷ []) in
    let few : length xs ≡ length zs = omega arith in
    sym (take-append_seam xs ys) ∙ ap (λ (k : ℕ). take k (xs ++ ys)) few ∙ ap (take (length zs)) same ∙ take-append_seam zs (st ∷ [])

-- where avail.idx alone is left to store, the entry before it names the head
entry_made : (q : ℕ) (h : Header1) (m : Moment) (w : Waiting) → IsPlain h → Good q h m → ChainedAt q h m → (m.lanes q).driver.waiting ≡ Some w → length w.left ≡ 1 → head_at (the_ring q h.size) m.scene.memory (h.base + length (m.scene.heads q)) ≡ w.head
entry_made q h m w plain good c waiting one =
    let n : ℕ = h.size in
    let v : Driver = (m.lanes q).driver in
    let waits : IsWaiting q n h.capacity m.scene.past (m.scene.heads q) v w = subst (λ (o : Option Waiting). WaitsWell q n h.capacity m.scene.past (m.scene.heads q) v o) waiting good.holds.queue.driven.waits in
    let ready : IsPrepared q n m.scene.memory v w = subst (λ (o : Option Waiting). PreparedWell q n m.scene.memory v o) waiting c.waits in
    let ends = front_stores q n v.avail_idx w.head ready.body ready.status w.ask (has_data w.ask) in
    let entry : Store = one_store 0 (avail_entry_place (the_ring q n) v.avail_idx) (little_bytes 2 w.head) in
    let front : Bytes = put_all ends.0 m.scene.memory in
    let all : ready.made ++ w.left ≡ (ends.0 ++ entry ∷ []) ++ index_store (the_ring q n) v.avail_idx ∷ [] = ready.stores ∙ ends.1 ∙ sym (append_assoc ends.0 (entry ∷ []) (index_store (the_ring q n) v.avail_idx ∷ [])) in
    let made : ready.made ≡ ends.0 ++ entry ∷ [] = before_last ready.made w.left (ends.0 ++ entry ∷ []) (index_store (the_ring q n) v.avail_idx) all one in
    let stands : m.scene.memory ≡ put front 0 (avail_entry_place (the_ring q n) v.avail_idx) (little_bytes 2 w.head) = sym ready.stand ∙ ap (λ (sts : List Store). put_all sts m.scene.memory) made ∙ put_append ends.0 (entry ∷ []) m.scene.memory in
    let index : v.avail_idx ≡ (h.base + length (m.scene.heads q)) % 65536 = kept_index q h m.scene v (m.lanes q).bell (m.lanes q).plan (m.lanes q).counter (m.lanes q).batch (m.lanes q).phase good.holds.queue in
    let same : entry_of (the_ring q n) v.avail_idx ≡ entry_of (the_ring q n) (h.base + length (m.scene.heads q)) = ap (entry_of (the_ring q n)) index ∙ same_entry q n (h.base + length (m.scene.heads q)) in
    let small : n ≤ 64 = plain.good.size.small in
    ap (λ (e : ℕ). word 2 m.scene.memory 0 (area_place q + 4096 + (4 + 2 * e))) (sym same)
    ∙ ap (λ (x : Bytes). word 2 x 0 (avail_entry_place (the_ring q n) v.avail_idx)) stands
    ∙ word-put_same 2 front 0 (avail_entry_place (the_ring q n) v.avail_idx) w.head (omega (arith, waits.below))

pub chained_entry : (q : ℕ) (h : Header1) (m : Moment) → IsPlain h → Good q h m → ChainedAt q h m → EntryStands q h m
chained_entry q h m plain good c = go (m.lanes q).driver.waiting refl
  where
    go : (o : Option Waiting) → (m.lanes q).driver.waiting ≡ o → EntryWell q h.size (h.base + length (m.scene.heads q)) m.scene.memory o
    go None e = tt
    go (Some w) e = λ one. entry_made q h m w plain good c e one

-- ---- any event

played_chained : (q : ℕ) (h : Header1) (is : List Item) (next : Moment) (p : Played) → played is next ≡ p → ChainedAt q h p.next → ChainedAt q h next
played_chained q h is next p e c = subst (λ (n : Moment). ChainedAt q h n) (sym (ap (λ (x : Played). x.next) e)) c

pub event_chained : (q : ℕ) (h : Header1) (m : Moment) (e : Event) (is : List Item) (next : Moment) → IsPlain h → h.capacity ≤ 4096 → q < 65536 → Good q h m → ChainedAt q h m → IsOn q e → IsEvent h e → Plays h m e is next → ChainedAt q h next
event_chained q h m (events.Ask p shape a) is next plain few numbered good c on fits plays =
    let P : ℕ → Shape → Type 0 = λ p sh. Plays h m (events.Ask p sh a) is next in
    let here : P q Direct = subst (λ (sh : Shape). P q sh) fits.1 (subst (λ (p : ℕ). P p shape) on plays) in
    played_chained q h is next (ask h q Direct a m) here (ask_all q h m a fits.2 c)
event_chained q h m (events.Guest p k) is next plain few numbered good c on fits plays =
    let here : Plays h m (events.Guest q k) is next = subst (λ (p : ℕ). Plays h m (events.Guest p k) is next) on plays in
    played_chained q h is next (guest h q k m) here (guest_all q h k m plain few numbered good c)
event_chained q h m (events.Collect p) is next plain few numbered good c on fits plays =
    let here : Plays h m (events.Collect q) is next = subst (λ (p : ℕ). Plays h m (events.Collect p) is next) on plays in
    played_chained q h is next (collect h q m) here (collect_all q h m plain good c)
event_chained q h m events.Boot is next plain few numbered good c on fits plays = played_chained q h is next (boot m) plays (boot_all q h m c)
event_chained q h m events.Join is next plain few numbered good c on fits plays = played_chained q h is next (join m) plays (join_all q h m c)
event_chained q h m events.Kill is next plain few numbered good c on fits plays = played_chained q h is next (kill h m) plays (kill_all q h m c)
event_chained q h m (events.Start p) is next plain few numbered good c on fits plays =
    let here : Plays h m (events.Start q) is next = subst (λ (p : ℕ). Plays h m (events.Start p) is next) on plays in
    played_chained q h is next (single h q readiness.Start m) here (single_chained q h readiness.Start m plain good c)
event_chained q h m (events.Fetch p) is next plain few numbered good c on fits plays =
    let here : Plays h m (events.Fetch q) is next = subst (λ (p : ℕ). Plays h m (events.Fetch p) is next) on plays in
    played_chained q h is next (single h q readiness.Fetch m) here (single_chained q h readiness.Fetch m plain good c)
event_chained q h m (events.Work p place) is next plain few numbered good c on fits plays =
    let here : Plays h m (events.Work q place) is next = subst (λ (p : ℕ). Plays h m (events.Work p place) is next) on plays in
    played_chained q h is next (single h q (readiness.Work place) m) here (single_chained q h (readiness.Work place) m plain good c)
event_chained q h m (events.Publish p most) is next plain few numbered good c on fits plays =
    let here : Plays h m (events.Publish q most) is next = subst (λ (p : ℕ). Plays h m (events.Publish p most) is next) on plays in
    played_chained q h is next (single h q (readiness.Publish most) m) here (single_chained q h (readiness.Publish most) m plain good c)
event_chained q h m (events.Turn p count) is next plain few numbered good c on fits plays =
    let here : Plays h m (events.Turn q count) is next = subst (λ (p : ℕ). Plays h m (events.Turn p count) is next) on plays in
    played_chained q h is next (up_to count (any_choice h q) h q m) here (up_to_chained q count (any_choice h q) h m plain good c)
event_chained q h m (events.Drain p) is next plain few numbered good c on fits plays =
    let here : Plays h m (events.Drain q) is next = subst (λ (p : ℕ). Plays h m (events.Drain p) is next) on plays in
    drain_chained q h m (drain_choice h q (accepted m.scene.past q)) is next plain good c here

-- where every run begins
pub opening_chained : (q : ℕ) (h : Header1) → ChainedAt q h (opening h)
opening_chained q h = record { linked = λ k out. absurd (none_out q k out); waits = tt }
