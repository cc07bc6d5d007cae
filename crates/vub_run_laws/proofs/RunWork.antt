-- A step of work keeps what holds.
use Rattle.std.proofs.Common.{◌≡◌, ◌≢◌, ◌≤◌, ◌<◌, ◌⊎◌, ℕ, zero, suc, ◌+◌, ◌-◌, ◌*◌, ◌/◌, Bool, true, false, List, [], ◌∷◌, ◌++◌, length, refl, ap, sym, ◌∙◌, subst, inl, inr, arith, length-append}
use Rattle.std.specs.Prelude.{Option, Some, None, slice_index, slice_get, slice_range, drop, ◌||◌, unwrap_or}
use Rattle.std.proofs.lemmas.Bool.Decides.{nat_tests}
use Rattle.std.proofs.lemmas.Bool.{cases_eq, cases_lt}
use Rattle.std.proofs.lemmas.List.{length-take, length-take-le, length-drop, get_or-take, get_or-drop, get_or_append_left}
use Rattle.vub_base.specs.declared.header.CacheMode.TheVariants.{Back}
use Rattle.vub_base.specs.declared.header.Header1.{Header1}
use Rattle.vub_shared.specs.Bytes.{Bytes, put}
use Rattle.vub_shared.proofs.BytesLemmas.{put_other, put_inside}
use Rattle.vub_steps.specs.declared.steps.Phase.{Phase}
use Rattle.vub_driver.specs.Layout.{status_place, sectors_place}
use Rattle.vub_device.specs.declared.entry.Asked.{Asked}
use Rattle.vub_device.specs.declared.entry.Asked.TheVariants as asks
use Rattle.vub_device.specs.declared.entry.Entry.{Entry}
use Rattle.vub_device.specs.declared.entry.Entry.TheVariants as entries
use Rattle.vub_device.specs.declared.entry.SectorValue.{SectorValue}
use Rattle.vub_device.specs.Crash.{value}
use Rattle.vub_device.specs.Legal.{LegalFrom, IsAtWork, MayLook, MayAct, MaySync}
use Rattle.vub_device.specs.Requests.{look_at, effect_at, refusal}
use Rattle.vub_device.specs.Past.{accepted, asked, published, collected, is_among, IsOpen, started, looks, bytes_read, acts, synced}
use Rattle.vub_device.proofs.Numbers.{is_among_append}
use Rattle.vub_base.specs.declared.store.Tag.TheVariants.{T5}
use Rattle.vub_base.specs.declared.store.Area.TheVariants.{M}
use Rattle.vub_report.specs.declared.items.Item.TheVariants as items
use Rattle.vub_run.specs.Memory.{Scene, with_at, after_items}
use Rattle.vub_run.specs.Moments.{Lane}
use Rattle.vub_steps.specs.Tasks.{RequestStep, Look, Put, Act, Sync, Status, status_of, disk_steps, look_steps, act_steps}
use Rattle.vub_run.specs.TaskItems.{look_items, act_items}
use Rattle.vub_run.specs.Tracking.{Tracks, AfterEach}
use Rattle.vub_report.specs.Histories.{entries_of}
use Rattle.vub_run.specs.Turns.{Turned, request_turn, task_turn}
use Rattle.vub_run_laws.proofs.RunNumbers.{among_apart, distinct_more}
use Rattle.vub_run_laws.proofs.RunGood.{IsWideRead, IsWideWrite, IsWide, Known, IsReadTo, IsWrittenTo, Progress, IsBegun, IsFull, IsPending, Worked, IsKept, Stored, IsRead, hidden, buffer, IsGood, stored_at}
use Rattle.vub_run_laws.proofs.RunHolds.{Holds}
use Rattle.vub_run_laws.proofs.RunCarries.{carries_on, carries_done}
use Rattle.vub_run_laws.proofs.RunSteps.{WideCases, AtRead, AtWrite, AtFlush, wide_cases, wide_served, wide_steps, ReadAt, ToLook, ToPut, ToReply, read_at, WriteAt, ToAct, ToEnd, write_at, look_is, written, effect_is, read_to, written_to}
use Rattle.vub_run_laws.proofs.RunEfforts.{effort, step_falls, status_falls}
use Rattle.vub_run_laws.proofs.RunFrames.{open_out, OffBuffer, sector_elsewhere, status_elsewhere, other_buffer}
use Rattle.vub_run_laws.proofs.RunQueue.{queue_same, queue_elsewhere, heads_apart}
use Rattle.vub_run_laws.proofs.RunGuests.{holds_track}
use Rattle.vub_run_laws.proofs.RingGood.{CountsLow}

-- ---- requests

pub at_same : (f : ℕ → ℕ) (k x j : ℕ) → j ≡ k → with_at f k x j ≡ x
at_same f k x j e = grind (arith, nat_tests)

pub at_other : (f : ℕ → ℕ) (k x j : ℕ) → j ≢ k → with_at f k x j ≡ f j
at_other f k x j e = grind (arith, nat_tests)

-- ---- turns

-- a queue that isn't started wasn't before either: it accepts nothing, and the counters of its open requests stay low
pub record IsIdle (q : ℕ) (h : Header1) (s s' : Scene) : Type 0 where
  pub stopped : started s.past q ≡ false
  pub accepts : accepted s'.past q ≡ accepted s.past q
  pub counts : CountsLow q h s'

-- from that lane on these items and their lane are right, and less is left to do
pub record Fine (q : ℕ) (h : Header1) (s : Scene) (l : Lane) (t : Turned) : Type 0 where
  pub each : AfterEach h (Tracks h q) s t.items
  pub holds : Holds q h (after_items h t.items s) t.lane
  pub legal : LegalFrom h.capacity h.mode s.past (entries_of t.items)
  pub idle : started (after_items h t.items s).past q ≡ false → IsIdle q h s (after_items h t.items s)
  pub collects : collected (after_items h t.items s).past q ≡ collected s.past q
  pub falls : effort q h.size (after_items h t.items s).past (length ((after_items h t.items s).heads q)) t.lane + 1 ≤ effort q h.size s.past (length (s.heads q)) l

-- a request that is worked on
pub record IsLeft (q : ℕ) (h : Header1) (s : Scene) (l : Lane) (k : ℕ) : Type 0 where
  pub good : IsGood h
  pub back : h.mode ≡ Back
  pub holds : Holds q h s l
  pub started : started s.past q ≡ true
  pub is_open : IsOpen s.past q k
  pub left : is_among (l.completed ++ hidden l.batch l.phase) k ≡ false

at_work : (q : ℕ) (h : Header1) (s : Scene) (l : Lane) (k : ℕ) (r : Asked) → IsLeft q h s l k → asked s.past q k ≡ Some r → refusal h.capacity h.mode r ≡ None → IsAtWork h.capacity h.mode s.past q k r
at_work q h s l k r x is served = record { started = x.started; is_open = x.is_open; asked = is; served = served; unfaulted = x.holds.known.unfaulted k }

-- the lane after a step that isn't the last
abbrev one_more : ℕ → Lane → Lane
one_more k l = record l { made = with_at l.made k (l.made k + 1) }

one_more_falls : (q : ℕ) (h : Header1) (s : Scene) (l : Lane) (k : ℕ) → IsLeft q h s l k → l.made k ≤ 16 → effort q h.size s.past (length (s.heads q)) (one_more k l) + 1 ≤ effort q h.size s.past (length (s.heads q)) l
one_more_falls q h s l k x small = omega (arith, step_falls (published s.past q) (l.completed ++ hidden l.batch l.phase) l.made (accepted s.past q) k x.is_open.taken x.is_open.unpublished x.left small)

look_known : (q n cap : ℕ) (past : List Entry) (heads : List ℕ) (k s : ℕ) (v : List ℕ) → Known q n cap past heads → Known q n cap (entries.Look q k s v ∷ past) heads
look_known q n cap past heads k s v a = record {
  offers_are = a.offers_are;
  offered = a.offered;
  distinct = a.distinct;
  below = a.below;
  shown = a.shown;
  fewer = a.fewer;
  room = a.room;
  good = a.good;
  wide = a.wide;
  unfaulted = a.unfaulted;
  values = a.values;
}

-- what a step of a request leaves: all but what was done for it
record Follows (q : ℕ) (past later : List Entry) (k : ℕ) : Type 0 where
  pub accepts : accepted later q ≡ accepted past q
  pub publishes : published later q ≡ published past q
  pub asks_same : (j : ℕ) → asked later q j ≡ asked past q j
  pub runs : started past q ≡ true
  pub runs_on : started later q ≡ true
  pub others : (j : ℕ) → j ≢ k → (looks later q j ≡ looks past q j) × ((acts later q j ≡ acts past q j) × ((bytes_read later q j ≡ bytes_read past q j) × (synced later q j ≡ synced past q j)))

open_later : (q : ℕ) (past later : List Entry) (k j : ℕ) → Follows q past later k → IsOpen past q j → IsOpen later q j
open_later q past later k j f is_open = record { taken = omega (arith, f.accepts, is_open.taken); unpublished = ap (λ (ks : List ℕ). is_among ks j) f.publishes ∙ is_open.unpublished }

open_before : (q : ℕ) (past later : List Entry) (k j : ℕ) → Follows q past later k → IsOpen later q j → IsOpen past q j
open_before q past later k j f is_open = record { taken = omega (arith, f.accepts, is_open.taken); unpublished = ap (λ (ks : List ℕ). is_among ks j) (sym f.publishes) ∙ is_open.unpublished }

-- how far a number is
abbrev Far : ℕ → List Entry → (ℕ → ℕ) → ℕ → Type 0
Far q past made j = Progress (made j) (looks past q j) (acts past q j) (bytes_read past q j) (synced past q j) (asked past q j)

far_other : (q : ℕ) (past later : List Entry) (made : ℕ → ℕ) (k j : ℕ) → Follows q past later k → j ≢ k → Far q past made j → Far q later (with_at made k (made k + 1)) j
far_other q past later made k j f apart far =
    let same = f.others j apart in
    let n : ℕ = with_at made k (made k + 1) j in
    let one : Progress n (looks past q j) (acts past q j) (bytes_read past q j) (synced past q j) (asked past q j) = subst (λ (c : ℕ). Progress c (looks past q j) (acts past q j) (bytes_read past q j) (synced past q j) (asked past q j)) (sym (at_other made k (made k + 1) j apart)) far in
    let two : Progress n (looks later q j) (acts past q j) (bytes_read past q j) (synced past q j) (asked past q j) = subst (λ (c : ℕ). Progress n c (acts past q j) (bytes_read past q j) (synced past q j) (asked past q j)) (sym same.0) one in
    let three : Progress n (looks later q j) (acts later q j) (bytes_read past q j) (synced past q j) (asked past q j) = subst (λ (c : ℕ). Progress n (looks later q j) c (bytes_read past q j) (synced past q j) (asked past q j)) (sym same.1.0) two in
    let four : Progress n (looks later q j) (acts later q j) (bytes_read later q j) (synced past q j) (asked past q j) = subst (λ (xs : List ℕ). Progress n (looks later q j) (acts later q j) xs (synced past q j) (asked past q j)) (sym same.1.1.0) three in
    let five : Progress n (looks later q j) (acts later q j) (bytes_read later q j) (synced later q j) (asked past q j) = subst (λ (b : Bool). Progress n (looks later q j) (acts later q j) (bytes_read later q j) b (asked past q j)) (sym same.1.1.1) four in
    subst (λ (o : Option Asked). Progress n (looks later q j) (acts later q j) (bytes_read later q j) (synced later q j) o) (sym (f.asks_same j)) five

far_same : (q : ℕ) (past later : List Entry) (made : ℕ → ℕ) (k j : ℕ) → j ≡ k → Follows q past later k → IsBegun (made k + 1) (looks later q k) (acts later q k) (bytes_read later q k) (synced later q k) (asked past q k) → Far q later (with_at made k (made k + 1)) j
far_same q past later made k j same f begun =
    subst (λ (i : ℕ). Far q later (with_at made k (made k + 1)) i) (sym same)
    (subst (λ (c : ℕ). Progress c (looks later q k) (acts later q k) (bytes_read later q k) (synced later q k) (asked later q k)) (sym (at_same made k (made k + 1) k refl))
    (subst (λ (o : Option Asked). Progress (made k + 1) (looks later q k) (acts later q k) (bytes_read later q k) (synced later q k) o) (sym (f.asks_same k)) (record { fresh = λ e. absurd (omega arith); begun = λ some. begun })))

-- a step that isn't the last
step_worked : (q : ℕ) (past later : List Entry) (phase : Phase) (batch completed : List ℕ) (made : ℕ → ℕ) (k : ℕ) → Follows q past later k → IsOpen past q k → is_among (completed ++ batch) k ≡ false
    → IsBegun (made k + 1) (looks later q k) (acts later q k) (bytes_read later q k) (synced later q k) (asked past q k) → IsPending (made k + 1) (asked past q k) → Worked q past phase batch completed made → Worked q later phase batch completed (with_at made k (made k + 1))
step_worked q past later phase batch completed made k f is_open left begun next w = record {
  distinct = w.distinct;
  opens = λ j held. open_later q past later k j f (w.opens j held);
  untouched = λ j high. at_other made k (made k + 1) j (λ same. omega (arith, is_open.taken, f.accepts)) ∙ w.untouched j (omega (arith, f.accepts));
  progress = λ on j. elim (cases_eq j k) [
    | inl same ↦ far_same q past later made k j same f begun
    | inr apart ↦ far_other q past later made k j f apart (w.progress f.runs j)
  ];
  full = λ j held. subst (λ (c : ℕ). IsFull c (asked later q j)) (sym (at_other made k (made k + 1) j (among_apart (completed ++ batch) j k held left))) (subst (λ (o : Option Asked). IsFull (made j) o) (sym (f.asks_same j)) (w.full j held));
  pending = λ j is_open_j out. subst (λ (o : Option Asked). IsPending (with_at made k (made k + 1) j) o) (sym (f.asks_same j)) (elim (cases_eq j k) [
    | inl same ↦ subst (λ (i : ℕ). IsPending (with_at made k (made k + 1) i) (asked past q i)) (sym same) (subst (λ (c : ℕ). IsPending c (asked past q k)) (sym (at_same made k (made k + 1) k refl)) next)
    | inr apart ↦ subst (λ (c : ℕ). IsPending c (asked past q j)) (sym (at_other made k (made k + 1) j apart)) (w.pending j (open_before q past later k j f is_open_j) out)
  ]);
  quiet = λ stopped. absurd (let fails : true ≡ false = sym f.runs_on ∙ stopped in cc);
  between = w.between;
}

-- what was stored of the sectors that were read was seen before too
abbrev SeenBefore : ℕ → List Entry → List Entry → (ℕ → ℕ) → ℕ → ℕ → Type 0
SeenBefore q past later made k j = (i : ℕ) → IsRead (asked past q j) → IsKept (with_at made k (made k + 1) j) (length (bytes_read later q j)) i → IsKept (made j) (length (bytes_read past q j)) i × (slice_index (bytes_read later q j) i ≡ slice_index (bytes_read past q j) i)

seen_other : (q : ℕ) (past later : List Entry) (made : ℕ → ℕ) (k j : ℕ) → Follows q past later k → j ≢ k → SeenBefore q past later made k j
seen_other q past later made k j f apart = λ i read kept.
    let same : bytes_read later q j ≡ bytes_read past q j = (f.others j apart).1.1.0 in
    let made_same : with_at made k (made k + 1) j ≡ made j = at_other made k (made k + 1) j apart in (
      subst (λ (c : ℕ). IsKept c (length (bytes_read past q j)) i) made_same (subst (λ (xs : List ℕ). IsKept (with_at made k (made k + 1) j) (length xs) i) same kept),
      ap (λ (xs : List ℕ). slice_index xs i) same,
    )

-- a step that stores nothing
step_stored : (q : ℕ) (past later : List Entry) (heads : List ℕ) (m : Bytes) (batch completed : List ℕ) (made : ℕ → ℕ) (k : ℕ) → Follows q past later k → SeenBefore q past later made k k → Stored q past heads m batch completed made → Stored q later heads m batch completed (with_at made k (made k + 1))
step_stored q past later heads m batch completed made k f here st = record {
  sectors = λ j i is_open kept read.
      let read_before : IsRead (asked past q j) = subst (λ (o : Option Asked). IsRead o) (f.asks_same j) read in
      let before : IsKept (made j) (length (bytes_read past q j)) i × (slice_index (bytes_read later q j) i ≡ slice_index (bytes_read past q j) i) = elim (cases_eq j k) [
        | inl same ↦ subst (λ (n : ℕ). SeenBefore q past later made k n) (sym same) here i read_before kept
        | inr apart ↦ seen_other q past later made k j f apart i read_before kept
      ] in
      st.sectors j i (open_before q past later k j f is_open) before.0 read_before ∙ sym before.1;
  status = st.status;
}

-- of a request that isn't a read there is nothing to say
seen_never : (q : ℕ) (past later : List Entry) (made : ℕ → ℕ) (k : ℕ) → (IsRead (asked past q k) → ⊥) → SeenBefore q past later made k k
seen_never q past later made k never = λ i read kept. absurd (never read)

-- ---- reading a sector

look_follows : (q : ℕ) (past : List Entry) (k s : ℕ) (v : List ℕ) → started past q ≡ true → Follows q past (entries.Look q k s v ∷ past) k
look_follows q past k s v run = record {
  accepts = refl;
  publishes = refl;
  asks_same = λ j. refl;
  runs = run;
  runs_on = run;
  others = λ j apart.
      let differs : k ≢ j = λ e. apart (sym e) in
      let looked : looks (entries.Look q k s v ∷ past) q j ≡ looks past q j = grind (arith, nat_tests) in
      let read : bytes_read (entries.Look q k s v ∷ past) q j ≡ bytes_read past q j = grind (arith, nat_tests) in
      (looked, (refl, (read, refl)));
}

looks_more : (q : ℕ) (past : List Entry) (k s : ℕ) (v : List ℕ) → looks (entries.Look q k s v ∷ past) q k ≡ looks past q k + 1
looks_more q past k s v = grind (arith, nat_tests)

pub seen_more : (q : ℕ) (past : List Entry) (k s : ℕ) (v : List ℕ) → bytes_read (entries.Look q k s v ∷ past) q k ≡ bytes_read past q k ++ v
seen_more q past k s v = grind (arith, nat_tests)

-- a request that is worked on reads
record IsReading (q : ℕ) (h : Header1) (s : Scene) (l : Lane) (k sector c : ℕ) : Type 0 where
  pub left : IsLeft q h s l k
  pub wide : IsWideRead h.capacity sector c
  pub is : asked s.past q k ≡ Some (asks.Read sector c)

reading_to : (q : ℕ) (h : Header1) (s : Scene) (l : Lane) (k sector c : ℕ) → IsReading q h s l k sector c → IsReadTo c (l.made k) (looks s.past q k) (bytes_read s.past q k)
reading_to q h s l k sector c x = read_to sector c (l.made k) (looks s.past q k) (acts s.past q k) (bytes_read s.past q k) (synced s.past q k) (asked s.past q k) x.is (x.left.holds.worked.progress x.left.started k)

look_worked : (q : ℕ) (h : Header1) (s : Scene) (l : Lane) (k sector c p place : ℕ) (v : List ℕ) → IsReading q h s l k sector c → p < c → l.made k ≡ 2 * p → length v ≡ 512
    → Worked q (entries.Look q k place v ∷ s.past) l.phase (hidden l.batch l.phase) l.completed (with_at l.made k (l.made k + 1))
look_worked q h s l k sector c p place v x low at long =
    let later : List Entry = entries.Look q k place v ∷ s.past in
    let to : IsReadTo c (l.made k) (looks s.past q k) (bytes_read s.past q k) = reading_to q h s l k sector c x in
    let looked : looks s.past q k ≡ (l.made k + 1) / 2 = to.under (omega arith) in
    let more : looks later q k ≡ looks s.past q k + 1 = looks_more q s.past k place v in
    let longer : length (bytes_read later q k) ≡ length (bytes_read s.past q k) + length v = ap (λ (xs : List ℕ). length xs) (seen_more q s.past k place v) ∙ length-append (bytes_read s.past q k) v in
    let was : length (bytes_read s.past q k) ≡ 512 * looks s.past q k = to.long in
    let next : IsReadTo c (l.made k + 1) (looks later q k) (bytes_read later q k) = record { under = λ e. omega (arith, looked, more, at); whole = λ e. omega (arith, looked, more, at, low); long = omega (arith, longer, was, more, long) } in
    step_worked q s.past later l.phase (hidden l.batch l.phase) l.completed l.made k (look_follows q s.past k place v x.left.started) x.left.is_open x.left.left
    (subst (λ (o : Option Asked). IsBegun (l.made k + 1) (looks later q k) (acts later q k) (bytes_read later q k) (synced later q k) o) (sym x.is) next)
    (subst (λ (o : Option Asked). IsPending (l.made k + 1) o) (sym x.is) (omega arith)) x.left.holds.worked

look_seen : (q : ℕ) (h : Header1) (s : Scene) (l : Lane) (k sector c p place : ℕ) (v : List ℕ) → IsReading q h s l k sector c → p < c → l.made k ≡ 2 * p → SeenBefore q s.past (entries.Look q k place v ∷ s.past) l.made k k
look_seen q h s l k sector c p place v x low at = λ i read kept.
    let now : with_at l.made k (l.made k + 1) k ≡ l.made k + 1 = at_same l.made k (l.made k + 1) k refl in
    let to : IsReadTo c (l.made k) (looks s.past q k) (bytes_read s.past q k) = reading_to q h s l k sector c x in
    let looked : looks s.past q k ≡ (l.made k + 1) / 2 = to.under (omega arith) in
    let was : length (bytes_read s.past q k) ≡ 512 * looks s.past q k = to.long in
    let upto : i < 512 * (with_at l.made k (l.made k + 1) k / 2) = kept.put in
    let half : with_at l.made k (l.made k + 1) k / 2 ≡ p = omega (arith, now, at) in
    let within : i < 512 * p = omega (arith, upto, half) in
    let old : i < length (bytes_read s.past q k) = omega (arith, within, was, looked, at) in (
      record { small = kept.small; put = omega (arith, within, at); looked = old },
      ap (λ (xs : List ℕ). slice_index xs i) (seen_more q s.past k place v) ∙ get_or_append_left (bytes_read s.past q k) v 0 i old,
    )

look_holds : (q : ℕ) (h : Header1) (s : Scene) (l : Lane) (k sector c p place : ℕ) (v : List ℕ) → IsReading q h s l k sector c → p < c → l.made k ≡ 2 * p → length v ≡ 512 → Holds q h (record s { past = entries.Look q k place v ∷ s.past }) (one_more k l)
look_holds q h s l k sector c p place v x low at long = record {
  known = look_known q h.size h.capacity s.past (s.heads q) k place v x.left.holds.known;
  worked = look_worked q h s l k sector c p place v x low at long;
  stored = step_stored q s.past (entries.Look q k place v ∷ s.past) (s.heads q) s.memory (hidden l.batch l.phase) l.completed l.made k (look_follows q s.past k place v x.left.started) (look_seen q h s l k sector c p place v x low at) x.left.holds.stored;
  carries = carries_on q s.past (entries.Look q k place v ∷ s.past) l.counter l.phase l.batch l.completed refl refl refl x.left.holds.carries;
  queue = queue_same q h s (entries.Look q k place v ∷ s.past) l.driver l.bell l.plan l.counter l.batch l.phase refl refl refl refl (λ j. refl) x.left.holds.queue;
}

look_fine : (q : ℕ) (h : Header1) (s : Scene) (l : Lane) (k sector c p : ℕ) → IsReading q h s l k sector c → p < c → l.made k ≡ 2 * p → Fine q h s l (task_turn h q s l k (asks.Read sector c) (Some (Look p)))
look_fine q h s l k sector c p x low at =
    let v : List ℕ = value s.past (sector + p) in
    let holds = look_holds q h s l k sector c p (sector + p) v x low at (x.left.holds.known.values (sector + p)) in
    let to : IsReadTo c (l.made k) (looks s.past q k) (bytes_read s.past q k) = reading_to q h s l k sector c x in
    let looked : looks s.past q k ≡ (l.made k + 1) / 2 = to.under (omega arith) in
    let place : looks s.past q k ≡ p = omega (arith, looked, at) in
    let is_look : look_at (asks.Read sector c) p ≡ Some (sector + p) = look_is sector c p low in
    let may : MayLook h.capacity h.mode s.past q k (sector + p) v = record {
      request = asks.Read sector c;
      works = at_work q h s l k (asks.Read sector c) x.left x.is (wide_served h (asks.Read sector c) x.left.back x.wide);
      next = ap (look_at (asks.Read sector c)) place ∙ is_look;
      held = refl;
    } in
    let whole : Fine q h s l (record { items = look_items q k s.past (Some (sector + p)); lane = one_more k l }) = record {
      each = (inr (holds_track q h (record s { past = entries.Look q k (sector + p) v ∷ s.past }) (one_more k l) x.left.good holds), tt);
      holds = holds;
      legal = (may, tt);
      idle = λ stopped. absurd (let fails : true ≡ false = sym x.left.started ∙ stopped in cc);
      collects = refl;
      falls = one_more_falls q h s l k x.left (omega (arith, at, low, x.wide.few));
    } in
    subst (λ (o : Option ℕ). Fine q h s l (record { items = look_items q k s.past o; lane = one_more k l })) (sym is_look) whole

-- ---- writing a sector

act_known : (q n cap : ℕ) (past : List Entry) (heads : List ℕ) (k s : ℕ) (v : List ℕ) → length v ≡ 512 → Known q n cap past heads → Known q n cap (entries.Act q k s v ∷ past) heads
act_known q n cap past heads k s v long a = record {
  offers_are = a.offers_are;
  offered = a.offered;
  distinct = a.distinct;
  below = a.below;
  shown = a.shown;
  fewer = a.fewer;
  room = a.room;
  good = a.good;
  wide = a.wide;
  unfaulted = a.unfaulted;
  values = λ t. let old : length (value past t) ≡ 512 = a.values t in elim (cases_eq s t) [
    | inl same ↦ ap length (let now : value (entries.Act q k s v ∷ past) t ≡ v = grind (arith, nat_tests) in now) ∙ long
    | inr apart ↦ ap length (let now : value (entries.Act q k s v ∷ past) t ≡ value past t = grind (arith, nat_tests) in now) ∙ old
  ];
}

act_follows : (q : ℕ) (past : List Entry) (k s : ℕ) (v : List ℕ) → started past q ≡ true → Follows q past (entries.Act q k s v ∷ past) k
act_follows q past k s v run = record {
  accepts = refl;
  publishes = refl;
  asks_same = λ j. refl;
  runs = run;
  runs_on = run;
  others = λ j apart.
      let differs : k ≢ j = λ e. apart (sym e) in
      let acted : acts (entries.Act q k s v ∷ past) q j ≡ acts past q j = grind (arith, nat_tests) in
      (refl, (acted, (refl, refl)));
}

acts_more : (q : ℕ) (past : List Entry) (k s : ℕ) (v : List ℕ) → acts (entries.Act q k s v ∷ past) q k ≡ acts past q k + 1
acts_more q past k s v = grind (arith, nat_tests)

-- a request that is worked on writes
record IsWriting (q : ℕ) (h : Header1) (s : Scene) (l : Lane) (k sector : ℕ) (bytes : List ℕ) : Type 0 where
  pub left : IsLeft q h s l k
  pub wide : IsWideWrite h.capacity sector bytes
  pub is : asked s.past q k ≡ Some (asks.Write sector bytes)

writing_to : (q : ℕ) (h : Header1) (s : Scene) (l : Lane) (k sector : ℕ) (bytes : List ℕ) → IsWriting q h s l k sector bytes → IsWrittenTo (length bytes / 512) (l.made k) (acts s.past q k)
writing_to q h s l k sector bytes x = written_to sector (l.made k) (looks s.past q k) (acts s.past q k) bytes (bytes_read s.past q k) (synced s.past q k) (asked s.past q k) x.is (x.left.holds.worked.progress x.left.started k)

write_never : (sector : ℕ) (bytes : List ℕ) (o : Option Asked) → o ≡ Some (asks.Write sector bytes) → IsRead o → ⊥
write_never sector bytes o is read = subst (λ (x : Option Asked). IsRead x) is read

act_worked : (q : ℕ) (h : Header1) (s : Scene) (l : Lane) (k sector place : ℕ) (bytes v : List ℕ) → IsWriting q h s l k sector bytes → l.made k < length bytes / 512 → Worked q (entries.Act q k place v ∷ s.past) l.phase (hidden l.batch l.phase) l.completed (with_at l.made k (l.made k + 1))
act_worked q h s l k sector place bytes v x low =
    let later : List Entry = entries.Act q k place v ∷ s.past in
    let acted : acts s.past q k ≡ l.made k = (writing_to q h s l k sector bytes x).under (omega arith) in
    let more : acts later q k ≡ acts s.past q k + 1 = acts_more q s.past k place v in
    let next : IsWrittenTo (length bytes / 512) (l.made k + 1) (acts later q k) = record { under = λ e. omega (arith, acted, more); whole = λ e. omega (arith, acted, more, low, e) } in
    step_worked q s.past later l.phase (hidden l.batch l.phase) l.completed l.made k (act_follows q s.past k place v x.left.started) x.left.is_open x.left.left
    (subst (λ (o : Option Asked). IsBegun (l.made k + 1) (looks later q k) (acts later q k) (bytes_read later q k) (synced later q k) o) (sym x.is) next)
    (subst (λ (o : Option Asked). IsPending (l.made k + 1) o) (sym x.is) (omega (arith, low))) x.left.holds.worked

act_holds : (q : ℕ) (h : Header1) (s : Scene) (l : Lane) (k sector place : ℕ) (bytes v : List ℕ) → IsWriting q h s l k sector bytes → l.made k < length bytes / 512 → length v ≡ 512 → Holds q h (record s { past = entries.Act q k place v ∷ s.past }) (one_more k l)
act_holds q h s l k sector place bytes v x low long = record {
  known = act_known q h.size h.capacity s.past (s.heads q) k place v long x.left.holds.known;
  worked = act_worked q h s l k sector place bytes v x low;
  stored = step_stored q s.past (entries.Act q k place v ∷ s.past) (s.heads q) s.memory (hidden l.batch l.phase) l.completed l.made k (act_follows q s.past k place v x.left.started) (seen_never q s.past (entries.Act q k place v ∷ s.past) l.made k (write_never sector bytes (asked s.past q k) x.is)) x.left.holds.stored;
  carries = carries_on q s.past (entries.Act q k place v ∷ s.past) l.counter l.phase l.batch l.completed refl refl refl x.left.holds.carries;
  queue = queue_same q h s (entries.Act q k place v ∷ s.past) l.driver l.bell l.plan l.counter l.batch l.phase refl refl refl refl (λ j. refl) x.left.holds.queue;
}

-- a sector of some bytes
pub sector_long : (xs : List ℕ) (p : ℕ) → 512 * p + 512 ≤ length xs → length (slice_range xs (512 * p) (512 * p + 512)) ≡ 512
sector_long xs p fits =
    let wide : 512 * p + 512 - 512 * p ≡ 512 = omega arith in
    length-take-le (512 * p + 512 - 512 * p) (drop (512 * p) xs) (omega (arith, length-drop (512 * p) xs)) ∙ wide

pub sector_few : (xs : List ℕ) (p : ℕ) → length (slice_range xs (512 * p) (512 * p + 512)) ≤ 512
sector_few xs p = omega (arith, length-take (512 * p + 512 - 512 * p) (drop (512 * p) xs))

pub sector_byte : (xs : List ℕ) (p i : ℕ) → i < 512 → slice_index (slice_range xs (512 * p) (512 * p + 512)) i ≡ slice_index xs (512 * p + i)
sector_byte xs p i low = get_or-take (512 * p + 512 - 512 * p) (drop (512 * p) xs) i 0 (omega arith) ∙ get_or-drop (512 * p) xs i 0

act_fine : (q : ℕ) (h : Header1) (s : Scene) (l : Lane) (k sector p : ℕ) (bytes : List ℕ) → IsWriting q h s l k sector bytes → l.made k ≡ p → p < length bytes / 512 → Fine q h s l (task_turn h q s l k (asks.Write sector bytes) (Some (Act p)))
act_fine q h s l k sector p bytes x at low =
    let v : List ℕ = slice_range bytes (512 * p) (512 * p + 512) in
    let v_long : length v ≡ 512 = sector_long bytes p (omega arith) in
    let effect : effect_at (asks.Write sector bytes) p ≡ Some (written sector bytes p) = effect_is sector bytes p low in
    let holds = act_holds q h s l k sector (sector + p) bytes v x (omega arith) v_long in
    let acted : acts s.past q k ≡ p = (writing_to q h s l k sector bytes x).under (omega arith) ∙ at in
    let may : MayAct h.capacity h.mode s.past q k (sector + p) v = record {
      request = asks.Write sector bytes;
      works = at_work q h s l k (asks.Write sector bytes) x.left x.is (wide_served h (asks.Write sector bytes) x.left.back x.wide);
      next = ap (effect_at (asks.Write sector bytes)) acted ∙ effect;
    } in
    let whole : Fine q h s l (record { items = act_items q k (Some (written sector bytes p)); lane = one_more k l }) = record {
      each = (inr (holds_track q h (record s { past = entries.Act q k (sector + p) v ∷ s.past }) (one_more k l) x.left.good holds), tt);
      holds = holds;
      legal = (may, tt);
      idle = λ stopped. absurd (let fails : true ≡ false = sym x.left.started ∙ stopped in cc);
      collects = refl;
      falls = one_more_falls q h s l k x.left (omega (arith, at, low, x.wide.few));
    } in
    subst (λ (o : Option SectorValue). Fine q h s l (record { items = act_items q k o; lane = one_more k l })) (sym effect) whole

-- ---- making all stable

sync_follows : (q : ℕ) (past : List Entry) (k : ℕ) → started past q ≡ true → Follows q past (entries.Sync q k ∷ past) k
sync_follows q past k run = record {
  accepts = refl;
  publishes = refl;
  asks_same = λ j. refl;
  runs = run;
  runs_on = run;
  others = λ j apart.
      let differs : k ≢ j = λ e. apart (sym e) in
      let stable : synced (entries.Sync q k ∷ past) q j ≡ synced past q j = grind (arith, nat_tests) in
      (refl, (refl, (refl, stable)));
}

sync_known : (q n cap : ℕ) (past : List Entry) (heads : List ℕ) (k : ℕ) → Known q n cap past heads → Known q n cap (entries.Sync q k ∷ past) heads
sync_known q n cap past heads k a = record {
  offers_are = a.offers_are;
  offered = a.offered;
  distinct = a.distinct;
  below = a.below;
  shown = a.shown;
  fewer = a.fewer;
  room = a.room;
  good = a.good;
  wide = a.wide;
  unfaulted = a.unfaulted;
  values = a.values;
}

flush_never : (o : Option Asked) → o ≡ Some asks.Flush → IsRead o → ⊥
flush_never o is read = subst (λ (x : Option Asked). IsRead x) is read

now_stable : (q : ℕ) (past : List Entry) (k : ℕ) → synced (entries.Sync q k ∷ past) q k ≡ true
now_stable q past k = grind (arith, nat_tests)

sync_worked : (q : ℕ) (h : Header1) (s : Scene) (l : Lane) (k : ℕ) → IsLeft q h s l k → asked s.past q k ≡ Some asks.Flush → l.made k ≡ 0 → Worked q (entries.Sync q k ∷ s.past) l.phase (hidden l.batch l.phase) l.completed (with_at l.made k (l.made k + 1))
sync_worked q h s l k x is none =
    let later : List Entry = entries.Sync q k ∷ s.past in
    step_worked q s.past later l.phase (hidden l.batch l.phase) l.completed l.made k (sync_follows q s.past k x.started) x.is_open x.left
    (subst (λ (o : Option Asked). IsBegun (l.made k + 1) (looks later q k) (acts later q k) (bytes_read later q k) (synced later q k) o) (sym is) (now_stable q s.past k))
    (subst (λ (o : Option Asked). IsPending (l.made k + 1) o) (sym is) (omega arith)) x.holds.worked

sync_holds : (q : ℕ) (h : Header1) (s : Scene) (l : Lane) (k : ℕ) → IsLeft q h s l k → asked s.past q k ≡ Some asks.Flush → l.made k ≡ 0 → Holds q h (record s { past = entries.Sync q k ∷ s.past }) (one_more k l)
sync_holds q h s l k x is none = record {
  known = sync_known q h.size h.capacity s.past (s.heads q) k x.holds.known;
  worked = sync_worked q h s l k x is none;
  stored = step_stored q s.past (entries.Sync q k ∷ s.past) (s.heads q) s.memory (hidden l.batch l.phase) l.completed l.made k (sync_follows q s.past k x.started) (seen_never q s.past (entries.Sync q k ∷ s.past) l.made k (flush_never (asked s.past q k) is)) x.holds.stored;
  carries = carries_on q s.past (entries.Sync q k ∷ s.past) l.counter l.phase l.batch l.completed refl refl refl x.holds.carries;
  queue = queue_same q h s (entries.Sync q k ∷ s.past) l.driver l.bell l.plan l.counter l.batch l.phase refl refl refl refl (λ j. refl) x.holds.queue;
}

sync_fine : (q : ℕ) (h : Header1) (s : Scene) (l : Lane) (k : ℕ) → IsLeft q h s l k → asked s.past q k ≡ Some asks.Flush → l.made k ≡ 0 → Fine q h s l (task_turn h q s l k asks.Flush (Some Sync))
sync_fine q h s l k x is none =
    let holds = sync_holds q h s l k x is none in
    let may : MaySync h.capacity h.mode s.past q k = record {
      request = asks.Flush;
      works = at_work q h s l k asks.Flush x is (wide_served h asks.Flush x.back tt);
      first = ((x.holds.worked.progress x.started k).fresh none).1.1.1;
      due = tt;
    } in
    record {
      each = (inr (holds_track q h (record s { past = entries.Sync q k ∷ s.past }) (one_more k l) x.good holds), tt);
      holds = holds;
      legal = (may, tt);
      idle = λ stopped. absurd (let fails : true ≡ false = sym x.started ∙ stopped in cc);
      collects = refl;
      falls = one_more_falls q h s l k x (omega arith);
    }

-- ---- storing what was read

pub other_open : (q : ℕ) (h : Header1) (s : Scene) (l : Lane) (k j : ℕ) → IsLeft q h s l k → IsOpen s.past q j → j ≢ k → slice_index (s.heads q) j ≢ slice_index (s.heads q) k
other_open q h s l k j x is_open apart same =
    apart (heads_apart q h s l.driver l.bell l.plan l.counter l.batch l.phase j k x.holds.queue (open_out q h.size h.capacity s.past (s.heads q) j x.holds.known is_open) (open_out q h.size h.capacity s.past (s.heads q) k x.holds.known x.is_open) same)

-- a store into the buffer of one request leaves those of the others
off_other : (q : ℕ) (h : Header1) (s : Scene) (l : Lane) (k j p : ℕ) (bs : List ℕ) → IsLeft q h s l k → IsOpen s.past q j → j ≢ k → buffer q (s.heads q) k ≤ p → p + length bs ≤ buffer q (s.heads q) k + 8192 → OffBuffer q (s.heads q) j p bs
off_other q h s l k j p bs x is_open apart from upto = other_buffer q (s.heads q) j (slice_index (s.heads q) k) p bs (other_open q h s l k j x is_open apart) (omega arith) (omega arith)

same_follows : (q : ℕ) (past : List Entry) (k : ℕ) → started past q ≡ true → Follows q past past k
same_follows q past k run = record { accepts = refl; publishes = refl; asks_same = λ j. refl; runs = run; runs_on = run; others = λ j apart. (refl, (refl, (refl, refl))) }

put_worked : (q : ℕ) (h : Header1) (s : Scene) (l : Lane) (k sector c p : ℕ) → IsReading q h s l k sector c → p < c → l.made k ≡ 2 * p + 1 → Worked q s.past l.phase (hidden l.batch l.phase) l.completed (with_at l.made k (l.made k + 1))
put_worked q h s l k sector c p x low at =
    let to : IsReadTo c (l.made k) (looks s.past q k) (bytes_read s.past q k) = reading_to q h s l k sector c x in
    let looked : looks s.past q k ≡ (l.made k + 1) / 2 = to.under (omega arith) in
    let next : IsReadTo c (l.made k + 1) (looks s.past q k) (bytes_read s.past q k) = record { under = λ e. omega (arith, looked, at); whole = λ e. omega (arith, looked, at, low, e); long = to.long } in
    step_worked q s.past s.past l.phase (hidden l.batch l.phase) l.completed l.made k (same_follows q s.past k x.left.started) x.left.is_open x.left.left
    (subst (λ (o : Option Asked). IsBegun (l.made k + 1) (looks s.past q k) (acts s.past q k) (bytes_read s.past q k) (synced s.past q k) o) (sym x.is) next)
    (subst (λ (o : Option Asked). IsPending (l.made k + 1) o) (sym x.is) (omega (arith, at, low))) x.left.holds.worked

-- a byte of a sector that was stored just now, or before
put_byte : (m : Bytes) (start p i : ℕ) (read : List ℕ) → 512 * p + 512 ≤ length read → i < 512 * (p + 1) → (i < 512 * p → m 0 (start + i) ≡ slice_index read i)
    → put m 0 (start + 512 * p) (slice_range read (512 * p) (512 * p + 512)) 0 (start + i) ≡ slice_index read i
put_byte m start p i read fits low old =
    let bs : List ℕ = slice_range read (512 * p) (512 * p + 512) in
    let long : length bs ≡ 512 = sector_long read p fits in
    elim (cases_lt i (512 * p)) [
      | inl before ↦ put_other m 0 (start + 512 * p) bs 0 (start + i) (inr (inl (omega arith))) ∙ old before
      | inr after ↦
          let d : ℕ = i - 512 * p in
          let at : start + i ≡ start + 512 * p + d = omega arith in
          let back : 512 * p + d ≡ i = omega arith in
          ap (λ (q : ℕ). put m 0 (start + 512 * p) bs 0 q) at ∙ put_inside m 0 (start + 512 * p) bs d (omega (arith, long)) ∙ sector_byte read p d (omega arith) ∙ ap (slice_index read) back
    ]

put_holds : (q : ℕ) (h : Header1) (s : Scene) (l : Lane) (k sector c p : ℕ) → IsReading q h s l k sector c → p < c → l.made k ≡ 2 * p + 1
    → Holds q h (stored_at (sectors_place (buffer q (s.heads q) k) + 512 * p) (slice_range (bytes_read s.past q k) (512 * p) (512 * p + 512)) s) (one_more k l)
put_holds q h s l k sector c p x low at =
    let read : List ℕ = bytes_read s.past q k in
    let place : ℕ = sectors_place (buffer q (s.heads q) k) + 512 * p in
    let bs : List ℕ = slice_range read (512 * p) (512 * p + 512) in
    let few : c ≤ 8 = x.wide.few in
    let to : IsReadTo c (l.made k) (looks s.past q k) read = reading_to q h s l k sector c x in
    let looked : looks s.past q k ≡ (l.made k + 1) / 2 = to.under (omega arith) in
    let fits : 512 * p + 512 ≤ length read = omega (arith, looked, to.long, at) in
    let long : length bs ≡ 512 = sector_long read p fits in record {
      known = x.left.holds.known;
      worked = put_worked q h s l k sector c p x low at;
      stored = record {
        sectors = λ j i is_open kept reads. elim (cases_eq j k) [
          | inl same ↦
              let now : with_at l.made k (l.made k + 1) j ≡ l.made k + 1 = at_same l.made k (l.made k + 1) j same in
              let upto : i < 512 * (with_at l.made k (l.made k + 1) j / 2) = kept.put in
              let half : with_at l.made k (l.made k + 1) j / 2 ≡ p + 1 = omega (arith, now, at) in
              let reads_k : IsRead (asked s.past q k) = subst (λ (n : ℕ). IsRead (asked s.past q n)) same reads in
              subst (λ (n : ℕ). put s.memory 0 place bs 0 (sectors_place (buffer q (s.heads q) n) + i) ≡ slice_index (bytes_read s.past q n) i) (sym same)
              (put_byte s.memory (sectors_place (buffer q (s.heads q) k)) p i read fits (omega (arith, upto, half)) (λ before. x.left.holds.stored.sectors k i x.left.is_open (record { small = kept.small; put = omega (arith, before, at); looked = omega (arith, before, fits) }) reads_k))
          | inr apart ↦
              let now : with_at l.made k (l.made k + 1) j ≡ l.made j = at_other l.made k (l.made k + 1) j apart in
              sector_elsewhere q (s.heads q) j i s.memory place bs kept.small (off_other q h s l k j place bs x.left is_open apart (omega arith) (omega arith))
              ∙ x.left.holds.stored.sectors j i is_open (subst (λ (n : ℕ). IsKept n (length (bytes_read s.past q j)) i) now kept) reads
        ];
        status = λ j held.
            status_elsewhere q (s.heads q) j s.memory place bs (off_other q h s l k j place bs x.left (x.left.holds.worked.opens j held) (among_apart (l.completed ++ hidden l.batch l.phase) j k held x.left.left) (omega arith) (omega arith)) ∙ x.left.holds.stored.status j held;
      };
      carries = x.left.holds.carries;
      queue = queue_elsewhere q h s place bs l.driver l.bell l.plan l.counter l.batch l.phase x.left.good.size (inr (omega arith)) x.left.holds.queue;
    }

put_fine : (q : ℕ) (h : Header1) (s : Scene) (l : Lane) (k sector c p : ℕ) → IsReading q h s l k sector c → p < c → l.made k ≡ 2 * p + 1 → Fine q h s l (task_turn h q s l k (asks.Read sector c) (Some (Put p)))
put_fine q h s l k sector c p x low at =
    let holds = put_holds q h s l k sector c p x low at in
    record {
      each = (inr (holds_track q h (stored_at (sectors_place (buffer q (s.heads q) k) + 512 * p) (slice_range (bytes_read s.past q k) (512 * p) (512 * p + 512)) s) (one_more k l) x.left.good holds), tt);
      holds = holds;
      legal = tt;
      idle = λ stopped. absurd (let fails : true ≡ false = sym x.left.started ∙ stopped in cc);
      collects = refl;
      falls = one_more_falls q h s l k x.left (omega (arith, at, low, x.wide.few));
    }

-- ---- the status

-- the lane after the last step
abbrev finished : ℕ → Lane → Lane
finished k l = record l { completed = l.completed ++ k ∷ []; made = with_at l.made k (l.made k + 1) }

pub among_more : (xs ys : List ℕ) (k j : ℕ) → is_among ((xs ++ k ∷ []) ++ ys) j ≡ true → (j ≡ k) ⊎ (is_among (xs ++ ys) j ≡ true)
among_more xs ys k j held =
    let left : is_among ((xs ++ k ∷ []) ++ ys) j ≡ (is_among (xs ++ k ∷ []) j || is_among ys j) = is_among_append (xs ++ k ∷ []) ys j in
    let inner : is_among (xs ++ k ∷ []) j ≡ (is_among xs j || is_among (k ∷ []) j) = is_among_append xs (k ∷ []) j in
    let right : is_among (xs ++ ys) j ≡ (is_among xs j || is_among ys j) = is_among_append xs ys j in
    elim (cases_eq j k) [
      | inl same ↦ inl same
      | inr apart ↦ inr (let out : k ≢ j = λ e. apart (sym e) in grind (arith, nat_tests))
    ]

pub not_more : (xs ys : List ℕ) (k j : ℕ) → is_among ((xs ++ k ∷ []) ++ ys) j ≡ false → (j ≢ k) × (is_among (xs ++ ys) j ≡ false)
not_more xs ys k j out =
    let left : is_among ((xs ++ k ∷ []) ++ ys) j ≡ (is_among (xs ++ k ∷ []) j || is_among ys j) = is_among_append (xs ++ k ∷ []) ys j in
    let inner : is_among (xs ++ k ∷ []) j ≡ (is_among xs j || is_among (k ∷ []) j) = is_among_append xs (k ∷ []) j in
    let right : is_among (xs ++ ys) j ≡ (is_among xs j || is_among ys j) = is_among_append xs ys j in
    (λ same. let turned : k ≡ j = sym same in grind (arith, nat_tests), grind (arith, nat_tests))

-- the status changes nothing of what a request has done
full_begun : (q : ℕ) (past : List Entry) (made : ℕ → ℕ) (k : ℕ) (o : Option Asked) → asked past q k ≡ o → IsFull (made k) o → Progress (made k) (looks past q k) (acts past q k) (bytes_read past q k) (synced past q k) o
    → IsBegun (made k + 1) (looks past q k) (acts past q k) (bytes_read past q k) (synced past q k) o
full_begun q past made k (Some (asks.Read s c)) is full p =
    let to = read_to s c (made k) (looks past q k) (acts past q k) (bytes_read past q k) (synced past q k) (Some (asks.Read s c)) refl p in
    record { under = λ e. absurd (omega arith); whole = λ e. to.whole full; long = to.long }
full_begun q past made k (Some (asks.Write s bytes)) is full p =
    let to = written_to s (made k) (looks past q k) (acts past q k) bytes (bytes_read past q k) (synced past q k) (Some (asks.Write s bytes)) refl p in
    record { under = λ e. absurd (omega arith); whole = λ e. to.whole full }
full_begun q past made k (Some asks.Flush) is full p = p.begun full
full_begun q past made k (Some asks.Id) is full p = tt
full_begun q past made k (Some (asks.Discard parts)) is full p = tt
full_begun q past made k (Some (asks.Zero parts)) is full p = tt
full_begun q past made k None is full p = tt

full_more : (c : ℕ) (o : Option Asked) → IsFull c o → IsFull (c + 1) o
full_more c (Some (asks.Read s n)) f = omega arith
full_more c (Some (asks.Write s bytes)) f = omega arith
full_more c (Some asks.Flush) f = omega arith
full_more c (Some asks.Id) f = tt
full_more c (Some (asks.Discard parts)) f = tt
full_more c (Some (asks.Zero parts)) f = tt
full_more c None f = tt

status_worked : (q : ℕ) (past : List Entry) (phase : Phase) (batch completed : List ℕ) (made : ℕ → ℕ) (k : ℕ) → started past q ≡ true → IsOpen past q k → is_among (completed ++ batch) k ≡ false → IsFull (made k) (asked past q k)
    → Worked q past phase batch completed made → Worked q past phase batch (completed ++ k ∷ []) (with_at made k (made k + 1))
status_worked q past phase batch completed made k run is_open left whole w = record {
  distinct = distinct_more completed batch k w.distinct left;
  opens = λ j held. elim (among_more completed batch k j held) [
    | inl same ↦ subst (λ (i : ℕ). IsOpen past q i) (sym same) is_open
    | inr old ↦ w.opens j old
  ];
  untouched = λ j high. at_other made k (made k + 1) j (λ same. omega (arith, is_open.taken)) ∙ w.untouched j high;
  progress = λ on j. elim (cases_eq j k) [
    | inl same ↦ far_same q past past made k j same (same_follows q past k run) (full_begun q past made k (asked past q k) refl whole (w.progress run k))
    | inr apart ↦ far_other q past past made k j (same_follows q past k run) apart (w.progress run j)
  ];
  full = λ j held. elim (among_more completed batch k j held) [
    | inl same ↦ subst (λ (i : ℕ). IsFull (with_at made k (made k + 1) i) (asked past q i)) (sym same)
        (subst (λ (c : ℕ). IsFull c (asked past q k)) (sym (at_same made k (made k + 1) k refl)) (full_more (made k) (asked past q k) whole))
    | inr old ↦ subst (λ (c : ℕ). IsFull c (asked past q j)) (sym (at_other made k (made k + 1) j (among_apart (completed ++ batch) j k old left))) (w.full j old)
  ];
  pending = λ j is_open_j out.
      let parts = not_more completed batch k j out in
      subst (λ (c : ℕ). IsPending c (asked past q j)) (sym (at_other made k (made k + 1) j parts.0)) (w.pending j is_open_j parts.1);
  quiet = λ stopped. absurd (let fails : true ≡ false = sym run ∙ stopped in cc);
  between = w.between;
}

status_holds : (q : ℕ) (h : Header1) (s : Scene) (l : Lane) (k p : ℕ) → IsLeft q h s l k → IsFull (l.made k) (asked s.past q k) → (IsRead (asked s.past q k) → (l.made k + 1) / 2 ≡ l.made k / 2) → p ≡ status_place (buffer q (s.heads q) k)
    → Holds q h (stored_at p (0 ∷ []) s) (finished k l)
status_holds q h s l k p x whole half at = record {
  known = x.holds.known;
  worked = status_worked q s.past l.phase (hidden l.batch l.phase) l.completed l.made k x.started x.is_open x.left whole x.holds.worked;
  stored = record {
    sectors = λ j i is_open kept read. elim (cases_eq j k) [
      | inl same ↦
          let now : with_at l.made k (l.made k + 1) j ≡ l.made k + 1 = at_same l.made k (l.made k + 1) j same in
          let read_k : IsRead (asked s.past q k) = subst (λ (n : ℕ). IsRead (asked s.past q n)) same read in
          let halves : (l.made k + 1) / 2 ≡ l.made k / 2 = half read_k in
          let upto : i < 512 * (with_at l.made k (l.made k + 1) j / 2) = kept.put in
          let nows : with_at l.made k (l.made k + 1) j / 2 ≡ l.made k / 2 = ap (λ (n : ℕ). n / 2) now ∙ halves in
          let kept_k : IsKept (l.made k) (length (bytes_read s.past q k)) i = record { small = kept.small; put = omega (arith, upto, nows); looked = subst (λ (n : ℕ). i < length (bytes_read s.past q n)) same kept.looked } in
          let old : s.memory 0 (sectors_place (buffer q (s.heads q) k) + i) ≡ slice_index (bytes_read s.past q k) i = x.holds.stored.sectors k i x.is_open kept_k read_k in
          let here : put s.memory 0 p (0 ∷ []) 0 (sectors_place (buffer q (s.heads q) k) + i) ≡ s.memory 0 (sectors_place (buffer q (s.heads q) k) + i) =
          put_other s.memory 0 p (0 ∷ []) 0 (sectors_place (buffer q (s.heads q) k) + i) (inr (inr (omega arith))) in
          subst (λ (n : ℕ). put s.memory 0 p (0 ∷ []) 0 (sectors_place (buffer q (s.heads q) n) + i) ≡ slice_index (bytes_read s.past q n) i) (sym same) (here ∙ old)
      | inr apart ↦
          let now : with_at l.made k (l.made k + 1) j ≡ l.made j = at_other l.made k (l.made k + 1) j apart in
          sector_elsewhere q (s.heads q) j i s.memory p (0 ∷ []) kept.small (off_other q h s l k j p (0 ∷ []) x is_open apart (omega arith) (omega arith)) ∙ x.holds.stored.sectors j i is_open (subst (λ (n : ℕ). IsKept n (length (bytes_read s.past q j)) i) now kept) read
    ];
    status = λ j held. elim (among_more l.completed (hidden l.batch l.phase) k j held) [
      | inl same ↦
          let here : status_place (buffer q (s.heads q) j) ≡ p + 0 = ap (λ (i : ℕ). status_place (buffer q (s.heads q) i)) same ∙ omega (arith, at) in
          ap (λ (e : ℕ). put s.memory 0 p (0 ∷ []) 0 e) here ∙ put_inside s.memory 0 p (0 ∷ []) 0 (omega arith)
      | inr old ↦
          status_elsewhere q (s.heads q) j s.memory p (0 ∷ []) (off_other q h s l k j p (0 ∷ []) x (x.holds.worked.opens j old) (among_apart (l.completed ++ hidden l.batch l.phase) j k old x.left) (omega arith) (omega arith)) ∙ x.holds.stored.status j old
    ];
  };
  carries = carries_done q s.past l.counter l.phase l.batch l.completed k x.is_open x.left x.holds.carries;
  queue = queue_elsewhere q h s p (0 ∷ []) l.driver l.bell l.plan l.counter l.batch l.phase x.good.size (inr (omega arith)) x.holds.queue;
}

status_fine : (q : ℕ) (h : Header1) (s : Scene) (l : Lane) (k : ℕ) (r : Asked) → IsLeft q h s l k → refusal h.capacity h.mode r ≡ None → IsFull (l.made k) (asked s.past q k) → (IsRead (asked s.past q k) → (l.made k + 1) / 2 ≡ l.made k / 2) → l.made k ≤ 16
    → Fine q h s l (task_turn h q s l k r (Some Status))
status_fine q h s l k r x served whole half small =
    let p : ℕ = status_place (buffer q (s.heads q) k) in
    let holds = status_holds q h s l k p x whole half refl in
    let zero_status : status_of h r ≡ 0 = ap (λ (o : Option ℕ). unwrap_or o 0) served in
    let fine : Fine q h s l (record { items = items.Store T5 M p (0 ∷ []) ∷ []; lane = finished k l }) = record {
      each = (inr (holds_track q h (stored_at p (0 ∷ []) s) (finished k l) x.good holds), tt);
      holds = holds;
      legal = tt;
      idle = λ stopped. absurd (let fails : true ≡ false = sym x.started ∙ stopped in cc);
      collects = refl;
      falls = omega (arith, length-append l.completed (k ∷ []), status_falls (published s.past q) l.completed (hidden l.batch l.phase) l.made (accepted s.past q) k x.is_open.taken x.is_open.unpublished x.left small);
    } in
    subst (λ (st : ℕ). Fine q h s l (record { items = items.Store T5 M p (st ∷ []) ∷ []; lane = finished k l })) (sym zero_status) fine

-- ---- any step of a request

read_fine : (q : ℕ) (h : Header1) (s : Scene) (l : Lane) (k sector c : ℕ) → IsReading q h s l k sector c → (o : Option RequestStep) → ReadAt 0 c (l.made k) o → Fine q h s l (task_turn h q s l k (asks.Read sector c) o)
read_fine q h s l k sector c x o (ToLook p low at is) =
    subst (λ (y : Option RequestStep). Fine q h s l (task_turn h q s l k (asks.Read sector c) y)) (sym (is ∙ ap (λ (e : ℕ). Some (Look e)) (let same : 0 + p ≡ p = omega arith in same))) (look_fine q h s l k sector c p x low at)
read_fine q h s l k sector c x o (ToPut p low at is) =
    subst (λ (y : Option RequestStep). Fine q h s l (task_turn h q s l k (asks.Read sector c) y)) (sym (is ∙ ap (λ (e : ℕ). Some (Put e)) (let same : 0 + p ≡ p = omega arith in same))) (put_fine q h s l k sector c p x low at)
read_fine q h s l k sector c x o (ToReply at is) =
    subst (λ (y : Option RequestStep). Fine q h s l (task_turn h q s l k (asks.Read sector c) y)) (sym is)
    (status_fine q h s l k (asks.Read sector c) x.left (wide_served h (asks.Read sector c) x.left.back x.wide) (subst (λ (y : Option Asked). IsFull (l.made k) y) (sym x.is) (omega (arith, at))) (λ read. omega (arith, at)) (omega (arith, at, x.wide.few)))

write_fine : (q : ℕ) (h : Header1) (s : Scene) (l : Lane) (k sector : ℕ) (bytes : List ℕ) → IsWriting q h s l k sector bytes → (o : Option RequestStep) → WriteAt 0 (length bytes / 512) (l.made k) o → Fine q h s l (task_turn h q s l k (asks.Write sector bytes) o)
write_fine q h s l k sector bytes x o (ToAct low is) =
    subst (λ (y : Option RequestStep). Fine q h s l (task_turn h q s l k (asks.Write sector bytes) y)) (sym (is ∙ ap (λ (e : ℕ). Some (Act e)) (let same : 0 + l.made k ≡ l.made k = omega arith in same))) (act_fine q h s l k sector (l.made k) bytes x refl low)
write_fine q h s l k sector bytes x o (ToEnd at is) =
    subst (λ (y : Option RequestStep). Fine q h s l (task_turn h q s l k (asks.Write sector bytes) y)) (sym is)
    (status_fine q h s l k (asks.Write sector bytes) x.left (wide_served h (asks.Write sector bytes) x.left.back x.wide) (subst (λ (y : Option Asked). IsFull (l.made k) y) (sym x.is) (omega (arith, at))) (λ read. absurd (write_never sector bytes (asked s.past q k) x.is read)) (omega (arith, at, x.wide.few)))

flush_fine : (q : ℕ) (h : Header1) (s : Scene) (l : Lane) (k : ℕ) → IsLeft q h s l k → asked s.past q k ≡ Some asks.Flush → l.made k ≤ 1 → (made : ℕ) → l.made k ≡ made → Fine q h s l (task_turn h q s l k asks.Flush (slice_get (Sync ∷ Status ∷ []) made))
flush_fine q h s l k x is few zero at = sync_fine q h s l k x is at
flush_fine q h s l k x is few (suc zero) at =
    status_fine q h s l k asks.Flush x (wide_served h asks.Flush x.back tt) (subst (λ (y : Option Asked). IsFull (l.made k) y) (sym is) (omega (arith, at))) (λ read. absurd (flush_never (asked s.past q k) is read)) (omega (arith, few))
flush_fine q h s l k x is few (suc (suc made)) at = absurd (omega (arith, few, at))

-- the next step of a request, as those that aren't refused have it
served_fine : (q : ℕ) (h : Header1) (s : Scene) (l : Lane) (k : ℕ) (r : Asked) → IsLeft q h s l k → asked s.past q k ≡ Some r → IsWide h.capacity (Some r) → Fine q h s l (task_turn h q s l k r (slice_get (disk_steps r ++ Status ∷ []) (l.made k))) → Fine q h s l (request_turn h q s l k (asked s.past q k))
served_fine q h s l k r x is wide fine =
    subst (λ (o : Option Asked). Fine q h s l (request_turn h q s l k o)) (sym is)
    (subst (λ (steps : List RequestStep). Fine q h s l (task_turn h q s l k r (slice_get steps (l.made k)))) (sym (wide_steps h r x.back wide)) fine)

pub request_fine : (q : ℕ) (h : Header1) (s : Scene) (l : Lane) (k : ℕ) → IsLeft q h s l k → Fine q h s l (request_turn h q s l k (asked s.past q k))
request_fine q h s l k x =
    let known : Known q h.size h.capacity s.past (s.heads q) = x.holds.known in
    let low : k < length (s.heads q) = omega (arith, x.is_open.taken, known.offered) in
    go (wide_cases h.capacity (asked s.past q k) (known.wide k low)) (x.holds.worked.pending k x.is_open x.left)
  where
    go : WideCases h.capacity (asked s.past q k) → IsPending (l.made k) (asked s.past q k) → Fine q h s l (request_turn h q s l k (asked s.past q k))
    go (AtRead sector c wide is) pending =
        let few : l.made k ≤ 2 * c = subst (λ (o : Option Asked). IsPending (l.made k) o) is pending in
        served_fine q h s l k (asks.Read sector c) x is wide (read_fine q h s l k sector c (record { left = x; wide = wide; is = is }) (slice_get (look_steps 0 c ++ Status ∷ []) (l.made k)) (read_at 0 c (l.made k) few))
    go (AtWrite sector bytes wide is) pending =
        let few : l.made k ≤ length bytes / 512 = subst (λ (o : Option Asked). IsPending (l.made k) o) is pending in
        served_fine q h s l k (asks.Write sector bytes) x is wide (write_fine q h s l k sector bytes (record { left = x; wide = wide; is = is }) (slice_get (act_steps 0 (length bytes / 512) ++ Status ∷ []) (l.made k)) (write_at 0 (length bytes / 512) (l.made k) few))
    go (AtFlush is) pending =
        let few : l.made k ≤ 1 = subst (λ (o : Option Asked). IsPending (l.made k) o) is pending in
        served_fine q h s l k asks.Flush x is tt (flush_fine q h s l k x is few (l.made k) refl)
