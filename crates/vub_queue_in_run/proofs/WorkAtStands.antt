-- Where the queue stands after a turn of work.
use Rattle.std.proofs.Common.{◌≡◌, ◌≢◌, ◌<◌, ℕ, suc, ◌+◌, ◌*◌, ◌/◌, ◌%◌, Bool, true, false, not, List, [], ◌∷◌, ◌++◌, length, map, set, refl, ap, sym, ◌∙◌, subst, inl, inr, arith, length-set}
use Rattle.std.specs.Prelude.{Option, Some, None, slice_index, slice_get, slice_range, get_or, filter, remove}
use Rattle.std.proofs.lemmas.Bool.Decides.{nat_tests}
use Rattle.std.proofs.lemmas.Bool.{cases_eq, cases_lt}
use Rattle.std.proofs.lemmas.List.{get_or-set_same, get_or-set_other, map-append, length-append, ext_get_or, get_or-append-add}
use Rattle.std.proofs.lemmas.Option.{slice_get_within}
use Rattle.vub_base.specs.declared.header.Header1.{Header1}
use Rattle.vub_disk.specs.Values.{Values}
use Rattle.vub_steps.specs.declared.readiness.Turn.TheVariants as turns
use Rattle.vub_steps.specs.declared.steps.Phase.{Phase}
use Rattle.vub_steps.specs.declared.steps.Plan.{Plan}
use Rattle.vub_rec_split.specs.Starts.{RecoveryState}
use Rattle.vub_driver.specs.Layout.{area_place, buffer_place}
use Rattle.vub_device.specs.declared.entry.Asked.{Asked}
use Rattle.vub_device.specs.declared.entry.Asked.TheVariants as asks
use Rattle.vub_device.specs.declared.entry.Entry.{Entry}
use Rattle.vub_device.specs.declared.entry.Entry.TheVariants as entries
use Rattle.vub_device.specs.declared.entry.SectorValue.{SectorValue}
use Rattle.vub_device.specs.Crash.{value}
use Rattle.vub_device.specs.Past.{asked, accepted, published, missing_below, open_numbers, is_among, IsOpen, started, looks, bytes_read, acts, synced}
use Rattle.vub_device.specs.Places.{are_distinct}
use Rattle.vub_device.specs.Requests.{look_at, effect_at}
use Rattle.vub_split.specs.declared.split.SplitRing.{SplitRing}
use Rattle.vub_setup.specs.Setups.{SplitSetup}
use Rattle.vub_task.specs.declared.task.Task.{Task}
use Rattle.vub_infl_split.specs.Region.{RegionWords}
use Rattle.vub_run.specs.Memory.{Scene, with_at, after_items}
use Rattle.vub_run.specs.Moments.{Lane, Moment, region_in, buffer_of, open_heads}
use Rattle.vub_queue.specs.QueueFacts.{KeepsHeads, hidden_part, kept_head}
use Rattle.vub_queue_in_run.specs.QueueAt.{QueueAt, PhaseAt, QueueStands, DiskAt, TaskAt, spot_of, left_of, used_after}
use Rattle.vub_queue.specs.QueueState.{QueueState, HasWorked, Advances, worked, done_at}
use Rattle.vub_run.specs.Run.{one_turn}
use Rattle.vub_direct_chain.specs.ChainState.{sector_of}
use Rattle.vub_task.specs.TaskState.{Making, IsTaskAt, HasMade, head_in}
use Rattle.vub_steps.specs.Tasks.{RequestStep, Look, Put, Act, Sync, Status, task_steps, status_of, used_len}
use Rattle.vub_run.specs.TaskItems.{task_items, look_items, act_items}
use Rattle.vub_run.specs.Turns.{Turned, len_of, after_task_step, task_turn}
use Rattle.vub_run_laws.proofs.RunNumbers.{among_filter, missing-among}
use Rattle.vub_run_laws.proofs.RunFrames.{open_out}
use Rattle.vub_run_laws.proofs.RunGood.{IsReadTo}
use Rattle.vub_run_laws.proofs.RunSteps.{look_is, read_to}
use Rattle.vub_task.proofs.StepLemmas.{Puts, Acts, OfRequest, step_of}
use Rattle.vub_run_laws.proofs.RunWork.{at_same, at_other, not_more, seen_more, sector_long, sector_byte}
use Rattle.vub_run_laws.proofs.RunEnds.{missing_distinct}
use Rattle.vub_run_laws.proofs.RunTurns.{IsPlain, Good}
use Rattle.vub_queue_in_run.proofs.QueueAtTurns.{stands_next}
use Rattle.vub_queue_in_run.proofs.WorkAt.{WorkReady, making, left_at, Kind, IsLook, IsPut, IsAct, IsSync}
use Rattle.vub_queue_in_run.proofs.WorkAtItems.{work_turned, work_kind}
use Rattle.vub_queue.proofs.QueueHeld.{keeps_worked, keeps_done}
use Rattle.vub_facts.proofs.HeadLemmas.{distinct_without}
use Rattle.vub_queue_in_run.proofs.WorkAtLists.{slice_get-set_same, slice_get-set_other, slice_get-remove_below, slice_get-remove_above, one_place, one_less, among_kept}
use Rattle.vub_run_laws.proofs.RunQueue.{heads_apart}

-- ---- the requests that are left

-- a history that says the same of them, but maybe of what was seen for the k-th
record Keeps (q : ℕ) (past past' : List Entry) (k : ℕ) : Type 0 where
  runs : started past' q ≡ started past q
  accepts : accepted past' q ≡ accepted past q
  publishes : published past' q ≡ published past q
  requests : asked past' q ≡ asked past q
  sees : (j : ℕ) → j ≢ k → bytes_read past' q j ≡ bytes_read past q j

left_same : (q : ℕ) (past past' : List Entry) (k : ℕ) (completed batch : List ℕ) → Keeps q past past' k → left_of q past' completed batch ≡ left_of q past completed batch
left_same q past past' k completed batch x =
    ap (λ (ps : List ℕ). filter (λ j. not (is_among (completed ++ batch) j)) (missing_below ps (accepted past' q))) x.publishes
    ∙ ap (λ (n : ℕ). filter (λ j. not (is_among (completed ++ batch) j)) (missing_below (published past q) n)) x.accepts

spots_same : (q : ℕ) (h : Header1) (past past' : List Entry) (heads : List ℕ) (k : ℕ) (ks : List ℕ) → Keeps q past past' k → map (spot_of q h past heads) ks ≡ map (spot_of q h past' heads) ks
spots_same q h past past' heads k ks x = ap (λ (f : ℕ → Option Asked). map (λ j. (slice_index heads j, len_of h (f j))) ks) (sym x.requests)

left_distinct : (q : ℕ) (past : List Entry) (completed batch : List ℕ) → are_distinct (left_of q past completed batch) ≡ true
left_distinct q past completed batch = distinct_without (completed ++ batch) (open_numbers past q) (missing_distinct (published past q) (accepted past q))

-- one of them is open
left_open : (q : ℕ) (past : List Entry) (completed batch : List ℕ) (k : ℕ) → is_among (left_of q past completed batch) k ≡ true → IsOpen past q k
left_open q past completed batch k held =
    let kept = among_filter (λ j. not (is_among (completed ++ batch) j)) (open_numbers past q) k held in
    let opened = missing-among (published past q) (accepted past q) k kept.0 in
    record { taken = opened.0; unpublished = opened.1 }

open_same : (q : ℕ) (past past' : List Entry) (k j : ℕ) → Keeps q past past' k → IsOpen past q j → IsOpen past' q j
open_same q past past' k j x o = record {
  taken = subst (λ (n : ℕ). j < n) (sym x.accepts) o.taken;
  unpublished = ap (λ (ps : List ℕ). is_among ps j) x.publishes ∙ o.unpublished;
}

-- requests that are left have heads of their own
heads_differ : (q : ℕ) (h : Header1) (m : Moment) (j k : ℕ) → Good q h m → IsOpen m.scene.past q j → IsOpen m.scene.past q k → j ≢ k → slice_index (m.scene.heads q) j ≢ slice_index (m.scene.heads q) k
heads_differ q h m j k good open_j open_k apart same =
    apart (heads_apart q h m.scene (m.lanes q).driver (m.lanes q).bell (m.lanes q).plan (m.lanes q).counter (m.lanes q).batch (m.lanes q).phase j k good.holds.queue (open_out q h.size h.capacity m.scene.past (m.scene.heads q) j good.holds.known open_j) (open_out q h.size h.capacity m.scene.past (m.scene.heads q) k good.holds.known open_k) same)

-- ---- one task

task_same : (q : ℕ) (h : Header1) (setup : SplitSetup) (past past' : List Entry) (heads : List ℕ) (k j made made' : ℕ) (task : Task) → Keeps q past past' k → made' ≡ made → TaskAt q h setup past heads j made task → TaskAt q h setup past' heads j made' task
task_same q h setup past past' heads k j made made' task x same t = record {
  head = t.head;
  stands = λ request is. subst (λ (c : ℕ). IsTaskAt h setup.ring (buffer_place (area_place q) (slice_index heads j)) request c task) (sym same) (t.stands request (ap (λ (f : ℕ → Option Asked). f j) (sym x.requests) ∙ is));
}

-- the task that was worked on
task_next : (q : ℕ) (h : Header1) (sizes : ℕ → ℕ) (m : Moment) (setup : SplitSetup) (state : QueueState) (place : ℕ) (w : WorkReady q h sizes m state place) (past' : List Entry) (next : Task) → state.ring ≡ setup.ring → Keeps q m.scene.past past' w.k → head_in next ≡ head_in w.task → HasMade state.ring (making w) next
    → TaskAt q h setup past' (m.scene.heads q) w.k ((m.lanes q).made w.k + 1) next
task_next q h sizes m setup state place w past' next ring x head made = record {
  head = head ∙ w.head;
  stands = λ request is.
      let both : Some w.request ≡ Some request = sym w.is ∙ ap (λ (f : ℕ → Option Asked). f w.k) (sym x.requests) ∙ is in
      let same : w.request ≡ request = cc in
      let here : IsTaskAt h setup.ring (buffer_place (area_place q) (slice_index (m.scene.heads q) w.k)) w.request ((m.lanes q).made w.k + 1) next =
      subst (λ (y : SplitRing). IsTaskAt h y (buffer_place (area_place q) (slice_index (m.scene.heads q) w.k)) w.request ((m.lanes q).made w.k + 1) next) ring made in
      subst (λ (o : Asked). IsTaskAt h setup.ring (buffer_place (area_place q) (slice_index (m.scene.heads q) w.k)) o ((m.lanes q).made w.k + 1) next) same here;
}

-- ---- a step that isn't the last

goes_on : (q : ℕ) (h : Header1) (sizes : ℕ → ℕ) (m : Moment) (setup : SplitSetup) (state : QueueState) (place : ℕ) (w : WorkReady q h sizes m state place) (past' : List Entry) (next : Task) (sector : List ℕ) → Good q h m → QueueStands q h setup m state → Keeps q m.scene.past past' w.k
    → head_in next ≡ head_in w.task → HasMade state.ring (making w) next
    → ((p : ℕ) → slice_get (task_steps h w.request) ((m.lanes q).made w.k + 1) ≡ Some (Put p) → sector ≡ slice_range (bytes_read past' q w.k) (512 * p) (512 * p + 512))
    → QueueAt q h setup past' (m.scene.heads q) (m.lanes q).phase (hidden_part (m.lanes q).phase (m.lanes q).batch) (m.lanes q).completed (with_at (m.lanes q).made w.k ((m.lanes q).made w.k + 1)) (worked place next sector state)
goes_on q h sizes m setup state place w past' next sector good a x head made put = record {
  ring = a.at.ring;
  runs = a.at.runs;
  started = a.at.started ∙ sym x.runs;
  phase = a.at.phase;
  batch = a.at.batch ∙ spots_same q h past past' heads w.k hides x;
  completed = a.at.completed ∙ spots_same q h past past' heads w.k l.completed x;
  keeps = λ runs. subst (λ (hs : List ℕ). KeepsHeads setup.ring.size hs (used_after h q past') (worked place next sector state)) (sym same_heads)
      (subst (λ (u : ℕ). KeepsHeads setup.ring.size (open_heads q past heads) u (worked place next sector state)) (sym same_used) (keeps_worked setup.ring.size (open_heads q past heads) (used_after h q past) state place next w.task sector w.due.at head (a.at.keeps run)));
  nothing = λ stopped. absurd (let fails : true ≡ false = sym run ∙ sym x.runs ∙ stopped in cc);
  tasks = λ i j t at_left at_task.
      let at_i : slice_get left i ≡ Some j = ap (λ (xs : List ℕ). slice_get xs i) (sym same) ∙ at_left in
      elim (cases_eq i place) [
        | inl here ↦
            let at_k : slice_get left i ≡ Some w.k = ap (slice_get left) here ∙ there in
            let is_k : w.k ≡ j = cc in
            let inside : place < length state.unfinished = slice_get_within state.unfinished place w.task w.due.at in
            let stored : slice_get (set state.unfinished place next) i ≡ Some next = ap (slice_get (set state.unfinished place next)) here ∙ slice_get-set_same state.unfinished place next inside in
            let is_t : next ≡ t = cc in
            let now_at : TaskAt q h setup past' heads w.k (with_at l.made w.k (l.made w.k + 1) w.k) next =
            subst (λ (c : ℕ). TaskAt q h setup past' heads w.k c next) (sym (at_same l.made w.k (l.made w.k + 1) w.k refl)) (task_next q h sizes m setup state place w past' next a.at.ring x head made) in
            subst (λ (y : Task). TaskAt q h setup past' heads j (with_at l.made w.k (l.made w.k + 1) j) y) is_t (subst (λ (n : ℕ). TaskAt q h setup past' heads n (with_at l.made w.k (l.made w.k + 1) n) next) is_k now_at)
        | inr apart ↦
            let differs : j ≢ w.k = λ e. apart (one_place left i place w.k (left_distinct q past l.completed hides) (at_i ∙ ap (λ (n : ℕ). Some n) e) there) in
            let old : slice_get state.unfinished i ≡ Some t = sym (slice_get-set_other state.unfinished place i next apart) ∙ at_task in
            task_same q h setup past past' heads w.k j (l.made j) (with_at l.made w.k (l.made w.k + 1) j) t x (at_other l.made w.k (l.made w.k + 1) j differs) (a.at.tasks i j t at_i old)
      ];
  buffers = length-set state.sectors (head_in next) sector ∙ a.at.buffers;
  places = a.at.places;
  sectors = λ j p request held is at_step.
      let left_j : is_among left j ≡ true = ap (λ (xs : List ℕ). is_among xs j) (sym same) ∙ held in
      let is_old : asked past q j ≡ Some request = ap (λ (f : ℕ → Option Asked). f j) (sym x.requests) ∙ is in
      elim (cases_eq j w.k) [
        | inl here ↦
            let at_head : slice_index heads j ≡ (head_in next) = ap (slice_index heads) here ∙ sym (head ∙ w.head) in
            let fits : head_in next < length state.sectors = let low : head_in w.task < state.ring.size = w.due.fits in let size : state.ring.size ≡ setup.ring.size = ap (λ (y : SplitRing). y.size) a.at.ring in omega (arith, low, size, head, a.at.buffers) in
            let both : Some w.request ≡ Some request = sym w.is ∙ ap (asked past q) (sym here) ∙ is_old in
            let is_request : w.request ≡ request = cc in
            let now : with_at l.made w.k (l.made w.k + 1) j ≡ l.made w.k + 1 = at_same l.made w.k (l.made w.k + 1) j here in
            let step_then : slice_get (task_steps h w.request) (l.made w.k + 1) ≡ Some (Put p) = ap (λ (o : Asked). slice_get (task_steps h o) (l.made w.k + 1)) is_request ∙ ap (slice_get (task_steps h request)) (sym now) ∙ at_step in
            ap (λ (d : ℕ). get_or (set state.sectors (head_in next) sector) d []) at_head ∙ get_or-set_same state.sectors (head_in next) sector [] fits ∙ put p step_then
            ∙ ap (λ (n : ℕ). slice_range (bytes_read past' q n) (512 * p) (512 * p + 512)) (sym here)
        | inr apart ↦
            let other : slice_index heads j ≢ (head_in next) = λ e. heads_differ q h m j w.k good (left_open q past l.completed hides j left_j) w.is_open apart (e ∙ head ∙ w.head) in
            let was : slice_get (task_steps h request) (l.made j) ≡ Some (Put p) = ap (slice_get (task_steps h request)) (sym (at_other l.made w.k (l.made w.k + 1) j apart)) ∙ at_step in
            get_or-set_other state.sectors (head_in next) (slice_index heads j) sector [] other ∙ a.at.sectors j p request left_j is_old was
            ∙ ap (λ (xs : List ℕ). slice_range xs (512 * p) (512 * p + 512)) (sym (x.sees j apart))
      ];
}
  where
    l : Lane
    l = m.lanes q

    hides : List ℕ
    hides = hidden_part (m.lanes q).phase (m.lanes q).batch

    past : List Entry
    past = m.scene.past

    heads : List ℕ
    heads = m.scene.heads q

    left : List ℕ
    left = left_of q past l.completed hides

    there : slice_get left place ≡ Some w.k
    there = left_at q h m place w.k good w.at

    same : left_of q past' l.completed hides ≡ left
    same = left_same q past past' w.k l.completed hides x

    run : started past q ≡ true
    run = sym a.at.started ∙ w.due.started

    same_used : used_after h q past' ≡ used_after h q past
    same_used = ap (λ (ps : List ℕ). (h.base + length ps) % 65536) x.publishes

    same_heads : open_heads q past' heads ≡ open_heads q past heads
    same_heads = ap (λ (ps : List ℕ). map (slice_index heads) (missing_below ps (accepted past' q))) x.publishes ∙ ap (λ (n : ℕ). map (slice_index heads) (missing_below (published past q) n)) x.accepts

-- ---- the last step

finished : (q : ℕ) (h : Header1) (sizes : ℕ → ℕ) (m : Moment) (setup : SplitSetup) (state : QueueState) (place : ℕ) (w : WorkReady q h sizes m state place) (sector : List ℕ) → Good q h m → QueueStands q h setup m state
    → QueueAt q h setup m.scene.past (m.scene.heads q) (m.lanes q).phase (hidden_part (m.lanes q).phase (m.lanes q).batch) ((m.lanes q).completed ++ w.k ∷ []) (with_at (m.lanes q).made w.k ((m.lanes q).made w.k + 1)) (done_at place (head_in w.task) (used_len (status_of h w.request) w.request) sector state)
finished q h sizes m setup state place w sector good a = record {
  ring = a.at.ring;
  runs = a.at.runs;
  started = a.at.started;
  phase = a.at.phase;
  batch = a.at.batch;
  completed = ap (λ (xs : List (ℕ × ℕ)). xs ++ (head_in w.task, used_len (status_of h w.request) w.request) ∷ []) a.at.completed
      ∙ ap (λ (e : ℕ × ℕ). map (spot_of q h past heads) l.completed ++ e ∷ []) element
      ∙ sym (map-append (spot_of q h past heads) l.completed (w.k ∷ []));
  keeps = λ runs. keeps_done setup.ring.size (open_heads q past heads) (used_after h q past) state place (used_len (status_of h w.request) w.request) w.task sector w.due.at (a.at.keeps runs);
  nothing = λ stopped. absurd (let fails : true ≡ false = sym w.due.started ∙ a.at.started ∙ stopped in cc);
  tasks = λ i j t at_left at_task.
      let at_i : slice_get (remove left place) i ≡ Some j = ap (λ (xs : List ℕ). slice_get xs i) (sym less) ∙ at_left in
      elim (cases_lt i place) [
        | inl below ↦
            let old : slice_get left i ≡ Some j = sym (slice_get-remove_below left place i below) ∙ at_i in
            let task_old : slice_get state.unfinished i ≡ Some t = sym (slice_get-remove_below state.unfinished place i below) ∙ at_task in
            was i j t (λ e. omega (arith, below, e)) old task_old
        | inr above ↦
            let old : slice_get left (suc i) ≡ Some j = sym (slice_get-remove_above left place i above inside_left) ∙ at_i in
            let task_old : slice_get state.unfinished (suc i) ≡ Some t = sym (slice_get-remove_above state.unfinished place i above inside) ∙ at_task in
            was (suc i) j t (λ e. omega (arith, above, e)) old task_old
      ];
  buffers = length-set state.sectors (head_in w.task) sector ∙ a.at.buffers;
  places = a.at.places;
  sectors = λ j p request held is at_step.
      let kept = among_filter (λ n. not (is_among ((l.completed ++ w.k ∷ []) ++ hides) n)) (open_numbers past q) j held in
      let out : is_among ((l.completed ++ w.k ∷ []) ++ hides) j ≡ false = let t : not (is_among ((l.completed ++ w.k ∷ []) ++ hides) j) ≡ true = kept.1 in grind (arith, nat_tests) in
      let parts = not_more l.completed hides w.k j out in
      let passes : not (is_among (l.completed ++ hides) j) ≡ true = ap not parts.1 in
      let left_j : is_among left j ≡ true = among_kept (λ n. not (is_among (l.completed ++ hides) n)) (open_numbers past q) j kept.0 passes in
      let other : slice_index heads j ≢ (head_in w.task) = λ e. heads_differ q h m j w.k good (left_open q past l.completed hides j left_j) w.is_open parts.0 (e ∙ w.head) in
      let was_step : slice_get (task_steps h request) (l.made j) ≡ Some (Put p) = ap (slice_get (task_steps h request)) (sym (at_other l.made w.k (l.made w.k + 1) j parts.0)) ∙ at_step in
      get_or-set_other state.sectors (head_in w.task) (slice_index heads j) sector [] other ∙ a.at.sectors j p request left_j is was_step;
}
  where
    l : Lane
    l = m.lanes q

    hides : List ℕ
    hides = hidden_part (m.lanes q).phase (m.lanes q).batch

    past : List Entry
    past = m.scene.past

    heads : List ℕ
    heads = m.scene.heads q

    left : List ℕ
    left = left_of q past l.completed hides

    there : slice_get left place ≡ Some w.k
    there = left_at q h m place w.k good w.at

    less : left_of q past (l.completed ++ w.k ∷ []) hides ≡ remove left place
    less = one_less l.completed hides (open_numbers past q) place w.k (missing_distinct (published past q) (accepted past q)) there

    inside : place < length state.unfinished
    inside = slice_get_within state.unfinished place w.task w.due.at

    inside_left : place < length left
    inside_left = slice_get_within left place w.k there

    element : (head_in w.task, used_len (status_of h w.request) w.request) ≡ spot_of q h past heads w.k
    element = ap (λ (d : ℕ). (d, used_len (status_of h w.request) w.request)) w.head ∙ ap (λ (o : Option Asked). (slice_index heads w.k, len_of h o)) (sym w.is)

    nothing_new : Keeps q past past w.k
    nothing_new = record { runs = refl; accepts = refl; publishes = refl; requests = refl; sees = λ j apart. refl }

    was : (i j : ℕ) (t : Task) → i ≢ place → slice_get left i ≡ Some j → slice_get state.unfinished i ≡ Some t → TaskAt q h setup past heads j (with_at l.made w.k (l.made w.k + 1) j) t
    was i j t apart at_left at_task =
        let differs : j ≢ w.k = λ e. apart (one_place left i place w.k (left_distinct q past l.completed hides) (at_left ∙ ap (λ (n : ℕ). Some n) e) there) in
        task_same q h setup past past heads w.k j (l.made j) (with_at l.made w.k (l.made w.k + 1) j) t nothing_new (at_other l.made w.k (l.made w.k + 1) j differs) (a.at.tasks i j t at_left at_task)

-- ---- any step

-- where the queue stands after a step of the k-th request
abbrev StandsAfter : ℕ → Header1 → SplitSetup → Moment → ℕ → QueueState → Asked → RequestStep → Type 0
StandsAfter q h setup m k state request step =
    QueueAt q h setup (after_items h (task_items h q k (buffer_of q k m.scene) m.scene.past request step) m.scene).past ((after_items h (task_items h q k (buffer_of q k m.scene) m.scene.past request step) m.scene).heads q)
    (after_task_step k step (m.lanes q)).phase (hidden_part (after_task_step k step (m.lanes q)).phase (after_task_step k step (m.lanes q)).batch) (after_task_step k step (m.lanes q)).completed (after_task_step k step (m.lanes q)).made state

-- the last sector of some
last_sector : (xs v : List ℕ) (p : ℕ) → length xs ≡ 512 * p → length v ≡ 512 → slice_range (xs ++ v) (512 * p) (512 * p + 512) ≡ v
last_sector xs v p long one =
    let all : length (xs ++ v) ≡ 512 * p + 512 = length-append xs v ∙ omega (arith, long, one) in
    let range : length (slice_range (xs ++ v) (512 * p) (512 * p + 512)) ≡ 512 = sector_long (xs ++ v) p (omega (arith, all)) in
    ext_get_or 0 (slice_range (xs ++ v) (512 * p) (512 * p + 512)) v (range ∙ sym one) (λ i low.
    let place : 512 * p + i ≡ length xs + i = omega (arith, long) in
    sector_byte (xs ++ v) p i (omega (arith, low, range)) ∙ ap (slice_index (xs ++ v)) place ∙ get_or-append-add xs v i 0)

seen_other : (q : ℕ) (past : List Entry) (k s j : ℕ) (v : List ℕ) → j ≢ k → bytes_read (entries.Look q k s v ∷ past) q j ≡ bytes_read past q j
seen_other q past k s j v apart = let differs : k ≢ j = λ e. apart (sym e) in grind (arith, nat_tests)

put_place : (p state : ℕ) → Some (Put state) ≡ Some (Put p) → p ≡ state
put_place p state e = cc

-- what follows a step
step_follows : (q : ℕ) (h : Header1) (sizes : ℕ → ℕ) (m : Moment) (state : QueueState) (place : ℕ) (w : WorkReady q h sizes m state place) (step : RequestStep) → IsPlain h → w.step ≡ step
    → OfRequest h.capacity w.request (slice_get (task_steps h w.request) (suc ((m.lanes q).made w.k))) step
step_follows q h sizes m state place w step plain is =
    subst (λ (s : RequestStep). OfRequest h.capacity w.request (slice_get (task_steps h w.request) (suc ((m.lanes q).made w.k))) s) is
    (step_of h w.request ((m.lanes q).made w.k) w.step w.due.next.served.basic plain.back w.due.next.next)

next_put : (h : Header1) (request : Asked) (c p : ℕ) → slice_get (task_steps h request) (c + 1) ≡ Some (Put p) → slice_get (task_steps h request) (suc c) ≡ Some (Put p)
next_put h request c p next = ap (slice_get (task_steps h request)) (let same : suc c ≡ c + 1 = omega arith in same) ∙ next

-- where the queue stands after a look, if any
abbrev LookStands : ℕ → Header1 → SplitSetup → Moment → ℕ → QueueState → Option ℕ → Type 0
LookStands q h setup m k state o =
    QueueAt q h setup (after_items h (look_items q k m.scene.past o) m.scene).past ((after_items h (look_items q k m.scene.past o) m.scene).heads q) (m.lanes q).phase (hidden_part (m.lanes q).phase (m.lanes q).batch) (m.lanes q).completed (with_at (m.lanes q).made k ((m.lanes q).made k + 1)) state

look_stands : (q : ℕ) (h : Header1) (sizes : ℕ → ℕ) (m : Moment) (setup : SplitSetup) (state state' : QueueState) (place : ℕ) (v : Values) (w : WorkReady q h sizes m state place) (x : IsLook h w.request ((m.lanes q).made w.k) w.step) → IsPlain h → Good q h m → QueueStands q h setup m state → DiskAt h.capacity m.scene.past v
    → HasWorked (Some v) place w.task (making w) state state' → StandsAfter q h setup m w.k state' w.request w.step
look_stands q h sizes m setup state state' place v w x plain good a disk made =
    let past : List Entry = m.scene.past in
    let s : ℕ = x.sector + x.place in
    let read : List ℕ = value past s in
    let past' : List Entry = entries.Look q w.k s read ∷ past in
    let c : ℕ = (m.lanes q).made w.k in
    let goes : Advances place w.task (making w) made.sector (Look x.place) state state' = subst (λ (y : RequestStep). Advances place w.task (making w) made.sector y state state') x.next made.state in
    let asks_it : asked past q w.k ≡ Some (asks.Read x.sector x.count) = w.is ∙ ap (λ (y : Asked). Some y) x.is in
    let to : IsReadTo x.count c (looks past q w.k) (bytes_read past q w.k) = read_to x.sector x.count c (looks past q w.k) (acts past q w.k) (bytes_read past q w.k) (synced past q w.k) (asked past q w.k) asks_it (good.holds.worked.progress (sym a.at.started ∙ w.due.started) w.k) in
    let looked : looks past q w.k ≡ (c + 1) / 2 = to.under (omega (arith, x.at, x.within)) in
    let before : length (bytes_read past q w.k) ≡ 512 * x.place = omega (arith, to.long, looked, x.at) in
    let now : bytes_read past' q w.k ≡ bytes_read past q w.k ++ read = seen_more q past w.k s read in
    let long : length read ≡ 512 = good.holds.known.values s in
    let where_sector : sector_of w.request ≡ x.sector = ap sector_of x.is in
    let held : made.sector ≡ read = made.looks v refl x.place x.next ∙ ap (λ (n : ℕ). v (n + x.place)) where_sector ∙ disk s (omega (arith, x.within, x.wide.fits)) in
    let keeps : Keeps q past past' w.k = record { runs = refl; accepts = refl; publishes = refl; requests = refl; sees = λ j apart. seen_other q past w.k s j read apart } in
    let whole : slice_range (bytes_read past' q w.k) (512 * x.place) (512 * x.place + 512) ≡ read = ap (λ (xs : List ℕ). slice_range xs (512 * x.place) (512 * x.place + 512)) now ∙ last_sector (bytes_read past q w.k) read x.place before long in
    let put : (p : ℕ) → slice_get (task_steps h w.request) (c + 1) ≡ Some (Put p) → made.sector ≡ slice_range (bytes_read past' q w.k) (512 * p) (512 * p + 512) = λ p next.
    let same : p ≡ x.place = put_place p x.place (sym (step_follows q h sizes m state place w (Look x.place) plain x.next).0.next ∙ next_put h w.request c p next) in
    held ∙ sym whole ∙ ap (λ (n : ℕ). slice_range (bytes_read past' q w.k) (512 * n) (512 * n + 512)) (sym same) in
    let stands : LookStands q h setup m w.k (worked place goes.0 made.sector state) (Some s) = goes_on q h sizes m setup state place w past' goes.0 made.sector good a keeps goes.1 goes.2 put in
    let found : look_at w.request x.place ≡ Some s = ap (λ (y : Asked). look_at y x.place) x.is ∙ look_is x.sector x.count x.place x.within in
    subst (λ (y : RequestStep). StandsAfter q h setup m w.k state' w.request y) (sym x.next)
    (subst (λ (o : Option ℕ). LookStands q h setup m w.k state' o) (sym found)
    (subst (λ (t : QueueState). LookStands q h setup m w.k t (Some s)) (sym goes.3) stands))

-- no store of what was read comes after these
no_put : (end state : ℕ) (after : Option RequestStep) (p : ℕ) → Puts end state after → after ≡ Some (Put p) → ⊥
no_put end state after p x next = elim (cases_lt (state + 1) end) [
  | inl more ↦ (let both : Some (Look (state + 1)) ≡ Some (Put p) = sym (x.more more) ∙ next in cc)
  | inr last ↦ (let both : Some Status ≡ Some (Put p) = sym (x.last (omega arith)) ∙ next in cc)
]

no_put_act : (end state : ℕ) (after : Option RequestStep) (p : ℕ) → Acts end state after → after ≡ Some (Put p) → ⊥
no_put_act end state after p x next = elim (cases_lt (state + 1) end) [
  | inl more ↦ (let both : Some (Act (state + 1)) ≡ Some (Put p) = sym (x.more more) ∙ next in cc)
  | inr last ↦ (let both : Some Status ≡ Some (Put p) = sym (x.last (omega arith)) ∙ next in cc)
]

no_put_sync : (after : Option RequestStep) (p : ℕ) → after ≡ Some Status → after ≡ Some (Put p) → ⊥
no_put_sync after p x next = let both : Some Status ≡ Some (Put p) = sym x ∙ next in cc

put_stands : (q : ℕ) (h : Header1) (sizes : ℕ → ℕ) (m : Moment) (setup : SplitSetup) (state state' : QueueState) (place : ℕ) (v : Values) (w : WorkReady q h sizes m state place) (x : IsPut h w.request ((m.lanes q).made w.k) w.step) → IsPlain h → Good q h m → QueueStands q h setup m state
    → HasWorked (Some v) place w.task (making w) state state' → StandsAfter q h setup m w.k state' w.request w.step
put_stands q h sizes m setup state state' place v w x plain good a made =
    let goes : Advances place w.task (making w) made.sector (Put x.place) state state' = subst (λ (y : RequestStep). Advances place w.task (making w) made.sector y state state') x.next made.state in
    let keeps : Keeps q m.scene.past m.scene.past w.k = record { runs = refl; accepts = refl; publishes = refl; requests = refl; sees = λ j apart. refl } in
    let stands : StandsAfter q h setup m w.k (worked place goes.0 made.sector state) w.request (Put x.place) =
    goes_on q h sizes m setup state place w m.scene.past goes.0 made.sector good a keeps goes.1 goes.2 (λ p next. absurd (no_put _ x.place _ p (step_follows q h sizes m state place w (Put x.place) plain x.next) (next_put h w.request ((m.lanes q).made w.k) p next))) in
    subst (λ (y : RequestStep). StandsAfter q h setup m w.k state' w.request y) (sym x.next) (subst (λ (t : QueueState). StandsAfter q h setup m w.k t w.request (Put x.place)) (sym goes.3) stands)

-- where the queue stands after an act, if any
abbrev ActStands : ℕ → Header1 → SplitSetup → Moment → ℕ → QueueState → Option SectorValue → Type 0
ActStands q h setup m k state o =
    QueueAt q h setup (after_items h (act_items q k o) m.scene).past ((after_items h (act_items q k o) m.scene).heads q) (m.lanes q).phase (hidden_part (m.lanes q).phase (m.lanes q).batch) (m.lanes q).completed (with_at (m.lanes q).made k ((m.lanes q).made k + 1)) state

act_stands : (q : ℕ) (h : Header1) (sizes : ℕ → ℕ) (m : Moment) (setup : SplitSetup) (state state' : QueueState) (place : ℕ) (v : Values) (w : WorkReady q h sizes m state place) (x : IsAct h w.request ((m.lanes q).made w.k) w.step) → IsPlain h → Good q h m → QueueStands q h setup m state
    → HasWorked (Some v) place w.task (making w) state state' → StandsAfter q h setup m w.k state' w.request w.step
act_stands q h sizes m setup state state' place v w x plain good a made =
    let goes : Advances place w.task (making w) made.sector (Act x.place) state state' = subst (λ (y : RequestStep). Advances place w.task (making w) made.sector y state state') x.next made.state in
    let none : (p : ℕ) → slice_get (task_steps h w.request) ((m.lanes q).made w.k + 1) ≡ Some (Put p) → ⊥ = λ p next. no_put_act _ x.place _ p (step_follows q h sizes m state place w (Act x.place) plain x.next).0 (next_put h w.request ((m.lanes q).made w.k) p next) in
    let each : (o : Option SectorValue) → ActStands q h setup m w.k (worked place goes.0 made.sector state) o = elim [
      | None ↦
          let keeps : Keeps q m.scene.past m.scene.past w.k = record { runs = refl; accepts = refl; publishes = refl; requests = refl; sees = λ j apart. refl } in
          goes_on q h sizes m setup state place w m.scene.past goes.0 made.sector good a keeps goes.1 goes.2 (λ p next. absurd (none p next))
      | Some e ↦
          let past' : List Entry = entries.Act q w.k e.sector e.value ∷ m.scene.past in
          let keeps : Keeps q m.scene.past past' w.k = record { runs = refl; accepts = refl; publishes = refl; requests = refl; sees = λ j apart. refl } in
          goes_on q h sizes m setup state place w past' goes.0 made.sector good a keeps goes.1 goes.2 (λ p next. absurd (none p next))
    ] in
    subst (λ (y : RequestStep). StandsAfter q h setup m w.k state' w.request y) (sym x.next) (subst (λ (t : QueueState). ActStands q h setup m w.k t (effect_at w.request x.place)) (sym goes.3) (each (effect_at w.request x.place)))

sync_stands : (q : ℕ) (h : Header1) (sizes : ℕ → ℕ) (m : Moment) (setup : SplitSetup) (state state' : QueueState) (place : ℕ) (v : Values) (w : WorkReady q h sizes m state place) (x : IsSync h w.request ((m.lanes q).made w.k) w.step) → IsPlain h → Good q h m → QueueStands q h setup m state
    → HasWorked (Some v) place w.task (making w) state state' → StandsAfter q h setup m w.k state' w.request w.step
sync_stands q h sizes m setup state state' place v w x plain good a made =
    let goes : Advances place w.task (making w) made.sector Sync state state' = subst (λ (y : RequestStep). Advances place w.task (making w) made.sector y state state') x.next made.state in
    let past' : List Entry = entries.Sync q w.k ∷ m.scene.past in
    let keeps : Keeps q m.scene.past past' w.k = record { runs = refl; accepts = refl; publishes = refl; requests = refl; sees = λ j apart. refl } in
    let stands : StandsAfter q h setup m w.k (worked place goes.0 made.sector state) w.request Sync =
    goes_on q h sizes m setup state place w past' goes.0 made.sector good a keeps goes.1 goes.2 (λ p next. absurd (no_put_sync _ p (step_follows q h sizes m state place w Sync plain x.next) (next_put h w.request ((m.lanes q).made w.k) p next))) in
    subst (λ (y : RequestStep). StandsAfter q h setup m w.k state' w.request y) (sym x.next) (subst (λ (t : QueueState). StandsAfter q h setup m w.k t w.request Sync) (sym goes.3) stands)

last_stands : (q : ℕ) (h : Header1) (sizes : ℕ → ℕ) (m : Moment) (setup : SplitSetup) (state state' : QueueState) (place : ℕ) (v : Values) (w : WorkReady q h sizes m state place) → w.step ≡ Status → Good q h m → QueueStands q h setup m state
    → HasWorked (Some v) place w.task (making w) state state' → StandsAfter q h setup m w.k state' w.request w.step
last_stands q h sizes m setup state state' place v w last good a made =
    let goes : Advances place w.task (making w) made.sector Status state state' = subst (λ (y : RequestStep). Advances place w.task (making w) made.sector y state state') last made.state in
    let stands : StandsAfter q h setup m w.k (done_at place (head_in w.task) (used_len (status_of h w.request) w.request) made.sector state) w.request Status = finished q h sizes m setup state place w made.sector good a in
    subst (λ (y : RequestStep). StandsAfter q h setup m w.k state' w.request y) (sym last) (subst (λ (t : QueueState). StandsAfter q h setup m w.k t w.request Status) (sym goes) stands)

step_stands : (q : ℕ) (h : Header1) (sizes : ℕ → ℕ) (m : Moment) (setup : SplitSetup) (state state' : QueueState) (place : ℕ) (v : Values) (w : WorkReady q h sizes m state place) → IsPlain h → Good q h m → QueueStands q h setup m state → DiskAt h.capacity m.scene.past v
    → HasWorked (Some v) place w.task (making w) state state' → Kind h w.request ((m.lanes q).made w.k) w.step → StandsAfter q h setup m w.k state' w.request w.step
step_stands q h sizes m setup state state' place v w plain good a disk made (inl x) = look_stands q h sizes m setup state state' place v w x plain good a disk made
step_stands q h sizes m setup state state' place v w plain good a disk made (inr (inl x)) = put_stands q h sizes m setup state state' place v w x plain good a made
step_stands q h sizes m setup state state' place v w plain good a disk made (inr (inr (inl x))) = act_stands q h sizes m setup state state' place v w x plain good a made
step_stands q h sizes m setup state state' place v w plain good a disk made (inr (inr (inr (inl x)))) = sync_stands q h sizes m setup state state' place v w x plain good a made
step_stands q h sizes m setup state state' place v w plain good a disk made (inr (inr (inr (inr x)))) = last_stands q h sizes m setup state state' place v w x.next good a made

-- ---- its phase

-- nothing of the queue changed but its tasks, what is completed and the sectors on their way
record KeepsRest (s t : QueueState) : Type 0 where
  index : t.index ≡ s.index
  bell : t.bell ≡ s.bell
  recovery : t.recovery ≡ s.recovery
  counter : t.counter ≡ s.counter
  fetching : t.fetching ≡ s.fetching
  batch : t.batch ≡ s.batch

worked_same : (v : Option Values) (place : ℕ) (task : Task) (n : Making) (s t : QueueState) → HasWorked v place task n s t → KeepsRest s t
worked_same v place task n s t made = go n.step made.state
  where
    alike : (u : QueueState) → t ≡ u → KeepsRest s u → KeepsRest s t
    alike u is same = subst (λ (y : QueueState). KeepsRest s y) (sym is) same

    go : (step : RequestStep) → Advances place task n made.sector step s t → KeepsRest s t
    go (Look p) is = alike (worked place is.0 made.sector s) is.3 (record { index = refl; bell = refl; recovery = refl; counter = refl; fetching = refl; batch = refl })
    go (Put p) is = alike (worked place is.0 made.sector s) is.3 (record { index = refl; bell = refl; recovery = refl; counter = refl; fetching = refl; batch = refl })
    go (Act p) is = alike (worked place is.0 made.sector s) is.3 (record { index = refl; bell = refl; recovery = refl; counter = refl; fetching = refl; batch = refl })
    go Sync is = alike (worked place is.0 made.sector s) is.3 (record { index = refl; bell = refl; recovery = refl; counter = refl; fetching = refl; batch = refl })
    go Status is = alike (done_at place (head_in task) (used_len (status_of n.header n.request) n.request) made.sector s) is (record { index = refl; bell = refl; recovery = refl; counter = refl; fetching = refl; batch = refl })

-- the queue is started in one scene as in the other, with the same offers and as many accepted
record IsStill (q : ℕ) (s s' : Scene) : Type 0 where
  runs : started s'.past q ≡ started s.past q
  accepts : accepted s'.past q ≡ accepted s.past q
  requests : asked s'.past q ≡ asked s.past q
  heads : s'.heads q ≡ s.heads q

-- so it is after the items of work
look_still : (q : ℕ) (h : Header1) (k : ℕ) (s : Scene) (o : Option ℕ) → IsStill q s (after_items h (look_items q k s.past o) s)
look_still q h k s None = record { runs = refl; accepts = refl; requests = refl; heads = refl }
look_still q h k s (Some sector) = record { runs = refl; accepts = refl; requests = refl; heads = refl }

act_still : (q : ℕ) (h : Header1) (k : ℕ) (s : Scene) (o : Option SectorValue) → IsStill q s (after_items h (act_items q k o) s)
act_still q h k s None = record { runs = refl; accepts = refl; requests = refl; heads = refl }
act_still q h k s (Some x) = record { runs = refl; accepts = refl; requests = refl; heads = refl }

work_still : (q : ℕ) (h : Header1) (k : ℕ) (s : Scene) (request : Asked) (step : RequestStep) → IsStill q s (after_items h (task_items h q k (buffer_of q k s) s.past request step) s)
work_still q h k s request (Look place) = look_still q h k s (look_at request place)
work_still q h k s request (Put place) = record { runs = refl; accepts = refl; requests = refl; heads = refl }
work_still q h k s request (Act place) = act_still q h k s (effect_at request place)
work_still q h k s request Sync = record { runs = refl; accepts = refl; requests = refl; heads = refl }
work_still q h k s request Status = record { runs = refl; accepts = refl; requests = refl; heads = refl }

-- so a started queue stays in its phase
phase_kept : (q : ℕ) (h : Header1) (setup : SplitSetup) (s s' : Scene) (bell : Bool) (plan : Plan) (next : ℕ) (batch : List ℕ) (phase : Phase) (w w' : RegionWords) (state state' : QueueState) → started s.past q ≡ true → IsStill q s s' → KeepsRest state state'
    → PhaseAt q h setup s.past (s.heads q) bell plan next batch phase w state → PhaseAt q h setup s'.past (s'.heads q) bell plan next batch phase w' state'
phase_kept q h setup s s' bell plan next batch phase w w' state state' run still same x = record {
  index = same.index ∙ x.index;
  bell = same.bell ∙ x.bell;
  ring = ap (λ (r : RecoveryState). r.ring) same.recovery ∙ x.ring;
  region = ap (λ (r : RecoveryState). r.region) same.recovery ∙ x.region;
  base = ap (λ (r : RecoveryState). r.base) same.recovery ∙ x.base;
  begun = λ stopped. absurd (let fails : true ≡ false = sym run ∙ sym still.runs ∙ stopped in cc);
  counter = λ runs. same.counter ∙ x.counter run;
  fetching = same.fetching ∙ x.fetching ∙ ap (λ (hs : List ℕ). kept_head phase (slice_index hs (accepted s.past q))) (sym still.heads)
      ∙ ap (λ (n : ℕ). kept_head phase (slice_index (s'.heads q) n)) (sym still.accepts);
  batch = same.batch ∙ x.batch ∙ ap (λ (hs : List ℕ). map (spot_of q h s.past hs) batch) (sym still.heads)
      ∙ ap (λ (f : ℕ → Option Asked). map (λ k. (slice_index (s'.heads q) k, len_of h (f k))) batch) (sym still.requests);
}

-- and its lane keeps bell, plan, counter, batch and phase
lane_phase : (q : ℕ) (h : Header1) (setup : SplitSetup) (k : ℕ) (l : Lane) (s : Scene) (w : RegionWords) (state : QueueState) (step : RequestStep) → PhaseAt q h setup s.past (s.heads q) l.bell l.plan l.counter l.batch l.phase w state
    → PhaseAt q h setup s.past (s.heads q) (after_task_step k step l).bell (after_task_step k step l).plan (after_task_step k step l).counter (after_task_step k step l).batch (after_task_step k step l).phase w state
lane_phase q h setup k l s w state (Look place) x = x
lane_phase q h setup k l s w state (Put place) x = x
lane_phase q h setup k l s w state (Act place) x = x
lane_phase q h setup k l s w state Sync x = x
lane_phase q h setup k l s w state Status x = x

-- where the queue stands after a turn of work
pub work_stands : (q : ℕ) (h : Header1) (sizes : ℕ → ℕ) (m : Moment) (setup : SplitSetup) (state state' : QueueState) (place : ℕ) (v : Values) (w : WorkReady q h sizes m state place) → IsPlain h → Good q h m → QueueStands q h setup m state → DiskAt h.capacity m.scene.past v
    → HasWorked (Some v) place w.task (making w) state state' → QueueStands q h setup (one_turn h q (turns.Work place) m).next state'
work_stands q h sizes m setup state state' place v w plain good a disk made =
    let l : Lane = m.lanes q in
    let t : Turned = task_turn h q m.scene l w.k w.request (Some w.step) in
    let now : Scene = after_items h t.items m.scene in
    let same = worked_same (Some v) place w.task (making w) state state' made in
    let run : started m.scene.past q ≡ true = sym a.at.started ∙ w.due.started in
    stands_next q h setup m (turns.Work place) t state' (work_turned q h sizes m state place w)
    (step_stands q h sizes m setup state state' place v w plain good a disk made (work_kind q h sizes m state place w plain good))
    (lane_phase q h setup w.k l now (region_in h q now) state' w.step
    (phase_kept q h setup m.scene now l.bell l.plan l.counter l.batch l.phase (region_in h q m.scene) (region_in h q now) state state' run (work_still q h w.k m.scene w.request w.step) same a.phase))
