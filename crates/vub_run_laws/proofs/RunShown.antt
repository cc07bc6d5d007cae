-- A publication keeps what holds: its rows before used.idx, that of used.idx with its publication, and those after it.
use Rattle.std.proofs.Common.{◌≡◌, ◌≢◌, ◌≤◌, ◌<◌, ℕ, ◌+◌, ◌*◌, Bool, true, false, List, [], ◌∷◌, ◌++◌, length, refl, ap, sym, ◌∙◌, subst, inl, inr, arith}
use Rattle.std.specs.Prelude.{Option, Some, slice_get, if◌then◌else◌, ◌||◌}
use Rattle.std.specs.List.{AllByRecursion}
use Rattle.std.proofs.lemmas.Bool.Decides.{nat_tests}
use Rattle.std.proofs.lemmas.Bool.{cases_Bool, cases_lt, or_left, or_right}
use Rattle.std.proofs.lemmas.List.{length-append, length-map, append-nil}
use Rattle.vub_base.specs.declared.header.Header1.{Header1}
use Rattle.vub_base.specs.declared.store.Area.TheVariants.{M, I}
use Rattle.vub_shared.specs.Bytes.{Bytes, put}
use Rattle.vub_steps.specs.declared.steps.Phase.TheVariants as phases
use Rattle.vub_steps.specs.declared.steps.Step.{Step}
use Rattle.vub_steps.specs.Steps.{bell_steps}
use Rattle.vub_steps.proofs.StepLemmas.{length_publish}
use Rattle.vub_device.specs.declared.entry.Answered.{Answered}
use Rattle.vub_device.specs.declared.entry.Entry.TheVariants as entries
use Rattle.vub_device.specs.Legal.{IsAnswer, MayPublish, LegalFrom}
use Rattle.vub_device.specs.declared.entry.Entry.{Entry}
use Rattle.vub_report.specs.Histories.{entries_of}
use Rattle.vub_device.specs.Past.{accepted, published, collected, started, numbers, is_among, IsOpen}
use Rattle.vub_device.specs.Places.{are_distinct}
use Rattle.vub_device.proofs.Distinct.{distinct_from_test}
use Rattle.vub_device.proofs.Numbers.{is_among_append}
use Rattle.vub_report.specs.declared.items.Item.{Item}
use Rattle.vub_report.specs.declared.items.Item.TheVariants as items
use Rattle.vub_run.specs.Memory.{Scene, after_items}
use Rattle.vub_run.specs.Moments.{Lane}
use Rattle.vub_run.specs.Tracking.{answers, Tracks, AfterEach}
use Rattle.vub_run.specs.Turns.{step_items, phase_turn, phase_goes_on, answer_at, with_phase, counted, next_counter_in}
use Rattle.vub_run_laws.proofs.RunOwn.{published_own, answers_own}
use Rattle.vub_run_laws.proofs.RunNumbers.{distinct_join}
use Rattle.vub_facts.proofs.HeadLemmas.{distinct_parts}
use Rattle.vub_run_laws.proofs.RunTracks.{numbers_answers}
use Rattle.vub_run_laws.proofs.RunGood.{Known, BetweenTurns, hidden, Worked, Carries, Stored, stored_at}
use Rattle.vub_run_laws.proofs.RunHolds.{Holds, publishing, publication_of, moved_on, goes_on, IsPublishing, RowBefore, RowNotes, RowRings, shown_list, shown_past, RowShows, NextRow, Before, Notes, Tells, Shows, QueueFacts}
use Rattle.vub_run_laws.proofs.RunQueue.{phase_at, queue_row}
use Rattle.vub_run_laws.proofs.RunEfforts.{weight, sum_below, phase_left, effort, few_bells, shown_falls}
use Rattle.vub_run_laws.proofs.RunCarries.{all_hidden, none_hidden}
use Rattle.vub_run_laws.proofs.RunFrames.{OffBuffer, stored_elsewhere}
use Rattle.vub_run_laws.proofs.RunGuests.{holds_track}
use Rattle.vub_run_laws.proofs.RunPhases.{moving_worked, noted_stored, left_of}
use Rattle.vub_run_laws.proofs.RunWork.{Fine}
use Rattle.vub_run_laws.proofs.RunElements.{batch_room, one_on}
use Rattle.vub_run_laws.proofs.RunPublications.{IsUnderWay, in_batch, batch_open, batch_low, all_map, good_map, good_append, answer_right}

-- ---- what goes on with the phase

-- the batch and the counter after a step that leaves hidden what is hidden
carries_moved : (q : ℕ) (past : List Entry) (l : Lane) (done : ℕ) (b : Bool) → hidden l.batch (phases.Publish done) ≡ hidden (moved_on b done l).batch (moved_on b done l).phase → Carries q past l.counter (phases.Publish done) l.batch l.completed
    → Carries q past l.counter (moved_on b done l).phase (moved_on b done l).batch l.completed
carries_moved q past l done true same c = record {
  distinct = c.distinct;
  shown = λ k held out. c.shown k held (ap (λ (ks : List ℕ). is_among ks k) same ∙ out);
  quiet = c.quiet;
  low = c.low;
}
carries_moved q past l done false same c = record {
  distinct = ap are_distinct (append-nil l.completed) ∙ (distinct_parts l.completed l.batch c.distinct).first;
  shown = λ k held out. absurd (let fails : false ≡ true = held in cc);
  quiet = λ stopped. refl;
  low = c.low;
}

sum_hidden : (q : ℕ) (past : List Entry) (l : Lane) (ks ks' : List ℕ) → ks ≡ ks' → sum_below (weight (published past q) (l.completed ++ ks') l.made) (accepted past q) ≡ sum_below (weight (published past q) (l.completed ++ ks) l.made) (accepted past q)
sum_hidden q past l ks ks' same = ap (λ (xs : List ℕ). sum_below (weight (published past q) (l.completed ++ xs) l.made) (accepted past q)) (sym same)

-- what is known of the work while the batch is hidden
hidden_worked : (q : ℕ) (h : Header1) (s : Scene) (l : Lane) (done : ℕ) → IsUnderWay q h s l done → done ≤ 4 * length l.batch → Worked q s.past (phases.Publish done) l.batch l.completed l.made
hidden_worked q h s l done u before = subst (λ (ks : List ℕ). Worked q s.past (phases.Publish done) ks l.completed l.made) (all_hidden l.batch done before) u.holds.worked

shown_stored : (q : ℕ) (h : Header1) (p : ℕ) (bs : List ℕ) (s : Scene) (l : Lane) (done : ℕ) → IsUnderWay q h s l done → ((k : ℕ) → OffBuffer q (s.heads q) k p bs) → Stored q s.past (s.heads q) (stored_at p bs s).memory (hidden l.batch (phases.Publish done)) l.completed l.made
shown_stored q h p bs s l done u off = stored_elsewhere q s.past (s.heads q) s.memory p bs (hidden l.batch (phases.Publish done)) l.completed l.made u.holds.worked.opens (λ k is_open. off k) u.holds.stored

shown_published : (q : ℕ) (h : Header1) (p : ℕ) (bs : List ℕ) (s : Scene) (l : Lane) → published (shown_past q p bs s l.batch) q ≡ published s.past q ++ l.batch
shown_published q h p bs s l = published_own s.past q (shown_list q p bs s l.batch) ∙ ap (λ (ks : List ℕ). published s.past q ++ ks) (numbers_answers q (stored_at p bs s) l.batch)

-- the ring has room for the elements of a hidden batch
hidden_room : (q : ℕ) (h : Header1) (s : Scene) (l : Lane) (done : ℕ) → IsUnderWay q h s l done → done ≤ 4 * length l.batch → length (published s.past q) + length l.batch ≤ accepted s.past q
hidden_room q h s l done u before = batch_room q s.past (phases.Publish done) l.batch l.completed l.made h.size h.capacity (s.heads q) u.holds.known (hidden_worked q h s l done u before)

shown_known : (q : ℕ) (h : Header1) (p : ℕ) (bs : List ℕ) (s : Scene) (l : Lane) (done : ℕ) → IsUnderWay q h s l done → done ≤ 4 * length l.batch → ((k : ℕ) → OffBuffer q (s.heads q) k p bs) → Known q h.size h.capacity (shown_past q p bs s l.batch) (s.heads q)
shown_known q h p bs s l done u before off =
    let known : Known q h.size h.capacity s.past (s.heads q) = u.holds.known in
    let ps : published (shown_past q p bs s l.batch) q ≡ published s.past q ++ l.batch = shown_published q h p bs s l in
    let many : length (published (shown_past q p bs s l.batch) q) ≡ length (published s.past q) + length l.batch = ap (λ (ks : List ℕ). length ks) ps ∙ length-append (published s.past q) l.batch in
    let parts = distinct_parts l.completed l.batch u.holds.carries.distinct in
    let room : length (published s.past q) + length l.batch ≤ accepted s.past q = hidden_room q h s l done u before in
    let st = shown_stored q h p bs s l done u off in record {
      offers_are = known.offers_are;
      offered = known.offered;
      distinct = ap are_distinct ps ∙ distinct_join (published s.past q) l.batch known.distinct parts.second (λ k held. (batch_open q h s l done k u before held).unpublished);
      below = λ k held. elim (cases_Bool (is_among l.batch k)) [
        | inl there ↦ batch_low q h s l done k u there
        | inr out ↦
            let joined : is_among (published s.past q ++ l.batch) k ≡ (is_among (published s.past q) k || is_among l.batch k) = is_among_append (published s.past q) l.batch k in
            let whole : is_among (published s.past q ++ l.batch) k ≡ true = ap (λ (ks : List ℕ). is_among ks k) (sym ps) ∙ held in
            known.below k (grind (arith, nat_tests))
      ];
      shown = omega (arith, many, known.shown);
      fewer = omega (arith, many, room);
      room = known.room;
      good = subst (AllByRecursion (λ (a : Answered). a.status ≡ 0)) (sym (answers_own s.past q (shown_list q p bs s l.batch))) (good_append (answers s.past q) (shown_list q p bs s l.batch) known.good (good_map (answer_at q (stored_at p bs s)) l.batch (λ k held. st.status k (in_batch q h s l done k before held))));
      wide = known.wide;
      unfaulted = known.unfaulted;
      values = known.values;
    }

shown_worked : (q : ℕ) (h : Header1) (p : ℕ) (bs : List ℕ) (s : Scene) (l : Lane) (done : ℕ) → IsUnderWay q h s l done → done ≤ 4 * length l.batch → Worked q (shown_past q p bs s l.batch) (phases.Publish (done + 1)) [] l.completed l.made
shown_worked q h p bs s l done u before =
    let w : Worked q s.past (phases.Publish done) l.batch l.completed l.made = hidden_worked q h s l done u before in
    let ps : published (shown_past q p bs s l.batch) q ≡ published s.past q ++ l.batch = shown_published q h p bs s l in
    let parts = distinct_parts l.completed l.batch w.distinct in
    let bare : (k : ℕ) → is_among (l.completed ++ []) k ≡ true → is_among l.completed k ≡ true = λ k held. ap (λ (ks : List ℕ). is_among ks k) (sym (append-nil l.completed)) ∙ held in
    let same : (k : ℕ) → is_among (l.completed ++ []) k ≡ true → is_among (l.completed ++ l.batch) k ≡ true = λ k held. is_among_append l.completed l.batch k ∙ or_left (is_among l.completed k) (is_among l.batch k) (bare k held) in
    record {
      distinct = ap are_distinct (append-nil l.completed) ∙ parts.first;
      opens = λ k held. record {
        taken = (w.opens k (same k held)).taken;
        unpublished =
            let old : is_among (published s.past q) k ≡ false = (w.opens k (same k held)).unpublished in
            let new : is_among l.batch k ≡ false = elim (cases_Bool (is_among l.batch k)) [
              | inl there ↦ absurd (let out : is_among l.completed k ≡ false = parts.apart k there in let fails : true ≡ false = sym (bare k held) ∙ out in cc)
              | inr out ↦ out
            ] in
            ap (λ (ks : List ℕ). is_among ks k) ps ∙ is_among_append (published s.past q) l.batch k ∙ grind (arith, nat_tests);
      };
      untouched = w.untouched;
      progress = w.progress;
      full = λ k held. w.full k (same k held);
      pending = λ k is_open out.
          let whole : is_among (published s.past q ++ l.batch) k ≡ false = ap (λ (ks : List ℕ). is_among ks k) (sym ps) ∙ is_open.unpublished in
          let joined : is_among (published s.past q ++ l.batch) k ≡ (is_among (published s.past q) k || is_among l.batch k) = is_among_append (published s.past q) l.batch k in
          let left : is_among l.completed k ≡ false = ap (λ (ks : List ℕ). is_among ks k) (sym (append-nil l.completed)) ∙ out in
          w.pending k (record { taken = is_open.taken; unpublished = grind (arith, nat_tests) }) (is_among_append l.completed l.batch k ∙ grind (arith, nat_tests));
      quiet = λ stopped. absurd (let fails : true ≡ false = sym u.started ∙ stopped in cc);
      between = tt;
    }

-- an open number after the publication was open before it
still_open : (q : ℕ) (h : Header1) (p : ℕ) (bs : List ℕ) (s : Scene) (l : Lane) (k : ℕ) → IsOpen (shown_past q p bs s l.batch) q k → IsOpen s.past q k
still_open q h p bs s l k is_open = record {
  taken = is_open.taken;
  unpublished =
      let ps : published (shown_past q p bs s l.batch) q ≡ published s.past q ++ l.batch = shown_published q h p bs s l in
      let whole : is_among (published s.past q ++ l.batch) k ≡ false = ap (λ (ks : List ℕ). is_among ks k) (sym ps) ∙ is_open.unpublished in
      let joined : is_among (published s.past q ++ l.batch) k ≡ (is_among (published s.past q) k || is_among l.batch k) = is_among_append (published s.past q) l.batch k in
      grind (arith, nat_tests);
}

shown_holds : (q : ℕ) (h : Header1) (p : ℕ) (bs : List ℕ) (s : Scene) (l : Lane) (done : ℕ) → IsUnderWay q h s l done → done ≡ 4 * length l.batch → ((k : ℕ) → OffBuffer q (s.heads q) k p bs)
    → QueueFacts q h (record (stored_at p bs s) { past = shown_past q p bs s l.batch }) l.driver l.bell l.plan l.counter l.batch (phases.Publish (done + 1)) → Holds q h (record (stored_at p bs s) { past = shown_past q p bs s l.batch }) (one_on done l)
shown_holds q h p bs s l done u at off queue =
    let before : done ≤ 4 * length l.batch = omega (arith, at) in
    let past' : List Entry = shown_past q p bs s l.batch in
    let none : hidden l.batch (phases.Publish (done + 1)) ≡ [] = none_hidden l.batch (done + 1) (omega (arith, at)) in
    let st = shown_stored q h p bs s l done u off in
    let stored : Stored q past' (s.heads q) (stored_at p bs s).memory [] l.completed l.made = record {
      sectors = λ k i is_open kept read. st.sectors k i (still_open q h p bs s l k is_open) kept read;
      status = λ k held. st.status k (is_among_append l.completed (hidden l.batch (phases.Publish done)) k ∙ or_left (is_among l.completed k) (is_among (hidden l.batch (phases.Publish done)) k) (ap (λ (ks : List ℕ). is_among ks k) (sym (append-nil l.completed)) ∙ held));
    } in
    record {
      known = shown_known q h p bs s l done u before off;
      worked = subst (λ (ks : List ℕ). Worked q past' (phases.Publish (done + 1)) ks l.completed l.made) (sym none) (shown_worked q h p bs s l done u before);
      carries = record {
        distinct = u.holds.carries.distinct;
        shown = λ k held out. ap (λ (ks : List ℕ). is_among ks k) (shown_published q h p bs s l) ∙ is_among_append (published s.past q) l.batch k ∙ or_right (is_among (published s.past q) k) (is_among l.batch k) held;
        quiet = λ stopped. absurd (let fails : true ≡ false = sym u.started ∙ stopped in cc);
        low = u.holds.carries.low;
      };
      stored = subst (λ (ks : List ℕ). Stored q past' (s.heads q) (stored_at p bs s).memory ks l.completed l.made) (sym none) stored;
      queue = queue;
    }

shown_legal : (q : ℕ) (h : Header1) (p : ℕ) (bs : List ℕ) (s : Scene) (l : Lane) (done : ℕ) → IsUnderWay q h s l done → done ≤ 4 * length l.batch → ((k : ℕ) → OffBuffer q (s.heads q) k p bs) → MayPublish h.capacity h.mode s.past q (shown_list q p bs s l.batch)
shown_legal q h p bs s l done u before off =
    let some : (0 < length l.batch) × (done < length (publication_of l)) = phase_at q h s (publishing done l) u.holds in
    let f : ℕ → Answered = answer_at q (stored_at p bs s) in
    let st = shown_stored q h p bs s l done u off in
    let parts = distinct_parts l.completed l.batch u.holds.carries.distinct in record {
      started = u.started;
      some = omega (arith, some.0, length-map l.batch f);
      distinct = distinct_from_test (numbers (shown_list q p bs s l.batch)) (ap are_distinct (numbers_answers q (stored_at p bs s) l.batch) ∙ parts.second);
      opens = all_map (λ a. IsOpen s.past q a.number) f l.batch (λ k held. batch_open q h s l done k u before held);
      answered = all_map (λ a. IsAnswer h.capacity h.mode s.past q a) f l.batch (λ k held. answer_right q h s l done (stored_at p bs s).memory k u before st held);
    }

-- ---- the next row

-- as the step has it: its items, whether a step is left, and the counter
row_is_fine : (q : ℕ) (h : Header1) (s : Scene) (l : Lane) (done : ℕ) (step : Step) (is : List Item) → step_items h q (publishing done l) step s ≡ is → ((next : ℕ) (x : Lane) → counted next step x ≡ x)
    → Fine q h s (publishing done l) (record { items = is; lane = moved_on (goes_on done l) done l }) → Fine q h s (publishing done l) (phase_turn h q s (publishing done l) (Some step))
row_is_fine q h s l done step is items_are counts fine =
    let one : Fine q h s (publishing done l) (record { items = step_items h q (publishing done l) step s; lane = moved_on (goes_on done l) done l }) = subst (λ (js : List Item). Fine q h s (publishing done l) (record { items = js; lane = moved_on (goes_on done l) done l })) (sym items_are) fine in
    subst (λ (x : Lane). Fine q h s (publishing done l) (record { items = step_items h q (publishing done l) step s; lane = with_phase (if goes_on done l then phases.Publish (done + 1) else phases.Rest) x })) (sym (counts (next_counter_in h q s) (publishing done l))) one

before_holds : (q : ℕ) (h : Header1) (s : Scene) (l : Lane) (done : ℕ) (step : Step) → IsUnderWay q h s l done → (x : RowBefore q h s l done step) → Holds q h (stored_at x.place x.bytes s) (one_on done l)
before_holds q h s l done step u x =
    let same : hidden l.batch (phases.Publish done) ≡ hidden l.batch (phases.Publish (done + 1)) = all_hidden l.batch done (omega (arith, x.before)) ∙ sym (all_hidden l.batch (done + 1) (omega (arith, x.before))) in
    let worked : Worked q s.past (phases.Publish (done + 1)) (hidden l.batch (phases.Publish done)) l.completed l.made = moving_worked q s.past (hidden l.batch (phases.Publish done)) l.completed l.made (phases.Publish done) (phases.Publish (done + 1)) tt u.holds.worked in
    let stored = stored_elsewhere q s.past (s.heads q) s.memory x.place x.bytes (hidden l.batch (phases.Publish done)) l.completed l.made u.holds.worked.opens (λ k is_open. x.off k) u.holds.stored in
    record {
      known = u.holds.known;
      worked = subst (λ (ks : List ℕ). Worked q s.past (phases.Publish (done + 1)) ks l.completed l.made) same worked;
      carries = carries_moved q s.past l done true same u.holds.carries;
      stored = subst (λ (ks : List ℕ). Stored q s.past (s.heads q) (stored_at x.place x.bytes s).memory ks l.completed l.made) same stored;
      queue = x.queue;
    }

-- a row that leaves the elements hidden
before_fine : (q : ℕ) (h : Header1) (s : Scene) (l : Lane) (done : ℕ) (step : Step) → IsUnderWay q h s l done → RowBefore q h s l done step → Fine q h s (publishing done l) (phase_turn h q s (publishing done l) (Some step))
before_fine q h s l done step u x =
    let holds = before_holds q h s l done step u x in
    let same : hidden l.batch (phases.Publish done) ≡ hidden l.batch (phases.Publish (done + 1)) = all_hidden l.batch done (omega (arith, x.before)) ∙ sym (all_hidden l.batch (done + 1) (omega (arith, x.before))) in
    let sum = sum_hidden q s.past l (hidden l.batch (phases.Publish done)) (hidden l.batch (phases.Publish (done + 1))) same in
    let fine : Fine q h s (publishing done l) (record { items = items.Store x.tag M x.place x.bytes ∷ []; lane = moved_on true done l }) = record {
      each = (inr (holds_track q h (stored_at x.place x.bytes s) (one_on done l) u.good holds), tt);
      holds = holds;
      legal = tt;
      idle = λ stopped. absurd (let fails : true ≡ false = sym u.started ∙ stopped in cc);
      collects = refl;
      falls = omega (arith, x.before, sum, ap (left_of h.size (one_on done l)) u.started, ap (left_of h.size (publishing done l)) u.started);
    } in
    row_is_fine q h s l done step (items.Store x.tag M x.place x.bytes ∷ []) x.stores x.counts (subst (λ (b : Bool). Fine q h s (publishing done l) (record { items = items.Store x.tag M x.place x.bytes ∷ []; lane = moved_on b done l })) (sym x.more) fine)

-- the row that shows them, with its publication
shows_fine : (q : ℕ) (h : Header1) (s : Scene) (l : Lane) (done : ℕ) (step : Step) → IsUnderWay q h s l done → RowShows q h s l done step → Fine q h s (publishing done l) (phase_turn h q s (publishing done l) (Some step))
shows_fine q h s l done step u x =
    let before : done ≤ 4 * length l.batch = omega (arith, x.at) in
    let past' : List Entry = shown_past q x.place x.bytes s l.batch in
    let holds = shown_holds q h x.place x.bytes s l done u x.at x.off x.queue in
    let all : hidden l.batch (phases.Publish done) ≡ l.batch = all_hidden l.batch done before in
    let none : hidden l.batch (phases.Publish (done + 1)) ≡ [] = none_hidden l.batch (done + 1) (omega (arith, x.at)) in
    let old : sum_below (weight (published s.past q) (l.completed ++ hidden l.batch (phases.Publish done)) l.made) (accepted s.past q) ≡ sum_below (weight (published s.past q) (l.completed ++ l.batch) l.made) (accepted s.past q) = ap (λ (ks : List ℕ). sum_below (weight (published s.past q) (l.completed ++ ks) l.made) (accepted s.past q)) all in
    let new : sum_below (weight (published past' q) (l.completed ++ hidden l.batch (phases.Publish (done + 1))) l.made) (accepted s.past q) ≡ sum_below (weight (published past' q) (l.completed ++ []) l.made) (accepted s.past q) = ap (λ (ks : List ℕ). sum_below (weight (published past' q) (l.completed ++ ks) l.made) (accepted s.past q)) none in
    let list : List Item = items.Store x.tag M x.place x.bytes ∷ items.Made (entries.Publish q (shown_list q x.place x.bytes s l.batch)) ∷ [] in
    let fine : Fine q h s (publishing done l) (record { items = list; lane = moved_on true done l }) = record {
      each = (inl tt, (inr (holds_track q h (record (stored_at x.place x.bytes s) { past = past' }) (one_on done l) u.good holds), tt));
      holds = holds;
      legal = (shown_legal q h x.place x.bytes s l done u before x.off, tt);
      idle = λ stopped. absurd (let fails : true ≡ false = sym u.started ∙ stopped in cc);
      collects = refl;
      falls = omega (arith, x.at, old, new, shown_falls (published s.past q) (published past' q) l.completed l.batch l.made (accepted s.past q) (shown_published q h x.place x.bytes s l), ap (left_of h.size (one_on done l)) u.started, ap (left_of h.size (publishing done l)) u.started);
    } in
    row_is_fine q h s l done step list x.stores x.counts (subst (λ (b : Bool). Fine q h s (publishing done l) (record { items = list; lane = moved_on b done l })) (sym x.more) fine)

-- ---- a step beside used.idx

-- what is hidden stays so, and what is shown too
hidden_on : (l : Lane) (done : ℕ) (b : Bool) → done ≢ 4 * length l.batch → goes_on done l ≡ b → hidden l.batch (phases.Publish done) ≡ hidden (moved_on b done l).batch (moved_on b done l).phase
hidden_on l done true apart more = elim (cases_lt done (4 * length l.batch)) [
  | inl low ↦ all_hidden l.batch done (omega (arith, low)) ∙ sym (all_hidden l.batch (done + 1) (omega (arith, low)))
  | inr past ↦ none_hidden l.batch done (omega (arith, past, apart)) ∙ sym (none_hidden l.batch (done + 1) (omega (arith, past)))
]
hidden_on l done false apart none =
    let long : length (publication_of l) ≡ 5 * length l.batch + 2 + length (bell_steps l.bell) = length_publish (length l.batch) l.bell in
    let last : length (publication_of l) ≤ done + 1 = elim (cases_lt (done + 1) (length (publication_of l))) [
      | inl more ↦ absurd (let goes : goes_on done l ≡ true = grind (arith, nat_tests) in let fails : true ≡ false = sym goes ∙ none in cc)
      | inr all ↦ omega (arith, all)
    ] in
    none_hidden l.batch done (omega (arith, long, last))

moved_between : (l : Lane) (done : ℕ) (b : Bool) → BetweenTurns (moved_on b done l).phase
moved_between l done true = tt
moved_between l done false = tt

-- what is left of it is one step less
left_falls : (l : Lane) (done : ℕ) (b : Bool) → done < 5 * length l.batch + 3 → phase_left (moved_on b done l).batch (moved_on b done l).phase + 1 ≤ phase_left l.batch (phases.Publish done)
left_falls l done true low = omega (arith, low)
left_falls l done false low = omega (arith, low)

-- a store or none that leaves guest memory
beside_fine : (q : ℕ) (h : Header1) (s : Scene) (l : Lane) (done : ℕ) (m : Bytes) (is : List Item) → IsUnderWay q h s l done → done ≢ 4 * length l.batch → after_items h is s ≡ record s { memory = m } → entries_of is ≡ []
    → (Tracks h q (record s { memory = m }) → AfterEach h (Tracks h q) s is)
    → Stored q s.past (s.heads q) m (hidden l.batch (phases.Publish done)) l.completed l.made → QueueFacts q h (record s { memory = m }) l.driver l.bell l.plan l.counter (moved_on (goes_on done l) done l).batch (moved_on (goes_on done l) done l).phase
    → Fine q h s (publishing done l) (record { items = is; lane = moved_on (goes_on done l) done l })
beside_fine q h s l done m is u apart leads none each stored queue = go (goes_on done l) refl queue
  where
    go : (b : Bool) → goes_on done l ≡ b → QueueFacts q h (record s { memory = m }) l.driver l.bell l.plan l.counter (moved_on b done l).batch (moved_on b done l).phase → Fine q h s (publishing done l) (record { items = is; lane = moved_on b done l })
    go b goes facts =
        let s' : Scene = record s { memory = m } in
        let l' : Lane = moved_on b done l in
        let same : hidden l.batch (phases.Publish done) ≡ hidden l'.batch l'.phase = hidden_on l done b apart goes in
        let worked : Worked q s.past l'.phase (hidden l.batch (phases.Publish done)) l.completed l.made = moving_worked q s.past (hidden l.batch (phases.Publish done)) l.completed l.made (phases.Publish done) l'.phase (moved_between l done b) u.holds.worked in
        let holds : Holds q h s' l' = record {
          known = u.holds.known;
          worked = subst (λ (ks : List ℕ). Worked q s.past l'.phase ks l.completed l.made) same worked;
          carries = carries_moved q s.past l done b same u.holds.carries;
          stored = subst (λ (ks : List ℕ). Stored q s.past (s.heads q) m ks l.completed l.made) same stored;
          queue = facts;
        } in
        let some : (0 < length l.batch) × (done < length (publication_of l)) = phase_at q h s (publishing done l) u.holds in
        let low : done < 5 * length l.batch + 3 = omega (arith, some.1, length_publish (length l.batch) l.bell, few_bells l.bell) in
        let sum = sum_hidden q s.past l (hidden l.batch (phases.Publish done)) (hidden l'.batch l'.phase) same in
        let left : (x : Scene) → x ≡ s' → effort q h.size x.past (length (x.heads q)) l' + 1 ≤ effort q h.size s.past (length (s.heads q)) (publishing done l) = λ x e.
        subst (λ (y : Scene). effort q h.size y.past (length (y.heads q)) l' + 1 ≤ effort q h.size s.past (length (s.heads q)) (publishing done l)) (sym e)
        (omega (arith, sum, left_falls l done b low, ap (left_of h.size l') u.started, ap (left_of h.size (publishing done l)) u.started)) in
        record {
          each = each (holds_track q h s' l' u.good holds);
          holds = subst (λ (x : Scene). Holds q h x l') (sym leads) holds;
          legal = subst (λ (es : List Entry). LegalFrom h.capacity h.mode s.past es) (sym none) tt;
          idle = λ stopped. absurd (let fails : true ≡ false = sym u.started ∙ sym (ap (λ (x : Scene). started x.past q) leads) ∙ stopped in cc);
          collects = ap (λ (x : Scene). collected x.past q) leads;
          falls = left (after_items h is s) leads;
        }

notes_fine : (q : ℕ) (h : Header1) (s : Scene) (l : Lane) (done : ℕ) (step : Step) → IsUnderWay q h s l done → RowNotes q h s l done step → Fine q h s (publishing done l) (phase_turn h q s (publishing done l) (Some step))
notes_fine q h s l done step u x =
    row_is_fine q h s l done step (items.Store x.tag I x.place x.bytes ∷ []) x.stores x.counts
    (beside_fine q h s l done (put s.memory 1 x.place x.bytes) (items.Store x.tag I x.place x.bytes ∷ []) u x.apart refl refl (λ t. (inr t, tt))
    (noted_stored q s.past (s.heads q) s.memory x.place x.bytes (hidden l.batch (phases.Publish done)) l.completed l.made u.holds.stored) x.queue)

tells_fine : (q : ℕ) (h : Header1) (s : Scene) (l : Lane) (done : ℕ) (step : Step) → IsUnderWay q h s l done → RowRings q h s l done step → Fine q h s (publishing done l) (phase_turn h q s (publishing done l) (Some step))
tells_fine q h s l done step u x =
    row_is_fine q h s l done step (items.Bell q ∷ []) x.rings x.counts (beside_fine q h s l done s.memory (items.Bell q ∷ []) u x.apart refl refl (λ t. (inr t, tt)) u.holds.stored x.queue)

-- the next step of a publication
pub publication_fine : (q : ℕ) (h : Header1) (s : Scene) (l : Lane) (done : ℕ) → IsUnderWay q h s l done → Fine q h s (publishing done l) (phase_goes_on h q s (publishing done l))
publication_fine q h s l done u =
    let way : IsPublishing q h s l done = record {
      size = u.good.size;
      back = u.back;
      started = u.started;
      known = u.holds.known;
      taken = λ k held. batch_low q h s l done k u held;
      room = λ before. hidden_room q h s l done u before;
      opens = λ before k held. batch_open q h s l done k u before held;
      queue = u.holds.queue;
    } in
    go (slice_get (publication_of l) done) (queue_row q h s l done way)
  where
    go : (o : Option Step) → NextRow q h s l done o → Fine q h s (publishing done l) (phase_turn h q s (publishing done l) o)
    go o (Before step is x) = subst (λ (y : Option Step). Fine q h s (publishing done l) (phase_turn h q s (publishing done l) y)) (sym is) (before_fine q h s l done step u x)
    go o (Notes step is x) = subst (λ (y : Option Step). Fine q h s (publishing done l) (phase_turn h q s (publishing done l) y)) (sym is) (notes_fine q h s l done step u x)
    go o (Tells step is x) = subst (λ (y : Option Step). Fine q h s (publishing done l) (phase_turn h q s (publishing done l) y)) (sym is) (tells_fine q h s l done step u x)
    go o (Shows step is x) = subst (λ (y : Option Step). Fine q h s (publishing done l) (phase_turn h q s (publishing done l) y)) (sym is) (shows_fine q h s l done step u x)
