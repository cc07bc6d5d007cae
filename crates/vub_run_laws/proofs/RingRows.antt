-- The rows of a publication, each one, on a split ring and its in-flight region.
use Rattle.std.proofs.Common.{◌≡◌, ◌≢◌, ◌≤◌, ◌<◌, ℕ, ◌+◌, ◌-◌, ◌*◌, ◌%◌, ◌^◌, Bool, true, false, cond, List, [], ◌++◌, length, take, map, refl, ap, sym, ◌∙◌, subst, inl, inr, arith}
use Rattle.std.specs.Prelude.{Option, Some, None, if◌then◌else◌, slice_index, slice_get, option_map}
use Rattle.std.specs.Option.{option_or}
use Rattle.byteorder.specs.Endian.{little_bytes}
use Rattle.std.proofs.lemmas.Bool.Decides.{nat_tests}
use Rattle.std.proofs.lemmas.Bool.{cases_lt}
use Rattle.std.proofs.lemmas.List.{length-append, length-map, take-append-le, get_or_append_left, get_or-append-add}
use Rattle.vub_base.specs.declared.header.Header1.{Header1}
use Rattle.vub_base.specs.declared.store.Tag.TheVariants.{SP1, SP2, SP5}
use Rattle.vub_shared.specs.Bytes.{Bytes, put, word}
use Rattle.vub_shared.proofs.BytesLemmas.{word-put_same}
use Rattle.vub_steps.specs.declared.steps.Phase.{Phase}
use Rattle.vub_steps.specs.declared.steps.Phase.TheVariants as phases
use Rattle.vub_steps.specs.declared.steps.Step.{Step}
use Rattle.vub_steps.specs.declared.steps.Step.TheVariants as steps
use Rattle.vub_steps.specs.Rows.{Row, row, region_row, row_of}
use Rattle.vub_steps.specs.Steps.{bell_steps, publish_steps, next_step, after_of}
use Rattle.vub_steps.proofs.StepLemmas.{length_publish}
use Rattle.vub_infl_split.specs.declared.region.SplitStore.{SplitStore}
use Rattle.vub_infl_split.specs.declared.region.SplitStore.TheVariants.{SP3, SP4, SP6, SP7}
use Rattle.vub_infl_split.specs.Stores.{store_of, tag_of}
use Rattle.vub_ring.specs.Ring.{Ring, avail_idx_place, avail_entry_place, used_idx_place, used_id_place, used_len_place, used_idx, element_at}
use Rattle.vub_device.specs.declared.entry.Entry.{Entry}
use Rattle.vub_device.specs.Past.{asked, accepted, published, collected, is_among, IsOpen, open_numbers, started}
use Rattle.vub_device.specs.Places.{are_distinct}
use Rattle.vub_run.specs.Memory.{Scene}
use Rattle.vub_run.specs.Moments.{Lane, used_in, region_in, open_heads}
use Rattle.vub_run.specs.Tracking.{answered_len}
use Rattle.vub_run.specs.Turns.{element_of, len_of, sight_of, counted, row_items, step_items}
use Rattle.vub_facts.specs.Facts.{Side, Words, words_at, Facts, course_in, after_row, heads_in, without, ElementsFit}
use Rattle.vub_facts.specs.Facts.{with_phase as side_with}
use Rattle.vub_facts.proofs.Places.{IsStarting, IsRunning, Place, place_of, step_left}
use Rattle.vub_facts.proofs.FactWords.{element_below}
use Rattle.vub_split.proofs.Rings.{entries_apart}
use Rattle.vub_run_laws.proofs.RunOwn.{published_own}
use Rattle.vub_run_laws.proofs.RunNumbers.{among_at, missing-among, among-missing, missing_distinct}
use Rattle.vub_run_laws.proofs.RunHeads.{heads_publish}
use Rattle.vub_run_laws.proofs.RunGood.{IsWide, StartIs, IsOut, spot, stored_at}
use Rattle.vub_run_laws.proofs.RingGood.{the_ring, the_region, side_of, Ringed}
use Rattle.vub_run_laws.proofs.RunHolds.{IsPublishing, publishing, publication_of, moved_on, goes_on, noted_at, RowBefore, RowNotes, RowRings, shown_list, shown_past, RowShows, NextRow, Before, Notes, Tells, Shows}
use Rattle.vub_run_laws.proofs.RunFrames.{open_out, keeps, below_buffers, length_little}
use Rattle.vub_run_laws.proofs.RunTracks.{numbers_answers}
use Rattle.vub_run_laws.proofs.RunElements.{get_map, len_is}
use Rattle.vub_run_laws.proofs.RingFrames.{entry_small}
use Rattle.vub_run_laws.proofs.RingEntries.{driven_same}
use Rattle.vub_run_laws.proofs.RingFacts.{words_in, StepWords, step_words, words_element, element_map, heads_of_elements, distinct_map}
use Rattle.vub_run_laws.proofs.RingStarts.{ringed_noted}
use Rattle.vub_run_laws.proofs.RingElements.{id_and_id, id_and_len, len_and_id, len_and_len, ring_words, element_place}

-- ---- the lane after a step

moved_facts : (q : ℕ) (h : Header1) (s : Scene) (l : Lane) (done : ℕ) (heads : List ℕ) (w : Words) (b : Bool) → Facts h.size heads h.base (side_with (if b then phases.Publish (done + 1) else phases.Rest) (side_of q h s l.bell l.plan l.counter l.batch (phases.Publish done))) w
    → Facts h.size heads h.base (side_of q h s l.bell l.plan l.counter (moved_on b done l).batch (moved_on b done l).phase) w
moved_facts q h s l done heads w true f = f
moved_facts q h s l done heads w false f = f

no_start : (runs : Bool) (n : ℕ) (done : ℕ) (l : Lane) (b : Bool) → runs ≡ true → StartIs runs n l.bell l.plan (moved_on b done l).phase
no_start runs n done l true run = run
no_start runs n done l false run = tt

-- the phase after it, by the number of elements
after_is : (q : ℕ) (h : Header1) (s : Scene) (l : Lane) (done : ℕ) → after_of (publish_steps (length (map (element_of h q s) l.batch)) l.bell) (phases.Publish done) ≡ (if goes_on done l then phases.Publish (done + 1) else phases.Rest)
after_is q h s l done = ap (λ (m : ℕ). after_of (publish_steps m l.bell) (phases.Publish done)) (length-map l.batch (element_of h q s))

-- it goes on until used.idx is stored, and with that
goes : (l : Lane) (done : ℕ) → done ≤ 4 * length l.batch → goes_on done l ≡ true
goes l done before =
    let long : length (publication_of l) ≡ 5 * length l.batch + 2 + length (bell_steps l.bell) = length_publish (length l.batch) l.bell in
    let more : done + 1 < length (publication_of l) = omega (arith, long, before) in
    grind (arith, nat_tests)

on_facts : (q : ℕ) (h : Header1) (s : Scene) (l : Lane) (done : ℕ) (heads : List ℕ) (w : Words) → done ≤ 4 * length l.batch → Facts h.size heads h.base (side_with (after_of (publish_steps (length (map (element_of h q s) l.batch)) l.bell) (phases.Publish done)) (side_of q h s l.bell l.plan l.counter l.batch (phases.Publish done))) w
    → Facts h.size heads h.base (side_of q h s l.bell l.plan l.counter l.batch (phases.Publish (done + 1))) w
on_facts q h s l done heads w before f =
    let side : Side = side_of q h s l.bell l.plan l.counter l.batch (phases.Publish done) in
    let is : after_of (publish_steps (length (map (element_of h q s) l.batch)) l.bell) (phases.Publish done) ≡ phases.Publish (done + 1) = after_is q h s l done ∙ ap (λ (b : Bool). cond {A = Phase} b (phases.Publish (done + 1)) phases.Rest) (goes l done before) in
    subst (λ (p : Phase). Facts h.size heads h.base (side_with p side) w) is f

-- ---- what is published fits

elements_fit : (q : ℕ) (h : Header1) (s : Scene) (l : Lane) (done : ℕ) → IsPublishing q h s l done → ElementsFit (map (element_of h q s) l.batch)
elements_fit q h s l done n =
    let elements : List (ℕ × ℕ) = map (element_of h q s) l.batch in
    let long : length elements ≡ length l.batch = length-map l.batch (element_of h q s) in
    let heads : List ℕ = open_heads q s.past (s.heads q) in
    let side : Side = side_of q h s l.bell l.plan l.counter l.batch (phases.Publish done) in
    let most : h.size ≤ 64 = n.size.small in
    record {
      ids = λ e low. omega (arith, most, element_below h.size heads h.base done e side (words_in q h s) (record { started = n.started; place = refl }) low n.queue.words);
      lens = λ e low.
          let k : ℕ = slice_index l.batch e in
          let inside : e < length l.batch = omega (arith, low, long) in
          let wide : IsWide h.capacity (asked s.past q k) = n.known.wide k (omega (arith, n.taken k (among_at l.batch e inside), n.known.offered)) in
          let is = len_is h (asked s.past q k) n.back wide in
          let fits : len_of h (asked s.past q k) < 256 ^ 4 = subst (λ (y : ℕ). y < 256 ^ 4) (sym is.0) is.1 in
          omega (arith, fits, ap (λ (y : ℕ × ℕ). y.1) (element_map (element_of h q s) l.batch e inside));
    }

-- the words after a step that comes next
row_words_after : (q : ℕ) (h : Header1) (s : Scene) (l : Lane) (done : ℕ) (step : Step) → IsPublishing q h s l done → next_step (course_in h.size (side_of q h s l.bell l.plan l.counter l.batch (phases.Publish done))) (phases.Publish done) ≡ Some step → StepWords q h s (publishing done l) step
row_words_after q h s l done step n next = step_words q h s (publishing done l) step n.size (elements_fit q h s l done n) (record { in_phase = n.started; next = next }) n.queue.words

-- ---- the rows before the last

-- an element of the batch isn't one that the driver sees
unseen_entry : (q : ℕ) (h : Header1) (s : Scene) (l : Lane) (done e i : ℕ) → IsPublishing q h s l done → done ≤ 4 * length l.batch → e < length l.batch → collected s.past q ≤ i → i < length (published s.past q)
    → (h.base + length (published s.past q) + e) % 65536 % h.size ≢ (h.base + i) % 65536 % h.size
unseen_entry q h s l done e i x before inside from upto same =
    let room = x.room before in
    let offered = x.known.offered in
    let few = x.known.room in
    entries_apart h.size (h.base + i) (h.base + length (published s.past q) + e) x.size.some x.size.laps (omega arith) (omega arith) (sym same)

id_row : (q : ℕ) (h : Header1) (s : Scene) (l : Lane) (done e : ℕ) → IsPublishing q h s l done → e < length l.batch → done ≡ 4 * e → StepWords q h s (publishing done l) (steps.Id e) → RowBefore q h s l done (steps.Id e)
id_row q h s l done e n inside at kept =
    let before : done < 4 * length l.batch = omega (arith, inside, at) in
    let k : ℕ = slice_index l.batch e in
    let x : ℕ = slice_index (s.heads q) k in
    let P : ℕ = h.base + length (published s.past q) in
    let p : ℕ = used_id_place (the_ring q h.size) (P + e) in
    let bs : List ℕ = little_bytes 4 x in
    let four : length bs ≡ 4 = length_little 4 x in
    let small = entry_small h.size (P + e) n.size in
    let r : Ring = the_ring q h.size in
    let made : row_of r (the_region q h.size) (sight_of h q s (publishing done l)) (steps.Id e) ≡ Some (row r SP1 p bs) =
    ap (λ (o : Option (ℕ × ℕ)). option_or (option_map (λ (z : ℕ × ℕ). row r SP1 (used_id_place r (used_idx r s.memory + e)) (little_bytes 4 z.0)) o) None) (get_map (element_of h q s) l.batch e inside)
    ∙ ap (λ (y : ℕ). Some (row r SP1 (r.used + (4 + 8 * y)) bs)) (element_place q h.size h.base s.past (s.heads q) s.memory e n.queue.ringed) in record {
      before = before;
      more = goes l done (omega (arith, before));
      tag = SP1;
      place = p;
      bytes = bs;
      stores = ap (λ (o : Option Row). (row_items o ++ []) ++ []) made;
      off = λ k. below_buffers q (s.heads q) k p bs (omega arith);
      counts = λ next z. refl;
      queue = record {
        ringed = ring_words q h.size h.base s.past (s.heads q) s.memory p bs n.size (omega arith)
            (λ i from upto. id_and_id q ((P + e) % 65536 % h.size) ((h.base + i) % 65536 % h.size) x s.memory (unseen_entry q h s l done e i n (omega (arith, before)) inside from upto))
            (λ i from upto. id_and_len q ((P + e) % 65536 % h.size) ((h.base + i) % 65536 % h.size) x s.memory) n.queue.ringed;
        driven = n.queue.driven;
        words = on_facts q h s l done (open_heads q s.past (s.heads q)) (words_in q h (stored_at p bs s)) (omega (arith, before))
            (subst (λ (o : Option Row). Facts h.size (open_heads q s.past (s.heads q)) h.base (side_with (after_of (publish_steps (length (map (element_of h q s) l.batch)) l.bell) (phases.Publish done)) (side_of q h s l.bell l.plan l.counter l.batch (phases.Publish done))) (words_at r (the_region q h.size) (after_row o s.memory))) made kept);
        start = n.started;
      };
    }

len_row : (q : ℕ) (h : Header1) (s : Scene) (l : Lane) (done e : ℕ) → IsPublishing q h s l done → e < length l.batch → done ≡ 4 * e + 1 → StepWords q h s (publishing done l) (steps.Len e) → RowBefore q h s l done (steps.Len e)
len_row q h s l done e n inside at kept =
    let before : done < 4 * length l.batch = omega (arith, inside, at) in
    let k : ℕ = slice_index l.batch e in
    let x : ℕ = len_of h (asked s.past q k) in
    let P : ℕ = h.base + length (published s.past q) in
    let p : ℕ = used_len_place (the_ring q h.size) (P + e) in
    let bs : List ℕ = little_bytes 4 x in
    let four : length bs ≡ 4 = length_little 4 x in
    let small = entry_small h.size (P + e) n.size in
    let r : Ring = the_ring q h.size in
    let made : row_of r (the_region q h.size) (sight_of h q s (publishing done l)) (steps.Len e) ≡ Some (row r SP2 p bs) =
    ap (λ (o : Option (ℕ × ℕ)). option_or (option_map (λ (z : ℕ × ℕ). row r SP2 (used_len_place r (used_idx r s.memory + e)) (little_bytes 4 z.1)) o) None) (get_map (element_of h q s) l.batch e inside)
    ∙ ap (λ (y : ℕ). Some (row r SP2 (r.used + (8 + 8 * y)) bs)) (element_place q h.size h.base s.past (s.heads q) s.memory e n.queue.ringed) in record {
      before = before;
      more = goes l done (omega (arith, before));
      tag = SP2;
      place = p;
      bytes = bs;
      stores = ap (λ (o : Option Row). (row_items o ++ []) ++ []) made;
      off = λ k. below_buffers q (s.heads q) k p bs (omega arith);
      counts = λ next z. refl;
      queue = record {
        ringed = ring_words q h.size h.base s.past (s.heads q) s.memory p bs n.size (omega arith)
            (λ i from upto. len_and_id q ((P + e) % 65536 % h.size) ((h.base + i) % 65536 % h.size) x s.memory)
            (λ i from upto. len_and_len q ((P + e) % 65536 % h.size) ((h.base + i) % 65536 % h.size) x s.memory (unseen_entry q h s l done e i n (omega (arith, before)) inside from upto)) n.queue.ringed;
        driven = n.queue.driven;
        words = on_facts q h s l done (open_heads q s.past (s.heads q)) (words_in q h (stored_at p bs s)) (omega (arith, before))
            (subst (λ (o : Option Row). Facts h.size (open_heads q s.past (s.heads q)) h.base (side_with (after_of (publish_steps (length (map (element_of h q s) l.batch)) l.bell) (phases.Publish done)) (side_of q h s l.bell l.plan l.counter l.batch (phases.Publish done))) (words_at r (the_region q h.size) (after_row o s.memory))) made kept);
        start = n.started;
      };
    }

-- ---- a store into the in-flight region, and the bell

-- the words after a step that leaves the open heads
abbrev KeptWords : ℕ → Header1 → Scene → Lane → ℕ → Bytes → Type 0
KeptWords q h s l done m =
    Facts h.size (open_heads q s.past (s.heads q)) h.base (side_with (after_of (publish_steps (length (map (element_of h q s) l.batch)) l.bell) (phases.Publish done)) (side_of q h s l.bell l.plan l.counter l.batch (phases.Publish done))) (words_at (the_ring q h.size) (the_region q h.size) m)

-- the row of a step
abbrev the_row : ℕ → Header1 → Scene → Lane → ℕ → Step → Option Row
the_row q h s l done step = row_of (the_ring q h.size) (the_region q h.size) (sight_of h q s (publishing done l)) step

note_row : (q : ℕ) (h : Header1) (s : Scene) (l : Lane) (done : ℕ) (step : Step) (y : SplitStore) → ((next : ℕ) (z : Lane) → counted next step z ≡ z) → IsPublishing q h s l done → done ≢ 4 * length l.batch → (store_of (the_region q h.size) y).space ≡ 1 → the_row q h s l done step ≡ Some (region_row (the_region q h.size) y)
    → step_items h q (publishing done l) step s ≡ (row_items (the_row q h s l done step) ++ []) ++ [] → KeptWords q h s l done (after_row (the_row q h s l done step) s.memory) → RowNotes q h s l done step
note_row q h s l done step y counts n apart space made items_are kept =
    let st = store_of (the_region q h.size) y in
    let heads : List ℕ = open_heads q s.past (s.heads q) in
    let words : KeptWords q h s l done (put s.memory 1 st.place st.bytes) = subst (λ (k : ℕ). KeptWords q h s l done (put s.memory k st.place st.bytes)) space (subst (λ (o : Option Row). KeptWords q h s l done (after_row o s.memory)) made kept) in
    let moved = subst (λ (p : Phase). Facts h.size heads h.base (side_with p (side_of q h s l.bell l.plan l.counter l.batch (phases.Publish done))) (words_in q h (noted_at st.place st.bytes s))) (after_is q h s l done) words in record {
      apart = apart;
      tag = tag_of y;
      place = st.place;
      bytes = st.bytes;
      stores = items_are ∙ ap (λ (o : Option Row). (row_items o ++ []) ++ []) made;
      counts = counts;
      queue = record {
        ringed = ringed_noted q h.size h.base s.past (s.heads q) s.memory st.place st.bytes n.queue.ringed;
        driven = n.queue.driven;
        words = moved_facts q h s l done heads (words_in q h (noted_at st.place st.bytes s)) (goes_on done l) moved;
        start = no_start (started s.past q) h.size done l (goes_on done l) n.started;
      };
    }

ring_row_is : (q : ℕ) (h : Header1) (s : Scene) (l : Lane) (done : ℕ) → IsPublishing q h s l done → done ≢ 4 * length l.batch → KeptWords q h s l done s.memory → RowRings q h s l done steps.Bell
ring_row_is q h s l done n apart kept =
    let heads : List ℕ = open_heads q s.past (s.heads q) in
    let moved = subst (λ (p : Phase). Facts h.size heads h.base (side_with p (side_of q h s l.bell l.plan l.counter l.batch (phases.Publish done))) (words_in q h s)) (after_is q h s l done) kept in record {
      apart = apart;
      rings = refl;
      counts = λ next z. refl;
      queue = record {
        ringed = n.queue.ringed;
        driven = n.queue.driven;
        words = moved_facts q h s l done heads (words_in q h s) (goes_on done l) moved;
        start = no_start (started s.past q) h.size done l (goes_on done l) n.started;
      };
    }

-- the store of an element of the batch
element_made : (q : ℕ) (h : Header1) (s : Scene) (l : Lane) (e : ℕ) (f : ℕ × ℕ → SplitStore) → e < length l.batch
    → option_map (region_row (the_region q h.size)) (option_map f (slice_get (map (element_of h q s) l.batch) e)) ≡ Some (region_row (the_region q h.size) (f (element_of h q s (slice_index l.batch e))))
element_made q h s l e f inside = ap (λ (o : Option (ℕ × ℕ)). option_map (region_row (the_region q h.size)) (option_map f o)) (get_map (element_of h q s) l.batch e inside)

-- ---- the row that shows

-- the store of used.idx leaves the elements
element_stays : (q : ℕ) (h : Header1) (x : ℕ) (s : Scene) (i : ℕ) → element_at (the_ring q h.size) (put s.memory 0 (used_idx_place (the_ring q h.size)) (little_bytes 2 x)) (h.base + i) ≡ element_at (the_ring q h.size) s.memory (h.base + i)
element_stays q h x s i =
    let bs : List ℕ = little_bytes 2 x in
    let two : length bs ≡ 2 = length_little 2 x in
    let p : ℕ = used_idx_place (the_ring q h.size) in
    let id : word 4 (put s.memory 0 p bs) 0 (used_id_place (the_ring q h.size) (h.base + i)) ≡ word 4 s.memory 0 (used_id_place (the_ring q h.size) (h.base + i)) = keeps 4 s.memory p bs (used_id_place (the_ring q h.size) (h.base + i)) (inr (omega arith)) in
    let len : word 4 (put s.memory 0 p bs) 0 (used_len_place (the_ring q h.size) (h.base + i)) ≡ word 4 s.memory 0 (used_len_place (the_ring q h.size) (h.base + i)) = keeps 4 s.memory p bs (used_len_place (the_ring q h.size) (h.base + i)) (inr (omega arith)) in
    ap (λ (y : ℕ). (y, word 4 (put s.memory 0 p bs) 0 (used_len_place (the_ring q h.size) (h.base + i)))) id ∙ ap (λ (y : ℕ). (word 4 s.memory 0 (used_id_place (the_ring q h.size) (h.base + i)), y)) len

-- the elements of the batch stand
new_element : (q : ℕ) (h : Header1) (s : Scene) (l : Lane) (done e : ℕ) → IsPublishing q h s l done → done ≡ 4 * length l.batch → e < length l.batch
    → element_at (the_ring q h.size) s.memory (h.base + length (published s.past q) + e) ≡ spot q (s.heads q) s.past (slice_index l.batch e)
new_element q h s l done e n whole inside =
    let P : ℕ = h.base + length (published s.past q) in
    let k : ℕ = slice_index l.batch e in
    let wide : IsWide h.capacity (asked s.past q k) = n.known.wide k (open_out q h.size h.capacity s.past (s.heads q) k n.known (n.opens (omega (arith, whole)) k (among_at l.batch e inside))).below in
    words_element q h s l.bell l.plan l.counter l.batch done e (P + e) whole inside (element_place q h.size h.base s.past (s.heads q) s.memory e n.queue.ringed) n.queue.words
    ∙ ap (λ (len : ℕ). (slice_index (s.heads q) k, len)) (len_is h (asked s.past q k) n.back wide).0

-- so each element stands that will be seen: an old one, or one of the batch
shown_element : (q : ℕ) (h : Header1) (s : Scene) (l : Lane) (done i : ℕ) → IsPublishing q h s l done → done ≡ 4 * length l.batch → collected s.past q ≤ i → i < length (published s.past q) + length l.batch
    → element_at (the_ring q h.size) s.memory (h.base + i) ≡ spot q (s.heads q) s.past (slice_index (published s.past q ++ l.batch) i)
shown_element q h s l done i n whole from upto =
    let r : Ringed q h.size h.base s.past (s.heads q) s.memory = n.queue.ringed in
    elim (cases_lt i (length (published s.past q))) [
      | inl low ↦ r.used_at i from low ∙ sym (ap (spot q (s.heads q) s.past) (get_or_append_left (published s.past q) l.batch 0 i low))
      | inr high ↦
          let e : ℕ = i - length (published s.past q) in
          let at : i ≡ length (published s.past q) + e = omega arith in
          let place : h.base + i ≡ h.base + length (published s.past q) + e = omega arith in
          let k : slice_index (published s.past q ++ l.batch) i ≡ slice_index l.batch e = ap (slice_index (published s.past q ++ l.batch)) at ∙ get_or-append-add (published s.past q) l.batch e 0 in
          ap (element_at (the_ring q h.size) s.memory) place ∙ new_element q h s l done e n whole (omega arith) ∙ sym (ap (spot q (s.heads q) s.past) k)
    ]

shown_ringed : (q : ℕ) (h : Header1) (x : ℕ) (s : Scene) (past' : List Entry) (l : Lane) (done : ℕ) → IsPublishing q h s l done → done ≡ 4 * length l.batch → x ≡ (h.base + length (published s.past q) + length l.batch) % 65536
    → published past' q ≡ published s.past q ++ l.batch → accepted past' q ≡ accepted s.past q → collected past' q ≡ collected s.past q → ((k : ℕ) → asked past' q k ≡ asked s.past q k)
    → Ringed q h.size h.base past' (s.heads q) (put s.memory 0 (used_idx_place (the_ring q h.size)) (little_bytes 2 x))
shown_ringed q h x s past' l done n whole is ps accepts collects asks =
    let r : Ringed q h.size h.base s.past (s.heads q) s.memory = n.queue.ringed in
    let bs : List ℕ = little_bytes 2 x in
    let two : length bs ≡ 2 = length_little 2 x in
    let p : ℕ = used_idx_place (the_ring q h.size) in
    let many : length (published past' q) ≡ length (published s.past q) + length l.batch = ap (λ (ks : List ℕ). length ks) ps ∙ length-append (published s.past q) l.batch in record {
      avail_idx_is = keeps 2 s.memory p bs (avail_idx_place (the_ring q h.size)) (inl (omega arith)) ∙ r.avail_idx_is;
      used_idx_is = word-put_same 2 s.memory 0 p x (omega arith) ∙ is ∙ omega (arith, many);
      avail_at = λ i from upto. let small = entry_small h.size (h.base + i) n.size in keeps 2 s.memory p bs (avail_entry_place (the_ring q h.size) (h.base + i)) (inl (omega arith)) ∙ r.avail_at i (omega (arith, from, accepts)) upto;
      used_at = λ i from upto.
          let named : slice_index (published past' q) i ≡ slice_index (published s.past q ++ l.batch) i = ap (λ (ks : List ℕ). slice_index ks i) ps in
          element_stays q h x s i ∙ shown_element q h s l done i n whole (omega (arith, from, collects)) (omega (arith, many)) ∙ sym (ap (spot q (s.heads q) s.past) named)
          ∙ sym (ap (λ o. (slice_index (s.heads q) (slice_index (published past' q) i), answered_len 0 o)) (asks (slice_index (published past' q) i)));
    }

-- the open heads after it
shown_heads : (q : ℕ) (h : Header1) (p : ℕ) (bs : List ℕ) (s : Scene) (l : Lane) (done : ℕ) → IsPublishing q h s l done → done ≡ 4 * length l.batch
    → open_heads q (shown_past q p bs s l.batch) (s.heads q) ≡ without (heads_in (map (element_of h q s) l.batch)) (open_heads q s.past (s.heads q))
shown_heads q h p bs s l done n whole =
    let f : ℕ → ℕ = slice_index (s.heads q) in
    let os : List ℕ = open_numbers s.past q in
    let out : (k : ℕ) → is_among os k ≡ true → IsOut q s.past (s.heads q) k = λ k held.
    let low = missing-among (published s.past q) (accepted s.past q) k held in
    open_out q h.size h.capacity s.past (s.heads q) k n.known (record { taken = low.0; unpublished = low.1 }) in
    let distinct : are_distinct (map f os) ≡ true = distinct_map f os (missing_distinct (published s.past q) (accepted s.past q)) (λ j k held_j held_k same. n.queue.driven.apart j k (out j held_j) (out k held_k) same) in
    heads_publish q s.past (s.heads q) (shown_list q p bs s l.batch) l.batch (numbers_answers q (stored_at p bs s) l.batch) distinct
    (λ k held. let o : IsOpen s.past q k = n.opens (omega (arith, whole)) k held in among-missing (published s.past q) (accepted s.past q) k o.taken o.unpublished)
    ∙ ap (λ (hs : List ℕ). without hs (map f os)) (sym (heads_of_elements q h s l.batch))

index_row : (q : ℕ) (h : Header1) (s : Scene) (l : Lane) (done : ℕ) → IsPublishing q h s l done → done ≡ 4 * length l.batch → StepWords q h s (publishing done l) steps.Index → RowShows q h s l done steps.Index
index_row q h s l done n whole kept =
    let x : ℕ = (used_idx (the_ring q h.size) s.memory + length (map (element_of h q s) l.batch)) % 65536 in
    let bs : List ℕ = little_bytes 2 x in
    let two : length bs ≡ 2 = length_little 2 x in
    let p : ℕ = used_idx_place (the_ring q h.size) in
    let many : length (map (element_of h q s) l.batch) ≡ length l.batch = length-map l.batch (element_of h q s) in
    let is : x ≡ (h.base + length (published s.past q) + length l.batch) % 65536 = omega (arith, n.queue.ringed.used_idx_is, many) in
    let past' : List Entry = shown_past q p bs s l.batch in
    let ps : published past' q ≡ published s.past q ++ l.batch = published_own s.past q (shown_list q p bs s l.batch) ∙ ap (λ (ks : List ℕ). published s.past q ++ ks) (numbers_answers q (stored_at p bs s) l.batch) in
    let c : ℕ = collected s.past q in
    let front : take c (published past' q) ≡ take c (published s.past q) = ap (take c) ps ∙ take-append-le c (published s.past q) l.batch n.known.shown in
    let ringed : Ringed q h.size h.base past' (s.heads q) (put s.memory 0 p bs) = shown_ringed q h x s past' l done n whole is ps refl refl (λ k. refl) in record {
      at = whole;
      more = goes l done (omega (arith, whole));
      tag = SP5;
      place = p;
      bytes = bs;
      stores = refl;
      off = λ k. below_buffers q (s.heads q) k p bs (omega arith);
      counts = λ next z. refl;
      queue = record {
        ringed = ringed;
        driven = driven_same q h.size h.capacity h.base s.past past' (s.heads q) l.driver (λ k out. record { below = out.below; kept = ap (λ (ks : List ℕ). is_among ks k) (sym front) ∙ out.kept }) n.queue.driven;
        words = subst (λ (hs : List ℕ). Facts h.size hs h.base (side_of q h s l.bell l.plan l.counter l.batch (phases.Publish (done + 1))) (words_in q h (stored_at p bs s))) (sym (shown_heads q h p bs s l done n whole))
            (on_facts q h s l done (without (heads_in (map (element_of h q s) l.batch)) (open_heads q s.past (s.heads q))) (words_in q h (stored_at p bs s)) (omega (arith, whole)) kept);
        start = n.started;
      };
    }

-- ---- the next row

pub next_row : (q : ℕ) (h : Header1) (s : Scene) (l : Lane) (done : ℕ) → IsPublishing q h s l done → NextRow q h s l done (slice_get (publication_of l) done)
next_row q h s l done n =
    let next = step_left h.size side left in
    go next.0 next.1
  where
    side : Side
    side = side_of q h s l.bell l.plan l.counter l.batch (phases.Publish done)

    elements : List (ℕ × ℕ)
    elements = map (element_of h q s) l.batch

    long : length elements ≡ length l.batch
    long = length-map l.batch (element_of h q s)

    left : done < length (publish_steps (length elements) l.bell)
    left = n.queue.words.batch.0.left

    due : (step : Step) → next_step (course_in h.size side) (phases.Publish done) ≡ Some step → Place h.size step side
    due step next = place_of h.size step side (record { in_phase = n.started; next = next })

    is : (step : Step) → next_step (course_in h.size side) (phases.Publish done) ≡ Some step → slice_get (publication_of l) done ≡ Some step
    is step next = ap (λ (m : ℕ). slice_get (publish_steps m l.bell) done) (sym long) ∙ next

    kept : (step : Step) → next_step (course_in h.size side) (phases.Publish done) ≡ Some step → StepWords q h s (publishing done l) step
    kept step next = row_words_after q h s l done step n next

    at_place : (d : ℕ) → IsRunning (phases.Publish d) side → done ≡ d
    at_place d at = let same : phases.Publish done ≡ phases.Publish d = at.place in cc

    off : {A : Type 0} {d : ℕ} → IsStarting d side → A
    off at = absurd (let fails : true ≡ false = sym n.started ∙ at.not_started in cc)

    fetch : {A : Type 0} {d : ℕ} → IsRunning (phases.Fetch d) side → A
    fetch at = absurd (let fails : phases.Publish done ≡ phases.Fetch _ = at.place in cc)

    go : (step : Step) → next_step (course_in h.size side) (phases.Publish done) ≡ Some step → NextRow q h s l done (slice_get (publication_of l) done)
    go (steps.Id e) next = let at = due (steps.Id e) next in Before (steps.Id e) (is (steps.Id e) next) (id_row q h s l done e n (omega (arith, at.1, long)) (at_place (4 * e) at.0) (kept (steps.Id e) next))
    go (steps.Len e) next = let at = due (steps.Len e) next in Before (steps.Len e) (is (steps.Len e) next) (len_row q h s l done e n (omega (arith, at.1, long)) (at_place (4 * e + 1) at.0) (kept (steps.Len e) next))
    go (steps.Link e) next =
        let at = due (steps.Link e) next in
        let inside : e < length l.batch = omega (arith, at.1, long) in
        let same : done ≡ 4 * e + 2 = at_place (4 * e + 2) at.0 in
        Notes (steps.Link e) (is (steps.Link e) next) (note_row q h s l done (steps.Link e) (SP3 (element_of h q s (slice_index l.batch e)).0 (region_in h q s).last_batch_head) (λ next z. refl) n (λ e. omega (arith, e, same)) refl
        (element_made q h s l e (λ (x : ℕ × ℕ). SP3 x.0 (region_in h q s).last_batch_head) inside) refl (kept (steps.Link e) next))
    go (steps.Head e) next =
        let at = due (steps.Head e) next in
        let inside : e < length l.batch = omega (arith, at.1, long) in
        let same : done ≡ 4 * e + 3 = at_place (4 * e + 3) at.0 in
        Notes (steps.Head e) (is (steps.Head e) next) (note_row q h s l done (steps.Head e) (SP4 (element_of h q s (slice_index l.batch e)).0) (λ next z. refl) n (λ e. omega (arith, e, same)) refl
        (element_made q h s l e (λ (x : ℕ × ℕ). SP4 x.0) inside) refl (kept (steps.Head e) next))
    go steps.Index next =
        let same : done ≡ 4 * length elements = at_place (4 * length elements) (due steps.Index next) in
        Shows steps.Index (is steps.Index next) (index_row q h s l done n (omega (arith, same, long)) (kept steps.Index next))
    go (steps.Clear e) next =
        let at = due (steps.Clear e) next in
        let inside : e < length l.batch = omega (arith, at.1, long) in
        let same : done ≡ 4 * length elements + 1 + e = at_place (4 * length elements + 1 + e) at.0 in
        Notes (steps.Clear e) (is (steps.Clear e) next) (note_row q h s l done (steps.Clear e) (SP6 (element_of h q s (slice_index l.batch e)).0) (λ next z. refl) n (λ e. omega (arith, e, same, long)) refl
        (element_made q h s l e (λ (x : ℕ × ℕ). SP6 x.0) inside) refl (kept (steps.Clear e) next))
    go steps.Note next =
        let same : done ≡ 4 * length elements + 1 + length elements = at_place (4 * length elements + 1 + length elements) (due steps.Note next) in
        Notes steps.Note (is steps.Note next) (note_row q h s l done steps.Note (SP7 (used_in h q s)) (λ next z. refl) n (λ e. omega (arith, e, same, long)) refl refl refl (kept steps.Note next))
    go steps.Bell next = elim (due steps.Bell next).1 [
      | inl at ↦ off at
      | inr at ↦
          let same : done ≡ 4 * length elements + 1 + (length elements + 1) = at_place (4 * length elements + 1 + (length elements + 1)) at in
          Tells steps.Bell (is steps.Bell next) (ring_row_is q h s l done n (λ e. omega (arith, e, same, long)) (kept steps.Bell next))
    ]
    go steps.Features next = off (due steps.Features next).0
    go (steps.Free i) next = off (due (steps.Free i) next).0
    go steps.Open next = off (due steps.Open next).0
    go (steps.Settle i) next = off (due (steps.Settle i) next).0
    go steps.SettleEnd next = off (due steps.SettleEnd next).1.0
    go steps.Start next = off (due steps.Start next)
    go steps.Count next = fetch (due steps.Count next)
    go steps.Accept next = fetch (due steps.Accept next)
