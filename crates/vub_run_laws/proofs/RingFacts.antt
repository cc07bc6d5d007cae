-- The facts of a queue's words at the moments of a run.
use Rattle.std.proofs.Common.{◌≡◌, ◌≤◌, ◌<◌, ℕ, zero, suc, ◌+◌, ◌*◌, ◌%◌, Bool, true, false, List, [], ◌∷◌, ◌++◌, length, map, take, get_or, refl, ap, sym, ◌∙◌, subst, inl, inr, arith}
use Rattle.std.specs.Prelude.{Option, slice_index}
use Rattle.std.proofs.lemmas.Bool.{cases_Bool}
use Rattle.std.proofs.lemmas.Bool.Decides.{nat_tests}
use Rattle.std.proofs.lemmas.List.{length-map}
use Rattle.std.proofs.lemmas.Simd.{map-map}
use Rattle.vub_base.specs.declared.header.Header1.{Header1}
use Rattle.vub_shared.specs.Bytes.{Bytes, put, word}
use Rattle.vub_shared.specs.Stores.{one_store}
use Rattle.vub_steps.specs.declared.steps.Phase.{Phase}
use Rattle.vub_steps.specs.declared.steps.Phase.TheVariants as phases
use Rattle.vub_steps.specs.declared.steps.Step.{Step}
use Rattle.vub_steps.specs.Rows.{Sight, row_of}
use Rattle.vub_ring.specs.Ring.{Ring, ahead, avail_idx, head_at, entry_of, used_idx, element_at}
use Rattle.vub_driver.specs.Layout.{area_place}
use Rattle.vub_driver.specs.Drivers.{Driver}
use Rattle.vub_device.specs.declared.entry.Asked.{Asked}
use Rattle.vub_device.specs.declared.entry.Entry.{Entry}
use Rattle.vub_device.specs.declared.entry.Entry.TheVariants as entries
use Rattle.vub_device.specs.Past.{started, asked, accepted, published, collected, missing_below, open_numbers, is_among, IsOpen}
use Rattle.vub_device.specs.Places.{are_distinct}
use Rattle.vub_run.specs.Memory.{Scene}
use Rattle.vub_run.specs.Moments.{Lane, open_heads, next_head}
use Rattle.vub_run.specs.Turns.{element_of, len_of, sight_of, next_counter_in}
use Rattle.vub_steps.specs.declared.steps.Plan.{Plan}
use Rattle.vub_steps.specs.declared.steps.Plan.TheVariants as plans
use Rattle.vub_steps.specs.Steps.{publish_steps}
use Rattle.vub_steps.proofs.StepLemmas.{length_publish}
use Rattle.vub_infl_split.specs.declared.region.SplitRegion.{SplitRegion}
use Rattle.vub_facts.specs.Facts.{Side, heads_in, Lies, Elsewhere, Words, words_at, head_next, InBatch, BatchFacts, Facts, IsDue, sight, words_after, heads_after, side_after, after_row, ElementsFit}
use Rattle.vub_facts.proofs.Places.{start_long}
use Rattle.vub_facts.proofs.FactWords.{facts_off, facts_beside, row_words}
use Rattle.vub_facts.proofs.FactSteps.{SeesSame, facts_left, fetch_begins, publication_begins, step_keeps}
use Rattle.vub_facts.proofs.HeadLemmas.{number_of, among_map, few_below}
use Rattle.vub_run_laws.proofs.RunNumbers.{missing-among, among-missing}
use Rattle.vub_run_laws.proofs.RunGood.{IsSize, Known, IsOut, PhaseIs, StartIs, BetweenTurns, LeavesQueue, stored_at}
use Rattle.vub_run_laws.proofs.RingGood.{the_ring, the_region, side_of, WordsAt, Ringed, Driven, QueueFacts}
use Rattle.vub_run_laws.proofs.RunHolds.{Holds}
use Rattle.vub_run_laws.proofs.RunFrames.{open_out, waiting_out}
use Rattle.vub_run_laws.proofs.RingPositions.{at_heads, ahead_there, head_there}
use Rattle.vub_run_laws.proofs.RingFrames.{OffRings, ringed_elsewhere}
use Rattle.vub_run_laws.proofs.RingEntries.{ringed_entries, driven_same}
use Rattle.vub_run_laws.proofs.RunOffers.{same_head, same_asked}
use Rattle.vub_steps.specs.Readiness.{last_counter}

-- where rings and region of the layout lie: in two spaces
pub lies_ring : (q n : ℕ) → IsSize n → Lies (the_ring q n) (the_region q n)
lies_ring q n size = record {
  size = record { some = size.some; few = omega (arith, size.small); laps = size.laps };
  same_size = refl;
  fits = record { some = size.some; apart = inr (inr (omega (arith, size.small))) };
  off_avail = inl (λ e. omega (arith, e));
  off_used = inl (λ e. omega (arith, e));
}

-- what is under way between two turns
pub phase_at : (q : ℕ) (h : Header1) (s : Scene) (l : Lane) → Holds q h s l → PhaseIs h.size l.bell l.plan l.batch l.phase
phase_at q h s l x = go l.phase x.worked.between x.queue.words x.queue.start
  where
    long : length (map (element_of h q s) l.batch) ≡ length l.batch
    long = length-map l.batch (element_of h q s)

    none : (ks : List ℕ) → map (element_of h q s) ks ≡ [] → ks ≡ []
    none [] e = refl
    none (k ∷ ks) e = absurd (cc)

    go : (p : Phase) → BetweenTurns p → WordsAt q h s l.bell l.plan l.counter l.batch p → StartIs (started s.past q) h.size l.bell l.plan p → PhaseIs h.size l.bell l.plan l.batch p
    go phases.Rest between f start = none l.batch f.batch
    go (phases.Publish done) between f start = (omega (arith, f.batch.0.some, long), subst (λ (m : ℕ). done < length (publish_steps m l.bell)) long f.batch.0.left)
    go (phases.Start done) between f start = (none l.batch f.batch, start.left)
    go (phases.Fetch done) between f start = (none l.batch f.batch.none, between)

-- a batch has no more requests than the queue has places
pub batch_small : (q : ℕ) (h : Header1) (s : Scene) (l : Lane) → Holds q h s l → length l.batch ≤ h.size
batch_small q h s l x = go l.phase x.queue.words
  where
    long : length (map (element_of h q s) l.batch) ≡ length l.batch
    long = length-map l.batch (element_of h q s)

    none : map (element_of h q s) l.batch ≡ [] → length l.batch ≤ h.size
    none e = omega (arith, long, ap (λ (xs : List (ℕ × ℕ)). length xs) e)

    go : (p : Phase) → WordsAt q h s l.bell l.plan l.counter l.batch p → length l.batch ≤ h.size
    go phases.Rest f = none f.batch
    go (phases.Start done) f = none f.batch
    go (phases.Fetch done) f = none f.batch.none
    go (phases.Publish done) f = omega (arith, f.batch.0.few, long)

-- ---- another history

facts_are : (n base : ℕ) (hs hs' : List ℕ) (x x' : Side) (w : Words) → hs ≡ hs' → x ≡ x' → Facts n hs base x w → Facts n hs' base x' w
facts_are n base hs hs' x x' w e g f = subst (λ (y : Side). Facts n hs' base y w) g (subst (λ (ks : List ℕ). Facts n ks base x w) e f)

pub map_alike : {A : Type 0} (f g : ℕ → A) (xs : List ℕ) → ((k : ℕ) → is_among xs k ≡ true → f k ≡ g k) → map f xs ≡ map g xs
map_alike f g [] same = refl
map_alike f g (x ∷ xs) same =
    let rest : map f xs ≡ map g xs = map_alike f g xs (λ k held. same k (grind (arith, nat_tests))) in
    let here : f x ≡ g x = same x (grind (arith, nat_tests)) in
    cc

side_are : (b b' bell : Bool) (p : Phase) (plan : Plan) (counter : ℕ) (xs xs' : List (ℕ × ℕ)) → b ≡ b' → xs ≡ xs' → ◌≡◌ {A = Side} (record { started = b; bell = bell; phase = p; plan = plan; counter = counter; batch = xs }) (record { started = b'; bell = bell; phase = p; plan = plan; counter = counter; batch = xs' })
side_are b b' bell p plan counter xs xs' e f = cc

-- an entry that accepts and shows nothing, and starts nothing
pub words_same : (q : ℕ) (h : Header1) (s : Scene) (past' : List Entry) (bell : Bool) (plan : Plan) (counter : ℕ) (batch : List ℕ) (phase : Phase) → started past' q ≡ started s.past q → accepted past' q ≡ accepted s.past q → published past' q ≡ published s.past q
    → ((k : ℕ) → asked past' q k ≡ asked s.past q k) → WordsAt q h s bell plan counter batch phase → WordsAt q h (record s { past = past' }) bell plan counter batch phase
words_same q h s past' bell plan counter batch phase runs accepts shows asks f =
    let heads : List ℕ = s.heads q in
    let same : open_heads q s.past heads ≡ open_heads q past' heads =
    ap (λ (ps : List ℕ). map (slice_index heads) (missing_below ps (accepted s.past q))) (sym shows) ∙ ap (λ (n : ℕ). map (slice_index heads) (missing_below (published past' q) n)) (sym accepts) in
    let elements : map (element_of h q s) batch ≡ map (element_of h q (record s { past = past' })) batch =
    map_alike (element_of h q s) (element_of h q (record s { past = past' })) batch (λ k held. ap (λ (o : Option Asked). (slice_index heads k, len_of h o)) (sym (asks k))) in
    facts_are h.size h.base (open_heads q s.past heads) (open_heads q past' heads) (side_of q h s bell plan counter batch phase) (side_of q h (record s { past = past' }) bell plan counter batch phase) (words_at (the_ring q h.size) (the_region q h.size) s.memory) same
    (side_are (started s.past q) (started past' q) bell phase plan counter (map (element_of h q s) batch) (map (element_of h q (record s { past = past' })) batch) (sym runs) elements) f

-- the facts of the words, where the requests of the queue were offered under these heads
abbrev pub OfferedWords : ℕ → Header1 → Scene → Asked → Bytes → Bool → Plan → ℕ → List ℕ → Phase → List ℕ → Type 0
OfferedWords q h s r m bell plan counter batch phase hs =
    Facts h.size (open_heads q (entries.Offer q r ∷ s.past) hs) h.base (record { started = started s.past q; bell = bell; phase = phase; plan = plan; counter = counter; batch = map (λ k. (slice_index hs k, len_of h (asked (entries.Offer q r ∷ s.past) q k))) batch }) (words_at (the_ring q h.size) (the_region q h.size) m)

-- an offer: what was accepted before keeps its head and its request
pub words_offer : (q : ℕ) (h : Header1) (s : Scene) (r : Asked) (x : ℕ) (m : Bytes) (bell : Bool) (plan : Plan) (counter : ℕ) (batch : List ℕ) (phase : Phase) → Known q h.size h.capacity s.past (s.heads q) → ((k : ℕ) → is_among batch k ≡ true → k < accepted s.past q)
    → WordsAt q h (record s { memory = m }) bell plan counter batch phase
    → OfferedWords q h s r m bell plan counter batch phase (s.heads q ++ x ∷ [])
words_offer q h s r x m bell plan counter batch phase known low f =
    let heads : List ℕ = s.heads q in
    let heads' : List ℕ = heads ++ x ∷ [] in
    let past' : List Entry = entries.Offer q r ∷ s.past in
    let head_is : (k : ℕ) → k < accepted s.past q → slice_index heads k ≡ slice_index heads' k = λ k l. sym (same_head heads x k (omega (arith, l, known.offered))) in
    let asks_is : (k : ℕ) → k < accepted s.past q → asked s.past q k ≡ asked past' q k = λ k l. sym (same_asked q s.past r k (omega (arith, l, known.offers_are, known.offered))) in
    let same : open_heads q s.past heads ≡ open_heads q past' heads' =
    map_alike (slice_index heads) (slice_index heads') (open_numbers s.past q) (λ k held. head_is k (missing-among (published s.past q) (accepted s.past q) k held).0) in
    let element' : ℕ → ℕ × ℕ = λ k. (slice_index heads' k, len_of h (asked past' q k)) in
    let elements : map (element_of h q s) batch ≡ map element' batch =
    map_alike (element_of h q s) element' batch (λ k held.
    ap (λ (d : ℕ). (d, len_of h (asked s.past q k))) (head_is k (low k held)) ∙ ap (λ (o : Option Asked). (slice_index heads' k, len_of h o)) (asks_is k (low k held))) in
    facts_are h.size h.base (open_heads q s.past heads) (open_heads q past' heads') _ _ (words_at (the_ring q h.size) (the_region q h.size) m) same
    (side_are (started s.past q) (started s.past q) bell phase plan counter (map (element_of h q s) batch) (map element' batch) refl elements) f

-- an entry that offers, shows and collects nothing, with what it leaves of the words
pub facts_entry : (q : ℕ) (h : Header1) (s : Scene) (past' : List Entry) (v : Driver) (bell : Bool) (plan : Plan) (counter : ℕ) (batch : List ℕ) (phase : Phase) → LeavesQueue q s.past past' → collected past' q ≡ collected s.past q → WordsAt q h (record s { past = past' }) bell plan counter batch phase
    → StartIs (started past' q) h.size bell plan phase → QueueFacts q h s v bell plan counter batch phase → QueueFacts q h (record s { past = past' }) v bell plan counter batch phase
facts_entry q h s past' v bell plan counter batch phase leaves same words start x = record {
  ringed = ringed_entries q h.size h.base s.past past' (s.heads q) s.memory leaves x.ringed;
  driven = driven_same q h.size h.capacity h.base s.past past' (s.heads q) v (λ j o. record {
    below = o.below;
    kept = ap (λ (ks : List ℕ). is_among (take (collected s.past q) ks) j) (sym leaves.shows) ∙ ap (λ (many : ℕ). is_among (take many (published past' q)) j) (sym same) ∙ o.kept;
  }) x.driven;
  words = words;
  start = start;
}

-- a bell changes nothing of the words, and a start has no fewer steps left with one
pub words_attached : (q : ℕ) (h : Header1) (s : Scene) (bell : Bool) (plan : Plan) (counter : ℕ) (batch : List ℕ) (phase : Phase) → WordsAt q h s bell plan counter batch phase → WordsAt q h s true plan counter batch phase
words_attached q h s true plan counter batch phase f = f
words_attached q h s false plan counter batch phase f = record { used_fits = f.used_fits; not_started = f.not_started; in_life = f.in_life; batch = go phase f.batch }
  where
    words : Words
    words = words_at (the_ring q h.size) (the_region q h.size) s.memory

    heads : List ℕ
    heads = open_heads q s.past (s.heads q)

    elements : List (ℕ × ℕ)
    elements = map (element_of h q s) batch

    go : (p : Phase) → BatchFacts h.size heads (side_of q h s false plan counter batch p) words p → BatchFacts h.size heads (side_of q h s true plan counter batch p) words p
    go phases.Rest b = b
    go (phases.Start done) b = b
    go (phases.Fetch done) b = b
    go (phases.Publish done) b = (
      record {
        some = b.0.some;
        few = b.0.few;
        distinct = b.0.distinct;
        below = b.0.below;
        left = omega (arith, b.0.left, length_publish (length elements) true, length_publish (length elements) false);
        opens = b.0.opens;
      },
      b.1,
    )

pub start_attached : (runs : Bool) (n : ℕ) (bell : Bool) (plan : Plan) (phase : Phase) → StartIs runs n bell plan phase → StartIs runs n true plan phase
start_attached runs n true plan phase x = x
start_attached runs n false plan phases.Rest x = x
start_attached runs n false plan (phases.Start done) x = record {
  stopped = x.stopped;
  left = omega (arith, x.left, start_long n plan true, start_long n plan false);
  few = x.few;
}
start_attached runs n false plan (phases.Fetch done) x = x
start_attached runs n false plan (phases.Publish done) x = x

-- ---- at rest

-- a queue that isn't started, whatever was under way
pub words_rests : (q : ℕ) (h : Header1) (s : Scene) (bell bell' : Bool) (plan plan' : Plan) (counter counter' : ℕ) (batch : List ℕ) (phase : Phase) → started s.past q ≡ false → WordsAt q h s bell plan counter batch phase → WordsAt q h s bell' plan' counter' [] phases.Rest
words_rests q h s bell bell' plan plan' counter counter' batch phase stopped f = record {
  used_fits = f.used_fits;
  not_started = λ off. facts_left h.size (open_heads q s.past (s.heads q)) h.base (side_of q h s bell plan counter batch phase) (words_at (the_ring q h.size) (the_region q h.size) s.memory) f;
  in_life = λ on. absurd (let fails : true ≡ false = sym on ∙ stopped in cc);
  batch = refl;
}

-- ---- a life ends

-- whatever was under way, the next one finds what this one left
pub facts_killed : (q : ℕ) (h : Header1) (s : Scene) (v : Driver) (bell : Bool) (plan : Plan) (counter : ℕ) (batch : List ℕ) (phase : Phase) → QueueFacts q h s v bell plan counter batch phase → QueueFacts q h (record s { past = entries.Kill ∷ s.past }) v false plans.New 0 [] phases.Rest
facts_killed q h s v bell plan counter batch phase x = record {
  ringed = ringed_entries q h.size h.base s.past (entries.Kill ∷ s.past) (s.heads q) s.memory (record { accepts = omega arith; shows = refl; collects = omega arith; asks = λ j. refl }) x.ringed;
  driven = driven_same q h.size h.capacity h.base s.past (entries.Kill ∷ s.past) (s.heads q) v (λ j o. record { below = o.below; kept = o.kept }) x.driven;
  words = record {
    used_fits = x.words.used_fits;
    not_started = λ off. facts_left h.size (open_heads q s.past (s.heads q)) h.base (side_of q h s bell plan counter batch phase) (words_at (the_ring q h.size) (the_region q h.size) s.memory) x.words;
    in_life = λ on. absurd (let fails : false ≡ true = on in cc);
    batch = refl;
  };
  start = tt;
}

-- ---- a fetch begins

-- the head that waits at the avail position is a free one
pub words_fetch : (q : ℕ) (h : Header1) (s : Scene) (v : Driver) (bell : Bool) (plan : Plan) (counter : ℕ) → IsSize h.size → started s.past q ≡ true → Known q h.size h.capacity s.past (s.heads q) → Ringed q h.size h.base s.past (s.heads q) s.memory
    → Driven q h.size h.capacity h.base s.past (s.heads q) v → accepted s.past q < length (s.heads q) → counter < last_counter → WordsAt q h s bell plan counter [] phases.Rest → WordsAt q h s bell plan counter [] (phases.Fetch 0)
words_fetch q h s v bell plan counter size run known r driven more low f =
    let a : ℕ = accepted s.past q in
    let heads : List ℕ = open_heads q s.past (s.heads q) in
    let words : Words = words_at (the_ring q h.size) (the_region q h.size) s.memory in
    let p : ℕ = used_idx (the_ring q h.size) s.memory + length heads in
    let at : p % 65536 ≡ (h.base + a) % 65536 = at_heads q h.size h.capacity h.base s.past (s.heads q) s.memory known r in
    let some : 0 < ahead (avail_idx (the_ring q h.size) s.memory) p = omega (arith, more, ahead_there q h.size h.capacity h.base s.past (s.heads q) s.memory p size known r at) in
    let head : head_next heads words ≡ slice_index (s.heads q) a = head_there q h.size h.base s.past (s.heads q) s.memory p r more at in
    let out : IsOut q s.past (s.heads q) a = waiting_out q h.size h.capacity s.past (s.heads q) known more in
    let free : is_among heads (slice_index (s.heads q) a) ≡ false = elim (cases_Bool (is_among heads (slice_index (s.heads q) a))) [
      | inl held ↦
          let there = number_of (slice_index (s.heads q)) (open_numbers s.past q) (slice_index (s.heads q) a) held in
          let opened = missing-among (published s.past q) a there.0 there.1 in
          let same : there.0 ≡ a = driven.apart there.0 a (open_out q h.size h.capacity s.past (s.heads q) there.0 known (record { taken = opened.0; unpublished = opened.1 })) out there.2 in
          absurd (omega (arith, same, opened.0))
      | inr none ↦ none
    ] in
    fetch_begins h.size heads h.base (side_of q h s bell plan counter [] phases.Rest) words run refl refl some (omega (arith, head, driven.below a out)) (ap (is_among heads) head ∙ free) low f

-- ---- a batch begins

pub heads_of_elements : (q : ℕ) (h : Header1) (s : Scene) (ks : List ℕ) → heads_in (map (element_of h q s) ks) ≡ map (slice_index (s.heads q)) ks
heads_of_elements q h s ks = map-map (λ (x : ℕ × ℕ). x.0) (element_of h q s) ks

pub distinct_map : (f : ℕ → ℕ) (ks : List ℕ) → are_distinct ks ≡ true → ((j k : ℕ) → is_among ks j ≡ true → is_among ks k ≡ true → f j ≡ f k → j ≡ k) → are_distinct (map f ks) ≡ true
distinct_map f [] d apart = refl
distinct_map f (x ∷ ks) d apart =
    let tail : are_distinct ks ≡ true = grind (arith, nat_tests) in
    let out : is_among ks x ≡ false = grind (arith, nat_tests) in
    let rest : are_distinct (map f ks) ≡ true = distinct_map f ks tail (λ j k held_j held_k same. apart j k (grind (arith, nat_tests)) (grind (arith, nat_tests)) same) in
    let new : is_among (map f ks) (f x) ≡ false = elim (cases_Bool (is_among (map f ks) (f x))) [
      | inl held ↦
          let there = number_of f ks (f x) held in
          let among : is_among ks there.0 ≡ true = there.1 in
          let same : there.0 ≡ x = apart there.0 x (grind (arith, nat_tests)) (grind (arith, nat_tests)) there.2 in
          let fails : is_among ks x ≡ true = ap (is_among ks) (sym same) ∙ among in
          absurd (cc)
      | inr none ↦ none
    ] in
    grind (arith, nat_tests)

-- open numbers have heads of their own, and these are open
pub batch_begins_at : (q : ℕ) (h : Header1) (s : Scene) (v : _) (bell : Bool) (batch : List ℕ) → Known q h.size h.capacity s.past (s.heads q) → Driven q h.size h.capacity h.base s.past (s.heads q) v → 0 < length batch → are_distinct batch ≡ true
    → ((k : ℕ) → is_among batch k ≡ true → IsOpen s.past q k) → InBatch h.size (open_heads q s.past (s.heads q)) bell (map (element_of h q s) batch) 0
batch_begins_at q h s v bell batch known driven some distinct opens =
    let f : ℕ → ℕ = slice_index (s.heads q) in
    let out : (k : ℕ) → is_among batch k ≡ true → IsOut q s.past (s.heads q) k = λ k held. open_out q h.size h.capacity s.past (s.heads q) k known (opens k held) in
    let same : heads_in (map (element_of h q s) batch) ≡ map f batch = heads_of_elements q h s batch in
    let apart : are_distinct (map f batch) ≡ true = distinct_map f batch distinct (λ j k held_j held_k e. driven.apart j k (out j held_j) (out k held_k) e) in
    let below : (d : ℕ) → is_among (map f batch) d ≡ true → d < h.size = λ d held.
    let there = number_of f batch d held in omega (arith, driven.below there.0 (out there.0 there.1), there.2) in
    let open_too : (d : ℕ) → is_among (map f batch) d ≡ true → is_among (open_heads q s.past (s.heads q)) d ≡ true = λ d held.
    let there = number_of f batch d held in
    let o : IsOpen s.past q there.0 = opens there.0 there.1 in
    subst (λ (y : ℕ). is_among (open_heads q s.past (s.heads q)) y ≡ true) there.2 (among_map f (open_numbers s.past q) there.0 (among-missing (published s.past q) (accepted s.past q) there.0 o.taken o.unpublished)) in
    let long : length (map (element_of h q s) batch) ≡ length batch = length-map batch (element_of h q s) in
    record {
      some = omega (arith, some, long);
      few = omega (arith, long, length-map batch f, few_below (map f batch) h.size apart below);
      distinct = ap are_distinct same ∙ apart;
      below = λ d held. below d (ap (λ (hs : List ℕ). is_among hs d) (sym same) ∙ held);
      left = omega (arith, length_publish (length (map (element_of h q s) batch)) bell);
      opens = λ le d held. open_too d (ap (λ (hs : List ℕ). is_among hs d) (sym same) ∙ held);
    }

pub words_begin : (q : ℕ) (h : Header1) (s : Scene) (bell : Bool) (plan : Plan) (counter : ℕ) (batch : List ℕ) → started s.past q ≡ true → InBatch h.size (open_heads q s.past (s.heads q)) bell (map (element_of h q s) batch) 0 → WordsAt q h s bell plan counter [] phases.Rest
    → WordsAt q h s bell plan counter batch (phases.Publish 0)
words_begin q h s bell plan counter batch run b f = publication_begins h.size (open_heads q s.past (s.heads q)) h.base (side_of q h s bell plan counter [] phases.Rest) (map (element_of h q s) batch) (words_at (the_ring q h.size) (the_region q h.size) s.memory) run refl b f

-- ---- a store

-- off the rings
pub words_elsewhere_at : (q : ℕ) (h : Header1) (s : Scene) (p : ℕ) (bs : List ℕ) (bell : Bool) (plan : Plan) (counter : ℕ) (batch : List ℕ) (phase : Phase) → IsSize h.size → OffRings q p bs → WordsAt q h s bell plan counter batch phase → WordsAt q h (record s { memory = put s.memory 0 p bs }) bell plan counter batch phase
words_elsewhere_at q h s p bs bell plan counter batch phase size off f =
    facts_off (the_ring q h.size) (the_region q h.size) (open_heads q s.past (s.heads q)) h.base (side_of q h s bell plan counter batch phase) s.memory (one_store 0 p bs) (lies_ring q h.size size) (go off) f
  where
    go : OffRings q p bs → Elsewhere (the_ring q h.size) (the_region q h.size) (one_store 0 p bs)
    go (inl below) = record { avail = inr (inr (omega (arith, below))); used = inr (inr (omega (arith, below))); region = inl (λ e. omega (arith, e)) }
    go (inr above) = record { avail = inr (inl (omega (arith, above, size.small))); used = inr (inl (omega (arith, above, size.small))); region = inl (λ e. omega (arith, e)) }

pub facts_elsewhere : (q : ℕ) (h : Header1) (s : Scene) (p : ℕ) (bs : List ℕ) (v : Driver) (bell : Bool) (plan : Plan) (counter : ℕ) (batch : List ℕ) (phase : Phase) → IsSize h.size → OffRings q p bs → QueueFacts q h s v bell plan counter batch phase → QueueFacts q h (stored_at p bs s) v bell plan counter batch phase
facts_elsewhere q h s p bs v bell plan counter batch phase size off x = record {
  ringed = ringed_elsewhere q h.size h.base s.past (s.heads q) s.memory p bs size off x.ringed;
  driven = x.driven;
  words = words_elsewhere_at q h s p bs bell plan counter batch phase size off x.words;
  start = x.start;
}

-- below the used ring: a fetch that is under way sees the same
pub words_below : (q : ℕ) (h : Header1) (s : Scene) (p : ℕ) (bs : List ℕ) (bell : Bool) (plan : Plan) (counter : ℕ) (batch : List ℕ) (phase : Phase) → IsSize h.size → p + length bs ≤ area_place q + 8192
    → SeesSame (open_heads q s.past (s.heads q)) (avail_idx (the_ring q h.size) (put s.memory 0 p bs)) (head_at (the_ring q h.size) (put s.memory 0 p bs)) (words_at (the_ring q h.size) (the_region q h.size) s.memory) phase
    → WordsAt q h s bell plan counter batch phase → WordsAt q h (record s { memory = put s.memory 0 p bs }) bell plan counter batch phase
words_below q h s p bs bell plan counter batch phase size low sees f =
    facts_beside (the_ring q h.size) (the_region q h.size) (open_heads q s.past (s.heads q)) h.base (side_of q h s bell plan counter batch phase) s.memory (one_store 0 p bs) (lies_ring q h.size size) (inr (inr (omega (arith, low)))) (inl (λ e. omega (arith, e)))
    sees f

-- ---- a step

-- what is under way, and the words
abbrev pub words_in : ℕ → Header1 → Scene → Words
words_in q h s = words_at (the_ring q h.size) (the_region q h.size) s.memory

-- the head that is fetched next
pub head_is : (q : ℕ) (h : Header1) (s : Scene) → next_head h q s ≡ head_next (open_heads q s.past (s.heads q)) (words_in q h s)
head_is q h s = ap (λ (k : ℕ). head_at (the_ring q h.size) s.memory (used_idx (the_ring q h.size) s.memory + k)) (sym (length-map (open_numbers s.past q) (slice_index (s.heads q))))

-- what a step sees
pub sight_is : (q : ℕ) (h : Header1) (s : Scene) (l : Lane) → sight_of h q s l ≡ sight (open_heads q s.past (s.heads q)) (side_of q h s l.bell l.plan l.counter l.batch l.phase) (words_in q h s)
sight_is q h s l = ap (λ (d : ℕ). record (sight_of h q s l) { head = d }) (head_is q h s)

-- no elements fit
pub none_fit : ElementsFit []
none_fit = record { ids = λ e low. absurd (omega (arith, low)); lens = λ e low. absurd (omega (arith, low)) }

-- the words after a step that comes next
abbrev pub StepWords : ℕ → Header1 → Scene → Lane → Step → Type 0
StepWords q h s l step = Facts h.size (heads_after step (next_head h q s) (map (element_of h q s) l.batch) (open_heads q s.past (s.heads q))) h.base (side_after h.size (next_counter_in h q s) step (side_of q h s l.bell l.plan l.counter l.batch l.phase))
    (words_at (the_ring q h.size) (the_region q h.size) (after_row (row_of (the_ring q h.size) (the_region q h.size) (sight_of h q s l) step) s.memory))

pub step_words : (q : ℕ) (h : Header1) (s : Scene) (l : Lane) (step : Step) → IsSize h.size → ElementsFit (map (element_of h q s) l.batch) → IsDue h.size step (side_of q h s l.bell l.plan l.counter l.batch l.phase) → WordsAt q h s l.bell l.plan l.counter l.batch l.phase → StepWords q h s l step
step_words q h s l step size fit due f =
    let r : Ring = the_ring q h.size in
    let g : SplitRegion = the_region q h.size in
    let heads : List ℕ = open_heads q s.past (s.heads q) in
    let elements : List (ℕ × ℕ) = map (element_of h q s) l.batch in
    let side : Side = side_of q h s l.bell l.plan l.counter l.batch l.phase in
    let next : ℕ = next_counter_in h q s in
    let words : Words = words_in q h s in
    let kept : Facts h.size (heads_after step (head_next heads words) elements heads) h.base (side_after h.size next step side) (words_after r (sight heads side words) step words) = step_keeps r g heads h.base step side words (lies_ring q h.size size) due f in
    let now : Facts h.size (heads_after step (head_next heads words) elements heads) h.base (side_after h.size next step side) (words_at r g (after_row (row_of r g (sight heads side words) step) s.memory)) =
    subst (λ (w : Words). Facts h.size (heads_after step (head_next heads words) elements heads) h.base (side_after h.size next step side) w) (sym (row_words r g heads h.base side step s.memory (lies_ring q h.size size) fit due f)) kept in
    let seen : Facts h.size (heads_after step (head_next heads words) elements heads) h.base (side_after h.size next step side) (words_at r g (after_row (row_of r g (sight_of h q s l) step) s.memory)) =
    subst (λ (z : Sight). Facts h.size (heads_after step (head_next heads words) elements heads) h.base (side_after h.size next step side) (words_at r g (after_row (row_of r g z step) s.memory))) (sym (sight_is q h s l)) now in
    subst (λ (d : ℕ). Facts h.size (heads_after step d elements heads) h.base (side_after h.size next step side) (words_at r g (after_row (row_of r g (sight_of h q s l) step) s.memory))) (sym (head_is q h s)) seen

-- the counters that it leaves in the region
pub step_counters : (q : ℕ) (h : Header1) (s : Scene) (l : Lane) (step : Step) (d : ℕ) → IsSize h.size → ElementsFit (map (element_of h q s) l.batch) → IsDue h.size step (side_of q h s l.bell l.plan l.counter l.batch l.phase) → WordsAt q h s l.bell l.plan l.counter l.batch l.phase
    → (words_at (the_ring q h.size) (the_region q h.size) (after_row (row_of (the_ring q h.size) (the_region q h.size) (sight_of h q s l) step) s.memory)).region.counter d ≡ (words_after (the_ring q h.size) (sight_of h q s l) step (words_in q h s)).region.counter d
step_counters q h s l step d size fit due f =
    let r : Ring = the_ring q h.size in
    let g : SplitRegion = the_region q h.size in
    let heads : List ℕ = open_heads q s.past (s.heads q) in
    let side : Side = side_of q h s l.bell l.plan l.counter l.batch l.phase in
    subst (λ (z : Sight). (words_at r g (after_row (row_of r g z step) s.memory)).region.counter d ≡ (words_after r z step (words_in q h s)).region.counter d) (sym (sight_is q h s l))
    (ap (λ (w : Words). w.region.counter d) (row_words r g heads h.base side step s.memory (lies_ring q h.size size) fit due f))

-- ---- the elements of a batch

pub element_map : (f : ℕ → ℕ × ℕ) (xs : List ℕ) (e : ℕ) → e < length xs → get_or (map f xs) e (0, 0) ≡ f (slice_index xs e)
element_map f [] e l = absurd (omega arith)
element_map f (x ∷ xs) zero l = refl
element_map f (x ∷ xs) (suc e) l = element_map f xs e (omega arith)

-- where all steps but that of used.idx were made each element of the batch stands
pub words_element : (q : ℕ) (h : Header1) (s : Scene) (bell : Bool) (plan : Plan) (counter : ℕ) (batch : List ℕ) (done e i : ℕ) → done ≡ 4 * length batch → e < length batch → entry_of (the_ring q h.size) (used_idx (the_ring q h.size) s.memory + e) ≡ entry_of (the_ring q h.size) i
    → WordsAt q h s bell plan counter batch (phases.Publish done) → element_at (the_ring q h.size) s.memory i ≡ element_of h q s (slice_index batch e)
words_element q h s bell plan counter batch done e i whole inside place f =
    let r : Ring = the_ring q h.size in
    let long : length (map (element_of h q s) batch) ≡ length batch = length-map batch (element_of h q s) in
    let low : e < length (map (element_of h q s) batch) = omega (arith, inside, long) in
    let there : element_at r s.memory (used_idx r s.memory + e) ≡ element_at r s.memory i =
    ap (λ (y : ℕ). (word 4 s.memory 0 (area_place q + 8192 + (4 + 8 * y)), word 4 s.memory 0 (area_place q + 8192 + (8 + 8 * y)))) place in
    let stands : element_at r s.memory (used_idx r s.memory + e) ≡ get_or (map (element_of h q s) batch) e (0, 0) =
    pairs (f.batch.1.ids e low (omega (arith, whole, inside)) (omega (arith, whole, long))) (f.batch.1.lens e low (omega (arith, whole, inside)) (omega (arith, whole, long))) in
    sym there ∙ stands ∙ element_map (element_of h q s) batch e inside
  where
    pairs : {a b c d : ℕ} → a ≡ b → c ≡ d → ◌≡◌ {A = ℕ × ℕ} (a, c) (b, d)
    pairs p p' = cc
