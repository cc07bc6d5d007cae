-- What a step of a fetch or a publication says, makes and leaves in a run.
use Rattle.std.proofs.Common.{◌≡◌, ◌≤◌, ◌<◌, ◌⊎◌, ℕ, ◌+◌, ◌*◌, Bool, true, false, List, [], ◌∷◌, ◌++◌, length, map, cond, refl, ap, sym, ◌∙◌, subst, inl, inr, arith, ◌%◌}
use Rattle.std.specs.Prelude.{Option, Some, None, slice_index, slice_get, get_or, option_map, nat_lt, not, if◌then◌else◌}
use Rattle.std.specs.Option.{option_or}
use Rattle.std.proofs.lemmas.Bool.Decides.{nat_tests}
use Rattle.std.proofs.lemmas.Bool.{cases_Bool}
use Rattle.std.proofs.lemmas.List.{length-map}
use Rattle.byteorder.specs.Endian.{little_bytes}
use Rattle.vub_base.specs.declared.header.Header1.{Header1}
use Rattle.vub_base.specs.declared.store.Tag.TheVariants.{SP1, SP2, SP5}
use Rattle.vub_shared.specs.Bytes.{word}
use Rattle.vub_steps.specs.declared.steps.Phase.{Phase}
use Rattle.vub_steps.specs.declared.steps.Phase.TheVariants as phases
use Rattle.vub_steps.specs.declared.steps.Step.{Step}
use Rattle.vub_steps.specs.declared.steps.Step.TheVariants as steps
use Rattle.vub_steps.specs.declared.readiness.Turn.{Turn}
use Rattle.vub_steps.specs.Readiness.{is_fetch}
use Rattle.vub_steps.specs.Rows.{Row, Sight, row, row_of, region_row, region_store}
use Rattle.vub_steps.specs.Steps.{Course, running_steps, steps_of, done_of, at_step, next_of, after_of, next_step, after_step}
use Rattle.vub_ring.specs.Ring.{Ring, used_idx_place, used_id_place, used_len_place}
use Rattle.vub_infl_split.specs.declared.region.SplitRegion.{SplitRegion}
use Rattle.vub_infl_split.specs.declared.region.SplitStore.{SplitStore}
use Rattle.vub_infl_split.specs.declared.region.SplitStore.TheVariants as stores
use Rattle.vub_infl_split.specs.Region.{words_of}
use Rattle.vub_split.specs.Split.{ring_of_split, used_idx_word, head_word}
use Rattle.vub_split.specs.declared.split.SplitRing.{SplitRing}
use Rattle.vub_device.specs.declared.entry.Answered.{Answered}
use Rattle.vub_device.specs.declared.entry.Entry.{Entry}
use Rattle.vub_device.specs.declared.entry.Entry.TheVariants as entries
use Rattle.vub_device.specs.Past.{accepted, is_among, IsOpen, started}
use Rattle.vub_report.specs.declared.items.Item.{Item}
use Rattle.vub_report.specs.declared.items.Item.TheVariants as items
use Rattle.vub_facts.specs.Facts.{Side, course_in, IsInPhase, IsDue}
use Rattle.vub_facts.proofs.Places.{Place, place_of, after_place, is_last}
use Rattle.vub_facts.proofs.FactSteps.{link_store, head_store, clear_store}
use Rattle.vub_queue.specs.declared.queue.Stepped.{Stepped}
use Rattle.vub_queue.specs.declared.queue.Stepped.TheVariants as says
use Rattle.vub_setup.specs.Setups.{SplitSetup}
use Rattle.vub_queue.specs.QueueParts.{is_taken}
use Rattle.vub_queue.specs.QueueState as states
use Rattle.vub_queue.specs.QueueState.{QueueState, seen_by, row_at, row_said, step_said, steps_in, step_in, kept_or, changed, moved, MovesBy}
use Rattle.vub_run.specs.Memory.{Scene, after_items}
use Rattle.vub_run.specs.Moments.{Lane, Moment, region_of, used_in, region_in, next_head}
use Rattle.vub_run.specs.Run.{one_turn}
use Rattle.vub_run.specs.Turns.{Turned, course_of, sight_of, turned, row_items, bell_items, entry_items, step_items, with_phase, counted, next_counter_in, phase_turn, element_of, answer_at}
use Rattle.vub_run_laws.proofs.RunFrames.{length_little}
use Rattle.vub_run_laws.proofs.RunElements.{get_map}
use Rattle.vub_run_laws.proofs.RunGood.{Known, Worked}
use Rattle.vub_run_laws.proofs.RingGood.{the_ring, side_of}
use Rattle.vub_run_laws.proofs.RunTracks.{numbers_answers}
use Rattle.vub_queue.specs.QueueFacts.{hidden_part, hidden_in, kept_phase, kept_head}
use Rattle.vub_queue_in_run.specs.QueueAt.{spot_of, QueueAt, PhaseAt, LiesAs, QueueStands}
use Rattle.vub_queue_in_run.proofs.TurnSays.{RowFits, ring_fits, region_fits, row_item, after_stored, TurnSays, Notes, Accepts, Publishes, Rings}
use Rattle.vub_queue.proofs.QueueHeld.{fetched, shown}
use Rattle.vub_queue_in_run.proofs.QueueAtMoves.{at_goes, at_fetch, at_show}
use Rattle.vub_queue_in_run.proofs.QueueAtTurns.{stands_next}

-- ---- a queue and its lane in a phase

-- the queue's phase is that of a lane which runs, and the step comes next
pub record IsUnderWay (q : ℕ) (h : Header1) (setup : SplitSetup) (s : Scene) (l : Lane) (step : Step) (u : QueueState) : Type 0 where
  pub main : LiesAs q setup h.size
  pub run : started s.past q ≡ true
  pub due : IsDue h.size step (side_of q h s l.bell l.plan l.counter l.batch l.phase)
  pub known : Known q h.size h.capacity s.past (s.heads q)
  pub worked : l.phase ≡ phases.Fetch 1 → Worked q s.past l.phase [] l.completed l.made
  pub opens : (k : ℕ) → is_among (hidden_part l.phase l.batch) k ≡ true → IsOpen s.past q k
  -- the head of a fetch
  pub head : is_fetch l.phase ≡ true → next_head h q s ≡ slice_index (s.heads q) (accepted s.past q)
  pub seen : is_fetch l.phase ≡ true → kept_or u.fetching (head_word u.ring s.memory u.next_avail) ≡ slice_index (s.heads q) (accepted s.past q)
  pub below : is_fetch l.phase ≡ true → slice_index (s.heads q) (accepted s.past q) < setup.ring.size
  pub free : is_fetch l.phase ≡ true → is_taken u.taken (slice_index (s.heads q) (accepted s.past q)) ≡ false
  pub at : QueueAt q h setup s.past (s.heads q) l.phase (hidden_part l.phase l.batch) l.completed l.made u
  pub phase : PhaseAt q h setup s.past (s.heads q) l.bell l.plan l.counter l.batch l.phase (region_in h q s) u

-- how many its batch has
batch_long : (q : ℕ) (h : Header1) (setup : SplitSetup) (s : Scene) (l : Lane) (step : Step) (u : QueueState) → IsUnderWay q h setup s l step u → length u.batch ≡ length l.batch
batch_long q h setup s l step u w = ap (λ (xs : List (ℕ × ℕ)). length xs) w.phase.batch ∙ length-map l.batch (spot_of q h s.past (s.heads q))

side_long : (q : ℕ) (h : Header1) (s : Scene) (l : Lane) → length (map (element_of h q s) l.batch) ≡ length l.batch
side_long q h s l = length-map l.batch (element_of h q s)

-- the course of the side is the lane's
course_is : (q : ℕ) (h : Header1) (s : Scene) (l : Lane) → course_in h.size (side_of q h s l.bell l.plan l.counter l.batch l.phase) ≡ course_of h l
course_is q h s l = ap (λ (n : ℕ). record { size = h.size; plan = l.plan; bell = l.bell; batch = n }) (side_long q h s l)

-- its next step, and the phase after it, in the lane
pub lane_next : (q : ℕ) (h : Header1) (setup : SplitSetup) (s : Scene) (l : Lane) (step : Step) (u : QueueState) → IsUnderWay q h setup s l step u → next_step (course_of h l) l.phase ≡ Some step
lane_next q h setup s l step u w = sym (ap (λ (c : Course). next_step c l.phase) (course_is q h s l)) ∙ w.due.next

place : (q : ℕ) (h : Header1) (setup : SplitSetup) (s : Scene) (l : Lane) (step : Step) (u : QueueState) → IsUnderWay q h setup s l step u → Place h.size step (side_of q h s l.bell l.plan l.counter l.batch l.phase)
place q h setup s l step u w = place_of h.size step (side_of q h s l.bell l.plan l.counter l.batch l.phase) w.due

abbrev phase_after : Step → Bool → Phase → Phase
phase_after step last p = if last then phases.Rest else at_step p (done_of p + 1)

lane_after : (q : ℕ) (h : Header1) (setup : SplitSetup) (s : Scene) (l : Lane) (step : Step) (u : QueueState) → IsUnderWay q h setup s l step u
    → after_step (course_of h l) l.phase ≡ phase_after step (is_last step (side_of q h s l.bell l.plan l.counter l.batch l.phase)) l.phase
lane_after q h setup s l step u w = sym (ap (λ (c : Course). after_step c l.phase) (course_is q h s l)) ∙ after_place h.size step (side_of q h s l.bell l.plan l.counter l.batch l.phase) (place q h setup s l step u w)

-- a phase after the start keeps its place in the queue too
runs_kept : (p : Phase) → ((done : ℕ) → p ≡ phases.Start done → ⊥) → kept_phase p ≡ p
runs_kept phases.Rest none = refl
runs_kept (phases.Start done) none = absurd (none done refl)
runs_kept (phases.Fetch done) none = refl
runs_kept (phases.Publish done) none = refl

-- the steps of a phase that isn't a start are those of a queue that runs
steps_run : (c : Course) (p : Phase) → ((done : ℕ) → p ≡ phases.Start done → ⊥) → steps_of c p ≡ running_steps c.batch c.bell p
steps_run c phases.Rest none = refl
steps_run c (phases.Start done) none = absurd (none done refl)
steps_run c (phases.Fetch done) none = refl
steps_run c (phases.Publish done) none = refl

no_start : (q : ℕ) (h : Header1) (setup : SplitSetup) (s : Scene) (l : Lane) (step : Step) (u : QueueState) → IsUnderWay q h setup s l step u → (done : ℕ) → l.phase ≡ phases.Start done → ⊥
no_start q h setup s l step u w done at =
    let stopped : started s.past q ≡ false = subst (λ (p : Phase). IsInPhase (started s.past q) p) at w.due.in_phase in
    let fails : true ≡ false = sym w.run ∙ stopped in
    cc

-- the queue's next step is the lane's
pub queue_next : (q : ℕ) (h : Header1) (setup : SplitSetup) (s : Scene) (l : Lane) (step : Step) (u : QueueState) → IsUnderWay q h setup s l step u → step_in u ≡ Some step
queue_next q h setup s l step u w =
    let none = no_start q h setup s l step u w in
    ap (λ (n : ℕ). next_of (running_steps n u.bell u.phase) u.phase) (batch_long q h setup s l step u w)
    ∙ ap (λ (b : Bool). next_of (running_steps (length l.batch) b u.phase) u.phase) w.phase.bell
    ∙ ap (λ (p : Phase). next_of (running_steps (length l.batch) l.bell p) p) (w.at.phase ∙ runs_kept l.phase none)
    ∙ sym (ap (λ (list : List Step). next_of list l.phase) (steps_run (course_of h l) l.phase none))
    ∙ lane_next q h setup s l step u w

-- and so is the phase after it
queue_after : (q : ℕ) (h : Header1) (setup : SplitSetup) (s : Scene) (l : Lane) (step : Step) (u : QueueState) → IsUnderWay q h setup s l step u → after_of (steps_in u) u.phase ≡ after_step (course_of h l) l.phase
queue_after q h setup s l step u w =
    let none = no_start q h setup s l step u w in
    ap (λ (n : ℕ). after_of (running_steps n u.bell u.phase) u.phase) (batch_long q h setup s l step u w)
    ∙ ap (λ (b : Bool). after_of (running_steps (length l.batch) b u.phase) u.phase) w.phase.bell
    ∙ ap (λ (p : Phase). after_of (running_steps (length l.batch) l.bell p) p) (w.at.phase ∙ runs_kept l.phase none)
    ∙ sym (ap (λ (list : List Step). after_of list l.phase) (steps_run (course_of h l) l.phase none))

-- ---- its row

ring_same : (s s' t t' v v' d d' a a' u u' n n' : ℕ) → s ≡ s' → d ≡ d' → t ≡ t' → a ≡ a' → v ≡ v' → u ≡ u' → n ≡ n'
    → ◌≡◌ {A = Ring} (record { desc_space = s; desc = d; avail_space = t; avail = a; used_space = v; used = u; size = n }) (record { desc_space = s'; desc = d'; avail_space = t'; avail = a'; used_space = v'; used = u'; size = n' })
ring_same s s' t t' v v' d d' a a' u u' n n' es ed et ea ev eu en = cc

ring_is : (q : ℕ) (setup : SplitSetup) (n : ℕ) → LiesAs q setup n → ring_of_split setup.ring ≡ the_ring q n
ring_is q setup n main = ring_same _ _ _ _ _ _ _ _ _ _ _ _ _ _ main.desc_space main.desc main.avail_space main.avail main.used_space main.used main.size

sight_same : (v v' last last' link head counter counter' : ℕ) (batch batch' : List (ℕ × ℕ)) → v ≡ v' → last ≡ last' → counter ≡ counter' → batch ≡ batch'
    → ◌≡◌ {A = Sight} (record { used = v; last_batch_head = last; link = link; head = head; counter = counter; batch = batch }) (record { used = v'; last_batch_head = last'; link = link; head = head; counter = counter'; batch = batch' })
sight_same v v' last last' link head counter counter' batch batch' ev el ec eb = cc

-- what the queue sees is what the lane sees, but for the link, and where no fetch is under way the head
seen_is : (q : ℕ) (h : Header1) (setup : SplitSetup) (s : Scene) (l : Lane) (step : Step) (u : QueueState) → IsUnderWay q h setup s l step u → seen_by u s.memory ≡ record (sight_of h q s l) { link = (seen_by u s.memory).link; head = (seen_by u s.memory).head }
seen_is q h setup s l step u w =
    let region : u.recovery.region ≡ region_of q h.size = w.phase.region ∙ w.main.region in
    let used : used_idx_word u.ring s.memory ≡ used_in h q s = ap (λ (r : SplitRing). used_idx_word r s.memory) w.at.ring ∙ ap (λ (n : ℕ). word 2 s.memory n (setup.ring.used.1 + 2)) w.main.used_space ∙ ap (λ (p : ℕ). word 2 s.memory 0 (p + 2)) w.main.used in
    let last : (words_of u.recovery.region s.memory).last_batch_head ≡ (region_in h q s).last_batch_head = ap (λ (g : SplitRegion). (words_of g s.memory).last_batch_head) region in
    sight_same (used_idx_word u.ring s.memory) (used_in h q s) (words_of u.recovery.region s.memory).last_batch_head (region_in h q s).last_batch_head (seen_by u s.memory).link (seen_by u s.memory).head u.counter l.counter u.batch (map (element_of h q s) l.batch) used last (w.phase.counter w.run) w.phase.batch

abbrev table_row : ℕ → Header1 → Scene → Lane → Step → Option Row
table_row q h s l step = row_of (the_ring q h.size) (region_of q h.size) (sight_of h q s l) step

row_there : (q : ℕ) (h : Header1) (setup : SplitSetup) (s : Scene) (l : Lane) (step : Step) (u : QueueState) → IsUnderWay q h setup s l step u
    → row_at u s.memory (Some step) ≡ row_of (the_ring q h.size) (region_of q h.size) (record (sight_of h q s l) { link = (seen_by u s.memory).link; head = (seen_by u s.memory).head }) step
row_there q h setup s l step u w =
    ap (λ (r : SplitRing). row_of (ring_of_split r) u.recovery.region (seen_by u s.memory) step) w.at.ring
    ∙ ap (λ (r : Ring). row_of r u.recovery.region (seen_by u s.memory) step) (ring_is q setup h.size w.main)
    ∙ ap (λ (g : SplitRegion). row_of (the_ring q h.size) g (seen_by u s.memory) step) (w.phase.region ∙ w.main.region)
    ∙ ap (λ (z : Sight). row_of (the_ring q h.size) (region_of q h.size) z step) (seen_is q h setup s l step u w)

-- the head that it sees in a fetch
pub seen_head : (q : ℕ) (h : Header1) (setup : SplitSetup) (s : Scene) (l : Lane) (step : Step) (u : QueueState) → IsUnderWay q h setup s l step u → is_fetch l.phase ≡ true → (seen_by u s.memory).head ≡ next_head h q s
seen_head q h setup s l step u w fetching = w.seen fetching ∙ sym (w.head fetching)

-- ---- what it makes

-- the row of a step that stores
record HasRow (q : ℕ) (h : Header1) (setup : SplitSetup) (s : Scene) (l : Lane) (step : Step) (u : QueueState) : Type 0 where
  pub y : Row
  pub queue : row_at u s.memory (Some step) ≡ Some y
  pub table : table_row q h s l step ≡ Some y
  pub fits : RowFits y

-- a step that stores this into the region, whichever the link
region_has : (q : ℕ) (h : Header1) (setup : SplitSetup) (s : Scene) (l : Lane) (step : Step) (u : QueueState) (x : SplitStore) → IsUnderWay q h setup s l step u
    → row_of (the_ring q h.size) (region_of q h.size) (record (sight_of h q s l) { link = (seen_by u s.memory).link; head = (seen_by u s.memory).head }) step ≡ Some (region_row (region_of q h.size) x)
    → table_row q h s l step ≡ Some (region_row (region_of q h.size) x) → HasRow q h setup s l step u
region_has q h setup s l step u x w there here = record { y = region_row (region_of q h.size) x; queue = row_there q h setup s l step u w ∙ there; table = here; fits = region_fits q h.size x }

-- an element of the batch
element_there : (q : ℕ) (h : Header1) (s : Scene) (l : Lane) (e : ℕ) → e < length (map (element_of h q s) l.batch) → slice_get (map (element_of h q s) l.batch) e ≡ Some (element_of h q s (slice_index l.batch e))
element_there q h s l e low = get_map (element_of h q s) l.batch e (omega (arith, low, side_long q h s l))

count_has : (q : ℕ) (h : Header1) (setup : SplitSetup) (s : Scene) (l : Lane) (u : QueueState) → IsUnderWay q h setup s l steps.Count u → is_fetch l.phase ≡ true → HasRow q h setup s l steps.Count u
count_has q h setup s l u w fetching =
    region_has q h setup s l steps.Count u (stores.SF1 (next_head h q s) l.counter) w (ap (λ (d : ℕ). Some (region_row (region_of q h.size) (stores.SF1 d l.counter))) (seen_head q h setup s l steps.Count u w fetching)) refl

-- the row that accepts a head
accept_row : (q : ℕ) (h : Header1) (setup : SplitSetup) (s : Scene) (l : Lane) (u : QueueState) → IsUnderWay q h setup s l steps.Accept u → is_fetch l.phase ≡ true → row_at u s.memory (Some steps.Accept) ≡ Some (region_row (region_of q h.size) (stores.SF2 (next_head h q s)))
accept_row q h setup s l u w fetching = row_there q h setup s l steps.Accept u w ∙ ap (λ (d : ℕ). Some (region_row (region_of q h.size) (stores.SF2 d))) (seen_head q h setup s l steps.Accept u w fetching)

id_has : (q : ℕ) (h : Header1) (setup : SplitSetup) (s : Scene) (l : Lane) (e : ℕ) (u : QueueState) → IsUnderWay q h setup s l (steps.Id e) u → e < length (map (element_of h q s) l.batch) → HasRow q h setup s l (steps.Id e) u
id_has q h setup s l e u w low =
    let r : Ring = the_ring q h.size in
    let z : ℕ × ℕ = element_of h q s (slice_index l.batch e) in
    let f : ℕ × ℕ → Row = λ x. row r SP1 (used_id_place r (used_in h q s + e)) (little_bytes 4 x.0) in
    let is : table_row q h s l (steps.Id e) ≡ Some (f z) = ap (λ (o : Option (ℕ × ℕ)). option_or (option_map f o) None) (element_there q h s l e low) in
    record { y = f z; queue = row_there q h setup s l (steps.Id e) u w ∙ is; table = is; fits = ring_fits r SP1 (used_id_place r (used_in h q s + e)) 4 z.0 refl (omega arith) }

len_has : (q : ℕ) (h : Header1) (setup : SplitSetup) (s : Scene) (l : Lane) (e : ℕ) (u : QueueState) → IsUnderWay q h setup s l (steps.Len e) u → e < length (map (element_of h q s) l.batch) → HasRow q h setup s l (steps.Len e) u
len_has q h setup s l e u w low =
    let r : Ring = the_ring q h.size in
    let z : ℕ × ℕ = element_of h q s (slice_index l.batch e) in
    let f : ℕ × ℕ → Row = λ x. row r SP2 (used_len_place r (used_in h q s + e)) (little_bytes 4 x.1) in
    let is : table_row q h s l (steps.Len e) ≡ Some (f z) = ap (λ (o : Option (ℕ × ℕ)). option_or (option_map f o) None) (element_there q h s l e low) in
    record { y = f z; queue = row_there q h setup s l (steps.Len e) u w ∙ is; table = is; fits = ring_fits r SP2 (used_len_place r (used_in h q s + e)) 4 z.1 refl (omega arith) }

-- the row that shows the batch
abbrev index_row : ℕ → Header1 → Scene → Lane → Row
index_row q h s l = row (the_ring q h.size) SP5 (used_idx_place (the_ring q h.size)) (little_bytes 2 ((used_in h q s + length (map (element_of h q s) l.batch)) % 65536))

-- a link, last_batch_head and a clear name the element's head
link_has : (q : ℕ) (h : Header1) (setup : SplitSetup) (s : Scene) (l : Lane) (e : ℕ) (u : QueueState) → IsUnderWay q h setup s l (steps.Link e) u → e < length (map (element_of h q s) l.batch) → HasRow q h setup s l (steps.Link e) u
link_has q h setup s l e u w low =
    let g : SplitRegion = region_of q h.size in
    let z : Sight = sight_of h q s l in
    let is : region_store z (steps.Link e) ≡ Some (stores.SP3 (get_or z.batch e (0, 0)).0 z.last_batch_head) = link_store z e low in
    region_has q h setup s l (steps.Link e) u (stores.SP3 (get_or z.batch e (0, 0)).0 z.last_batch_head) w (ap (option_map (region_row g)) is) (ap (option_map (region_row g)) is)

head_has : (q : ℕ) (h : Header1) (setup : SplitSetup) (s : Scene) (l : Lane) (e : ℕ) (u : QueueState) → IsUnderWay q h setup s l (steps.Head e) u → e < length (map (element_of h q s) l.batch) → HasRow q h setup s l (steps.Head e) u
head_has q h setup s l e u w low =
    let g : SplitRegion = region_of q h.size in
    let z : Sight = sight_of h q s l in
    let is : region_store z (steps.Head e) ≡ Some (stores.SP4 (get_or z.batch e (0, 0)).0) = head_store z e low in
    region_has q h setup s l (steps.Head e) u (stores.SP4 (get_or z.batch e (0, 0)).0) w (ap (option_map (region_row g)) is) (ap (option_map (region_row g)) is)

clear_has : (q : ℕ) (h : Header1) (setup : SplitSetup) (s : Scene) (l : Lane) (e : ℕ) (u : QueueState) → IsUnderWay q h setup s l (steps.Clear e) u → e < length (map (element_of h q s) l.batch) → HasRow q h setup s l (steps.Clear e) u
clear_has q h setup s l e u w low =
    let g : SplitRegion = region_of q h.size in
    let z : Sight = sight_of h q s l in
    let is : region_store z (steps.Clear e) ≡ Some (stores.SP6 (get_or z.batch e (0, 0)).0) = clear_store z e low in
    region_has q h setup s l (steps.Clear e) u (stores.SP6 (get_or z.batch e (0, 0)).0) w (ap (option_map (region_row g)) is) (ap (option_map (region_row g)) is)

note_has : (q : ℕ) (h : Header1) (setup : SplitSetup) (s : Scene) (l : Lane) (u : QueueState) → IsUnderWay q h setup s l steps.Note u → HasRow q h setup s l steps.Note u
note_has q h setup s l u w = region_has q h setup s l steps.Note u (stores.SP7 (used_in h q s)) w refl refl

-- ---- what it says

-- a step that makes a store and nothing else
record IsPlain (step : Step) : Type 0 where
  pub says_row : (head : ℕ) (o : Option Row) → step_said head o step ≡ row_said o
  pub no_bell : (q : ℕ) → bell_items q step ≡ []
  pub no_entry : (q : ℕ) (batch : List ℕ) (s : Scene) → entry_items q batch step s ≡ []

plain_says : (q : ℕ) (h : Header1) (setup : SplitSetup) (m : Moment) (turn : Turn) (l : Lane) (step : Step) (u : QueueState) (x : Stepped) (row : Option Row) (head : ℕ) → (turned h q turn m).items ≡ step_items h q l step m.scene → IsPlain step → HasRow q h setup m.scene l step u
    → x ≡ step_said (seen_by u m.scene.memory).head (row_at u m.scene.memory (Some step)) step → row ≡ row_at u m.scene.memory (Some step) → TurnSays q h m turn x row head l.batch
plain_says q h setup m turn l step u x row head made plain has said is = Notes has.y (record {
  is_row = is ∙ has.queue;
  fits = has.fits;
  said = said ∙ plain.says_row (seen_by u m.scene.memory).head (row_at u m.scene.memory (Some step)) ∙ ap row_said has.queue;
  made = made
      ∙ ap (λ (more : List Item). (row_items (table_row q h m.scene l step) ++ bell_items q step) ++ more) (plain.no_entry q l.batch (after_items h (row_items (table_row q h m.scene l step) ++ bell_items q step) m.scene))
      ∙ ap (λ (bell : List Item). (row_items (table_row q h m.scene l step) ++ bell) ++ []) (plain.no_bell q)
      ∙ ap (λ (o : Option Row). (row_items o ++ []) ++ []) has.table;
})

accept_says : (q : ℕ) (h : Header1) (setup : SplitSetup) (m : Moment) (turn : Turn) (l : Lane) (u : QueueState) (x : Stepped) (row : Option Row) → (turned h q turn m).items ≡ step_items h q l steps.Accept m.scene → IsUnderWay q h setup m.scene l steps.Accept u → is_fetch l.phase ≡ true
    → x ≡ says.Accepted (seen_by u m.scene.memory).head → row ≡ row_at u m.scene.memory (Some steps.Accept) → TurnSays q h m turn x row (slice_index (m.scene.heads q) (accepted m.scene.past q)) l.batch
accept_says q h setup m turn l u x row made w fetching said is =
    Accepts (region_row (region_of q h.size) (stores.SF2 (next_head h q m.scene))) refl (record {
      is_row = is ∙ accept_row q h setup m.scene l u w fetching;
      fits = region_fits q h.size (stores.SF2 (next_head h q m.scene));
      said = said ∙ ap says.Accepted (w.seen fetching);
      made = made;
    })

index_says : (q : ℕ) (h : Header1) (setup : SplitSetup) (m : Moment) (turn : Turn) (l : Lane) (u : QueueState) (x : Stepped) (row : Option Row) (head : ℕ) → (turned h q turn m).items ≡ step_items h q l steps.Index m.scene → IsUnderWay q h setup m.scene l steps.Index u
    → x ≡ says.Published → row ≡ row_at u m.scene.memory (Some steps.Index) → TurnSays q h m turn x row head l.batch
index_says q h setup m turn l u x row head made w said is =
    Publishes (index_row q h m.scene l) (record { tag = refl; area = refl; low = omega (arith, length_little 2 ((used_in h q m.scene + length (map (element_of h q m.scene) l.batch)) % 65536)) }) (record {
      is_row = is ∙ row_there q h setup m.scene l steps.Index u w;
      fits = ring_fits (the_ring q h.size) SP5 (used_idx_place (the_ring q h.size)) 2 ((used_in h q m.scene + length (map (element_of h q m.scene) l.batch)) % 65536) refl (omega arith);
      said = said;
      made = made;
    })

bell_says : (q : ℕ) (h : Header1) (setup : SplitSetup) (m : Moment) (turn : Turn) (l : Lane) (u : QueueState) (x : Stepped) (row : Option Row) (head : ℕ) → (turned h q turn m).items ≡ step_items h q l steps.Bell m.scene → IsUnderWay q h setup m.scene l steps.Bell u
    → x ≡ says.Belled → row ≡ row_at u m.scene.memory (Some steps.Bell) → TurnSays q h m turn x row head l.batch
bell_says q h setup m turn l u x row head made w said is = Rings (record { is_row = is ∙ row_there q h setup m.scene l steps.Bell u w; said = said; made = made })

-- ---- where it leaves the queue

-- the turn, by its items and the phase after it
turn_with : (q : ℕ) (h : Header1) (m : Moment) (turn : Turn) (l : Lane) (step : Step) (made : List Item) (p : Phase) → turned h q turn m ≡ phase_turn h q m.scene l (Some step) → (turned h q turn m).items ≡ made → after_step (course_of h l) l.phase ≡ p
    → turned h q turn m ≡ record { items = made; lane = with_phase p (counted (next_counter_in h q m.scene) step l) }
turn_with q h m turn l step made p is items after =
    is ∙ ap (λ (t : List Item). record { items = t; lane = with_phase (after_step (course_of h l) l.phase) (counted (next_counter_in h q m.scene) step l) }) (sym (ap (λ (t : Turned). t.items) is) ∙ items)
    ∙ ap (λ (z : Phase). record { items = made; lane = with_phase z (counted (next_counter_in h q m.scene) step l) }) after

-- a queue that changes in its phase alone, where the items leave the history
on_stands : (q : ℕ) (h : Header1) (setup : SplitSetup) (m : Moment) (turn : Turn) (l : Lane) (step : Step) (u u' : QueueState) (y : Item) (p : Phase) (counter : ℕ) (kept : Option ℕ) (b : List (ℕ × ℕ)) (batch : List ℕ) → IsUnderWay q h setup m.scene l step u
    → turned h q turn m ≡ record { items = y ∷ []; lane = record l { phase = p; counter = counter; batch = batch } } → (after_items h (y ∷ []) m.scene).past ≡ m.scene.past → (after_items h (y ∷ []) m.scene).heads ≡ m.scene.heads → u' ≡ record u { phase = p; counter = counter; fetching = kept; batch = b }
    → p ≡ kept_phase p → hidden_part p b ≡ hidden_in u → hidden_part p batch ≡ hidden_part l.phase l.batch → kept ≡ kept_head p (slice_index (m.scene.heads q) (accepted m.scene.past q)) → b ≡ map (spot_of q h m.scene.past (m.scene.heads q)) batch
    → QueueStands q h setup (one_turn h q turn m).next u'
on_stands q h setup m turn l step u u' y p counter kept b batch w is past heads after in_phase same_queue same_lane keeps spots =
    let now : Scene = after_items h (y ∷ []) m.scene in
    let l' : Lane = record l { phase = p; counter = counter; batch = batch } in
    let v : QueueState = record u { phase = p; counter = counter; fetching = kept; batch = b } in
    let at : QueueAt q h setup m.scene.past (m.scene.heads q) p (hidden_part p batch) l.completed l.made v =
    subst (λ (ks : List ℕ). QueueAt q h setup m.scene.past (m.scene.heads q) p ks l.completed l.made v) (sym same_lane) (at_goes q h setup m.scene.past (m.scene.heads q) l.phase (hidden_part l.phase l.batch) l.completed l.made u p p counter kept b in_phase same_queue w.at) in
    let phase : PhaseAt q h setup m.scene.past (m.scene.heads q) l.bell l.plan counter batch p (region_in h q now) v = record {
      index = w.phase.index;
      bell = w.phase.bell;
      ring = w.phase.ring;
      region = w.phase.region;
      base = w.phase.base;
      begun = λ stopped. absurd (let fails : true ≡ false = sym w.run ∙ stopped in cc);
      counter = λ run. refl;
      fetching = keeps;
      batch = spots;
    } in
    stands_next q h setup m turn (record { items = y ∷ []; lane = l' }) u' is
    (subst (λ (t : QueueState). QueueAt q h setup now.past (now.heads q) p (hidden_part p batch) l.completed l.made t) (sym after)
    (subst (λ (hs : ℕ → List ℕ). QueueAt q h setup now.past (hs q) p (hidden_part p batch) l.completed l.made v) (sym heads) (subst (λ (es : List Entry). QueueAt q h setup es (m.scene.heads q) p (hidden_part p batch) l.completed l.made v) (sym past) at)))
    (subst (λ (t : QueueState). PhaseAt q h setup now.past (now.heads q) l.bell l.plan counter batch p (region_in h q now) t) (sym after)
    (subst (λ (hs : ℕ → List ℕ). PhaseAt q h setup now.past (hs q) l.bell l.plan counter batch p (region_in h q now) v) (sym heads) (subst (λ (es : List Entry). PhaseAt q h setup es (m.scene.heads q) l.bell l.plan counter batch p (region_in h q now) v) (sym past) phase)))

-- the batch is hidden up to its index, and not behind it
pub hides : {A : Type 0} (batch : List A) (done : ℕ) → done ≤ 4 * length batch → hidden_part (phases.Publish done) batch ≡ batch
hides batch done before = let test : nat_lt (4 * length batch) done ≡ false = grind (arith, nat_tests) in ap (λ (b : Bool). cond b [] batch) test

shows : {A : Type 0} (batch : List A) (done : ℕ) → 4 * length batch < done → hidden_part (phases.Publish done) batch ≡ []
shows batch done past = let test : nat_lt (4 * length batch) done ≡ true = grind (arith, nat_tests) in ap (λ (b : Bool). cond b [] batch) test

-- what a step leaves, with what it says
pub record StepStands (q : ℕ) (h : Header1) (setup : SplitSetup) (m : Moment) (turn : Turn) (x : Stepped) (row : Option Row) (batch : List ℕ) (u' : QueueState) : Type 0 where
  pub says : TurnSays q h m turn x row (slice_index (m.scene.heads q) (accepted m.scene.past q)) batch
  pub stands : QueueStands q h setup (one_turn h q turn m).next u'

-- a turn that goes on with a phase of a lane, where the queue does this
pub record IsTurn (q : ℕ) (h : Header1) (setup : SplitSetup) (m : Moment) (turn : Turn) (l : Lane) (step : Step) (u u' : QueueState) (x : Stepped) (row : Option Row) : Type 0 where
  pub way : IsUnderWay q h setup m.scene l step u
  pub is : turned h q turn m ≡ phase_turn h q m.scene l (Some step)
  pub said : x ≡ step_said (seen_by u m.scene.memory).head (row_at u m.scene.memory (Some step)) step
  pub leaves : u' ≡ moved (seen_by u m.scene.memory).head step u
  pub is_row : row ≡ row_at u m.scene.memory (Some step)

-- the items of a step, as one
made_of : (q : ℕ) (h : Header1) (m : Moment) (turn : Turn) (l : Lane) (step : Step) → turned h q turn m ≡ phase_turn h q m.scene l (Some step) → (turned h q turn m).items ≡ step_items h q l step m.scene
made_of q h m turn l step is = ap (λ (t : Turned). t.items) is

-- its only item is that of its row
one_item : (q : ℕ) (h : Header1) (setup : SplitSetup) (m : Moment) (l : Lane) (step : Step) (u : QueueState) → IsPlain step → (has : HasRow q h setup m.scene l step u) → step_items h q l step m.scene ≡ row_item has.y ∷ []
one_item q h setup m l step u plain has =
    ap (λ (more : List Item). (row_items (table_row q h m.scene l step) ++ bell_items q step) ++ more) (plain.no_entry q l.batch (after_items h (row_items (table_row q h m.scene l step) ++ bell_items q step) m.scene))
    ∙ ap (λ (bell : List Item). (row_items (table_row q h m.scene l step) ++ bell) ++ []) (plain.no_bell q)
    ∙ ap (λ (o : Option Row). (row_items o ++ []) ++ []) has.table

-- where the lane's phase is this one, so is the queue's
phase_of : (q : ℕ) (h : Header1) (setup : SplitSetup) (s : Scene) (l : Lane) (step : Step) (u : QueueState) (p : Phase) → IsUnderWay q h setup s l step u → l.phase ≡ p → p ≡ kept_phase p → u.phase ≡ p
phase_of q h setup s l step u p w at kept = w.at.phase ∙ ap kept_phase at ∙ sym kept

-- the queue's phase after it
after_is : (q : ℕ) (h : Header1) (setup : SplitSetup) (s : Scene) (l : Lane) (step : Step) (u u' : QueueState) (head : ℕ) (p : Phase) → IsUnderWay q h setup s l step u → u' ≡ moved head step u → after_step (course_of h l) l.phase ≡ p → u' ≡ states.with_phase p (changed head step u)
after_is q h setup s l step u u' head p w leaves after = leaves ∙ ap (λ (z : Phase). states.with_phase z (changed head step u)) (queue_after q h setup s l step u w ∙ after)

-- ---- a step of a publication that isn't its index

-- it changes nothing but the phase, of lane and queue
record IsStill (step : Step) : Type 0 where
  pub lane : (next : ℕ) (l : Lane) → counted next step l ≡ l
  pub queue : (head : ℕ) (u : QueueState) → changed head step u ≡ u

-- which goes on
publish_goes : (q : ℕ) (h : Header1) (setup : SplitSetup) (m : Moment) (turn : Turn) (l : Lane) (step : Step) (u u' : QueueState) (x : Stepped) (row : Option Row) (done : ℕ) (y : Item) → IsTurn q h setup m turn l step u u' x row → IsStill step → l.phase ≡ phases.Publish done
    → is_last step (side_of q h m.scene l.bell l.plan l.counter l.batch l.phase) ≡ false → (done < 4 * length l.batch) ⊎ (4 * length l.batch < done) → (turned h q turn m).items ≡ y ∷ [] → (after_items h (y ∷ []) m.scene).past ≡ m.scene.past → (after_items h (y ∷ []) m.scene).heads ≡ m.scene.heads
    → QueueStands q h setup (one_turn h q turn m).next u'
publish_goes q h setup m turn l step u u' x row done y t still at last side items past heads =
    let w = t.way in
    let next : Phase = phases.Publish (done + 1) in
    let after : after_step (course_of h l) l.phase ≡ next = lane_after q h setup m.scene l step u w ∙ ap (λ (b : Bool). phase_after step b l.phase) last ∙ ap (λ (p : Phase). at_step p (done_of p + 1)) at in
    let here : u.phase ≡ phases.Publish done = phase_of q h setup m.scene l step u (phases.Publish done) w at refl in
    let long : length u.batch ≡ length l.batch = batch_long q h setup m.scene l step u w in
    let hidden : hidden_part next u.batch ≡ hidden_in u = same_part u.batch side (omega (arith, long)) ∙ ap (λ (p : Phase). hidden_part p u.batch) (sym here) in
    let hidden_too : hidden_part next l.batch ≡ hidden_part l.phase l.batch = same_part l.batch side refl ∙ ap (λ (p : Phase). hidden_part p l.batch) (sym at) in
    on_stands q h setup m turn l step u u' y next l.counter u.fetching u.batch l.batch w
    (turn_with q h m turn l step (y ∷ []) next t.is items after ∙ ap (λ (l' : Lane). record { items = y ∷ []; lane = with_phase next l' }) (still.lane (next_counter_in h q m.scene) l))
    past heads (after_is q h setup m.scene l step u u' (seen_by u m.scene.memory).head next w t.leaves after ∙ ap (states.with_phase next) (still.queue (seen_by u m.scene.memory).head u) ∙ ap (λ (c : ℕ). record u { phase = next; counter = c }) (w.phase.counter w.run))
    refl hidden hidden_too (w.phase.fetching ∙ ap (λ (p : Phase). kept_head p (slice_index (m.scene.heads q) (accepted m.scene.past q))) at) w.phase.batch
  where
    same_part : {A : Type 0} (batch : List A) → (done < 4 * length l.batch) ⊎ (4 * length l.batch < done) → length batch ≡ length l.batch → hidden_part (phases.Publish (done + 1)) batch ≡ hidden_part (phases.Publish done) batch
    same_part batch (inl before) long = hides batch (done + 1) (omega (arith, before, long)) ∙ sym (hides batch done (omega (arith, before, long)))
    same_part batch (inr behind) long = shows batch (done + 1) (omega (arith, behind, long)) ∙ sym (shows batch done (omega (arith, behind, long)))

-- and which ends
publish_ends : (q : ℕ) (h : Header1) (setup : SplitSetup) (m : Moment) (turn : Turn) (l : Lane) (step : Step) (u u' : QueueState) (x : Stepped) (row : Option Row) (done : ℕ) (y : Item) → IsTurn q h setup m turn l step u u' x row → IsStill step → l.phase ≡ phases.Publish done
    → is_last step (side_of q h m.scene l.bell l.plan l.counter l.batch l.phase) ≡ true → 4 * length l.batch < done → (turned h q turn m).items ≡ y ∷ [] → (after_items h (y ∷ []) m.scene).past ≡ m.scene.past → (after_items h (y ∷ []) m.scene).heads ≡ m.scene.heads
    → QueueStands q h setup (one_turn h q turn m).next u'
publish_ends q h setup m turn l step u u' x row done y t still at last behind items past heads =
    let w = t.way in
    let after : after_step (course_of h l) l.phase ≡ phases.Rest = lane_after q h setup m.scene l step u w ∙ ap (λ (b : Bool). phase_after step b l.phase) last in
    let here : u.phase ≡ phases.Publish done = phase_of q h setup m.scene l step u (phases.Publish done) w at refl in
    let long : length u.batch ≡ length l.batch = batch_long q h setup m.scene l step u w in
    let none : [] ≡ hidden_in u = sym (ap (λ (p : Phase). hidden_part p u.batch) here ∙ shows u.batch done (omega (arith, behind, long))) in
    let none_too : [] ≡ hidden_part l.phase l.batch = sym (ap (λ (p : Phase). hidden_part p l.batch) at ∙ shows l.batch done behind) in
    on_stands q h setup m turn l step u u' y phases.Rest l.counter u.fetching [] [] w
    (turn_with q h m turn l step (y ∷ []) phases.Rest t.is items after ∙ ap (λ (l' : Lane). record { items = y ∷ []; lane = with_phase phases.Rest l' }) (still.lane (next_counter_in h q m.scene) l))
    past heads (after_is q h setup m.scene l step u u' (seen_by u m.scene.memory).head phases.Rest w t.leaves after ∙ ap (states.with_phase phases.Rest) (still.queue (seen_by u m.scene.memory).head u) ∙ ap (λ (c : ℕ). record u { phase = phases.Rest; counter = c; batch = [] }) (w.phase.counter w.run))
    refl none none_too (w.phase.fetching ∙ ap (λ (p : Phase). kept_head p (slice_index (m.scene.heads q) (accepted m.scene.past q))) at) refl

-- ---- a fetch

fetching_now : (l : Lane) (done : ℕ) → l.phase ≡ phases.Fetch done → is_fetch l.phase ≡ true
fetching_now l done at = ap is_fetch at

count_plain : IsPlain steps.Count
count_plain = record { says_row = λ head o. refl; no_bell = λ q. refl; no_entry = λ q batch s. refl }

count_stands : (q : ℕ) (h : Header1) (setup : SplitSetup) (m : Moment) (turn : Turn) (l : Lane) (u u' : QueueState) (x : Stepped) (row : Option Row) → IsTurn q h setup m turn l steps.Count u u' x row → l.phase ≡ phases.Fetch 0 → StepStands q h setup m turn x row l.batch u'
count_stands q h setup m turn l u u' x row t at =
    let w = t.way in
    let fetching : is_fetch l.phase ≡ true = fetching_now l 0 at in
    let has : HasRow q h setup m.scene l steps.Count u = count_has q h setup m.scene l u w fetching in
    let items : (turned h q turn m).items ≡ row_item has.y ∷ [] = made_of q h m turn l steps.Count t.is ∙ one_item q h setup m l steps.Count u count_plain has in
    let next : Phase = phases.Fetch 1 in
    let after : after_step (course_of h l) l.phase ≡ next = lane_after q h setup m.scene l steps.Count u w ∙ ap (λ (p : Phase). at_step p (done_of p + 1)) at in
    let here : u.phase ≡ phases.Fetch 0 = phase_of q h setup m.scene l steps.Count u (phases.Fetch 0) w at refl in
    let head : ℕ = (seen_by u m.scene.memory).head in record {
      says = plain_says q h setup m turn l steps.Count u x row (slice_index (m.scene.heads q) (accepted m.scene.past q)) (made_of q h m turn l steps.Count t.is) count_plain has t.said t.is_row;
      stands = on_stands q h setup m turn l steps.Count u u' (row_item has.y) next (l.counter + 1) (Some head) u.batch l.batch w (turn_with q h m turn l steps.Count (row_item has.y ∷ []) next t.is items after) refl refl
          (after_is q h setup m.scene l steps.Count u u' head next w t.leaves after ∙ ap (λ (c : ℕ). record u { phase = next; counter = c + 1; fetching = Some head }) (w.phase.counter w.run))
          refl (sym (ap (λ (p : Phase). hidden_part p u.batch) here)) (sym (ap (λ (p : Phase). hidden_part p l.batch) at)) (ap (λ (d : ℕ). Some d) (w.seen fetching)) w.phase.batch;
    }

accept_stands : (q : ℕ) (h : Header1) (setup : SplitSetup) (m : Moment) (turn : Turn) (l : Lane) (u u' : QueueState) (x : Stepped) (row : Option Row) → IsTurn q h setup m turn l steps.Accept u u' x row → l.phase ≡ phases.Fetch 1 → StepStands q h setup m turn x row l.batch u'
accept_stands q h setup m turn l u u' x row t at =
    let w = t.way in
    let past : List Entry = m.scene.past in
    let heads : List ℕ = m.scene.heads q in
    let head : ℕ = slice_index heads (accepted past q) in
    let fetching : is_fetch l.phase ≡ true = fetching_now l 1 at in
    let y : Row = region_row (region_of q h.size) (stores.SF2 (next_head h q m.scene)) in
    let made : List Item = row_item y ∷ items.Made (entries.Accept q (accepted past q)) ∷ [] in
    let after : after_step (course_of h l) l.phase ≡ phases.Rest = lane_after q h setup m.scene l steps.Accept u w in
    let here : u.phase ≡ phases.Fetch 1 = phase_of q h setup m.scene l steps.Accept u (phases.Fetch 1) w at refl in
    let empty : hidden_in u ≡ [] = ap (λ (p : Phase). hidden_part p u.batch) here in
    let lane_empty : hidden_part l.phase l.batch ≡ [] = ap (λ (p : Phase). hidden_part p l.batch) at in
    let at_u : QueueAt q h setup past heads l.phase [] l.completed l.made u = subst (λ (ks : List ℕ). QueueAt q h setup past heads l.phase ks l.completed l.made u) lane_empty w.at in
    let is : u' ≡ fetched head u = after_is q h setup m.scene l steps.Accept u u' (seen_by u m.scene.memory).head phases.Rest w t.leaves after ∙ ap (λ (d : ℕ). fetched d u) (w.seen fetching) in
    let now : QueueAt q h setup (entries.Accept q (accepted past q) ∷ past) heads phases.Rest [] l.completed l.made (fetched head u) =
    at_fetch q h setup past heads l.phase l.completed l.made u head w.run w.known (w.worked at) refl (w.below fetching) (w.free fetching) empty at_u in record {
      says = accept_says q h setup m turn l u x row (made_of q h m turn l steps.Accept t.is) w fetching t.said t.is_row;
      stands = stands_next q h setup m turn (record { items = made; lane = record l { phase = phases.Rest; batch = [] } }) u' (turn_with q h m turn l steps.Accept made phases.Rest t.is (made_of q h m turn l steps.Accept t.is) after)
          (subst (λ (v : QueueState). QueueAt q h setup (entries.Accept q (accepted past q) ∷ past) heads phases.Rest [] l.completed l.made v) (sym is) now)
          (subst (λ (v : QueueState). PhaseAt q h setup (entries.Accept q (accepted past q) ∷ past) heads l.bell l.plan l.counter [] phases.Rest (region_in h q (after_items h made m.scene)) v) (sym is) (record {
            index = w.phase.index;
            bell = w.phase.bell;
            ring = w.phase.ring;
            region = w.phase.region;
            base = w.phase.base;
            begun = λ stopped. absurd (let fails : true ≡ false = sym w.run ∙ stopped in cc);
            counter = w.phase.counter;
            fetching = refl;
            batch = refl;
          }));
    }

-- ---- the index

index_stands : (q : ℕ) (h : Header1) (setup : SplitSetup) (m : Moment) (turn : Turn) (l : Lane) (u u' : QueueState) (x : Stepped) (row : Option Row) → IsTurn q h setup m turn l steps.Index u u' x row → l.phase ≡ phases.Publish (4 * length l.batch) → StepStands q h setup m turn x row l.batch u'
index_stands q h setup m turn l u u' x row t at =
    let w = t.way in
    let past : List Entry = m.scene.past in
    let heads : List ℕ = m.scene.heads q in
    let y : Row = index_row q h m.scene l in
    let list : List Answered = map (answer_at q (after_stored h y m.scene)) l.batch in
    let made : List Item = row_item y ∷ items.Made (entries.Publish q list) ∷ [] in
    let past' : List Entry = entries.Publish q list ∷ past in
    let done : ℕ = 4 * length l.batch + 1 in
    let after : after_step (course_of h l) l.phase ≡ phases.Publish done = lane_after q h setup m.scene l steps.Index u w ∙ ap (λ (p : Phase). at_step p (done_of p + 1)) at in
    let here : u.phase ≡ phases.Publish (4 * length l.batch) = phase_of q h setup m.scene l steps.Index u (phases.Publish (4 * length l.batch)) w at refl in
    let long : length u.batch ≡ length l.batch = batch_long q h setup m.scene l steps.Index u w in
    let all : hidden_in u ≡ u.batch = ap (λ (p : Phase). hidden_part p u.batch) here ∙ hides u.batch (4 * length l.batch) (omega (arith, long)) in
    let lane_all : hidden_part l.phase l.batch ≡ l.batch = ap (λ (p : Phase). hidden_part p l.batch) at ∙ hides l.batch (4 * length l.batch) (omega arith) in
    let none : hidden_part (phases.Publish done) l.batch ≡ [] = shows l.batch done (omega arith) in
    let at_u : QueueAt q h setup past heads l.phase l.batch l.completed l.made u = subst (λ (ks : List ℕ). QueueAt q h setup past heads l.phase ks l.completed l.made u) lane_all w.at in
    let opens : (k : ℕ) → is_among l.batch k ≡ true → IsOpen past q k = λ k held. w.opens k (ap (λ (ks : List ℕ). is_among ks k) lane_all ∙ held) in
    let is : u' ≡ shown done u = after_is q h setup m.scene l steps.Index u u' (seen_by u m.scene.memory).head (phases.Publish done) w t.leaves after in
    let now : QueueAt q h setup past' heads (phases.Publish done) [] l.completed l.made (shown done u) =
    at_show q h setup past heads l.phase l.batch l.completed l.made u list done w.run (numbers_answers q (after_stored h y m.scene) l.batch) opens all (omega (arith, long)) at_u in record {
      says = index_says q h setup m turn l u x row (slice_index heads (accepted past q)) (made_of q h m turn l steps.Index t.is) w t.said t.is_row;
      stands = stands_next q h setup m turn (record { items = made; lane = record l { phase = phases.Publish done } }) u' (turn_with q h m turn l steps.Index made (phases.Publish done) t.is (made_of q h m turn l steps.Index t.is) after)
          (subst (λ (v : QueueState). QueueAt q h setup past' heads (phases.Publish done) (hidden_part (phases.Publish done) l.batch) l.completed l.made v) (sym is) (subst (λ (ks : List ℕ). QueueAt q h setup past' heads (phases.Publish done) ks l.completed l.made (shown done u)) (sym none) now))
          (subst (λ (v : QueueState). PhaseAt q h setup past' heads l.bell l.plan l.counter l.batch (phases.Publish done) (region_in h q (after_items h made m.scene)) v) (sym is) (record {
            index = w.phase.index;
            bell = w.phase.bell;
            ring = w.phase.ring;
            region = w.phase.region;
            base = w.phase.base;
            begun = λ stopped. absurd (let fails : true ≡ false = sym w.run ∙ stopped in cc);
            counter = w.phase.counter;
            fetching = w.phase.fetching ∙ ap (λ (p : Phase). kept_head p (slice_index heads (accepted past q))) at;
            batch = w.phase.batch;
          }));
    }

-- ---- the other steps of a publication

-- a step that goes on, with its store
goes_stands : (q : ℕ) (h : Header1) (setup : SplitSetup) (m : Moment) (turn : Turn) (l : Lane) (step : Step) (u u' : QueueState) (x : Stepped) (row : Option Row) (done : ℕ) → IsTurn q h setup m turn l step u u' x row → IsPlain step → IsStill step → HasRow q h setup m.scene l step u
    → l.phase ≡ phases.Publish done → is_last step (side_of q h m.scene l.bell l.plan l.counter l.batch l.phase) ≡ false → (done < 4 * length l.batch) ⊎ (4 * length l.batch < done) → StepStands q h setup m turn x row l.batch u'
goes_stands q h setup m turn l step u u' x row done t plain still has at last side =
    let items : (turned h q turn m).items ≡ row_item has.y ∷ [] = made_of q h m turn l step t.is ∙ one_item q h setup m l step u plain has in record {
      says = plain_says q h setup m turn l step u x row (slice_index (m.scene.heads q) (accepted m.scene.past q)) (made_of q h m turn l step t.is) plain has t.said t.is_row;
      stands = publish_goes q h setup m turn l step u u' x row done (row_item has.y) t still at last side items refl refl;
    }

-- a step that ends it, with its store
ends_stands : (q : ℕ) (h : Header1) (setup : SplitSetup) (m : Moment) (turn : Turn) (l : Lane) (step : Step) (u u' : QueueState) (x : Stepped) (row : Option Row) (done : ℕ) → IsTurn q h setup m turn l step u u' x row → IsPlain step → IsStill step → HasRow q h setup m.scene l step u
    → l.phase ≡ phases.Publish done → is_last step (side_of q h m.scene l.bell l.plan l.counter l.batch l.phase) ≡ true → 4 * length l.batch < done → StepStands q h setup m turn x row l.batch u'
ends_stands q h setup m turn l step u u' x row done t plain still has at last behind =
    let items : (turned h q turn m).items ≡ row_item has.y ∷ [] = made_of q h m turn l step t.is ∙ one_item q h setup m l step u plain has in record {
      says = plain_says q h setup m turn l step u x row (slice_index (m.scene.heads q) (accepted m.scene.past q)) (made_of q h m turn l step t.is) plain has t.said t.is_row;
      stands = publish_ends q h setup m turn l step u u' x row done (row_item has.y) t still at last behind items refl refl;
    }

-- the step that is next, whichever it is
pub step_stands : (q : ℕ) (h : Header1) (setup : SplitSetup) (m : Moment) (turn : Turn) (l : Lane) (step : Step) (u u' : QueueState) (x : Stepped) (row : Option Row) → IsTurn q h setup m turn l step u u' x row → StepStands q h setup m turn x row l.batch u'
step_stands q h setup m turn l step u u' x row t = go step (place q h setup m.scene l step u t.way) t
  where
    side : Side
    side = side_of q h m.scene l.bell l.plan l.counter l.batch l.phase

    elements : length side.batch ≡ length l.batch
    elements = side_long q h m.scene l

    never : {A : Type 0} → started m.scene.past q ≡ false → A
    never stopped = absurd (let fails : true ≡ false = sym t.way.run ∙ stopped in cc)

    go : (step : Step) → Place h.size step side → IsTurn q h setup m turn l step u u' x row → StepStands q h setup m turn x row l.batch u'
    go steps.Features p y = never p.0.not_started
    go (steps.Free i) p y = never p.0.not_started
    go steps.Open p y = never p.0.not_started
    go (steps.Settle i) p y = never p.0.not_started
    go steps.SettleEnd p y = never p.1.0.not_started
    go steps.Start p y = never p.not_started
    go steps.Count p y = count_stands q h setup m turn l u u' x row y p.place
    go steps.Accept p y = accept_stands q h setup m turn l u u' x row y p.place
    go steps.Index p y = index_stands q h setup m turn l u u' x row y (p.place ∙ ap (λ (n : ℕ). phases.Publish (4 * n)) elements)
    go (steps.Id e) p y = goes_stands q h setup m turn l (steps.Id e) u u' x row (4 * e) y (record { says_row = λ head o. refl; no_bell = λ q. refl; no_entry = λ q batch s. refl }) (record { lane = λ next l. refl; queue = λ head u. refl })
        (id_has q h setup m.scene l e u y.way p.1) p.0.place refl (inl (omega (arith, p.1, elements)))
    go (steps.Len e) p y = goes_stands q h setup m turn l (steps.Len e) u u' x row (4 * e + 1) y (record { says_row = λ head o. refl; no_bell = λ q. refl; no_entry = λ q batch s. refl }) (record { lane = λ next l. refl; queue = λ head u. refl })
        (len_has q h setup m.scene l e u y.way p.1) p.0.place refl (inl (omega (arith, p.1, elements)))
    go (steps.Link e) p y = goes_stands q h setup m turn l (steps.Link e) u u' x row (4 * e + 2) y (record { says_row = λ head o. refl; no_bell = λ q. refl; no_entry = λ q batch s. refl }) (record { lane = λ next l. refl; queue = λ head u. refl })
        (link_has q h setup m.scene l e u y.way p.1) p.0.place refl (inl (omega (arith, p.1, elements)))
    go (steps.Head e) p y = goes_stands q h setup m turn l (steps.Head e) u u' x row (4 * e + 3) y (record { says_row = λ head o. refl; no_bell = λ q. refl; no_entry = λ q batch s. refl }) (record { lane = λ next l. refl; queue = λ head u. refl })
        (head_has q h setup m.scene l e u y.way p.1) p.0.place refl (inl (omega (arith, p.1, elements)))
    go (steps.Clear e) p y = goes_stands q h setup m turn l (steps.Clear e) u u' x row (4 * length side.batch + 1 + e) y (record { says_row = λ head o. refl; no_bell = λ q. refl; no_entry = λ q batch s. refl }) (record { lane = λ next l. refl; queue = λ head u. refl })
        (clear_has q h setup m.scene l e u y.way p.1) p.0.place refl (inr (omega (arith, elements)))
    go steps.Note p y = elim (cases_Bool l.bell) [
      | inl bell ↦ goes_stands q h setup m turn l steps.Note u u' x row (4 * length side.batch + 1 + length side.batch) y (record { says_row = λ head o. refl; no_bell = λ q. refl; no_entry = λ q batch s. refl }) (record { lane = λ next l. refl; queue = λ head u. refl })
          (note_has q h setup m.scene l u y.way) p.place (ap not bell) (inr (omega (arith, elements)))
      | inr silent ↦ ends_stands q h setup m turn l steps.Note u u' x row (4 * length side.batch + 1 + length side.batch) y (record { says_row = λ head o. refl; no_bell = λ q. refl; no_entry = λ q batch s. refl }) (record { lane = λ next l. refl; queue = λ head u. refl })
          (note_has q h setup m.scene l u y.way) p.place (ap not silent) (omega (arith, elements))
    ]
    go steps.Bell p y = elim p.1 [
      | inl starts ↦ never starts.not_started
      | inr behind ↦ record {
        says = bell_says q h setup m turn l u x row (slice_index (m.scene.heads q) (accepted m.scene.past q)) (made_of q h m turn l steps.Bell y.is) y.way y.said y.is_row;
        stands = publish_ends q h setup m turn l steps.Bell u u' x row (4 * length side.batch + 1 + (length side.batch + 1)) (items.Bell q) y (record { lane = λ next l. refl; queue = λ head u. refl }) behind.place t.way.run (omega (arith, elements)) (made_of q h m turn l steps.Bell y.is) refl refl;
      }
    ]
