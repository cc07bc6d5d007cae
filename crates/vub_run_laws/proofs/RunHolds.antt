-- What holds of a queue at every moment of a run: history, work, what stands in buffers, and the queue itself; what each
-- store of a request and each step of a start, a fetch and a publication leaves of it.
use Rattle.std.proofs.Common.{◌≡◌, ◌≤◌, ◌<◌, ℕ, ◌+◌, ◌*◌, Bool, true, List, [], ◌∷◌, ◌++◌, length, map}
use Rattle.std.specs.Prelude.{Option, Some, nat_lt, if◌then◌else◌, ◌≢◌}
use Rattle.vub_base.specs.declared.header.CacheMode.TheVariants.{Back}
use Rattle.vub_base.specs.declared.header.Header1.{Header1}
use Rattle.vub_base.specs.declared.store.Tag.{Tag}
use Rattle.vub_base.specs.declared.store.Area.TheVariants.{M, I}
use Rattle.vub_shared.specs.Bytes.{put}
use Rattle.vub_shared.specs.Stores.{Store}
use Rattle.vub_steps.specs.declared.steps.Phase.{Phase}
use Rattle.vub_steps.specs.declared.steps.Phase.TheVariants as phases
use Rattle.vub_steps.specs.declared.steps.Plan.{Plan}
use Rattle.vub_steps.specs.declared.steps.Step.{Step}
use Rattle.vub_steps.specs.declared.steps.Step.TheVariants as steps
use Rattle.vub_steps.specs.Steps.{start_steps, publish_steps}
use Rattle.vub_driver.specs.Drivers.{Driver, Waiting}
use Rattle.vub_device.specs.declared.entry.Answered.{Answered}
use Rattle.vub_device.specs.declared.entry.Entry.{Entry}
use Rattle.vub_device.specs.declared.entry.Entry.TheVariants as entries
use Rattle.vub_device.specs.Past.{started, accepted, published, collected, is_among, IsOpen, open_numbers}
use Rattle.vub_device.specs.Requests.{request_of}
use Rattle.vub_report.specs.declared.items.Item.TheVariants as items
use Rattle.vub_run.specs.Memory.{Scene, after_item}
use Rattle.vub_run.specs.Moments.{Lane, region_in}
use Rattle.vub_run.specs.Turns.{step_items, answer_at, with_phase, counted, next_counter_in}
use Rattle.vub_run_laws.proofs.RunGood.{IsSize, Known, hidden, Worked, Carries, Stored, IsOut, stored_at}
pub use Rattle.vub_run_laws.proofs.RingGood.{EntryStands, QueueFacts, IsWaiting, LastStands, offered_by, CountsLow}
use Rattle.vub_run_laws.proofs.RunFrames.{OffBuffer}

-- counts, numbers and answers; work; what stands in buffers; and the queue
pub record Holds (q : ℕ) (h : Header1) (s : Scene) (l : Lane) : Type 0 where
  pub known : Known q h.size h.capacity s.past (s.heads q)
  pub worked : Worked q s.past l.phase (hidden l.batch l.phase) l.completed l.made
  pub carries : Carries q s.past l.counter l.phase l.batch l.completed
  pub stored : Stored q s.past (s.heads q) s.memory (hidden l.batch l.phase) l.completed l.made
  pub queue : QueueFacts q h s l.driver l.bell l.plan l.counter l.batch l.phase

-- ---- the driver's stores

-- what a store of a request leaves, where these are left: the buffers of what is offered, the queue, and the request
pub record StoresBefore (q : ℕ) (h : Header1) (s : Scene) (v : Driver) (w : Waiting) (bell : Bool) (plan : Plan) (counter : ℕ) (batch : List ℕ) (phase : Phase) (st : Store) (left : List Store) : Type 0 where
  pub off : (k : ℕ) → IsOut q s.past (s.heads q) k → OffBuffer q (s.heads q) k st.place st.bytes
  pub queue : QueueFacts q h (stored_at st.place st.bytes s) v bell plan counter batch phase
  pub waits : IsWaiting q h.size h.capacity s.past (s.heads q) v (record w { left = left })
  pub last : LastStands q h (stored_at st.place st.bytes s) (record w { left = left })

-- the scene after the last store of a request and its offer
abbrev pub offered_scene : ℕ → Header1 → Waiting → Store → Scene → Scene
offered_scene q h w st s = after_item h (items.Made (entries.Offer q (request_of w.ask))) (stored_at st.place st.bytes s)

-- what the last store of a request leaves, with its offer
pub record StoresLast (q : ℕ) (h : Header1) (s : Scene) (v : Driver) (w : Waiting) (bell : Bool) (plan : Plan) (counter : ℕ) (batch : List ℕ) (phase : Phase) (st : Store) : Type 0 where
  pub off : (k : ℕ) → OffBuffer q (s.heads q) k st.place st.bytes
  pub room : length (s.heads q) < h.size + collected s.past q
  pub heads : (offered_scene q h w st s).heads q ≡ s.heads q ++ w.head ∷ []
  pub queue : QueueFacts q h (offered_scene q h w st s) (offered_by v) bell plan counter batch phase

-- ---- the rows of a publication

-- the lane with so many steps of its publication made
abbrev pub publishing : ℕ → Lane → Lane
publishing done l = record l { phase = phases.Publish done }

-- the steps of its publication
abbrev pub publication_of : Lane → List Step
publication_of l = publish_steps (length l.batch) l.bell

-- a publication under way, as far as its rows need it
pub record IsPublishing (q : ℕ) (h : Header1) (s : Scene) (l : Lane) (done : ℕ) : Type 0 where
  pub size : IsSize h.size
  pub back : h.mode ≡ Back
  pub started : started s.past q ≡ true
  pub known : Known q h.size h.capacity s.past (s.heads q)
  pub taken : (k : ℕ) → is_among l.batch k ≡ true → k < accepted s.past q
  -- until the batch is shown
  pub room : done ≤ 4 * length l.batch → length (published s.past q) + length l.batch ≤ accepted s.past q
  pub opens : done ≤ 4 * length l.batch → (k : ℕ) → is_among l.batch k ≡ true → IsOpen s.past q k
  pub queue : QueueFacts q h s l.driver l.bell l.plan l.counter l.batch (phases.Publish done)

-- the lane after one more step, where more or none is left after it
abbrev pub moved_on : Bool → ℕ → Lane → Lane
moved_on more done l = with_phase (if more then phases.Publish (done + 1) else phases.Rest) (publishing done l)

-- whether a step is left after this one
abbrev pub goes_on : ℕ → Lane → Bool
goes_on done l = nat_lt (done + 1) (length (publication_of l))

-- id or length of an element, which stays hidden
pub record RowBefore (q : ℕ) (h : Header1) (s : Scene) (l : Lane) (done : ℕ) (step : Step) : Type 0 where
  pub before : done < 4 * length l.batch
  pub more : goes_on done l ≡ true
  pub tag : Tag
  pub place : ℕ
  pub bytes : List ℕ
  pub stores : step_items h q (publishing done l) step s ≡ items.Store tag M place bytes ∷ []
  pub off : (k : ℕ) → OffBuffer q (s.heads q) k place bytes
  pub counts : (next : ℕ) (x : Lane) → counted next step x ≡ x
  pub queue : QueueFacts q h (stored_at place bytes s) l.driver l.bell l.plan l.counter l.batch (phases.Publish (done + 1))

-- the scene after a store into the in-flight region
abbrev pub noted_at : ℕ → List ℕ → Scene → Scene
noted_at p bs s = record s { memory = put s.memory 1 p bs }

-- a store into the in-flight region, before the batch is shown or after it
pub record RowNotes (q : ℕ) (h : Header1) (s : Scene) (l : Lane) (done : ℕ) (step : Step) : Type 0 where
  pub apart : done ≢ 4 * length l.batch
  pub tag : Tag
  pub place : ℕ
  pub bytes : List ℕ
  pub stores : step_items h q (publishing done l) step s ≡ items.Store tag I place bytes ∷ []
  pub counts : (next : ℕ) (x : Lane) → counted next step x ≡ x
  pub queue : QueueFacts q h (noted_at place bytes s) l.driver l.bell l.plan l.counter (moved_on (goes_on done l) done l).batch (moved_on (goes_on done l) done l).phase

-- the bell is rung, after the batch is shown
pub record RowRings (q : ℕ) (h : Header1) (s : Scene) (l : Lane) (done : ℕ) (step : Step) : Type 0 where
  pub apart : done ≢ 4 * length l.batch
  pub rings : step_items h q (publishing done l) step s ≡ items.Bell q ∷ []
  pub counts : (next : ℕ) (x : Lane) → counted next step x ≡ x
  pub queue : QueueFacts q h s l.driver l.bell l.plan l.counter (moved_on (goes_on done l) done l).batch (moved_on (goes_on done l) done l).phase

-- the answers of a batch, as they stand after a store
abbrev pub shown_list : ℕ → ℕ → List ℕ → Scene → List ℕ → List Answered
shown_list q place bytes s batch = map (answer_at q (stored_at place bytes s)) batch

abbrev pub shown_past : ℕ → ℕ → List ℕ → Scene → List ℕ → List Entry
shown_past q place bytes s batch = entries.Publish q (shown_list q place bytes s batch) ∷ s.past

-- the store of used.idx, which shows the elements, with its publication
pub record RowShows (q : ℕ) (h : Header1) (s : Scene) (l : Lane) (done : ℕ) (step : Step) : Type 0 where
  pub at : done ≡ 4 * length l.batch
  pub more : goes_on done l ≡ true
  pub tag : Tag
  pub place : ℕ
  pub bytes : List ℕ
  pub stores : step_items h q (publishing done l) step s ≡ items.Store tag M place bytes ∷ items.Made (entries.Publish q (shown_list q place bytes s l.batch)) ∷ []
  pub off : (k : ℕ) → OffBuffer q (s.heads q) k place bytes
  pub counts : (next : ℕ) (x : Lane) → counted next step x ≡ x
  pub queue : QueueFacts q h (record (stored_at place bytes s) { past = shown_past q place bytes s l.batch }) l.driver l.bell l.plan l.counter l.batch (phases.Publish (done + 1))

-- the step after so many of a publication, with its row
pub data NextRow : ℕ → Header1 → Scene → Lane → ℕ → Option Step → Type 0 where
  Before : {q done : ℕ} {h : Header1} {s : Scene} {l : Lane} {o : Option Step} → (step : Step) → o ≡ Some step → RowBefore q h s l done step → NextRow q h s l done o
  Notes : {q done : ℕ} {h : Header1} {s : Scene} {l : Lane} {o : Option Step} → (step : Step) → o ≡ Some step → RowNotes q h s l done step → NextRow q h s l done o
  Tells : {q done : ℕ} {h : Header1} {s : Scene} {l : Lane} {o : Option Step} → (step : Step) → o ≡ Some step → RowRings q h s l done step → NextRow q h s l done o
  Shows : {q done : ℕ} {h : Header1} {s : Scene} {l : Lane} {o : Option Step} → (step : Step) → o ≡ Some step → RowShows q h s l done step → NextRow q h s l done o

-- ---- the steps of a fetch

-- the lane with so many steps of its fetch made
abbrev pub fetching : ℕ → Lane → Lane
fetching done l = record l { phase = phases.Fetch done; batch = [] }

-- the counter is stored
pub record FetchCounts (q : ℕ) (h : Header1) (s : Scene) (l : Lane) : Type 0 where
  pub tag : Tag
  pub place : ℕ
  pub bytes : List ℕ
  pub stores : step_items h q (fetching 0 l) steps.Count s ≡ items.Store tag I place bytes ∷ []
  pub queue : QueueFacts q h (noted_at place bytes s) l.driver l.bell l.plan (l.counter + 1) [] (phases.Fetch 1)

-- the request is accepted
pub record FetchAccepts (q : ℕ) (h : Header1) (s : Scene) (l : Lane) : Type 0 where
  pub more : accepted s.past q < length (s.heads q)
  pub tag : Tag
  pub place : ℕ
  pub bytes : List ℕ
  pub stores : step_items h q (fetching 1 l) steps.Accept s ≡ items.Store tag I place bytes ∷ items.Made (entries.Accept q (accepted s.past q)) ∷ []
  pub queue : QueueFacts q h (record (noted_at place bytes s) { past = entries.Accept q (accepted s.past q) ∷ s.past }) l.driver l.bell l.plan l.counter [] phases.Rest

-- ---- the steps of a start

-- the lane with so many steps of its start made
abbrev pub starting : ℕ → Lane → Lane
starting done l = record l { phase = phases.Start done; batch = [] }

-- the steps of its start
abbrev pub steps_in : Header1 → Lane → List Step
steps_in h l = start_steps h.size l.plan l.bell

-- a step with a store
pub record StartStores (q : ℕ) (h : Header1) (s : Scene) (l : Lane) (done : ℕ) (step : Step) : Type 0 where
  pub more : done + 1 < length (steps_in h l)
  pub tag : Tag
  pub place : ℕ
  pub bytes : List ℕ
  pub stores : step_items h q (starting done l) step s ≡ items.Store tag I place bytes ∷ []
  pub counts : (next : ℕ) (x : Lane) → counted next step x ≡ x
  pub queue : QueueFacts q h (noted_at place bytes s) l.driver l.bell l.plan l.counter [] (phases.Start (done + 1))
  -- the counters of the region stay
  pub kept : (d : ℕ) → (region_in h q (noted_at place bytes s)).counter d ≡ (region_in h q s).counter d

-- the step that rings the bell
pub record StartRings (q : ℕ) (h : Header1) (s : Scene) (l : Lane) (done : ℕ) (step : Step) : Type 0 where
  pub more : done + 1 < length (steps_in h l)
  pub rings : step_items h q (starting done l) step s ≡ items.Bell q ∷ []
  pub counts : (next : ℕ) (x : Lane) → counted next step x ≡ x
  pub queue : QueueFacts q h s l.driver l.bell l.plan l.counter [] (phases.Start (done + 1))

-- the last step, with its entry
pub record StartEnds (q : ℕ) (h : Header1) (s : Scene) (l : Lane) (done : ℕ) (step : Step) : Type 0 where
  pub none : length (steps_in h l) ≤ done + 1
  pub starts : step_items h q (starting done l) step s ≡ items.Made (entries.Start q (open_numbers s.past q)) ∷ []
  pub counts : (next : ℕ) (x : Lane) → counted next step x ≡ record x { counter = next }
  pub queue : QueueFacts q h (record s { past = entries.Start q (open_numbers s.past q) ∷ s.past }) l.driver l.bell l.plan (next_counter_in h q s) [] phases.Rest
  pub low : CountsLow q h s → next_counter_in h q s ≤ accepted s.past q

-- the step after so many of a start, with what it leaves
pub data NextStart : ℕ → Header1 → Scene → Lane → ℕ → Option Step → Type 0 where
  Stores : {q done : ℕ} {h : Header1} {s : Scene} {l : Lane} {o : Option Step} → (step : Step) → o ≡ Some step → StartStores q h s l done step → NextStart q h s l done o
  Rings : {q done : ℕ} {h : Header1} {s : Scene} {l : Lane} {o : Option Step} → (step : Step) → o ≡ Some step → StartRings q h s l done step → NextStart q h s l done o
  Ends : {q done : ℕ} {h : Header1} {s : Scene} {l : Lane} {o : Option Step} → (step : Step) → o ≡ Some step → StartEnds q h s l done step → NextStart q h s l done o
