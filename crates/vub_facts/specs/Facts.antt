-- What holds of the words of a queue in each phase, wherever it lies. The open requests are known by their heads, in the
-- order in which they were accepted: no history, no number of a request and no driver occurs in it.
use Rattle.std.specs.Prelude.{◌≡◌, ◌<◌, ◌≤◌, ℕ, ◌+◌, ◌*◌, ◌%◌, Bool, true, false, not, List, [], ◌∷◌, ◌++◌, length, map, filter, get_or, Option, Some, None, ⊤}
use Rattle.vub_shared.specs.Bytes.{Bytes, Apart}
use Rattle.vub_shared.specs.Stores.{Store, after_store}
use Rattle.vub_ring.specs.Ring.{Ring, ahead}
use Rattle.vub_split.specs.Words.{RingWords, IsRingSize, RingFits, OffAvail, OffUsed, avail_bytes, used_bytes, with_entry}
use Rattle.vub_split.specs.Words as ring
use Rattle.vub_infl_split.specs.declared.region.SplitRegion.{SplitRegion}
use Rattle.vub_infl_split.specs.declared.region.SplitStore.{SplitStore}
use Rattle.vub_infl_split.specs.Region.{RegionWords, OffRegion, region_size}
use Rattle.vub_infl_split.specs.Region as region
use Rattle.vub_infl_split.specs.Stores as region_stores
use Rattle.vub_region_facts.specs.Phases.{InLife, NotStarted}
use Rattle.vub_device.specs.Past.{is_among}
use Rattle.vub_device.specs.Places.{are_distinct}
use Rattle.vub_steps.specs.declared.steps.Phase.{Phase}
use Rattle.vub_steps.specs.declared.steps.Phase.TheVariants as phases
use Rattle.vub_steps.specs.declared.steps.Plan.{Plan}
use Rattle.vub_steps.specs.declared.steps.Step.{Step}
use Rattle.vub_steps.specs.declared.steps.Step.TheVariants as steps
use Rattle.vub_steps.specs.Steps.{Course, publish_steps, done_of, next_step, after_step}
use Rattle.vub_steps.specs.Rows.{Row, Sight, region_store}
use Rattle.vub_inflight.specs.Entries.{next_counter}
use Rattle.vub_infl_split.specs.Readings.{open_entries}
use Rattle.vub_inflight.specs.Links.{link_at}

-- ---- what a queue has under way

-- of a lane of a run, and of the state of the code
pub record Side : Type 0 where
  pub started : Bool
  pub bell : Bool
  pub phase : Phase
  -- what its start found
  pub plan : Plan
  -- the counter of the request that is accepted next
  pub counter : ℕ
  -- head and used length of each request that is being published
  pub batch : List (ℕ × ℕ)

abbrev pub heads_in : List (ℕ × ℕ) → List ℕ
heads_in elements = map (λ (x : ℕ × ℕ). x.0) elements

-- the heads that aren't among these
abbrev pub without : List ℕ → List ℕ → List ℕ
without those heads = filter (λ h. not (is_among those h)) heads

-- ---- where it lies

-- the ring has a lawful size, the region is of that size, and no two of avail ring, used ring and region share a byte
pub record Lies (r : Ring) (g : SplitRegion) : Type 0 where
  pub size : IsRingSize r.size
  pub same_size : g.size ≡ r.size
  pub fits : RingFits r
  pub off_avail : Apart g.space.number g.place (region_size g.size) r.avail_space r.avail (avail_bytes r)
  pub off_used : Apart g.space.number g.place (region_size g.size) r.used_space r.used (used_bytes r)

-- a store touches none of its words
pub record Elsewhere (r : Ring) (g : SplitRegion) (st : Store) : Type 0 where
  pub avail : OffAvail r st
  pub used : OffUsed r st
  pub region : OffRegion g st

-- ---- its words

pub record Words : Type 0 where
  pub ring : RingWords
  pub region : RegionWords

abbrev pub words_at : Ring → SplitRegion → Bytes → Words
words_at r g m = record { ring = ring.words_of r m; region = region.words_of g m }

-- the head in the avail entry that is fetched next
abbrev pub head_next : List ℕ → Words → ℕ
head_next heads w = w.ring.heads (w.ring.used + length heads)

-- ---- the facts

-- a fetch of which so many steps were made: something waits at the avail position, whose head is a free one of n, and until
-- its counter is stored a counter is left
pub record InFetching (n : ℕ) (heads : List ℕ) (counter : ℕ) (batch : List (ℕ × ℕ)) (done : ℕ) (w : Words) : Type 0 where
  pub none : batch ≡ []
  pub waits : 0 < ahead w.ring.avail (w.ring.used + length heads)
  pub left : done < 2
  pub below : head_next heads w < n
  pub free : is_among heads (head_next heads w) ≡ false
  pub low : done ≡ 0 → counter < 18446744073709551615

-- so many steps of a publication were made, and used.idx isn't stored
abbrev pub IsUnshown : List (ℕ × ℕ) → ℕ → Type 0
IsUnshown batch done = done ≤ 4 * length batch

-- the batch of a publication of which so many steps were made: a step is left, and its heads are open until it is shown
pub record InBatch (n : ℕ) (heads : List ℕ) (bell : Bool) (batch : List (ℕ × ℕ)) (done : ℕ) : Type 0 where
  pub some : 0 < length batch
  pub few : length batch ≤ n
  pub distinct : are_distinct (heads_in batch) ≡ true
  pub below : (h : ℕ) → is_among (heads_in batch) h ≡ true → h < n
  pub left : done < length (publish_steps (length batch) bell)
  pub opens : IsUnshown batch done → (h : ℕ) → is_among (heads_in batch) h ≡ true → is_among heads h ≡ true

-- id and length of its first elements stand after used.idx until it is shown
pub record IsBuilt (w : Words) (batch : List (ℕ × ℕ)) (done : ℕ) : Type 0 where
  pub ids : (e : ℕ) → e < length batch → 4 * e < done → IsUnshown batch done → (w.ring.elements (w.ring.used + e)).0 ≡ (get_or batch e (0, 0)).0
  pub lens : (e : ℕ) → e < length batch → 4 * e + 1 < done → IsUnshown batch done → (w.ring.elements (w.ring.used + e)).1 ≡ (get_or batch e (0, 0)).1

abbrev pub BatchFacts : ℕ → List ℕ → Side → Words → Phase → Type 0
BatchFacts n heads x w (phases.Publish done) = InBatch n heads x.bell x.batch done × IsBuilt w x.batch done
BatchFacts n heads x w (phases.Fetch done) = InFetching n heads x.counter x.batch done w
BatchFacts n heads x w phase = x.batch ≡ []

-- of a queue of n places whose ring began at the base
pub record Facts (n : ℕ) (heads : List ℕ) (base : ℕ) (x : Side) (w : Words) : Type 0 where
  pub used_fits : w.ring.used < 65536
  pub not_started : x.started ≡ false → NotStarted n w.ring.used heads base x.plan x.phase w.region
  pub in_life : x.started ≡ true → InLife n w.ring.used (head_next heads w) x.counter heads (heads_in x.batch) x.phase w.region
  pub batch : BatchFacts n heads x w x.phase

-- ---- a step

-- what determines its steps, on a queue of n descriptors
abbrev pub course_in : ℕ → Side → Course
course_in n x = record { size = n; plan = x.plan; bell = x.bell; batch = length x.batch }

-- a start comes first, and then fetches and publications
abbrev pub IsInPhase : Bool → Phase → Type 0
IsInPhase started (phases.Start done) = started ≡ false
IsInPhase started phases.Rest = ⊤
IsInPhase started phase = started ≡ true

-- the step comes next
pub record IsDue (n : ℕ) (step : Step) (x : Side) : Type 0 where
  pub in_phase : IsInPhase x.started x.phase
  pub next : next_step (course_in n x) x.phase ≡ Some step

-- the counter after a start, where this is one more than the greatest one open; it rises where it is stored
abbrev pub counted : ℕ → Step → Side → Side
counted next steps.Start x = record x { started = true; counter = next }
counted next steps.Count x = record x { counter = x.counter + 1 }
counted next step x = x

-- the phase goes on, and nothing is left of the batch at its end
abbrev pub with_phase : Phase → Side → Side
with_phase phases.Rest x = record x { phase = phases.Rest; batch = [] }
with_phase p x = record x { phase = p }

-- what is under way after it
abbrev pub side_after : ℕ → ℕ → Step → Side → Side
side_after n next step x = with_phase (after_step (course_in n x) x.phase) (counted next step x)

-- one more than the greatest counter that is open, or 0
abbrev pub next_counter_in : ℕ → Words → ℕ
next_counter_in n w = next_counter (open_entries n w.ring.used w.region)

-- the open heads after it: the one that is accepted joins them, those of a batch that is shown leave
abbrev pub heads_after : Step → ℕ → List (ℕ × ℕ) → List ℕ → List ℕ
heads_after steps.Accept head batch heads = heads ++ head ∷ []
heads_after steps.Index head batch heads = without (heads_in batch) heads
heads_after step head batch heads = heads

-- the words with this element after used.idx
abbrev pub with_element : Ring → ℕ → ℕ × ℕ → Words → Words
with_element r e x w = record w { ring = record w.ring { elements = with_entry r (w.ring.used + e) x w.ring.elements } }

-- the words after a store into the region
abbrev pub with_stored : ℕ → Option SplitStore → Words → Words
with_stored n None w = w
with_stored n (Some x) w = record w { region = region_stores.words_after n x w.region }

-- the words after its store, where it sees this
abbrev pub words_after : Ring → Sight → Step → Words → Words
words_after r s (steps.Id e) w = with_element r e ((get_or s.batch e (0, 0)).0, (w.ring.elements (w.ring.used + e)).1) w
words_after r s (steps.Len e) w = with_element r e ((w.ring.elements (w.ring.used + e)).0, (get_or s.batch e (0, 0)).1) w
words_after r s steps.Index w = record w { ring = record w.ring { used = (w.ring.used + length s.batch) % 65536 } }
words_after r s step w = with_stored r.size (region_store s step) w

-- what the next step sees
abbrev pub sight : List ℕ → Side → Words → Sight
sight heads x w = record {
  used = w.ring.used;
  last_batch_head = w.region.last_batch_head;
  link = link_at w.region.next (done_of x.phase) w.region.last_batch_head;
  head = head_next heads w;
  counter = x.counter;
  batch = x.batch;
}

-- memory after the store of a row
abbrev pub after_row : Option Row → Bytes → Bytes
after_row None m = m
after_row (Some x) m = after_store x.store m

-- heads and lengths of a batch fit their words
pub record ElementsFit (batch : List (ℕ × ℕ)) : Type 0 where
  pub ids : (e : ℕ) → e < length batch → (get_or batch e (0, 0)).0 < 4294967296
  pub lens : (e : ℕ) → e < length batch → (get_or batch e (0, 0)).1 < 4294967296
