-- What holds of a split ring and of its driver at every moment of a run.
use Rattle.std.proofs.Common.{◌≡◌, ◌≢◌, ◌≤◌, ◌<◌, ℕ, ◌⊎◌, ◌+◌, ◌*◌, ◌%◌, Bool, List, [], ◌∷◌, ◌++◌, length, map}
use Rattle.std.specs.Prelude.{Option, Some, None, slice_index, ⊤}
use Rattle.std.specs.List.{AllByRecursion}
use Rattle.byteorder.specs.Endian.{little_bytes}
use Rattle.vub_base.specs.declared.header.Header1.{Header1}
use Rattle.vub_shared.specs.Bytes.{Bytes}
use Rattle.vub_shared.specs.Stores.{Store, one_store}
use Rattle.vub_steps.specs.declared.steps.Phase.{Phase}
use Rattle.vub_ring.specs.Ring.{Ring, avail_idx, avail_idx_place, used_idx, head_at, element_at}
use Rattle.vub_driver.specs.Drivers.{Driver, Waiting}
use Rattle.vub_driver.specs.Layout.{ring_of, area_place}
use Rattle.vub_driver.specs.Stores.{offer_stores}
use Rattle.vub_device.specs.Past.{started, accepted, published, collected, IsOpen}
use Rattle.vub_device.specs.Requests.{request_of}
use Rattle.vub_device.specs.declared.entry.Entry.{Entry}
use Rattle.vub_run.specs.Memory.{Scene}
use Rattle.vub_infl_split.specs.declared.region.SplitRegion.{SplitRegion}
use Rattle.vub_steps.specs.declared.steps.Plan.{Plan}
use Rattle.vub_run.specs.Moments.{Moment, region_of, open_heads, region_in}
use Rattle.vub_run.specs.Turns.{element_of}
use Rattle.vub_facts.specs.Facts.{Side, Facts, words_at}
use Rattle.vub_run_laws.proofs.RunGood.{IsWide, IsOut, StartIs, spot}

abbrev pub the_ring : ℕ → ℕ → Ring
the_ring q n = ring_of q n

pub record Ringed (q n base : ℕ) (past : List Entry) (heads : List ℕ) (m : Bytes) : Type 0 where
  pub avail_idx_is : avail_idx (the_ring q n) m ≡ (base + length heads) % 65536
  pub used_idx_is : used_idx (the_ring q n) m ≡ (base + length (published past q)) % 65536
  pub avail_at : (i : ℕ) → accepted past q ≤ i → i < length heads → head_at (the_ring q n) m (base + i) ≡ slice_index heads i
  pub used_at : (i : ℕ) → collected past q ≤ i → i < length (published past q) → element_at (the_ring q n) m (base + i) ≡ spot q heads past (slice_index (published past q) i)

-- the store of avail.idx, which offers
abbrev pub index_store : Ring → ℕ → Store
index_store r index = one_store r.avail_space (avail_idx_place r) (little_bytes 2 ((index + 1) % 65536))

-- a store into the descriptor table, or into the buffer of that head
pub record IsHarmless (q head : ℕ) (st : Store) : Type 0 where
  pub space : st.space ≡ 0
  pub lies : ((area_place q ≤ st.place) × (st.place + length st.bytes ≤ area_place q + 4096)) ⊎ ((area_place q + (65536 + 8192 * head) ≤ st.place) × (st.place + length st.bytes ≤ area_place q + (65536 + 8192 * head) + 8192))

-- the stores of a request up to its offer
pub record IsPlan (q n index head : ℕ) (left : List Store) : Type 0 where
  pub first : List Store
  pub few : length first ≤ 14
  pub harmless : AllByRecursion (IsHarmless q head) first
  pub whole : left ≡ first ++ offer_stores (the_ring q n) index head

-- the store of avail.idx alone is left
abbrev pub IsLast : ℕ → ℕ → ℕ → List Store → Type 0
IsLast q n index left = left ≡ index_store (the_ring q n) index ∷ []

-- what is left of a request's stores: some before the offer's two and these, or the last alone
abbrev pub IsLeft : ℕ → ℕ → ℕ → ℕ → List Store → Type 0
IsLeft q n index head left = IsPlan q n index head left ⊎ IsLast q n index left

pub record IsWaiting (q n cap : ℕ) (past : List Entry) (heads : List ℕ) (v : Driver) (w : Waiting) : Type 0 where
  pub wide : IsWide cap (Some (request_of w.ask))
  pub below : w.head < n
  pub mine : v.owner w.head ≡ Some w.head
  pub apart : (k : ℕ) → IsOut q past heads k → slice_index heads k ≢ w.head
  pub plan : IsLeft q n v.avail_idx w.head w.left

abbrev pub WaitsWell : ℕ → ℕ → ℕ → List Entry → List ℕ → Driver → Option Waiting → Type 0
WaitsWell q n cap past heads v None = ⊤
WaitsWell q n cap past heads v (Some w) = IsWaiting q n cap past heads v w

pub record Driven (q n cap base : ℕ) (past : List Entry) (heads : List ℕ) (v : Driver) : Type 0 where
  pub index : v.avail_idx ≡ (base + length heads) % 65536
  pub below : (k : ℕ) → IsOut q past heads k → slice_index heads k < n
  pub owned : (k : ℕ) → IsOut q past heads k → v.owner (slice_index heads k) ≡ Some (slice_index heads k)
  pub apart : (j k : ℕ) → IsOut q past heads j → IsOut q past heads k → slice_index heads j ≡ slice_index heads k → j ≡ k
  pub waits : WaitsWell q n cap past heads v v.waiting

-- where avail.idx alone is left to store, the entry before it names the head
abbrev pub EntryWell : ℕ → ℕ → ℕ → Bytes → Option Waiting → Type 0
EntryWell q n index m None = ⊤
EntryWell q n index m (Some w) = length w.left ≡ 1 → head_at (the_ring q n) m index ≡ w.head

abbrev pub the_region : ℕ → ℕ → SplitRegion
the_region q n = region_of q n

-- what a queue has under way
abbrev pub side_of : ℕ → Header1 → Scene → Bool → Plan → ℕ → List ℕ → Phase → Side
side_of q h s bell plan counter batch phase = record { started = started s.past q; bell = bell; phase = phase; plan = plan; counter = counter; batch = map (element_of h q s) batch }

-- the facts of its words, for the heads of its open requests
abbrev pub WordsAt : ℕ → Header1 → Scene → Bool → Plan → ℕ → List ℕ → Phase → Type 0
WordsAt q h s bell plan counter batch phase = Facts h.size (open_heads q s.past (s.heads q)) h.base (side_of q h s bell plan counter batch phase) (words_at (the_ring q h.size) (the_region q h.size) s.memory)

-- the ring, the slots of the driver, the words of what is under way, and its start
pub record QueueFacts (q : ℕ) (h : Header1) (s : Scene) (v : Driver) (bell : Bool) (plan : Plan) (counter : ℕ) (batch : List ℕ) (phase : Phase) : Type 0 where
  pub ringed : Ringed q h.size h.base s.past (s.heads q) s.memory
  pub driven : Driven q h.size h.capacity h.base s.past (s.heads q) v
  pub words : WordsAt q h s bell plan counter batch phase
  pub start : StartIs (started s.past q) h.size bell plan phase

-- the counter of each open request is below the number of accepted ones
abbrev pub CountsLow : ℕ → Header1 → Scene → Type 0
CountsLow q h s = (k : ℕ) → IsOpen s.past q k → (region_in h q s).counter (slice_index (s.heads q) k) < accepted s.past q

-- where the last store alone is left of a request, those before it stand
abbrev pub LastStands : ℕ → Header1 → Scene → Waiting → Type 0
LastStands q h s w = EntryWell q h.size (h.base + length (s.heads q)) s.memory (Some w)

-- the entry of the next offer, at a moment
abbrev pub EntryStands : ℕ → Header1 → Moment → Type 0
EntryStands q h m = EntryWell q h.size (h.base + length (m.scene.heads q)) m.scene.memory (m.lanes q).driver.waiting

abbrev pub offered_by : Driver → Driver
offered_by v = record v { avail_idx = (v.avail_idx + 1) % 65536; waiting = None }
