-- Memory and history agree.
use Rattle.std.specs.Prelude.{◌≡◌, ◌≢◌, ◌<◌, ◌⊎◌, ℕ, ◌+◌, ◌==◌, if◌then◌else◌, List, [], ◌∷◌, ◌++◌, map, drop, slice_index, Option, Some, None, ⊤}
use Rattle.vub_base.specs.declared.header.Header1.{Header1}
use Rattle.vub_ring.specs.Ring.{seen, waiting}
use Rattle.vub_driver.specs.Layout.{ring_of}
use Rattle.vub_device.specs.declared.entry.Answered.{Answered}
use Rattle.vub_device.specs.declared.entry.Asked.{Asked}
use Rattle.vub_device.specs.declared.entry.Entry.{Entry}
use Rattle.vub_device.specs.declared.entry.Entry.TheVariants.{Publish, Offer, Accept, Power}
use Rattle.vub_device.specs.Past.{asked, accepted, collected}
use Rattle.vub_report.specs.declared.items.Item.{Item}
use Rattle.vub_report.specs.declared.items.Item.TheVariants as items
use Rattle.vub_report.specs.declared.items.Record.{Record}
use Rattle.vub_run.specs.Memory.{Scene, opening_scene, after_item, after_items}
use Rattle.vub_base.specs.declared.pending.Pending.{Pending}
use Rattle.vub_base.specs.declared.reading.Reading.{Reading}
use Rattle.vub_base.specs.declared.reading.Reading.TheVariants.{Damaged}
use Rattle.vub_base.specs.declared.reading.RegionFault.{RegionFault}
use Rattle.vub_inflight.specs.Entries.{heads_of}
use Rattle.vub_infl_split.specs.Readings.{split_reading, split_entries}
use Rattle.vub_run.specs.Moments.{used_in, region_in, avail_position, open_heads}
use Rattle.vub_steps.specs.Tasks.{used_len}

-- the answers that were published on a queue since the last power stop, in order
abbrev pub answers : List Entry → ℕ → List Answered
answers [] q = []
answers (Publish p list ∷ past) q = if p == q then answers past q ++ list else answers past q
answers (Power image ∷ past) q = []
answers (e ∷ past) q = answers past q

abbrev pub answered_len : ℕ → Option Asked → ℕ
answered_len status None = 0
answered_len status (Some request) = used_len status request

-- the used element of an answer: the head of its request, and its used length
abbrev pub element : ℕ → Scene → Answered → ℕ × ℕ
element q s a = (slice_index (s.heads q) a.number, answered_len a.status (asked s.past q a.number))

-- what is read of the in-flight region of a queue, and the open entries that go with it
abbrev pub reading_of : Header1 → ℕ → Scene → Reading
reading_of h q s = split_reading h.size (used_in h q s) (region_in h q s)

abbrev pub entries_read : Header1 → ℕ → Scene → List Pending
entries_read h q s = split_entries h.size (used_in h q s) (region_in h q s)

-- The region is read as the open requests: it has no damage, and its entries are those under whose heads the open numbers
-- were offered, in order. One that was never made has none.
pub record ReadsOpen (h : Header1) (q : ℕ) (s : Scene) : Type 0 where
  pub undamaged : (fault : RegionFault) → reading_of h q s ≢ Damaged fault
  pub heads : heads_of (entries_read h q s) ≡ open_heads q s.past (s.heads q)

-- The in-flight region is read as the open requests. What the driver sees from its position on is one element for each
-- published and not collected number, in order. What waits from the avail position on are the offers that aren't accepted, in
-- order.
pub record Tracks (h : Header1) (q : ℕ) (s : Scene) : Type 0 where
  pub reads : ReadsOpen h q s
  pub sees : seen (ring_of q h.size) s.memory (h.base + collected s.past q) ≡ map (element q s) (drop (collected s.past q) (answers s.past q))
  pub waits : waiting (ring_of q h.size) s.memory (avail_position h q s) ≡ drop (accepted s.past q) (s.heads q)

abbrev pub EveryTracks : Header1 → Scene → Type 0
EveryTracks h s = (q : ℕ) → q < h.queues → Tracks h q s

-- a store and the offer, acceptance or publication that it makes count as one
abbrev pub GoesWithNext : Item → List Item → Type 0
GoesWithNext (items.Store tag area place bytes) (items.Made (Offer q request) ∷ is) = ⊤
GoesWithNext (items.Store tag area place bytes) (items.Made (Accept q k) ∷ is) = ⊤
GoesWithNext (items.Store tag area place bytes) (items.Made (Publish q list) ∷ is) = ⊤
GoesWithNext i is = ⊥

-- a fact after each item, taken together with the entry that it makes
abbrev pub AfterEach : Header1 → (Scene → Type 0) → Scene → List Item → Type 0
AfterEach h P s [] = ⊤
AfterEach h P s (i ∷ is) = (GoesWithNext i is ⊎ P (after_item h i s)) × AfterEach h P (after_item h i s) is

-- memory and history agree on every queue, through all of these records
abbrev pub TracksFrom : Header1 → Scene → List Record → Type 0
TracksFrom h s [] = ⊤
TracksFrom h s (r ∷ rs) = AfterEach h (EveryTracks h) s r.items × TracksFrom h (after_items h r.items s) rs

abbrev pub TracksAlways : Header1 → List Record → Type 0
TracksAlways h records = TracksFrom h (opening_scene h) records
