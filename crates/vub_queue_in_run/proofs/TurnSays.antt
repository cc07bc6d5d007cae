-- What a turn of a phase says and makes in a run: its row, and the items that it adds.
use Rattle.std.proofs.Common.{◌≡◌, ◌≤◌, ℕ, ◌+◌, ◌*◌, List, [], ◌∷◌, length, refl, arith}
use Rattle.std.specs.Prelude.{map, Option, Some, None}
use Rattle.byteorder.specs.Endian.{little_bytes}
use Rattle.vub_base.specs.declared.header.Header1.{Header1}
use Rattle.vub_base.specs.declared.store.Tag.{Tag}
use Rattle.vub_base.specs.declared.store.Tag.TheVariants.{SF2, SP5}
use Rattle.vub_base.specs.declared.store.Area.TheVariants.{M}
use Rattle.vub_device.specs.declared.entry.Entry.TheVariants as entries
use Rattle.vub_device.specs.Past.{accepted, open_numbers}
use Rattle.vub_report.specs.declared.items.Item.{Item}
use Rattle.vub_report.specs.declared.items.Item.TheVariants as items
use Rattle.vub_ring.specs.Ring.{Ring}
use Rattle.vub_infl_split.specs.declared.region.SplitStore.{SplitStore}
use Rattle.vub_infl_split.specs.declared.region.SplitStore.TheVariants.{SI1, SI2, SI3, SR1, SR2, SF1, SF2 as SplitSF2, SP3, SP4, SP6, SP7}
use Rattle.vub_steps.specs.declared.readiness.Turn.{Turn}
use Rattle.vub_steps.specs.Rows.{Row, row, region_row}
use Rattle.vub_driver.specs.Layout.{area_place}
use Rattle.vub_queue.specs.declared.queue.Stepped.{Stepped}
use Rattle.vub_queue.specs.declared.queue.Stepped.TheVariants as says
use Rattle.vub_run.specs.Memory.{Scene, space_of, after_items}
use Rattle.vub_run.specs.Moments.{Moment, region_of}
use Rattle.vub_run.specs.Turns.{turned, answer_at}
use Rattle.vub_run_laws.proofs.RunFrames.{length_little}

-- ---- a row

-- the item of its store
abbrev pub row_item : Row → Item
row_item y = items.Store y.tag y.area y.store.place y.store.bytes

-- it lies in the space of its area, and has few bytes
pub record RowFits (y : Row) : Type 0 where
  pub space : y.store.space ≡ space_of y.area
  pub few : length y.store.bytes ≤ 512

pub region_fits : (q n : ℕ) (x : SplitStore) → RowFits (region_row (region_of q n) x)
region_fits q n SI1 = record { space = refl; few = omega (arith, length_little 8 0) }
region_fits q n (SI2 i) = record { space = refl; few = omega (arith, length_little 1 0) }
region_fits q n (SI3 used) = record { space = refl; few = omega (arith, length_little 8 (1 + 65536 * (n + 65536 * (0 + 65536 * used)))) }
region_fits q n (SR1 i) = record { space = refl; few = omega (arith, length_little 1 0) }
region_fits q n (SR2 used) = record { space = refl; few = omega (arith, length_little 2 used) }
region_fits q n (SF1 i counter) = record { space = refl; few = omega (arith, length_little 8 counter) }
region_fits q n (SplitSF2 i) = record { space = refl; few = omega (arith, length_little 1 1) }
region_fits q n (SP3 i next) = record { space = refl; few = omega (arith, length_little 2 next) }
region_fits q n (SP4 head) = record { space = refl; few = omega (arith, length_little 2 head) }
region_fits q n (SP6 i) = record { space = refl; few = omega (arith, length_little 1 0) }
region_fits q n (SP7 used) = record { space = refl; few = omega (arith, length_little 2 used) }

pub ring_fits : (r : Ring) (tag : Tag) (place width value : ℕ) → r.used_space ≡ 0 → width ≤ 512 → RowFits (row r tag place (little_bytes width value))
ring_fits r tag place width value space few = record { space = space; few = omega (arith, few, length_little width value) }

-- ---- a turn

-- it stores this row, and makes these items
pub record StoresRow (q : ℕ) (h : Header1) (m : Moment) (turn : Turn) (x what : Stepped) (row : Option Row) (y : Row) (more : List Item) : Type 0 where
  pub is_row : row ≡ Some y
  pub fits : RowFits y
  pub said : x ≡ what
  pub made : (turned h q turn m).items ≡ row_item y ∷ more

-- it stores nothing, and makes this item
pub record StoresNone (q : ℕ) (h : Header1) (m : Moment) (turn : Turn) (x what : Stepped) (row : Option Row) (item : Item) : Type 0 where
  pub is_row : row ≡ None
  pub said : x ≡ what
  pub made : (turned h q turn m).items ≡ item ∷ []

-- the scene after the store of a row
abbrev pub after_stored : Header1 → Row → Scene → Scene
after_stored h y s = after_items h (row_item y ∷ []) s

-- the row that stores used.idx, before all buffers of the queue
pub record ShowsRow (q : ℕ) (y : Row) : Type 0 where
  pub tag : y.tag ≡ SP5
  pub area : y.area ≡ M
  pub low : y.store.place + length y.store.bytes ≤ area_place q + 65536

-- a store; the acceptance of the head that waits longest, and the publication of a batch, each with its store; the bell; the end of a start
pub data TurnSays (q : ℕ) (h : Header1) (m : Moment) (turn : Turn) (x : Stepped) (row : Option Row) (head : ℕ) (batch : List ℕ) : Type 0 where
  Notes : (y : Row) → StoresRow q h m turn x (says.Stored y.tag) row y [] → TurnSays q h m turn x row head batch
  Accepts : (y : Row) → y.tag ≡ SF2 → StoresRow q h m turn x (says.Accepted head) row y (items.Made (entries.Accept q (accepted m.scene.past q)) ∷ []) → TurnSays q h m turn x row head batch
  Publishes : (y : Row) → ShowsRow q y → StoresRow q h m turn x says.Published row y (items.Made (entries.Publish q (map (answer_at q (after_stored h y m.scene)) batch)) ∷ []) → TurnSays q h m turn x row head batch
  Rings : StoresNone q h m turn x says.Belled row (items.Bell q) → TurnSays q h m turn x row head batch
  Starts : StoresNone q h m turn x says.Started row (items.Made (entries.Start q (open_numbers m.scene.past q))) → TurnSays q h m turn x row head batch
