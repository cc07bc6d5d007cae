-- The rows of a publication in its ring lie before every buffer on a split ring, and stores into the in-flight region in another space: they spare the
-- answers.
use Rattle.std.proofs.Common.{◌≤◌, ℕ, ◌+◌, ◌%◌, List, [], ◌++◌, length, map, inl, arith}
use Rattle.std.specs.Prelude.{Option, Some, None, slice_get, option_map}
use Rattle.byteorder.specs.Endian.{little_bytes}
use Rattle.vub_base.specs.declared.header.Header1.{Header1}
use Rattle.vub_base.specs.declared.store.Tag.{Tag}
use Rattle.vub_base.specs.declared.store.Tag.TheVariants.{SI1, SI2, SI3, SR1, SR2, SF1, SF2, SP1, SP2, SP5, SP7}
use Rattle.vub_base.specs.declared.store.Area.TheVariants.{M, I}
use Rattle.std.specs.Option.{option_or}
use Rattle.vub_steps.specs.Rows.{Row, row, region_row}
use Rattle.vub_steps.specs.declared.steps.Step.{Step}
use Rattle.vub_steps.specs.declared.steps.Step.TheVariants as steps
use Rattle.vub_ring.specs.Ring.{used_id_place, used_idx, used_idx_place, used_len_place}
use Rattle.vub_driver.specs.Layout.{area_place}
use Rattle.vub_report.specs.declared.items.Item.TheVariants as items
use Rattle.vub_run.specs.Before.{BeforeEach}
use Rattle.vub_run.specs.Memory.{Scene}
use Rattle.vub_run.specs.Moments.{Lane, used_in, region_in, next_head}
use Rattle.vub_shared.specs.Stores.{Store}
use Rattle.vub_infl_split.specs.declared.region.SplitStore.TheVariants as region
use Rattle.vub_infl_split.specs.declared.region.SplitStore.{SplitStore}
use Rattle.vub_infl_split.specs.Stores.{store_of, tag_of}
use Rattle.vub_run.specs.Spared.{IsSparing}
use Rattle.vub_run.specs.Turns.{step_items, row_items, sight_of, element_of}
use Rattle.vub_run_laws.proofs.RingGood.{the_ring, the_region}
use Rattle.vub_run_laws.proofs.RunGood.{IsSize}
use Rattle.vub_run_laws.proofs.RunFrames.{below_buffers, off_spares, length_little}
use Rattle.vub_run_laws.proofs.RingFrames.{entry_small}

row_spares : (q : ℕ) (s : Scene) (tag : Tag) (p : ℕ) (bs : List ℕ) → p + length bs ≤ area_place q + 65536 → IsSparing q s (items.Store tag M p bs)
row_spares q s tag p bs before = off_spares q s tag p bs (λ k out. below_buffers q (s.heads q) k p bs before)

-- a store into the in-flight region is in another space
note_spares : (q : ℕ) (s : Scene) (tag : Tag) (st : Store) → IsSparing q s (items.Store tag I st.place st.bytes)
note_spares q s tag st = λ other k out. inl (λ e. omega (arith, e))

-- the row of an element of a batch, if there is one
element_spares : (q : ℕ) (h : Header1) (s : Scene) (f : ℕ × ℕ → Row) (o : Option (ℕ × ℕ)) → ((x : ℕ × ℕ) → IsSparing q s (items.Store (f x).tag (f x).area (f x).store.place (f x).store.bytes)) → BeforeEach h (IsSparing q) s ((row_items (option_or (option_map f o) None) ++ []) ++ [])
element_spares q h s f None each = tt
element_spares q h s f (Some x) each = (each x, tt)

note_element_spares : (q : ℕ) (h : Header1) (s : Scene) (f : ℕ × ℕ → SplitStore) (o : Option (ℕ × ℕ)) → BeforeEach h (IsSparing q) s ((row_items (option_map (region_row (the_region q h.size)) (option_map f o)) ++ []) ++ [])
note_element_spares q h s f None = tt
note_element_spares q h s f (Some x) = (note_spares q s (tag_of (f x)) (store_of (the_region q h.size) (f x)), tt)

pub step_spares : (q : ℕ) (h : Header1) (l : Lane) (step : Step) (s : Scene) → IsSize h.size → BeforeEach h (IsSparing q) s (step_items h q l step s)
step_spares q h l steps.Features s size = (note_spares q s SI1 (store_of (the_region q h.size) region.SI1), tt)
step_spares q h l (steps.Free i) s size = (note_spares q s SI2 (store_of (the_region q h.size) (region.SI2 i)), tt)
step_spares q h l steps.Open s size = (note_spares q s SI3 (store_of (the_region q h.size) (region.SI3 (used_in h q s))), tt)
step_spares q h l (steps.Settle i) s size = (note_spares q s SR1 (store_of (the_region q h.size) (region.SR1 (sight_of h q s l).link)), tt)
step_spares q h l steps.SettleEnd s size = (note_spares q s SR2 (store_of (the_region q h.size) (region.SR2 (used_in h q s))), tt)
step_spares q h l steps.Bell s size = (tt, tt)
step_spares q h l steps.Start s size = (tt, tt)
step_spares q h l steps.Count s size = (note_spares q s SF1 (store_of (the_region q h.size) (region.SF1 (next_head h q s) l.counter)), tt)
step_spares q h l steps.Accept s size = (note_spares q s SF2 (store_of (the_region q h.size) (region.SF2 (next_head h q s))), (tt, tt))
step_spares q h l (steps.Link e) s size = note_element_spares q h s (λ x. region.SP3 x.0 (region_in h q s).last_batch_head) (slice_get (map (element_of h q s) l.batch) e)
step_spares q h l (steps.Head e) s size = note_element_spares q h s (λ x. region.SP4 x.0) (slice_get (map (element_of h q s) l.batch) e)
step_spares q h l (steps.Clear e) s size = note_element_spares q h s (λ x. region.SP6 x.0) (slice_get (map (element_of h q s) l.batch) e)
step_spares q h l steps.Note s size = (note_spares q s SP7 (store_of (the_region q h.size) (region.SP7 (used_in h q s))), tt)
step_spares q h l (steps.Id e) s size =
    let i : ℕ = used_idx (the_ring q h.size) s.memory + e in
    let p : ℕ = used_id_place (the_ring q h.size) i in
    let small = entry_small h.size i size in
    element_spares q h s (λ x. row (the_ring q h.size) SP1 p (little_bytes 4 x.0)) (slice_get (map (element_of h q s) l.batch) e) (λ x. row_spares q s SP1 p (little_bytes 4 x.0) (omega (arith, length_little 4 x.0)))
step_spares q h l (steps.Len e) s size =
    let i : ℕ = used_idx (the_ring q h.size) s.memory + e in
    let p : ℕ = used_len_place (the_ring q h.size) i in
    let small = entry_small h.size i size in
    element_spares q h s (λ x. row (the_ring q h.size) SP2 p (little_bytes 4 x.1)) (slice_get (map (element_of h q s) l.batch) e) (λ x. row_spares q s SP2 p (little_bytes 4 x.1) (omega (arith, length_little 4 x.1)))
step_spares q h l steps.Index s size =
    let v : ℕ = (used_idx (the_ring q h.size) s.memory + length (map (element_of h q s) l.batch)) % 65536 in
    (row_spares q s SP5 (used_idx_place (the_ring q h.size)) (little_bytes 2 v) (omega (arith, length_little 2 v)), (tt, tt))
