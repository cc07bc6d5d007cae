-- The items of a step are neither a store of a driver nor an offer, on a split ring.
use Rattle.std.proofs.Common.{ℕ, ◌+◌, [], ◌++◌, refl, map}
use Rattle.std.specs.Prelude.{Option, Some, None, slice_get, option_map}
use Rattle.byteorder.specs.Endian.{little_bytes}
use Rattle.vub_base.specs.declared.header.Header1.{Header1}
use Rattle.vub_base.specs.declared.store.Tag.TheVariants.{SP1, SP2}
use Rattle.vub_base.specs.declared.store.Area.TheVariants.{I}
use Rattle.std.specs.Option.{option_or}
use Rattle.vub_infl_split.specs.declared.region.SplitStore.{SplitStore}
use Rattle.vub_infl_split.specs.declared.region.SplitStore.TheVariants.{SP3, SP4, SP6}
use Rattle.vub_infl_split.specs.Stores.{store_of, tag_of}
use Rattle.vub_report.specs.declared.items.Item.TheVariants as items
use Rattle.vub_steps.specs.Rows.{Row, row, region_row}
use Rattle.vub_steps.specs.declared.steps.Step.{Step}
use Rattle.vub_steps.specs.declared.steps.Step.TheVariants as steps
use Rattle.vub_ring.specs.Ring.{used_id_place, used_len_place}
use Rattle.vub_run.specs.Memory.{Scene}
use Rattle.vub_run.specs.Moments.{Lane, used_in, region_in}
use Rattle.vub_run.specs.Turns.{step_items, row_items, element_of}
use Rattle.vub_run_laws.proofs.RingGood.{the_ring, the_region}
use Rattle.vub_run_laws.proofs.RunItems.{IsQuiet, AreQuiet}

-- the row of an element of a batch, if there is one: of the ring, and of the in-flight region
ring_quiet : (h : Header1) (f : ℕ × ℕ → Row) (o : Option (ℕ × ℕ)) → ((x : ℕ × ℕ) → IsQuiet h (items.Store (f x).tag (f x).area (f x).store.place (f x).store.bytes)) → AreQuiet h ((row_items (option_or (option_map f o) None) ++ []) ++ [])
ring_quiet h f None each = tt
ring_quiet h f (Some x) each = (each x, tt)

note_quiet : (q : ℕ) (h : Header1) (f : ℕ × ℕ → SplitStore) (o : Option (ℕ × ℕ)) → ((x : ℕ × ℕ) → IsQuiet h (items.Store (tag_of (f x)) I (store_of (the_region q h.size) (f x)).place (store_of (the_region q h.size) (f x)).bytes))
    → AreQuiet h ((row_items (option_map (region_row (the_region q h.size)) (option_map f o)) ++ []) ++ [])
note_quiet q h f None each = tt
note_quiet q h f (Some x) each = (each x, tt)

pub step_quiet : (q : ℕ) (h : Header1) (l : Lane) (step : Step) (s : Scene) → AreQuiet h (step_items h q l step s)
step_quiet q h l steps.Features s = (record { lawful = λ e x. tt; kept = λ x. refl }, tt)
step_quiet q h l (steps.Free i) s = (record { lawful = λ e x. tt; kept = λ x. refl }, tt)
step_quiet q h l steps.Open s = (record { lawful = λ e x. tt; kept = λ x. refl }, tt)
step_quiet q h l (steps.Settle i) s = (record { lawful = λ e x. tt; kept = λ x. refl }, tt)
step_quiet q h l steps.SettleEnd s = (record { lawful = λ e x. tt; kept = λ x. refl }, tt)
step_quiet q h l steps.Bell s = (record { lawful = λ e x. tt; kept = λ x. refl }, tt)
step_quiet q h l steps.Start s = (record { lawful = λ e x. tt; kept = λ x. refl }, tt)
step_quiet q h l steps.Count s = (record { lawful = λ e x. tt; kept = λ x. refl }, tt)
step_quiet q h l steps.Accept s = (record { lawful = λ e x. tt; kept = λ x. refl }, (record { lawful = λ e x. tt; kept = λ x. refl }, tt))
step_quiet q h l (steps.Id e) s = ring_quiet h (λ (y : ℕ × ℕ). row (the_ring q h.size) SP1 (used_id_place (the_ring q h.size) (used_in h q s + e)) (little_bytes 4 y.0)) (slice_get (map (element_of h q s) l.batch) e) (λ y. record { lawful = λ e x. tt; kept = λ x. refl })
step_quiet q h l (steps.Len e) s = ring_quiet h (λ (y : ℕ × ℕ). row (the_ring q h.size) SP2 (used_len_place (the_ring q h.size) (used_in h q s + e)) (little_bytes 4 y.1)) (slice_get (map (element_of h q s) l.batch) e) (λ y. record { lawful = λ e x. tt; kept = λ x. refl })
step_quiet q h l (steps.Link e) s = note_quiet q h (λ (y : ℕ × ℕ). SP3 y.0 (region_in h q s).last_batch_head) (slice_get (map (element_of h q s) l.batch) e) (λ y. record { lawful = λ e x. tt; kept = λ x. refl })
step_quiet q h l (steps.Head e) s = note_quiet q h (λ (y : ℕ × ℕ). SP4 y.0) (slice_get (map (element_of h q s) l.batch) e) (λ y. record { lawful = λ e x. tt; kept = λ x. refl })
step_quiet q h l steps.Index s = (record { lawful = λ e x. tt; kept = λ x. refl }, (record { lawful = λ e x. tt; kept = λ x. refl }, tt))
step_quiet q h l (steps.Clear e) s = note_quiet q h (λ (y : ℕ × ℕ). SP6 y.0) (slice_get (map (element_of h q s) l.batch) e) (λ y. record { lawful = λ e x. tt; kept = λ x. refl })
step_quiet q h l steps.Note s = (record { lawful = λ e x. tt; kept = λ x. refl }, tt)
