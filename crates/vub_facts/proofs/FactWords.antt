-- The words of a queue after a store, and the facts where a store is elsewhere.
use Rattle.std.proofs.Common.{◌≡◌, ◌≤◌, ◌<◌, ℕ, ◌+◌, ◌*◌, ◌%◌, true, List, length, get_or, refl, ap, sym, ◌∙◌, subst, inl, inr, arith}
use Rattle.std.specs.Prelude.{Option, Some, None, option_map}
use Rattle.std.specs.Option.{option_or}
use Rattle.std.proofs.lemmas.List.{length-map}
use Rattle.std.proofs.lemmas.Option.{slice_get-get_or}
use mathlib.Core.Path.{fun_ext}
use Rattle.byteorder.specs.Endian.{little_bytes}
use Rattle.vub_base.specs.declared.store.Tag.TheVariants.{SP1, SP2}
use Rattle.vub_shared.specs.Bytes.{Bytes, Apart}
use Rattle.vub_shared.specs.Stores.{Store, after_store}
use Rattle.vub_device.specs.Past.{is_among}
use Rattle.vub_ring.specs.Ring.{Ring, entry_of, avail_idx, head_at, used_idx, element_at, used_id_place, used_len_place}
use Rattle.vub_split.specs.Words.{RingWords, OffUsed, used_bytes, words_of}
use Rattle.vub_split.specs.Stores.{used_idx_store, used_id_store, used_len_store}
use Rattle.vub_split.proofs.Words.{length_little, entry_within, words_elsewhere, used_idx_off, element_off, words_used_id, words_used_len, words_used_idx}
use Rattle.vub_inflight.specs.Links.{link_at}
use Rattle.vub_infl_split.specs.declared.region.SplitRegion.{SplitRegion}
use Rattle.vub_infl_split.specs.declared.region.SplitStore.{SplitStore}
use Rattle.vub_infl_split.specs.declared.region.SplitStore.TheVariants.{SI1, SI2, SI3, SR1, SR2, SF1, SF2, SP3, SP4, SP6, SP7}
use Rattle.vub_infl_split.specs.Region.{RegionWords, OffRegion, region_size}
use Rattle.vub_infl_split.specs.Region as region
use Rattle.vub_infl_split.specs.Readings.{counted}
use Rattle.vub_infl_split.specs.Stores.{store_of, NamesEntry, ValueFits}
use Rattle.vub_infl_split.specs.Stores as region_stores
use Rattle.vub_infl_split.proofs.WordLemmas.{words_stored}
use Rattle.vub_infl_split.proofs.WordLemmas as region_lemmas
use Rattle.vub_infl_split.proofs.PlaceLemmas.{LiesIn, row_lies_in, apart_from_region}
use Rattle.vub_region_facts.specs.Starts.{InSettling, InStart}
use Rattle.vub_region_facts.specs.Phases.{InLife}
use Rattle.vub_region_facts.proofs.BatchLemmas.{below_among, among_get_or}
use Rattle.vub_region_facts.proofs.StartLemmas.{settling_link}
use Rattle.vub_steps.specs.declared.steps.Phase.{Phase}
use Rattle.vub_steps.specs.declared.steps.Phase.TheVariants as phases
use Rattle.vub_steps.specs.declared.steps.Plan.TheVariants as plans
use Rattle.vub_steps.specs.declared.steps.Step.{Step}
use Rattle.vub_steps.specs.declared.steps.Step.TheVariants as steps
use Rattle.vub_steps.specs.Steps.{done_of}
use Rattle.vub_steps.specs.Rows.{Row, Sight, row, row_of, region_store, region_row}
use Rattle.vub_steps.proofs.StartLemmas.{length_settles}
use Rattle.vub_facts.specs.Facts.{Side, Lies, Elsewhere, Words, words_at, heads_in, head_next, InFetching, InBatch, IsBuilt, Facts, IsDue, with_element, with_stored, words_after, sight, after_row, ElementsFit}
use Rattle.vub_facts.proofs.Places.{IsRunning, Place, place_of}
use Rattle.vub_facts.proofs.FactSteps.{SeesSame, avail_changes, batch_in, life_in, plan_in, id_of, entry_is, link_store, head_store, clear_store}

-- ---- a store of another queue, or of a request at work

words_are : (a b : RingWords) (c d : RegionWords) → a ≡ b → c ≡ d → ◌≡◌ {A = Words} (record { ring = a; region = c }) (record { ring = b; region = d })
words_are a b c d e f = ap (λ (x : RingWords). record { ring = x; region = c }) e ∙ ap (λ (x : RegionWords). record { ring = b; region = x }) f

pub words_off : (r : Ring) (g : SplitRegion) (m : Bytes) (st : Store) → Lies r g → Elsewhere r g st → words_at r g (after_store st m) ≡ words_at r g m
words_off r g m st lies off = words_are _ _ _ _ (words_elsewhere r m st lies.size.some off.avail off.used) (region_lemmas.words_elsewhere g m st off.region)

pub facts_off : (r : Ring) (g : SplitRegion) (heads : List ℕ) (base : ℕ) (x : Side) (m : Bytes) (st : Store) → Lies r g → Elsewhere r g st → Facts r.size heads base x (words_at r g m) → Facts r.size heads base x (words_at r g (after_store st m))
facts_off r g heads base x m st lies off f = subst (λ (w : Words). Facts r.size heads base x w) (sym (words_off r g m st lies off)) f

-- ---- a store of the driver

-- off the used ring and off the region: what the avail ring holds matters to a fetch alone
pub facts_beside : (r : Ring) (g : SplitRegion) (heads : List ℕ) (base : ℕ) (x : Side) (m : Bytes) (st : Store) → Lies r g → OffUsed r st → OffRegion g st
    → SeesSame heads (avail_idx r (after_store st m)) (head_at r (after_store st m)) (words_at r g m) x.phase → Facts r.size heads base x (words_at r g m) → Facts r.size heads base x (words_at r g (after_store st m))
facts_beside r g heads base x m st lies off off_region sees f =
    let n : Bytes = after_store st m in
    let same : element_at r n ≡ element_at r m = fun_ext (λ i. element_off r m st i lies.size.some off) in
    let now : words_at r g n ≡ record { ring = record (words_of r m) { avail = avail_idx r n; heads = head_at r n }; region = region.words_of g m } =
    words_are _ _ _ _ (ap (λ (u : ℕ). record (words_of r n) { used = u }) (used_idx_off r m st off) ∙ ap (λ (es : ℕ → ℕ × ℕ). record (words_of r n) { used = used_idx r m; elements = es }) same) (region_lemmas.words_elsewhere g m st off_region) in
    subst (λ (w : Words). Facts r.size heads base x w) (sym now) (avail_changes r.size heads base (avail_idx r n) (head_at r n) x (words_at r g m) sees f)

-- ---- a store into the used ring

-- it leaves the region
ring_off_region : (r : Ring) (g : SplitRegion) (st : Store) → Lies r g → st.space ≡ r.used_space → r.used ≤ st.place → st.place + length st.bytes ≤ r.used + used_bytes r → OffRegion g st
ring_off_region r g st lies space low high = go lies.off_used
  where
    go : Apart g.space.number g.place (region_size g.size) r.used_space r.used (used_bytes r) → OffRegion g st
    go (inl other) = inl (λ e. other (sym (e ∙ space)))
    go (inr (inl before)) = inr (inr (omega (arith, before, high)))
    go (inr (inr after)) = inr (inl (omega (arith, after, low)))

id_off_region : (r : Ring) (g : SplitRegion) (index id : ℕ) → Lies r g → OffRegion g (used_id_store r index id)
id_off_region r g index id lies =
    let within : entry_of r index < r.size = entry_within r index lies.fits.some in
    ring_off_region r g (used_id_store r index id) lies refl (omega arith) (omega (arith, length_little 4 id, within))

len_off_region : (r : Ring) (g : SplitRegion) (index len : ℕ) → Lies r g → OffRegion g (used_len_store r index len)
len_off_region r g index len lies =
    let within : entry_of r index < r.size = entry_within r index lies.fits.some in
    ring_off_region r g (used_len_store r index len) lies refl (omega arith) (omega (arith, length_little 4 len, within))

idx_off_region : (r : Ring) (g : SplitRegion) (index : ℕ) → Lies r g → OffRegion g (used_idx_store r index)
idx_off_region r g index lies = ring_off_region r g (used_idx_store r index) lies refl (omega arith) (omega (arith, length_little 2 index))

id_row : (r : Ring) (g : SplitRegion) (z : Sight) (e : ℕ) → e < length z.batch → row_of r g z (steps.Id e) ≡ Some (row r SP1 (used_id_place r (z.used + e)) (little_bytes 4 (get_or z.batch e (0, 0)).0))
id_row r g z e inside = ap (λ (o : Option (ℕ × ℕ)). option_or (option_map (λ (x : ℕ × ℕ). row r SP1 (used_id_place r (z.used + e)) (little_bytes 4 x.0)) o) None) (slice_get-get_or z.batch e (0, 0) inside)

len_row : (r : Ring) (g : SplitRegion) (z : Sight) (e : ℕ) → e < length z.batch → row_of r g z (steps.Len e) ≡ Some (row r SP2 (used_len_place r (z.used + e)) (little_bytes 4 (get_or z.batch e (0, 0)).1))
len_row r g z e inside = ap (λ (o : Option (ℕ × ℕ)). option_or (option_map (λ (x : ℕ × ℕ). row r SP2 (used_len_place r (z.used + e)) (little_bytes 4 x.1)) o) None) (slice_get-get_or z.batch e (0, 0) inside)

-- id and length of an element
pub id_words : (r : Ring) (g : SplitRegion) (z : Sight) (e id : ℕ) (m : Bytes) → Lies r g → id ≡ (get_or z.batch e (0, 0)).0 → id < 4294967296
    → words_at r g (after_store (used_id_store r (used_idx r m + e) id) m) ≡ words_after r z (steps.Id e) (words_at r g m)
id_words r g z e id m lies is fits =
    let st : Store = used_id_store r (used_idx r m + e) id in
    words_are _ _ _ _ (words_used_id r m (used_idx r m + e) id lies.fits fits) (region_lemmas.words_elsewhere g m st (id_off_region r g (used_idx r m + e) id lies))
    ∙ ap (λ (x : ℕ). with_element r e (x, ((words_at r g m).ring.elements (used_idx r m + e)).1) (words_at r g m)) is

pub len_words : (r : Ring) (g : SplitRegion) (z : Sight) (e len : ℕ) (m : Bytes) → Lies r g → len ≡ (get_or z.batch e (0, 0)).1 → len < 4294967296
    → words_at r g (after_store (used_len_store r (used_idx r m + e) len) m) ≡ words_after r z (steps.Len e) (words_at r g m)
len_words r g z e len m lies is fits =
    let st : Store = used_len_store r (used_idx r m + e) len in
    words_are _ _ _ _ (words_used_len r m (used_idx r m + e) len lies.fits fits) (region_lemmas.words_elsewhere g m st (len_off_region r g (used_idx r m + e) len lies))
    ∙ ap (λ (x : ℕ). with_element r e (((words_at r g m).ring.elements (used_idx r m + e)).0, x) (words_at r g m)) is

-- used.idx
pub index_words : (r : Ring) (g : SplitRegion) (z : Sight) (m : Bytes) → Lies r g → words_at r g (after_store (used_idx_store r ((used_idx r m + length z.batch) % 65536)) m) ≡ words_after r z steps.Index (words_at r g m)
index_words r g z m lies =
    let index : ℕ = (used_idx r m + length z.batch) % 65536 in
    words_are _ _ _ _ (words_used_idx r m index lies.fits (omega arith)) (region_lemmas.words_elsewhere g m (used_idx_store r index) (idx_off_region r g index lies))

-- ---- a store into the region

-- it leaves the ring
pub region_words : (r : Ring) (g : SplitRegion) (x : SplitStore) (m : Bytes) → Lies r g → NamesEntry r.size x → ValueFits x → words_at r g (after_store (store_of g x) m) ≡ with_stored r.size (Some x) (words_at r g m)
region_words r g x m lies within fits =
    let named : NamesEntry g.size x = subst (λ (n : ℕ). NamesEntry n x) (sym lies.same_size) within in
    let inside : LiesIn g (store_of g x) = row_lies_in g x named in
    let small : g.size < 65536 = omega (arith, lies.same_size, lies.size.few) in
    words_are _ _ _ _
    (words_elsewhere r m (store_of g x) lies.size.some (apart_from_region g (store_of g x) r.avail_space r.avail _ inside lies.off_avail) (apart_from_region g (store_of g x) r.used_space r.used _ inside lies.off_used))
    (words_stored g x m small named fits ∙ ap (λ (n : ℕ). region_stores.words_after n x (region.words_of g m)) lies.same_size)

-- the row of a store into the region
stored_words : (r : Ring) (g : SplitRegion) (x : SplitStore) (o : Option SplitStore) (m : Bytes) → Lies r g → o ≡ Some x → NamesEntry r.size x → ValueFits x
    → words_at r g (after_row (option_map (region_row g) o) m) ≡ with_stored r.size o (words_at r g m)
stored_words r g x o m lies is within fits =
    subst (λ (p : Option SplitStore). words_at r g (after_row (option_map (region_row g) p) m) ≡ with_stored r.size p (words_at r g m)) (sym is) (region_words r g x m lies within fits)

-- ---- what a step stores fits

-- the link that a step of a start sees is an entry
pub link_below : (n : ℕ) (heads : List ℕ) (base i : ℕ) (x : Side) (w : Words) → Place n (steps.Settle i) x → Facts n heads base x w → (sight heads x w).link < n
link_below n heads base i x w at f =
    let count : ℕ = at.1.0 in
    let planned : InStart n w.ring.used heads base (plans.Settles count) i w.region = plan_in n heads base i (plans.Settles count) x w at.0 at.1.1.0 f in
    let settling : InSettling n w.ring.used heads count i w.region = planned.stores (omega (arith, at.1.1.1, length_settles n count)) in
    let held : is_among (counted w.ring.used w.region) (link_at w.region.next i w.region.last_batch_head) ≡ true = settling_link n w.ring.used heads count i w.region at.1.1.1 settling in
    let low : link_at w.region.next i w.region.last_batch_head < n = below_among n (counted w.ring.used w.region) (link_at w.region.next i w.region.last_batch_head) settling.sound.within held in
    subst (λ (p : Phase). link_at w.region.next (done_of p) w.region.last_batch_head < n) (sym at.0.place) low

-- each element of a batch is an entry
pub element_below : (n : ℕ) (heads : List ℕ) (base done e : ℕ) (x : Side) (w : Words) → IsRunning (phases.Publish done) x → e < length x.batch → Facts n heads base x w → id_of x.batch e < n
element_below n heads base done e x w at more f =
    let b : InBatch n heads x.bell x.batch done × IsBuilt w x.batch done = batch_in n heads base (phases.Publish done) x w at.place f in
    let long : length (heads_in x.batch) ≡ length x.batch = length-map x.batch (λ (y : ℕ × ℕ). y.0) in
    let held : is_among (heads_in x.batch) (id_of x.batch e) ≡ true = subst (λ (h : ℕ). is_among (heads_in x.batch) h ≡ true) (entry_is x.batch e more) (among_get_or (heads_in x.batch) e (omega (arith, long, more))) in
    b.0.below (id_of x.batch e) held

-- ---- the store of a step

-- the row that the step table has for a step leaves the words after it
abbrev RowLeads : Ring → SplitRegion → List ℕ → Side → Step → Bytes → Type 0
RowLeads r g heads x step m = words_at r g (after_row (row_of r g (sight heads x (words_at r g m)) step) m) ≡ words_after r (sight heads x (words_at r g m)) step (words_at r g m)

placed_words : (r : Ring) (g : SplitRegion) (heads : List ℕ) (base : ℕ) (x : Side) (step : Step) (m : Bytes) → Lies r g → ElementsFit x.batch → Place r.size step x → Facts r.size heads base x (words_at r g m) → RowLeads r g heads x step m
placed_words r g heads base x steps.Features m lies fit at f = region_words r g SI1 m lies tt tt
placed_words r g heads base x (steps.Free i) m lies fit at f = region_words r g (SI2 i) m lies at.1.1 tt
placed_words r g heads base x steps.Open m lies fit at f = region_words r g (SI3 (used_idx r m)) m lies tt f.used_fits
placed_words r g heads base x (steps.Settle i) m lies fit at f = region_words r g (SR1 (sight heads x (words_at r g m)).link) m lies (link_below r.size heads base i x (words_at r g m) at f) tt
placed_words r g heads base x steps.SettleEnd m lies fit at f = region_words r g (SR2 (used_idx r m)) m lies tt f.used_fits
placed_words r g heads base x steps.Bell m lies fit at f = refl
placed_words r g heads base x steps.Start m lies fit at f = refl
placed_words r g heads base x steps.Count m lies fit at f =
    let b : InFetching r.size heads x.counter x.batch 0 (words_at r g m) = batch_in r.size heads base (phases.Fetch 0) x (words_at r g m) at.place f in
    region_words r g (SF1 (head_next heads (words_at r g m)) x.counter) m lies b.below (omega (arith, b.low refl))
placed_words r g heads base x steps.Accept m lies fit at f =
    let b : InFetching r.size heads x.counter x.batch 1 (words_at r g m) = batch_in r.size heads base (phases.Fetch 1) x (words_at r g m) at.place f in
    region_words r g (SF2 (head_next heads (words_at r g m))) m lies b.below tt
placed_words r g heads base x (steps.Id e) m lies fit at f =
    let z : Sight = sight heads x (words_at r g m) in
    ap (λ (o : Option Row). words_at r g (after_row o m)) (id_row r g z e at.1) ∙ id_words r g z e (get_or x.batch e (0, 0)).0 m lies refl (fit.ids e at.1)
placed_words r g heads base x (steps.Len e) m lies fit at f =
    let z : Sight = sight heads x (words_at r g m) in
    ap (λ (o : Option Row). words_at r g (after_row o m)) (len_row r g z e at.1) ∙ len_words r g z e (get_or x.batch e (0, 0)).1 m lies refl (fit.lens e at.1)
placed_words r g heads base x (steps.Link e) m lies fit at f =
    let z : Sight = sight heads x (words_at r g m) in
    let l : InLife r.size (used_idx r m) (head_next heads (words_at r g m)) x.counter heads (heads_in x.batch) (phases.Publish (4 * e + 2)) (region.words_of g m) = life_in r.size heads base (phases.Publish (4 * e + 2)) x (words_at r g m) at.0 f in
    stored_words r g (SP3 (id_of x.batch e) z.last_batch_head) (region_store z (steps.Link e)) m lies (link_store z e at.1) (element_below r.size heads base (4 * e + 2) e x (words_at r g m) at.0 at.1 f) l.sound.last_fits
placed_words r g heads base x (steps.Head e) m lies fit at f =
    let z : Sight = sight heads x (words_at r g m) in
    stored_words r g (SP4 (id_of x.batch e)) (region_store z (steps.Head e)) m lies (head_store z e at.1) tt (omega (arith, element_below r.size heads base (4 * e + 3) e x (words_at r g m) at.0 at.1 f, lies.size.few))
placed_words r g heads base x steps.Index m lies fit at f = index_words r g (sight heads x (words_at r g m)) m lies
placed_words r g heads base x (steps.Clear e) m lies fit at f =
    let z : Sight = sight heads x (words_at r g m) in
    stored_words r g (SP6 (id_of x.batch e)) (region_store z (steps.Clear e)) m lies (clear_store z e at.1) (element_below r.size heads base (4 * length x.batch + 1 + e) e x (words_at r g m) at.0 at.1 f) tt
placed_words r g heads base x steps.Note m lies fit at f = region_words r g (SP7 (used_idx r m)) m lies tt f.used_fits

pub row_words : (r : Ring) (g : SplitRegion) (heads : List ℕ) (base : ℕ) (x : Side) (step : Step) (m : Bytes) → Lies r g → ElementsFit x.batch → IsDue r.size step x → Facts r.size heads base x (words_at r g m)
    → words_at r g (after_row (row_of r g (sight heads x (words_at r g m)) step) m) ≡ words_after r (sight heads x (words_at r g m)) step (words_at r g m)
row_words r g heads base x step m lies fit due f = placed_words r g heads base x step m lies fit (place_of r.size step x due) f
