-- What each store leaves of the words of a region.
use Rattle.std.proofs.Common.{◌≡◌, ◌≤◌, ◌<◌, ℕ, ◌+◌, ◌*◌, ◌^◌, refl, inl, inr, arith}
use mathlib.Core.Path.{fun_ext}
use Rattle.byteorder.specs.Endian.{little_bytes}
use Rattle.vub_shared.specs.Bytes.{Bytes, word, put}
use Rattle.vub_shared.specs.Stores.{Store, after_store}
use Rattle.vub_shared.proofs.BytesLemmas.{word-put_other, word-put_same, four_words}
use Rattle.vub_inflight.specs.Entries.{with_at}
use Rattle.vub_inflight.specs.Words.{put_word}
use Rattle.vub_inflight.proofs.WordLemmas.{beside, bounded_keeps, bounded_set}
use Rattle.vub_infl_split.specs.declared.region.SplitRegion.{SplitRegion}
use Rattle.vub_infl_split.specs.declared.region.SplitStore.{SplitStore}
use Rattle.vub_infl_split.specs.declared.region.SplitStore.TheVariants.{SI1, SI2, SI3, SR1, SR2, SF1, SF2, SP3, SP4, SP6, SP7}
use Rattle.vub_infl_split.specs.Region.{RegionWords, words_of, OffRegion, inflight_place, next_place, counter_place}
use Rattle.vub_infl_split.specs.Stores.{header_word, store_of, NamesEntry, ValueFits, words_after}

make : ℕ → ℕ → ℕ → ℕ → (ℕ → ℕ) → (ℕ → ℕ) → (ℕ → ℕ) → RegionWords
make a b c d f g h = record { version = a; desc_num = b; last_batch_head = c; used_idx = d; inflight = f; next = g; counter = h }

make-fields : (w : RegionWords) → make w.version w.desc_num w.last_batch_head w.used_idx w.inflight w.next w.counter ≡ w
unfolding make
make-fields w = refl

same_words : (v w : RegionWords) → v.version ≡ w.version → v.desc_num ≡ w.desc_num → v.last_batch_head ≡ w.last_batch_head → v.used_idx ≡ w.used_idx
    → ((i : ℕ) → v.inflight i ≡ w.inflight i) → ((i : ℕ) → v.next i ≡ w.next i) → ((i : ℕ) → v.counter i ≡ w.counter i) → v ≡ w
same_words v w e1 e2 e3 e4 f5 f6 f7 =
    let e5 : v.inflight ≡ w.inflight = fun_ext f5 in
    let e6 : v.next ≡ w.next = fun_ext f6 in
    let e7 : v.counter ≡ w.counter = fun_ext f7 in
    let here = make-fields v in
    let there = make-fields w in
    cc

-- ---- a word of an entry

record HeaderStays (v w : RegionWords) : Type 0 where
  pub version : v.version ≡ w.version
  pub desc_num : v.desc_num ≡ w.desc_num
  pub last_batch_head : v.last_batch_head ≡ w.last_batch_head
  pub used_idx : v.used_idx ≡ w.used_idx

-- a number of v bytes behind the header leaves it
header_stays : (v x o : ℕ) (r : SplitRegion) (m : Bytes) → 16 ≤ o → HeaderStays (words_of r (put m r.space.number (r.place + o) (little_bytes v x))) (words_of r m)
header_stays v x o r m behind = record {
  version = beside 2 v x r.space.number r.place m o 8 (inl (omega (arith, behind)));
  desc_num = beside 2 v x r.space.number r.place m o 10 (inl (omega (arith, behind)));
  last_batch_head = beside 2 v x r.space.number r.place m o 12 (inl (omega (arith, behind)));
  used_idx = beside 2 v x r.space.number r.place m o 14 (inl (omega (arith, behind)));
}

inflight_stored : (r : SplitRegion) (m : Bytes) (i v : ℕ) → i < r.size → v < 256 ^ 1
    → words_of r (after_store (put_word r.space.number (inflight_place r i) 1 v) m) ≡ record (words_of r m) { inflight = with_at (words_of r m).inflight i v }
inflight_stored r m i v within fits =
    let h = header_stays 1 v (16 + 16 * i) r m (omega arith) in
    same_words _ _ h.version h.desc_num h.last_batch_head h.used_idx
    (bounded_set r.size (λ j. word 1 m r.space.number (inflight_place r j)) (λ j. word 1 (put m r.space.number (inflight_place r i) (little_bytes 1 v)) r.space.number (inflight_place r j)) i v within
    (word-put_same 1 m r.space.number (inflight_place r i) v fits) (λ j b apart. beside 1 1 v r.space.number r.place m (16 + 16 * i) (16 + 16 * j) (grind arith)))
    (bounded_keeps r.size _ _ (λ j b. beside 2 1 v r.space.number r.place m (16 + 16 * i) (22 + 16 * j) (grind arith)))
    (bounded_keeps r.size _ _ (λ j b. beside 8 1 v r.space.number r.place m (16 + 16 * i) (24 + 16 * j) (grind arith)))

next_stored : (r : SplitRegion) (m : Bytes) (i v : ℕ) → i < r.size → v < 256 ^ 2
    → words_of r (after_store (put_word r.space.number (next_place r i) 2 v) m) ≡ record (words_of r m) { next = with_at (words_of r m).next i v }
next_stored r m i v within fits =
    let h = header_stays 2 v (22 + 16 * i) r m (omega arith) in
    same_words _ _ h.version h.desc_num h.last_batch_head h.used_idx
    (bounded_keeps r.size _ _ (λ j b. beside 1 2 v r.space.number r.place m (22 + 16 * i) (16 + 16 * j) (grind arith)))
    (bounded_set r.size (λ j. word 2 m r.space.number (next_place r j)) (λ j. word 2 (put m r.space.number (next_place r i) (little_bytes 2 v)) r.space.number (next_place r j)) i v within
    (word-put_same 2 m r.space.number (next_place r i) v fits) (λ j b apart. beside 2 2 v r.space.number r.place m (22 + 16 * i) (22 + 16 * j) (grind arith)))
    (bounded_keeps r.size _ _ (λ j b. beside 8 2 v r.space.number r.place m (22 + 16 * i) (24 + 16 * j) (grind arith)))

counter_stored : (r : SplitRegion) (m : Bytes) (i v : ℕ) → i < r.size → v < 256 ^ 8
    → words_of r (after_store (put_word r.space.number (counter_place r i) 8 v) m) ≡ record (words_of r m) { counter = with_at (words_of r m).counter i v }
counter_stored r m i v within fits =
    let h = header_stays 8 v (24 + 16 * i) r m (omega arith) in
    same_words _ _ h.version h.desc_num h.last_batch_head h.used_idx
    (bounded_keeps r.size _ _ (λ j b. beside 1 8 v r.space.number r.place m (24 + 16 * i) (16 + 16 * j) (grind arith)))
    (bounded_keeps r.size _ _ (λ j b. beside 2 8 v r.space.number r.place m (24 + 16 * i) (22 + 16 * j) (grind arith)))
    (bounded_set r.size (λ j. word 8 m r.space.number (counter_place r j)) (λ j. word 8 (put m r.space.number (counter_place r i) (little_bytes 8 v)) r.space.number (counter_place r j)) i v within
    (word-put_same 8 m r.space.number (counter_place r i) v fits) (λ j b apart. beside 8 8 v r.space.number r.place m (24 + 16 * i) (24 + 16 * j) (grind arith)))

-- ---- a word of the header

record EntriesStay (v w : RegionWords) : Type 0 where
  pub inflight : (i : ℕ) → v.inflight i ≡ w.inflight i
  pub next : (i : ℕ) → v.next i ≡ w.next i
  pub counter : (i : ℕ) → v.counter i ≡ w.counter i

-- a number of v bytes in the header leaves the entries
entries_stay : (v x o : ℕ) (r : SplitRegion) (m : Bytes) → o + v ≤ 16 → EntriesStay (words_of r (put m r.space.number (r.place + o) (little_bytes v x))) (words_of r m)
entries_stay v x o r m low = record {
  inflight = bounded_keeps r.size _ _ (λ j b. beside 1 v x r.space.number r.place m o (16 + 16 * j) (inr (omega (arith, low))));
  next = bounded_keeps r.size _ _ (λ j b. beside 2 v x r.space.number r.place m o (22 + 16 * j) (inr (omega (arith, low))));
  counter = bounded_keeps r.size _ _ (λ j b. beside 8 v x r.space.number r.place m o (24 + 16 * j) (inr (omega (arith, low))));
}

last_batch_head_stored : (r : SplitRegion) (m : Bytes) (v : ℕ) → v < 256 ^ 2 → words_of r (after_store (put_word r.space.number (r.place + 12) 2 v) m) ≡ record (words_of r m) { last_batch_head = v }
last_batch_head_stored r m v fits =
    let rest = entries_stay 2 v 12 r m (omega arith) in
    same_words _ _
    (beside 2 2 v r.space.number r.place m 12 8 (grind arith))
    (beside 2 2 v r.space.number r.place m 12 10 (grind arith))
    (word-put_same 2 m r.space.number (r.place + 12) v fits)
    (beside 2 2 v r.space.number r.place m 12 14 (grind arith))
    rest.inflight rest.next rest.counter

used_idx_stored : (r : SplitRegion) (m : Bytes) (v : ℕ) → v < 256 ^ 2 → words_of r (after_store (put_word r.space.number (r.place + 14) 2 v) m) ≡ record (words_of r m) { used_idx = v }
used_idx_stored r m v fits =
    let rest = entries_stay 2 v 14 r m (omega arith) in
    same_words _ _
    (beside 2 2 v r.space.number r.place m 14 8 (grind arith))
    (beside 2 2 v r.space.number r.place m 14 10 (grind arith))
    (beside 2 2 v r.space.number r.place m 14 12 (grind arith))
    (word-put_same 2 m r.space.number (r.place + 14) v fits)
    rest.inflight rest.next rest.counter

header_stored : (r : SplitRegion) (m : Bytes) (v : ℕ) → r.size < 65536 → v < 65536
    → words_of r (after_store (put_word r.space.number (r.place + 8) 8 (header_word r.size v)) m) ≡ record (words_of r m) { version = 1; desc_num = r.size; last_batch_head = 0; used_idx = v }
header_stored r m v small fits =
    let rest = entries_stay 8 (header_word r.size v) 8 r m (omega arith) in
    let four = four_words m r.space.number (r.place + 8) 1 r.size 0 v (omega arith) small (omega arith) fits in
    let p8 : r.place + 8 + 0 ≡ r.place + 8 = omega arith in
    let p10 : r.place + 8 + 2 ≡ r.place + 10 = omega arith in
    let p12 : r.place + 8 + 4 ≡ r.place + 12 = omega arith in
    let p14 : r.place + 8 + 6 ≡ r.place + 14 = omega arith in
    same_words _ _
    (rw p8 at four.0)
    (rw p10 at four.1)
    (rw p12 at four.2)
    (rw p14 at four.3)
    rest.inflight rest.next rest.counter

-- the features are no word that is read
features_stored : (r : SplitRegion) (m : Bytes) (v : ℕ) → words_of r (after_store (put_word r.space.number r.place 8 v) m) ≡ words_of r m
features_stored r m v =
    let at_start : r.place + 0 ≡ r.place = omega arith in
    let P : ℕ → Type 0 = λ p. words_of r (put m r.space.number p (little_bytes 8 v)) ≡ words_of r m in
    let rest = entries_stay 8 v 0 r m (omega arith) in
    let there : P (r.place + 0) = same_words _ _
    (beside 2 8 v r.space.number r.place m 0 8 (grind arith))
    (beside 2 8 v r.space.number r.place m 0 10 (grind arith))
    (beside 2 8 v r.space.number r.place m 0 12 (grind arith))
    (beside 2 8 v r.space.number r.place m 0 14 (grind arith))
    rest.inflight rest.next rest.counter in
    rw at_start at there

-- ---- the store of each row

pub words_stored : (r : SplitRegion) (step : SplitStore) (m : Bytes) → r.size < 65536 → NamesEntry r.size step → ValueFits step → words_of r (after_store (store_of r step) m) ≡ words_after r.size step (words_of r m)
words_stored r SI1 m small within fits = features_stored r m 0
words_stored r (SI2 i) m small within fits = inflight_stored r m i 0 within (omega arith)
words_stored r (SI3 used_idx) m small within fits = header_stored r m used_idx small fits
words_stored r (SR1 i) m small within fits = inflight_stored r m i 0 within (omega arith)
words_stored r (SR2 used_idx) m small within fits = used_idx_stored r m used_idx fits
words_stored r (SF1 i counter) m small within fits = counter_stored r m i counter within fits
words_stored r (SF2 i) m small within fits = inflight_stored r m i 1 within (omega arith)
words_stored r (SP3 i next) m small within fits = next_stored r m i next within fits
words_stored r (SP4 head) m small within fits = last_batch_head_stored r m head fits
words_stored r (SP6 i) m small within fits = inflight_stored r m i 0 within (omega arith)
words_stored r (SP7 used_idx) m small within fits = used_idx_stored r m used_idx fits

-- a store of the driver, of a request, into a ring or into another queue's region
pub words_elsewhere : (r : SplitRegion) (m : Bytes) (st : Store) → OffRegion r st → words_of r (after_store st m) ≡ words_of r m
words_elsewhere r m st off = same_words _ _
    (word-put_other 2 m st.space st.place st.bytes r.space.number (r.place + 8) (grind arith))
    (word-put_other 2 m st.space st.place st.bytes r.space.number (r.place + 10) (grind arith))
    (word-put_other 2 m st.space st.place st.bytes r.space.number (r.place + 12) (grind arith))
    (word-put_other 2 m st.space st.place st.bytes r.space.number (r.place + 14) (grind arith))
    (bounded_keeps r.size _ _ (λ j b. word-put_other 1 m st.space st.place st.bytes r.space.number (inflight_place r j) (grind arith)))
    (bounded_keeps r.size _ _ (λ j b. word-put_other 2 m st.space st.place st.bytes r.space.number (next_place r j) (grind arith)))
    (bounded_keeps r.size _ _ (λ j b. word-put_other 8 m st.space st.place st.bytes r.space.number (counter_place r j) (grind arith)))
