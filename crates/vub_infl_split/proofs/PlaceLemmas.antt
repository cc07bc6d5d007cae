-- Where the stores of a region's rows lie.
use Rattle.std.proofs.Common.{◌≡◌, ◌≤◌, ℕ, ◌+◌, length, refl, arith}
use Rattle.byteorder.specs.Numbers.{length-bytes_low_first}
use Rattle.vub_shared.specs.Bytes.{Apart}
use Rattle.vub_shared.specs.Stores.{Store}
use Rattle.vub_inflight.specs.Words.{put_word}
use Rattle.vub_infl_split.specs.declared.region.SplitRegion.{SplitRegion}
use Rattle.vub_infl_split.specs.declared.region.SplitStore.{SplitStore}
use Rattle.vub_infl_split.specs.declared.region.SplitStore.TheVariants.{SI1, SI2, SI3, SR1, SR2, SF1, SF2, SP3, SP4, SP6, SP7}
use Rattle.vub_infl_split.specs.Region.{region_size, inflight_place, next_place, counter_place}
use Rattle.vub_infl_split.specs.Stores.{header_word, store_of, NamesEntry}

-- a store touches bytes of the region alone
pub record LiesIn (r : SplitRegion) (st : Store) : Type 0 where
  pub space : st.space ≡ r.space.number
  pub from : r.place ≤ st.place
  pub upto : st.place + length st.bytes ≤ r.place + region_size r.size

put_in : (r : SplitRegion) (place width value : ℕ) → r.place ≤ place → place + width ≤ r.place + region_size r.size → LiesIn r (put_word r.space.number place width value)
put_in r place width value from upto = record { space = refl; from = from; upto = omega (arith, length-bytes_low_first 0 width value, upto) }

-- the store of each row does
pub row_lies_in : (r : SplitRegion) (step : SplitStore) → NamesEntry r.size step → LiesIn r (store_of r step)
row_lies_in r SI1 within = put_in r r.place 8 0 (omega arith) (omega arith)
row_lies_in r (SI2 i) within = put_in r (inflight_place r i) 1 0 (omega arith) (omega (arith, within))
row_lies_in r (SI3 used_idx) within = put_in r (r.place + 8) 8 (header_word r.size used_idx) (omega arith) (omega arith)
row_lies_in r (SR1 i) within = put_in r (inflight_place r i) 1 0 (omega arith) (omega (arith, within))
row_lies_in r (SR2 used_idx) within = put_in r (r.place + 14) 2 used_idx (omega arith) (omega arith)
row_lies_in r (SF1 i counter) within = put_in r (counter_place r i) 8 counter (omega arith) (omega (arith, within))
row_lies_in r (SF2 i) within = put_in r (inflight_place r i) 1 1 (omega arith) (omega (arith, within))
row_lies_in r (SP3 i next) within = put_in r (next_place r i) 2 next (omega arith) (omega (arith, within))
row_lies_in r (SP4 head) within = put_in r (r.place + 12) 2 head (omega arith) (omega arith)
row_lies_in r (SP6 i) within = put_in r (inflight_place r i) 1 0 (omega arith) (omega (arith, within))
row_lies_in r (SP7 used_idx) within = put_in r (r.place + 14) 2 used_idx (omega arith) (omega arith)

-- so it touches nothing that is apart from the region: a ring, another region, a buffer
pub apart_from_region : (r : SplitRegion) (st : Store) (space place count : ℕ) → LiesIn r st → Apart r.space.number r.place (region_size r.size) space place count → Apart st.space st.place (length st.bytes) space place count
apart_from_region r st space place count lies apart = let same : st.space ≡ r.space.number = lies.space in let from : r.place ≤ st.place = lies.from in let upto : st.place + length st.bytes ≤ r.place + region_size r.size = lies.upto in grind arith
