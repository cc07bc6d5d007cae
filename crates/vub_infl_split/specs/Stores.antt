-- The store of each row of the step table into the region of a split queue, and what it makes of the words.
use Rattle.std.specs.Prelude.{◌<◌, ℕ, ◌+◌, ◌*◌, ◌^◌, ⊤}
use Rattle.vub_base.specs.declared.store.Tag.{Tag}
use Rattle.vub_base.specs.declared.store.Tag.TheVariants as tags
use Rattle.vub_shared.specs.Stores.{Store}
use Rattle.vub_inflight.specs.Entries.{with_at}
use Rattle.vub_inflight.specs.Words.{put_word}
use Rattle.vub_infl_split.specs.declared.region.SplitRegion.{SplitRegion}
use Rattle.vub_infl_split.specs.declared.region.SplitStore.{SplitStore}
use Rattle.vub_infl_split.specs.declared.region.SplitStore.TheVariants.{SI1, SI2, SI3, SR1, SR2, SF1, SF2, SP3, SP4, SP6, SP7}
use Rattle.vub_infl_split.specs.Region.{RegionWords, inflight_place, next_place, counter_place}

-- version 1, the number of descriptors, no batch, and used_idx, as one number of 8 bytes
abbrev pub header_word : ℕ → ℕ → ℕ
header_word n used_idx = 1 + 65536 * (n + 65536 * (0 + 65536 * used_idx))

abbrev pub store_of : SplitRegion → SplitStore → Store
store_of r SI1 = put_word r.space.number r.place 8 0
store_of r (SI2 i) = put_word r.space.number (inflight_place r i) 1 0
store_of r (SI3 used_idx) = put_word r.space.number (r.place + 8) 8 (header_word r.size used_idx)
store_of r (SR1 i) = put_word r.space.number (inflight_place r i) 1 0
store_of r (SR2 used_idx) = put_word r.space.number (r.place + 14) 2 used_idx
store_of r (SF1 i counter) = put_word r.space.number (counter_place r i) 8 counter
store_of r (SF2 i) = put_word r.space.number (inflight_place r i) 1 1
store_of r (SP3 i next) = put_word r.space.number (next_place r i) 2 next
store_of r (SP4 head) = put_word r.space.number (r.place + 12) 2 head
store_of r (SP6 i) = put_word r.space.number (inflight_place r i) 1 0
store_of r (SP7 used_idx) = put_word r.space.number (r.place + 14) 2 used_idx

-- the tag of its row
abbrev pub tag_of : SplitStore → Tag
tag_of SI1 = tags.SI1
tag_of (SI2 i) = tags.SI2
tag_of (SI3 used_idx) = tags.SI3
tag_of (SR1 i) = tags.SR1
tag_of (SR2 used_idx) = tags.SR2
tag_of (SF1 i counter) = tags.SF1
tag_of (SF2 i) = tags.SF2
tag_of (SP3 i next) = tags.SP3
tag_of (SP4 head) = tags.SP4
tag_of (SP6 i) = tags.SP6
tag_of (SP7 used_idx) = tags.SP7

-- the entry that it names is one of n
abbrev pub NamesEntry : ℕ → SplitStore → Type 0
NamesEntry n (SI2 i) = i < n
NamesEntry n (SR1 i) = i < n
NamesEntry n (SF1 i counter) = i < n
NamesEntry n (SF2 i) = i < n
NamesEntry n (SP3 i next) = i < n
NamesEntry n (SP6 i) = i < n
NamesEntry n step = ⊤

-- the value that it stores fits its word
abbrev pub ValueFits : SplitStore → Type 0
ValueFits (SI3 used_idx) = used_idx < 256 ^ 2
ValueFits (SR2 used_idx) = used_idx < 256 ^ 2
ValueFits (SF1 i counter) = counter < 256 ^ 8
ValueFits (SP3 i next) = next < 256 ^ 2
ValueFits (SP4 head) = head < 256 ^ 2
ValueFits (SP7 used_idx) = used_idx < 256 ^ 2
ValueFits step = ⊤

-- the words after it, of a region of n entries
abbrev pub words_after : ℕ → SplitStore → RegionWords → RegionWords
words_after n SI1 w = w
words_after n (SI2 i) w = record w { inflight = with_at w.inflight i 0 }
words_after n (SI3 used_idx) w = record w { version = 1; desc_num = n; last_batch_head = 0; used_idx = used_idx }
words_after n (SR1 i) w = record w { inflight = with_at w.inflight i 0 }
words_after n (SR2 used_idx) w = record w { used_idx = used_idx }
words_after n (SF1 i counter) w = record w { counter = with_at w.counter i counter }
words_after n (SF2 i) w = record w { inflight = with_at w.inflight i 1 }
words_after n (SP3 i next) w = record w { next = with_at w.next i next }
words_after n (SP4 head) w = record w { last_batch_head = head }
words_after n (SP6 i) w = record w { inflight = with_at w.inflight i 0 }
words_after n (SP7 used_idx) w = record w { used_idx = used_idx }
