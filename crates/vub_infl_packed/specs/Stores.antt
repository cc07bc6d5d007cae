-- The store of each row of the step table into the region of a packed queue, and what it makes of the words.
use Rattle.std.specs.Prelude.{◌<◌, ℕ, ◌+◌, ◌*◌, ◌^◌, Bool, if◌then◌else◌, ⊤}
use Rattle.vub_base.specs.declared.position.Position.{Position}
use Rattle.vub_base.specs.declared.store.Tag.{Tag}
use Rattle.vub_base.specs.declared.store.Tag.TheVariants as tags
use Rattle.vub_shared.specs.Stores.{Store}
use Rattle.vub_inflight.specs.Entries.{with_at}
use Rattle.vub_inflight.specs.Words.{put_word}
use Rattle.vub_infl_packed.specs.declared.region.PackedRegion.{PackedRegion}
use Rattle.vub_infl_packed.specs.declared.store.PackedStore.{PackedStore}
use Rattle.vub_infl_packed.specs.declared.store.PackedStore.TheVariants.{PI1, PI2, PI3, PI4, PI5, PR1, PR2, PR4, PR5, PR6, PF1, PF2, PF3, PF4, PF5, PF6, PF7, PF8, PF9, PP1, PP2, PP3, PP7, PP8, PP9}
use Rattle.vub_infl_packed.specs.Region.{RegionWords, in_entry}

-- ---- words of 8 bytes

-- version 1, the number of descriptors, and both free heads 0
abbrev pub header_word : ℕ → ℕ
header_word n = 1 + 65536 * n

abbrev pub wrap_counter : Bool → ℕ
wrap_counter wrap = if wrap then 1 else 0

-- the used position and the old one: both indexes, both wrap counters of 1 byte, and 2 bytes 0
abbrev pub used_word : Position → Position → ℕ
used_word used old = used.index + 65536 * (old.index + 65536 * (wrap_counter used.wrap + 256 * wrap_counter old.wrap))

-- id, flags and length of a descriptor
abbrev pub desc_word : ℕ → ℕ → ℕ → ℕ
desc_word id flags len = id + 65536 * (flags + 65536 * len)

-- ---- the store of each row

abbrev pub store_of : PackedRegion → PackedStore → Store
store_of r PI1 = put_word r.space.number r.place 8 0
store_of r (PI2 i) = put_word r.space.number (in_entry r i 0) 1 0
store_of r (PI3 i) = put_word r.space.number (in_entry r i 2) 2 (i + 1)
store_of r (PI4 at) = put_word r.space.number (r.place + 16) 8 (used_word at at)
store_of r PI5 = put_word r.space.number (r.place + 8) 8 (header_word r.size)
store_of r (PR1 free_head) = put_word r.space.number (r.place + 14) 2 free_head
store_of r (PR2 at) = put_word r.space.number (r.place + 16) 8 (used_word at at)
store_of r (PR4 at) = put_word r.space.number (r.place + 16) 8 (used_word at at)
store_of r (PR5 free_head) = put_word r.space.number (r.place + 12) 2 free_head
store_of r (PR6 i) = put_word r.space.number (in_entry r i 0) 1 0
store_of r (PF1 i) = put_word r.space.number (in_entry r i 6) 2 0
store_of r (PF2 i counter) = put_word r.space.number (in_entry r i 8) 8 counter
store_of r (PF3 i) = put_word r.space.number (in_entry r i 0) 1 1
store_of r (PF4 i last) = put_word r.space.number (in_entry r i 4) 2 last
store_of r (PF5 i num) = put_word r.space.number (in_entry r i 6) 2 num
store_of r (PF6 i addr) = put_word r.space.number (in_entry r i 24) 8 addr
store_of r (PF7 i id flags len) = put_word r.space.number (in_entry r i 16) 8 (desc_word id flags len)
store_of r (PF8 free_head) = put_word r.space.number (r.place + 12) 2 free_head
store_of r (PF9 free_head) = put_word r.space.number (r.place + 14) 2 free_head
store_of r (PP1 i next) = put_word r.space.number (in_entry r i 2) 2 next
store_of r (PP2 free_head) = put_word r.space.number (r.place + 12) 2 free_head
store_of r (PP3 used old) = put_word r.space.number (r.place + 16) 8 (used_word used old)
store_of r (PP7 i) = put_word r.space.number (in_entry r i 0) 1 0
store_of r (PP8 free_head) = put_word r.space.number (r.place + 14) 2 free_head
store_of r (PP9 at) = put_word r.space.number (r.place + 16) 8 (used_word at at)

-- the tag of its row
abbrev pub tag_of : PackedStore → Tag
tag_of PI1 = tags.PI1
tag_of (PI2 i) = tags.PI2
tag_of (PI3 i) = tags.PI3
tag_of (PI4 at) = tags.PI4
tag_of PI5 = tags.PI5
tag_of (PR1 free_head) = tags.PR1
tag_of (PR2 at) = tags.PR2
tag_of (PR4 at) = tags.PR4
tag_of (PR5 free_head) = tags.PR5
tag_of (PR6 i) = tags.PR6
tag_of (PF1 i) = tags.PF1
tag_of (PF2 i counter) = tags.PF2
tag_of (PF3 i) = tags.PF3
tag_of (PF4 i last) = tags.PF4
tag_of (PF5 i num) = tags.PF5
tag_of (PF6 i addr) = tags.PF6
tag_of (PF7 i id flags len) = tags.PF7
tag_of (PF8 free_head) = tags.PF8
tag_of (PF9 free_head) = tags.PF9
tag_of (PP1 i next) = tags.PP1
tag_of (PP2 free_head) = tags.PP2
tag_of (PP3 used old) = tags.PP3
tag_of (PP7 i) = tags.PP7
tag_of (PP8 free_head) = tags.PP8
tag_of (PP9 at) = tags.PP9

-- the entry that it names is one of n
abbrev pub NamesEntry : ℕ → PackedStore → Type 0
NamesEntry n (PI2 i) = i < n
NamesEntry n (PI3 i) = i < n
NamesEntry n (PR6 i) = i < n
NamesEntry n (PF1 i) = i < n
NamesEntry n (PF2 i counter) = i < n
NamesEntry n (PF3 i) = i < n
NamesEntry n (PF4 i last) = i < n
NamesEntry n (PF5 i num) = i < n
NamesEntry n (PF6 i addr) = i < n
NamesEntry n (PF7 i id flags len) = i < n
NamesEntry n (PP1 i next) = i < n
NamesEntry n (PP7 i) = i < n
NamesEntry n step = ⊤

-- the values that it stores fit their words
abbrev pub ValueFits : PackedStore → Type 0
ValueFits (PI4 at) = at.index < 256 ^ 2
ValueFits (PR1 free_head) = free_head < 256 ^ 2
ValueFits (PR2 at) = at.index < 256 ^ 2
ValueFits (PR4 at) = at.index < 256 ^ 2
ValueFits (PR5 free_head) = free_head < 256 ^ 2
ValueFits (PF2 i counter) = counter < 256 ^ 8
ValueFits (PF4 i last) = last < 256 ^ 2
ValueFits (PF5 i num) = num < 256 ^ 2
ValueFits (PF6 i addr) = addr < 256 ^ 8
ValueFits (PF7 i id flags len) = (id < 256 ^ 2) × (flags < 256 ^ 2) × (len < 256 ^ 4)
ValueFits (PF8 free_head) = free_head < 256 ^ 2
ValueFits (PF9 free_head) = free_head < 256 ^ 2
ValueFits (PP1 i next) = next < 256 ^ 2
ValueFits (PP2 free_head) = free_head < 256 ^ 2
ValueFits (PP3 used old) = (used.index < 256 ^ 2) × (old.index < 256 ^ 2)
ValueFits (PP8 free_head) = free_head < 256 ^ 2
ValueFits (PP9 at) = at.index < 256 ^ 2
ValueFits step = ⊤

-- the words with these two positions
abbrev pub with_positions : Position → Position → RegionWords → RegionWords
with_positions used old w = record w { used_idx = used.index; old_used_idx = old.index; used_wrap_counter = wrap_counter used.wrap; old_used_wrap_counter = wrap_counter old.wrap }

-- the words after it, of a region of n entries
abbrev pub words_after : ℕ → PackedStore → RegionWords → RegionWords
words_after n PI1 w = w
words_after n (PI2 i) w = record w { inflight = with_at w.inflight i 0 }
words_after n (PI3 i) w = record w { next = with_at w.next i (i + 1) }
words_after n (PI4 at) w = with_positions at at w
words_after n PI5 w = record w { version = 1; desc_num = n; free_head = 0; old_free_head = 0 }
words_after n (PR1 free_head) w = record w { old_free_head = free_head }
words_after n (PR2 at) w = with_positions at at w
words_after n (PR4 at) w = with_positions at at w
words_after n (PR5 free_head) w = record w { free_head = free_head }
words_after n (PR6 i) w = record w { inflight = with_at w.inflight i 0 }
words_after n (PF1 i) w = record w { num = with_at w.num i 0 }
words_after n (PF2 i counter) w = record w { counter = with_at w.counter i counter }
words_after n (PF3 i) w = record w { inflight = with_at w.inflight i 1 }
words_after n (PF4 i last) w = record w { last = with_at w.last i last }
words_after n (PF5 i num) w = record w { num = with_at w.num i num }
words_after n (PF6 i addr) w = record w { addr = with_at w.addr i addr }
words_after n (PF7 i id flags len) w = record w { id = with_at w.id i id; flags = with_at w.flags i flags; len = with_at w.len i len }
words_after n (PF8 free_head) w = record w { free_head = free_head }
words_after n (PF9 free_head) w = record w { old_free_head = free_head }
words_after n (PP1 i next) w = record w { next = with_at w.next i next }
words_after n (PP2 free_head) w = record w { free_head = free_head }
words_after n (PP3 used old) w = with_positions used old w
words_after n (PP7 i) w = record w { inflight = with_at w.inflight i 0 }
words_after n (PP8 free_head) w = record w { old_free_head = free_head }
words_after n (PP9 at) w = with_positions at at w
