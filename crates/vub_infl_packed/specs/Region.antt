-- The in-flight region of a packed queue in shared memory (vhost-user, "Inflight I/O tracking").
use Rattle.std.specs.Prelude.{◌≡◌, ◌≤◌, ℕ, ◌+◌, ◌*◌, ◌%◌, not, ◌==◌, length}
use Rattle.vub_base.specs.declared.position.Position.{Position}
use Rattle.vub_shared.specs.Bytes.{Bytes, word, Apart}
use Rattle.vub_shared.specs.Stores.{Store}
use Rattle.vub_inflight.specs.Words.{bounded}
use Rattle.vub_infl_packed.specs.declared.region.PackedEntry.{PackedEntry}
use Rattle.vub_infl_packed.specs.declared.region.PackedHeader.{PackedHeader}
use Rattle.vub_infl_packed.specs.declared.region.PackedRegion.{PackedRegion}

-- ---- places

-- the bytes of the region of a queue of n descriptors: a header, and an entry for each
abbrev pub region_size : ℕ → ℕ
region_size n = 32 + 32 * n

-- it lies in its space at a multiple of 8
pub record RegionLies (sizes : ℕ → ℕ) (r : PackedRegion) : Type 0 where
  pub room : r.place + region_size r.size ≤ sizes r.space.number
  pub aligned : r.place % 8 ≡ 0

-- so many bytes into an entry
abbrev pub in_entry : PackedRegion → ℕ → ℕ → ℕ
in_entry r i at = r.place + (32 + 32 * i + at)

-- ---- words

-- those of the header, and of each entry
pub record RegionWords : Type 0 where
  pub version : ℕ
  pub desc_num : ℕ
  pub free_head : ℕ
  pub old_free_head : ℕ
  pub used_idx : ℕ
  pub old_used_idx : ℕ
  pub used_wrap_counter : ℕ
  pub old_used_wrap_counter : ℕ
  pub inflight : ℕ → ℕ
  pub next : ℕ → ℕ
  pub last : ℕ → ℕ
  pub num : ℕ → ℕ
  pub counter : ℕ → ℕ
  pub id : ℕ → ℕ
  pub flags : ℕ → ℕ
  pub len : ℕ → ℕ
  pub addr : ℕ → ℕ

-- the word of so many bytes at a place of each entry
abbrev pub entry_word : ℕ → PackedRegion → Bytes → ℕ → ℕ → ℕ
entry_word bytes r m at = bounded r.size (λ i. word bytes m r.space.number (in_entry r i at))

abbrev pub words_of : PackedRegion → Bytes → RegionWords
words_of r m = record {
  version = word 2 m r.space.number (r.place + 8);
  desc_num = word 2 m r.space.number (r.place + 10);
  free_head = word 2 m r.space.number (r.place + 12);
  old_free_head = word 2 m r.space.number (r.place + 14);
  used_idx = word 2 m r.space.number (r.place + 16);
  old_used_idx = word 2 m r.space.number (r.place + 18);
  used_wrap_counter = word 1 m r.space.number (r.place + 20);
  old_used_wrap_counter = word 1 m r.space.number (r.place + 21);
  inflight = entry_word 1 r m 0;
  next = entry_word 2 r m 2;
  last = entry_word 2 r m 4;
  num = entry_word 2 r m 6;
  counter = entry_word 8 r m 8;
  id = entry_word 2 r m 16;
  flags = entry_word 2 r m 18;
  len = entry_word 4 r m 20;
  addr = entry_word 8 r m 24;
}

-- a store touches no byte of the region
abbrev pub OffRegion : PackedRegion → Store → Type 0
OffRegion r st = Apart st.space st.place (length st.bytes) r.space.number r.place (region_size r.size)

-- ---- fields

-- a wrap counter is 1 where its byte isn't 0
abbrev pub position : ℕ → ℕ → Position
position index wrap_counter = record { index = index; wrap = not (wrap_counter == 0) }

-- the used position, and the one before the batch under way
abbrev pub used : RegionWords → Position
used w = position w.used_idx w.used_wrap_counter

abbrev pub old_used : RegionWords → Position
old_used w = position w.old_used_idx w.old_used_wrap_counter

abbrev pub header_of : RegionWords → PackedHeader
header_of w = record { version = w.version; desc_num = w.desc_num; free_head = w.free_head; old_free_head = w.old_free_head; used = used w; old_used = old_used w }

abbrev pub entry_of : RegionWords → ℕ → PackedEntry
entry_of w i = record { inflight = w.inflight i; next = w.next i; last = w.last i; num = w.num i; counter = w.counter i; id = w.id i; flags = w.flags i; len = w.len i; addr = w.addr i }
