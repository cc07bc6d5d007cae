-- Header and entries as they were loaded.
use Rattle.std.proofs.Common.{◌≡◌, ◌≤◌, ◌<◌, ℕ, ◌+◌, Bool, true, not, cond, List, get_or, ap, sym, ◌∙◌, arith}
use Rattle.std.specs.Prelude.{◌==◌, nat_lt}
use Rattle.std.proofs.lemmas.Bool.Decides.{nat_tests}
use Rattle.vub_base.specs.Fields.{field}
use Rattle.vub_shared.specs.Bytes.{Bytes, word, bytes_from}
use Rattle.vub_shared.proofs.BytesLemmas.{field_of_loaded, get_or-bytes_from, word-one}
use Rattle.vub_infl_packed.specs.declared.region.PackedEntry.{PackedEntry}
use Rattle.vub_infl_packed.specs.declared.region.PackedHeader.{PackedHeader}
use Rattle.vub_infl_packed.specs.declared.region.PackedRegion.{PackedRegion}
use Rattle.vub_infl_packed.specs.Region.{words_of, header_of, entry_of, entry_word, in_entry}

-- one byte of what was loaded
pub byte_of_loaded : (at n : ℕ) (m : Bytes) (s p : ℕ) (bytes : List ℕ) → at < n → bytes ≡ bytes_from n m s p → get_or bytes at 0 ≡ word 1 m s (p + at)
byte_of_loaded at n m s p bytes low loaded = ap (λ (xs : List ℕ). get_or xs at 0) loaded ∙ get_or-bytes_from n m s p at low ∙ sym (word-one m s (p + at))

-- the word of so many bytes at a place of entry i
in_bounds : (w at : ℕ) (r : PackedRegion) (m : Bytes) (i p : ℕ) → i < r.size → p ≡ in_entry r i 0 → word w m r.space.number (p + at) ≡ entry_word w r m at i
in_bounds w at r m i p low place =
    let there : p + at ≡ in_entry r i at = omega (arith, place) in
    let within : nat_lt i r.size ≡ true = grind (arith, nat_tests) in
    ap (word w m r.space.number) there ∙ sym (ap (λ (b : Bool). cond b (word w m r.space.number (in_entry r i at)) 0) within)

word_is : (w at x : ℕ) (r : PackedRegion) (m : Bytes) (i p : ℕ) (bytes : List ℕ) → at + w ≤ 32 → i < r.size → p ≡ in_entry r i 0 → bytes ≡ bytes_from 32 m r.space.number p → x ≡ field w at bytes → x ≡ entry_word w r m at i
word_is w at x r m i p bytes short low place loaded is = is ∙ ap (field w at) loaded ∙ field_of_loaded at w 32 m r.space.number p short ∙ in_bounds w at r m i p low place

-- the entry whose fields were loaded from its place
pub entry_is : (r : PackedRegion) (m : Bytes) (i p : ℕ) (bytes : List ℕ) (next last num counter id flags len addr : ℕ) → i < r.size → p ≡ in_entry r i 0 → bytes ≡ bytes_from 32 m r.space.number p
    → next ≡ field 2 2 bytes → last ≡ field 2 4 bytes → num ≡ field 2 6 bytes → counter ≡ field 8 8 bytes → id ≡ field 2 16 bytes → flags ≡ field 2 18 bytes → len ≡ field 4 20 bytes → addr ≡ field 8 24 bytes
    → ◌≡◌ {A = PackedEntry} (record { inflight = get_or bytes 0 0; next = next; last = last; num = num; counter = counter; id = id; flags = flags; len = len; addr = addr }) (entry_of (words_of r m) i)
entry_is r m i p bytes next last num counter id flags len addr low place loaded h2 h4 h6 h8 h16 h18 h20 h24 =
    let e0 : get_or bytes 0 0 ≡ entry_word 1 r m 0 i = byte_of_loaded 0 32 m r.space.number p bytes (omega arith) loaded ∙ in_bounds 1 0 r m i p low place in
    let e2 : next ≡ entry_word 2 r m 2 i = word_is 2 2 next r m i p bytes (omega arith) low place loaded h2 in
    let e4 : last ≡ entry_word 2 r m 4 i = word_is 2 4 last r m i p bytes (omega arith) low place loaded h4 in
    let e6 : num ≡ entry_word 2 r m 6 i = word_is 2 6 num r m i p bytes (omega arith) low place loaded h6 in
    let e8 : counter ≡ entry_word 8 r m 8 i = word_is 8 8 counter r m i p bytes (omega arith) low place loaded h8 in
    let e16 : id ≡ entry_word 2 r m 16 i = word_is 2 16 id r m i p bytes (omega arith) low place loaded h16 in
    let e18 : flags ≡ entry_word 2 r m 18 i = word_is 2 18 flags r m i p bytes (omega arith) low place loaded h18 in
    let e20 : len ≡ entry_word 4 r m 20 i = word_is 4 20 len r m i p bytes (omega arith) low place loaded h20 in
    let e24 : addr ≡ entry_word 8 r m 24 i = word_is 8 24 addr r m i p bytes (omega arith) low place loaded h24 in
    cc

header_word_is : (w at x : ℕ) (r : PackedRegion) (m : Bytes) (bytes : List ℕ) → at + w ≤ 32 → bytes ≡ bytes_from 32 m r.space.number r.place → x ≡ field w at bytes → x ≡ word w m r.space.number (r.place + at)
header_word_is w at x r m bytes short loaded is = is ∙ ap (field w at) loaded ∙ field_of_loaded at w 32 m r.space.number r.place short

-- the header whose fields were loaded from the start
pub header_is : (r : PackedRegion) (m : Bytes) (bytes : List ℕ) (version desc_num free_head old_free_head used_idx old_used_idx : ℕ) → bytes ≡ bytes_from 32 m r.space.number r.place
    → version ≡ field 2 8 bytes → desc_num ≡ field 2 10 bytes → free_head ≡ field 2 12 bytes → old_free_head ≡ field 2 14 bytes → used_idx ≡ field 2 16 bytes → old_used_idx ≡ field 2 18 bytes
    → ◌≡◌ {A = PackedHeader} (record { version = version; desc_num = desc_num; free_head = free_head; old_free_head = old_free_head; used = record { index = used_idx; wrap = not (get_or bytes 20 0 == 0) }; old_used = record { index = old_used_idx; wrap = not (get_or bytes 21 0 == 0) } }) (header_of (words_of r m))
header_is r m bytes version desc_num free_head old_free_head used_idx old_used_idx loaded h8 h10 h12 h14 h16 h18 =
    let s : ℕ = r.space.number in
    let e8 : version ≡ word 2 m s (r.place + 8) = header_word_is 2 8 version r m bytes (omega arith) loaded h8 in
    let e10 : desc_num ≡ word 2 m s (r.place + 10) = header_word_is 2 10 desc_num r m bytes (omega arith) loaded h10 in
    let e12 : free_head ≡ word 2 m s (r.place + 12) = header_word_is 2 12 free_head r m bytes (omega arith) loaded h12 in
    let e14 : old_free_head ≡ word 2 m s (r.place + 14) = header_word_is 2 14 old_free_head r m bytes (omega arith) loaded h14 in
    let e16 : used_idx ≡ word 2 m s (r.place + 16) = header_word_is 2 16 used_idx r m bytes (omega arith) loaded h16 in
    let e18 : old_used_idx ≡ word 2 m s (r.place + 18) = header_word_is 2 18 old_used_idx r m bytes (omega arith) loaded h18 in
    let e20 : get_or bytes 20 0 ≡ word 1 m s (r.place + 20) = byte_of_loaded 20 32 m s r.place bytes (omega arith) loaded in
    let e21 : get_or bytes 21 0 ≡ word 1 m s (r.place + 21) = byte_of_loaded 21 32 m s r.place bytes (omega arith) loaded in
    cc
