-- What each store leaves of the words of a region.
use Rattle.std.proofs.Common.{◌≡◌, ◌≤◌, ◌<◌, ◌⊎◌, ℕ, ◌+◌, ◌*◌, ◌/◌, ◌%◌, ◌^◌, Bool, true, false, refl, subst, ◌∙◌, inl, inr, arith}
use mathlib.Core.Path.{fun_ext}
use Rattle.byteorder.specs.Endian.{little_bytes}
use Rattle.vub_base.specs.declared.position.Position.{Position}
use Rattle.vub_shared.specs.Bytes.{Bytes, word, put}
use Rattle.vub_shared.specs.Stores.{Store, after_store}
use Rattle.vub_shared.proofs.BytesLemmas.{word-put_other, word-put_same, word-put_part}
use Rattle.vub_inflight.specs.Entries.{with_at}
use Rattle.vub_inflight.specs.Words.{put_word}
use Rattle.vub_inflight.proofs.WordLemmas.{beside, bounded_keeps, bounded_set}
use Rattle.vub_infl_packed.specs.declared.region.PackedRegion.{PackedRegion}
use Rattle.vub_infl_packed.specs.declared.store.PackedStore.{PackedStore}
use Rattle.vub_infl_packed.specs.declared.store.PackedStore.TheVariants.{PI1, PI2, PI3, PI4, PI5, PR1, PR2, PR4, PR5, PR6, PF1, PF2, PF3, PF4, PF5, PF6, PF7, PF8, PF9, PP1, PP2, PP3, PP7, PP8, PP9}
use Rattle.vub_infl_packed.specs.Region.{RegionWords, words_of, entry_word, in_entry, OffRegion}
use Rattle.vub_infl_packed.specs.Stores.{header_word, wrap_counter, used_word, desc_word, store_of, NamesEntry, ValueFits, with_positions, words_after}

record SameHeader (v w : RegionWords) : Type 0 where
  pub version : v.version ≡ w.version
  pub desc_num : v.desc_num ≡ w.desc_num
  pub free_head : v.free_head ≡ w.free_head
  pub old_free_head : v.old_free_head ≡ w.old_free_head
  pub used_idx : v.used_idx ≡ w.used_idx
  pub old_used_idx : v.old_used_idx ≡ w.old_used_idx
  pub used_wrap_counter : v.used_wrap_counter ≡ w.used_wrap_counter
  pub old_used_wrap_counter : v.old_used_wrap_counter ≡ w.old_used_wrap_counter

record SameEntries (v w : RegionWords) : Type 0 where
  pub inflight : (i : ℕ) → v.inflight i ≡ w.inflight i
  pub next : (i : ℕ) → v.next i ≡ w.next i
  pub last : (i : ℕ) → v.last i ≡ w.last i
  pub num : (i : ℕ) → v.num i ≡ w.num i
  pub counter : (i : ℕ) → v.counter i ≡ w.counter i
  pub id : (i : ℕ) → v.id i ≡ w.id i
  pub flags : (i : ℕ) → v.flags i ≡ w.flags i
  pub len : (i : ℕ) → v.len i ≡ w.len i
  pub addr : (i : ℕ) → v.addr i ≡ w.addr i

make : ℕ → ℕ → ℕ → ℕ → ℕ → ℕ → ℕ → ℕ → (ℕ → ℕ) → (ℕ → ℕ) → (ℕ → ℕ) → (ℕ → ℕ) → (ℕ → ℕ) → (ℕ → ℕ) → (ℕ → ℕ) → (ℕ → ℕ) → (ℕ → ℕ) → RegionWords
make a b c d e f g h i j k l o p q r s = record {
  version = a;
  desc_num = b;
  free_head = c;
  old_free_head = d;
  used_idx = e;
  old_used_idx = f;
  used_wrap_counter = g;
  old_used_wrap_counter = h;
  inflight = i;
  next = j;
  last = k;
  num = l;
  counter = o;
  id = p;
  flags = q;
  len = r;
  addr = s;
}

make-fields : (w : RegionWords) → make w.version w.desc_num w.free_head w.old_free_head w.used_idx w.old_used_idx w.used_wrap_counter w.old_used_wrap_counter w.inflight w.next w.last w.num w.counter w.id w.flags w.len w.addr ≡ w
unfolding make
make-fields w = refl

same_words : (v w : RegionWords) → SameHeader v w → SameEntries v w → v ≡ w
same_words v w h e =
    let h1 = h.version in
    let h2 = h.desc_num in
    let h3 = h.free_head in
    let h4 = h.old_free_head in
    let h5 = h.used_idx in
    let h6 = h.old_used_idx in
    let h7 = h.used_wrap_counter in
    let h8 = h.old_used_wrap_counter in
    let e1 : v.inflight ≡ w.inflight = fun_ext e.inflight in
    let e2 : v.next ≡ w.next = fun_ext e.next in
    let e3 : v.last ≡ w.last = fun_ext e.last in
    let e4 : v.num ≡ w.num = fun_ext e.num in
    let e5 : v.counter ≡ w.counter = fun_ext e.counter in
    let e6 : v.id ≡ w.id = fun_ext e.id in
    let e7 : v.flags ≡ w.flags = fun_ext e.flags in
    let e8 : v.len ≡ w.len = fun_ext e.len in
    let e9 : v.addr ≡ w.addr = fun_ext e.addr in
    let here = make-fields v in
    let there = make-fields w in
    cc

-- ---- a word of an entry

-- a number of v bytes behind the header leaves it
header_stays : (v x o : ℕ) (r : PackedRegion) (m : Bytes) → 32 ≤ o → SameHeader (words_of r (put m r.space.number (r.place + o) (little_bytes v x))) (words_of r m)
header_stays v x o r m behind = record {
  version = beside 2 v x r.space.number r.place m o 8 (inl (omega (arith, behind)));
  desc_num = beside 2 v x r.space.number r.place m o 10 (inl (omega (arith, behind)));
  free_head = beside 2 v x r.space.number r.place m o 12 (inl (omega (arith, behind)));
  old_free_head = beside 2 v x r.space.number r.place m o 14 (inl (omega (arith, behind)));
  used_idx = beside 2 v x r.space.number r.place m o 16 (inl (omega (arith, behind)));
  old_used_idx = beside 2 v x r.space.number r.place m o 18 (inl (omega (arith, behind)));
  used_wrap_counter = beside 1 v x r.space.number r.place m o 20 (inl (omega (arith, behind)));
  old_used_wrap_counter = beside 1 v x r.space.number r.place m o 21 (inl (omega (arith, behind)));
}

-- a number of v bytes at o in entry i leaves each word of w bytes at a beside it, in this entry and in others
stays : (w a v o x : ℕ) (r : PackedRegion) (m : Bytes) (i : ℕ) → (a + w ≤ o) ⊎ (o + v ≤ a) → a + w ≤ 32 → o + v ≤ 32
    → (j : ℕ) → entry_word w r (put m r.space.number (in_entry r i o) (little_bytes v x)) a j ≡ entry_word w r m a j
stays w a v o x r m i parts short within = bounded_keeps r.size _ _ (λ j b. beside w v x r.space.number r.place m (32 + 32 * i + o) (32 + 32 * j + a) (grind arith))

-- where the word at a of entry i is y after it, it is the one that changes
stored : (w a v o x y : ℕ) (r : PackedRegion) (m : Bytes) (i : ℕ) → i < r.size → a + w ≤ 32 → o + v ≤ 32
    → word w (put m r.space.number (in_entry r i o) (little_bytes v x)) r.space.number (in_entry r i a) ≡ y
    → (j : ℕ) → entry_word w r (put m r.space.number (in_entry r i o) (little_bytes v x)) a j ≡ with_at (entry_word w r m a) i y j
stored w a v o x y r m i low short within is = bounded_set r.size (λ j. word w m r.space.number (in_entry r j a)) (λ j. word w (put m r.space.number (in_entry r i o) (little_bytes v x)) r.space.number (in_entry r j a)) i y low is
    (λ j b apart. beside w v x r.space.number r.place m (32 + 32 * i + o) (32 + 32 * j + a) (grind arith))

-- the header as it stands, where a word of an entry changes
entry_changes : (v x o : ℕ) (r : PackedRegion) (m : Bytes) (i : ℕ) (w : RegionWords) → SameHeader (words_of r m) w → SameEntries (words_of r (put m r.space.number (in_entry r i o) (little_bytes v x))) w
    → words_of r (put m r.space.number (in_entry r i o) (little_bytes v x)) ≡ w
entry_changes v x o r m i w same entries =
    let h = header_stays v x (32 + 32 * i + o) r m (omega arith) in
    same_words _ w (record {
      version = h.version ∙ same.version;
      desc_num = h.desc_num ∙ same.desc_num;
      free_head = h.free_head ∙ same.free_head;
      old_free_head = h.old_free_head ∙ same.old_free_head;
      used_idx = h.used_idx ∙ same.used_idx;
      old_used_idx = h.old_used_idx ∙ same.old_used_idx;
      used_wrap_counter = h.used_wrap_counter ∙ same.used_wrap_counter;
      old_used_wrap_counter = h.old_used_wrap_counter ∙ same.old_used_wrap_counter;
    }) entries

inflight_stored : (r : PackedRegion) (m : Bytes) (i x : ℕ) → i < r.size → x < 256 ^ 1 → words_of r (after_store (put_word r.space.number (in_entry r i 0) 1 x) m) ≡ record (words_of r m) { inflight = with_at (words_of r m).inflight i x }
inflight_stored r m i x low fits = entry_changes 1 x 0 r m i _ same (record {
  inflight = stored 1 0 1 0 x x r m i low (omega arith) (omega arith) (word-put_same 1 m r.space.number (in_entry r i 0) x fits);
  next = stays 2 2 1 0 x r m i (grind arith) (omega arith) (omega arith);
  last = stays 2 4 1 0 x r m i (grind arith) (omega arith) (omega arith);
  num = stays 2 6 1 0 x r m i (grind arith) (omega arith) (omega arith);
  counter = stays 8 8 1 0 x r m i (grind arith) (omega arith) (omega arith);
  id = stays 2 16 1 0 x r m i (grind arith) (omega arith) (omega arith);
  flags = stays 2 18 1 0 x r m i (grind arith) (omega arith) (omega arith);
  len = stays 4 20 1 0 x r m i (grind arith) (omega arith) (omega arith);
  addr = stays 8 24 1 0 x r m i (grind arith) (omega arith) (omega arith);
})
  where
    same : SameHeader (words_of r m) (record (words_of r m) { inflight = with_at (words_of r m).inflight i x })
    same = record { version = refl; desc_num = refl; free_head = refl; old_free_head = refl; used_idx = refl; old_used_idx = refl; used_wrap_counter = refl; old_used_wrap_counter = refl }

next_stored : (r : PackedRegion) (m : Bytes) (i x : ℕ) → i < r.size → x < 256 ^ 2 → words_of r (after_store (put_word r.space.number (in_entry r i 2) 2 x) m) ≡ record (words_of r m) { next = with_at (words_of r m).next i x }
next_stored r m i x low fits = entry_changes 2 x 2 r m i _ same (record {
  inflight = stays 1 0 2 2 x r m i (grind arith) (omega arith) (omega arith);
  next = stored 2 2 2 2 x x r m i low (omega arith) (omega arith) (word-put_same 2 m r.space.number (in_entry r i 2) x fits);
  last = stays 2 4 2 2 x r m i (grind arith) (omega arith) (omega arith);
  num = stays 2 6 2 2 x r m i (grind arith) (omega arith) (omega arith);
  counter = stays 8 8 2 2 x r m i (grind arith) (omega arith) (omega arith);
  id = stays 2 16 2 2 x r m i (grind arith) (omega arith) (omega arith);
  flags = stays 2 18 2 2 x r m i (grind arith) (omega arith) (omega arith);
  len = stays 4 20 2 2 x r m i (grind arith) (omega arith) (omega arith);
  addr = stays 8 24 2 2 x r m i (grind arith) (omega arith) (omega arith);
})
  where
    same : SameHeader (words_of r m) (record (words_of r m) { next = with_at (words_of r m).next i x })
    same = record { version = refl; desc_num = refl; free_head = refl; old_free_head = refl; used_idx = refl; old_used_idx = refl; used_wrap_counter = refl; old_used_wrap_counter = refl }

last_stored : (r : PackedRegion) (m : Bytes) (i x : ℕ) → i < r.size → x < 256 ^ 2 → words_of r (after_store (put_word r.space.number (in_entry r i 4) 2 x) m) ≡ record (words_of r m) { last = with_at (words_of r m).last i x }
last_stored r m i x low fits = entry_changes 2 x 4 r m i _ same (record {
  inflight = stays 1 0 2 4 x r m i (grind arith) (omega arith) (omega arith);
  next = stays 2 2 2 4 x r m i (grind arith) (omega arith) (omega arith);
  last = stored 2 4 2 4 x x r m i low (omega arith) (omega arith) (word-put_same 2 m r.space.number (in_entry r i 4) x fits);
  num = stays 2 6 2 4 x r m i (grind arith) (omega arith) (omega arith);
  counter = stays 8 8 2 4 x r m i (grind arith) (omega arith) (omega arith);
  id = stays 2 16 2 4 x r m i (grind arith) (omega arith) (omega arith);
  flags = stays 2 18 2 4 x r m i (grind arith) (omega arith) (omega arith);
  len = stays 4 20 2 4 x r m i (grind arith) (omega arith) (omega arith);
  addr = stays 8 24 2 4 x r m i (grind arith) (omega arith) (omega arith);
})
  where
    same : SameHeader (words_of r m) (record (words_of r m) { last = with_at (words_of r m).last i x })
    same = record { version = refl; desc_num = refl; free_head = refl; old_free_head = refl; used_idx = refl; old_used_idx = refl; used_wrap_counter = refl; old_used_wrap_counter = refl }

num_stored : (r : PackedRegion) (m : Bytes) (i x : ℕ) → i < r.size → x < 256 ^ 2 → words_of r (after_store (put_word r.space.number (in_entry r i 6) 2 x) m) ≡ record (words_of r m) { num = with_at (words_of r m).num i x }
num_stored r m i x low fits = entry_changes 2 x 6 r m i _ same (record {
  inflight = stays 1 0 2 6 x r m i (grind arith) (omega arith) (omega arith);
  next = stays 2 2 2 6 x r m i (grind arith) (omega arith) (omega arith);
  last = stays 2 4 2 6 x r m i (grind arith) (omega arith) (omega arith);
  num = stored 2 6 2 6 x x r m i low (omega arith) (omega arith) (word-put_same 2 m r.space.number (in_entry r i 6) x fits);
  counter = stays 8 8 2 6 x r m i (grind arith) (omega arith) (omega arith);
  id = stays 2 16 2 6 x r m i (grind arith) (omega arith) (omega arith);
  flags = stays 2 18 2 6 x r m i (grind arith) (omega arith) (omega arith);
  len = stays 4 20 2 6 x r m i (grind arith) (omega arith) (omega arith);
  addr = stays 8 24 2 6 x r m i (grind arith) (omega arith) (omega arith);
})
  where
    same : SameHeader (words_of r m) (record (words_of r m) { num = with_at (words_of r m).num i x })
    same = record { version = refl; desc_num = refl; free_head = refl; old_free_head = refl; used_idx = refl; old_used_idx = refl; used_wrap_counter = refl; old_used_wrap_counter = refl }

counter_stored : (r : PackedRegion) (m : Bytes) (i x : ℕ) → i < r.size → x < 256 ^ 8 → words_of r (after_store (put_word r.space.number (in_entry r i 8) 8 x) m) ≡ record (words_of r m) { counter = with_at (words_of r m).counter i x }
counter_stored r m i x low fits = entry_changes 8 x 8 r m i _ same (record {
  inflight = stays 1 0 8 8 x r m i (grind arith) (omega arith) (omega arith);
  next = stays 2 2 8 8 x r m i (grind arith) (omega arith) (omega arith);
  last = stays 2 4 8 8 x r m i (grind arith) (omega arith) (omega arith);
  num = stays 2 6 8 8 x r m i (grind arith) (omega arith) (omega arith);
  counter = stored 8 8 8 8 x x r m i low (omega arith) (omega arith) (word-put_same 8 m r.space.number (in_entry r i 8) x fits);
  id = stays 2 16 8 8 x r m i (grind arith) (omega arith) (omega arith);
  flags = stays 2 18 8 8 x r m i (grind arith) (omega arith) (omega arith);
  len = stays 4 20 8 8 x r m i (grind arith) (omega arith) (omega arith);
  addr = stays 8 24 8 8 x r m i (grind arith) (omega arith) (omega arith);
})
  where
    same : SameHeader (words_of r m) (record (words_of r m) { counter = with_at (words_of r m).counter i x })
    same = record { version = refl; desc_num = refl; free_head = refl; old_free_head = refl; used_idx = refl; old_used_idx = refl; used_wrap_counter = refl; old_used_wrap_counter = refl }

addr_stored : (r : PackedRegion) (m : Bytes) (i x : ℕ) → i < r.size → x < 256 ^ 8 → words_of r (after_store (put_word r.space.number (in_entry r i 24) 8 x) m) ≡ record (words_of r m) { addr = with_at (words_of r m).addr i x }
addr_stored r m i x low fits = entry_changes 8 x 24 r m i _ same (record {
  inflight = stays 1 0 8 24 x r m i (grind arith) (omega arith) (omega arith);
  next = stays 2 2 8 24 x r m i (grind arith) (omega arith) (omega arith);
  last = stays 2 4 8 24 x r m i (grind arith) (omega arith) (omega arith);
  num = stays 2 6 8 24 x r m i (grind arith) (omega arith) (omega arith);
  counter = stays 8 8 8 24 x r m i (grind arith) (omega arith) (omega arith);
  id = stays 2 16 8 24 x r m i (grind arith) (omega arith) (omega arith);
  flags = stays 2 18 8 24 x r m i (grind arith) (omega arith) (omega arith);
  len = stays 4 20 8 24 x r m i (grind arith) (omega arith) (omega arith);
  addr = stored 8 24 8 24 x x r m i low (omega arith) (omega arith) (word-put_same 8 m r.space.number (in_entry r i 24) x fits);
})
  where
    same : SameHeader (words_of r m) (record (words_of r m) { addr = with_at (words_of r m).addr i x })
    same = record { version = refl; desc_num = refl; free_head = refl; old_free_head = refl; used_idx = refl; old_used_idx = refl; used_wrap_counter = refl; old_used_wrap_counter = refl }

-- id, flags and length of an entry
desc_stored : (r : PackedRegion) (m : Bytes) (i id flags len : ℕ) → i < r.size → id < 65536 → flags < 65536 → len < 4294967296
    → words_of r (after_store (put_word r.space.number (in_entry r i 16) 8 (desc_word id flags len)) m) ≡ record (words_of r m) { id = with_at (words_of r m).id i id; flags = with_at (words_of r m).flags i flags; len = with_at (words_of r m).len i len }
desc_stored r m i id flags len low id_fits flags_fit len_fits =
    let x : ℕ = desc_word id flags len in
    let s : ℕ = r.space.number in
    let p18 : in_entry r i 16 + 2 ≡ in_entry r i 18 = omega arith in
    let p20 : in_entry r i 16 + 4 ≡ in_entry r i 20 = omega arith in
    let p16 : in_entry r i 16 + 0 ≡ in_entry r i 16 = omega arith in
    let first : word 2 (put m s (in_entry r i 16) (little_bytes 8 x)) s (in_entry r i 16 + 0) ≡ id = word-put_part 2 8 0 m s (in_entry r i 16) x (omega arith) ∙ omega (arith, id_fits, flags_fit, len_fits) in
    let second : word 2 (put m s (in_entry r i 16) (little_bytes 8 x)) s (in_entry r i 16 + 2) ≡ flags = word-put_part 2 8 2 m s (in_entry r i 16) x (omega arith) ∙ omega (arith, id_fits, flags_fit, len_fits) in
    let third : word 4 (put m s (in_entry r i 16) (little_bytes 8 x)) s (in_entry r i 16 + 4) ≡ len = word-put_part 4 8 4 m s (in_entry r i 16) x (omega arith) ∙ omega (arith, id_fits, flags_fit, len_fits) in
    entry_changes 8 x 16 r m i _ same (record {
      inflight = stays 1 0 8 16 x r m i (grind arith) (omega arith) (omega arith);
      next = stays 2 2 8 16 x r m i (grind arith) (omega arith) (omega arith);
      last = stays 2 4 8 16 x r m i (grind arith) (omega arith) (omega arith);
      num = stays 2 6 8 16 x r m i (grind arith) (omega arith) (omega arith);
      counter = stays 8 8 8 16 x r m i (grind arith) (omega arith) (omega arith);
      id = stored 2 16 8 16 x id r m i low (omega arith) (omega arith) (subst (λ (p : ℕ). word 2 (put m s (in_entry r i 16) (little_bytes 8 x)) s p ≡ id) p16 first);
      flags = stored 2 18 8 16 x flags r m i low (omega arith) (omega arith) (subst (λ (p : ℕ). word 2 (put m s (in_entry r i 16) (little_bytes 8 x)) s p ≡ flags) p18 second);
      len = stored 4 20 8 16 x len r m i low (omega arith) (omega arith) (subst (λ (p : ℕ). word 4 (put m s (in_entry r i 16) (little_bytes 8 x)) s p ≡ len) p20 third);
      addr = stays 8 24 8 16 x r m i (grind arith) (omega arith) (omega arith);
    })
  where
    same : SameHeader (words_of r m) (record (words_of r m) { id = with_at (words_of r m).id i id; flags = with_at (words_of r m).flags i flags; len = with_at (words_of r m).len i len })
    same = record { version = refl; desc_num = refl; free_head = refl; old_free_head = refl; used_idx = refl; old_used_idx = refl; used_wrap_counter = refl; old_used_wrap_counter = refl }

-- ---- a word of the header

-- a number of v bytes in the header leaves the entries
entries_stay : (v x o : ℕ) (r : PackedRegion) (m : Bytes) → o + v ≤ 32 → SameEntries (words_of r (put m r.space.number (r.place + o) (little_bytes v x))) (words_of r m)
entries_stay v x o r m low = record {
  inflight = bounded_keeps r.size _ _ (λ j b. beside 1 v x r.space.number r.place m o (32 + 32 * j + 0) (inr (omega (arith, low))));
  next = bounded_keeps r.size _ _ (λ j b. beside 2 v x r.space.number r.place m o (32 + 32 * j + 2) (inr (omega (arith, low))));
  last = bounded_keeps r.size _ _ (λ j b. beside 2 v x r.space.number r.place m o (32 + 32 * j + 4) (inr (omega (arith, low))));
  num = bounded_keeps r.size _ _ (λ j b. beside 2 v x r.space.number r.place m o (32 + 32 * j + 6) (inr (omega (arith, low))));
  counter = bounded_keeps r.size _ _ (λ j b. beside 8 v x r.space.number r.place m o (32 + 32 * j + 8) (inr (omega (arith, low))));
  id = bounded_keeps r.size _ _ (λ j b. beside 2 v x r.space.number r.place m o (32 + 32 * j + 16) (inr (omega (arith, low))));
  flags = bounded_keeps r.size _ _ (λ j b. beside 2 v x r.space.number r.place m o (32 + 32 * j + 18) (inr (omega (arith, low))));
  len = bounded_keeps r.size _ _ (λ j b. beside 4 v x r.space.number r.place m o (32 + 32 * j + 20) (inr (omega (arith, low))));
  addr = bounded_keeps r.size _ _ (λ j b. beside 8 v x r.space.number r.place m o (32 + 32 * j + 24) (inr (omega (arith, low))));
}

free_head_stored : (r : PackedRegion) (m : Bytes) (x : ℕ) → x < 256 ^ 2 → words_of r (after_store (put_word r.space.number (r.place + 12) 2 x) m) ≡ record (words_of r m) { free_head = x }
free_head_stored r m x fits =
    let e = entries_stay 2 x 12 r m (omega arith) in
    same_words _ _ (record {
      version = beside 2 2 x r.space.number r.place m 12 8 (grind arith);
      desc_num = beside 2 2 x r.space.number r.place m 12 10 (grind arith);
      free_head = word-put_same 2 m r.space.number (r.place + 12) x fits;
      old_free_head = beside 2 2 x r.space.number r.place m 12 14 (grind arith);
      used_idx = beside 2 2 x r.space.number r.place m 12 16 (grind arith);
      old_used_idx = beside 2 2 x r.space.number r.place m 12 18 (grind arith);
      used_wrap_counter = beside 1 2 x r.space.number r.place m 12 20 (grind arith);
      old_used_wrap_counter = beside 1 2 x r.space.number r.place m 12 21 (grind arith);
    }) (record { inflight = e.inflight; next = e.next; last = e.last; num = e.num; counter = e.counter; id = e.id; flags = e.flags; len = e.len; addr = e.addr })

old_free_head_stored : (r : PackedRegion) (m : Bytes) (x : ℕ) → x < 256 ^ 2 → words_of r (after_store (put_word r.space.number (r.place + 14) 2 x) m) ≡ record (words_of r m) { old_free_head = x }
old_free_head_stored r m x fits =
    let e = entries_stay 2 x 14 r m (omega arith) in
    same_words _ _ (record {
      version = beside 2 2 x r.space.number r.place m 14 8 (grind arith);
      desc_num = beside 2 2 x r.space.number r.place m 14 10 (grind arith);
      free_head = beside 2 2 x r.space.number r.place m 14 12 (grind arith);
      old_free_head = word-put_same 2 m r.space.number (r.place + 14) x fits;
      used_idx = beside 2 2 x r.space.number r.place m 14 16 (grind arith);
      old_used_idx = beside 2 2 x r.space.number r.place m 14 18 (grind arith);
      used_wrap_counter = beside 1 2 x r.space.number r.place m 14 20 (grind arith);
      old_used_wrap_counter = beside 1 2 x r.space.number r.place m 14 21 (grind arith);
    }) (record { inflight = e.inflight; next = e.next; last = e.last; num = e.num; counter = e.counter; id = e.id; flags = e.flags; len = e.len; addr = e.addr })

-- the features are no word that is read
features_stored : (r : PackedRegion) (m : Bytes) (x : ℕ) → words_of r (after_store (put_word r.space.number r.place 8 x) m) ≡ words_of r m
features_stored r m x =
    let at_start : r.place + 0 ≡ r.place = omega arith in
    let P : ℕ → Type 0 = λ p. words_of r (put m r.space.number p (little_bytes 8 x)) ≡ words_of r m in
    let there : P (r.place + 0) = same_words _ _ (record {
      version = beside 2 8 x r.space.number r.place m 0 8 (grind arith);
      desc_num = beside 2 8 x r.space.number r.place m 0 10 (grind arith);
      free_head = beside 2 8 x r.space.number r.place m 0 12 (grind arith);
      old_free_head = beside 2 8 x r.space.number r.place m 0 14 (grind arith);
      used_idx = beside 2 8 x r.space.number r.place m 0 16 (grind arith);
      old_used_idx = beside 2 8 x r.space.number r.place m 0 18 (grind arith);
      used_wrap_counter = beside 1 8 x r.space.number r.place m 0 20 (grind arith);
      old_used_wrap_counter = beside 1 8 x r.space.number r.place m 0 21 (grind arith);
    }) (entries_stay 8 x 0 r m (omega arith)) in
    rw at_start at there

-- a word of a number of 8 bytes in the header
part : (w i o v x y : ℕ) (r : PackedRegion) (m : Bytes) → i + w ≤ 8 → o + i ≡ v → x / 256 ^ i % 256 ^ w ≡ y → word w (put m r.space.number (r.place + o) (little_bytes 8 x)) r.space.number (r.place + v) ≡ y
part w i o v x y r m short place is =
    let there : r.place + o + i ≡ r.place + v = omega arith in
    subst (λ (p : ℕ). word w (put m r.space.number (r.place + o) (little_bytes 8 x)) r.space.number p ≡ y) there (word-put_part w 8 i m r.space.number (r.place + o) x short ∙ is)

header_stored : (r : PackedRegion) (m : Bytes) → r.size < 65536 → words_of r (after_store (put_word r.space.number (r.place + 8) 8 (header_word r.size)) m) ≡ record (words_of r m) { version = 1; desc_num = r.size; free_head = 0; old_free_head = 0 }
header_stored r m small =
    let x : ℕ = header_word r.size in
    let e = entries_stay 8 x 8 r m (omega arith) in
    same_words _ _ (record {
      version = part 2 0 8 8 x 1 r m (omega arith) refl (omega (arith, small));
      desc_num = part 2 2 8 10 x r.size r m (omega arith) refl (omega (arith, small));
      free_head = part 2 4 8 12 x 0 r m (omega arith) refl (omega (arith, small));
      old_free_head = part 2 6 8 14 x 0 r m (omega arith) refl (omega (arith, small));
      used_idx = beside 2 8 x r.space.number r.place m 8 16 (grind arith);
      old_used_idx = beside 2 8 x r.space.number r.place m 8 18 (grind arith);
      used_wrap_counter = beside 1 8 x r.space.number r.place m 8 20 (grind arith);
      old_used_wrap_counter = beside 1 8 x r.space.number r.place m 8 21 (grind arith);
    }) (record { inflight = e.inflight; next = e.next; last = e.last; num = e.num; counter = e.counter; id = e.id; flags = e.flags; len = e.len; addr = e.addr })

wrap_small : (wrap : Bool) → wrap_counter wrap ≤ 1
wrap_small true = omega arith
wrap_small false = omega arith

positions_stored : (r : PackedRegion) (m : Bytes) (used old : Position) → used.index < 65536 → old.index < 65536
    → words_of r (after_store (put_word r.space.number (r.place + 16) 8 (used_word used old)) m) ≡ with_positions used old (words_of r m)
positions_stored r m used old used_fits old_fits =
    let x : ℕ = used_word used old in
    let a : wrap_counter used.wrap ≤ 1 = wrap_small used.wrap in
    let b : wrap_counter old.wrap ≤ 1 = wrap_small old.wrap in
    let e = entries_stay 8 x 16 r m (omega arith) in
    same_words _ _ (record {
      version = beside 2 8 x r.space.number r.place m 16 8 (grind arith);
      desc_num = beside 2 8 x r.space.number r.place m 16 10 (grind arith);
      free_head = beside 2 8 x r.space.number r.place m 16 12 (grind arith);
      old_free_head = beside 2 8 x r.space.number r.place m 16 14 (grind arith);
      used_idx = part 2 0 16 16 x used.index r m (omega arith) refl (omega (arith, used_fits, old_fits, a, b));
      old_used_idx = part 2 2 16 18 x old.index r m (omega arith) refl (omega (arith, used_fits, old_fits, a, b));
      used_wrap_counter = part 1 4 16 20 x (wrap_counter used.wrap) r m (omega arith) refl (omega (arith, used_fits, old_fits, a, b));
      old_used_wrap_counter = part 1 5 16 21 x (wrap_counter old.wrap) r m (omega arith) refl (omega (arith, used_fits, old_fits, a, b));
    }) (record { inflight = e.inflight; next = e.next; last = e.last; num = e.num; counter = e.counter; id = e.id; flags = e.flags; len = e.len; addr = e.addr })

-- ---- the store of each row

pub words_stored : (r : PackedRegion) (step : PackedStore) (m : Bytes) → r.size < 65536 → NamesEntry r.size step → ValueFits step → words_of r (after_store (store_of r step) m) ≡ words_after r.size step (words_of r m)
words_stored r PI1 m small within fits = features_stored r m 0
words_stored r (PI2 i) m small within fits = inflight_stored r m i 0 within (omega arith)
words_stored r (PI3 i) m small within fits = next_stored r m i (i + 1) within (omega (arith, small, within))
words_stored r (PI4 at) m small within fits = positions_stored r m at at fits fits
words_stored r PI5 m small within fits = header_stored r m small
words_stored r (PR1 head) m small within fits = old_free_head_stored r m head fits
words_stored r (PR2 at) m small within fits = positions_stored r m at at fits fits
words_stored r (PR4 at) m small within fits = positions_stored r m at at fits fits
words_stored r (PR5 head) m small within fits = free_head_stored r m head fits
words_stored r (PR6 i) m small within fits = inflight_stored r m i 0 within (omega arith)
words_stored r (PF1 i) m small within fits = num_stored r m i 0 within (omega arith)
words_stored r (PF2 i counter) m small within fits = counter_stored r m i counter within fits
words_stored r (PF3 i) m small within fits = inflight_stored r m i 1 within (omega arith)
words_stored r (PF4 i last) m small within fits = last_stored r m i last within fits
words_stored r (PF5 i num) m small within fits = num_stored r m i num within fits
words_stored r (PF6 i addr) m small within fits = addr_stored r m i addr within fits
words_stored r (PF7 i id flags len) m small within fits = desc_stored r m i id flags len within fits.0 fits.1 fits.2
words_stored r (PF8 head) m small within fits = free_head_stored r m head fits
words_stored r (PF9 head) m small within fits = old_free_head_stored r m head fits
words_stored r (PP1 i next) m small within fits = next_stored r m i next within fits
words_stored r (PP2 head) m small within fits = free_head_stored r m head fits
words_stored r (PP3 used old) m small within fits = positions_stored r m used old fits.0 fits.1
words_stored r (PP7 i) m small within fits = inflight_stored r m i 0 within (omega arith)
words_stored r (PP8 head) m small within fits = old_free_head_stored r m head fits
words_stored r (PP9 at) m small within fits = positions_stored r m at at fits fits

-- a store of the driver, of a request, into a ring or into another queue's region
pub words_elsewhere : (r : PackedRegion) (m : Bytes) (st : Store) → OffRegion r st → words_of r (after_store st m) ≡ words_of r m
words_elsewhere r m st off = same_words _ _ (record {
  version = word-put_other 2 m st.space st.place st.bytes r.space.number (r.place + 8) (grind arith);
  desc_num = word-put_other 2 m st.space st.place st.bytes r.space.number (r.place + 10) (grind arith);
  free_head = word-put_other 2 m st.space st.place st.bytes r.space.number (r.place + 12) (grind arith);
  old_free_head = word-put_other 2 m st.space st.place st.bytes r.space.number (r.place + 14) (grind arith);
  used_idx = word-put_other 2 m st.space st.place st.bytes r.space.number (r.place + 16) (grind arith);
  old_used_idx = word-put_other 2 m st.space st.place st.bytes r.space.number (r.place + 18) (grind arith);
  used_wrap_counter = word-put_other 1 m st.space st.place st.bytes r.space.number (r.place + 20) (grind arith);
  old_used_wrap_counter = word-put_other 1 m st.space st.place st.bytes r.space.number (r.place + 21) (grind arith);
}) (record {
  inflight = bounded_keeps r.size _ _ (λ j b. word-put_other 1 m st.space st.place st.bytes r.space.number (in_entry r j 0) (grind arith));
  next = bounded_keeps r.size _ _ (λ j b. word-put_other 2 m st.space st.place st.bytes r.space.number (in_entry r j 2) (grind arith));
  last = bounded_keeps r.size _ _ (λ j b. word-put_other 2 m st.space st.place st.bytes r.space.number (in_entry r j 4) (grind arith));
  num = bounded_keeps r.size _ _ (λ j b. word-put_other 2 m st.space st.place st.bytes r.space.number (in_entry r j 6) (grind arith));
  counter = bounded_keeps r.size _ _ (λ j b. word-put_other 8 m st.space st.place st.bytes r.space.number (in_entry r j 8) (grind arith));
  id = bounded_keeps r.size _ _ (λ j b. word-put_other 2 m st.space st.place st.bytes r.space.number (in_entry r j 16) (grind arith));
  flags = bounded_keeps r.size _ _ (λ j b. word-put_other 2 m st.space st.place st.bytes r.space.number (in_entry r j 18) (grind arith));
  len = bounded_keeps r.size _ _ (λ j b. word-put_other 4 m st.space st.place st.bytes r.space.number (in_entry r j 20) (grind arith));
  addr = bounded_keeps r.size _ _ (λ j b. word-put_other 8 m st.space st.place st.bytes r.space.number (in_entry r j 24) (grind arith));
})
