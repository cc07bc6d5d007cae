-- What each store of a split queue leaves of a sound region, and what is read of it.
use Rattle.std.proofs.Common.{◌≡◌, ◌≢◌, ◌≤◌, ◌<◌, ℕ, zero, suc, ◌+◌, ◌%◌, true, false, not, List, [], ◌∷◌, ◌++◌, length, filter, reverse, refl, ap, sym, ◌∙◌, subst, inl, inr, arith}
use Rattle.std.specs.Prelude.{◌&&◌, ◌==◌, nat_lt}
use Rattle.std.specs.List.{AllByRecursion}
use Rattle.std.proofs.lemmas.Bool.Decides.{nat_tests}
use Rattle.std.proofs.lemmas.List.{map-append, take_all}
use Rattle.vub_base.specs.Pending.{sorted}
use Rattle.vub_base.specs.declared.pending.Pending.{Pending}
use Rattle.vub_base.specs.declared.reading.Reading.{Reading}
use Rattle.vub_base.specs.declared.reading.Reading.TheVariants.{Uninitialised}
use Rattle.vub_ring.specs.Ring.{ahead}
use Rattle.vub_device.specs.Past.{is_among}
use Rattle.vub_device.specs.Places.{are_distinct}
use Rattle.vub_inflight.specs.Entries.{entry_at, heads_of, without_heads, CountersBelow, CountersRise}
use Rattle.vub_inflight.specs.Links.{links}
use Rattle.vub_inflight.proofs.Each.{all_append, all_filter}
use Rattle.vub_inflight.proofs.EntryLemmas.{by_counter_all, among_by_counter, distinct_by_counter}
use Rattle.vub_inflight.proofs.CounterLemmas.{below_weaker, rise_push, rise_without}
use Rattle.vub_infl_split.specs.declared.region.SplitStore.TheVariants.{SI3, SR1, SR2, SF1, SF2, SP3, SP4}
use Rattle.vub_infl_split.specs.Region.{RegionWords}
use Rattle.vub_infl_split.specs.Stores.{words_after}
use Rattle.vub_inflight.specs.Readings.{read_list}
use Rattle.vub_infl_split.specs.Readings.{counted, is_open, one_each, open_by_index, open_entries, split_reading, split_entries}
use Rattle.vub_infl_split.specs.Sound.{Sound}
use Rattle.vub_infl_split.proofs.ReadingLemmas.{open_at_rest, counted_shown, reading_count, reading_accept, reading_link, reading_last, reading_show, reading_clear, reading_note, sound_reads}
use Rattle.vub_region_facts.specs.Starts.{Left, IsNoted}
use Rattle.vub_region_facts.specs.Phases.{HasCounter, IsBatch, IsLinked, IsShown}
use Rattle.vub_region_facts.proofs.BatchLemmas.{among_reverse, all_below, distinct_reverse}

-- ---- sound again

-- the same header and batch, and the same open entries
sound_same : (n used : ℕ) (heads : List ℕ) (w w' : RegionWords) → w'.version ≡ w.version → w'.desc_num ≡ w.desc_num → w'.last_batch_head ≡ w.last_batch_head → w'.used_idx ≡ w.used_idx
    → counted used w' ≡ counted used w → open_entries n used w' ≡ open_entries n used w → Sound n used heads w → Sound n used heads w'
sound_same n used heads w w' version count last noted links same s = record {
  version = version ∙ s.version;
  count = count ∙ s.count;
  few = subst (λ (k : ℕ). ahead used k ≤ n) (sym noted) s.few;
  distinct = ap are_distinct links ∙ s.distinct;
  within = subst (λ (xs : List ℕ). AllByRecursion (λ (x : ℕ). x < n) xs) (sym links) s.within;
  reads = ap heads_of same ∙ s.reads;
  rising = subst (λ (es : List Pending). CountersRise es) (sym same) s.rising;
  low = subst (λ (es : List Pending). CountersBelow 18446744073709551615 es) (sym same) s.low;
  last_fits = omega (arith, s.last_fits, last);
  used_idx_fits = omega (arith, s.used_idx_fits, noted);
}

-- no batch is to be noted, and these are the open entries
pub sound_at_rest : (n used : ℕ) (heads : List ℕ) (w : RegionWords) (entries : List Pending) → w.version ≡ 1 → w.desc_num ≡ n → w.last_batch_head < 65536 → IsNoted used w → used < 65536
    → open_entries n used w ≡ entries → heads_of entries ≡ heads → CountersRise entries → CountersBelow 18446744073709551615 entries → Sound n used heads w
sound_at_rest n used heads w entries version count last noted fits same reads rising low =
    let no_way : ahead used w.used_idx ≡ 0 = omega (arith, noted, fits) in
    let none : counted used w ≡ [] = ap (λ (k : ℕ). links w.next k w.last_batch_head) no_way in
    record {
      version = version;
      count = count;
      few = omega (arith, no_way);
      distinct = ap are_distinct none;
      within = subst (λ (xs : List ℕ). AllByRecursion (λ (x : ℕ). x < n) xs) (sym none) tt;
      reads = ap heads_of same ∙ reads;
      rising = subst (λ (es : List Pending). CountersRise es) (sym same) rising;
      low = subst (λ (es : List Pending). CountersBelow 18446744073709551615 es) (sym same) low;
      last_fits = last;
      used_idx_fits = omega (arith, noted, fits);
    }

-- ---- a new region is made: SI3

none_free : (n m used : ℕ) (w : RegionWords) → m ≤ n → IsNoted used w → used < 65536 → ((i : ℕ) → i < n → w.inflight i ≡ 0) → open_by_index m used w ≡ []
none_free n zero used w le noted fits freed = refl
none_free n (suc m) used w le noted fits freed =
    let rest : open_by_index m used w ≡ [] = none_free n m used w (omega (arith, le)) noted fits freed in
    let free : w.inflight m ≡ 0 = freed m (omega (arith, le)) in
    let out : is_open used w m ≡ false = open_at_rest used w m noted fits ∙ grind (arith, nat_tests) in
    grind (arith, nat_tests)

pub sound_new : (n used : ℕ) (w : RegionWords) → used < 65536 → ((i : ℕ) → i < n → w.inflight i ≡ 0) → Sound n used [] (words_after n (SI3 used) w)
sound_new n used w fits freed =
    let none : open_by_index n used (words_after n (SI3 used) w) ≡ [] = none_free n n used (words_after n (SI3 used) w) (omega arith) refl fits freed in
    sound_at_rest n used [] (words_after n (SI3 used) w) [] refl refl (omega arith) refl fits (ap sorted none) refl tt tt

-- ---- a fetch

-- a head that isn't open is free where no batch is to be noted
pub free_head : (n used : ℕ) (heads : List ℕ) (head : ℕ) (w : RegionWords) → head < n → IsNoted used w → used < 65536 → is_among heads head ≡ false → Sound n used heads w → w.inflight head ≡ 0
free_head n used heads head w within noted fits out s =
    let there : is_among (heads_of (open_entries n used w)) head ≡ false = ap (λ (hs : List ℕ). is_among hs head) s.reads ∙ out in
    let open_there = among_by_counter w.counter one_each (is_open used w) n head in
    let rest : is_open used w head ≡ not (w.inflight head == 0) = open_at_rest used w head noted fits in
    grind (arith, nat_tests)

-- SF1
pub sound_counter : (n used : ℕ) (heads : List ℕ) (w : RegionWords) (head counter : ℕ) → IsNoted used w → used < 65536 → w.inflight head ≡ 0 → Sound n used heads w → Sound n used heads (words_after n (SF1 head counter) w)
sound_counter n used heads w head counter noted fits free s =
    let out : is_open used w head ≡ false = open_at_rest used w head noted fits ∙ grind (arith, nat_tests) in
    sound_same n used heads w (words_after n (SF1 head counter) w) refl refl refl refl refl (reading_count n used w head counter out) s

pub has_counter_now : (n used : ℕ) (w : RegionWords) (head counter : ℕ) → head < n → IsNoted used w → used < 65536 → w.inflight head ≡ 0 → counter < 18446744073709551615 → CountersBelow counter (open_entries n used w)
    → HasCounter n used head (counter + 1) (words_after n (SF1 head counter) w)
has_counter_now n used w head counter within noted fits free small below =
    let out : is_open used w head ≡ false = open_at_rest used w head noted fits ∙ grind (arith, nat_tests) in
    let same : open_entries n used (words_after n (SF1 head counter) w) ≡ open_entries n used w = reading_count n used w head counter out in
    let here : (words_after n (SF1 head counter) w).counter head ≡ counter = grind (arith, nat_tests) in
    record {
      within = within;
      free = free;
      given = omega (arith, here);
      above = subst (λ (k : ℕ). CountersBelow k (open_entries n used (words_after n (SF1 head counter) w))) (sym here) (subst (λ (es : List Pending). CountersBelow counter es) (sym same) below);
      low = omega (arith, here, small);
    }

-- SF2, with which the request is accepted
accepted_last : (n used head counter : ℕ) (w : RegionWords) → IsNoted used w → used < 65536 → HasCounter n used head counter w → open_entries n used (words_after n (SF2 head) w) ≡ open_entries n used w ++ entry_at w.counter one_each head ∷ []
accepted_last n used head counter w noted fits c = reading_accept n used w head c.within noted fits c.free (by_counter_all (λ (e : Pending). e.counter < w.counter head) w.counter one_each (is_open used w) n c.above)

pub sound_accept : (n used : ℕ) (heads : List ℕ) (w : RegionWords) (head counter : ℕ) → IsNoted used w → used < 65536 → HasCounter n used head counter w → Sound n used heads w → Sound n used (heads ++ head ∷ []) (words_after n (SF2 head) w)
sound_accept n used heads w head counter noted fits c s =
    let e : Pending = entry_at w.counter one_each head in
    let old : List Pending = open_entries n used w in
    sound_at_rest n used (heads ++ head ∷ []) (words_after n (SF2 head) w) (old ++ e ∷ []) s.version s.count s.last_fits noted fits (accepted_last n used head counter w noted fits c)
    (map-append (λ (x : Pending). x.head) old (e ∷ []) ∙ ap (λ (hs : List ℕ). hs ++ head ∷ []) s.reads)
    (rise_push old e s.rising c.above)
    (all_append (λ (x : Pending). x.counter < 18446744073709551615) old (e ∷ []) s.low (c.low, tt))

pub below_accept : (n used head counter : ℕ) (w : RegionWords) → IsNoted used w → used < 65536 → HasCounter n used head counter w → CountersBelow counter (open_entries n used (words_after n (SF2 head) w))
below_accept n used head counter w noted fits c =
    let e : Pending = entry_at w.counter one_each head in
    let old : List Pending = open_entries n used w in
    let all : CountersBelow counter (old ++ e ∷ []) = all_append (λ (x : Pending). x.counter < counter) old (e ∷ []) (below_weaker (w.counter head) counter old (omega (arith, c.given)) c.above) (omega (arith, c.given), tt) in
    subst (λ (es : List Pending). CountersBelow counter es) (sym (accepted_last n used head counter w noted fits c)) all

-- ---- a publication

-- SP3
pub sound_link : (n used : ℕ) (heads : List ℕ) (w : RegionWords) (i next : ℕ) → IsNoted used w → used < 65536 → Sound n used heads w → Sound n used heads (words_after n (SP3 i next) w)
sound_link n used heads w i next noted fits s = sound_at_rest n used heads (words_after n (SP3 i next) w) (open_entries n used w) s.version s.count s.last_fits noted fits (reading_link n used w i next noted fits) s.reads s.rising s.low

-- SP4
pub sound_last : (n used : ℕ) (heads : List ℕ) (w : RegionWords) (head : ℕ) → head < 65536 → IsNoted used w → used < 65536 → Sound n used heads w → Sound n used heads (words_after n (SP4 head) w)
sound_last n used heads w head low noted fits s = sound_at_rest n used heads (words_after n (SP4 head) w) (open_entries n used w) s.version s.count low noted fits (reading_last n used w head noted fits) s.reads s.rising s.low

-- SP5: used.idx shows the batch, and exactly its heads aren't open any more
heads_without : (batch : List ℕ) (entries : List Pending) → heads_of (without_heads batch entries) ≡ filter (λ (h : ℕ). not (is_among batch h)) (heads_of entries)
heads_without batch [] = refl
heads_without batch (e ∷ entries) = let rest : heads_of (without_heads batch entries) ≡ filter (λ (h : ℕ). not (is_among batch h)) (heads_of entries) = heads_without batch entries in grind (arith, nat_tests)

without_agree : (xs ys : List ℕ) (entries : List Pending) → ((i : ℕ) → is_among xs i ≡ is_among ys i) → without_heads xs entries ≡ without_heads ys entries
without_agree xs ys [] same = refl
without_agree xs ys (e ∷ entries) same =
    let rest : without_heads xs entries ≡ without_heads ys entries = without_agree xs ys entries same in
    let here : is_among xs e.head ≡ is_among ys e.head = same e.head in
    grind arith

-- the links of a batch that is linked whole
all_linked : (used : ℕ) (batch : List ℕ) (w : RegionWords) → IsLinked used batch (length batch) w → links w.next (length batch) w.last_batch_head ≡ reverse batch
all_linked used batch w p = p.linked ∙ ap reverse (take_all (length batch) batch (omega arith))

shown_entries : (n used : ℕ) (batch : List ℕ) (w : RegionWords) → used < 65536 → length batch < 65536 → IsLinked used batch (length batch) w
    → open_entries n ((used + length batch) % 65536) w ≡ without_heads batch (open_entries n used w)
shown_entries n used batch w fits few p =
    reading_show n used w (length batch) p.noted fits few
    ∙ without_agree (links w.next (length batch) w.last_batch_head) batch (open_entries n used w) (λ i. ap (λ (xs : List ℕ). is_among xs i) (all_linked used batch w p) ∙ among_reverse batch i)

pub sound_show : (n used : ℕ) (heads batch : List ℕ) (w : RegionWords) → n < 65536 → used < 65536 → IsBatch n batch
    → IsLinked used batch (length batch) w → Sound n used heads w → Sound n ((used + length batch) % 65536) (filter (λ (h : ℕ). not (is_among batch h)) heads) w
sound_show n used heads batch w small fits b p s =
    let few : length batch ≤ n = b.few in
    let shown : counted ((used + length batch) % 65536) w ≡ reverse batch = counted_shown used w (length batch) p.noted fits (omega (arith, few, small)) ∙ all_linked used batch w p in
    let left : open_entries n ((used + length batch) % 65536) w ≡ without_heads batch (open_entries n used w) = shown_entries n used batch w fits (omega (arith, few, small)) p in
    let noted : w.used_idx ≡ used = p.noted in
    record {
      version = s.version;
      count = s.count;
      few = omega (arith, noted, fits, few, small);
      distinct = ap are_distinct shown ∙ distinct_reverse batch b.distinct;
      within = subst (λ (xs : List ℕ). AllByRecursion (λ (x : ℕ). x < n) xs) (sym shown) (all_below n (reverse batch) (λ h held. b.below h (sym (among_reverse batch h) ∙ held)));
      reads = ap heads_of left ∙ heads_without batch (open_entries n used w) ∙ ap (filter (λ (h : ℕ). not (is_among batch h))) s.reads;
      rising = subst (λ (es : List Pending). CountersRise es) (sym left) (rise_without batch (open_entries n used w) s.rising);
      low = subst (λ (es : List Pending). CountersBelow 18446744073709551615 es) (sym left) (all_filter (λ (e : Pending). e.counter < 18446744073709551615) (λ (e : Pending). not (is_among batch e.head)) (open_entries n used w) s.low);
      last_fits = s.last_fits;
      used_idx_fits = s.used_idx_fits;
    }

pub shown_now : (used : ℕ) (batch : List ℕ) (w : RegionWords) → used < 65536 → length batch < 65536 → IsLinked used batch (length batch) w → IsShown ((used + length batch) % 65536) batch 0 w
shown_now used batch w fits few p = record {
  linked = counted_shown used w (length batch) p.noted fits few ∙ all_linked used batch w p;
  clear = λ i held. absurd (let fails : false ≡ true = held in cc);
}

pub below_show : (n used counter : ℕ) (batch : List ℕ) (w : RegionWords) → used < 65536 → length batch < 65536 → IsLinked used batch (length batch) w → CountersBelow counter (open_entries n used w) → CountersBelow counter (open_entries n ((used + length batch) % 65536) w)
below_show n used counter batch w fits few p below =
    subst (λ (es : List Pending). CountersBelow counter es) (sym (shown_entries n used batch w fits few p)) (all_filter (λ (e : Pending). e.counter < counter) (λ (e : Pending). not (is_among batch e.head)) (open_entries n used w) below)

-- ---- a batch that is shown, in a life and in a start

-- SP6 and SR1: an entry of the batch
pub sound_clear : (n used : ℕ) (heads : List ℕ) (w : RegionWords) (i : ℕ) → is_among (counted used w) i ≡ true → Sound n used heads w → Sound n used heads (words_after n (SR1 i) w)
sound_clear n used heads w i held s = sound_same n used heads w (words_after n (SR1 i) w) refl refl refl refl refl (reading_clear n used w i held) s

-- SP7 and SR2: once all of them are cleared
pub sound_note : (n used : ℕ) (heads : List ℕ) (w : RegionWords) → used < 65536 → ((i : ℕ) → is_among (counted used w) i ≡ true → w.inflight i ≡ 0) → Sound n used heads w → Sound n used heads (words_after n (SR2 used) w)
sound_note n used heads w fits clear s =
    sound_at_rest n used heads (words_after n (SR2 used) w) (open_entries n used w) s.version s.count s.last_fits refl fits (reading_note n used w fits clear) s.reads s.rising s.low

-- ---- what is read of a region that a life finds

pub sound_entries : (n used : ℕ) (heads : List ℕ) (w : RegionWords) → Sound n used heads w → split_entries n used w ≡ open_entries n used w
sound_entries n used heads w s = ap (λ (x : Reading). read_list x (open_entries n used w)) (sound_reads n used heads w s)

pub unmade_reads : (n used : ℕ) (w : RegionWords) → w.version ≡ 0 → split_reading n used w ≡ Uninitialised
unmade_reads n used w version = grind (arith, nat_tests)

pub unmade_entries : (n used : ℕ) (w : RegionWords) → w.version ≡ 0 → split_entries n used w ≡ []
unmade_entries n used w version = ap (λ (x : Reading). read_list x (open_entries n used w)) (unmade_reads n used w version)

pub left_reads : (n used : ℕ) (heads : List ℕ) (base : ℕ) (w : RegionWords) → Left n used heads base w → heads_of (split_entries n used w) ≡ heads
left_reads n used heads base w (inl u) = ap heads_of (unmade_entries n used w u.version) ∙ sym u.none
left_reads n used heads base w (inr s) = ap heads_of (sound_entries n used heads w s) ∙ s.reads

-- ---- the open heads

pub left_distinct : (n used : ℕ) (heads : List ℕ) (base : ℕ) (w : RegionWords) → Left n used heads base w → are_distinct heads ≡ true
left_distinct n used heads base w (inl u) = ap are_distinct u.none
left_distinct n used heads base w (inr s) = ap are_distinct (sym s.reads) ∙ distinct_by_counter w.counter one_each (is_open used w) n

-- each is an entry in flight
pub left_open : (n used : ℕ) (heads : List ℕ) (base : ℕ) (w : RegionWords) (h : ℕ) → Left n used heads base w → is_among heads h ≡ true → (h < n) × (w.inflight h ≢ 0)
left_open n used heads base w h (inl u) held = absurd (let none : is_among heads h ≡ false = ap (λ (hs : List ℕ). is_among hs h) u.none in cc)
left_open n used heads base w h (inr s) held =
    let there : (nat_lt h n && is_open used w h) ≡ true = sym (among_by_counter w.counter one_each (is_open used w) n h) ∙ ap (λ (hs : List ℕ). is_among hs h) s.reads ∙ held in
    (grind (arith, nat_tests), grind (arith, nat_tests))
