-- What each store leaves of the open entries of a region.
use Rattle.std.proofs.Common.{◌≡◌, ◌≤◌, ◌<◌, min, ℕ, ◌+◌, ◌%◌, false, true, not, List, [], ◌∷◌, ◌++◌, refl, ap, sym, ◌∙◌, inl, inr, arith}
use Rattle.std.proofs.Math.Nat.{min-eq_left}
use Rattle.std.specs.Prelude.{◌&&◌, ◌==◌, nat_le, None}
use Rattle.std.proofs.lemmas.Bool.Decides.{nat_tests}
use Rattle.std.proofs.lemmas.Bool.{cases_eq}
use Rattle.vub_base.specs.declared.reading.Reading.TheVariants.{Entries}
use Rattle.vub_shared.specs.Bytes.{Bytes, word}
use Rattle.vub_shared.proofs.BytesLemmas.{word-lt}
use Rattle.vub_device.specs.Past.{is_among}
use Rattle.vub_ring.specs.Ring.{ahead}
use Rattle.vub_inflight.specs.Entries.{by_counter, with_at, entry_at, in_flight_but, without_heads, heads_of}
use Rattle.vub_inflight.specs.Links.{links, links_within, first_bad}
use Rattle.vub_inflight.specs.Readings.{bad_version, bad_count}
use Rattle.vub_inflight.proofs.CauseLemmas.{or_none, map_none, none_unless, entries_none, counters_fine, fine_counters}
use Rattle.vub_inflight.proofs.EntryLemmas.{by_counter_agree, by_counter_add, by_counter_without}
use Rattle.vub_inflight.proofs.LinkLemmas.{no_bad, fine_links, links_all_within}
use Rattle.vub_infl_split.specs.declared.region.SplitRegion.{SplitRegion}
use Rattle.vub_infl_split.specs.Region.{RegionWords, words_of, counter_place}
use Rattle.vub_infl_split.specs.Readings.{counted, counted_within, unchecked_entries, is_open, one_each, open_entries, bad_used, bad_link, made_fault, split_reading}
use Rattle.vub_infl_split.specs.Sound.{Sound}
use Rattle.vub_infl_split.proofs.ReadingChecks.{counters_left}

-- ---- while no batch is in the used ring and not noted

none_counted : (used : ℕ) (w : RegionWords) → w.used_idx ≡ used → used < 65536 → counted used w ≡ []
none_counted used w same fits =
    let none : ahead used w.used_idx ≡ 0 = omega (arith, same, fits) in
    ap (λ k. links w.next k w.last_batch_head) none

-- what is in flight is open
pub open_at_rest : (used : ℕ) (w : RegionWords) (i : ℕ) → w.used_idx ≡ used → used < 65536 → is_open used w i ≡ not (w.inflight i == 0)
open_at_rest used w i same fits =
    let none : is_among (counted used w) i ≡ false = ap (λ (xs : List ℕ). is_among xs i) (none_counted used w same fits) in
    grind (arith, nat_tests)

-- an entry that isn't open gets its counter, in any phase
pub reading_count : (n used : ℕ) (w : RegionWords) (h v : ℕ) → is_open used w h ≡ false → open_entries n used (record w { counter = with_at w.counter h v }) ≡ open_entries n used w
reading_count n used w h v out = by_counter_agree (with_at w.counter h v) w.counter one_each (is_open used w) (is_open used w) n
    (λ j l. refl)
    (λ j l t. elim (cases_eq j h) [
      | inl same ↦ absurd (let at_j : is_open used w j ≡ false = ap (is_open used w) same ∙ out in cc)
      | inr apart ↦ grind (arith, nat_tests)
    ])

-- one whose counter is above all open ones joins them at the end
pub reading_accept : (n used : ℕ) (w : RegionWords) (h : ℕ) → h < n → w.used_idx ≡ used → used < 65536 → w.inflight h ≡ 0
    → ((i : ℕ) → i < n → is_open used w i ≡ true → w.counter i < w.counter h)
    → open_entries n used (record w { inflight = with_at w.inflight h 1 }) ≡ open_entries n used w ++ entry_at w.counter one_each h ∷ []
reading_accept n used w h l same fits free above = by_counter_add w.counter one_each (is_open used w) (is_open used (record w { inflight = with_at w.inflight h 1 })) h n l
    (open_at_rest used w h same fits ∙ grind (arith, nat_tests))
    (open_at_rest used (record w { inflight = with_at w.inflight h 1 }) h same fits ∙ grind (arith, nat_tests))
    (λ i k apart.
    let new : is_open used (record w { inflight = with_at w.inflight h 1 }) i ≡ not (with_at w.inflight h 1 i == 0) = open_at_rest used (record w { inflight = with_at w.inflight h 1 }) i same fits in
    let old : is_open used w i ≡ not (w.inflight i == 0) = open_at_rest used w i same fits in
    grind (arith, nat_tests))
    above

-- a link
pub reading_link : (n used : ℕ) (w : RegionWords) (i v : ℕ) → w.used_idx ≡ used → used < 65536 → open_entries n used (record w { next = with_at w.next i v }) ≡ open_entries n used w
reading_link n used w i v same fits = by_counter_agree w.counter w.counter one_each (is_open used (record w { next = with_at w.next i v })) (is_open used w) n
    (λ j l. open_at_rest used (record w { next = with_at w.next i v }) j same fits ∙ sym (open_at_rest used w j same fits))
    (λ j l t. refl)

-- last_batch_head
pub reading_last : (n used : ℕ) (w : RegionWords) (v : ℕ) → w.used_idx ≡ used → used < 65536 → open_entries n used (record w { last_batch_head = v }) ≡ open_entries n used w
reading_last n used w v same fits = by_counter_agree w.counter w.counter one_each (is_open used (record w { last_batch_head = v })) (is_open used w) n
    (λ j l. open_at_rest used (record w { last_batch_head = v }) j same fits ∙ sym (open_at_rest used w j same fits))
    (λ j l t. refl)

-- ---- a batch

pub counted_shown : (used : ℕ) (w : RegionWords) (m : ℕ) → w.used_idx ≡ used → used < 65536 → m < 65536 → counted ((used + m) % 65536) w ≡ links w.next m w.last_batch_head
counted_shown used w m same fits small =
    let past : ahead ((used + m) % 65536) w.used_idx ≡ m = omega (arith, same, fits, small) in
    ap (λ k. links w.next k w.last_batch_head) past

-- used.idx takes exactly its heads out
pub reading_show : (n used : ℕ) (w : RegionWords) (m : ℕ) → w.used_idx ≡ used → used < 65536 → m < 65536 → open_entries n ((used + m) % 65536) w ≡ without_heads (links w.next m w.last_batch_head) (open_entries n used w)
reading_show n used w m same fits small = by_counter_without w.counter one_each (is_open used w) (is_open ((used + m) % 65536) w) (links w.next m w.last_batch_head) n
    (λ i l.
    let old : is_open used w i ≡ not (w.inflight i == 0) = open_at_rest used w i same fits in
    let shown : counted ((used + m) % 65536) w ≡ links w.next m w.last_batch_head = counted_shown used w m same fits small in
    ap (λ ls. not (w.inflight i == 0) && not (is_among ls i)) shown ∙ ap (λ b. b && not (is_among (links w.next m w.last_batch_head) i)) (sym old))

-- one of its entries is cleared
pub reading_clear : (n used : ℕ) (w : RegionWords) (i : ℕ) → is_among (counted used w) i ≡ true → open_entries n used (record w { inflight = with_at w.inflight i 0 }) ≡ open_entries n used w
reading_clear n used w i held = by_counter_agree w.counter w.counter one_each (is_open used (record w { inflight = with_at w.inflight i 0 })) (is_open used w) n
    (λ j l. elim (cases_eq j i) [
      | inl same ↦ let at_j : is_among (counted used w) j ≡ true = ap (λ k. is_among (counted used w) k) same ∙ held in grind (arith, nat_tests)
      | inr apart ↦ grind (arith, nat_tests)
    ])
    (λ j l t. refl)

-- it is noted once all are cleared
pub reading_note : (n used : ℕ) (w : RegionWords) → used < 65536 → ((i : ℕ) → is_among (counted used w) i ≡ true → w.inflight i ≡ 0) → open_entries n used (record w { used_idx = used }) ≡ open_entries n used w
reading_note n used w fits clear = by_counter_agree w.counter w.counter one_each (is_open used (record w { used_idx = used })) (is_open used w) n
    (λ j l.
    let rest : is_open used (record w { used_idx = used }) j ≡ not (w.inflight j == 0) = open_at_rest used (record w { used_idx = used }) j refl fits in
    let here : is_among (counted used w) j ≡ true → w.inflight j ≡ 0 = clear j in
    grind (arith, nat_tests))
    (λ j l t. refl)

-- ---- what is read

-- a sound region has no damage
pub sound_undamaged : (n used : ℕ) (heads : List ℕ) (w : RegionWords) → Sound n used heads w → made_fault n used w ≡ None
sound_undamaged n used heads w s =
    let fine : first_bad n [] (counted used w) ≡ None = no_bad n [] (counted used w) s.distinct s.within (λ i held. refl) in
    counters_left n used w s.version s.count s.few fine ∙ counters_fine w.counter one_each (is_open used w) n s.rising s.low

-- a sound region reads as its open entries
pub sound_reads : (n used : ℕ) (heads : List ℕ) (w : RegionWords) → Sound n used heads w → split_reading n used w ≡ Entries
sound_reads n used heads w s =
    let version : w.version ≡ 1 = s.version in
    let none : made_fault n used w ≡ None = sound_undamaged n used heads w s in
    let zero_no : (w.version == 0) ≡ false = grind (arith, nat_tests) in
    grind arith

-- and with no check its open entries are the same
pub sound_unchecked : (n used : ℕ) (heads : List ℕ) (w : RegionWords) → Sound n used heads w → unchecked_entries n used w ≡ open_entries n used w
sound_unchecked n used heads w s =
    let few : ahead used w.used_idx ≤ n = s.few in
    let count : min (ahead used w.used_idx) n ≡ ahead used w.used_idx = min-eq_left few in
    let batch : counted_within n used w ≡ counted used w = ap (λ (k : ℕ). links_within n w.next k w.last_batch_head) count ∙ links_all_within n w.next (ahead used w.used_idx) w.last_batch_head s.within in
    ap (λ (xs : List ℕ). by_counter w.counter one_each (in_flight_but xs w.inflight) n) batch

-- ---- where nothing is wrong

-- what a region's words hold that are read out of memory
pub record WordsFit (w : RegionWords) : Type 0 where
  pub last_batch_head : w.last_batch_head < 65536
  pub used_idx : w.used_idx < 65536
  pub counter : (i : ℕ) → w.counter i < 18446744073709551616

pub words_fit : (r : SplitRegion) (m : Bytes) → ((s p : ℕ) → m s p < 256) → WordsFit (words_of r m)
words_fit r m fits = record {
  last_batch_head = word-lt 2 m r.space.number (r.place + 12) fits;
  used_idx = word-lt 2 m r.space.number (r.place + 14) fits;
  counter = λ i. let here : word 8 m r.space.number (counter_place r i) < 18446744073709551616 = word-lt 8 m r.space.number (counter_place r i) fits in grind (arith, nat_tests);
}

-- the checks are enough
pub undamaged_sound : (n used : ℕ) (w : RegionWords) → WordsFit w → made_fault n used w ≡ None → Sound n used (heads_of (open_entries n used w)) w
undamaged_sound n used w fits none =
    let one = or_none (bad_version w.version) _ none in
    let two = or_none (bad_count n w.desc_num) _ one.1 in
    let three = or_none (bad_used n used w) _ two.1 in
    let four = or_none (bad_link n used w) _ three.1 in
    let counters = fine_counters w.counter one_each (is_open used w) n fits.counter four.1 in
    let version : (w.version == 1) ≡ true = none_unless (w.version == 1) _ one.0 in
    let count : (w.desc_num == n) ≡ true = none_unless (w.desc_num == n) _ two.0 in
    let few : nat_le (ahead used w.used_idx) n ≡ true = none_unless (nat_le (ahead used w.used_idx) n) _ three.0 in
    let links = fine_links n [] (counted used w) (map_none _ (first_bad n [] (counted used w)) four.0) in
    record {
      version = grind (arith, nat_tests);
      count = grind (arith, nat_tests);
      few = grind (arith, nat_tests);
      distinct = links.distinct;
      within = links.within;
      reads = refl;
      rising = counters.0;
      low = counters.1;
      last_fits = fits.last_batch_head;
      used_idx_fits = fits.used_idx;
    }

-- so the answer Entries says that the region is sound
pub entries_sound : (n used : ℕ) (w : RegionWords) → WordsFit w → split_reading n used w ≡ Entries → Sound n used (heads_of (open_entries n used w)) w
entries_sound n used w fits is = undamaged_sound n used w fits (entries_none (w.version == 0) (made_fault n used w) is)
