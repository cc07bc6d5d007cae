-- Step by step through the phases of a life, and what it leaves where it is cut off.
use Rattle.std.proofs.Common.{◌≡◌, ◌≢◌, ◌≤◌, ◌<◌, ◌⊎◌, ℕ, ◌+◌, ◌-◌, ◌*◌, ◌/◌, ◌%◌, true, false, not, List, [], ◌∷◌, ◌++◌, length, filter, take, refl, ap, sym, ◌∙◌, subst, inl, inr, arith, add-one}
use Rattle.std.specs.Prelude.{◌||◌, ◌==◌, slice_index}
use Rattle.std.proofs.lemmas.Bool.Decides.{nat_tests}
use Rattle.std.proofs.lemmas.List.{take_all}
use Rattle.vub_base.specs.declared.pending.Pending.{Pending}
use Rattle.vub_device.specs.Past.{is_among}
use Rattle.vub_steps.specs.declared.steps.Phase.{Phase}
use Rattle.vub_steps.specs.declared.steps.Phase.TheVariants as phases
use Rattle.vub_steps.specs.declared.steps.Plan.{Plan}
use Rattle.vub_inflight.specs.Entries.{with_at, next_counter, CountersBelow}
use Rattle.vub_inflight.specs.Links.{links}
use Rattle.vub_inflight.proofs.CounterLemmas.{below_weaker, below_next}
use Rattle.vub_inflight.proofs.LinkLemmas.{links-with_at}
use Rattle.vub_infl_split.specs.declared.region.SplitStore.TheVariants.{SF1, SF2, SP3, SP4, SP6, SP7}
use Rattle.vub_infl_split.specs.Region.{RegionWords}
use Rattle.vub_infl_split.specs.Stores.{words_after}
use Rattle.vub_infl_split.specs.Readings.{counted, open_entries}
use Rattle.vub_infl_split.proofs.ReadingLemmas.{reading_link, reading_last, reading_clear, reading_note}
use Rattle.vub_region_facts.specs.Starts.{Left, IsNoted, IsSettled}
use Rattle.vub_region_facts.specs.Phases.{HasCounter, index_step, note_step, IsBatch, IsLinked, IsShown, InPublication, InLife, NotStarted}
use Rattle.vub_region_facts.proofs.BatchLemmas.{among_get_or, among_reverse, among_take_more, reverse_take_more, apart_from_first}
use Rattle.vub_region_facts.proofs.SoundLemmas.{free_head, sound_counter, has_counter_now, sound_accept, below_accept, sound_link, sound_last, sound_show, shown_now, below_show, sound_clear, sound_note}
use Rattle.vub_region_facts.proofs.StartLemmas.{start_left}

-- ---- a life begins and ends

-- the counter is above all that are open
pub life_begins : (n used head : ℕ) (heads batch : List ℕ) (w : RegionWords) → IsSettled n used heads w → InLife n used head (next_counter (open_entries n used w)) heads batch phases.Rest w
life_begins n used head heads batch w p = record { sound = p.sound; below = below_next (open_entries n used w); under_way = p.noted }

-- a kill in any phase
pub life_left : (n used head counter base : ℕ) (heads batch : List ℕ) (phase : Phase) (w : RegionWords) → InLife n used head counter heads batch phase w → Left n used heads base w
life_left n used head counter base heads batch phase w p = inr p.sound

pub not_started_left : (n used : ℕ) (heads : List ℕ) (base : ℕ) (plan : Plan) (phase : Phase) (w : RegionWords) → NotStarted n used heads base plan phase w → Left n used heads base w
not_started_left n used heads base plan phases.Rest w p = p
not_started_left n used heads base plan (phases.Start done) w p = start_left n used heads base plan done w p
not_started_left n used heads base plan (phases.Fetch done) w p = p
not_started_left n used heads base plan (phases.Publish done) w p = p

-- the head that is fetched next matters to a fetch alone
pub other_head : (n used head next counter : ℕ) (heads batch : List ℕ) (phase : Phase) (w : RegionWords) → ((done : ℕ) → phase ≢ phases.Fetch done) → InLife n used head counter heads batch phase w → InLife n used next counter heads batch phase w
other_head n used head next counter heads batch phases.Rest w no_fetch p = record { sound = p.sound; below = p.below; under_way = p.under_way }
other_head n used head next counter heads batch (phases.Start done) w no_fetch p = record { sound = p.sound; below = p.below; under_way = p.under_way }
other_head n used head next counter heads batch (phases.Fetch done) w no_fetch p = absurd (no_fetch done refl)
other_head n used head next counter heads batch (phases.Publish done) w no_fetch p = record { sound = p.sound; below = p.below; under_way = p.under_way }

-- ---- a fetch

pub fetch_begins : (n used head next counter : ℕ) (heads batch : List ℕ) (w : RegionWords) → InLife n used head counter heads batch phases.Rest w → InLife n used next counter heads batch (phases.Fetch 0) w
fetch_begins n used head next counter heads batch w p = record {
  sound = p.sound;
  below = p.below;
  under_way = record { noted = p.under_way; given = λ some. absurd (omega (arith, some)) };
}

-- SF1, for a head that isn't open
pub fetch_gives_counter : (n used head counter : ℕ) (heads batch : List ℕ) (w : RegionWords) → used < 65536 → head < n → is_among heads head ≡ false → counter < 18446744073709551615 → InLife n used head counter heads batch (phases.Fetch 0) w
    → InLife n used head (counter + 1) heads batch (phases.Fetch 1) (words_after n (SF1 head counter) w)
fetch_gives_counter n used head counter heads batch w fits within out small p =
    let noted : IsNoted used w = p.under_way.noted in
    let free : w.inflight head ≡ 0 = free_head n used heads head w within noted fits out p.sound in
    let c : HasCounter n used head (counter + 1) (words_after n (SF1 head counter) w) = has_counter_now n used w head counter within noted fits free small p.below in
    record {
      sound = sound_counter n used heads w head counter noted fits free p.sound;
      below = below_weaker (with_at w.counter head counter head) (counter + 1) (open_entries n used (words_after n (SF1 head counter) w)) (omega (arith, c.given)) c.above;
      under_way = record { noted = noted; given = λ some. c };
    }

-- SF2: the head is the last of the open ones
pub fetch_accepts : (n used head next counter : ℕ) (heads batch : List ℕ) (w : RegionWords) → used < 65536 → InLife n used head counter heads batch (phases.Fetch 1) w
    → InLife n used next counter (heads ++ head ∷ []) batch phases.Rest (words_after n (SF2 head) w)
fetch_accepts n used head next counter heads batch w fits p =
    let noted : IsNoted used w = p.under_way.noted in
    let c : HasCounter n used head counter w = p.under_way.given (omega arith) in
    record {
      sound = sound_accept n used heads w head counter noted fits c p.sound;
      below = below_accept n used head counter w noted fits c;
      under_way = noted;
    }

-- ---- a publication, up to used.idx

pub publication_begins : (n used head counter : ℕ) (heads batch other : List ℕ) (w : RegionWords) → InLife n used head counter heads other phases.Rest w → InLife n used head counter heads batch (phases.Publish 0) w
publication_begins n used head counter heads batch other w p = record {
  sound = p.sound;
  below = p.below;
  under_way = record {
    linked = λ le. record { noted = p.under_way; linked = refl };
    linking = λ low three. absurd (omega (arith, three));
    shown = λ gt le. absurd (omega (arith, gt));
    noted = λ gt. absurd (omega (arith, gt));
  };
}

-- SP1 and SP2, id and length: no word of the region
element_stored : (used : ℕ) (batch : List ℕ) (e done : ℕ) (w : RegionWords) → e < length batch → (done ≡ 4 * e) ⊎ (done ≡ 4 * e + 1) → InPublication used batch done w → InPublication used batch (done + 1) w
element_stored used batch e done w more which p =
    let same : (done + 1) / 4 ≡ done / 4 = elim which [ inl a ↦ omega (arith, a) | inr b ↦ omega (arith, b) ] in
    let low : done < 4 * length batch = elim which [ inl a ↦ omega (arith, a, more) | inr b ↦ omega (arith, b, more) ] in
    let not_three : (done + 1) % 4 ≢ 3 = elim which [ inl a ↦ λ t. omega (arith, a, t) | inr b ↦ λ t. omega (arith, b, t) ] in
    record {
      linked = λ le. subst (λ (k : ℕ). IsLinked used batch k w) (sym same) (p.linked (omega (arith, low)));
      linking = λ l three. absurd (not_three three);
      shown = λ gt le. absurd (omega (arith, low, gt));
      noted = λ gt. absurd (omega (arith, low, gt));
    }

pub publication_stores_element : (n used head counter : ℕ) (heads batch : List ℕ) (e done : ℕ) (w : RegionWords) → e < length batch → (done ≡ 4 * e) ⊎ (done ≡ 4 * e + 1) → InLife n used head counter heads batch (phases.Publish done) w
    → InLife n used head counter heads batch (phases.Publish (done + 1)) w
publication_stores_element n used head counter heads batch e done w more which p = record { sound = p.sound; below = p.below; under_way = element_stored used batch e done w more which p.under_way }

-- SP3: the link of an element
pub publication_stores_link : (n used head counter : ℕ) (heads batch : List ℕ) (e : ℕ) (w : RegionWords) → used < 65536 → e < length batch → IsBatch n batch → InLife n used head counter heads batch (phases.Publish (4 * e + 2)) w
    → InLife n used head counter heads batch (phases.Publish (4 * e + 3)) (words_after n (SP3 (slice_index batch e) w.last_batch_head) w)
publication_stores_link n used head counter heads batch e w fits more b p =
    let entry : ℕ = slice_index batch e in
    let w' : RegionWords = words_after n (SP3 entry w.last_batch_head) w in
    let at : (4 * e + 2) / 4 ≡ e = omega arith in
    let at' : (4 * e + 3) / 4 ≡ e = omega arith in
    let old : IsLinked used batch e w = subst (λ (k : ℕ). IsLinked used batch k w) at (p.under_way.linked (omega (arith, more))) in
    let out : is_among (links w.next e w.last_batch_head) entry ≡ false = ap (λ (xs : List ℕ). is_among xs entry) old.linked ∙ among_reverse (take e batch) entry ∙ apart_from_first batch e b.distinct more in
    let new : IsLinked used batch e w' = record { noted = old.noted; linked = links-with_at w.next entry w.last_batch_head e w.last_batch_head out ∙ old.linked } in
    let here : with_at w.next entry w.last_batch_head entry ≡ w.last_batch_head = grind (arith, nat_tests) in
    record {
      sound = sound_link n used heads w entry w.last_batch_head old.noted fits p.sound;
      below = subst (λ (es : List Pending). CountersBelow counter es) (sym (reading_link n used w entry w.last_batch_head old.noted fits)) p.below;
      under_way = record {
        linked = λ le. subst (λ (k : ℕ). IsLinked used batch k w') (sym at') new;
        linking = λ low three. subst (λ (k : ℕ). with_at w.next entry w.last_batch_head (slice_index batch k) ≡ w.last_batch_head) (sym at') here;
        shown = λ gt le. absurd (omega (arith, more, gt));
        noted = λ gt. absurd (omega (arith, more, gt));
      };
    }

-- SP4: it is last_batch_head
pub publication_sets_last_batch_head : (n used head counter : ℕ) (heads batch : List ℕ) (e : ℕ) (w : RegionWords) → n < 65536 → used < 65536 → e < length batch → IsBatch n batch → InLife n used head counter heads batch (phases.Publish (4 * e + 3)) w
    → InLife n used head counter heads batch (phases.Publish (4 * e + 4)) (words_after n (SP4 (slice_index batch e)) w)
publication_sets_last_batch_head n used head counter heads batch e w small fits more b p =
    let entry : ℕ = slice_index batch e in
    let w' : RegionWords = words_after n (SP4 entry) w in
    let at : (4 * e + 3) / 4 ≡ e = omega arith in
    let at' : (4 * e + 4) / 4 ≡ e + 1 = omega arith in
    let low : entry < n = b.below entry (among_get_or batch e more) in
    let old : IsLinked used batch e w = subst (λ (k : ℕ). IsLinked used batch k w) at (p.under_way.linked (omega (arith, more))) in
    let link : w.next entry ≡ w.last_batch_head = subst (λ (k : ℕ). w.next (slice_index batch k) ≡ w.last_batch_head) at (p.under_way.linking (omega (arith, more)) (omega arith)) in
    let first : links w.next (e + 1) entry ≡ entry ∷ links w.next e (w.next entry) = rw add-one refl in
    let new : IsLinked used batch (e + 1) w' = record {
      noted = old.noted;
      linked = first ∙ ap (λ (h : ℕ). entry ∷ links w.next e h) link ∙ ap (λ (xs : List ℕ). entry ∷ xs) old.linked ∙ sym (reverse_take_more batch e more);
    } in
    record {
      sound = sound_last n used heads w entry (omega (arith, low, small)) old.noted fits p.sound;
      below = subst (λ (es : List Pending). CountersBelow counter es) (sym (reading_last n used w entry old.noted fits)) p.below;
      under_way = record {
        linked = λ le. subst (λ (k : ℕ). IsLinked used batch k w') (sym at') new;
        linking = λ l three. absurd (omega (arith, three));
        shown = λ gt le. absurd (omega (arith, more, gt));
        noted = λ gt. absurd (omega (arith, more, gt));
      };
    }

-- ---- used.idx: SP5

pub publication_linked : (used : ℕ) (batch : List ℕ) (w : RegionWords) → InPublication used batch (index_step batch) w → IsLinked used batch (length batch) w
publication_linked used batch w p = let at : 4 * length batch / 4 ≡ length batch = omega arith in subst (λ (k : ℕ). IsLinked used batch k w) at (p.linked (omega arith))

pub publication_shows_batch : (n used head next counter : ℕ) (heads batch : List ℕ) (w : RegionWords) → n < 65536 → used < 65536 → IsBatch n batch
    → InLife n used head counter heads batch (phases.Publish (index_step batch)) w
    → InLife n ((used + length batch) % 65536) next counter (filter (λ (h : ℕ). not (is_among batch h)) heads) batch (phases.Publish (index_step batch + 1)) w
publication_shows_batch n used head next counter heads batch w small fits b p =
    let low : length batch < 65536 = omega (arith, b.few, small) in
    let f : IsLinked used batch (length batch) w = publication_linked used batch w p.under_way in
    let shown : IsShown ((used + length batch) % 65536) batch 0 w = shown_now used batch w fits low f in
    let at : 4 * length batch + 1 - (4 * length batch + 1) ≡ 0 = omega arith in
    record {
      sound = sound_show n used heads batch w small fits b f p.sound;
      below = below_show n used counter batch w fits low f p.below;
      under_way = record {
        linked = λ le. absurd (omega (arith, le));
        linking = λ l three. absurd (omega (arith, l));
        shown = λ gt le. subst (λ (k : ℕ). IsShown ((used + length batch) % 65536) batch k w) (sym at) shown;
        noted = λ gt. absurd (omega (arith, gt));
      };
    }

-- ---- a publication, from then on

shown_at : (used : ℕ) (batch : List ℕ) (e : ℕ) (w : RegionWords) → e ≤ length batch → InPublication used batch (index_step batch + 1 + e) w → IsShown used batch e w
shown_at used batch e w le p =
    let at : 4 * length batch + 1 + e - (4 * length batch + 1) ≡ e = omega arith in
    subst (λ (k : ℕ). IsShown used batch k w) at (p.shown (omega arith) (omega (arith, le)))

-- SP6: an entry is cleared
pub publication_clears_entry : (n used head counter : ℕ) (heads batch : List ℕ) (e : ℕ) (w : RegionWords) → e < length batch → InLife n used head counter heads batch (phases.Publish (index_step batch + 1 + e)) w
    → InLife n used head counter heads batch (phases.Publish (index_step batch + 1 + (e + 1))) (words_after n (SP6 (slice_index batch e)) w)
publication_clears_entry n used head counter heads batch e w more p =
    let entry : ℕ = slice_index batch e in
    let w' : RegionWords = words_after n (SP6 entry) w in
    let f : IsShown used batch e w = shown_at used batch e w (omega (arith, more)) p.under_way in
    let held : is_among (counted used w) entry ≡ true = ap (λ (xs : List ℕ). is_among xs entry) f.linked ∙ among_reverse batch entry ∙ among_get_or batch e more in
    let at : 4 * length batch + 1 + (e + 1) - (4 * length batch + 1) ≡ e + 1 = omega arith in
    let new : IsShown used batch (e + 1) w' = record {
      linked = f.linked;
      clear = λ i among.
          let parts : is_among (take (e + 1) batch) i ≡ (is_among (take e batch) i || (entry == i)) = among_take_more batch e i more in
          let old : is_among (take e batch) i ≡ true → w.inflight i ≡ 0 = f.clear i in
          grind (arith, nat_tests);
    } in
    record {
      sound = sound_clear n used heads w entry held p.sound;
      below = subst (λ (es : List Pending). CountersBelow counter es) (sym (reading_clear n used w entry held)) p.below;
      under_way = record {
        linked = λ le. absurd (omega (arith, le));
        linking = λ l three. absurd (omega (arith, l));
        shown = λ gt le. subst (λ (k : ℕ). IsShown used batch k w') (sym at) new;
        noted = λ gt. absurd (omega (arith, more, gt));
      };
    }

-- SP7: the batch is noted
pub publication_notes_batch : (n used head counter : ℕ) (heads batch : List ℕ) (w : RegionWords) → used < 65536 → InLife n used head counter heads batch (phases.Publish (note_step batch)) w
    → InLife n used head counter heads batch (phases.Publish (note_step batch + 1)) (words_after n (SP7 used) w)
publication_notes_batch n used head counter heads batch w fits p =
    let f : IsShown used batch (length batch) w = shown_at used batch (length batch) w (omega arith) p.under_way in
    let clear : (i : ℕ) → is_among (counted used w) i ≡ true → w.inflight i ≡ 0 = λ i held.
    let turned : is_among (counted used w) i ≡ is_among batch i = ap (λ (xs : List ℕ). is_among xs i) f.linked ∙ among_reverse batch i in
    f.clear i (ap (λ (xs : List ℕ). is_among xs i) (take_all (length batch) batch (omega arith)) ∙ sym turned ∙ held) in
    record {
      sound = sound_note n used heads w fits clear p.sound;
      below = subst (λ (es : List Pending). CountersBelow counter es) (sym (reading_note n used w fits clear)) p.below;
      under_way = record {
        linked = λ le. absurd (omega (arith, le));
        linking = λ l three. absurd (omega (arith, l));
        shown = λ gt le. absurd (omega (arith, le));
        noted = λ gt. refl;
      };
    }

-- a step past the note stores no word of the region
pub publication_past_note : (n used head counter : ℕ) (heads batch : List ℕ) (done : ℕ) (w : RegionWords) → note_step batch < done → InLife n used head counter heads batch (phases.Publish done) w → InLife n used head counter heads batch (phases.Publish (done + 1)) w
publication_past_note n used head counter heads batch done w past p = record {
  sound = p.sound;
  below = p.below;
  under_way = record {
    linked = λ le. absurd (omega (arith, past, le));
    linking = λ l three. absurd (omega (arith, past, l));
    shown = λ gt le. absurd (omega (arith, past, le));
    noted = λ gt. p.under_way.noted past;
  };
}

pub publication_ends : (n used head counter : ℕ) (heads batch other : List ℕ) (done : ℕ) (w : RegionWords) → note_step batch < done → InLife n used head counter heads batch (phases.Publish done) w → InLife n used head counter heads other phases.Rest w
publication_ends n used head counter heads batch other done w past p = record { sound = p.sound; below = p.below; under_way = p.under_way.noted past }
