-- What the code of a queue keeps goes on to agree through the begin of each phase, and through each step.
use Rattle.std.proofs.Common.{◌≡◌, ◌<◌, ℕ, ◌+◌, ◌%◌, Bool, true, false, not, List, [], ◌∷◌, ◌++◌, length, take, drop, refl, ap, sym, ◌∙◌, subst, inl, inr, arith}
use Rattle.std.specs.Prelude.{◌||◌, ◌&&◌, remove, slice_get, Option, Some, None}
use Rattle.std.proofs.lemmas.Bool.{cases_Bool, cases_eq}
use Rattle.std.proofs.lemmas.Bool.Decides.{nat_tests}
use Rattle.std.proofs.lemmas.List.{length-append, length-map, map-append, take-append-drop}
use Rattle.vub_ring.specs.Ring.{Ring}
use Rattle.vub_device.specs.Past.{is_among}
use Rattle.vub_device.specs.Places.{are_distinct}
use Rattle.vub_device.proofs.Numbers.{is_among_append}
use Rattle.vub_steps.specs.declared.steps.Step.{Step}
use Rattle.vub_steps.specs.declared.steps.Step.TheVariants as steps
use Rattle.vub_infl_split.specs.declared.region.SplitStore.{SplitStore}
use Rattle.vub_steps.specs.Rows.{Sight, region_store}
use Rattle.vub_steps.proofs.StepLemmas.{length_publish}
use Rattle.vub_facts.specs.Facts.{heads_in, without, Words, InBatch, head_next, heads_after, with_stored, words_after}
use Rattle.vub_facts.specs.Held.{State, busy, Splits, Held, state_after, publication_begun, completed_at}
use Rattle.vub_facts.proofs.HeadLemmas.{among_without, among_get, few_below, remove_is_without, Parts, distinct_parts, distinct_push, distinct_without, without_both, without_push, length_without}

-- ---- words of which used.idx is the same

pub held_words : (n : ℕ) (heads : List ℕ) (v w : Words) (s : State) → v.ring.used ≡ w.ring.used → Held n heads w s → Held n heads v s
held_words n heads v w s same x = record { distinct = x.distinct; below = x.below; avail = x.avail ∙ ap (λ (u : ℕ). (u + length heads) % 65536) (sym same); taken = x.taken; splits = x.splits }

-- a store into the region leaves it
pub same_used : (n : ℕ) (o : Option SplitStore) (w : Words) → (with_stored n o w).ring.used ≡ w.ring.used
same_used n None w = refl
same_used n (Some st) w = refl

-- a state that keeps the same
pub held_like : (n : ℕ) (heads : List ℕ) (w : Words) (s t : State) → t.avail ≡ s.avail → ((d : ℕ) → d < n → t.taken d ≡ s.taken d) → t.unfinished ≡ s.unfinished → busy t ≡ busy s → Held n heads w s → Held n heads w t
held_like n heads w s t avail taken unfinished same x = record {
  distinct = x.distinct;
  below = x.below;
  avail = avail ∙ x.avail;
  taken = λ d low. taken d low ∙ x.taken d low;
  splits = subst (λ (hs : List ℕ). Splits heads hs t.unfinished) (sym same) (subst (λ (us : List ℕ). Splits heads (busy s) us) (sym unfinished) x.splits);
}

-- ---- begins

-- the same heads are busy
pub held_publication_begun : (n : ℕ) (heads : List ℕ) (w : Words) (most : ℕ) (s : State) → s.batch ≡ [] → Held n heads w s → Held n heads w (publication_begun most s)
held_publication_begun n heads w most s none x =
    let same : busy s ≡ busy (publication_begun most s) = ap (λ (xs : List (ℕ × ℕ)). heads_in (xs ++ s.completed)) none ∙ ap heads_in (sym (take-append-drop most s.completed)) in
    record { distinct = x.distinct; below = x.below; avail = x.avail; taken = x.taken; splits = subst (λ (hs : List ℕ). Splits heads hs s.unfinished) same x.splits }

-- what begins is a batch
pub batch_begins : (n : ℕ) (heads : List ℕ) (w : Words) (bell : Bool) (most : ℕ) (s : State) → s.batch ≡ [] → 0 < length (take most s.completed) → Held n heads w s → InBatch n heads bell (take most s.completed) 0
batch_begins n heads w bell most s none some x =
    let batch : List ℕ = heads_in (take most s.completed) in
    let later : List ℕ = heads_in (drop most s.completed) in
    let same : busy s ≡ batch ++ later =
    ap (λ (xs : List (ℕ × ℕ)). heads_in (xs ++ s.completed)) none ∙ ap heads_in (sym (take-append-drop most s.completed)) ∙ map-append (λ (y : ℕ × ℕ). y.0) (take most s.completed) (drop most s.completed) in
    let split : Splits heads (batch ++ later) s.unfinished = subst (λ (hs : List ℕ). Splits heads hs s.unfinished) same x.splits in
    let distinct : are_distinct batch ≡ true = (distinct_parts batch later split.once).first in
    let opens : (h : ℕ) → is_among batch h ≡ true → is_among heads h ≡ true = λ h held. split.opens h (let joined : is_among (batch ++ later) h ≡ (is_among batch h || is_among later h) = is_among_append batch later h in grind (arith, nat_tests)) in
    let below : (h : ℕ) → is_among batch h ≡ true → h < n = λ h held. x.below h (opens h held) in
    let long : length batch ≡ length (take most s.completed) = length-map (take most s.completed) (λ (y : ℕ × ℕ). y.0) in
    record { some = some; few = omega (arith, long, few_below batch n distinct below); distinct = distinct; below = below; left = omega (arith, length_publish (length (take most s.completed)) bell); opens = λ le. opens }

-- ---- a request is completed

-- one that is left becomes busy
pub splits_complete : (heads busy unfinished : List ℕ) (place h : ℕ) → are_distinct heads ≡ true → slice_get unfinished place ≡ Some h → Splits heads busy unfinished → Splits heads (busy ++ h ∷ []) (remove unfinished place)
splits_complete heads busy unfinished place h distinct at s =
    let there : slice_get (without busy heads) place ≡ Some h = ap (λ (xs : List ℕ). slice_get xs place) (sym s.left) ∙ at in
    let kept : is_among (without busy heads) h ≡ (is_among heads h && not (is_among busy h)) = among_without busy heads h in
    let held : is_among (without busy heads) h ≡ true = among_get (without busy heads) place h there in
    let open_too : is_among heads h ≡ true = grind (arith, nat_tests) in
    let new : is_among busy h ≡ false = grind (arith, nat_tests) in
    record {
      once = distinct_push busy h s.once new;
      opens = λ d among. elim (cases_eq h d) [
        | inl same ↦ ap (is_among heads) (sym same) ∙ open_too
        | inr apart ↦ s.opens d (let joined : is_among (busy ++ h ∷ []) d ≡ (is_among busy d || is_among (h ∷ []) d) = is_among_append busy (h ∷ []) d in grind (arith, nat_tests))
      ];
      left = ap (λ (xs : List ℕ). remove xs place) s.left ∙ remove_is_without (without busy heads) place h (distinct_without busy heads distinct) there ∙ without_both busy (h ∷ []) heads;
    }

busy_more : (batch completed : List (ℕ × ℕ)) (h len : ℕ) → heads_in (batch ++ completed) ++ h ∷ [] ≡ heads_in (batch ++ (completed ++ (h, len) ∷ []))
busy_more [] [] h len = refl
busy_more [] (x ∷ completed) h len = ap (λ (xs : List ℕ). x.0 ∷ xs) (busy_more [] completed h len)
busy_more (x ∷ batch) completed h len = ap (λ (xs : List ℕ). x.0 ∷ xs) (busy_more batch completed h len)

pub held_completed : (n : ℕ) (heads : List ℕ) (w : Words) (place h len : ℕ) (s : State) → slice_get s.unfinished place ≡ Some h → Held n heads w s → Held n heads w (completed_at place h len s)
held_completed n heads w place h len s at x = record {
  distinct = x.distinct;
  below = x.below;
  avail = x.avail;
  taken = x.taken;
  splits = subst (λ (hs : List ℕ). Splits heads hs (remove s.unfinished place)) (busy_more s.batch s.completed h len) (splits_complete heads (busy s) s.unfinished place h x.distinct at x.splits);
}

-- ---- a fetch

-- the head comes last on both sides
pub splits_accept : (heads busy unfinished : List ℕ) (h : ℕ) → is_among heads h ≡ false → Splits heads busy unfinished → Splits (heads ++ h ∷ []) busy (unfinished ++ h ∷ [])
splits_accept heads busy unfinished h new s =
    let out : is_among busy h ≡ false = elim (cases_Bool (is_among busy h)) [
      | inl there ↦ absurd (let held : is_among heads h ≡ true = s.opens h there in cc)
      | inr none ↦ none
    ] in
    record {
      once = s.once;
      opens = λ x held. let joined : is_among (heads ++ h ∷ []) x ≡ (is_among heads x || is_among (h ∷ []) x) = is_among_append heads (h ∷ []) x in let old : is_among heads x ≡ true = s.opens x held in grind (arith, nat_tests);
      left = ap (λ (xs : List ℕ). xs ++ h ∷ []) s.left ∙ sym (without_push busy heads h out);
    }

-- a head is free where it isn't taken
pub held_free : (n : ℕ) (heads : List ℕ) (w : Words) (s : State) (h : ℕ) → h < n → s.taken h ≡ false → Held n heads w s → is_among heads h ≡ false
held_free n heads w s h small free x = sym (x.taken h small) ∙ free

pub held_accept : (r : Ring) (heads : List ℕ) (w : Words) (s : State) (h : ℕ) → h < r.size → s.taken h ≡ false → Held r.size heads w s → Held r.size (heads ++ h ∷ []) w (state_after steps.Accept h s)
held_accept r heads w s h small free x =
    let new : is_among heads h ≡ false = held_free r.size heads w s h small free x in
    let joined : (d : ℕ) → is_among (heads ++ h ∷ []) d ≡ (is_among heads d || is_among (h ∷ []) d) = is_among_append heads (h ∷ []) in
    record {
      distinct = distinct_push heads h x.distinct new;
      below = λ d held. elim (cases_eq h d) [
        | inl same ↦ omega (arith, same, small)
        | inr apart ↦ x.below d (let both : is_among (heads ++ h ∷ []) d ≡ (is_among heads d || is_among (h ∷ []) d) = joined d in grind (arith, nat_tests))
      ];
      avail = omega (arith, x.avail, length-append heads (h ∷ []));
      taken = λ d low.
          let both : is_among (heads ++ h ∷ []) d ≡ (is_among heads d || is_among (h ∷ []) d) = joined d in
          let old : s.taken d ≡ is_among heads d = x.taken d low in
          grind (arith, nat_tests);
      splits = splits_accept heads (busy s) s.unfinished h new x.splits;
    }

-- ---- the end of a publication

-- the heads of a batch leave both what is open and what is busy
pub splits_show : (heads batch completed unfinished : List ℕ) → Splits heads (batch ++ completed) unfinished → Splits (without batch heads) completed unfinished
splits_show heads batch completed unfinished s =
    let parts : Parts batch completed = distinct_parts batch completed s.once in
    record {
      once = parts.second;
      opens = λ h held.
          let kept : is_among (without batch heads) h ≡ (is_among heads h && not (is_among batch h)) = among_without batch heads h in
          let joined : is_among (batch ++ completed) h ≡ (is_among batch h || is_among completed h) = is_among_append batch completed h in
          let out : is_among batch h ≡ false = parts.apart h held in
          let there : is_among heads h ≡ true = s.opens h (grind (arith, nat_tests)) in
          grind (arith, nat_tests);
      left = s.left ∙ sym (without_both batch completed heads);
    }

pub held_index : (r : Ring) (heads : List ℕ) (z : Sight) (w : Words) (s : State) (h : ℕ) → w.ring.used < 65536 → z.batch ≡ s.batch → Held r.size heads w s
    → Held r.size (without (heads_in s.batch) heads) (words_after r z steps.Index w) (state_after steps.Index h s)
held_index r heads z w s h fits seen x =
    let batch : List ℕ = heads_in s.batch in
    let completed : List ℕ = heads_in s.completed in
    let long : length batch ≡ length s.batch = length-map s.batch (λ (y : ℕ × ℕ). y.0) in
    let split : Splits heads (batch ++ completed) s.unfinished = subst (λ (hs : List ℕ). Splits heads hs s.unfinished) (map-append (λ (y : ℕ × ℕ). y.0) s.batch s.completed) x.splits in
    let parts : Parts batch completed = distinct_parts batch completed split.once in
    let opens : (d : ℕ) → is_among batch d ≡ true → is_among heads d ≡ true = λ d held. split.opens d (let joined : is_among (batch ++ completed) d ≡ (is_among batch d || is_among completed d) = is_among_append batch completed d in grind (arith, nat_tests)) in
    let fewer : length (without batch heads) + length batch ≡ length heads = length_without batch heads x.distinct parts.first opens in
    record {
      distinct = distinct_without batch heads x.distinct;
      below = λ d held. x.below d (let kept : is_among (without batch heads) d ≡ (is_among heads d && not (is_among batch d)) = among_without batch heads d in grind (arith, nat_tests));
      avail = omega (arith, x.avail, fewer, long, ap (λ (xs : List (ℕ × ℕ)). length xs) seen);
      taken = λ d low. ap (λ (b : Bool). b && not (is_among batch d)) (x.taken d low) ∙ sym (among_without batch heads d);
      splits = splits_show heads batch completed s.unfinished split;
    }

-- ---- a step

-- what a step finds: a head that is accepted is below n and not taken
abbrev pub Finds : Step → ℕ → ℕ → State → Type 0
Finds steps.Accept n head s = (head < n) × (s.taken head ≡ false)
Finds step n head s = Unit {0}

pub held_step : (r : Ring) (heads : List ℕ) (step : Step) (z : Sight) (w : Words) (s : State) → w.ring.used < 65536 → z.batch ≡ s.batch → Finds step r.size (head_next heads w) s → Held r.size heads w s
    → Held r.size (heads_after step (head_next heads w) s.batch heads) (words_after r z step w) (state_after step (head_next heads w) s)
held_step r heads steps.Features z w s fits seen finds x = held_words r.size heads (words_after r z steps.Features w) w s refl x
held_step r heads (steps.Free i) z w s fits seen finds x = held_words r.size heads (words_after r z (steps.Free i) w) w s refl x
held_step r heads steps.Open z w s fits seen finds x = held_words r.size heads (words_after r z steps.Open w) w s refl x
held_step r heads (steps.Settle i) z w s fits seen finds x = held_words r.size heads (words_after r z (steps.Settle i) w) w s refl x
held_step r heads steps.SettleEnd z w s fits seen finds x = held_words r.size heads (words_after r z steps.SettleEnd w) w s refl x
held_step r heads steps.Bell z w s fits seen finds x = x
held_step r heads steps.Start z w s fits seen finds x = x
held_step r heads steps.Count z w s fits seen finds x = held_words r.size heads (words_after r z steps.Count w) w s refl x
held_step r heads steps.Accept z w s fits seen finds x =
    held_words r.size (heads ++ head_next heads w ∷ []) (words_after r z steps.Accept w) w (state_after steps.Accept (head_next heads w) s) refl (held_accept r heads w s (head_next heads w) finds.0 finds.1 x)
held_step r heads (steps.Id e) z w s fits seen finds x = held_words r.size heads (words_after r z (steps.Id e) w) w s refl x
held_step r heads (steps.Len e) z w s fits seen finds x = held_words r.size heads (words_after r z (steps.Len e) w) w s refl x
held_step r heads (steps.Link e) z w s fits seen finds x = held_words r.size heads (words_after r z (steps.Link e) w) w s (same_used r.size (region_store z (steps.Link e)) w) x
held_step r heads (steps.Head e) z w s fits seen finds x = held_words r.size heads (words_after r z (steps.Head e) w) w s (same_used r.size (region_store z (steps.Head e)) w) x
held_step r heads steps.Index z w s fits seen finds x = held_index r heads z w s (head_next heads w) fits seen x
held_step r heads (steps.Clear e) z w s fits seen finds x = held_words r.size heads (words_after r z (steps.Clear e) w) w s (same_used r.size (region_store z (steps.Clear e)) w) x
held_step r heads steps.Note z w s fits seen finds x = held_words r.size heads (words_after r z steps.Note w) w s refl x
