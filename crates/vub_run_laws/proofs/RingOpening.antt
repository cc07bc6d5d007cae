-- Where every split ring begins.
use Rattle.std.proofs.Common.{◌+◌, ◌≡◌, ◌<◌, ℕ, zero, suc, true, false, List, [], length, refl, sym, ◌∙◌, subst, inl, arith, inr}
use Rattle.std.proofs.lemmas.Bool.{cases_lt}
use Rattle.byteorder.specs.Endian.{little_bytes}
use Rattle.vub_base.specs.declared.header.Header1.{Header1}
use Rattle.vub_shared.specs.Bytes.{Bytes, put, word}
use Rattle.vub_shared.proofs.BytesLemmas.{word-put_same, put_other}
use Rattle.vub_ring.specs.Ring.{avail_idx, avail_idx_place, used_idx_place, used_idx}
use Rattle.vub_run.specs.Memory.{opening_memory, opened, opening_scene}
use Rattle.vub_run_laws.proofs.RingGood.{Ringed, the_ring, the_region, QueueFacts}
use Rattle.vub_run_laws.proofs.RunFrames.{keeps, length_little, none_out}
use Rattle.vub_infl_split.specs.Region.{words_of}
use Rattle.vub_region_facts.specs.Starts.{Unmade}
use Rattle.vub_run.specs.Moments.{opening_lane}
use Rattle.vub_steps.specs.declared.steps.Phase.TheVariants as phases

-- both indexes of each of so many queues stand at the base
pub open_words : (h : Header1) (q count : ℕ) → h.base < 65536 → q < count → (avail_idx (the_ring q h.size) (opened h count) ≡ h.base) × (used_idx (the_ring q h.size) (opened h count) ≡ h.base)
open_words h q zero fits low = absurd (omega arith)
open_words h q (suc p) fits low =
    let bs : List ℕ = little_bytes 2 h.base in
    let two : length bs ≡ 2 = length_little 2 h.base in
    let before : Bytes = opened h p in
    let first : Bytes = put before 0 (avail_idx_place (the_ring p h.size)) bs in
    elim (cases_lt q p) [
      | inl less ↦
          let rest = open_words h q p fits less in (
            keeps 2 first (used_idx_place (the_ring p h.size)) bs (avail_idx_place (the_ring q h.size)) (inl (omega arith))
                ∙ keeps 2 before (avail_idx_place (the_ring p h.size)) bs (avail_idx_place (the_ring q h.size)) (inl (omega arith)) ∙ rest.0,
            keeps 2 first (used_idx_place (the_ring p h.size)) bs (used_idx_place (the_ring q h.size)) (inl (omega arith))
                ∙ keeps 2 before (avail_idx_place (the_ring p h.size)) bs (used_idx_place (the_ring q h.size)) (inl (omega arith)) ∙ rest.1,
          )
      | inr more ↦
          let same : q ≡ p = omega arith in
          let here : (avail_idx (the_ring p h.size) (opened h (suc p)) ≡ h.base) × (used_idx (the_ring p h.size) (opened h (suc p)) ≡ h.base) = (
            keeps 2 first (used_idx_place (the_ring p h.size)) bs (avail_idx_place (the_ring p h.size)) (inl (omega arith)) ∙ word-put_same 2 before 0 (avail_idx_place (the_ring p h.size)) h.base (omega arith),
            word-put_same 2 first 0 (used_idx_place (the_ring p h.size)) h.base (omega arith),
          ) in
          subst (λ (x : ℕ). (avail_idx (the_ring x h.size) (opened h (suc p)) ≡ h.base) × (used_idx (the_ring x h.size) (opened h (suc p)) ≡ h.base)) (sym same) here
    ]

pub open_ringed : (q : ℕ) (h : Header1) → h.base < 65536 → q < h.queues → Ringed q h.size h.base [] [] (opening_memory h)
open_ringed q h fits low =
    let words = open_words h q h.queues fits low in record {
      avail_idx_is = words.0 ∙ omega arith;
      used_idx_is = words.1 ∙ omega arith;
      avail_at = λ i from upto. absurd (omega arith);
      used_at = λ i from upto. absurd (omega arith);
    }

-- all else is zero bytes: so are those of the in-flight region
open_zero : (h : Header1) (count p : ℕ) → opened h count 1 p ≡ 0
open_zero h zero p = refl
open_zero h (suc count) p =
    let bs : List ℕ = little_bytes 2 h.base in
    let first : Bytes = put (opened h count) 0 (avail_idx_place (the_ring count h.size)) bs in
    put_other first 0 (used_idx_place (the_ring count h.size)) bs 1 p (inl (λ e. omega (arith, e))) ∙ put_other (opened h count) 0 (avail_idx_place (the_ring count h.size)) bs 1 p (inl (λ e. omega (arith, e))) ∙ open_zero h count p

zero_word : (w : ℕ) (m : Bytes) (p : ℕ) → ((i : ℕ) → m 1 i ≡ 0) → word w m 1 p ≡ 0
unfolding word
zero_word zero m p none = refl
zero_word (suc w) m p none = omega (arith, none p, zero_word w m (p + 1) none)

open_unmade : (q : ℕ) (h : Header1) → h.base < 65536 → q < h.queues → Unmade (used_idx (the_ring q h.size) (opening_memory h)) [] h.base (words_of (the_region q h.size) (opening_memory h))
open_unmade q h fits low = record {
  version = zero_word 2 (opening_memory h) ((the_region q h.size).place + 8) (open_zero h h.queues);
  none = refl;
  at_base = sym (open_words h q h.queues fits low).1;
}

pub open_facts : (q : ℕ) (h : Header1) → h.base < 65536 → q < h.queues → QueueFacts q h (opening_scene h) (opening_lane h).driver (opening_lane h).bell (opening_lane h).plan (opening_lane h).counter [] phases.Rest
open_facts q h fits low = record {
  ringed = open_ringed q h fits low;
  driven = record {
    index = omega (arith, fits);
    below = λ k out. absurd (none_out q k out);
    owned = λ k out. absurd (none_out q k out);
    apart = λ j k out_j out_k same. absurd (none_out q j out_j);
    waits = tt;
  };
  words = record { used_fits = omega (arith, (open_words h q h.queues fits low).1, fits); not_started = λ stopped. inl (open_unmade q h fits low); in_life = λ on. absurd (let fails : false ≡ true = on in cc); batch = refl };
  start = tt;
}
