-- The stores of used elements, on a split ring.
use Rattle.std.proofs.Common.{◌≡◌, ◌≢◌, ◌≤◌, ◌<◌, ℕ, ◌+◌, ◌*◌, ◌%◌, List, length, ap, ◌∙◌, inl, arith, inr}
use Rattle.std.proofs.lemmas.Bool.{cases_lt}
use Rattle.byteorder.specs.Endian.{little_bytes}
use Rattle.vub_shared.specs.Bytes.{Bytes, put, word}
use Rattle.vub_ring.specs.Ring.{entry_of, avail_entry_place, avail_idx_place, used_id_place, used_idx_place, used_idx, used_len_place}
use Rattle.vub_driver.specs.Layout.{area_place}
use Rattle.vub_device.specs.Past.{published, collected}
use Rattle.vub_device.specs.declared.entry.Entry.{Entry}
use Rattle.vub_run_laws.proofs.RingFrames.{entry_small}
use Rattle.vub_run_laws.proofs.RingGood.{Ringed, the_ring}
use Rattle.vub_run_laws.proofs.RunFrames.{keeps, length_little}
use Rattle.vub_run_laws.proofs.RunGood.{IsSize}

-- id words of two entries, and an id word and a len word
pub id_and_id : (q a b x : ℕ) (m : Bytes) → a ≢ b → word 4 (put m 0 (area_place q + 8192 + (4 + 8 * a)) (little_bytes 4 x)) 0 (area_place q + 8192 + (4 + 8 * b)) ≡ word 4 m 0 (area_place q + 8192 + (4 + 8 * b))
id_and_id q a b x m apart =
    let four : length (little_bytes 4 x) ≡ 4 = length_little 4 x in
    keeps 4 m (area_place q + 8192 + (4 + 8 * a)) (little_bytes 4 x) (area_place q + 8192 + (4 + 8 * b)) (elim (cases_lt a b) [
      | inl less ↦ inr (omega arith)
      | inr more ↦ inl (let above : b < a = omega arith in omega arith)
    ])

pub len_and_len : (q a b x : ℕ) (m : Bytes) → a ≢ b → word 4 (put m 0 (area_place q + 8192 + (8 + 8 * a)) (little_bytes 4 x)) 0 (area_place q + 8192 + (8 + 8 * b)) ≡ word 4 m 0 (area_place q + 8192 + (8 + 8 * b))
len_and_len q a b x m apart =
    let four : length (little_bytes 4 x) ≡ 4 = length_little 4 x in
    keeps 4 m (area_place q + 8192 + (8 + 8 * a)) (little_bytes 4 x) (area_place q + 8192 + (8 + 8 * b)) (elim (cases_lt a b) [
      | inl less ↦ inr (omega arith)
      | inr more ↦ inl (let above : b < a = omega arith in omega arith)
    ])

pub id_and_len : (q a b x : ℕ) (m : Bytes) → word 4 (put m 0 (area_place q + 8192 + (4 + 8 * a)) (little_bytes 4 x)) 0 (area_place q + 8192 + (8 + 8 * b)) ≡ word 4 m 0 (area_place q + 8192 + (8 + 8 * b))
id_and_len q a b x m =
    let four : length (little_bytes 4 x) ≡ 4 = length_little 4 x in
    keeps 4 m (area_place q + 8192 + (4 + 8 * a)) (little_bytes 4 x) (area_place q + 8192 + (8 + 8 * b)) (elim (cases_lt b a) [
      | inl less ↦ inl (omega arith)
      | inr more ↦ inr (omega arith)
    ])

pub len_and_id : (q a b x : ℕ) (m : Bytes) → word 4 (put m 0 (area_place q + 8192 + (8 + 8 * a)) (little_bytes 4 x)) 0 (area_place q + 8192 + (4 + 8 * b)) ≡ word 4 m 0 (area_place q + 8192 + (4 + 8 * b))
len_and_id q a b x m =
    let four : length (little_bytes 4 x) ≡ 4 = length_little 4 x in
    keeps 4 m (area_place q + 8192 + (8 + 8 * a)) (little_bytes 4 x) (area_place q + 8192 + (4 + 8 * b)) (elim (cases_lt a b) [
      | inl less ↦ inr (omega arith)
      | inr more ↦ inl (omega arith)
    ])

-- a store into the used ring, past used.idx, leaves the words of the avail ring and used.idx
pub ring_words : (q n base : ℕ) (past : List Entry) (heads : List ℕ) (m : Bytes) (p : ℕ) (bs : List ℕ) → IsSize n → area_place q + 8192 + 4 ≤ p
    → ((i : ℕ) → collected past q ≤ i → i < length (published past q) → word 4 (put m 0 p bs) 0 (used_id_place (the_ring q n) (base + i)) ≡ word 4 m 0 (used_id_place (the_ring q n) (base + i)))
    → ((i : ℕ) → collected past q ≤ i → i < length (published past q) → word 4 (put m 0 p bs) 0 (used_len_place (the_ring q n) (base + i)) ≡ word 4 m 0 (used_len_place (the_ring q n) (base + i)))
    → Ringed q n base past heads m → Ringed q n base past heads (put m 0 p bs)
ring_words q n base past heads m p bs size high ids lens r = record {
  avail_idx_is = keeps 2 m p bs (avail_idx_place (the_ring q n)) (inl (omega arith)) ∙ r.avail_idx_is;
  used_idx_is = keeps 2 m p bs (used_idx_place (the_ring q n)) (inl (omega arith)) ∙ r.used_idx_is;
  avail_at = λ i from upto. let small = entry_small n (base + i) size in keeps 2 m p bs (avail_entry_place (the_ring q n) (base + i)) (inl (omega arith)) ∙ r.avail_at i from upto;
  used_at = λ i from upto.
      ap (λ (y : ℕ). (y, word 4 (put m 0 p bs) 0 (used_len_place (the_ring q n) (base + i)))) (ids i from upto) ∙ ap (λ (y : ℕ). (word 4 m 0 (used_id_place (the_ring q n) (base + i)), y)) (lens i from upto) ∙ r.used_at i from upto;
}

-- the place of the e-th element of a publication, from used.idx as it stands
pub element_place : (q n base : ℕ) (past : List Entry) (heads : List ℕ) (m : Bytes) (e : ℕ) → Ringed q n base past heads m → entry_of (the_ring q n) (used_idx (the_ring q n) m + e) ≡ entry_of (the_ring q n) (base + length (published past q) + e)
element_place q n base past heads m e r =
    let u : used_idx (the_ring q n) m ≡ (base + length (published past q)) % 65536 = r.used_idx_is in
    let same : (used_idx (the_ring q n) m + e) % 65536 ≡ (base + length (published past q) + e) % 65536 = omega arith in
    ap (λ (y : ℕ). y % n) same
