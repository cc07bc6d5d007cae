-- Stores elsewhere leave what is known of a split ring; the store of the next avail entry.
use Rattle.std.proofs.Common.{◌≡◌, ◌≢◌, ◌≤◌, ◌<◌, ℕ, ◌⊎◌, ◌+◌, ◌%◌, List, length, ap, sym, ◌∙◌, inl, arith, inr}
use Rattle.std.proofs.lemmas.Bool.{cases_lt}
use Rattle.byteorder.specs.Endian.{little_bytes}
use Rattle.vub_shared.specs.Bytes.{Bytes, put, word}
use Rattle.vub_shared.proofs.BytesLemmas.{word-put_same}
use Rattle.vub_ring.specs.Ring.{entry_of, avail_entry_place, avail_idx_place, used_id_place, head_at, used_len_place}
use Rattle.vub_driver.specs.Layout.{area_place}
use Rattle.vub_device.specs.Past.{accepted, collected}
use Rattle.vub_device.specs.declared.entry.Entry.{Entry}
use Rattle.vub_split.proofs.Rings.{entries_apart}
use Rattle.vub_run_laws.proofs.RingGood.{Ringed, the_ring}
use Rattle.vub_run_laws.proofs.RunFrames.{keeps, length_little}
use Rattle.vub_run_laws.proofs.RunGood.{IsSize, Known}

-- outside the rings
abbrev pub OffRings : ℕ → ℕ → List ℕ → Type 0
OffRings q p bs = (p + length bs ≤ area_place q + 4096) ⊎ (area_place q + 65536 ≤ p)

pub off_rings : (q w : ℕ) (m : Bytes) (p : ℕ) (bs : List ℕ) (place : ℕ) → OffRings q p bs → area_place q + 4096 ≤ place → place + w ≤ area_place q + 65536 → word w (put m 0 p bs) 0 place ≡ word w m 0 place
off_rings q w m p bs place (inl below) from upto = keeps w m p bs place (inr (omega arith))
off_rings q w m p bs place (inr above) from upto = keeps w m p bs place (inl (omega arith))

pub entry_small : (n i : ℕ) → IsSize n → i % 65536 % n < 64
entry_small n i size = let some : 0 < n = size.some in let small : n ≤ 64 = size.small in omega arith

pub ringed_elsewhere : (q n base : ℕ) (past : List Entry) (heads : List ℕ) (m : Bytes) (p : ℕ) (bs : List ℕ) → IsSize n → OffRings q p bs → Ringed q n base past heads m → Ringed q n base past heads (put m 0 p bs)
ringed_elsewhere q n base past heads m p bs size off r = record {
  avail_idx_is = off_rings q 2 m p bs (avail_idx_place (the_ring q n)) off (omega arith) (omega arith) ∙ r.avail_idx_is;
  used_idx_is = off_rings q 2 m p bs (area_place q + 8192 + 2) off (omega arith) (omega arith) ∙ r.used_idx_is;
  avail_at = λ i from upto. let small = entry_small n (base + i) size in off_rings q 2 m p bs (avail_entry_place (the_ring q n) (base + i)) off (omega arith) (omega arith) ∙ r.avail_at i from upto;
  used_at = λ i from upto.
      let small = entry_small n (base + i) size in
      let id : word 4 (put m 0 p bs) 0 (used_id_place (the_ring q n) (base + i)) ≡ word 4 m 0 (used_id_place (the_ring q n) (base + i)) = off_rings q 4 m p bs (used_id_place (the_ring q n) (base + i)) off (omega arith) (omega arith) in
      let len : word 4 (put m 0 p bs) 0 (used_len_place (the_ring q n) (base + i)) ≡ word 4 m 0 (used_len_place (the_ring q n) (base + i)) = off_rings q 4 m p bs (used_len_place (the_ring q n) (base + i)) off (omega arith) (omega arith) in
      ap (λ (x : ℕ). (x, word 4 (put m 0 p bs) 0 (used_len_place (the_ring q n) (base + i)))) id ∙ ap (λ (x : ℕ). (word 4 m 0 (used_id_place (the_ring q n) (base + i)), x)) len ∙ r.used_at i from upto;
}

pub same_entry : (q n x : ℕ) → entry_of (the_ring q n) (x % 65536) ≡ entry_of (the_ring q n) x
same_entry q n x = let same : x % 65536 % 65536 ≡ x % 65536 = omega arith in ap (λ (y : ℕ). y % n) same

pub ringed_entry : (q n cap base : ℕ) (past : List Entry) (heads : List ℕ) (m : Bytes) (p head : ℕ) → IsSize n → Known q n cap past heads → length heads < n + collected past q → p ≡ avail_entry_place (the_ring q n) (base + length heads)
    → head < 65536 → Ringed q n base past heads m
    → Ringed q n base past heads (put m 0 p (little_bytes 2 head)) × (head_at (the_ring q n) (put m 0 p (little_bytes 2 head)) (base + length heads) ≡ head)
ringed_entry q n cap base past heads m p head size known room at fits r =
    let bs : List ℕ = little_bytes 2 head in
    let two : length bs ≡ 2 = length_little 2 head in
    let here = entry_small n (base + length heads) size in
    let later : collected past q ≤ accepted past q = omega (arith, known.shown, known.fewer) in (
      record {
        avail_idx_is = keeps 2 m p bs (avail_idx_place (the_ring q n)) (inl (omega arith)) ∙ r.avail_idx_is;
        used_idx_is = keeps 2 m p bs (area_place q + 8192 + 2) (inr (omega arith)) ∙ r.used_idx_is;
        avail_at = λ i from upto.
            let other : (base + i) % 65536 % n ≢ (base + length heads) % 65536 % n = entries_apart n (base + i) (base + length heads) size.some size.laps (omega arith) (omega arith) in
            keeps 2 m p bs (avail_entry_place (the_ring q n) (base + i)) (elim (cases_lt ((base + i) % 65536 % n) ((base + length heads) % 65536 % n)) [
              | inl less ↦ inl (omega arith)
              | inr more ↦ inr (let above : (base + length heads) % 65536 % n < (base + i) % 65536 % n = omega arith in omega arith)
            ]) ∙ r.avail_at i from upto;
        used_at = λ i from upto.
            let id : word 4 (put m 0 p bs) 0 (used_id_place (the_ring q n) (base + i)) ≡ word 4 m 0 (used_id_place (the_ring q n) (base + i)) = keeps 4 m p bs (used_id_place (the_ring q n) (base + i)) (inr (omega arith)) in
            let len : word 4 (put m 0 p bs) 0 (used_len_place (the_ring q n) (base + i)) ≡ word 4 m 0 (used_len_place (the_ring q n) (base + i)) = keeps 4 m p bs (used_len_place (the_ring q n) (base + i)) (inr (omega arith)) in
            ap (λ (x : ℕ). (x, word 4 (put m 0 p bs) 0 (used_len_place (the_ring q n) (base + i)))) id ∙ ap (λ (x : ℕ). (word 4 m 0 (used_id_place (the_ring q n) (base + i)), x)) len ∙ r.used_at i from upto;
      },
      ap (λ (e : ℕ). word 2 (put m 0 p bs) 0 e) (sym at) ∙ word-put_same 2 m 0 p head (omega arith),
    )
