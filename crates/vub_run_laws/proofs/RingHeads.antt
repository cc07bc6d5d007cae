-- The head that memory shows once the stores left of a request are made, on a split ring.
use Rattle.std.proofs.Common.{◌≡◌, ◌≤◌, ◌<◌, ℕ, ◌+◌, ◌*◌, ◌%◌, List, length, ap, ◌∙◌, inl, inr, arith}
use Rattle.byteorder.specs.Endian.{little_bytes}
use Rattle.vub_base.specs.declared.header.Header1.{Header1}
use Rattle.vub_shared.specs.Bytes.{Bytes, put, word}
use Rattle.vub_shared.specs.Stores.{Store}
use Rattle.vub_shared.proofs.BytesLemmas.{word-put_same}
use Rattle.vub_ring.specs.Ring.{avail_idx, avail_entry_place, avail_idx_place, head_at, last_head}
use Rattle.vub_driver.specs.Layout.{area_place}
use Rattle.vub_driver.specs.Drivers.{Driver, Waiting}
use Rattle.vub_driver.specs.Stores.{offer_stores}
use Rattle.vub_run.specs.Memory.{Scene}
use Rattle.vub_run_laws.proofs.RingGood.{the_ring, IsWaiting, LastStands}
use Rattle.vub_run_laws.proofs.RunFrames.{keeps, length_little}
use Rattle.vub_run_laws.proofs.RunChainsStores.{put_all}
use Rattle.vub_run_laws.proofs.RunChainsMade.{put_append}

-- the store of avail.idx shows the head that the entry before it names
index_shows : (q n i index head : ℕ) (m : Bytes) → index ≡ i % 65536 → head_at (the_ring q n) m i ≡ head → last_head (the_ring q n) (put m 0 (avail_idx_place (the_ring q n)) (little_bytes 2 ((index + 1) % 65536))) ≡ head
index_shows q n i index head m at stands =
    let there : ℕ = avail_idx_place (the_ring q n) in
    let p : ℕ = avail_entry_place (the_ring q n) i in
    let y : ℕ = (index + 1) % 65536 in
    let bs : List ℕ = little_bytes 2 y in
    let two : length bs ≡ 2 = length_little 2 y in
    let m' : Bytes = put m 0 there bs in
    let shown : avail_idx (the_ring q n) m' ≡ y = word-put_same 2 m 0 there y (omega arith) in
    let back : (avail_idx (the_ring q n) m' + 65535) % 65536 ≡ i % 65536 = omega (arith, shown, at) in
    let place : avail_entry_place (the_ring q n) (avail_idx (the_ring q n) m' + 65535) ≡ p = ap (λ (x : ℕ). area_place q + 4096 + (4 + 2 * (x % n))) back in
    ap (word 2 m' 0) place ∙ keeps 2 m there bs p (inr (omega arith)) ∙ stands

-- the two stores of an offer show its head
pub offer_shows : (q n index head : ℕ) (m : Bytes) → index < 65536 → head < 65536 → last_head (the_ring q n) (put_all (offer_stores (the_ring q n) index head) m) ≡ head
offer_shows q n index head m fits small =
    let p : ℕ = avail_entry_place (the_ring q n) index in
    index_shows q n index index head (put m 0 p (little_bytes 2 head)) (omega arith) (word-put_same 2 m 0 p head (omega arith))

-- all that are left of a request show its head
pub left_shows : (q : ℕ) (h : Header1) (s : Scene) (v : Driver) (w : Waiting) → h.size ≤ 64 → v.avail_idx ≡ (h.base + length (s.heads q)) % 65536 → IsWaiting q h.size h.capacity s.past (s.heads q) v w → LastStands q h s w → last_head (the_ring q h.size) (put_all w.left s.memory) ≡ w.head
left_shows q h s v w small index waits stands = elim waits.plan [
  | inl plan ↦
      ap (λ (sts : List Store). last_head (the_ring q h.size) (put_all sts s.memory)) plan.whole
      ∙ ap (last_head (the_ring q h.size)) (put_append plan.first (offer_stores (the_ring q h.size) v.avail_idx w.head) s.memory)
      ∙ offer_shows q h.size v.avail_idx w.head (put_all plan.first s.memory) (omega (arith, index)) (omega (arith, waits.below))
  | inr last ↦
      ap (λ (sts : List Store). last_head (the_ring q h.size) (put_all sts s.memory)) last
      ∙ index_shows q h.size (h.base + length (s.heads q)) v.avail_idx w.head s.memory index (stands (ap length last))
]
