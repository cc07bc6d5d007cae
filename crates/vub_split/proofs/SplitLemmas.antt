-- A split ring in its spaces, and as a ring.
use Rattle.std.proofs.Common.{◌≡◌, ℕ, ◌+◌, ◌*◌, ◌%◌, refl, ap, sym, subst}
use Rattle.std.specs.Int.{◌∣◌}
use Rattle.std.proofs.Math.Nat.{mod-mod_of_dvd}
use mathlib.Core.Path.{fun_ext}
use Rattle.byteorder.specs.Endian.{little_bytes}
use Rattle.vub_shared.specs.Bytes.{Bytes, word}
use Rattle.vub_shared.specs.Stores.{one_store}
use Rattle.vub_ring.specs.Ring.{entry_of, avail_idx, head_at, used_idx}
use Rattle.vub_split.specs.declared.split.SplitRing.{SplitRing}
use Rattle.vub_split.specs.Split.{RingLies, ring_of_split, avail_idx_word, head_word, used_idx_word, used_id_place, used_len_place}
use Rattle.vub_split.specs.Stores.{used_id_store, used_len_store}

-- a ring lies where it lay while no size changes
pub lies_still : (old new : ℕ → ℕ) (r s : SplitRing) → s ≡ r → ((t : ℕ) → new t ≡ old t) → RingLies old r → RingLies new s
lies_still old new r s same sizes h =
    let equal : old ≡ new = fun_ext (λ t. sym (sizes t)) in
    subst (λ (q : SplitRing). RingLies new q) (sym same) (subst (λ (f : ℕ → ℕ). RingLies f r) equal h)

-- ---- the ring that a split ring is

pub avail_idx_is : (r : SplitRing) (m : Bytes) → avail_idx_word r m ≡ avail_idx (ring_of_split r) m
avail_idx_is r m = refl

-- an index below 65536 need not be taken modulo 65536 first, nor does any where the size divides it
pub entry_is : (r : SplitRing) (index : ℕ) → r.size ∣ 65536 → index % r.size ≡ entry_of (ring_of_split r) index
entry_is r index laps = sym (mod-mod_of_dvd r.size index laps)

pub head_is : (r : SplitRing) (m : Bytes) (index : ℕ) → r.size ∣ 65536 → head_word r m index ≡ head_at (ring_of_split r) m index
head_is r m index laps = ap (λ (e : ℕ). word 2 m r.avail.0.number (r.avail.1 + (4 + 2 * e))) (entry_is r index laps)

pub used_idx_is : (r : SplitRing) (m : Bytes) → used_idx_word r m ≡ used_idx (ring_of_split r) m
used_idx_is r m = refl

-- the device's stores are those of the ring
pub used_id_store_is : (r : SplitRing) (index id : ℕ) → r.size ∣ 65536 → one_store r.used.0.number (used_id_place r index) (little_bytes 4 id) ≡ used_id_store (ring_of_split r) index id
used_id_store_is r index id laps = ap (λ (e : ℕ). one_store r.used.0.number (r.used.1 + (4 + 8 * e)) (little_bytes 4 id)) (entry_is r index laps)

pub used_len_store_is : (r : SplitRing) (index len : ℕ) → r.size ∣ 65536 → one_store r.used.0.number (used_len_place r index) (little_bytes 4 len) ≡ used_len_store (ring_of_split r) index len
used_len_store_is r index len laps = ap (λ (e : ℕ). one_store r.used.0.number (r.used.1 + (8 + 8 * e)) (little_bytes 4 len)) (entry_is r index laps)
