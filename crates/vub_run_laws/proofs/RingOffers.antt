-- The last store of a request, with its offer, on a split ring.
use Rattle.std.proofs.Common.{◌≡◌, ◌≤◌, ◌<◌, ℕ, ◌+◌, ◌*◌, ◌%◌, List, [], ◌∷◌, ◌++◌, take, length, ap, sym, ◌∙◌, subst, inl, arith, inr}
use Rattle.std.specs.Prelude.{Option, Some, None, slice_index}
use Rattle.std.proofs.lemmas.Bool.{cases_lt}
use Rattle.std.proofs.lemmas.List.{length_push, length-take-le}
use Rattle.byteorder.specs.Endian.{little_bytes}
use Rattle.vub_shared.specs.Bytes.{Bytes, put, word}
use Rattle.vub_shared.proofs.BytesLemmas.{word-put_same}
use Rattle.vub_ring.specs.Ring.{avail_entry_place, avail_idx, avail_idx_place, used_id_place, head_at, used_len_place, last_head}
use Rattle.vub_driver.specs.Drivers.{Driver, Waiting}
use Rattle.vub_driver.specs.Layout.{area_place}
use Rattle.vub_device.specs.Past.{asked, accepted, published, collected}
use Rattle.vub_device.specs.declared.entry.Asked.{Asked}
use Rattle.vub_device.specs.declared.entry.Entry.{Entry}
use Rattle.vub_device.specs.declared.entry.Entry.TheVariants as entries
use Rattle.vub_run.specs.Tracking.{answered_len}
use Rattle.vub_run_laws.proofs.RingGood.{Driven, IsWaiting, Ringed, the_ring}
use Rattle.vub_run_laws.proofs.RunFrames.{keeps, length_little}
use Rattle.vub_run_laws.proofs.RunGood.{IsSize, Known, IsOut, spot}
use Rattle.vub_run_laws.proofs.RunNumbers.{among_at, few_places}
use Rattle.vub_run_laws.proofs.RunOffers.{same_head, new_head, same_asked}

-- the driver's requests have room, with the one that waits
pub offer_room : (q n cap base : ℕ) (past : List Entry) (heads : List ℕ) (v : Driver) (w : Waiting) → Known q n cap past heads → Driven q n cap base past heads v → IsWaiting q n cap past heads v w → length heads < n + collected past q
offer_room q n cap base past heads v w known driven waits =
    let c : ℕ = collected past q in
    let taken : List ℕ = take c (published past q) in
    let many : length taken ≡ c = length-take-le c (published past q) known.shown in
    let f : ℕ → ℕ = slice_index (heads ++ w.head ∷ []) in
    let all : length heads + 1 ≤ n + length taken = few_places f taken (length heads + 1) n (λ j k less upto out_j out_k same.
    let j_low : j < length heads = omega arith in
    let at_j : f j ≡ slice_index heads j = same_head heads w.head j j_low in
    let is_j : IsOut q past heads j = record { below = j_low; kept = out_j } in
    elim (cases_lt k (length heads)) [
      | inl low ↦
          let at_k : f k ≡ slice_index heads k = same_head heads w.head k low in
          let one : j ≡ k = driven.apart j k is_j (record { below = low; kept = out_k }) (sym at_j ∙ same ∙ at_k) in
          omega arith
      | inr high ↦
          let last : k ≡ length heads = omega arith in
          let at_k : f k ≡ w.head = ap f last ∙ new_head heads w.head in
          waits.apart j is_j (sym at_j ∙ same ∙ at_k)
    ]) (λ k upto out_k. elim (cases_lt k (length heads)) [
      | inl low ↦
          let at_k : f k ≡ slice_index heads k = same_head heads w.head k low in
          let small : slice_index heads k < n = driven.below k (record { below = low; kept = out_k }) in
          omega (arith, at_k, small)
      | inr high ↦
          let last : k ≡ length heads = omega arith in
          let at_k : f k ≡ w.head = ap f last ∙ new_head heads w.head in
          omega (arith, at_k, waits.below)
    ]) in
    omega (arith, all, many)

pub offer_spot : (q n cap : ℕ) (past : List Entry) (heads : List ℕ) (r : Asked) (h k : ℕ) → Known q n cap past heads → k < length heads → spot q (heads ++ h ∷ []) (entries.Offer q r ∷ past) k ≡ spot q heads past k
offer_spot q n cap past heads r h k known low =
    ap (λ (x : ℕ). (x, answered_len 0 (asked (entries.Offer q r ∷ past) q k))) (same_head heads h k low)
    ∙ ap (λ (o : Option Asked). (slice_index heads k, answered_len 0 o)) (same_asked q past r k (omega (arith, known.offers_are)))

pub offer_ringed : (q n cap base : ℕ) (past : List Entry) (heads : List ℕ) (m : Bytes) (r : Asked) (h index : ℕ) → IsSize n → Known q n cap past heads → index ≡ (base + length heads) % 65536 → head_at (the_ring q n) m (base + length heads) ≡ h
    → Ringed q n base past heads m → Ringed q n base (entries.Offer q r ∷ past) (heads ++ h ∷ []) (put m 0 (avail_idx_place (the_ring q n)) (little_bytes 2 ((index + 1) % 65536)))
offer_ringed q n cap base past heads m r h index size known at stands ringed =
    let x : ℕ = (index + 1) % 65536 in
    let bs : List ℕ = little_bytes 2 x in
    let two : length bs ≡ 2 = length_little 2 x in
    let p : ℕ = avail_idx_place (the_ring q n) in
    let longer : length (heads ++ h ∷ []) ≡ length heads + 1 = length_push heads h in record {
      avail_idx_is = word-put_same 2 m 0 p x (omega arith) ∙ omega (arith, longer);
      used_idx_is = keeps 2 m p bs (area_place q + 8192 + 2) (inr (omega arith)) ∙ ringed.used_idx_is;
      avail_at = λ i from upto.
          let same : word 2 (put m 0 p bs) 0 (avail_entry_place (the_ring q n) (base + i)) ≡ word 2 m 0 (avail_entry_place (the_ring q n) (base + i)) = keeps 2 m p bs (avail_entry_place (the_ring q n) (base + i)) (inr (omega arith)) in
          elim (cases_lt i (length heads)) [
            | inl low ↦ same ∙ ringed.avail_at i from low ∙ sym (same_head heads h i low)
            | inr high ↦
                let last : i ≡ length heads = omega (arith, longer) in
                same ∙ ap (λ (j : ℕ). head_at (the_ring q n) m (base + j)) last ∙ stands ∙ sym (ap (slice_index (heads ++ h ∷ [])) last ∙ new_head heads h)
          ];
      used_at = λ i from upto.
          let low : slice_index (published past q) i < length heads = omega (arith, known.below (slice_index (published past q) i) (among_at (published past q) i upto), known.offered) in
          let id : word 4 (put m 0 p bs) 0 (used_id_place (the_ring q n) (base + i)) ≡ word 4 m 0 (used_id_place (the_ring q n) (base + i)) = keeps 4 m p bs (used_id_place (the_ring q n) (base + i)) (inr (omega arith)) in
          let len : word 4 (put m 0 p bs) 0 (used_len_place (the_ring q n) (base + i)) ≡ word 4 m 0 (used_len_place (the_ring q n) (base + i)) = keeps 4 m p bs (used_len_place (the_ring q n) (base + i)) (inr (omega arith)) in
          ap (λ (y : ℕ). (y, word 4 (put m 0 p bs) 0 (used_len_place (the_ring q n) (base + i)))) id ∙ ap (λ (y : ℕ). (word 4 m 0 (used_id_place (the_ring q n) (base + i)), y)) len
          ∙ ringed.used_at i from upto ∙ sym (offer_spot q n cap past heads r h (slice_index (published past q) i) known low);
    }

-- the head that the offer shows is the one that was stored
pub shown_head : (q n base : ℕ) (past : List Entry) (heads : List ℕ) (m : Bytes) (r : Asked) (h : ℕ) → accepted past q ≤ length heads → Ringed q n base (entries.Offer q r ∷ past) (heads ++ h ∷ []) m → last_head (the_ring q n) m ≡ h
shown_head q n base past heads m r h offered ringed =
    let longer : length (heads ++ h ∷ []) ≡ length heads + 1 = length_push heads h in
    let at : avail_idx (the_ring q n) m ≡ (base + length heads + 1) % 65536 = ringed.avail_idx_is ∙ omega (arith, longer) in
    let wraps : (avail_idx (the_ring q n) m + 65535) % 65536 ≡ (base + length heads) % 65536 = omega arith in
    ap (λ (y : ℕ). word 2 m 0 (area_place q + 4096 + (4 + 2 * (y % n)))) wraps ∙ ringed.avail_at (length heads) offered (omega (arith, longer)) ∙ new_head heads h

pub offer_driven : (q n cap base : ℕ) (past : List Entry) (heads : List ℕ) (v : Driver) (w : Waiting) (r : Asked) → Driven q n cap base past heads v → IsWaiting q n cap past heads v w
    → Driven q n cap base (entries.Offer q r ∷ past) (heads ++ w.head ∷ []) (record v { avail_idx = (v.avail_idx + 1) % 65536; waiting = None })
offer_driven q n cap base past heads v w r driven waits =
    let longer : length (heads ++ w.head ∷ []) ≡ length heads + 1 = length_push heads w.head in
    let hs : List ℕ = heads ++ w.head ∷ [] in
    let old : (k : ℕ) → IsOut q (entries.Offer q r ∷ past) hs k → k < length heads → IsOut q past heads k = λ k out low. record { below = low; kept = out.kept } in
    let last : (k : ℕ) → IsOut q (entries.Offer q r ∷ past) hs k → length heads ≤ k → slice_index hs k ≡ w.head = λ k out high.
    let is_last : k ≡ length heads = omega (arith, longer, out.below) in ap (slice_index hs) is_last ∙ new_head heads w.head in record {
      index = omega (arith, longer, driven.index);
      below = λ k out. elim (cases_lt k (length heads)) [
        | inl low ↦ omega (arith, same_head heads w.head k low, driven.below k (old k out low))
        | inr high ↦ omega (arith, last k out high, waits.below)
      ];
      owned = λ k out. elim (cases_lt k (length heads)) [
        | inl low ↦ subst (λ (x : ℕ). v.owner x ≡ Some x) (sym (same_head heads w.head k low)) (driven.owned k (old k out low))
        | inr high ↦ subst (λ (x : ℕ). v.owner x ≡ Some x) (sym (last k out high)) waits.mine
      ];
      apart = λ j k out_j out_k same. elim (cases_lt j (length heads)) [
        | inl low_j ↦ elim (cases_lt k (length heads)) [
          | inl low_k ↦ driven.apart j k (old j out_j low_j) (old k out_k low_k) (sym (same_head heads w.head j low_j) ∙ same ∙ same_head heads w.head k low_k)
          | inr high_k ↦ absurd (waits.apart j (old j out_j low_j) (sym (same_head heads w.head j low_j) ∙ same ∙ last k out_k high_k))
        ]
        | inr high_j ↦ elim (cases_lt k (length heads)) [
          | inl low_k ↦ absurd (waits.apart k (old k out_k low_k) (sym (same_head heads w.head k low_k) ∙ sym same ∙ last j out_j high_j))
          | inr high_k ↦ omega (arith, longer, out_j.below, out_k.below)
        ]
      ];
      waits = tt;
    }
