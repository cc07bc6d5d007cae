-- What waits in a ring, and what is seen of it, after each store.
use Rattle.std.proofs.Common.{◌≡◌, ◌≢◌, ◌≤◌, ◌<◌, ◌⊎◌, ℕ, ◌+◌, ◌%◌, ◌^◌, true, false, List, [], ◌∷◌, ◌++◌, ap, sym, ◌∙◌, subst, inl, inr, arith}
use Rattle.std.proofs.lemmas.Bool.{cases_eq}
use Rattle.vub_base.specs.Positions.{is_available, is_used, wrap_at}
use Rattle.vub_shared.specs.Bytes.{Bytes}
use Rattle.vub_shared.specs.Stores.{Store, after_store}
use Rattle.vub_slots.specs.Slots.{SlotWords, available_at, used_at, is_of_lap, Element, slots_of, pairs_of, IsSized, Shows, elements_from, Buffer, buffers_from}
use Rattle.vub_slots.specs.Ring.{DescriptorRing, words_of, OffRing, buffer_at, waiting, waiting_end, seen, seen_end}
use Rattle.vub_slots.specs.Stores.{flags_store, details_store, slot_store}
use Rattle.vub_slots.proofs.NumberLemmas.{slot_lt, slots_apart, other_lap, old_not_available}
use Rattle.vub_slots.proofs.SlotLemmas.{this_slot, Agree, agree_elsewhere}
use Rattle.vub_slots.proofs.WalkLemmas.{some_slots, ends-buffers_from, buffers_kept, buffers_more, ends-elements_from, elements_kept, elements_more}
use Rattle.vub_packed.proofs.Words.{LiesInSlot, lies_elsewhere, lies_less, lies_flags, flags_lies, slot_lies, slot_parts, flags_stored, words_elsewhere}

-- ---- slots of numbers less than a lap apart

-- a store in one slot leaves those of other numbers
others_agree : (r : DescriptorRing) (m : Bytes) (q from upto : ℕ) (st : Store) → 0 < r.size → LiesInSlot r (q % r.size) 16 st → (upto ≤ q) ⊎ (q < from) → q < from + r.size → upto ≤ q + r.size → Agree r.size (words_of r m) (words_of r (after_store st m)) from upto
others_agree r m q from upto st some lies side near far = agree_elsewhere r.size (words_of r m) (words_of r (after_store st m)) q from upto some (lies_elsewhere r m (q % r.size) st lies) side near far

other_flags : (r : DescriptorRing) (m : Bytes) (p q : ℕ) (st : Store) → 0 < r.size → LiesInSlot r (q % r.size) 16 st → p ≢ q → p < q + r.size → q < p + r.size → (words_of r (after_store st m)).flags (p % r.size) ≡ (words_of r m).flags (p % r.size)
other_flags r m p q st some lies apart near far = sym (lies_elsewhere r m (q % r.size) st lies (p % r.size) (slots_apart r.size p q some apart near far)).0

-- the flags that are stored
these_flags : (r : DescriptorRing) (m : Bytes) (q flags : ℕ) → 0 < r.size → flags < 2 ^ 16 → (words_of r (after_store (flags_store r (q % r.size) flags) m)).flags (q % r.size) ≡ flags
these_flags r m q flags some fits = ap (λ (w : SlotWords). w.flags (q % r.size)) (flags_stored r m (q % r.size) flags (slot_lt r.size q some) fits) ∙ this_slot (words_of r m).flags (q % r.size) flags

these_slot_flags : (r : DescriptorRing) (m : Bytes) (q addr len id flags : ℕ) → 0 < r.size → flags < 2 ^ 16 → (words_of r (after_store (slot_store r (q % r.size) addr len id flags) m)).flags (q % r.size) ≡ flags
these_slot_flags r m q addr len id flags some fits =
    ap (λ (n : Bytes). (words_of r n).flags (q % r.size)) (slot_parts r m (q % r.size) addr len id flags) ∙ these_flags r (after_store (details_store r (q % r.size) addr len id) m) q flags some fits

-- ---- what waits

-- a store in a slot that isn't one of those that wait, nor changes the flags of the first after them
waiting_kept : (r : DescriptorRing) (m : Bytes) (from q : ℕ) (st : Store) → LiesInSlot r (q % r.size) 16 st → (waiting_end r m from ≤ q) ⊎ (q < from) → q < from + r.size → waiting_end r m from < from + r.size → waiting_end r m from ≤ q + r.size
    → (words_of r (after_store st m)).flags (waiting_end r m from % r.size) ≡ (words_of r m).flags (waiting_end r m from % r.size) → waiting r (after_store st m) from ≡ waiting r m from
waiting_kept r m from q st lies side near less far still =
    let some : 0 < r.size = omega arith in
    let w : SlotWords = words_of r m in
    let s : SlotWords = words_of r (after_store st m) in
    let e : ℕ = waiting_end r m from in
    let stop : available_at r.size w e ≡ false = ends-buffers_from r.size w r.size from (omega arith) in
    buffers_kept r.size w s from (omega arith) (others_agree r m q from e st some lies side near far) (subst (λ f. is_available f (wrap_at r.size e) ≡ false) (sym still) stop)

-- a store of the driver in slots after those that wait, of a slot without its flags or of a slot further on
pub waiting_behind : (r : DescriptorRing) (m : Bytes) (from q : ℕ) (st : Store) → waiting_end r m from ≤ q → q < from + r.size → LiesInSlot r (q % r.size) 14 st → waiting r (after_store st m) from ≡ waiting r m from
waiting_behind r m from q st behind near lies =
    waiting_kept r m from q st (lies_less r (q % r.size) st lies) (inl behind) near (omega arith) (omega arith) (lies_flags r m (q % r.size) st lies (waiting_end r m from % r.size))

pub waiting_further : (r : DescriptorRing) (m : Bytes) (from q : ℕ) (st : Store) → waiting_end r m from < q → q < from + r.size → LiesInSlot r (q % r.size) 16 st → waiting r (after_store st m) from ≡ waiting r m from
waiting_further r m from q st behind near lies =
    let some : 0 < r.size = omega arith in
    waiting_kept r m from q st lies (inl (omega arith)) near (omega arith) (omega arith) (other_flags r m (waiting_end r m from) q st some lies (λ same. omega (arith, same, behind)) (omega arith) (omega arith))

-- a store of the device in slots before those that wait, at most a lap from their end
pub waiting_before : (r : DescriptorRing) (m : Bytes) (from q : ℕ) (st : Store) → q < from → waiting_end r m from ≤ q + r.size → LiesInSlot r (q % r.size) 14 st → waiting r (after_store st m) from ≡ waiting r m from
waiting_before r m from q st before far lies =
    waiting_kept r m from q st (lies_less r (q % r.size) st lies) (inr before) (omega arith) (omega arith) far (lies_flags r m (q % r.size) st lies (waiting_end r m from % r.size))

-- flags of this lap there
pub waiting_flags_before : (r : DescriptorRing) (m : Bytes) (from q flags : ℕ) → q < from → waiting_end r m from ≤ q + r.size → flags < 2 ^ 16 → is_of_lap r.size flags q ≡ true → waiting r (after_store (flags_store r (q % r.size) flags) m) from ≡ waiting r m from
waiting_flags_before r m from q flags before far fits lap =
    let some : 0 < r.size = omega arith in
    let st : Store = flags_store r (q % r.size) flags in
    let w : SlotWords = words_of r m in
    let s : SlotWords = words_of r (after_store st m) in
    let e : ℕ = waiting_end r m from in
    let lies : LiesInSlot r (q % r.size) 16 st = flags_lies r (q % r.size) flags in
    let stop : available_at r.size w e ≡ false = ends-buffers_from r.size w r.size from (omega arith) in
    let still : available_at r.size s e ≡ false = elim (cases_eq e (q + r.size)) [
      | inl whole ↦
          let here : is_of_lap r.size (s.flags (q % r.size)) q ≡ true = subst (λ f. is_of_lap r.size f q ≡ true) (sym (these_flags r m q flags some fits)) lap in
          subst (λ p. available_at r.size s p ≡ false) (sym whole) (old_not_available r.size s.flags (q + r.size) (other_lap r.size s.flags q some here))
      | inr less ↦
          let same : s.flags (e % r.size) ≡ w.flags (e % r.size) = other_flags r m e q st some lies (λ equal. omega (arith, equal, before)) (omega (arith, less, far)) (omega arith) in
          subst (λ f. is_available f (wrap_at r.size e) ≡ false) (sym same) stop
    ] in
    buffers_kept r.size w s from (omega arith) (others_agree r m q from e st some lies (inr before) (omega arith) far) still

-- the flags of the first slot after those that wait
pub waiting_offer : (r : DescriptorRing) (m : Bytes) (from flags : ℕ) → flags < 2 ^ 16 → is_available flags (wrap_at r.size (waiting_end r m from)) ≡ true
    → waiting_end r m from + (buffer_at r (after_store (flags_store r (waiting_end r m from % r.size) flags) m) (waiting_end r m from)).slots ≤ from + r.size
    → (waiting_end r m from + (buffer_at r (after_store (flags_store r (waiting_end r m from % r.size) flags) m) (waiting_end r m from)).slots < from + r.size
    → available_at r.size (words_of r m) (waiting_end r m from + (buffer_at r (after_store (flags_store r (waiting_end r m from % r.size) flags) m) (waiting_end r m from)).slots) ≡ false)
    → waiting r (after_store (flags_store r (waiting_end r m from % r.size) flags) m) from ≡ waiting r m from ++ buffer_at r (after_store (flags_store r (waiting_end r m from % r.size) flags) m) (waiting_end r m from) ∷ []
waiting_offer r m from flags fits new few stop =
    let e : ℕ = waiting_end r m from in
    let st : Store = flags_store r (e % r.size) flags in
    let w : SlotWords = words_of r m in
    let s : SlotWords = words_of r (after_store st m) in
    let b : Buffer = buffer_at r (after_store st m) e in
    let lies : LiesInSlot r (e % r.size) 16 st = flags_lies r (e % r.size) flags in
    let more : 0 < b.slots = some_slots r.size s r.size e in
    let some : 0 < r.size = omega arith in
    let here : available_at r.size s e ≡ true = subst (λ f. is_available f (wrap_at r.size e) ≡ true) (sym (these_flags r m e flags some fits)) new in
    let last : e + b.slots < from + r.size → available_at r.size s (e + b.slots) ≡ false =
    λ less. subst (λ f. is_available f (wrap_at r.size (e + b.slots)) ≡ false) (sym (other_flags r m (e + b.slots) e st some lies (λ same. omega (arith, same, more)) (omega arith) (omega arith))) (stop less) in
    buffers_more r.size w s from (others_agree r m e from e st some lies (inl (omega arith)) (omega arith) (omega arith)) here (omega arith) (λ less. last (omega arith))

pub waiting_off : (r : DescriptorRing) (m : Bytes) (st : Store) (from : ℕ) → OffRing r st → waiting r (after_store st m) from ≡ waiting r m from
waiting_off r m st from off = ap (λ (w : SlotWords). buffers_from r.size w r.size from) (words_elsewhere r m st off)

-- ---- what is seen

-- a store in slots after those that are seen, of a slot without its flags or of a slot further on
pub seen_behind : (sizes : ℕ → ℕ) (r : DescriptorRing) (m : Bytes) (from q : ℕ) (st : Store) → ((id : ℕ) → 0 < sizes id) → seen_end sizes r m from ≤ q → q < from + r.size → LiesInSlot r (q % r.size) 14 st → seen sizes r (after_store st m) from ≡ seen sizes r m from
seen_behind sizes r m from q st sized behind near lies =
    let some : 0 < r.size = omega arith in
    let w : SlotWords = words_of r m in
    let s : SlotWords = words_of r (after_store st m) in
    let e : ℕ = seen_end sizes r m from in
    let stop : used_at r.size w e ≡ false = ends-elements_from r.size sizes w r.size from sized (omega arith) in
    let still : s.flags (e % r.size) ≡ w.flags (e % r.size) = lies_flags r m (q % r.size) st lies (e % r.size) in
    elements_kept r.size sizes w s from sized (omega arith) (others_agree r m q from e st some (lies_less r (q % r.size) st lies) (inl behind) near (omega arith))
    (subst (λ f. is_used f (wrap_at r.size e) ≡ false) (sym still) stop)

-- where the flags that stand there after it aren't used in this lap, or the slot is further on
seen_further : (sizes : ℕ → ℕ) (r : DescriptorRing) (m : Bytes) (from q flags : ℕ) (st : Store) → ((id : ℕ) → 0 < sizes id) → seen_end sizes r m from ≤ q → q < from + r.size → LiesInSlot r (q % r.size) 16 st
    → (words_of r (after_store st m)).flags (q % r.size) ≡ flags → (q ≡ seen_end sizes r m from → is_used flags (wrap_at r.size q) ≡ false) → seen sizes r (after_store st m) from ≡ seen sizes r m from
seen_further sizes r m from q flags st sized behind near lies these unused =
    let some : 0 < r.size = omega arith in
    let w : SlotWords = words_of r m in
    let s : SlotWords = words_of r (after_store st m) in
    let e : ℕ = seen_end sizes r m from in
    let stop : used_at r.size w e ≡ false = ends-elements_from r.size sizes w r.size from sized (omega arith) in
    let still : used_at r.size s e ≡ false = elim (cases_eq q e) [
      | inl same ↦ subst (λ p. used_at r.size s p ≡ false) same (subst (λ f. is_used f (wrap_at r.size q) ≡ false) (sym these) (unused same))
      | inr other ↦ subst (λ f. is_used f (wrap_at r.size e) ≡ false) (sym (other_flags r m e q st some lies (λ equal. other (sym equal)) (omega arith) (omega arith))) stop
    ] in
    elements_kept r.size sizes w s from sized (omega arith) (others_agree r m q from e st some lies (inl behind) near (omega arith)) still

pub seen_flags : (sizes : ℕ → ℕ) (r : DescriptorRing) (m : Bytes) (from q flags : ℕ) → ((id : ℕ) → 0 < sizes id) → seen_end sizes r m from ≤ q → q < from + r.size → flags < 2 ^ 16 → (q ≡ seen_end sizes r m from → is_used flags (wrap_at r.size q) ≡ false)
    → seen sizes r (after_store (flags_store r (q % r.size) flags) m) from ≡ seen sizes r m from
seen_flags sizes r m from q flags sized behind near fits unused =
    seen_further sizes r m from q flags (flags_store r (q % r.size) flags) sized behind near (flags_lies r (q % r.size) flags) (these_flags r m q flags (omega arith) fits) unused

pub seen_slot : (sizes : ℕ → ℕ) (r : DescriptorRing) (m : Bytes) (from q addr len id flags : ℕ) → ((i : ℕ) → 0 < sizes i) → seen_end sizes r m from ≤ q → q < from + r.size → flags < 2 ^ 16
    → (q ≡ seen_end sizes r m from → is_used flags (wrap_at r.size q) ≡ false) → seen sizes r (after_store (slot_store r (q % r.size) addr len id flags) m) from ≡ seen sizes r m from
seen_slot sizes r m from q addr len id flags sized behind near fits unused =
    seen_further sizes r m from q flags (slot_store r (q % r.size) addr len id flags) sized behind near (slot_lies r (q % r.size) addr len id flags) (these_slot_flags r m q addr len id flags (omega arith) fits) unused

-- the flags of the first slot after those that are seen, behind which a batch stands
pub seen_batch : (sizes : ℕ → ℕ) (r : DescriptorRing) (m : Bytes) (from flags : ℕ) (batch : List Element) → ((id : ℕ) → 0 < sizes id) → 0 < slots_of batch → IsSized sizes batch
    → Shows r.size (words_of r (after_store (flags_store r (seen_end sizes r m from % r.size) flags) m)) (seen_end sizes r m from) batch → seen_end sizes r m from + slots_of batch ≤ from + r.size
    → (seen_end sizes r m from + slots_of batch < from + r.size → used_at r.size (words_of r m) (seen_end sizes r m from + slots_of batch) ≡ false)
    → seen sizes r (after_store (flags_store r (seen_end sizes r m from % r.size) flags) m) from ≡ seen sizes r m from ++ pairs_of batch
seen_batch sizes r m from flags batch sized more fit stand few stop =
    let e : ℕ = seen_end sizes r m from in
    let st : Store = flags_store r (e % r.size) flags in
    let w : SlotWords = words_of r m in
    let s : SlotWords = words_of r (after_store st m) in
    let lies : LiesInSlot r (e % r.size) 16 st = flags_lies r (e % r.size) flags in
    let some : 0 < r.size = omega arith in
    let last : e + slots_of batch < from + r.size → used_at r.size s (e + slots_of batch) ≡ false =
    λ less. subst (λ f. is_used f (wrap_at r.size (e + slots_of batch)) ≡ false) (sym (other_flags r m (e + slots_of batch) e st some lies (λ same. omega (arith, same, more)) (omega arith) (omega arith))) (stop less) in
    elements_more r.size sizes w s from batch sized (others_agree r m e from e st some lies (inl (omega arith)) (omega arith) (omega arith)) more fit stand (omega arith) (λ less. last (omega arith))

pub seen_off : (sizes : ℕ → ℕ) (r : DescriptorRing) (m : Bytes) (st : Store) (from : ℕ) → OffRing r st → seen sizes r (after_store st m) from ≡ seen sizes r m from
seen_off sizes r m st from off = ap (λ (w : SlotWords). elements_from r.size sizes w r.size from) (words_elsewhere r m st off)
