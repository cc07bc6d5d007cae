-- The slots of a packed ring by running number: slots are counted on without end, and number p is slot p % n (VIRTIO 1.2,
-- 2.8.1 to 2.8.6).
use Rattle.std.specs.Prelude.{◌≡◌, ◌<◌, ℕ, zero, suc, ◌+◌, ◌-◌, ◌%◌, Bool, true, false, ◌==◌, if◌then◌else◌, List, [], ◌∷◌, ⊤}
use Rattle.vub_base.specs.Positions.{avail_bit, same_bool, is_available, is_used, wrap_at}
use Rattle.vub_slots.specs.Flags.{goes_on}

-- address, length, id and flags of the slot at each index
pub record SlotWords : Type 0 where
  pub addr : ℕ → ℕ
  pub len : ℕ → ℕ
  pub id : ℕ → ℕ
  pub flags : ℕ → ℕ

-- the same, but x at that index
abbrev pub with_at : (ℕ → ℕ) → ℕ → ℕ → ℕ → ℕ
with_at f i x j = if j == i then x else f j

-- ---- the slot of number p in its lap

abbrev pub available_at : ℕ → SlotWords → ℕ → Bool
available_at n w p = is_available (w.flags (p % n)) (wrap_at n p)

abbrev pub used_at : ℕ → SlotWords → ℕ → Bool
used_at n w p = is_used (w.flags (p % n)) (wrap_at n p)

abbrev pub IsAvailable : ℕ → (ℕ → ℕ) → ℕ → Type 0
IsAvailable n flags p = is_available (flags (p % n)) (wrap_at n p) ≡ true

abbrev pub IsUsed : ℕ → (ℕ → ℕ) → ℕ → Type 0
IsUsed n flags p = is_used (flags (p % n)) (wrap_at n p) ≡ true

-- AVAIL of these flags is that of this lap: the slot was made available in it, and may be used by now
abbrev pub is_of_lap : ℕ → ℕ → ℕ → Bool
is_of_lap n flags p = same_bool (avail_bit flags) (wrap_at n p)

abbrev pub IsOfLap : ℕ → (ℕ → ℕ) → ℕ → Type 0
IsOfLap n flags p = is_of_lap n (flags (p % n)) p ≡ true

abbrev pub IsNotOfLap : ℕ → (ℕ → ℕ) → ℕ → Type 0
IsNotOfLap n flags p = is_of_lap n (flags (p % n)) p ≡ false

-- ---- what waits

-- a buffer, by its id and in how many slots it stands
pub record Buffer : Type 0 where
  pub id : ℕ
  pub slots : ℕ

abbrev pub buffer_slots : List Buffer → ℕ
buffer_slots [] = 0
buffer_slots (b ∷ bs) = b.slots + buffer_slots bs

-- The buffer that begins at a number: its slots are linked by NEXT, at most so many after the first, and its id stands in
-- the last one.
abbrev pub buffer_from : ℕ → SlotWords → ℕ → ℕ → Buffer
buffer_from n w zero p = record { id = w.id (p % n); slots = 1 }
buffer_from n w (suc more) p =
    if goes_on (w.flags (p % n)) then record { id = (buffer_from n w more (p + 1)).id; slots = (buffer_from n w more (p + 1)).slots + 1 }
    else record { id = w.id (p % n); slots = 1 }

-- the buffers from a number on whose first slots are available, at most so many
abbrev pub buffers_from : ℕ → SlotWords → ℕ → ℕ → List Buffer
buffers_from n w zero p = []
buffers_from n w (suc most) p =
    if available_at n w p then buffer_from n w n p ∷ buffers_from n w most (p + (buffer_from n w n p).slots) else []

-- ---- what is seen

-- The used elements, id and length, from a number on, at most so many: the next one stands as many slots on as the buffer
-- of that id was offered in (VIRTIO 1.2, 2.8.6).
abbrev pub elements_from : ℕ → (ℕ → ℕ) → SlotWords → ℕ → ℕ → List (ℕ × ℕ)
elements_from n sizes w zero p = []
elements_from n sizes w (suc most) p =
    if used_at n w p then (w.id (p % n), w.len (p % n)) ∷ elements_from n sizes w most (p + sizes (w.id (p % n))) else []

-- the slots of the buffers that these elements name
abbrev pub element_slots : (ℕ → ℕ) → List (ℕ × ℕ) → ℕ
element_slots sizes [] = 0
element_slots sizes (e ∷ es) = sizes e.0 + element_slots sizes es

-- a used element, and in how many slots its buffer was offered
pub record Element : Type 0 where
  pub id : ℕ
  pub len : ℕ
  pub slots : ℕ

abbrev pub slots_of : List Element → ℕ
slots_of [] = 0
slots_of (e ∷ es) = e.slots + slots_of es

abbrev pub pairs_of : List Element → List (ℕ × ℕ)
pairs_of [] = []
pairs_of (e ∷ es) = (e.id, e.len) ∷ pairs_of es

-- these are the slots in which the buffers were offered
abbrev pub IsSized : (ℕ → ℕ) → List Element → Type 0
IsSized sizes [] = ⊤
IsSized sizes (e ∷ es) = (sizes e.id ≡ e.slots) × IsSized sizes es

-- ---- what stands

-- used elements stand from a number on, one after another
abbrev pub Shows : ℕ → SlotWords → ℕ → List Element → Type 0
Shows n w p [] = ⊤
Shows n w p (e ∷ es) = IsUsed n w.flags p × (w.id (p % n) ≡ e.id) × (w.len (p % n) ≡ e.len) × (0 < e.slots) × Shows n w (p + e.slots) es

-- the slot of a number and so many after it are one buffer
abbrev pub OneBuffer : ℕ → SlotWords → ℕ → ℕ → ℕ → Type 0
OneBuffer n w id zero p = (goes_on (w.flags (p % n)) ≡ false) × (w.id (p % n) ≡ id)
OneBuffer n w id (suc more) p = (goes_on (w.flags (p % n)) ≡ true) × OneBuffer n w id more (p + 1)

-- buffers stand from a number on, one after another
abbrev pub Waits : ℕ → SlotWords → ℕ → List Buffer → Type 0
Waits n w p [] = ⊤
Waits n w p (b ∷ bs) = (0 < b.slots) × OneBuffer n w b.id (b.slots - 1) p × Waits n w (p + b.slots) bs
