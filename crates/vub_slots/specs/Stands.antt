-- What driver and device have done with the slots, and what holds of the slots between any two stores.
use Rattle.std.specs.Prelude.{◌≡◌, ◌≤◌, ◌<◌, ◌⊎◌, ℕ, ◌+◌, ◌-◌, ◌%◌, Bool, true, false, List}
use Rattle.vub_base.specs.declared.position.Position.{Position}
use Rattle.vub_base.specs.Positions.{is_available, wrap_at, position_of}
use Rattle.vub_slots.specs.Slots.{SlotWords, IsAvailable, IsOfLap, IsNotOfLap, Element, slots_of, Shows, Buffer, buffer_slots, Waits}

-- What the driver has done with its slots: the number of the first slot that isn't collected, the elements that are shown
-- from there on, the buffers that wait after the slots of open requests, and how many slots of the next offer stand after
-- its first one.
pub record DriverSlots : Type 0 where
  pub collected : ℕ
  pub shown : List Element
  pub waiting : List Buffer
  pub ready : ℕ
  -- whether its other slots are known, so that it may go on
  pub known : Bool

-- a batch of so many slots is under way and hidden behind its first one, or is shown and not yet noted; at rest, Hidden 0
pub data Stand : Type 0 where
  Hidden : (slots : ℕ) → Stand
  Shown : (slots : ℕ) → Stand

-- Whose slots these are: from the driver's position d to a they are outstanding, at most n in all, and the next one isn't
-- available. Where the driver is known, each outstanding one was made available in this lap, the next ones are made ready
-- for the offer under way, and the rest, up to a lap from d, are as the lap before left them.
pub record IsWindow (n d a : ℕ) (known : Bool) (ready : ℕ) (flags : ℕ → ℕ) : Type 0 where
  pub few : a ≤ d + n
  pub stop : a < d + n → is_available (flags (a % n)) (wrap_at n a) ≡ false
  pub room : known ≡ true → 0 < ready → a + ready < d + n
  pub outstanding : known ≡ true → (p : ℕ) → d ≤ p → p < a → IsOfLap n flags p
  pub readied : known ≡ true → (p : ℕ) → a < p → p ≤ a + ready → IsAvailable n flags p
  pub free : known ≡ true → (p : ℕ) → a ≤ p → p < d + n → (p ≡ a) ⊎ (a + ready < p) → IsNotOfLap n flags p

-- no batch is shown: the t slots from u on are those of the batch, and the first of them is available
pub record IsNotShown (n u t v a : ℕ) (used old_used : Position) (flags : ℕ → ℕ) : Type 0 where
  pub old : old_used ≡ position_of n u
  pub new : used ≡ position_of n (u + t)
  pub within : u + t ≤ v
  pub rest : (p : ℕ) → u ≤ p → p < a → (p ≡ u) ⊎ (u + t ≤ p) → IsAvailable n flags p

-- a batch of t slots before u is shown and not yet noted
pub record IsShownTo (n u t a : ℕ) (used old_used : Position) (flags : ℕ → ℕ) : Type 0 where
  pub some : 0 < t
  pub few : t ≤ n
  pub back : t ≤ u
  pub old : old_used ≡ position_of n (u - t)
  pub new : used ≡ position_of n u
  pub taken : is_available (flags ((u - t) % n)) (wrap_at n (u - t)) ≡ false
  pub rest : (p : ℕ) → u ≤ p → p < a → IsAvailable n flags p

abbrev pub Stands : ℕ → ℕ → ℕ → ℕ → (ℕ → ℕ) → Position → Position → Stand → Type 0
Stands n u v a flags used old_used (Hidden t) = IsNotShown n u t v a used old_used flags
Stands n u v a flags used old_used (Shown t) = IsShownTo n u t a used old_used flags

-- The slots of a ring of n, by the numbers d of the first that isn't collected, u of the first that isn't shown, v of the
-- first that waits and a of the first that isn't offered.
pub record IsSlots (n : ℕ) (driver : DriverSlots) (d u v a : ℕ) (w : SlotWords) (used old_used : Position) (stand : Stand) : Type 0 where
  pub some : 0 < n
  pub window : IsWindow n d a driver.known driver.ready w.flags
  pub stands : Stands n u v a w.flags used old_used stand
  pub shows : Shows n w d driver.shown
  pub waits : Waits n w v driver.waiting
  pub used_is : u ≡ d + slots_of driver.shown
  pub offered_is : a ≡ v + buffer_slots driver.waiting
  pub in_order : u ≤ v
