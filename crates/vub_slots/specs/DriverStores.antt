-- What a lawful driver stores in its slots (VIRTIO 1.2, 2.8.21).
use Rattle.std.specs.Prelude.{◌≡◌, ◌≤◌, ◌<◌, ℕ, ◌+◌, ◌%◌, true, [], ◌∷◌, ◌++◌, drop}
use Rattle.vub_base.specs.Positions.{is_available, wrap_at}
use Rattle.vub_slots.specs.Slots.{SlotWords, with_at, Element, Buffer, OneBuffer}
use Rattle.vub_slots.specs.Stands.{DriverSlots}

pub data DriverStore : Type 0 where
  -- a slot without its flags
  Details : (number addr len id : ℕ) → DriverStore
  -- the next slot of the buffer that will be offered, flags and all
  Ready : (addr len id flags : ℕ) → DriverStore
  -- the flags of its first slot, which offer it
  Offer : (flags : ℕ) (buffer : Buffer) → DriverStore
  -- no store: the driver takes what is shown first
  Collect : (element : Element) → DriverStore

-- the words after it, where a is the number of the first slot that isn't offered
abbrev pub words_after : ℕ → DriverSlots → ℕ → DriverStore → SlotWords → SlotWords
words_after n driver a (Details q addr len id) w = record { addr = with_at w.addr (q % n) addr; len = with_at w.len (q % n) len; id = with_at w.id (q % n) id; flags = w.flags }
words_after n driver a (Ready addr len id flags) w = record {
  addr = with_at w.addr ((a + driver.ready + 1) % n) addr;
  len = with_at w.len ((a + driver.ready + 1) % n) len;
  id = with_at w.id ((a + driver.ready + 1) % n) id;
  flags = with_at w.flags ((a + driver.ready + 1) % n) flags;
}
words_after n driver a (Offer flags buffer) w = record w { flags = with_at w.flags (a % n) flags }
words_after n driver a (Collect element) w = w

abbrev pub driver_after : DriverSlots → DriverStore → DriverSlots
driver_after driver (Details q addr len id) = driver
driver_after driver (Ready addr len id flags) = record driver { ready = driver.ready + 1 }
driver_after driver (Offer flags buffer) = record driver { waiting = driver.waiting ++ buffer ∷ []; ready = 0 }
driver_after driver (Collect element) = record driver { collected = driver.collected + element.slots; shown = drop 1 driver.shown }

-- the number of the first slot that isn't offered after it
abbrev pub offered_after : DriverSlots → ℕ → DriverStore → ℕ
offered_after driver a (Details q addr len id) = a
offered_after driver a (Ready addr len id flags) = a
offered_after driver a (Offer flags buffer) = a + driver.ready + 1
offered_after driver a (Collect element) = a

-- only slots after those outstanding, and at most n outstanding in all
abbrev pub IsLawful : ℕ → DriverSlots → ℕ → SlotWords → DriverStore → Type 0
IsLawful n driver a w (Details q addr len id) = (a ≤ q) × (q < driver.collected + n) × (driver.known ≡ true)
IsLawful n driver a w (Ready addr len id flags) =
    (a + driver.ready + 1 < driver.collected + n) × (is_available flags (wrap_at n (a + driver.ready + 1)) ≡ true) × (driver.known ≡ true)
IsLawful n driver a w (Offer flags buffer) =
    (a + driver.ready < driver.collected + n) × (is_available flags (wrap_at n a) ≡ true) × (buffer.slots ≡ driver.ready + 1)
    × OneBuffer n (words_after n driver a (Offer flags buffer) w) buffer.id driver.ready a × (driver.known ≡ true)
IsLawful n driver a w (Collect element) = (driver.shown ≡ element ∷ drop 1 driver.shown) × (driver.known ≡ true)
