-- The guest as the driver of a ring, and what its calls do with both.
use Rattle.std.specs.Prelude.{◌≡◌, ◌<◌, ℕ, ◌+◌, ◌-◌, ◌%◌, true, false, nat_le, is_some, List, [], ◌∷◌, length, take, get_or, All, Option, Some, None, option_map, Result, Ok, Err, ⊤}
use Rattle.vub_base.specs.declared.request.Ask.{Ask}
use Rattle.vub_shared.specs.Bytes.{Bytes}
use Rattle.vub_shared.specs.Stores.{Store, Stores, Trails}
use Rattle.vub_ring.specs.Ring.{Ring}
use Rattle.vub_driver.specs.Requests.{descriptors_needed, has_data}
use Rattle.vub_driver.specs.Drivers.{Driver, Waiting, free_from, after_stores, after_collect}
use Rattle.vub_driver.specs.GuestChain.{descriptors}
use Rattle.vub_driver.specs.Shown.{ShowsNext}
use Rattle.vub_guest.specs.GuestStores.{links_of, store_at, stores_from}
use Rattle.vub_guest.specs.declared.guest.Chain.{Chain}
use Rattle.vub_guest.specs.declared.guest.WaitingRequest.{WaitingRequest}
use Rattle.vub_guest.specs.declared.guest.Stage.{Stage}
use Rattle.vub_guest.specs.declared.guest.Guest.{Guest}
use Rattle.vub_guest.specs.declared.guest.GuestStep.{GuestStep}
use Rattle.vub_guest.specs.declared.guest.GuestStep.TheVariants.{Idle, Stored, Offered, Failed}
use Rattle.vub_guest.specs.declared.guest.Collected.{Collected}
use Rattle.vub_guest.specs.declared.guest.Collected.TheVariants as collected

-- ---- the guest as ring and driver

-- the ring on which it plays
abbrev pub ring_in : Guest → Ring
ring_in g = record { desc_space = g.memory.number; desc = g.area; avail_space = g.memory.number; avail = g.area + 4096; used_space = g.memory.number; used = g.area + 8192; size = g.size }

-- the head of the request that a descriptor belongs to
abbrev pub owner_at : List (Option ℕ) → ℕ → Option ℕ
owner_at owners d = get_or owners d None

-- a request that waits, with the stores from its stage on
abbrev pub waiting_in : Ring → ℕ → WaitingRequest → Waiting
waiting_in r index p = record { ask = p.ask; head = p.chain.head; left = stores_from r index p.ask (links_of p.chain) p.stage }

-- what it keeps, as a driver
abbrev pub driver_in : Guest → Driver
driver_in g = record { avail_idx = g.avail_idx; owner = owner_at g.owners.items; waiting = option_map (waiting_in (ring_in g) g.avail_idx) g.waiting }

-- the store of a stage of a request that waits in it
abbrev pub waiting_store : Guest → WaitingRequest → Stage → Store
waiting_store g p stage = store_at (ring_in g) g.avail_idx p.ask (links_of p.chain) stage

-- the index of the used element that it takes next
abbrev pub last_used_in : Guest → ℕ
last_used_in g = g.last_used

-- ---- a step

-- the first of the stores that are left
abbrev pub first_store : List Store → Option Store
first_store [] = None
first_store (st ∷ left) = Some st

-- the store that a step makes; none where no request waits
abbrev pub next_store : Option Waiting → Option Store
next_store None = None
next_store (Some w) = first_store w.left

-- The driver v before a step, and w after it: a step is idle where no request waits, and the last store of a request
-- offers it, under its head.
abbrev pub Steps : GuestStep → Driver → Driver → Type 0
Steps Idle v w = (v.waiting ≡ None) × (w ≡ v)
Steps Stored v w = (x : Waiting) × (v.waiting ≡ Some x) × (1 < length x.left) × (w ≡ after_stores 1 x v)
Steps (Offered head) v w = (x : Waiting) × (v.waiting ≡ Some x) × (head ≡ x.head) × (length x.left ≡ 1) × (w ≡ after_stores 1 x v)
Steps Failed v w = (x : Waiting) × (v.waiting ≡ Some x) × (w ≡ v)

-- a step is an error where it failed
abbrev pub outcome : GuestStep → Result (Unit {0}) (Unit {0})
outcome Failed = Err tt
outcome step = Ok tt

-- the told bytes before and after a step that has this store to make
abbrev pub StoresNext : Option Bytes → Option Bytes → GuestStep → Option Store → Type 0
StoresNext before after step None = after ≡ before
StoresNext before after step (Some st) = Stores before after (outcome step) st

-- the told list of stores before and after it
abbrev pub TrailsNext : Option (List Store) → Option (List Store) → GuestStep → Option Store → Type 0
TrailsNext before after step None = after ≡ before
TrailsNext before after step (Some st) = Trails before after (outcome step) st

-- ---- a collection

-- what a collection at that position finds there
abbrev pub Shows : Collected → Ring → Bytes → ℕ → Type 0
Shows collected.Nothing r m p = ShowsNext None r m p
Shows (collected.Head head) r m p = ShowsNext (Some head) r m p
Shows collected.Failed r m p = ⊤

-- driver and position before a collection and after it
abbrev pub Collects : Collected → Driver → Driver → ℕ → ℕ → Type 0
Collects (collected.Head head) v w p q = (w ≡ after_collect head v) × (q ≡ (p + 1) % 65536)
Collects c v w p q = (w ≡ v) × (q ≡ p)

-- a collection is an error where it failed
abbrev pub fetched : Collected → Result (Unit {0}) (Unit {0})
fetched collected.Failed = Err tt
fetched c = Ok tt

-- ---- the choice of descriptors

-- those that are free from one on
abbrev pub free_after : List (Option ℕ) → ℕ → List ℕ
free_after owners d = free_from (owner_at owners) (length owners - d) d

-- the first of them, if there is one
abbrev pub FindsFree : List (Option ℕ) → ℕ → Option ℕ → Type 0
FindsFree owners d None = free_after owners d ≡ []
FindsFree owners d (Some e) = free_after owners d ≡ e ∷ free_after owners (e + 1)

-- the lowest free descriptors for a request, if they suffice
abbrev pub Chooses : List (Option ℕ) → Ask → Option Chain → Type 0
Chooses owners ask None = nat_le (descriptors_needed ask) (length (free_after owners 0)) ≡ false
Chooses owners ask (Some c) =
    (nat_le (descriptors_needed ask) (length (free_after owners 0)) ≡ true) × (take (descriptors_needed ask) (free_after owners 0) ≡ descriptors (links_of c))
    × (is_some c.body ≡ has_data ask) × All (λ d. d < length owners) (descriptors (links_of c))
