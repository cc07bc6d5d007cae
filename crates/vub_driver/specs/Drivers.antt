-- What the driver of a queue keeps, and what it does with it.
use Rattle.std.specs.Prelude.{ℕ, zero, suc, ◌+◌, ◌%◌, Bool, false, ◌==◌, ◌&&◌, nat_le, is_none, if◌then◌else◌, List, [], ◌∷◌, length, take, drop, Option, Some, None}
use Rattle.vub_base.specs.declared.request.Ask.{Ask}
use Rattle.vub_base.specs.declared.request.Shape.{Shape}
use Rattle.vub_base.specs.declared.request.Shape.TheVariants.{Direct, Indirect}
use Rattle.vub_shared.specs.Stores.{Store}
use Rattle.vub_ring.specs.Ring.{Ring}
use Rattle.vub_driver.specs.Requests.{descriptors_needed}
use Rattle.vub_driver.specs.Stores.{request_stores}

-- a request that isn't offered yet, with its head and the stores that are left to make
pub record Waiting : Type 0 where
  pub ask : Ask
  pub head : ℕ
  pub left : List Store

pub record Driver : Type 0 where
  -- avail.idx as the driver stored it last
  pub avail_idx : ℕ
  -- the head of the request that each descriptor belongs to
  pub owner : ℕ → Option ℕ
  pub waiting : Option Waiting

-- a driver before its first request, whose rings begin at this index
abbrev pub new_driver : ℕ → Driver
new_driver base = record { avail_idx = base; owner = λ d. None; waiting = None }

-- those that belong to no request among so many descriptors from one on, rising
abbrev pub free_from : (ℕ → Option ℕ) → ℕ → ℕ → List ℕ
free_from owner zero d = []
free_from owner (suc count) d = if is_none (owner d) then d ∷ free_from owner count (d + 1) else free_from owner count (d + 1)

abbrev pub free_descriptors : ℕ → Driver → List ℕ
free_descriptors size v = free_from v.owner size 0

-- as many descriptors are free in the ring as the request has
abbrev pub is_enough : ℕ → Shape → Ask → Driver → Bool
is_enough size Direct ask v = nat_le (descriptors_needed ask) (length (free_descriptors size v))
is_enough size Indirect ask v = false

-- no request waits, and the descriptors suffice
abbrev pub can_take : ℕ → Shape → Ask → Driver → Bool
can_take size shape ask v = is_none v.waiting && is_enough size shape ask v

-- the lowest free descriptors, in rising order
abbrev pub chosen : ℕ → Ask → Driver → List ℕ
chosen size ask v = take (descriptors_needed ask) (free_descriptors size v)

abbrev pub first_or_zero : List ℕ → ℕ
first_or_zero [] = 0
first_or_zero (x ∷ xs) = x

-- the same owners, but these descriptors belong to that head
abbrev pub owned_by : ℕ → List ℕ → (ℕ → Option ℕ) → ℕ → Option ℕ
owned_by head [] owner d = owner d
owned_by head (x ∷ xs) owner d = if x == d then Some head else owned_by head xs owner d

abbrev pub waits_on : Ring → Ask → List ℕ → ℕ → Waiting
waits_on r ask ds index = record { ask = ask; head = first_or_zero ds; left = request_stores r index ask ds }

-- the driver with that request waiting
abbrev pub after_ask : Ring → Ask → Driver → Driver
after_ask r ask v = record v { owner = owned_by (first_or_zero (chosen r.size ask v)) (chosen r.size ask v) v.owner; waiting = Some (waits_on r ask (chosen r.size ask v) v.avail_idx) }

-- the request is offered once none of its stores is left
abbrev pub with_left : Waiting → List Store → Driver → Driver
with_left w [] v = record v { avail_idx = (v.avail_idx + 1) % 65536; waiting = None }
with_left w (st ∷ left) v = record v { waiting = Some (record w { left = st ∷ left }) }

-- the driver after so many of these stores
abbrev pub after_stores : ℕ → Waiting → Driver → Driver
after_stores count w v = with_left w (drop count w.left) v

abbrev pub is_that : ℕ → Option ℕ → Bool
is_that head None = false
is_that head (Some h) = h == head

-- the same owners, but nothing belongs to that head
abbrev pub without_owner : ℕ → (ℕ → Option ℕ) → ℕ → Option ℕ
without_owner head owner d = if is_that head (owner d) then None else owner d

-- whether that head is the one of a request that isn't offered yet
abbrev pub is_head : ℕ → Option Waiting → Bool
is_head head None = false
is_head head (Some w) = w.head == head

-- The driver after it took a used element of this id, whose low 16 bits name a buffer: the descriptors of that buffer
-- are free, if it was offered.
abbrev pub after_collect : ℕ → Driver → Driver
after_collect id v = if is_head (id % 65536) v.waiting then v else record v { owner = without_owner (id % 65536) v.owner }
