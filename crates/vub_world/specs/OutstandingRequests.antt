-- What the table of a queue's outstanding requests tells.
use Rattle.std.specs.Prelude.{◌≡◌, ℕ, ◌+◌, ◌==◌, if◌then◌else◌, length, get_or}
use Rattle.vub_base.specs.declared.request.Ask.{Ask}
use Rattle.vub_base.specs.declared.request.Ask.TheVariants as asks
use Rattle.vub_world.specs.declared.outstanding.OutstandingRequests.{OutstandingRequests}
use Rattle.vub_world.specs.declared.outstanding.OutstandingRequest.{OutstandingRequest}

-- how many requests were offered, and how many collected
abbrev pub offered_in : OutstandingRequests → ℕ
offered_in l = l.offered

abbrev pub collected_in : OutstandingRequests → ℕ
collected_in l = l.collected

-- for how many heads it has a slot
abbrev pub size_in : OutstandingRequests → ℕ
size_in l = length l.by_head.items

abbrev pub no_request : OutstandingRequest
no_request = record { number = 0; reads = 0 }

-- what it has under a head
abbrev pub slot_in : OutstandingRequests → ℕ → OutstandingRequest
slot_in l head = get_or l.by_head.items head no_request

-- how many sectors a request reads
abbrev pub reads_in : Ask → ℕ
reads_in (asks.Read s n) = n
reads_in a = 0

abbrev pub new_slot : OutstandingRequests → Ask → OutstandingRequest
new_slot l a = record { number = offered_in l; reads = reads_in a }

-- a request is noted under a head
pub record Offers (before now : OutstandingRequests) (head : ℕ) (a : Ask) : Type 0 where
  pub offered : offered_in now ≡ offered_in before + 1
  pub collected : collected_in now ≡ collected_in before
  pub size : size_in now ≡ size_in before
  pub slots : (d : ℕ) → slot_in now d ≡ (if d == head then new_slot before a else slot_in before d)
