use Rattle.std.proofs.Common.{◌≡◌, ◌<◌, ◌≤◌, ℕ, zero, suc, ◌+◌, Bool, true, false, List, [], ◌∷◌, length, get_or, refl, ap, sym, ◌∙◌, subst, arith, lit≤, inl, inr}
use Rattle.std.proofs.lemmas.Bool.Decides.{nat_tests}
use Rattle.std.specs.Prelude.{◌==◌, if◌then◌else◌, All, Option, Some, None, option_map, IfSome}
use Rattle.std.specs.Option.{ForSome}
use Rattle.vub_base.specs.declared.request.Ask.{Ask}
use Rattle.vub_base.specs.declared.request.Ask.TheVariants.{Read, Write, Flush, Id, Discard, Zero}
use Rattle.vub_shared.specs.Stores.{Store}
use Rattle.vub_ring.specs.Ring.{Ring}
use Rattle.vub_driver.specs.Drivers.{Driver, Waiting, owned_by, without_owner, is_that, is_head}
use Rattle.vub_driver.specs.OwnStores.{IsOwn, IsOwnStore}
use Rattle.vub_driver.specs.Requests.{Piece, written_bytes, data_place}
use Rattle.vub_guest.specs.declared.guest.WaitingRequest.{WaitingRequest}
use Rattle.vub_guest.specs.declared.guest.Stage.{Stage}
use Rattle.vub_guest.specs.declared.guest.Stage.TheVariants.{Header, Data, Status, HeaderDescriptor, DataDescriptor, StatusDescriptor, AvailEntry, AvailIdx}
use Rattle.vub_guest.specs.GuestRequest.{table_entry}
use Rattle.vub_driver.specs.GuestChain.{Links, second, after_head, Owns, IsOwned}
use Rattle.vub_guest.specs.GuestStores.{links_of, buffer_of, store_at}
use Rattle.vub_guest.specs.GuestState.{owner_at, waiting_in, next_store}
use Rattle.vub_guest.proofs.GuestLemmas.{next_store-is}

-- ---- what belongs to a head

-- the descriptors that were given to a head belong to it
owned_by-member : (head : ℕ) (ds : List ℕ) (owner : ℕ → Option ℕ) (k e : ℕ) → k < length ds → owned_by head ds owner (get_or ds k e) ≡ Some head
owned_by-member head [] owner k e within = absurd (omega arith)
owned_by-member head (x ∷ xs) owner zero e within = grind (arith, nat_tests)
owned_by-member head (x ∷ xs) owner (suc k) e within =
    let rest : owned_by head xs owner (get_or xs k e) ≡ Some head = owned_by-member head xs owner k e (omega arith) in
    let go : (t : Bool) → (if t then Some head else owned_by head xs owner (get_or xs k e)) ≡ Some head = λ t. elim t as (λ (t : Bool). (if t then Some head else owned_by head xs owner (get_or xs k e)) ≡ Some head) [ true ↦ refl | false ↦ rest ] in
    go (x == get_or xs k e)

pub owned_after : (old new : List (Option ℕ)) (head : ℕ) (body : Option ℕ) (status : ℕ) → All (λ d. d < length old) (head ∷ after_head body status) → length new ≡ length old
    → ((d : ℕ) → owner_at new d ≡ owned_by head (head ∷ after_head body status) (owner_at old) d) → IsOwned new (record { head = head; body = body; status = status })
owned_after old new head None status all count owners =
    let ds : List ℕ = head ∷ status ∷ [] in
    let owns : (k : ℕ) → k < length ds → Owns new head (get_or ds k 0) = λ k l. (let low : get_or ds k 0 < length old = all k 0 l in omega (arith, low, count), owners (get_or ds k 0) ∙ owned_by-member head ds (owner_at old) k 0 l) in
    (owns 0 (lit≤ tt), (owns 1 (lit≤ tt), owns 1 (lit≤ tt)))
owned_after old new head (Some d) status all count owners =
    let ds : List ℕ = head ∷ d ∷ status ∷ [] in
    let owns : (k : ℕ) → k < length ds → Owns new head (get_or ds k 0) = λ k l. (let low : get_or ds k 0 < length old = all k 0 l in omega (arith, low, count), owners (get_or ds k 0) ∙ owned_by-member head ds (owner_at old) k 0 l) in
    (owns 0 (lit≤ tt), (owns 1 (lit≤ tt), owns 2 (lit≤ tt)))

-- what belongs to another head stays
owns_still : (old new : List (Option ℕ)) (head other d : ℕ) → other == head ≡ false → length new ≡ length old → ((d : ℕ) → owner_at new d ≡ without_owner head (owner_at old) d) → Owns old other d → Owns new other d
owns_still old new head other d apart count owners owns = (
  omega (arith, owns.0, count),
  owners d ∙ ap (λ (o : Option ℕ). if is_that head o then None else o) owns.1 ∙ ap (λ (t : Bool). if t then None else Some other) apart,
)

-- each request that waits owns its descriptors
abbrev pub Waits : List (Option ℕ) → Option WaitingRequest → Type 0
Waits owners o = ForSome o (λ p. IsOwned owners (links_of p.chain))

pub waits_still : (r : Ring) (index : ℕ) (old new : List (Option ℕ)) (head : ℕ) (o : Option WaitingRequest) → is_head head (option_map (waiting_in r index) o) ≡ false → length new ≡ length old
    → ((d : ℕ) → owner_at new d ≡ without_owner head (owner_at old) d) → Waits old o → Waits new o
waits_still r index old new head o apart count owners waits = λ p is.
    let owned : IsOwned old (links_of p.chain) = waits p is in
    let other : p.chain.head == head ≡ false = ap (λ q. is_head head (option_map (waiting_in r index) q)) (sym is) ∙ apart in
    let still : (d : ℕ) → Owns old p.chain.head d → Owns new p.chain.head d = λ d. owns_still old new head p.chain.head d other count owners in
    (still p.chain.head owned.0, (still (second (links_of p.chain)) owned.1.0, still p.chain.status owned.1.1))

pub waits_of : (owners : List (Option ℕ)) (p : WaitingRequest) → IsOwned owners (links_of p.chain) → Waits owners (Some p)
waits_of owners p owned = λ x is. subst (λ (o : Option WaitingRequest). IfSome o (λ q. IsOwned owners (links_of q.chain))) is owned

-- ---- the driver's own stores

pub length-table_entry : (p : Piece) (next : Option ℕ) → length (table_entry p next) ≡ 16
unfolding table_entry
length-table_entry p next = refl

pub data_place-near : (buffer : ℕ) (ask : Ask) → (buffer ≤ data_place buffer ask) × (data_place buffer ask ≤ buffer + 4096)
data_place-near buffer (Read s n) = (omega arith, omega arith)
data_place-near buffer (Write s fills) = (omega arith, omega arith)
data_place-near buffer Flush = (omega arith, omega arith)
data_place-near buffer Id = (omega arith, omega arith)
data_place-near buffer (Discard parts) = (omega arith, omega arith)
data_place-near buffer (Zero parts) = (omega arith, omega arith)

-- each store of a request keeps to the driver's rule while its descriptors are the driver's own
own_store : (r : Ring) (v : Driver) (ask : Ask) (l : Links) (stage : Stage) → (stage ≡ Data → length (written_bytes ask) ≤ 4096) → IsOwn r v l.head → IsOwn r v (second l) → IsOwn r v l.status → IsOwnStore r v (store_at r v.avail_idx ask l stage)
own_store r v ask l Header small head next status = inr (inl (refl, l.head, head, record { from = omega arith; upto = omega arith }))
own_store r v ask l Data small head next status =
    let few : length (written_bytes ask) ≤ 4096 = small refl in
    let near = data_place-near (buffer_of r l) ask in
    inr (inl (refl, l.head, head, record { from = near.0; upto = omega (arith, near.1, few) }))
own_store r v ask l Status small head next status = inr (inl (refl, l.head, head, record { from = omega arith; upto = omega arith }))
own_store r v ask l HeaderDescriptor small head next status = inl (refl, l.head, head, record { from = omega arith; upto = omega (arith, length-table_entry) })
own_store r v ask l DataDescriptor small head next status = inl (refl, second l, next, record { from = omega arith; upto = omega (arith, length-table_entry) })
own_store r v ask l StatusDescriptor small head next status = inl (refl, l.status, status, record { from = omega arith; upto = omega (arith, length-table_entry) })
own_store r v ask l AvailEntry small head next status = inr (inr (inl (refl, refl, refl)))
own_store r v ask l AvailIdx small head next status = inr (inr (inr (refl, refl, refl)))

-- what belongs to the head that waits is the driver's own
own : (r : Ring) (v : Driver) (w : Waiting) (owners : List (Option ℕ)) (d : ℕ) → v.owner ≡ owner_at owners → v.waiting ≡ Some w → length owners ≡ r.size → Owns owners w.head d → IsOwn r v d
own r v w owners d owner waits size owns =
    let same : w.head == w.head ≡ true = grind (arith, nat_tests) in
    let has : v.owner d ≡ Some w.head = ap (λ f. f d) owner ∙ owns.1 in
    record {
      below = omega (arith, owns.0, size);
      free = grind (arith, nat_tests);
    }

pub own_next : (r : Ring) (index : ℕ) (p : WaitingRequest) (o : Option WaitingRequest) (owners : List (Option ℕ)) → o ≡ Some p → length owners ≡ r.size → Waits owners o → (p.stage ≡ Data → length (written_bytes p.ask) ≤ 4096)
    → let v : Driver = record { avail_idx = index; owner = owner_at owners; waiting = option_map (waiting_in r index) o } in
    IfSome (next_store v.waiting) (IsOwnStore r v)
own_next r index p o owners is size waits small =
    let v : Driver = record { avail_idx = index; owner = owner_at owners; waiting = option_map (waiting_in r index) o } in
    let w : Waiting = waiting_in r index p in
    let l : Links = links_of p.chain in
    let awaits : v.waiting ≡ Some w = ap (option_map (waiting_in r index)) is in
    let owned : IsOwned owners l = waits p is in
    let mine : (d : ℕ) → Owns owners w.head d → IsOwn r v d = λ d. own r v w owners d refl awaits size in
    let next : next_store v.waiting ≡ Some (store_at r index p.ask l p.stage) = ap next_store awaits ∙ next_store-is r index p in
    subst (λ (x : Option Store). IfSome x (IsOwnStore r v)) (sym next) (own_store r v p.ask l p.stage small (mine l.head owned.0) (mine (second l) owned.1.0) (mine l.status owned.1.1))
