use Rattle.std.proofs.Common.{◌≡◌, ◌<◌, ◌≤◌, ℕ, suc, ◌+◌, ◌-◌, ◌%◌, Bool, true, false, List, [], ◌∷◌, ◌++◌, length, get_or, refl, ap, sym, ◌∙◌, subst, arith, append_assoc}
use Rattle.std.proofs.lemmas.Bool.Decides.{nat_tests}
use Rattle.std.specs.Prelude.{nat_lt, is_none, is_some, if◌then◌else◌, take, drop, option_map, Result, Option, Some, None}
use mathlib.Core.Path.{fun_ext}
use Rattle.vub_driver.specs.Drivers.{Driver, Waiting, free_from, with_left, after_stores, after_ask, chosen, owned_by, first_or_zero, waits_on}
use Rattle.vub_base.specs.declared.request.Ask.{Ask}
use Rattle.vub_base.specs.declared.request.Ask.TheVariants.{Read, Write, Flush, Id, Discard, Zero}
use Rattle.vub_shared.specs.Bytes.{Bytes}
use Rattle.vub_shared.specs.Stores.{Store, Stores, Trails, one_store}
use Rattle.vub_ring.specs.Ring.{Ring}
use Rattle.vub_driver.specs.Requests.{written_bytes, data_place, pieces, has_data, descriptors_needed}
use Rattle.vub_driver.specs.Layout.{buffer_place}
use Rattle.vub_driver.specs.Stores.{store_of_some, chain_stores, offer_stores, request_stores}
use Rattle.vub_guest.specs.GuestRequest.{table_entry}
use Rattle.vub_guest.specs.declared.guest.Chain.{Chain}
use Rattle.vub_guest.specs.declared.guest.Guest.{Guest}
use Rattle.vub_guest.specs.declared.guest.WaitingRequest.{WaitingRequest}
use Rattle.vub_guest.specs.declared.guest.Stage.{Stage}
use Rattle.vub_guest.specs.declared.guest.Stage.TheVariants.{Header, Data, Status, HeaderDescriptor, DataDescriptor, StatusDescriptor, AvailEntry, AvailIdx}
use Rattle.vub_guest.specs.declared.guest.GuestStep.{GuestStep}
use Rattle.vub_guest.specs.declared.guest.GuestStep.TheVariants.{Stored, Offered}
use Rattle.vub_driver.specs.GuestChain.{Links, descriptors, after_head}
use Rattle.vub_guest.specs.GuestStores.{links_of, store_at, stage_after, stores_from, from_header_descriptor, from_data, from_status, from_data_descriptor, from_status_descriptor}
use Rattle.vub_guest.specs.GuestState.{ring_in, driver_in, owner_at, free_after, waiting_in, Steps, next_store, outcome, StoresNext, TrailsNext, Chooses}

-- ---- free descriptors

-- one that isn't free is left out
pub free_after_taken : (owners : List (Option ℕ)) (d : ℕ) → d < length owners → is_none (get_or owners d None) ≡ false → free_after owners d ≡ free_after owners (d + 1)
free_after_taken owners d within taken =
    let left : length owners - d ≡ suc (length owners - (d + 1)) = omega arith in
    rw (left, taken) refl

-- a free one comes first
pub free_after_free : (owners : List (Option ℕ)) (d : ℕ) → d < length owners → is_none (get_or owners d None) ≡ true → free_after owners d ≡ d ∷ free_after owners (d + 1)
free_after_free owners d within free =
    let left : length owners - d ≡ suc (length owners - (d + 1)) = omega arith in
    rw (left, free) refl

-- none past the end
pub free_after_past : (owners : List (Option ℕ)) (d : ℕ) → length owners ≤ d → free_after owners d ≡ []
free_after_past owners d past =
    let left : length owners - d ≡ 0 = omega arith in
    rw left refl

-- ---- stores

-- the stores from a stage on, if there is one
abbrev pub rest_from : Ring → ℕ → Ask → Links → Option Stage → List Store
rest_from r index ask l None = []
rest_from r index ask l (Some stage) = stores_from r index ask l stage

after_header : (r : Ring) (index : ℕ) (ask : Ask) (l : Links) (b : Bool) → (if b then from_data r index ask l else from_status r index ask l) ≡ rest_from r index ask l (if b then Some Data else Some Status)
unfolding stores_from
after_header r index ask l true = refl
after_header r index ask l false = refl

after_descriptor : (r : Ring) (index : ℕ) (ask : Ask) (l : Links) (b : Bool)
    → (if b then from_data_descriptor r index ask l else from_status_descriptor r index ask l) ≡ rest_from r index ask l (if b then Some DataDescriptor else Some StatusDescriptor)
unfolding stores_from
after_descriptor r index ask l true = refl
after_descriptor r index ask l false = refl

-- the store of a stage is the first of those from it on
pub stores_from-next : (r : Ring) (index : ℕ) (ask : Ask) (l : Links) (stage : Stage) → stores_from r index ask l stage ≡ store_at r index ask l stage ∷ rest_from r index ask l (stage_after ask l stage)
unfolding stores_from
stores_from-next r index ask l Header = ap (λ rest. store_at r index ask l Header ∷ rest) (after_header r index ask l (nat_lt 0 (length (written_bytes ask))))
stores_from-next r index ask l Data = refl
stores_from-next r index ask l Status = refl
stores_from-next r index ask l HeaderDescriptor = ap (λ rest. store_at r index ask l HeaderDescriptor ∷ rest) (after_descriptor r index ask l (is_some l.body))
stores_from-next r index ask l DataDescriptor = refl
stores_from-next r index ask l StatusDescriptor = refl
stores_from-next r index ask l AvailEntry = refl
stores_from-next r index ask l AvailIdx = refl

-- a store that isn't the last
pub steps_stored : (r : Ring) (index : ℕ) (p : WaitingRequest) (stage : Stage) (v w : Driver) → v.waiting ≡ Some (waiting_in r index p) → stage_after p.ask (links_of p.chain) p.stage ≡ Some stage
    → w ≡ record v { waiting = Some (waiting_in r index (record p { stage = stage })) } → Steps Stored v w
steps_stored r index p stage v w waits next is =
    let x : Waiting = waiting_in r index p in
    let l : Links = links_of p.chain in
    let first : Store = store_at r index p.ask l p.stage in
    let second : Store = store_at r index p.ask l stage in
    let rest : List Store = rest_from r index p.ask l (stage_after p.ask l stage) in
    let more : stores_from r index p.ask l stage ≡ second ∷ rest = stores_from-next r index p.ask l stage in
    let left : x.left ≡ first ∷ second ∷ rest = stores_from-next r index p.ask l p.stage ∙ ap (λ o. first ∷ rest_from r index p.ask l o) next ∙ ap (λ xs. first ∷ xs) more in
    let many : length x.left ≡ suc (suc (length rest)) = ap length left in
    let after : after_stores 1 x v ≡ record v { waiting = Some (record x { left = second ∷ rest }) } = ap (λ xs. with_left x (drop 1 xs) v) left in
    let same : record v { waiting = Some (record x { left = second ∷ rest }) } ≡ w = ap (λ xs. record v { waiting = Some (record x { left = xs }) }) (sym more) ∙ sym is in
    (x, waits, omega (arith, many), sym same ∙ sym after)

-- the last store
pub steps_offered : (r : Ring) (index : ℕ) (p : WaitingRequest) (v w : Driver) → v.waiting ≡ Some (waiting_in r index p) → stage_after p.ask (links_of p.chain) p.stage ≡ None
    → w ≡ record v { avail_idx = (v.avail_idx + 1) % 65536; waiting = None } → Steps (Offered p.chain.head) v w
steps_offered r index p v w waits next is =
    let x : Waiting = waiting_in r index p in
    let l : Links = links_of p.chain in
    let first : Store = store_at r index p.ask l p.stage in
    let left : x.left ≡ first ∷ [] = stores_from-next r index p.ask l p.stage ∙ ap (λ o. first ∷ rest_from r index p.ask l o) next in
    let after : after_stores 1 x v ≡ record v { avail_idx = (v.avail_idx + 1) % 65536; waiting = None } = ap (λ xs. with_left x (drop 1 xs) v) left in
    (x, waits, refl, ap length left, is ∙ sym after)

-- the store that a step makes
pub next_store-is : (r : Ring) (index : ℕ) (p : WaitingRequest) → next_store (Some (waiting_in r index p)) ≡ Some (store_at r index p.ask (links_of p.chain) p.stage)
next_store-is r index p = ap (λ xs. next_store (Some (record { ask = p.ask; head = p.chain.head; left = xs }))) (stores_from-next r index p.ask (links_of p.chain) p.stage)

pub stores_made : (before after : Option Bytes) (r : Ring) (index : ℕ) (p : WaitingRequest) (waiting : Option WaitingRequest) (step : GuestStep) (result : Result (Unit {0}) (Unit {0})) → waiting ≡ Some p → outcome step ≡ result
    → Stores before after result (store_at r index p.ask (links_of p.chain) p.stage) → StoresNext before after step (next_store (option_map (waiting_in r index) waiting))
stores_made before after r index p waiting step result waits done made =
    let st : Store = store_at r index p.ask (links_of p.chain) p.stage in
    let next : next_store (option_map (waiting_in r index) waiting) ≡ Some st = ap (λ o. next_store (option_map (waiting_in r index) o)) waits ∙ next_store-is r index p in
    subst (λ (o : Option Store). StoresNext before after step o) (sym next) (subst (λ (x : Result (Unit {0}) (Unit {0})). Stores before after x st) (sym done) made)

pub trails_made : (before after : Option (List Store)) (r : Ring) (index : ℕ) (p : WaitingRequest) (waiting : Option WaitingRequest) (step : GuestStep) (result : Result (Unit {0}) (Unit {0})) → waiting ≡ Some p → outcome step ≡ result
    → Trails before after result (store_at r index p.ask (links_of p.chain) p.stage) → TrailsNext before after step (next_store (option_map (waiting_in r index) waiting))
trails_made before after r index p waiting step result waits done made =
    let st : Store = store_at r index p.ask (links_of p.chain) p.stage in
    let next : next_store (option_map (waiting_in r index) waiting) ≡ Some st = ap (λ o. next_store (option_map (waiting_in r index) o)) waits ∙ next_store-is r index p in
    subst (λ (o : Option Store). TrailsNext before after step o) (sym next) (subst (λ (x : Result (Unit {0}) (Unit {0})). Trails before after x st) (sym done) made)

-- ---- a request

-- descriptors and offer
from_header_descriptor-is : (r : Ring) (index : ℕ) (ask : Ask) (h : ℕ) (body : Option ℕ) (s : ℕ) → is_some body ≡ has_data ask
    → from_header_descriptor r index ask (record { head = h; body = body; status = s }) ≡ chain_stores r (pieces (buffer_place r.desc h) ask) (h ∷ after_head body s) ++ offer_stores r index h
unfolding table_entry
from_header_descriptor-is r index Flush h None s is = refl
from_header_descriptor-is r index (Read a n) h None s is = cc
from_header_descriptor-is r index (Write a fills) h None s is = cc
from_header_descriptor-is r index Id h None s is = cc
from_header_descriptor-is r index (Discard parts) h None s is = cc
from_header_descriptor-is r index (Zero parts) h None s is = cc
from_header_descriptor-is r index Flush h (Some d) s is = cc
from_header_descriptor-is r index (Read a n) h (Some d) s is = refl
from_header_descriptor-is r index (Write a fills) h (Some d) s is = refl
from_header_descriptor-is r index Id h (Some d) s is = refl
from_header_descriptor-is r index (Discard parts) h (Some d) s is = refl
from_header_descriptor-is r index (Zero parts) h (Some d) s is = refl

-- a store of bytes that may be none
some_first : (space place : ℕ) (bytes : List ℕ) (rest : List Store) → (if nat_lt 0 (length bytes) then one_store space place bytes ∷ rest else rest) ≡ store_of_some space place bytes ++ rest
some_first space place [] rest = refl
some_first space place (b ∷ bytes) rest =
    let some : nat_lt 0 (suc (length bytes)) ≡ true = grind (arith, nat_tests) in
    ap (λ (t : Bool). if t then one_store space place (b ∷ bytes) ∷ rest else rest) some

-- the stores from the first on are all of the request
pub stores_from-whole : (r : Ring) (index : ℕ) (ask : Ask) (l : Links) → is_some l.body ≡ has_data ask → stores_from r index ask l Header ≡ request_stores r index ask (descriptors l)
unfolding stores_from
stores_from-whole r index ask l is =
    let header : Store = store_at r index ask l Header in
    let status : Store = store_at r index ask l Status in
    let place : ℕ = data_place (buffer_place r.desc l.head) ask in
    let body : List Store = store_of_some r.desc_space place (written_bytes ask) in
    let rest : List Store = chain_stores r (pieces (buffer_place r.desc l.head) ask) (descriptors l) ++ offer_stores r index l.head in
    let tail : from_header_descriptor r index ask l ≡ rest = from_header_descriptor-is r index ask l.head l.body l.status is in
    let first : stores_from r index ask l Header ≡ header ∷ (body ++ status ∷ from_header_descriptor r index ask l) =
    ap (λ xs. header ∷ xs) (some_first r.desc_space place (written_bytes ask) (status ∷ from_header_descriptor r index ask l)) in
    first ∙ ap (λ xs. header ∷ (body ++ status ∷ xs)) tail ∙ ap (λ xs. header ∷ xs) (sym (append_assoc body (status ∷ []) rest))

-- the driver with a request that its lowest free descriptors take
pub asked : (r : Ring) (index : ℕ) (old new : List (Option ℕ)) (ask same : Ask) (c : Chain) (waiting : Option Waiting) → same ≡ ask → Chooses old ask (Some c) → length old ≡ r.size
    → ((d : ℕ) → owner_at new d ≡ owned_by c.head (descriptors (links_of c)) (owner_at old) d)
    → let v : Driver = record { avail_idx = index; owner = owner_at new; waiting = Some (waiting_in r index (record { ask = same; chain = c; stage = Header })) } in
    v ≡ after_ask r ask (record { avail_idx = index; owner = owner_at old; waiting = waiting })
asked r index old new ask same c waiting is chooses size owners =
    let old_driver : Driver = record { avail_idx = index; owner = owner_at old; waiting = waiting } in
    let l : Links = links_of c in
    let ds : List ℕ = descriptors l in
    let whole : length old - 0 ≡ r.size = omega (arith, size) in
    let picks : chosen r.size ask old_driver ≡ ds = ap (λ n. take (descriptors_needed ask) (free_from (owner_at old) n 0)) (sym whole) ∙ chooses.1 in
    let after : after_ask r ask old_driver ≡ record { avail_idx = index; owner = owned_by c.head ds (owner_at old); waiting = Some (record { ask = ask; head = c.head; left = request_stores r index ask ds }) } =
    ap (λ xs. record old_driver { owner = owned_by (first_or_zero xs) xs (owner_at old); waiting = Some (waits_on r ask xs index) }) picks in
    let left : stores_from r index ask l Header ≡ request_stores r index ask ds = stores_from-whole r index ask l chooses.2 in
    let owner : owner_at new ≡ owned_by c.head ds (owner_at old) = fun_ext owners in
    let driver : (ℕ → Option ℕ) → List Store → Driver = λ o xs. record { avail_idx = index; owner = o; waiting = Some (record { ask = ask; head = c.head; left = xs }) } in
    let named : Ask → Driver = λ a. record { avail_idx = index; owner = owner_at new; waiting = Some (waiting_in r index (record { ask = a; chain = c; stage = Header })) } in
    ap named is ∙ ap (λ o. driver o (stores_from r index ask l Header)) owner ∙ ap (driver (owned_by c.head ds (owner_at old))) left ∙ sym after

-- ---- the stores that are left

-- each stage makes a store
stores_some : (r : Ring) (index : ℕ) (ask : Ask) (l : Links) (stage : Stage) → 0 < length (stores_from r index ask l stage)
unfolding stores_from
stores_some r index ask l Header = omega arith
stores_some r index ask l Data = omega arith
stores_some r index ask l Status = omega arith
stores_some r index ask l HeaderDescriptor = omega arith
stores_some r index ask l DataDescriptor = omega arith
stores_some r index ask l StatusDescriptor = omega arith
stores_some r index ask l AvailEntry = omega arith
stores_some r index ask l AvailIdx = omega arith

-- a request that waits has one left
pub left_some : (g : Guest) (x : Waiting) → (driver_in g).waiting ≡ Some x → 0 < length x.left
left_some g x is = go g.waiting is
  where
    go : (o : Option WaitingRequest) → option_map (waiting_in (ring_in g) g.avail_idx) o ≡ Some x → 0 < length x.left
    go None e = absurd (cc)
    go (Some p) e =
        let same : waiting_in (ring_in g) g.avail_idx p ≡ x = cc in
        subst (λ (y : Waiting). 0 < length y.left) same (stores_some (ring_in g) g.avail_idx p.ask _ p.stage)

either_few : (b : Bool) (n : ℕ) (xs ys : List Store) → length xs ≤ n → length ys ≤ n → length (if b then xs else ys) ≤ n
either_few true n xs ys p q = p
either_few false n xs ys p q = q

descriptors_few : (r : Ring) (index : ℕ) (ask : Ask) (l : Links) → length (from_header_descriptor r index ask l) ≤ 5
descriptors_few r index ask l =
    let rest : length (if is_some l.body then from_data_descriptor r index ask l else from_status_descriptor r index ask l) ≤ 4 = either_few (is_some l.body) 4 (from_data_descriptor r index ask l) (from_status_descriptor r index ask l) (omega arith) (omega arith) in
    omega (arith, rest)

header_few : (r : Ring) (index : ℕ) (ask : Ask) (l : Links) → length (if nat_lt 0 (length (written_bytes ask)) then from_data r index ask l else from_status r index ask l) ≤ 7
header_few r index ask l =
    let few = descriptors_few r index ask l in
    either_few (nat_lt 0 (length (written_bytes ask))) 7 (from_data r index ask l) (from_status r index ask l) (omega (arith, few)) (omega (arith, few))

-- a stage and those after it make eight stores at most
stores_few : (r : Ring) (index : ℕ) (ask : Ask) (l : Links) (stage : Stage) → length (stores_from r index ask l stage) ≤ 8
unfolding stores_from
stores_few r index ask l Header = omega (arith, header_few r index ask l)
stores_few r index ask l Data = omega (arith, descriptors_few r index ask l)
stores_few r index ask l Status = omega (arith, descriptors_few r index ask l)
stores_few r index ask l HeaderDescriptor = omega (arith, descriptors_few r index ask l)
stores_few r index ask l DataDescriptor = omega arith
stores_few r index ask l StatusDescriptor = omega arith
stores_few r index ask l AvailEntry = omega arith
stores_few r index ask l AvailIdx = omega arith

-- a request that waits has eight left at most
pub left_few : (g : Guest) (x : Waiting) → (driver_in g).waiting ≡ Some x → length x.left ≤ 8
left_few g x is = go g.waiting is
  where
    go : (o : Option WaitingRequest) → option_map (waiting_in (ring_in g) g.avail_idx) o ≡ Some x → length x.left ≤ 8
    go None e = absurd (cc)
    go (Some p) e =
        let same : waiting_in (ring_in g) g.avail_idx p ≡ x = cc in
        subst (λ (y : Waiting). length y.left ≤ 8) same (stores_few (ring_in g) g.avail_idx p.ask _ p.stage)
