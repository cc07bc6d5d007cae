-- The stores of a request are small, on a split ring.
use Rattle.std.proofs.Common.{◌≡◌, ◌≤◌, ℕ, ◌+◌, ◌%◌, List, [], ◌∷◌, ◌++◌, length, refl, sym, subst, arith}
use Rattle.std.specs.Prelude.{Option, Some}
use Rattle.std.specs.List.{AllByRecursion}
use Rattle.vub_base.specs.declared.header.Header1.{Header1}
use Rattle.vub_base.specs.declared.request.Ask.{Ask}
use Rattle.vub_base.specs.declared.request.Ask.TheVariants as wants
use Rattle.vub_shared.specs.Stores.{Store, one_store}
use Rattle.vub_driver.specs.Layout.{status_place, sectors_place}
use Rattle.vub_driver.specs.Drivers.{Driver, Waiting}
use Rattle.vub_driver.specs.Requests.{Piece, readable_piece, writable_piece, written_bytes, has_data}
use Rattle.vub_driver.specs.Stores.{store_of_some, request_stores}
use Rattle.vub_device.specs.Requests.{request_of}
use Rattle.vub_direct_chain.specs.ChainState.{data_of}
use Rattle.vub_run.specs.Moments.{Moment}
use Rattle.vub_run_laws.proofs.RingGood.{the_ring, IsWaiting}
use Rattle.vub_run_laws.proofs.RunGood.{IsWide}
use Rattle.vub_run_laws.proofs.RunFrames.{length_little}
use Rattle.vub_run_laws.proofs.RunChains.{buffer_at, chain_of, desc_long}
use Rattle.vub_run_laws.proofs.RunChainsStores.{header_long, linked, linked_two}
use Rattle.vub_run_laws.proofs.RunChainsMade.{all_append, all_last}
use Rattle.vub_run_laws.proofs.RunChainsTurns.{IsPrepared, PreparedWell}
use Rattle.vub_run_laws.proofs.RunChainsEvents.{ChainedAt}
use Rattle.vub_run_laws.proofs.RunQueue.{queue_waiting}
use Rattle.vub_run_laws.proofs.RunTurns.{Good}

-- what holds of each store into guest memory of eight sectors at most
abbrev pub OfSmall : (Store → Type 0) → Type 0
OfSmall P = (st : Store) → st.space ≡ 0 → length st.bytes ≤ 4096 → P st

some_small : (P : Store → Type 0) (p : ℕ) (bytes : List ℕ) → OfSmall P → length bytes ≤ 4096 → AllByRecursion P (store_of_some 0 p bytes)
some_small P p [] small few = tt
some_small P p (b ∷ bytes) small few = (small (one_store 0 p (b ∷ bytes)) refl few, tt)

linked_small : (P : Store → Type 0) (q n index head body status : ℕ) (p : Piece) → OfSmall P → AllByRecursion P (linked q n index head body status p)
linked_small P q n index head body status p small = (
  small _ refl (omega (arith, desc_long (readable_piece (buffer_at q head) 16) 1 body)),
  (
    small _ refl (omega (arith, desc_long p 1 status)),
    (
      small _ refl (omega (arith, desc_long (writable_piece (status_place (buffer_at q head)) 1) 0 0)),
      (small _ refl (omega (arith, length_little 2 head)), (small _ refl (omega (arith, length_little 2 ((index + 1) % 65536))), tt)),
    ),
  ),
)

two_small : (P : Store → Type 0) (q n index head status : ℕ) → OfSmall P → AllByRecursion P (linked_two q n index head status)
two_small P q n index head status small = (
  small _ refl (omega (arith, desc_long (readable_piece (buffer_at q head) 16) 1 status)),
  (
    small _ refl (omega (arith, desc_long (writable_piece (status_place (buffer_at q head)) 1) 0 0)),
    (small _ refl (omega (arith, length_little 2 head)), (small _ refl (omega (arith, length_little 2 ((index + 1) % 65536))), tt)),
  ),
)

all_small : (P : Store → Type 0) (q n cap index head body status : ℕ) (a : Ask) → OfSmall P → IsWide cap (Some (request_of a)) → AllByRecursion P (request_stores (the_ring q n) index a (chain_of (has_data a) head body status))
all_small P q n cap index head body status (wants.Read s c) small wide = (
  small _ refl (omega (arith, header_long 0 s)),
  (small _ refl (omega arith), linked_small P q n index head body status (data_of (buffer_at q head) (request_of (wants.Read s c))) small),
)
all_small P q n cap index head body status (wants.Write s fills) small wide =
    let bytes : List ℕ = written_bytes (wants.Write s fills) in
    let front : List Store = store_of_some 0 (sectors_place (buffer_at q head)) bytes in
    let last : List Store = one_store 0 (status_place (buffer_at q head)) (255 ∷ []) ∷ [] in
    let rest : List Store = linked q n index head body status (data_of (buffer_at q head) (request_of (wants.Write s fills))) in (
      small _ refl (omega (arith, header_long 1 s)),
      all_append P (front ++ last) rest
          (all_append P front last (some_small P (sectors_place (buffer_at q head)) bytes small wide.few) (small _ refl (omega arith), tt))
          (linked_small P q n index head body status (data_of (buffer_at q head) (request_of (wants.Write s fills))) small),
    )
all_small P q n cap index head body status wants.Flush small wide = (
  small _ refl (omega (arith, header_long 4 0)),
  (small _ refl (omega arith), two_small P q n index head status small),
)
all_small P q n cap index head body status wants.Id small wide = absurd wide
all_small P q n cap index head body status (wants.Discard parts) small wide = absurd wide
all_small P q n cap index head body status (wants.Zero parts) small wide = absurd wide

-- so are those left of a request that waits
pub left_small : (P : Store → Type 0) (q : ℕ) (h : Header1) (m : Moment) (w : Waiting) → OfSmall P → Good q h m → ChainedAt q h m → (m.lanes q).driver.waiting ≡ Some w → AllByRecursion P w.left
left_small P q h m w small good chained waiting =
    let v : Driver = (m.lanes q).driver in
    let waits : IsWaiting q h.size h.capacity m.scene.past (m.scene.heads q) v (record w { left = w.left }) = queue_waiting q h m.scene v (m.lanes q).bell (m.lanes q).plan (m.lanes q).counter (m.lanes q).batch (m.lanes q).phase w waiting good.holds.queue in
    let ready : IsPrepared q h.size m.scene.memory v w = subst (λ (o : Option Waiting). PreparedWell q h.size m.scene.memory v o) waiting chained.waits in
    all_last P ready.made w.left (subst (λ (sts : List Store). AllByRecursion P sts) (sym ready.stores) (all_small P q h.size h.capacity v.avail_idx w.head ready.body ready.status w.ask small waits.wide))
