-- An attached ring stays as it was, whatever message comes.
use Rattle.std.proofs.Common.{◌≡◌, ◌≢◌, ℕ, ◌<◌, ◌≤◌, Bool, true, false, List, length, Some, refl, sym, ◌∙◌, ap, subst, arith}
use Rattle.std.specs.Prelude.{◌==◌, ◌||◌, nat_lt, slice_index_or}
use Rattle.std.specs.Option.{ForSome}
use Rattle.std.proofs.lemmas.Bool.Decides.{nat_tests}
use Rattle.std.proofs.lemmas.List.{get_or_past}
use Rattle.vub_session.proofs.AttachLemmas.{attached_here}
use Rattle.vub_session.proofs.SoundLemmas.{set_here, set_there}
use Rattle.vub_memtable.specs.declared.region.Mapped.{Mapped}
use Rattle.vub_session.specs.Sound.{IsCandidate}
use Rattle.vub_session.specs.Keeps.{KeepsAttached, StaysAttached}
use Rattle.vub_session.specs.Ready.{attach, is_ready}
use Rattle.vub_session.specs.State.{new_ring, ring_at, with_ring}
use Rattle.vub_session.specs.declared.state.Ring.{Ring}
use Rattle.vub_session.specs.declared.state.Terms.{Terms}
use Rattle.vub_session.specs.declared.state.TheConstants.{MAX_QUEUES}

itself : (r : Ring) → r.is_attached ≡ true → StaysAttached r r
itself r is = record { attached = is; size = refl; addresses = refl; base = refl }

set_keeps : (t : Terms) (i : ℕ) (r : Ring) → length t.rings ≡ MAX_QUEUES → i < MAX_QUEUES → ((ring_at t i).is_attached ≡ true → StaysAttached (ring_at t i) r) → (q : ℕ) (b : Bool) → (q == i) ≡ b
    → (ring_at t q).is_attached ≡ true → StaysAttached (ring_at t q) (ring_at (with_ring t i r) q)
set_keeps t i r count below stays q true e is =
    let same : i ≡ q = grind (arith, nat_tests) in
    let P : ℕ → Type 0 = λ k. (ring_at t k).is_attached ≡ true → StaysAttached (ring_at t k) (ring_at (with_ring t i r) k) in
    let R : Ring → Type 0 = λ x. StaysAttached (ring_at t i) x in
    subst P same (λ now. subst R (sym (set_here t i r count below)) (stays now)) is
set_keeps t i r count below stays q false e is =
    let other : q ≢ i = grind (arith, nat_tests) in
    let R : Ring → Type 0 = λ x. StaysAttached (ring_at t q) x in
    subst R (sym (set_there t i q r other)) (itself (ring_at t q) is)

pub ring_keeps : (t : Terms) (i : ℕ) (r : Ring) → length t.rings ≡ MAX_QUEUES → i < MAX_QUEUES → ((ring_at t i).is_attached ≡ true → StaysAttached (ring_at t i) r) → KeepsAttached t (with_ring t i r)
ring_keeps t i r count below stays = λ q is. set_keeps t i r count below stays q (q == i) refl is

still : (a b : Bool) → a ≡ true → (a || b) ≡ true
still true b is = refl
still false b is = absurd (cc)

attach_one : (t : Terms) (q : ℕ) (below : Bool) → nat_lt q MAX_QUEUES ≡ below → length t.rings ≡ MAX_QUEUES → (ring_at t q).is_attached ≡ true → StaysAttached (ring_at t q) (ring_at (attach t) q)
attach_one t q true e count is =
    let inside : q < MAX_QUEUES = grind (arith, nat_tests) in
    let R : Ring → Type 0 = λ x. StaysAttached (ring_at t q) x in
    subst R (sym (attached_here t q inside)) (record { attached = still (ring_at t q).is_attached (is_ready t q (ring_at t q)) is; size = refl; addresses = refl; base = refl })
attach_one t q false e count is =
    let outside : MAX_QUEUES ≤ q = grind (arith, nat_tests) in
    let past : ring_at t q ≡ new_ring = get_or_past t.rings q new_ring (omega arith) in
    let idle : false ≡ true = ap (λ x. x.is_attached) (sym past) ∙ is in
    absurd (cc)

pub attach_keeps : (t : Terms) → length t.rings ≡ MAX_QUEUES → KeepsAttached t (attach t)
attach_keeps t count = λ q is. attach_one t q (nat_lt q MAX_QUEUES) refl count is

after : (a b c : Ring) → StaysAttached a b → StaysAttached b c → StaysAttached a c
after a b c first second = record { attached = second.attached; size = second.size ∙ first.size; addresses = second.addresses ∙ first.addresses; base = second.base ∙ first.base }

pub keeps_after : (t u v : Terms) → KeepsAttached t u → KeepsAttached u v → KeepsAttached t v
keeps_after t u v first second = λ q is. let one = first q is in after (ring_at t q) (ring_at u q) (ring_at v q) one (second q one.attached)

-- ---- the rows, at the ring that a session holds

pub held_keeps : (t : Terms) (i : ℕ) (old r : Ring) → length t.rings ≡ MAX_QUEUES → i < MAX_QUEUES → old ≡ ring_at t i → (old.is_attached ≡ true → StaysAttached old r) → ForSome (Some (with_ring t i r)) (KeepsAttached t)
held_keeps t i old r count below at stays = λ x e.
    let same : with_ring t i r ≡ x = cc in
    let P : Terms → Type 0 = λ y. KeepsAttached t y in
    let R : Ring → Type 0 = λ o. o.is_attached ≡ true → StaysAttached o r in
    subst P same (ring_keeps t i r count below (subst R at stays))

pub none_changes : (t : Terms) → KeepsAttached t t
none_changes t = λ q is. itself (ring_at t q) is

pub same_keeps : (t u : Terms) → u.rings ≡ t.rings → ForSome (Some u) (KeepsAttached t)
same_keeps t u same = λ x e.
    let is : u ≡ x = cc in
    let P : Terms → Type 0 = λ y. KeepsAttached t y in
    subst P is (λ q attached. let R : List Ring → Type 0 = λ rs. StaysAttached (ring_at t q) (slice_index_or rs q new_ring) in subst R (sym same) (itself (ring_at t q) attached))

pub settled_keeps : (queues : ℕ) (table : List Mapped) (t u : Terms) → IsCandidate queues table u → KeepsAttached t u → KeepsAttached t (attach u)
settled_keeps queues table t u candidate keeps = keeps_after t u (attach u) keeps (attach_keeps u candidate.bounded.count)
