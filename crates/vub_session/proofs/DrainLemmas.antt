-- A message drains a queue exactly where it is a GET_VRING_BASE of one that is attached.
use Rattle.std.proofs.Common.{◌≡◌, ℕ, ◌<◌, Bool, true, false, Some, None, refl, ap, subst, ◌∙◌, arith}
use Rattle.std.specs.Prelude.{nat_lt, if◌then◌else◌}
use Rattle.std.proofs.lemmas.Bool.Decides.{nat_tests}
use Rattle.vub_session.specs.State.{IsAttached, ring_at, ring_of}
use Rattle.vub_session.specs.Table.{StopsAttached, drained, stopped_by}
use Rattle.vub_session.specs.declared.state.State.{State}
use Rattle.vub_wire.specs.declared.messages.Message.{Message}
use Rattle.vub_wire.specs.declared.messages.Message.TheVariants as messages

if_attached : (s : State) (index num q : ℕ) (b : Bool) → index < s.config.queues → (ring_at s.terms index).is_attached ≡ b → (if b then Some index else None) ≡ Some q → StopsAttached s (messages.GetBase index num) q
if_attached s index num q true below is e =
    let same : index ≡ q = cc in
    let P : ℕ → Type 0 = λ k. StopsAttached s (messages.GetBase index num) k in
    subst P same (num, refl, record { below = below; attached = is })
if_attached s index num q false below is e = absurd (cc)

if_below : (s : State) (index num q : ℕ) (b : Bool) → nat_lt index s.config.queues ≡ b → stopped_by index (if b then Some (ring_at s.terms index) else None) ≡ Some q → StopsAttached s (messages.GetBase index num) q
if_below s index num q true e stops = let below : index < s.config.queues = grind (arith, nat_tests) in if_attached s index num q (ring_at s.terms index).is_attached below refl stops
if_below s index num q false e stops = absurd (cc)

pub drained_stops : (s : State) (m : Message) (q : ℕ) → drained s m ≡ Some q → StopsAttached s m q
unfolding drained ring_of
drained_stops s (messages.GetBase index num) q e = if_below s index num q (nat_lt index s.config.queues) refl e
drained_stops s messages.GetFeatures q e = absurd (cc)
drained_stops s messages.SetOwner q e = absurd (cc)
drained_stops s (messages.SetMemTable regions) q e = absurd (cc)
drained_stops s messages.GetProtocol q e = absurd (cc)
drained_stops s messages.GetQueueNum q e = absurd (cc)
drained_stops s (messages.GetConfig config) q e = absurd (cc)
drained_stops s (messages.SetConfig config) q e = absurd (cc)
drained_stops s (messages.GetInflight x) q e = absurd (cc)
drained_stops s (messages.Other request) q e = absurd (cc)
drained_stops s (messages.SetFeatures set) q e = absurd (cc)
drained_stops s (messages.SetNum index num) q e = absurd (cc)
drained_stops s (messages.SetAddr index flags desc used avail log) q e = absurd (cc)
drained_stops s (messages.SetBase index num) q e = absurd (cc)
drained_stops s (messages.SetKick word) q e = absurd (cc)
drained_stops s (messages.SetCall word) q e = absurd (cc)
drained_stops s (messages.SetErr word) q e = absurd (cc)
drained_stops s (messages.SetProtocol set) q e = absurd (cc)
drained_stops s (messages.SetEnable index num) q e = absurd (cc)
drained_stops s (messages.SetInflight x) q e = absurd (cc)

base_drained : (s : State) (q num : ℕ) → IsAttached s q → drained s (messages.GetBase q num) ≡ Some q
unfolding drained ring_of
base_drained s q num at =
    let below : nat_lt q s.config.queues ≡ true = let h : q < s.config.queues = at.below in grind (arith, nat_tests) in
    ap (λ b. stopped_by q (if b then Some (ring_at s.terms q) else None)) below ∙ ap (λ b. if b then Some q else None) at.attached

pub stops_drained : (s : State) (m : Message) (q : ℕ) → StopsAttached s m q → drained s m ≡ Some q
stops_drained s m q stops = ap (λ x. drained s x) stops.1 ∙ base_drained s q stops.0 stops.2
