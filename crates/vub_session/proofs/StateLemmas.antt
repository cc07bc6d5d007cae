-- A new session is sound, and so is one whose queue was stopped.
use Rattle.std.proofs.Common.{◌≡◌, ◌≢◌, ℕ, zero, suc, ◌<◌, ◌≤◌, Bool, true, false, length, replicate, refl, sym, ◌∙◌, ap, subst, arith, rules}
use Rattle.std.specs.Prelude.{◌==◌, slice_index_or}
use Rattle.std.proofs.lemmas.Bool.Decides.{nat_tests}
use Rattle.vub_blkreq.specs.declared.config.DeviceConfig.{DeviceConfig}
use Rattle.vub_session.proofs.AttachLemmas.{new_not_ready}
use Rattle.vub_session.proofs.SoundLemmas.{idle_candidate, set_here, set_there}
use Rattle.vub_session.specs.Bounds.{RegionBounded, SizeBounded}
use Rattle.vub_session.specs.Ready.{can_run, is_ready}
use Rattle.vub_session.specs.Sound.{IsSound}
use Rattle.vub_session.specs.State.{new_ring, new_state, new_terms, ring_at, with_ring}
use Rattle.vub_session.specs.Table.{stopped, stopped_ring}
use Rattle.vub_session.specs.declared.state.Ring.{Ring}
use Rattle.vub_session.specs.declared.state.State.{State}
use Rattle.vub_session.specs.declared.state.Terms.{Terms}
use Rattle.vub_session.specs.declared.state.TheConstants.{MAX_QUEUES}

new_at : (n k : ℕ) → slice_index_or (replicate n new_ring) k new_ring ≡ new_ring
new_at zero k = refl
new_at (suc n) zero = refl
new_at (suc n) (suc k) = new_at n k

new_rings : (index : ℕ) → ring_at new_terms index ≡ new_ring
unfolding new_terms
new_rings index = new_at MAX_QUEUES index

new_count : length new_terms.rings ≡ MAX_QUEUES
unfolding new_terms
new_count = refl

new_region : (queues : ℕ) → RegionBounded queues new_terms.region
unfolding new_terms
new_region queues = search rules

pub new_sound : (config : DeviceConfig) → 1 ≤ config.queues → config.queues ≤ MAX_QUEUES → IsSound (new_state config)
new_sound config some few = record {
  some = some;
  few = few;
  terms = record {
    bounded = record {
      count = new_count;
      sizes = λ index. let R : Ring → Type 0 = λ x. SizeBounded x.size in subst R (sym (new_rings index)) (search rules);
      region = new_region config.queues;
    };
    attached = λ index is. let idle : false ≡ true = ap (λ x. x.is_attached) (sym (new_rings index)) ∙ is in absurd (cc);
  };
  ready = λ index ready. absurd (new_not_ready new_terms index (ap (λ x. is_ready new_terms index x) (sym (new_rings index)) ∙ ready));
}

-- ---- stopping

stopped_not_ready : (t : Terms) (index base : ℕ) (r : Ring) → is_ready t index (stopped_ring base r) ≡ true → ⊥
unfolding is_ready can_run
stopped_not_ready t index base r ready = grind arith

ready_set : (t : Terms) (i index : ℕ) (r ring : Ring) → is_ready (with_ring t i r) index ring ≡ is_ready t index ring
unfolding with_ring is_ready can_run
ready_set t i index r ring = refl

ready_after : (s : State) (queue base : ℕ) → IsSound s → queue < MAX_QUEUES → (index : ℕ) (b : Bool) → (index == queue) ≡ b
    → let t : Terms = with_ring s.terms queue (stopped_ring base (ring_at s.terms queue)) in is_ready t index (ring_at t index) ≡ true → (ring_at t index).is_attached ≡ true
ready_after s queue base sound below index true e =
    let same : queue ≡ index = grind (arith, nat_tests) in
    let r : Ring = stopped_ring base (ring_at s.terms queue) in
    let P : ℕ → Type 0 = λ k. is_ready (with_ring s.terms queue r) k (ring_at (with_ring s.terms queue r) k) ≡ true → (ring_at (with_ring s.terms queue r) k).is_attached ≡ true in
    let at : ring_at (with_ring s.terms queue r) queue ≡ r = set_here s.terms queue r sound.terms.bounded.count below in
    subst P same (λ ready. absurd (stopped_not_ready (with_ring s.terms queue r) queue base (ring_at s.terms queue) (ap (λ x. is_ready (with_ring s.terms queue r) queue x) (sym at) ∙ ready)))
ready_after s queue base sound below index false e = λ ready.
    let other : index ≢ queue = grind (arith, nat_tests) in
    let r : Ring = stopped_ring base (ring_at s.terms queue) in
    let at : ring_at (with_ring s.terms queue r) index ≡ ring_at s.terms index = set_there s.terms queue index r other in
    let was : is_ready s.terms index (ring_at s.terms index) ≡ true = sym (ready_set s.terms queue index r (ring_at s.terms index)) ∙ (ap (λ x. is_ready (with_ring s.terms queue r) index x) (sym at) ∙ ready) in
    ap (λ x. x.is_attached) at ∙ sound.ready index was

pub stopped_sound : (s : State) (queue base : ℕ) → IsSound s → queue < MAX_QUEUES → IsSound (stopped s queue base)
unfolding stopped
stopped_sound s queue base sound below = record {
  some = sound.some;
  few = sound.few;
  terms = idle_candidate s.config.queues s.table s.terms queue (stopped_ring base (ring_at s.terms queue)) below sound.terms (sound.terms.bounded.sizes queue) refl;
  ready = λ index ready. ready_after s queue base sound below index (index == queue) refl ready;
}
