-- A ring of a sound session that is ready lies where a queue can run.
use Rattle.std.proofs.Common.{◌≡◌, ℕ, true, IsSome, sym, ap, ◌∙◌, subst, arith}
use Rattle.std.specs.Prelude.{is_some}
use Rattle.vub_session.specs.Bounds.{SizeBounded}
use Rattle.vub_session.specs.Ready.{can_run, is_ready, region_fits, rings_of}
use Rattle.vub_session.specs.Sound.{IsSound}
use Rattle.vub_session.specs.State.{is_packed, ring_at}
use Rattle.vub_session.specs.declared.state.Ring.{Ring}
use Rattle.vub_session.specs.declared.state.State.{State}
use Rattle.vub_session.specs.declared.state.Terms.{Terms}

pub ready_lies : (s : State) (i : ℕ) (r : Ring) → IsSound s → r ≡ ring_at s.terms i → is_ready s.terms i r ≡ true → IsSome (rings_of s.terms s.table i r)
ready_lies s i r sound at ready =
    let R : Ring → Type 0 = λ x. IsSome (rings_of s.terms s.table i x) in
    let here : is_ready s.terms i (ring_at s.terms i) ≡ true = ap (λ x. is_ready s.terms i x) (sym at) ∙ ready in
    subst R (sym at) (sound.terms.attached i (sound.ready i here)).lies

pub ready_given : (t : Terms) (i : ℕ) (r : Ring) → is_ready t i r ≡ true → is_some r.base ≡ true
unfolding is_ready can_run
ready_given t i r ready = grind arith

pub size_known : (s : State) (i : ℕ) (r : Ring) → IsSound s → r ≡ ring_at s.terms i → SizeBounded r.size
size_known s i r sound at = let R : Ring → Type 0 = λ x. SizeBounded x.size in subst R (sym at) (sound.terms.bounded.sizes i)

pub ready_fits : (t : Terms) (i : ℕ) (r : Ring) → is_ready t i r ≡ true → region_fits (is_packed t) i t.region r.size ≡ true
unfolding is_ready can_run
ready_fits t i r ready = grind arith
