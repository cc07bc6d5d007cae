-- The steps of a drain, and the queues that they leave as they were.
use Rattle.std.proofs.Common.{◌≡◌, ◌≢◌, ℕ, zero, suc, ◌-◌, ◌^◌, List, [], ◌∷◌, true, false, refl, ap, sym, ◌∙◌, subst, inl, inr}
use Rattle.std.specs.Prelude.{set, slice_get, Option}
use Rattle.vub_steps.specs.declared.readiness.Choice.TheVariants.{Drain}
use Rattle.vub_queue.specs.declared.queue.Stepped.{Stepped}
use Rattle.vub_queue.specs.declared.queue.Stepped.TheVariants.{Idle}
use Rattle.vub_queue.specs.QueueState.{QueueState, is_idle}
use Rattle.vub_queue.specs.Turned.{Outside}
use Rattle.vub_backend.specs.Backends.{Steps, found, KeepsOthers, Drained, Drains, accepted_after}

-- where one element of a list is another, the others are there as before
other_there : {A : Type 0} (xs : List A) (i p : ℕ) (x : A) → p ≢ i → slice_get (set xs i x) p ≡ slice_get xs p
other_there [] i p x other = refl
other_there (y ∷ ys) zero zero x other = absurd (other refl)
other_there (y ∷ ys) zero (suc p) x other = refl
other_there (y ∷ ys) (suc i) zero x other = refl
other_there (y ∷ ys) (suc i) (suc p) x other = other_there ys i p x (λ same. other (ap (λ (k : ℕ). suc k) same))

pub others_stay : (queues : List (Option QueueState)) (i : ℕ) (queue : Option QueueState) → KeepsOthers i queues (set queues i queue)
others_stay queues i queue p other = ap found (other_there queues i p queue other)

pub others_still : (q : ℕ) (queues between now : List (Option QueueState)) → KeepsOthers q queues between → KeepsOthers q between now → KeepsOthers q queues now
others_still q queues between now first next p other = next p other ∙ first p other

-- the answer that is idle
idle_is : (x : Stepped) → is_idle x ≡ true → x ≡ Idle
idle_is Idle idle = refl
idle_is x idle = absurd (cc idle)

-- a drain after one more step that isn't idle
pub drained_on : (q n m : ℕ) (before mid after : Outside) (queues between now : List (Option QueueState)) (a b : ℕ) (x : Stepped) → Drained q n before mid queues between a
    → Steps q (Drain a) mid after x between now → is_idle x ≡ false → m ≡ suc n → b ≡ accepted_after x a → Drained q m before after queues now b
drained_on q n m before mid after queues between now a b x drained steps busy next accepted =
    subst (λ (count : ℕ). Drained q count before after queues now b) (sym next) (mid, between, a, x, drained, steps, busy, accepted)

-- its end: an idle step, or the most that it makes
pub drained_idle : (q n : ℕ) (before mid after : Outside) (queues between now : List (Option QueueState)) (a : ℕ) (x : Stepped) → Drained q n before mid queues between a
    → Steps q (Drain a) mid after x between now → is_idle x ≡ true → Drains q before after n queues now
drained_idle q n before mid after queues between now a x drained steps idle =
    (mid, between, a, drained, inl (subst (λ (says : Stepped). Steps q (Drain a) mid after says between now) (idle_is x idle) steps))

pub drained_most : (q n : ℕ) (before after : Outside) (queues now : List (Option QueueState)) (a : ℕ) → Drained q n before after queues now a
    → n ≡ 2 ^ 64 - 1 → Drains q before after (2 ^ 64 - 1) queues now
drained_most q n before after queues now a drained most =
    subst (λ (count : ℕ). Drains q before after count queues now) most (after, now, a, drained, inr (most, refl, refl))
