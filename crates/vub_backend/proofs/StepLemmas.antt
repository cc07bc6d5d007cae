-- What a step of one queue leaves of that queue, where it is attached and where it isn't.
use Rattle.std.proofs.Common.{◌≡◌, ℕ, zero, suc, List, [], ◌∷◌, length, refl, ap, ◌∙◌, subst}
use Rattle.std.specs.Prelude.{set, slice_get, Option, Some, None}
use Rattle.std.proofs.lemmas.List.{length-set}
use Rattle.vub_steps.specs.declared.readiness.Choice.{Choice}
use Rattle.vub_queue.specs.declared.queue.Stepped.{Stepped}
use Rattle.vub_queue.specs.declared.queue.Stepped.TheVariants.{Idle}
use Rattle.vub_queue.specs.QueueState.{QueueState}
use Rattle.vub_queue.specs.Turned.{Outside, Turned}
use Rattle.vub_backend.specs.Backends.{Steps, StepsAt, StepsIn, found, attached_in}

-- a list with another item in a place that it has
item_set : {A : Type 0} (xs : List A) (i : ℕ) (x y : A) → slice_get xs i ≡ Some y → slice_get (set xs i x) i ≡ Some x
item_set [] i x y is = absurd (cc is)
item_set (z ∷ zs) zero x y is = refl
item_set (z ∷ zs) (suc i) x y is = item_set zs i x y is

-- a queue that is attached makes a turn
pub steps_attached : (q : ℕ) (choice : Choice) (before after : Outside) (x : Stepped) (queues now : List (Option QueueState)) (s : QueueState) → attached_in queues q ≡ Some s → Steps q choice before after x queues now
    → (t : QueueState) × (attached_in now q ≡ Some t) × Turned choice before after x s t
steps_attached q choice before after x queues now s is made = go (slice_get queues q) refl is made
  where
    one : (u : QueueState) (queue : Option QueueState) → slice_get queues q ≡ Some (Some u) → u ≡ s → now ≡ set queues q queue → StepsIn (Some u) choice before after x queue → (t : QueueState) × (attached_in now q ≡ Some t) × Turned choice before after x s t
    one u queue there same new turned = (
      turned.0,
      ap (λ (qs : List (Option QueueState)). attached_in qs q) new ∙ ap found (item_set queues q queue (Some u) there) ∙ turned.1,
      subst (λ (v : QueueState). Turned choice before after x v turned.0) same turned.2,
    )

    go : (o : Option (Option QueueState)) → slice_get queues q ≡ o → found o ≡ Some s → StepsAt q o choice before after x queues now → (t : QueueState) × (attached_in now q ≡ Some t) × Turned choice before after x s t
    go None there is made = absurd (cc is)
    go (Some None) there is made = absurd (cc is)
    go (Some (Some u)) there is made = let same : u ≡ s = cc is in one u made.0 there same made.1 made.2

-- where it isn't attached nothing happens
pub steps_unattached : (q : ℕ) (choice : Choice) (before after : Outside) (x : Stepped) (queues now : List (Option QueueState)) → attached_in queues q ≡ None → Steps q choice before after x queues now
    → (x ≡ Idle) × (attached_in now q ≡ None) × (after ≡ before)
steps_unattached q choice before after x queues now is made = go (slice_get queues q) refl is made
  where
    none : (queue : Option QueueState) → slice_get queues q ≡ Some None → now ≡ set queues q queue → queue ≡ None → attached_in now q ≡ None
    none queue there new rests = ap (λ (qs : List (Option QueueState)). attached_in qs q) new ∙ ap found (item_set queues q queue None there) ∙ rests

    go : (o : Option (Option QueueState)) → slice_get queues q ≡ o → found o ≡ None → StepsAt q o choice before after x queues now → (x ≡ Idle) × (attached_in now q ≡ None) × (after ≡ before)
    go None there is made = (made.0, ap (λ (qs : List (Option QueueState)). attached_in qs q) made.1 ∙ ap found there, made.2)
    go (Some None) there is made = let rests : StepsIn None choice before after x made.0 = made.2 in (rests.0, none made.0 there made.1 rests.1, rests.2)
    go (Some (Some u)) there is made = absurd (cc is)

-- the queues are as many
pub steps_many : (q : ℕ) (choice : Choice) (before after : Outside) (x : Stepped) (queues now : List (Option QueueState)) → Steps q choice before after x queues now → length now ≡ length queues
steps_many q choice before after x queues now made = go (slice_get queues q) made
  where
    go : (o : Option (Option QueueState)) → StepsAt q o choice before after x queues now → length now ≡ length queues
    go None made = ap (λ (qs : List (Option QueueState)). length qs) made.1
    go (Some queue) made = ap (λ (qs : List (Option QueueState)). length qs) made.1 ∙ length-set queues q made.0
