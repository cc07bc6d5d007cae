-- What a call leaves: at equal stores, and two calls one after the other.
use Rattle.std.proofs.Common.{◌≡◌, ℕ, Bool, List, ◌∙◌, subst}
use Rattle.std.specs.Prelude.{Option, Result}
use Rattle.vub_shared.specs.Bytes.{Bytes}
use Rattle.vub_shared.specs.Spaces.{Names}
use Rattle.vub_shared.specs.Stores.{Store, Stores, Trails, one_store}
use Rattle.vub_shared.specs.Frames.{OnlyLoads, MakesStore}

pub makes_same : {M T E : Type 0} (told : M → Option Bytes) (trail : M → Option (List Store)) (names : M → Option Names) (handed : M → ℕ → Bool) (sizes : M → ℕ → ℕ) (before now : M) (result : Result T E) (space : ℕ) (place place' : ℕ) (bytes bytes' : List ℕ)
    → place ≡ place' → bytes ≡ bytes' → MakesStore told trail names handed sizes before now result (one_store space place bytes) → MakesStore told trail names handed sizes before now result (one_store space place' bytes')
makes_same told trail names handed sizes before now result space place place' bytes bytes' same same' made =
    subst (λ (p : ℕ). MakesStore told trail names handed sizes before now result (one_store space p bytes')) same
    (subst (λ (bs : List ℕ). MakesStore told trail names handed sizes before now result (one_store space place bs)) same' made)

-- two calls that only load
pub loads_twice : {M : Type 0} (told : M → Option Bytes) (trail : M → Option (List Store)) (names : M → Option Names) (handed : M → ℕ → Bool) (sizes : M → ℕ → ℕ) (a b c : M)
    → OnlyLoads told trail names handed sizes a b → OnlyLoads told trail names handed sizes b c → OnlyLoads told trail names handed sizes a c
loads_twice told trail names handed sizes a b c first second = record {
  same_told = second.same_told ∙ first.same_told;
  same_trail = second.same_trail ∙ first.same_trail;
  spaces = record {
    same_names = second.spaces.same_names ∙ first.spaces.same_names;
    same_handed = λ s. second.spaces.same_handed s ∙ first.spaces.same_handed s;
    same_sizes = λ s. second.spaces.same_sizes s ∙ first.spaces.same_sizes s;
  };
}

-- a call that only loads, and one that makes a store
pub loads_before : {M T E : Type 0} (told : M → Option Bytes) (trail : M → Option (List Store)) (names : M → Option Names) (handed : M → ℕ → Bool) (sizes : M → ℕ → ℕ) (a b c : M) (result : Result T E) (st : Store)
    → OnlyLoads told trail names handed sizes a b → MakesStore told trail names handed sizes b c result st → MakesStore told trail names handed sizes a c result st
loads_before told trail names handed sizes a b c result st first second = record {
  stored = subst (λ (o : Option Bytes). Stores o (told c) result st) first.same_told second.stored;
  trailed = subst (λ (o : Option (List Store)). Trails o (trail c) result st) first.same_trail second.trailed;
  spaces = record {
    same_names = second.spaces.same_names ∙ first.spaces.same_names;
    same_handed = λ s. second.spaces.same_handed s ∙ first.spaces.same_handed s;
    same_sizes = λ s. second.spaces.same_sizes s ∙ first.spaces.same_sizes s;
  };
}
