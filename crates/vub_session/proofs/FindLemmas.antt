-- Look-ups, one after another.
use Rattle.std.proofs.Common.{◌≡◌, ◌⊎◌, ℕ, zero, suc, Bool, List, [], ◌∷◌, ◌++◌, length, Option, Some, inl, inr, refl, sym, ◌∙◌, ap, subst, arith}
use Rattle.std.specs.Prelude.{slice_get}
use Rattle.vub_session.specs.Finds.{AreFound, IsFound, OnlyFinds}
use Rattle.vub_session.specs.declared.finding.Found.{Found}
use Rattle.vub_shared.specs.Bytes.{Bytes}
use Rattle.vub_shared.specs.Spaces.{KeepsHanded, Names}
use Rattle.vub_shared.specs.Stores.{Store}

pub finds_after : {M : Type 0} → (told : M → Option Bytes) (trail : M → Option (List Store)) (names : M → Option Names) (handed : M → ℕ → Bool) (sizes : M → ℕ → ℕ) (a b c : M)
    → OnlyFinds told trail names handed sizes a b → OnlyFinds told trail names handed sizes b c → OnlyFinds told trail names handed sizes a c
finds_after told trail names handed sizes a b c first second = record {
  same_told = second.same_told ∙ first.same_told;
  same_trail = second.same_trail ∙ first.same_trail;
  same_names = second.same_names ∙ first.same_names;
  keeps = record {
    handed = λ s h. second.keeps.handed s (first.keeps.handed s h);
    sizes = λ s h. second.keeps.sizes s (first.keeps.handed s h) ∙ first.keeps.sizes s h;
  };
}

last_or : (fs : List Found) (f g : Found) (k : ℕ) → slice_get (fs ++ f ∷ []) k ≡ Some g → (slice_get fs k ≡ Some g) ⊎ ((k ≡ length fs) × (f ≡ g))
last_or [] f g zero e = inr (refl, cc)
last_or [] f g (suc k) e = absurd (cc)
last_or (x ∷ fs) f g zero e = inl e
last_or (x ∷ fs) f g (suc k) e = elim (last_or fs f g k e) [ inl h ↦ inl h | inr h ↦ inr (grind arith, h.1) ]

kept : (told : Option Names) (handed new_handed : ℕ → Bool) (sizes new_sizes : ℕ → ℕ) (name : List ℕ) (f : Found) → KeepsHanded handed sizes new_handed new_sizes → IsFound told handed sizes name f → IsFound told new_handed new_sizes name f
kept told handed new_handed sizes new_sizes name f keeps h = record {
  means = h.means;
  is_handed = keeps.handed f.space.number h.is_handed;
  sized = keeps.sizes f.space.number h.is_handed ∙ h.sized;
}

some_same : (a b : List ℕ) → Some a ≡ Some b → a ≡ b
some_same a b e = cc

pub found_more : (told now_told : Option Names) (handed new_handed : ℕ → Bool) (sizes new_sizes : ℕ → ℕ) (names : List (List ℕ)) (fs : List Found) (name : List ℕ) (f : Found)
    → now_told ≡ told → KeepsHanded handed sizes new_handed new_sizes → AreFound told handed sizes names fs → slice_get names (length fs) ≡ Some name → IsFound now_told new_handed new_sizes name f
    → AreFound told new_handed new_sizes names (fs ++ f ∷ [])
found_more told now_told handed new_handed sizes new_sizes names fs name f same keeps old at h = λ k other g at_name at_found.
    elim (last_or fs f g k at_found) [
      | inl before ↦ kept told handed new_handed sizes new_sizes other g keeps (old k other g at_name before)
      | inr last ↦
          let T : Option Names → Type 0 = λ t. IsFound t new_handed new_sizes name f in
          let now : IsFound told new_handed new_sizes name f = subst T same h in
          let N : List ℕ → Type 0 = λ n. IsFound told new_handed new_sizes n f in
          let G : Found → Type 0 = λ x. IsFound told new_handed new_sizes other x in
          let same_name : name ≡ other = some_same name other (sym at ∙ (ap (λ i. slice_get names i) (sym last.0) ∙ at_name)) in
          subst G last.1 (subst N same_name now)
    ]
