-- Where each step of a publication stands in its list.
use Rattle.std.proofs.Common.{◌≡◌, ℕ, zero, suc, ◌+◌, ◌*◌, ◌<◌, ◌≤◌, ◌-◌, ◌/◌, ◌%◌, Bool, true, false, List, ◌∷◌, ◌++◌, length, refl, ap, ◌∙◌, sym, arith, length-append, inl, inr}
use Rattle.std.specs.Prelude.{slice_get, Some}
use Rattle.std.proofs.lemmas.Bool.Decides.{nat_tests}
use Rattle.std.proofs.lemmas.Bool.{cases_lt}
use Rattle.vub_steps.specs.declared.steps.Step.{Step}
use Rattle.vub_steps.specs.declared.steps.Step.TheVariants.{Clear, Note}
use Rattle.vub_steps.specs.Steps.{element_step, shown_step, element_steps, clear_steps, bell_steps, show_steps, publish_steps}
use Rattle.vub_steps.proofs.StartLemmas.{behind}

-- the steps of an element are four
pub element_at : (from count e k i : ℕ) (tail : List Step) → i ≡ 4 * e + k → k < 4 → e < count → slice_get (element_steps from count ++ tail) i ≡ Some (element_step k (from + e))
element_at from zero e k i tail same four below = absurd (omega (arith, below))
element_at from (suc count) zero zero i tail same four below = let at : i ≡ 0 = omega (arith, same) in grind (arith, at)
element_at from (suc count) zero (suc zero) i tail same four below = let at : i ≡ 1 = omega (arith, same) in grind (arith, at)
element_at from (suc count) zero (suc (suc zero)) i tail same four below = let at : i ≡ 2 = omega (arith, same) in grind (arith, at)
element_at from (suc count) zero (suc (suc (suc zero))) i tail same four below = let at : i ≡ 3 = omega (arith, same) in grind (arith, at)
element_at from (suc count) zero (suc (suc (suc (suc k)))) i tail same four below = absurd (omega (arith, four))
element_at from (suc count) (suc e) k zero tail same four below = absurd (omega (arith, same))
element_at from (suc count) (suc e) k (suc zero) tail same four below = absurd (omega (arith, same))
element_at from (suc count) (suc e) k (suc (suc zero)) tail same four below = absurd (omega (arith, same))
element_at from (suc count) (suc e) k (suc (suc (suc zero))) tail same four below = absurd (omega (arith, same))
element_at from (suc count) (suc e) k (suc (suc (suc (suc i)))) tail same four below =
    let rest : slice_get (element_steps (from + 1) count ++ tail) i ≡ Some (element_step k (from + 1 + e)) = element_at (from + 1) count e k i tail (omega (arith, same)) four (omega (arith, below)) in
    let moved : from + 1 + e ≡ from + suc e = omega arith in
    rest ∙ ap (λ (j : ℕ). Some (element_step k j)) moved

pub length_elements : (from count : ℕ) → length (element_steps from count) ≡ 4 * count
length_elements from zero = refl
length_elements from (suc count) = let rest : length (element_steps (from + 1) count) ≡ 4 * count = length_elements (from + 1) count in omega (arith, rest)

pub clear_at : (from count e : ℕ) (tail : List Step) → e < count → slice_get (clear_steps from count ++ tail) e ≡ Some (Clear (from + e))
clear_at from zero e tail below = absurd (omega (arith, below))
clear_at from (suc count) zero tail below = let same : from + 0 ≡ from = omega arith in ap (λ (j : ℕ). Some (Clear j)) (sym same)
clear_at from (suc count) (suc e) tail below =
    let rest : slice_get (clear_steps (from + 1) count ++ tail) e ≡ Some (Clear (from + 1 + e)) = clear_at (from + 1) count e tail (omega (arith, below)) in
    let moved : from + 1 + e ≡ from + suc e = omega arith in
    rest ∙ ap (λ (j : ℕ). Some (Clear j)) moved

pub length_clears : (from count : ℕ) → length (clear_steps from count) ≡ count
length_clears from zero = refl
length_clears from (suc count) = let rest : length (clear_steps (from + 1) count) ≡ count = length_clears (from + 1) count in omega (arith, rest)

pub length_shows : (batch : ℕ) (bell : Bool) → length (show_steps batch bell) ≡ batch + 2 + length (bell_steps bell)
length_shows batch bell = omega (arith, length-append (clear_steps 0 batch) (Note ∷ bell_steps bell), length_clears 0 batch)

pub length_publish : (batch : ℕ) (bell : Bool) → length (publish_steps batch bell) ≡ 5 * batch + 2 + length (bell_steps bell)
length_publish batch bell = omega (arith, length-append (element_steps 0 batch) (show_steps batch bell), length_elements 0 batch, length_shows batch bell)

-- ---- by place

-- a step of an element
pub in_element : (batch : ℕ) (bell : Bool) (done : ℕ) → done < 4 * batch → slice_get (publish_steps batch bell) done ≡ Some (element_step (done % 4) (done / 4))
in_element batch bell done below =
    let there : slice_get (publish_steps batch bell) done ≡ Some (element_step (done % 4) (0 + done / 4)) = element_at 0 batch (done / 4) (done % 4) done (show_steps batch bell) (omega arith) (omega arith) (omega (arith, below)) in
    let same : 0 + done / 4 ≡ done / 4 = omega arith in
    there ∙ ap (λ (j : ℕ). Some (element_step (done % 4) j)) same

cleared_at : (batch : ℕ) (bell : Bool) (place : ℕ) → slice_get (clear_steps 0 batch ++ (Note ∷ bell_steps bell)) place ≡ shown_step batch bell (suc place)
cleared_at batch bell place = elim (cases_lt place batch) [
  | inl below ↦
      let there : slice_get (clear_steps 0 batch ++ (Note ∷ bell_steps bell)) place ≡ Some (Clear (0 + place)) = clear_at 0 batch place (Note ∷ bell_steps bell) below in
      let same : 0 + place ≡ place = omega arith in
      let step : shown_step batch bell (suc place) ≡ Some (Clear place) = grind (arith, nat_tests) in
      there ∙ ap (λ (j : ℕ). Some (Clear j)) same ∙ sym step
  | inr past ↦
      let i : ℕ = place - batch in
      let at : place ≡ batch + i = omega (arith, past) in
      let there : slice_get (clear_steps 0 batch ++ (Note ∷ bell_steps bell)) (batch + i) ≡ slice_get (Note ∷ bell_steps bell) i = behind (clear_steps 0 batch) (Note ∷ bell_steps bell) batch i (length_clears 0 batch) in
      ap (slice_get (clear_steps 0 batch ++ (Note ∷ bell_steps bell))) at ∙ there ∙ tail i bell ∙ sym (ap (λ (p : ℕ). shown_step batch bell (suc p)) at)
]
  where
    tail : (i : ℕ) (b : Bool) → slice_get (Note ∷ bell_steps b) i ≡ shown_step batch b (suc (batch + i))
    tail zero b = grind (arith, nat_tests)
    tail (suc zero) true = grind (arith, nat_tests)
    tail (suc zero) false = grind (arith, nat_tests)
    tail (suc (suc i)) true = grind (arith, nat_tests)
    tail (suc (suc i)) false = grind (arith, nat_tests)

-- one behind the elements
pub shows_at : (batch : ℕ) (bell : Bool) (place : ℕ) → slice_get (publish_steps batch bell) (4 * batch + place) ≡ shown_step batch bell place
shows_at batch bell place = behind (element_steps 0 batch) (show_steps batch bell) (4 * batch) place (length_elements 0 batch) ∙ go place
  where
    go : (p : ℕ) → slice_get (show_steps batch bell) p ≡ shown_step batch bell p
    go zero = refl
    go (suc p) = cleared_at batch bell p

pub past_elements : (batch : ℕ) (bell : Bool) (done : ℕ) → 4 * batch ≤ done → slice_get (publish_steps batch bell) done ≡ shown_step batch bell (done - 4 * batch)
past_elements batch bell done past =
    let at : done ≡ 4 * batch + (done - 4 * batch) = omega (arith, past) in
    ap (slice_get (publish_steps batch bell)) at ∙ shows_at batch bell (done - 4 * batch)
