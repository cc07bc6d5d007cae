-- What the stand of a batch says of the commit test.
use Rattle.std.proofs.Common.{◌≡◌, ◌≢◌, ◌≤◌, ◌<◌, ℕ, ◌+◌, ◌-◌, ◌%◌, Bool, true, false, refl, ap, sym, ◌∙◌, subst, inl, inr, arith}
use Rattle.std.proofs.lemmas.Bool.Decides.{nat_tests}
use Rattle.std.proofs.lemmas.Bool.{cases_eq, cases_Bool}
use Rattle.vub_base.specs.declared.position.Position.{Position}
use Rattle.vub_base.specs.Positions.{same_bool, is_available, position_of, advanced}
use Rattle.vub_base.proofs.PositionLemmas.{advanced_at}
use Rattle.std.proofs.Math.Nat.{mod-lt}
use Rattle.vub_slots.specs.Slots.{IsAvailable}
use Rattle.vub_slots.specs.Stands.{IsNotShown, IsShownTo}
use Rattle.vub_slots.proofs.NumberLemmas.{positions_apart}
use Rattle.vub_infl_packed.specs.Readings.{is_committed, same_position, distance}
use Rattle.vub_infl_packed.specs.Region.{RegionWords, used, old_used, position}
use Rattle.vub_infl_packed.specs.Stores.{wrap_counter}

pub same_itself : (a : Position) → same_position a a ≡ true
same_itself a =
    let go : (b : Bool) → same_bool b b ≡ true = elim [ true ↦ refl | false ↦ refl ] in
    let w : same_bool a.wrap a.wrap ≡ true = go a.wrap in
    grind (arith, nat_tests)

make : ℕ → Bool → Position
make i b = record { index = i; wrap = b }

make-fields : (a : Position) → make a.index a.wrap ≡ a
unfolding make
make-fields a = refl

pub same_is : (a b : Position) → same_position a b ≡ true → a ≡ b
same_is a b same =
    let index : a.index ≡ b.index = grind (arith, nat_tests) in
    let go : (u v : Bool) → same_bool u v ≡ true → u ≡ v = elim [ true ↦ elim [ true ↦ λ e. refl | false ↦ λ e. absurd (cc) ] | false ↦ elim [ true ↦ λ e. absurd (cc) | false ↦ λ e. refl ] ] in
    let wraps : same_bool a.wrap b.wrap ≡ true = grind (arith, nat_tests) in
    sym (make-fields a) ∙ ap (λ i. make i a.wrap) index ∙ ap (make b.index) (go a.wrap b.wrap wraps) ∙ make-fields b

pub apart_is : (a b : Position) → a ≢ b → same_position a b ≡ false
apart_is a b apart = elim (cases_Bool (same_position a b)) [ inl same ↦ absurd (apart (same_is a b same)) | inr other ↦ other ]

-- no batch is shown: nothing is committed
pub hidden_is : (n u t v a : ℕ) (w : RegionWords) (flags : ℕ → ℕ) → v ≤ a → IsNotShown n u t v a (used w) (old_used w) flags → is_committed (flags (old_used w).index) w ≡ false
hidden_is n u t v a w flags upto g = elim (cases_eq t 0) [
  | inl none ↦
      let same : used w ≡ old_used w = g.new ∙ ap (λ k. position_of n k) (let e : u + t ≡ u = omega (arith, none) in e) ∙ sym g.old in
      let one : same_position (used w) (old_used w) ≡ true = subst (λ p. same_position (used w) p ≡ true) same (same_itself (used w)) in
      grind (arith, nat_tests)
  | inr some ↦
      let free : IsAvailable n flags u = g.rest u (omega arith) (omega (arith, g.within, some, upto)) (inl refl) in
      let at_old : is_available (flags (old_used w).index) (old_used w).wrap ≡ true = subst (λ (p : Position). is_available (flags p.index) p.wrap ≡ true) (sym g.old) free in
      grind (arith, nat_tests)
]

-- one is: it is
pub shown_is : (n u t a : ℕ) (w : RegionWords) (flags : ℕ → ℕ) → 0 < n → IsShownTo n u t a (used w) (old_used w) flags → is_committed (flags (old_used w).index) w ≡ true
shown_is n u t a w flags some g =
    let on : u - t + t ≡ u = omega (arith, g.back) in
    let moved : position_of n (u - t + t) ≢ position_of n (u - t) = positions_apart n (u - t) t some g.some g.few in
    let apart : used w ≢ old_used w = λ same. moved (ap (λ k. position_of n k) on ∙ sym g.new ∙ same ∙ g.old) in
    let differs : same_position (used w) (old_used w) ≡ false = apart_is (used w) (old_used w) apart in
    let taken : is_available (flags (old_used w).index) (old_used w).wrap ≡ false = subst (λ (p : Position). is_available (flags p.index) p.wrap ≡ false) (sym g.old) g.taken in
    grind (arith, nat_tests)

-- ---- positions

made_again : (i : ℕ) (b : Bool) → position i (wrap_counter b) ≡ make i b
unfolding make
made_again i true = refl
made_again i false = refl

-- a position is read as it was stored
pub position_again : (at : Position) → position at.index (wrap_counter at.wrap) ≡ at
position_again at = made_again at.index at.wrap ∙ make-fields at

distance_advanced : (n : ℕ) (old : Position) (by : ℕ) → old.index < n → by ≤ n → distance n old (advanced n old by) ≡ by
distance_advanced n old by low few = grind (arith, nat_tests)

-- how far two positions are apart by their numbers
pub distance_at : (n p t : ℕ) → 0 < n → t ≤ n → distance n (position_of n p) (position_of n (p + t)) ≡ t
distance_at n p t some few =
    let low : p % n < n = mod-lt p some in
    ap (distance n (position_of n p)) (sym (advanced_at n p t some few)) ∙ distance_advanced n (position_of n p) t low few
