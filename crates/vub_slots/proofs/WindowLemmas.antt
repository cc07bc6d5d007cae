-- The window of outstanding slots, and a batch under way, as driver and device store in them.
use Rattle.std.proofs.Common.{◌≡◌, ◌≢◌, ◌≤◌, ◌<◌, ◌⊎◌, ℕ, ◌+◌, ◌-◌, ◌%◌, Bool, true, false, sym, ◌∙◌, subst, inl, inr, arith}
use Rattle.std.proofs.lemmas.Bool.Decides.{nat_tests}
use Rattle.std.proofs.lemmas.Bool.{cases_lt, cases_eq}
use Rattle.vub_base.specs.declared.position.Position.{Position}
use Rattle.vub_base.specs.Positions.{avail_bit, same_bool, is_available, wrap_at}
use Rattle.vub_slots.specs.Slots.{with_at, IsAvailable, IsOfLap, IsNotOfLap}
use Rattle.vub_slots.specs.Stands.{IsWindow, IsNotShown, IsShownTo, Stand, Stands}
use Rattle.vub_slots.specs.Stands.Stand.{Hidden, Shown}
use Rattle.vub_slots.proofs.NumberLemmas.{slot_lap, slots_apart, other_lap, available_of_lap, old_not_available, next_not_available}
use Rattle.vub_slots.proofs.SlotLemmas.{other_slot, this_slot}

-- a store of flags of this lap in an outstanding slot
pub window_device : (n d a : ℕ) (known : Bool) (ready : ℕ) (flags : ℕ → ℕ) (q x : ℕ) → 0 < n → d ≤ q → q < a → same_bool (avail_bit x) (wrap_at n q) ≡ true → IsWindow n d a known ready flags → IsWindow n d a known ready (with_at flags (q % n) x)
window_device n d a known ready flags q x some from upto lap f =
    let at_p : (P : ℕ → Bool → Type 0) (p : ℕ) → p ≢ q → d ≤ p → p < d + n → P (flags (p % n)) (wrap_at n p) → P (with_at flags (q % n) x (p % n)) (wrap_at n p) =
    λ P p apart above below. subst (λ v. P v (wrap_at n p)) (sym (other_slot n flags p q x some apart (omega (arith, f.few)) (omega (arith, f.few)))) in
    record {
      few = f.few;
      stop = λ l. at_p (λ v w. is_available v w ≡ false) a (λ e. omega (arith, e)) (omega arith) l (f.stop l);
      room = f.room;
      outstanding = λ g p above below. elim (cases_eq p q) [
        | inl same ↦ subst (λ k. same_bool (avail_bit (with_at flags (q % n) x (k % n))) (wrap_at n k) ≡ true) (sym same) (subst (λ v. same_bool (avail_bit v) (wrap_at n q) ≡ true) (sym (this_slot flags (q % n) x)) lap)
        | inr apart ↦ at_p (λ v w. same_bool (avail_bit v) w ≡ true) p apart above (omega (arith, f.few)) (f.outstanding g p above below)
      ];
      readied = λ g p above below. at_p (λ v w. is_available v w ≡ true) p (λ e. omega (arith, e)) (omega arith) (let room = f.room g in omega arith) (f.readied g p above below);
      free = λ g p above below which. at_p (λ v w. same_bool (avail_bit v) w ≡ false) p (λ e. omega (arith, e)) (omega arith) below (f.free g p above below which);
    }

-- the driver makes the next slot ready
pub window_readied : (n d a : ℕ) (known : Bool) (ready : ℕ) (flags : ℕ → ℕ) (x : ℕ) → 0 < n → a + ready + 1 < d + n → is_available x (wrap_at n (a + ready + 1)) ≡ true → d ≤ a → IsWindow n d a known ready flags
    → IsWindow n d a known (ready + 1) (with_at flags ((a + ready + 1) % n) x)
window_readied n d a known ready flags x some room new from f =
    let q : ℕ = a + ready + 1 in
    let at_p : (P : ℕ → Bool → Type 0) (p : ℕ) → p ≢ q → d ≤ p → p < d + n → P (flags (p % n)) (wrap_at n p) → P (with_at flags (q % n) x (p % n)) (wrap_at n p) =
    λ P p apart above below. subst (λ v. P v (wrap_at n p)) (sym (other_slot n flags p q x some apart (omega arith) (omega arith))) in
    record {
      few = f.few;
      stop = λ l. at_p (λ v w. is_available v w ≡ false) a (λ e. omega (arith, e)) from l (f.stop l);
      room = λ g h. omega arith;
      outstanding = λ g p above below. at_p (λ v w. same_bool (avail_bit v) w ≡ true) p (λ e. omega (arith, e)) above (omega arith) (f.outstanding g p above below);
      readied = λ g p above below. elim (cases_eq p q) [
        | inl same ↦ subst (λ k. is_available (with_at flags (q % n) x (k % n)) (wrap_at n k) ≡ true) (sym same) (subst (λ v. is_available v (wrap_at n q) ≡ true) (sym (this_slot flags (q % n) x)) new)
        | inr apart ↦ at_p (λ v w. is_available v w ≡ true) p apart (omega arith) (omega arith) (f.readied g p above (omega arith))
      ];
      free = λ g p above below which.
          let apart : p ≢ q = λ e. elim which [ inl here ↦ omega (arith, e, here) | inr past ↦ omega (arith, e, past) ] in
          let old : (p ≡ a) ⊎ (a + ready < p) = elim which [ inl here ↦ inl here | inr past ↦ inr (omega arith) ] in
          at_p (λ v w. same_bool (avail_bit v) w ≡ false) p apart (omega arith) below (f.free g p above below old);
    }

-- the driver offers: the head's flags
pub window_offered : (n d a : ℕ) (known : Bool) (ready : ℕ) (flags : ℕ → ℕ) (x : ℕ) → 0 < n → a + ready < d + n → is_available x (wrap_at n a) ≡ true → d ≤ a → known ≡ true → IsWindow n d a known ready flags
    → IsWindow n d (a + ready + 1) known 0 (with_at flags (a % n) x)
window_offered n d a known ready flags x some room new from g f =
    let q : ℕ = a in
    let at_p : (P : ℕ → Bool → Type 0) (p : ℕ) → p ≢ q → d ≤ p → p < d + n → P (flags (p % n)) (wrap_at n p) → P (with_at flags (q % n) x (p % n)) (wrap_at n p) =
    λ P p apart above below. subst (λ v. P v (wrap_at n p)) (sym (other_slot n flags p q x some apart (omega arith) (omega arith))) in
    record {
      few = omega arith;
      stop = λ l. at_p (λ v w. is_available v w ≡ false) (a + ready + 1) (λ e. omega (arith, e)) (omega arith) l (old_not_available n flags (a + ready + 1) (f.free g (a + ready + 1) (omega arith) l (inr (omega arith))));
      room = λ k h. absurd (omega arith);
      outstanding = λ g p above below. elim (cases_eq p q) [
        | inl same ↦ subst (λ k. same_bool (avail_bit (with_at flags (q % n) x (k % n))) (wrap_at n k) ≡ true) (sym same) (subst (λ v. same_bool (avail_bit v) (wrap_at n q) ≡ true) (sym (this_slot flags (q % n) x)) (grind (arith, nat_tests)))
        | inr apart ↦ at_p (λ v w. same_bool (avail_bit v) w ≡ true) p apart above (omega arith) (elim (cases_lt p a) [
          | inl less ↦ f.outstanding g p above less
          | inr more ↦ available_of_lap n flags p (f.readied g p (omega arith) (omega arith))
        ])
      ];
      readied = λ k p above below. absurd (omega arith);
      free = λ k p above below which. at_p (λ v w. same_bool (avail_bit v) w ≡ false) p (λ e. omega (arith, e)) (omega arith) below (f.free k p (omega arith) below (inr (omega arith)));
    }

-- the driver collects: slots of the lap before are free again
pub window_collected : (n d a : ℕ) (known : Bool) (ready k : ℕ) (flags : ℕ → ℕ) → 0 < n → d + k ≤ a → known ≡ true → IsWindow n d a known ready flags → IsWindow n (d + k) a known ready flags
window_collected n d a known ready k flags some upto g f = record {
  few = omega (arith, f.few);
  stop = λ l. elim (cases_lt a (d + n)) [
    | inl below ↦ f.stop below
    | inr full ↦ (let few = f.few in let lap : a ≡ d + n = omega arith in subst (λ j. is_available (flags (j % n)) (wrap_at n j) ≡ false) (sym lap) (old_not_available n flags (d + n) (other_lap n flags d some (f.outstanding g d (omega arith) (omega arith)))))
  ];
  room = λ g h. (let room = f.room g h in omega arith);
  outstanding = λ g p above below. f.outstanding g p (omega arith) below;
  readied = f.readied;
  free = λ g p above below which. elim (cases_lt p (d + n)) [
    | inl old ↦ f.free g p above old which
    | inr again ↦
        let back : p ≡ (p - n) + n = omega arith in
        subst (λ j. IsNotOfLap n flags j) (sym back) (other_lap n flags (p - n) some (f.outstanding g (p - n) (omega arith) (omega arith)))
  ];
}

-- the driver's stores are in free slots: they keep a batch that isn't shown
pub not_shown_driver : (n d a u t v q x : ℕ) (used old_used : Position) (flags : ℕ → ℕ) → 0 < n → d ≤ u → a ≤ q → q < d + n → IsNotShown n u t v a used old_used flags → IsNotShown n u t v a used old_used (with_at flags (q % n) x)
not_shown_driver n d a u t v q x used old_used flags some from above below g = record {
  old = g.old;
  new = g.new;
  within = g.within;
  rest = λ p l m which. subst (λ y. is_available y (wrap_at n p) ≡ true) (sym (other_slot n flags p q x some (λ e. omega (arith, e)) (omega arith) (omega arith))) (g.rest p l m which);
}

-- and a batch that is shown stays so, also where its first slot is offered again
pub shown_driver : (n d a u t q x : ℕ) (used old_used : Position) (flags : ℕ → ℕ) → 0 < n → d ≤ u → u ≤ a → a ≤ q → q < d + n → is_available x (wrap_at n q) ≡ true
    → IsShownTo n u t a used old_used flags → IsShownTo n u t a used old_used (with_at flags (q % n) x)
shown_driver n d a u t q x used old_used flags some from upto above below new g = record {
  some = g.some;
  few = g.few;
  back = g.back;
  old = g.old;
  new = g.new;
  taken = (let back = g.back in let few = g.few in let on = g.some in elim (cases_eq q (u - t + n)) [
    | inl again ↦
        let lap : IsOfLap n (with_at flags (q % n) x) (u - t + n) =
        subst (λ j. IsOfLap n (with_at flags (q % n) x) j) again (available_of_lap n (with_at flags (q % n) x) q (subst (λ y. is_available y (wrap_at n q) ≡ true) (sym (this_slot flags (q % n) x)) new)) in
        next_not_available n (with_at flags (q % n) x) (u - t) some lap
    | inr other ↦
        let apart : (u - t + n) % n ≢ q % n = slots_apart n (u - t + n) q some (λ e. other (sym e)) (omega arith) (omega arith) in
        let same : with_at flags (q % n) x ((u - t) % n) ≡ flags ((u - t) % n) = (let lap : (u - t + n) % n ≡ (u - t) % n = slot_lap n (u - t) in let no : (u - t) % n ≢ q % n = λ e. apart (lap ∙ e) in grind (arith, nat_tests)) in
        subst (λ y. is_available y (wrap_at n (u - t)) ≡ false) (sym same) g.taken
  ]);
  rest = λ p l m. subst (λ y. is_available y (wrap_at n p) ≡ true) (sym (other_slot n flags p q x some (λ e. omega (arith, e)) (omega arith) (omega arith))) (g.rest p l m);
}

pub stands_driver : (n d u v a q x : ℕ) (flags : ℕ → ℕ) (used old_used : Position) (st : Stand) → 0 < n → d ≤ u → u ≤ a → a ≤ q → q < d + n → is_available x (wrap_at n q) ≡ true
    → Stands n u v a flags used old_used st → Stands n u v a (with_at flags (q % n) x) used old_used st
stands_driver n d u v a q x flags used old_used (Hidden t) some from upto above below new g = not_shown_driver n d a u t v q x used old_used flags some from above below g
stands_driver n d u v a q x flags used old_used (Shown t) some from upto above below new g = shown_driver n d a u t q x used old_used flags some from upto above below new g

pub stands_extend : (n u v a a' : ℕ) (flags : ℕ → ℕ) (used old_used : Position) (st : Stand) → ((p : ℕ) → a ≤ p → p < a' → IsAvailable n flags p) → Stands n u v a flags used old_used st → Stands n u v a' flags used old_used st
stands_extend n u v a a' flags used old_used (Hidden t) more g = record {
  old = g.old;
  new = g.new;
  within = g.within;
  rest = λ p l m which. elim (cases_lt p a) [ inl before ↦ g.rest p l before which | inr past ↦ more p past m ];
}
stands_extend n u v a a' flags used old_used (Shown t) more g = record {
  some = g.some;
  few = g.few;
  back = g.back;
  old = g.old;
  new = g.new;
  taken = g.taken;
  rest = λ p l m. elim (cases_lt p a) [ inl before ↦ g.rest p l before | inr past ↦ more p past m ];
}
