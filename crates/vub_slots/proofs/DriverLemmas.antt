-- What a lawful driver stores keeps what is known of the slots; what stands is what is seen.
use Rattle.std.proofs.Common.{◌≡◌, ◌≤◌, ◌<◌, ℕ, ◌+◌, ◌-◌, ◌%◌, true, false, List, [], ◌∷◌, drop, refl, ap, sym, subst, inl, inr, arith}
use Rattle.std.proofs.lemmas.Bool.{cases_lt, cases_eq}
use Rattle.vub_base.specs.declared.position.Position.{Position}
use Rattle.vub_base.specs.Positions.{is_available, is_used, wrap_at}
use Rattle.vub_slots.specs.Slots.{SlotWords, with_at, IsAvailable, IsOfLap, Element, slots_of, pairs_of, IsSized, Shows, elements_from, buffer_slots, OneBuffer, Waits, buffers_from}
use Rattle.vub_slots.specs.Stands.{DriverSlots, IsSlots, Stand, Stands}
use Rattle.vub_slots.specs.Stands.Stand.{Hidden, Shown}
use Rattle.vub_slots.specs.DriverStores.{DriverStore, words_after, driver_after, offered_after, IsLawful}
use Rattle.vub_slots.specs.DriverStores.DriverStore.{Details, Ready, Offer, Collect}
use Rattle.vub_slots.proofs.NumberLemmas.{available_not_used, available_of_lap, old_not_available, old_not_used, other_lap, used_of_lap}
use Rattle.vub_slots.proofs.SlotLemmas.{other_slot, this_slot, agree_elsewhere, details_elsewhere, slot_elsewhere, flags_elsewhere, shows_agree, shows_few, waits_agree, waits_append, buffer_slots-append, firsts_of_all}
use Rattle.vub_slots.proofs.WindowLemmas.{window_readied, window_offered, window_collected, stands_driver, stands_extend}
use Rattle.vub_slots.proofs.WalkLemmas.{elements_from-shows, buffers_from-waits}

pub driver_keeps : (n : ℕ) (dr : DriverSlots) (u v a : ℕ) (r : SlotWords) (used old_used : Position) (st : Stand) (g : DriverStore) → IsLawful n dr a r g → IsSlots n dr dr.collected u v a r used old_used st
    → IsSlots n (driver_after dr g) (driver_after dr g).collected u v (offered_after dr a g) (words_after n dr a g r) used old_used st
driver_keeps n dr u v a r used old_used st (Details q addr l i) law f =
    let few = f.window.few in let ui = f.used_is in let oi = f.offered_is in let o = f.in_order in
    let r' : SlotWords = words_after n dr a (Details q addr l i) r in
    record {
      some = f.some;
      window = f.window;
      stands = f.stands;
      used_is = f.used_is;
      offered_is = f.offered_is;
      in_order = f.in_order;
      shows = shows_agree n r r' dr.collected dr.shown (agree_elsewhere n r r' q dr.collected (dr.collected + slots_of dr.shown) f.some (details_elsewhere r (q % n) addr l i) (inl (omega (arith, law.0))) (omega (arith, law.1)) (omega (arith, law.0))) f.shows;
      waits = waits_agree n r r' v dr.waiting (agree_elsewhere n r r' q v (v + buffer_slots dr.waiting) f.some (details_elsewhere r (q % n) addr l i) (inl (omega (arith, law.0))) (omega (arith, law.1)) (omega (arith, law.0))) f.waits;
    }
driver_keeps n dr u v a r used old_used st (Ready addr l i x) law f =
    let few = f.window.few in let ui = f.used_is in let oi = f.offered_is in let o = f.in_order in
    let q : ℕ = a + dr.ready + 1 in
    let r' : SlotWords = words_after n dr a (Ready addr l i x) r in
    record {
      some = f.some;
      used_is = f.used_is;
      offered_is = f.offered_is;
      in_order = f.in_order;
      window = window_readied n dr.collected a dr.known dr.ready r.flags x f.some law.0 law.1 (omega arith) f.window;
      stands = stands_driver n dr.collected u v a q x r.flags used old_used st f.some (omega arith) (omega arith) (omega arith) law.0 law.1 f.stands;
      shows = shows_agree n r r' dr.collected dr.shown (agree_elsewhere n r r' q dr.collected (dr.collected + slots_of dr.shown) f.some (slot_elsewhere r (q % n) addr l i x) (inl (omega arith)) (omega (arith, law.0)) (omega arith)) f.shows;
      waits = waits_agree n r r' v dr.waiting (agree_elsewhere n r r' q v (v + buffer_slots dr.waiting) f.some (slot_elsewhere r (q % n) addr l i x) (inl (omega arith)) (omega (arith, law.0)) (omega arith)) f.waits;
    }
driver_keeps n dr u v a r used old_used st (Offer x b) law f =
    let few = f.window.few in let ui = f.used_is in let oi = f.offered_is in let o = f.in_order in
    let r' : SlotWords = record r { flags = with_at r.flags (a % n) x } in
    let room : a + dr.ready < dr.collected + n = law.0 in
    let first : IsAvailable n r'.flags a = subst (λ y. is_available y (wrap_at n a) ≡ true) (sym (this_slot r.flags (a % n) x)) law.1 in
    let more : (p : ℕ) → a ≤ p → p < a + dr.ready + 1 → IsAvailable n r'.flags p = λ p l m. elim (cases_eq p a) [
      | inl same ↦ subst (λ k. IsAvailable n r'.flags k) (sym same) first
      | inr apart ↦ subst (λ y. is_available y (wrap_at n p) ≡ true) (sym (other_slot n r.flags p a x f.some apart (omega arith) (omega arith))) (f.window.readied law.4 p (omega arith) (omega arith))
    ] in
    let less : b.slots - 1 ≡ dr.ready = omega (arith, law.2) in
    let waits : Waits n r' v dr.waiting = waits_agree n r r' v dr.waiting (agree_elsewhere n r r' a v (v + buffer_slots dr.waiting) f.some (flags_elsewhere r (a % n) x) (inl (omega arith)) (omega arith) (omega arith)) f.waits in
    let one : OneBuffer n r' b.id (b.slots - 1) (v + buffer_slots dr.waiting) = subst (λ k. OneBuffer n r' b.id k (v + buffer_slots dr.waiting)) (sym less) (subst (λ p. OneBuffer n r' b.id dr.ready p) oi law.3) in
    record {
      some = f.some;
      used_is = f.used_is;
      in_order = f.in_order;
      offered_is = omega (arith, law.2, buffer_slots-append dr.waiting b);
      window = window_offered n dr.collected a dr.known dr.ready r.flags x f.some law.0 law.1 (omega arith) law.4 f.window;
      stands = stands_extend n u v a (a + dr.ready + 1) r'.flags used old_used st more
          (stands_driver n dr.collected u v a a x r.flags used old_used st f.some (omega arith) (omega arith) (omega arith) (omega arith) law.1 f.stands);
      shows = shows_agree n r r' dr.collected dr.shown (agree_elsewhere n r r' a dr.collected (dr.collected + slots_of dr.shown) f.some (flags_elsewhere r (a % n) x) (inl (omega arith)) (omega arith) (omega arith)) f.shows;
      waits = waits_append n r' v dr.waiting b waits (omega (arith, law.2)) one;
    }
driver_keeps n dr u v a r used old_used st (Collect e) law f =
    let ui = f.used_is in let oi = f.offered_is in let o = f.in_order in
    let shows : Shows n r dr.collected (e ∷ drop 1 dr.shown) = subst (λ es. Shows n r dr.collected es) law.0 f.shows in
    let sum : slots_of dr.shown ≡ e.slots + slots_of (drop 1 dr.shown) = ap slots_of law.0 in
    record {
      some = f.some;
      offered_is = f.offered_is;
      in_order = f.in_order;
      stands = f.stands;
      waits = f.waits;
      used_is = omega arith;
      window = window_collected n dr.collected a dr.known dr.ready e.slots r.flags f.some (omega arith) law.1 f.window;
      shows = shows.4;
    }

-- where the driver's walk ends
pub not_used_at_end : (n : ℕ) (dr : DriverSlots) (d u v a : ℕ) (r : SlotWords) (used old_used : Position) (st : Stand) → dr.known ≡ true → IsSlots n dr d u v a r used old_used st → is_used (r.flags (u % n)) (wrap_at n u) ≡ false
not_used_at_end n dr d u v a r used old_used st known f =
    let few = f.window.few in let ui = f.used_is in let oi = f.offered_is in let o = f.in_order in
    elim (cases_lt u a) [
      | inl more ↦ available_not_used n r.flags u (free_at st f.stands more)
      | inr at_end ↦ elim (cases_lt u (d + n)) [
        | inl below ↦ old_not_used n r.flags u (f.window.free known u (omega arith) below (inl (omega arith)))
        | inr full ↦
            let lap : u ≡ d + n = omega arith in
            let some = f.some in
            subst (λ j. is_used (r.flags (j % n)) (wrap_at n j) ≡ false) (sym lap) (old_not_used n r.flags (d + n) (other_lap n r.flags d f.some (f.window.outstanding known d (omega arith) (omega arith))))
      ]
    ]
  where
    free_at : (s : Stand) → Stands n u v a r.flags used old_used s → u < a → IsAvailable n r.flags u
    free_at (Hidden t) g l = g.rest u (omega arith) l (inl refl)
    free_at (Shown t) g l = g.rest u (omega arith) l

pub not_available_at_end : (n : ℕ) (dr : DriverSlots) (d u v a : ℕ) (r : SlotWords) (used old_used : Position) (st : Stand) → IsSlots n dr d u v a r used old_used st → is_available (r.flags (a % n)) (wrap_at n a) ≡ false
not_available_at_end n dr d u v a r used old_used st f =
    let few = f.window.few in let ui = f.used_is in let oi = f.offered_is in let o = f.in_order in let some = f.some in
    elim (cases_lt a (d + n)) [
      | inl below ↦ f.window.stop below
      | inr full ↦
          let lap : a ≡ d + n = omega arith in
          subst (λ j. is_available (r.flags (j % n)) (wrap_at n j) ≡ false) (sym lap) (old_not_available n r.flags (d + n) (other_lap n r.flags d f.some (first_of_lap dr.shown f.shows ui (omega arith))))
    ]
  where
    first_free : (s : Stand) → Stands n u v a r.flags used old_used s → u < a → IsAvailable n r.flags u
    first_free (Hidden t) g l = g.rest u (omega arith) l (inl refl)
    first_free (Shown t) g l = g.rest u (omega arith) l

    first_of_lap : (es : List Element) → Shows n r d es → u ≡ d + slots_of es → d < a → IsOfLap n r.flags d
    first_of_lap [] h e l = (let at : u ≡ d = omega (arith, e) in subst (λ k. IsOfLap n r.flags k) at (available_of_lap n r.flags u (first_free st f.stands (omega arith))))
    first_of_lap (x ∷ es) h e l = used_of_lap n r.flags d h.0

-- what the driver sees is what is shown
pub seen_is : (n : ℕ) (dr : DriverSlots) (u v a : ℕ) (r : SlotWords) (used old_used : Position) (st : Stand) (sizes : ℕ → ℕ) → dr.known ≡ true → IsSized sizes dr.shown → IsSlots n dr dr.collected u v a r used old_used st
    → elements_from n sizes r n dr.collected ≡ pairs_of dr.shown
seen_is n dr u v a r used old_used st sizes known sized f =
    let few = f.window.few in let ui = f.used_is in let oi = f.offered_is in let o = f.in_order in
    elements_from-shows sizes r n n dr.collected dr.shown f.shows sized (omega (arith, shows_few n r dr.collected dr.shown f.shows))
    (subst (λ j. is_used (r.flags (j % n)) (wrap_at n j) ≡ false) ui (not_used_at_end n dr dr.collected u v a r used old_used st known f))

-- and what waits is what is waiting
pub waiting_is : (n : ℕ) (dr : DriverSlots) (d u v a : ℕ) (r : SlotWords) (used old_used : Position) (st : Stand) → IsSlots n dr d u v a r used old_used st → buffers_from n r n v ≡ dr.waiting
waiting_is n dr d u v a r used old_used st f =
    let few = f.window.few in let ui = f.used_is in let oi = f.offered_is in let o = f.in_order in
    buffers_from-waits n r n v dr.waiting f.waits (firsts_of_all n r v dr.waiting f.waits (λ q x y. free_at st f.stands q x (omega arith))) (omega arith) (omega arith)
    (subst (λ j. is_available (r.flags (j % n)) (wrap_at n j) ≡ false) oi (not_available_at_end n dr d u v a r used old_used st f))
  where
    free_at : (s : Stand) → Stands n u v a r.flags used old_used s → (q : ℕ) → v ≤ q → q < a → IsAvailable n r.flags q
    free_at (Hidden t) g q x y = g.rest q (let o = f.in_order in omega arith) y (inr (let w = g.within in omega arith))
    free_at (Shown t) g q x y = g.rest q (let o = f.in_order in omega arith) y
