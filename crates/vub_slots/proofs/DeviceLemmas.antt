-- What the device stores in outstanding slots keeps what is known of all.
use Rattle.std.proofs.Common.{◌≡◌, ◌≤◌, ◌<◌, ℕ, ◌+◌, ◌-◌, ◌%◌, true, false, List, ◌∷◌, ◌++◌, refl, ap, sym, ◌∙◌, subst, inl, inr, arith}
use Rattle.std.proofs.lemmas.Bool.Decides.{nat_tests}
use Rattle.std.proofs.lemmas.Bool.{cases_lt, cases_eq}
use Rattle.vub_base.specs.declared.position.Position.{Position}
use Rattle.vub_base.specs.Positions.{avail_bit, same_bool, is_available, is_used, wrap_at, position_of}
use Rattle.vub_slots.specs.Slots.{SlotWords, with_at, IsAvailable, Element, slots_of, Shows, Buffer, buffer_slots, Waits}
use Rattle.vub_slots.specs.Stands.{DriverSlots, IsWindow, Stand, Stands, IsSlots}
use Rattle.vub_slots.specs.Stands.Stand.{Hidden, Shown}
use Rattle.vub_slots.proofs.SlotLemmas.{other_slot, this_slot, Elsewhere, agree_elsewhere, len_elsewhere, id_elsewhere, flags_elsewhere, shows_agree, shows_append, slots_of-append, waits_agree}
use Rattle.vub_slots.proofs.WindowLemmas.{window_device}

-- words that differ in a slot of open requests, and not in its flags
slots_beside : (n : ℕ) (dr : DriverSlots) (d u v a : ℕ) (r s : SlotWords) (used old_used : Position) (st : Stand) (q : ℕ) → u ≤ q → q < v → Elsewhere (q % n) r s → r.flags ≡ s.flags → IsSlots n dr d u v a r used old_used st
    → IsSlots n dr d u v a s used old_used st
slots_beside n dr d u v a r s used old_used st q from upto same flags f = (let few = f.window.few in let ui = f.used_is in let oi = f.offered_is in record {
  some = f.some;
  window = subst (λ x. IsWindow n d a dr.known dr.ready x) flags f.window;
  stands = subst (λ x. Stands n u v a x used old_used st) flags f.stands;
  used_is = f.used_is;
  offered_is = f.offered_is;
  in_order = f.in_order;
  shows = shows_agree n r s d dr.shown (agree_elsewhere n r s q d (d + slots_of dr.shown) f.some same (inl (omega arith)) (omega arith) (omega arith)) f.shows;
  waits = waits_agree n r s v dr.waiting (agree_elsewhere n r s q v (v + buffer_slots dr.waiting) f.some same (inr (omega arith)) (omega arith) (omega arith)) f.waits;
})

-- len and id of a slot of open requests
pub slots_len : (n : ℕ) (dr : DriverSlots) (d u v a : ℕ) (r : SlotWords) (used old_used : Position) (st : Stand) (q x : ℕ) → u ≤ q → q < v → IsSlots n dr d u v a r used old_used st
    → IsSlots n dr d u v a (record r { len = with_at r.len (q % n) x }) used old_used st
slots_len n dr d u v a r used old_used st q x from upto f = slots_beside n dr d u v a r (record r { len = with_at r.len (q % n) x }) used old_used st q from upto (len_elsewhere r (q % n) x) refl f

pub slots_id : (n : ℕ) (dr : DriverSlots) (d u v a : ℕ) (r : SlotWords) (used old_used : Position) (st : Stand) (q x : ℕ) → u ≤ q → q < v → IsSlots n dr d u v a r used old_used st
    → IsSlots n dr d u v a (record r { id = with_at r.id (q % n) x }) used old_used st
slots_id n dr d u v a r used old_used st q x from upto f = slots_beside n dr d u v a r (record r { id = with_at r.id (q % n) x }) used old_used st q from upto (id_elsewhere r (q % n) x) refl f

-- flags of this lap in a slot of a batch that isn't shown, but not in its first
pub slots_carried : (n : ℕ) (dr : DriverSlots) (d u v a : ℕ) (r : SlotWords) (used old_used : Position) (t q x : ℕ) → u < q → q < u + t → same_bool (avail_bit x) (wrap_at n q) ≡ true
    → IsSlots n dr d u v a r used old_used (Hidden t) → IsSlots n dr d u v a (record r { flags = with_at r.flags (q % n) x }) used old_used (Hidden t)
slots_carried n dr d u v a r used old_used t q x from upto lap f =
    let few = f.window.few in let ui = f.used_is in let oi = f.offered_is in let within = f.stands.within in
    record {
      some = f.some;
      used_is = f.used_is;
      offered_is = f.offered_is;
      in_order = f.in_order;
      window = window_device n d a dr.known dr.ready r.flags q x f.some (omega arith) (omega arith) lap f.window;
      stands = record {
        old = f.stands.old;
        new = f.stands.new;
        within = f.stands.within;
        rest = λ p l m which. subst (λ y. is_available y (wrap_at n p) ≡ true) (sym (other_slot n r.flags p q x f.some (λ e. elim which [ inl b ↦ omega (arith, e, b) | inr c ↦ omega (arith, e, c) ]) (omega arith) (omega arith))) (f.stands.rest p l m which);
      };
      shows = shows_agree n r (record r { flags = with_at r.flags (q % n) x }) d dr.shown (agree_elsewhere n r (record r { flags = with_at r.flags (q % n) x }) q d (d + slots_of dr.shown) f.some (flags_elsewhere r (q % n) x) (inl (omega arith)) (omega arith) (omega arith)) f.shows;
      waits = waits_agree n r (record r { flags = with_at r.flags (q % n) x }) v dr.waiting (agree_elsewhere n r (record r { flags = with_at r.flags (q % n) x }) q v (v + buffer_slots dr.waiting) f.some (flags_elsewhere r (q % n) x) (inr (omega arith)) (omega arith) (omega arith)) f.waits;
    }

-- a roll back makes a slot of the batch is_available again
pub slots_restored : (n : ℕ) (dr : DriverSlots) (d u v a : ℕ) (r : SlotWords) (used old_used : Position) (t q x : ℕ) → u ≤ q → q < u + t → is_available x (wrap_at n q) ≡ true
    → IsSlots n dr d u v a r used old_used (Hidden t) → IsSlots n dr d u v a (record r { flags = with_at r.flags (q % n) x }) used old_used (Hidden t)
slots_restored n dr d u v a r used old_used t q x from upto new f =
    let few = f.window.few in let ui = f.used_is in let oi = f.offered_is in let within = f.stands.within in
    record {
      some = f.some;
      used_is = f.used_is;
      offered_is = f.offered_is;
      in_order = f.in_order;
      window = window_device n d a dr.known dr.ready r.flags q x f.some (omega arith) (omega arith) (grind (arith, nat_tests)) f.window;
      stands = record {
        old = f.stands.old;
        new = f.stands.new;
        within = f.stands.within;
        rest = λ p l m which. elim (cases_eq p q) [
          | inl same ↦ subst (λ k. is_available (with_at r.flags (q % n) x (k % n)) (wrap_at n k) ≡ true) (sym same) (subst (λ y. is_available y (wrap_at n q) ≡ true) (sym (this_slot r.flags (q % n) x)) new)
          | inr apart ↦ subst (λ y. is_available y (wrap_at n p) ≡ true) (sym (other_slot n r.flags p q x f.some apart (omega arith) (omega arith))) (f.stands.rest p l m which)
        ];
      };
      shows = shows_agree n r (record r { flags = with_at r.flags (q % n) x }) d dr.shown (agree_elsewhere n r (record r { flags = with_at r.flags (q % n) x }) q d (d + slots_of dr.shown) f.some (flags_elsewhere r (q % n) x) (inl (omega arith)) (omega arith) (omega arith)) f.shows;
      waits = waits_agree n r (record r { flags = with_at r.flags (q % n) x }) v dr.waiting (agree_elsewhere n r (record r { flags = with_at r.flags (q % n) x }) q v (v + buffer_slots dr.waiting) f.some (flags_elsewhere r (q % n) x) (inr (omega arith)) (omega arith) (omega arith)) f.waits;
    }

-- the flags of the first element show the batch: the driver sees its elements after the others
pub slots_shown : (n : ℕ) (dr : DriverSlots) (d u v a : ℕ) (r : SlotWords) (used old_used : Position) (t x : ℕ) (es : List Element) → 0 < t → slots_of es ≡ t → is_used x (wrap_at n u) ≡ true
    → Shows n (record r { flags = with_at r.flags (u % n) x }) u es
    → IsSlots n dr d u v a r used old_used (Hidden t) → IsSlots n (record dr { shown = dr.shown ++ es }) d (u + t) v a (record r { flags = with_at r.flags (u % n) x }) used old_used (Shown t)
slots_shown n dr d u v a r used old_used t x es some_t sum new carried f =
    let few = f.window.few in let ui = f.used_is in let oi = f.offered_is in let within = f.stands.within in
    let back : u + t - t ≡ u = omega arith in
    record {
      some = f.some;
      offered_is = f.offered_is;
      used_is = omega (arith, slots_of-append dr.shown es);
      in_order = f.stands.within;
      window = window_device n d a dr.known dr.ready r.flags u x f.some (omega arith) (omega arith) (grind (arith, nat_tests)) f.window;
      stands = record {
        some = some_t;
        few = omega arith;
        back = omega arith;
        old = f.stands.old ∙ ap (λ k. position_of n k) (sym back);
        new = f.stands.new;
        taken = subst (λ k. is_available (with_at r.flags (u % n) x (k % n)) (wrap_at n k) ≡ false) (sym back)
            (subst (λ y. is_available y (wrap_at n u) ≡ false) (sym (this_slot r.flags (u % n) x)) (grind (arith, nat_tests)));
        rest = λ p l m. subst (λ y. is_available y (wrap_at n p) ≡ true) (sym (other_slot n r.flags p u x f.some (λ e. omega (arith, e)) (omega arith) (omega arith))) (f.stands.rest p (omega arith) m (inr l));
      };
      shows = shows_append n (record r { flags = with_at r.flags (u % n) x }) d dr.shown es
          (shows_agree n r (record r { flags = with_at r.flags (u % n) x }) d dr.shown (agree_elsewhere n r (record r { flags = with_at r.flags (u % n) x }) u d (d + slots_of dr.shown) f.some (flags_elsewhere r (u % n) x) (inl (omega arith)) (omega arith) (omega arith)) f.shows)
          (subst (λ k. Shows n (record r { flags = with_at r.flags (u % n) x }) k es) ui carried);
      waits = waits_agree n r (record r { flags = with_at r.flags (u % n) x }) v dr.waiting (agree_elsewhere n r (record r { flags = with_at r.flags (u % n) x }) u v (v + buffer_slots dr.waiting) f.some (flags_elsewhere r (u % n) x) (inr (omega arith)) (omega arith) (omega arith)) f.waits;
    }

-- the used word: the position moves on, is noted, or goes back
pub slots_moved : (n : ℕ) (dr : DriverSlots) (d u v a : ℕ) (r : SlotWords) (used used' old_used : Position) (t : ℕ) → u + t ≤ v → used' ≡ position_of n (u + t)
    → IsSlots n dr d u v a r used old_used (Hidden 0) → IsSlots n dr d u v a r used' old_used (Hidden t)
slots_moved n dr d u v a r used used' old_used t within is f = record {
  some = f.some;
  window = f.window;
  shows = f.shows;
  waits = f.waits;
  used_is = f.used_is;
  offered_is = f.offered_is;
  in_order = f.in_order;
  stands = record { old = f.stands.old; new = is; within = within; rest = λ p l m which. f.stands.rest p l m (inr (omega arith)) };
}

pub slots_noted : (n : ℕ) (dr : DriverSlots) (d u v a : ℕ) (r : SlotWords) (used old_used : Position) (t : ℕ) → IsSlots n dr d u v a r used old_used (Shown t) → IsSlots n dr d u v a r used used (Hidden 0)
slots_noted n dr d u v a r used old_used t f = record {
  some = f.some;
  window = f.window;
  shows = f.shows;
  waits = f.waits;
  used_is = f.used_is;
  offered_is = f.offered_is;
  in_order = f.in_order;
  stands = record { old = f.stands.new; new = f.stands.new ∙ ap (λ k. position_of n k) (let e : u ≡ u + 0 = omega arith in e); within = (let o = f.in_order in omega arith); rest = λ p l m which. f.stands.rest p l m };
}

pub slots_back : (n : ℕ) (dr : DriverSlots) (d u v a : ℕ) (r : SlotWords) (used old_used : Position) (t : ℕ) → ((p : ℕ) → u ≤ p → p < u + t → IsAvailable n r.flags p)
    → IsSlots n dr d u v a r used old_used (Hidden t) → IsSlots n dr d u v a r old_used old_used (Hidden 0)
slots_back n dr d u v a r used old_used t restored f = record {
  some = f.some;
  window = f.window;
  shows = f.shows;
  waits = f.waits;
  used_is = f.used_is;
  offered_is = f.offered_is;
  in_order = f.in_order;
  stands = record {
    old = f.stands.old;
    new = f.stands.old ∙ ap (λ k. position_of n k) (let e : u ≡ u + 0 = omega arith in e);
    within = (let o = f.in_order in omega arith);
    rest = λ p l m which. elim (cases_lt p (u + t)) [ inl inside ↦ restored p l inside | inr past ↦ f.stands.rest p l m (inr past) ];
  };
}

-- a fetch is accepted: the first buffer that waits is open
pub slots_accepted : (n : ℕ) (dr : DriverSlots) (d u v a : ℕ) (r : SlotWords) (used old_used : Position) (b : Buffer) (bs : List Buffer) → dr.waiting ≡ b ∷ bs
    → IsSlots n dr d u v a r used old_used (Hidden 0) → IsSlots n (record dr { waiting = bs }) d u (v + b.slots) a r used old_used (Hidden 0)
slots_accepted n dr d u v a r used old_used b bs is f =
    let waits : Waits n r v (b ∷ bs) = subst (λ xs. Waits n r v xs) is f.waits in
    let sum : buffer_slots dr.waiting ≡ b.slots + buffer_slots bs = ap buffer_slots is in
    let o = f.in_order in let oi = f.offered_is in
    record {
      some = f.some;
      window = f.window;
      shows = f.shows;
      waits = waits.2;
      used_is = f.used_is;
      offered_is = omega arith;
      in_order = omega arith;
      stands = record { old = f.stands.old; new = f.stands.new; within = omega arith; rest = f.stands.rest };
    }
