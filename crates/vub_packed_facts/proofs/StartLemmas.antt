-- A start over a region that was made, store by store: cut off anywhere, the next one finds the same open heads.
use Rattle.std.proofs.Common.{◌≡◌, ◌≢◌, ◌≤◌, ◌<◌, ℕ, zero, suc, ◌+◌, ◌-◌, ◌%◌, Bool, true, false, cond, List, [], ◌∷◌, length, take, drop, get_or, refl, ap, sym, ◌∙◌, subst, inl, inr, arith, take_all}
use Rattle.std.specs.Prelude.{◌||◌, ◌==◌}
use Rattle.std.specs.List.{AllByRecursion}
use Rattle.std.proofs.Math.ListN.{drop_of_length-le}
use Rattle.std.proofs.lemmas.Bool.Decides.{nat_tests}
use Rattle.std.proofs.lemmas.Bool.{cases_lt, cases_eq}
use Rattle.std.proofs.lemmas.List.{drop_more}
use Rattle.vub_base.specs.declared.position.Position.{Position}
use Rattle.vub_base.specs.Positions.{is_available, wrap_at, position_of, advanced}
use Rattle.vub_base.proofs.PositionLemmas.{advanced_at}
use Rattle.vub_device.specs.Past.{is_among}
use Rattle.vub_slots.specs.Slots.{SlotWords, IsAvailable, with_at as slot_with}
use Rattle.vub_slots.specs.Stands.{DriverSlots, Stand, IsSlots}
use Rattle.vub_slots.specs.Stands.Stand.{Hidden, Shown}
use Rattle.vub_slots.specs.Flags.{restored_flags}
use Rattle.vub_slots.proofs.FlagLemmas.{restored_is}
use Rattle.vub_slots.proofs.NumberLemmas.{positions_apart}
use Rattle.vub_slots.proofs.SlotLemmas.{this_slot, other_slot}
use Rattle.vub_slots.proofs.DeviceLemmas.{slots_noted, slots_restored, slots_back}
use Rattle.vub_inflight.specs.Entries.{with_at}
use Rattle.vub_infl_packed.specs.Readings.{is_committed, chosen_head, same_position, distance}
use Rattle.vub_infl_packed.specs.Region.{RegionWords, used, old_used}
use Rattle.vub_infl_packed.specs.Stores.{with_positions}
use Rattle.vub_packed_facts.specs.Chains.{IsPath}
use Rattle.vub_packed_facts.specs.Left.{flags_at_old, used_number, avail_number, offered_number, SlotFacts, IsLeft}
use Rattle.vub_packed_facts.specs.Starts.{Stage, first_stage, stand_of, InRecovery, IsRecovered}
use Rattle.vub_packed_facts.specs.Starts.Stage.{Commits, Notes, RollsBack, Agrees, Clears}
use Rattle.vub_packed_facts.proofs.FoundLemmas.{found_free_head, found_old_head, found_used, found_noted, found_flags, found_flight}
use Rattle.vub_packed_facts.proofs.StandLemmas.{hidden_is, shown_is, position_again, distance_at, same_is}

-- ---- the commit test, by the stand

pub hidden_of : (n t : ℕ) (dr : DriverSlots) (w : RegionWords) (s : SlotWords) (heads : List ℕ) → SlotFacts n dr w s heads (Hidden t) → is_committed (flags_at_old w s) w ≡ false
hidden_of n t dr w s heads f = hidden_is n (used_number dr) t (avail_number dr w heads) (offered_number dr w heads) w s.flags (omega arith) f.stands

pub shown_of : (n t : ℕ) (dr : DriverSlots) (w : RegionWords) (s : SlotWords) (heads : List ℕ) → SlotFacts n dr w s heads (Shown t) → is_committed (flags_at_old w s) w ≡ true
shown_of n t dr w s heads f = shown_is n (used_number dr) t (offered_number dr w heads) w s.flags f.some f.stands

-- the slot facts of positions that were stored
pub stored_slots : (n : ℕ) (dr : DriverSlots) (w : RegionWords) (s : SlotWords) (heads : List ℕ) (u o : Position) (st : Stand)
    → IsSlots n dr dr.collected (used_number dr) (avail_number dr w heads) (offered_number dr w heads) s u o st → SlotFacts n dr (with_positions u o w) s heads st
stored_slots n dr w s heads u o st f =
    subst (λ (p : Position). IsSlots n dr dr.collected (used_number dr) (avail_number dr w heads) (offered_number dr w heads) s p (old_used (with_positions u o w)) st) (sym (position_again u))
    (subst (λ (p : Position). IsSlots n dr dr.collected (used_number dr) (avail_number dr w heads) (offered_number dr w heads) s u p st) (sym (position_again o)) f)

-- ---- how it begins

-- what any life left is what a start begins with
pub start_begins : (n : ℕ) (dr : DriverSlots) (w : RegionWords) (s : SlotWords) (free heads : List ℕ) (st : Stand) → IsLeft n dr w s free heads st → InRecovery n dr w s free heads (first_stage n w s)
start_begins n dr w s free heads (Shown t) f =
    let g = f.slots.stands in
    let shown : is_committed (flags_at_old w s) w ≡ true = shown_of n t dr w s heads f.slots in
    let on : used_number dr - t + t ≡ used_number dr = omega (arith, g.back) in
    let far : distance n (position_of n (used_number dr - t)) (position_of n (used_number dr - t + t)) ≡ t = distance_at n (used_number dr - t) t f.slots.some g.few in
    let here : distance n (old_used w) (used w) ≡ t =
    subst (λ (p : Position). distance n p (used w) ≡ t) (sym g.old) (subst (λ (p : Position). distance n (position_of n (used_number dr - t)) p ≡ t) (sym g.new) (subst (λ k. distance n (position_of n (used_number dr - t)) (position_of n k) ≡ t) on far)) in
    let is : first_stage n w s ≡ Commits t = ap (λ b. cond b (Commits (distance n (old_used w) (used w))) (cond (same_position (used w) (old_used w)) Agrees (RollsBack (distance n (old_used w) (used w)) 0))) shown ∙ ap (λ k. Commits k) here in
    subst (λ m. InRecovery n dr w s free heads m) (sym is) (record { left = f; stage_is = tt })
start_begins n dr w s free heads (Hidden t) f =
    let g = f.slots.stands in
    let hidden : is_committed (flags_at_old w s) w ≡ false = hidden_of n t dr w s heads f.slots in
    let few : t ≤ n = omega (arith, f.found.apart.sum, g.within) in
    let far : distance n (old_used w) (used w) ≡ t =
    subst (λ (p : Position). distance n p (used w) ≡ t) (sym g.old) (subst (λ (p : Position). distance n (position_of n (used_number dr)) p ≡ t) (sym g.new) (distance_at n (used_number dr) t f.slots.some few)) in
    let rest : (b : Bool) → same_position (used w) (old_used w) ≡ b → InRecovery n dr w s free heads (cond b Agrees (RollsBack (distance n (old_used w) (used w)) 0)) = elim [
      | true ↦ λ e.
          let none : t ≡ 0 = elim (cases_eq t 0) [
            | inl z ↦ z
            | inr on ↦
                let differs : position_of n (used_number dr + t) ≢ position_of n (used_number dr) = positions_apart n (used_number dr) t f.slots.some (omega (arith, on)) few in
                absurd (differs (sym g.new ∙ same_is (used w) (old_used w) e ∙ g.old))
          ] in
          record { left = subst (λ k. IsLeft n dr w s free heads (Hidden k)) none f; stage_is = tt }
      | false ↦ λ e. subst (λ k. InRecovery n dr w s free heads (RollsBack k 0)) (sym far) (record { left = f; stage_is = (omega arith, λ p l m. absurd (omega (arith, l, m))) })
    ] in
    subst (λ b. InRecovery n dr w s free heads (cond b (Commits (distance n (old_used w) (used w))) (cond (same_position (used w) (old_used w)) Agrees (RollsBack (distance n (old_used w) (used w)) 0)))) (sym hidden) (rest (same_position (used w) (old_used w)) refl)

-- ---- a batch is committed

-- PR1
pub commits_keeps : (n : ℕ) (dr : DriverSlots) (w : RegionWords) (s : SlotWords) (free heads : List ℕ) (t : ℕ) → InRecovery n dr w s free heads (Commits t) → InRecovery n dr (record w { old_free_head = w.free_head }) s free heads (Notes t)
commits_keeps n dr w s free heads t f = record {
  left = record { found = found_old_head n (flags_at_old w s) w free heads w.free_head f.left.found (shown_of n t dr w s heads f.left.slots); slots = f.left.slots };
  stage_is = refl;
}

-- PR2
pub notes_keeps : (n : ℕ) (dr : DriverSlots) (w : RegionWords) (s : SlotWords) (free heads : List ℕ) (t : ℕ) → InRecovery n dr w s free heads (Notes t)
    → InRecovery n dr (with_positions (used w) (used w) w) s free heads (Clears w.free_head 0)
notes_keeps n dr w s free heads t f =
    let shown : is_committed (flags_at_old w s) w ≡ true = shown_of n t dr w s heads f.left.slots in
    let head : chosen_head (flags_at_old w s) w ≡ w.free_head = ap (λ b. cond b w.free_head w.old_free_head) shown in
    record {
      left = record {
        found = found_noted n (flags_at_old w s) (flags_at_old (with_positions (used w) (used w) w) s) w free heads (used w) (used w) f.left.found f.stage_is;
        slots = stored_slots n dr w s heads (used w) (used w) (Hidden 0) (slots_noted n dr dr.collected (used_number dr) (avail_number dr w heads) (offered_number dr w heads) s (used w) (old_used w) t f.left.slots);
      };
      stage_is = record { agree = sym f.stage_is; upto = omega arith; rest = subst (λ k. IsPath w.next k free n) head f.left.found.chosen.path; clear = λ j h. absurd (let no : false ≡ true = h in cc) };
    }

-- ---- a batch is rolled back

-- PR3
pub rolls_back_keeps : (n : ℕ) (dr : DriverSlots) (w : RegionWords) (s : SlotWords) (free heads : List ℕ) (t done flags : ℕ) → done < t → InRecovery n dr w s free heads (RollsBack t done)
    → InRecovery n dr w (record s { flags = slot_with s.flags (advanced n (old_used w) done).index (restored_flags flags (advanced n (old_used w) done).wrap) }) free heads (RollsBack t (done + 1))
rolls_back_keeps n dr w s free heads t done flags inside f =
    let u : ℕ = used_number dr in
    let upto = f.stage_is.0 in
    let within = f.left.slots.stands.within in
    let sum = f.left.found.apart.sum in
    let q : ℕ = u + done in
    let at : advanced n (old_used w) done ≡ position_of n q = ap (λ (p : Position). advanced n p done) f.left.slots.stands.old ∙ advanced_at n u done f.left.slots.some (omega (arith, within, sum, inside)) in
    let i : ℕ = (advanced n (old_used w) done).index in
    let x : ℕ = restored_flags flags (advanced n (old_used w) done).wrap in
    let at_i : i ≡ q % n = ap (λ (p : Position). p.index) at in
    let new : is_available x (wrap_at n q) ≡ true = subst (λ b. is_available x b ≡ true) (ap (λ (p : Position). p.wrap) at) (restored_is flags (advanced n (old_used w) done).wrap) in
    let R : ℕ → SlotWords = λ j. record s { flags = slot_with s.flags j x } in
    let slots : IsSlots n dr dr.collected u (avail_number dr w heads) (offered_number dr w heads) (R (q % n)) (used w) (old_used w) (Hidden t) =
    slots_restored n dr dr.collected u (avail_number dr w heads) (offered_number dr w heads) s (used w) (old_used w) t q x (omega arith) (omega (arith, inside)) new f.left.slots in
    let there : SlotFacts n dr w (R i) heads (Hidden t) =
    subst (λ j. IsSlots n dr dr.collected u (avail_number dr w heads) (offered_number dr w heads) (R j) (used w) (old_used w) (Hidden t)) (sym at_i) slots in
    let hidden : is_committed (flags_at_old w s) w ≡ false = hidden_of n t dr w s heads f.left.slots in
    let still : is_committed (flags_at_old w (R i)) w ≡ false = hidden_of n t dr w (R i) heads there in
    let one : (p : ℕ) → u ≤ p → p < u + (done + 1) → IsAvailable n (slot_with s.flags (q % n) x) p = λ p l m. elim (cases_eq p q) [
      | inl same ↦ subst (λ k. IsAvailable n (slot_with s.flags (q % n) x) k) (sym same) (subst (λ y. is_available y (wrap_at n q) ≡ true) (sym (this_slot s.flags (q % n) x)) new)
      | inr apart ↦ subst (λ y. is_available y (wrap_at n p) ≡ true) (sym (other_slot n s.flags p q x f.left.slots.some apart (omega (arith, within, sum, inside, m)) (omega (arith, within, sum, inside, l)))) (f.stage_is.1 p l (omega (arith, m, apart)))
    ] in
    record {
      left = record { found = found_flags n (flags_at_old w s) (flags_at_old w (R i)) w free heads f.left.found (still ∙ sym hidden); slots = there };
      stage_is = (omega (arith, inside), subst (λ j. (p : ℕ) → u ≤ p → p < u + (done + 1) → IsAvailable n (slot_with s.flags j x) p) (sym at_i) one);
    }

-- PR4
pub rolled_back_keeps : (n : ℕ) (dr : DriverSlots) (w : RegionWords) (s : SlotWords) (free heads : List ℕ) (t : ℕ) → InRecovery n dr w s free heads (RollsBack t t)
    → InRecovery n dr (with_positions (old_used w) (old_used w) w) s free heads Agrees
rolled_back_keeps n dr w s free heads t f =
    let u : ℕ = used_number dr in
    let hidden : is_committed (flags_at_old w s) w ≡ false = hidden_of n t dr w s heads f.left.slots in
    let v : RegionWords = with_positions (old_used w) (old_used w) w in
    let slots : SlotFacts n dr v s heads (Hidden 0) =
    stored_slots n dr w s heads (old_used w) (old_used w) (Hidden 0) (slots_back n dr dr.collected u (avail_number dr w heads) (offered_number dr w heads) s (used w) (old_used w) t f.stage_is.1 f.left.slots) in
    let still : is_committed (flags_at_old v s) v ≡ false = hidden_of n 0 dr v s heads slots in
    record { left = record { found = found_used n (flags_at_old w s) (flags_at_old v s) w free heads (old_used w) (old_used w) f.left.found hidden still; slots = slots }; stage_is = tt }

-- ---- the positions agree

-- PR5
pub agrees_keeps : (n : ℕ) (dr : DriverSlots) (w : RegionWords) (s : SlotWords) (free heads : List ℕ) → InRecovery n dr w s free heads Agrees → InRecovery n dr (record w { free_head = w.old_free_head }) s free heads (Clears w.old_free_head 0)
agrees_keeps n dr w s free heads f =
    let hidden : is_committed (flags_at_old w s) w ≡ false = hidden_of n 0 dr w s heads f.left.slots in
    let head : chosen_head (flags_at_old w s) w ≡ w.old_free_head = ap (λ b. cond b w.free_head w.old_free_head) hidden in
    record {
      left = record { found = found_free_head n (flags_at_old w s) w free heads w.old_free_head f.left.found hidden; slots = f.left.slots };
      stage_is = record { agree = refl; upto = omega arith; rest = subst (λ k. IsPath w.next k free n) head f.left.found.chosen.path; clear = λ j h. absurd (let no : false ≡ true = h in cc) };
    }

pub among_get_or : (xs : List ℕ) (k : ℕ) → k < length xs → is_among xs (get_or xs k 0) ≡ true
among_get_or [] k l = absurd (omega (arith, l))
among_get_or (x ∷ xs) zero l = grind (arith, nat_tests)
among_get_or (x ∷ xs) (suc k) l = let rest : is_among xs (get_or xs k 0) ≡ true = among_get_or xs k (omega (arith, l)) in grind (arith, nat_tests)

pub among_take_more : (i : ℕ) (xs : List ℕ) (k : ℕ) → k < length xs → is_among (take (k + 1) xs) i ≡ (is_among (take k xs) i || (get_or xs k 0 == i))
among_take_more i [] k l = absurd (omega (arith, l))
among_take_more i (x ∷ xs) zero l = grind (arith, nat_tests)
among_take_more i (x ∷ xs) (suc k) l = let rest : is_among (take (k + 1) xs) i ≡ (is_among (take k xs) i || (get_or xs k 0 == i)) = among_take_more i xs k (omega (arith, l)) in grind (arith, nat_tests)

-- PR6
pub clears_keeps : (n : ℕ) (dr : DriverSlots) (w : RegionWords) (s : SlotWords) (free heads : List ℕ) (i done : ℕ) → done < length free → InRecovery n dr w s free heads (Clears i done)
    → InRecovery n dr (record w { inflight = with_at w.inflight i 0 }) s free heads (Clears (w.next i) (done + 1))
clears_keeps n dr w s free heads i done more f =
    let c = f.stage_is in
    let opened : drop done free ≡ get_or free done 0 ∷ drop (done + 1) free = drop_more free done 0 more in
    let path : IsPath w.next i (get_or free done 0 ∷ drop (done + 1) free) n = subst (λ xs. IsPath w.next i xs n) opened c.rest in
    let at : i ≡ get_or free done 0 = path.0 in
    let held : is_among free i ≡ true = ap (is_among free) at ∙ among_get_or free done more in
    record {
      left = record { found = found_flight n (flags_at_old w s) w free heads i 0 f.left.found held; slots = f.left.slots };
      stage_is = record {
        agree = c.agree;
        upto = omega (arith, more);
        rest = subst (λ k. IsPath w.next (w.next k) (drop (done + 1) free) n) (sym at) path.1;
        clear = λ j h. (let grown : is_among (take (done + 1) free) j ≡ (is_among (take done free) j || (get_or free done 0 == j)) = among_take_more j free done more in let old : is_among (take done free) j ≡ true → w.inflight j ≡ 0 = c.clear j in grind (arith, nat_tests));
      };
    }

-- the list is through where n comes next, and not before
pub clears_end : (n : ℕ) (dr : DriverSlots) (w : RegionWords) (s : SlotWords) (free heads : List ℕ) (i done : ℕ) → InRecovery n dr w s free heads (Clears i done) → (i ≡ n → done ≡ length free) × (i ≢ n → done < length free)
clears_end n dr w s free heads i done f = elim (cases_lt done (length free)) [
  | inl more ↦
      let opened : drop done free ≡ get_or free done 0 ∷ drop (done + 1) free = drop_more free done 0 more in
      let path : IsPath w.next i (get_or free done 0 ∷ drop (done + 1) free) n = subst (λ xs. IsPath w.next i xs n) opened f.stage_is.rest in
      let below : get_or free done 0 < n = below_get n free done f.left.found.chosen.below more in
      (λ e. absurd (omega (arith, path.0, below, e)), λ e. more)
  | inr all ↦
      let whole : done ≡ length free = omega (arith, all, f.stage_is.upto) in
      let none : drop done free ≡ [] = drop_of_length-le free all in
      let ends : i ≡ n = subst (λ xs. IsPath w.next i xs n) none f.stage_is.rest in
      (λ e. whole, λ e. absurd (e ends))
]
  where
    below_get : (m : ℕ) (xs : List ℕ) (k : ℕ) → AllByRecursion (λ (j : ℕ). j < m) xs → k < length xs → get_or xs k 0 < m
    below_get m [] k b l = absurd (omega (arith, l))
    below_get m (x ∷ xs) zero b l = b.0
    below_get m (x ∷ xs) (suc k) b l = below_get m xs k b.1 (omega (arith, l))

-- then nothing is left to store
pub clears_done : (n : ℕ) (dr : DriverSlots) (w : RegionWords) (s : SlotWords) (free heads : List ℕ) (i : ℕ) → InRecovery n dr w s free heads (Clears i (length free)) → IsRecovered n dr w s free heads
clears_done n dr w s free heads i f =
    let whole : take (length free) free ≡ free = take_all (length free) free (omega arith) in
    record { left = f.left; agree = f.stage_is.agree; quiet = λ j h. f.stage_is.clear j (ap (λ (xs : List ℕ). is_among xs j) whole ∙ h) }

-- cut off at any stage, it left what the next start begins with
pub start_again : (n : ℕ) (dr : DriverSlots) (w : RegionWords) (s : SlotWords) (free heads : List ℕ) (stage : Stage) → InRecovery n dr w s free heads stage → InRecovery n dr w s free heads (first_stage n w s)
start_again n dr w s free heads stage f = start_begins n dr w s free heads (stand_of stage) f.left
