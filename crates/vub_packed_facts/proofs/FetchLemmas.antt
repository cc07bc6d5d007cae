-- A fetch, store by store.
use Rattle.std.proofs.Common.{◌≡◌, ◌≢◌, ◌≤◌, ◌<◌, ℕ, ◌+◌, ◌-◌, true, false, cond, List, [], ◌∷◌, ◌++◌, length, drop, get_or, refl, ap, sym, ◌∙◌, subst, arith}
use Rattle.std.specs.Prelude.{◌==◌}
use Rattle.std.proofs.lemmas.Bool.Decides.{nat_tests}
use Rattle.std.proofs.lemmas.List.{drop_more}
use Rattle.vub_base.specs.declared.pending.Pending.{Pending}
use Rattle.vub_device.specs.Past.{is_among}
use Rattle.vub_slots.specs.Slots.{SlotWords, Buffer, buffer_slots}
use Rattle.vub_slots.specs.Stands.{DriverSlots, Stand, IsSlots}
use Rattle.vub_slots.specs.Stands.Stand.{Hidden}
use Rattle.vub_slots.proofs.DeviceLemmas.{slots_accepted}
use Rattle.vub_inflight.specs.Entries.{with_at, in_flight_but, entry_at, CountersBelow}
use Rattle.vub_inflight.proofs.CounterLemmas.{below_weaker}
use Rattle.vub_inflight.proofs.Each.{all_append}
use Rattle.vub_infl_packed.specs.Readings.{is_committed, chosen_head, open_entries}
use Rattle.vub_infl_packed.specs.Region.{RegionWords, used, old_used}
use Rattle.vub_packed_facts.specs.Chains.{IsPath, total}
use Rattle.vub_packed_facts.specs.Found.{IsFound, IsChosen}
use Rattle.vub_packed_facts.specs.Left.{flags_at_old, used_number, avail_number, offered_number, SlotFacts, IsLeft}
use Rattle.vub_packed_facts.specs.Lives.{IsIdle, IsBegun, FetchStep, IsTaking, IsTakingNext, InFetch, IsAtRest}
use Rattle.vub_packed_facts.specs.Lives.FetchStep.{AtPF1, AtPF2, AtPF3, Takes, AtPF5, AtPF6, AtPF7, AtPF8}
use Rattle.vub_packed_facts.proofs.PathLemmas.{head_taken}
use Rattle.vub_packed_facts.proofs.ChainLemmas.{total-push}
use Rattle.vub_packed_facts.proofs.FoundLemmas.{free_not_head, total_kept, not_open, entries_same, found_num, found_counter, found_flight, found_last, found_desc, found_free_head}
use Rattle.vub_packed_facts.proofs.AcceptLemmas.{found_accepted, read_accepted, quiet_accepted}
use Rattle.vub_packed_facts.proofs.StartLemmas.{hidden_of}

pub set_here : (f : ℕ → ℕ) (i x : ℕ) → with_at f i x i ≡ x
set_here f i x = grind (arith, nat_tests)

-- the slot facts see num by its sum alone
slots_total : (n : ℕ) (dr : DriverSlots) (w : RegionWords) (num : ℕ → ℕ) (s : SlotWords) (heads : List ℕ) (st : Stand) → total num heads ≡ total w.num heads → SlotFacts n dr w s heads st → SlotFacts n dr (record w { num = num }) s heads st
slots_total n dr w num s heads st same f =
    subst (λ k. IsSlots n dr dr.collected (used_number dr) (used_number dr + k) (used_number dr + k + buffer_slots dr.waiting) s (used w) (old_used w) st) (sym same) f

-- where the same entries are open, the same bound holds
pub below_same : (n fl fm k : ℕ) (v w : RegionWords) → open_entries n fm v ≡ open_entries n fl w → CountersBelow k (open_entries n fl w) → CountersBelow k (open_entries n fm v)
below_same n fl fm k v w same below = subst (λ (xs : List Pending). CountersBelow k xs) (sym same) below

-- the head of a fetch is free
head_free : (dr : DriverSlots) (b : Buffer) (free : List ℕ) (h : ℕ) → IsBegun dr b free h → is_among free h ≡ true
head_free dr b free h begun = subst (λ zs. is_among zs h ≡ true) (sym begun.first) (grind (arith, nat_tests))

-- PF1
pub pf1_keeps : (n : ℕ) (dr : DriverSlots) (b : Buffer) (counter : ℕ) (w : RegionWords) (s : SlotWords) (free heads : List ℕ) (h : ℕ) → InFetch n dr b counter w s free heads (AtPF1 h)
    → InFetch n dr b counter (record w { num = with_at w.num h 0 }) s free heads (AtPF2 h)
pf1_keeps n dr b counter w s free heads h f =
    let fl : ℕ = flags_at_old w s in
    let v : RegionWords = record w { num = with_at w.num h 0 } in
    let held : is_among free h ≡ true = head_free dr b free h f.step_is.1 in
    let sum : total (with_at w.num h 0) heads ≡ total w.num heads = total_kept w.num h 0 heads (free_not_head n fl w free heads h f.left.found held) in
    let found : IsFound n fl v free heads = found_num n fl w free heads h 0 f.left.found held in
    record {
      left = record { found = found; slots = slots_total n dr w (with_at w.num h 0) s heads (Hidden 0) sum f.left.slots };
      below = below_same n fl fl counter v w (entries_same n fl fl v w free f.left.found.chosen found.chosen (λ i l o. refl) (λ i l t. refl) (λ i l t. let apart : i ≢ h = not_open free w.inflight h i held t in grind (arith, nat_tests))) f.below;
      step_is = (record { agree = f.step_is.0.agree; quiet = f.step_is.0.quiet }, f.step_is.1, set_here w.num h 0);
    }

-- PF2
pub pf2_keeps : (n : ℕ) (dr : DriverSlots) (b : Buffer) (counter : ℕ) (w : RegionWords) (s : SlotWords) (free heads : List ℕ) (h : ℕ) → InFetch n dr b counter w s free heads (AtPF2 h)
    → InFetch n dr b (counter + 1) (record w { counter = with_at w.counter h counter }) s free heads (AtPF3 h)
pf2_keeps n dr b counter w s free heads h f =
    let fl : ℕ = flags_at_old w s in
    let v : RegionWords = record w { counter = with_at w.counter h counter } in
    let held : is_among free h ≡ true = head_free dr b free h f.step_is.1 in
    let found : IsFound n fl v free heads = found_counter n fl w free heads h counter f.left.found held in
    let still : CountersBelow counter (open_entries n fl v) = below_same n fl fl counter v w (entries_same n fl fl v w free f.left.found.chosen found.chosen (λ i l o. refl) (λ i l t. let apart : i ≢ h = not_open free w.inflight h i held t in grind (arith, nat_tests)) (λ i l t. refl)) f.below in
    record {
      left = record { found = found; slots = f.left.slots };
      below = subst (λ k. CountersBelow k (open_entries n fl v)) (let e : counter ≡ counter + 1 - 1 = omega arith in e) still;
      step_is = (record { agree = f.step_is.0.agree; quiet = f.step_is.0.quiet }, f.step_is.1, f.step_is.2, ap (λ k. k + 1) (set_here w.counter h counter));
    }

-- PF3
pub pf3_keeps : (n : ℕ) (dr : DriverSlots) (b : Buffer) (counter : ℕ) (w : RegionWords) (s : SlotWords) (free heads : List ℕ) (h : ℕ) → InFetch n dr b counter w s free heads (AtPF3 h)
    → InFetch n dr b counter (record w { inflight = with_at w.inflight h 1 }) s free heads (Takes h 0)
pf3_keeps n dr b counter w s free heads h f =
    let fl : ℕ = flags_at_old w s in
    let v : RegionWords = record w { inflight = with_at w.inflight h 1 } in
    let held : is_among free h ≡ true = head_free dr b free h f.step_is.1 in
    let hidden : is_committed fl w ≡ false = hidden_of n 0 dr w s heads f.left.slots in
    let old : chosen_head fl w ≡ w.old_free_head = ap (λ t. cond t w.free_head w.old_free_head) hidden in
    let some : 0 < b.slots = f.step_is.1.some in
    let found : IsFound n fl v free heads = found_flight n fl w free heads h 1 f.left.found held in
    record {
      left = record { found = found; slots = f.left.slots };
      below = below_same n fl fl (counter - 1) v w (entries_same n fl fl v w free f.left.found.chosen found.chosen
          (λ i l o. let apart : i ≢ h = λ e. (let one : is_among free i ≡ true = ap (is_among free) e ∙ held in let no : false ≡ true = sym o ∙ one in cc) in grind (arith, nat_tests)) (λ i l t. refl) (λ i l t. refl)) f.below;
      step_is = record {
        begun = f.step_is.1;
        upto = omega arith;
        rest = subst (λ k. IsPath w.next k free n) (old ∙ sym f.step_is.0.agree) f.left.found.chosen.path;
        quiet = λ i t apart. (let before : w.inflight i ≡ 0 = f.step_is.0.quiet i t in grind (arith, nat_tests));
        num = f.step_is.2;
        given = f.step_is.3;
        flight = set_here w.inflight h 1;
        last = λ e. absurd (omega (arith, e, some));
        id = λ e. absurd (omega (arith, e, some));
      };
    }

-- PF4: the next entry is the last one
pub pf4_keeps : (n : ℕ) (dr : DriverSlots) (b : Buffer) (counter : ℕ) (w : RegionWords) (s : SlotWords) (free heads : List ℕ) (h taken : ℕ) → taken + 1 ≡ b.slots → InFetch n dr b counter w s free heads (Takes h taken)
    → InFetch n dr b counter (record w { last = with_at w.last h w.free_head }) s free heads (AtPF5 h taken)
pf4_keeps n dr b counter w s free heads h taken final f =
    let fl : ℕ = flags_at_old w s in
    let v : RegionWords = record w { last = with_at w.last h w.free_head } in
    let t = f.step_is in
    let held : is_among free h ≡ true = head_free dr b free h t.begun in
    let found : IsFound n fl v free heads = found_last n fl w free heads h w.free_head f.left.found held in
    record {
      left = record { found = found; slots = f.left.slots };
      below = below_same n fl fl (counter - 1) v w (entries_same n fl fl v w free f.left.found.chosen found.chosen (λ i l o. refl) (λ i l q. refl) (λ i l q. refl)) f.below;
      step_is = record {
        taking = record { begun = t.begun; upto = t.upto; rest = t.rest; quiet = t.quiet; num = t.num; given = t.given; flight = t.flight; last = λ e. absurd (omega (arith, e, final)); id = λ e. absurd (omega (arith, e, final)) };
        more = omega (arith, final);
        named = λ e. set_here w.last h w.free_head;
      };
    }

-- where it isn't, `last` comes later
pub pf5_next : (n : ℕ) (dr : DriverSlots) (b : Buffer) (counter : ℕ) (w : RegionWords) (s : SlotWords) (free heads : List ℕ) (h taken : ℕ) → taken + 1 < b.slots → InFetch n dr b counter w s free heads (Takes h taken)
    → InFetch n dr b counter w s free heads (AtPF5 h taken)
pf5_next n dr b counter w s free heads h taken more f = record { left = f.left; below = f.below; step_is = record { taking = f.step_is; more = omega (arith, more); named = λ e. absurd (omega (arith, e, more)) } }

-- PF5
pub pf5_keeps : (n : ℕ) (dr : DriverSlots) (b : Buffer) (counter : ℕ) (w : RegionWords) (s : SlotWords) (free heads : List ℕ) (h taken : ℕ) → InFetch n dr b counter w s free heads (AtPF5 h taken)
    → InFetch n dr b counter (record w { num = with_at w.num h (taken + 1) }) s free heads (AtPF6 h taken)
pf5_keeps n dr b counter w s free heads h taken f =
    let fl : ℕ = flags_at_old w s in
    let v : RegionWords = record w { num = with_at w.num h (taken + 1) } in
    let t = f.step_is.taking in
    let more = f.step_is.more in
    let held : is_among free h ≡ true = head_free dr b free h t.begun in
    let sum : total (with_at w.num h (taken + 1)) heads ≡ total w.num heads = total_kept w.num h (taken + 1) heads (free_not_head n fl w free heads h f.left.found held) in
    let found : IsFound n fl v free heads = found_num n fl w free heads h (taken + 1) f.left.found held in
    record {
      left = record { found = found; slots = slots_total n dr w (with_at w.num h (taken + 1)) s heads (Hidden 0) sum f.left.slots };
      below = below_same n fl fl (counter - 1) v w (entries_same n fl fl v w free f.left.found.chosen found.chosen (λ i l o. refl) (λ i l q. refl) (λ i l q. let apart : i ≢ h = not_open free w.inflight h i held q in grind (arith, nat_tests))) f.below;
      step_is = record {
        taking = record { begun = t.begun; upto = t.upto; rest = t.rest; quiet = t.quiet; num = set_here w.num h (taken + 1); given = t.given; flight = t.flight; last = λ e. absurd (omega (arith, e, more)); id = λ e. absurd (omega (arith, e, more)) };
        more = more;
        named = f.step_is.named;
      };
    }

-- PF6
pub pf6_keeps : (n : ℕ) (dr : DriverSlots) (b : Buffer) (counter : ℕ) (w : RegionWords) (s : SlotWords) (free heads : List ℕ) (h taken addr : ℕ) → InFetch n dr b counter w s free heads (AtPF6 h taken)
    → InFetch n dr b counter (record w { addr = with_at w.addr w.free_head addr }) s free heads (AtPF7 h taken)
pf6_keeps n dr b counter w s free heads h taken addr f =
    let fl : ℕ = flags_at_old w s in
    let v : RegionWords = record w { addr = with_at w.addr w.free_head addr } in
    let t = f.step_is.taking in
    let found : IsFound n fl v free heads = found_desc n fl w free heads w.id w.flags w.len (with_at w.addr w.free_head addr) f.left.found in
    record {
      left = record { found = found; slots = f.left.slots };
      below = below_same n fl fl (counter - 1) v w (entries_same n fl fl v w free f.left.found.chosen found.chosen (λ i l o. refl) (λ i l q. refl) (λ i l q. refl)) f.below;
      step_is = record {
        taking = record { begun = t.begun; upto = t.upto; rest = t.rest; quiet = t.quiet; num = t.num; given = t.given; flight = t.flight; last = t.last; id = t.id };
        more = f.step_is.more;
        named = f.step_is.named;
      };
    }

-- PF7
pub pf7_keeps : (n : ℕ) (dr : DriverSlots) (b : Buffer) (counter : ℕ) (w : RegionWords) (s : SlotWords) (free heads : List ℕ) (h taken flags len : ℕ) → InFetch n dr b counter w s free heads (AtPF7 h taken)
    → InFetch n dr b counter (record w { id = with_at w.id w.free_head b.id; flags = with_at w.flags w.free_head flags; len = with_at w.len w.free_head len }) s free heads (AtPF8 h taken)
pf7_keeps n dr b counter w s free heads h taken flags len f =
    let fl : ℕ = flags_at_old w s in
    let v : RegionWords = record w { id = with_at w.id w.free_head b.id; flags = with_at w.flags w.free_head flags; len = with_at w.len w.free_head len } in
    let t = f.step_is.taking in
    let more = f.step_is.more in
    let found : IsFound n fl v free heads = found_desc n fl w free heads (with_at w.id w.free_head b.id) (with_at w.flags w.free_head flags) (with_at w.len w.free_head len) w.addr f.left.found in
    record {
      left = record { found = found; slots = f.left.slots };
      below = below_same n fl fl (counter - 1) v w (entries_same n fl fl v w free f.left.found.chosen found.chosen (λ i l o. refl) (λ i l q. refl) (λ i l q. refl)) f.below;
      step_is = (
        record {
          taking = record { begun = t.begun; upto = t.upto; rest = t.rest; quiet = t.quiet; num = t.num; given = t.given; flight = t.flight; last = t.last; id = λ e. absurd (omega (arith, e, more)) };
          more = more;
          named = f.step_is.named;
        },
        set_here w.id w.free_head b.id,
      );
    }

-- PF8
pub pf8_keeps : (n : ℕ) (dr : DriverSlots) (b : Buffer) (counter : ℕ) (w : RegionWords) (s : SlotWords) (free heads : List ℕ) (h taken : ℕ) → InFetch n dr b counter w s free heads (AtPF8 h taken)
    → InFetch n dr b counter (record w { free_head = w.next w.free_head }) s free heads (Takes h (taken + 1))
pf8_keeps n dr b counter w s free heads h taken f =
    let fl : ℕ = flags_at_old w s in
    let v : RegionWords = record w { free_head = w.next w.free_head } in
    let t = f.step_is.0.taking in
    let more = f.step_is.0.more in
    let hidden : is_committed fl w ≡ false = hidden_of n 0 dr w s heads f.left.slots in
    let inside : taken < length free = omega (arith, more, t.begun.room) in
    let opened : drop taken free ≡ get_or free taken 0 ∷ drop (taken + 1) free = drop_more free taken 0 inside in
    let path : IsPath w.next w.free_head (get_or free taken 0 ∷ drop (taken + 1) free) n = subst (λ xs. IsPath w.next w.free_head xs n) opened t.rest in
    let at_head : w.free_head ≡ get_or free taken 0 = path.0 in
    let final : taken + 1 ≡ b.slots → w.free_head ≡ get_or free (b.slots - 1) 0 = λ e. at_head ∙ ap (λ i. get_or free i 0) (let k : taken ≡ b.slots - 1 = omega (arith, e) in k) in
    let found : IsFound n fl v free heads = found_free_head n fl w free heads (w.next w.free_head) f.left.found hidden in
    record {
      left = record { found = found; slots = f.left.slots };
      below = below_same n fl fl (counter - 1) v w (entries_same n fl fl v w free f.left.found.chosen found.chosen (λ i l o. refl) (λ i l q. refl) (λ i l q. refl)) f.below;
      step_is = record {
        begun = t.begun;
        upto = omega (arith, more);
        rest = (head_taken w.next w.free_head n (get_or free taken 0) (drop (taken + 1) free) path).1;
        quiet = t.quiet;
        num = t.num;
        given = t.given;
        flight = t.flight;
        last = λ e. f.step_is.0.named e ∙ final e;
        id = λ e. ap w.id (sym (final e)) ∙ f.step_is.1;
      };
    }

-- PF9: the request is accepted
pub pf9_keeps : (n : ℕ) (dr : DriverSlots) (b : Buffer) (counter : ℕ) (w : RegionWords) (s : SlotWords) (free heads : List ℕ) (h : ℕ) → counter ≤ 18446744073709551615 → InFetch n dr b counter w s free heads (Takes h b.slots)
    → IsAtRest n (record dr { waiting = drop 1 dr.waiting }) counter (record w { old_free_head = w.free_head }) s (drop b.slots free) (heads ++ h ∷ [])
pf9_keeps n dr b counter w s free heads h limit f =
    let fl : ℕ = flags_at_old w s in
    let v : RegionWords = record w { old_free_head = w.free_head } in
    let t = f.step_is in
    let g = t.begun in
    let hidden : is_committed fl w ≡ false = hidden_of n 0 dr w s heads f.left.slots in
    let count : w.counter h ≡ counter - 1 = omega (arith, t.given) in
    let low : w.counter h < 18446744073709551615 = omega (arith, t.given, limit) in
    let under : CountersBelow (w.counter h) (open_entries n fl w) = subst (λ k. CountersBelow k (open_entries n fl w)) (sym count) f.below in
    let found : IsFound n fl v (drop b.slots free) (heads ++ h ∷ []) = found_accepted n fl w free heads h b.slots f.left.found hidden g.first g.some g.room t.rest t.num (t.last refl) t.flight t.quiet under low in
    let read : open_entries n fl v ≡ open_entries n fl w ++ entry_at w.counter w.num h ∷ [] = read_accepted n fl w free heads h b.slots f.left.found hidden g.first g.some g.room t.rest t.num (t.last refl) t.flight t.quiet under low in
    let sum : total w.num (heads ++ h ∷ []) ≡ total w.num heads + b.slots = total-push w.num heads h ∙ ap (λ k. total w.num heads + k) t.num in
    let queue : buffer_slots dr.waiting ≡ b.slots + buffer_slots (drop 1 dr.waiting) = ap buffer_slots g.waits in
    let er : DriverSlots = record dr { waiting = drop 1 dr.waiting } in
    let moved : IsSlots n er dr.collected (used_number dr) (avail_number dr w heads + b.slots) (offered_number dr w heads) s (used w) (old_used w) (Hidden 0) =
    slots_accepted n dr dr.collected (used_number dr) (avail_number dr w heads) (offered_number dr w heads) s (used w) (old_used w) b (drop 1 dr.waiting) g.waits f.left.slots in
    let at_v : avail_number dr w heads + b.slots ≡ avail_number er v (heads ++ h ∷ []) = omega (arith, sum) in
    let at_a : offered_number dr w heads ≡ offered_number er v (heads ++ h ∷ []) = omega (arith, sum, queue) in
    let part : CountersBelow counter (open_entries n fl w ++ entry_at w.counter w.num h ∷ []) = all_append (λ e. e.counter < counter) (open_entries n fl w) (entry_at w.counter w.num h ∷ []) (below_weaker (counter - 1) counter (open_entries n fl w) (omega arith) f.below) (omega (arith, t.given), tt) in
    record {
      left = record {
        found = found;
        slots = subst (λ k. IsSlots n er dr.collected (used_number dr) k (offered_number er v (heads ++ h ∷ [])) s (used w) (old_used w) (Hidden 0)) at_v
            (subst (λ k. IsSlots n er dr.collected (used_number dr) (avail_number dr w heads + b.slots) k s (used w) (old_used w) (Hidden 0)) at_a moved);
      };
      below = subst (λ (xs : List Pending). CountersBelow counter xs) (sym read) part;
      idle = record { agree = refl; quiet = quiet_accepted n fl w free heads h b.slots f.left.found g.first g.some t.quiet };
    }
