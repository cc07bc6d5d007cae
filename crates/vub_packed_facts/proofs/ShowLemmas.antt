-- The elements of a batch, the last first, store by store; the flags of the first one show them all.
use Rattle.std.proofs.Common.{◌≡◌, ◌≢◌, ◌≤◌, ◌<◌, ℕ, zero, suc, ◌+◌, ◌-◌, ◌%◌, Bool, true, false, not, filter, List, [], ◌∷◌, ◌++◌, length, take, drop, reverse, get_or, refl, ap, sym, ◌∙◌, subst, inl, inr, arith}
use Rattle.std.specs.Prelude.{◌==◌}
use Rattle.std.proofs.lemmas.Bool.Decides.{nat_tests}
use Rattle.std.proofs.lemmas.List.{drop_more}
use Rattle.vub_base.specs.declared.pending.Pending.{Pending}
use Rattle.vub_base.specs.declared.position.Position.{Position}
use Rattle.vub_base.specs.Positions.{avail_bit, same_bool, is_used, wrap_at, position_of, advanced}
use Rattle.vub_base.proofs.PositionLemmas.{advanced_at}
use Rattle.vub_device.specs.Past.{is_among}
use Rattle.vub_slots.specs.Flags.{used_flags}
use Rattle.vub_slots.specs.Slots.{SlotWords, Element, slots_of, Shows, with_at as slot_with}
use Rattle.vub_slots.specs.Stands.{DriverSlots, Stand, IsSlots}
use Rattle.vub_slots.specs.Stands.Stand.{Hidden, Shown}
use Rattle.vub_slots.proofs.FlagLemmas.{used_is}
use Rattle.vub_slots.proofs.SlotLemmas.{Elsewhere, this_slot, len_elsewhere, id_elsewhere, flags_elsewhere, agree_elsewhere, shows_agree, slots_of-append}
use Rattle.vub_slots.proofs.DeviceLemmas.{slots_len, slots_id, slots_carried, slots_shown}
use Rattle.vub_inflight.specs.Entries.{in_flight_but, without_heads, CountersBelow}
use Rattle.vub_inflight.proofs.Each.{all_filter}
use Rattle.vub_infl_packed.specs.Readings.{is_committed, open_entries}
use Rattle.vub_infl_packed.specs.Region.{RegionWords, used, old_used}
use Rattle.vub_packed_facts.specs.Chains.{chains, total}
use Rattle.vub_packed_facts.specs.Found.{IsFound, IsBatch}
use Rattle.vub_packed_facts.specs.Left.{flags_at_old, used_number, avail_number, offered_number, SlotFacts, IsLeft}
use Rattle.vub_packed_facts.specs.Batches.{BatchStep, elements_of, element_at, head_at, place_at, IsShowing, InBatch}
use Rattle.vub_packed_facts.specs.Batches.BatchStep.{AtPP4, AtPP5, AtPP6, Cleared}
use Rattle.vub_packed_facts.proofs.PathLemmas.{once_of}
use Rattle.vub_packed_facts.proofs.ChainLemmas.{without, filtered}
use Rattle.vub_packed_facts.proofs.BatchLemmas.{heads_once, total-batch, some_of, found_shown, read_shown, quiet_shown, held_shown}
use Rattle.vub_packed_facts.proofs.FoundLemmas.{entries_same, found_flags}
use Rattle.vub_packed_facts.proofs.StartLemmas.{hidden_of, shown_of, among_get_or}
use Rattle.vub_packed_facts.proofs.FetchLemmas.{below_same}
use Rattle.vub_packed_facts.proofs.PublishLemmas.{batch_fits, total_split, total_parts}

slots_of-elements : (w : RegionWords) (lens : ℕ → ℕ) (hs : List ℕ) → slots_of (elements_of w lens hs) ≡ total w.num hs
slots_of-elements w lens [] = refl
slots_of-elements w lens (h ∷ hs) = omega (arith, slots_of-elements w lens hs)

-- which element is shown next, where it lies, and what lies behind it
record IsNext (n u : ℕ) (w : RegionWords) (heads batch : List ℕ) (shown : ℕ) : Type 0 where
  pub inside : element_at batch shown < length batch
  pub behind : length batch - shown ≡ element_at batch shown + 1
  pub place : place_at n w batch shown ≡ position_of n (u + total w.num (take (element_at batch shown) batch))
  pub some : 0 < w.num (head_at batch shown)
  pub split : total w.num (take (length batch - shown) batch) ≡ total w.num (take (element_at batch shown) batch) + w.num (head_at batch shown)
  pub parts : total w.num (take (length batch - shown) batch) + total w.num (drop (length batch - shown) batch) ≡ total w.num batch
  pub opened : drop (element_at batch shown) batch ≡ head_at batch shown ∷ drop (length batch - shown) batch
  pub fits : total w.num batch ≤ total w.num heads
  pub few : total w.num batch ≤ n

next_of : (n : ℕ) (dr : DriverSlots) (w : RegionWords) (s : SlotWords) (free heads batch : List ℕ) (lens : ℕ → ℕ) (shown : ℕ) → IsLeft n dr w s free heads (Hidden (total w.num batch)) → IsShowing n dr w s free heads batch lens shown
    → IsNext n (used_number dr) w heads batch shown
next_of n dr w s free heads batch lens shown left p =
    let b = p.batch_is in
    let more = p.more in
    let e : ℕ = element_at batch shown in
    let inside : e < length batch = omega (arith, more) in
    let behind : length batch - shown ≡ e + 1 = omega (arith, more) in
    let held : is_among heads (get_or batch e 0) ≡ true = b.all_open (get_or batch e 0) (among_get_or batch e inside) in
    let fits : total w.num batch ≤ total w.num heads = batch_fits n (flags_at_old w s) w free heads batch left.found b in
    let few : total w.num batch ≤ n = omega (arith, left.found.apart.sum, fits) in
    let front : total w.num (take e batch) + total w.num (drop e batch) ≡ total w.num batch = total_parts w.num batch e in
    record {
      inside = inside;
      behind = behind;
      place = ap (λ (x : Position). advanced n x (total w.num (take e batch))) left.slots.stands.old ∙ advanced_at n (used_number dr) (total w.num (take e batch)) left.slots.some (omega (arith, front, few));
      some = some_of w.next w.num w.last (get_or batch e 0) heads left.found.ends held;
      split = ap (λ k. total w.num (take k batch)) behind ∙ total_split w.num batch e inside;
      parts = total_parts w.num batch (length batch - shown);
      opened = drop_more batch e 0 inside ∙ ap (λ k. get_or batch e 0 ∷ drop k batch) (sym behind);
      fits = fits;
      few = few;
    }

-- what was carried stays, whatever is stored in the next element's slot
carried_kept : (n u : ℕ) (w : RegionWords) (heads batch : List ℕ) (lens : ℕ → ℕ) (r s : SlotWords) (shown : ℕ) → 0 < n → IsNext n u w heads batch shown → Elsewhere ((u + total w.num (take (element_at batch shown) batch)) % n) r s
    → Shows n r (u + total w.num (take (length batch - shown) batch)) (elements_of w lens (drop (length batch - shown) batch))
    → Shows n s (u + total w.num (take (length batch - shown) batch)) (elements_of w lens (drop (length batch - shown) batch))
carried_kept n u w heads batch lens r s shown some k apart h =
    let long : slots_of (elements_of w lens (drop (length batch - shown) batch)) ≡ total w.num (drop (length batch - shown) batch) = slots_of-elements w lens (drop (length batch - shown) batch) in
    let split = k.split in
    let parts = k.parts in
    let one = k.some in
    let few = k.few in
    shows_agree n r s (u + total w.num (take (length batch - shown) batch)) (elements_of w lens (drop (length batch - shown) batch))
    (agree_elsewhere n r s (u + total w.num (take (element_at batch shown) batch)) (u + total w.num (take (length batch - shown) batch)) _ some apart (inr (omega (arith, split, one))) (omega (arith, split, parts, one, few)) (omega (arith, long, split, parts, one, few))) h

-- PP4
pub pp4_keeps : (n : ℕ) (dr : DriverSlots) (counter : ℕ) (w : RegionWords) (s : SlotWords) (free heads batch : List ℕ) (lens : ℕ → ℕ) (shown : ℕ) → InBatch n dr counter w s free heads batch lens (AtPP4 shown)
    → InBatch n dr counter w (record s { len = slot_with s.len (place_at n w batch shown).index (lens (head_at batch shown)) }) free heads batch lens (AtPP5 shown)
pp4_keeps n dr counter w s free heads batch lens shown f =
    let p = f.step_is in
    let k : IsNext n (used_number dr) w heads batch shown = next_of n dr w s free heads batch lens shown f.left p in
    let x : ℕ = lens (head_at batch shown) in
    let q : ℕ = used_number dr + total w.num (take (element_at batch shown) batch) in
    let i : ℕ = (place_at n w batch shown).index in
    let at : i ≡ q % n = ap (λ (y : Position). y.index) k.place in
    let R : ℕ → SlotWords = λ j. record s { len = slot_with s.len j x } in
    let slots : IsSlots n dr dr.collected (used_number dr) (avail_number dr w heads) (offered_number dr w heads) (R (q % n)) (used w) (old_used w) (Hidden (total w.num batch)) =
    slots_len n dr dr.collected (used_number dr) (avail_number dr w heads) (offered_number dr w heads) s (used w) (old_used w) (Hidden (total w.num batch)) q x (omega arith) (omega (arith, k.split, k.parts, k.some, k.fits)) f.left.slots in
    let carried = carried_kept n (used_number dr) w heads batch lens s (R (q % n)) shown f.left.slots.some k (len_elsewhere s (q % n) x) p.carried in
    record {
      left = record {
        found = f.left.found;
        slots = subst (λ j. IsSlots n dr dr.collected (used_number dr) (avail_number dr w heads) (offered_number dr w heads) (R j) (used w) (old_used w) (Hidden (total w.num batch))) (sym at) slots;
      };
      below = f.below;
      step_is = (
        record {
          batch_is = p.batch_is;
          more = p.more;
          linked = p.linked;
          quiet = p.quiet;
          carried = subst (λ j. Shows n (R j) (used_number dr + total w.num (take (length batch - shown) batch)) (elements_of w lens (drop (length batch - shown) batch))) (sym at) carried;
        },
        this_slot s.len i x,
      );
    }

-- PP5
pub pp5_keeps : (n : ℕ) (dr : DriverSlots) (counter : ℕ) (w : RegionWords) (s : SlotWords) (free heads batch : List ℕ) (lens : ℕ → ℕ) (shown : ℕ) → InBatch n dr counter w s free heads batch lens (AtPP5 shown)
    → InBatch n dr counter w (record s { id = slot_with s.id (place_at n w batch shown).index (w.id (w.last (head_at batch shown))) }) free heads batch lens (AtPP6 shown)
pp5_keeps n dr counter w s free heads batch lens shown f =
    let p = f.step_is.0 in
    let k : IsNext n (used_number dr) w heads batch shown = next_of n dr w s free heads batch lens shown f.left p in
    let x : ℕ = w.id (w.last (head_at batch shown)) in
    let q : ℕ = used_number dr + total w.num (take (element_at batch shown) batch) in
    let i : ℕ = (place_at n w batch shown).index in
    let at : i ≡ q % n = ap (λ (y : Position). y.index) k.place in
    let R : ℕ → SlotWords = λ j. record s { id = slot_with s.id j x } in
    let slots : IsSlots n dr dr.collected (used_number dr) (avail_number dr w heads) (offered_number dr w heads) (R (q % n)) (used w) (old_used w) (Hidden (total w.num batch)) =
    slots_id n dr dr.collected (used_number dr) (avail_number dr w heads) (offered_number dr w heads) s (used w) (old_used w) (Hidden (total w.num batch)) q x (omega arith) (omega (arith, k.split, k.parts, k.some, k.fits)) f.left.slots in
    let carried = carried_kept n (used_number dr) w heads batch lens s (R (q % n)) shown f.left.slots.some k (id_elsewhere s (q % n) x) p.carried in
    record {
      left = record {
        found = f.left.found;
        slots = subst (λ j. IsSlots n dr dr.collected (used_number dr) (avail_number dr w heads) (offered_number dr w heads) (R j) (used w) (old_used w) (Hidden (total w.num batch))) (sym at) slots;
      };
      below = f.below;
      step_is = (
        record {
          batch_is = p.batch_is;
          more = p.more;
          linked = p.linked;
          quiet = p.quiet;
          carried = subst (λ j. Shows n (R j) (used_number dr + total w.num (take (length batch - shown) batch)) (elements_of w lens (drop (length batch - shown) batch))) (sym at) carried;
        },
        f.step_is.1,
        this_slot s.id i x,
      );
    }

-- with its flags the element stands before those that are carried
carried_more : (n : ℕ) (dr : DriverSlots) (counter : ℕ) (w : RegionWords) (s : SlotWords) (free heads batch : List ℕ) (lens : ℕ → ℕ) (shown : ℕ) → InBatch n dr counter w s free heads batch lens (AtPP6 shown) → IsNext n (used_number dr) w heads batch shown
    → Shows n (record s { flags = slot_with s.flags ((used_number dr + total w.num (take (element_at batch shown) batch)) % n) (used_flags (place_at n w batch shown).wrap) })
    (used_number dr + total w.num (take (element_at batch shown) batch)) (elements_of w lens (drop (element_at batch shown) batch))
carried_more n dr counter w s free heads batch lens shown f k =
    let p = f.step_is.0 in
    let q : ℕ = used_number dr + total w.num (take (element_at batch shown) batch) in
    let x : ℕ = used_flags (place_at n w batch shown).wrap in
    let r : SlotWords = record s { flags = slot_with s.flags (q % n) x } in
    let at : (place_at n w batch shown).index ≡ q % n = ap (λ (y : Position). y.index) k.place in
    let wrap : (place_at n w batch shown).wrap ≡ wrap_at n q = ap (λ (y : Position). y.wrap) k.place in
    let new : is_used x (wrap_at n q) ≡ true = subst (λ t. is_used x t ≡ true) wrap (used_is (place_at n w batch shown).wrap) in
    let here : is_used (slot_with s.flags (q % n) x (q % n)) (wrap_at n q) ≡ true = subst (λ y. is_used y (wrap_at n q) ≡ true) (sym (this_slot s.flags (q % n) x)) new in
    let id : s.id (q % n) ≡ w.id (w.last (head_at batch shown)) = ap s.id (sym at) ∙ f.step_is.2 in
    let len : s.len (q % n) ≡ lens (head_at batch shown) = ap s.len (sym at) ∙ f.step_is.1 in
    let carried : Shows n r (used_number dr + total w.num (take (length batch - shown) batch)) (elements_of w lens (drop (length batch - shown) batch)) =
    carried_kept n (used_number dr) w heads batch lens s r shown f.left.slots.some k (flags_elsewhere s (q % n) x) p.carried in
    let next : used_number dr + total w.num (take (length batch - shown) batch) ≡ q + w.num (head_at batch shown) = omega (arith, k.split) in
    subst (λ hs. Shows n r q (elements_of w lens hs)) (sym k.opened)
    (here, id, len, k.some, subst (λ y. Shows n r y (elements_of w lens (drop (length batch - shown) batch))) next carried)

-- PP6 of a later element
pub pp6_keeps : (n : ℕ) (dr : DriverSlots) (counter : ℕ) (w : RegionWords) (s : SlotWords) (free heads batch : List ℕ) (lens : ℕ → ℕ) (shown : ℕ) → shown + 1 < length batch → InBatch n dr counter w s free heads batch lens (AtPP6 shown)
    → InBatch n dr counter w (record s { flags = slot_with s.flags (place_at n w batch shown).index (used_flags (place_at n w batch shown).wrap) }) free heads batch lens (AtPP4 (shown + 1))
pp6_keeps n dr counter w s free heads batch lens shown later f =
    let p = f.step_is.0 in
    let b = p.batch_is in
    let k : IsNext n (used_number dr) w heads batch shown = next_of n dr w s free heads batch lens shown f.left p in
    let e : ℕ = element_at batch shown in
    let x : ℕ = used_flags (place_at n w batch shown).wrap in
    let q : ℕ = used_number dr + total w.num (take e batch) in
    let i : ℕ = (place_at n w batch shown).index in
    let at : i ≡ q % n = ap (λ (y : Position). y.index) k.place in
    let wrap : (place_at n w batch shown).wrap ≡ wrap_at n q = ap (λ (y : Position). y.wrap) k.place in
    let new : is_used x (wrap_at n q) ≡ true = subst (λ t. is_used x t ≡ true) wrap (used_is (place_at n w batch shown).wrap) in
    let lap : same_bool (avail_bit x) (wrap_at n q) ≡ true = grind (arith, nat_tests) in
    let first : 0 < total w.num (take e batch) = first_some in
    let R : ℕ → SlotWords = λ j. record s { flags = slot_with s.flags j x } in
    let t : ℕ = total w.num batch in
    let slots : IsSlots n dr dr.collected (used_number dr) (avail_number dr w heads) (offered_number dr w heads) (R (q % n)) (used w) (old_used w) (Hidden t) =
    slots_carried n dr dr.collected (used_number dr) (avail_number dr w heads) (offered_number dr w heads) s (used w) (old_used w) t q x (omega (arith, first)) (omega (arith, k.split, k.parts, k.some)) lap f.left.slots in
    let there : SlotFacts n dr w (R i) heads (Hidden t) =
    subst (λ j. IsSlots n dr dr.collected (used_number dr) (avail_number dr w heads) (offered_number dr w heads) (R j) (used w) (old_used w) (Hidden t)) (sym at) slots in
    let hidden : is_committed (flags_at_old w s) w ≡ false = hidden_of n t dr w s heads f.left.slots in
    let still : is_committed (flags_at_old w (R i)) w ≡ false = hidden_of n t dr w (R i) heads there in
    let found : IsFound n (flags_at_old w (R i)) w free heads = found_flags n (flags_at_old w s) (flags_at_old w (R i)) w free heads f.left.found (still ∙ sym hidden) in
    let fewer : e ≡ length batch - (shown + 1) = omega (arith, later) in
    let carried : Shows n (R (q % n)) q (elements_of w lens (drop e batch)) = carried_more n dr counter w s free heads batch lens shown f k in
    record {
      left = record { found = found; slots = there };
      below = below_same n (flags_at_old w s) (flags_at_old w (R i)) counter w w (entries_same n (flags_at_old w s) (flags_at_old w (R i)) w w free f.left.found.chosen found.chosen (λ j l o. refl) (λ j l c. refl) (λ j l c. refl)) f.below;
      step_is = record {
        batch_is = b;
        more = later;
        linked = p.linked;
        quiet = p.quiet;
        carried = subst (λ j. Shows n (R i) (used_number dr + total w.num (take j batch)) (elements_of w lens (drop j batch))) fewer
            (subst (λ j. Shows n (R j) q (elements_of w lens (drop e batch))) (sym at) carried);
      };
    }
  where
    front : (hs : List ℕ) (k : ℕ) → 0 < length hs → 0 < k → 0 < w.num (get_or hs 0 0) → 0 < total w.num (take k hs)
    front [] k l m one = absurd (omega (arith, l))
    front (h ∷ hs) zero l m one = absurd (omega (arith, m))
    front (h ∷ hs) (suc k) l m one = omega (arith, one)

    -- the first element has a slot of its own
    first_some : 0 < total w.num (take (element_at batch shown) batch)
    first_some =
        let b = f.step_is.0.batch_is in
        let inside : 0 < element_at batch shown = omega (arith, later) in
        let some : 0 < length batch = omega (arith, later) in
        let held : is_among heads (get_or batch 0 0) ≡ true = b.all_open (get_or batch 0 0) (among_get_or batch 0 some) in
        front batch (element_at batch shown) some inside (some_of w.next w.num w.last (get_or batch 0 0) heads f.left.found.ends held)

-- PP6 of the first element: the batch is published
pub publish_keeps : (n : ℕ) (dr : DriverSlots) (counter : ℕ) (w : RegionWords) (s : SlotWords) (free heads batch : List ℕ) (lens : ℕ → ℕ) (shown : ℕ) → shown + 1 ≡ length batch → InBatch n dr counter w s free heads batch lens (AtPP6 shown)
    → InBatch n (record dr { shown = dr.shown ++ elements_of w lens batch }) counter w (record s { flags = slot_with s.flags (place_at n w batch shown).index (used_flags (place_at n w batch shown).wrap) })
    (chains w.next w.num (reverse batch) ++ free) (filter (λ (h : ℕ). not (is_among batch h)) heads) batch lens (Cleared 0)
publish_keeps n dr counter w s free heads batch lens shown final f =
    let p = f.step_is.0 in
    let b = p.batch_is in
    let k : IsNext n (used_number dr) w heads batch shown = next_of n dr w s free heads batch lens shown f.left p in
    let e : ℕ = element_at batch shown in
    let first : e ≡ 0 = omega (arith, final) in
    let x : ℕ = used_flags (place_at n w batch shown).wrap in
    let u : ℕ = used_number dr in
    let q : ℕ = u + total w.num (take e batch) in
    let at_u : q ≡ u = ap (λ j. u + total w.num (take j batch)) first ∙ (let z : u + 0 ≡ u = omega arith in z) in
    let i : ℕ = (place_at n w batch shown).index in
    let at : i ≡ u % n = ap (λ (y : Position). y.index) k.place ∙ ap (λ j. j % n) at_u in
    let wrap : (place_at n w batch shown).wrap ≡ wrap_at n u = ap (λ (y : Position). y.wrap) k.place ∙ ap (λ j. wrap_at n j) at_u in
    let new : is_used x (wrap_at n u) ≡ true = subst (λ t. is_used x t ≡ true) wrap (used_is (place_at n w batch shown).wrap) in
    let R : ℕ → SlotWords = λ j. record s { flags = slot_with s.flags j x } in
    let t : ℕ = total w.num batch in
    let some_t : 0 < t = omega (arith, k.split, k.parts, k.some) in
    let es : List Element = elements_of w lens batch in
    let sum : slots_of es ≡ t = slots_of-elements w lens batch in
    let carried : Shows n (R (q % n)) q (elements_of w lens (drop e batch)) = carried_more n dr counter w s free heads batch lens shown f k in
    let whole : Shows n (R (u % n)) u es =
    subst (λ j. Shows n (R (j % n)) j es) at_u (subst (λ j. Shows n (R (q % n)) q (elements_of w lens (drop j batch))) first carried) in
    let slots : IsSlots n (record dr { shown = dr.shown ++ es }) dr.collected (u + t) (avail_number dr w heads) (offered_number dr w heads) (R (u % n)) (used w) (old_used w) (Shown t) =
    slots_shown n dr dr.collected u (avail_number dr w heads) (offered_number dr w heads) s (used w) (old_used w) t x es some_t sum new whole f.left.slots in
    let er : DriverSlots = record dr { shown = dr.shown ++ es } in
    let rest : List ℕ = without batch heads in
    let fewer : total w.num rest + t ≡ total w.num heads = total-batch w.num batch heads (heads_once w.next w.num w.last heads (λ j. omega (arith, f.left.found.apart.once j)) f.left.found.ends) (once_of batch b.distinct) b.all_open in
    let same_u : u + t ≡ used_number er = omega (arith, slots_of-append dr.shown es, sum) in
    let same_v : avail_number dr w heads ≡ avail_number er w rest = omega (arith, slots_of-append dr.shown es, sum, fewer) in
    let same_a : offered_number dr w heads ≡ offered_number er w rest = omega (arith, slots_of-append dr.shown es, sum, fewer) in
    let there : SlotFacts n er w (R i) rest (Shown t) =
    subst (λ j. IsSlots n er dr.collected (used_number er) (avail_number er w rest) (offered_number er w rest) (R j) (used w) (old_used w) (Shown t)) (sym at)
    (subst (λ j. IsSlots n er dr.collected j (avail_number er w rest) (offered_number er w rest) (R (u % n)) (used w) (old_used w) (Shown t)) same_u
    (subst (λ j. IsSlots n er dr.collected (u + t) j (offered_number er w rest) (R (u % n)) (used w) (old_used w) (Shown t)) same_v
    (subst (λ j. IsSlots n er dr.collected (u + t) (avail_number dr w heads) j (R (u % n)) (used w) (old_used w) (Shown t)) same_a slots))) in
    let committed : is_committed (flags_at_old w (R i)) w ≡ true = shown_of n t er w (R i) rest there in
    let found : IsFound n (flags_at_old w (R i)) w (chains w.next w.num (reverse batch) ++ free) rest = found_shown n (flags_at_old w s) (flags_at_old w (R i)) w free heads batch f.left.found b p.linked committed in
    let read : open_entries n (flags_at_old w (R i)) w ≡ without_heads (chains w.next w.num (reverse batch)) (open_entries n (flags_at_old w s) w) = read_shown n (flags_at_old w s) (flags_at_old w (R i)) w free heads batch f.left.found b p.linked committed in
    let done : InBatch n er counter w (R i) (chains w.next w.num (reverse batch) ++ free) rest batch lens (Cleared 0) = record {
      left = record { found = found; slots = there };
      below = subst (λ (xs : List Pending). CountersBelow counter xs) (sym read) (all_filter (λ c. c.counter < counter) _ (open_entries n (flags_at_old w s) w) f.below);
      step_is = record {
        upto = omega arith;
        held = λ j h. held_shown n (flags_at_old w s) w free heads batch j f.left.found b h;
        quiet = λ j h out. quiet_shown n (flags_at_old w s) w free heads batch j f.left.found b p.quiet h out;
        clear = λ j h. absurd (let no : false ≡ true = h in cc);
      };
    } in
    subst (λ (hs : List ℕ). InBatch n er counter w (R i) (chains w.next w.num (reverse batch) ++ free) hs batch lens (Cleared 0)) (sym (filtered batch heads)) done
