-- A batch is linked, moved to, cleared and noted, store by store.
use Rattle.std.proofs.Common.{◌≡◌, ◌≢◌, ◌≤◌, ◌<◌, ℕ, zero, suc, ◌+◌, ◌-◌, Bool, true, false, cond, List, [], ◌∷◌, ◌++◌, length, take, drop, reverse, get_or, refl, ap, sym, ◌∙◌, subst, inl, inr, arith, take_all}
use Rattle.std.specs.Prelude.{◌==◌, ◌||◌}
use Rattle.std.proofs.Math.ListN.{drop_of_length-le}
use Rattle.std.proofs.lemmas.Bool.Decides.{nat_tests}
use Rattle.std.proofs.lemmas.Bool.{cases_eq}
use Rattle.std.proofs.lemmas.List.{take_more, take-append-drop, append_assoc, reverse-append}
use Rattle.vub_base.specs.declared.pending.Pending.{Pending}
use Rattle.vub_base.specs.declared.position.Position.{Position}
use Rattle.vub_base.specs.Positions.{position_of, advanced}
use Rattle.vub_base.proofs.PositionLemmas.{advanced_at}
use Rattle.vub_device.specs.Past.{is_among}
use Rattle.vub_slots.specs.Slots.{SlotWords, Shows}
use Rattle.vub_slots.specs.Stands.{DriverSlots, Stand, IsSlots}
use Rattle.vub_slots.specs.Stands.Stand.{Hidden, Shown}
use Rattle.vub_slots.proofs.DeviceLemmas.{slots_moved, slots_noted}
use Rattle.vub_inflight.specs.Entries.{with_at, in_flight_but, CountersBelow}
use Rattle.vub_inflight.specs.Links.{links}
use Rattle.vub_inflight.proofs.LinkLemmas.{links-with_at}
use Rattle.vub_infl_packed.specs.Readings.{is_committed, chosen_head, open_entries}
use Rattle.vub_infl_packed.specs.Region.{RegionWords, used, old_used}
use Rattle.vub_infl_packed.specs.Stores.{with_positions}
use Rattle.vub_packed_facts.specs.Chains.{IsPath, chain, chains, count, last_of, in_chains, total, ChainsEnd}
use Rattle.vub_packed_facts.specs.Found.{IsFound, IsChosen, IsBatch}
use Rattle.vub_packed_facts.specs.Left.{flags_at_old, used_number, avail_number, offered_number, SlotFacts, IsLeft}
use Rattle.vub_packed_facts.specs.Lives.{IsIdle, IsAtRest}
use Rattle.vub_packed_facts.specs.Batches.{BatchStep, elements_of, IsLinking, IsShowing, IsShownBatch, InBatch}
use Rattle.vub_packed_facts.specs.Batches.BatchStep.{Linked, AtPP2, AtPP4, Cleared, AtPP9}
use Rattle.vub_packed_facts.proofs.PathLemmas.{IsOnce, once_of, count-append, has-count, path_other, path_join}
use Rattle.vub_packed_facts.proofs.ChainLemmas.{without}
use Rattle.vub_packed_facts.proofs.BatchLemmas.{heads_once, total-batch, chains-batch, count-joined_reverse, some_of}
use Rattle.vub_packed_facts.proofs.FoundLemmas.{entries_same, found_link, found_free_head, found_old_head, found_used, found_noted, found_flight}
use Rattle.vub_packed_facts.proofs.StandLemmas.{hidden_is}
use Rattle.vub_packed_facts.proofs.StartLemmas.{hidden_of, shown_of, stored_slots, among_get_or, among_take_more}
use Rattle.vub_packed_facts.proofs.FetchLemmas.{set_here, below_same}

-- a batch takes at most the slots of the open heads
pub batch_fits : (n fl : ℕ) (w : RegionWords) (free heads batch : List ℕ) → IsFound n fl w free heads → IsBatch batch heads → total w.num batch ≤ total w.num heads
batch_fits n fl w free heads batch f b =
    omega (arith, total-batch w.num batch heads (heads_once w.next w.num w.last heads (λ i. omega (arith, f.apart.once i)) f.ends) (once_of batch b.distinct) b.all_open)

total-append : (num : ℕ → ℕ) (hs ks : List ℕ) → total num (hs ++ ks) ≡ total num hs + total num ks
total-append num [] ks = omega arith
total-append num (h ∷ hs) ks = omega (arith, total-append num hs ks)

-- the slots of the elements before one, its own, and those after it
pub total_split : (num : ℕ → ℕ) (hs : List ℕ) (e : ℕ) → e < length hs → total num (take (e + 1) hs) ≡ total num (take e hs) + num (get_or hs e 0)
total_split num hs e l = ap (total num) (take_more hs e 0 l) ∙ total-append num (take e hs) (get_or hs e 0 ∷ []) ∙ omega arith

pub total_parts : (num : ℕ → ℕ) (hs : List ℕ) (e : ℕ) → total num (take e hs) + total num (drop e hs) ≡ total num hs
total_parts num hs e = sym (total-append num (take e hs) (drop e hs)) ∙ ap (total num) (take-append-drop e hs)

-- an open chain doesn't see the link of another one's last entry
chains_same : (w : RegionWords) (i x : ℕ) (hs : List ℕ) → count i (chains w.next w.num hs) ≡ 0 → chains (with_at w.next i x) w.num hs ≡ chains w.next w.num hs
chains_same w i x [] none = refl
chains_same w i x (h ∷ hs) none =
    let both : count i (chains w.next w.num (h ∷ hs)) ≡ count i (chain w.next w.num h) + count i (chains w.next w.num hs) = count-append i (chain w.next w.num h) (chains w.next w.num hs) in
    let here : chain (with_at w.next i x) w.num h ≡ chain w.next w.num h = links-with_at w.next i x (w.num h) h (has-count i (chain w.next w.num h) (omega arith)) in
    let rest : chains (with_at w.next i x) w.num hs ≡ chains w.next w.num hs = chains_same w i x hs (omega arith) in
    ap (λ xs. xs ++ chains (with_at w.next i x) w.num hs) here ∙ ap (λ ys. chain w.next w.num h ++ ys) rest

last_counted : (next : ℕ → ℕ) (k g : ℕ) → 1 ≤ count (last_of g (links next (suc k) g)) (links next (suc k) g)
last_counted next zero g = grind (arith, nat_tests)
last_counted next (suc k) g = omega (arith, last_counted next k (next g))

pub ends_at : (next num last : ℕ → ℕ) (h : ℕ) (xs : List ℕ) → ChainsEnd next num last xs → is_among xs h ≡ true → last_of h (chain next num h) ≡ last h
ends_at next num last h [] e held = absurd (let no : false ≡ true = held in cc)
ends_at next num last h (x ∷ xs) e held = elim (cases_eq x h) [
  | inl same ↦ subst (λ k. last_of k (chain next num k) ≡ last k) same e.1
  | inr apart ↦ ends_at next num last h xs e.2 (grind (arith, nat_tests))
]

-- the last entry of an open head stands once in its chain
pub last_in_chain : (w : RegionWords) (h : ℕ) (xs : List ℕ) → ChainsEnd w.next w.num w.last xs → is_among xs h ≡ true → 1 ≤ count (w.last h) (chain w.next w.num h)
last_in_chain w h xs e held =
    let k : ℕ = w.num h - 1 in
    let some : w.num h ≡ suc k = omega (arith, some_of w.next w.num w.last h xs e held) in
    let one : 1 ≤ count (last_of h (chain w.next w.num h)) (chain w.next w.num h) = subst (λ j. 1 ≤ count (last_of h (links w.next j h)) (links w.next j h)) (sym some) (last_counted w.next k h) in
    subst (λ z. 1 ≤ count z (chain w.next w.num h)) (ends_at w.next w.num w.last h xs e held) one

distinct_take : (xs : List ℕ) (k : ℕ) → IsOnce xs → IsOnce (take k xs)
distinct_take xs zero d = tt
distinct_take [] (suc k) d = tt
distinct_take (x ∷ xs) (suc k) d = (not_taken x xs k d.0, distinct_take xs k d.1)
  where
    not_taken : (y : ℕ) (ys : List ℕ) (j : ℕ) → is_among ys y ≡ false → is_among (take j ys) y ≡ false
    not_taken y ys zero out = refl
    not_taken y [] (suc j) out = refl
    not_taken y (z ∷ ys) (suc j) out = (let rest : is_among ys y ≡ false → is_among (take j ys) y ≡ false = not_taken y ys j in grind (arith, nat_tests))

has_take : (i : ℕ) (xs : List ℕ) (k : ℕ) → is_among (take k xs) i ≡ true → is_among xs i ≡ true
has_take i xs zero t = absurd (let no : false ≡ true = t in cc)
has_take i [] (suc k) t = t
has_take i (x ∷ xs) (suc k) t = (let rest : is_among (take k xs) i ≡ true → is_among xs i ≡ true = has_take i xs k in grind (arith, nat_tests))

reverse-take_more : (xs : List ℕ) (k : ℕ) → k < length xs → reverse (take (k + 1) xs) ≡ get_or xs k 0 ∷ reverse (take k xs)
reverse-take_more xs k l = ap reverse (take_more xs k 0 l) ∙ reverse-append (take k xs) (get_or xs k 0 ∷ [])

-- a batch begins
pub batch_begins : (n : ℕ) (dr : DriverSlots) (counter : ℕ) (w : RegionWords) (s : SlotWords) (free heads batch : List ℕ) (lens : ℕ → ℕ) → IsBatch batch heads → IsAtRest n dr counter w s free heads → InBatch n dr counter w s free heads batch lens (Linked 0)
batch_begins n dr counter w s free heads batch lens b f =
    let hidden : is_committed (flags_at_old w s) w ≡ false = hidden_of n 0 dr w s heads f.left.slots in
    let old : chosen_head (flags_at_old w s) w ≡ w.old_free_head = ap (λ t. cond t w.free_head w.old_free_head) hidden in
    record { left = f.left; below = f.below; step_is = record { batch_is = b; upto = omega arith; linked = subst (λ k. IsPath w.next k free n) (old ∙ sym f.idle.agree) f.left.found.chosen.path; quiet = f.idle.quiet } }

-- PP1
pub pp1_keeps : (n : ℕ) (dr : DriverSlots) (counter : ℕ) (w : RegionWords) (s : SlotWords) (free heads batch : List ℕ) (lens : ℕ → ℕ) (done : ℕ) → done < length batch → InBatch n dr counter w s free heads batch lens (Linked done)
    → InBatch n dr counter (record w { next = with_at w.next (w.last (get_or batch done 0)) w.free_head }) s free heads batch lens (AtPP2 done)
pp1_keeps n dr counter w s free heads batch lens done more f =
    let fl : ℕ = flags_at_old w s in
    let p = f.step_is in
    let b = p.batch_is in
    let distinct : IsOnce batch = once_of batch b.distinct in
    let h : ℕ = get_or batch done 0 in
    let v : RegionWords = record w { next = with_at w.next (w.last h) w.free_head } in
    let held : is_among heads h ≡ true = b.all_open h (among_get_or batch done more) in
    let one_more : take (done + 1) batch ≡ take done batch ++ h ∷ [] = take_more batch done 0 more in
    let counts : count (w.last h) (chains w.next w.num (take (done + 1) batch)) ≡ count (w.last h) (chains w.next w.num (take done batch)) + count (w.last h) (chain w.next w.num h) =
    ap (λ hs. count (w.last h) (chains w.next w.num hs)) one_more ∙ count_push (w.last h) (take done batch) h in
    let fits : in_chains w.next w.num (w.last h) (without (take (done + 1) batch) heads) + count (w.last h) (chains w.next w.num (take (done + 1) batch)) ≤ in_chains w.next w.num (w.last h) heads =
    chains-batch w (w.last h) (take (done + 1) batch) heads (distinct_take batch (done + 1) distinct) (λ g t. b.all_open g (has_take g batch (done + 1) t)) in
    let mine : 1 ≤ count (w.last h) (chain w.next w.num h) = last_in_chain w h heads f.left.found.ends held in
    let none : count (w.last h) (chains w.next w.num (reverse (take done batch))) ≡ 0 = omega (arith, f.left.found.apart.once (w.last h), count-joined_reverse w (w.last h) (take done batch), counts, fits, mine) in
    let not_free : count (w.last h) free ≡ 0 = omega (arith, f.left.found.apart.once (w.last h), counts, fits, mine) in
    let out : is_among (chains w.next w.num (reverse (take done batch)) ++ free) (w.last h) ≡ false =
    has-count (w.last h) (chains w.next w.num (reverse (take done batch)) ++ free) (omega (arith, none, not_free, count-append (w.last h) (chains w.next w.num (reverse (take done batch))) free)) in
    let path : IsPath v.next w.free_head (chains w.next w.num (reverse (take done batch)) ++ free) n = path_other w.next (w.last h) w.free_head w.free_head (chains w.next w.num (reverse (take done batch)) ++ free) n out p.linked in
    let lists : chains w.next w.num (reverse (take done batch)) ≡ chains v.next v.num (reverse (take done batch)) = sym (chains_same w (w.last h) w.free_head (reverse (take done batch)) none) in
    let found : IsFound n fl v free heads = found_link n fl w free heads h w.free_head f.left.found held in
    record {
      left = record { found = found; slots = f.left.slots };
      below = below_same n fl fl counter v w (entries_same n fl fl v w free f.left.found.chosen found.chosen (λ i l o. refl) (λ i l q. refl) (λ i l q. refl)) f.below;
      step_is = (
        record { batch_is = b; upto = p.upto; linked = subst (λ xs. IsPath v.next w.free_head (xs ++ free) n) lists path; quiet = p.quiet },
        more,
        set_here w.next (w.last h) w.free_head,
      );
    }
  where
    count_push : (i : ℕ) (hs : List ℕ) (g : ℕ) → count i (chains w.next w.num (hs ++ g ∷ [])) ≡ count i (chains w.next w.num hs) + count i (chain w.next w.num g)
    count_push i [] g = omega (arith, count-append i (chain w.next w.num g) [])
    count_push i (x ∷ hs) g = omega (arith, count_push i hs g, count-append i (chain w.next w.num x) (chains w.next w.num (hs ++ g ∷ [])), count-append i (chain w.next w.num x) (chains w.next w.num hs))

-- from a head along the chain, and on by the last entry's link
chain_to : (next : ℕ → ℕ) (t k h : ℕ) → next (last_of h (links next (suc k) h)) ≡ t → IsPath next h (links next (suc k) h) t
chain_to next t zero h e = (refl, e)
chain_to next t (suc k) h e = (refl, chain_to next t k (next h) e)

-- PP2
pub pp2_keeps : (n : ℕ) (dr : DriverSlots) (counter : ℕ) (w : RegionWords) (s : SlotWords) (free heads batch : List ℕ) (lens : ℕ → ℕ) (done : ℕ) → InBatch n dr counter w s free heads batch lens (AtPP2 done)
    → InBatch n dr counter (record w { free_head = get_or batch done 0 }) s free heads batch lens (Linked (done + 1))
pp2_keeps n dr counter w s free heads batch lens done f =
    let fl : ℕ = flags_at_old w s in
    let p = f.step_is.0 in
    let b = p.batch_is in
    let more = f.step_is.1 in
    let h : ℕ = get_or batch done 0 in
    let v : RegionWords = record w { free_head = h } in
    let hidden : is_committed fl w ≡ false = hidden_of n 0 dr w s heads f.left.slots in
    let held : is_among heads h ≡ true = b.all_open h (among_get_or batch done more) in
    let k : ℕ = w.num h - 1 in
    let so_many : suc k ≡ w.num h = omega (arith, some_of w.next w.num w.last h heads f.left.found.ends held) in
    let P : ℕ → Type 0 = λ j. w.next (last_of h (links w.next j h)) ≡ w.free_head → IsPath w.next h (links w.next j h) w.free_head in
    let run : P (w.num h) = subst P so_many (chain_to w.next w.free_head k h) in
    let one : IsPath w.next h (chain w.next w.num h) w.free_head = run (ap w.next (ends_at w.next w.num w.last h heads f.left.found.ends held) ∙ f.step_is.2) in
    let all : IsPath w.next h (chain w.next w.num h ++ (chains w.next w.num (reverse (take done batch)) ++ free)) n = path_join w.next h (chain w.next w.num h) w.free_head (chains w.next w.num (reverse (take done batch)) ++ free) n one p.linked in
    let turned : reverse (take (done + 1) batch) ≡ h ∷ reverse (take done batch) = reverse-take_more batch done more in
    let lists : chains w.next w.num (reverse (take (done + 1) batch)) ++ free ≡ chain w.next w.num h ++ (chains w.next w.num (reverse (take done batch)) ++ free) =
    ap (λ hs. chains w.next w.num hs ++ free) turned ∙ append_assoc (chain w.next w.num h) (chains w.next w.num (reverse (take done batch))) free in
    let found : IsFound n fl v free heads = found_free_head n fl w free heads h f.left.found hidden in
    record {
      left = record { found = found; slots = f.left.slots };
      below = below_same n fl fl counter v w (entries_same n fl fl v w free f.left.found.chosen found.chosen (λ i l o. refl) (λ i l q. refl) (λ i l q. refl)) f.below;
      step_is = record { batch_is = b; upto = omega (arith, more); linked = subst (λ xs. IsPath w.next h xs n) (sym lists) all; quiet = p.quiet };
    }

-- PP3
pub pp3_keeps : (n : ℕ) (dr : DriverSlots) (counter : ℕ) (w : RegionWords) (s : SlotWords) (free heads batch : List ℕ) (lens : ℕ → ℕ) → InBatch n dr counter w s free heads batch lens (Linked (length batch))
    → InBatch n dr counter (with_positions (advanced n (used w) (total w.num batch)) (old_used w) w) s free heads batch lens (AtPP4 0)
pp3_keeps n dr counter w s free heads batch lens f =
    let fl : ℕ = flags_at_old w s in
    let p = f.step_is in
    let b = p.batch_is in
    let t : ℕ = total w.num batch in
    let to : Position = advanced n (used w) t in
    let v : RegionWords = with_positions to (old_used w) w in
    let hidden : is_committed fl w ≡ false = hidden_of n 0 dr w s heads f.left.slots in
    let fits : t ≤ total w.num heads = batch_fits n fl w free heads batch f.left.found b in
    let few : t ≤ n = omega (arith, f.left.found.apart.sum, fits) in
    let at : used w ≡ position_of n (used_number dr) = f.left.slots.stands.new ∙ ap (λ k. position_of n k) (let e : used_number dr + 0 ≡ used_number dr = omega arith in e) in
    let on : to ≡ position_of n (used_number dr + t) = ap (λ (x : Position). advanced n x t) at ∙ advanced_at n (used_number dr) t f.left.slots.some few in
    let moved : IsSlots n dr dr.collected (used_number dr) (avail_number dr w heads) (offered_number dr w heads) s to (old_used w) (Hidden t) =
    slots_moved n dr dr.collected (used_number dr) (avail_number dr w heads) (offered_number dr w heads) s (used w) to (old_used w) t (omega (arith, fits)) on f.left.slots in
    let slots : SlotFacts n dr v s heads (Hidden t) = stored_slots n dr w s heads to (old_used w) (Hidden t) moved in
    let still : is_committed (flags_at_old v s) v ≡ false = hidden_of n t dr v s heads slots in
    let found : IsFound n (flags_at_old v s) v free heads = found_used n fl (flags_at_old v s) w free heads to (old_used w) f.left.found hidden still in
    let whole : take (length batch) batch ≡ batch = take_all (length batch) batch (omega arith) in
    let none : drop (length batch - 0) batch ≡ [] = drop_of_length-le batch (let e : length batch ≤ length batch - 0 = omega arith in e) in
    record {
      left = record { found = found; slots = slots };
      below = below_same n fl (flags_at_old v s) counter v w (entries_same n fl (flags_at_old v s) v w free f.left.found.chosen found.chosen (λ i l o. refl) (λ i l q. refl) (λ i l q. refl)) f.below;
      step_is = record {
        batch_is = b;
        more = b.some;
        linked = subst (λ hs. IsPath w.next w.free_head (chains w.next w.num (reverse hs) ++ free) n) whole p.linked;
        quiet = p.quiet;
        carried = subst (λ hs. Shows n s (used_number dr + total w.num (take (length batch - 0) batch)) (elements_of v lens hs)) (sym none) tt;
      };
    }

-- PP7
pub pp7_keeps : (n : ℕ) (dr : DriverSlots) (counter : ℕ) (w : RegionWords) (s : SlotWords) (free heads batch : List ℕ) (lens : ℕ → ℕ) (done : ℕ) → done < length batch → InBatch n dr counter w s free heads batch lens (Cleared done)
    → InBatch n dr counter (record w { inflight = with_at w.inflight (get_or batch done 0) 0 }) s free heads batch lens (Cleared (done + 1))
pp7_keeps n dr counter w s free heads batch lens done more f =
    let fl : ℕ = flags_at_old w s in
    let p = f.step_is in
    let h : ℕ = get_or batch done 0 in
    let v : RegionWords = record w { inflight = with_at w.inflight h 0 } in
    let held : is_among free h ≡ true = p.held h (among_get_or batch done more) in
    let found : IsFound n fl v free heads = found_flight n fl w free heads h 0 f.left.found held in
    record {
      left = record { found = found; slots = f.left.slots };
      below = below_same n fl fl counter v w (entries_same n fl fl v w free f.left.found.chosen found.chosen
          (λ i l o. let apart : i ≢ h = λ e. (let one : is_among free i ≡ true = ap (is_among free) e ∙ held in let no : false ≡ true = sym o ∙ one in cc) in grind (arith, nat_tests)) (λ i l q. refl) (λ i l q. refl)) f.below;
      step_is = record {
        upto = omega (arith, more);
        held = p.held;
        quiet = λ i t out. (let old : w.inflight i ≡ 0 = p.quiet i t out in grind (arith, nat_tests));
        clear = λ i t. (let grown : is_among (take (done + 1) batch) i ≡ (is_among (take done batch) i || (h == i)) = among_take_more i batch done more in let old : is_among (take done batch) i ≡ true → w.inflight i ≡ 0 = p.clear i in grind (arith, nat_tests));
      };
    }

-- PP8
pub pp8_keeps : (n : ℕ) (dr : DriverSlots) (counter : ℕ) (w : RegionWords) (s : SlotWords) (free heads batch : List ℕ) (lens : ℕ → ℕ) → InBatch n dr counter w s free heads batch lens (Cleared (length batch))
    → InBatch n dr counter (record w { old_free_head = w.free_head }) s free heads batch lens AtPP9
pp8_keeps n dr counter w s free heads batch lens f =
    let fl : ℕ = flags_at_old w s in
    let v : RegionWords = record w { old_free_head = w.free_head } in
    let found : IsFound n fl v free heads = found_old_head n fl w free heads w.free_head f.left.found (shown_of n (total w.num batch) dr w s heads f.left.slots) in
    record {
      left = record { found = found; slots = f.left.slots };
      below = below_same n fl fl counter v w (entries_same n fl fl v w free f.left.found.chosen found.chosen (λ i l o. refl) (λ i l q. refl) (λ i l q. refl)) f.below;
      step_is = (record { upto = f.step_is.upto; held = f.step_is.held; quiet = f.step_is.quiet; clear = f.step_is.clear }, refl);
    }

-- PP9
pub pp9_keeps : (n : ℕ) (dr : DriverSlots) (counter : ℕ) (w : RegionWords) (s : SlotWords) (free heads batch : List ℕ) (lens : ℕ → ℕ) → InBatch n dr counter w s free heads batch lens AtPP9
    → IsAtRest n dr counter (with_positions (used w) (used w) w) s free heads
pp9_keeps n dr counter w s free heads batch lens f =
    let fl : ℕ = flags_at_old w s in
    let p = f.step_is.0 in
    let v : RegionWords = with_positions (used w) (used w) w in
    let whole : take (length batch) batch ≡ batch = take_all (length batch) batch (omega arith) in
    let found : IsFound n (flags_at_old v s) v free heads = found_noted n fl (flags_at_old v s) w free heads (used w) (used w) f.left.found f.step_is.1 in
    record {
      left = record {
        found = found;
        slots = stored_slots n dr w s heads (used w) (used w) (Hidden 0) (slots_noted n dr dr.collected (used_number dr) (avail_number dr w heads) (offered_number dr w heads) s (used w) (old_used w) (total w.num batch) f.left.slots);
      };
      below = below_same n fl (flags_at_old v s) counter v w (entries_same n fl (flags_at_old v s) v w free f.left.found.chosen found.chosen (λ i l o. refl) (λ i l q. refl) (λ i l q. refl)) f.below;
      idle = record {
        agree = sym f.step_is.1;
        quiet = λ i t. (let go : (b : Bool) → is_among batch i ≡ b → w.inflight i ≡ 0 = elim [
          | true ↦ λ e. p.clear i (ap (λ (xs : List ℕ). is_among xs i) whole ∙ e)
          | false ↦ λ e. p.quiet i t e
        ] in go (is_among batch i) refl);
      };
    }
