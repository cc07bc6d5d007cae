-- A fetch is accepted: the first entries of the free list become the chain of a new open head.
use Rattle.std.proofs.Common.{◌≡◌, ◌≢◌, ◌≤◌, ◌<◌, ℕ, zero, suc, ◌+◌, ◌-◌, true, false, cond, List, [], ◌∷◌, ◌++◌, length, take, drop, get_or, refl, ap, sym, ◌∙◌, subst, inl, inr, arith}
use Rattle.std.specs.Prelude.{◌||◌}
use Rattle.std.specs.List.{AllByRecursion}
use Rattle.std.proofs.lemmas.Bool.Decides.{nat_tests}
use Rattle.std.proofs.lemmas.Bool.{cases_lt, cases_eq}
use Rattle.std.proofs.lemmas.List.{take-append-drop, length-take-le, length-append, map-append}
use Rattle.vub_base.specs.declared.pending.Pending.{Pending}
use Rattle.vub_device.specs.Past.{is_among}
use Rattle.vub_device.proofs.Numbers.{is_among_append}
use Rattle.vub_inflight.specs.Entries.{in_flight_but, entry_at, heads_of, CountersBelow, CountersRise}
use Rattle.vub_inflight.specs.Links.{links}
use Rattle.vub_inflight.proofs.CounterLemmas.{rise_push}
use Rattle.vub_inflight.proofs.Each.{all_append}
use Rattle.vub_inflight.proofs.EntryLemmas.{by_counter_all}
use Rattle.vub_infl_packed.specs.Readings.{is_committed, chosen_head, open_but, open_entries}
use Rattle.vub_infl_packed.specs.Region.{RegionWords}
use Rattle.vub_packed_facts.specs.Chains.{IsPath, chain, count, last_of, in_chains, ChainsEnd, Apart}
use Rattle.vub_packed_facts.specs.Found.{IsChosen, IsFound, AreQuiet}
use Rattle.vub_packed_facts.proofs.PathLemmas.{count-append, has-count, count-has}
use Rattle.vub_packed_facts.proofs.ChainLemmas.{apart_accepted, in_chains-push}
use Rattle.vub_packed_facts.proofs.ReadingSteps.{open_is, open_accepted}

path_front : (next : ℕ → ℕ) (h : ℕ) (xs ys : List ℕ) (t : ℕ) → IsPath next h (xs ++ ys) t → links next (length xs) h ≡ xs
path_front next h [] ys t p = refl
path_front next h (x ∷ xs) ys t p =
    let rest : links next (length xs) (next x) ≡ xs = path_front next (next x) xs ys t p.1 in
    let here : h ≡ x = p.0 in
    rw here (ap (λ zs. x ∷ zs) rest)

last_of-take : (xs : List ℕ) (j d : ℕ) → j < length xs → last_of d (take (suc j) xs) ≡ get_or xs j 0
last_of-take [] j d l = absurd (omega arith)
last_of-take (x ∷ xs) zero d l = refl
last_of-take (x ∷ xs) (suc j) d l = last_of-take xs j x (omega arith)

ends-push : (next num last : ℕ → ℕ) (xs : List ℕ) (x : ℕ) → ChainsEnd next num last xs → (0 < num x) → (last_of x (chain next num x) ≡ last x) → ChainsEnd next num last (xs ++ x ∷ [])
ends-push next num last [] x e some l = (some, l, tt)
ends-push next num last (y ∷ ys) x e some l = (e.0, e.1, ends-push next num last ys x e.2 some l)

below_drop : (n : ℕ) (j : ℕ) (xs : List ℕ) → AllByRecursion (λ (k : ℕ). k < n) xs → AllByRecursion (λ (k : ℕ). k < n) (drop j xs)
below_drop n zero xs b = b
below_drop n (suc j) [] b = tt
below_drop n (suc j) (x ∷ xs) b = below_drop n j xs b.1

below_count : (n : ℕ) (xs : List ℕ) (i : ℕ) → AllByRecursion (λ (k : ℕ). k < n) xs → 0 < count i xs → i < n
below_count n [] i b some = absurd (omega arith)
below_count n (x ∷ xs) i b some = elim (cases_eq x i) [
  | inl same ↦ subst (λ k. k < n) same b.0
  | inr apart ↦ below_count n xs i b.1 (grind (arith, nat_tests))
]

-- the new head joins the open ones at the end
record Accepted (n fl : ℕ) (w : RegionWords) (free heads : List ℕ) (h : ℕ) : Type 0 where
  pub found : IsFound n fl (record w { old_free_head = w.free_head }) free (heads ++ h ∷ [])
  pub read : open_entries n fl (record w { old_free_head = w.free_head }) ≡ open_entries n fl w ++ entry_at w.counter w.num h ∷ []

accepted : (n fl : ℕ) (w : RegionWords) (h : ℕ) (t heads : List ℕ) (j : ℕ) → IsFound n fl w (h ∷ t) heads → is_committed fl w ≡ false → j ≤ length t
    → IsPath w.next w.free_head (drop j t) n → w.num h ≡ suc j → w.last h ≡ get_or (h ∷ t) j 0 → w.inflight h ≡ 1 → ((i : ℕ) → is_among (h ∷ t) i ≡ true → i ≢ h → w.inflight i ≡ 0) → CountersBelow (w.counter h) (open_entries n fl w) → w.counter h < 18446744073709551615
    → Accepted n fl w (drop j t) heads h
accepted n fl w h t heads j f hidden room rest num last flight quiet below low =
    let v : RegionWords = record w { old_free_head = w.free_head } in
    let parts : take j t ++ drop j t ≡ t = take-append-drop j t in
    let whole : h ∷ (take j t ++ drop j t) ≡ h ∷ t = ap (λ zs. h ∷ zs) parts in
    let long : length (take j t) ≡ j = length-take-le j t room in
    let chosen : IsChosen n fl w (h ∷ (take j t ++ drop j t)) = subst (λ zs. IsChosen n fl w zs) (sym whole) f.chosen in
    let at_new : chosen_head fl v ≡ w.free_head = ap (λ b. cond b w.free_head w.free_head) hidden in
    let path : IsPath w.next (chosen_head fl v) (drop j t) n = subst (λ k. IsPath w.next k (drop j t) n) (sym at_new) rest in
    let few : length (drop j t) ≤ n = omega (arith, f.chosen.few, ap (λ (zs : List ℕ). length zs) parts, length-append (take j t) (drop j t)) in
    let left : IsChosen n fl v (drop j t) = record { path = path; below = below_drop n j t f.chosen.below.1; few = few } in
    let at_head : chosen_head fl w ≡ h = f.chosen.path.0 in
    let run : links w.next (length (h ∷ take j t)) (chosen_head fl w) ≡ h ∷ take j t = path_front w.next (chosen_head fl w) (h ∷ take j t) (drop j t) n chosen.path in
    let sized : length (h ∷ take j t) ≡ w.num h = omega (arith, long, num) in
    let is_chain : chain w.next w.num h ≡ h ∷ take j t = subst (λ k. links w.next k h ≡ h ∷ take j t) sized (subst (λ k. links w.next (length (h ∷ take j t)) k ≡ h ∷ take j t) at_head run) in
    let once : (i : ℕ) → count i (h ∷ (take j t ++ drop j t)) + in_chains w.next w.num i heads ≤ 1 = λ i. subst (λ zs. count i zs + in_chains w.next w.num i heads ≤ 1) (sym whole) (f.apart.once i) in
    let out : is_among (drop j t) h ≡ false =
    has-count h (drop j t) (let o = once h in let c : count h (take j t ++ drop j t) ≡ count h (take j t) + count h (drop j t) = count-append h (take j t) (drop j t) in grind (arith, nat_tests)) in
    let apart : Apart n w.next w.num ((h ∷ take j t) ++ drop j t) heads = subst (λ zs. Apart n w.next w.num zs heads) (sym whole) f.apart in
    let opened : open_entries n fl w ≡ open_but n (h ∷ (take j t ++ drop j t)) w = open_is n fl w (h ∷ (take j t ++ drop j t)) chosen in
    let readable : CountersBelow (w.counter h) (open_but n (h ∷ (take j t ++ drop j t)) w) = subst (λ (zs : List Pending). CountersBelow (w.counter h) zs) opened below in
    let read : open_entries n fl v ≡ open_entries n fl w ++ entry_at w.counter w.num h ∷ [] =
    open_is n fl v (drop j t) left ∙ open_accepted n w h (take j t) (drop j t) f.chosen.below.0 out flight
    (λ i held apart_i. quiet i (subst (λ zs. is_among zs i ≡ true) whole (let a : is_among (take j t ++ drop j t) i ≡ (is_among (take j t) i || is_among (drop j t) i) = is_among_append (take j t) (drop j t) i in grind (arith, nat_tests))) apart_i)
    (λ i l o. by_counter_all (λ e. e.counter < w.counter h) w.counter w.num (in_flight_but (h ∷ (take j t ++ drop j t)) w.inflight) n readable i l o)
    ∙ ap (λ (xs : List Pending). xs ++ entry_at w.counter w.num h ∷ []) (sym opened) in
    record {
      read = read;
      found = record {
        version = f.version;
        count = f.count;
        chosen = left;
        apart = apart_accepted n w.next w.num (h ∷ take j t) (drop j t) heads h apart is_chain (sym sized);
        within = λ i some.
            let pushed : in_chains w.next w.num i (heads ++ h ∷ []) ≡ in_chains w.next w.num i heads + count i (chain w.next w.num h) = in_chains-push w.next w.num i heads h in
            let mine : count i (chain w.next w.num h) ≡ count i (h ∷ take j t) = ap (count i) is_chain in
            elim (cases_lt 0 (in_chains w.next w.num i heads)) [
              | inl old ↦ f.within i old
              | inr new ↦
                  let c : count i (h ∷ (take j t ++ drop j t)) ≡ count i (h ∷ take j t) + count i (drop j t) = count-append i (h ∷ take j t) (drop j t) in
                  below_count n (h ∷ (take j t ++ drop j t)) i (subst (λ (zs : List ℕ). AllByRecursion (λ (k : ℕ). k < n) zs) (sym whole) f.chosen.below) (omega (arith, some, pushed, mine, new, c))
            ];
        ends = ends-push w.next w.num w.last heads h f.ends (omega (arith, num)) (ap (last_of h) is_chain ∙ last_of_front j room ∙ sym last);
        reads = ap heads_of read ∙ map-append (λ (e : Pending). e.head) (open_entries n fl w) (entry_at w.counter w.num h ∷ []) ∙ ap (λ (xs : List ℕ). xs ++ h ∷ []) f.reads;
        rising = subst (λ (xs : List Pending). CountersRise xs) (sym read) (rise_push (open_entries n fl w) (entry_at w.counter w.num h) f.rising below);
        low = subst (λ (xs : List Pending). CountersBelow 18446744073709551615 xs) (sym read) (all_append (λ e. e.counter < 18446744073709551615) (open_entries n fl w) (entry_at w.counter w.num h ∷ []) f.low (low, tt));
      };
    }
  where
    last_of_front : (k : ℕ) → k ≤ length t → last_of h (h ∷ take k t) ≡ get_or (h ∷ t) k 0
    last_of_front zero l = refl
    last_of_front (suc k) l = last_of-take t k h (omega (arith, l))

-- the same for the free list by its first entry and the number of descriptors
by_size : (n fl : ℕ) (w : RegionWords) (free heads : List ℕ) (h k : ℕ) → IsFound n fl w free heads → is_committed fl w ≡ false
    → free ≡ h ∷ drop 1 free → 0 < k → k ≤ length free → IsPath w.next w.free_head (drop k free) n → w.num h ≡ k → w.last h ≡ get_or free (k - 1) 0 → w.inflight h ≡ 1
    → ((i : ℕ) → is_among free i ≡ true → i ≢ h → w.inflight i ≡ 0) → CountersBelow (w.counter h) (open_entries n fl w) → w.counter h < 18446744073709551615
    → Accepted n fl w (drop k free) heads h
by_size n fl w free heads h zero f hidden first some room rest num last flight quiet below low = absurd (omega (arith, some))
by_size n fl w free heads h (suc j) f hidden first some room rest num last flight quiet below low =
    let t : List ℕ = drop 1 free in
    let less : suc j - 1 ≡ j = omega arith in
    let at_last : w.last h ≡ get_or (h ∷ t) j 0 = last ∙ ap (λ i. get_or free i 0) less ∙ ap (λ zs. get_or zs j 0) first in
    let dropped : drop (suc j) free ≡ drop j t = ap (λ zs. drop (suc j) zs) first in
    let goal : Accepted n fl w (drop j t) heads h =
    accepted n fl w h t heads j (subst (λ zs. IsFound n fl w zs heads) first f) hidden (let long : length free ≡ suc (length t) = ap (λ (zs : List ℕ). length zs) first in omega (arith, long, room))
    (subst (λ zs. IsPath w.next w.free_head zs n) dropped rest) num at_last flight (λ i held apart. quiet i (subst (λ zs. is_among zs i ≡ true) (sym first) held) apart) below low in
    subst (λ zs. Accepted n fl w zs heads h) (sym dropped) goal

pub found_accepted : (n fl : ℕ) (w : RegionWords) (free heads : List ℕ) (h k : ℕ) → IsFound n fl w free heads → is_committed fl w ≡ false
    → free ≡ h ∷ drop 1 free → 0 < k → k ≤ length free → IsPath w.next w.free_head (drop k free) n → w.num h ≡ k → w.last h ≡ get_or free (k - 1) 0 → w.inflight h ≡ 1
    → ((i : ℕ) → is_among free i ≡ true → i ≢ h → w.inflight i ≡ 0) → CountersBelow (w.counter h) (open_entries n fl w) → w.counter h < 18446744073709551615
    → IsFound n fl (record w { old_free_head = w.free_head }) (drop k free) (heads ++ h ∷ [])
found_accepted n fl w free heads h k f hidden first some room rest num last flight quiet below low = (by_size n fl w free heads h k f hidden first some room rest num last flight quiet below low).found

pub read_accepted : (n fl : ℕ) (w : RegionWords) (free heads : List ℕ) (h k : ℕ) → IsFound n fl w free heads → is_committed fl w ≡ false
    → free ≡ h ∷ drop 1 free → 0 < k → k ≤ length free → IsPath w.next w.free_head (drop k free) n → w.num h ≡ k → w.last h ≡ get_or free (k - 1) 0 → w.inflight h ≡ 1
    → ((i : ℕ) → is_among free i ≡ true → i ≢ h → w.inflight i ≡ 0) → CountersBelow (w.counter h) (open_entries n fl w) → w.counter h < 18446744073709551615
    → open_entries n fl (record w { old_free_head = w.free_head }) ≡ open_entries n fl w ++ entry_at w.counter w.num h ∷ []
read_accepted n fl w free heads h k f hidden first some room rest num last flight quiet below low = (by_size n fl w free heads h k f hidden first some room rest num last flight quiet below low).read

-- what is left of the free list is quiet
pub quiet_accepted : (n fl : ℕ) (w : RegionWords) (free heads : List ℕ) (h k : ℕ) → IsFound n fl w free heads → free ≡ h ∷ drop 1 free → 0 < k → ((i : ℕ) → is_among free i ≡ true → i ≢ h → w.inflight i ≡ 0)
    → AreQuiet w (drop k free)
quiet_accepted n fl w free heads h k f first some quiet i held =
    let parts : take k free ++ drop k free ≡ free = take-append-drop k free in
    let counts : count i free ≡ count i (take k free) + count i (drop k free) = ap (count i) (sym parts) ∙ count-append i (take k free) (drop k free) in
    let one : 1 ≤ count i (drop k free) = count-has i (drop k free) held in
    let apart : i ≢ h = λ e. omega (arith, f.apart.once i, in_front k some (sym e), counts, one) in
    let there : is_among free i ≡ true = subst (λ zs. is_among zs i ≡ true) parts (let a : is_among (take k free ++ drop k free) i ≡ (is_among (take k free) i || is_among (drop k free) i) = is_among_append (take k free) (drop k free) i in grind (arith, nat_tests)) in
    quiet i there apart
  where
    in_front : (m : ℕ) → 0 < m → h ≡ i → 1 ≤ count i (take m free)
    in_front zero s e = absurd (omega (arith, s))
    in_front (suc m) s e = subst (λ zs. 1 ≤ count i (take (suc m) zs)) (sym first) (grind (arith, nat_tests))
