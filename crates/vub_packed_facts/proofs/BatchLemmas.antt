-- A batch that is taken out of the open heads, and its chains.
use Rattle.std.proofs.Common.{◌≡◌, ◌≢◌, ◌≤◌, ◌<◌, ℕ, suc, ◌+◌, ◌-◌, Bool, true, false, cond, List, [], ◌∷◌, ◌++◌, length, reverse, refl, ap, sym, ◌∙◌, subst, inl, inr, arith}
use Rattle.std.specs.Prelude.{◌&&◌, ◌||◌, nat_lt}
use Rattle.std.specs.List.{AllByRecursion}
use Rattle.std.proofs.lemmas.Bool.Decides.{nat_tests}
use Rattle.std.proofs.lemmas.Bool.{cases_eq}
use Rattle.std.proofs.lemmas.List.{reverse-append, length-append, append_assoc}
use Rattle.vub_base.specs.declared.pending.Pending.{Pending}
use Rattle.vub_device.specs.Past.{is_among}
use Rattle.vub_device.proofs.Numbers.{is_among_append}
use Rattle.vub_inflight.specs.Entries.{in_flight_but, heads_of, without_heads, CountersBelow, CountersRise}
use Rattle.vub_inflight.specs.Links.{links}
use Rattle.vub_inflight.proofs.CounterLemmas.{rise_without}
use Rattle.vub_inflight.proofs.Each.{all_append, all_filter}
use Rattle.vub_inflight.proofs.EntryLemmas.{among_by_counter}
use Rattle.vub_inflight.proofs.LinkLemmas.{length-links}
use Rattle.vub_infl_packed.specs.Readings.{is_committed, chosen_head, open_but, open_entries}
use Rattle.vub_infl_packed.specs.Region.{RegionWords}
use Rattle.vub_packed_facts.specs.Chains.{IsPath, chain, chains, count, in_chains, total, ChainsEnd}
use Rattle.vub_packed_facts.specs.Found.{IsChosen, IsFound, IsBatch, AreQuiet}
use Rattle.vub_packed_facts.proofs.PathLemmas.{IsOnce, once_of, count-append, has-count, count-has}
use Rattle.vub_packed_facts.proofs.ChainLemmas.{without, in_chains-without}
use Rattle.vub_packed_facts.proofs.FoundLemmas.{head_in_chains}
use Rattle.vub_packed_facts.proofs.ReadingSteps.{open_is, open_shown}

pub heads_once : (next num last : ℕ → ℕ) (xs : List ℕ) → ((i : ℕ) → in_chains next num i xs ≤ 1) → ChainsEnd next num last xs → IsOnce xs
heads_once next num last [] once ends = tt
heads_once next num last (x ∷ xs) once ends =
    let mine : 1 ≤ count x (chain next num x) =
    (let k : ℕ = num x - 1 in
    let some : num x ≡ suc k = omega (arith, ends.0) in
    let one : 1 ≤ count x (links next (suc k) x) = grind (arith, nat_tests) in
    subst (λ j. 1 ≤ count x (links next j x)) (sym some) one) in
    let go : (b : Bool) → is_among xs x ≡ b → b ≡ false = elim [
      | true ↦ λ e. absurd (omega (arith, once x, mine, head_in_chains next num last x xs ends.2 e))
      | false ↦ λ e. refl
    ] in
    (go (is_among xs x) refl, heads_once next num last xs (λ i. omega (arith, once i)) ends.2)

without_out : (h : ℕ) (xs : List ℕ) → is_among xs h ≡ false → without (h ∷ []) xs ≡ xs
without_out h [] out = refl
without_out h (x ∷ xs) out =
    let more : is_among xs h ≡ false = grind (arith, nat_tests) in
    let rest : without (h ∷ []) xs ≡ xs = without_out h xs more in
    grind (arith, nat_tests)

without_two : (h : ℕ) (hs : List ℕ) (xs : List ℕ) → without (h ∷ hs) xs ≡ without hs (without (h ∷ []) xs)
without_two h hs [] = refl
without_two h hs (x ∷ xs) = (let rest : without (h ∷ hs) xs ≡ without hs (without (h ∷ []) xs) = without_two h hs xs in grind (arith, nat_tests))

pub among_without : (g : ℕ) (hs : List ℕ) (xs : List ℕ) → is_among hs g ≡ false → is_among (without hs xs) g ≡ is_among xs g
among_without g hs [] out = refl
among_without g hs (x ∷ xs) out =
    let rest : is_among (without hs xs) g ≡ is_among xs g = among_without g hs xs out in
    elim (cases_eq x g) [
      | inl same ↦ (let stays : is_among hs x ≡ false = subst (λ k. is_among hs k ≡ false) (sym same) out in grind (arith, nat_tests))
      | inr apart ↦ grind (arith, nat_tests)
    ]

among_less : (g : ℕ) (hs : List ℕ) (xs : List ℕ) → is_among xs g ≡ false → is_among (without hs xs) g ≡ false
among_less g hs [] out = refl
among_less g hs (x ∷ xs) out =
    let more : is_among xs g ≡ false = grind (arith, nat_tests) in
    let rest : is_among (without hs xs) g ≡ false = among_less g hs xs more in
    grind (arith, nat_tests)

once_without : (hs : List ℕ) (xs : List ℕ) → IsOnce xs → IsOnce (without hs xs)
once_without hs [] o = tt
once_without hs (x ∷ xs) o = elim (is_among hs x) as (λ b. IsOnce (cond b (without hs xs) (x ∷ without hs xs))) [
  | true ↦ once_without hs xs o.1
  | false ↦ (among_less x hs xs o.0, once_without hs xs o.1)
]

pub ends_without : (next num last : ℕ → ℕ) (hs : List ℕ) (xs : List ℕ) → ChainsEnd next num last xs → ChainsEnd next num last (without hs xs)
ends_without next num last hs [] e = tt
ends_without next num last hs (x ∷ xs) e = elim (is_among hs x) as (λ b. ChainsEnd next num last (cond b (without hs xs) (x ∷ without hs xs))) [
  | true ↦ ends_without next num last hs xs e.2
  | false ↦ (e.0, e.1, ends_without next num last hs xs e.2)
]

total-without : (num : ℕ → ℕ) (h : ℕ) (xs : List ℕ) → IsOnce xs → is_among xs h ≡ true → total num (without (h ∷ []) xs) + num h ≡ total num xs
total-without num h [] o held = absurd (let no : false ≡ true = held in cc)
total-without num h (x ∷ xs) o held = elim (cases_eq x h) [
  | inl same ↦
      let out : is_among xs h ≡ false = subst (λ k. is_among xs k ≡ false) same o.0 in
      let rest : without (h ∷ []) xs ≡ xs = without_out h xs out in
      let drops : without (h ∷ []) (x ∷ xs) ≡ without (h ∷ []) xs = grind (arith, nat_tests) in
      let all : total num (without (h ∷ []) (x ∷ xs)) ≡ total num xs = ap (total num) (drops ∙ rest) in
      let mine : num x ≡ num h = ap num same in
      omega arith
  | inr apart ↦
      let more : is_among xs h ≡ true = grind (arith, nat_tests) in
      let rest : total num (without (h ∷ []) xs) + num h ≡ total num xs = total-without num h xs o.1 more in
      let keeps : without (h ∷ []) (x ∷ xs) ≡ x ∷ without (h ∷ []) xs = grind (arith, nat_tests) in
      let all : total num (without (h ∷ []) (x ∷ xs)) ≡ num x + total num (without (h ∷ []) xs) = ap (total num) keeps in
      omega arith
]

-- each head is open, also once the first is taken out
others_open : (h : ℕ) (hs : List ℕ) (xs : List ℕ) → IsOnce (h ∷ hs) → ((g : ℕ) → is_among (h ∷ hs) g ≡ true → is_among xs g ≡ true) → (g : ℕ) → is_among hs g ≡ true → is_among (without (h ∷ []) xs) g ≡ true
others_open h hs xs d all g held =
    let apart : h ≢ g = λ e. (let one : is_among hs g ≡ false = subst (λ k. is_among hs k ≡ false) e d.0 in let no : true ≡ false = sym held ∙ one in cc) in
    let out : is_among (h ∷ []) g ≡ false = grind (arith, nat_tests) in
    among_without g (h ∷ []) xs out ∙ all g (grind (arith, nat_tests))

-- the batch's slots leave the open ones
pub total-batch : (num : ℕ → ℕ) (hs : List ℕ) (xs : List ℕ) → IsOnce xs → IsOnce hs → ((g : ℕ) → is_among hs g ≡ true → is_among xs g ≡ true) → total num (without hs xs) + total num hs ≡ total num xs
total-batch num [] xs o d all = omega (arith, ap (total num) (none xs))
  where
    none : (ys : List ℕ) → without [] ys ≡ ys
    none [] = refl
    none (y ∷ ys) = ap (λ zs. y ∷ zs) (none ys)
total-batch num (h ∷ hs) xs o d all =
    let first : total num (without (h ∷ []) xs) + num h ≡ total num xs = total-without num h xs o (all h (grind (arith, nat_tests))) in
    let rest : total num (without hs (without (h ∷ []) xs)) + total num hs ≡ total num (without (h ∷ []) xs) = total-batch num hs (without (h ∷ []) xs) (once_without (h ∷ []) xs o) d.1 (others_open h hs xs d all) in
    let two : total num (without (h ∷ hs) xs) ≡ total num (without hs (without (h ∷ []) xs)) = ap (total num) (without_two h hs xs) in
    omega arith

-- and so do its chains
pub chains-batch : (w : RegionWords) (i : ℕ) (hs : List ℕ) (xs : List ℕ) → IsOnce hs → ((g : ℕ) → is_among hs g ≡ true → is_among xs g ≡ true) → in_chains w.next w.num i (without hs xs) + count i (chains w.next w.num hs) ≤ in_chains w.next w.num i xs
chains-batch w i [] xs d all = omega (arith, ap (in_chains w.next w.num i) (none xs))
  where
    none : (ys : List ℕ) → without [] ys ≡ ys
    none [] = refl
    none (y ∷ ys) = ap (λ zs. y ∷ zs) (none ys)
chains-batch w i (h ∷ hs) xs d all =
    let first : in_chains w.next w.num i (without (h ∷ []) xs) + count i (chain w.next w.num h) ≤ in_chains w.next w.num i xs = in_chains-without w.next w.num i h xs (all h (grind (arith, nat_tests))) in
    let rest : in_chains w.next w.num i (without hs (without (h ∷ []) xs)) + count i (chains w.next w.num hs) ≤ in_chains w.next w.num i (without (h ∷ []) xs) = chains-batch w i hs (without (h ∷ []) xs) d.1 (others_open h hs xs d all) in
    let two : in_chains w.next w.num i (without (h ∷ hs) xs) ≡ in_chains w.next w.num i (without hs (without (h ∷ []) xs)) = ap (in_chains w.next w.num i) (without_two h hs xs) in
    let counts : count i (chains w.next w.num (h ∷ hs)) ≡ count i (chain w.next w.num h) + count i (chains w.next w.num hs) = count-append i (chain w.next w.num h) (chains w.next w.num hs) in
    omega arith

joined-append : (w : RegionWords) (hs ks : List ℕ) → chains w.next w.num (hs ++ ks) ≡ chains w.next w.num hs ++ chains w.next w.num ks
joined-append w [] ks = refl
joined-append w (h ∷ hs) ks = ap (λ xs. chain w.next w.num h ++ xs) (joined-append w hs ks) ∙ sym (append_assoc (chain w.next w.num h) (chains w.next w.num hs) (chains w.next w.num ks))

pub count-joined_reverse : (w : RegionWords) (i : ℕ) (hs : List ℕ) → count i (chains w.next w.num (reverse hs)) ≡ count i (chains w.next w.num hs)
count-joined_reverse w i [] = refl
count-joined_reverse w i (h ∷ hs) =
    let turned : chains w.next w.num (reverse (h ∷ hs)) ≡ chains w.next w.num (reverse hs) ++ chains w.next w.num (h ∷ []) = ap (chains w.next w.num) (reverse-append (h ∷ []) hs) ∙ joined-append w (reverse hs) (h ∷ []) in
    let all : count i (chains w.next w.num (reverse (h ∷ hs))) ≡ count i (chains w.next w.num (reverse hs)) + count i (chains w.next w.num (h ∷ [])) = ap (count i) turned ∙ count-append i (chains w.next w.num (reverse hs)) (chains w.next w.num (h ∷ [])) in
    let one : count i (chains w.next w.num (h ∷ [])) ≡ count i (chain w.next w.num h) + 0 = count-append i (chain w.next w.num h) [] in
    let both : count i (chains w.next w.num (h ∷ hs)) ≡ count i (chain w.next w.num h) + count i (chains w.next w.num hs) = count-append i (chain w.next w.num h) (chains w.next w.num hs) in
    omega (arith, count-joined_reverse w i hs)

pub length-joined_reverse : (w : RegionWords) (hs : List ℕ) → length (chains w.next w.num (reverse hs)) ≡ total w.num hs
length-joined_reverse w [] = refl
length-joined_reverse w (h ∷ hs) =
    let turned : chains w.next w.num (reverse (h ∷ hs)) ≡ chains w.next w.num (reverse hs) ++ chains w.next w.num (h ∷ []) = ap (chains w.next w.num) (reverse-append (h ∷ []) hs) ∙ joined-append w (reverse hs) (h ∷ []) in
    let all : length (chains w.next w.num (reverse (h ∷ hs))) ≡ length (chains w.next w.num (reverse hs)) + length (chains w.next w.num (h ∷ [])) = ap length turned ∙ length-append (chains w.next w.num (reverse hs)) (chains w.next w.num (h ∷ [])) in
    let one : length (chains w.next w.num (h ∷ [])) ≡ length (chain w.next w.num h) + 0 = length-append (chain w.next w.num h) [] in
    omega (arith, length-joined_reverse w hs, length-links w.next (w.num h) h)

pub below_counted : (n : ℕ) (xs : List ℕ) → ((i : ℕ) → 0 < count i xs → i < n) → AllByRecursion (λ (k : ℕ). k < n) xs
below_counted n [] h = tt
below_counted n (x ∷ xs) h =
    let one : 0 < count x (x ∷ xs) = grind (arith, nat_tests) in
    (h x one, below_counted n xs (λ i some. h i (omega arith)))

has_one : (i : ℕ) (xs : List ℕ) → 1 ≤ count i xs → is_among xs i ≡ true
has_one i [] h = absurd (omega arith)
has_one i (x ∷ xs) h = (let rest : 1 ≤ count i xs → is_among xs i ≡ true = has_one i xs in elim (cases_eq x i) [ inl same ↦ grind (arith, nat_tests) | inr apart ↦ grind (arith, nat_tests) ])

-- a head stands in its own chain
head_in_joined : (w : RegionWords) (h : ℕ) (hs : List ℕ) → 0 < w.num h → is_among hs h ≡ true → 1 ≤ count h (chains w.next w.num hs)
head_in_joined w h [] some held = absurd (let no : false ≡ true = held in cc)
head_in_joined w h (g ∷ hs) some held =
    let both : count h (chains w.next w.num (g ∷ hs)) ≡ count h (chain w.next w.num g) + count h (chains w.next w.num hs) = count-append h (chain w.next w.num g) (chains w.next w.num hs) in
    elim (cases_eq g h) [
      | inl same ↦
          let k : ℕ = w.num h - 1 in
          let is : w.num h ≡ suc k = omega arith in
          let one : 1 ≤ count h (links w.next (suc k) h) = grind (arith, nat_tests) in
          let mine : 1 ≤ count h (chain w.next w.num h) = subst (λ j. 1 ≤ count h (links w.next j h)) (sym is) one in
          let here : 1 ≤ count h (chain w.next w.num g) = subst (λ (x : ℕ). 1 ≤ count h (chain w.next w.num x)) (sym same) mine in
          omega arith
      | inr apart ↦ (let more : is_among hs h ≡ true = grind (arith, nat_tests) in let rest = head_in_joined w h hs some more in omega arith)
    ]

pub some_of : (next num last : ℕ → ℕ) (h : ℕ) (xs : List ℕ) → ChainsEnd next num last xs → is_among xs h ≡ true → 0 < num h
some_of next num last h [] e held = absurd (let no : false ≡ true = held in cc)
some_of next num last h (x ∷ xs) e held = elim (cases_eq x h) [
  | inl same ↦ subst (λ k. 0 < num k) same e.0
  | inr apart ↦ some_of next num last h xs e.2 (grind (arith, nat_tests))
]

-- only heads matter for what is taken away
without_same : (hs ks xs : List ℕ) → ((i : ℕ) → is_among xs i ≡ true → is_among hs i ≡ is_among ks i) → without hs xs ≡ without ks xs
without_same hs ks [] same = refl
without_same hs ks (x ∷ xs) same =
    let rest : without hs xs ≡ without ks xs = without_same hs ks xs (λ i h. same i (grind (arith, nat_tests))) in
    let here : is_among hs x ≡ is_among ks x = same x (grind (arith, nat_tests)) in
    grind arith

-- of the batch's chains only its heads are heads of open requests
pub heads_of_batch : (w : RegionWords) (hs : List ℕ) (xs : List ℕ) (i : ℕ) → ((j : ℕ) → in_chains w.next w.num j xs ≤ 1) → ChainsEnd w.next w.num w.last xs → IsOnce hs
    → ((g : ℕ) → is_among hs g ≡ true → is_among xs g ≡ true) → is_among xs i ≡ true → is_among (chains w.next w.num (reverse hs)) i ≡ is_among hs i
heads_of_batch w hs xs i once ends d all held =
    let turned : count i (chains w.next w.num (reverse hs)) ≡ count i (chains w.next w.num hs) = count-joined_reverse w i hs in
    let parts : in_chains w.next w.num i (without hs xs) + count i (chains w.next w.num hs) ≤ in_chains w.next w.num i xs = chains-batch w i hs xs d all in
    let go : (b : Bool) → is_among hs i ≡ b → is_among (chains w.next w.num (reverse hs)) i ≡ b = elim [
      | true ↦ λ e. has_one i (chains w.next w.num (reverse hs)) (omega (arith, head_in_joined w i hs (some_of w.next w.num w.last i xs ends (all i e)) e))
      | false ↦ λ e.
          let stays : is_among (without hs xs) i ≡ true = among_without i hs xs e ∙ held in
          let one : 1 ≤ in_chains w.next w.num i (without hs xs) = head_in_chains w.next w.num w.last i (without hs xs) (ends_without w.next w.num w.last hs xs ends) stays in
          has-count i (chains w.next w.num (reverse hs)) (omega (arith, once i))
    ] in
    go (is_among hs i) refl

-- heads without those of a list of entries
heads_without : (these : List ℕ) (xs : List Pending) → heads_of (without_heads these xs) ≡ without these (heads_of xs)
heads_without these [] = refl
heads_without these (x ∷ xs) = let rest : heads_of (without_heads these xs) ≡ without these (heads_of xs) = heads_without these xs in grind arith

-- the flags of the first element show the batch: its chains are free, its requests are no longer open
record ShownAs (n fl fm : ℕ) (w : RegionWords) (free heads batch : List ℕ) : Type 0 where
  pub found : IsFound n fm w (chains w.next w.num (reverse batch) ++ free) (without batch heads)
  pub read : open_entries n fm w ≡ without_heads (chains w.next w.num (reverse batch)) (open_entries n fl w)

shown_as : (n fl fm : ℕ) (w : RegionWords) (free heads batch : List ℕ) → IsFound n fl w free heads → IsBatch batch heads
    → IsPath w.next w.free_head (chains w.next w.num (reverse batch) ++ free) n → is_committed fm w ≡ true → ShownAs n fl fm w free heads batch
shown_as n fl fm w free heads batch f b linked shown =
    let these : List ℕ = chains w.next w.num (reverse batch) in
    let distinct : IsOnce batch = once_of batch b.distinct in
    let once : (i : ℕ) → in_chains w.next w.num i heads ≤ 1 = λ i. omega (arith, f.apart.once i) in
    let each : IsOnce heads = heads_once w.next w.num w.last heads once f.ends in
    let all : (i : ℕ) → count i (these ++ free) ≡ count i (chains w.next w.num batch) + count i free = λ i. omega (arith, count-append i these free, count-joined_reverse w i batch) in
    let parts : (i : ℕ) → in_chains w.next w.num i (without batch heads) + count i (chains w.next w.num batch) ≤ in_chains w.next w.num i heads = λ i. chains-batch w i batch heads distinct b.all_open in
    let sums : total w.num (without batch heads) + total w.num batch ≡ total w.num heads = total-batch w.num batch heads each distinct b.all_open in
    let long : length (these ++ free) ≡ total w.num batch + length free = omega (arith, length-append these free, length-joined_reverse w batch) in
    let below : AllByRecursion (λ (k : ℕ). k < n) (these ++ free) = all_append (λ k. k < n) these free
    (below_counted n these (λ i some. f.within i (omega (arith, some, parts i, count-joined_reverse w i batch)))) f.chosen.below in
    let head : chosen_head fm w ≡ w.free_head = ap (λ t. cond t w.free_head w.old_free_head) shown in
    let path : IsPath w.next (chosen_head fm w) (these ++ free) n = subst (λ h. IsPath w.next h (these ++ free) n) (sym head) linked in
    let few : length (these ++ free) ≤ n = omega (arith, f.apart.sum, sums, long) in
    let chosen : IsChosen n fm w (these ++ free) = record { path = path; below = below; few = few } in
    let read : open_entries n fm w ≡ without_heads these (open_entries n fl w) =
    open_is n fm w (these ++ free) chosen ∙ open_shown n w these free ∙ ap (without_heads these) (sym (open_is n fl w free f.chosen)) in
    record {
      read = read;
      found = record {
        version = f.version;
        count = f.count;
        chosen = chosen;
        apart = record {
          once = λ i. omega (arith, f.apart.once i, parts i, all i);
          sum = omega (arith, f.apart.sum, sums, long);
        };
        within = λ i some. f.within i (omega (arith, some, parts i));
        ends = ends_without w.next w.num w.last batch heads f.ends;
        reads = ap heads_of read ∙ heads_without these (open_entries n fl w) ∙ ap (without these) f.reads ∙ without_same these batch heads (λ i held. heads_of_batch w batch heads i once f.ends distinct b.all_open held);
        rising = subst (λ (xs : List Pending). CountersRise xs) (sym read) (rise_without these (open_entries n fl w) f.rising);
        low = subst (λ (xs : List Pending). CountersBelow 18446744073709551615 xs) (sym read) (all_filter (λ e. e.counter < 18446744073709551615) _ (open_entries n fl w) f.low);
      };
    }

pub found_shown : (n fl fm : ℕ) (w : RegionWords) (free heads batch : List ℕ) → IsFound n fl w free heads → IsBatch batch heads
    → IsPath w.next w.free_head (chains w.next w.num (reverse batch) ++ free) n → is_committed fm w ≡ true → IsFound n fm w (chains w.next w.num (reverse batch) ++ free) (without batch heads)
found_shown n fl fm w free heads batch f b linked shown = (shown_as n fl fm w free heads batch f b linked shown).found

pub read_shown : (n fl fm : ℕ) (w : RegionWords) (free heads batch : List ℕ) → IsFound n fl w free heads → IsBatch batch heads
    → IsPath w.next w.free_head (chains w.next w.num (reverse batch) ++ free) n → is_committed fm w ≡ true → open_entries n fm w ≡ without_heads (chains w.next w.num (reverse batch)) (open_entries n fl w)
read_shown n fl fm w free heads batch f b linked shown = (shown_as n fl fm w free heads batch f b linked shown).read

-- what is in flight on the list that is free now are heads of the batch
pub quiet_shown : (n fl : ℕ) (w : RegionWords) (free heads batch : List ℕ) (i : ℕ) → IsFound n fl w free heads → IsBatch batch heads → AreQuiet w free
    → is_among (chains w.next w.num (reverse batch) ++ free) i ≡ true → is_among batch i ≡ false → w.inflight i ≡ 0
quiet_shown n fl w free heads batch i f b quiet held out =
    let these : List ℕ = chains w.next w.num (reverse batch) in
    let distinct : IsOnce batch = once_of batch b.distinct in
    let go : (t : Bool) → is_among free i ≡ t → w.inflight i ≡ 0 = elim [
      | true ↦ λ e. quiet i e
      | false ↦ λ e.
          let either : is_among (these ++ free) i ≡ (is_among these i || is_among free i) = is_among_append these free i in
          let here : is_among these i ≡ true = grind (arith, nat_tests) in
          let once : (j : ℕ) → in_chains w.next w.num j heads ≤ 1 = λ j. omega (arith, f.apart.once j) in
          let counted : 1 ≤ in_chains w.next w.num i heads = omega (arith, count-has i these here, count-joined_reverse w i batch, chains-batch w i batch heads distinct b.all_open) in
          let small : i < n = f.within i (omega (arith, counted)) in
          let not_head : is_among heads i ≡ false =
          (let turn : (s : Bool) → is_among heads i ≡ s → s ≡ false = elim [
            | true ↦ λ q. (let same : is_among these i ≡ is_among batch i = heads_of_batch w batch heads i once f.ends distinct b.all_open q in let no : true ≡ false = sym here ∙ same ∙ out in absurd (cc))
            | false ↦ λ q. refl
          ] in turn (is_among heads i) refl) in
          let reads : is_among (heads_of (open_entries n fl w)) i ≡ false = ap (λ (xs : List ℕ). is_among xs i) f.reads ∙ not_head in
          let passes : is_among (heads_of (open_but n free w)) i ≡ (nat_lt i n && in_flight_but free w.inflight i) = among_by_counter w.counter w.num (in_flight_but free w.inflight) n i in
          let by : is_among (heads_of (open_entries n fl w)) i ≡ is_among (heads_of (open_but n free w)) i = ap (λ (xs : List Pending). is_among (heads_of xs) i) (open_is n fl w free f.chosen) in
          grind (arith, nat_tests)
    ] in
    go (is_among free i) refl

-- each head of the batch is free then
pub held_shown : (n fl : ℕ) (w : RegionWords) (free heads batch : List ℕ) (i : ℕ) → IsFound n fl w free heads → IsBatch batch heads → is_among batch i ≡ true
    → is_among (chains w.next w.num (reverse batch) ++ free) i ≡ true
held_shown n fl w free heads batch i f b held =
    let one : 1 ≤ count i (chains w.next w.num batch) = head_in_joined w i batch (some_of w.next w.num w.last i heads f.ends (b.all_open i held)) held in
    has_one i (chains w.next w.num (reverse batch) ++ free) (omega (arith, one, count-append i (chains w.next w.num (reverse batch)) free, count-joined_reverse w i batch))
