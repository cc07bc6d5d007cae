-- What any life finds in the region, store by store.
use Rattle.std.proofs.Common.{◌≡◌, ◌≢◌, ◌≤◌, ◌<◌, ℕ, zero, suc, ◌-◌, Bool, true, false, cond, List, [], ◌∷◌, refl, ap, sym, ◌∙◌, subst, inl, inr, arith}
use Rattle.std.proofs.lemmas.Bool.Decides.{nat_tests}
use Rattle.std.proofs.lemmas.Bool.{cases_eq}
use Rattle.vub_base.specs.declared.pending.Pending.{Pending}
use Rattle.vub_base.specs.declared.position.Position.{Position}
use Rattle.vub_device.specs.Past.{is_among}
use Rattle.vub_inflight.specs.Entries.{in_flight_but, heads_of, with_at, CountersBelow, CountersRise}
use Rattle.vub_inflight.specs.Links.{links}
use Rattle.vub_infl_packed.specs.Readings.{is_committed, chosen_head, open_entries}
use Rattle.vub_infl_packed.specs.Region.{RegionWords}
use Rattle.vub_infl_packed.specs.Stores.{with_positions}
use Rattle.vub_packed_facts.specs.Chains.{IsPath, count, last_of, in_chains, total, ChainsEnd, Apart}
use Rattle.vub_packed_facts.specs.Found.{IsChosen, IsFound}
use Rattle.vub_packed_facts.proofs.PathLemmas.{path_other, has-count, count-has}
use Rattle.vub_packed_facts.proofs.ChainLemmas.{chains_num, chains_kept, last_in_no_front, fronts, chain_kept}
use Rattle.vub_packed_facts.proofs.ReadingSteps.{open_is, open_same}

-- an open head stands in the chains
pub head_in_chains : (next num last : ℕ → ℕ) (h : ℕ) (xs : List ℕ) → ChainsEnd next num last xs → is_among xs h ≡ true → 1 ≤ in_chains next num h xs
head_in_chains next num last h [] ends held = absurd (let no : false ≡ true = held in cc)
head_in_chains next num last h (x ∷ xs) ends held = elim (cases_eq x h) [
  | inl same ↦
      let k : ℕ = num x - 1 in
      let some : num x ≡ suc k = omega (arith, ends.0) in
      let P : ℕ → Type 0 = λ j. 1 ≤ count h (links next j x) in
      let one : 1 ≤ count h (links next (suc k) x) = grind (arith, nat_tests) in
      let here : P (num x) = subst P (sym some) one in
      omega (arith, here)
  | inr apart ↦
      let more : is_among xs h ≡ true = grind (arith, nat_tests) in
      omega (arith, head_in_chains next num last h xs ends.2 more)
]

-- an entry of the free list isn't the head of an open request, and in no chain
pub free_in_none : (n fl : ℕ) (w : RegionWords) (free heads : List ℕ) (i : ℕ) → IsFound n fl w free heads → is_among free i ≡ true → in_chains w.next w.num i heads ≡ 0
free_in_none n fl w free heads i f held = omega (arith, f.apart.once i, count-has i free held)

pub free_not_head : (n fl : ℕ) (w : RegionWords) (free heads : List ℕ) (i : ℕ) → IsFound n fl w free heads → is_among free i ≡ true → is_among heads i ≡ false
free_not_head n fl w free heads i f held =
    let go : (b : Bool) → is_among heads i ≡ b → b ≡ false = elim [
      | true ↦ λ e. absurd (omega (arith, free_in_none n fl w free heads i f held, head_in_chains w.next w.num w.last i heads f.ends e))
      | false ↦ λ e. refl
    ] in
    go (is_among heads i) refl

pub total_kept : (num : ℕ → ℕ) (h v : ℕ) (xs : List ℕ) → is_among xs h ≡ false → total (with_at num h v) xs ≡ total num xs
total_kept num h v [] out = refl
total_kept num h v (x ∷ xs) out =
    let same : with_at num h v x ≡ num x = grind (arith, nat_tests) in
    let more : is_among xs h ≡ false = grind (arith, nat_tests) in
    let rest : total (with_at num h v) xs ≡ total num xs = total_kept num h v xs more in
    omega arith

ends_num : (next num last : ℕ → ℕ) (h v : ℕ) (xs : List ℕ) → is_among xs h ≡ false → ChainsEnd next num last xs → ChainsEnd next (with_at num h v) last xs
ends_num next num last h v [] out e = tt
ends_num next num last h v (x ∷ xs) out e =
    let same : num x ≡ with_at num h v x = grind (arith, nat_tests) in
    let more : is_among xs h ≡ false = grind (arith, nat_tests) in
    (subst (λ k. 0 < k) same e.0, subst (λ k. last_of x (links next k x) ≡ last x) same e.1, ends_num next num last h v xs more e.2)

ends_last : (next num last : ℕ → ℕ) (h v : ℕ) (xs : List ℕ) → is_among xs h ≡ false → ChainsEnd next num last xs → ChainsEnd next num (with_at last h v) xs
ends_last next num last h v [] out e = tt
ends_last next num last h v (x ∷ xs) out e =
    let same : last x ≡ with_at last h v x = grind (arith, nat_tests) in
    let more : is_among xs h ≡ false = grind (arith, nat_tests) in
    (e.0, e.1 ∙ same, ends_last next num last h v xs more e.2)

-- an entry of the free list isn't open
pub not_open : (free : List ℕ) (inflight : ℕ → ℕ) (h i : ℕ) → is_among free h ≡ true → in_flight_but free inflight i ≡ true → i ≢ h
not_open free inflight h i held is same =
    let there : is_among free i ≡ true = ap (is_among free) same ∙ held in
    let fails : in_flight_but free inflight i ≡ false = grind (arith, nat_tests) in
    let no : true ≡ false = sym is ∙ fails in
    cc

-- where the same entries are open, they are read as before
record Reads (n fl : ℕ) (w : RegionWords) (heads : List ℕ) : Type 0 where
  pub reads : heads_of (open_entries n fl w) ≡ heads
  pub rising : CountersRise (open_entries n fl w)
  pub low : CountersBelow 18446744073709551615 (open_entries n fl w)

-- with the same free list, the same in flight outside it, and the same counters and nums where an entry is open
pub entries_same : (n fl fm : ℕ) (v w : RegionWords) (free : List ℕ) → IsChosen n fl w free → IsChosen n fm v free
    → ((i : ℕ) → i < n → is_among free i ≡ false → v.inflight i ≡ w.inflight i) → ((i : ℕ) → i < n → in_flight_but free v.inflight i ≡ true → v.counter i ≡ w.counter i) → ((i : ℕ) → i < n → in_flight_but free v.inflight i ≡ true → v.num i ≡ w.num i)
    → open_entries n fm v ≡ open_entries n fl w
entries_same n fl fm v w free c d flight counters nums = open_is n fm v free d ∙ open_same n v w free flight counters nums ∙ sym (open_is n fl w free c)

read_same : (n fl fm : ℕ) (v w : RegionWords) (free heads : List ℕ) → IsFound n fl w free heads → IsChosen n fm v free
    → ((i : ℕ) → i < n → is_among free i ≡ false → v.inflight i ≡ w.inflight i) → ((i : ℕ) → i < n → in_flight_but free v.inflight i ≡ true → v.counter i ≡ w.counter i) → ((i : ℕ) → i < n → in_flight_but free v.inflight i ≡ true → v.num i ≡ w.num i)
    → Reads n fm v heads
read_same n fl fm v w free heads f c flight counters nums =
    let same : open_entries n fm v ≡ open_entries n fl w = entries_same n fl fm v w free f.chosen c flight counters nums in
    record {
      reads = ap heads_of same ∙ f.reads;
      rising = subst (λ (xs : List Pending). CountersRise xs) (sym same) f.rising;
      low = subst (λ (xs : List Pending). CountersBelow 18446744073709551615 xs) (sym same) f.low;
    }

-- num of an entry of the free list
pub found_num : (n fl : ℕ) (w : RegionWords) (free heads : List ℕ) (h v : ℕ) → IsFound n fl w free heads → is_among free h ≡ true → IsFound n fl (record w { num = with_at w.num h v }) free heads
found_num n fl w free heads h v f held =
    let out : is_among heads h ≡ false = free_not_head n fl w free heads h f held in
    let c : IsChosen n fl (record w { num = with_at w.num h v }) free = record { path = f.chosen.path; below = f.chosen.below; few = f.chosen.few } in
    let r = read_same n fl fl (record w { num = with_at w.num h v }) w free heads f c (λ i l o. refl) (λ i l t. refl) (λ i l t. let apart : i ≢ h = not_open free w.inflight h i held t in grind (arith, nat_tests)) in
    record {
      version = f.version;
      count = f.count;
      chosen = c;
      apart = record {
        once = λ i. omega (arith, f.apart.once i, chains_num w.next w.num h v i heads out);
        sum = omega (arith, f.apart.sum, total_kept w.num h v heads out);
      };
      within = λ i some. f.within i (omega (arith, some, chains_num w.next w.num h v i heads out));
      ends = ends_num w.next w.num w.last h v heads out f.ends;
      reads = r.reads;
      rising = r.rising;
      low = r.low;
    }

-- counter of an entry of the free list
pub found_counter : (n fl : ℕ) (w : RegionWords) (free heads : List ℕ) (h v : ℕ) → IsFound n fl w free heads → is_among free h ≡ true → IsFound n fl (record w { counter = with_at w.counter h v }) free heads
found_counter n fl w free heads h v f held =
    let c : IsChosen n fl (record w { counter = with_at w.counter h v }) free = record { path = f.chosen.path; below = f.chosen.below; few = f.chosen.few } in
    let r = read_same n fl fl (record w { counter = with_at w.counter h v }) w free heads f c (λ i l o. refl) (λ i l t. let apart : i ≢ h = not_open free w.inflight h i held t in grind (arith, nat_tests)) (λ i l t. refl) in
    record { version = f.version; count = f.count; chosen = c; apart = record { once = f.apart.once; sum = f.apart.sum }; within = f.within; ends = f.ends; reads = r.reads; rising = r.rising; low = r.low }

-- the inflight byte of an entry of the free list
pub found_flight : (n fl : ℕ) (w : RegionWords) (free heads : List ℕ) (h v : ℕ) → IsFound n fl w free heads → is_among free h ≡ true → IsFound n fl (record w { inflight = with_at w.inflight h v }) free heads
found_flight n fl w free heads h v f held =
    let c : IsChosen n fl (record w { inflight = with_at w.inflight h v }) free = record { path = f.chosen.path; below = f.chosen.below; few = f.chosen.few } in
    let r = read_same n fl fl (record w { inflight = with_at w.inflight h v }) w free heads f c
    (λ i l o.
    let apart : i ≢ h = λ e. (let one : is_among free i ≡ true = ap (is_among free) e ∙ held in let no : false ≡ true = sym o ∙ one in cc) in
    grind (arith, nat_tests))
    (λ i l t. refl) (λ i l t. refl) in
    record { version = f.version; count = f.count; chosen = c; apart = record { once = f.apart.once; sum = f.apart.sum }; within = f.within; ends = f.ends; reads = r.reads; rising = r.rising; low = r.low }

-- last of an entry of the free list
pub found_last : (n fl : ℕ) (w : RegionWords) (free heads : List ℕ) (h v : ℕ) → IsFound n fl w free heads → is_among free h ≡ true → IsFound n fl (record w { last = with_at w.last h v }) free heads
found_last n fl w free heads h v f held = record {
  version = f.version;
  count = f.count;
  chosen = record { path = f.chosen.path; below = f.chosen.below; few = f.chosen.few };
  apart = record { once = f.apart.once; sum = f.apart.sum };
  within = f.within;
  ends = ends_last w.next w.num w.last h v heads (free_not_head n fl w free heads h f held) f.ends;
  reads = f.reads;
  rising = f.rising;
  low = f.low;
}

-- the descriptor that an entry keeps
pub found_desc : (n fl : ℕ) (w : RegionWords) (free heads : List ℕ) (id flags len addr : ℕ → ℕ) → IsFound n fl w free heads → IsFound n fl (record w { id = id; flags = flags; len = len; addr = addr }) free heads
found_desc n fl w free heads id flags len addr f = record {
  version = f.version;
  count = f.count;
  chosen = record { path = f.chosen.path; below = f.chosen.below; few = f.chosen.few };
  apart = record { once = f.apart.once; sum = f.apart.sum };
  within = f.within;
  ends = f.ends;
  reads = f.reads;
  rising = f.rising;
  low = f.low;
}

-- the free heads, the positions and the slot at the old one change, and the same head is chosen
record SameEntries (v w : RegionWords) : Type 0 where
  pub version : v.version ≡ w.version
  pub desc_num : v.desc_num ≡ w.desc_num
  pub next : v.next ≡ w.next
  pub num : v.num ≡ w.num
  pub last : v.last ≡ w.last
  pub inflight : v.inflight ≡ w.inflight
  pub counter : v.counter ≡ w.counter

found_chosen : (n fl fm : ℕ) (w v : RegionWords) (free heads : List ℕ) → IsFound n fl w free heads → chosen_head fm v ≡ chosen_head fl w → SameEntries v w → IsFound n fm v free heads
found_chosen n fl fm w v free heads f choice s =
    let path : IsPath v.next (chosen_head fm v) free n = subst (λ k. IsPath v.next k free n) (sym choice) (subst (λ g. IsPath g (chosen_head fl w) free n) (sym s.next) f.chosen.path) in
    let c : IsChosen n fm v free = record { path = path; below = f.chosen.below; few = f.chosen.few } in
    let A : (ℕ → ℕ) → (ℕ → ℕ) → Type 0 = λ x y. Apart n x y free heads in
    let r = read_same n fl fm v w free heads f c (λ i l o. ap (λ (g : ℕ → ℕ). g i) s.inflight) (λ i l t. ap (λ (g : ℕ → ℕ). g i) s.counter) (λ i l t. ap (λ (g : ℕ → ℕ). g i) s.num) in
    record {
      version = s.version ∙ f.version;
      count = s.desc_num ∙ f.count;
      chosen = c;
      apart = subst (λ x. A x v.num) (sym s.next) (subst (λ y. A w.next y) (sym s.num) f.apart);
      within = subst (λ x. (i : ℕ) → 0 < in_chains x v.num i heads → i < n) (sym s.next) (subst (λ y. (i : ℕ) → 0 < in_chains w.next y i heads → i < n) (sym s.num) f.within);
      ends = subst (λ x. ChainsEnd x v.num v.last heads) (sym s.next) (subst (λ y. ChainsEnd w.next y v.last heads) (sym s.num) (subst (λ z. ChainsEnd w.next w.num z heads) (sym s.last) f.ends));
      reads = r.reads;
      rising = r.rising;
      low = r.low;
    }

-- the free head, while no batch is shown
pub found_free_head : (n fl : ℕ) (w : RegionWords) (free heads : List ℕ) (h : ℕ) → IsFound n fl w free heads → is_committed fl w ≡ false → IsFound n fl (record w { free_head = h }) free heads
found_free_head n fl w free heads h f hidden =
    let a : chosen_head fl w ≡ w.old_free_head = ap (λ b. cond b w.free_head w.old_free_head) hidden in
    let b : chosen_head fl (record w { free_head = h }) ≡ w.old_free_head = ap (λ b. cond b h w.old_free_head) hidden in
    found_chosen n fl fl w (record w { free_head = h }) free heads f (b ∙ sym a) (record { version = refl; desc_num = refl; next = refl; num = refl; last = refl; inflight = refl; counter = refl })

-- the old free head, while one is
pub found_old_head : (n fl : ℕ) (w : RegionWords) (free heads : List ℕ) (h : ℕ) → IsFound n fl w free heads → is_committed fl w ≡ true → IsFound n fl (record w { old_free_head = h }) free heads
found_old_head n fl w free heads h f shown =
    let a : chosen_head fl w ≡ w.free_head = ap (λ b. cond b w.free_head w.old_free_head) shown in
    let b : chosen_head fl (record w { old_free_head = h }) ≡ w.free_head = ap (λ b. cond b w.free_head h) shown in
    found_chosen n fl fl w (record w { old_free_head = h }) free heads f (b ∙ sym a) (record { version = refl; desc_num = refl; next = refl; num = refl; last = refl; inflight = refl; counter = refl })

-- both positions, while no batch is shown before and after
pub found_used : (n fl fm : ℕ) (w : RegionWords) (free heads : List ℕ) (u o : Position) → IsFound n fl w free heads → is_committed fl w ≡ false → is_committed fm (with_positions u o w) ≡ false
    → IsFound n fm (with_positions u o w) free heads
found_used n fl fm w free heads u o f before after =
    let a : chosen_head fl w ≡ w.old_free_head = ap (λ b. cond b w.free_head w.old_free_head) before in
    let b : chosen_head fm (with_positions u o w) ≡ w.old_free_head = ap (λ b. cond b w.free_head w.old_free_head) after in
    found_chosen n fl fm w (with_positions u o w) free heads f (b ∙ sym a) (record { version = refl; desc_num = refl; next = refl; num = refl; last = refl; inflight = refl; counter = refl })

-- a batch is noted, once both heads agree
pub found_noted : (n fl fm : ℕ) (w : RegionWords) (free heads : List ℕ) (u o : Position) → IsFound n fl w free heads → w.old_free_head ≡ w.free_head → IsFound n fm (with_positions u o w) free heads
found_noted n fl fm w free heads u o f same =
    let both : (b : Bool) → cond b w.free_head w.old_free_head ≡ w.free_head = elim [ true ↦ refl | false ↦ same ] in
    found_chosen n fl fm w (with_positions u o w) free heads f (both (is_committed fm (with_positions u o w)) ∙ sym (both (is_committed fl w))) (record { version = refl; desc_num = refl; next = refl; num = refl; last = refl; inflight = refl; counter = refl })

-- flags of the slot at the old used position that keep what is shown
pub found_flags : (n fl fm : ℕ) (w : RegionWords) (free heads : List ℕ) → IsFound n fl w free heads → is_committed fm w ≡ is_committed fl w → IsFound n fm w free heads
found_flags n fl fm w free heads f same = found_chosen n fl fm w w free heads f (ap (λ b. cond b w.free_head w.old_free_head) same) (record { version = refl; desc_num = refl; next = refl; num = refl; last = refl; inflight = refl; counter = refl })

-- linking an element: next of its last entry
pub found_link : (n fl : ℕ) (w : RegionWords) (free heads : List ℕ) (h x : ℕ) → IsFound n fl w free heads → is_among heads h ≡ true → IsFound n fl (record w { next = with_at w.next (w.last h) x }) free heads
found_link n fl w free heads h x f held =
    let none : fronts w.next w.num (w.last h) heads ≡ 0 = last_in_no_front w.next w.num w.last free heads h f.apart.once f.ends held in
    let same : (i : ℕ) → in_chains (with_at w.next (w.last h) x) w.num i heads ≡ in_chains w.next w.num i heads = λ i. chains_kept w.next w.num (w.last h) x i heads none in
    let out : is_among free (w.last h) ≡ false = last_not_free in
    let c : IsChosen n fl (record w { next = with_at w.next (w.last h) x }) free = record { path = path_other w.next (w.last h) x (chosen_head fl w) free n out f.chosen.path; below = f.chosen.below; few = f.chosen.few } in
    let r = read_same n fl fl (record w { next = with_at w.next (w.last h) x }) w free heads f c (λ i l o. refl) (λ i l t. refl) (λ i l t. refl) in
    record {
      version = f.version;
      count = f.count;
      chosen = c;
      apart = record { once = λ i. omega (arith, f.apart.once i, same i); sum = f.apart.sum };
      within = λ i some. f.within i (omega (arith, some, same i));
      ends = ends_link (w.last h) x heads none f.ends;
      reads = r.reads;
      rising = r.rising;
      low = r.low;
    }
  where
    last_counted : (k g : ℕ) → 1 ≤ count (last_of g (links w.next (suc k) g)) (links w.next (suc k) g)
    last_counted zero g = grind (arith, nat_tests)
    last_counted (suc k) g = omega (arith, last_counted k (w.next g))

    last_counts : (xs : List ℕ) → ChainsEnd w.next w.num w.last xs → is_among xs h ≡ true → 1 ≤ in_chains w.next w.num (w.last h) xs
    last_counts [] e t = absurd (let no : false ≡ true = t in cc)
    last_counts (y ∷ ys) e t = elim (cases_eq y h) [
      | inl same ↦
          let k : ℕ = w.num y - 1 in
          let some : w.num y ≡ suc k = omega (arith, e.0) in
          let P : ℕ → Type 0 = λ j. last_of y (links w.next j y) ≡ w.last y → 1 ≤ count (w.last y) (links w.next j y) in
          let one : P (suc k) = λ q. subst (λ z. 1 ≤ count z (links w.next (suc k) y)) q (last_counted k y) in
          let here : 1 ≤ count (w.last y) (links w.next (w.num y) y) = subst P (sym some) one e.1 in
          let there : 1 ≤ count (w.last h) (links w.next (w.num y) y) = subst (λ z. 1 ≤ count (w.last z) (links w.next (w.num y) y)) same here in
          omega (arith, there)
      | inr apart ↦ (let more : is_among ys h ≡ true = grind (arith, nat_tests) in omega (arith, last_counts ys e.2 more))
    ]

    last_not_free : is_among free (w.last h) ≡ false
    last_not_free = has-count (w.last h) free (omega (arith, f.apart.once (w.last h), last_counts heads f.ends held))

    ends_link : (i v : ℕ) (xs : List ℕ) → fronts w.next w.num i xs ≡ 0 → ChainsEnd w.next w.num w.last xs → ChainsEnd (with_at w.next i v) w.num w.last xs
    ends_link i v [] none e = tt
    ends_link i v (y ∷ ys) none e =
        let here : count i (links w.next (w.num y - 1) y) ≡ 0 = omega arith in
        let same : links (with_at w.next i v) (w.num y) y ≡ links w.next (w.num y) y = chain_kept w.next i v (w.num y) y here in
        (e.0, ap (last_of y) same ∙ e.1, ends_link i v ys (omega arith) e.2)
