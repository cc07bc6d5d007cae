-- Store by store through a start, and what it leaves where it is cut off.
use Rattle.std.proofs.Common.{◌≡◌, ◌≢◌, ◌≤◌, ◌<◌, ℕ, zero, suc, ◌+◌, true, false, List, [], ◌∷◌, ◌++◌, length, refl, ap, sym, ◌∙◌, subst, inl, inr, arith}
use Rattle.std.specs.Prelude.{◌||◌, None}
use Rattle.std.proofs.lemmas.Bool.Decides.{nat_tests}
use Rattle.std.proofs.lemmas.Bool.{cases_eq, cases_lt}
use Rattle.vub_base.specs.declared.pending.Pending.{Pending}
use Rattle.vub_device.specs.Past.{is_among}
use Rattle.vub_device.proofs.Numbers.{is_among_append}
use Rattle.vub_ring.specs.Ring.{ahead}
use Rattle.vub_inflight.specs.Entries.{heads_of}
use Rattle.vub_inflight.specs.Links.{links, link_at}
use Rattle.vub_inflight.proofs.LinkLemmas.{links_go_on}
use Rattle.vub_infl_split.specs.declared.region.SplitStore.TheVariants.{SI1, SI2, SI3, SR1, SR2}
use Rattle.vub_infl_split.specs.Region.{RegionWords}
use Rattle.vub_infl_split.specs.Stores.{words_after}
use Rattle.vub_infl_split.specs.Readings.{counted, open_entries, made_fault, split_entries}
use Rattle.vub_infl_split.specs.Sound.{Sound}
use Rattle.vub_infl_split.proofs.ReadingLemmas.{WordsFit, sound_undamaged, undamaged_sound}
use Rattle.vub_steps.specs.declared.steps.Plan.{Plan}
use Rattle.vub_steps.specs.declared.steps.Plan.TheVariants.{New, Settles, Settled}
use Rattle.vub_steps.specs.Plans.{settles, plan_of}
use Rattle.vub_steps.specs.Steps.{plan_steps}
use Rattle.vub_steps.proofs.StartLemmas.{length_new, length_settles}
use Rattle.vub_region_facts.specs.Starts.{Unmade, Left, InNew, InSettling, IsSettled, InPlan, InStart}
use Rattle.vub_region_facts.proofs.SoundLemmas.{sound_new, sound_clear, sound_note, sound_entries, unmade_entries}

-- ---- a new region

pub new_begins : (n used : ℕ) (heads : List ℕ) (base : ℕ) (w : RegionWords) → Unmade used heads base w → InNew n used heads base 0 w
new_begins n used heads base w u = record { unmade = u; upto = omega arith; freed = λ i low. absurd (omega (arith, low)) }

-- the features: no word that is read
pub new_features : (n used : ℕ) (heads : List ℕ) (base : ℕ) (w : RegionWords) → InNew n used heads base 0 w → InNew n used heads base 1 (words_after n SI1 w)
new_features n used heads base w p = record { unmade = p.unmade; upto = omega arith; freed = λ i low. absurd (omega (arith, low)) }

-- an entry
pub new_frees : (n used : ℕ) (heads : List ℕ) (base i : ℕ) (w : RegionWords) → i < n → InNew n used heads base (i + 1) w → InNew n used heads base (i + 2) (words_after n (SI2 i) w)
new_frees n used heads base i w more p = record {
  unmade = record { version = p.unmade.version; none = p.unmade.none; at_base = p.unmade.at_base };
  upto = omega (arith, more);
  freed = λ j low. elim (cases_eq j i) [
    | inl same ↦ grind (arith, nat_tests)
    | inr apart ↦ let old : w.inflight j ≡ 0 = p.freed j (omega (arith, low, apart)) in grind (arith, nat_tests)
  ];
}

-- the header: nothing was accepted, so nothing is open
pub new_makes : (n used : ℕ) (heads : List ℕ) (base : ℕ) (w : RegionWords) → used < 65536 → InNew n used heads base (n + 1) w → IsSettled n used heads (words_after n (SI3 used) w)
new_makes n used heads base w fits p = record {
  sound = subst (λ (hs : List ℕ). Sound n used hs (words_after n (SI3 used) w)) (sym p.unmade.none) (sound_new n used w fits (λ i low. p.freed i (omega (arith, low))));
  noted = refl;
}

-- ---- a batch is settled

pub settling_begins : (n used : ℕ) (heads : List ℕ) (w : RegionWords) → Sound n used heads w → InSettling n used heads (ahead used w.used_idx) 0 w
settling_begins n used heads w s = record { sound = s; batch = refl; upto = omega arith; clear = λ i held. absurd (let fails : false ≡ true = held in cc) }

-- there is none
pub settled_at_once : (n used : ℕ) (heads : List ℕ) (w : RegionWords) → used < 65536 → ahead used w.used_idx ≡ 0 → Sound n used heads w → IsSettled n used heads w
settled_at_once n used heads w fits none s = record { sound = s; noted = omega (arith, fits, none, s.used_idx_fits) }

-- a link of the batch is counted
pub among_links : (next : ℕ → ℕ) (done count entry : ℕ) → done < count → is_among (links next count entry) (link_at next done entry) ≡ true
among_links next done zero entry more = absurd (omega (arith, more))
among_links next zero (suc count) entry more = grind (arith, nat_tests)
among_links next (suc done) (suc count) entry more =
    let rest : is_among (links next count (next entry)) (link_at next done (next entry)) ≡ true = among_links next done count (next entry) (omega (arith, more)) in
    grind (arith, nat_tests)

pub settling_link : (n used : ℕ) (heads : List ℕ) (count done : ℕ) (w : RegionWords) → done < count → InSettling n used heads count done w → is_among (counted used w) (link_at w.next done w.last_batch_head) ≡ true
settling_link n used heads count done w more p =
    ap (λ (k : ℕ). is_among (links w.next k w.last_batch_head) (link_at w.next done w.last_batch_head)) p.batch ∙ among_links w.next done count w.last_batch_head more

pub settling_clears : (n used : ℕ) (heads : List ℕ) (count done : ℕ) (w : RegionWords) → done < count → InSettling n used heads count done w
    → InSettling n used heads count (done + 1) (words_after n (SR1 (link_at w.next done w.last_batch_head)) w)
settling_clears n used heads count done w more p =
    let entry : ℕ = link_at w.next done w.last_batch_head in
    let before : List ℕ = links w.next done w.last_batch_head in
    let front : links w.next (done + 1) w.last_batch_head ≡ before ++ entry ∷ [] = links_go_on w.next done (done + 1) entry w.last_batch_head refl refl in
    record {
      sound = sound_clear n used heads w entry (settling_link n used heads count done w more p) p.sound;
      batch = p.batch;
      upto = omega (arith, more);
      clear = λ i among.
          let joined : is_among (before ++ entry ∷ []) i ≡ (is_among before i || is_among (entry ∷ []) i) = is_among_append before (entry ∷ []) i in
          let here : is_among (before ++ entry ∷ []) i ≡ true = ap (λ (xs : List ℕ). is_among xs i) (sym front) ∙ among in
          let old : is_among before i ≡ true → w.inflight i ≡ 0 = p.clear i in
          grind (arith, nat_tests);
    }

pub settling_notes : (n used : ℕ) (heads : List ℕ) (count : ℕ) (w : RegionWords) → used < 65536 → InSettling n used heads count count w → IsSettled n used heads (words_after n (SR2 used) w)
settling_notes n used heads count w fits p = record {
  sound = sound_note n used heads w fits (λ i held. p.clear i (ap (λ (k : ℕ). is_among (links w.next k w.last_batch_head) i) (sym p.batch) ∙ held)) p.sound;
  noted = refl;
}

-- ---- it begins, and is cut off between any two stores

-- no store of a plan is left at once, but of the one with none
none_settled : (n used : ℕ) (heads : List ℕ) (plan : Plan) (w : RegionWords) → 0 < length (plan_steps n plan) → length (plan_steps n plan) ≤ 0 → IsSettled n used heads w
none_settled n used heads plan w some none = absurd (omega (arith, some, none))

pub start_begins : (n used : ℕ) (heads : List ℕ) (base : ℕ) (w : RegionWords) → used < 65536 → Left n used heads base w → InStart n used heads base (plan_of used w) 0 w
start_begins n used heads base w fits (inl u) =
    let version : w.version ≡ 0 = u.version in
    let plan : New ≡ plan_of used w = grind (arith, nat_tests) in
    subst (λ (p : Plan). InStart n used heads base p 0 w) plan (record { stores = λ some. new_begins n used heads base w u; settled = none_settled n used heads New w (omega (arith, length_new n)) })
start_begins n used heads base w fits (inr s) =
    let version : w.version ≡ 1 = s.version in
    let made : settles (ahead used w.used_idx) ≡ plan_of used w = grind (arith, nat_tests) in
    elim (cases_eq (ahead used w.used_idx) 0) [
      | inl none ↦
          let plan : Settled ≡ plan_of used w = grind (arith, nat_tests) in
          subst (λ (p : Plan). InStart n used heads base p 0 w) plan (record { stores = λ some. absurd (omega (arith, some)); settled = λ all. settled_at_once n used heads w fits none s })
      | inr some ↦
          let count : ℕ = ahead used w.used_idx in
          let plan : Settles count ≡ plan_of used w = grind (arith, nat_tests) in
          subst (λ (p : Plan). InStart n used heads base p 0 w) plan (record { stores = λ more. settling_begins n used heads w s; settled = none_settled n used heads (Settles count) w (omega (arith, length_settles n count)) })
    ]

plan_left : (n used : ℕ) (heads : List ℕ) (base : ℕ) (plan : Plan) (done : ℕ) (w : RegionWords) → InPlan n used heads base plan done w → Left n used heads base w
plan_left n used heads base New done w p = inl p.unmade
plan_left n used heads base (Settles count) done w p = inr p.sound
plan_left n used heads base Settled done w p = absurd p

pub start_left : (n used : ℕ) (heads : List ℕ) (base : ℕ) (plan : Plan) (done : ℕ) (w : RegionWords) → InStart n used heads base plan done w → Left n used heads base w
start_left n used heads base plan done w p = elim (cases_lt done (length (plan_steps n plan))) [
  | inl more ↦ plan_left n used heads base plan done w (p.stores more)
  | inr all ↦ let q : IsSettled n used heads w = p.settled (omega (arith, all)) in inr q.sound
]

-- ---- the checks of a start

-- they find nothing in what a life left
pub left_undamaged : (n used : ℕ) (heads : List ℕ) (base : ℕ) (w : RegionWords) → Left n used heads base w → w.version ≢ 0 → made_fault n used w ≡ None
left_undamaged n used heads base w (inl u) made = absurd (made u.version)
left_undamaged n used heads base w (inr s) made = sound_undamaged n used heads w s

pub left_at_base : (n used : ℕ) (heads : List ℕ) (base : ℕ) (w : RegionWords) → Left n used heads base w → w.version ≡ 0 → base ≡ used
left_at_base n used heads base w (inl u) new = u.at_base
left_at_base n used heads base w (inr s) new = absurd (omega (arith, s.version, new))

-- where they find nothing, the region is one that a life left, with what is read of it
pub unfaulted_left : (n used base : ℕ) (w : RegionWords) → WordsFit w → (w.version ≡ 0 → base ≡ used) → (w.version ≢ 0 → made_fault n used w ≡ None) → Left n used (heads_of (split_entries n used w)) base w
unfaulted_left n used base w fits at_base undamaged = elim (cases_eq w.version 0) [
  | inl new ↦ inl (record { version = new; none = ap heads_of (unmade_entries n used w new); at_base = at_base new })
  | inr made ↦
      let s : Sound n used (heads_of (open_entries n used w)) w = undamaged_sound n used w fits (undamaged made) in
      inr (subst (λ (es : List Pending). Sound n used (heads_of es) w) (sym (sound_entries n used (heads_of (open_entries n used w)) w s)) s)
]
