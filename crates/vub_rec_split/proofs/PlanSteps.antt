-- Each store of a plan, from what holds of the words of a region to what holds after it.
use Rattle.std.proofs.Common.{◌≡◌, ◌<◌, ℕ, ◌+◌, ◌-◌, ◌^◌, false, true, List, [], ◌∷◌, refl, ap, sym, ◌∙◌, subst, inl, inr, arith}
use Rattle.std.specs.Prelude.{◌&&◌, nat_lt, Option, Some, None}
use Rattle.std.proofs.lemmas.Bool.Decides.{nat_tests}
use Rattle.std.proofs.lemmas.Bool.{cases_eq, cases_lt}
use Rattle.vub_base.specs.declared.pending.Pending.{Pending}
use Rattle.vub_ring.specs.Ring.{ahead}
use Rattle.vub_device.specs.Past.{is_among}
use Rattle.vub_inflight.specs.Entries.{heads_of}
use Rattle.vub_inflight.specs.Links.{link_at, links}
use Rattle.vub_inflight.proofs.LinkLemmas.{link_goes_on}
use Rattle.vub_infl_split.specs.declared.region.SplitStore.{SplitStore}
use Rattle.vub_infl_split.specs.declared.region.SplitStore.TheVariants.{SI1, SI2, SI3, SR1, SR2}
use Rattle.vub_infl_split.specs.Region.{RegionWords}
use Rattle.vub_infl_split.specs.Stores.{words_after, NamesEntry, ValueFits}
use Rattle.vub_infl_split.specs.Readings.{counted, made_fault, open_entries, split_entries}
use Rattle.vub_infl_split.specs.Sound.{Sound}
use Rattle.vub_infl_split.proofs.ReadingLemmas.{reading_clear, reading_note, sound_undamaged}
use Rattle.vub_region_facts.specs.Starts.{Left, InNew, InSettling, IsSettled}
use Rattle.vub_region_facts.proofs.BatchLemmas.{below_among}
use Rattle.vub_region_facts.proofs.SoundLemmas.{sound_entries, unmade_entries, left_reads}
use Rattle.vub_region_facts.proofs.StartLemmas.{new_begins, new_features, new_frees, new_makes, settling_begins, settled_at_once, settling_link, settling_clears, settling_notes}
use Rattle.vub_steps.specs.declared.steps.Plan.{Plan}
use Rattle.vub_steps.specs.declared.steps.Plan.TheVariants.{New, Settles, Settled}
use Rattle.vub_steps.specs.Plans.{settles, plan_of}
use Rattle.vub_rec_split.specs.Starts.{RecoveryState, Sight, link_after, start_fault, new_step, settle_step, step_of, moved}
use Rattle.vub_rec_split.specs.Stands.{FollowsBatch, InStart}

-- ---- the first step

-- the checks find nothing in what a life left
pub left_fine : (n used : ℕ) (heads : List ℕ) (base : ℕ) (w : RegionWords) → Left n used heads base w → start_fault base n used w ≡ None
left_fine n used heads base w (inl u) =
    let version : w.version ≡ 0 = u.version in
    let same : base ≡ used = u.at_base in
    grind (arith, nat_tests)
left_fine n used heads base w (inr s) =
    let version : w.version ≡ 1 = s.version in
    let made : start_fault base n used w ≡ made_fault n used w = grind (arith, nat_tests) in
    made ∙ sound_undamaged n used heads w s

pub begins : (n used : ℕ) (heads : List ℕ) (base : ℕ) (w : RegionWords) → used < 65536 → Left n used heads base w → InStart n used heads base (Some (plan_of used w)) 0 None w
begins n used heads base w fits (inl u) =
    let version : w.version ≡ 0 = u.version in
    let plan : New ≡ plan_of used w = grind (arith, nat_tests) in
    subst (λ (p : Plan). InStart n used heads base (Some p) 0 None w) plan (new_begins n used heads base w u)
begins n used heads base w fits (inr s) =
    let version : w.version ≡ 1 = s.version in
    let made : settles (ahead used w.used_idx) ≡ plan_of used w = grind (arith, nat_tests) in
    elim (cases_eq (ahead used w.used_idx) 0) [
      | inl none ↦
          let plan : Settled ≡ plan_of used w = grind (arith, nat_tests) in
          subst (λ (p : Plan). InStart n used heads base (Some p) 0 None w) plan (settled_at_once n used heads w fits none s)
      | inr some ↦
          let plan : Settles (ahead used w.used_idx) ≡ plan_of used w = grind (arith, nat_tests) in
          subst (λ (p : Plan). InStart n used heads base (Some p) 0 None w) plan (record { settling = settling_begins n used heads w s; link = refl })
    ]

-- ---- a later one

-- where the start stands after it, and what is read
pub record Kept (n used : ℕ) (heads : List ℕ) (base : ℕ) (s : RecoveryState) (w w' : RegionWords) : Type 0 where
  pub in_start : InStart n used heads base s.plan s.done s.cleared w'
  pub entries : split_entries n used w' ≡ split_entries n used w

no_entries : (entries : List Pending) → heads_of entries ≡ [] → entries ≡ []
no_entries [] none = refl
no_entries (e ∷ entries) none = absurd (let fails : ◌≡◌ {A = List ℕ} (e.head ∷ heads_of entries) [] = none in cc)

new_kept : (n used : ℕ) (heads : List ℕ) (base : ℕ) (s : RecoveryState) (sight : Sight) (w : RegionWords) → used < 65536 → sight.used ≡ used → InNew n used heads base s.done w
    → Kept n used heads base (moved (new_step n sight s.done) (record s { plan = Some New })) w (words_after n (new_step n sight s.done) w)
new_kept n used heads base s sight w fits same p =
    let P : SplitStore → Type 0 = λ step. Kept n used heads base (moved step (record s { plan = Some New })) w (words_after n step w) in
    let unread : split_entries n used w ≡ [] = unmade_entries n used w p.unmade.version in
    elim (cases_eq s.done 0) [
      | inl start ↦
          let step : SI1 ≡ new_step n sight s.done = grind (arith, nat_tests) in
          let Q : ℕ → Type 0 = λ d. InNew n used heads base d w → InNew n used heads base (d + 1) w in
          let goes : Q s.done = subst Q (sym start) (new_features n used heads base w) in
          subst P step (record { in_start = goes p; entries = refl })
      | inr later ↦ elim (cases_lt n s.done) [
        | inl past ↦
            let step : SI3 sight.used ≡ new_step n sight s.done = grind (arith, nat_tests) in
            let last : s.done ≡ n + 1 = omega (arith, past, p.upto) in
            let made : IsSettled n used heads (words_after n (SI3 used) w) = new_makes n used heads base w fits (subst (λ (d : ℕ). InNew n used heads base d w) last p) in
            let read : heads_of (split_entries n used (words_after n (SI3 used) w)) ≡ [] = left_reads n used heads base (words_after n (SI3 used) w) (inr made.sound) ∙ p.unmade.none in
            let Q : ℕ → Type 0 = λ v. P (SI3 v) in
            subst P step (subst Q (sym same) (record { in_start = made; entries = no_entries (split_entries n used (words_after n (SI3 used) w)) read ∙ sym unread }))
        | inr within ↦
            let step : SI2 (s.done - 1) ≡ new_step n sight s.done = grind (arith, nat_tests) in
            let at : s.done ≡ s.done - 1 + 1 = omega (arith, later) in
            let on : s.done - 1 + 2 ≡ s.done + 1 = omega (arith, later) in
            let freed : InNew n used heads base (s.done - 1 + 2) (words_after n (SI2 (s.done - 1)) w) = new_frees n used heads base (s.done - 1) w (omega (arith, later, within)) (subst (λ (d : ℕ). InNew n used heads base d w) at p) in
            subst P step (record {
              in_start = subst (λ (d : ℕ). InNew n used heads base d (words_after n (SI2 (s.done - 1)) w)) on freed;
              entries = unmade_entries n used (words_after n (SI2 (s.done - 1)) w) p.unmade.version ∙ sym unread;
            })
      ]
    ]

-- the next link of a batch is one of its entries
pub next_held : (n used : ℕ) (heads : List ℕ) (count done : ℕ) (cleared : Option ℕ) (w : RegionWords) → done < count → FollowsBatch n used heads count done cleared w → is_among (counted used w) (link_after cleared w) ≡ true
next_held n used heads count done cleared w more p = ap (is_among (counted used w)) p.link ∙ settling_link n used heads count done w more p.settling

settle_kept : (n used : ℕ) (heads : List ℕ) (base : ℕ) (s : RecoveryState) (count : ℕ) (sight : Sight) (w : RegionWords) → used < 65536 → sight.used ≡ used → sight.link ≡ link_after s.cleared w → FollowsBatch n used heads count s.done s.cleared w
    → Kept n used heads base (moved (settle_step n sight count s.done) (record s { plan = Some (Settles count) })) w (words_after n (settle_step n sight count s.done) w)
settle_kept n used heads base s count sight w fits same link p =
    let P : SplitStore → Type 0 = λ step. Kept n used heads base (moved step (record s { plan = Some (Settles count) })) w (words_after n step w) in
    let sound : Sound n used heads w = p.settling.sound in
    let read : split_entries n used w ≡ open_entries n used w = sound_entries n used heads w sound in
    elim (cases_lt s.done count) [
      | inl more ↦
          let at : sight.link ≡ link_at w.next s.done w.last_batch_head = link ∙ p.link in
          let held : is_among (counted used w) sight.link ≡ true = ap (is_among (counted used w)) link ∙ next_held n used heads count s.done s.cleared w more p in
          let low : sight.link < n = below_among n (counted used w) sight.link sound.within held in
          let step : SR1 sight.link ≡ settle_step n sight count s.done = grind (arith, nat_tests) in
          let clears : InSettling n used heads count (s.done + 1) (words_after n (SR1 sight.link) w) =
          subst (λ (i : ℕ). InSettling n used heads count (s.done + 1) (words_after n (SR1 i) w)) (sym at) (settling_clears n used heads count s.done w more p.settling) in
          subst P step (record {
            in_start = record { settling = clears; link = link_goes_on w.next s.done (s.done + 1) sight.link (w.next sight.link) w.last_batch_head refl at refl };
            entries = sound_entries n used heads (words_after n (SR1 sight.link) w) clears.sound ∙ reading_clear n used w sight.link held ∙ sym read;
          })
      | inr past ↦
          let step : SR2 sight.used ≡ settle_step n sight count s.done = grind (arith, nat_tests) in
          let last : s.done ≡ count = omega (arith, past, p.settling.upto) in
          let all : InSettling n used heads count count w = subst (λ (d : ℕ). InSettling n used heads count d w) last p.settling in
          let notes : IsSettled n used heads (words_after n (SR2 used) w) = settling_notes n used heads count w fits all in
          let clear : (i : ℕ) → is_among (counted used w) i ≡ true → w.inflight i ≡ 0 = λ i held. all.clear i (ap (λ (k : ℕ). is_among (links w.next k w.last_batch_head) i) (sym all.batch) ∙ held) in
          let Q : ℕ → Type 0 = λ v. P (SR2 v) in
          subst P step (subst Q (sym same) (record {
            in_start = notes;
            entries = sound_entries n used heads (words_after n (SR2 used) w) notes.sound ∙ reading_note n used w fits clear ∙ sym read;
          }))
    ]

pub plan_kept : (n used : ℕ) (heads : List ℕ) (base : ℕ) (s : RecoveryState) (sight : Sight) (w : RegionWords) (plan : Plan) (step : SplitStore) → used < 65536 → sight.used ≡ used → sight.link ≡ link_after s.cleared w
    → InStart n used heads base (Some plan) s.done s.cleared w → step_of n sight plan s.done ≡ Some step → Kept n used heads base (moved step (record s { plan = Some plan })) w (words_after n step w)
plan_kept n used heads base s sight w New step fits same link p is =
    let due : new_step n sight s.done ≡ step = cc in
    subst (λ (x : SplitStore). Kept n used heads base (moved x (record s { plan = Some New })) w (words_after n x w)) due (new_kept n used heads base s sight w fits same p)
plan_kept n used heads base s sight w (Settles count) step fits same link p is =
    let due : settle_step n sight count s.done ≡ step = cc in
    subst (λ (x : SplitStore). Kept n used heads base (moved x (record s { plan = Some (Settles count) })) w (words_after n x w)) due (settle_kept n used heads base s count sight w fits same link p)
plan_kept n used heads base s sight w Settled step fits same link p is = absurd (let fails : ◌≡◌ {A = Option SplitStore} None (Some step) = is in cc)

-- ---- its store lies in the region

new_fits : (n : ℕ) (sight : Sight) (done : ℕ) → sight.used < 256 ^ 2 → NamesEntry n (new_step n sight done) × ValueFits (new_step n sight done)
new_fits n sight done fits =
    let P : SplitStore → Type 0 = λ step. NamesEntry n step × ValueFits step in
    elim (cases_eq done 0) [
      | inl start ↦ let step : SI1 ≡ new_step n sight done = grind (arith, nat_tests) in subst P step (tt, tt)
      | inr later ↦ elim (cases_lt n done) [
        | inl past ↦ let step : SI3 sight.used ≡ new_step n sight done = grind (arith, nat_tests) in subst P step (tt, fits)
        | inr within ↦ let step : SI2 (done - 1) ≡ new_step n sight done = grind (arith, nat_tests) in let low : done - 1 < n = omega (arith, later, within) in subst P step (low, tt)
      ]
    ]

settle_fits : (n : ℕ) (sight : Sight) (count done : ℕ) → sight.used < 256 ^ 2 → NamesEntry n (settle_step n sight count done) × ValueFits (settle_step n sight count done)
settle_fits n sight count done fits =
    let P : SplitStore → Type 0 = λ step. NamesEntry n step × ValueFits step in
    let last : (nat_lt done count && nat_lt sight.link n) ≡ false → P (settle_step n sight count done) = λ out. let step : SR2 sight.used ≡ settle_step n sight count done = grind (arith, nat_tests) in subst P step (tt, fits) in
    elim (cases_lt sight.link n) [
      | inl low ↦ elim (cases_lt done count) [
        | inl more ↦ let step : SR1 sight.link ≡ settle_step n sight count done = grind (arith, nat_tests) in subst P step (low, tt)
        | inr past ↦ last (grind (arith, nat_tests))
      ]
      | inr out ↦ last (grind (arith, nat_tests))
    ]

pub step_fits : (n : ℕ) (sight : Sight) (plan : Plan) (done : ℕ) (step : SplitStore) → sight.used < 256 ^ 2 → step_of n sight plan done ≡ Some step → NamesEntry n step × ValueFits step
step_fits n sight New done step fits is = let due : new_step n sight done ≡ step = cc in subst (λ (x : SplitStore). NamesEntry n x × ValueFits x) due (new_fits n sight done fits)
step_fits n sight (Settles count) done step fits is = let due : settle_step n sight count done ≡ step = cc in subst (λ (x : SplitStore). NamesEntry n x × ValueFits x) due (settle_fits n sight count done fits)
step_fits n sight Settled done step fits is = absurd (let fails : ◌≡◌ {A = Option SplitStore} None (Some step) = is in cc)

-- ---- a start that is cut off

pub start_left : (n used : ℕ) (heads : List ℕ) (base : ℕ) (plan : Option Plan) (done : ℕ) (cleared : Option ℕ) (w : RegionWords) → InStart n used heads base plan done cleared w → Left n used heads base w
start_left n used heads base None done cleared w p = p.left
start_left n used heads base (Some New) done cleared w p = inl p.unmade
start_left n used heads base (Some (Settles count)) done cleared w p = inr p.settling.sound
start_left n used heads base (Some Settled) done cleared w p = inr p.sound
