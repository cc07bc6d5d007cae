-- From one place in the steps of a plan to the next one.
use Rattle.std.proofs.Common.{◌≡◌, ◌≤◌, ◌<◌, ℕ, ◌+◌, ◌-◌, ◌^◌, List, length, refl, ap, sym, ◌∙◌, subst, inl, inr, arith}
use Rattle.std.specs.Prelude.{slice_get, Option, Some, None}
use Rattle.std.proofs.lemmas.Bool.Decides.{nat_tests}
use Rattle.std.proofs.lemmas.Bool.{cases_eq, cases_lt}
use Rattle.vub_base.specs.declared.reading.RegionFault.{RegionFault}
use Rattle.vub_shared.specs.Bytes.{Bytes}
use Rattle.vub_split.specs.Split.{used_idx_word}
use Rattle.vub_inflight.specs.Links.{link_at}
use Rattle.vub_inflight.proofs.LinkLemmas.{link_goes_on}
use Rattle.vub_infl_split.specs.declared.region.SplitStore.{SplitStore}
use Rattle.vub_infl_split.specs.declared.region.SplitStore.TheVariants.{SI1, SI2, SI3, SR1, SR2}
use Rattle.vub_infl_split.specs.Region.{RegionWords, words_of}
use Rattle.vub_infl_split.specs.Stores.{words_after, NamesEntry, ValueFits}
use Rattle.vub_region_facts.specs.Starts.{Left, InPlan, IsSettled}
use Rattle.vub_region_facts.specs.Starts as starts
use Rattle.vub_steps.specs.declared.steps.Plan.{Plan}
use Rattle.vub_steps.specs.declared.steps.Plan.TheVariants.{New, Settles, Settled}
use Rattle.vub_steps.specs.Steps.{plan_steps}
use Rattle.vub_steps.specs.Rows.{region_step_at}
use Rattle.vub_steps.proofs.StartLemmas.{length_new, length_settles}
use Rattle.vub_infl_split.specs.Readings.{counted}
use Rattle.vub_device.specs.Past.{is_among}
use Rattle.vub_region_facts.proofs.BatchLemmas.{below_among}
use Rattle.vub_region_facts.proofs.StartLemmas.{settling_link}
use Rattle.vub_rec_split.specs.declared.plan.Recovered.TheVariants.{Stored, Done}
use Rattle.vub_infl_split.specs.Stores.{tag_of}
use Rattle.vub_rec_split.specs.Starts.{RecoveryState, Sight, link_after, new_step, settle_step, step_of, unless_fault, answered, gone_on, fault_in, plan_in, sight_in, due_in, answer_in, state_after, moved, SameQueue}
use Rattle.vub_rec_split.specs.Stands.{InStart, IsApart, StandsAt}
use Rattle.vub_rec_split.specs.Places.{IsFresh, FollowsLinks, InPlace, IsAt}
use Rattle.vub_rec_split.proofs.PlanSteps.{step_fits}
use Rattle.vub_rec_split.proofs.PlanStores.{new_in_place, settle_in_place}
use Rattle.vub_rec_split.proofs.StandLemmas.{stands_fine}

abbrev words : RecoveryState → Bytes → RegionWords
words r m = words_of r.region m

-- ---- its plan is known from the first step on

abbrev pub planned : RecoveryState → Bytes → RecoveryState
planned r m = record r { plan = Some (plan_in r m) }

-- and it changes nothing of a step
pub record PlannedAlike (r : RecoveryState) (m : Bytes) : Type 0 where
  pub due : due_in r m ≡ due_in (planned r m) m
  pub answer : answer_in r m ≡ answer_in (planned r m) m
  pub state : state_after r m ≡ state_after (planned r m) m

pub planned_alike : (heads : List ℕ) (r : RecoveryState) (m : Bytes) → StandsAt heads r m → PlannedAlike r m
planned_alike heads r m stands =
    let fine : fault_in r m ≡ None = stands_fine r m heads stands in
    let step : Option SplitStore = step_of r.region.size (sight_in r m) (plan_in r m) r.done in
    let due : due_in r m ≡ step = ap (λ (f : Option RegionFault). unless_fault f step) fine in
    record {
      due = due;
      answer = ap (λ (f : Option RegionFault). answered f (due_in r m)) fine ∙ ap (answered None) due;
      state = ap (λ (f : Option RegionFault). gone_on f (due_in r m) (plan_in r m) r) fine ∙ ap (λ (o : Option SplitStore). gone_on None o (plan_in r m) r) due ∙ goes step;
    }
  where
    goes : (o : Option SplitStore) → gone_on None o (plan_in r m) r ≡ gone_on None o (plan_in r m) (planned r m)
    goes None = refl
    goes (Some x) = refl

pub planned_is : (r : RecoveryState) (m : Bytes) (plan : Plan) → r.plan ≡ Some plan → planned r m ≡ r
planned_is r m plan is = go r.plan is
  where
    go : (o : Option Plan) → o ≡ Some plan → record r { plan = Some (plan_in (record r { plan = o }) m) } ≡ record r { plan = o }
    go None e = absurd (cc)
    go (Some p) e = refl

-- ---- before the first step

no_link : (plan : Plan) (cleared : Option ℕ) (w : RegionWords) → cleared ≡ None → FollowsLinks plan 0 cleared w
no_link New cleared w none = tt
no_link (Settles count) cleared w none = ap (λ (o : Option ℕ). link_after o w) none
no_link Settled cleared w none = tt

no_stores : (n : ℕ) (plan : Plan) → length (plan_steps n plan) ≤ 0 → plan ≡ Settled
no_stores n New none = absurd (omega (arith, none, length_new n))
no_stores n (Settles count) none = absurd (omega (arith, none, length_settles n count))
no_stores n Settled none = refl

pub fresh_at : (r : RecoveryState) (m : Bytes) → IsFresh r → IsAt (plan_in r m) 0 (words r m) (planned r m)
fresh_at r m f = record {
  stores = λ some. record { plan_is = refl; done_is = f.none_done; link = no_link (plan_in r m) r.cleared (words r m) f.none_cleared };
  settled = λ none. ap (λ (p : Plan). Some p) (no_stores r.region.size (plan_in r m) none);
}

-- ---- where it stands

pub fresh_stands : (heads : List ℕ) (r : RecoveryState) (m : Bytes) → IsApart r → IsFresh r → Left r.region.size (used_idx_word r.ring m) heads r.base (words r m) → StandsAt heads r m
fresh_stands heads r m apart f left = record {
  apart = apart;
  in_start = subst (λ (o : Option Plan). InStart r.region.size (used_idx_word r.ring m) heads r.base o r.done r.cleared (words r m)) (sym f.no_plan) (record { left = left; none_done = f.none_done; none_cleared = f.none_cleared });
}

pub at_stands : (heads : List ℕ) (r : RecoveryState) (m : Bytes) (plan : Plan) (place : ℕ) → IsApart r → IsAt plan place (words r m) r → starts.InStart r.region.size (used_idx_word r.ring m) heads r.base plan place (words r m) → StandsAt heads r m
at_stands heads r m plan place apart at facts = record {
  apart = apart;
  in_start = elim (cases_lt place (length (plan_steps n plan))) [
    | inl more ↦ let x : InPlace plan place w r = at.stores more in P-at (Some plan) (sym x.plan_is) (in_plan plan x (facts.stores more))
    | inr all ↦ P-at (Some Settled) (sym (at.settled (omega (arith, all)))) (facts.settled (omega (arith, all)))
  ];
}
  where
    n : ℕ
    n = r.region.size

    used : ℕ
    used = used_idx_word r.ring m

    w : RegionWords
    w = words r m

    P-at : (o : Option Plan) → o ≡ r.plan → InStart n used heads r.base o r.done r.cleared w → InStart n used heads r.base r.plan r.done r.cleared w
    P-at o same x = subst (λ (p : Option Plan). InStart n used heads r.base p r.done r.cleared w) same x

    in_plan : (p : Plan) → InPlace p place w r → InPlan n used heads r.base p place w → InStart n used heads r.base (Some p) r.done r.cleared w
    in_plan New x f = subst (λ (d : ℕ). InStart n used heads r.base (Some New) d r.cleared w) (sym x.done_is) f
    in_plan (Settles count) x f = subst (λ (d : ℕ). InStart n used heads r.base (Some (Settles count)) d r.cleared w) (sym x.done_is) (record { settling = f; link = x.link })
    in_plan Settled x f = absurd f

-- ---- a store is left

-- the step in this place sees used.idx, and the link in it
abbrev link_in : RecoveryState → Bytes → ℕ → ℕ
link_in r m place = link_at (words r m).next place (words r m).last_batch_head

pub at_due : (heads : List ℕ) (r : RecoveryState) (m : Bytes) (plan : Plan) (place : ℕ) → IsAt plan place (words r m) r → starts.InStart r.region.size (used_idx_word r.ring m) heads r.base plan place (words r m)
    → place < length (plan_steps r.region.size plan) → due_in r m ≡ region_step_at (used_idx_word r.ring m) (link_in r m place) (slice_get (plan_steps r.region.size plan) place)
at_due heads r m plan place at facts more = due ∙ ap (λ (d : ℕ). step_of n sight plan d) x.done_is ∙ go plan x (facts.stores more) more
  where
    n : ℕ
    n = r.region.size

    used : ℕ
    used = used_idx_word r.ring m

    w : RegionWords
    w = words r m

    sight : Sight
    sight = sight_in r m

    x : InPlace plan place w r
    x = at.stores more

    due : due_in r m ≡ step_of n sight plan r.done
    due = go-plan r.plan x.plan_is
      where
        go-plan : (o : Option Plan) → o ≡ Some plan → due_in (record r { plan = o }) m ≡ step_of n sight plan r.done
        go-plan None e = absurd (cc)
        go-plan (Some p) e = let same : p ≡ plan = cc in ap (λ (y : Plan). step_of n sight y r.done) same

    go : (p : Plan) → InPlace p place w r → InPlan n used heads r.base p place w → place < length (plan_steps n p) → step_of n sight p place ≡ region_step_at used (link_in r m place) (slice_get (plan_steps n p) place)
    go New y f low = new_in_place n (record { used = used; link = link_in r m place }) place (omega (arith, low, length_new n))
    go (Settles count) y f low =
        let link : sight.link ≡ link_in r m place = y.link in
        settle_in_place n used heads count place r.cleared sight w refl (record { settling = f; link = y.link }) ∙ ap (λ (l : ℕ). region_step_at used l (slice_get (plan_steps n (Settles count)) place)) link
    go Settled y f low = absurd f

-- and there is one, within the region, whose value fits its word
pub record HasStore (r : RecoveryState) (m : Bytes) (plan : Plan) (place : ℕ) : Type 0 where
  pub store : SplitStore
  pub due : due_in r m ≡ Some store
  pub next : region_step_at (used_idx_word r.ring m) (link_in r m place) (slice_get (plan_steps r.region.size plan) place) ≡ Some store
  pub within : NamesEntry r.region.size store
  pub fits : ValueFits store

pub at_store : (heads : List ℕ) (r : RecoveryState) (m : Bytes) (plan : Plan) (place : ℕ) → used_idx_word r.ring m < 256 ^ 2 → IsAt plan place (words r m) r → starts.InStart r.region.size (used_idx_word r.ring m) heads r.base plan place (words r m)
    → place < length (plan_steps r.region.size plan) → HasStore r m plan place
at_store heads r m plan place small at facts more =
    let in_place : due_in r m ≡ region_step_at (used_idx_word r.ring m) (link_in r m place) (slice_get (plan_steps r.region.size plan) place) = at_due heads r m plan place at facts more in
    let some = some_step plan (facts.stores more) in
    let due : due_in r m ≡ Some some.0 = step_is ∙ some.1 in
    let fits = step_fits r.region.size (sight_in r m) plan place some.0 small some.1 in
    record { store = some.0; due = due; next = sym in_place ∙ due; within = fits.0; fits = fits.1 }
  where
    x : InPlace plan place (words r m) r
    x = at.stores more

    step_is : due_in r m ≡ step_of r.region.size (sight_in r m) plan place
    step_is = go r.plan x.plan_is ∙ ap (step_of r.region.size (sight_in r m) plan) x.done_is
      where
        go : (o : Option Plan) → o ≡ Some plan → due_in (record r { plan = o }) m ≡ step_of r.region.size (sight_in r m) plan r.done
        go None e = absurd (cc)
        go (Some p) e = let same : p ≡ plan = cc in ap (λ (y : Plan). step_of r.region.size (sight_in r m) y r.done) same

    some_step : (p : Plan) → InPlan r.region.size (used_idx_word r.ring m) heads r.base p place (words r m) → (y : SplitStore) × (step_of r.region.size (sight_in r m) p place ≡ Some y)
    some_step New f = (new_step r.region.size (sight_in r m) place, refl)
    some_step (Settles count) f = (settle_step r.region.size (sight_in r m) count place, refl)
    some_step Settled f = absurd f

-- after it comes the next place
new_goes : (n place : ℕ) (sight : Sight) (w w' : RegionWords) (r : RecoveryState) → r.region.size ≡ n → place < n + 2 → InPlace New place w r → IsAt New (place + 1) w' (moved (new_step n sight place) r)
new_goes n place sight w w' r size low x = elim (cases_eq place 0) [
  | inl first ↦
      let is : new_step n sight place ≡ SI1 = grind (arith, nat_tests) in
      subst (λ (y : SplitStore). IsAt New (place + 1) w' (moved y r)) (sym is) (record { stores = λ more. record { plan_is = x.plan_is; done_is = ap (λ (d : ℕ). d + 1) x.done_is; link = tt }; settled = λ all. absurd (omega (arith, first, all, length_new r.region.size)) })
  | inr later ↦ elim (cases_lt n place) [
    | inl last ↦
        let is : new_step n sight place ≡ SI3 sight.used = grind (arith, nat_tests) in
        subst (λ (y : SplitStore). IsAt New (place + 1) w' (moved y r)) (sym is) (record { stores = λ more. absurd (omega (arith, last, more, size, length_new r.region.size)); settled = λ all. refl })
    | inr entry ↦
        let is : new_step n sight place ≡ SI2 (place - 1) = grind (arith, nat_tests) in
        subst (λ (y : SplitStore). IsAt New (place + 1) w' (moved y r)) (sym is) (record { stores = λ more. record { plan_is = x.plan_is; done_is = ap (λ (d : ℕ). d + 1) x.done_is; link = tt }; settled = λ all. absurd (omega (arith, entry, all, size, length_new r.region.size)) })
  ]
]

settle_goes : (n count place : ℕ) (sight : Sight) (w : RegionWords) (r : RecoveryState) → sight.link ≡ link_at w.next place w.last_batch_head → (place < count → sight.link < n) → place ≤ count → InPlace (Settles count) place w r
    → IsAt (Settles count) (place + 1) (words_after n (settle_step n sight count place) w) (moved (settle_step n sight count place) r)
settle_goes n count place sight w r link within low x = elim (cases_lt place count) [
  | inl more ↦
      let inside : sight.link < n = within more in
      let is : settle_step n sight count place ≡ SR1 sight.link = grind (arith, nat_tests) in
      subst (λ (y : SplitStore). IsAt (Settles count) (place + 1) (words_after n y w) (moved y r)) (sym is) (record {
        stores = λ left. record { plan_is = x.plan_is; done_is = ap (λ (d : ℕ). d + 1) x.done_is; link = link_goes_on w.next place (place + 1) sight.link (w.next sight.link) w.last_batch_head refl link refl };
        settled = λ all. absurd (omega (arith, more, all, length_settles r.region.size count));
      })
  | inr last ↦
      let is : settle_step n sight count place ≡ SR2 sight.used = grind (arith, nat_tests) in
      subst (λ (y : SplitStore). IsAt (Settles count) (place + 1) (words_after n y w) (moved y r)) (sym is) (record { stores = λ left. absurd (omega (arith, last, left, length_settles r.region.size count)); settled = λ all. refl })
]

-- what a step with a store answers and leaves
pub record Stores (plan : Plan) (place : ℕ) (r : RecoveryState) (m : Bytes) (x : SplitStore) : Type 0 where
  pub answers : answer_in r m ≡ Stored (tag_of x)
  pub goes : IsAt plan (place + 1) (words_after r.region.size x (words r m)) (state_after r m)

pub at_stores : (heads : List ℕ) (r : RecoveryState) (m : Bytes) (plan : Plan) (place : ℕ) (x : SplitStore) → StandsAt heads r m → IsAt plan place (words r m) r
    → starts.InStart r.region.size (used_idx_word r.ring m) heads r.base plan place (words r m) → place < length (plan_steps r.region.size plan) → due_in r m ≡ Some x → Stores plan place r m x
at_stores heads r m plan place x stands at facts more is = record {
  answers = ap (λ (f : Option RegionFault). answered f (due_in r m)) fine ∙ ap (answered None) is;
  goes = subst (λ (s : RecoveryState). IsAt plan (place + 1) (words_after r.region.size x (words r m)) s) (sym after) (go plan y (facts.stores more) more (sym due ∙ is));
}
  where
    n : ℕ
    n = r.region.size

    used : ℕ
    used = used_idx_word r.ring m

    w : RegionWords
    w = words r m

    sight : Sight
    sight = sight_in r m

    y : InPlace plan place w r
    y = at.stores more

    fine : fault_in r m ≡ None
    fine = stands_fine r m heads stands

    planned_in : plan_in r m ≡ plan
    planned_in = go-plan r.plan y.plan_is
      where
        go-plan : (o : Option Plan) → o ≡ Some plan → plan_in (record r { plan = o }) m ≡ plan
        go-plan None e = absurd (cc)
        go-plan (Some p) e = cc

    due : due_in r m ≡ step_of n sight plan place
    due = ap (λ (f : Option RegionFault). unless_fault f (step_of n sight (plan_in r m) r.done)) fine ∙ ap (λ (p : Plan). step_of n sight p r.done) planned_in ∙ ap (step_of n sight plan) y.done_is

    same : record r { plan = Some plan } ≡ r
    same = ap (λ (o : Option Plan). record r { plan = o }) (sym y.plan_is)

    after : state_after r m ≡ moved x r
    after = ap (λ (f : Option RegionFault). gone_on f (due_in r m) (plan_in r m) r) fine ∙ ap (λ (o : Option SplitStore). gone_on None o (plan_in r m) r) is ∙ ap (λ (p : Plan). moved x (record r { plan = Some p })) planned_in ∙ ap (moved x) same

    go : (p : Plan) → InPlace p place w r → InPlan n used heads r.base p place w → place < length (plan_steps n p) → step_of n sight p place ≡ Some x → IsAt p (place + 1) (words_after n x w) (moved x r)
    go New z f low step = let is_step : new_step n sight place ≡ x = cc in
        subst (λ (v : SplitStore). IsAt New (place + 1) (words_after n v w) (moved v r)) is_step (new_goes n place sight w (words_after n (new_step n sight place) w) r refl (omega (arith, low, length_new n)) z)
    go (Settles count) z f low step = let is_step : settle_step n sight count place ≡ x = cc in
        subst (λ (v : SplitStore). IsAt (Settles count) (place + 1) (words_after n v w) (moved v r)) is_step
        (settle_goes n count place sight w r z.link (λ next. below_among n (counted used w) sight.link f.sound.within (ap (is_among (counted used w)) z.link ∙ settling_link n used heads count place w next f)) (omega (arith, low, length_settles n count)) z)
    go Settled z f low step = absurd f

-- ---- none is left

pub record EndsStores (r : RecoveryState) (m : Bytes) : Type 0 where
  pub due : due_in r m ≡ None
  pub answers : answer_in r m ≡ Done
  pub stays : state_after r m ≡ r

pub at_end : (r : RecoveryState) (m : Bytes) → r.plan ≡ Some Settled → EndsStores r m
at_end r m is = go r.plan is
  where
    go : (o : Option Plan) → o ≡ Some Settled → EndsStores (record r { plan = o }) m
    go None e = absurd (cc)
    go (Some p) e = let same : Settled ≡ p = cc in subst (λ (y : Plan). EndsStores (record r { plan = Some y }) m) same (record { due = refl; answers = refl; stays = refl })

-- a start that has begun has its plan
pub at_planned : (r : RecoveryState) (m : Bytes) (plan : Plan) (place : ℕ) → IsAt plan place (words r m) r → planned r m ≡ r
at_planned r m plan place at = elim (cases_lt place (length (plan_steps r.region.size plan))) [
  | inl more ↦ planned_is r m plan (at.stores more).plan_is
  | inr all ↦ planned_is r m Settled (at.settled (omega (arith, all)))
]

-- it stays the recovery of its queue
pub state_queue : (r : RecoveryState) (m : Bytes) → SameQueue r (state_after r m)
state_queue r m = go (fault_in r m) (due_in r m) (plan_in r m)
  where
    go : (fault : Option RegionFault) (due : Option SplitStore) (plan : Plan) → SameQueue r (gone_on fault due plan r)
    go (Some fault) due plan = record { ring = refl; region = refl; base = refl }
    go None (Some step) plan = record { ring = refl; region = refl; base = refl }
    go None None plan = record { ring = refl; region = refl; base = refl }
