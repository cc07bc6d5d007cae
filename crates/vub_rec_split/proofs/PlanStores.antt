-- The store that is due is that of the step in its place of the plan.
use Rattle.std.proofs.Common.{◌≡◌, ◌≤◌, ◌<◌, ℕ, zero, suc, ◌+◌, List, [], ◌∷◌, refl, ap, sym, ◌∙◌, inl, inr, arith}
use Rattle.std.specs.Prelude.{slice_get, Option, Some}
use Rattle.std.proofs.lemmas.Bool.Decides.{nat_tests}
use Rattle.std.proofs.lemmas.Bool.{cases_lt}
use Rattle.vub_base.specs.declared.reading.RegionFault.{RegionFault}
use Rattle.vub_shared.specs.Bytes.{Bytes}
use Rattle.vub_split.specs.Split.{used_idx_word}
use Rattle.vub_device.specs.Past.{is_among}
use Rattle.vub_infl_split.specs.declared.region.SplitStore.{SplitStore}
use Rattle.vub_infl_split.specs.declared.region.SplitStore.TheVariants.{SI2, SI3, SR1, SR2}
use Rattle.vub_infl_split.specs.Region.{RegionWords, words_of}
use Rattle.vub_infl_split.specs.Readings.{counted}
use Rattle.vub_steps.specs.declared.steps.Plan.{Plan}
use Rattle.vub_steps.specs.declared.steps.Plan.TheVariants.{New, Settles, Settled}
use Rattle.vub_steps.specs.declared.steps.Step.TheVariants as steps
use Rattle.vub_steps.specs.Steps.{free_steps, settle_steps, plan_steps}
use Rattle.vub_steps.specs.Rows.{region_step_at}
use Rattle.vub_steps.proofs.StartLemmas.{free_at, length_free, settle_at, length_settle, first_behind}
use Rattle.vub_rec_split.specs.Starts.{RecoveryState, Sight, link_after, new_step, settle_step, step_of, unless_fault, plan_in, sight_in, due_in}
use Rattle.vub_rec_split.specs.Stands.{FollowsBatch, InStart, StandsAt}
use Rattle.vub_region_facts.proofs.BatchLemmas.{below_among}
use Rattle.vub_rec_split.proofs.PlanSteps.{next_held}
use Rattle.vub_rec_split.proofs.StandLemmas.{stands_fine, planned}

-- ---- the step in place `done`

pub new_in_place : (n : ℕ) (sight : Sight) (done : ℕ) → done ≤ n + 1 → Some (new_step n sight done) ≡ region_step_at sight.used sight.link (slice_get (plan_steps n New) done)
new_in_place n sight zero upto = refl
new_in_place n sight (suc d) upto = elim (cases_lt d n) [
  | inl more ↦
      let step : new_step n sight (suc d) ≡ SI2 d = grind (arith, nat_tests) in
      let on : d ≡ 0 + d = omega arith in
      ap (λ (x : SplitStore). Some x) step ∙ ap (λ (j : ℕ). Some (SI2 j)) on ∙ ap (region_step_at sight.used sight.link) (sym (free_at 0 n d (steps.Open ∷ []) more))
  | inr past ↦
      let step : new_step n sight (suc d) ≡ SI3 sight.used = grind (arith, nat_tests) in
      let last : n ≡ d = omega (arith, past, upto) in
      ap (λ (x : SplitStore). Some x) step ∙ ap (region_step_at sight.used sight.link) (sym (first_behind (free_steps 0 n) [] steps.Open d (length_free 0 n ∙ last)))
]

pub settle_in_place : (n used : ℕ) (heads : List ℕ) (count done : ℕ) (cleared : Option ℕ) (sight : Sight) (w : RegionWords) → sight.link ≡ link_after cleared w → FollowsBatch n used heads count done cleared w
    → Some (settle_step n sight count done) ≡ region_step_at sight.used sight.link (slice_get (plan_steps n (Settles count)) done)
settle_in_place n used heads count done cleared sight w link p =
    elim (cases_lt done count) [
      | inl more ↦
          let low : sight.link < n = below_among n (counted used w) sight.link p.settling.sound.within (ap (is_among (counted used w)) link ∙ next_held n used heads count done cleared w more p) in
          let step : settle_step n sight count done ≡ SR1 sight.link = grind (arith, nat_tests) in
          ap (λ (x : SplitStore). Some x) step ∙ ap (region_step_at sight.used sight.link) (sym (settle_at 0 count done (steps.SettleEnd ∷ []) more))
      | inr past ↦
          let step : settle_step n sight count done ≡ SR2 sight.used = grind (arith, nat_tests) in
          let last : count ≡ done = omega (arith, past, p.settling.upto) in
          ap (λ (x : SplitStore). Some x) step ∙ ap (region_step_at sight.used sight.link) (sym (first_behind (settle_steps 0 count) [] steps.SettleEnd done (length_settle 0 count ∙ last)))
    ]

plan_in_place : (n used : ℕ) (heads : List ℕ) (base : ℕ) (plan : Plan) (done : ℕ) (cleared : Option ℕ) (sight : Sight) (w : RegionWords) → sight.link ≡ link_after cleared w → InStart n used heads base (Some plan) done cleared w
    → step_of n sight plan done ≡ region_step_at sight.used sight.link (slice_get (plan_steps n plan) done)
plan_in_place n used heads base New done cleared sight w link p = new_in_place n sight done p.upto
plan_in_place n used heads base (Settles count) done cleared sight w link p = settle_in_place n used heads count done cleared sight w link p
plan_in_place n used heads base Settled done cleared sight w link p = refl

pub due_in_place : (heads : List ℕ) (s : RecoveryState) (m : Bytes) → ((t q : ℕ) → m t q < 256) → StandsAt heads s m → due_in s m ≡ region_step_at (sight_in s m).used (sight_in s m).link (slice_get (plan_steps s.region.size (plan_in s m)) s.done)
due_in_place heads s m fits p =
    ap (λ (f : Option RegionFault). unless_fault f (step_of s.region.size (sight_in s m) (plan_in s m) s.done)) (stands_fine s m heads p)
    ∙ plan_in_place s.region.size (used_idx_word s.ring m) heads s.base (plan_in s m) s.done s.cleared (sight_in s m) (words_of s.region m) refl (planned s m heads s.plan fits p.in_start)
