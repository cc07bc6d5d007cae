-- The facts of a queue through its start.
use Rattle.std.proofs.Common.{◌≡◌, ◌<◌, ℕ, ◌+◌, Bool, true, false, List, [], length, sym, ◌∙◌, subst, arith}
use Rattle.vub_inflight.specs.Links.{link_at}
use Rattle.vub_infl_split.specs.declared.region.SplitStore.TheVariants.{SI1, SI2, SI3, SR1, SR2}
use Rattle.vub_infl_split.specs.Region.{RegionWords}
use Rattle.vub_infl_split.specs.Stores.{words_after}
use Rattle.vub_region_facts.specs.Starts.{InNew, InStart}
use Rattle.vub_region_facts.proofs.StartLemmas as region
use Rattle.vub_region_facts.proofs.StartLemmas.{new_features, new_frees, new_makes, settling_clears, settling_notes}
use Rattle.vub_region_facts.proofs.LifeLemmas.{not_started_left}
use Rattle.vub_steps.specs.declared.steps.Phase.TheVariants as phases
use Rattle.vub_steps.specs.declared.steps.Plan.{Plan}
use Rattle.vub_steps.specs.declared.steps.Plan.TheVariants as plans
use Rattle.vub_steps.specs.Plans.{plan_of}
use Rattle.vub_steps.specs.Steps.{plan_steps}
use Rattle.vub_steps.proofs.StartLemmas.{length_new, length_settles}
use Rattle.vub_facts.specs.Facts.{Side, Words, Facts}

-- a queue isn't both started and not
pub runs_on : {A : Type 0} {b : Bool} → b ≡ true → b ≡ false → A
runs_on on off = absurd (let fails : true ≡ false = sym on ∙ off in cc)

-- ---- it begins

pub start_begins : (n : ℕ) (heads : List ℕ) (base : ℕ) (x : Side) (w : Words) → x.started ≡ false → x.batch ≡ [] → Facts n heads base x w → Facts n heads base (record x { phase = phases.Start 0; plan = plan_of w.ring.used w.region }) w
start_begins n heads base x w off none f = record {
  used_fits = f.used_fits;
  not_started = λ stopped. region.start_begins n w.ring.used heads base w.region f.used_fits (not_started_left n w.ring.used heads base x.plan x.phase w.region (f.not_started off));
  in_life = λ on. runs_on on off;
  batch = none;
}

-- ---- its steps

-- the features
pub features_kept : (n used : ℕ) (heads : List ℕ) (base : ℕ) (w : RegionWords) → InStart n used heads base plans.New 0 w → InStart n used heads base plans.New 1 (words_after n SI1 w)
features_kept n used heads base w p = record {
  stores = λ more. new_features n used heads base w (p.stores (omega (arith, length_new n)));
  settled = λ none. absurd (omega (arith, none, length_new n));
}

-- an entry
pub free_kept : (n used : ℕ) (heads : List ℕ) (base i : ℕ) (w : RegionWords) → i < n → InStart n used heads base plans.New (i + 1) w → InStart n used heads base plans.New (i + 1 + 1) (words_after n (SI2 i) w)
free_kept n used heads base i w low p = record {
  stores = λ more.
      let next : i + 2 ≡ i + 1 + 1 = omega arith in
      subst (λ (d : ℕ). InNew n used heads base d (words_after n (SI2 i) w)) next (new_frees n used heads base i w low (p.stores (omega (arith, low, length_new n))));
  settled = λ none. absurd (omega (arith, none, low, length_new n));
}

-- the header
pub open_kept : (n used : ℕ) (heads : List ℕ) (base : ℕ) (w : RegionWords) → used < 65536 → InStart n used heads base plans.New (n + 1) w → InStart n used heads base plans.New (n + 1 + 1) (words_after n (SI3 used) w)
open_kept n used heads base w fits p = record {
  stores = λ more. absurd (omega (arith, more, length_new n));
  settled = λ all. new_makes n used heads base w fits (p.stores (omega (arith, length_new n)));
}

-- a link
pub settle_kept : (n used : ℕ) (heads : List ℕ) (base count i : ℕ) (w : RegionWords) → i < count → InStart n used heads base (plans.Settles count) i w
    → InStart n used heads base (plans.Settles count) (i + 1) (words_after n (SR1 (link_at w.next i w.last_batch_head)) w)
settle_kept n used heads base count i w low p = record {
  stores = λ more. settling_clears n used heads count i w low (p.stores (omega (arith, low, length_settles n count)));
  settled = λ none. absurd (omega (arith, none, low, length_settles n count));
}

-- the note
pub settle_end_kept : (n used : ℕ) (heads : List ℕ) (base count : ℕ) (w : RegionWords) → used < 65536 → InStart n used heads base (plans.Settles count) count w
    → InStart n used heads base (plans.Settles count) (count + 1) (words_after n (SR2 used) w)
settle_end_kept n used heads base count w fits p = record {
  stores = λ more. absurd (omega (arith, more, length_settles n count));
  settled = λ all. settling_notes n used heads count w fits (p.stores (omega (arith, length_settles n count)));
}

-- the bell
pub bell_kept : (n used : ℕ) (heads : List ℕ) (base : ℕ) (plan : Plan) (w : RegionWords) → InStart n used heads base plan (length (plan_steps n plan)) w → InStart n used heads base plan (length (plan_steps n plan) + 1) w
bell_kept n used heads base plan w p = record { stores = λ more. absurd (omega (arith, more)); settled = λ all. p.settled (omega arith) }
