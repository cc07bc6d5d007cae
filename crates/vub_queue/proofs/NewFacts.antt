-- The facts of a queue that is set up over what the life before it left.
use Rattle.std.proofs.Common.{◌<◌, ℕ, false, true, List, refl, sym, subst}
use Rattle.std.proofs.lemmas.List.{length-replicate, get_or-replicate}
use Rattle.vub_shared.specs.Bytes.{Bytes}
use Rattle.vub_split.specs.Split.{ring_of_split, used_idx_word}
use Rattle.vub_infl_split.specs.Region.{words_of}
use Rattle.vub_region_facts.specs.Starts.{Left}
use Rattle.vub_steps.specs.declared.steps.Phase.TheVariants as phases
use Rattle.vub_steps.specs.declared.steps.Plan.TheVariants as plans
use Rattle.vub_facts.specs.Facts.{Lies}
use Rattle.vub_facts.proofs.FactStarts.{runs_on}
use Rattle.vub_setup.specs.Setups.{SplitSetup}
use Rattle.vub_queue.specs.QueueState.{QueueState, IsNew, new_state}
use Rattle.vub_queue.specs.QueueFacts.{FactsAt}

-- where ring and region lie apart, and the region is what a life leaves where these heads are open
new_is : (setup : SplitSetup) (sectors : List (List ℕ)) (heads : List ℕ) (m : Bytes) → Lies (ring_of_split setup.ring) setup.region → used_idx_word setup.ring m < 65536
    → Left setup.ring.size (used_idx_word setup.ring m) heads setup.base (words_of setup.region m) → FactsAt heads setup.base (new_state setup sectors) m
new_is setup sectors heads m lies fits left = record {
  plan = plans.Settled;
  phase = phases.Rest;
  laid = record { lies = lies; same_ring = refl; base_is = refl; places = length-replicate setup.ring.size false };
  keeps = λ on. runs_on on refl;
  begins = λ off. record {
    in_phase = tt;
    starts = (record { no_plan = refl; none_done = refl; none_cleared = refl }, refl);
    nothing = record { rests = refl; no_head = refl; no_batch = refl; none_completed = refl; none_unfinished = refl; none_taken = λ head low. get_or-replicate setup.ring.size head false true low };
  };
  facts = record { used_fits = fits; not_started = λ off. left; in_life = λ on. runs_on on refl; batch = refl };
}

pub new_facts : (setup : SplitSetup) (s : QueueState) (heads : List ℕ) (m : Bytes) → IsNew setup s → Lies (ring_of_split setup.ring) setup.region → used_idx_word setup.ring m < 65536
    → Left setup.ring.size (used_idx_word setup.ring m) heads setup.base (words_of setup.region m) → FactsAt heads setup.base s m
new_facts setup s heads m new lies fits left = subst (λ (u : QueueState). FactsAt heads setup.base u m) (sym new.is) (new_is setup new.sectors heads m lies fits left)
