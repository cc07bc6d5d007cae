-- A recovery in the spaces that a call leaves.
use Rattle.std.proofs.Common.{◌≡◌, ℕ, ◌∙◌, ap, sym, subst}
use mathlib.Core.Path.{fun_ext}
use Rattle.vub_split.specs.declared.split.SplitRing.{SplitRing}
use Rattle.vub_split.specs.Split.{RingLies}
use Rattle.vub_infl_split.specs.declared.region.SplitRegion.{SplitRegion}
use Rattle.vub_infl_split.specs.Region.{RegionLies}
use Rattle.vub_rec_split.specs.Starts.{RecoveryState, StartLies, SameQueue}

-- a recovery lies where it lay, in spaces that have their sizes
pub lies_on : (sizes sizes' : ℕ → ℕ) (s s' : RecoveryState) → ((i : ℕ) → sizes' i ≡ sizes i) → SameQueue s s' → StartLies sizes s → StartLies sizes' s'
lies_on sizes sizes' s s' same queue lies =
    let there : StartLies sizes s' = record {
      ring = subst (λ (r : SplitRing). RingLies sizes r) (sym queue.ring) lies.ring;
      region = subst (λ (r : SplitRegion). RegionLies sizes r) (sym queue.region) lies.region;
      same_size = ap (λ (r : SplitRegion). r.size) queue.region ∙ lies.same_size ∙ sym (ap (λ (r : SplitRing). r.size) queue.ring);
    } in
    subst (λ (f : ℕ → ℕ). StartLies f s') (sym (fun_ext same)) there
