-- What stands at a moment where the lane of a queue is set.
use Rattle.std.proofs.Common.{◌≡◌, ℕ, ap, sym, ◌∙◌, subst}
use Rattle.std.specs.Prelude.{Option, Some, None}
use Rattle.vub_base.specs.declared.header.Header1.{Header1}
use Rattle.vub_driver.specs.Drivers.{Waiting, after_stores}
use Rattle.vub_queue.specs.QueueState.{QueueState}
use Rattle.vub_queue.specs.QueueFacts.{hidden_part}
use Rattle.vub_queue_in_run.specs.QueueAt.{QueueAt, PhaseAt}
use Rattle.vub_run.specs.Moments.{Lane, Moment, region_in}
use Rattle.vub_run.specs.Run.{with_lane, with_driver, guest_stores}
use Rattle.vub_run_laws.proofs.RunOwn.{at_own}
use Rattle.vub_setup.specs.Setups.{SplitSetup}
use Rattle.vub_world.specs.DriverSides.{Desk}
use Rattle.vub_world.specs.MachineAt.{AskAt, DriverSideAt, LifeAt}

-- the moment where each queue has this lane
abbrev pub all_lanes : Lane → Moment → Moment
all_lanes l m = record m { lanes = λ p. l }

pub life_with : (q : ℕ) (h : Header1) (setup : SplitSetup) (m : Moment) (l : Lane) (life : Option (Option QueueState)) → LifeAt q h setup (all_lanes l m) life → LifeAt q h setup (with_lane q l m) life
life_with q h setup m l None at = at
life_with q h setup m l (Some None) at = (at.0, (at.1.0, ap (λ (k : Lane). k.attached) (at_own m.lanes q l) ∙ at.1.1, at.1.2, ap (λ (k : Lane). k.phase) (at_own m.lanes q l) ∙ at.1.3))
life_with q h setup m l (Some (Some queue)) at = (
  at.0,
  (
    at.1.0,
    ap (λ (k : Lane). k.attached) (at_own m.lanes q l) ∙ at.1.1,
    record {
      at = subst (λ (k : Lane). QueueAt q h setup m.scene.past (m.scene.heads q) k.phase (hidden_part k.phase k.batch) k.completed k.made queue) (sym (at_own m.lanes q l)) at.1.2.at;
      phase = subst (λ (k : Lane). PhaseAt q h setup m.scene.past (m.scene.heads q) k.bell k.plan k.counter k.batch k.phase (region_in h q m.scene) queue) (sym (at_own m.lanes q l)) at.1.2.phase;
    },
  ),
)

pub side_with : (q : ℕ) (d : Desk) (m : Moment) (l : Lane) → DriverSideAt q d (all_lanes l m) → DriverSideAt q d (with_lane q l m)
side_with q d m l at = record {
  memory = at.memory;
  driver = at.driver ∙ sym (ap (λ (k : Lane). k.driver) (at_own m.lanes q l));
  asks = subst (λ (k : Lane). AskAt k.driver.waiting d.side.asked) (sym (at_own m.lanes q l)) at.asks;
}

-- the driver after so many stores of a request
pub stored_driver : (q : ℕ) (h : Header1) (count : ℕ) (x : Waiting) (m : Moment) → ((guest_stores h q count (Some x) m).next.lanes q).driver ≡ after_stores count x (m.lanes q).driver
stored_driver q h count x m = ap (λ (k : Lane). k.driver) (at_own m.lanes q (with_driver (after_stores count x (m.lanes q).driver) (m.lanes q)))
