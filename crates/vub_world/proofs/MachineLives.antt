-- Where the machine stands after a life begins, after its queues are attached, and after it ends.
use Rattle.std.proofs.Common.{◌≡◌, ℕ, true, false, List, [], ◌∷◌, map, refl, ap, sym, ◌∙◌, subst}
use Rattle.std.specs.Prelude.{Bool, not, ◌&&◌, Option, Some, None}
use Rattle.vub_base.specs.declared.header.Header1.{Header1}
use Rattle.vub_steps.specs.declared.steps.Phase.{Phase}
use Rattle.vub_steps.specs.declared.steps.Phase.TheVariants as phases
use Rattle.vub_device.specs.declared.entry.Entry.{Entry}
use Rattle.vub_device.specs.declared.entry.Entry.TheVariants as entries
use Rattle.vub_device.specs.Past.{started}
use Rattle.vub_report.specs.declared.items.Item.TheVariants as items
use Rattle.vub_run.specs.Memory.{after_items}
use Rattle.vub_world.specs.DriverSides.{Parts, setup_of}
use Rattle.vub_setup.specs.Setups.{SplitSetup}
use Rattle.vub_world.specs.MachineAt.{PartsAt, LifeAt, AttachedAt}
use Rattle.vub_run.specs.Moments.{Lane, Moment, fresh, attached, region_in}
use Rattle.vub_queue.specs.QueueFacts.{hidden_part}
use Rattle.vub_queue_in_run.specs.QueueAt.{QueueAt, PhaseAt, spot_of}
use Rattle.vub_queue.specs.QueueState.{QueueState, IsNew}
use Rattle.vub_run.specs.Run.{played, if_ready, boot, join, ended, kill}
use Rattle.vub_queue_in_run.proofs.QueueAtMoves.{at_new}
use Rattle.vub_run_laws.proofs.RunTurns.{Good}

-- the parts with that queue of a life
abbrev pub with_life : Option QueueState → Parts → Parts
with_life queue w = record w { life = Some queue }

-- ---- a life begins

abbrev pub booted : Moment → Moment
booted m = record m { lives = true; joined = false; lanes = λ p. fresh (m.lanes p) }

pub boot_plays : (m : Moment) → m.lives ≡ false → played [] (booted m) ≡ boot m
boot_plays m asleep = sym (ap (λ (b : Bool). if_ready (not b) (played [] (booted m)) m) asleep)

pub booted_at : (q : ℕ) (w : Parts) (m : Moment) → started m.scene.past q ≡ false → PartsAt q w m → PartsAt q (with_life None w) (booted m)
booted_at q w m quiet at = record {
  side = record { memory = at.side.memory; driver = at.side.driver; asks = at.side.asks };
  position = at.position;
  life = (refl, (refl, refl, quiet, refl));
  disk = at.disk;
  outstanding = at.outstanding;
}

-- where there is no life
pub asleep_at : (q : ℕ) (w : Parts) (m : Moment) → PartsAt q w m → w.life ≡ None → m.lives ≡ false
asleep_at q w m at none = subst (λ (l : Option (Option QueueState)). LifeAt q w.side.header (setup_of w.side) m l) none at.life

-- ---- the queues are attached

abbrev pub joined : Moment → Moment
joined m = record m { joined = true; lanes = λ p. attached (m.lanes p) }

pub join_plays : (m : Moment) → m.lives ≡ true → m.joined ≡ false → played [] (joined m) ≡ join m
join_plays m lives new = sym (
    ap (λ (b : Bool). if_ready (b && not m.joined) (played [] (joined m)) m) lives
    ∙ ap (λ (b : Bool). if_ready (true && not b) (played [] (joined m)) m) new)

-- where there is a life that has no queue
pub joining_at : (q : ℕ) (w : Parts) (m : Moment) → PartsAt q w m → w.life ≡ Some None → (m.lives ≡ true) × AttachedAt q w.side.header (setup_of w.side) m None
joining_at q w m at new = subst (λ (l : Option (Option QueueState)). LifeAt q w.side.header (setup_of w.side) m l) new at.life

pub joined_at : (q : ℕ) (w : Parts) (m : Moment) (queue : QueueState) → Good q w.side.header m → w.side.index ≡ q → AttachedAt q w.side.header (setup_of w.side) m None → m.lives ≡ true → IsNew (setup_of w.side) queue → PartsAt q w m
    → PartsAt q (with_life (Some queue) w) (joined m)
joined_at q w m queue good index new lives made at =
    let l : Lane = m.lanes q in
    let h : Header1 = w.side.header in
    let setup : SplitSetup = setup_of w.side in
    let past : List Entry = m.scene.past in
    let heads : List ℕ = m.scene.heads q in
    let quiet = good.holds.worked.quiet new.2 in
    let begins : QueueAt q h setup past heads phases.Rest [] [] l.made queue = at_new q h setup past heads l.made queue new.2 quiet.1.1 made in
    let at_rest : QueueAt q h setup past heads l.phase (hidden_part l.phase l.batch) l.completed l.made queue =
    subst (λ (p : Phase). QueueAt q h setup past heads p (hidden_part p l.batch) l.completed l.made queue) (sym new.3)
    (subst (λ (cs : List ℕ). QueueAt q h setup past heads phases.Rest [] cs l.made queue) (sym quiet.1.0) begins) in
    let phase : PhaseAt q h setup past heads true l.plan l.counter l.batch l.phase (region_in h q m.scene) queue =
    subst (λ (p : Phase). PhaseAt q h setup past heads true l.plan l.counter l.batch p (region_in h q m.scene) queue) (sym new.3)
    (subst (λ (s : QueueState). PhaseAt q h setup past heads true l.plan l.counter l.batch phases.Rest (region_in h q m.scene) s) (sym made.is) (record {
      index = index;
      bell = refl;
      ring = refl;
      region = refl;
      base = refl;
      begun = λ stopped. (record { no_plan = refl; none_done = refl; none_cleared = refl }, refl);
      counter = λ run. absurd (let fails : true ≡ false = sym run ∙ new.2 in cc);
      fetching = refl;
      batch = ap (λ (ks : List ℕ). map (spot_of q h past heads) ks) (sym (good.holds.carries.quiet new.2));
    })) in record {
      side = record { memory = at.side.memory; driver = at.side.driver; asks = at.side.asks };
      position = at.position;
      life = (lives, (refl, refl, record { at = at_rest; phase = phase }));
      disk = at.disk;
      outstanding = at.outstanding;
    }

-- ---- a life ends

abbrev pub killed : Header1 → Moment → Moment
killed h m = ended (record m { scene = after_items h (items.Made entries.Kill ∷ []) m.scene })

pub kill_plays : (h : Header1) (m : Moment) → m.lives ≡ true → played (items.Made entries.Kill ∷ []) (killed h m) ≡ kill h m
kill_plays h m lives = sym (ap (λ (b : Bool). if_ready b (played (items.Made entries.Kill ∷ []) (killed h m)) m) lives)

pub kill_idle : (h : Header1) (m : Moment) → m.lives ≡ false → played (items.Idle ∷ []) m ≡ kill h m
kill_idle h m asleep = sym (ap (λ (b : Bool). if_ready b (played (items.Made entries.Kill ∷ []) (killed h m)) m) asleep)

-- memory, driver and disk are as they were
pub killed_at : (q : ℕ) (h : Header1) (w : Parts) (m : Moment) → PartsAt q w m → PartsAt q (record w { life = None }) (killed h m)
killed_at q h w m at = record {
  side = record { memory = at.side.memory; driver = at.side.driver; asks = at.side.asks };
  position = at.position;
  life = refl;
  disk = at.disk;
  outstanding = record { offers_are = at.outstanding.offers_are; collects_are = at.outstanding.collects_are; places = at.outstanding.places; slots = at.outstanding.slots };
}
