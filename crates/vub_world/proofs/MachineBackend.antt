-- The backend of a machine stands where the machine does.
use Rattle.std.proofs.Common.{◌≡◌, ◌<◌, ℕ, Bool, zero, suc, false, List, [], ◌∷◌, length, map, ap, sym, ◌∙◌, subst, arith}
use Rattle.std.specs.Prelude.{Option, Some, None, is_some, slice_get}
use Rattle.std.proofs.lemmas.Simd.{map-map}
use Rattle.vub_base.specs.declared.header.Header1.{Header1}
use Rattle.vub_steps.specs.Readiness.{is_publication}
use Rattle.vub_steps.specs.declared.steps.Phase.{Phase}
use Rattle.vub_steps.specs.declared.steps.Phase.TheVariants as phases
use Rattle.vub_steps.specs.declared.steps.Plan.{Plan}
use Rattle.vub_backend.specs.declared.backend.Backend.{Backend}
use Rattle.vub_backend.specs.Backends.{queues_of, attached_in}
use Rattle.vub_setup.specs.Setups.{SplitSetup}
use Rattle.vub_queue.specs.QueueState.{QueueState}
use Rattle.vub_queue.specs.QueueFacts.{hidden_part}
use Rattle.vub_queue_in_run.specs.QueueAt.{QueueStands, spot_of}
use Rattle.vub_queue_in_run.proofs.QueueAtMoves.{left_heads}
use Rattle.vub_queue_in_run.proofs.QueueAtTurns.{worked_at}
use Rattle.vub_report.specs.declared.items.Record.{Record}
use Rattle.vub_run.specs.Moments.{Moment}
use Rattle.vub_run.specs.Run.{Stands}
use Rattle.vub_run_laws.proofs.RunGood.{PhaseIs}
use Rattle.vub_run_laws.proofs.RunQueue.{phase_at}
use Rattle.vub_run_laws.proofs.RunTurns.{Good}
use Rattle.vub_run_laws.proofs.RunsTo.{stands_good}
use Rattle.vub_schedule.specs.declared.types.Event.{Event}
use Rattle.vub_shared.specs.Watched.{sizes_in}
use Rattle.vub_memdisk.specs.MemDisks.{capacity_of}
use Rattle.vub_world.specs.declared.driver_side.DriverSide.{DriverSide}
use Rattle.vub_world.specs.declared.machine.Machine.{Machine}
use Rattle.vub_world.specs.DriverSides.{setup_of}
use Rattle.vub_world.specs.Lives.{IsBackendInLife, queue_in, life_of}
use Rattle.vub_world.specs.Machine.{IsSound}
use Rattle.vub_world.specs.MachineAt.{MachineAt, AttachedAt, LifeAt, StandsFor}
use Rattle.vub_world.specs.WorldBackend.{NamesRequests, BackendStands}
use Rattle.vub_world.proofs.MachineParts.{found_there, first_side, life_is, the_low}

-- no batch is under way but in a publication
no_batch : (n : ℕ) (bell : Bool) (plan : Plan) (batch : List ℕ) (phase : Phase) → PhaseIs n bell plan batch phase → is_publication phase ≡ false → batch ≡ []
no_batch n bell plan batch phases.Rest is rests = is
no_batch n bell plan batch (phases.Start done) is rests = is.0
no_batch n bell plan batch (phases.Fetch done) is rests = is.0
no_batch n bell plan batch (phases.Publish done) is rests = absurd (cc rests)

names_requests : (q : ℕ) (h : Header1) (setup : SplitSetup) (m : Moment) (s : QueueState) → Good q h m → QueueStands q h setup m s → NamesRequests q m s
names_requests q h setup m s good at =
    let l = m.lanes q in
    let none : is_publication l.phase ≡ false → l.batch ≡ [] = no_batch h.size l.bell l.plan l.batch l.phase (phase_at q h m.scene l good.holds) in
    record {
      unfinished = λ run. left_heads q h setup m.scene.past (m.scene.heads q) l.phase (hidden_part l.phase l.batch) l.completed l.made s run (worked_at q h m good.holds) at.at;
      batch = ap (λ (xs : List (ℕ × ℕ)). map (λ (x : ℕ × ℕ). x.0) xs) at.phase.batch ∙ map-map (λ (x : ℕ × ℕ). x.0) (spot_of q h m.scene.past (m.scene.heads q)) l.batch;
      no_batch = λ rests. at.phase.batch ∙ ap (λ (ks : List ℕ). map (spot_of q h m.scene.past (m.scene.heads q)) ks) (none rests);
    }

within : (queues : List (Option QueueState)) (q : ℕ) (s : QueueState) → attached_in queues q ≡ Some s → q < length queues
within [] q s is = absurd (cc is)
within (o ∷ queues) zero s is = omega arith
within (o ∷ queues) (suc q) s is = omega (arith, within queues q s is)

pub backend_stands : (w : Machine) (es : List Event) (rs : List Record) (m : Moment) → IsSound w → Stands w.header es rs m → MachineAt w m → BackendStands w m
backend_stands w es rs m sound stands at = record {
  lives = (
      let first = first_side w sound in
      lives first.0 w.life (at.queues 0 first.0 first.1).life);
  attached = λ b q is low.
      let side = found_there w.sides.items q (omega (arith, low, sound.many)) in
      attached q side.0 (queue_in q b) (in_life b q side.0 is side.1).1;
  names = λ b q s is there.
      let many : length (queues_of b) ≡ w.header.queues = (subst (λ (l : Option Backend). IsBackendInLife w.header.queues (sizes_in w.memory) (capacity_of w.disk) l) is sound.backend).many in
      let side = found_there w.sides.items q (omega (arith, within (queues_of b) q s there, many, sound.many)) in
      let f : DriverSide = side.0 in
      let here : AttachedAt q f.header (setup_of f) m (Some s) = subst (λ (o : Option QueueState). AttachedAt q f.header (setup_of f) m o) there (in_life b q f is side.1).1 in
      let s_stands : Stands f.header es rs m = subst (λ (h : Header1). Stands h es rs m) (sym (sound.headers q f side.1)) stands in
      names_requests q f.header (setup_of f) m s (stands_good q f.header es rs m (the_low w q f sound side.1) s_stands) here.2;
}
  where
    lives : (f : DriverSide) (l : Option Backend) → LifeAt 0 f.header (setup_of f) m (life_of 0 l) → is_some l ≡ m.lives
    lives f None at = sym at
    lives f (Some b) at = sym at.0

    in_life : (b : Backend) (q : ℕ) (f : DriverSide) → w.life ≡ Some b → slice_get w.sides.items q ≡ Some f → LifeAt q f.header (setup_of f) m (Some (queue_in q b))
    in_life b q f is here = subst (λ (l : Option (Option QueueState)). LifeAt q f.header (setup_of f) m l) (life_is w.life b q is) (at.queues q f here).life

    attached : (q : ℕ) (f : DriverSide) (o : Option QueueState) → AttachedAt q f.header (setup_of f) m o → is_some o ≡ (m.lanes q).attached
    attached q f None here = sym here.1
    attached q f (Some s) here = sym here.1

-- with the machine stands the backend of its life
pub stands_for : (w : Machine) (es : List Event) (rs : List Record) (m : Moment) → IsSound w → Stands w.header es rs m → MachineAt w m → StandsFor w es rs
stands_for w es rs m sound stands at = (m, stands, at, backend_stands w es rs m sound stands at)
