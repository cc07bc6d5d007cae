use Rattle.std.proofs.Common.{◌≡◌, ℕ, List, length, ap, ◌∙◌, arith}
use Rattle.std.specs.Prelude.{Option, Some, set, slice_get, get_or}
use Rattle.std.proofs.lemmas.List.{length-set}
use Rattle.vub_memdisk.specs.MemDisks.{capacity_of}
use Rattle.vub_shared.specs.Watched.{sizes_in}
use Rattle.vub_backend.specs.Backends.{queues_of}
use Rattle.vub_queue.specs.QueueState.{QueueState, IsNew}
use Rattle.vub_queue_in_run.proofs.Setups.{few_places}
use Rattle.vub_run_laws.proofs.Sizes.{size_laps}
use Rattle.vub_world.specs.declared.driver_side.DriverSide.{DriverSide}
use Rattle.vub_world.specs.declared.machine.Machine.{Machine}
use Rattle.vub_world.specs.DriverSides.{DriverSideSound, setup_of}
use Rattle.vub_world.specs.Machine.{IsSound}
use Rattle.vub_world.proofs.MachineLemmas.{sound_lies}
use Rattle.vub_world.proofs.MachineOpening.{one_queue_more}
use Rattle.vub_world.proofs.MachineParts.{found}
use Rattle.vub_world.proofs.MachineStarts.{empty_backend}
use Rattle.vub_world.proofs.machine.Machine.new_backend.Goals as goal

pub new-requires : goal.new-requires
new-requires c = omega (arith, c.requires.header.one)

pub loop-index-init : goal.loop-index-init
loop-index-init c =
    let w : Machine = c.args.self.now in
    (empty_backend w.header.queues (sizes_in w.memory) (capacity_of w.disk) c.in_ok-backend.backend c.in_ok-backend.ensures, λ q f low is. absurd (omega (arith, low)))

-- the number of a queue is that of its side
numbered : (w : Machine) (q : ℕ) (f : DriverSide) → IsSound w → slice_get w.sides.items q ≡ Some f → f.index ≡ q
numbered w q f sound is = (sound.parts q f is).index

pub attach-requires-clause-index : goal.attach-requires-clause-index
attach-requires-clause-index c =
    let w : Machine = c.args.self.now in
    let f : DriverSide = c.index-side.result.now in
    let here : slice_get w.sides.items c.loop-index.index ≡ Some f = found w.sides.items c.loop-index.index f (omega (arith, c.loop-index-test.true, c.requires.many)) (c.index-side.ensures ∙ ap (λ (k : ℕ). get_or w.sides.items k f) c.from.ensures) in
    omega (arith, c.setup.ensures.index, numbered w c.loop-index.index f c.requires here, c.loop-index-test.true, c.loop-index.invariant.0.many)

pub attach-requires-clause-size : goal.attach-requires-clause-size
attach-requires-clause-size c =
    let w : Machine = c.args.self.now in
    let f : DriverSide = c.index-side.result.now in
    let here : slice_get w.sides.items c.loop-index.index ≡ Some f = found w.sides.items c.loop-index.index f (omega (arith, c.loop-index-test.true, c.requires.many)) (c.index-side.ensures ∙ ap (λ (k : ℕ). get_or w.sides.items k f) c.from.ensures) in
    let sound = (c.requires.parts c.loop-index.index f here).side in
    omega (arith, c.setup.ensures.places, few_places f.index (setup_of f) f.header.size (size_laps f.header.size sound.header.sized).1 sound.setup)

pub loop-index-preserved : goal.loop-index-preserved
loop-index-preserved c =
    let w : Machine = c.args.self.now in
    let f : DriverSide = c.index-side.result.now in
    let here : slice_get w.sides.items c.loop-index.index ≡ Some f = found w.sides.items c.loop-index.index f (omega (arith, c.loop-index-test.true, c.requires.many)) (c.index-side.ensures ∙ ap (λ (k : ℕ). get_or w.sides.items k f) c.from.ensures) in
    let before : List (Option QueueState) = queues_of c.loop-index.backend in
    let now : List (Option QueueState) = queues_of c.attach.new.self in
    let all = c.in_ok-attach.ensures.attached in
    let attached : (u : QueueState) × IsNew (setup_of f) u × (now ≡ set before f.index (Some u)) = (all.0, all.1 (setup_of f) c.setup.ensures.is, all.2 ∙ ap (λ (i : ℕ). set before i (Some all.0)) c.setup.ensures.index) in
    let sound : DriverSideSound w.memory f = (c.requires.parts c.loop-index.index f here).side in
    let many : length now ≡ w.header.queues = ap (λ (qs : List (Option QueueState)). length qs) attached.2 ∙ length-set before f.index (Some attached.0) ∙ c.loop-index.invariant.0.many in (
      record { many = many; lies = c.in_ok-attach.ensures.lies (sizes_in w.memory) (capacity_of w.disk) (setup_of f) c.setup.ensures.is (sound_lies w.memory f sound) c.loop-index.invariant.0.lies },
      one_queue_more c.loop-index.index w.sides.items before f f.index now c.loop-index.invariant.1 here (numbered w c.loop-index.index f c.requires here) (omega (arith, c.loop-index-test.true, c.loop-index.invariant.0.many)) attached,
    )
