use Rattle.std.proofs.Common.{◌≡◌, ◌≤◌, false, ap, subst, sym, refl, ◌∙◌, ℕ, List, [], length, inl, inr, arith}
use Rattle.std.specs.Prelude.{is_some, Some, None}
use Rattle.vub_steps.specs.Readiness.{is_ready, chosen}
use Rattle.vub_steps.specs.declared.readiness.Turn.{Turn}
use Rattle.vub_steps.specs.declared.readiness.Turn.TheVariants as turns
use Rattle.vub_shared.specs.Bytes.{Bytes}
use Rattle.vub_shared.specs.Stores.{Store}
use Rattle.vub_shared.specs.Watched.{bytes_in, sizes_in, stores_in, faults_in, IsUnfailed}
use Rattle.vub_shared.proofs.WatchedLemmas.{still_unfailed}
use Rattle.vub_memdisk.specs.MemDisks.{values_of}
use Rattle.vub_queue.specs.declared.queue.Stepped.{Stepped}
use Rattle.vub_backend.specs.Backends.{queues_of}
use Rattle.vub_queue.specs.Turned.{Outside, Turned}
use Rattle.vub_backend.proofs.StepLemmas.{steps_attached, steps_unattached, steps_many}
use Rattle.vub_world.specs.Lives.{queue_in}
use Rattle.vub_world.specs.MachineDevice.{Device, device, turn_here}
use Rattle.vub_run.specs.Moments.{standing}
use Rattle.vub_queue.specs.QueueState.{QueueState, standing_at, waiting, IsDue}
use Rattle.vub_world.proofs.MachineOutside.{outside_of}
use Rattle.vub_world.proofs.MachineTurns.{DeviceDoes}
use Rattle.vub_world.proofs.MachineTurnsWork.{RestsAt, device_turns, work_asked}
use Rattle.vub_world.proofs.MachineTurnsNext.{reached_plain, reached_holds, ready_here, turn_same}
use Rattle.vub_world.proofs.MachineTurnsAt.{attached_or}
use Rattle.vub_world.specs.Bells.{faults_in as bell_faults}
use Rattle.vub_world.proofs.MachineFaults.{turn_stores, bell_unfailed, turn_made, served_is}
use Rattle.vub_world.proofs.device.turn_queue.Goals.{After-step}
use Rattle.vub_world.proofs.device.turn_queue.Goals as goal

abbrev before : (c : After-step) → Outside
before c = outside_of c.args.memory.now c.args.disk.now c.new-bell.result

abbrev after : (c : After-step) → Outside
after c = outside_of c.step.new.mem c.step.new.disk c.step.new.bell

-- the queue made a turn, where it is attached
made : (c : After-step) (s : QueueState) → queue_in c.args.queue c.args.backend.now ≡ Some s → (t : QueueState) × (queue_in c.args.queue c.step.new.self ≡ Some t) × Turned c.args.choice (before c) (after c) c.step.result s t
made c s there = steps_attached c.args.queue c.args.choice (before c) (after c) c.step.result (queues_of c.args.backend.now) (queues_of c.step.new.self) s there c.step.ensures.steps

-- and nothing happened where it isn't
still : (c : After-step) → queue_in c.args.queue c.args.backend.now ≡ None → after c ≡ before c
still c none = (steps_unattached c.args.queue c.args.choice (before c) (after c) c.step.result (queues_of c.args.backend.now) (queues_of c.step.new.self) none c.step.ensures.steps).2

pub returns-clause-many : goal.returns-clause-many
returns-clause-many c = steps_many c.args.queue c.args.choice (before c) (after c) c.step.result (queues_of c.args.backend.now) (queues_of c.step.new.self) c.step.ensures.steps

pub returns-clause-rings : goal.returns-clause-rings
returns-clause-rings c s t there now =
    let turned = made c s there in
    let both : Some turned.0 ≡ Some t = sym turned.1 ∙ now in
    let same : turned.0 ≡ t = cc both in
    ap (λ (u : QueueState). u.ring) (sym same) ∙ turned.2.ring

pub returns-clause-sizes : goal.returns-clause-sizes
returns-clause-sizes c k = elim (attached_or (queue_in c.args.queue c.args.backend.now)) [
  | inl some ↦ (made c some.0 some.1).2.keeps_spaces.same_sizes k
  | inr none ↦ ap (λ (o : Outside). o.sizes k) (still c none)
]

pub returns-clause-capacity : goal.returns-clause-capacity
returns-clause-capacity c = elim (attached_or (queue_in c.args.queue c.args.backend.now)) [
  | inl some ↦ (made c some.0 some.1).2.capacity
  | inr none ↦ ap (λ (o : Outside). o.capacity) (still c none)
]

unfailed_after : (c : After-step) → IsUnfailed c.step.new.mem
unfailed_after c = elim (attached_or (queue_in c.args.queue c.args.backend.now)) [
  | inl some ↦
      let state : QueueState = some.0 in
      let turned = made c some.0 some.1 in
      let b : Bytes = bytes_in c.args.memory.now in
      let t : Turn = chosen state.ring.size c.args.choice (standing_at state (waiting state b)) in
      let few = turn_stores (stores_in c.args.memory.now) (stores_in c.step.new.mem) b t c.step.result state (is_some state.stopped) c.requires.fresh (λ s. (turned.2.stopped s).2.trail) (λ r. turned.2.trails r b refl) in
      still_unfailed c.args.memory.now c.step.new.mem c.requires.unfailed few turned.2.keeps_spaces.same_handed
  | inr none ↦
      let same : Some (stores_in c.step.new.mem) ≡ Some (stores_in c.args.memory.now) = ap (λ (o : Outside). o.trail) (still c none) in
      let empty : stores_in c.step.new.mem ≡ [] = (let e : stores_in c.step.new.mem ≡ stores_in c.args.memory.now = cc same in e ∙ c.requires.fresh) in
      let few : length (stores_in c.step.new.mem) ≤ 1 = subst (λ (l : List Store). length l ≤ 1) (sym empty) (omega arith) in
      still_unfailed c.args.memory.now c.step.new.mem c.requires.unfailed few (λ s. ap (λ (o : Outside). o.handed s) (still c none))
]

pub returns-clause-unfailed : goal.returns-clause-unfailed
returns-clause-unfailed c = unfailed_after c

pub returns-clause-turns : goal.returns-clause-turns
returns-clause-turns c h setup m outstanding state there reached cap main room at numbered =
    let q : ℕ = c.args.queue in
    let turned = made c state there in
    let b : Bytes = bytes_in c.args.memory.now in
    let d : Device = device state c.args.memory.now c.args.disk.now in
    let now : Device = device turned.0 c.step.new.mem c.step.new.disk in
    let x : Stepped = c.step.result in
    let t : Turn = chosen state.ring.size c.args.choice (standing_at state (waiting state b)) in
    let runs : is_some state.stopped ≡ false = ap is_some at.stands.at.runs in
    let holds = reached_holds q h m reached in
    let does : DeviceDoes t h.capacity (sizes_in c.args.memory.now) d now x = record {
      fine = turn_made (faults_in c.args.memory.now) (faults_in c.step.new.mem) (bell_faults c.new-bell.result) (bell_faults c.step.new.bell) x c.requires.unfailed.faults (unfailed_after c).faults turned.2.cause c.new-bell.ensures.faults (bell_unfailed state.index c.new-bell.result c.step.new.bell x c.new-bell.ensures.rung turned.2.rings) turned.2.bell_cause;
      served = served_is x turned.2.disk_cause;
      does = turned.2.does runs b refl;
      stores_are = turned.2.stores runs b refl;
      trails = turned.2.trails runs b refl;
      values_are = turned.2.values runs b refl;
      made = λ place task n is due. turned.2.made place task n runs b refl is (subst (λ k. IsDue k (sizes_in c.args.memory.now) state b place task n) (sym cap) due);
    } in
    let same : t ≡ turn_here q h c.args.choice m = turn_same q h setup m state b c.args.choice main holds.0.holds at.stands at.memory_is in
    let rests : (place : ℕ) → turn_here q h c.args.choice m ≡ turns.Work place → is_ready (standing h q m) (turns.Work place) ≡ false → RestsAt d now x =
    λ place is unready. turned.2.rests (waiting state b) place runs (work_asked h.size (standing h q m) c.args.choice place is unready) (ready_here q h setup m state b (turns.Work place) main holds.0.holds at.stands at.memory_is ∙ unready) in (
      turned.0,
      turned.1,
      device_turns q h setup m outstanding (sizes_in c.args.memory.now) (turn_here q h c.args.choice m) d now x
          (record { plain = reached_plain q h m reached; good = holds.0; chained = holds.1; main = main; at = at; fresh = c.requires.fresh; numbered = numbered })
          room rests
          (subst (λ (u : Turn). DeviceDoes u h.capacity (sizes_in c.args.memory.now) d now x) same does),
    )

pub returns-clause-rests : goal.returns-clause-rests
returns-clause-rests c none =
    let rests = steps_unattached c.args.queue c.args.choice (before c) (after c) c.step.result (queues_of c.args.backend.now) (queues_of c.step.new.self) none c.step.ensures.steps in
    let bytes : Some (bytes_in c.step.new.mem) ≡ Some (bytes_in c.args.memory.now) = ap (λ (o : Outside). o.bytes) rests.2 in
    let values : Some (values_of c.step.new.disk) ≡ Some (values_of c.args.disk.now) = ap (λ (o : Outside). o.values) rests.2 in
    (rests.0, rests.1, cc bytes, cc values)
