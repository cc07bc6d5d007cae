use Rattle.std.proofs.Common.{◌≡◌, ℕ, refl, ap, sym, ◌∙◌, subst, inl, inr}
use Rattle.std.specs.Prelude.{Option, Some}
use Rattle.vub_memdisk.specs.MemDisks.{capacity_of}
use Rattle.vub_queue.specs.QueueState.{QueueState}
use Rattle.vub_backend.specs.Backends.{queues_of}
use Rattle.vub_shared.specs.declared.mem_shared.MemShared.{MemShared}
use Rattle.vub_shared.specs.MemSpaces.{sizes_of}
use Rattle.vub_shared.specs.Watched.{sizes_in}
use Rattle.vub_shared.proofs.WatchedLemmas.{restarted_unfailed}
use Rattle.vub_steps.specs.declared.readiness.Turn.{Turn}
use Rattle.vub_queue.specs.declared.queue.Stepped.{Stepped}
use Rattle.vub_world.specs.DriverSides.{Parts, parts, parts_in, queue_of, setup_of}
use Rattle.vub_world.specs.MachineDevice.{turn_here}
use Rattle.vub_world.specs.MachineSteps.{TurnGoes}
use Rattle.vub_world.proofs.MachineLemmas.{still_sound}
use Rattle.vub_world.proofs.MachineTurnsNext.{reached_holds}
use Rattle.vub_world.proofs.MachineTurnsAt.{HasQueue, attached_or, device_at, turn_goes, turn_rests, still_on, lie_still, kept_room, kept_bytes}
use Rattle.vub_world.proofs.driver_side.DriverSide.turn.Goals.{After-turn_queue}
use Rattle.vub_world.proofs.driver_side.DriverSide.turn.Goals as goal

pub turn_queue-requires-clause-lies : goal.turn_queue-requires-clause-lies
turn_queue-requires-clause-lies c = lie_still c.args.memory.now c.restart.new.self (capacity_of c.args.disk.now) (queues_of c.args.backend.now) c.requires.backend.lies c.restart.ensures.memory

pub turn_queue-requires-clause-unfailed : goal.turn_queue-requires-clause-unfailed
turn_queue-requires-clause-unfailed c = restarted_unfailed c.args.memory.now c.restart.new.self c.requires.sound.side.unfailed c.restart.ensures.memory c.restart.ensures.faults

sizes_stay : (c : After-turn_queue) → (s : ℕ) → sizes_in c.turn_queue.new.memory s ≡ sizes_in c.args.memory.now s
sizes_stay c s = c.turn_queue.ensures.sizes s ∙ ap (λ (x : MemShared). sizes_of x s) c.restart.ensures.memory

pub returns-clause-sizes : goal.returns-clause-sizes
returns-clause-sizes c = sizes_stay c

pub returns-clause-backend : goal.returns-clause-backend
returns-clause-backend c = record { many = c.turn_queue.ensures.many ∙ c.requires.backend.many; lies = c.turn_queue.ensures.lies }

pub returns-clause-sound : goal.returns-clause-sound
returns-clause-sound c = record {
  index = refl;
  side = still_sound c.args.memory.now c.turn_queue.new.memory c.args.self.now (sizes_stay c) c.turn_queue.ensures.unfailed c.requires.sound.side;
  queue = still_on (setup_of c.args.self.now) (queue_of c.args.self.now c.args.backend.now) (queue_of c.args.self.now c.turn_queue.new.backend) (λ none. (c.turn_queue.ensures.rests none).1) c.turn_queue.ensures.rings c.requires.sound.queue;
  disk = c.turn_queue.ensures.capacity ∙ c.requires.sound.disk;
}

pub returns-clause-turns : goal.returns-clause-turns
returns-clause-turns c m reached at =
    let q : ℕ = c.args.self.now.index in
    let w : Parts = parts_in c.args.memory.now c.args.self.now c.args.backend.now c.args.disk.now in
    let sound = c.requires.sound in
    let same = c.restart.ensures.memory in
    let t : Turn = turn_here q w.side.header c.args.choice m in
    let x : Stepped = c.turn_queue.result in
    let goes : Option QueueState → Type 0 = λ (o : Option QueueState). TurnGoes q t w (parts c.turn_queue.new.memory c.args.self.now o c.turn_queue.new.disk) m x in
    elim (attached_or (queue_of c.args.self.now c.args.backend.now)) [
      | inl some ↦
          let has : HasQueue q w m some.0 = record { good = (reached_holds q w.side.header m reached).0; at = at; life_is = ap (λ (o : Option QueueState). Some o) some.1 } in
          let bytes = kept_bytes w c.restart.new.self same in
          let turned = c.turn_queue.ensures.turns w.side.header (setup_of w.side) m w.side.outstanding some.0 some.1 reached sound.disk sound.side.setup (kept_room w c.restart.new.self sound.side same) (device_at q w m some.0 c.restart.new.self has bytes) at.outstanding in
          subst goes (sym turned.1) (turn_goes q w m some.0 turned.0 t c.restart.new.self c.turn_queue.new.memory c.turn_queue.new.disk x has bytes turned.2)
      | inr none ↦
          let rests = c.turn_queue.ensures.rests none in
          subst goes (sym rests.1) (turn_rests q w m t c.turn_queue.new.memory c.turn_queue.new.disk x at (ap (λ (o : Option QueueState). Some o) none) rests.0 (rests.2 ∙ kept_bytes w c.restart.new.self same) rests.3)
    ]
