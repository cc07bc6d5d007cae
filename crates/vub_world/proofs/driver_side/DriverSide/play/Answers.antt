use Rattle.std.proofs.Common.{◌≡◌, refl, ap, sym, ◌∙◌, subst, true, false, not, Bool, ◌++◌, ℕ}
use Rattle.vub_memdisk.specs.MemDisks.{values_of}
use Rattle.vub_steps.specs.declared.readiness.Turn.{Turn}
use Rattle.vub_shared.specs.Watched.{stores_in}
use Rattle.vub_world.specs.DriverSides.{Parts, parts_in, queue_of, setup_of}
use Rattle.vub_queue.specs.declared.queue.Stepped.{Stepped}
use Rattle.vub_world.specs.MachineDevice.{noted, queue_numbers, queue_shows, shown_in, accepts, turn_here, SectorFits, HeadFits}
use Rattle.vub_world.specs.MachineSteps.{StepGoes, MachineTurns}
use Rattle.vub_queue.specs.QueueState.{is_idle}
use Rattle.vub_world.proofs.MachineBatches.{shown_fits, shows_some}
use Rattle.vub_world.proofs.MachineResumes.{start_fits, start_room_next, start_room_still}
use Rattle.vub_world.proofs.MachineTurnsNext.{reached_plain, reached_holds}
use Rattle.vub_world.proofs.MachineTurnsSteps.{same_items, same_room, same_numbers, items_left, list_left, spends_none, spends_turn, step_ends, step_goes, step_made}
use Rattle.vub_world.proofs.driver_side.DriverSide.play.Goals as goal

pub answers-answers-requires-clause-fits : goal.answers-answers-requires-clause-fits
answers-answers-requires-clause-fits c =
    let q : ℕ = c.args.self.now.index in
    let w : Parts = parts_in c.args.memory.now c.args.self.now c.args.backend.now c.args.disk.now in
    let s = c.requires.stands in
    shown_fits q w.side.header (setup_of w.side) s.0 (queue_of c.args.self.now c.args.backend.now) w.side.outstanding (reached_plain q w.side.header s.0 s.1).good.size.small (reached_holds q w.side.header s.0 s.1).0 s.2.life.1 s.2.outstanding

pub answers-answers-requires-clause-some : goal.answers-answers-requires-clause-some
answers-answers-requires-clause-some c =
    let q : ℕ = c.args.self.now.index in
    let w : Parts = parts_in c.args.memory.now c.args.self.now c.args.backend.now c.args.disk.now in
    let s = c.requires.stands in
    shows_some q w.side.header (setup_of w.side) s.0 (queue_of c.args.self.now c.args.backend.now) (reached_holds q w.side.header s.0 s.1).0 s.2.life.1

pub note_turn-requires-clause-items : goal.note_turn-requires-clause-items
note_turn-requires-clause-items c =
    items_left (queue_shows (queue_of c.args.self.now c.args.backend.now)) c.args.room.now c.answers-answers.new.room c.requires.room c.answers-answers.ensures.room

pub note_turn-requires-clause-lists : goal.note_turn-requires-clause-lists
note_turn-requires-clause-lists c =
    list_left (queue_shows (queue_of c.args.self.now c.args.backend.now)) c.args.room.now c.answers-answers.new.room c.requires.room c.answers-answers.ensures.room

pub note_turn-requires-clause-stores : goal.note_turn-requires-clause-stores
note_turn-requires-clause-stores c =
    let q : ℕ = c.args.self.now.index in
    let w : Parts = parts_in c.args.memory.now c.args.self.now c.args.backend.now c.args.disk.now in
    let now : Parts = parts_in c.turn-stepped.new.memory c.args.self.now c.turn-stepped.new.backend c.turn-stepped.new.disk in
    let s = c.requires.stands in
    let other : is_idle c.turn-stepped.result ≡ false = search in
    let made : MachineTurns q (turn_here q w.side.header c.args.choice s.0) w now s.0 c.turn-stepped.result = (step_goes q (turn_here q w.side.header c.args.choice s.0) w now s.0 c.turn-stepped.result other (c.turn-stepped.ensures.turns s.0 s.1 s.2)).1 in
    made.store

pub note_turn-requires-clause-sector : goal.note_turn-requires-clause-sector
note_turn-requires-clause-sector c =
    let q : ℕ = c.args.self.now.index in
    let w : Parts = parts_in c.args.memory.now c.args.self.now c.args.backend.now c.args.disk.now in
    let now : Parts = parts_in c.turn-stepped.new.memory c.args.self.now c.turn-stepped.new.backend c.turn-stepped.new.disk in
    let s = c.requires.stands in
    let other : is_idle c.turn-stepped.result ≡ false = search in
    let made : MachineTurns q (turn_here q w.side.header c.args.choice s.0) w now s.0 c.turn-stepped.result = (step_goes q (turn_here q w.side.header c.args.choice s.0) w now s.0 c.turn-stepped.result other (c.turn-stepped.ensures.turns s.0 s.1 s.2)).1 in
    subst (λ (k : ℕ). SectorFits k c.turn-stepped.result) (sym c.turn-stepped.ensures.sound.disk) made.sector

pub note_turn-requires-clause-made : goal.note_turn-requires-clause-made
note_turn-requires-clause-made c =
    let q : ℕ = c.args.self.now.index in
    let w : Parts = parts_in c.args.memory.now c.args.self.now c.args.backend.now c.args.disk.now in
    let now : Parts = parts_in c.turn-stepped.new.memory c.args.self.now c.turn-stepped.new.backend c.turn-stepped.new.disk in
    let s = c.requires.stands in
    let other : is_idle c.turn-stepped.result ≡ false = search in
    let made : MachineTurns q (turn_here q w.side.header c.args.choice s.0) w now s.0 c.turn-stepped.result = (step_goes q (turn_here q w.side.header c.args.choice s.0) w now s.0 c.turn-stepped.result other (c.turn-stepped.ensures.turns s.0 s.1 s.2)).1 in
    made.made

pub note_turn-requires-clause-head : goal.note_turn-requires-clause-head
note_turn-requires-clause-head c =
    let q : ℕ = c.args.self.now.index in
    let w : Parts = parts_in c.args.memory.now c.args.self.now c.args.backend.now c.args.disk.now in
    let now : Parts = parts_in c.turn-stepped.new.memory c.args.self.now c.turn-stepped.new.backend c.turn-stepped.new.disk in
    let s = c.requires.stands in
    let other : is_idle c.turn-stepped.result ≡ false = search in
    let made : MachineTurns q (turn_here q w.side.header c.args.choice s.0) w now s.0 c.turn-stepped.result = (step_goes q (turn_here q w.side.header c.args.choice s.0) w now s.0 c.turn-stepped.result other (c.turn-stepped.ensures.turns s.0 s.1 s.2)).1 in
    subst (λ (k : ℕ). HeadFits k c.turn-stepped.result) (sym s.2.outstanding.places) made.head

pub returns-then-is_idle-clause-goes : goal.returns-then-is_idle-clause-goes
returns-then-is_idle-clause-goes c m reached at =
    let q : ℕ = c.args.self.now.index in
    let w : Parts = parts_in c.args.memory.now c.args.self.now c.args.backend.now c.args.disk.now in
    let now : Parts = parts_in c.turn-stepped.new.memory c.args.self.now c.turn-stepped.new.backend c.turn-stepped.new.disk in
    let x : Stepped = c.turn-stepped.result in
    let t : Turn = turn_here q w.side.header c.args.choice m in
    let idle : is_idle x ≡ true = search in
    let ends = step_ends q t w now m x idle (c.turn-stepped.ensures.turns m reached at) in
    subst (λ (b : Bool). StepGoes q (not b) t w now m c.args.room.now.items c.answers-answers.new.room.items 0 (accepts x)) (sym idle)
    (ends.0, ends.1, same_items (shown_in w.life) c.args.room.now c.answers-answers.new.room c.answers-answers.ensures.room)

pub returns-clause-goes : goal.returns-clause-goes
returns-clause-goes c m reached at =
    let q : ℕ = c.args.self.now.index in
    let w : Parts = parts_in c.args.memory.now c.args.self.now c.args.backend.now c.args.disk.now in
    let now : Parts = parts_in c.turn-stepped.new.memory c.args.self.now c.turn-stepped.new.backend c.turn-stepped.new.disk in
    let x : Stepped = c.turn-stepped.result in
    let t : Turn = turn_here q w.side.header c.args.choice m in
    let other : is_idle x ≡ false = search in
    let same : c.answers-answers.new.room.items ≡ c.args.room.now.items = same_items (shown_in w.life) c.args.room.now c.answers-answers.new.room c.answers-answers.ensures.room in
    let notes = c.note_turn.ensures.items ∙ ap (λ is. is ++ noted q now.side.outstanding (values_of now.disk) (stores_in now.memory) c.answers-answers.result.items (queue_numbers now.side.outstanding (queue_of c.args.self.now c.turn-stepped.new.backend)) x) same in
    subst (λ (b : Bool). StepGoes q (not b) t w now m c.args.room.now.items c.note_turn.new.room.items 0 (accepts x)) (sym other)
    (step_made q t w now m x c.args.room.now.items c.note_turn.new.room.items c.answers-answers.result.items other (c.turn-stepped.ensures.turns m reached at) c.answers-answers.ensures.answers notes)

pub returns-then-is_idle-clause-spent : goal.returns-then-is_idle-clause-spent
returns-then-is_idle-clause-spent c = spends_none (queue_shows (queue_of c.args.self.now c.args.backend.now)) c.args.room.now c.answers-answers.new.room c.answers-answers.ensures.room

pub returns-clause-spent : goal.returns-clause-spent
returns-clause-spent c = spends_turn (queue_shows (queue_of c.args.self.now c.args.backend.now)) c.args.room.now c.answers-answers.new.room c.note_turn.new.room c.answers-answers.ensures.room c.note_turn.ensures.spent

pub returns-then-is_idle-clause-idle : goal.returns-then-is_idle-clause-idle
returns-then-is_idle-clause-idle c idle = same_room (queue_shows (queue_of c.args.self.now c.args.backend.now)) c.args.room.now c.answers-answers.new.room c.answers-answers.ensures.room

pub note_turn-requires-clause-starts : goal.note_turn-requires-clause-starts
note_turn-requires-clause-starts c =
    let q : ℕ = c.args.self.now.index in
    let w : Parts = parts_in c.args.memory.now c.args.self.now c.args.backend.now c.args.disk.now in
    let now : Parts = parts_in c.turn-stepped.new.memory c.args.self.now c.turn-stepped.new.backend c.turn-stepped.new.disk in
    let s = c.requires.stands in
    let t : Turn = turn_here q w.side.header c.args.choice s.0 in
    let other : is_idle c.turn-stepped.result ≡ false = search in
    let made : MachineTurns q t w now s.0 c.turn-stepped.result = (step_goes q t w now s.0 c.turn-stepped.result other (c.turn-stepped.ensures.turns s.0 s.1 s.2)).1 in
    start_fits q t w (queue_of c.args.self.now c.turn-stepped.new.backend) c.turn-stepped.new.memory c.turn-stepped.new.disk s.0 c.turn-stepped.result c.args.room.now c.answers-answers.new.room (reached_holds q w.side.header s.0 s.1).0 c.requires.sound.side.setup s.2 made c.requires.numbers
    (same_numbers (queue_shows (queue_of c.args.self.now c.args.backend.now)) c.args.room.now c.answers-answers.new.room c.answers-answers.ensures.room)

pub returns-clause-numbers : goal.returns-clause-numbers
returns-clause-numbers c =
    let q : ℕ = c.args.self.now.index in
    let w : Parts = parts_in c.args.memory.now c.args.self.now c.args.backend.now c.args.disk.now in
    let now : Parts = parts_in c.turn-stepped.new.memory c.args.self.now c.turn-stepped.new.backend c.turn-stepped.new.disk in
    let s = c.requires.stands in
    let t : Turn = turn_here q w.side.header c.args.choice s.0 in
    let other : is_idle c.turn-stepped.result ≡ false = search in
    let made : MachineTurns q t w now s.0 c.turn-stepped.result = (step_goes q t w now s.0 c.turn-stepped.result other (c.turn-stepped.ensures.turns s.0 s.1 s.2)).1 in
    start_room_next q t w (queue_of c.args.self.now c.args.backend.now) (queue_of c.args.self.now c.turn-stepped.new.backend) c.turn-stepped.new.memory c.turn-stepped.new.disk s.0 c.turn-stepped.result c.args.room.now c.answers-answers.new.room c.note_turn.new.room refl s.2 made c.requires.numbers
    (same_numbers (queue_shows (queue_of c.args.self.now c.args.backend.now)) c.args.room.now c.answers-answers.new.room c.answers-answers.ensures.room) c.note_turn.ensures.numbers

pub returns-then-is_idle-clause-numbers : goal.returns-then-is_idle-clause-numbers
returns-then-is_idle-clause-numbers c =
    let q : ℕ = c.args.self.now.index in
    let w : Parts = parts_in c.args.memory.now c.args.self.now c.args.backend.now c.args.disk.now in
    let now : Parts = parts_in c.turn-stepped.new.memory c.args.self.now c.turn-stepped.new.backend c.turn-stepped.new.disk in
    let s = c.requires.stands in
    let idle : is_idle c.turn-stepped.result ≡ true = search in
    let ends = step_ends q (turn_here q w.side.header c.args.choice s.0) w now s.0 c.turn-stepped.result idle (c.turn-stepped.ensures.turns s.0 s.1 s.2) in
    start_room_still q w.side.header (setup_of w.side) s.0 (queue_of c.args.self.now c.args.backend.now) (queue_of c.args.self.now c.turn-stepped.new.backend) w.side.outstanding c.args.room.now c.answers-answers.new.room s.2.life.1 ends.1.life.1 c.requires.numbers
    (same_numbers (queue_shows (queue_of c.args.self.now c.args.backend.now)) c.args.room.now c.answers-answers.new.room c.answers-answers.ensures.room)
