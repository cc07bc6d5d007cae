use Rattle.std.proofs.Common.{◌≡◌, ◌∙◌, arith, refl, suc, ◌+◌, ◌-◌, ℕ, false, subst}
use Rattle.std.specs.Prelude.{nat_lt}
use Rattle.std.proofs.lemmas.Bool.Decides.{nat_tests}
use Rattle.vub_base.specs.declared.header.Header1.{Header1}
use Rattle.vub_world.specs.DriverSides.{Parts, parts_in}
use Rattle.vub_run.specs.Moments.{Moment}
use Rattle.vub_world.specs.MachineSteps.{turns_besides}
use Rattle.vub_world.specs.Sequences.{most_turns}
use Rattle.vub_world.proofs.MachineLoops.{once_few, TurnsAt, EndsAt, room_of, undone_few, turns_begin, turns_taken, room_left, turn_room, turns_go_on, turns_stop, turns_all, reached, so_far}
use Rattle.vub_world.proofs.MachineRooms.{effort_bound}
use Rattle.vub_run_laws.proofs.RunsTo.{stands_good}
use Rattle.vub_world.proofs.driver_side.DriverSide.play_turns.Goals as goal

pub loop-done-init : goal.loop-done-init
loop-done-init c = record {
  backend = c.requires.backend;
  sound = c.requires.sound;
  sizes = λ s. refl;
  goes = λ es rs m stands at.
      let q : ℕ = c.args.self.now.index in
      let w : Parts = parts_in c.args.memory.now c.args.self.now c.args.backend.now c.args.disk.now in
      turns_begin q w.side.header c.args.sequence m w c.args.room.now.items (room_of (most_turns c.args.sequence) w) (w.side.outstanding.offered - w.side.outstanding.collected) c.args.room.now at (undone_few q w.side.header m w (stands_good q w.side.header es rs m c.requires.sound.side.exists stands) at) c.requires.room;
  numbers = c.requires.numbers;
  idle = λ none. refl;
}

pub play_next-requires-clause-stands : goal.play_next-requires-clause-stands
play_next-requires-clause-stands c =
    let s = c.requires.stands in
    let q : ℕ = c.args.self.now.index in
    let h : Header1 = c.args.self.now.header in
    let d = c.loop-done.invariant.goes s.0 s.1 s.2.0 s.2.1 s.2.2 in
    let n : Moment = (so_far q h c.args.sequence s.2.0 c.loop-done.done).next in
    (n, reached q h c.args.sequence s.0 s.1 s.2.0 c.loop-done.done c.requires.sound.side.exists s.2.1, d.at)

pub play_next-requires-clause-room : goal.play_next-requires-clause-room
play_next-requires-clause-room c =
    let s = c.requires.stands in
    let q : ℕ = c.args.self.now.index in
    let w : Parts = parts_in c.args.memory.now c.args.self.now c.args.backend.now c.args.disk.now in
    let here : Parts = parts_in c.loop-done.memory c.args.self.now c.loop-done.backend c.loop-done.disk in
    let d = c.loop-done.invariant.goes s.0 s.1 s.2.0 s.2.1 s.2.2 in
    let few = undone_few q w.side.header s.2.0 w (stands_good q w.side.header s.0 s.1 s.2.0 c.requires.sound.side.exists s.2.1) s.2.2 in
    let bound = effort_bound q w.side.header s.2.0 (stands_good q w.side.header s.0 s.1 s.2.0 c.requires.sound.side.exists s.2.1) in
    let left = room_left q w.side.header c.args.sequence s.0 s.1 s.2.0 (most_turns c.args.sequence) (w.side.outstanding.offered - w.side.outstanding.collected) (turns_besides w.side.header.size) c.loop-done.done here c.args.room.now.items c.loop-done.room.items c.loop-done.accepted c.loop-done.room c.requires.sound.side.exists s.2.1 few bound (omega (arith, c.loop-done-test.true, c.most_turns-most.ensures)) d in
    turn_room q w.side.header c.args.sequence s.0 s.1 s.2.0 (room_of (most_turns c.args.sequence) w) c.loop-done.done here c.args.room.now.items c.loop-done.room.items c.loop-done.accepted c.loop-done.room c.requires.sound.side.exists s.2.1 refl left d

pub returns-then-not-play_next-clause-turns : goal.returns-then-not-play_next-clause-turns
returns-then-not-play_next-clause-turns c es rs m stands at =
    let q : ℕ = c.args.self.now.index in
    let w : Parts = parts_in c.args.memory.now c.args.self.now c.args.backend.now c.args.disk.now in
    let here : Parts = parts_in c.loop-done.memory c.args.self.now c.loop-done.backend c.loop-done.disk in
    let now : Parts = parts_in c.play_next.new.memory c.args.self.now c.play_next.new.backend c.play_next.new.disk in
    let d = c.loop-done.invariant.goes es rs m stands at in
    let n : Moment = (so_far q w.side.header c.args.sequence m c.loop-done.done).next in
    let there = reached q w.side.header c.args.sequence es rs m c.loop-done.done c.requires.sound.side.exists stands in
    let few = turns_taken q w.side.header c.args.sequence es rs m (room_of (most_turns c.args.sequence) w) c.loop-done.done here c.args.room.now.items c.loop-done.room.items c.loop-done.accepted c.loop-done.room c.requires.sound.side.exists stands d in
    let ends : EndsAt q w.side.header c.args.sequence es rs m (room_of (most_turns c.args.sequence) w) c.loop-done.done here c.args.room.now.items c.loop-done.room.items c.loop-done.accepted c.loop-done.room =
    record { low = c.requires.sound.side.exists; stands = stands; same = refl; here = d } in
    turns_stop q w.side.header c.args.sequence es rs m (room_of (most_turns c.args.sequence) w) c.loop-done.done (most_turns c.args.sequence) here now c.args.room.now.items c.loop-done.room.items c.play_next.new.room.items c.loop-done.accepted c.play_next.new.accepted c.loop-done.room _ ends
    (omega (arith, c.loop-done-test.true, c.most_turns-most.ensures)) refl (c.if-not-play_next.ensures.goes n there d.at few)

pub loop-done-preserved : goal.loop-done-preserved
loop-done-preserved c = record {
  backend = c.play_next.ensures.backend;
  sound = c.play_next.ensures.sound;
  sizes = λ s. c.play_next.ensures.sizes s ∙ c.loop-done.invariant.sizes s;
  goes = λ es rs m stands at.
      let q : ℕ = c.args.self.now.index in
      let w : Parts = parts_in c.args.memory.now c.args.self.now c.args.backend.now c.args.disk.now in
      let here : Parts = parts_in c.loop-done.memory c.args.self.now c.loop-done.backend c.loop-done.disk in
      let now : Parts = parts_in c.play_next.new.memory c.args.self.now c.play_next.new.backend c.play_next.new.disk in
      let d = c.loop-done.invariant.goes es rs m stands at in
      let n : Moment = (so_far q w.side.header c.args.sequence m c.loop-done.done).next in
      let there = reached q w.side.header c.args.sequence es rs m c.loop-done.done c.requires.sound.side.exists stands in
      let few = turns_taken q w.side.header c.args.sequence es rs m (room_of (most_turns c.args.sequence) w) c.loop-done.done here c.args.room.now.items c.loop-done.room.items c.loop-done.accepted c.loop-done.room c.requires.sound.side.exists stands d in
      let undone_are = undone_few q w.side.header m w (stands_good q w.side.header es rs m c.requires.sound.side.exists stands) at in
      let bound = effort_bound q w.side.header m (stands_good q w.side.header es rs m c.requires.sound.side.exists stands) in
      let left = room_left q w.side.header c.args.sequence es rs m (most_turns c.args.sequence) (w.side.outstanding.offered - w.side.outstanding.collected) (turns_besides w.side.header.size) c.loop-done.done here c.args.room.now.items c.loop-done.room.items c.loop-done.accepted c.loop-done.room c.requires.sound.side.exists stands undone_are bound (omega (arith, c.loop-done-test.true, c.most_turns-most.ensures)) d in
      let next : suc c.loop-done.done ≡ c.loop-done.done + 1 = omega arith in
      subst (λ (k : ℕ). TurnsAt q w.side.header c.args.sequence m (room_of (most_turns c.args.sequence) w) k now c.args.room.now.items c.play_next.new.room.items c.play_next.new.accepted c.play_next.new.room) next
      (turns_go_on q w.side.header c.args.sequence es rs m (room_of (most_turns c.args.sequence) w) c.loop-done.done here now c.args.room.now.items c.loop-done.room.items c.play_next.new.room.items c.loop-done.accepted c.play_next.new.accepted c.loop-done.room c.play_next.new.room c.requires.sound.side.exists stands refl (once_few c.args.sequence w) left d
      (c.if-not-play_next.ensures.goes n there d.at few) c.play_next.ensures.spent);
  numbers = c.play_next.ensures.numbers;
  idle = λ none. absurd (omega (arith, none));
}

pub returns-clause-turns : goal.returns-clause-turns
returns-clause-turns c es rs m stands at =
    let q : ℕ = c.args.self.now.index in
    let w : Parts = parts_in c.args.memory.now c.args.self.now c.args.backend.now c.args.disk.now in
    let here : Parts = parts_in c.loop-done.memory c.args.self.now c.loop-done.backend c.loop-done.disk in
    let d = c.loop-done.invariant.goes es rs m stands at in
    let all : c.loop-done.done ≡ most_turns c.args.sequence = omega (arith, c.loop-done-test.false, c.loop-done.auto.done-end, c.most_turns-most.ensures) in
    let ends : EndsAt q w.side.header c.args.sequence es rs m (room_of (most_turns c.args.sequence) w) c.loop-done.done here c.args.room.now.items c.loop-done.room.items c.loop-done.accepted c.loop-done.room =
    record { low = c.requires.sound.side.exists; stands = stands; same = refl; here = d } in
    turns_all q w.side.header c.args.sequence es rs m (room_of (most_turns c.args.sequence) w) c.loop-done.done (most_turns c.args.sequence) here c.args.room.now.items c.loop-done.room.items c.loop-done.accepted c.loop-done.room ends c.requires.some all

none_done : (n : ℕ) → nat_lt 0 n ≡ false → n ≡ 0
none_done n none = grind (arith, nat_tests)

pub returns-then-not-play_next-clause-idle : goal.returns-then-not-play_next-clause-idle
returns-then-not-play_next-clause-idle c none =
    let zero_done : c.loop-done.done ≡ 0 = none_done c.loop-done.done none in
    c.play_next.ensures.idle c.if-not-play_next.true ∙ c.loop-done.invariant.idle zero_done
