use Rattle.std.proofs.Common.{◌≡◌, ◌≤◌, [], ℕ, List, Bool, ap, sym, ◌∙◌, subst, arith}
use Rattle.std.specs.Prelude.{Some, slice_get, get_or, min, ◌+◌, ◌*◌}
use Rattle.vub_base.specs.declared.header.Header1.{Header1}
use Rattle.vub_report.specs.declared.items.Item.{Item}
use Rattle.vub_room.specs.Rooms.{RoomState, HasRoom}
use Rattle.vub_run.specs.Run.{Stands}
use Rattle.vub_world.specs.declared.driver_side.DriverSide.{DriverSide}
use Rattle.vub_world.specs.declared.machine.Machine.{Machine}
use Rattle.vub_world.specs.DriverSides.{Parts, parts_in, parts_of}
use Rattle.vub_world.specs.Machine.{IsSound}
use Rattle.vub_world.specs.MachineAt.{MachineAt, PartsAt}
use Rattle.vub_world.specs.Sequences.{most_turns}
use Rattle.vub_world.specs.MachineSteps.{TurnsGo, TurnsEvent, PlaysTurns, turns_besides}
use Rattle.vub_world.proofs.MachineEvents.{ok_then}
use Rattle.vub_world.proofs.MachineGuestCollects.{collects_within}
use Rattle.vub_world.proofs.MachineParts.{TurnsBegin, found, parts_stand, turns_begin_at, turned_sound, turned_at, with_turned}
use Rattle.vub_run_laws.proofs.Runs.{plain_header}
use Rattle.vub_world.proofs.MachineLoops.{besides_small}
use Rattle.vub_world.proofs.MachineStarts.{unattached_on}
use Rattle.vub_world.proofs.MachineTurnEvents.{standing_few, turns_idle, turns_all_made, turns_none, turns_event_as, turns_event_of}
use Rattle.vub_world.proofs.machine.Machine.turns.Goals.{then-not-made, else-not-made}
use Rattle.vub_world.proofs.machine.Machine.turns.Goals as goal

pub count-undone-requires : goal.count-undone-requires
count-undone-requires c =
    let w : Machine = c.args.self.now in
    let q : ℕ = c.args.queue in
    let f : DriverSide = c.index-side.result.now in
    let sound : IsSound w = c.requires.sound in
    let is : slice_get w.sides.items q ≡ Some f = found w.sides.items q f (omega (arith, c.requires.exists, sound.many)) (c.index-side.ensures ∙ ap (λ (k : ℕ). get_or w.sides.items k f) c.from-place.ensures) in
    collects_within q (parts_of q f w) (parts_stand w q f sound is c.requires.stands)

pub for_turns-requires : goal.for_turns-requires
for_turns-requires c =
    let w : Machine = c.args.self.now in
    let q : ℕ = c.args.queue in
    let f : DriverSide = c.index-side.result.now in
    let sound : IsSound w = c.requires.sound in
    let is : slice_get w.sides.items q ≡ Some f = found w.sides.items q f (omega (arith, c.requires.exists, sound.many)) (c.index-side.ensures ∙ ap (λ (k : ℕ). get_or w.sides.items k f) c.from-place.ensures) in
    record {
      few = subst (λ (n : ℕ). n ≤ 64) (sym c.count-undone.ensures) (standing_few q (parts_of q f w) (parts_stand w q f sound is c.requires.stands));
      few_besides = subst (λ (n : ℕ). n ≤ 71) (sym c.turns_besides-besides.ensures) (besides_small w.header.size (plain_header w.header sound.header).good.size.small);
    }

pub returns-then-not-is_attached-clause-plays : goal.returns-then-not-is_attached-clause-plays
returns-then-not-is_attached-clause-plays c =
    let w : Machine = c.args.self.now in
    ok_then _ (λ is. PlaysTurns c.args.queue w w c.args.sequence is) c.idle.result
    (λ is noted es rs m s at. turns_none c.args.queue w.header (MachineAt w) c.args.sequence (most_turns c.args.sequence) m is (unattached_on w c.args.queue es rs m c.requires.sound c.requires.exists (sym c.is_attached.ensures ∙ c.if-not-is_attached.true) s at) at noted)
    c.idle.ensures

pub play_turns-made-requires-clause-backend : goal.play_turns-made-requires-clause-backend
play_turns-made-requires-clause-backend c =
    let w : Machine = c.args.self.now in
    let q : ℕ = c.args.queue in
    let f : DriverSide = c.index-side.result.now in
    let sound : IsSound w = c.requires.sound in
    let is : slice_get w.sides.items q ≡ Some f = found w.sides.items q f (omega (arith, c.requires.exists, sound.many)) (c.index-side.ensures ∙ ap (λ (k : ℕ). get_or w.sides.items k f) c.from-place.ensures) in
    let b : TurnsBegin w q f c.in-Some.backend = turns_begin_at w q f c.in-Some.backend sound c.requires.stands is c.in-Some.is in
    b.backend

pub play_turns-made-requires-clause-sound : goal.play_turns-made-requires-clause-sound
play_turns-made-requires-clause-sound c =
    let w : Machine = c.args.self.now in
    let q : ℕ = c.args.queue in
    let f : DriverSide = c.index-side.result.now in
    let sound : IsSound w = c.requires.sound in
    let is : slice_get w.sides.items q ≡ Some f = found w.sides.items q f (omega (arith, c.requires.exists, sound.many)) (c.index-side.ensures ∙ ap (λ (k : ℕ). get_or w.sides.items k f) c.from-place.ensures) in
    let b : TurnsBegin w q f c.in-Some.backend = turns_begin_at w q f c.in-Some.backend sound c.requires.stands is c.in-Some.is in
    b.sound

pub play_turns-made-requires-clause-stands : goal.play_turns-made-requires-clause-stands
play_turns-made-requires-clause-stands c =
    let w : Machine = c.args.self.now in
    let q : ℕ = c.args.queue in
    let f : DriverSide = c.index-side.result.now in
    let sound : IsSound w = c.requires.sound in
    let is : slice_get w.sides.items q ≡ Some f = found w.sides.items q f (omega (arith, c.requires.exists, sound.many)) (c.index-side.ensures ∙ ap (λ (k : ℕ). get_or w.sides.items k f) c.from-place.ensures) in
    let b : TurnsBegin w q f c.in-Some.backend = turns_begin_at w q f c.in-Some.backend sound c.requires.stands is c.in-Some.is in
    b.stands

pub play_turns-made-requires-clause-room : goal.play_turns-made-requires-clause-room
play_turns-made-requires-clause-room c =
    let w : Machine = c.args.self.now in
    let q : ℕ = c.args.queue in
    let f : DriverSide = c.index-side.result.now in
    let sound : IsSound w = c.requires.sound in
    let is : slice_get w.sides.items q ≡ Some f = found w.sides.items q f (omega (arith, c.requires.exists, sound.many)) (c.index-side.ensures ∙ ap (λ (k : ℕ). get_or w.sides.items k f) c.from-place.ensures) in
    let b : TurnsBegin w q f c.in-Some.backend = turns_begin_at w q f c.in-Some.backend sound c.requires.stands is c.in-Some.is in
    let besides : c.turns_besides-besides.result ≡ turns_besides f.header.size = c.turns_besides-besides.ensures ∙ ap (λ (h : Header1). turns_besides h.size) (sym b.header) in
    subst (λ (n : ℕ). HasRoom (min (most_turns c.args.sequence) (27 * n + turns_besides f.header.size)) n c.in_ok-room.room) c.count-undone.ensures
    (subst (λ (n : ℕ). HasRoom (min (most_turns c.args.sequence) (27 * c.count-undone.result + n)) c.count-undone.result c.in_ok-room.room) besides
    (subst (λ (n : ℕ). HasRoom (min n (27 * c.count-undone.result + c.turns_besides-besides.result)) c.count-undone.result c.in_ok-room.room) c.most_turns-most.ensures c.in_ok-room.ensures.room))

pub play_turns-made-requires-clause-numbers : goal.play_turns-made-requires-clause-numbers
play_turns-made-requires-clause-numbers c stopped = subst (λ (n : ℕ). n ≤ c.in_ok-room.room.numbers) c.count-undone.ensures c.in_ok-room.ensures.numbers

pub returns-clause-sound : goal.returns-clause-sound
returns-clause-sound c =
    let w : Machine = c.args.self.now in
    let q : ℕ = c.args.queue in
    let f : DriverSide = c.index-side.result.now in
    let sound : IsSound w = c.requires.sound in
    let is : slice_get w.sides.items q ≡ Some f = found w.sides.items q f (omega (arith, c.requires.exists, sound.many)) (c.index-side.ensures ∙ ap (λ (k : ℕ). get_or w.sides.items k f) c.from-place.ensures) in
    let b : TurnsBegin w q f c.in-Some.backend = turns_begin_at w q f c.in-Some.backend sound c.requires.stands is c.in-Some.is in
    turned_sound w c.play_turns-made.new.memory q c.play_turns-made.new.backend c.play_turns-made.new.disk f sound is b.index c.play_turns-made.ensures.backend c.play_turns-made.ensures.sound

pub returns-clause-plays : goal.returns-clause-plays
returns-clause-plays c es rs m stands at =
    let w : Machine = c.args.self.now in
    let q : ℕ = c.args.queue in
    let f : DriverSide = c.index-side.result.now in
    let sound : IsSound w = c.requires.sound in
    let is : slice_get w.sides.items q ≡ Some f = found w.sides.items q f (omega (arith, c.requires.exists, sound.many)) (c.index-side.ensures ∙ ap (λ (k : ℕ). get_or w.sides.items k f) c.from-place.ensures) in
    let b : TurnsBegin w q f c.in-Some.backend = turns_begin_at w q f c.in-Some.backend sound c.requires.stands is c.in-Some.is in
    let i : ℕ = f.index in
    let n : Parts = parts_in c.play_turns-made.new.memory f c.play_turns-made.new.backend c.play_turns-made.new.disk in
    let after : List Item = c.play_turns-made.new.room.items in
    let s : Stands f.header es rs m = subst (λ (h : Header1). Stands h es rs m) (sym b.header) stands in
    let goes : TurnsGo i f.header c.play_turns-made.result c.args.sequence (most_turns c.args.sequence) (PartsAt i n) m [] after =
    subst (λ (xs : List Item). TurnsGo i f.header c.play_turns-made.result c.args.sequence (most_turns c.args.sequence) (PartsAt i n) m xs after) c.in_ok-room.ensures.empty (c.play_turns-made.ensures.turns es rs m s (b.at m at)) in
    let made : TurnsEvent i f.header c.args.sequence (most_turns c.args.sequence) (PartsAt i n) m c.finish.result = elim c.if-not-made.branch [
      | then-not-made e ↦
          turns_idle i f.header (PartsAt i n) c.args.sequence (most_turns c.args.sequence) m after c.finish.result (subst (λ (some : Bool). TurnsGo i f.header some c.args.sequence (most_turns c.args.sequence) (PartsAt i n) m [] after) e.if-not-made.true goes)
          (c.finish.ensures ∙ ap (λ (r : RoomState). r.items) (e.room-is ∙ e.note.ensures))
      | else-not-made e ↦
          turns_all_made i f.header (PartsAt i n) c.args.sequence (most_turns c.args.sequence) m after c.finish.result (subst (λ (some : Bool). TurnsGo i f.header some c.args.sequence (most_turns c.args.sequence) (PartsAt i n) m [] after) e.if-not-made.false goes)
          (c.finish.ensures ∙ ap (λ (r : RoomState). r.items) e.room-is)
    ] in
    turns_event_as q w.header c.args.sequence (most_turns c.args.sequence) (PartsAt i n) (MachineAt (with_turned w c.play_turns-made.new.memory c.play_turns-made.new.backend c.play_turns-made.new.disk)) m c.finish.result
    (λ next there_at. turned_at w c.play_turns-made.new.memory q c.play_turns-made.new.backend c.play_turns-made.new.disk f sound is b.index next there_at)
    (turns_event_of i q f.header w.header c.args.sequence (most_turns c.args.sequence) (PartsAt i n) m c.finish.result b.index b.header made)
