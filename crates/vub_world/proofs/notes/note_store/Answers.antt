use Rattle.std.proofs.Common.{◌≡◌, ◌≤◌, ℕ, [], length, subst, sym, ap}
use Rattle.vub_shared.specs.Stores.{Store, one_store}
use Rattle.vub_shared.specs.Watched.{stores_in}
use Rattle.vub_room.specs.Rooms.{RoomState}
use Rattle.vub_world.proofs.MachineNotes.{one_of, one_noted}
use Rattle.vub_world.proofs.notes.note_store.Goals as goal

pub unreachable-requires : goal.unreachable-requires
unreachable-requires c =
    let one = one_of (stores_in c.args.memory.now) c.requires.one in
    c.in_default.ensures.last [] one.st one.is

pub copy-bytes-requires-clause-few : goal.copy-bytes-requires-clause-few
copy-bytes-requires-clause-few c =
    let one = one_of (stores_in c.args.memory.now) c.requires.one in
    let same : one_store c.in-Some.space.number c.in-Some.place c.in-Some.bytes.now ≡ one.st = c.in-Some.ensures.last [] one.st one.is in
    subst (λ (st : Store). length st.bytes ≤ 4096) (sym same) one.small.few

pub returns-clause-items : goal.returns-clause-items
returns-clause-items c =
    let one = one_of (stores_in c.args.memory.now) c.requires.one in
    let space : ℕ = c.in-Some.space.number in
    let same : one_store space c.in-Some.place c.in-Some.bytes.now ≡ one.st = c.in-Some.ensures.last [] one.st one.is in
    one_noted c.args.tag c.area_of.result c.in-Some.place c.in-Some.bytes.now c.copy-bytes.result (stores_in c.args.memory.now) one space c.copy-bytes.new.self.items _ c.args.room.now.items same c.copy-bytes.ensures.bytes c.area_of.ensures
    (ap (λ (r : RoomState). r.items) c.copy-bytes.ensures.spent) (ap (λ (r : RoomState). r.items) c.note.ensures)
