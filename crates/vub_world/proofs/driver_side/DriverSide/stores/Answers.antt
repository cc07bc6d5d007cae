use Rattle.std.proofs.Common.{subst, sym, ap, true, false, ◌<◌, ◌∙◌, ◌≡◌, ℕ, arith}
use Rattle.vub_world.proofs.MachineGuests.{GuestLoop, loop_begins, frame_more, loop_more, loop_last, steps_as}
use Rattle.vub_world.specs.declared.driver_side.DriverSide.{DriverSide}
use Rattle.vub_world.specs.DriverSides.{Desk, desk}
use Rattle.vub_world.specs.declared.outstanding.OutstandingRequests.{OutstandingRequests}
use Rattle.vub_world.specs.OutstandingRequests.{offered_in}
use Rattle.vub_world.specs.MachineDriverSide.{GuestGoes}
use Rattle.vub_world.proofs.driver_side.DriverSide.stores.Goals as goal

pub loop-done-init : goal.loop-done-init
loop-done-init c = loop_begins c.args.self.now.index (desk c.args.memory.now c.args.self.now) c.args.room.now c.requires.sound c.requires.fits

pub store-requires-clause-sound : goal.store-requires-clause-sound
store-requires-clause-sound c = c.loop-done.invariant.sound

pub store-requires-clause-more : goal.store-requires-clause-more
store-requires-clause-more c = subst (λ (l : OutstandingRequests). offered_in l < 18446744073709551615) (sym c.loop-done.invariant.outstanding) c.requires.more

-- the number of the queue stays
index_stays : (w v : DriverSide) → v ≡ record w { guest = v.guest; asked = v.asked; outstanding = v.outstanding } → w.index ≡ v.index
index_stays w v frame = sym (ap (λ (f : DriverSide). f.index) frame)

pub store-requires-clause-fits : goal.store-requires-clause-fits
store-requires-clause-fits c = c.loop-done.invariant.fits

pub store-requires-clause-items : goal.store-requires-clause-items
store-requires-clause-items c = omega (arith, c.requires.items, c.loop-done.invariant.items_left, c.loop-done-test.true)

pub store-requires-clause-lists : goal.store-requires-clause-lists
store-requires-clause-lists c = omega (arith, c.requires.lists, c.loop-done.invariant.lists_left, c.loop-done-test.true)

pub returns-then-not-store-clause-frame : goal.returns-then-not-store-clause-frame
returns-then-not-store-clause-frame c = frame_more c.args.self.now c.loop-done.self c.store.new.self c.loop-done.invariant.frame c.store.ensures.frame

pub returns-then-not-store-clause-position : goal.returns-then-not-store-clause-position
returns-then-not-store-clause-position c = c.store.ensures.position ∙ c.loop-done.invariant.position

pub returns-then-not-store-clause-sizes : goal.returns-then-not-store-clause-sizes
returns-then-not-store-clause-sizes c s = c.store.ensures.sizes s ∙ c.loop-done.invariant.sizes s

pub returns-then-not-store-clause-goes : goal.returns-then-not-store-clause-goes
returns-then-not-store-clause-goes c =
    let q : ℕ = c.args.self.now.index in
    let w : Desk = desk c.args.memory.now c.args.self.now in
    let v : Desk = desk c.loop-done.memory c.loop-done.self in
    let now : Desk = desk c.store.new.memory c.store.new.self in
    loop_last q c.loop-done.done c.args.count w v now c.args.room.now c.loop-done.room c.store.new.room c.loop-done.invariant c.loop-done-test.true
    (λ n f. steps_as q v.side.index v now n c.loop-done.room.items c.store.new.room.items c.store.result false (index_stays c.args.self.now c.loop-done.self c.loop-done.invariant.frame) c.if-not-store.true (c.store.ensures.goes n) f)

pub loop-done-preserved : goal.loop-done-preserved
loop-done-preserved c =
    let q : ℕ = c.args.self.now.index in
    let w : Desk = desk c.args.memory.now c.args.self.now in
    let v : Desk = desk c.loop-done.memory c.loop-done.self in
    let now : Desk = desk c.store.new.memory c.store.new.self in
    subst (λ (k : ℕ). GuestLoop q k w now c.args.room.now c.store.new.room) (omega arith) (loop_more q c.loop-done.done w v now c.args.room.now c.loop-done.room c.store.new.room c.loop-done.invariant
    c.store.ensures.frame c.store.ensures.sound c.store.ensures.sizes c.store.ensures.fits (c.store.ensures.outstanding c.if-not-store.false) c.store.ensures.position (c.store.ensures.spent c.if-not-store.false)
    (λ n f. steps_as q v.side.index v now n c.loop-done.room.items c.store.new.room.items c.store.result true (index_stays c.args.self.now c.loop-done.self c.loop-done.invariant.frame) c.if-not-store.false (c.store.ensures.goes n) f))

pub returns-clause-frame : goal.returns-clause-frame
returns-clause-frame c = c.loop-done.invariant.frame

pub returns-clause-sound : goal.returns-clause-sound
returns-clause-sound c = c.loop-done.invariant.sound

pub returns-clause-sizes : goal.returns-clause-sizes
returns-clause-sizes c = c.loop-done.invariant.sizes

pub returns-clause-position : goal.returns-clause-position
returns-clause-position c = c.loop-done.invariant.position

pub returns-clause-goes : goal.returns-clause-goes
returns-clause-goes c m x f waits =
    let q : ℕ = c.args.self.now.index in
    let w : Desk = desk c.args.memory.now c.args.self.now in
    let all : c.loop-done.done ≡ c.args.count = omega (arith, c.loop-done-test.false, c.loop-done.auto.done-end) in
    subst (λ (k : ℕ). GuestGoes q k x w (desk c.loop-done.memory c.loop-done.self) m c.args.room.now.items c.loop-done.room.items) all (c.loop-done.invariant.goes m x f waits).1
