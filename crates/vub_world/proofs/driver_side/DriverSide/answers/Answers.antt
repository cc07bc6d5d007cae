use Rattle.std.proofs.Common.{◌≡◌, ◌∙◌, ℕ, Bool, true, length, refl, ap, sym, subst}
use Rattle.std.specs.Prelude.{if◌then◌else◌, Option, Some, IfSome, option_map}
use Rattle.vub_room.specs.Rooms.{HasTurnRoom}
use Rattle.vub_queue.specs.QueueState.{QueueState, state_of}
use Rattle.vub_world.specs.DriverSides.{queue_of}
use Rattle.vub_world.specs.MachineDevice.{is_index, is_showing, queue_shows, ShownFits}
use Rattle.vub_world.proofs.driver_side.DriverSide.answers.Goals as goal

pub batch_answers-requires-clause-fits : goal.batch_answers-requires-clause-fits
batch_answers-requires-clause-fits c =
    let lent : queue_of c.args.self.now c.args.backend.now ≡ Some (state_of c.in-Some.queue.now) = sym c.queue.ensures ∙ ap (λ r. option_map (λ q. state_of q.now) r) c.in-Some.is in
    let fits : ShownFits c.args.self.now.outstanding (state_of c.in-Some.queue.now) = subst (λ (o : Option QueueState). IfSome o (ShownFits c.args.self.now.outstanding)) lent c.requires.fits in
    fits (ap is_index (c.if-shows_next.ensures.0 refl))

pub batch_answers-requires-clause-room : goal.batch_answers-requires-clause-room
batch_answers-requires-clause-room c =
    let state : QueueState = state_of c.in-Some.queue.now in
    let lent : queue_of c.args.self.now c.args.backend.now ≡ Some state = sym c.queue.ensures ∙ ap (λ r. option_map (λ q. state_of q.now) r) c.in-Some.is in
    let shows : is_showing state ≡ true = ap is_index (c.if-shows_next.ensures.0 refl) in
    subst (λ (k : ℕ). HasTurnRoom k c.args.room.now) (ap queue_shows lent ∙ ap (λ (b : Bool). if b then length state.batch else 0) shows) c.requires.room
