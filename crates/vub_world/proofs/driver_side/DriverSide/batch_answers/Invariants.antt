use Rattle.std.proofs.Common.{◌≡◌, ◌≤◌, take, vec_capacity}
use Rattle.vub_shared.specs.Watched.{bytes_in}
use Rattle.vub_world.specs.MachineDevice.{answers_for}
use Rattle.vub_room.specs.Rooms.{SpendsAnswers}
use Rattle.vub_queue.specs.QueueState.{state_of}
use Rattle.vub_world.proofs.driver_side.DriverSide.batch_answers.Given as goal

abbrev pub invariant-loop-element : goal.invariant-loop-element
invariant-loop-element l =
    (l.answers.items ≡ answers_for l.self.index l.self.outstanding (bytes_in l.memory) (take l.element (state_of l.queue).batch))
    × (l.fn.room.answers ≤ vec_capacity l.answers)
    × SpendsAnswers l.element l.fn.room l.room
