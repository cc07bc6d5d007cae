use Rattle.std.proofs.Common.{◌≡◌, ◌<◌, ◌≤◌, ◌+◌, ◌++◌, ◌∷◌, [], ℕ, List, vec_capacity, take, length, ap, sym, ◌∙◌, subst, arith}
use Rattle.vub_shared.specs.Watched.{bytes_in}
use Rattle.vub_device.specs.declared.entry.Answered.{Answered}
use Rattle.vub_world.specs.OutstandingRequests.{size_in, slot_in}
use Rattle.vub_world.specs.MachineDevice.{answer_for, answers_for}
use Rattle.vub_queue.specs.QueueState.{state_of}
use Rattle.vub_world.proofs.MachineNotes.{head_of, no_head, answers_more, spends_more}
use Rattle.vub_world.proofs.driver_side.DriverSide.batch_answers.Goals as goal

pub answer-answer-requires-clause-fits : goal.answer-answer-requires-clause-fits
answer-answer-requires-clause-fits c =
    let batch = (state_of c.args.queue.now).batch in
    let head = head_of batch c.loop-element.element c.in-Some.head (sym c.batch_head.ensures ∙ c.in-Some.is) in
    subst (λ (k : ℕ). k < 64) (sym head.is) (c.requires.fits c.loop-element.element head.pair head.at).0

pub answer-answer-requires-clause-place : goal.answer-answer-requires-clause-place
answer-answer-requires-clause-place c =
    let batch = (state_of c.args.queue.now).batch in
    let head = head_of batch c.loop-element.element c.in-Some.head (sym c.batch_head.ensures ∙ c.in-Some.is) in
    subst (λ (k : ℕ). k < size_in c.args.self.now.outstanding) (sym head.is) (c.requires.fits c.loop-element.element head.pair head.at).1

pub answer-answer-requires-clause-few : goal.answer-answer-requires-clause-few
answer-answer-requires-clause-few c =
    let batch = (state_of c.args.queue.now).batch in
    let head = head_of batch c.loop-element.element c.in-Some.head (sym c.batch_head.ensures ∙ c.in-Some.is) in
    subst (λ (k : ℕ). (slot_in c.args.self.now.outstanding k).reads ≤ 8) (sym head.is) (c.requires.fits c.loop-element.element head.pair head.at).2

pub unreachable-requires : goal.unreachable-requires
unreachable-requires c =
    let batch = (state_of c.args.queue.now).batch in
    let within : c.loop-element.element < length batch = omega (arith, c.loop-element-test.true, c.batch_len-element-end.ensures) in
    no_head batch c.loop-element.element within (sym c.batch_head.ensures ∙ c.in_default.is)

pub loop-element-preserved : goal.loop-element-preserved
loop-element-preserved c =
    let q : ℕ = c.args.self.now.index in
    let batch = (state_of c.args.queue.now).batch in
    let i = c.loop-element.element in
    let outstanding = c.args.self.now.outstanding in
    let m = bytes_in c.args.memory.now in
    let result : Answered = c.answer-answer.result in
    let head = head_of batch i c.in-Some.head (sym c.batch_head.ensures ∙ c.in-Some.is) in
    let answer : result ≡ answer_for q (slot_in outstanding head.pair.0) m head.pair.0 = c.answer-answer.ensures.answer ∙ ap (λ (k : ℕ). answer_for q (slot_in outstanding k) m k) head.is in
    let items : c.push_reserved.new.self.items ≡ answers_for q outstanding m (take (i + 1) batch) =
    c.push_reserved.ensures.items ∙ ap (λ (xs : List Answered). xs ++ result ∷ []) c.loop-element.invariant.0
    ∙ ap (λ (x : Answered). answers_for q outstanding m (take i batch) ++ x ∷ []) answer ∙ sym (answers_more q outstanding m batch i head.pair head.at) in
    let capacity : c.args.room.now.answers ≤ vec_capacity c.push_reserved.new.self = omega (arith, c.loop-element.invariant.1, c.push_reserved.ensures.capacity) in
    (items, capacity, spends_more i c.args.room.now c.loop-element.room c.answer-answer.new.room c.loop-element.invariant.2 c.answer-answer.ensures.room)
