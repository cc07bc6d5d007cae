use Rattle.std.proofs.Common.{◌≡◌, ◌+◌, ◌++◌, ◌∷◌, [], ℕ, List, length, take, sym, ap, ◌∙◌, arith}
use Rattle.std.specs.Prelude.{map, slice_get, Some, None, option_map}
use Rattle.std.proofs.lemmas.List.{length_push}
use Rattle.vub_queue.specs.QueueState.{state_of}
use Rattle.vub_world.specs.DriverSides.{queue_of}
use Rattle.vub_world.specs.MachineDevice.{queue_heads, heads_of, number_at}
use Rattle.vub_world.proofs.MachineNotes.{numbers_more, take_past, queue_numbers_are}
use Rattle.vub_world.proofs.driver_side.DriverSide.numbers.Goals as goal

pub loop-head-preserved : goal.loop-head-preserved
loop-head-preserved c =
    let heads : List ℕ = queue_heads (queue_of c.args.self.now c.args.backend.now) in
    let lent : queue_of c.args.self.now c.args.backend.now ≡ Some (state_of c.in-Some.queue.now) = sym c.queue.ensures ∙ ap (λ r. option_map (λ q. state_of q.now) r) c.in-Some.is in
    let same : heads_of (state_of c.in-Some.queue.now) ≡ heads = ap queue_heads (sym lent) in
    let f : ℕ → ℕ = number_at c.args.self.now.outstanding in
    let i : ℕ = length c.loop-head.numbers.items in
    let found : slice_get heads i ≡ Some c.in-Some-open_head.head = ap (slice_get heads) (sym c.loop-head.numbers.ok.0 ∙ sym c.len.ensures) ∙ ap (λ (hs : List ℕ). slice_get hs c.len.result) (sym same) ∙ sym c.open_head.ensures ∙ c.in-Some-open_head.is in
    let items : c.push_reserved.new.self.items ≡ c.loop-head.numbers.items ++ c.number.result ∷ [] = c.push_reserved.ensures.items in
    let more : length c.push_reserved.new.self.items ≡ i + 1 = ap (λ (l : List ℕ). length l) items ∙ length_push c.loop-head.numbers.items c.number.result in (
      items
          ∙ ap (λ (l : List ℕ). l ++ c.number.result ∷ []) c.loop-head.invariant.0
          ∙ ap (λ (n : ℕ). map f (take i heads) ++ n ∷ []) c.number.ensures
          ∙ sym (numbers_more f heads i c.in-Some-open_head.head found)
          ∙ ap (λ (k : ℕ). map f (take k heads)) (sym more),
      omega (arith, c.loop-head.invariant.1, c.push_reserved.ensures.capacity),
    )

pub returns-clause-numbers : goal.returns-clause-numbers
returns-clause-numbers c =
    let heads : List ℕ = queue_heads (queue_of c.args.self.now c.args.backend.now) in
    let lent : queue_of c.args.self.now c.args.backend.now ≡ Some (state_of c.in-Some.queue.now) = sym c.queue.ensures ∙ ap (λ r. option_map (λ q. state_of q.now) r) c.in-Some.is in
    let same : heads_of (state_of c.in-Some.queue.now) ≡ heads = ap queue_heads (sym lent) in
    let i : ℕ = length c.loop-head.numbers.items in
    let none : slice_get heads i ≡ None = ap (slice_get heads) (sym c.loop-head.numbers.ok.0 ∙ sym c.len.ensures) ∙ ap (λ (hs : List ℕ). slice_get hs c.len.result) (sym same) ∙ sym c.open_head.ensures ∙ c.in_default-open_head.is in
    c.new-2.ensures ∙ c.loop-head.invariant.0 ∙ ap (map (number_at c.args.self.now.outstanding)) (take_past heads i none) ∙ sym (queue_numbers_are c.args.self.now.outstanding (queue_of c.args.self.now c.args.backend.now))
