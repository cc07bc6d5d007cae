use Rattle.std.proofs.Common.{◌≡◌, ◌≤◌, [], All, length, vec_capacity}
use Rattle.vub_room.proofs.room.answer_lists.Given as goal

abbrev pub invariant-loop-made : goal.invariant-loop-made
invariant-loop-made l = (length l.lists.items ≡ l._made) × All (λ v. (v.items ≡ []) × (l.fn.answers ≤ vec_capacity v)) l.lists.items
