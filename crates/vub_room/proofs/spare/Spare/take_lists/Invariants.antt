use Rattle.std.proofs.Common.{◌≡◌, ◌≤◌, [], All, length, vec_capacity}
use Rattle.vub_room.proofs.spare.Spare.take_lists.Given as goal

abbrev pub invariant-loop-made : goal.invariant-loop-made
invariant-loop-made l = (l._made ≡ length l.lists.items) × (length l.lists.items ≤ 1863) × All (λ v. (v.items ≡ []) × (4096 ≤ vec_capacity v)) l.lists.items
