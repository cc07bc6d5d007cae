use Rattle.std.proofs.Common.{◌≡◌, ◌≤◌, take, vec_capacity}
use Rattle.std.specs.Prelude.{replicate}
use Rattle.std.specs.List.{flat_map}
use Rattle.vub_room.proofs.room.Room.filled.Given as goal

abbrev pub invariant-loop-fill : goal.invariant-loop-fill
invariant-loop-fill l = (l.list.items ≡ flat_map (λ b. replicate 512 b) (take l.fill-index l.fills)) × (4096 ≤ vec_capacity l.list)
