use Rattle.std.proofs.Common.{◌≡◌, take}
use Rattle.std.specs.Prelude.{replicate}
use Rattle.std.specs.List.{flat_map}
use Rattle.vub_guest.proofs.guest.request.filled_sectors.Given as goal

abbrev pub invariant-loop-fill : goal.invariant-loop-fill
invariant-loop-fill l = l.sectors.items ≡ flat_map (λ b. replicate 512 b) (take l.fill-index l.fills)
