use Rattle.std.proofs.Common.{◌≡◌, take}
use Rattle.std.specs.List.{flat_map}
use Rattle.vub_driver.specs.Requests.{part_bytes}
use Rattle.vub_guest.proofs.guest.request.part_records.Given as goal

abbrev pub invariant-loop-part : goal.invariant-loop-part
invariant-loop-part l = l.records.items ≡ flat_map part_bytes (take l.part-index l.parts)
