use Rattle.std.proofs.Common.{◌≡◌, ◌+◌, ◌*◌, ◌++◌, length, take}
use Rattle.std.specs.List.{flat_map, AllByRecursion}
use Rattle.vub_wire.specs.Grammar.{region_bytes, RegionFits}
use Rattle.vub_wire.proofs.writing.put_regions.Given as goal

abbrev pub invariant-loop-region : goal.invariant-loop-region
invariant-loop-region l = record {
  fits : AllByRecursion RegionFits (take l.region-index l.regions);
  are : l.out.items ≡ l.fn.out.items ++ flat_map region_bytes (take l.region-index l.regions);
  len : length l.out.items ≡ length l.fn.out.items + 32 * l.region-index;
}
