-- The checks of a region, one after another.
use Rattle.std.proofs.Common.{◌≡◌, ◌≤◌, ◌<◌, ◌-◌, ◌%◌, ◌+◌, ℕ, [], arith}
use Rattle.std.specs.Prelude.{None}
use Rattle.std.proofs.lemmas.Bool.Decides.{nat_tests}
use Rattle.vub_ring.specs.Ring.{ahead}
use Rattle.vub_inflight.specs.Links.{first_bad}
use Rattle.vub_inflight.specs.Readings.{bad_counter}
use Rattle.vub_infl_split.specs.Region.{RegionWords}
use Rattle.vub_infl_split.specs.Readings.{counted, open_by_index, made_fault}

-- only the counters are left to check
pub counters_left : (n used : ℕ) (w : RegionWords) → w.version ≡ 1 → w.desc_num ≡ n → ahead used w.used_idx ≤ n → first_bad n [] (counted used w) ≡ None → made_fault n used w ≡ bad_counter (open_by_index n used w)
counters_left n used w version count few links = grind (arith, nat_tests)

-- how far an index is ahead, as it is computed from the other as it was loaded
pub ahead_loaded : (a b loaded : ℕ) → b < 65536 → loaded ≡ b → ahead a b ≡ (a + (65536 - loaded)) % 65536
ahead_loaded a b loaded fits is = omega (arith, fits, is)
