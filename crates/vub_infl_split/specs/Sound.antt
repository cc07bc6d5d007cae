-- A region that a life of its queue leaves to the next one.
use Rattle.std.specs.Prelude.{◌≡◌, ◌<◌, ◌≤◌, ℕ, true, List}
use Rattle.std.specs.List.{AllByRecursion}
use Rattle.vub_device.specs.Places.{are_distinct}
use Rattle.vub_ring.specs.Ring.{ahead}
use Rattle.vub_inflight.specs.Entries.{heads_of, CountersBelow, CountersRise}
use Rattle.vub_infl_split.specs.Region.{RegionWords}
use Rattle.vub_infl_split.specs.Readings.{counted, open_entries}

-- it was made for n descriptors, has no damage, and its open entries are these heads in the order of their counters
pub record Sound (n used : ℕ) (heads : List ℕ) (w : RegionWords) : Type 0 where
  pub version : w.version ≡ 1
  pub count : w.desc_num ≡ n
  pub few : ahead used w.used_idx ≤ n
  pub distinct : are_distinct (counted used w) ≡ true
  pub within : AllByRecursion (λ (i : ℕ). i < n) (counted used w)
  pub reads : heads_of (open_entries n used w) ≡ heads
  pub rising : CountersRise (open_entries n used w)
  pub low : CountersBelow 18446744073709551615 (open_entries n used w)
  -- what is stored again fits its word
  pub last_fits : w.last_batch_head < 65536
  pub used_idx_fits : w.used_idx < 65536
