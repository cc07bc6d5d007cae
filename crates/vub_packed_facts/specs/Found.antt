-- What any life of a packed queue of n descriptors finds in its region, whatever store the life before ended with, where the
-- slot at the old used position has these flags and the open heads are these, in the order in which they were accepted
-- (vhost-user, "Inflight I/O tracking").
use Rattle.std.specs.Prelude.{◌≡◌, ◌≤◌, ◌<◌, ℕ, true, List, length}
use Rattle.std.specs.List.{AllByRecursion}
use Rattle.vub_device.specs.Past.{is_among}
use Rattle.vub_device.specs.Places.{are_distinct}
use Rattle.vub_inflight.specs.Entries.{heads_of, CountersBelow, CountersRise}
use Rattle.vub_infl_packed.specs.Readings.{chosen_head, open_entries}
use Rattle.vub_infl_packed.specs.Region.{RegionWords}
use Rattle.vub_packed_facts.specs.Chains.{IsPath, in_chains, ChainsEnd, Apart}

-- the free list that counts: its entries come from the chosen head on, and then n, which ends it
pub record IsChosen (n flags : ℕ) (w : RegionWords) (free : List ℕ) : Type 0 where
  pub path : IsPath w.next (chosen_head flags w) free n
  pub below : AllByRecursion (λ (k : ℕ). k < n) free
  pub few : length free ≤ n

-- It was made for n descriptors. Free list and chains of the open heads are all its entries, each once, and each chain ends
-- at its head's last. It reads as these heads, by counters that rise and leave one for the next request.
pub record IsFound (n flags : ℕ) (w : RegionWords) (free heads : List ℕ) : Type 0 where
  pub version : w.version ≡ 1
  pub count : w.desc_num ≡ n
  pub chosen : IsChosen n flags w free
  pub apart : Apart n w.next w.num free heads
  pub within : (i : ℕ) → 0 < in_chains w.next w.num i heads → i < n
  pub ends : ChainsEnd w.next w.num w.last heads
  pub reads : heads_of (open_entries n flags w) ≡ heads
  pub rising : CountersRise (open_entries n flags w)
  pub low : CountersBelow 18446744073709551615 (open_entries n flags w)

-- a batch that is published: some of the open heads, each once
pub record IsBatch (batch heads : List ℕ) : Type 0 where
  pub some : 0 < length batch
  pub distinct : are_distinct batch ≡ true
  pub all_open : (h : ℕ) → is_among batch h ≡ true → is_among heads h ≡ true

-- none of these entries is in flight
abbrev pub AreQuiet : RegionWords → List ℕ → Type 0
AreQuiet w entries = (i : ℕ) → is_among entries i ≡ true → w.inflight i ≡ 0
