-- What a walk along a free list finds.
use Rattle.std.specs.Prelude.{◌≡◌, ◌≤◌, ℕ, Bool, List, length, None, Some, ⊤}
use Rattle.vub_inflight.specs.Links.{AreMarked}
use Rattle.vub_infl_packed.specs.declared.walks.FreeList.{FreeList}
use Rattle.vub_infl_packed.specs.declared.walks.FreeList.TheVariants.{Entries, Bad}
use Rattle.vub_infl_packed.specs.Readings.{free_from, bad_free}
use Rattle.vub_infl_packed.specs.Region.{RegionWords}

-- so many entries, which are marked; or the first link that is bad
abbrev pub IsFreeList : ℕ → RegionWords → ℕ → List Bool → FreeList → Type 0
IsFreeList n w head marks (Entries count) = (bad_free n w head ≡ None) × (length (free_from n w head) ≡ count) × AreMarked marks (free_from n w head)
IsFreeList n w head marks (Bad link) = bad_free n w head ≡ Some link

-- no more entries than there are
abbrev pub HasFew : ℕ → FreeList → Type 0
HasFew n (Entries count) = count ≤ n
HasFew n (Bad link) = ⊤
