-- From the words of a region to memory.
use Rattle.std.proofs.Common.{◌<◌, subst, sym}
use Rattle.vub_shared.specs.Bytes.{Bytes}
use Rattle.vub_shared.specs.Stores.{Store, after_store}
use Rattle.vub_infl_split.specs.declared.region.SplitRegion.{SplitRegion}
use Rattle.vub_infl_split.specs.declared.region.SplitStore.{SplitStore}
use Rattle.vub_infl_split.specs.Region.{RegionWords, words_of, OffRegion}
use Rattle.vub_infl_split.specs.Stores.{store_of, words_after, NamesEntry, ValueFits}
use Rattle.vub_infl_split.proofs.WordLemmas.{words_stored, words_elsewhere}

-- what holds of the words after the store of a row holds in the memory after it
pub holds_stored : (P : RegionWords → Type 0) (r : SplitRegion) (step : SplitStore) (m : Bytes) → r.size < 65536 → NamesEntry r.size step → ValueFits step → P (words_after r.size step (words_of r m)) → P (words_of r (after_store (store_of r step) m))
holds_stored P r step m small within fits p = subst P (sym (words_stored r step m small within fits)) p

-- a store elsewhere leaves all that holds
pub holds_elsewhere : (P : RegionWords → Type 0) (r : SplitRegion) (m : Bytes) (st : Store) → OffRegion r st → P (words_of r m) → P (words_of r (after_store st m))
holds_elsewhere P r m st off p = subst P (sym (words_elsewhere r m st off)) p
