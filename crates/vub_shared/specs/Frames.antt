-- What a call on shared memory leaves of it. A memory is seen by what it tells: its bytes, its list of stores, its names, which spaces it
-- handed out, and their sizes.
use Rattle.std.specs.Prelude.{◌≡◌, ℕ, Bool, List, Option, Result}
use Rattle.vub_shared.specs.Bytes.{Bytes}
use Rattle.vub_shared.specs.Spaces.{Names}
use Rattle.vub_shared.specs.Stores.{Store, Stores, Trails}

-- no name and no space more, and each space has its size
pub record KeepsSpaces {M : Type 0} (names : M → Option Names) (handed : M → ℕ → Bool) (sizes : M → ℕ → ℕ) (before now : M) : Type 0 where
  pub same_names : names now ≡ names before
  pub same_handed : (s : ℕ) → handed now s ≡ handed before s
  pub same_sizes : (s : ℕ) → sizes now s ≡ sizes before s

-- a call that only loads leaves all that is told
pub record OnlyLoads {M : Type 0} (told : M → Option Bytes) (trail : M → Option (List Store)) (names : M → Option Names) (handed : M → ℕ → Bool) (sizes : M → ℕ → ℕ) (before now : M) : Type 0 where
  pub same_told : told now ≡ told before
  pub same_trail : trail now ≡ trail before
  pub spaces : KeepsSpaces names handed sizes before now

-- a call that makes this one store leaves all else; where it failed the store was made or not
pub record MakesStore {M T E : Type 0} (told : M → Option Bytes) (trail : M → Option (List Store)) (names : M → Option Names) (handed : M → ℕ → Bool) (sizes : M → ℕ → ℕ) (before now : M) (result : Result T E) (st : Store) : Type 0 where
  pub stored : Stores (told before) (told now) result st
  pub trailed : Trails (trail before) (trail now) result st
  pub spaces : KeepsSpaces names handed sizes before now
