-- Which tables are refused, and how a table translates a range. Regions are counted from 0 in the order given.
use Rattle.std.specs.List.{find, position_from}
use Rattle.std.specs.Option.{option_or}
use Rattle.std.specs.Prelude.{◌≡◌, ◌<◌, ◌≤◌, ◌⊎◌, ℕ, ◌+◌, ◌-◌, if◌then◌else◌, nat_lt, List, [], ◌∷◌, length, slice_index_or, All, AllPairs, Option, Some, None, option_map}
use Rattle.vub_base.specs.declared.store.Space.{Space}
use Rattle.vub_memtable.specs.declared.fault.TableFault.{TableFault}
use Rattle.vub_memtable.specs.declared.fault.TableFault.TheVariants.{TooMany, Overlap, PastEnd, Unmapped}
use Rattle.vub_memtable.specs.declared.region.Mapped.{Mapped}
use Rattle.vub_memtable.specs.Regions.{EndsPast, ShareAddress, SharePlace, ends_past, regions_meet, holds_guest, holds_user}

-- how many regions a table has at most
abbrev pub most_regions : ℕ
most_regions = 8

-- ---- tables and refusals

-- no two regions share an address
abbrev pub AddressesApart : List Mapped → Type 0
AddressesApart xs = AllPairs (λ a b. ¬ ShareAddress a b) xs

-- no two regions name the same byte of a space
abbrev pub PlacesApart : List Mapped → Type 0
PlacesApart xs = AllPairs (λ a b. ¬ SharePlace a b) xs

-- these regions are a table
pub record IsTable (xs : List Mapped) : Type 0 where
  pub few : length xs ≤ most_regions
  pub apart : AddressesApart xs
  pub ends : All (λ m. ¬ EndsPast m) xs

-- regions i and j share an address, and i is the least that shares one with a later region, j the least later one of those
pub record IsLeastOverlap (xs : List Mapped) (i j : ℕ) : Type 0 where
  pub later : i < j
  pub held : j < length xs
  pub share : (d : Mapped) → ShareAddress (slice_index_or xs i d) (slice_index_or xs j d)
  pub least : (h k : ℕ) (d : Mapped) → h < k → k < length xs → (h < i) ⊎ ((h ≡ i) × (k < j)) → ¬ ShareAddress (slice_index_or xs h d) (slice_index_or xs k d)

-- region i ends past its space or past 2^64, and is the least that does
pub record IsLeastPast (xs : List Mapped) (i : ℕ) : Type 0 where
  pub held : i < length xs
  pub past : (d : Mapped) → EndsPast (slice_index_or xs i d)
  pub least : (h : ℕ) (d : Mapped) → h < i → ¬ EndsPast (slice_index_or xs h d)

-- these regions are no table for this reason: there are more than 8; or else two share an address; or else one ends too far
abbrev pub Refuses : List Mapped → TableFault → Type 0
Refuses xs TooMany = most_regions < length xs
Refuses xs (Overlap i j) = (length xs ≤ most_regions) × IsLeastOverlap xs i j
Refuses xs (PastEnd i) = (length xs ≤ most_regions) × AddressesApart xs × IsLeastPast xs i
Refuses xs (Unmapped address) = ⊥

-- ---- the same as a function

-- the first region, counted from `at` on, that shares an address with a later one, and the first of those
abbrev pub first_overlap : ℕ → List Mapped → Option (ℕ × ℕ)
first_overlap at [] = None
first_overlap at (x ∷ xs) = option_or (option_map (λ j. (at, at + 1 + j)) (position_from (regions_meet x) 0 xs)) (first_overlap (at + 1) xs)

abbrev pub past_fault : Option ℕ → Option TableFault
past_fault past = option_map (λ i. PastEnd i) past

abbrev pub overlap_fault : Option (ℕ × ℕ) → Option ℕ → Option TableFault
overlap_fault overlap past = option_or (option_map (λ x. Overlap x.0 x.1) overlap) (past_fault past)

-- why these regions are no table, if they aren't
abbrev pub fault_of : List Mapped → Option TableFault
fault_of xs = if nat_lt most_regions (length xs) then Some TooMany else overlap_fault (first_overlap 0 xs) (position_from ends_past 0 xs)

-- ---- translations

-- a space by its number, with a place
abbrev pub numbers : Space × ℕ → ℕ × ℕ
numbers x = (x.0.number, x.1)

-- the space and the place of an address in a region that begins at `start`
abbrev pub place_from : ℕ → Mapped → ℕ → ℕ × ℕ
place_from start m address = (m.space.number, m.region.offset + (address - start))

-- the space and the place of a range of the guest's addresses, if a region holds it; of one of the front end's
abbrev pub guest_place : List Mapped → ℕ → ℕ → Option (ℕ × ℕ)
guest_place xs address len = option_map (λ m. place_from m.region.guest m address) (find (λ m. holds_guest m address len) xs)

abbrev pub user_place : List Mapped → ℕ → ℕ → Option (ℕ × ℕ)
user_place xs address len = option_map (λ m. place_from m.region.user m address) (find (λ m. holds_user m address len) xs)
