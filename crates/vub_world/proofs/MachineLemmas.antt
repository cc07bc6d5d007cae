-- Where the rings and the region of a sound side lie.
use Rattle.std.proofs.Common.{◌≡◌, ◌≤◌, ℕ, ◌+◌, sym, subst, ◌∙◌}
use Rattle.std.specs.Prelude.{Option}
use mathlib.Core.Path.{fun_ext}
use Rattle.vub_driver.specs.Layout.{area_place}
use Rattle.vub_guest.specs.declared.guest.Guest.{Guest}
use Rattle.vub_guest.specs.GuestState.{ring_in}
use Rattle.vub_infl_split.specs.Region.{RegionLies, region_size}
use Rattle.vub_infl_split.specs.declared.region.SplitRegion.{SplitRegion}
use Rattle.vub_queue_in_run.specs.QueueAt.{SplitSetupLies}
use Rattle.vub_queue_in_run.proofs.Setups.{setup_lies}
use Rattle.vub_run_laws.proofs.Sizes.{size_laps}
use Rattle.vub_shared.specs.Watched.{IsUnfailed, sizes_in}
use Rattle.vub_shared.specs.declared.watched_shared.WatchedShared.{WatchedShared}
use Rattle.vub_world.specs.declared.driver_side.DriverSide.{DriverSide}
use Rattle.vub_world.specs.DriverSides.{DriverSideSound, setup_of}
use Rattle.vub_world.specs.Lives.{IsBackendInLife}
use Rattle.vub_backend.specs.declared.backend.Backend.{Backend}

-- ---- parts that lie in memory

-- a region lies where no size changes
pub region_lies_still : (old new : ℕ → ℕ) (r : SplitRegion) → ((s : ℕ) → new s ≡ old s) → RegionLies old r → RegionLies new r
region_lies_still old new r same lies = record {
  room = subst (λ (k : ℕ). r.place + region_size r.size ≤ k) (sym (same r.space.number)) lies.room;
  aligned = lies.aligned;
}

-- a side is sound where no size changes and nothing fails
pub still_sound : (before now : WatchedShared) (f : DriverSide) → ((s : ℕ) → sizes_in now s ≡ sizes_in before s) → IsUnfailed now → DriverSideSound before f → DriverSideSound now f
still_sound before now f same unfailed sound = record {
  header = sound.header;
  exists = sound.exists;
  guest = sound.guest;
  setup = sound.setup;
  space = sound.space;
  room = subst (λ (k : ℕ). area_place f.index + 1048576 ≤ k) (sym (same 0)) sound.room;
  region = region_lies_still (sizes_in before) (sizes_in now) f.region same sound.region;
  unfailed = unfailed;
}

abbrev pub with_guest : Guest → DriverSide → DriverSide
with_guest g f = record f { guest = g }

-- the same with another driver on the same ring
pub guest_sound : (before now : WatchedShared) (f : DriverSide) (g : Guest) → ((s : ℕ) → sizes_in now s ≡ sizes_in before s) → IsUnfailed now → ring_in g ≡ ring_in f.guest → DriverSideSound before f → DriverSideSound now (with_guest g f)
guest_sound before now f g same unfailed ring sound = record {
  header = sound.header;
  exists = sound.exists;
  guest = ring ∙ sound.guest;
  setup = sound.setup;
  space = sound.space;
  room = subst (λ (k : ℕ). area_place f.index + 1048576 ≤ k) (sym (same 0)) sound.room;
  region = region_lies_still (sizes_in before) (sizes_in now) f.region same sound.region;
  unfailed = unfailed;
}

-- its rings and its region lie in memory
pub sound_lies : (memory : WatchedShared) (f : DriverSide) → DriverSideSound memory f → SplitSetupLies (sizes_in memory) (setup_of f)
sound_lies memory f sound =
    let laps = size_laps f.header.size sound.header.sized in
    setup_lies f.index (sizes_in memory) (setup_of f) f.header.size sound.room sound.region laps.0 laps.1 laps.2 sound.setup

-- ---- the backend of a life

-- its queues lie where no size changes
pub backend_lies : (count : ℕ) (old new : ℕ → ℕ) (capacity : ℕ) (l : Option Backend) → ((s : ℕ) → new s ≡ old s) → IsBackendInLife count old capacity l → IsBackendInLife count new capacity l
backend_lies count old new capacity l same h =
    let equal : old ≡ new = fun_ext (λ s. sym (same s)) in
    subst (λ (f : ℕ → ℕ). IsBackendInLife count f capacity l) equal h
