-- Where the rings lie that are given to a queue.
use Rattle.std.proofs.Common.{◌≡◌, ℕ, ◌+◌, ◌*◌, ◌%◌, ◌≤◌, Bool, true, false, Option, Some, refl, sym, subst, arith}
use Rattle.std.proofs.lemmas.Bool.Decides.{nat_tests}
use Rattle.std.proofs.lemmas.Nat.Gcd.{dvd_of_mod-eq-zero}
use Rattle.vub_session.specs.Bounds.{IsRegion, RegionBounded, SizeBounded}
use Rattle.vub_session.specs.Lies.{PartsLie, RegionSized}
use Rattle.vub_session.specs.Ready.{holds_queue, queue_place, region_fits, rings_at, sizes_fit}
use Rattle.vub_session.specs.declared.ready.Parts.{Parts}
use Rattle.vub_session.specs.declared.state.KeptRegion.{KeptRegion}
use Rattle.vub_setup.specs.Setups.{RingsLie, region_size}

fits_size : (packed : Bool) (index : ℕ) (region : KeptRegion) (n : ℕ) → sizes_fit packed index region n ≡ true → n ≤ region.queue_size
unfolding sizes_fit
fits_size packed index region n fits = grind (arith, nat_tests)

fits_power : (index : ℕ) (region : KeptRegion) (n : ℕ) → sizes_fit false index region n ≡ true → 65536 % n ≡ 0
unfolding sizes_fit
fits_power index region n fits = grind (arith, nat_tests)

room_in : (packed : Bool) (index n space_size : ℕ) (region : KeptRegion) → n ≤ region.queue_size → holds_queue packed index region ≡ true → region.offset + region.size ≤ space_size
    → queue_place packed index region + region_size packed n ≤ space_size
unfolding holds_queue queue_place
room_in true index n space_size region few holds inside = let held : (index + 1) * (32 + 32 * region.queue_size) ≤ region.size = grind (arith, nat_tests) in omega arith
room_in false index n space_size region few holds inside = let held : (index + 1) * (16 + 16 * region.queue_size) ≤ region.size = grind (arith, nat_tests) in omega arith

aligned_in : (packed : Bool) (index : ℕ) (region : KeptRegion) → region.offset % 8 ≡ 0 → queue_place packed index region % 8 ≡ 0
unfolding queue_place
aligned_in true index region aligned = omega arith
aligned_in false index region aligned = omega arith

pub rings_lie : (sizes : ℕ → ℕ) (queues : ℕ) (packed : Bool) (index n : ℕ) (region : KeptRegion) (parts : Parts) → PartsLie sizes packed n parts → 1 ≤ n → n ≤ 1024 → sizes_fit packed index region n ≡ true
    → holds_queue packed index region ≡ true → sizes region.space.number ≡ region.space_size → IsRegion queues region → RingsLie sizes (rings_at packed n parts region.space (queue_place packed index region))
rings_lie sizes queues true index n region parts lie some few fits holds sized bounded =
    let room = room_in true index n (sizes region.space.number) region (fits_size true index region n fits) holds (omega (arith, bounded.inside)) in (
      record { some = some; few = few; room = lie.desc; aligned = lie.desc_aligned },
      record { room = room; aligned = aligned_in true index region bounded.aligned },
      refl,
    )
rings_lie sizes queues false index n region parts lie some few fits holds sized bounded =
    let room = room_in false index n (sizes region.space.number) region (fits_size false index region n fits) holds (omega (arith, bounded.inside)) in (
      record {
        some = some;
        few = few;
        laps = dvd_of_mod-eq-zero n (fits_power index region n fits);
        desc = lie.desc;
        avail = lie.avail;
        used = lie.used;
        desc_aligned = lie.desc_aligned;
        avail_aligned = lie.avail_aligned;
        used_aligned = lie.used_aligned;
      },
      record { room = room; aligned = aligned_in false index region bounded.aligned },
      refl,
    )

-- ---- what is known of a region and a size that are given

pub fits_known : (packed p : Bool) (index n : ℕ) (o : Option KeptRegion) (region : KeptRegion) (size : Option ℕ) → p ≡ packed → o ≡ Some region → size ≡ Some n → region_fits packed index o size ≡ true
    → sizes_fit p index region n ≡ true
fits_known packed p index n o region size same region_is size_is fits =
    let O : Option KeptRegion → Type 0 = λ x. region_fits packed index x size ≡ true in
    let S : Option ℕ → Type 0 = λ x. region_fits packed index (Some region) x ≡ true in
    let P : Bool → Type 0 = λ x. sizes_fit x index region n ≡ true in
    subst P (sym same) (subst S size_is (subst O region_is fits))

pub sized_known : (sizes : ℕ → ℕ) (o : Option KeptRegion) (region : KeptRegion) → o ≡ Some region → RegionSized sizes o → sizes region.space.number ≡ region.space_size
sized_known sizes o region region_is sized = let O : Option KeptRegion → Type 0 = λ x. RegionSized sizes x in subst O region_is sized

pub region_known : (queues : ℕ) (o : Option KeptRegion) (region : KeptRegion) → o ≡ Some region → RegionBounded queues o → IsRegion queues region
region_known queues o region region_is bounded = let O : Option KeptRegion → Type 0 = λ x. RegionBounded queues x in subst O region_is bounded

pub size_known : (size : Option ℕ) (n : ℕ) → size ≡ Some n → SizeBounded size → SizeBounded (Some n)
size_known size n size_is bounded = let S : Option ℕ → Type 0 = λ x. SizeBounded x in subst S size_is bounded
