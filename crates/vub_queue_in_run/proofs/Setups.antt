-- Where the rings of a set-up lie.
use Rattle.std.proofs.Common.{◌≡◌, ◌≤◌, ℕ, ◌+◌, sym, subst, ap, ◌∙◌, arith}
use Rattle.std.specs.Int.{◌∣◌}
use Rattle.vub_base.specs.declared.header.Header1.{Header1}
use Rattle.vub_driver.specs.Layout.{area_place}
use Rattle.vub_queue.specs.QueueState.{QueueState}
use Rattle.vub_setup.specs.Setups.{SplitSetup}
use Rattle.vub_queue_in_run.specs.QueueAt.{LiesAs, QueueStands, SplitSetupLies}
use Rattle.vub_run.specs.Moments.{Moment}
use Rattle.vub_split.specs.declared.split.SplitRing.{SplitRing}
use Rattle.vub_split.specs.Split.{RingLies}
use Rattle.vub_infl_split.specs.declared.region.SplitRegion.{SplitRegion}
use Rattle.vub_infl_split.specs.Region.{RegionLies}

-- its rings lie in the area of the queue, and so in guest memory
rings_lie : (q : ℕ) (sizes : ℕ → ℕ) (setup : SplitSetup) (n : ℕ) → area_place q + 1048576 ≤ sizes 0 → 1 ≤ n → n ≤ 64 → n ∣ 65536 → LiesAs q setup n → RingLies sizes setup.ring
rings_lie q sizes setup n sized some few laps is =
    let least : 1 ≤ setup.ring.size = omega (arith, is.size, some) in
    let most : setup.ring.size ≤ 64 = omega (arith, is.size, few) in
    let room : (s : ℕ) → s ≡ 0 → area_place q + 1048576 ≤ sizes s = λ s e. subst (λ (k : ℕ). area_place q + 1048576 ≤ sizes k) (sym e) sized in
    let desc_room : area_place q + 1048576 ≤ sizes setup.ring.desc.0.number = room setup.ring.desc.0.number is.desc_space in
    let avail_room : area_place q + 1048576 ≤ sizes setup.ring.avail.0.number = room setup.ring.avail.0.number is.avail_space in
    let used_room : area_place q + 1048576 ≤ sizes setup.ring.used.0.number = room setup.ring.used.0.number is.used_space in
    record {
      some = least;
      few = omega (arith, most);
      laps = subst (λ (k : ℕ). k ∣ 65536) (sym is.size) laps;
      desc = omega (arith, most, desc_room, is.desc);
      avail = omega (arith, most, avail_room, is.avail);
      used = omega (arith, most, used_room, is.used);
      desc_aligned = omega (arith, is.desc);
      avail_aligned = omega (arith, is.avail);
      used_aligned = omega (arith, is.used);
    }

-- and with its region it lies in shared memory
pub setup_lies : (q : ℕ) (sizes : ℕ → ℕ) (setup : SplitSetup) (n : ℕ) → area_place q + 1048576 ≤ sizes 0 → RegionLies sizes setup.region → 1 ≤ n → n ≤ 64 → n ∣ 65536 → LiesAs q setup n → SplitSetupLies sizes setup
setup_lies q sizes setup n sized region some few laps is = record {
  ring = rings_lie q sizes setup n sized some few laps is;
  region = region;
  same_size = ap (λ (g : SplitRegion). g.size) is.region ∙ sym is.size;
}

-- few places, as a new queue needs
pub few_places : (q : ℕ) (setup : SplitSetup) (n : ℕ) → n ≤ 64 → LiesAs q setup n → setup.ring.size ≤ 1024
few_places q setup n few is = omega (arith, is.size, few)

-- the queue has as many
pub places_are : (q : ℕ) (h : Header1) (setup : SplitSetup) (m : Moment) (state : QueueState) → LiesAs q setup h.size → QueueStands q h setup m state → state.ring.size ≡ h.size
places_are q h setup m state is stands = ap (λ (x : SplitRing). x.size) stands.at.ring ∙ is.size
