-- The machine at the opening.
use Rattle.std.proofs.Common.{◌≡◌, ◌<◌, ◌≤◌, ℕ, ◌+◌, ◌*◌, ◌%◌, length, set, sym, ap, ◌∙◌, subst, inl, inr, arith, refl, List, [], ◌∷◌, ◌++◌, ◌⊎◌}
use Rattle.std.specs.Prelude.{zero, suc, slice_get, replicate, Option, Some, None}
use Rattle.vub_base.specs.declared.header.Header1.{Header1}
use Rattle.vub_shared.specs.Watched.{bytes_in, sizes_in, IsUnfailed}
use Rattle.vub_device.specs.Requests.{zeros}
use Rattle.vub_driver.specs.Layout.{ring_of}
use Rattle.vub_infl_split.specs.Region.{RegionLies, region_size}
use Rattle.vub_infl_split.specs.declared.region.SplitRegion.{SplitRegion}
use Rattle.vub_memdisk.specs.MemDisks.{values_of, capacity_of}
use Rattle.vub_schedule.specs.Spelling.{IsHeader}
use Rattle.vub_queue_in_run.specs.QueueAt.{LiesAs}
use Rattle.vub_queue_in_run.proofs.WorkAtLists.{slice_get-set_same, slice_get-set_other}
use Rattle.vub_shared.specs.declared.watched_shared.WatchedShared.{WatchedShared}
use Rattle.vub_world.specs.declared.driver_side.DriverSide.{DriverSide}
use Rattle.vub_world.specs.declared.machine.Machine.{Machine}
use Rattle.vub_world.specs.DriverSides.{DriverSideSound, IsNewDriverSide, AreNewDriverSides, AreNewQueues, offered_by, setup_of}
use Rattle.vub_world.specs.Lives.{IsOnInLife, IsBackendInLife, life_of}
use Rattle.vub_backend.specs.declared.backend.Backend.{Backend}
use Rattle.std.proofs.Math.Nat.{mul-le-mul_right}
use Rattle.std.proofs.lemmas.List.{length_push}
use Rattle.std.proofs.lemmas.Option.{slice_get_within}
use Rattle.vub_world.specs.Machine.{IsSound}
use Rattle.vub_backend.specs.Backends.{attached_in, found}
use Rattle.vub_world.specs.OutstandingRequests.{offered_in}
use Rattle.vub_world.specs.Regions.{inflight_size}
use Rattle.vub_world.specs.MachineAt.{MachineAt, LifeAt}
use Rattle.vub_run.specs.Memory.{opening_memory}
use Rattle.vub_run.specs.Moments.{opening, region_of}
use Rattle.vub_queue.specs.QueueState.{QueueState, IsNew}

-- ---- the world itself

-- the part of each queue lies in a space that has room for all of them
pub part_lies : (h : Header1) (q : ℕ) (sizes : ℕ → ℕ) → q < h.queues → sizes 1 ≡ inflight_size h → RegionLies sizes (region_of q h.size)
part_lies h q sizes low size = record {
  room = let inside : (q + 1) * region_size h.size ≤ h.queues * region_size h.size = mul-le-mul_right (region_size h.size) (let e : q + 1 ≤ h.queues = omega (arith, low) in e) in omega (arith, size, inside);
  aligned = omega arith;
}

pub new_sound : (h : Header1) (q : ℕ) (memory : WatchedShared) (f : DriverSide) → IsHeader h → IsNewDriverSide h q f → q < h.queues → sizes_in memory 0 ≡ 1048576 * h.queues → sizes_in memory 1 ≡ inflight_size h → IsUnfailed memory → DriverSideSound memory f
new_sound h q memory f is new low size inflight unfailed = record {
  header = subst (λ (k : Header1). IsHeader k) (sym new.header) is;
  exists = omega (arith, new.index, low, ap (λ (k : Header1). k.queues) new.header);
  guest = new.guest ∙ ap (λ (k : Header1). ring_of q k.size) (sym new.header) ∙ ap (λ (p : ℕ). ring_of p f.header.size) (sym new.index);
  setup = subst (λ (p : ℕ). LiesAs p (setup_of f) f.header.size) (sym new.index) (subst (λ (k : Header1). LiesAs q (setup_of f) k.size) (sym new.header) new.setup);
  space = new.space;
  room = omega (arith, new.index, low, size);
  region = subst (λ (r : SplitRegion). RegionLies (sizes_in memory) r) (sym new.setup.region) (part_lies h q (sizes_in memory) low inflight);
  unfailed = unfailed;
}

pub opens : (w : Machine) → IsHeader w.header → bytes_in w.memory ≡ opening_memory w.header → AreNewDriverSides w.header w.header.queues w.sides.items → w.life ≡ None → ((s : ℕ) → s < w.header.capacity → values_of w.disk s ≡ replicate 512 0) → MachineAt w (opening w.header)
unfolding zeros
opens w is bytes sides life disk = record {
  many = sides.many;
  queues = λ q f found.
      let new = sides.each q f found in
      record {
        side = record {
          memory = bytes;
          driver = new.driver;
          asks = new.asked;
        };
        position = new.position ∙ (let e : w.header.base ≡ (f.header.base + 0) % 65536 = omega (arith, is.begins, ap (λ (k : Header1). k.base) new.header) in e);
        life = subst (λ (l : Option Backend). LifeAt q f.header (setup_of f) (opening w.header) (life_of q l)) (sym life) refl;
        disk = subst (λ (k : Header1). (s : ℕ) → s < k.capacity → values_of w.disk s ≡ replicate 512 0) (sym new.header) disk;
        outstanding = record {
          offers_are = new.offered;
          collects_are = new.collected;
          places = new.places ∙ ap (λ (k : Header1). k.size) (sym new.header);
          slots = λ k below. absurd (let e : ⊥ = omega (arith, below) in e);
        };
      };
}

-- ---- new sides and queues

pub no_sides : (h : Header1) (sides : List DriverSide) → length sides ≡ 0 → AreNewDriverSides h 0 sides
no_sides h sides none = record { many = none; each = λ q f is. absurd (omega (arith, none, slice_get_within sides q f is)) }

-- what the last of a list is
last_of : {A : Type 0} (xs : List A) (x y : A) (q : ℕ) → slice_get (xs ++ x ∷ []) q ≡ Some y → (slice_get xs q ≡ Some y) ⊎ ((q ≡ length xs) × (x ≡ y))
last_of [] x y zero is = inr (refl, cc is)
last_of [] x y (suc q) is = absurd (cc is)
last_of (z ∷ xs) x y zero is = inl is
last_of (z ∷ xs) x y (suc q) is = elim (last_of xs x y q is) [
  | inl before ↦ inl before
  | inr last ↦ inr (ap (λ (k : ℕ). suc k) last.0, last.1)
]

pub one_side_more : (h : Header1) (count : ℕ) (sides : List DriverSide) (f : DriverSide) (now : List DriverSide) → AreNewDriverSides h count sides → IsNewDriverSide h count f → now ≡ sides ++ f ∷ [] → AreNewDriverSides h (count + 1) now
one_side_more h count sides f now new made is = subst (λ (xs : List DriverSide). AreNewDriverSides h (count + 1) xs) (sym is) (record {
  many = omega (arith, new.many, length_push sides f);
  each = λ q x there. elim (last_of sides f x q there) [
    | inl before ↦ new.each q x before
    | inr last ↦ subst (λ (k : ℕ). IsNewDriverSide h k x) (sym (last.0 ∙ new.many)) (subst (λ (y : DriverSide). IsNewDriverSide h count y) last.1 made)
  ];
})

pub one_queue_more : (count : ℕ) (sides : List DriverSide) (queues : List (Option QueueState)) (f : DriverSide) (index : ℕ) (now : List (Option QueueState)) → AreNewQueues count sides queues → slice_get sides count ≡ Some f → index ≡ count → count < length queues
    → ((u : QueueState) × IsNew (setup_of f) u × (now ≡ set queues index (Some u))) → AreNewQueues (count + 1) sides now
one_queue_more count sides queues f index now new here same within made q x low side = elim (less_or count q low) [
  | inl before ↦
      let there = new q x before side in
      (there.0, ap (λ (qs : List (Option QueueState)). attached_in qs q) made.2 ∙ ap found (slice_get-set_other queues index q (Some made.0) (λ is. omega (arith, is, same, before))) ∙ there.1, there.2)
  | inr last ↦
      let both : Some f ≡ Some x = sym here ∙ ap (λ (k : ℕ). slice_get sides k) (sym last) ∙ side in
      let it : f ≡ x = cc both in (
        made.0,
        ap (λ (qs : List (Option QueueState)). attached_in qs q) made.2 ∙ ap (λ (i : ℕ). attached_in (set queues i (Some made.0)) q) same ∙ ap (λ (i : ℕ). attached_in (set queues count (Some made.0)) i) last ∙ ap found (slice_get-set_same queues count (Some made.0) within),
        subst (λ (z : DriverSide). IsNew (setup_of z) made.0) it made.1,
      )
]
  where
    less_or : (count q : ℕ) → q < count + 1 → (q < count) ⊎ (q ≡ count)
    less_or zero zero low = inr refl
    less_or zero (suc q) low = absurd (omega (arith, low))
    less_or (suc count) zero low = inl (omega arith)
    less_or (suc count) (suc q) low = elim (less_or count q (omega (arith, low))) [
      | inl before ↦ inl (omega (arith, before))
      | inr last ↦ inr (ap (λ (k : ℕ). suc k) last)
    ]

-- ---- the world is sound

pub opening_sound : (w : Machine) → IsHeader w.header → sizes_in w.memory 0 ≡ 1048576 * w.header.queues → sizes_in w.memory 1 ≡ inflight_size w.header → IsUnfailed w.memory → AreNewDriverSides w.header w.header.queues w.sides.items → w.life ≡ None → capacity_of w.disk ≡ w.header.capacity → IsSound w
opening_sound w is size inflight unfailed sides life disk = record {
  header = is;
  many = sides.many;
  backend = subst (λ (l : Option Backend). IsBackendInLife w.header.queues (sizes_in w.memory) (capacity_of w.disk) l) (sym life) tt;
  disk = disk;
  headers = λ q f there. (sides.each q f there).header;
  parts = λ q f there.
      let new = sides.each q f there in
      let low : q < w.header.queues = omega (arith, slice_get_within w.sides.items q f there, sides.many) in
      record {
        index = new.index;
        side = new_sound w.header q w.memory f is new low size inflight unfailed;
        queue = subst (λ (l : Option Backend). IsOnInLife (setup_of f) (life_of q l)) (sym life) tt;
        disk = disk ∙ ap (λ (h : Header1). h.capacity) (sym new.header);
      };
}

-- nothing was offered
pub none_offered : (h : Header1) (fs : List DriverSide) → ((q : ℕ) (f : DriverSide) → slice_get fs q ≡ Some f → IsNewDriverSide h q f) → offered_by fs ≡ 0
none_offered h fs new = go fs (λ q f is. (new q f is).offered)
  where
    go : (fs : List DriverSide) → ((q : ℕ) (f : DriverSide) → slice_get fs q ≡ Some f → offered_in f.outstanding ≡ 0) → offered_by fs ≡ 0
    go [] none = refl
    go (f ∷ fs) none = let rest : offered_by fs ≡ 0 = go fs (λ q x is. none (suc q) x is) in omega (arith, rest, none 0 f refl)
