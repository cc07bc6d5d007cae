-- What a machine has of a queue, and that it stands where the parts of its queue do. The grammar has one queue: there the
-- number of each is 0.
use Rattle.std.proofs.Common.{◌≡◌, ◌≤◌, ◌<◌, ℕ, zero, suc, true, false, List, [], ◌∷◌, length, set, refl, ap, sym, ◌∙◌, subst, arith}
use Rattle.std.specs.Prelude.{Vec, not, slice_get, get_or, Option, Some, None, is_some, All}
use Rattle.std.proofs.lemmas.List.{length-set, set-get_or}
use Rattle.std.proofs.lemmas.Option.{slice_get-get_or, slice_get_within}
use Rattle.std.specs.Vec.{with_item}
use Rattle.std.proofs.Math.Nat.{ℕ_set}
use Rattle.vub_base.specs.declared.header.Header1.{Header1}
use Rattle.vub_driver.specs.Layout.{ring_of}
use Rattle.vub_guest.specs.GuestState.{ring_in}
use Rattle.vub_memdisk.specs.MemDisks.{capacity_of}
use Rattle.vub_memdisk.specs.declared.mem_disk.MemDisk.{MemDisk}
use Rattle.vub_queue_in_run.proofs.WorkAtLists.{slice_get-set_same}
use Rattle.vub_run.specs.Moments.{Moment}
use Rattle.vub_run.specs.Run.{Stands}
use Rattle.vub_shared.specs.Watched.{sizes_in}
use Rattle.vub_shared.specs.declared.watched_shared.WatchedShared.{WatchedShared}
use Rattle.vub_setup.specs.Setups.{SplitSetup}
use Rattle.vub_world.specs.declared.driver_side.DriverSide.{DriverSide}
use Rattle.vub_backend.specs.declared.backend.Backend.{Backend}
use Rattle.vub_world.specs.declared.machine.Machine.{Machine}
use Rattle.vub_world.specs.DriverSides.{Parts, DriverSideSound, PartsSound, parts, parts_in, parts_of, offered_by, setup_of}
use Rattle.vub_world.specs.Lives.{IsOnInLife, IsBackend, IsBackendInLife, life_of, queue_in}
use Rattle.vub_world.specs.Machine.{IsSound}
use Rattle.vub_world.specs.MachineAt.{MachineAt, PartsAt, IsStanding, PartsStand}
use Rattle.vub_world.specs.MachineDevice.{is_joining}
use Rattle.vub_world.specs.OutstandingRequests.{offered_in}
use Rattle.vub_world.proofs.MachineGuestOffers.{with_desk}
use Rattle.vub_world.proofs.MachineLemmas.{backend_lies}
use Rattle.vub_queue.specs.QueueState.{QueueState}

-- ---- the side of a queue

-- what a place within has
pub found : {A : Type 0} (xs : List A) (q : ℕ) (x : A) → q < length xs → x ≡ get_or xs q x → slice_get xs q ≡ Some x
found xs q x within is = slice_get-get_or xs q x within ∙ ap Some (sym is)

-- a place within has something
pub found_there : {A : Type 0} (xs : List A) (q : ℕ) → q < length xs → (x : A) × (slice_get xs q ≡ Some x)
found_there [] q less = absurd (omega (arith, less))
found_there (x ∷ xs) zero less = (x, refl)
found_there (x ∷ xs) (suc q) less = found_there xs q (omega (arith, less))

-- the side that an event takes, whose queue is the only one
pub taken_side : (w : Machine) (place q : ℕ) (f : DriverSide) → IsSound w → place ≡ q → q ≡ 0 → f ≡ get_or w.sides.items place f → slice_get w.sides.items q ≡ Some f
taken_side w place q f sound same is taken = found w.sides.items q f (omega (arith, is, sound.many, sound.header.one)) (taken ∙ ap (λ (k : ℕ). get_or w.sides.items k f) same)

-- the number of a queue that is there
pub the_only : (w : Machine) (q : ℕ) (f : DriverSide) → IsSound w → slice_get w.sides.items q ≡ Some f → q ≡ 0
the_only w q f sound is = let within : q < length w.sides.items = slice_get_within w.sides.items q f is in omega (arith, within, sound.many, sound.header.one)

pub guest_ring_is : (q : ℕ) (p : Parts) → PartsSound q p → ring_in p.side.guest ≡ ring_of q p.side.header.size
guest_ring_is q p sound = sound.side.guest ∙ ap (λ (k : ℕ). ring_of k p.side.header.size) sound.index

-- it is below the number of queues
pub the_low : (w : Machine) (q : ℕ) (f : DriverSide) → IsSound w → slice_get w.sides.items q ≡ Some f → q < f.header.queues
the_low w q f sound is = let within : q < length w.sides.items = slice_get_within w.sides.items q f is in omega (arith, within, sound.many, ap (λ (h : Header1). h.queues) (sound.headers q f is))

-- the parts of a queue stand where the machine does
pub parts_stand : (w : Machine) (q : ℕ) (f : DriverSide) → IsSound w → slice_get w.sides.items q ≡ Some f → IsStanding w → PartsStand q (parts_of q f w)
parts_stand w q f sound is stood = (stood.0, stood.1, (stood.2.0, subst (λ (h : Header1). Stands h stood.0 stood.1 stood.2.0) (sym (sound.headers q f is)) stood.2.1, stood.2.2.queues q f is, the_low w q f sound is))

-- ---- the machine with another side

-- what holds of the new side of the queue of an event holds of that of each queue
pub each_side : (w : Machine) (q : ℕ) (f g : DriverSide) (P : ℕ → DriverSide → Type 0) → IsSound w → slice_get w.sides.items q ≡ Some f → P q g → (p : ℕ) (x : DriverSide) → slice_get (set w.sides.items q g) p ≡ Some x → P p x
each_side w q f g P sound is holds p x found_x =
    let zero_q : q ≡ 0 = the_only w q f sound is in
    let within : q < length w.sides.items = slice_get_within w.sides.items q f is in
    let low : p < length (set w.sides.items q g) = slice_get_within (set w.sides.items q g) p x found_x in
    let same : p ≡ q = omega (arith, low, zero_q, sound.many, sound.header.one, length-set w.sides.items q g) in
    let here : Some g ≡ Some x = sym (slice_get-set_same w.sides.items q g within) ∙ ap (λ (k : ℕ). slice_get (set w.sides.items q g) k) (sym same) ∙ found_x in
    let it : g ≡ x = cc here in
    subst (λ (k : ℕ). P k x) (sym same) (subst (λ (y : DriverSide). P q y) it holds)

-- what holds of the side of the queue of an event holds of that of each queue
pub each_same : (w : Machine) (q : ℕ) (f : DriverSide) (P : ℕ → DriverSide → Type 0) → IsSound w → slice_get w.sides.items q ≡ Some f → P q f → (p : ℕ) (x : DriverSide) → slice_get w.sides.items p ≡ Some x → P p x
each_same w q f P sound is holds p x there =
    let same : p ≡ q = the_only w p x sound there ∙ sym (the_only w q f sound is) in
    let it : f ≡ x = let both : Some f ≡ Some x = sym is ∙ ap (λ (k : ℕ). slice_get w.sides.items k) (sym same) ∙ there in cc both in
    subst (λ (k : ℕ). P k x) (sym same) (subst (λ (y : DriverSide). P q y) it holds)

-- ---- how many requests were offered

-- each queue's are among them
pub offered_among : (fs : List DriverSide) (q : ℕ) (f : DriverSide) → slice_get fs q ≡ Some f → offered_in f.outstanding ≤ offered_by fs
offered_among [] q f is = absurd (cc is)
offered_among (x ∷ fs) zero f is = let it : x ≡ f = cc is in omega (arith, ap (λ (y : DriverSide). offered_in y.outstanding) it)
offered_among (x ∷ fs) (suc q) f is = omega (arith, offered_among fs q f is)

-- those of one queue are all
pub offered_only : (fs : List DriverSide) (f : DriverSide) → length fs ≡ 1 → slice_get fs 0 ≡ Some f → offered_by fs ≡ offered_in f.outstanding
offered_only [] f one is = absurd (cc is)
offered_only (x ∷ []) f one is = let it : x ≡ f = cc is in omega (arith, ap (λ (y : DriverSide). offered_in y.outstanding) it)
offered_only (x ∷ y ∷ fs) f one is = absurd (omega (arith, one))

-- where few were offered in all, few were of each queue
pub few_of_each : (n : ℕ) (fs : List DriverSide) → offered_by fs < n → All (λ f. offered_in f.outstanding < n) fs
few_of_each n [] few i d low = absurd (omega (arith, low))
few_of_each n (x ∷ fs) few zero d low = omega (arith, few)
few_of_each n (x ∷ fs) few (suc i) d low = few_of_each n fs (omega (arith, few)) i d (omega (arith, low))

-- and where few were of the only queue, few were in all
pub few_of_one : (n : ℕ) (fs : List DriverSide) → length fs ≡ 1 → All (λ f. offered_in f.outstanding < n) fs → offered_by fs < n
few_of_one n [] one all = absurd (cc one)
few_of_one n (x ∷ []) one all = let few : offered_in x.outstanding < n = all 0 x (omega arith) in omega (arith, few)
few_of_one n (x ∷ y ∷ fs) one all = absurd (omega (arith, one))

-- ---- the life of a queue

-- where there is a backend
pub life_is : (l : Option Backend) (b : Backend) (q : ℕ) → l ≡ Some b → life_of q l ≡ Some (queue_in q b)
life_is l b q is = ap (life_of q) is

none_first : (o : Option QueueState) → not (is_some o) ≡ true → o ≡ None
none_first None is = refl
none_first (Some s) is = absurd (cc is)

-- where its queues aren't attached yet
pub life_joining : (l : Option Backend) → is_joining l ≡ true → life_of 0 l ≡ Some None
life_joining None is = absurd (cc is)
life_joining (Some b) is = ap (λ (o : Option QueueState). Some o) (none_first (queue_in 0 b) is)

pub life_none : (l : Option Backend) (q : ℕ) → is_some l ≡ false → life_of q l ≡ None
life_none None q is = refl
life_none (Some l) q is = absurd (cc is)

-- ---- the machine after a step of a driver

abbrev pub with_side_at : Machine → WatchedShared → ℕ → DriverSide → Machine
with_side_at w memory q g = record w { memory = memory; sides = with_item w.sides q g }

-- what a side keeps in each step
pub record KeepsDriverSide (f g : DriverSide) : Type 0 where
  pub header : g.header ≡ f.header
  pub index : g.index ≡ f.index
  pub setup : (setup_of g) ≡ (setup_of f)

pub side_sound : (w : Machine) (memory : WatchedShared) (q : ℕ) (f g : DriverSide) → IsSound w → slice_get w.sides.items q ≡ Some f → KeepsDriverSide f g → DriverSideSound memory g → ((s : ℕ) → sizes_in memory s ≡ sizes_in w.memory s) → IsSound (with_side_at w memory q g)
side_sound w memory q f g sound is keeps side sizes = record {
  header = sound.header;
  many = length-set w.sides.items q g ∙ sound.many;
  backend = backend_lies w.header.queues (sizes_in w.memory) (sizes_in memory) (capacity_of w.disk) w.life sizes sound.backend;
  disk = sound.disk;
  headers = each_side w q f g (λ p x. x.header ≡ w.header) sound is (keeps.header ∙ sound.headers q f is);
  parts = each_side w q f g (λ p x. PartsSound p (parts_of p x now)) sound is (record {
    index = keeps.index ∙ old.index;
    side = side;
    queue = subst (λ (s : SplitSetup). IsOnInLife s (life_of q w.life)) (sym keeps.setup) old.queue;
    disk = old.disk ∙ ap (λ (h : Header1). h.capacity) (sym keeps.header);
  });
}
  where
    now : Machine
    now = with_side_at w memory q g

    old : PartsSound q (parts_of q f w)
    old = sound.parts q f is

-- no memory changes where a driver takes a request
pub asked_sound : (w : Machine) (q : ℕ) (f g : DriverSide) → IsSound w → slice_get w.sides.items q ≡ Some f → g ≡ record f { guest = g.guest; asked = g.asked } → ring_in g.guest ≡ ring_in f.guest → IsSound (with_side_at w w.memory q g)
asked_sound w q f g sound is frame ring =
    let old = (sound.parts q f is).side in
    let asked : DriverSideSound w.memory (record f { guest = g.guest; asked = g.asked }) = record { header = old.header; exists = old.exists; guest = ring ∙ old.guest; setup = old.setup; space = old.space; room = old.room; region = old.region; unfailed = old.unfailed } in
    side_sound w w.memory q f g sound is (record { header = ap (λ (x : DriverSide). x.header) frame; index = ap (λ (x : DriverSide). x.index) frame; setup = ap (λ (x : DriverSide). (setup_of x)) frame }) (subst (λ (x : DriverSide). DriverSideSound w.memory x) (sym frame) asked) (λ s. refl)

pub side_at : (w : Machine) (memory : WatchedShared) (q : ℕ) (f g : DriverSide) (next : Moment) → IsSound w → slice_get w.sides.items q ≡ Some f → PartsAt q (with_desk (parts_of q f w) memory g) next → MachineAt (with_side_at w memory q g) next
side_at w memory q f g next sound is at = record { many = length-set w.sides.items q g ∙ sound.many; queues = each_side w q f g (λ p x. PartsAt p (parts_of p x (with_side_at w memory q g)) next) sound is at }

-- a Vec stays where its item is stored again
same_item : {X Z : Type 0} (v : Vec X Z) (i : ℕ) (x : X) → v.items ≡ set v.items i x → with_item v i x ≡ v
same_item v i x e =
    subst (λ xs. (o : v.len ≡ length xs) → record { ptr = v.ptr; len = v.len; cap = v.cap; alloc = v.alloc; items = xs; ok = (o, v.ok.1); small = v.small } ≡ v) e
    (λ o. ap (λ (p : v.len ≡ length v.items). record { ptr = v.ptr; len = v.len; cap = v.cap; alloc = v.alloc; items = v.items; ok = (p, v.ok.1); small = v.small }) (ℕ_set v.len (length v.items) o v.ok.0))
    (v.ok.0 ∙ sym (length-set v.items i x))

-- nothing changes where the side is as before
pub side_kept : (w : Machine) (q : ℕ) (f g : DriverSide) → f ≡ get_or w.sides.items q f → g ≡ f → with_side_at w w.memory q g ≡ w
side_kept w q f g is same =
    let stored : w.sides.items ≡ set w.sides.items q g = sym (ap (λ (x : DriverSide). set w.sides.items q x) (same ∙ is) ∙ set-get_or w.sides.items q f) in
    ap (λ fs. record w { sides = fs }) (same_item w.sides q g stored)

-- ---- the machine after turns of a queue

abbrev pub with_turned : Machine → WatchedShared → Backend → MemDisk → Machine
with_turned w memory b disk = record w { memory = memory; life = Some b; disk = disk }

turned_parts : (w : Machine) (memory : WatchedShared) (q : ℕ) (b : Backend) (disk : MemDisk) (f : DriverSide) → f.index ≡ q → parts_in memory f b disk ≡ parts_of q f (with_turned w memory b disk)
turned_parts w memory q b disk f index = ap (λ (i : ℕ). parts memory f (queue_in i b) disk) index

pub turned_sound : (w : Machine) (memory : WatchedShared) (q : ℕ) (b : Backend) (disk : MemDisk) (f : DriverSide) → IsSound w → slice_get w.sides.items q ≡ Some f → f.index ≡ q → IsBackend f.header.queues (sizes_in memory) (capacity_of disk) b → PartsSound f.index (parts_in memory f b disk) → IsSound (with_turned w memory b disk)
turned_sound w memory q b disk f sound is index backend parts_sound = record {
  header = sound.header;
  many = sound.many;
  backend = subst (λ (h : Header1). IsBackend h.queues (sizes_in memory) (capacity_of disk) b) (sound.headers q f is) backend;
  disk = parts_sound.disk ∙ ap (λ (h : Header1). h.capacity) (sound.headers q f is);
  headers = sound.headers;
  parts = each_same w q f (λ p x. PartsSound p (parts_of p x (with_turned w memory b disk))) sound is
      (subst (λ (p : Parts). PartsSound q p) (turned_parts w memory q b disk f index) (subst (λ (i : ℕ). PartsSound i (parts_in memory f b disk)) index parts_sound));
}

pub turned_at : (w : Machine) (memory : WatchedShared) (q : ℕ) (b : Backend) (disk : MemDisk) (f : DriverSide) → IsSound w → slice_get w.sides.items q ≡ Some f → f.index ≡ q → (next : Moment) → PartsAt f.index (parts_in memory f b disk) next → MachineAt (with_turned w memory b disk) next
turned_at w memory q b disk f sound is index next at = record {
  many = sound.many;
  queues = each_same w q f (λ p x. PartsAt p (parts_of p x (with_turned w memory b disk)) next) sound is
      (subst (λ (p : Parts). PartsAt q p next) (turned_parts w memory q b disk f index) (subst (λ (i : ℕ). PartsAt i (parts_in memory f b disk) next) index at));
}

-- ---- the machine with another life

abbrev pub with_life_of : Machine → Option Backend → Machine
with_life_of w l = record w { life = l }

-- a header has a queue
pub first_side : (w : Machine) → IsSound w → (f : DriverSide) × (slice_get w.sides.items 0 ≡ Some f)
first_side w sound = found_there w.sides.items 0 (omega (arith, sound.many, sound.header.one))

-- ---- turns of a queue

-- what its turns need to know before the first
pub record TurnsBegin (w : Machine) (q : ℕ) (f : DriverSide) (b : Backend) : Type 0 where
  pub index : f.index ≡ q
  pub header : f.header ≡ w.header
  pub backend : IsBackend f.header.queues (sizes_in w.memory) (capacity_of w.disk) b
  pub sound : PartsSound f.index (parts_in w.memory f b w.disk)
  pub stands : PartsStand f.index (parts_in w.memory f b w.disk)
  pub at : (m : Moment) → MachineAt w m → PartsAt f.index (parts_in w.memory f b w.disk) m

pub turns_begin_at : (w : Machine) (q : ℕ) (f : DriverSide) (b : Backend) → IsSound w → IsStanding w → slice_get w.sides.items q ≡ Some f → w.life ≡ Some b → TurnsBegin w q f b
turns_begin_at w q f b sound stood is life = record {
  index = index;
  header = sound.headers q f is;
  backend = subst (λ (h : Header1). IsBackend h.queues (sizes_in w.memory) (capacity_of w.disk) b) (sym (sound.headers q f is)) (subst (λ (l : Option Backend). IsBackendInLife w.header.queues (sizes_in w.memory) (capacity_of w.disk) l) life sound.backend);
  sound = subst (λ (i : ℕ). PartsSound i p) (sym index) (subst (λ (x : Parts). PartsSound q x) same (sound.parts q f is));
  stands = subst (λ (i : ℕ). PartsStand i p) (sym index) (subst (λ (x : Parts). PartsStand q x) same (parts_stand w q f sound is stood));
  at = λ m at. subst (λ (i : ℕ). PartsAt i p m) (sym index) (subst (λ (x : Parts). PartsAt q x m) same (at.queues q f is));
}
  where
    p : Parts
    p = parts_in w.memory f b w.disk

    index : f.index ≡ q
    index = (sound.parts q f is).index

    same : parts_of q f w ≡ p
    same = ap (λ (o : Option (Option QueueState)). record { memory = w.memory; side = f; life = o; disk = w.disk }) (life_is w.life b q life) ∙ ap (λ (i : ℕ). parts w.memory f (queue_in i b) w.disk) (sym index)
