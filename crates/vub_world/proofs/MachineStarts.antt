-- Where the machine stands after a life begins, after its queues are attached, and after it ends.
use Rattle.std.proofs.Common.{◌≡◌, ◌<◌, ℕ, true, false, List, [], ◌∷◌, length, refl, ap, sym, ◌∙◌, subst, arith}
use Rattle.std.specs.Prelude.{zero, suc, Bool, not, ◌&&◌, Option, Some, None, is_some, slice_get, replicate}
use Rattle.std.proofs.lemmas.Option.{slice_get_within}
use Rattle.vub_base.specs.declared.header.Header1.{Header1}
use Rattle.vub_memdisk.specs.MemDisks.{capacity_of}
use Rattle.vub_report.specs.declared.items.Item.TheVariants as items
use Rattle.vub_report.specs.declared.items.Record.{Record}
use Rattle.vub_run.specs.Moments.{Moment}
use Rattle.vub_run.specs.Run.{Stands, played, if_ready, boot, join}
use Rattle.vub_run_laws.proofs.RunsTo.{stands_good}
use Rattle.vub_schedule.specs.declared.types.Event.{Event}
use Rattle.vub_shared.specs.Watched.{sizes_in}
use Rattle.vub_world.specs.declared.driver_side.DriverSide.{DriverSide}
use Rattle.vub_backend.specs.declared.backend.Backend.{Backend}
use Rattle.vub_world.specs.declared.machine.Machine.{Machine}
use Rattle.vub_world.specs.DriverSides.{AreNewQueues, parts_of, setup_of}
use Rattle.vub_world.specs.Lives.{IsOnInLife, IsBackend, life_of, queue_in}
use Rattle.vub_world.specs.Machine.{IsSound}
use Rattle.vub_world.specs.MachineAt.{AttachedAt, LifeAt, MachineAt, PartsAt, is_attached}
use Rattle.vub_world.specs.MachineDevice.{is_joining}
use Rattle.vub_backend.specs.Backends.{queues_of, attached_in, EachLies}
use Rattle.vub_backend.proofs.BackendLemmas.{none_lies}
use Rattle.std.proofs.lemmas.List.{length-replicate}
use Rattle.vub_world.proofs.MachineLives.{booted, booted_at, asleep_at, joined, joined_at, joining_at, killed, killed_at}
use Rattle.vub_setup.specs.Setups.{SplitSetup}
use Rattle.vub_world.proofs.MachineTurnsAt.{has_no_queue, none_attached}
use Rattle.vub_world.proofs.MachineParts.{found_there, the_low, first_side, life_none, life_joining, with_life_of}
use Rattle.vub_queue.specs.QueueState.{QueueState, IsNew}

-- ---- a life begins

pub asleep_on : (w : Machine) (m : Moment) → IsSound w → is_some w.life ≡ false → MachineAt w m → m.lives ≡ false
asleep_on w m sound none at =
    let side = first_side w sound in
    asleep_at 0 (parts_of 0 side.0 w) m (at.queues 0 side.0 side.1) (life_none w.life 0 none)

-- a backend that has attached no queue
none_in : (n q : ℕ) → attached_in (replicate n None) q ≡ None
none_in zero q = refl
none_in (suc n) zero = refl
none_in (suc n) (suc q) = none_in n q

life_empty : (b : Backend) (n q : ℕ) → queues_of b ≡ replicate n None → life_of q (Some b) ≡ Some None
life_empty b n q none = ap (λ (qs : List (Option QueueState)). Some (attached_in qs q)) none ∙ ap (λ (o : Option QueueState). Some o) (none_in n q)

pub empty_backend : (count : ℕ) (sizes : ℕ → ℕ) (capacity : ℕ) (b : Backend) → queues_of b ≡ replicate count None → IsBackend count sizes capacity b
empty_backend count sizes capacity b none = record {
  many = ap (λ (qs : List (Option QueueState)). length qs) none ∙ length-replicate count None;
  lies = subst (λ (qs : List (Option QueueState)). EachLies sizes capacity qs) (sym none) (none_lies sizes capacity count);
}

pub booted_sound : (w : Machine) (b : Backend) → IsSound w → queues_of b ≡ replicate w.header.queues None → IsSound (with_life_of w (Some b))
booted_sound w b sound none = record {
  header = sound.header;
  many = sound.many;
  backend = empty_backend w.header.queues (sizes_in w.memory) (capacity_of w.disk) b none;
  disk = sound.disk;
  headers = sound.headers;
  parts = λ q f is.
      let old = sound.parts q f is in
      record {
        index = old.index;
        side = old.side;
        queue = subst (λ (o : Option (Option QueueState)). IsOnInLife (setup_of f) o) (sym (life_empty b w.header.queues q none)) tt;
        disk = old.disk;
      };
}

pub booted_on : (w : Machine) (b : Backend) (es : List Event) (rs : List Record) (m : Moment) → IsSound w → queues_of b ≡ replicate w.header.queues None → Stands w.header es rs m → m.lives ≡ false → MachineAt w m → MachineAt (with_life_of w (Some b)) (booted m)
booted_on w b es rs m sound none stands asleep at = record {
  many = sound.many;
  queues = λ q f is.
      let low : q < w.header.queues = omega (arith, the_low w q f sound is, ap (λ (h : Header1). h.queues) (sound.headers q f is)) in
      let quiet = ((stands_good q w.header es rs m low stands).asleep asleep).1 in
      subst (λ (o : Option (Option QueueState)). PartsAt q (record (parts_of q f w) { life = o }) (booted m)) (sym (life_empty b w.header.queues q none)) (booted_at q (parts_of q f w) m quiet (at.queues q f is));
}

-- ---- the queues are attached

pub joining_on : (w : Machine) (m : Moment) → IsSound w → is_joining w.life ≡ true → MachineAt w m → (m.lives ≡ true) × (m.joined ≡ false)
joining_on w m sound new at =
    let side = first_side w sound in
    let here = joining_at 0 (parts_of 0 side.0 w) m (at.queues 0 side.0 side.1) (life_joining w.life new) in
    (here.0, here.1.0)

-- the queues of the sides
there_is : (w : Machine) (b : Backend) (q : ℕ) (f : DriverSide) → IsSound w → AreNewQueues w.header.queues w.sides.items (queues_of b) → slice_get w.sides.items q ≡ Some f → (u : QueueState) × (life_of q (Some b) ≡ Some (Some u)) × IsNew (setup_of f) u
there_is w b q f sound new is =
    let there = new q f (omega (arith, slice_get_within w.sides.items q f is, sound.many)) is in
    (there.0, ap (λ (o : Option QueueState). Some o) there.1, there.2)

pub joined_sound : (w : Machine) (b : Backend) → IsSound w → IsBackend w.header.queues (sizes_in w.memory) (capacity_of w.disk) b → AreNewQueues w.header.queues w.sides.items (queues_of b) → IsSound (with_life_of w (Some b))
joined_sound w b sound backend new = record {
  header = sound.header;
  many = sound.many;
  backend = backend;
  disk = sound.disk;
  headers = sound.headers;
  parts = λ q f is.
      let old = sound.parts q f is in
      let there = there_is w b q f sound new is in
      record {
        index = old.index;
        side = old.side;
        queue = subst (λ (o : Option (Option QueueState)). IsOnInLife (setup_of f) o) (sym there.1) (ap (λ (s : QueueState). s.ring) there.2.is);
        disk = old.disk;
      };
}

-- where the queues aren't attached yet none is
unjoined : (q : ℕ) (h : Header1) (setup : SplitSetup) (m : Moment) (l : Option (Option QueueState)) → m.lives ≡ true → m.joined ≡ false → LifeAt q h setup m l → AttachedAt q h setup m None
unjoined q h setup m None lives not_yet at = absurd (let both : true ≡ false = sym lives ∙ at in cc)
unjoined q h setup m (Some None) lives not_yet at = at.1
unjoined q h setup m (Some (Some s)) lives not_yet at = absurd (let both : true ≡ false = sym at.1.0 ∙ not_yet in cc)

pub joined_on : (w : Machine) (b : Backend) (es : List Event) (rs : List Record) (m : Moment) → IsSound w → AreNewQueues w.header.queues w.sides.items (queues_of b) → is_joining w.life ≡ true → Stands w.header es rs m → MachineAt w m
    → MachineAt (with_life_of w (Some b)) (joined m)
joined_on w b es rs m sound new joining stands at = record {
  many = sound.many;
  queues = λ q f is.
      let h : Header1 = f.header in
      let s : Stands h es rs m = subst (λ (k : Header1). Stands k es rs m) (sym (sound.headers q f is)) stands in
      let there = there_is w b q f sound new is in
      let begun = joining_on w m sound joining at in
      let none = unjoined q h (setup_of f) m (life_of q w.life) begun.0 begun.1 (at.queues q f is).life in
      subst (λ (o : Option (Option QueueState)). PartsAt q (record (parts_of q f w) { life = o }) (joined m)) (sym there.1)
      (joined_at q (parts_of q f w) m there.0 (stands_good q h es rs m (the_low w q f sound is) s) (sound.parts q f is).index none begun.0 there.2 (at.queues q f is));
}

-- ---- a life ends

pub killed_sound : (w : Machine) → IsSound w → IsSound (with_life_of w None)
killed_sound w sound = record {
  header = sound.header;
  many = sound.many;
  backend = tt;
  disk = sound.disk;
  headers = sound.headers;
  parts = λ q f is.
      let old = sound.parts q f is in
      record { index = old.index; side = old.side; queue = tt; disk = old.disk };
}

pub killed_on : (w : Machine) (m : Moment) → MachineAt w m → MachineAt (with_life_of w None) (killed w.header m)
killed_on w m at = record { many = at.many; queues = λ q f is. killed_at q w.header (parts_of q f w) m (at.queues q f is) }

-- ---- where they aren't ready

pub living_on : (w : Machine) (m : Moment) → IsSound w → is_some w.life ≡ true → MachineAt w m → m.lives ≡ true
living_on w m sound some at = go w.life some (at.queues 0 side.0 side.1).life
  where
    side : (f : DriverSide) × (slice_get w.sides.items 0 ≡ Some f)
    side = first_side w sound

    go : (l : Option Backend) → is_some l ≡ true → LifeAt 0 side.0.header (setup_of side.0) m (life_of 0 l) → m.lives ≡ true
    go None some at = absurd (cc some)
    go (Some l) some at = at.0

pub boot_idle : (m : Moment) → m.lives ≡ true → played (items.Idle ∷ []) m ≡ boot m
boot_idle m lives = sym (ap (λ (b : Bool). if_ready (not b) (played [] (booted m)) m) lives)

-- where the first queue is attached
attached_first : (h : Header1) (setup : SplitSetup) (m : Moment) (o : Option QueueState) → not (is_some o) ≡ false → AttachedAt 0 h setup m o → m.joined ≡ true
attached_first h setup m None is at = absurd (cc is)
attached_first h setup m (Some s) is at = at.0

pub join_idle_on : (w : Machine) (m : Moment) → IsSound w → is_joining w.life ≡ false → MachineAt w m → played (items.Idle ∷ []) m ≡ join m
join_idle_on w m sound none at = go w.life none (at.queues 0 side.0 side.1).life
  where
    side : (f : DriverSide) × (slice_get w.sides.items 0 ≡ Some f)
    side = first_side w sound

    go : (l : Option Backend) → is_joining l ≡ false → LifeAt 0 side.0.header (setup_of side.0) m (life_of 0 l) → played (items.Idle ∷ []) m ≡ join m
    go None is at = sym (ap (λ (b : Bool). if_ready (b && not m.joined) (played [] (joined m)) m) at)
    go (Some b) is at =
        let all : m.joined ≡ true = attached_first side.0.header (setup_of side.0) m (queue_in 0 b) is at.1 in
        sym (ap (λ (b : Bool). if_ready (b && not m.joined) (played [] (joined m)) m) at.0 ∙ ap (λ (b : Bool). if_ready (true && not b) (played [] (joined m)) m) all)

-- ---- where the queue isn't attached

none_there : (o : Option QueueState) → is_some o ≡ false → o ≡ None
none_there None none = refl
none_there (Some s) none = absurd (cc none)

pub unattached_on : (w : Machine) (q : ℕ) (es : List Event) (rs : List Record) (m : Moment) → IsSound w → q < w.header.queues → is_attached q w.life ≡ false → Stands w.header es rs m → MachineAt w m → (m.lanes q).attached ≡ false
unattached_on w q es rs m sound low none stands at =
    let side = found_there w.sides.items q (omega (arith, low, sound.many)) in
    let f : DriverSide = side.0 in
    let s : Stands f.header es rs m = subst (λ (h : Header1). Stands h es rs m) (sym (sound.headers q f side.1)) stands in
    none_attached q (parts_of q f w) m (stands_good q f.header es rs m (the_low w q f sound side.1) s) (at.queues q f side.1) (has_none w.life none)
  where
    has_none : (l : Option Backend) → is_attached q l ≡ false → has_no_queue (life_of q l)
    has_none None none = tt
    has_none (Some b) none = none_there (queue_in q b) none
