-- Where the machine stands after an event of a queue's driver.
use Rattle.std.proofs.Common.{◌≡◌, ◌≤◌, ◌<◌, ℕ, Bool, true, false, cond, List, [], ◌∷◌, length, refl, ap, sym, ◌∙◌, subst, inl, inr, min, arith}
use Rattle.std.specs.Prelude.{Option, Some, None, is_some, slice_get}
use Rattle.std.proofs.lemmas.Bool.{cases_lt}
use Rattle.vub_base.specs.declared.header.Header1.{Header1}
use Rattle.vub_base.specs.declared.request.Ask.{Ask}
use Rattle.vub_base.specs.declared.request.Shape.{Shape}
use Rattle.vub_driver.specs.Drivers.{Driver, Waiting, can_take, after_ask}
use Rattle.vub_guest.specs.GuestState.{ring_in, driver_in, last_used_in}
use Rattle.vub_guest.proofs.GuestLemmas.{left_few, left_some}
use Rattle.vub_driver.specs.Layout.{ring_of}
use Rattle.vub_ring.specs.Ring.{Ring}
use Rattle.vub_report.specs.declared.items.Item.{Item}
use Rattle.vub_report.specs.declared.items.Item.TheVariants as items
use Rattle.vub_report.specs.declared.items.Record.{Record}
use Rattle.vub_run.specs.Moments.{Moment}
use Rattle.vub_run.specs.Run.{Stands, played, if_ready, ask, guest, guest_stores, collect}
use Rattle.vub_schedule.specs.declared.types.Event.{Event}
use Rattle.vub_shared.specs.Watched.{bytes_in}
use Rattle.vub_shared.specs.declared.watched_shared.WatchedShared.{WatchedShared}
use Rattle.vub_world.specs.declared.driver_side.DriverSide.{DriverSide}
use Rattle.vub_world.specs.declared.machine.Machine.{Machine}
use Rattle.vub_world.specs.DriverSides.{Parts, desk, parts_of}
use Rattle.vub_world.specs.Machine.{IsSound}
use Rattle.vub_world.specs.MachineAt.{AskAt, DriverSideAt, MachineAt, PartsAt}
use Rattle.vub_world.specs.MachineDriverSide.{GuestGoes, TakesFirst}
use Rattle.vub_world.proofs.MachineGuestAsks.{driven_moment, ask_performs}
use Rattle.vub_world.proofs.MachineGuestCollects.{taken_item, takes_performs}
use Rattle.vub_world.proofs.MachineGuestOffers.{with_desk, guest_performs}
use Rattle.vub_world.proofs.MachineGuests.{all_gone}
use Rattle.vub_world.proofs.MachineParts.{the_low, guest_ring_is, with_side_at, side_at}

-- it took a request
pub ask_on : (w : Machine) (q : ℕ) (f g : DriverSide) (m : Moment) (shape : Shape) (a : Ask) (ready : Bool) → IsSound w → slice_get w.sides.items q ≡ Some f → MachineAt w m → ready ≡ can_take (ring_in f.guest).size shape a (driver_in f.guest) → ready ≡ true
    → g ≡ record f { guest = g.guest; asked = g.asked } → g.asked ≡ Some a → driver_in g.guest ≡ cond ready (after_ask (ring_in f.guest) a (driver_in f.guest)) (driver_in f.guest) → last_used_in g.guest ≡ last_used_in f.guest
    → (next : Moment) × (played [] next ≡ ask w.header q shape a m) × MachineAt (with_side_at w w.memory q g) next
ask_on w q f g m shape a ready sound is at says taken frame asked driver position =
    let p : Parts = parts_of q f w in
    let done = ask_performs q p g.guest m shape a ready (guest_ring_is q p (sound.parts q f is)) (at.queues q f is) says taken driver position in
    let same : g ≡ record f { guest = g.guest; asked = Some a } = frame ∙ ap (λ (o : Option Ask). record f { guest = g.guest; asked = o }) asked in (
      done.0,
      subst (λ (h : Header1). played [] done.0 ≡ ask h q shape a m) (sound.headers q f is) done.1,
      side_at w w.memory q f g done.0 sound is (subst (λ (x : DriverSide). PartsAt q (with_desk p w.memory x) done.0) (sym same) done.2),
    )

-- it took none
pub ask_idle : (w : Machine) (q : ℕ) (f : DriverSide) (m : Moment) (shape : Shape) (a : Ask) (ready : Bool) → IsSound w → slice_get w.sides.items q ≡ Some f → MachineAt w m → ready ≡ can_take (ring_in f.guest).size shape a (driver_in f.guest) → ready ≡ false
    → played (items.Idle ∷ []) m ≡ ask w.header q shape a m
ask_idle w q f m shape a ready sound is at says taken =
    let ring = guest_ring_is q (parts_of q f w) (sound.parts q f is) in
    let can : can_take f.header.size shape a (m.lanes q).driver ≡ false =
    ap (λ (d : Driver). can_take f.header.size shape a d) (sym (at.queues q f is).side.driver) ∙ ap (λ (r : Ring). can_take r.size shape a (driver_in f.guest)) (sym ring) ∙ sym says ∙ taken in
    subst (λ (h : Header1). played (items.Idle ∷ []) m ≡ ask h q shape a m) (sound.headers q f is)
    (sym (ap (λ (b : Bool). if_ready b (played [] (driven_moment q (after_ask (ring_of q f.header.size) a (m.lanes q).driver) m)) m) can))

-- it made stores of the request that waits
pub guest_on : (w : Machine) (memory : WatchedShared) (q : ℕ) (f g : DriverSide) (es : List Event) (rs : List Record) (m : Moment) (is : List Item) (count most : ℕ) → IsSound w → slice_get w.sides.items q ≡ Some f → Stands w.header es rs m → MachineAt w m
    → is_some f.asked ≡ true → most ≡ min count 8 → count < 65536 → g ≡ record f { guest = g.guest; asked = g.asked; outstanding = g.outstanding } → last_used_in g.guest ≡ last_used_in f.guest
    → ((x : Waiting) → DriverSideAt f.index (desk w.memory f) m → (m.lanes f.index).driver.waiting ≡ Some x → GuestGoes f.index most x (desk w.memory f) (desk memory g) m [] is)
    → (next : Moment) × (played is next ≡ guest w.header q count m) × MachineAt (with_side_at w memory q g) next
guest_on w memory q f g es rs m is count most sound there stands at asked most_is fits frame position goes = go (m.lanes q).driver.waiting refl
  where
    p : Parts
    p = parts_of q f w

    here : PartsAt q p m
    here = at.queues q f there

    index : f.index ≡ q
    index = (sound.parts q f there).index

    went : (x : Waiting) → DriverSideAt q (desk w.memory f) m → (m.lanes q).driver.waiting ≡ Some x → GuestGoes q most x (desk w.memory f) (desk memory g) m [] is
    went = subst (λ (k : ℕ). (x : Waiting) → DriverSideAt k (desk w.memory f) m → (m.lanes k).driver.waiting ≡ Some x → GuestGoes k most x (desk w.memory f) (desk memory g) m [] is) index goes

    go : (o : Option Waiting) → (m.lanes q).driver.waiting ≡ o → (next : Moment) × (played is next ≡ guest w.header q count m) × MachineAt (with_side_at w memory q g) next
    go None e =
        let none : f.asked ≡ None = subst (λ (o : Option Waiting). AskAt o f.asked) e here.side.asks in
        absurd (let fails : true ≡ false = sym asked ∙ ap (λ (a : Option Ask). is_some a) none in cc)
    go (Some x) e =
        let waits : (driver_in f.guest).waiting ≡ Some x = ap (λ (v : Driver). v.waiting) here.side.driver ∙ e in
        let few : length x.left ≤ 8 = left_few f.guest x waits in
        let made = went x here.side e in
        let all : GuestGoes q count x (desk w.memory f) (desk memory g) m [] is = elim (cases_lt 8 count) [
          | inl more ↦ all_gone q most count x (desk w.memory f) (desk memory g) m [] is (omega (arith, few, more, most_is)) (omega (arith, more, most_is)) made
          | inr less ↦ subst (λ (k : ℕ). GuestGoes q k x (desk w.memory f) (desk memory g) m [] is) (omega (arith, less, most_is)) made
        ] in
        let done = guest_performs q p memory g es rs m x is count frame position (the_low w q f sound there) (subst (λ (h : Header1). Stands h es rs m) (sym (sound.headers q f there)) stands) here fits (left_some f.guest x waits) e all in
        (done.0, subst (λ (h : Header1). played is done.0 ≡ guest h q count m) (sound.headers q f there) done.1, side_at w memory q f g done.0 sound there done.2)

-- none waits
pub guest_idle : (w : Machine) (q : ℕ) (f : DriverSide) (m : Moment) (count : ℕ) → slice_get w.sides.items q ≡ Some f → MachineAt w m → is_some f.asked ≡ false → played (items.Idle ∷ []) m ≡ guest w.header q count m
guest_idle w q f m count is at none = go (m.lanes q).driver.waiting refl (at.queues q f is).side.asks
  where
    go : (o : Option Waiting) → (m.lanes q).driver.waiting ≡ o → AskAt o f.asked → played (items.Idle ∷ []) m ≡ guest w.header q count m
    go None e asks = sym (ap (λ (o : Option Waiting). if_ready (is_some o) (guest_stores w.header q count o m) m) e)
    go (Some x) e asks = absurd (let fails : true ≡ false = sym (ap (λ (a : Option Ask). is_some a) asks) ∙ none in cc)

-- it took what is shown
pub collect_on : (w : Machine) (memory : WatchedShared) (q : ℕ) (f g : DriverSide) (es : List Event) (rs : List Record) (m : Moment) (number : Option ℕ) → IsSound w → slice_get w.sides.items q ≡ Some f → Stands w.header es rs m → MachineAt w m → bytes_in memory ≡ bytes_in w.memory
    → g ≡ record f { guest = g.guest; outstanding = g.outstanding } → TakesFirst (bytes_in w.memory) f g number → (next : Moment) × (played (taken_item q number ∷ []) next ≡ collect w.header q m) × MachineAt (with_side_at w memory q g) next
collect_on w memory q f g es rs m number sound is stands at bytes frame took =
    let p : Parts = parts_of q f w in
    let done = takes_performs q p memory g number es rs m (guest_ring_is q p (sound.parts q f is)) (the_low w q f sound is) (subst (λ (h : Header1). Stands h es rs m) (sym (sound.headers q f is)) stands) (at.queues q f is) bytes frame took in
    (done.0, subst (λ (h : Header1). played (taken_item q number ∷ []) done.0 ≡ collect h q m) (sound.headers q f is) done.1, side_at w memory q f g done.0 sound is done.2)
