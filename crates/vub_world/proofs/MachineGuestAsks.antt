-- Where the machine stands after the driver took a request.
use Rattle.std.proofs.Common.{◌≡◌, ℕ, Bool, true, cond, [], refl, ap, sym, ◌∙◌}
use Rattle.std.specs.Prelude.{Option, Some, None}
use Rattle.vub_base.specs.declared.header.Header1.{Header1}
use Rattle.vub_base.specs.declared.request.Ask.{Ask}
use Rattle.vub_base.specs.declared.request.Shape.{Shape}
use Rattle.vub_ring.specs.Ring.{Ring}
use Rattle.vub_driver.specs.Layout.{ring_of}
use Rattle.vub_driver.specs.Drivers.{Driver, can_take, after_ask}
use Rattle.vub_guest.specs.declared.guest.Guest.{Guest}
use Rattle.vub_world.specs.DriverSides.{Parts, desk, setup_of}
use Rattle.vub_setup.specs.Setups.{SplitSetup}
use Rattle.vub_guest.specs.GuestState.{ring_in, driver_in, last_used_in}
use Rattle.vub_world.specs.MachineAt.{LifeAt, PartsAt}
use Rattle.vub_run.specs.Moments.{Moment}
use Rattle.vub_run.specs.Run.{played, if_ready, with_lane, with_driver, ask}
use Rattle.vub_world.proofs.MachineLanes.{all_lanes, life_with, side_with}
use Rattle.vub_queue.specs.QueueState.{QueueState}

-- the moment with another driver
abbrev pub driven_moment : ℕ → Driver → Moment → Moment
driven_moment q v m = with_lane q (with_driver v (m.lanes q)) m

-- the device's side stays
pub life_driven : (q : ℕ) (h : Header1) (setup : SplitSetup) (m : Moment) (v : Driver) (life : Option (Option QueueState)) → LifeAt q h setup m life → LifeAt q h setup (driven_moment q v m) life
life_driven q h setup m v life at = life_with q h setup m (with_driver v (m.lanes q)) life (same life at)
  where
    same : (life : Option (Option QueueState)) → LifeAt q h setup m life → LifeAt q h setup (all_lanes (with_driver v (m.lanes q)) m) life
    same None at = at
    same (Some None) at = at
    same (Some (Some queue)) at = (at.0, (at.1.0, at.1.1, record { at = at.1.2.at; phase = at.1.2.phase }))

pub ask_performs : (q : ℕ) (w : Parts) (guest' : Guest) (m : Moment) (shape : Shape) (a : Ask) (ready : Bool) → ring_in w.side.guest ≡ ring_of q w.side.header.size → PartsAt q w m → ready ≡ can_take (ring_in w.side.guest).size shape a (driver_in w.side.guest) → ready ≡ true
    → driver_in guest' ≡ cond ready (after_ask (ring_in w.side.guest) a (driver_in w.side.guest)) (driver_in w.side.guest) → last_used_in guest' ≡ last_used_in w.side.guest
    → (next : Moment) × (played [] next ≡ ask w.side.header q shape a m) × PartsAt q (record w { side = record w.side { guest = guest'; asked = Some a } }) next
ask_performs q w guest' m shape a ready ring at says taken driver position =
    let h : Header1 = w.side.header in
    let v : Driver = (m.lanes q).driver in
    let next : Moment = driven_moment q (after_ask (ring_of q h.size) a v) m in
    let can : can_take h.size shape a v ≡ true =
    ap (λ (d : Driver). can_take h.size shape a d) (sym at.side.driver) ∙ ap (λ (r : Ring). can_take r.size shape a (driver_in w.side.guest)) (sym ring) ∙ sym says ∙ taken in
    let now_driver : driver_in guest' ≡ after_ask (ring_of q h.size) a v =
    driver ∙ ap (λ (b : Bool). cond {A = Driver} b (after_ask (ring_in w.side.guest) a (driver_in w.side.guest)) (driver_in w.side.guest)) taken
    ∙ ap (λ (r : Ring). after_ask r a (driver_in w.side.guest)) ring ∙ ap (λ (d : Driver). after_ask (ring_of q h.size) a d) at.side.driver in (
      next,
      sym (ap (λ (b : Bool). if_ready b (played [] next) m) can),
      record {
        side = side_with q (desk w.memory (record w.side { guest = guest'; asked = Some a })) m (with_driver (after_ask (ring_of q h.size) a v) (m.lanes q)) (record { memory = at.side.memory; driver = now_driver; asks = refl });
        position = position ∙ at.position;
        life = life_driven q h (setup_of w.side) m (after_ask (ring_of q h.size) a v) w.life at.life;
        disk = at.disk;
        outstanding = at.outstanding;
      },
    )
