-- What is noted of the driver's stores has room: they are small, and the head of the request has its place.
use Rattle.std.proofs.Common.{◌≡◌, ℕ, refl, sym, subst, arith}
use Rattle.std.specs.Prelude.{Option, Some, None}
use Rattle.vub_base.specs.declared.header.Header1.{Header1}
use Rattle.vub_base.specs.declared.store.Area.TheVariants.{M}
use Rattle.vub_shared.specs.Stores.{Store}
use Rattle.vub_driver.specs.Drivers.{Driver, Waiting}
use Rattle.vub_world.specs.DriverSides.{Parts}
use Rattle.vub_world.specs.MachineAt.{AskAt, PartsAt, PartsStand}
use Rattle.vub_world.specs.MachineDriverSide.{IsSmall, AreSmall, DriverSideFits, HeadHasPlace}
use Rattle.vub_run.specs.Moments.{Moment, Lane}
use Rattle.vub_run.specs.Run.{Stands}
use Rattle.vub_run_laws.proofs.RingSmall.{left_small}
use Rattle.vub_run_laws.proofs.RunHolds.{IsWaiting}
use Rattle.vub_run_laws.proofs.RunQueue.{queue_waiting}
use Rattle.vub_run_laws.proofs.RunTurns.{Good}
use Rattle.vub_run_laws.proofs.RunsTo.{stands_good, stands_chained}

pub side_fits : (q : ℕ) (w : Parts) → PartsStand q w → DriverSideFits w.side
side_fits q w standing = record {
  stores = subst (λ (v : Driver). AreSmall v.waiting) (sym at.side.driver) (smalls (m.lanes q).driver.waiting refl);
  kept = subst (λ (v : Driver). AskAt v.waiting w.side.asked) (sym at.side.driver) at.side.asks;
  place = subst (λ (v : Driver). HeadHasPlace w.side.outstanding v.waiting) (sym at.side.driver) (places (m.lanes q).driver.waiting refl);
}
  where
    h : Header1
    h = w.side.header

    m : Moment
    m = standing.2.0

    s : Stands h standing.0 standing.1 m
    s = standing.2.1

    at : PartsAt q w m
    at = standing.2.2

    good : Good q h m
    good = stands_good q h standing.0 standing.1 m standing.2.3 s

    smalls : (o : Option Waiting) → (m.lanes q).driver.waiting ≡ o → AreSmall o
    smalls None e = tt
    smalls (Some x) e = left_small (IsSmall M) q h m x (λ (st : Store) space few. record { space = space; few = few }) good (stands_chained q h standing.0 standing.1 m standing.2.3 s) e

    places : (o : Option Waiting) → (m.lanes q).driver.waiting ≡ o → HeadHasPlace w.side.outstanding o
    places None e = tt
    places (Some x) e =
        let l : Lane = m.lanes q in
        let waits : IsWaiting q h.size h.capacity m.scene.past (m.scene.heads q) l.driver (record x { left = x.left }) = queue_waiting q h m.scene l.driver l.bell l.plan l.counter l.batch l.phase x e good.holds.queue in
        omega (arith, waits.below, at.outstanding.places)
