-- An event leads from where the machine stood to where it stands.
use Rattle.std.proofs.Common.{◌≡◌, ◌≤◌, ℕ, ◌+◌, true, List, [], ◌∷◌, ◌++◌, length, sym, ◌∙◌, subst, arith}
use Rattle.std.proofs.lemmas.List.{length_push}
use Rattle.std.specs.Prelude.{Result, Ok, Err, IfOk, Option, Some, None, is_some, slice_get, ⊤}
use Rattle.vub_base.specs.declared.header.Header1.{Header1}
use Rattle.vub_schedule.specs.declared.types.Event.{Event}
use Rattle.vub_schedule.specs.declared.types.Event.TheVariants as events
use Rattle.vub_schedule.specs.Spelling.{IsHeader, IsEvent}
use Rattle.vub_world.specs.declared.driver_side.DriverSide.{DriverSide}
use Rattle.vub_backend.specs.declared.backend.Backend.{Backend}
use Rattle.vub_world.specs.declared.machine.Machine.{Machine}
use Rattle.vub_report.specs.declared.items.Item.{Item}
use Rattle.vub_report.specs.declared.items.Record.{Record}
use Rattle.vub_world.specs.DriverSides.{offers_in, setup_of}
use Rattle.vub_world.specs.Lives.{life_of, queue_in}
use Rattle.vub_world.specs.Lending.{with_record}
use Rattle.vub_world.specs.Machine.{IsSound}
use Rattle.vub_world.specs.MachineAt.{MachineAt, AttachedAt, LifeAt, StandsFor, IsStanding, Performs, StandsOn, ServesAll, is_attached}
use Rattle.vub_run.specs.Moments.{Moment, opening}
use Rattle.vub_run.specs.Run.{Stands, Plays}
use Rattle.vub_run_laws.proofs.RunEntries.{event_offers, run_offers}
use Rattle.vub_run_laws.proofs.RunServes.{drain_serves, stands_legal, stands_serves}
use Rattle.vub_run_laws.proofs.RunsLegal.{opening_held}
use Rattle.vub_run_laws.proofs.RunsTo.{stands_more, stands_held, run_length}
use Rattle.vub_world.proofs.MachineBackend.{backend_stands}
use Rattle.vub_world.proofs.MachineParts.{found_there, offered_only}
use Rattle.vub_queue.specs.QueueState.{QueueState}

pub ok_then : {T E : Type 0} (P Q : T → Type 0) (r : Result T E) → ((x : T) → P x → Q x) → IfOk r P → IfOk r Q
ok_then P Q (Ok x) f p = f x p
ok_then P Q (Err e) f p = p

-- the queue of an event is there
pub event_side : (w : Machine) (q : ℕ) → IsSound w → q ≡ 0 → (f : DriverSide) × (slice_get w.sides.items q ≡ Some f)
event_side w q sound is = found_there w.sides.items q (omega (arith, is, sound.many, sound.header.one))

-- a machine in which the queue is attached
attached_at : (w : Machine) (q : ℕ) (m : Moment) → IsSound w → q ≡ 0 → MachineAt w m → is_attached q w.life ≡ true → (m.lanes q).attached ≡ true
attached_at w q m sound is_zero at is = go w.life is (at.queues q side.0 side.1).life
  where
    side : (f : DriverSide) × (slice_get w.sides.items q ≡ Some f)
    side = event_side w q sound is_zero

    there : (o : Option QueueState) → is_some o ≡ true → AttachedAt q side.0.header (setup_of side.0) m o → (m.lanes q).attached ≡ true
    there None is at = absurd (cc is)
    there (Some s) is at = at.1

    go : (l : Option Backend) → is_attached q l ≡ true → LifeAt q side.0.header (setup_of side.0) m (life_of q l) → (m.lanes q).attached ≡ true
    go None is here = absurd (cc is)
    go (Some b) is here = there (queue_in q b) is here.1

serves_all : (w : Machine) (e : Event) (es : List Event) (rs : List Record) (m k : Moment) (r : Record) → IsSound w → IsEvent w.header e → MachineAt w m → Stands w.header es rs m → Stands w.header (es ++ e ∷ []) (rs ++ r ∷ []) k → Plays w.header m e r.items k → ServesAll w e (rs ++ r ∷ [])
serves_all w (events.Drain q) es rs m k r sound fits at stands next plays = λ is counts.
    drain_serves q w.header es rs m k r (omega (arith, fits, sound.header.one)) stands next (omega (arith, counts, length_push rs r, run_length w.header (opening w.header) es rs m stands.run)) (attached_at w q m sound fits at is) plays
serves_all w (events.Ask q shape a) es rs m k r sound fits at stands next plays = tt
serves_all w (events.Guest q n) es rs m k r sound fits at stands next plays = tt
serves_all w (events.Collect q) es rs m k r sound fits at stands next plays = tt
serves_all w events.Boot es rs m k r sound fits at stands next plays = tt
serves_all w events.Join es rs m k r sound fits at stands next plays = tt
serves_all w (events.Start q) es rs m k r sound fits at stands next plays = tt
serves_all w (events.Fetch q) es rs m k r sound fits at stands next plays = tt
serves_all w (events.Work q place) es rs m k r sound fits at stands next plays = tt
serves_all w (events.Publish q most) es rs m k r sound fits at stands next plays = tt
serves_all w (events.Turn q n) es rs m k r sound fits at stands next plays = tt
serves_all w events.Kill es rs m k r sound fits at stands next plays = tt

pub stands_on : (w now : Machine) (e : Event) (r : Record) (spare : ⊤) → IsSound w → IsSound now → IsEvent w.header e → now.header ≡ w.header → r.event ≡ e → Performs w now e r.items → StandsOn w (with_record r spare now) e r
stands_on w now e r spare sound after fits same is goes es rs stood =
    let m : Moment = stood.0 in
    let went = goes es rs m stood.1 stood.2 in
    let stands : Stands w.header (es ++ e ∷ []) (rs ++ r ∷ []) went.0 = stands_more w.header es rs m went.0 e r stood.1 fits is went.1 in
    let there : Stands now.header (es ++ e ∷ []) (rs ++ r ∷ []) went.0 = subst (λ (h : Header1). Stands h (es ++ e ∷ []) (rs ++ r ∷ []) went.0) (sym same) stands in
    let backend = backend_stands now (es ++ e ∷ []) (rs ++ r ∷ []) went.0 after there went.2 in
    record {
      stands = (went.0, there, record { many = went.2.many; queues = went.2.queues }, record { lives = backend.lives; attached = backend.attached; names = backend.names });
      runs = stands_legal w.header (es ++ e ∷ []) (rs ++ r ∷ []) went.0 stands;
      drained = stands_serves w.header (es ++ e ∷ []) (rs ++ r ∷ []) went.0 stands;
      serves = serves_all w e es rs m went.0 r sound fits stood.2 stood.1 stands went.1;
    }

-- all offers of a machine are in the heads of its queue
offers_are : (w : Machine) (m : Moment) → IsHeader w.header → MachineAt w m → offers_in w ≡ length (m.scene.heads 0)
offers_are w m header at =
    let side = found_there w.sides.items 0 (omega (arith, at.many, header.one)) in
    offered_only w.sides.items side.0 (at.many ∙ header.one) side.1 ∙ (at.queues 0 side.0 side.1).outstanding.offers_are

-- an event offers one request at most
pub one_offer : (w now : Machine) (e : Event) (is : List Item) → IsSound now → IsEvent w.header e → IsStanding w → Performs w now e is → offers_in now ≤ offers_in w + 1
one_offer w now e is after fits stood goes =
    let m : Moment = stood.2.0 in
    let stands : Stands w.header stood.0 stood.1 m = stood.2.1 in
    let at : MachineAt w m = stood.2.2 in
    let went = goes stood.0 stood.1 m stands at in
    let few : length (went.0.scene.heads 0) ≤ length (m.scene.heads 0) + 1 = event_offers 0 w.header m e is went.0 stands.header (omega (arith, stands.header.one)) (stands_held w.header stood.0 stood.1 m stands) fits went.1 in
    omega (arith, few, offers_are now went.0 after.header went.2, offers_are w m stands.header at)

-- no more requests were offered than events were played
pub offers_few : (w : Machine) (es : List Event) (rs : List Record) → StandsFor w es rs → offers_in w ≤ length es
offers_few w es rs stood =
    let m : Moment = stood.0 in
    let stands : Stands w.header es rs m = stood.1 in
    let few : length (m.scene.heads 0) ≤ 0 + length es = run_offers 0 w.header (opening w.header) es rs m stands.header (omega (arith, stands.header.one)) (opening_held w.header stands.header) stands.events stands.run in
    omega (arith, few, offers_are w m stands.header stood.2)

pub standing_on : (w now : Machine) (e : Event) (r : Record) → IsStanding w → StandsOn w now e r → IsStanding now
standing_on w now e r s on = (s.0 ++ e ∷ [], s.1 ++ r ∷ [], (on s.0 s.1 s.2).stands)
