-- What the room and the answers of a step of a drain need to know of the batch under way.
use Rattle.std.proofs.Common.{◌≡◌, ◌≤◌, ◌<◌, ℕ, zero, suc, true, List, ◌++◌, length, refl, ap, sym, ◌∙◌, arith}
use Rattle.std.specs.Prelude.{Bool, Option, Some, None, IfSome, map, slice_get, slice_index, option_map}
use Rattle.std.proofs.lemmas.List.{length-map}
use Rattle.std.proofs.lemmas.Option.{slice_get-map}
use Rattle.vub_base.specs.declared.header.Header1.{Header1}
use Rattle.vub_steps.specs.declared.steps.Plan.{Plan}
use Rattle.vub_steps.specs.declared.steps.Phase.{Phase}
use Rattle.vub_steps.specs.declared.steps.Phase.TheVariants as phases
use Rattle.vub_steps.specs.Steps.{running_steps, next_of}
use Rattle.vub_device.specs.declared.entry.Asked.{Asked}
use Rattle.vub_device.specs.declared.entry.Asked.TheVariants as asks
use Rattle.vub_device.specs.Past.{asked, is_among}
use Rattle.vub_world.specs.declared.outstanding.OutstandingRequests.{OutstandingRequests}
use Rattle.vub_world.specs.declared.outstanding.OutstandingRequest.{OutstandingRequest}
use Rattle.vub_setup.specs.Setups.{SplitSetup}
use Rattle.vub_world.specs.OutstandingRequests.{size_in, slot_in}
use Rattle.vub_world.specs.MachineAt.{AttachedAt, OutstandingAt, reads_of}
use Rattle.vub_world.specs.MachineDevice.{ShownFits, ShowsSome, is_showing, is_index}
use Rattle.vub_run.specs.Moments.{Moment}
use Rattle.vub_queue.specs.QueueFacts.{kept_phase}
use Rattle.vub_queue_in_run.specs.QueueAt.{QueueStands, spot_of}
use Rattle.vub_queue.specs.QueueState.{QueueState}
use Rattle.vub_world.proofs.MachineTurns.{among_right}
use Rattle.vub_run_laws.proofs.RunQueue.{phase_at, head_below}
use Rattle.vub_run_laws.proofs.RunFrames.{open_out}
use Rattle.vub_run_laws.proofs.RunGood.{IsWide, PhaseIs, IsOut, hidden}
use Rattle.vub_facts.proofs.HeadLemmas.{among_get}
use Rattle.vub_run_laws.proofs.RunTurns.{Good}
use Rattle.vub_world.proofs.MachineRooms.{shows_hidden}

-- ---- a batch that is shown isn't empty

phase_shows : (n : ℕ) (bell : Bool) (plan : Plan) (batch : List ℕ) (many : ℕ) (rings : Bool) (phase : Phase) → PhaseIs n bell plan batch phase → is_index (next_of (running_steps many rings (kept_phase phase)) (kept_phase phase)) ≡ true → 0 < length batch
phase_shows n bell plan batch many rings phases.Rest is shows = absurd (cc shows)
phase_shows n bell plan batch many rings (phases.Start done) is shows = absurd (cc shows)
phase_shows n bell plan batch many rings (phases.Fetch zero) is shows = absurd (cc shows)
phase_shows n bell plan batch many rings (phases.Fetch (suc zero)) is shows = absurd (cc shows)
phase_shows n bell plan batch many rings (phases.Fetch (suc (suc done))) is shows = absurd (cc shows)
phase_shows n bell plan batch many rings (phases.Publish done) is shows = is.0

-- so does its lane, and no step of its batch was shown
lane_shows_next : (q : ℕ) (h : Header1) (setup : SplitSetup) (m : Moment) (state : QueueState) → QueueStands q h setup m state → is_showing state ≡ true → is_index (next_of (running_steps (length state.batch) state.bell (kept_phase (m.lanes q).phase)) (kept_phase (m.lanes q).phase)) ≡ true
lane_shows_next q h setup m state at shows = ap (λ (p : Phase). is_index (next_of (running_steps (length state.batch) state.bell p) p)) (sym at.at.phase) ∙ shows

batch_long : (q : ℕ) (h : Header1) (setup : SplitSetup) (m : Moment) (state : QueueState) → QueueStands q h setup m state → length state.batch ≡ length (m.lanes q).batch
batch_long q h setup m state at = ap (λ (xs : List (ℕ × ℕ)). length xs) at.phase.batch ∙ length-map (m.lanes q).batch (spot_of q h m.scene.past (m.scene.heads q))

queue_shows_some : (q : ℕ) (h : Header1) (setup : SplitSetup) (m : Moment) (state : QueueState) → Good q h m → QueueStands q h setup m state → ShowsSome state
queue_shows_some q h setup m state good at shows =
    let lane = m.lanes q in
    let some : 0 < length lane.batch = phase_shows h.size lane.bell lane.plan lane.batch (length state.batch) state.bell lane.phase (phase_at q h m.scene (m.lanes q) good.holds) (lane_shows_next q h setup m state at shows) in
    omega (arith, some, batch_long q h setup m state at)

-- ---- its heads

few_reads : (cap : ℕ) (r : Option Asked) → IsWide cap r → reads_of r ≤ 8
few_reads cap (Some (asks.Read s c)) is = is.few
few_reads cap (Some (asks.Write s bytes)) is = omega arith
few_reads cap (Some asks.Flush) is = omega arith
few_reads cap (Some asks.Id) is = absurd is
few_reads cap (Some (asks.Discard parts)) is = absurd is
few_reads cap (Some (asks.Zero parts)) is = absurd is
few_reads cap None is = absurd is

queue_shown_fits : (q : ℕ) (h : Header1) (setup : SplitSetup) (m : Moment) (state : QueueState) (outstanding : OutstandingRequests) → h.size ≤ 64 → Good q h m → QueueStands q h setup m state → OutstandingAt q h.size m.scene.past (m.scene.heads q) outstanding → ShownFits outstanding state
queue_shown_fits q h setup m state outstanding small good at numbered shows i x found =
    let lane = m.lanes q in
    let past = m.scene.past in
    let heads = m.scene.heads q in
    let spots : slice_get (map (spot_of q h past heads) lane.batch) i ≡ Some x = ap (λ (xs : List (ℕ × ℕ)). slice_get xs i) (sym at.phase.batch) ∙ found in
    let mapped : option_map (spot_of q h past heads) (slice_get lane.batch i) ≡ Some x = sym (slice_get-map (spot_of q h past heads) lane.batch i) ∙ spots in
    pick (slice_get lane.batch i) refl mapped
  where
    all_hidden : hidden (m.lanes q).batch (m.lanes q).phase ≡ (m.lanes q).batch
    all_hidden =
        let lane = m.lanes q in
        shows_hidden lane.batch state.bell lane.phase
        (ap (λ (n : ℕ). is_index (next_of (running_steps n state.bell (kept_phase lane.phase)) (kept_phase lane.phase))) (sym (batch_long q h setup m state at)) ∙ lane_shows_next q h setup m state at shows)

    pick : (o : Option ℕ) → slice_get (m.lanes q).batch i ≡ o → option_map (spot_of q h m.scene.past (m.scene.heads q)) o ≡ Some x → (x.0 < 64) × (x.0 < size_in outstanding) × ((slot_in outstanding x.0).reads ≤ 8)
    pick None here is = absurd (cc is)
    pick (Some k) here is =
        let past = m.scene.past in
        let heads = m.scene.heads q in
        let holds = good.holds in
        let same : spot_of q h past heads k ≡ x = cc is in
        let head : x.0 ≡ slice_index heads k = sym (ap (λ (y : ℕ × ℕ). y.0) same) in
        let among : is_among ((m.lanes q).completed ++ hidden (m.lanes q).batch (m.lanes q).phase) k ≡ true =
        ap (λ (ks : List ℕ). is_among ((m.lanes q).completed ++ ks) k) all_hidden ∙ among_right (m.lanes q).completed (m.lanes q).batch k (among_get (m.lanes q).batch i k here) in
        let out : IsOut q past heads k = open_out q h.size h.capacity past heads k holds.known (holds.worked.opens k among) in
        let below : slice_index heads k < h.size = head_below q h m.scene (m.lanes q).driver (m.lanes q).bell (m.lanes q).plan (m.lanes q).counter (m.lanes q).batch (m.lanes q).phase k holds.queue out in
        let slot : (slot_in outstanding x.0).reads ≡ reads_of (asked past q k) = ap (λ (d : ℕ). (slot_in outstanding d).reads) head ∙ ap (λ (o : OutstandingRequest). o.reads) (numbered.slots k out.below out.kept) in
        let few : reads_of (asked past q k) ≤ 8 = few_reads h.capacity (asked past q k) (holds.known.wide k out.below) in
        (omega (arith, below, head, small), omega (arith, below, head, numbered.places), omega (arith, slot, few))

-- ---- of a queue that may be attached

pub shows_some : (q : ℕ) (h : Header1) (setup : SplitSetup) (m : Moment) (o : Option QueueState) → Good q h m → AttachedAt q h setup m o → IfSome o ShowsSome
shows_some q h setup m None good at = tt
shows_some q h setup m (Some s) good at = queue_shows_some q h setup m s good at.2

pub shown_fits : (q : ℕ) (h : Header1) (setup : SplitSetup) (m : Moment) (o : Option QueueState) (outstanding : OutstandingRequests) → h.size ≤ 64 → Good q h m → AttachedAt q h setup m o → OutstandingAt q h.size m.scene.past (m.scene.heads q) outstanding → IfSome o (ShownFits outstanding)
shown_fits q h setup m None outstanding small good at numbered = tt
shown_fits q h setup m (Some s) outstanding small good at numbered = queue_shown_fits q h setup m s outstanding small good at.2 numbered
