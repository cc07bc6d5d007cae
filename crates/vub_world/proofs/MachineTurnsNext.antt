-- A turn is of the kind that is asked for or chosen at the moment.
use Rattle.std.proofs.Common.{◌≡◌, ℕ, ap, sym, ◌∙◌, subst}
use Rattle.vub_base.specs.declared.header.Header1.{Header1}
use Rattle.vub_shared.specs.Bytes.{Bytes}
use Rattle.vub_steps.specs.declared.readiness.Turn.{Turn}
use Rattle.vub_steps.specs.declared.readiness.Choice.{Choice}
use Rattle.vub_steps.specs.Readiness.{is_ready, chosen}
use Rattle.vub_setup.specs.Setups.{SplitSetup}
use Rattle.vub_world.specs.MachineAt.{IsReached}
use Rattle.vub_world.specs.MachineDevice.{turn_here}
use Rattle.vub_run.specs.Moments.{Moment, standing}
use Rattle.vub_queue_in_run.specs.QueueAt.{QueueStands, LiesAs}
use Rattle.vub_queue.specs.QueueState.{QueueState, standing_at, waiting}
use Rattle.vub_run_laws.proofs.RunHolds.{Holds}
use Rattle.vub_run_laws.proofs.Runs.{plain_header}
use Rattle.vub_run_laws.proofs.RunTurns.{IsPlain, Good}
use Rattle.vub_run_laws.proofs.RunChainsEvents.{ChainedAt}
use Rattle.vub_run_laws.proofs.RunsTo.{stands_turns}
use Rattle.vub_queue_in_run.proofs.QueueAtTurns.{ready_same, chosen_same}
use Rattle.vub_queue_in_run.proofs.Setups.{places_are}

-- ---- a moment of a run

pub reached_plain : (q : ℕ) (h : Header1) (m : Moment) → IsReached q h m → IsPlain h
reached_plain q h m is = plain_header h is.stands.header

pub reached_holds : (q : ℕ) (h : Header1) (m : Moment) → IsReached q h m → Good q h m × ChainedAt q h m
reached_holds q h m is = subst (λ (n : Moment). Good q h n × ChainedAt q h n) (sym is.is) (stands_turns q h is.events is.records is.from is.count is.choose is.exists is.stands)

-- ---- which turn it is

-- the same turns are ready in the queue and at the moment
pub ready_here : (q : ℕ) (h : Header1) (setup : SplitSetup) (m : Moment) (state : QueueState) (b : Bytes) (t : Turn) → LiesAs q setup h.size → Holds q h m.scene (m.lanes q) → QueueStands q h setup m state → b ≡ m.scene.memory → is_ready (standing_at state (waiting state b)) t ≡ is_ready (standing h q m) t
ready_here q h setup m state b t main holds z memory = ap (λ (c : Bytes). is_ready (standing_at state (waiting state c)) t) memory ∙ ready_same q h setup m state t main holds z

-- and the same is chosen
pub turn_same : (q : ℕ) (h : Header1) (setup : SplitSetup) (m : Moment) (state : QueueState) (b : Bytes) (choice : Choice) → LiesAs q setup h.size → Holds q h m.scene (m.lanes q) → QueueStands q h setup m state → b ≡ m.scene.memory
    → chosen state.ring.size choice (standing_at state (waiting state b)) ≡ turn_here q h choice m
turn_same q h setup m state b choice main holds z memory =
    ap (λ (n : ℕ). chosen n choice (standing_at state (waiting state b))) (places_are q h setup m state main z)
    ∙ ap (λ (c : Bytes). chosen h.size choice (standing_at state (waiting state c))) memory
    ∙ chosen_same q h setup m state h.size choice main holds z
